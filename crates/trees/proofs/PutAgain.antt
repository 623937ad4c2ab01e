-- A reference that is put where one was just put takes its place: nothing of the first is left. Assumes nothing.
use Rattle.std.proofs.Common.{◌≡◌, ℕ, suc, ◌+◌, ◌-◌, ◌*◌, ◌/◌, min, true, ltb, leb, List, [], ◌∷◌, ◌++◌, length, get_or, drop, sym, refl, ap, ◌∙◌, ap₂, arith}
use Rattle.std.proofs.lemmas.Bool.{le-ltb}
use Rattle.std.proofs.lemmas.List.{drop_at}
use Rattle.pages.specs.Lists.{pick, every, flat, same, earlier}
use Rattle.pages.proofs.ListLaws.{pick_both, pick_true, pick_false, same_refl}
use Rattle.trees.specs.Tree.{Tree, put}
use Rattle.trees.specs.Row.{in_words, held, room, entries_of, rewritten, putting, room_for, weight_put, put_key}
use Rattle.trees.proofs.RowOfLaws.{whole, length_words_of, length_rewritten, held_rewritten, entries_rewritten}
use Rattle.trees.proofs.RowParts.{put_long, put_fits, put_whole}

pub put_twice : (k a b : List ℕ) (t : Tree) → put k a (put k b t) ≡ put k a t
unfolding put
put_twice k a b [] = pick_true (same k k) _ _ (same_refl k)
put_twice k a b (f ∷ fs) =
    pick_both (λ (x : Tree). put k a x ≡ put k a (f ∷ fs)) (same k f.path) _ _
    (λ y. pick_true (same k k) _ _ (same_refl k) ∙ sym (pick_true (same k f.path) _ _ y))
    (λ n. pick_both (λ (x : Tree). put k a x ≡ put k a (f ∷ fs)) (earlier k f.path) _ _
    (λ y. pick_true (same k k) _ _ (same_refl k) ∙ sym (pick_false (same k f.path) _ _ n ∙ pick_true (earlier k f.path) _ _ y))
    (λ m. (pick_false (same k f.path) _ _ n ∙ pick_false (earlier k f.path) _ _ m) ∙ ap (λ x. f ∷ x) (put_twice k a b fs)
    ∙ sym (pick_false (same k f.path) _ _ n ∙ pick_false (earlier k f.path) _ _ m)))

-- how many there are does not depend on what is put
pub put_as_many : (k a b : List ℕ) (t : Tree) → length (put k a t) ≡ length (put k b t)
unfolding put
put_as_many k a b [] = refl
put_as_many k a b (f ∷ fs) =
    pick_both (λ (x : Tree). length (put k a (f ∷ fs)) ≡ length x) (same k f.path) _ _ (λ y. ap length (pick_true (same k f.path) _ _ y))
    (λ n. pick_both (λ (x : Tree). length (put k a (f ∷ fs)) ≡ length x) (earlier k f.path) _ _
    (λ y. ap length (pick_false (same k f.path) _ _ n ∙ pick_true (earlier k f.path) _ _ y))
    (λ m. ap length (pick_false (same k f.path) _ _ n ∙ pick_false (earlier k f.path) _ _ m) ∙ ap suc (put_as_many k a b fs)))

-- a row that is rewritten twice with as many entries
rewritten_again : (w v : ℕ) (es fs : Tree) (ws : List ℕ) → every whole fs ≡ true → length es ≡ length fs → rewritten w es (rewritten v fs ws) ≡ rewritten w es ws
unfolding rewritten
rewritten_again w v es fs ws o l =
    ap (λ x. length es ∷ w ∷ (flat in_words es ++ x))
    (ap (λ n. drop n (flat in_words fs ++ drop (10 * length fs) (drop 2 ws))) ten ∙ drop_at (flat in_words fs) (drop (10 * length fs) (drop 2 ws)) (length (flat in_words fs)) refl
    ∙ ap (λ n. drop (10 * n) (drop 2 ws)) (sym l))
  where
    ten : 10 * length es ≡ length (flat in_words fs)
    ten = omega (arith, l, length_words_of fs o)

second_word : (w : ℕ) (es : Tree) (ws : List ℕ) → get_or (rewritten w es ws) 1 0 ≡ w
unfolding rewritten
second_word w es ws = refl

module _ (k ws : List ℕ) (size r s : ℕ) (nine : length k ≡ 9) (f : room_for k s ws ≡ true) where
  many : length (putting k r ws) ≡ length (putting k s ws)
  many = put_as_many k (r ∷ []) (s ∷ []) (entries_of ws)

  abbrev ws₁ : List ℕ
  ws₁ = rewritten (weight_put k size s ws) (putting k s ws) ws

  long : length (rewritten (weight_put k size s ws) (putting k s ws) ws) ≡ length ws
  long = length_rewritten (weight_put k size s ws) (putting k s ws) ws (put_long k ws s nine f) (put_fits k ws s nine f) (put_whole k ws s nine f)

  entries : entries_of (rewritten (weight_put k size s ws) (putting k s ws) ws) ≡ putting k s ws
  entries = entries_rewritten (weight_put k size s ws) (putting k s ws) ws (put_long k ws s nine f) (put_fits k ws s nine f) (put_whole k ws s nine f)

  puts : putting k r (rewritten (weight_put k size s ws) (putting k s ws) ws) ≡ putting k r ws
  puts = ap (put k (r ∷ [])) entries ∙ put_twice k (r ∷ []) (s ∷ []) (entries_of ws)

  there : held (rewritten (weight_put k size s ws) (putting k s ws) ws) ≡ length (putting k s ws)
  there = held_rewritten (weight_put k size s ws) (putting k s ws) ws (put_long k ws s nine f) (put_fits k ws s nine f) (put_whole k ws s nine f)

  fits : room_for k r (rewritten (weight_put k size s ws) (putting k s ws) ws) ≡ room_for k s ws
  fits = ap₂ (λ n m. leb n (min 4096 ((m - 2) / 10))) (ap length puts ∙ many) long

  fits_before : room_for k r ws ≡ room_for k s ws
  fits_before = ap (λ n. leb n (room ws)) many

  weight : weight_put k size r (rewritten (weight_put k size s ws) (putting k s ws) ws) ≡ weight_put k size r ws
  weight =
      pick_false (ltb (held ws₁) (length (putting k r ws₁))) _ _ (le-ltb (held ws₁) (length (putting k r ws₁)) (omega (arith, there, ap length puts, many)))
      ∙ second_word (weight_put k size s ws) (putting k s ws) ws
      ∙ ap (λ n. pick (ltb (held ws) n) (min (get_or ws 1 0 + size) 18446744073709551615) (get_or ws 1 0)) (sym many)

  put_over : put_key k size r (rewritten (weight_put k size s ws) (putting k s ws) ws) ≡ put_key k size r ws
  unfolding put_key
  put_over =
      pick_true (room_for k r ws₁) _ _ (fits ∙ f) ∙ ap₂ (λ v x. rewritten v x ws₁) weight puts
      ∙ rewritten_again (weight_put k size r ws) (weight_put k size s ws) (putting k r ws) (putting k s ws) ws (put_whole k ws s nine f) many
      ∙ sym (pick_true (room_for k r ws) _ _ (fits_before ∙ f))

pub put_key_again : (k ws : List ℕ) (size r s : ℕ) → length k ≡ 9 → put_key k size r (put_key k size s ws) ≡ put_key k size r ws
unfolding put_key
put_key_again k ws size r s nine =
    pick_both (λ (x : List ℕ). put_key k size r x ≡ put_key k size r ws) (room_for k s ws) _ _ (λ f. put_over k ws size r s nine f) (λ _. refl)
