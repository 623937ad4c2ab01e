-- What putting an entry into a row comes to, and taking one out: with room or without, over another one or as a new one.
use Rattle.std.proofs.Common.{◌≡◌, ℕ, suc, ◌+◌, ◌-◌, ◌<◌, ◌≤◌, min, true, false, not, ltb, List, [], ◌∷◌, ◌++◌, length, get_or, take, drop, set, sym, ap, ◌∙◌, arith, length-append, length-drop, length-take}
use borrow.Rule.Slice.PartMut.{put_mid}
use Rattle.std.proofs.lemmas.Bool.{le-leb, lt-leb, le-ltb, lt-ltb}
use Rattle.pages.specs.Lists.{pick, none_of}
use Rattle.pages.proofs.ListLaws.{pick_true, pick_false}
use Rattle.trees.specs.Tree.{Tree, found, put, without}
use Rattle.trees.specs.Order.{spot, there}
use Rattle.trees.specs.Row.{entry, laid, held, room, entries_of, putting, room_for, weight_put, put_key, rewritten, has_key, take_key}
use Rattle.trees.proofs.RowLaws.{length_cut, spot_put, spot_without, spot_within, there_within, found_cut, rewritten_is, rewritten_same}

pub put_hit : (k b : List ℕ) (es : Tree) (s : ℕ) → s ≡ spot false k es → true ≡ there k (drop s es) →
    (put k b es ≡ take s es ++ record { path = k; bytes = b } ∷ drop (s + 1) es) × (length (put k b es) ≡ length es)
put_hit k b es s e h =
    let is : put k b es ≡ take s es ++ record { path = k; bytes = b } ∷ drop (s + 1) es =
    spot_put k b es ∙ ap (λ i. take i es ++ (record { path = k; bytes = b } ∷ pick (there k (drop i es)) (drop (i + 1) es) (drop i es))) (sym e)
    ∙ ap (λ u. take s es ++ (record { path = k; bytes = b } ∷ u)) (pick_true (there k (drop s es)) (drop (s + 1) es) (drop s es) (sym h)) in
    let l : s < length es = there_within k es s (sym h) in (
      is,
      omega (arith, ap length is, length-append (take s es) (record { path = k; bytes = b } ∷ drop (s + 1) es), length-take s es, length-drop (s + 1) es),
    )

pub put_miss : (k b : List ℕ) (es : Tree) (s : ℕ) → s ≡ spot false k es → false ≡ there k (drop s es) →
    (put k b es ≡ take s es ++ record { path = k; bytes = b } ∷ drop s es) × (length (put k b es) ≡ suc (length es))
put_miss k b es s e h =
    let is : put k b es ≡ take s es ++ record { path = k; bytes = b } ∷ drop s es =
    spot_put k b es ∙ ap (λ i. take i es ++ (record { path = k; bytes = b } ∷ pick (there k (drop i es)) (drop (i + 1) es) (drop i es))) (sym e)
    ∙ ap (λ u. take s es ++ (record { path = k; bytes = b } ∷ u)) (pick_false (there k (drop s es)) (drop (s + 1) es) (drop s es) (sym h)) in
    let l : s ≤ length es = omega (arith, spot_within false k es) in (
      is,
      omega (arith, ap length is, length-append (take s es) (record { path = k; bytes = b } ∷ drop s es), length-take s es, length-drop s es),
    )

pub put_some : (k b : List ℕ) (es : Tree) → 0 < length (put k b es)
put_some k b es =
    let s = spot false k es in
    let rest = pick (there k (drop s es)) (drop (s + 1) es) (drop s es) in
    omega (arith, ap length (spot_put k b es), length-append (take s es) (record { path = k; bytes = b } ∷ rest))

pub no_room : (k ws : List ℕ) (size r : ℕ) → room ws < length (putting k r ws) → (false ≡ room_for k r ws) × (ws ≡ put_key k size r ws)
unfolding put_key
no_room k ws size r h =
    let f : room_for k r ws ≡ false = lt-leb (length (putting k r ws)) (room ws) h in
    (sym f, sym (pick_false (room_for k r ws) (rewritten (weight_put k size r ws) (putting k r ws) ws) ws f))

with_room : (k ws new : List ℕ) (size r w : ℕ) → length (putting k r ws) ≤ room ws → w ≡ weight_put k size r ws → new ≡ rewritten w (putting k r ws) ws →
    (true ≡ room_for k r ws) × (new ≡ put_key k size r ws)
unfolding put_key
with_room k ws new size r w h e is =
    let t : room_for k r ws ≡ true = le-leb (length (putting k r ws)) (room ws) h in (
      sym t,
      is ∙ ap (λ v. rewritten v (putting k r ws) ws) e ∙ sym (pick_true (room_for k r ws) (rewritten (weight_put k size r ws) (putting k r ws) ws) ws t),
    )

pub put_over : (k ws b : List ℕ) (size r at n : ℕ) → 2 ≤ length ws → n ≡ held ws → at ≡ spot false k (entries_of ws) → true ≡ there k (drop at (entries_of ws)) →
    b ≡ laid (take at (entries_of ws) ++ entry k r ∷ drop (at + 1) (entries_of ws)) (drop 2 ws) →
    (true ≡ room_for k r ws) × (set (put_mid 2 (length ws - 2) ws b) 0 n ≡ put_key k size r ws)
put_over k ws b size r at n l m e h is =
    let es : Tree = entries_of ws in
    let p = put_hit k (r ∷ []) es at e h in
    let many : length (putting k r ws) ≡ held ws = p.1 ∙ length_cut (held ws) (drop 2 ws) in
    let w : get_or ws 1 0 ≡ weight_put k size r ws =
    sym (pick_false (ltb (held ws) (length (putting k r ws))) (min (get_or ws 1 0 + size) 18446744073709551615) (get_or ws 1 0) (le-ltb (held ws) (length (putting k r ws)) (omega arith))) in
    with_room k ws _ size r (get_or ws 1 0) (omega arith) w
    (rewritten_same ws b (putting k r ws) n l (is ∙ ap (λ u. laid u (drop 2 ws)) (sym p.0)) (m ∙ sym many))

pub put_between : (k ws b : List ℕ) (size r at n w : ℕ) → 2 ≤ length ws → held ws < room ws → n ≡ held ws + 1 → at ≡ spot false k (entries_of ws) → false ≡ there k (drop at (entries_of ws)) →
    b ≡ laid (take at (entries_of ws) ++ entry k r ∷ drop at (entries_of ws)) (drop 2 ws) → w ≡ min (get_or ws 1 0 + size) 18446744073709551615 →
    (true ≡ room_for k r ws) × (set (set (put_mid 2 (length ws - 2) ws b) 0 n) 1 w ≡ put_key k size r ws)
put_between k ws b size r at n w l f m e h is ew =
    let es : Tree = entries_of ws in
    let p = put_miss k (r ∷ []) es at e h in
    let many : length (putting k r ws) ≡ suc (held ws) = p.1 ∙ ap suc (length_cut (held ws) (drop 2 ws)) in
    let we : w ≡ weight_put k size r ws =
    ew ∙ sym (pick_true (ltb (held ws) (length (putting k r ws))) (min (get_or ws 1 0 + size) 18446744073709551615) (get_or ws 1 0) (lt-ltb (held ws) (length (putting k r ws)) (omega arith))) in
    with_room k ws _ size r w (omega arith) we
    (rewritten_is ws b (putting k r ws) n w l (is ∙ ap (λ u. laid u (drop 2 ws)) (sym p.0)) (omega arith))

pub put_full : (k ws : List ℕ) (size r at : ℕ) → held ws ≡ room ws → at ≡ spot false k (entries_of ws) → false ≡ there k (drop at (entries_of ws)) →
    (false ≡ room_for k r ws) × (ws ≡ put_key k size r ws)
put_full k ws size r at f e h =
    let p = put_miss k (r ∷ []) (entries_of ws) at e h in
    let many : length (putting k r ws) ≡ suc (held ws) = p.1 ∙ ap suc (length_cut (held ws) (drop 2 ws)) in
    no_room k ws size r (omega arith)

pub take_none : (k ws : List ℕ) (size : ℕ) → found (entries_of ws) k ≡ [] → (false ≡ has_key k ws) × (ws ≡ take_key k size ws)
unfolding take_key
take_none k ws size e =
    let f : has_key k ws ≡ false = ap (λ u. not (none_of u)) e in
    (sym f, sym (pick_false (has_key k ws) (rewritten (get_or ws 1 0 - size) (without k (entries_of ws)) ws) ws f))

pub take_one : (k ws b : List ℕ) (size at n w : ℕ) → 2 ≤ length ws → n ≡ held ws - 1 → at ≡ spot true k (entries_of ws) → at < held ws →
    b ≡ laid (take at (entries_of ws) ++ drop (at + 1) (entries_of ws)) (drop 2 ws) → w ≡ get_or ws 1 0 - size →
    (true ≡ has_key k ws) × (set (set (put_mid 2 (length ws - 2) ws b) 0 n) 1 w ≡ take_key k size ws)
unfolding take_key
take_one k ws b size at n w l m e h is ew =
    let es : Tree = entries_of ws in
    let t : has_key k ws ≡ true = ap (λ u. not (none_of u)) (found_cut k (drop 2 ws) (held ws) at e h) in
    let out : without k es ≡ take at es ++ drop (at + 1) es = spot_without k es ∙ ap (λ i. take i es ++ drop (i + 1) es) (sym e) in
    let many : length (without k es) ≡ n =
    omega (arith, ap length out, length-append (take at es) (drop (at + 1) es), length-take at es, length-drop (at + 1) es, length_cut (held ws) (drop 2 ws)) in (
      sym t,
      rewritten_is ws b (without k es) n w l (is ∙ ap (λ u. laid u (drop 2 ws)) (sym out)) (sym many)
          ∙ ap (λ v. rewritten v (without k es) ws) ew ∙ sym (pick_true (has_key k ws) (rewritten (get_or ws 1 0 - size) (without k es) ws) ws t),
    )
