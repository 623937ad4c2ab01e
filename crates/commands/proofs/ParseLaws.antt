-- What is spelled is parsed back, and what is parsed was spelled so.
use Rattle.std.proofs.Common.{◌≡◌, ℕ, ◌+◌, ◌^◌, ◌<◌, ◌≤◌, Bool, true, false, cond, ◌&&◌, eqb, ltb, leb, List, [], ◌∷◌, ◌++◌, length, take, drop, Some, None, Option, sym, refl, ap, ◌∙◌, subst, ap₂, append-nil, zero-add, arith, length-drop}
use Rattle.std.proofs.lemmas.Bool.{and_parts, and_from, eqb-true, eq-eqb, leb-true, le-leb, ltb-true, lt-ltb, cond_both, cond-true}
use Rattle.std.proofs.lemmas.List.{nil_from_length, take_at, drop_at, take_all, drop_all, take-append-drop, length-take-le}
use Rattle.pages.specs.Bytes.{eight, with_length, from_bytes, all_bytes}
use Rattle.pages.proofs.BytesLaws.{length_eight, length_with_length, all_bytes_append, all_bytes_in_bytes, all_bytes_take, all_bytes_drop, from_eight, eight_from, from_bytes_below, cut_length, cut_rest, cut_back}
use Rattle.commands.specs.Command.{Command, write_file, drop_file, commit, branch, go_to, history, show_file, status, read_file, join, settle, leave, move_onto, carry, forget, tag, who, sweep, fetch, spelled, fits, a_text}
use Rattle.commands.specs.Laws.{SpelledOnce}
use Rattle.commands.specs.Parse.{Answers, front, behind, first_row, past_row, within, one_row, two_rows, one_house, if_so, of_kind, of_bytes, parsed}

-- ---- a row with its length in front, read

pub all_bytes_row : (b : List ℕ) → all_bytes (with_length b) ≡ all_bytes b
unfolding all_bytes
all_bytes_row b = all_bytes_append (eight (length b)) b ∙ ap (λ x. x && all_bytes b) (all_bytes_in_bytes 8 (length b) [])

behind_eight : (n : ℕ) (t : List ℕ) → behind (eight n ++ t) ≡ t
behind_eight n t = drop_at (eight n) t 8 (length_eight n)

front_eight : (n : ℕ) (t : List ℕ) → n < 2 ^ 64 → front (eight n ++ t) ≡ n
front_eight n t h = ap (from_bytes 0) (take_at (eight n) t 8 (length_eight n)) ∙ from_eight n h

one_row_of : (low high : ℕ) (b : List ℕ) → length b < 2 ^ 64 → one_row low high (with_length b) ≡ within low high (length b)
unfolding one_row
one_row_of low high b h =
    let f = front_eight (length b) b h in
    let l : eqb (length (with_length b)) (8 + front (with_length b)) ≡ true = eq-eqb _ _ (length_with_length b ∙ ap (λ n. 8 + n) (sym f)) in
    ap₂ ◌&&◌ l (ap (within low high) f)

module _ (b t : List ℕ) (h : length b < 2 ^ 64) where
  front_row_of : front (with_length b ++ t) ≡ length b
  front_row_of = cut_length b t h

  first_row_of : first_row (with_length b ++ t) ≡ b
  first_row_of = ap₂ take front_row_of (cut_rest b t) ∙ take_at b t (length b) refl

  past_row_of : past_row (with_length b ++ t) ≡ t
  past_row_of = ap₂ drop front_row_of (cut_rest b t) ∙ drop_at b t (length b) refl

-- a row of at most 65,535 bytes is short enough for its length to be read again
short : (low high : ℕ) (b : List ℕ) → high ≤ 65535 → (within low high (length b) && all_bytes b) ≡ true → (within low high (length b) ≡ true) × (all_bytes b ≡ true) × (length b < 2 ^ 64)
short low high b h e =
    let p = and_parts (within low high (length b)) (all_bytes b) e in
    let q = and_parts (leb low (length b)) (leb (length b) high) p.0 in
    (p.0, p.1, omega (arith, leb-true (length b) high q.1))

-- ---- what is spelled is parsed back

by_kind : (k : ℕ) (t : List ℕ) (o : Option Command) → ltb k 256 ≡ true → all_bytes t ≡ true → of_kind k t ≡ o → parsed (k ∷ t) ≡ o
unfolding parsed of_bytes all_bytes
by_kind k t o hk ht e = ap (λ b. cond b (of_kind k t) None) (and_from _ _ hk ht) ∙ e

row_back : (k low high : ℕ) (f : List ℕ → Command) (b : List ℕ) → ltb k 256 ≡ true → high ≤ 65535
    → ((t : List ℕ) → of_kind k t ≡ if_so (one_row low high t) (f (behind t)))
    → (within low high (length b) && all_bytes b) ≡ true → parsed (k ∷ with_length b) ≡ Some (f b)
row_back k low high f b hk hh is h =
    let s = short low high b hh h in
    by_kind k (with_length b) (Some (f b)) hk (all_bytes_row b ∙ s.1)
    (is (with_length b) ∙ ap₂ (λ y c. if_so y (f c)) (one_row_of low high b s.2 ∙ s.0) (behind_eight (length b) b))

rows_back : (k top low high : ℕ) (f : List ℕ → List ℕ → Command) (a b : List ℕ) → ltb k 256 ≡ true → top ≤ 65535 → high ≤ 65535
    → ((t : List ℕ) → of_kind k t ≡ if_so (two_rows top low high t) (f (first_row t) (behind (past_row t))))
    → (within 1 top (length a) && all_bytes a) ≡ true → (within low high (length b) && all_bytes b) ≡ true → parsed (k ∷ with_length a ++ with_length b) ≡ Some (f a b)
unfolding two_rows
rows_back k top low high f a b hk ht hh is ha hb =
    let s = short 1 top a ht ha in
    let r = short low high b hh hb in
    let t = with_length a ++ with_length b in
    let p = past_row_of a (with_length b) s.2 in
    let test : two_rows top low high t ≡ true =
    and_from _ _ (ap (within 1 top) (front_row_of a (with_length b) s.2) ∙ s.0) (ap (one_row low high) p ∙ one_row_of low high b r.2 ∙ r.0) in
    by_kind k t (Some (f a b)) hk (all_bytes_append (with_length a) (with_length b) ∙ ap₂ ◌&&◌ (all_bytes_row a ∙ s.1) (all_bytes_row b ∙ r.1))
    (is t ∙ ap (λ y. if_so y (f (first_row t) (behind (past_row t)))) test ∙ ap₂ (λ x y. Some (f x y)) (first_row_of a (with_length b) s.2) (ap behind p ∙ behind_eight (length b) b))

-- a text by its own test is a row of 0 to 65,535 bytes
text_row : (b : List ℕ) → a_text b ≡ true → (within 0 65535 (length b) && all_bytes b) ≡ true
text_row b h =
    let p = and_parts (ltb (length b) 65536) (all_bytes b) h in
    and_from _ _ (and_from _ _ (le-leb 0 (length b) (omega arith)) (le-leb (length b) 65535 (omega (arith, ltb-true (length b) 65536 p.0)))) p.1

text_fits : (b : List ℕ) → (within 0 65535 (length b) && all_bytes b) ≡ true → a_text b ≡ true
text_fits b h =
    let p = and_parts (within 0 65535 (length b)) (all_bytes b) h in
    let q = and_parts (leb 0 (length b)) (leb (length b) 65535) p.0 in
    and_from _ _ (lt-ltb (length b) 65536 (omega (arith, leb-true (length b) 65535 q.1))) p.1

commit_back : (s : ℕ) (w : List ℕ) → ltb s 18446744073709551616 ≡ true → a_text w ≡ true → parsed (3 ∷ eight s ++ with_length w) ≡ Some (commit s w)
unfolding all_bytes
commit_back s w hs hw =
    let r = short 0 65535 w (omega arith) (text_row w hw) in
    let t = eight s ++ with_length w in
    let b = behind_eight s (with_length w) in
    by_kind 3 t (Some (commit s w)) refl
    (all_bytes_append (eight s) (with_length w) ∙ ap₂ ◌&&◌ (all_bytes_in_bytes 8 s []) (all_bytes_row w ∙ r.1))
    (ap (λ y. if_so y (commit (front t) (behind (behind t)))) (ap (one_row 0 65535) b ∙ one_row_of 0 65535 w r.2 ∙ r.0)
    ∙ ap₂ (λ x y. Some (commit x y)) (front_eight s (with_length w) (ltb-true s 18446744073709551616 hs)) (ap behind b ∙ behind_eight (length w) w))

fetch_back : (d : ℕ) → ltb d 16 ≡ true → parsed (19 ∷ eight d) ≡ Some (fetch d)
unfolding all_bytes one_house
fetch_back d h =
    let l = ltb-true d 16 h in
    let f : front (eight d) ≡ d = ap (λ t. front t) (sym (append-nil (eight d))) ∙ front_eight d [] (omega arith) in
    by_kind 19 (eight d) (Some (fetch d)) refl (all_bytes_in_bytes 8 d [])
    (ap (λ y. if_so y (fetch (front (eight d)))) (and_from _ _ (eq-eqb _ _ (length_eight d)) (ap (λ n. ltb n 16) f ∙ h)) ∙ ap (λ n. Some (fetch n)) f)

pub parsed_back : (c : Command) → fits c ≡ true → parsed (spelled c) ≡ Some c
unfolding spelled fits parsed of_bytes all_bytes
parsed_back (write_file p b) h =
    let q = and_parts _ _ h in rows_back 1 64 0 65535 write_file p b refl (omega arith) (omega arith) (λ t. refl) q.0 (text_row b q.1)
parsed_back (drop_file p) h = row_back 2 1 64 drop_file p refl (omega arith) (λ t. refl) h
parsed_back (commit s w) h = let q = and_parts _ _ h in commit_back s w q.0 q.1
parsed_back (branch n) h = row_back 4 1 64 branch n refl (omega arith) (λ t. refl) h
parsed_back (go_to n) h = row_back 5 1 64 go_to n refl (omega arith) (λ t. refl) h
parsed_back history h = refl
parsed_back (show_file n p) h =
    let q = and_parts _ _ h in rows_back 7 65 1 64 show_file n p refl (omega arith) (omega arith) (λ t. refl) q.0 q.1
parsed_back status h = refl
parsed_back (read_file p) h = row_back 9 1 64 read_file p refl (omega arith) (λ t. refl) h
parsed_back (join n) h = row_back 10 1 65 join n refl (omega arith) (λ t. refl) h
parsed_back (settle p) h = row_back 11 1 64 settle p refl (omega arith) (λ t. refl) h
parsed_back leave h = refl
parsed_back (move_onto n) h = row_back 13 1 65 move_onto n refl (omega arith) (λ t. refl) h
parsed_back (carry i) h = row_back 14 1 64 carry i refl (omega arith) (λ t. refl) h
parsed_back (forget n) h = row_back 15 1 64 forget n refl (omega arith) (λ t. refl) h
parsed_back (tag n) h = row_back 16 1 64 tag n refl (omega arith) (λ t. refl) h
parsed_back (who p) h = row_back 17 1 64 who p refl (omega arith) (λ t. refl) h
parsed_back sweep h = refl
parsed_back (fetch d) h = fetch_back d h

pub spelled_once : SpelledOnce
unfolding SpelledOnce
spelled_once a c ha hc e =
    let o : ◌≡◌ {A = Option Command} (Some a) (Some c) = sym (parsed_back a ha) ∙ ap parsed e ∙ parsed_back c hc in cc

-- ---- what is parsed was spelled so

Sound : List ℕ → Option Command → Type 0
Sound text (Some c) = (spelled c ≡ text) × (fits c ≡ true)
Sound text None = Unit {0}

if_so_sound : (text : List ℕ) (b : Bool) (c : Command) → (b ≡ true → (spelled c ≡ text) × (fits c ≡ true)) → Sound text (if_so b c)
unfolding Sound
if_so_sound text true c h = h refl
if_so_sound text false c h = tt

kind_sound : (k n : ℕ) (t : List ℕ) (x y : Option Command) → Sound (n ∷ t) x → Sound (k ∷ t) y → Sound (k ∷ t) (cond (eqb k n) x y)
kind_sound k n t x y hx hy = go (eqb k n) refl
  where
    go : (b : Bool) → eqb k n ≡ b → Sound (k ∷ t) (cond b x y)
    go true e = subst (λ m. Sound (m ∷ t) x) (sym (eqb-true k n e)) hx
    go false e = hy

whole_row : (t : List ℕ) → all_bytes t ≡ true → (low high : ℕ) → one_row low high t ≡ true
    → (with_length (behind t) ≡ t) × (within low high (length (behind t)) ≡ true) × (all_bytes (behind t) ≡ true)
unfolding one_row
whole_row t all low high h =
    let p = and_parts (eqb (length t) (8 + front t)) (within low high (front t)) h in
    let l : length t ≡ 8 + front t = eqb-true _ _ p.0 in
    let n : length (behind t) ≡ front t = omega (arith, length-drop 8 t) in
    let le : length (behind t) ≤ front t = omega arith in (
      sym (cut_back t (front t) all refl (omega arith) ∙ ap₂ (λ a b. with_length a ++ b) (take_all (front t) (behind t) le) (drop_all (front t) (behind t) le) ∙ append-nil (with_length (behind t))),
      ap (within low high) n ∙ p.1,
      all_bytes_drop 8 t all,
    )

module _ (t : List ℕ) (all : all_bytes t ≡ true) where
  row_sound : (k high : ℕ) (f : List ℕ → Command)
      → ((b : List ℕ) → spelled (f b) ≡ k ∷ with_length b) → ((b : List ℕ) → fits (f b) ≡ (within 1 high (length b) && all_bytes b))
      → Sound (k ∷ t) (if_so (one_row 1 high t) (f (behind t)))
  row_sound k high f is fit =
      if_so_sound (k ∷ t) (one_row 1 high t) (f (behind t))
      (λ h. let w = whole_row t all 1 high h in (is (behind t) ∙ ap (λ r. k ∷ r) w.0, fit (behind t) ∙ and_from _ _ w.1 w.2))

  bare_sound : (k : ℕ) (c : Command) → spelled c ≡ k ∷ [] → fits c ≡ true → Sound (k ∷ t) (if_so (eqb (length t) 0) c)
  bare_sound k c is fit =
      if_so_sound (k ∷ t) (eqb (length t) 0) c (λ h. (is ∙ ap (λ r. k ∷ r) (sym (nil_from_length t (eqb-true _ _ h))), fit))

  rows_sound : (k top low high : ℕ) (f : List ℕ → List ℕ → Command)
      → ((a b : List ℕ) → spelled (f a b) ≡ k ∷ with_length a ++ with_length b)
      → ((a b : List ℕ) → (within 1 top (length a) && all_bytes a) ≡ true → (within low high (length b) && all_bytes b) ≡ true → fits (f a b) ≡ true)
      → Sound (k ∷ t) (if_so (two_rows top low high t) (f (first_row t) (behind (past_row t))))
  unfolding two_rows
  rows_sound k top low high f is fit =
      let a = first_row t in
      let rest = past_row t in
      if_so_sound (k ∷ t) (two_rows top low high t) (f a (behind rest)) λ h.
      let p = and_parts (within 1 top (front t)) (one_row low high rest) h in
      let bytes = all_bytes_drop 8 t all in
      let w = whole_row rest (all_bytes_drop (front t) (behind t) bytes) low high p.1 in
      let l : 8 ≤ length rest = omega (arith, ap length w.0, length_with_length (behind rest)) in
      let n : 8 + front t ≤ length t = omega (arith, length-drop (front t) (behind t), length-drop 8 t) in
      let e : length a ≡ front t = length-take-le (front t) (behind t) (omega (arith, length-drop 8 t)) in (
        is a (behind rest) ∙ ap (λ r. k ∷ (with_length a ++ r)) w.0 ∙ ap (λ r. k ∷ r) (sym (cut_back t (front t) all refl n)),
        fit a (behind rest) (and_from _ _ (ap (within 1 top) e ∙ p.0) (all_bytes_take (front t) (behind t) bytes)) (and_from _ _ w.1 w.2),
      )

  commit_sound : Sound (3 ∷ t) (if_so (one_row 0 65535 (behind t)) (commit (front t) (behind (behind t))))
  unfolding spelled fits
  commit_sound =
      if_so_sound (3 ∷ t) (one_row 0 65535 (behind t)) (commit (front t) (behind (behind t))) λ h.
      let w = whole_row (behind t) (all_bytes_drop 8 t all) 0 65535 h in
      let l : 8 ≤ length (behind t) = omega (arith, ap length w.0, length_with_length (behind (behind t))) in
      let n : length (take 8 t) ≡ 8 = length-take-le 8 t (omega (arith, length-drop 8 t)) in
      let bytes = all_bytes_take 8 t all in
      let below = from_bytes_below (take 8 t) 0 0 bytes (omega arith) in (
        ap₂ (λ x y. 3 ∷ x ++ y) (eight_from (take 8 t) n bytes) w.0 ∙ ap (λ r. 3 ∷ r) (take-append-drop 8 t),
        and_from _ _ (lt-ltb _ _ (subst (λ k. front t < 256 ^ k) (zero-add (length (take 8 t)) ∙ n) below)) (text_fits (behind (behind t)) (and_from _ _ w.1 w.2)),
      )

  fetch_sound : Sound (19 ∷ t) (if_so (one_house t) (fetch (front t)))
  unfolding spelled fits one_house
  fetch_sound =
      if_so_sound (19 ∷ t) (one_house t) (fetch (front t)) λ h.
      let p = and_parts (eqb (length t) 8) (ltb (front t) 16) h in
      let l : length t ≡ 8 = eqb-true _ _ p.0 in
      let e : take 8 t ≡ t = take_all 8 t (omega arith) in
      (ap (λ r. 19 ∷ r) (ap (λ x. eight (from_bytes 0 x)) e ∙ eight_from t l all), p.1)

  of_kind_sound : (k : ℕ) → Sound (k ∷ t) (of_kind k t)
  unfolding spelled fits Sound
  of_kind_sound k =
      kind_sound k 1 t _ _ (rows_sound 1 64 0 65535 write_file (λ a b. refl) (λ a b h w. and_from _ _ h (text_fits b w))) (
      kind_sound k 2 t _ _ (row_sound 2 64 drop_file (λ b. refl) (λ b. refl)) (
      kind_sound k 3 t _ _ commit_sound (
      kind_sound k 4 t _ _ (row_sound 4 64 branch (λ b. refl) (λ b. refl)) (
      kind_sound k 5 t _ _ (row_sound 5 64 go_to (λ b. refl) (λ b. refl)) (
      kind_sound k 6 t _ _ (bare_sound 6 history refl refl) (
      kind_sound k 7 t _ _ (rows_sound 7 65 1 64 show_file (λ a b. refl) (λ a b h w. and_from _ _ h w)) (
      kind_sound k 8 t _ _ (bare_sound 8 status refl refl) (
      kind_sound k 9 t _ _ (row_sound 9 64 read_file (λ b. refl) (λ b. refl)) (
      kind_sound k 10 t _ _ (row_sound 10 65 join (λ b. refl) (λ b. refl)) (
      kind_sound k 11 t _ _ (row_sound 11 64 settle (λ b. refl) (λ b. refl)) (
      kind_sound k 12 t _ _ (bare_sound 12 leave refl refl) (
      kind_sound k 13 t _ _ (row_sound 13 65 move_onto (λ b. refl) (λ b. refl)) (
      kind_sound k 14 t _ _ (row_sound 14 64 carry (λ b. refl) (λ b. refl)) (
      kind_sound k 15 t _ _ (row_sound 15 64 forget (λ b. refl) (λ b. refl)) (
      kind_sound k 16 t _ _ (row_sound 16 64 tag (λ b. refl) (λ b. refl)) (
      kind_sound k 17 t _ _ (row_sound 17 64 who (λ b. refl) (λ b. refl)) (
      kind_sound k 18 t _ _ (bare_sound 18 sweep refl refl) (
      kind_sound k 19 t _ _ fetch_sound tt))))))))))))))))))

pub answered : (text : List ℕ) → Answers text (parsed text)
unfolding Sound parsed of_bytes all_bytes
answered text = go (parsed text) refl (sound text)
  where
    sound_of : (text : List ℕ) → all_bytes text ≡ true → Sound text (of_bytes text)
    sound_of [] h = tt
    sound_of (k ∷ t) h = of_kind_sound t (and_parts (ltb k 256) (all_bytes t) h).1 k

    sound : (text : List ℕ) → Sound text (parsed text)
    sound text = cond_both (all_bytes text) (of_bytes text) None (Sound text) (sound_of text) (λ _. tt)

    go : (o : Option Command) → parsed text ≡ o → Sound text o → Answers text o
    go (Some c) e h = h
    go None e h = λ c is fit. let o : ◌≡◌ {A = Option Command} None (Some c) = sym e ∙ ap parsed (sym is) ∙ parsed_back c fit in let z : ◌≡◌ {A = ℕ} 0 1 = cc in omega arith

pub parsed_bytes : (text : List ℕ) → all_bytes text ≡ true → parsed text ≡ of_bytes text
unfolding parsed
parsed_bytes text h = cond-true (all_bytes text) (of_bytes text) None h

-- whatever is the same as what is parsed answers the text
pub answered_by : (text : List ℕ) (o : Option Command) → o ≡ parsed text → Answers text o
answered_by text o e = subst (Answers text) (sym e) (answered text)
