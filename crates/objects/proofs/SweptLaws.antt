-- What a sweep leaves: where copies stand one after the other, every live object is found again under its new name, and nothing else is live.
-- Assumes nothing.
use Rattle.std.proofs.Common.{◌≡◌, ℕ, zero, suc, ◌+◌, ◌-◌, ◌*◌, ◌/◌, ◌<◌, ◌≤◌, true, ltb, ◌⊎◌, List, ◌∷◌, ◌++◌, length, get_or, take, drop, sym, refl, ap, ◌∙◌, subst, ap₂, inl, inr, arith, length-append, length-drop}
use Rattle.std.proofs.lemmas.List.{get_or-take, get_or-drop, length-take-le, drop_at, drop-drop, append_assoc}
use Rattle.std.proofs.lemmas.Bool.{cases_order, lt-ltb, le-ltb, ltb-true}
use Rattle.pages.specs.Lists.{pick, every, each, has, added_up}
use Rattle.pages.specs.Object.{size_in, references_in, kind_in, kind_of, references_of, object_at}
use Rattle.pages.specs.Tape.{last_page}
use Rattle.pages.proofs.ListLaws.{In, in_append, has_in, in_has, each_in, every_in, every_from, every_each, pick_true, pick_false}
use Rattle.objects.specs.Heap.{Live, root, named, Placed, Heap, Lives, rising, units_at, heading_at, keyed}
use Rattle.objects.specs.Sweeping.{roots_of, renamed, Swept}
use Rattle.objects.proofs.SpaceLaws.{split_at, rising_parts, added_up_append, added_up_one}
use Rattle.objects.proofs.PackLaws.{heading_renamed, references_renamed, head_under, length_head_under, roots_under, others_under}
use Rattle.objects.proofs.RoomLaws.{object_heading}

-- AN OBJECT ON THE TAPE
module _ (t : List ℕ) (lo hi r : ℕ) (q : Placed t lo hi r) (fits : 8 * hi ≤ length t) where
  pub heading_is : get_or (object_at t r) 0 0 ≡ heading_at t r
  heading_is = object_heading t r (omega (arith, q.whole))

  pub length_object : length (object_at t r) ≡ size_in (heading_at t r)
  unfolding object_at
  length_object = length-take-le (size_in (heading_at t r)) (drop (8 * (r - 1)) t) (omega (arith, length-drop (8 * (r - 1)) t, q.within, q.whole))

  pub whole_object : 2 + references_in (get_or (object_at t r) 0 0) ≤ length (object_at t r)
  whole_object = omega (arith, ap references_in heading_is, length_object, q.whole)

-- what a live object names is none, or live
pub named_lives : (t roots : List ℕ) (r s : ℕ) → Live t roots r → In s (references_of (object_at t r)) → (s ≡ 0) ⊎ Live t roots s
named_lives t roots r zero l i = inl refl
named_lives t roots r (suc s) l i = inr (named (suc s) r (omega arith) l (in_has (references_of (object_at t r)) (suc s) i))

pub roots_live : (t roots : List ℕ) (s : ℕ) → In s roots → (s ≡ 0) ⊎ Live t roots s
roots_live t roots zero i = inl refl
roots_live t roots (suc s) i = inr (root (suc s) (omega arith) (in_has roots (suc s) i))

-- WHERE COPIES STAND: each behind those before it
abbrev pub Offsets : List ℕ → List ℕ → (ℕ → ℕ) → Type 0
Offsets t ls off = (done todo : List ℕ) (r : ℕ) → ls ≡ done ++ r ∷ todo → off r ≡ added_up (units_at t) done

module _ (t ls : List ℕ) (off : ℕ → ℕ) (rise : rising ls ≡ true) (offs : Offsets t ls off) where
  pub off_next : (r s : ℕ) → In r ls → In s ls → r < s → off r + units_at t r ≤ off s
  off_next r s i j lt =
      let x : (a : List ℕ) × (b : List ℕ) × (ls ≡ a ++ r ∷ b) = split_at ls r i in
      go x.0 x.1 x.2 (in_append s x.0 (r ∷ x.1) (subst (In s) x.2 j))
    where
      behind : (a b : List ℕ) → ls ≡ a ++ r ∷ b → (c d : List ℕ) → b ≡ c ++ s ∷ d → off r + units_at t r ≤ off s
      behind a b e c d f =
          let g : ls ≡ (a ++ r ∷ c) ++ s ∷ d = e ∙ ap (λ l. a ++ r ∷ l) f ∙ sym (append_assoc a (r ∷ c) (s ∷ d)) in
          omega (arith, offs a b r e, offs (a ++ r ∷ c) d s g, added_up_append (units_at t) a (r ∷ c), added_up_one (units_at t) r c)

      go : (a b : List ℕ) → ls ≡ a ++ r ∷ b → In s a ⊎ In s (r ∷ b) → off r + units_at t r ≤ off s
      go a b e (inl k) =
          let l : s < r = (rising_parts a (r ∷ b) (subst (λ l. rising l ≡ true) e rise)).2 s r k (inl refl) in absurd (omega arith)
      go a b e (inr (inl k)) = absurd (omega arith)
      go a b e (inr (inr k)) = let y : (c : List ℕ) × (d : List ℕ) × (b ≡ c ++ s ∷ d) = split_at b s k in behind a b e y.0 y.1 y.2

  pub off_fits : (r : ℕ) → In r ls → off r + units_at t r ≤ added_up (units_at t) ls
  off_fits r i =
      let x : (a : List ℕ) × (b : List ℕ) × (ls ≡ a ++ r ∷ b) = split_at ls r i in
      omega (
        arith,
        offs x.0 x.1 r x.2,
        ap (added_up (units_at t)) x.2,
        added_up_append (units_at t) x.0 (r ∷ x.1),
        added_up_one (units_at t) r x.1,
      )

-- the new name, by where the copy stands
abbrev pub name_off : ℕ → ℕ → (ℕ → ℕ) → ℕ → ℕ
name_off lo from off r = pick (ltb lo r) (8 * from + off r + 1) 0

module _ (t h ls z : List ℕ) (lo from : ℕ) (off : ℕ → ℕ) (tape : length t ≡ 64 * from) (h_long : length h ≡ 32) (heap : Heap t lo (8 * from) (roots_of h))
    (lives : Lives t (roots_of h) ls) (offs : Offsets t ls off) (z_long : length z ≡ 64 * ((added_up (units_at t) ls + 7) / 8))
    (there : (r : ℕ) → In r ls → take (size_in (heading_at t r)) (drop (8 * off r) z) ≡ renamed (name_off lo from off) (object_at t r)) where
  name : ℕ → ℕ
  name r = name_off lo from off r

  placed : (r : ℕ) → Live t (roots_of h) r → Placed t lo (8 * from) r
  placed r l = heap.placed r l

  in_ls : (r : ℕ) → Live t (roots_of h) r → In r ls
  in_ls r l = has_in ls r (lives.all r l)

  none : name 0 ≡ 0
  unfolding name
  none = pick_false (ltb lo 0) (8 * from + off 0 + 1) 0 (le-ltb lo 0 (omega arith))

  name_is : (r : ℕ) → Live t (roots_of h) r → name r ≡ 8 * from + off r + 1
  unfolding name
  name_is r l = pick_true (ltb lo r) (8 * from + off r + 1) 0 (lt-ltb lo r (placed r l).above)

  next : (r s : ℕ) → Live t (roots_of h) r → Live t (roots_of h) s → r < s → name r + units_at t r ≤ name s
  next r s l k lt = omega (arith, name_is r l, name_is s k, off_next t ls off lives.rise offs r s (in_ls r l) (in_ls s k) lt)

  rises : (r s : ℕ) → Live t (roots_of h) r → Live t (roots_of h) s → r < s → name r < name s
  rises r s l k lt = omega (arith, next r s l k lt, (placed r l).whole)

  -- the words from there on
  from_there : (r : ℕ) → Live t (roots_of h) r → drop (8 * (name r - 1)) (t ++ z) ≡ drop (8 * off r) z
  from_there r l =
      let e : 8 * (name r - 1) ≡ 64 * from + 8 * off r = omega (arith, name_is r l) in
      ap (λ k. drop k (t ++ z)) e ∙ sym (drop-drop (8 * off r) (64 * from) (t ++ z)) ∙ ap (drop (8 * off r)) (drop_at t z (64 * from) tape)

  heads : (r : ℕ) → Live t (roots_of h) r → heading_at (t ++ z) (name r) ≡ heading_at t r
  unfolding name
  heads r l =
      let z₀ : 8 * (name r - 1) + 0 ≡ 8 * (name r - 1) = omega arith in
      ap (λ i. get_or (t ++ z) i 0) (sym z₀) ∙ sym (get_or-drop (8 * (name r - 1)) (t ++ z) 0 0) ∙ ap (λ xs. get_or xs 0 0) (from_there r l)
      ∙ sym (get_or-take (size_in (heading_at t r)) (drop (8 * off r) z) 0 0 (omega (arith, (placed r l).whole)))
      ∙ ap (λ xs. get_or xs 0 0) (there r (in_ls r l))
      ∙ heading_renamed name (object_at t r) (whole_object t lo (8 * from) r (placed r l) (omega arith)) ∙ heading_is t lo (8 * from) r (placed r l) (omega arith)

  kept : (r : ℕ) → Live t (roots_of h) r → object_at (t ++ z) (name r) ≡ renamed name (object_at t r)
  unfolding object_at name
  kept r l = ap₂ (λ x xs. take (size_in x) xs) (heads r l) (from_there r l) ∙ there r (in_ls r l)

  references_are : (r : ℕ) → Live t (roots_of h) r → references_of (object_at (t ++ z) (name r)) ≡ each name (references_of (object_at t r))
  references_are r l = ap references_of (kept r l) ∙ references_renamed name (object_at t r) (whole_object t lo (8 * from) r (placed r l) (omega arith))

  -- what is live now was so before, under another name
  Old : ℕ → Type 0
  Old s = (r : ℕ) × Live t (roots_of h) r × (name r ≡ s)

  old_among : (rs : List ℕ) (s : ℕ) → ((x : ℕ) → In x rs → (x ≡ 0) ⊎ Live t (roots_of h) x) → 1 ≤ s → has (each name rs) s ≡ true → Old s
  unfolding Old
  old_among rs s known one e =
      let x : (y : ℕ) × In y rs × (name y ≡ s) = each_in name rs s (has_in (each name rs) s e) in go x.0 x.2 (known x.0 x.1)
    where
      go : (y : ℕ) → name y ≡ s → (y ≡ 0) ⊎ Live t (roots_of h) y → Old s
      go y f (inl z₀) = absurd (omega (arith, ap name z₀, none))
      go y f (inr l) = (y, l, f)

  old : {s : ℕ} → Live (t ++ z) (each name (roots_of h)) s → Old s
  unfolding Old
  old (root s one e) = old_among (roots_of h) s (roots_live t (roots_of h)) one e
  old (named s s₁ one l e) =
      let o : Old s₁ = old l in
      old_among (references_of (object_at t o.0)) s (λ x i. named_lives t (roots_of h) o.0 x o.1 i) one
      (subst (λ xs. has xs s ≡ true) (ap (λ y. references_of (object_at (t ++ z) y)) (sym o.2) ∙ references_are o.0 o.1) e)

  -- where it stands
  abbrev top : ℕ
  top = from + (added_up (units_at t) ls + 7) / 8

  units_are : (r : ℕ) → Live t (roots_of h) r → units_at (t ++ z) (name r) ≡ units_at t r
  units_are r l = ap (λ x. (size_in x + 7) / 8) (heads r l)

  kind_is : (r : ℕ) → Live t (roots_of h) r → kind_of (object_at (t ++ z) (name r)) ≡ kind_of (object_at t r)
  kind_is r l =
      ap kind_of (kept r l) ∙ ap kind_in (heading_renamed name (object_at t r) (whole_object t lo (8 * from) r (placed r l) (omega arith)))

  lower : (r : ℕ) → Live t (roots_of h) r → every (λ s. ltb s (name r)) (references_of (object_at (t ++ z) (name r))) ≡ true
  lower r l =
      subst (λ xs. every (λ s. ltb s (name r)) xs ≡ true) (sym (references_are r l))
      (every_each (λ s. ltb s (name r)) name (references_of (object_at t r))
      (every_from (λ s. ltb (name s) (name r)) (references_of (object_at t r)) (λ s i. lt-ltb (name s) (name r) (go s i (named_lives t (roots_of h) r s l i)))))
    where
      go : (s : ℕ) → In s (references_of (object_at t r)) → (s ≡ 0) ⊎ Live t (roots_of h) s → name s < name r
      go s i (inl e) = omega (arith, ap name e, none, name_is r l)
      go s i (inr k) = rises s r k l (ltb-true s r (every_in (λ x. ltb x r) (references_of (object_at t r)) (placed r l).lower s i))

  new_placed : (r : ℕ) → Live t (roots_of h) r → Placed (t ++ z) (8 * from) (8 * top) (name r)
  new_placed r l =
      let q : Placed t lo (8 * from) r = placed r l in
      let e : heading_at (t ++ z) (name r) ≡ heading_at t r = heads r l in
      record {
        above = omega (arith, name_is r l);
        within = omega (arith, name_is r l, units_are r l, off_fits t ls off lives.rise offs r (in_ls r l));
        whole = subst (λ x. 2 + references_in x ≤ size_in x) (sym e) q.whole;
        short = subst (λ x. size_in x ≤ 41024) (sym e) q.short;
        few = subst (λ x. references_in x ≤ 4096) (sym e) q.few;
        kinded = subst (λ k. 1 ≤ k) (sym (kind_is r l)) q.kinded;
        key_there = λ k. subst (λ x. 6 + references_in x ≤ size_in x) (sym e) (q.key_there (ap keyed (sym (kind_is r l)) ∙ k));
        lower = lower r l;
      }

  new_heap : Heap (t ++ z) (8 * from) (8 * top) (each name (roots_of h))
  unfolding Old
  new_heap =
      record {
        placed = λ s l. let o : Old s = old l in subst (Placed (t ++ z) (8 * from) (8 * top)) o.2 (new_placed o.0 o.1);
        apart = λ a b l k lt. apart a b (old l) (old k) lt;
      }
    where
      below : (r s : ℕ) → name r < name s → Live t (roots_of h) r → Live t (roots_of h) s → (r ≡ s) ⊎ ((r < s) ⊎ (s < r)) → r < s
      below r s lt l k (inl e) = absurd (omega (arith, ap name e))
      below r s lt l k (inr (inl o)) = o
      below r s lt l k (inr (inr o)) = absurd (omega (arith, rises s r k l o))

      apart : (a b : ℕ) → Old a → Old b → a < b → (a - 1) + units_at (t ++ z) a ≤ b - 1
      apart a b (r, l, e) (s, k, f) lt =
          let o : r < s = below r s (omega arith) l k (cases_order r s) in
          let u : units_at (t ++ z) a ≡ units_at t r = ap (units_at (t ++ z)) (sym e) ∙ units_are r l in
          omega (arith, next r s l k o, name_is r l)

  pub swept : from ≡ last_page h → Swept t h (t ++ z) (head_under (name_off lo from off) from top h) ls
  unfolding name
  swept e =
      record {
        name = name;
        none_is_none = none;
        some_is_some = λ r l. omega (arith, name_is r l);
        first_is = e;
        last_is = ap (λ x. x + (added_up (units_at t) ls + 7) / 8) e;
        tape_length = omega (arith, length-append t z, z_long);
        head_length = length_head_under (name_off lo from off) from top h h_long;
        roots_are = roots_under (name_off lo from off) from top h h_long;
        others_are = others_under (name_off lo from off) from top h h_long;
        kept = kept;
        rises = rises;
        heap = subst (Heap (t ++ z) (8 * from) (8 * top)) (sym (roots_under (name_off lo from off) from top h h_long)) new_heap;
      }
