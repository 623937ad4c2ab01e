-- A sweep copies all that is live, in order, and publishes a window that has the copies only. Assumes nothing.
use Rattle.std.proofs.Common.{◌≡◌, ℕ, zero, suc, ◌+◌, ◌-◌, ◌*◌, ◌/◌, ◌%◌, ◌<◌, ◌≤◌, min, true, eqb, ltb, List, [], ◌∷◌, ◌++◌, length, get_or, take, drop, Some, None, Option, sym, refl, ap, ◌∙◌, subst, ap₂, inl, arith, length-append, length-drop}
use Rattle.std.proofs.lemmas.List.{get_or-take, get_or-drop, length-take-le, take_all, append_assoc, append-nil, ext_get_or}
use Rattle.std.proofs.lemmas.Bool.{eqb-true, eqb-false, le-ltb}
use Rattle.pages.specs.Lists.{zeros, added_up}
use Rattle.pages.specs.Words.{over}
use Rattle.pages.specs.Crash.{Rows}
use Rattle.pages.specs.Engine.{bulk_cells}
use Rattle.pages.specs.Machine.{Asked, asked, Program, capped, wanted, buffer_words}
use Rattle.pages.specs.Object.{size_in, references_in, object_at}
use Rattle.pages.specs.Tape.{first_page, last_page, published, Window, Does, opens, lays, publishes}
use Rattle.pages.specs.declared.machine.Request.{Request}
use Rattle.pages.specs.declared.machine.Request.TheVariants.{Object, Lay, Publish}
use Rattle.pages.proofs.ListLaws.{In, has_in, in_has, any_in, any_from, same_test, pick_both, pick_false}
use Rattle.store.specs.Bitmap.{bit, lowest}
use Rattle.objects.specs.Heap.{Placed, Heap, Lives, units_at, heading_at, covered}
use Rattle.objects.specs.Plan.{head_at, counts_at, counts_words, plan_end, map_of}
use Rattle.objects.specs.Ranks.{counts, tallied}
use Rattle.objects.specs.Packing.{packed, filled}
use Rattle.objects.specs.Marking.{Stride, stride, key, walk, begun, sought, went_on, walked, Walks, Keeps, Marked, Marks}
use Rattle.objects.specs.Sweeping.{roots_of, renamed, sweep, swing, new_head, publishing, closing, copying_at, copying, renaming, laying, counted, marking, window_at, sweep_begun, sweep_at, sweep_went_on, swung, SweepsIn, Swept, Sweeps}
use Rattle.objects.specs.declared.mark.Walk.{Walk}
use Rattle.objects.specs.declared.sweep.Sweep.{Sweep}
use Rattle.objects.specs.declared.sweep.Stage.TheVariants.{Marking, Copying, Laying, Closing, Publishing}
use Rattle.objects.proofs.MarkLaws.{takes, marks}
use Rattle.objects.proofs.PartLaws.{part_inside}
use Rattle.objects.proofs.PlanLaws.{part_of_append, over_part_before, over_behind}
use Rattle.objects.proofs.RankLaws.{tally_holds, tallied_is, length_counts}
use Rattle.objects.proofs.SpaceLaws.{lowest_none, lowest_some, added_up_append}
use Rattle.objects.proofs.PackLaws.{Stays, name_by, head_under, head_there, stays_new_head, waits, fills, stays_filled}
use Rattle.objects.proofs.SweptLaws.{off_fits, roots_live, swept}
use Rattle.objects.proofs.CopyLaws.{
  Given,
  off_by,
  SoFar,
  offsets,
  placed_in,
  low_live,
  between,
  length_so_far,
  placed_r,
  on_tape,
  wanted_is,
  comes,
  stays_came,
  stays_pack,
  so_far_next,
  copied_is,
}

abbrev top : List ℕ → List ℕ → ℕ → ℕ
top t ls from = from + (added_up (units_at t) ls + 7) / 8

positive : (y : ℕ) → (y ≡ 0 → ⊥) → 1 ≤ y
positive zero k = absurd (k refl)
positive (suc y) k = omega arith

-- how far the pages reach
done_units : (t ls done todo : List ℕ) → ls ≡ done ++ todo → added_up (units_at t) done ≤ added_up (units_at t) ls
done_units t ls done todo e = omega (arith, ap (added_up (units_at t)) e, added_up_append (units_at t) done todo)

module _ {K : Type 0} (Stop : List ℕ → List ℕ → Rows → Type 0) (End : K → List ℕ → List ℕ → List ℕ → ℕ → Rows → ℕ → Type 0) (p : Program K) (n : ℕ) (put : Sweep → K)
    (back : Sweep → List ℕ → Asked K) (swings : SweepsIn p put back) (h t : List ℕ) (ss : Rows) (m₀ ls ws : List ℕ) (lo from : ℕ) (from_is : from ≡ last_page h)
    (g : Given n h t ls ws lo from) (w : Walk) (first : w.first ≡ lo) (stop : (t₁ h₁ : List ℕ) → Swept t h t₁ h₁ ls → Stop h₁ t₁ ss)
    (onward : (t₁ h₁ : List ℕ) (s₁ : Sweep) (m₁ : List ℕ) → Swept t h t₁ h₁ ls → length m₁ ≡ bulk_cells → ((i : ℕ) → plan_end ≤ i → get_or m₁ i 0 ≡ get_or m₀ i 0) →
    Does p n Stop End (back s₁ m₁) h₁ t₁ (last_page h₁) ss) where
  resumed : (s : Sweep) (m : List ℕ) → length m ≡ bulk_cells → p.resumes (put s) m ≡ swung put back (sweep_at s m s.stage)
  unfolding sweep_went_on
  resumed s m long =
      swings s m long
      ∙ ap (swung put back) (pick_false (ltb (length m) plan_end) (swing s m None) (sweep_at s m s.stage) (le-ltb (length m) plan_end (omega arith)))

  -- all is laid: the head is published
  publishes_well : (at : ℕ) (z m : List ℕ) → Stays m₀ ws h m → length z ≡ 64 * ((added_up (units_at t) ls + 7) / 8) →
      ((r : ℕ) → In r ls → take (size_in (heading_at t r)) (drop (8 * off_by lo ws r) z) ≡ renamed (name_by lo from ws) (object_at t r)) →
      Does p n Stop End (swung put back (publishing w at from (top t ls from) m)) h (t ++ z) (top t ls from) ss
  publishes_well at z m s z_long there =
      let s₁ : Sweep = sweep Publishing w at from (top t ls from) 0 in
      let m₁ : List ℕ = new_head lo from (top t ls from) m in
      let h₁ : List ℕ = head_under (name_by lo from ws) from (top t ls from) h in
      let low : (r : ℕ) → In r (roots_of h) → r ≤ 8 * from = λ r i. low_live n h t ls ws lo from g r (roots_live t (roots_of h) r i) in
      let cap : 64 * from < 18446744073709551616 = omega (arith, g.bounded) in
      let e : take 32 m₁ ≡ h₁ = head_there m₀ ws h m lo from (top t ls from) s g.words_small cap g.h_long low in
      let s_new : Stays m₀ ws h m₁ = stays_new_head m₀ ws h m lo from (top t ls from) s g.words_small cap g.h_long low in
      let sw : Swept t h (t ++ z) h₁ ls =
      swept t h ls z lo from (off_by lo ws) g.tape g.h_long g.heap g.lives (offsets n h t ls ws lo from g) z_long there from_is in
      let whole : take (64 * top t ls from) (t ++ z) ≡ t ++ z = take_all (64 * top t ls from) (t ++ z) (omega (arith, length-append t z, g.tape)) in
      subst (λ f. Does p n Stop End (asked (put s₁) (new_head f from (top t ls from) m) Publish) h (t ++ z) (top t ls from) ss) (sym first)
      (publishes (asked (put s₁) m₁ Publish) h (t ++ z) (top t ls from) ss refl (subst (λ y. first_page h ≤ first_page y) (sym e) g.order)
      (subst (λ y. first_page y ≤ last_page y) (sym e) (omega arith)) (subst (λ y. last_page y ≤ top t ls from) (sym e) (omega arith))
      (subst (λ y. Stop y (published y (t ++ z)) ss) (sym e) (subst (λ y. Stop h₁ y ss) (sym whole) (stop (t ++ z) h₁ sw)))
      (subst (λ y. Does p n Stop End (p.resumes (put s₁) m₁) y (t ++ z) (top t ls from) ss) (sym e)
      (subst (λ y. Does p n Stop End y h₁ (t ++ z) (top t ls from) ss) (sym (resumed s₁ m₁ s_new.long))
      (onward (t ++ z) h₁ s₁ m₁ sw s_new.long s_new.behind))))

  -- all is copied: what waits is laid
  module _ (done : List ℕ) (at page waiting : ℕ) (x m : List ℕ) (a : SoFar h t m₀ ls ws lo from done [] at page waiting x m) where
    all_done : added_up (units_at t) done ≡ added_up (units_at t) ls
    all_done = ap (added_up (units_at t)) (sym (append-nil done) ∙ sym a.split)

    in_done : (r : ℕ) → In r ls → In r done
    in_done r i = subst (In r) (a.split ∙ append-nil done) i

    none_waits : waiting ≡ 0 → Does p n Stop End (swung put back (publishing w at from page m)) h (t ++ x) page ss
    none_waits e =
        let k : page ≡ top t ls from = omega (arith, a.pages, a.sum, all_done) in
        let x_is : x ++ waits waiting m ≡ x = ap (λ y. x ++ waits y m) e ∙ append-nil x in
        subst (λ y. Does p n Stop End (swung put back (publishing w at from y m)) h (t ++ x) y ss) (sym k)
        (publishes_well at x m a.stays (omega (arith, a.pages, a.sum, all_done))
        (λ r i. ap (λ xs. take (size_in (heading_at t r)) (drop (8 * off_by lo ws r) xs)) (sym x_is) ∙ a.there r (in_done r i)))

    some_wait : 1 ≤ waiting →
        Does p n Stop End (swung put back (swing (sweep Closing w at from (capped (page + 1)) 0) (filled waiting m) (Some (Lay page 1)))) h (t ++ x) page ss
    some_wait one =
        let s₁ : Sweep = sweep Closing w at from (capped (page + 1)) 0 in
        let m₁ : List ℕ = filled waiting m in
        let z : List ℕ = x ++ (waits waiting m ++ zeros (64 - waiting)) in
        let k : page + 1 ≡ top t ls from = omega (arith, a.pages, a.sum, all_done, a.less) in
        let c : capped (page + 1) ≡ top t ls from = omega (arith, k, g.bounded) in
        let st : Stays m₀ ws h m₁ = stays_filled m₀ ws h m waiting a.stays a.less in
        let z_is : (t ++ x) ++ take 64 m₁ ≡ t ++ z =
        append_assoc t x (take 64 m₁) ∙ ap (λ ys. t ++ (x ++ ys)) (fills m₀ ws h m waiting a.stays a.less) in
        let z_long : length z ≡ 64 * ((added_up (units_at t) ls + 7) / 8) =
        omega (
          arith,
          length-append x (waits waiting m ++ zeros (64 - waiting)),
          ap length (sym (fills m₀ ws h m waiting a.stays a.less)),
          length-take-le 64 m₁ (omega (arith, st.long)),
          a.pages,
          k,
        ) in
        lays (asked (put s₁) m₁ (Lay page 1)) h (t ++ x) page ss 1 refl (omega arith) (omega arith) (omega (arith, k, g.room)) (omega (arith, k, g.bounded))
        (subst (λ y. Does p n Stop End y h ((t ++ x) ++ take 64 m₁) (page + 1) ss) (sym (resumed s₁ m₁ st.long))
        (subst (λ y. Does p n Stop End (swung put back (publishing w at from y m₁)) h ((t ++ x) ++ take 64 m₁) (page + 1) ss) (sym c)
        (subst (λ y. Does p n Stop End (swung put back (publishing w at from (top t ls from) m₁)) h ((t ++ x) ++ take 64 m₁) y ss) (sym k)
        (subst (λ y. Does p n Stop End (swung put back (publishing w at from (top t ls from) m₁)) h y (top t ls from) ss) (sym z_is)
        (publishes_well at z m₁ st z_long there)))))
      where
        there : (r : ℕ) → In r ls →
            take (size_in (heading_at t r)) (drop (8 * off_by lo ws r) (x ++ (waits waiting m ++ zeros (64 - waiting)))) ≡ renamed (name_by lo from ws) (object_at t r)
        there r i =
            ap (λ xs. take (size_in (heading_at t r)) (drop (8 * off_by lo ws r) xs)) (sym (append_assoc x (waits waiting m) (zeros (64 - waiting))))
            ∙ part_of_append (size_in (heading_at t r)) (8 * off_by lo ws r) (x ++ waits waiting m) (zeros (64 - waiting))
            (omega (
              arith,
              length_so_far n h t ls ws lo from g m₀ done [] at page waiting x m a,
              all_done,
              off_fits t ls (off_by lo ws) g.lives.rise (offsets n h t ls ws lo from g) r i,
            ))
            ∙ a.there r (in_done r i)

    closes : Does p n Stop End (swung put back (closing w at from page waiting m)) h (t ++ x) page ss
    closes =
        pick_both (λ v. Does p n Stop End (swung put back v) h (t ++ x) page ss) (eqb waiting 0) (publishing w at from page m)
        (swing (sweep Closing w at from (capped (page + 1)) 0) (filled waiting m) (Some (Lay page 1))) (λ e. none_waits (eqb-true waiting 0 e))
        (λ e. some_wait (positive waiting (eqb-false waiting 0 e)))

  -- one more is copied, if from then on all goes well
  module _ (done todo : List ℕ) (r at page waiting : ℕ) (x m : List ℕ) (a : SoFar h t m₀ ls ws lo from done (r ∷ todo) at page waiting x m) where
    abbrev came : List ℕ
    came = over 0 (object_at t r) m

    abbrev pack : List ℕ
    pack = packed waiting (8 * units_at t r) (renaming lo from 2 (min (references_in (get_or came 0 0)) 4096) came)

    abbrev pages : ℕ
    pages = (waiting + 8 * units_at t r) / 64

    abbrev at_now : ℕ
    at_now = (r - 1 - lo) + units_at t r

    abbrev waiting_now : ℕ
    waiting_now = (waiting + 8 * units_at t r) % 64

    q : Placed t lo (8 * from) r
    q = placed_r n h t ls ws lo from g m₀ done todo r at page waiting x m a

    st : Stays m₀ ws h pack
    st = stays_pack n h t ls ws lo from g m₀ done todo r at page waiting x m a

    next : SoFar h t m₀ ls ws lo from (done ++ r ∷ []) todo at_now (page + pages) waiting_now (x ++ take (64 * pages) pack) pack
    next = so_far_next n h t ls ws lo from g m₀ done todo r at page waiting x m a

    reach : page + pages ≤ top t ls from
    reach = omega (arith, next.pages, next.sum, done_units t ls (done ++ r ∷ []) todo next.split)

    lays_well : Does p n Stop End (swung put back (copying w at_now from (page + pages) waiting_now pack)) h (t ++ (x ++ take (64 * pages) pack)) (page + pages) ss →
        Does p n Stop End (swung put back (laying w at_now from page waiting_now pack pages)) h (t ++ x) page ss
    lays_well on =
        pick_both (λ v. Does p n Stop End (swung put back v) h (t ++ x) page ss) (eqb pages 0) (copying w at_now from page waiting_now pack)
        (swing (sweep Laying w at_now from (capped (page + pages)) waiting_now) pack (Some (Lay page pages))) (λ e. no_page (eqb-true pages 0 e))
        (λ e. some_pages (positive pages (eqb-false pages 0 e)))
      where
        no_page : pages ≡ 0 → Does p n Stop End (swung put back (copying w at_now from page waiting_now pack)) h (t ++ x) page ss
        no_page e =
            let k : page + pages ≡ page = omega arith in
            let f : x ++ take (64 * pages) pack ≡ x = ap (λ y. x ++ take (64 * y) pack) e ∙ append-nil x in
            subst (λ y. Does p n Stop End (swung put back (copying w at_now from y waiting_now pack)) h (t ++ x) y ss) k
            (subst (λ y. Does p n Stop End (swung put back (copying w at_now from (page + pages) waiting_now pack)) h (t ++ y) (page + pages) ss) f on)

        some_pages : 1 ≤ pages →
            Does p n Stop End (swung put back (swing (sweep Laying w at_now from (capped (page + pages)) waiting_now) pack (Some (Lay page pages)))) h (t ++ x) page ss
        some_pages one =
            let s₁ : Sweep = sweep Laying w at_now from (capped (page + pages)) waiting_now in
            let c : capped (page + pages) ≡ page + pages = omega (arith, reach, g.bounded) in
            lays (asked (put s₁) pack (Lay page pages)) h (t ++ x) page ss pages refl one (omega (arith, a.less, q.short)) (omega (arith, reach, g.room))
            (omega (arith, reach, g.bounded))
            (subst (λ y. Does p n Stop End y h ((t ++ x) ++ take (64 * pages) pack) (page + pages) ss) (sym (resumed s₁ pack st.long))
            (subst (λ y. Does p n Stop End (swung put back (copying w at_now from y waiting_now pack)) h ((t ++ x) ++ take (64 * pages) pack) (page + pages) ss) (sym c)
            (subst (λ y. Does p n Stop End (swung put back (copying w at_now from (page + pages) waiting_now pack)) h y (page + pages) ss)
            (sym (append_assoc t x (take (64 * pages) pack))) on)))

    copies_well : Does p n Stop End (swung put back (copying w at_now from (page + pages) waiting_now pack)) h (t ++ (x ++ take (64 * pages) pack)) (page + pages) ss →
        Does p n Stop End (swung put back (copying_at w at from page waiting m (Some (r - 1 - lo)))) h (t ++ x) page ss
    copies_well on =
        let s₁ : Sweep = sweep Copying w (r - 1 - lo) from page waiting in
        let at_is : 8 * (r - 1) ≡ capped (8 * capped (w.first + (r - 1 - lo))) = omega (arith, first, q.above, q.within, g.bounded) in
        let long : length came ≡ bulk_cells = (stays_came n h t ls ws lo from g m₀ done todo r at page waiting x m a).long in
        let wants : wanted buffer_words (get_or (t ++ x) (8 * (r - 1)) 0) ≡ size_in (heading_at t r) = wanted_is n h t ls ws lo from g m₀ done todo r at page waiting x m a in
        subst (λ y. Does p n Stop End (asked (put s₁) m (Object y buffer_words)) h (t ++ x) page ss) at_is
        (opens (asked (put s₁) m (Object (8 * (r - 1)) buffer_words)) h (t ++ x) page ss (8 * (r - 1)) buffer_words refl (omega (arith, q.above, g.lo_is))
        (omega (arith, wants, on_tape n h t ls ws lo from g m₀ done todo r at page waiting x m a, a.pages))
        (λ _.
        subst (λ y. Does p n Stop End (p.resumes (put s₁) (over 0 y m)) h (t ++ x) page ss)
        (sym (comes n h t ls ws lo from g m₀ done todo r at page waiting x m a))
        (subst (λ y. Does p n Stop End y h (t ++ x) page ss)
        (sym (resumed s₁ came long ∙ ap (swung put back) (copied_is n h t ls ws lo from g m₀ done todo r at page waiting x m a w first))) (lays_well on))))

  goes : (todo done : List ℕ) (at page waiting : ℕ) (x m : List ℕ) → SoFar h t m₀ ls ws lo from done todo at page waiting x m →
      Does p n Stop End (swung put back (copying w at from page waiting m)) h (t ++ x) page ss
  goes [] done at page waiting x m a =
      subst (λ o. Does p n Stop End (swung put back (copying_at w at from page waiting m o)) h (t ++ x) page ss)
      (sym (ap (λ xs. lowest (bit xs) (8388608 - at) at) a.stays.map_is
      ∙ lowest_none t ws lo at done (between n h t ls ws lo from g m₀ done [] at page waiting x m a)
      (λ u l. g.bits u l ∙ ap (λ xs. covered t xs (lo + u)) a.split)))
      (closes done at page waiting x m a)
  goes (r ∷ todo) done at page waiting x m a =
      subst (λ o. Does p n Stop End (swung put back (copying_at w at from page waiting m o)) h (t ++ x) page ss)
      (sym (ap (λ xs. lowest (bit xs) (8388608 - at) at) a.stays.map_is
      ∙ lowest_some t ws lo at done todo r (between n h t ls ws lo from g m₀ done (r ∷ todo) at page waiting x m a)
      (λ u l. g.bits u l ∙ ap (λ xs. covered t xs (lo + u)) a.split)))
      (copies_well done todo r at page waiting x m a (goes todo (done ++ r ∷ []) _ _ _ _ _ (next done todo r at page waiting x m a)))

-- MARKED AND COUNTED
-- a client that sweeps walks, as far as marking goes
marking_is : {K : Type 0} (put : Sweep → K) (back : Sweep → List ℕ → Asked K) (last : ℕ) (s : Stride) →
    swung put back (marking last s) ≡ walked (λ w. put (sweep Marking w 0 last last 0)) (λ w m. swung put back (counted w last m)) s
marking_is put back last s = go s.request
  where
    go : (o : Option Request) →
        swung put back (elim o [ None ↦ counted s.state last s.memory | Some q ↦ swing (sweep Marking s.state 0 last last 0) s.memory (Some q) ])
        ≡ walked (λ w. put (sweep Marking w 0 last last 0)) (λ w m. swung put back (counted w last m)) (stride s.state s.memory o)
    go None = refl
    go (Some q) = refl

walks : {K : Type 0} (p : Program K) (put : Sweep → K) (back : Sweep → List ℕ → Asked K) (last : ℕ) → SweepsIn p put back →
    Walks p (λ w. put (sweep Marking w 0 last last 0)) (λ w m. swung put back (counted w last m))
unfolding sweep_went_on
walks p put back last swings w m long =
    let s : Sweep = sweep Marking w 0 last last 0 in
    swings s m long
    ∙ ap (swung put back) (pick_false (ltb (length m) plan_end) (swing s m None) (sweep_at s m Marking) (le-ltb (length m) plan_end (omega arith)))
    ∙ marking_is put back last (went_on w m)

-- two lists of all that is live cover the same
same_cover : (t roots ls ks : List ℕ) (u : ℕ) → Lives t roots ls → Lives t roots ks → covered t ls u ≡ true → covered t ks u ≡ true
same_cover t roots ls ks u a b e =
    let f : (x : ℕ) × In x ls × (takes t x u ≡ true) = any_in (λ y. takes t y u) ls e in
    any_from (λ y. takes t y u) ks f.0 (has_in ks f.0 (b.all f.0 (a.only f.0 (in_has ls f.0 f.1)))) f.2

-- what stays once the units are counted
stays_counted : (m₀ h m : List ℕ) → length m₀ ≡ bulk_cells → take 32 (drop head_at m₀) ≡ h → Keeps m₀ m → Stays m₀ (map_of m) h (tallied m)
stays_counted m₀ h m long e k =
    let l : length m ≡ bulk_cells = k.same_length ∙ long in
    let x = tally_holds m (omega arith) in
    let cs : List ℕ = counts counts_words (map_of m) in
    let c : length cs ≡ 16384 = length_counts counts_words (map_of m) in
    record {
      long = x.2 ∙ l;
      map_is = x.1;
      counts_are = x.0 ∙ ap (counts counts_words) x.1;
      head_is =
          ap (λ y. take 32 (drop head_at y)) (tallied_is m (omega arith)) ∙ over_part_before counts_at 32 head_at cs m (omega arith) (omega arith) ∙ head_kept l ∙ e;
      behind = λ i b. ap (λ y. get_or y i 0) (tallied_is m (omega arith)) ∙ over_behind counts_at i cs m (omega arith) (omega arith) ∙ k.behind i (omega arith);
    }
  where
    part_length : (y : List ℕ) → length y ≡ bulk_cells → length (take 32 (drop head_at y)) ≡ 32
    part_length y l = length-take-le 32 (drop head_at y) (omega (arith, length-drop head_at y))

    word : (y : List ℕ) (i : ℕ) → i < 32 → get_or (take 32 (drop head_at y)) i 0 ≡ get_or y (head_at + i) 0
    word y i b = get_or-take 32 (drop head_at y) i 0 b ∙ get_or-drop head_at y i 0

    head_kept : length m ≡ bulk_cells → take 32 (drop head_at m) ≡ take 32 (drop head_at m₀)
    head_kept l =
        ext_get_or 0 (take 32 (drop head_at m)) (take 32 (drop head_at m₀)) (part_length m l ∙ sym (part_length m₀ long))
        (λ i b.
        let b₁ : i < 32 = omega (arith, part_length m l) in
        word m i b₁ ∙ k.before (head_at + i) (omega arith) (omega arith) ∙ sym (word m₀ i b₁))

-- THE BEGINNING: the head is in its place
module _ (s : Sweep) (m h : List ℕ) (long : length m ≡ bulk_cells) (head : take 32 (drop head_at m) ≡ h) where
  head_word : (i : ℕ) → i < 32 → get_or m (head_at + i) 0 ≡ get_or h i 0
  head_word i b = sym (get_or-take 32 (drop head_at m) i 0 b ∙ get_or-drop head_at m i 0) ∙ ap (λ y. get_or y i 0) head

  begins : 8 * last_page h < 18446744073709551616 → first_page h ≤ last_page h →
      sweep_begun s m
      ≡ marking (last_page h) (sought (walk (8 * first_page h) (8 * (last_page h - first_page h)) 0 0 (key 0 0 0 0) 0) (begun (8 * first_page h) (roots_of h) m))
  unfolding sweep_begun
  begins cap order =
      let f : get_or m head_at 0 ≡ first_page h = head_word 0 (omega arith) in
      let l : get_or m 41153 0 ≡ last_page h = head_word 1 (omega arith) in
      let a : capped (8 * get_or m head_at 0) ≡ 8 * first_page h = omega arith in
      let b : capped (8 * (get_or m 41153 0 - get_or m head_at 0)) ≡ 8 * (last_page h - first_page h) = omega arith in
      let r : take 8 (drop 41154 m) ≡ roots_of h = sym (part_inside head_at 32 8 2 m (omega arith)) ∙ ap roots_of head in
      pick_false (ltb (length m) plan_end) (swing s m None)
      (marking (get_or m 41153 0) (sought (window_at m) (begun (capped (8 * get_or m head_at 0)) (take 8 (drop 41154 m)) m)))
      (le-ltb (length m) plan_end (omega arith))
      ∙ ap₂ (λ y z. marking y (sought (walk (capped (8 * get_or m head_at 0)) z 0 0 (key 0 0 0 0) 0) (begun (capped (8 * get_or m head_at 0)) (take 8 (drop 41154 m)) m))) l b
      ∙ ap₂ (λ y z. marking (last_page h) (sought (walk y (8 * (last_page h - first_page h)) 0 0 (key 0 0 0 0) 0) (begun y z m))) a r

-- A SWEEP
given_marked : (n : ℕ) (h t m ls : List ℕ) (w₁ : Walk) (m₁ : List ℕ) → Window n h t (last_page h) → n < 1048576 → Heap t (8 * first_page h) (8 * last_page h) (roots_of h) →
    Lives t (roots_of h) ls → last_page h + (added_up (units_at t) ls + 7) / 8 ≤ first_page h + n →
    64 * (last_page h + (added_up (units_at t) ls + 7) / 8 + 1) < 18446744073709551616 →
    Marked t (roots_of h) (8 * first_page h) 0 (0 ∷ 0 ∷ 0 ∷ 0 ∷ []) m w₁ m₁ → Given n h t ls (map_of m₁) (8 * first_page h) (last_page h)
given_marked n h t m ls w₁ m₁ win few heap lives room bounded k =
    record {
      lo_is = refl;
      order = win.rising;
      tape = win.tape_length;
      near = omega (arith, win.room);
      h_long = win.head_length;
      heap = heap;
      lives = lives;
      room = room;
      bounded = bounded;
      words_small = k.map_small;
      bits =
          λ u l.
          k.bits u l
          ∙ same_test (covered t k.lives (8 * first_page h + u)) (covered t ls (8 * first_page h + u))
          (same_cover t (roots_of h) k.lives ls (8 * first_page h + u) k.are_live lives) (same_cover t (roots_of h) ls k.lives (8 * first_page h + u) lives k.are_live);
    }

-- nothing is copied yet
starting : (n : ℕ) (h t m ls ws : List ℕ) (lo from : ℕ) (m₁ : List ℕ) → Given n h t ls ws lo from → Stays m ws h m₁ → SoFar h t m ls ws lo from [] ls 0 from 0 [] m₁
unfolding added_up
starting n h t m ls ws lo from m₁ g st =
    record {
      split = refl;
      ends = λ r i. absurd i;
      starts = λ r i. let q : Placed t lo (8 * from) r = placed_in n h t ls ws lo from g r i in omega (arith, q.above);
      stays = st;
      less = omega arith;
      pages = omega arith;
      sum = refl;
      there = λ r i. absurd i;
    }

pub sweeps : {K : Type 0} (Stop : List ℕ → List ℕ → Rows → Type 0) (End : K → List ℕ → List ℕ → List ℕ → ℕ → Rows → ℕ → Type 0) → Sweeps Stop End
unfolding Sweeps Marks
sweeps Stop End p n put back swings h t ss m ls s win few long head heap lives room bounded stop onward =
    let order : first_page h ≤ last_page h = win.rising in
    let cap : 8 * last_page h < 18446744073709551616 = omega arith in
    let near : 8 * first_page h + 8 * (last_page h - first_page h) ≡ 8 * last_page h = omega arith in
    subst (λ y. Does p n Stop End y h t (last_page h) ss) (sym (ap (swung put back) (begins s m h long head cap order) ∙ marking_is put back (last_page h) _))
    (marks Stop End p n (λ w. put (sweep Marking w 0 (last_page h) (last_page h) 0)) (λ w y. swung put back (counted w (last_page h) y)) (walks p put back (last_page h) swings) h t
    (last_page h) ss (roots_of h) m (8 * (last_page h - first_page h)) 0 (key 0 0 0 0) win.tape_length win.bounded (omega arith) (omega (arith, win.room)) long
    (subst (λ y. Heap t (8 * first_page h) y (roots_of h)) (sym near) heap) (inl refl)
    (λ w₁ m₁ k.
    let g : Given n h t ls (map_of m₁) (8 * first_page h) (last_page h) = given_marked n h t m ls w₁ m₁ win few heap lives room bounded k in
    subst (λ y. Does p n Stop End (swung put back (counted w₁ (last_page h) m₁)) h y (last_page h) ss) (append-nil t)
    (goes Stop End p n put back swings h t ss m ls (map_of m₁) (8 * first_page h) (last_page h) refl g w₁ k.first_is stop onward ls [] 0 (last_page h) 0 [] (tallied m₁)
    (starting n h t m ls (map_of m₁) (8 * first_page h) (last_page h) (tallied m₁) g (stays_counted m h m₁ long head k.keeps)))))
