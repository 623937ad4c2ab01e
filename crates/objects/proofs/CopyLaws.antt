-- One more live object is copied: what is laid and what waits are copies of all that are done, one after the other. Assumes nothing.
use Rattle.std.proofs.Common.{◌≡◌, ℕ, ◌+◌, ◌-◌, ◌*◌, ◌/◌, ◌%◌, ◌<◌, ◌≤◌, min, true, ◌⊎◌, List, [], ◌∷◌, ◌++◌, length, get_or, take, drop, sym, refl, ap, ◌∙◌, subst, ap₂, inl, inr, arith, length-append, length-drop, length-take}
use Rattle.std.proofs.lemmas.List.{get_or_append_left, length-take-le, take_at, take-take, drop_at, append_assoc}
use Rattle.pages.specs.Lists.{each, added_up}
use Rattle.pages.specs.Words.{over, small}
use Rattle.pages.specs.Machine.{capped, wanted, buffer_words}
use Rattle.pages.specs.Object.{size_in, references_in, references_of, data_of, object_at}
use Rattle.pages.specs.Tape.{first_page}
use Rattle.pages.proofs.ListLaws.{In, in_left, in_right, in_append, in_has, length_each, each_alike}
use Rattle.store.specs.Bitmap.{bit}
use Rattle.objects.specs.Heap.{Live, Placed, Heap, Lives, units, units_at, heading_at, covered}
use Rattle.objects.specs.Plan.{rest_at}
use Rattle.objects.specs.Ranks.{count_below}
use Rattle.objects.specs.Packing.{packed, pages_packed}
use Rattle.objects.specs.Sweeping.{roots_of, renamed, new_name, renaming, sweep, laying, copied}
use Rattle.objects.specs.declared.mark.Walk.{Walk}
use Rattle.objects.specs.declared.sweep.Stage.TheVariants.{Copying}
use Rattle.objects.proofs.CountLaws.{count_alike}
use Rattle.objects.proofs.PlanLaws.{part_of_append, over_drop}
use Rattle.objects.proofs.SpaceLaws.{Spaced, Between, units_before, rising_parts, added_up_append}
use Rattle.objects.proofs.PackLaws.{Stays, stays_over, name_by, named_in, renamed_front, length_renamed, waits, packs, pages_packed_are, stays_packed}
use Rattle.objects.proofs.SweptLaws.{Offsets, off_next, heading_is, length_object, whole_object, named_lives}

-- WHAT A SWEEP STARTS FROM, once all is marked and counted
pub record Given (n : ℕ) (h t ls ws : List ℕ) (lo from : ℕ) : Type 0 where
  pub lo_is : lo ≡ 8 * first_page h
  pub order : first_page h ≤ from
  pub tape : length t ≡ 64 * from
  pub near : 8 * from ≤ lo + 8388608
  pub h_long : length h ≡ 32
  pub heap : Heap t lo (8 * from) (roots_of h)
  pub lives : Lives t (roots_of h) ls
  pub room : from + (added_up (units_at t) ls + 7) / 8 ≤ first_page h + n
  pub bounded : 64 * (from + (added_up (units_at t) ls + 7) / 8 + 1) < 18446744073709551616
  pub words_small : small ws ≡ true
  pub bits : (u : ℕ) → u < 8388608 → bit ws u ≡ covered t ls (lo + u)

-- the units marked below an object
abbrev pub off_by : ℕ → List ℕ → ℕ → ℕ
off_by lo ws r = count_below (bit ws) (r - 1 - lo)

-- SO FAR: some are copied, others are still to come; words are laid behind the tape, and some wait
pub record SoFar (h t m₀ ls ws : List ℕ) (lo from : ℕ) (done todo : List ℕ) (at page waiting : ℕ) (x m : List ℕ) : Type 0 where
  pub split : ls ≡ done ++ todo
  pub ends : (r : ℕ) → In r done → (r - 1) + units_at t r ≤ lo + at
  pub starts : (r : ℕ) → In r todo → lo + at ≤ r - 1
  pub stays : Stays m₀ ws h m
  pub less : waiting ≤ 63
  pub pages : 64 * from + length x ≡ 64 * page
  pub sum : length x + waiting ≡ 8 * added_up (units_at t) done
  pub there : (r : ℕ) → In r done → take (size_in (heading_at t r)) (drop (8 * off_by lo ws r) (x ++ waits waiting m)) ≡ renamed (name_by lo from ws) (object_at t r)

module _ (n : ℕ) (h t ls ws : List ℕ) (lo from : ℕ) (g : Given n h t ls ws lo from) where
  pub live_in : (r : ℕ) → In r ls → Live t (roots_of h) r
  live_in r i = g.lives.only r (in_has ls r i)

  pub placed_in : (r : ℕ) → In r ls → Placed t lo (8 * from) r
  placed_in r i = g.heap.placed r (live_in r i)

  pub spaced_all : Spaced t lo ls
  spaced_all =
      record {
        rise = g.lives.rise;
        above = λ r i. (placed_in r i).above;
        some = λ r i. let q : Placed t lo (8 * from) r = placed_in r i in omega (arith, q.whole);
        apart = λ r s i j. g.heap.apart r s (live_in r i) (live_in s j);
      }

  pub offsets : Offsets t ls (off_by lo ws)
  offsets done todo r e =
      let i : In r ls = subst (In r) (sym e) (in_right r done (r ∷ todo) (inl refl)) in
      let q : Placed t lo (8 * from) r = placed_in r i in
      count_alike (bit ws) (λ u. covered t ls (lo + u)) (r - 1 - lo) (λ u l. g.bits u (omega (arith, g.near, q.within, q.whole)))
      ∙ ap (λ xs. count_below (λ u. covered t xs (lo + u)) (r - 1 - lo)) e ∙ units_before t done todo r lo (subst (Spaced t lo) e spaced_all)

  -- a live object is named from within the window
  pub low_live : (r : ℕ) → (r ≡ 0) ⊎ Live t (roots_of h) r → r ≤ 8 * from
  low_live r (inl e) = omega arith
  low_live r (inr l) = let q : Placed t lo (8 * from) r = g.heap.placed r l in omega (arith, q.within, q.whole)

  pub between : (m₀ done todo : List ℕ) (at page waiting : ℕ) (x m : List ℕ) → SoFar h t m₀ ls ws lo from done todo at page waiting x m → Between t lo done todo at
  between m₀ done todo at page waiting x m a =
      record {
        spaced = subst (Spaced t lo) a.split spaced_all;
        fit = λ r i. let q : Placed t lo (8 * from) r = placed_in r (subst (In r) (sym a.split) i) in omega (arith, q.within, g.near);
        ends = a.ends;
        starts = a.starts;
      }

  pub length_so_far : (m₀ done todo : List ℕ) (at page waiting : ℕ) (x m : List ℕ) → SoFar h t m₀ ls ws lo from done todo at page waiting x m →
      length (x ++ waits waiting m) ≡ 8 * added_up (units_at t) done
  length_so_far m₀ done todo at page waiting x m a =
      omega (arith, length-append x (waits waiting m), length-take-le waiting (drop rest_at m) (omega (arith, length-drop rest_at m, a.stays.long, a.less)), a.sum)

  -- ONE MORE
  module _ (m₀ done todo : List ℕ) (r at page waiting : ℕ) (x m : List ℕ) (a : SoFar h t m₀ ls ws lo from done (r ∷ todo) at page waiting x m) where
    in_r : In r ls
    in_r = subst (In r) (sym a.split) (in_right r done (r ∷ todo) (inl refl))

    pub placed_r : Placed t lo (8 * from) r
    placed_r = placed_in r in_r

    o : List ℕ
    o = object_at t r

    size : length o ≡ size_in (heading_at t r)
    unfolding o
    size = length_object t lo (8 * from) r placed_r (omega (arith, g.tape))

    whole : 2 + references_in (get_or o 0 0) ≤ length o
    unfolding o
    whole = whole_object t lo (8 * from) r placed_r (omega (arith, g.tape))

    -- the object comes whole
    pub on_tape : 8 * (r - 1) + size_in (heading_at t r) ≤ 64 * from
    on_tape = omega (arith, placed_r.within)

    pub heading_on : get_or (t ++ x) (8 * (r - 1)) 0 ≡ heading_at t r
    heading_on = get_or_append_left t x 0 (8 * (r - 1)) (omega (arith, on_tape, placed_r.whole, g.tape))

    pub wanted_is : wanted buffer_words (get_or (t ++ x) (8 * (r - 1)) 0) ≡ size_in (heading_at t r)
    wanted_is = ap (wanted buffer_words) heading_on ∙ omega (arith, placed_r.whole, placed_r.short)

    pub comes : take (wanted buffer_words (get_or (t ++ x) (8 * (r - 1)) 0)) (drop (8 * (r - 1)) (t ++ x)) ≡ object_at t r
    unfolding object_at
    comes =
        ap (λ k. take k (drop (8 * (r - 1)) (t ++ x))) wanted_is
        ∙ part_of_append (size_in (heading_at t r)) (8 * (r - 1)) t x (omega (arith, on_tape, g.tape))

    -- in memory
    abbrev came : List ℕ
    came = over 0 (object_at t r) m

    pub stays_came : Stays m₀ ws h came
    unfolding o
    stays_came = stays_over m₀ ws h m 0 (object_at t r) (omega (arith, size, placed_r.short)) a.stays

    heading_came : get_or came 0 0 ≡ heading_at t r
    unfolding o
    heading_came =
        get_or_append_left (object_at t r) (drop (0 + length (object_at t r)) m) 0 0 (omega (arith, size, placed_r.whole))
        ∙ heading_is t lo (8 * from) r placed_r (omega (arith, g.tape))

    -- under its new names
    abbrev many : ℕ
    many = min (references_in (get_or came 0 0)) 4096

    abbrev anew : List ℕ
    anew = renaming lo from 2 many came

    stays_anew : Stays m₀ ws h anew
    stays_anew =
        stays_over m₀ ws h came 2 (each (new_name lo from came) (take many (drop 2 came)))
        (omega (arith, length_each (new_name lo from came) (take many (drop 2 came)), length-take many (drop 2 came))) stays_came

    names_alike : (s : ℕ) → In s (references_of (object_at t r)) → new_name lo from came s ≡ name_by lo from ws s
    names_alike s i =
        named_in m₀ ws h came lo from s stays_came g.words_small (omega (arith, g.bounded))
        (low_live s (named_lives t (roots_of h) r s (live_in r in_r) i))

    anew_is : anew ≡ renamed (name_by lo from ws) (object_at t r) ++ drop (0 + length (object_at t r)) m
    unfolding o
    anew_is =
        let e : many ≡ references_in (get_or (object_at t r) 0 0) =
        omega (arith, ap references_in heading_came, ap references_in (heading_is t lo (8 * from) r placed_r (omega (arith, g.tape))), placed_r.few) in
        ap (λ k. renaming lo from 2 k came) e
        ∙ renamed_front (new_name lo from came) (object_at t r) whole (drop (0 + length (object_at t r)) m)
        ∙ ap (λ xs. (take 2 (object_at t r) ++ (xs ++ data_of (object_at t r))) ++ drop (0 + length (object_at t r)) m)
        (each_alike (new_name lo from came) (name_by lo from ws) (references_of (object_at t r)) names_alike)

    waits_anew : waits waiting anew ≡ waits waiting m
    unfolding o
    waits_anew =
        ap (take waiting)
        (over_drop 2 rest_at (each (new_name lo from came) (take many (drop 2 came))) came
        (omega (arith, length_each (new_name lo from came) (take many (drop 2 came)), length-take many (drop 2 came))) (omega (arith, stays_came.long))
        ∙ over_drop 0 rest_at (object_at t r) m (omega (arith, size, placed_r.short)) (omega arith))

    -- packed
    abbrev words : ℕ
    words = 8 * units_at t r

    few_words : words ≤ 41024
    few_words = omega (arith, placed_r.short)

    abbrev pack : List ℕ
    pack = packed waiting words anew

    abbrev pages_now : ℕ
    pages_now = (waiting + words) / 64

    abbrev waiting_now : ℕ
    waiting_now = (waiting + words) % 64

    pub stays_pack : Stays m₀ ws h pack
    stays_pack = stays_packed m₀ ws h anew waiting words stays_anew a.less few_words

    all_now : (x ++ take (64 * pages_now) pack) ++ waits waiting_now pack ≡ (x ++ waits waiting m) ++ take words anew
    all_now =
        append_assoc x (take (64 * pages_now) pack) (waits waiting_now pack)
        ∙ ap (λ xs. x ++ xs) (packs m₀ ws h anew waiting words stays_anew a.less few_words ∙ ap (λ xs. xs ++ take words anew) waits_anew)
        ∙ sym (append_assoc x (waits waiting m) (take words anew))

    length_all : length (x ++ waits waiting m) ≡ 8 * added_up (units_at t) done
    length_all = length_so_far m₀ done (r ∷ todo) at page waiting x m a

    off_r : off_by lo ws r ≡ added_up (units_at t) done
    off_r = offsets done todo r a.split

    there_old : (s : ℕ) → In s done →
        take (size_in (heading_at t s)) (drop (8 * off_by lo ws s) ((x ++ waits waiting m) ++ take words anew)) ≡ renamed (name_by lo from ws) (object_at t s)
    there_old s i =
        let j : In s ls = subst (In s) (sym a.split) (in_left s done (r ∷ todo) i) in
        let lt : s < r = (rising_parts done (r ∷ todo) (subst (Spaced t lo) a.split spaced_all).rise).2 s r i (inl refl) in
        part_of_append (size_in (heading_at t s)) (8 * off_by lo ws s) (x ++ waits waiting m) (take words anew)
        (omega (arith, length_all, off_r, off_next t ls (off_by lo ws) g.lives.rise offsets s r j in_r lt))
        ∙ a.there s i

    there_new : take (size_in (heading_at t r)) (drop (8 * off_by lo ws r) ((x ++ waits waiting m) ++ take words anew)) ≡ renamed (name_by lo from ws) (object_at t r)
    unfolding o
    there_new =
        ap (take (size_in (heading_at t r))) (drop_at (x ++ waits waiting m) (take words anew) (8 * off_by lo ws r) (omega (arith, length_all, off_r)))
        ∙ take-take (size_in (heading_at t r)) words anew (omega arith)
        ∙ ap (take (size_in (heading_at t r))) anew_is
        ∙ take_at (renamed (name_by lo from ws) (object_at t r)) (drop (0 + length (object_at t r)) m) (size_in (heading_at t r))
        (length_renamed (name_by lo from ws) (object_at t r) whole ∙ size)

    length_laid : length (take (64 * pages_now) pack) ≡ 64 * pages_now
    length_laid = length-take-le (64 * pages_now) pack (omega (arith, stays_pack.long, a.less, few_words))

    units_now : added_up (units_at t) (done ++ r ∷ []) ≡ added_up (units_at t) done + units_at t r
    unfolding added_up
    units_now = added_up_append (units_at t) done (r ∷ []) ∙ omega arith

    pub so_far_next : SoFar h t m₀ ls ws lo from (done ++ r ∷ []) todo ((r - 1 - lo) + units_at t r) (page + pages_now) waiting_now (x ++ take (64 * pages_now) pack) pack
    so_far_next =
        record {
          split = a.split ∙ sym (append_assoc done (r ∷ []) todo);
          ends = λ s i. ends s (in_append s done (r ∷ []) i);
          starts = starts;
          stays = stays_pack;
          less = omega arith;
          pages = omega (arith, length-append x (take (64 * pages_now) pack), length_laid, a.pages);
          sum = omega (arith, length-append x (take (64 * pages_now) pack), length_laid, a.sum, units_now);
          there =
              λ s i. ap (λ xs. take (size_in (heading_at t s)) (drop (8 * off_by lo ws s) xs)) all_now ∙ there s (in_append s done (r ∷ []) i);
        }
      where
        up : lo + at ≤ r - 1
        up = a.starts r (inl refl)

        ends : (s : ℕ) → In s done ⊎ In s (r ∷ []) → (s - 1) + units_at t s ≤ lo + ((r - 1 - lo) + units_at t r)
        ends s (inl i) = omega (arith, up, a.ends s i)
        ends s (inr (inl e)) = subst (λ y. (y - 1) + units_at t y ≤ lo + ((r - 1 - lo) + units_at t r)) e (omega (arith, up))
        ends s (inr (inr i)) = absurd i

        starts : (s : ℕ) → In s todo → lo + ((r - 1 - lo) + units_at t r) ≤ s - 1
        starts s i =
            let j : In s ls = subst (In s) (sym a.split) (in_right s done (r ∷ todo) (inr i)) in
            let lt : r < s = (rising_parts (r ∷ []) todo (rising_parts done (r ∷ todo) (subst (Spaced t lo) a.split spaced_all).rise).1).2 r s (inl refl) i in
            omega (arith, up, spaced_all.apart r s in_r j lt)

        there : (s : ℕ) → In s done ⊎ In s (r ∷ []) →
            take (size_in (heading_at t s)) (drop (8 * off_by lo ws s) ((x ++ waits waiting m) ++ take words anew)) ≡ renamed (name_by lo from ws) (object_at t s)
        there s (inl i) = there_old s i
        there s (inr (inl e)) =
            subst
            (λ y. take (size_in (heading_at t y)) (drop (8 * off_by lo ws y) ((x ++ waits waiting m) ++ take words anew)) ≡ renamed (name_by lo from ws) (object_at t y)) e
            there_new
        there s (inr (inr i)) = absurd i

    -- so the control goes on to lay it
    pub copied_is : (w : Walk) → w.first ≡ lo →
        copied (sweep Copying w (r - 1 - lo) from page waiting) came ≡ laying w ((r - 1 - lo) + units_at t r) from page waiting_now pack pages_now
    copied_is w first =
        let a₁ : capped ((r - 1 - lo) + units_at t r) ≡ (r - 1 - lo) + units_at t r = omega (arith, placed_r.within, g.bounded) in
        let b₁ : (min waiting 63 + min words 41024) % 64 ≡ waiting_now =
        ap₂ (λ y z. (y + z) % 64) (let e : min waiting 63 ≡ waiting = omega (arith, a.less) in e) (let e : min words 41024 ≡ words = omega (arith, few_words) in e) in
        ap₂
        (λ y f.
        laying w (capped ((r - 1 - lo) + units (size_in y))) from page ((min waiting 63 + min (8 * units (size_in y)) 41024) % 64)
        (packed waiting (8 * units (size_in y)) (renaming f from 2 many came)) (pages_packed waiting (8 * units (size_in y)) came)) heading_came first
        ∙ ap₂ (λ y z. laying w y from page z pack (pages_packed waiting words came)) a₁ b₁
        ∙ ap (laying w ((r - 1 - lo) + units_at t r) from page waiting_now pack) (pages_packed_are m₀ ws h came waiting words stays_came a.less few_words)
