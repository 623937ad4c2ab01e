-- What packing, filling and renaming leave in memory, and what stays whatever is written in front of the head. Assumes nothing.
use Rattle.std.proofs.Common.{◌≡◌, ℕ, ◌+◌, ◌-◌, ◌*◌, ◌/◌, ◌%◌, ◌<◌, ◌≤◌, min, true, ltb, List, ◌∷◌, ◌++◌, length, get_or, take, drop, sym, ap, ◌∙◌, subst, ap₂, arith, length-append, length-drop, length-take}
use Rattle.std.proofs.lemmas.List.{get_or_append_left, get_or-take, length-take-le, take_at, take_all, take-take, take-append-le, take-append-drop, drop_at, drop-drop, drop-append-le, append_assoc}
use Rattle.std.proofs.lemmas.Bool.{le-ltb}
use Rattle.pages.specs.Lists.{pick, each, zeros}
use Rattle.pages.specs.Words.{over, small}
use Rattle.pages.specs.Engine.{bulk_cells}
use Rattle.pages.specs.Machine.{capped}
use Rattle.pages.specs.Object.{references_in, references_of, data_of}
use Rattle.pages.proofs.ListLaws.{In, length_each, each_alike, pick_false}
use Rattle.pages.proofs.WordLaws.{length_over, length_zeros}
use Rattle.store.specs.Bitmap.{bit}
use Rattle.objects.specs.Plan.{rest_at, head_at, map_at, counts_at, counts_words, plan_end, map_of, counts_of, map_words}
use Rattle.objects.specs.Ranks.{count_below, counts, ranked}
use Rattle.objects.specs.Packing.{gathered, pages_in, kept_back, packed, pages_packed, filled}
use Rattle.objects.specs.Sweeping.{roots_of, renamed, new_name, new_head}
use Rattle.objects.proofs.CountLaws.{count_bounded}
use Rattle.objects.proofs.PlanLaws.{part_of_append, over_drop, over_behind, over_part, over_part_before}
use Rattle.objects.proofs.RankLaws.{ranks}

-- WHAT STAYS while a sweep copies: the map and its counts, the head, and what lies behind the plan
pub record Stays (m₀ ws h m : List ℕ) : Type 0 where
  pub long : length m ≡ bulk_cells
  pub map_is : map_of m ≡ ws
  pub counts_are : counts_of m ≡ counts counts_words ws
  pub head_is : take 32 (drop head_at m) ≡ h
  pub behind : (i : ℕ) → plan_end ≤ i → get_or m i 0 ≡ get_or m₀ i 0

pub stays_over : (m₀ ws h m : List ℕ) (g : ℕ) (new : List ℕ) → g + length new ≤ head_at → Stays m₀ ws h m → Stays m₀ ws h (over g new m)
stays_over m₀ ws h m g new fits s =
    let long : length m ≡ bulk_cells = s.long in
    record {
      long = length_over g new m (omega arith) ∙ s.long;
      map_is = ap (take map_words) (over_drop g map_at new m (omega arith) (omega arith)) ∙ s.map_is;
      counts_are = ap (take counts_words) (over_drop g counts_at new m (omega arith) (omega arith)) ∙ s.counts_are;
      head_is = ap (take 32) (over_drop g head_at new m fits (omega arith)) ∙ s.head_is;
      behind = λ i l. over_behind g i new m (omega arith) (omega arith) ∙ s.behind i l;
    }

-- NEW NAMES: an object's new unit is the first new one and the number of units marked below its old one
abbrev pub name_by : ℕ → ℕ → List ℕ → ℕ → ℕ
name_by lo from ws r = pick (ltb lo r) (8 * from + count_below (bit ws) (r - 1 - lo) + 1) 0

pub named_in : (m₀ ws h m : List ℕ) (lo from r : ℕ) → Stays m₀ ws h m → small ws ≡ true → 64 * from < 18446744073709551616 → r ≤ 8 * from →
    new_name lo from m r ≡ name_by lo from ws r
named_in m₀ ws h m lo from r s few cap low =
    let long : length m ≡ bulk_cells = s.long in
    let rank : ranked m (r - 1 - lo) ≡ count_below (bit ws) (r - 1 - lo) =
    ranks m (r - 1 - lo) (omega arith) (ap small s.map_is ∙ few) (s.counts_are ∙ ap (counts counts_words) (sym s.map_is))
    ∙ ap (λ xs. count_below (bit xs) (r - 1 - lo)) s.map_is in
    let e : capped (capped (ranked m (r - 1 - lo) + capped (8 * from)) + 1) ≡ 8 * from + count_below (bit ws) (r - 1 - lo) + 1 =
    omega (arith, count_bounded (bit ws) (r - 1 - lo)) in
    ap (λ x. pick (ltb lo r) x 0) e

-- OBJECTS UNDER NEW NAMES
module _ (f : ℕ → ℕ) (o : List ℕ) (whole : 2 + references_in (get_or o 0 0) ≤ length o) where
  names_length : length (references_of o) ≡ references_in (get_or o 0 0)
  names_length = length-take-le (references_in (get_or o 0 0)) (drop 2 o) (omega (arith, length-drop 2 o))

  front_length : length (take 2 o) ≡ 2
  front_length = length-take-le 2 o (omega arith)

  each_length : length (each f (references_of o)) ≡ references_in (get_or o 0 0)
  each_length = length_each f (references_of o) ∙ names_length

  pub length_renamed : length (renamed f o) ≡ length o
  length_renamed =
      omega (
        arith,
        length-append (take 2 o) (each f (references_of o) ++ data_of o),
        length-append (each f (references_of o)) (data_of o),
        each_length,
        front_length,
        length-drop (2 + references_in (get_or o 0 0)) o,
      )

  pub heading_renamed : get_or (renamed f o) 0 0 ≡ get_or o 0 0
  heading_renamed = get_or_append_left (take 2 o) (each f (references_of o) ++ data_of o) 0 0 (omega (arith, front_length)) ∙ get_or-take 2 o 0 0 (omega arith)

  pub references_renamed : references_of (renamed f o) ≡ each f (references_of o)
  references_renamed =
      ap₂ (λ x xs. take (references_in x) xs) heading_renamed (drop_at (take 2 o) (each f (references_of o) ++ data_of o) 2 front_length)
      ∙ take_at (each f (references_of o)) (data_of o) (references_in (get_or o 0 0)) each_length

  -- an object at the front of memory
  pub renamed_front : (rest : List ℕ) → over 2 (each f (take (references_in (get_or o 0 0)) (drop 2 (o ++ rest)))) (o ++ rest) ≡ renamed f o ++ rest
  renamed_front rest =
      ap (λ xs. over 2 (each f xs) (o ++ rest)) (part_of_append (references_in (get_or o 0 0)) 2 o rest whole)
      ∙ ap₂ (λ xs ys. xs ++ (each f (references_of o) ++ ys)) (take-append-le 2 o rest (omega arith))
      (ap (λ k. drop (2 + k) (o ++ rest)) each_length ∙ drop-append-le (2 + references_in (get_or o 0 0)) o rest whole)
      ∙ ap (λ xs. take 2 o ++ xs) (sym (append_assoc (each f (references_of o)) (data_of o) rest))
      ∙ sym (append_assoc (take 2 o) (each f (references_of o) ++ data_of o) rest)

-- THE NEW HEAD
abbrev pub head_under : (ℕ → ℕ) → ℕ → ℕ → List ℕ → List ℕ
head_under f from page h = from ∷ page ∷ (each f (roots_of h) ++ drop 10 h)

module _ (f : ℕ → ℕ) (from page : ℕ) (h : List ℕ) (long : length h ≡ 32) where
  roots_length : length (each f (roots_of h)) ≡ 8
  roots_length = length_each f (roots_of h) ∙ length-take-le 8 (drop 2 h) (omega (arith, length-drop 2 h))

  pub length_head_under : length (head_under f from page h) ≡ 32
  length_head_under = omega (arith, length-append (each f (roots_of h)) (drop 10 h), roots_length, length-drop 10 h)

  pub roots_under : roots_of (head_under f from page h) ≡ each f (roots_of h)
  roots_under = take_at (each f (roots_of h)) (drop 10 h) 8 roots_length

  pub others_under : drop 10 (head_under f from page h) ≡ drop 10 h
  others_under = drop_at (each f (roots_of h)) (drop 10 h) 8 roots_length

  head_put : (rest : List ℕ) → over 2 (each f (take 8 (drop 2 ((from ∷ page ∷ drop 2 h) ++ rest)))) ((from ∷ page ∷ drop 2 h) ++ rest) ≡ head_under f from page h ++ rest
  head_put rest =
      ap (λ xs. over 2 (each f xs) ((from ∷ page ∷ drop 2 h) ++ rest)) (take-append-le 8 (drop 2 h) rest (omega (arith, length-drop 2 h)))
      ∙ ap (λ k. from ∷ page ∷ (each f (roots_of h) ++ drop (2 + k) ((from ∷ page ∷ drop 2 h) ++ rest))) roots_length
      ∙ ap (λ xs. from ∷ page ∷ (each f (roots_of h) ++ xs)) (drop-append-le 8 (drop 2 h) rest (omega (arith, length-drop 2 h)) ∙ ap (λ xs. xs ++ rest) (drop-drop 8 2 h))
      ∙ ap (λ xs. from ∷ page ∷ xs) (sym (append_assoc (each f (roots_of h)) (drop 10 h) rest))

-- in memory
abbrev head_over : ℕ → ℕ → List ℕ → List ℕ
head_over from page m = over 0 (from ∷ page ∷ drop 2 (take 32 (drop head_at m))) m

module _ (m₀ ws h m : List ℕ) (lo from page : ℕ) (s : Stays m₀ ws h m) (few : small ws ≡ true) (cap : 64 * from < 18446744073709551616) (h_long : length h ≡ 32)
    (low : (r : ℕ) → In r (roots_of h) → r ≤ 8 * from) where
  over_length : length (from ∷ page ∷ drop 2 (take 32 (drop head_at m))) ≡ 32
  over_length = ap (λ xs. length (from ∷ page ∷ drop 2 xs)) s.head_is ∙ omega (arith, length-drop 2 h)

  stays_first : Stays m₀ ws h (head_over from page m)
  stays_first = stays_over m₀ ws h m 0 (from ∷ page ∷ drop 2 (take 32 (drop head_at m))) (omega (arith, over_length)) s

  first_is : head_over from page m ≡ (from ∷ page ∷ drop 2 h) ++ drop 32 m
  first_is =
      ap₂ (λ xs k. (from ∷ page ∷ drop 2 xs) ++ drop k m) s.head_is (let e : 0 + length (from ∷ page ∷ drop 2 (take 32 (drop head_at m))) ≡ 32 = omega (arith, over_length) in e)

  new_head_is : new_head lo from page m ≡ head_under (new_name lo from (head_over from page m)) from page h ++ drop 32 m
  new_head_is =
      ap (λ xs. over 2 (each (new_name lo from (head_over from page m)) (take 8 (drop 2 xs))) xs) first_is
      ∙ head_put (new_name lo from (head_over from page m)) from page h h_long (drop 32 m)

  pub head_there : take 32 (new_head lo from page m) ≡ head_under (name_by lo from ws) from page h
  head_there =
      ap (take 32) new_head_is
      ∙ take_at (head_under (new_name lo from (head_over from page m)) from page h) (drop 32 m) 32 (length_head_under (new_name lo from (head_over from page m)) from page h h_long)
      ∙ ap (λ xs. from ∷ page ∷ (xs ++ drop 10 h))
      (each_alike (new_name lo from (head_over from page m)) (name_by lo from ws) (roots_of h) (λ r i. named_in m₀ ws h (head_over from page m) lo from r stays_first few cap (low r i)))

  pub stays_new_head : Stays m₀ ws h (new_head lo from page m)
  stays_new_head =
      stays_over m₀ ws h (head_over from page m) 2 (each (new_name lo from (head_over from page m)) (take 8 (drop 2 (head_over from page m))))
      (omega (arith, length_each (new_name lo from (head_over from page m)) (take 8 (drop 2 (head_over from page m))), length-take 8 (drop 2 (head_over from page m))))
      stays_first

-- PACKING: what waits and what came are whole pages and what waits from now on
abbrev pub waits : ℕ → List ℕ → List ℕ
waits waiting m = take waiting (drop rest_at m)

module _ (m₀ ws h m : List ℕ) (waiting words : ℕ) (s : Stays m₀ ws h m) (less : waiting ≤ 63) (fits : words ≤ 41024) where
  all : List ℕ
  all = waits waiting m ++ take words m

  pages : ℕ
  pages = (waiting + words) / 64

  laid_out : List ℕ
  laid_out = over 0 all m

  waits_length : length (waits waiting m) ≡ waiting
  waits_length = length-take-le waiting (drop rest_at m) (omega (arith, length-drop rest_at m, s.long))

  all_length : length all ≡ waiting + words
  unfolding all
  all_length = omega (arith, length-append (waits waiting m) (take words m), waits_length, length-take words m, s.long)

  packed_is : packed waiting words m ≡ kept_back pages laid_out
  unfolding packed pages laid_out all
  packed_is =
      let a : min waiting 63 ≡ waiting = omega arith in
      let b : min words 41024 ≡ words = omega arith in
      pick_false (ltb (length m) plan_end) m (kept_back (pages_in waiting words) (over 0 (gathered waiting words m) m)) (le-ltb (length m) plan_end (omega (arith, s.long)))
      ∙ ap₂ (λ x y. kept_back ((x + y) / 64) (over 0 (take x (drop rest_at m) ++ take y m) m)) a b

  pub pages_packed_are : pages_packed waiting words m ≡ (waiting + words) / 64
  unfolding pages_packed
  pages_packed_are =
      let a : min waiting 63 ≡ waiting = omega arith in
      let b : min words 41024 ≡ words = omega arith in
      pick_false (ltb (length m) plan_end) 0 (pages_in waiting words) (le-ltb (length m) plan_end (omega (arith, s.long)))
      ∙ ap₂ (λ x y. (x + y) / 64) a b

  stays_laid_out : Stays m₀ ws h laid_out
  unfolding laid_out
  stays_laid_out = stays_over m₀ ws h m 0 all (omega (arith, all_length)) s

  back_length : length (take 64 (drop (64 * pages) laid_out)) ≡ 64
  unfolding pages
  back_length = length-take-le 64 (drop (64 * pages) laid_out) (omega (arith, length-drop (64 * pages) laid_out, stays_laid_out.long))

  pub stays_packed : Stays m₀ ws h (packed waiting words m)
  stays_packed =
      subst (Stays m₀ ws h) (sym packed_is)
      (stays_over m₀ ws h laid_out rest_at (take 64 (drop (64 * pages) laid_out)) (omega (arith, back_length)) stays_laid_out)

  -- the pages are the first words gathered, and what waits are the others
  front_packed : take (64 * pages) (packed waiting words m) ≡ take (64 * pages) all
  unfolding pages laid_out
  front_packed =
      ap (take (64 * pages)) packed_is
      ∙ over_part_before rest_at (64 * pages) 0 (take 64 (drop (64 * pages) laid_out)) laid_out (omega arith) (omega (arith, stays_laid_out.long))
      ∙ take-append-le (64 * pages) all (drop (0 + length all) m) (omega (arith, all_length))

  back_packed : waits ((waiting + words) % 64) (packed waiting words m) ≡ drop (64 * pages) all
  unfolding pages laid_out
  back_packed =
      let w : ℕ = (waiting + words) % 64 in
      ap (waits w) packed_is ∙ sym (take-take w 64 (drop rest_at (kept_back pages laid_out)) (omega arith))
      ∙ ap (take w) (over_part rest_at 64 (take 64 (drop (64 * pages) laid_out)) laid_out back_length (omega (arith, stays_laid_out.long)))
      ∙ take-take w 64 (drop (64 * pages) laid_out) (omega arith)
      ∙ part_of_append w (64 * pages) all (drop (0 + length all) m) (omega (arith, all_length))
      ∙ take_all w (drop (64 * pages) all) (omega (arith, length-drop (64 * pages) all, all_length))

  pub packs : take (64 * ((waiting + words) / 64)) (packed waiting words m) ++ waits ((waiting + words) % 64) (packed waiting words m) ≡ waits waiting m ++ take words m
  unfolding pages all
  packs = ap₂ (λ xs ys. xs ++ ys) front_packed back_packed ∙ take-append-drop (64 * pages) all

-- a page filled up
module _ (m₀ ws h m : List ℕ) (waiting : ℕ) (s : Stays m₀ ws h m) (less : waiting ≤ 63) where
  filled_is : filled waiting m ≡ over 0 (waits waiting m ++ zeros (64 - waiting)) m
  unfolding filled
  filled_is =
      let a : min waiting 63 ≡ waiting = omega arith in
      pick_false (ltb (length m) plan_end) m (over 0 (take (min waiting 63) (drop rest_at m) ++ zeros (64 - min waiting 63)) m) (le-ltb (length m) plan_end (omega (arith, s.long)))
      ∙ ap (λ x. over 0 (take x (drop rest_at m) ++ zeros (64 - x)) m) a

  filled_length : length (waits waiting m ++ zeros (64 - waiting)) ≡ 64
  filled_length =
      omega (
        arith,
        length-append (waits waiting m) (zeros (64 - waiting)),
        length-take-le waiting (drop rest_at m) (omega (arith, length-drop rest_at m, s.long)),
        length_zeros (64 - waiting),
      )

  pub stays_filled : Stays m₀ ws h (filled waiting m)
  stays_filled = subst (Stays m₀ ws h) (sym filled_is) (stays_over m₀ ws h m 0 (waits waiting m ++ zeros (64 - waiting)) (omega (arith, filled_length)) s)

  pub fills : take 64 (filled waiting m) ≡ waits waiting m ++ zeros (64 - waiting)
  fills =
      ap (take 64) filled_is
      ∙ take_at (waits waiting m ++ zeros (64 - waiting)) (drop (0 + length (waits waiting m ++ zeros (64 - waiting))) m) 64 filled_length
