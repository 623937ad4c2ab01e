-- What the code of packing and renaming leaves, step by step. Assumes nothing.
use Rattle.std.proofs.Common.{◌≡◌, ℕ, ◌+◌, ◌-◌, ◌*◌, ◌/◌, ◌<◌, ◌≤◌, min, ltb, List, [], ◌∷◌, ◌++◌, length, get_or, take, drop, set, sym, refl, ap, ◌∙◌, ap₂, arith, length-drop}
use Rattle.std.proofs.lemmas.List.{drop-drop, get_or-drop, length-take-le, take_more}
use Rattle.std.proofs.lemmas.Bool.{lt-ltb, le-ltb}
use Rattle.pages.specs.Lists.{each, pick, zeros}
use Rattle.pages.specs.Machine.{capped}
use Rattle.pages.specs.Words.{over}
use Rattle.pages.proofs.ListLaws.{each_append, length_each, pick_true, pick_false}
use Rattle.pages.proofs.WordLaws.{length_over}
use Rattle.objects.specs.Packing.{filled, gathered, kept_back, packed, pages_in, pages_packed}
use Rattle.objects.specs.Plan.{counts_of, counts_words, head_at, map_at, map_of, map_units, map_words, plan_end, rest_at}
use Rattle.objects.specs.Ranks.{ranked, ranked_by}
use Rattle.objects.specs.Sweeping.{new_head, new_name, renaming}
use Rattle.objects.proofs.OverLaws.{over_after, over_before_part, over_nothing, over_push}
use Rattle.objects.proofs.PlanLaws.{over_behind, over_drop}

-- PACKING: a memory that is too short is left alone
pub packed_short : (waiting words : ℕ) (m : List ℕ) → length m < plan_end → packed waiting words m ≡ m
unfolding packed
packed_short waiting words m h =
    pick_true (ltb (length m) plan_end) m (kept_back (pages_in waiting words) (over 0 (gathered waiting words m) m)) (lt-ltb (length m) plan_end h)

pub pages_packed_short : (waiting words : ℕ) (m : List ℕ) → length m < plan_end → pages_packed waiting words m ≡ 0
unfolding pages_packed
pages_packed_short waiting words m h = pick_true (ltb (length m) plan_end) 0 (pages_in waiting words) (lt-ltb (length m) plan_end h)

pub pages_packed_is : (waiting words : ℕ) (m : List ℕ) → plan_end ≤ length m → pages_packed waiting words m ≡ pages_in waiting words
unfolding pages_packed
pages_packed_is waiting words m h = pick_false (ltb (length m) plan_end) 0 (pages_in waiting words) (le-ltb (length m) plan_end h)

-- what waits is put in front of what was moved up
pub put_in_front : (w n : ℕ) (m : List ℕ) → plan_end ≤ length m → w ≤ 63 → n ≤ 41024 →
    over 0 (take w (drop rest_at (over w (take n m) m))) (over w (take n m) m) ≡ over 0 (take w (drop rest_at m) ++ take n m) m
put_in_front w n m h wl nl =
    ap (λ z. over 0 (take w z) (over w (take n m) m)) (over_drop w rest_at (take n m) m (omega (arith, long)) (omega arith))
    ∙ ap (λ k. over 0 (take w (drop rest_at m)) (over k (take n m) m)) e
    ∙ over_before_part 0 (take w (drop rest_at m)) (take n m) m (omega (arith, waits))
  where
    long : length (take n m) ≡ n
    long = length-take-le n m (omega arith)

    waits : length (take w (drop rest_at m)) ≡ w
    waits = length-take-le w (drop rest_at m) (omega (arith, length-drop rest_at m))

    e : w ≡ 0 + length (take w (drop rest_at m))
    e = omega (arith, waits)

pub packed_is : (waiting words w n : ℕ) (m : List ℕ) → plan_end ≤ length m → w ≡ min waiting 63 → n ≡ min words 41024 →
    kept_back ((w + n) / 64) (over 0 (take w (drop rest_at m) ++ take n m) m) ≡ packed waiting words m
unfolding packed
packed_is waiting words w n m h e f =
    ap₂ (λ w n. kept_back ((w + n) / 64) (over 0 (take w (drop rest_at m) ++ take n m) m)) e f
    ∙ sym (pick_false (ltb (length m) plan_end) m (kept_back (pages_in waiting words) (over 0 (gathered waiting words m) m)) (le-ltb (length m) plan_end h))

-- FILLING UP
pub filled_short : (waiting : ℕ) (m : List ℕ) → length m < plan_end → filled waiting m ≡ m
unfolding filled
filled_short waiting m h =
    pick_true (ltb (length m) plan_end) m (over 0 (take (min waiting 63) (drop rest_at m) ++ zeros (64 - min waiting 63)) m) (lt-ltb (length m) plan_end h)

pub filled_is : (waiting w : ℕ) (m : List ℕ) → plan_end ≤ length m → w ≡ min waiting 63 →
    over w (zeros (64 - w)) (over 0 (take w (drop rest_at m)) m) ≡ filled waiting m
unfolding filled
filled_is waiting w m h e =
    ap (λ k. over k (zeros (64 - w)) (over 0 (take w (drop rest_at m)) m)) at
    ∙ over_after 0 (take w (drop rest_at m)) (zeros (64 - w)) m (omega (arith, waits))
    ∙ ap (λ k. over 0 (take k (drop rest_at m) ++ zeros (64 - k)) m) e
    ∙ sym (pick_false (ltb (length m) plan_end) m (over 0 (take (min waiting 63) (drop rest_at m) ++ zeros (64 - min waiting 63)) m) (le-ltb (length m) plan_end h))
  where
    waits : length (take w (drop rest_at m)) ≡ w
    waits = length-take-le w (drop rest_at m) (omega (arith, length-drop rest_at m))

    at : w ≡ 0 + length (take w (drop rest_at m))
    at = omega (arith, waits)

-- RENAMING: a rank depends on the map and its counts alone
ranked_alike : (m x : List ℕ) (u : ℕ) → length x ≡ length m → drop map_at x ≡ drop map_at m → ranked x u ≡ ranked m u
unfolding ranked
ranked_alike m x u l e =
    ap (λ n. pick (ltb n plan_end) 0 (ranked_by (counts_of x) (map_of x) (min u map_units))) l
    ∙ ap₂ (λ cs ws. pick (ltb (length m) plan_end) 0 (ranked_by cs ws (min u map_units)))
    (ap (take counts_words) (sym (drop-drop map_words map_at x) ∙ ap (drop map_words) e ∙ drop-drop map_words map_at m)) (ap (take map_words) e)

pub renamed_none : (first from at : ℕ) (m : List ℕ) → at ≤ length m → m ≡ renaming first from at (at - at) m
renamed_none first from at m h = sym (ap (λ k. renaming first from at k m) e ∙ over_nothing at m h)
  where
    e : at - at ≡ 0
    e = omega arith

pub renamed_more : (first from at i : ℕ) (m x : List ℕ) → plan_end ≤ length m → at ≤ i → i < 41088 → x ≡ renaming first from at (i - at) m →
    set x i (new_name first from x (get_or x i 0)) ≡ renaming first from at (i + 1 - at) m
renamed_more first from at i m x h lo hi e =
    ap (set x i) (ap (λ k. pick (ltb first (get_or x i 0)) (capped (capped (k + capped (8 * from)) + 1)) 0) (ranked_alike m x (get_or x i 0 - 1 - first) same_length same_map) ∙ ap name word)
    ∙ ap₂ (λ y k. set y k (name (get_or m i 0))) e place
    ∙ over_push at new m (name (get_or m i 0)) (omega (arith, long))
    ∙ ap (λ z. over at z m) (sym (each_append name (take (i - at) (drop at m)) (get_or m i 0 ∷ [])) ∙ ap (each name) (sym all))
  where
    name : ℕ → ℕ
    name = new_name first from m

    new : List ℕ
    new = each (new_name first from m) (take (i - at) (drop at m))

    long : length (each (new_name first from m) (take (i - at) (drop at m))) ≡ i - at
    long = length_each (new_name first from m) (take (i - at) (drop at m)) ∙ length-take-le (i - at) (drop at m) (omega (arith, length-drop at m))

    place : i ≡ at + length (each (new_name first from m) (take (i - at) (drop at m)))
    place = omega (arith, long)

    same_length : length x ≡ length m
    same_length = ap length e ∙ length_over at (each (new_name first from m) (take (i - at) (drop at m))) m (omega (arith, long))

    same_map : drop map_at x ≡ drop map_at m
    same_map = ap (drop map_at) e ∙ over_drop at map_at (each (new_name first from m) (take (i - at) (drop at m))) m (omega (arith, long)) (omega arith)

    word : get_or x i 0 ≡ get_or m i 0
    word = ap (λ y. get_or y i 0) e ∙ over_behind at i (each (new_name first from m) (take (i - at) (drop at m))) m (omega (arith, long)) (omega arith)

    more : i + 1 - at ≡ i - at + 1
    more = omega arith

    here : at + (i - at) ≡ i
    here = omega arith

    all : take (i + 1 - at) (drop at m) ≡ take (i - at) (drop at m) ++ get_or m i 0 ∷ []
    all =
        ap (λ k. take k (drop at m)) more ∙ take_more (drop at m) (i - at) 0 (omega (arith, length-drop at m))
        ∙ ap (λ v. take (i - at) (drop at m) ++ v ∷ []) (get_or-drop at m (i - at) 0 ∙ ap (λ k. get_or m k 0) here)

-- THE NEW HEAD
pub two_set : (h m : List ℕ) (a b : ℕ) → 2 ≤ length h → set (set (over 0 h m) 0 a) 1 b ≡ over 0 (a ∷ b ∷ drop 2 h) m
two_set [] m a b l = absurd (omega arith)
two_set (x ∷ []) m a b l = absurd (omega arith)
two_set (x ∷ y ∷ h) m a b l = refl

pub new_head_is : (first from page : ℕ) (m h x y : List ℕ) → h ≡ take 32 (drop head_at m) → x ≡ over 0 (from ∷ page ∷ drop 2 h) m → y ≡ renaming first from 2 8 x →
    y ≡ new_head first from page m
new_head_is first from page m h x y e f g = g ∙ ap (renaming first from 2 8) (f ∙ ap (λ k. over 0 (from ∷ page ∷ drop 2 k) m) e)
