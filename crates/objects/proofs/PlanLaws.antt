-- Laws of words laid over others, and of the map in memory. Assumes nothing.
use Rattle.std.proofs.Common.{◌≡◌, ℕ, ◌+◌, ◌<◌, ◌≤◌, List, ◌++◌, length, get_or, take, drop, sym, refl, ap, ◌∙◌, ap₂, arith, length-drop}
use borrow.Rule.Slice.PartMut.{put_mid}
use Rattle.std.proofs.lemmas.List.{get_or_append_left, get_or-take, get_or-drop, length-take-le, take_at, take-take, take-append-le, take-append-drop, drop_at, drop-drop, drop-take}
use Rattle.std.proofs.lemmas.Slice.{drop-put_mid}
use Rattle.pages.specs.Words.{over}
use Rattle.pages.proofs.WordLaws.{length_over}
use Rattle.objects.specs.Plan.{map_at, map_words, plan_end, map_of, with_map}

-- a part of a front, and of a list that goes on
pub part_of_front : (n k size : ℕ) (xs : List ℕ) → k + n ≤ size → take n (drop k (take size xs)) ≡ take n (drop k xs)
part_of_front n k size xs h = sym (drop-take k n (take size xs)) ∙ ap (drop k) (take-take (k + n) size xs h) ∙ drop-take k n xs

pub part_of_append : (n k : ℕ) (xs ys : List ℕ) → k + n ≤ length xs → take n (drop k (xs ++ ys)) ≡ take n (drop k xs)
part_of_append n k xs ys h = sym (drop-take k n (xs ++ ys)) ∙ ap (drop k) (take-append-le (k + n) xs ys h) ∙ drop-take k n xs

-- WORDS OVER OTHERS: as a write to a part leaves them
pub put_over : (g k : ℕ) (new old : List ℕ) → length new ≡ k → put_mid g k old new ≡ over g new old
put_over g k new old e = ap (λ z. take g old ++ (new ++ z)) (drop-drop k g old ∙ ap (λ j. drop (g + j) old) (sym e))

pub over_before : (g i : ℕ) (new old : List ℕ) → i < g → g ≤ length old → get_or (over g new old) i 0 ≡ get_or old i 0
over_before g i new old lo fits =
    get_or_append_left (take g old) (new ++ drop (g + length new) old) 0 i (omega (arith, length-take-le g old fits)) ∙ get_or-take g old i 0 lo

pub over_drop : (g i : ℕ) (new old : List ℕ) → g + length new ≤ i → g ≤ length old → drop i (over g new old) ≡ drop i old
over_drop g i new old hi fits = ap (drop i) (sym (put_over g (length new) new old refl)) ∙ drop-put_mid g (length new) old new i hi fits refl

pub over_behind : (g i : ℕ) (new old : List ℕ) → g + length new ≤ i → g ≤ length old → get_or (over g new old) i 0 ≡ get_or old i 0
over_behind g i new old hi fits =
    let e : i ≡ i + 0 = omega arith in
    ap (λ j. get_or (over g new old) j 0) e ∙ sym (get_or-drop i (over g new old) 0 0) ∙ ap (λ xs. get_or xs 0 0) (over_drop g i new old hi fits) ∙ get_or-drop i old 0 0
    ∙ ap (λ j. get_or old j 0) (sym e)

pub over_part_before : (g n k : ℕ) (new old : List ℕ) → k + n ≤ g → g ≤ length old → take n (drop k (over g new old)) ≡ take n (drop k old)
over_part_before g n k new old h fits =
    part_of_append n k (take g old) (new ++ drop (g + length new) old) (omega (arith, length-take-le g old fits)) ∙ part_of_front n k g old h

pub over_part : (g k : ℕ) (new old : List ℕ) → length new ≡ k → g ≤ length old → take k (drop g (over g new old)) ≡ new
over_part g k new old e fits =
    ap (take k) (drop_at (take g old) (new ++ drop (g + length new) old) g (length-take-le g old fits)) ∙ take_at new (drop (g + length new) old) k e

pub over_over : (g : ℕ) (new newer old : List ℕ) → length newer ≡ length new → g ≤ length old → over g newer (over g new old) ≡ over g newer old
over_over g new newer old e fits =
    ap₂ (λ a b. a ++ (newer ++ b)) (take_at (take g old) (new ++ drop (g + length new) old) g (length-take-le g old fits))
    (over_drop g (g + length newer) new old (omega arith) fits)

pub over_same : (g k : ℕ) (old : List ℕ) → g + k ≤ length old → over g (take k (drop g old)) old ≡ old
over_same g k old fits =
    let l : length (take k (drop g old)) ≡ k = length-take-le k (drop g old) (omega (arith, length-drop g old)) in
    ap (λ z. take g old ++ (take k (drop g old) ++ z)) (ap (λ j. drop (g + j) old) l ∙ sym (drop-drop k g old))
    ∙ ap (λ z. take g old ++ z) (take-append-drop k (drop g old)) ∙ take-append-drop g old

-- THE MAP
pub length_map_of : (m : List ℕ) → plan_end ≤ length m → length (map_of m) ≡ map_words
length_map_of m h = length-take-le map_words (drop map_at m) (omega (arith, length-drop map_at m))

pub length_with_map : (ws m : List ℕ) → length ws ≡ map_words → plan_end ≤ length m → length (with_map ws m) ≡ length m
length_with_map ws m e h = length_over map_at ws m (omega arith)

pub put_map : (ws m : List ℕ) → length ws ≡ map_words → put_mid map_at map_words m ws ≡ with_map ws m
put_map ws m e = put_over map_at map_words ws m e

pub map_of_with_map : (ws m : List ℕ) → length ws ≡ map_words → plan_end ≤ length m → map_of (with_map ws m) ≡ ws
map_of_with_map ws m e h = over_part map_at map_words ws m e (omega arith)

pub with_map_again : (ws newer m : List ℕ) → length ws ≡ map_words → length newer ≡ map_words → plan_end ≤ length m →
    with_map newer (with_map ws m) ≡ with_map newer m
with_map_again ws newer m e f h = over_over map_at ws newer m (f ∙ sym e) (omega arith)

pub with_map_same : (m : List ℕ) → plan_end ≤ length m → with_map (map_of m) m ≡ m
with_map_same m h = over_same map_at map_words m (omega arith)

pub before_map : (ws m : List ℕ) (i : ℕ) → i < map_at → plan_end ≤ length m → get_or (with_map ws m) i 0 ≡ get_or m i 0
before_map ws m i lo h = over_before map_at i ws m lo (omega arith)

pub behind_map : (ws m : List ℕ) (i : ℕ) → length ws ≡ map_words → map_at + map_words ≤ i → plan_end ≤ length m → get_or (with_map ws m) i 0 ≡ get_or m i 0
behind_map ws m i e hi h = over_behind map_at i ws m (omega arith) (omega arith)

-- a part in front of the map
pub part_before_map : (n k : ℕ) (ws m : List ℕ) → k + n ≤ map_at → plan_end ≤ length m → take n (drop k (with_map ws m)) ≡ take n (drop k m)
part_before_map n k ws m lo h = over_part_before map_at n k ws m lo (omega arith)
