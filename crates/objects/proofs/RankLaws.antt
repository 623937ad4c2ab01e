-- Ranks by counts, and the parts of a memory that they read. Assumes nothing.
use Rattle.std.proofs.Common.{◌≡◌, ℕ, zero, suc, ◌+◌, ◌-◌, ◌*◌, ◌/◌, ◌%◌, ◌^◌, ◌<◌, ◌≤◌, min, true, eqb, ◌⊎◌, List, ◌++◌, length, get_or, take, drop, set, sum_by, sym, refl, ap, ◌∙◌, ap₂, inl, inr, mod-lt, mod-eq_of_lt, arith, length-drop, length-take}
use native.Mathlib.Nat.{mod-one}
use lib.Count.{ones, ones_step, ones_cat}
use lib.Seq.{paste}
use Rattle.std.proofs.lemmas.Nat.{pow_pos, mod-pow-add}
use Rattle.std.proofs.lemmas.List.FromFn.{length-map-range_with_len, get_or-map-range_with_len}
use Rattle.std.proofs.lemmas.List.Edits.{paste_more, paste_all}
use Rattle.std.proofs.lemmas.List.{take-take, drop-take, get_or-take, get_or-drop}
use Rattle.std.proofs.lemmas.List.Sums.{sum_by_more, sum_by-take-drop}
use Rattle.std.proofs.lemmas.Bool.{cases_lt, cases_eq, eq-eqb, ne_eqb, lt-ltb, le-ltb}
use Rattle.pages.specs.Lists.{pick}
use Rattle.pages.specs.Words.{over, small}
use Rattle.pages.proofs.WordLaws.{small_get_or, length_over}
use Rattle.store.specs.Bitmap.{bit}
use Rattle.objects.specs.Plan.{map_of, map_units, counts_of, counts_at, counts_words, plan_end}
use Rattle.objects.specs.Ranks.{one_if, count_below, counts, tallied, block_of, ranked_by, ranked, TallyHolds, Ranks, RanksTallied}
use Rattle.store.proofs.BitLaws.{bit_past}
use Rattle.objects.proofs.PartLaws.{part_before, part_written, paste_before, part_inside}
use Rattle.objects.proofs.CountLaws.{count_more, count_blank, count_bounded}

-- the bits of a word
one_digit : (b : ℕ) → b < 2 → ones b ≡ b
unfolding ones
one_digit b h = let e : b / 2 ≡ 0 = omega arith in omega (arith, ones_step b, ap ones e)

ones_more : (w k : ℕ) → ones (w % 2 ^ suc k) ≡ ones (w % 2 ^ k) + w / 2 ^ k % 2
ones_more w k =
    let b : ℕ = w / 2 ^ k % 2 in
    let e : suc k ≡ 1 + k = omega arith in
    let split : ones (w % 2 ^ suc k) ≡ ones b + ones (w % 2 ^ k) =
    ap (λ j. ones (w % 2 ^ j)) e ∙ ap ones (mod-pow-add w 1 k) ∙ ones_cat k b (w % 2 ^ k) (mod-lt w (pow_pos k)) in
    omega (arith, one_digit b (omega arith))

digit_counted : (b : ℕ) → b < 2 → one_if (eqb b 1) ≡ b
digit_counted b h = go (cases_eq b 1)
  where
    go : (b ≡ 1) ⊎ (b ≡ 1 → ⊥) → one_if (eqb b 1) ≡ b
    go (inl e) = ap one_if (eq-eqb b 1 e) ∙ sym e
    go (inr n) = ap one_if (ne_eqb b 1 n) ∙ (let z : b < 1 = go₁ (cases_lt b 1) in omega arith)
      where
        go₁ : (b < 1) ⊎ (1 ≤ b) → b < 1
        go₁ (inl l) = l
        go₁ (inr l) = absurd (n (omega arith))

bit_at : (ws : List ℕ) (i k : ℕ) → k < 64 → one_if (bit ws (64 * i + k)) ≡ get_or ws i 0 / 2 ^ k % 2
bit_at ws i k h =
    let a : (64 * i + k) / 64 ≡ i = omega arith in
    let b : (64 * i + k) % 64 ≡ k = omega arith in
    ap₂ (λ x y. one_if (eqb (get_or ws x 0 / 2 ^ y % 2) 1)) a b ∙ digit_counted (get_or ws i 0 / 2 ^ k % 2) (omega arith)

word_counts : (ws : List ℕ) (i k : ℕ) → k ≤ 64 → count_below (bit ws) (64 * i + k) ≡ count_below (bit ws) (64 * i) + ones (get_or ws i 0 % 2 ^ k)
unfolding ones
word_counts ws i zero h =
    let z : 64 * i + 0 ≡ 64 * i = omega arith in omega (arith, ap (count_below (bit ws)) z, ap ones (mod-one (get_or ws i 0)))
word_counts ws i (suc k) h =
    omega (arith, count_more (bit ws) (64 * i) k, word_counts ws i k (omega arith), ones_more (get_or ws i 0) k, bit_at ws i k (omega arith))

pub whole_counts : (ws : List ℕ) (i : ℕ) → small ws ≡ true → i ≤ length ws → count_below (bit ws) (64 * i) ≡ sum_by ones (take i ws)
unfolding count_below
whole_counts ws zero s h = refl
whole_counts ws (suc i) s h =
    let a : 64 * suc i ≡ 64 * i + 64 = omega arith in
    let b : suc i ≡ i + 1 = omega arith in
    omega (
      arith,
      ap (count_below (bit ws)) a,
      word_counts ws i 64 (omega arith),
      ap ones (mod-eq_of_lt (small_get_or ws i s)),
      whole_counts ws i s (omega arith),
      sum_by_more ones ws i 0 h,
      ap (λ j. sum_by ones (take j ws)) b,
    )

-- the words before a place are those before another and those between
sum_parts : (ws : List ℕ) (a b : ℕ) → sum_by ones (take a ws) + sum_by ones (take b (drop a ws)) ≡ sum_by ones (take (a + b) ws)
sum_parts ws a b =
    ap₂ (λ xs ys. sum_by ones xs + sum_by ones ys) (sym (take-take a (a + b) ws (omega arith))) (sym (drop-take a b ws))
    ∙ sum_by-take-drop ones (take (a + b) ws) a

pub count_at : (n i : ℕ) (ws : List ℕ) → i < n → get_or (counts n ws) i 0 ≡ sum_by ones (take (8 * i) ws)
unfolding counts
count_at n i ws h = get_or-map-range_with_len (λ j. sum_by ones (take (8 * j) ws)) 0 n i i 0 h (omega arith)

pub length_counts : (n : ℕ) (ws : List ℕ) → length (counts n ws) ≡ n
unfolding counts
length_counts n ws = length-map-range_with_len (λ j. sum_by ones (take (8 * j) ws)) 0 n

rank_parts : (n b u : ℕ) (ws : List ℕ) → b < n → 8 * b ≤ u / 64 → u ≤ 64 * length ws → small ws ≡ true →
    get_or (counts n ws) b 0 + (sum_by ones (take (u / 64 - 8 * b) (drop (8 * b) ws)) + ones (get_or ws (u / 64) 0 % 2 ^ (u % 64))) ≡ count_below (bit ws) u
rank_parts n b u ws h k l s =
    let a : 8 * b + (u / 64 - 8 * b) ≡ u / 64 = omega arith in
    let e : 64 * (u / 64) + u % 64 ≡ u = omega arith in
    omega (
      arith,
      count_at n b ws h,
      sum_parts ws (8 * b) (u / 64 - 8 * b),
      ap (λ j. sum_by ones (take j ws)) a,
      whole_counts ws (u / 64) s (omega arith),
      word_counts ws (u / 64) (u % 64) (omega arith),
      ap (count_below (bit ws)) e,
    )

-- past the end nothing is added
count_end : (ws : List ℕ) (u n : ℕ) → n ≡ 64 * length ws → count_below (bit ws) (min u n) ≡ count_below (bit ws) u
count_end ws u n e = go (cases_lt u n)
  where
    go : (u < n) ⊎ (n ≤ u) → count_below (bit ws) (min u n) ≡ count_below (bit ws) u
    go (inl h) = let x : min u n ≡ u = omega arith in ap (count_below (bit ws)) x
    go (inr h) =
        let x : min u n ≡ n = omega arith in
        let y : n + (u - n) ≡ u = omega arith in
        ap (count_below (bit ws)) x ∙ sym (count_blank (bit ws) n (u - n) (λ v lo hi. bit_past ws v (omega arith))) ∙ ap (count_below (bit ws)) y

ranks_by : (cs ws : List ℕ) (u : ℕ) → cs ≡ counts counts_words ws → length ws ≡ 131072 → small ws ≡ true →
    ranked_by cs ws (min u map_units) ≡ count_below (bit ws) u
unfolding ranked_by
ranks_by cs ws u e l s =
    let v : ℕ = min u map_units in
    let x : count_below (bit ws) v < 2 ^ 64 = omega (arith, count_bounded (bit ws) v) in
    ap
    (λ xs. (get_or xs (block_of v) 0 + (sum_by ones (take (v / 64 - 8 * block_of v) (drop (8 * block_of v) ws)) + ones (get_or ws (v / 64) 0 % 2 ^ (v % 64)))) % 2 ^ 64)
    e
    ∙ ap (λ n. n % 2 ^ 64) (rank_parts counts_words (block_of v) v ws (omega arith) (omega arith) (omega arith) s) ∙ mod-eq_of_lt x
    ∙ count_end ws u map_units (omega arith)

-- one turn of a tally
pub tally_more : (m mem : List ℕ) (i sum : ℕ) → plan_end ≤ length m → i < 16384 → mem ≡ paste m 172256 (counts 16384 (map_of m)) i →
    sum ≡ sum_by ones (take (8 * i) (map_of m)) →
    (set mem (172256 + i) sum ≡ paste m 172256 (counts 16384 (map_of m)) (i + 1))
    × (sum + sum_by ones (take 8 (drop (41184 + 8 * i) (set mem (172256 + i) sum))) ≡ sum_by ones (take (8 * (i + 1)) (map_of m)))
tally_more m mem i sum h l e f =
    let cs : List ℕ = counts 16384 (map_of m) in
    let written : set mem (172256 + i) sum ≡ paste m 172256 cs (i + 1) =
    ap₂ (λ xs x. set xs (172256 + i) x) e (f ∙ sym (count_at 16384 i (map_of m) l))
    ∙ paste_more m 172256 cs i 0 (omega arith) (omega (arith, length_counts 16384 (map_of m))) in
    let part : take 8 (drop (41184 + 8 * i) (set mem (172256 + i) sum)) ≡ take 8 (drop (8 * i) (map_of m)) =
    ap (λ xs. take 8 (drop (41184 + 8 * i) xs)) written ∙ paste_before (41184 + 8 * i) 8 172256 (i + 1) cs m (omega arith) (omega arith)
    ∙ sym (part_inside 41184 131072 8 (8 * i) m (omega arith)) in
    let more : 8 * i + 8 ≡ 8 * (i + 1) = omega arith in
    (written, ap₂ (λ x xs. x + sum_by ones xs) f part ∙ sum_parts (map_of m) (8 * i) 8 ∙ ap (λ j. sum_by ones (take j (map_of m))) more)

pub map_length : (m : List ℕ) → plan_end ≤ length m → length (map_of m) ≡ 131072
map_length m h = omega (arith, length-take 131072 (drop 41184 m), length-drop 41184 m)

pub tallied_is : (m : List ℕ) → plan_end ≤ length m → tallied m ≡ over counts_at (counts counts_words (map_of m)) m
unfolding tallied
tallied_is m h = ap (λ b. pick b m (over counts_at (counts counts_words (map_of m)) m)) (le-ltb (length m) plan_end h)

pub tally_none : (m : List ℕ) → length m < plan_end → m ≡ tallied m
unfolding tallied
tally_none m h = sym (ap (λ b. pick b m (over counts_at (counts counts_words (map_of m)) m)) (lt-ltb (length m) plan_end h))

pub tally_all : (m mem : List ℕ) (i : ℕ) → plan_end ≤ length m → i ≡ 16384 → mem ≡ paste m 172256 (counts 16384 (map_of m)) i → mem ≡ tallied m
tally_all m mem i h n e =
    let cs : List ℕ = counts 16384 (map_of m) in
    let l : length cs ≡ 16384 = length_counts 16384 (map_of m) in
    e ∙ paste_all m 172256 cs i (n ∙ sym l) ∙ ap (λ j. take 172256 m ++ (cs ++ drop (172256 + j) m)) (n ∙ sym l) ∙ sym (tallied_is m h)

pub tally_holds : TallyHolds
tally_holds m h =
    let cs : List ℕ = counts counts_words (map_of m) in
    let l : length cs ≡ 16384 = length_counts counts_words (map_of m) in
    let map_stays : map_of (tallied m) ≡ map_of m =
    ap map_of (tallied_is m h) ∙ part_before 41184 131072 172256 (cs ++ drop (172256 + length cs) m) m (omega arith) (omega arith) in (
      ap counts_of (tallied_is m h) ∙ part_written 172256 16384 cs m l (omega arith) ∙ ap (counts counts_words) (sym map_stays),
      map_stays,
      ap length (tallied_is m h) ∙ length_over 172256 cs m (omega arith),
    )

pub rank_none : (m : List ℕ) (u : ℕ) → length m < plan_end → 0 ≡ ranked m u
unfolding ranked
rank_none m u h = sym (ap (λ b. pick b 0 (ranked_by (counts_of m) (map_of m) (min u map_units))) (lt-ltb (length m) plan_end h))

-- a rank by parts of the memory: the last word's bits count only if it stands in the map
word_part : (m : List ℕ) (v : ℕ) → v ≤ map_units → get_or m (41184 + v / 64) 0 % 2 ^ (v % 64) ≡ get_or (map_of m) (v / 64) 0 % 2 ^ (v % 64)
word_part m v h = go (cases_lt (v / 64) 131072)
  where
    go : (v / 64 < 131072) ⊎ (131072 ≤ v / 64) → get_or m (41184 + v / 64) 0 % 2 ^ (v % 64) ≡ get_or (map_of m) (v / 64) 0 % 2 ^ (v % 64)
    go (inl l) = ap (λ w. w % 2 ^ (v % 64)) (sym (get_or-take 131072 (drop 41184 m) (v / 64) 0 l ∙ get_or-drop 41184 m (v / 64) 0))
    go (inr l) =
        let z : v % 64 ≡ 0 = omega arith in
        let none : (w : ℕ) → w % 2 ^ (v % 64) ≡ 0 = λ w. ap (λ k. w % 2 ^ k) z ∙ mod-one w in none _ ∙ sym (none _)

pub rank_from : (m : List ℕ) (u v b whole part : ℕ) → plan_end ≤ length m → v ≡ min u map_units → b ≡ min (v / 512) 16383 →
    whole ≡ sum_by ones (take (41184 + v / 64 - (41184 + 8 * b)) (drop (41184 + 8 * b) m)) → part ≡ ones (get_or m (41184 + v / 64) 0 % 2 ^ (v % 64)) →
    (get_or m (172256 + b) 0 + (whole + part)) % 2 ^ 64 ≡ ranked m u
unfolding ranked ranked_by
rank_from m u v b whole part h ev eb ew ep =
    let n : 41184 + v / 64 - (41184 + 8 * b) ≡ v / 64 - 8 * b = omega arith in
    let first : get_or m (172256 + b) 0 ≡ get_or (counts_of m) b 0 =
    sym (get_or-take 16384 (drop 172256 m) b 0 (omega arith) ∙ get_or-drop 172256 m b 0) in
    let second : whole ≡ sum_by ones (take (v / 64 - 8 * b) (drop (8 * b) (map_of m))) =
    ew ∙ ap (λ k. sum_by ones (take k (drop (41184 + 8 * b) m))) n ∙ ap (sum_by ones) (sym (part_inside 41184 131072 (v / 64 - 8 * b) (8 * b) m (omega arith))) in
    let third : part ≡ ones (get_or (map_of m) (v / 64) 0 % 2 ^ (v % 64)) = ep ∙ ap ones (word_part m v (omega arith)) in
    ap₂ (λ x y. (x + y) % 2 ^ 64) first (ap₂ (λ x y. x + y) second third)
    ∙ ap (λ k. (get_or (counts_of m) k 0 + (sum_by ones (take (v / 64 - 8 * k) (drop (8 * k) (map_of m))) + ones (get_or (map_of m) (v / 64) 0 % 2 ^ (v % 64)))) % 2 ^ 64) eb
    ∙ ap (ranked_by (counts_of m) (map_of m)) ev
    ∙ sym (ap (λ t. pick t 0 (ranked_by (counts_of m) (map_of m) (min u map_units))) (le-ltb (length m) plan_end h))

pub ranks : Ranks
unfolding ranked
ranks m u h s t =
    ap (λ b. pick b 0 (ranked_by (counts_of m) (map_of m) (min u map_units))) (le-ltb (length m) plan_end h)
    ∙ ranks_by (counts_of m) (map_of m) u t (map_length m h) s

pub ranks_tallied : RanksTallied
ranks_tallied m u h s =
    let x = tally_holds m h in
    ranks (tallied m) u (omega (arith, x.2)) (ap small x.1 ∙ s) x.0 ∙ ap (λ ws. count_below (bit ws) u) x.1
