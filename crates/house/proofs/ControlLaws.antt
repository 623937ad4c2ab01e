-- The control's steps in memory: rows, the path's key, marks, the new head. Assumes nothing.
use Rattle.std.proofs.Common.{◌≡◌, ℕ, ◌+◌, ◌-◌, ◌<◌, ◌≤◌, true, false, Bool, ltb, List, [], ◌∷◌, ◌++◌, length, get_or, take, drop, Some, None, Option, sym, refl, ap, ◌∙◌, ap₂, arith, append_assoc, length-drop}
use Rattle.std.proofs.Math.ListN.{set}
use Rattle.std.proofs.lemmas.List.{get_or-drop, get_or-take, length-take, length-take-le, take_all, drop-drop, drop-take, take-take, take-append-drop, take_more}
use Rattle.std.proofs.lemmas.Bool.{le-ltb}
use borrow.Rule.Slice.PartMut.{put_mid}
use Rattle.pages.specs.Lists.{pick, each, zeros}
use Rattle.pages.specs.Words.{over}
use Rattle.pages.specs.Machine.{buffer_words}
use Rattle.pages.proofs.ListLaws.{each_append, pick_false}
use Rattle.pages.proofs.WordLaws.{length_zeros}
use Rattle.objects.specs.Plan.{head_at, map_at, map_words, plan_end, map_of, with_map}
use Rattle.objects.specs.Marking.{begun, rooted, with_reference, with_references}
use Rattle.objects.proofs.MarkLaws.{length_with_references}
use Rattle.objects.proofs.PlanLaws.{put_over, length_map_of, length_with_map, map_of_with_map, with_map_again, with_map_same}
use Rattle.trees.specs.Row.{as_entry, good_path, held, key_of, reference_of, references, tens}
use Rattle.trees.proofs.EntryLaws.{entries_are}
use Rattle.trees.proofs.StoredLaws.{each_each}
use Rattle.trees.specs.Packed.{spread_into, squeeze_into, squeeze_answer}
use Rattle.house.specs.Control.{desk_end, new_head, row_at, row_words, row_of, with_row, path_at, path_put, squeezed_in}

-- A FRONT OF MEMORY, and what is behind it
dropped_front : (g p : ℕ) (m : List ℕ) → g ≤ p → drop g (take p m) ++ drop p m ≡ drop g m
dropped_front g p m h =
    let e : g + (p - g) ≡ p = omega arith in
    ap₂ (λ x y. x ++ y) (ap (λ n. drop g (take n m)) (sym e) ∙ drop-take g (p - g) m) (ap (λ n. drop n m) (sym e) ∙ sym (drop-drop (p - g) g m))
    ∙ take-append-drop (p - g) (drop g m)

-- words over a front are words over all of it
pub over_in_front : (g p : ℕ) (ws m : List ℕ) → g + length ws ≤ p → over g ws (take p m) ++ drop p m ≡ over g ws m
over_in_front g p ws m h =
    append_assoc (take g (take p m)) (ws ++ drop (g + length ws) (take p m)) (drop p m)
    ∙ ap₂ (λ x y. x ++ y) (take-take g p m (omega arith))
    (append_assoc ws (drop (g + length ws) (take p m)) (drop p m) ∙ ap (λ y. ws ++ y) (dropped_front (g + length ws) p m h))

-- ROWS

pub length_row : (m : List ℕ) → desk_end ≤ length m → length (row_of m) ≡ row_words
length_row m h = length-take-le row_words (drop row_at m) (omega (arith, length-drop row_at m))

-- the row's part of memory is written
pub row_written : (m new ws : List ℕ) → desk_end ≤ length m → length new ≡ length (row_of m) → new ≡ ws → put_mid row_at row_words m new ≡ with_row ws m
row_written m new ws h l e = put_over row_at row_words new m (l ∙ length_row m h) ∙ ap (λ x. over row_at x m) e

-- the same behind a memory's front
pub behind_written : (b new ws : List ℕ) → row_words ≤ length b → length new ≡ length (take row_words b) → new ≡ ws → new ++ drop row_words b ≡ over 0 ws b
behind_written b new ws h l e = put_over 0 row_words new b (l ∙ length-take-le row_words b h) ∙ ap (λ x. over 0 x b) e

-- a front that stays, and a row over the rest
row_behind : (at : ℕ) (m front back ws : List ℕ) → front ≡ take at m → back ≡ drop at m → front ++ over 0 ws back ≡ over at ws m
row_behind at m front back ws f b =
    ap₂ (λ x y. x ++ (ws ++ drop (0 + length ws) y)) f b ∙ ap (λ y. take at m ++ (ws ++ y)) (drop-drop (0 + length ws) at m ∙ ap (λ n. drop n m) n)
  where
    n : at + (0 + length ws) ≡ at + length ws
    n = omega arith

pub spread_behind_front : (at : ℕ) (m front back new : List ℕ) → buffer_words ≤ at → front ≡ take at m → back ≡ drop at m →
    new ≡ over 0 (spread_into (take buffer_words front) (take row_words back)) back →
    front ++ new ≡ over at (spread_into (take buffer_words m) (take row_words (drop at m))) m
spread_behind_front at m front back new h f b e =
    ap (λ x. front ++ x) e ∙ row_behind at m front back (spread_into (take buffer_words front) (take row_words back)) f b
    ∙ ap₂ (λ x y. over at (spread_into (take buffer_words x) (take row_words y)) m) f b
    ∙ ap (λ x. over at (spread_into x (take row_words (drop at m))) m) (take-take buffer_words at m h)

pub squeezed_before : (m front back new : List ℕ) → front ≡ take row_at m → back ≡ drop row_at m →
    new ≡ squeeze_into (take row_words back) (take buffer_words front) ++ drop buffer_words front →
    new ++ back ≡ squeezed_in m
squeezed_before m front back new f b e =
    let short : take buffer_words front ≡ take buffer_words m = ap (take buffer_words) f ∙ take-take buffer_words row_at m (omega arith) in
    let rest : drop buffer_words front ++ back ≡ drop buffer_words m =
    ap₂ (λ x y. drop buffer_words x ++ y) f b ∙ dropped_front buffer_words row_at m (omega arith) in
    ap (λ x. x ++ back) e ∙ append_assoc (squeeze_into (take row_words back) (take buffer_words front)) (drop buffer_words front) back
    ∙ ap₂ (λ x y. x ++ y) (ap₂ squeeze_into (ap (take row_words) b) short) rest

pub squeezed_says : (m front back : List ℕ) (r : Option ℕ) → front ≡ take row_at m → back ≡ drop row_at m →
    r ≡ squeeze_answer (take row_words back) (take buffer_words front) → r ≡ squeeze_answer (row_of m) (take buffer_words m)
squeezed_says m front back r f b e =
    e ∙ ap₂ squeeze_answer (ap (take row_words) b) (ap (take buffer_words) f ∙ take-take buffer_words row_at m (omega arith))

-- the path's key is put aside
pub path_written : (p m k new : List ℕ) (r : Option (List ℕ)) → desk_end ≤ length m → length new ≡ length (take 9 (drop path_at m)) → r ≡ Some k →
    r ≡ pick (good_path p) (Some (key_of p)) None → new ≡ k → put_mid path_at 9 m new ≡ path_put p m
path_written p m k new r h l s e n = go (good_path p) (sym s ∙ e)
  where
    go : (b : Bool) → Some k ≡ pick b (Some (key_of p)) None → put_mid path_at 9 m new ≡ pick b (over path_at (key_of p) m) m
    go true q = let same : k ≡ key_of p = cc in put_over path_at 9 new m (l ∙ length-take-le 9 (drop path_at m) (omega (arith, length-drop path_at m))) ∙ ap (λ x. over path_at x m) (n ∙ same)
    go false q = absurd (cc)

-- MARKING

-- references of two rows, one row after the other
references_both : (first : ℕ) (rs ss ws : List ℕ) → with_references first (rs ++ ss) ws ≡ with_references first ss (with_references first rs ws)
unfolding with_references
references_both first [] ss ws = refl
references_both first (r ∷ rs) ss ws = references_both first rs ss (with_reference first r ws)

references_end : (first r : ℕ) (rs ws : List ℕ) → with_reference first r (with_references first rs ws) ≡ with_references first (rs ++ r ∷ []) ws
unfolding with_references
references_end first r rs ws = sym (references_both first rs (r ∷ []) ws)

-- entries of ten words, whose references are marked one by one behind the front of memory
abbrev pub named_by : List (List ℕ) → List ℕ
named_by es = each (λ e. get_or e 9 0) es

abbrev pub marked_by : ℕ → List (List ℕ) → List ℕ → List ℕ
marked_by first es m = with_map (with_references first (named_by es) (map_of m)) m

pub marked_none : (first : ℕ) (es : List (List ℕ)) (m : List ℕ) → plan_end ≤ length m → m ≡ marked_by first (take 0 es) m
unfolding with_references
marked_none first es m h = sym (with_map_same m h)

named_more : (es : List (List ℕ)) (i : ℕ) → i < length es → named_by (take (i + 1) es) ≡ named_by (take i es) ++ get_or (get_or es i []) 9 0 ∷ []
named_more es i h = ap named_by (take_more es i [] h) ∙ each_append (λ e. get_or e 9 0) (take i es) (get_or es i [] ∷ [])

pub marked_more : (first i : ℕ) (es : List (List ℕ)) (m now : List ℕ) → plan_end ≤ length m → i < length es → now ≡ marked_by first (take i es) m →
    rooted first (get_or (get_or es i []) 9 0) now ≡ marked_by first (take (i + 1) es) m
marked_more first i es m now h lt e =
    ap (rooted first r) e
    ∙ pick_false (ltb (length (with_map ws m)) plan_end) (with_map ws m) (with_map (with_reference first r (map_of (with_map ws m))) (with_map ws m))
    (le-ltb (length (with_map ws m)) plan_end (omega (arith, length_with_map ws m l h)))
    ∙ ap (λ x. with_map (with_reference first r x) (with_map ws m)) (map_of_with_map ws m l h)
    ∙ with_map_again ws (with_reference first r ws) m l (ap length next ∙ length_with_references first (named_by (take (i + 1) es)) (map_of m) ∙ length_map_of m h) h
    ∙ ap (λ x. with_map x m) next
  where
    next : with_reference first (get_or (get_or es i []) 9 0) (with_references first (named_by (take i es)) (map_of m)) ≡ with_references first (named_by (take (i + 1) es)) (map_of m)
    next = references_end first (get_or (get_or es i []) 9 0) (named_by (take i es)) (map_of m) ∙ ap (λ rs. with_references first rs (map_of m)) (sym (named_more es i lt))

    r : ℕ
    r = get_or (get_or es i []) 9 0

    ws : List ℕ
    ws = with_references first (named_by (take i es)) (map_of m)

    l : length (with_references first (named_by (take i es)) (map_of m)) ≡ map_words
    l = length_with_references first (named_by (take i es)) (map_of m) ∙ length_map_of m h

-- all entries of a row are marked
pub marked_all : (first i : ℕ) (es : List (List ℕ)) (row m now : List ℕ) → es ≡ tens (held row) (drop 2 row) → length es ≤ i → now ≡ marked_by first (take i es) m →
    now ≡ with_map (with_references first (references row) (map_of m)) m
marked_all first i es row m now e le is =
    is ∙ ap (λ x. marked_by first x m) (take_all i es le)
    ∙ ap (λ rs. with_map (with_references first rs (map_of m)) m) (sym (each_each reference_of as_entry es) ∙ ap (each reference_of) (entries_are row es e))

-- what the head names, and then the files of the row
pub kept_marked : (first : ℕ) (roots m front back now : List ℕ) → desk_end ≤ length m → back ≡ drop row_at m →
    front ≡ begun first roots (take row_at m) → now ≡ with_map (with_references first (references (take row_words back)) (map_of front)) front →
    now ++ back ≡ begun first (roots ++ references (row_of m)) m
kept_marked first roots m front back now h b f n =
    let long : plan_end ≤ length (take row_at m) = omega (arith, length-take row_at m) in
    let l : length ws ≡ map_words = length_with_references first roots (zeros map_words) ∙ length_zeros map_words in
    let refs : references (take row_words back) ≡ references (row_of m) = ap (λ x. references (take row_words x)) b in
    let lw : length (with_references first (references (row_of m)) ws) ≡ map_words = length_with_references first (references (row_of m)) ws ∙ l in
    ap₂ (λ x y. x ++ y)
    (n ∙ ap₂ (λ rs x. with_map (with_references first rs (map_of x)) x) refs f
    ∙ ap (λ x. with_map (with_references first (references (row_of m)) x) (with_map ws (take row_at m))) (map_of_with_map ws (take row_at m) l long)
    ∙ with_map_again ws (with_references first (references (row_of m)) ws) (take row_at m) l lw long)
    b
    ∙ over_in_front map_at row_at (with_references first (references (row_of m)) ws) m (omega arith)
    ∙ ap (λ x. with_map x m) (sym (references_both first roots (references (row_of m)) (zeros map_words)))
  where
    ws : List ℕ
    ws = with_references first roots (zeros map_words)

-- THE NEW HEAD
three_set : (h rest : List ℕ) (a b d : ℕ) → 4 ≤ length h → set (set (set (h ++ rest) 1 a) 2 b) 3 d ≡ (get_or h 0 0 ∷ a ∷ b ∷ d ∷ drop 4 h) ++ rest
three_set [] rest a b d h = absurd (omega arith)
three_set (x ∷ []) rest a b d h = absurd (omega arith)
three_set (x ∷ y ∷ []) rest a b d h = absurd (omega arith)
three_set (x ∷ y ∷ z ∷ []) rest a b d h = absurd (omega arith)
three_set (x ∷ y ∷ z ∷ w ∷ xs) rest a b d h = refl

pub head_made : (m copied : List ℕ) (page root tip : ℕ) → desk_end ≤ length m → copied ≡ over 0 (take 32 (drop head_at m)) m →
    set (set (set copied 1 page) 2 root) 3 tip ≡ over 0 (new_head page root tip m) m
head_made m copied page root tip h e =
    ap (λ x. set (set (set x 1 page) 2 root) 3 tip) e ∙ three_set head rest page root tip (omega (arith, long))
    ∙ ap₂ (λ x y. (x ∷ page ∷ root ∷ tip ∷ drop 4 head) ++ y) (get_or-take 32 (drop head_at m) 0 0 (omega arith) ∙ get_or-drop head_at m 0 0)
    (ap (λ n. drop n m) (omega (arith, long, length-drop 4 head)))
  where
    head : List ℕ
    head = take 32 (drop head_at m)

    rest : List ℕ
    rest = drop (0 + length (take 32 (drop head_at m))) m

    long : length (take 32 (drop head_at m)) ≡ 32
    long = length-take-le 32 (drop head_at m) (omega (arith, length-drop head_at m))
