-- What lies in a house's memory while it serves a command, and what of it stays: the head, the row of the tree in work, and what was said. Assumes nothing.
use Rattle.std.proofs.Common.{◌≡◌, ℕ, ◌+◌, ◌-◌, ◌<◌, ◌≤◌, List, ◌++◌, length, get_or, take, drop, sym, ap, ◌∙◌, inl, inr, arith, length-drop, length-take}
use Rattle.std.proofs.lemmas.List.{ext_get_or, get_or-take, get_or-drop, drop_at, drop-take, length-take-le, drop-drop}
use lib.Seq.{take-append-add}
use Rattle.pages.specs.Engine.{bulk_cells}
use Rattle.pages.specs.Words.{over}
use Rattle.pages.proofs.WordLaws.{length_over}
use Rattle.objects.specs.Plan.{head_at, map_at, plan_end}
use Rattle.objects.specs.Marking.{Keeps}
use Rattle.objects.proofs.PartLaws.{parts_stay}
use Rattle.objects.proofs.PlanLaws.{over_drop}
use Rattle.house.specs.Control.{row_at, row_words, path_at, row_of, with_row, path_key}

-- PARTS of two memories that are alike word by word
pub part_alike : (a n : ℕ) (x y : List ℕ) → length x ≡ length y → ((i : ℕ) → a ≤ i → i < a + n → get_or x i 0 ≡ get_or y i 0) →
    take n (drop a x) ≡ take n (drop a y)
part_alike a n x y l h = ext_get_or 0 (take n (drop a x)) (take n (drop a y)) long word
  where
    long : length (take n (drop a x)) ≡ length (take n (drop a y))
    long = omega (arith, length-take n (drop a x), length-take n (drop a y), length-drop a x, length-drop a y)

    at : (z : List ℕ) (i : ℕ) → i < n → get_or (take n (drop a z)) i 0 ≡ get_or z (a + i) 0
    at z i lt = get_or-take n (drop a z) i 0 lt ∙ get_or-drop a z i 0

    word : (i : ℕ) → i < length (take n (drop a x)) → get_or (take n (drop a x)) i 0 ≡ get_or (take n (drop a y)) i 0
    word i lt =
        let less : i < n = omega (arith, length-take n (drop a x)) in
        at x i less ∙ h (a + i) (omega arith) (omega arith) ∙ sym (at y i less)

pub rest_alike : (a : ℕ) (x y : List ℕ) → length x ≡ length y → ((i : ℕ) → a ≤ i → get_or x i 0 ≡ get_or y i 0) → drop a x ≡ drop a y
rest_alike a x y l h = ext_get_or 0 (drop a x) (drop a y) (omega (arith, length-drop a x, length-drop a y)) (λ i lt. get_or-drop a x i 0 ∙ h (a + i) (omega arith) ∙ sym (get_or-drop a y i 0))

-- a part whose front is written
pub part_front : (g k : ℕ) (new m : List ℕ) → length new ≤ k → g + k ≤ length m → take k (drop g (over g new m)) ≡ over 0 new (take k (drop g m))
part_front g k new m le fits =
    ap (take k) (drop_at (take g m) (new ++ drop (g + length new) m) g (length-take-le g m (omega arith)))
    ∙ ap (λ n. take n (new ++ drop (g + length new) m)) e
    ∙ take-append-add new (drop (g + length new) m) (k - length new)
    ∙ ap (λ x. new ++ x) (ap (take (k - length new)) (sym (drop-drop (length new) g m)) ∙ sym (drop-take (length new) (k - length new) (drop g m))
    ∙ ap (λ n. drop (length new) (take n (drop g m))) (sym e) ∙ ap (λ n. drop n (take k (drop g m))) z)
  where
    e : k ≡ length new + (k - length new)
    e = omega arith

    z : length new ≡ 0 + length new
    z = omega arith

-- WHAT LIES THERE: the head that was recalled, a row, and behind them what was said
pub record Desk (h ws d m : List ℕ) : Type 0 where
  pub long : length m ≡ bulk_cells
  pub head : take 32 (drop head_at m) ≡ h
  pub row : row_of m ≡ ws
  pub said : drop path_at m ≡ d

pub desk_front : (h ws d m new : List ℕ) → length new ≤ head_at → Desk h ws d m → Desk h ws d (over 0 new m)
desk_front h ws d m new le k =
    let long : length m ≡ bulk_cells = k.long in
    record {
      long = length_over 0 new m (omega arith) ∙ k.long;
      head = parts_stay.beside 0 new m head_at 32 (omega arith) (inr (omega arith)) ∙ k.head;
      row = parts_stay.beside 0 new m row_at row_words (omega arith) (inr (omega arith)) ∙ k.row;
      said = over_drop 0 path_at new m (omega arith) (omega arith) ∙ k.said;
    }

pub desk_map : (h ws d m new : List ℕ) (g : ℕ) → map_at ≤ g → g + length new ≤ plan_end → Desk h ws d m → Desk h ws d (over g new m)
desk_map h ws d m new g from to k =
    let long : length m ≡ bulk_cells = k.long in
    record {
      long = length_over g new m (omega arith) ∙ k.long;
      head = parts_stay.beside g new m head_at 32 (omega arith) (inl (omega arith)) ∙ k.head;
      row = parts_stay.beside g new m row_at row_words (omega arith) (inr (omega arith)) ∙ k.row;
      said = over_drop g path_at new m (omega arith) (omega arith) ∙ k.said;
    }

pub desk_kept : (h ws d m m₁ : List ℕ) → Keeps m m₁ → Desk h ws d m → Desk h ws d m₁
desk_kept h ws d m m₁ keeps k =
    record {
      long = keeps.same_length ∙ k.long;
      head = part_alike head_at 32 m₁ m keeps.same_length (λ i a b. keeps.before i (omega arith) (omega arith)) ∙ k.head;
      row = part_alike row_at row_words m₁ m keeps.same_length (λ i a b. keeps.behind i (omega arith)) ∙ k.row;
      said = rest_alike path_at m₁ m keeps.same_length (λ i a. keeps.behind i (omega arith)) ∙ k.said;
    }

pub desk_row : (h ws ws₁ d m : List ℕ) → length ws₁ ≡ row_words → Desk h ws d m → Desk h ws₁ d (with_row ws₁ m)
desk_row h ws ws₁ d m l k =
    let long : length m ≡ bulk_cells = k.long in
    record {
      long = length_over row_at ws₁ m (omega arith) ∙ k.long;
      head = parts_stay.beside row_at ws₁ m head_at 32 (omega arith) (inl (omega arith)) ∙ k.head;
      row = ap (λ n. take n (drop row_at (over row_at ws₁ m))) (sym l) ∙ parts_stay.here row_at ws₁ m (omega arith);
      said = over_drop row_at path_at ws₁ m (omega arith) (omega arith) ∙ k.said;
    }

-- the front of a row is written
pub desk_row_front : (h ws d m new : List ℕ) → length new ≤ row_words → Desk h ws d m → Desk h (over 0 new ws) d (over row_at new m)
desk_row_front h ws d m new l k =
    let long : length m ≡ bulk_cells = k.long in
    record {
      long = length_over row_at new m (omega arith) ∙ k.long;
      head = parts_stay.beside row_at new m head_at 32 (omega arith) (inl (omega arith)) ∙ k.head;
      row = part_front row_at row_words new m l (omega arith) ∙ ap (over 0 new) k.row;
      said = over_drop row_at path_at new m (omega arith) (omega arith) ∙ k.said;
    }

-- the head's place is written
pub desk_head : (h₀ h ws d m : List ℕ) → length h ≡ 32 → Desk h₀ ws d m → Desk h ws d (over head_at h m)
desk_head h₀ h ws d m l k =
    let long : length m ≡ bulk_cells = k.long in
    record {
      long = length_over head_at h m (omega arith) ∙ k.long;
      head = ap (λ n. take n (drop head_at (over head_at h m))) (sym l) ∙ parts_stay.here head_at h m (omega arith);
      row = parts_stay.beside head_at h m row_at row_words (omega arith) (inr (omega arith)) ∙ k.row;
      said = over_drop head_at path_at h m (omega arith) (omega arith) ∙ k.said;
    }

-- what is read from it
pub row_long : (h ws d m : List ℕ) → Desk h ws d m → length ws ≡ row_words
row_long h ws d m k = ap length (sym k.row) ∙ length-take-le row_words (drop row_at m) (omega (arith, length-drop row_at m, k.long))

pub head_word_is : (h ws d m : List ℕ) (i : ℕ) → i < 32 → Desk h ws d m → get_or m (head_at + i) 0 ≡ get_or h i 0
head_word_is h ws d m i lt k =
    sym (get_or-drop head_at m i 0) ∙ sym (get_or-take 32 (drop head_at m) i 0 lt) ∙ ap (λ x. get_or x i 0) k.head

pub path_key_is : (h ws d m : List ℕ) → Desk h ws d m → path_key m ≡ take 9 d
path_key_is h ws d m k = ap (take 9) k.said
