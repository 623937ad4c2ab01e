-- What every turn has in common: it leaves all as it is, or changes one house and lets the book grow.
use Rattle.std.proofs.Common.{◌≡◌, ℕ, zero, suc, ◌<◌, Bool, true, false, ◌&&◌, leb, ◌⊎◌, List, [], ◌∷◌, ◌++◌, length, sym, refl, ap, ◌∙◌, inl, inr, append_assoc, append-nil, arith}
use Rattle.pages.specs.Lists.{pick, none_of}
use Rattle.pages.proofs.ListLaws.{pick_both}
use Rattle.trees.specs.Tree.{same_tree, clashes}
use Rattle.history.specs.Book.{Book, Commit, Sum, nth, noted, place}
use Rattle.history.proofs.BookLaws.{noted_more}
use Rattle.commands.specs.Command.{Command, write_file, drop_file, commit, branch, go_to, history, show_file, status, read_file, join, settle, leave, move_onto, carry, forget, tag, who, sweep, fetch}
use Rattle.house.specs.House.{Plain, Clone, Turn, Way, turn, no, yes_with, clone_at, set_clone, carry_one, carry_all, parent_tree, carried_tree}
use Rattle.house.specs.Laws.{Apart}

-- THE BOOK GROWS

-- one book goes on as another
abbrev pub Grows : Book → Book → Type 0
Grows b d = (more : Book) × (d ≡ b ++ more)

pub grows_self : (b : Book) → Grows b b
grows_self b = ([], sym (append-nil b))

pub grows_trans : (b d e : Book) → Grows b d → Grows d e → Grows b e
grows_trans b d e g h = (g.0 ++ h.0, h.1 ∙ (ap (λ z. z ++ h.0) g.1 ∙ append_assoc b g.0 h.0))

-- one commit carried: it doesn't go; or there is nothing to change; or a commit is noted
abbrev pub once_more : Way → ℕ → Commit
once_more v k = record { parents = v.at ∷ []; tree = carried_tree v.book v.at k; stamp = (nth v.book k).stamp; words = (nth v.book k).words }

abbrev pub went : Way → Commit → Way
went v c = record { book = noted c v.book; at = place c v.book; made = v.made ++ (place c v.book ∷ []); well = v.well }

abbrev pub stuck : Way → Way
stuck v = record { book = v.book; at = v.at; made = v.made; well = false }

abbrev pub goes : Way → ℕ → Bool
goes v k = none_of (clashes (parent_tree v.book k ∷ []) (nth v.book v.at).tree (nth v.book k).tree) && leb (length (carried_tree v.book v.at k)) 4096

pub carry_either : (P : Way → Type 0) (v : Way) (k : ℕ) → (goes v k ≡ false → P (stuck v)) →
    (goes v k ≡ true → same_tree (carried_tree v.book v.at k) (nth v.book v.at).tree ≡ true → P v) →
    (goes v k ≡ true → same_tree (carried_tree v.book v.at k) (nth v.book v.at).tree ≡ false → P (went v (once_more v k))) → P (carry_one v k)
unfolding carry_one
carry_either P v k f g h =
    pick_both P (goes v k) (pick (same_tree (carried_tree v.book v.at k) (nth v.book v.at).tree) v (went v (once_more v k))) (stuck v)
    (λ d. pick_both P (same_tree (carried_tree v.book v.at k) (nth v.book v.at).tree) v (went v (once_more v k)) (g d) (h d)) f

pub grows_carry_one : (v : Way) (k : ℕ) → Grows v.book (carry_one v k).book
grows_carry_one v k =
    carry_either (λ u. Grows v.book u.book) v k (λ _. grows_self v.book) (λ _ _. grows_self v.book) (λ _ _. noted_more (once_more v k) v.book)

pub grows_carry_all : (v : Way) (ks : List ℕ) → Grows v.book (carry_all v ks).book
unfolding carry_all
grows_carry_all v [] = grows_self v.book
grows_carry_all v (k ∷ ks) = grows_trans v.book (carry_one v k).book (carry_all (carry_one v k) ks).book (grows_carry_one v k) (grows_carry_all (carry_one v k) ks)

-- our commits once more, from a commit of the book on
abbrev pub set_out : Book → ℕ → Way
set_out b j = record { book = b; at = j; made = []; well = true }

pub grows_onto : (b : Book) (j : ℕ) (ks : List ℕ) → Grows b (carry_all (set_out b j) ks).book
grows_onto b j ks = grows_carry_all (set_out b j) ks

pub grows_onto_one : (b : Book) (j k : ℕ) → Grows b (carry_one (set_out b j) k).book
grows_onto_one b j k = grows_carry_one (set_out b j) k

-- THE SHAPE OF A TURN

-- refused, and all is as it was; or done at this house alone
abbrev pub Refused : Plain → Turn → Type 0
Refused w t = (n : ℕ) × (t ≡ no n w)

abbrev pub Done : Plain → ℕ → Turn → Type 0
Done w c t = (ss : List (List ℕ)) × (b : Book) × (y : Clone) × Grows w.book b × (t ≡ yes_with ss b w c y)

abbrev pub Shaped : Plain → ℕ → Turn → Type 0
Shaped w c t = Refused w t ⊎ Done w c t

pub shaped_no : (w : Plain) (c n : ℕ) → Shaped w c (no n w)
shaped_no w c n = inl (n, refl)

pub shaped_yes : (w : Plain) (c : ℕ) (ss : List (List ℕ)) (b : Book) (y : Clone) → Grows w.book b → Shaped w c (yes_with ss b w c y)
shaped_yes w c ss b y g = inr (ss, b, y, g, refl)

pub shaped_pick : (w : Plain) (c : ℕ) (t : Bool) (x y : Turn) → Shaped w c x → Shaped w c y → Shaped w c (pick t x y)
shaped_pick w c true x y a b = a
shaped_pick w c false x y a b = b

ruleset shapes = (shaped_pick, shaped_yes, shaped_no, grows_self, grows_onto_one, grows_onto, noted_more)

pub turn_shaped : (sum : Sum) (w : Plain) (c : ℕ) (x : Clone) (a : Command) → Shaped w c (turn sum w c x a)
unfolding turn
turn_shaped sum w c x (write_file p b) = search shapes depth 8
turn_shaped sum w c x (drop_file p) = search shapes depth 8
turn_shaped sum w c x (commit s ws) = search shapes depth 8
turn_shaped sum w c x (branch n) = search shapes depth 8
turn_shaped sum w c x (go_to n) = search shapes depth 8
turn_shaped sum w c x history = search shapes depth 8
turn_shaped sum w c x (show_file n p) = search shapes depth 8
turn_shaped sum w c x status = search shapes depth 8
turn_shaped sum w c x (read_file p) = search shapes depth 8
turn_shaped sum w c x (join n) = search shapes depth 8
turn_shaped sum w c x (settle p) = search shapes depth 8
turn_shaped sum w c x leave = search shapes depth 8
turn_shaped sum w c x (move_onto n) = search shapes depth 8
turn_shaped sum w c x (carry i) = search shapes depth 8
turn_shaped sum w c x (forget n) = search shapes depth 8
turn_shaped sum w c x (tag n) = search shapes depth 8
turn_shaped sum w c x (who p) = search shapes depth 8
turn_shaped sum w c x sweep = search shapes depth 8
turn_shaped sum w c x (fetch d) = search shapes depth 8

-- HOUSES

pub clone_at_other : (xs : List Clone) (c d : ℕ) (y : Clone) → (c ≡ d → ⊥) → clone_at (set_clone xs c y) d ≡ clone_at xs d
unfolding clone_at set_clone
clone_at_other [] c d y n = refl
clone_at_other (x ∷ xs) zero zero y n = absurd (n refl)
clone_at_other (x ∷ xs) zero (suc d) y n = refl
clone_at_other (x ∷ xs) (suc c) zero y n = refl
clone_at_other (x ∷ xs) (suc c) (suc d) y n = clone_at_other xs c d y (λ e. n (ap suc e))

pub clone_at_same : (xs : List Clone) (c : ℕ) (y : Clone) → c < length xs → clone_at (set_clone xs c y) c ≡ y
unfolding clone_at set_clone
clone_at_same [] c y l = absurd (omega arith)
clone_at_same (x ∷ xs) zero y l = refl
clone_at_same (x ∷ xs) (suc c) y l = clone_at_same xs c y (omega arith)

-- what holds of every house and of the new one holds of every house afterwards
pub clone_at_either : (P : Clone → Type 0) (xs : List Clone) (c d : ℕ) (y : Clone) → P (clone_at xs d) → P y → P (clone_at (set_clone xs c y) d)
unfolding clone_at set_clone
clone_at_either P [] c d y h k = h
clone_at_either P (x ∷ xs) zero zero y h k = k
clone_at_either P (x ∷ xs) zero (suc d) y h k = h
clone_at_either P (x ∷ xs) (suc c) zero y h k = h
clone_at_either P (x ∷ xs) (suc c) (suc d) y h k = clone_at_either P xs c d y h k

pub houses_apart : Apart
unfolding Apart
houses_apart sum w c d a n = go (turn_shaped sum w c (clone_at w.clones c) a)
  where
    go : Shaped w c (turn sum w c (clone_at w.clones c) a) →
        (clone_at (turn sum w c (clone_at w.clones c) a).next.clones d ≡ clone_at w.clones d)
        × ((more : Book) × ((turn sum w c (clone_at w.clones c) a).next.book ≡ w.book ++ more))
    go (inl r) = (ap (λ (t : Turn). clone_at t.next.clones d) r.1, ([], ap (λ (t : Turn). t.next.book) r.1 ∙ sym (append-nil w.book)))
    go (inr r) = (
      ap (λ (t : Turn). clone_at t.next.clones d) r.4 ∙ clone_at_other w.clones c d r.2 (λ e. never (n e)),
      (r.3.0, ap (λ (t : Turn). t.next.book) r.4 ∙ r.3.1),
    )
      where
        never : Rattle.house.specs.Promise.Never → ⊥
        never e = omega arith
