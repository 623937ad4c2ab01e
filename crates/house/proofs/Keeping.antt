-- The house that keeps sheets in work and notes versions keeps the whole promise. Assumes nothing.
use Rattle.std.proofs.Common.{◌≡◌, ◌≢◌, ℕ, zero, suc, ◌+◌, ◌-◌, ◌*◌, ◌<◌, ◌≤◌, Bool, true, false, ltb, eqb, ◌⊎◌, List, [], ◌∷◌, ◌++◌, length, Some, None, Option, sym, refl, ap, ◌∙◌, subst, inl, inr, arith, append-nil, length-append}
use Rattle.std.proofs.lemmas.Bool.{false≢true, and_parts, le-ltb, ltb-true, ltb-false, eqb-true, eqb-false}
use Rattle.pages.specs.Lists.{pick, every, same, zeros, so_many}
use Rattle.pages.specs.Bytes.{all_bytes}
use Rattle.pages.specs.Device.{blank}
use Rattle.pages.specs.Engine.{engine, bulk_cells}
use Rattle.pages.proofs.WordLaws.{length_zeros}
use Rattle.house.specs.Entry.{own}
use Rattle.pages.specs.Machine.{Asked, asked}
use Rattle.pages.specs.Tape.{last_page, published, Window, Does, finishes, Tied}
use Rattle.pages.specs.declared.machine.Request.TheVariants.{Refuse}
use Rattle.pages.proofs.ListLaws.{pick_false}
use Rattle.pages.proofs.EngineLaws.{keeps_length, keeps_small}
use Rattle.pages.proofs.TapeLaws.{tied_new}
use Rattle.objects.specs.declared.sweep.Stage.TheVariants.{Marking}
use Rattle.objects.specs.Marking.{walk}
use Rattle.objects.specs.Sweeping.{sweep}
use Rattle.trees.specs.Tree.{Tree, put, without, found}
use Rattle.history.specs.Book.{Sum, id}
use Rattle.commands.specs.Command.{Command, write_file, drop_file, commit, branch, go_to, history, show_file, status, read_file, join, settle, leave, move_onto, carry, forget, tag, who, sweep as sweep_command, fetch, spelled, fits, a_name, a_ref, a_text}
use Rattle.commands.specs.Parse.{parsed, Answers}
use Rattle.commands.proofs.ParseLaws.{answered}
use Rattle.house.specs.House.{Plain, Clone, Turn, turn, clone_at, set_clone, set_ref, empty_clone, no, yes_with, moved, tip, tree_of, weight}
use Rattle.house.specs.Facts.{Fine, FineBook, FineTree, StaysFine}
use Rattle.trees.specs.RowOf.{proper}
use Rattle.std.proofs.lemmas.List.{take_all}
use Rattle.house.specs.Laws.{Apart}
use Rattle.house.specs.Promise.{Said, StillApart, Allowed, Steady, Whole}
use Rattle.house.specs.Simulation.{Setting, Turned, Simulated}
use Rattle.house.specs.OnTape.{Holding, StopStands, EndStands, Answered, Kept}
use Rattle.house.specs.Control.{control, control_client, controlling, control_saves, cursor, desk_end, heard_of, said_of, noting, no_sum, version}
use Rattle.house.specs.Shelf.{Shelf, Stands, Simple, Bare, Remembers, keeping}
use Rattle.history.specs.Book.{Book, Commit, nth, noted, place}
use Rattle.history.specs.Laws.{Grown}
use Rattle.history.proofs.BookLaws.{noted_either, nth_end, nth_front, nth_beyond}
use Rattle.house.specs.declared.control.Control.{Control}
use Rattle.house.specs.declared.control.Task.TheVariants.{Nothing}
use Rattle.house.specs.declared.control.Phase.TheVariants.{Resting}
use Rattle.house.proofs.FineLaws.{stays_fine, all_empty}
use Rattle.house.proofs.TurnLaws.{houses_apart, clone_at_either}
use Rattle.house.proofs.Simulation.{simulated, length_so_many}
use Rattle.house.proofs.OnTape.{obligations}
use Rattle.house.proofs.ControlBounds.{lawful}
use Rattle.house.proofs.ShelfLaws.{shelf_new, shelf_grown}
use Rattle.house.proofs.Commands.{Spot, tip_is, leaves, reads, tells, drops, writes_none, writes_full, writes_done}
use Rattle.house.proofs.LogCommands.{tells_log, views}
use Rattle.house.proofs.NoteCommands.{notes}

-- TURNS of the commands that are known: nothing, or another tree in work, another commit of the branch, a commit noted
abbrev Single : Book → Type 0
Single b = (k : ℕ) → length (nth b k).parents ≤ 1

Turns : Plain → ℕ → Plain → Type 0
Turns w c after =
    (after ≡ w) ⊎ ((b : Book) × (u : Tree) × (ks : List ℕ) × (length ks ≤ 1) × Single b × (after ≡ record { book = b; clones = set_clone w.clones c (keeping u ks) }))

turns_no : (w : Plain) (c i : ℕ) → Turns w c (no i w).next
unfolding Turns
turns_no w c i = inl refl

turns_with : (w : Plain) (c : ℕ) (ss : List (List ℕ)) (b : Book) (u : Tree) (ks : List ℕ) → length ks ≤ 1 → Single b → Turns w c (yes_with ss b w c (keeping u ks)).next
unfolding Turns
turns_with w c ss b u ks few single = inr (b, u, ks, few, single, refl)

turns_pick : (w : Plain) (c : ℕ) (b : Bool) (v v₁ : Turn) → Turns w c v.next → Turns w c v₁.next → Turns w c (pick b v v₁).next
turns_pick w c true v v₁ a d = a
turns_pick w c false v v₁ a d = d

-- a commit that comes from one or none
single_noted : (b : Book) (new : Commit) → Single b → length new.parents ≤ 1 → Single (noted new b)
single_noted b new single few = noted_either Single new b (λ _. single) (λ _ k. at k)
  where
    at : (k : ℕ) → length (nth (b ++ new ∷ []) k).parents ≤ 1
    at k = go (ltb k (length b)) refl (eqb k (length b)) refl
      where
        beyond : (k : ℕ) → length (b ++ new ∷ []) ≤ k → length (nth (b ++ new ∷ []) k).parents ≤ 1
        beyond k le = omega (arith, ap (λ (x : Commit). length x.parents) (nth_beyond (b ++ new ∷ []) k le))

        go : (z : Bool) → ltb k (length b) ≡ z → (y : Bool) → eqb k (length b) ≡ y → length (nth (b ++ new ∷ []) k).parents ≤ 1
        go true lt y e = subst (λ (x : Commit). length x.parents ≤ 1) (sym (nth_front b (new ∷ []) k (ltb-true k (length b) lt))) (single k)
        go false ge true e = subst (λ (i : ℕ). length (nth (b ++ new ∷ []) i).parents ≤ 1) (sym (eqb-true k (length b) e)) (subst (λ (x : Commit). length x.parents ≤ 1) (sym (nth_end b new)) few)
        go false ge false e = beyond k (omega (arith, ltb-false k (length b) ge, eqb-false k (length b) e, length-append b (new ∷ [])))

moved_is : (b : Book) (tree : Tree) (tips : List ℕ) (k : ℕ) → length tips ≤ 1 → moved b (keeping tree tips) k ≡ keeping (nth b k).tree (k ∷ [])
unfolding set_ref same
moved_is b tree [] k few = refl
moved_is b tree (j ∷ []) k few = refl
moved_is b tree (j ∷ i ∷ ks) k few = absurd (omega arith)

turns_noted : (sum : Sum) (w : Plain) (c : ℕ) (tree : Tree) (tips : List ℕ) (st : ℕ) (ws : List ℕ) → Single w.book → length tips ≤ 1 →
    Turns w c (turn sum w c (keeping tree tips) (commit st ws)).next
unfolding turn
turns_noted sum w c tree tips st ws single few =
    turns_pick w c _ _ _ (turns_no w c 7)
    (subst (λ (x : Clone). Turns w c (yes_with (id sum (noted new w.book) (place new w.book) ∷ []) (noted new w.book) w c x).next) (sym (moved_is (noted new w.book) tree tips (place new w.book) few))
    (turns_with w c (id sum (noted new w.book) (place new w.book) ∷ []) (noted new w.book) (nth (noted new w.book) (place new w.book)).tree (place new w.book ∷ []) (omega arith) (single_noted w.book new single few_parents)))
  where
    new : Commit
    new = record { parents = tip (keeping tree tips) ++ []; tree = tree; stamp = st; words = ws }

    few_parents : length (tip (keeping tree tips) ++ []) ≤ 1
    few_parents = omega (arith, ap length (append-nil (tip (keeping tree tips)) ∙ tip_is tree tips few))

turns : (sum : Sum) (w : Plain) (c : ℕ) (tree : Tree) (tips : List ℕ) (a : Command) → Single w.book → length tips ≤ 1 → noting a ≡ true → Turns w c (turn sum w c (keeping tree tips) a).next
unfolding turn noting
turns sum w c tree tips (write_file p b) single few k = turns_pick w c _ _ _ (turns_no w c 10) (turns_with w c [] w.book (put p b tree) tips few single)
turns sum w c tree tips (drop_file p) single few k = turns_pick w c _ _ _ (turns_no w c 3) (turns_with w c [] w.book (without p tree) tips few single)
turns sum w c tree tips (commit s ws) single few k = turns_noted sum w c tree tips s ws single few
turns sum w c tree tips (branch m) single few k = absurd (false≢true k)
turns sum w c tree tips (go_to m) single few k = absurd (false≢true k)
turns sum w c tree tips history single few k = turns_with w c [] w.book tree tips few single
turns sum w c tree tips (show_file m p) single few k = turns_pick w c _ _ _ (turns_no w c 3) (turns_with w c [] w.book tree tips few single)
turns sum w c tree tips status single few k = turns_with w c [] w.book tree tips few single
turns sum w c tree tips (read_file p) single few k = turns_pick w c _ _ _ (turns_no w c 3) (turns_with w c [] w.book tree tips few single)
turns sum w c tree tips (join m) single few k = absurd (false≢true k)
turns sum w c tree tips (settle p) single few k = absurd (false≢true k)
turns sum w c tree tips leave single few k = turns_with w c [] w.book (tree_of w.book (tip (keeping tree tips))) tips few single
turns sum w c tree tips (move_onto m) single few k = absurd (false≢true k)
turns sum w c tree tips (carry i) single few k = absurd (false≢true k)
turns sum w c tree tips (forget m) single few k = absurd (false≢true k)
turns sum w c tree tips (tag m) single few k = absurd (false≢true k)
turns sum w c tree tips (who p) single few k = absurd (false≢true k)
turns sum w c tree tips sweep_command single few k = absurd (false≢true k)
turns sum w c tree tips (fetch d) single few k = absurd (false≢true k)

-- what is known of the book
grown_of : (b : Book) → FineBook b → Grown b
unfolding Grown
grown_of b fine k = (fine.commits k).lower

length_set_clone : (xs : List Clone) (c : ℕ) (y : Clone) → length (set_clone xs c y) ≡ length xs
unfolding set_clone
length_set_clone [] c y = refl
length_set_clone (x ∷ xs) zero y = refl
length_set_clone (x ∷ xs) (suc c) y = ap suc (length_set_clone xs c y)

-- THE PLAIN HOUSES stay simple
simple_after : (houses things : ℕ) (w w₁ : Plain) (c : ℕ) → Fine w₁ → Simple houses (suc things) w → Turns w c w₁ → Simple houses things w₁
unfolding Turns
simple_after houses things w w₁ c fine simple (inl e) =
    record {
      fine = fine;
      single = subst (λ (x : Plain). Single x.book) (sym e) simple.single;
      many = ap (λ (x : Plain). length x.clones) e ∙ simple.many;
      bare = subst (λ (x : Plain). (d : ℕ) → Bare (clone_at x.clones d)) (sym e) simple.bare;
    }
simple_after houses things w w₁ c fine simple (inr (b, u, ks, few, single, e)) =
    record {
      fine = fine;
      single = subst (λ (x : Plain). Single x.book) (sym e) single;
      many = ap (λ (x : Plain). length x.clones) e ∙ length_set_clone w.clones c (keeping u ks) ∙ simple.many;
      bare = subst (λ (x : Plain). (d : ℕ) → Bare (clone_at x.clones d)) (sym e) (λ d. clone_at_either Bare w.clones c d (keeping u ks) (simple.bare d) (ks, few, refl));
    }

-- A TEXT THAT IS REFUSED, since it is no command or is not known yet
module _ (s : Setting) (n : ℕ) (known_is : s.known ≡ noting) (size : suc n ≡ s.pages) (low : 64 ≤ s.pages) (most : s.pages ≤ 1048576) (few : s.houses ≤ 16)
    (sums : (bs : List ℕ) → (length (s.sum bs) ≡ 32) × (all_bytes (s.sum bs) ≡ true)) where
  -- what is known stays so
  things_left : (things c : ℕ) (w : Plain) (h t : List ℕ) → Stands s.sum s.pages (suc things) c w h t → Stands s.sum s.pages things c w h t
  things_left things c w h t x = record { tree = x.tree; tips = x.tips; number = x.number; clone = x.clone; shelf = x.shelf; bounded = omega (arith, x.bounded) }

  module _ (things c : ℕ) (w : Plain) (k : Control) (m h t text : List ℕ) (lt : c < s.houses) (simple : Simple s.houses (suc things) w)
      (stands : Stands s.sum s.pages (suc things) c w h t) (win : Window n h t (last_page h)) (long : length m ≡ bulk_cells) (knows : Remembers s.pages c k)
      (still : StillApart s.sum w c text) where
    abbrev Out : Type 0
    Out = Answered (control_client s.sum) (Remembers s.pages) (Stands s.sum s.pages) s n things c w k m h t text

    spot : Spot s.sum s.pages things w.book stands.tree stands.tips h t
    spot = record { number = stands.number; shelf = stands.shelf; rises = win.rising; slack = omega (arith, stands.bounded) }

    slack : last_page h + 2097152 * things + 2097152 ≤ 18014398509481984
    slack = omega (arith, stands.bounded)

    -- refused at once
    refused_by : (i : ℕ) → heard_of s.sum k m (parsed text) ≡ asked k m (Refuse (suc i)) → suc i < 1000 →
        ((ls : ℕ) (up : Bool) → Allowed s.sum s.known s.pages ls up w c text [] (suc i) w) → Out
    unfolding StopStands EndStands
    refused_by i is below allowed =
        record {
          rows = [];
          reply = suc i;
          after = w;
          allowed = allowed;
          does =
              subst (λ (x : Asked Control). Does (controlling s.sum) n (StopStands (Stands s.sum s.pages) things c w w []) (EndStands (Remembers s.pages) (Stands s.sum s.pages) things c w [] (suc i)) x h t (last_page h) [])
              (sym (pick_false (ltb (length m) desk_end) (asked k m (Refuse 2)) (heard_of s.sum k m (parsed text)) (le-ltb (length m) desk_end (omega (arith, long))) ∙ is))
              (finishes (asked k m (Refuse (suc i))) h t (last_page h) [] (suc i) refl below
              (refl, refl, subst (Stands s.sum s.pages things c w h) (sym (take_all (64 * last_page h) t (omega (arith, stands.shelf.whole)))) (things_left things c w h t stands), knows));
        }

    not_known : (a : Command) → parsed text ≡ Some a → spelled a ≡ text → fits a ≡ true → noting a ≡ false → said_of s.sum k m a ≡ asked k m (Refuse 2) → Out
    unfolding Allowed Said
    not_known a e sp ft un is =
        refused_by 1 (ap (heard_of s.sum k m) e ∙ is) (omega arith) (λ ls up. inr (inl (a, (sp, ft), ap (λ (q : Command → Bool). q a) known_is ∙ un, refl, refl, refl)))

    no_command : parsed text ≡ None → ((a : Command) → spelled a ≡ text → fits a ≢ true) → Out
    unfolding Allowed Said
    no_command e none = refused_by 0 (ap (heard_of s.sum k m) e) (omega arith) (λ ls up. inr (inr (λ a said. absurd (none a said.0 said.1), refl, refl, refl)))

    path_good : (p : List ℕ) → a_name p ≡ true → proper p ≡ true
    path_good p e = e

    lt_clones : c < length w.clones
    lt_clones = omega (arith, simple.many)

    fine_work : FineTree stands.tree
    fine_work = subst FineTree (ap (λ (x : Clone). x.work) stands.clone) (simple.fine.clones c).state.tree

    grown : Grown w.book
    grown = grown_of w.book simple.fine.book

    texts : (q : ℕ) → a_text (nth w.book q).words ≡ true
    texts q = (simple.fine.book.commits q).words

    trees : (q : ℕ) → FineTree (nth w.book q).tree
    trees q = (simple.fine.book.commits q).tree

    writes : (p b : List ℕ) → parsed text ≡ Some (write_file p b) → spelled (write_file p b) ≡ text → fits (write_file p b) ≡ true → Out
    unfolding fits
    writes p b e sp ft = go (ltb 4096 (length (put p b stands.tree))) refl (ltb (128 * s.pages) (weight w.book (keeping (put p b stands.tree) stands.tips))) refl
      where
        ok : (proper p ≡ true) × (a_text b ≡ true)
        ok = (path_good p (and_parts (a_name p) (a_text b) ft).0, (and_parts (a_name p) (a_text b) ft).1)

        go : (many : Bool) → ltb 4096 (length (put p b stands.tree)) ≡ many → (full : Bool) → ltb (128 * s.pages) (weight w.book (keeping (put p b stands.tree) stands.tips)) ≡ full → Out
        go true x full y = writes_none s sums n size low most known_is things c w lt_clones grown texts trees stands.tree stands.tips stands.clone fine_work k knows h t m text long win spot slack still p b ok.0 ok.1 e sp ft x
        go false x true y = writes_full s sums n size low most known_is things c w lt_clones grown texts trees stands.tree stands.tips stands.clone fine_work k knows h t m text long win spot slack still p b ok.0 ok.1 e sp ft x y
        go false x false y = writes_done s sums n size low most known_is things c w lt_clones grown texts trees stands.tree stands.tips stands.clone fine_work k knows h t m text long win spot slack still p b ok.0 ok.1 e sp ft x y

    answers_by : (a : Command) → parsed text ≡ Some a → spelled a ≡ text → fits a ≡ true → Out
    unfolding noting fits
    answers_by (write_file p b) e sp ft = writes p b e sp ft
    answers_by (drop_file p) e sp ft = drops s sums n size low most known_is things c w lt_clones grown texts trees stands.tree stands.tips stands.clone fine_work k knows h t m text long win spot slack p (path_good p ft) e sp ft (found stands.tree p) refl
    answers_by (commit i ws) e sp ft = let x = and_parts (ltb i 18446744073709551616) (a_text ws) ft in notes s sums n size low most known_is things c w lt_clones grown texts trees stands.tree stands.tips stands.clone fine_work k knows h t m text long win spot slack still i ws x.1 (ltb-true i 18446744073709551616 x.0) e sp ft
    answers_by (branch q) e sp ft = not_known (branch q) e sp ft refl refl
    answers_by (go_to q) e sp ft = not_known (go_to q) e sp ft refl refl
    answers_by history e sp ft = tells_log s sums n size low most known_is things c w lt_clones grown texts trees stands.tree stands.tips stands.clone fine_work k knows h t m text long win spot slack simple.single e sp ft
    answers_by (show_file q p) e sp ft = views s sums n size low most known_is things c w lt_clones grown texts trees stands.tree stands.tips stands.clone fine_work k knows h t m text long win spot slack q p (path_good p (and_parts (a_ref q) (a_name p) ft).1) e sp ft
    answers_by status e sp ft = tells s sums n size low most known_is things c w lt_clones grown texts trees stands.tree stands.tips stands.clone fine_work k knows h t m text long win spot slack e sp
    answers_by (read_file p) e sp ft = reads s sums n size low most known_is things c w lt_clones grown texts trees stands.tree stands.tips stands.clone fine_work k knows h t m text long win spot slack p (path_good p ft) e sp ft (found stands.tree p) refl
    answers_by (join q) e sp ft = not_known (join q) e sp ft refl refl
    answers_by (settle p) e sp ft = not_known (settle p) e sp ft refl refl
    answers_by leave e sp ft = leaves s sums n size low most known_is things c w lt_clones grown texts trees stands.tree stands.tips stands.clone fine_work k knows h t m text long win spot slack e sp
    answers_by (move_onto q) e sp ft = not_known (move_onto q) e sp ft refl refl
    answers_by (carry i) e sp ft = not_known (carry i) e sp ft refl refl
    answers_by (forget q) e sp ft = not_known (forget q) e sp ft refl refl
    answers_by (tag q) e sp ft = not_known (tag q) e sp ft refl refl
    answers_by (who p) e sp ft = not_known (who p) e sp ft refl refl
    answers_by sweep_command e sp ft = not_known sweep_command e sp ft refl refl
    answers_by (fetch d) e sp ft = not_known (fetch d) e sp ft refl refl

    answers : Out
    answers = go (parsed text) refl (answered text)
      where
        go : (o : Option Command) → parsed text ≡ o → Answers text o → Out
        go None e none = no_command e none
        go (Some a) e said = answers_by a e said.0 said.1

  -- ALL THAT IS TO BE SHOWN of the client
  resting : Control
  resting = control 0 0 0 Nothing Resting 0 no_sum 0 0 (cursor 0 0) (version 0 no_sum) (sweep Marking (walk 0 0 0 0 no_sum 0) 0 0 0 0) (walk 0 0 0 0 no_sum 0)

  after_turn : (things c : ℕ) (w : Plain) (text : List ℕ) (w₁ : Plain) → Simple s.houses (suc things) w → Turned s w c text w₁ → Turns w c w₁
  unfolding Turned Turns
  after_turn things c w text w₁ simple t =
      let bare = simple.bare c in
      subst (Turns w c) (sym t.3)
      (subst (λ (x : Clone). Turns w c (turn s.sum w c x t.0).next) (sym bare.2)
      (turns s.sum w c (clone_at w.clones c).work bare.0 t.0 simple.single bare.1 (sym (ap (λ (q : Command → Bool). q t.0) known_is) ∙ t.2)))

  kept : Kept (control_client s.sum) (Remembers s.pages) (Simple s.houses) (Stands s.sum s.pages) s n
  unfolding resting control_saves zeros Said StaysFine Apart Turned
  kept =
      record {
        blank_state = resting;
        blank_saved = refl;
        wakes_knowing = λ c lt. record { house = omega (arith, few); pages_are = omega (arith, most) };
        fine_idle = λ things w x. record { fine = x.fine; single = x.single; many = x.many; bare = x.bare };
        stands_idle = λ things c w h t x. things_left things c w h t x;
        fine_turn = λ things c w text w₁ lt x still t.
            simple_after s.houses things w w₁ c (subst Fine (sym t.3) (stays_fine.1 s.sum w c t.0 t.1.1 x.fine)) x (after_turn things c w text w₁ x t);
        stands_turn = λ things c d w text w₁ h t lt ne x still tn y.
            let apart = houses_apart s.sum w c d tn.0 ne in
            record {
              tree = y.tree;
              tips = y.tips;
              number = y.number;
              clone = ap (λ (v : Plain). clone_at v.clones d) tn.3 ∙ apart.0 ∙ y.clone;
              shelf =
                  subst (λ (b : Book). Shelf s.sum s.pages b y.number h t y.tree y.tips) (sym (ap (λ (v : Plain). v.book) tn.3 ∙ apart.1.1))
                  (shelf_grown s.sum s.pages w.book y.number h t y.tree y.tips (grown_of w.book x.fine.book) y.shelf apart.1.0);
              bounded = omega (arith, y.bounded);
            };
        answers = λ things c w k m h t text lt simple stands win long knows still. answers things c w k m h t text lt simple stands win long knows still;
      }

-- THE WHOLE PROMISE
stands_new : (sum : Sum) (pages things c houses : ℕ) → 64 ≤ pages → things ≤ 4294967296 →
    Stands sum pages things c (record { book = []; clones = so_many houses empty_clone }) (zeros 32) (published (zeros 32) [])
unfolding zeros
stands_new sum pages things c houses low many = record { tree = []; tips = []; number = λ r. r; clone = all_empty houses c; shelf = shelf_new sum pages low; bounded = omega (arith, many) }

-- memory is all 0 at the start
zeros_zero : (k : ℕ) → every (λ m. eqb m 0) (zeros k) ≡ true
unfolding zeros
zeros_zero zero = refl
zeros_zero (suc k) = zeros_zero k

start_long : (sum : Sum) → length (engine (control_client sum)).start ≤ 262144
unfolding engine
start_long sum = omega (arith, length_zeros 262144)

start_zero : (sum : Sum) → every (λ m. eqb m 0) (engine (control_client sum)).start ≡ true
unfolding engine
start_zero sum = zeros_zero 262144

steady : (sum : Sum) → ((bs : List ℕ) → (length (sum bs) ≡ 32) × (all_bytes (sum bs) ≡ true)) → Steady (own sum)
unfolding Steady own all_bytes
steady sum sums = (
  start_long sum,
  start_zero sum,
  λ m ev. (keeps_length (control_client sum) (lawful sum sums) m ev, keeps_small (control_client sum) (lawful sum sums) m ev),
)

-- a book with no commit has none with two parents
none_single : (k : ℕ) → length (nth [] k).parents ≤ 1
unfolding nth
none_single k = omega arith

pub whole_noting : Whole noting own
unfolding Whole own Simulated StaysFine all_bytes
whole_noting sum sums = (
  steady sum sums,
  λ houses pages is few low high many ok.
      let s : Setting = record { sum = sum; known = noting; engine = own sum; houses = houses; pages = pages } in
      let n : ℕ = pages - 1 in
      let e : suc n ≡ pages = omega arith in
      simulated (Simple houses) (Holding (control_client sum) (Remembers pages) (Stands sum pages) n) s
      (obligations (control_client sum) (lawful sum sums) (Remembers pages) (Simple houses) (Stands sum pages) s n (kept s n refl e low high few sums) refl few e (omega arith)) is ok
      (record {
        fine = stays_fine.0 houses;
        single = none_single;
        many = length_so_many houses empty_clone;
        bare = λ c. ([], omega arith, all_empty houses c ∙ ap (λ (x : Clone). keeping x.work []) (sym (all_empty houses c)));
      })
      (λ c lt.
      record {
        power = refl;
        still = true;
        head = zeros 32;
        tape = [];
        laid = 0;
        tied = subst (λ (p : ℕ). Tied n true (record { pages = blank p; queue = [] }) (zeros 32) [] 0) e (tied_new n (omega arith));
        stands = stands_new sum pages (length is) c houses low many;
        resident = λ up. absurd (false≢true up);
      }),
)
