-- HISTORY and SHOW of the house that notes versions, on its tape: the branch's log, commit after commit, and a file of the branch's last commit. Assumes nothing.
use Rattle.std.proofs.Common.{◌≡◌, ℕ, zero, suc, ◌+◌, ◌*◌, ◌<◌, ◌≤◌, Bool, true, false, eqb, ltb, List, [], ◌∷◌, length, drop, Some, None, Option, sym, refl, ap, ◌∙◌, subst, ap₂, inl, inr, arith, append-nil}
use Rattle.std.proofs.lemmas.Bool.{eq-eqb, ne_eqb, lt-ltb, and_parts}
use Rattle.pages.specs.Lists.{pick, every, each, has, same, none_of}
use Rattle.pages.specs.Bytes.{all_bytes}
use Rattle.pages.specs.Object.{kind_of, object_at}
use Rattle.pages.specs.Crash.{Rows}
use Rattle.pages.specs.Engine.{bulk_cells}
use Rattle.pages.specs.Machine.{Asked, asked}
use Rattle.pages.specs.Tape.{first_page, last_page, Window, finishes}
use Rattle.pages.specs.declared.machine.Request.TheVariants.{Refuse}
use Rattle.pages.proofs.ListLaws.{pick_true, pick_false, In, every_from}
use Rattle.objects.specs.Heap.{Live, Placed}
use Rattle.objects.specs.Sweeping.{roots_of}
use Rattle.objects.specs.declared.sweep.Sweep.{Sweep}
use Rattle.trees.specs.Tree.{Tree, found}
use Rattle.trees.specs.Row.{good_path, entries_of, find_in, reference_in, references}
use Rattle.trees.specs.RowOf.{proper}
use Rattle.trees.specs.RowPromises.{listed}
use Rattle.trees.proofs.RowParts.{find_references}
use Rattle.history.specs.Book.{Book, Sum, nth, id, closed, added, in_order, log}
use Rattle.history.specs.Chain.{chain_from, ChainLog}
use Rattle.history.specs.Laws.{Grown}
use Rattle.history.proofs.LogLaws.{in_order_none}
use Rattle.history.proofs.ChainLaws.{chain_log}
use Rattle.commands.specs.Command.{spelled, fits, a_text, history, show_file}
use Rattle.commands.specs.Parse.{parsed}
use Rattle.house.specs.House.{Plain, turn, Clone, clone_at, no, yes_with, tree_of, tip, ref_of, all_refs, line}
use Rattle.house.specs.Facts.{FineTree}
use Rattle.house.specs.Simulation.{Setting}
use Rattle.house.specs.OnTape.{Answered}
use Rattle.house.specs.Control.{the_branch, row_of, path_at, at_phase, sweeping, control_hears, control_client, noting, hearing, sum_key, no_sum, opened, path_put, started, log_from, ask_tip, coming_from, head_word}
use Rattle.house.specs.Shelf.{bytes_at, FileAt, WorkAt, CommitAt, Numbered, Stands, Remembers, keeping, tip_root, tree_named, parent_named, files_named}
use Rattle.house.specs.declared.control.Control.{Control}
use Rattle.house.specs.declared.control.Phase.TheVariants.{Recalling, OpeningTip}
use Rattle.house.specs.declared.control.Task.TheVariants.{Log, View}
use Rattle.house.proofs.DeskLaws.{Desk, head_word_is, path_key_is}
use Rattle.house.proofs.Sheets.{Well, loads_tree, shows_file}
use Rattle.house.proofs.Versions.{logs}
use Rattle.house.proofs.ShelfLaws.{as_commit, tip_live, tips_noted, numbered_is, commit_parent_live, tree_files_live, named_files, work_file, work_there, work_is}
use Rattle.house.proofs.Commands.{Aside, path_aside, find_by_key, find_right, tip_is, Here, Stop as StopAt, End as EndAt, same_after as same_then, stops_shown, stops_before, ends_before, ends_same, comes_out, says, small_spot, tip_tree, tip_tree_live, few_tips, tip_fine, asks_tip, hears}

-- from no commit there is no log
closed_none : (n : ℕ) (b : Book) → closed n b [] ≡ []
unfolding closed added
closed_none zero b = refl
closed_none (suc n) b = closed_none n b

no_chain : (n : ℕ) (b : Book) → chain_from n b [] ≡ []
unfolding chain_from
no_chain zero b = refl
no_chain (suc n) b = refl

-- a branch's log is a chain
log_chain : (sum : Sum) (b : Book) (tips : List ℕ) → Grown b → ((q : ℕ) → length (nth b q).parents ≤ 1) → length tips ≤ 1 → ((q : ℕ) → In q tips → q < length b) →
    log sum b tips ≡ chain_from (length b) b tips
unfolding ChainLog
log_chain sum b [] grown single few noted = ap (in_order (length b) sum b) (closed_none (length b) b) ∙ in_order_none (length b) sum b ∙ sym (no_chain (length b) b)
log_chain sum b (q ∷ []) grown single few noted = chain_log sum b q grown single (noted q (inl refl))
log_chain sum b (q ∷ r ∷ qs) grown single few noted = absurd (omega arith)

-- what a name of the one branch refers to, and any other name
named_tips : (tree : Tree) (tips q : List ℕ) → length tips ≤ 1 → same the_branch q ≡ true → ref_of (all_refs (keeping tree tips)) q ≡ tips
unfolding ref_of
named_tips tree [] q few e = refl
named_tips tree (k ∷ []) q few e = pick_true (same the_branch q) (k ∷ []) [] e
named_tips tree (k ∷ j ∷ ks) q few e = absurd (omega arith)

named_none : (tree : Tree) (tips q : List ℕ) → length tips ≤ 1 → same the_branch q ≡ false → ref_of (all_refs (keeping tree tips)) q ≡ []
unfolding ref_of
named_none tree [] q few e = refl
named_none tree (k ∷ []) q few e = pick_false (same the_branch q) (k ∷ []) [] e
named_none tree (k ∷ j ∷ ks) q few e = absurd (omega arith)

module _ (s : Setting) (sums : (bs : List ℕ) → (length (s.sum bs) ≡ 32) × (all_bytes (s.sum bs) ≡ true)) (n : ℕ) (size : suc n ≡ s.pages) (low : 64 ≤ s.pages) (most : s.pages ≤ 1048576)
    (known_is : s.known ≡ noting) (things c : ℕ) (w : Plain) (lt : c < length w.clones) (grown : Grown w.book) (texts : (k : ℕ) → a_text (nth w.book k).words ≡ true)
    (trees : (k : ℕ) → FineTree (nth w.book k).tree) (tree : Tree) (tips : List ℕ) (clone_is : clone_at w.clones c ≡ keeping tree tips) (fine : FineTree tree) (k : Control)
    (knows : Remembers s.pages c k) where
  -- what the command's spot is, and what is asked of stops and ends there
  abbrev At : List ℕ → List ℕ → Type 0
  At h t = Here s sums n size low most known_is things c w lt grown texts trees tree tips clone_is fine k knows h t

  abbrev Stop : Plain → Rows → List ℕ → List ℕ → Rows → Type 0
  Stop after rows h t ss = StopAt s sums n size low most known_is things c w lt grown texts trees tree tips clone_is fine k knows after rows h t ss

  abbrev End : Plain → Rows → ℕ → Control → List ℕ → List ℕ → List ℕ → ℕ → Rows → ℕ → Type 0
  End after rows reply k₁ m h t laid ss e = EndAt s sums n size low most known_is things c w lt grown texts trees tree tips clone_is fine k knows after rows reply k₁ m h t laid ss e

  abbrev same_after : Plain
  same_after = same_then s sums n size low most known_is things c w lt grown texts trees tree tips clone_is fine k knows

  module _ (h t m text : List ℕ) (long : length m ≡ bulk_cells) (win : Window n h t (last_page h)) (spot : At h t)
      (slack : last_page h + 2097152 * things + 2097152 ≤ 18014398509481984) where
    abbrev Out : Type 0
    Out = Answered (control_client s.sum) (Remembers s.pages) (Stands s.sum s.pages) s n things c w k m h t text

    -- HISTORY
    module _ (single : (q : ℕ) → length (nth w.book q).parents ≤ 1) where
      abbrev all : Rows
      all = each (line s.sum w.book) (log s.sum w.book tips)

      turned_log : turn s.sum w c (clone_at w.clones c) history ≡ yes_with all w.book w c (clone_at w.clones c)
      unfolding turn
      turned_log =
          ap (λ (x : Clone). yes_with (each (line s.sum w.book) (log s.sum w.book (tip x))) w.book w c (clone_at w.clones c)) clone_is
          ∙ ap (λ (ks : List ℕ). yes_with (each (line s.sum w.book) (log s.sum w.book ks)) w.book w c (clone_at w.clones c)) (tip_is tree tips (few_tips s sums n size low most known_is things c w lt grown texts trees tree tips clone_is fine k knows h t spot))

      -- what is shown is a live commit, and so is what it comes from
      abbrev Logged : List ℕ → List ℕ → ℕ → Type 0
      Logged h₁ t₁ r = (1 ≤ r) × Live t₁ (roots_of h₁) r × (kind_of (object_at t₁ r) ≡ 3)

      logged_is : (h₁ t₁ : List ℕ) (spot₁ : At h₁ t₁) (r : ℕ) → Logged h₁ t₁ r → CommitAt s.sum w.book spot₁.number t₁ r × Placed t₁ (8 * first_page h₁) (8 * last_page h₁) r
      logged_is h₁ t₁ spot₁ r l = (as_commit s.sum w.book spot₁.number t₁ r (spot₁.shelf.stored.thing r l.1) l.2, spot₁.shelf.heap.placed r l.1)

      logged_before : (h₁ t₁ : List ℕ) (spot₁ : At h₁ t₁) (r : ℕ) → Logged h₁ t₁ r → 1 ≤ parent_named (object_at t₁ r) → Logged h₁ t₁ (parent_named (object_at t₁ r))
      logged_before h₁ t₁ spot₁ r l one =
          let q = commit_parent_live s.sum w.book spot₁.number t₁ (roots_of h₁) r (logged_is h₁ t₁ spot₁ r l).0 (texts (spot₁.number r)) l.1 one in
          (one, q.0, q.1)

      below : every (λ q. ltb q (length w.book)) tips ≡ true
      below =
          every_from (λ q. ltb q (length w.book)) tips
          (λ q i. lt-ltb q (length w.book) (tips_noted s.sum s.pages w.book spot.number h t tree tips spot.shelf q i))

      all_is : each (line s.sum w.book) (chain_from (length w.book) w.book tips) ≡ all
      all_is =
          ap (each (line s.sum w.book))
          (sym (log_chain s.sum w.book tips grown single (few_tips s sums n size low most known_is things c w lt grown texts trees tree tips clone_is fine k knows h t spot) (tips_noted s.sum s.pages w.book spot.number h t tree tips spot.shelf)))

      pub tells_log : parsed text ≡ Some history → spelled history ≡ text → fits history ≡ true → Out
      unfolding noting
      tells_log e sp ft =
          comes_out s sums n size low most known_is things c w lt grown texts trees tree tips clone_is fine k knows h t m text history sp ft refl
          (yes_with all w.book w c (clone_at w.clones c)) turned_log
          (subst (λ (x : Asked Control). Well s.sum n (Stop same_after all) (End same_after all 0) x h t (last_page h) [])
          (sym (says s sums n size low most known_is things c w lt grown texts trees tree tips clone_is fine k knows m text history long e))
          (hears s sums n size low most known_is things c w lt grown texts trees tree tips clone_is fine k knows (Stop same_after all) (End same_after all 0) (hearing Log 0 no_sum k) m h t
          knows.pages_are long win spot slack (stops_before s sums n size low most known_is things c w lt grown texts trees tree tips clone_is fine k knows same_after all)
          (λ v m₁ h₁ t₁ spot₁ desk room. shows v m₁ h₁ t₁ spot₁ desk)))
        where
          shows : (v : Sweep) (m₁ h₁ t₁ : List ℕ) → At h₁ t₁ → Desk h₁ (row_of m) (drop path_at m) m₁ →
              Well s.sum n (Stop same_after all) (End same_after all 0) (log_from (at_phase Recalling (sweeping (hearing Log 0 no_sum k) v)) m₁ (head_word m₁ 3)) h₁ t₁ (last_page h₁) []
          shows v m₁ h₁ t₁ spot₁ desk =
              subst (λ (i : ℕ). Well s.sum n (Stop same_after all) (End same_after all 0) (log_from k₁ m₁ i) h₁ t₁ (last_page h₁) [])
              (sym (head_word_is h₁ (row_of m) (drop path_at m) m₁ 3 (omega arith) desk))
              (logs s.sum sums n (Stop same_after all) (End same_after all 0) w.book spot₁.number h₁ t₁ (last_page h₁) spot₁.shelf.whole
              (small_spot s sums n size low most known_is things c w lt grown texts trees tree tips clone_is fine k knows h₁ t₁ spot₁) grown texts (Logged h₁ t₁)
              (logged_is h₁ t₁ spot₁) (logged_before h₁ t₁ spot₁) all
              (λ xs ys is. stops_shown s sums n size low most known_is things c w lt grown texts trees tree tips clone_is fine k knows same_after all xs ys is h₁ t₁ spot₁) c s.pages
              (λ k₂ m₂ kh kp. ends_same s sums n size low most known_is things c w lt grown texts trees tree tips clone_is fine k knows all 0 k₂ m₂ h₁ t₁ (record { house = kh; pages_are = kp }) spot₁)
              (length w.book) k₁ m₁ (tip_root h₁) tips [] knows.house knows.pages_are desk.long spot₁.shelf.tip
              (λ one. (one, tip_live s.sum s.pages w.book spot₁.number h₁ t₁ tree tips spot₁.shelf one, (numbered_is spot₁.number t₁ (tip_root h₁) tips spot₁.shelf.tip one).0))
              below all_is)
            where
              k₁ : Control
              k₁ = at_phase Recalling (sweeping (hearing Log 0 no_sum k) v)

    -- SHOW
    module _ (q p : List ℕ) (good : proper p ≡ true) (e : parsed text ≡ Some (show_file q p)) (sp : spelled (show_file q p) ≡ text) (ft : fits (show_file q p) ≡ true) where
      said : Aside p (path_put p m)
      said = path_aside p m long (and_parts (good_path p) (all_bytes p) good).0

      -- by what is found in the tree of the commit that the name refers to
      turned_view : (ks : List ℕ) (f : Rows) → ref_of (all_refs (keeping tree tips)) q ≡ ks → found (tree_of w.book ks) p ≡ f →
          turn s.sum w c (clone_at w.clones c) (show_file q p) ≡ pick (none_of f) (no 3 w) (yes_with f w.book w c (clone_at w.clones c))
      unfolding turn
      turned_view ks f named is =
          ap (λ (x : Clone). pick (none_of (found (tree_of w.book (ref_of (all_refs x) q)) p)) (no 3 w) (yes_with (found (tree_of w.book (ref_of (all_refs x) q)) p) w.book w c (clone_at w.clones c))) clone_is
          ∙ ap (λ (js : List ℕ). pick (none_of (found (tree_of w.book js) p)) (no 3 w) (yes_with (found (tree_of w.book js) p) w.book w c (clone_at w.clones c))) named
          ∙ ap (λ (x : Rows). pick (none_of x) (no 3 w) (yes_with x w.book w c (clone_at w.clones c))) is

      -- no other branch is known
      other : same the_branch q ≡ false → Out
      unfolding noting tree_of found
      other away =
          comes_out s sums n size low most known_is things c w lt grown texts trees tree tips clone_is fine k knows h t m text (show_file q p) sp ft refl (no 3 w)
          (turned_view [] [] (named_none tree tips q (few_tips s sums n size low most known_is things c w lt grown texts trees tree tips clone_is fine k knows h t spot) away) refl)
          (subst (λ (x : Asked Control). Well s.sum n (Stop w []) (End w [] 3) x h t (last_page h) [])
          (sym (says s sums n size low most known_is things c w lt grown texts trees tree tips clone_is fine k knows m text (show_file q p) long e ∙ pick_false (same the_branch q) _ _ away))
          (finishes (asked k m (Refuse 3)) h t (last_page h) [] 3 refl (omega arith) (ends_before s sums n size low most known_is things c w lt grown texts trees tree tips clone_is fine k knows [] 3 k m h t knows spot)))

      -- what may be found: a file that stands where it is live
      abbrev Files : (h₁ t₁ : List ℕ) → Option ℕ → Type 0
      Files h₁ t₁ o = (r : ℕ) → o ≡ Some r → FileAt s.sum t₁ r × Placed t₁ (8 * first_page h₁) (8 * last_page h₁) r

      no_files : (h₁ t₁ : List ℕ) → Files h₁ t₁ None
      no_files h₁ t₁ r is = absurd (omega (arith, ap (λ o. length (listed o)) is))

      tip_files : (h₁ t₁ ws₁ : List ℕ) → At h₁ t₁ → 1 ≤ tip_root h₁ → references ws₁ ≡ files_named t₁ (tree_named (object_at t₁ (tip_root h₁))) → Files h₁ t₁ (find_in p ws₁)
      tip_files h₁ t₁ ws₁ spot₁ one names r is = (
        work_file s.sum t₁ root (tree_of w.book tips) work r named,
        spot₁.shelf.heap.placed r
            (tree_files_live s.sum t₁ (roots_of h₁) root (tree_of w.book tips) (tip_tree_live s sums n size low most known_is things c w lt grown texts trees tree tips clone_is fine k knows h₁ t₁ spot₁ one some)
            (work_is s.sum t₁ root (tree_of w.book tips) work some) r (ap (λ rs. has rs r) (sym (named_files t₁ root some)) ∙ named)).0,
      )
        where
          root : ℕ
          root = tree_named (object_at t₁ (tip_root h₁))

          work : WorkAt s.sum t₁ (tree_named (object_at t₁ (tip_root h₁))) (tree_of w.book tips)
          work = tip_tree s sums n size low most known_is things c w lt grown texts trees tree tips clone_is fine k knows h₁ t₁ spot₁ one

          named : has (files_named t₁ (tree_named (object_at t₁ (tip_root h₁)))) r ≡ true
          named = ap (λ rs. has rs r) (sym names) ∙ find_references p ws₁ r is

          some : 1 ≤ tree_named (object_at t₁ (tip_root h₁))
          some = work_there t₁ root r named

      -- what is found in the last commit's tree is opened, whatever is shown and however it ends
      module _ (f : Rows) (is : found (tree_of w.book tips) p ≡ f) (Stops : List ℕ → List ℕ → Rows → Type 0) (Ends : Control → List ℕ → List ℕ → List ℕ → ℕ → Rows → ℕ → Type 0)
          (opens : (k₁ : Control) (ws₁ d m₁ h₁ t₁ : List ℕ) → Remembers s.pages c k₁ → At h₁ t₁ → Desk h₁ ws₁ d m₁ →
          (o : Option ℕ) → Files h₁ t₁ o → each (bytes_at t₁) (listed o) ≡ f → Well s.sum n Stops Ends (opened k₁ m₁ o) h₁ t₁ (last_page h₁) []) where
        -- the tree of a commit that is there
        looks : (v : Sweep) (m₁ h₁ t₁ : List ℕ) → At h₁ t₁ →
            Desk h₁ (row_of (path_put p m)) (drop path_at (path_put p m)) m₁ → 1 ≤ tip_root h₁ →
            Well s.sum n Stops Ends (ask_tip (at_phase Recalling (sweeping (hearing View 0 no_sum k) v)) m₁) h₁ t₁ (last_page h₁) []
        looks v m₁ h₁ t₁ spot₁ desk one =
            asks_tip s sums n size low most known_is things c w lt grown texts trees tree tips clone_is fine k knows Stops Ends (at_phase Recalling (sweeping (hearing View 0 no_sum k) v))
            (row_of (path_put p m)) (drop path_at (path_put p m)) m₁ h₁ t₁ [] desk spot₁ one
            (λ m₂ desk₂.
            let k₂ : Control = coming_from (sum_key (id s.sum w.book (spot₁.number (tip_root h₁)))) (at_phase OpeningTip (at_phase Recalling (sweeping (hearing View 0 no_sum k) v))) in
            loads_tree s.sum n Stops Ends k₂ (row_of (path_put p m)) (drop path_at (path_put p m)) m₂ h₁ t₁ (last_page h₁) (tree_named (object_at t₁ (tip_root h₁))) [] (tree_of w.book tips)
            desk₂ spot₁.shelf.whole (small_spot s sums n size low most known_is things c w lt grown texts trees tree tips clone_is fine k knows h₁ t₁ spot₁)
            (tip_tree s sums n size low most known_is things c w lt grown texts trees tree tips clone_is fine k knows h₁ t₁ spot₁ one)
            (λ some. spot₁.shelf.heap.placed (tree_named (object_at t₁ (tip_root h₁))) (tip_tree_live s sums n size low most known_is things c w lt grown texts trees tree tips clone_is fine k knows h₁ t₁ spot₁ one some))
            (tip_fine s sums n size low most known_is things c w lt grown texts trees tree tips clone_is fine k knows).few
            (λ z ws₁ m₃ desk₃ row names.
            subst (λ (o : Option ℕ). Well s.sum n Stops Ends (opened (at_phase z k₂) m₃ o) h₁ t₁ (last_page h₁) [])
            (find_by_key p ws₁ good ∙ sym (ap₂ (λ x y. reference_in (found (entries_of x) y)) desk₃.row (path_key_is h₁ ws₁ (drop path_at (path_put p m)) m₃ desk₃ ∙ said.key)))
            (opens (at_phase z k₂) ws₁ (drop path_at (path_put p m)) m₃ h₁ t₁ (record { house = knows.house; pages_are = knows.pages_are }) spot₁ desk₃ (find_in p ws₁)
            (tip_files h₁ t₁ ws₁ spot₁ one names) (find_right (bytes_at t₁) ws₁ (tree_of w.book tips) p row good ∙ is))))

        -- without a commit nothing is found
        shows_tip : (v : Sweep) (m₁ h₁ t₁ : List ℕ) → At h₁ t₁ →
            Desk h₁ (row_of (path_put p m)) (drop path_at (path_put p m)) m₁ →
            Well s.sum n Stops Ends (started s.sum (at_phase Recalling (sweeping (hearing View 0 no_sum k) v)) m₁ View) h₁ t₁ (last_page h₁) []
        unfolding tree_of found
        shows_tip v m₁ h₁ t₁ spot₁ desk =
            subst (λ (i : ℕ). Well s.sum n Stops Ends (pick (eqb i 0) (asked k₁ m₁ (Refuse 3)) (ask_tip k₁ m₁)) h₁ t₁ (last_page h₁) [])
            (sym (head_word_is h₁ (row_of (path_put p m)) (drop path_at (path_put p m)) m₁ 3 (omega arith) desk)) (go spot₁.shelf.tip)
          where
            k₁ : Control
            k₁ = at_phase Recalling (sweeping (hearing View 0 no_sum k) v)

            go : Numbered spot₁.number t₁ (tip_root h₁) tips → Well s.sum n Stops Ends (pick (eqb (tip_root h₁) 0) (asked k₁ m₁ (Refuse 3)) (ask_tip k₁ m₁)) h₁ t₁ (last_page h₁) []
            go (inl (z, none)) =
                subst (λ (x : Asked Control). Well s.sum n Stops Ends x h₁ t₁ (last_page h₁) []) (sym (pick_true (eqb (tip_root h₁) 0) _ _ (eq-eqb (tip_root h₁) 0 z)))
                (opens k₁ (row_of (path_put p m)) (drop path_at (path_put p m)) m₁ h₁ t₁ (record { house = knows.house; pages_are = knows.pages_are }) spot₁ desk None (no_files h₁ t₁)
                (sym (ap (λ ks. found (tree_of w.book ks) p) none) ∙ is))
            go (inr (one, kind, number)) =
                subst (λ (x : Asked Control). Well s.sum n Stops Ends x h₁ t₁ (last_page h₁) []) (sym (pick_false (eqb (tip_root h₁) 0) _ _ (ne_eqb (tip_root h₁) 0 (λ z. omega arith))))
                (looks v m₁ h₁ t₁ spot₁ desk one)

        views_as : same the_branch q ≡ true → ((h₁ t₁ : List ℕ) → At h₁ t₁ → Stops h₁ t₁ []) → Well s.sum n Stops Ends (control_hears s.sum k m text) h t (last_page h) []
        views_as here stop =
            subst (λ (x : Asked Control). Well s.sum n Stops Ends x h t (last_page h) [])
            (sym (says s sums n size low most known_is things c w lt grown texts trees tree tips clone_is fine k knows m text (show_file q p) long e ∙ pick_true (same the_branch q) _ _ here))
            (hears s sums n size low most known_is things c w lt grown texts trees tree tips clone_is fine k knows Stops Ends (hearing View 0 no_sum k) (path_put p m) h t knows.pages_are said.long win spot slack stop
            (λ v m₁ h₁ t₁ spot₁ desk room. shows_tip v m₁ h₁ t₁ spot₁ desk))

      shown_as : (f : Rows) → found (tree_of w.book tips) p ≡ f → same the_branch q ≡ true → Out
      unfolding noting
      shown_as [] is here =
          comes_out s sums n size low most known_is things c w lt grown texts trees tree tips clone_is fine k knows h t m text (show_file q p) sp ft refl (no 3 w)
          (turned_view tips [] (named_tips tree tips q (few_tips s sums n size low most known_is things c w lt grown texts trees tree tips clone_is fine k knows h t spot) here) is)
          (views_as [] is (Stop w []) (End w [] 3) opens here (stops_before s sums n size low most known_is things c w lt grown texts trees tree tips clone_is fine k knows w []))
        where
          opens : (k₁ : Control) (ws₁ d m₁ h₁ t₁ : List ℕ) → Remembers s.pages c k₁ → At h₁ t₁ → Desk h₁ ws₁ d m₁ →
              (o : Option ℕ) → Files h₁ t₁ o → each (bytes_at t₁) (listed o) ≡ [] → Well s.sum n (Stop w []) (End w [] 3) (opened k₁ m₁ o) h₁ t₁ (last_page h₁) []
          opens k₁ ws₁ d m₁ h₁ t₁ r spot₁ desk None files none =
              finishes (asked k₁ m₁ (Refuse 3)) h₁ t₁ (last_page h₁) [] 3 refl (omega arith) (ends_before s sums n size low most known_is things c w lt grown texts trees tree tips clone_is fine k knows [] 3 k₁ m₁ h₁ t₁ r spot₁)
          opens k₁ ws₁ d m₁ h₁ t₁ r spot₁ desk (Some x) files none = absurd (omega (arith, ap length none))
      shown_as (b ∷ bs) is here =
          comes_out s sums n size low most known_is things c w lt grown texts trees tree tips clone_is fine k knows h t m text (show_file q p) sp ft refl (yes_with (b ∷ bs) w.book w c (clone_at w.clones c))
          (turned_view tips (b ∷ bs) (named_tips tree tips q (few_tips s sums n size low most known_is things c w lt grown texts trees tree tips clone_is fine k knows h t spot) here) is)
          (views_as (b ∷ bs) is (Stop same_after (b ∷ bs)) (End same_after (b ∷ bs) 0) opens here (stops_before s sums n size low most known_is things c w lt grown texts trees tree tips clone_is fine k knows same_after (b ∷ bs)))
        where
          opens : (k₁ : Control) (ws₁ d m₁ h₁ t₁ : List ℕ) → Remembers s.pages c k₁ → At h₁ t₁ → Desk h₁ ws₁ d m₁ →
              (o : Option ℕ) → Files h₁ t₁ o → each (bytes_at t₁) (listed o) ≡ b ∷ bs → Well s.sum n (Stop same_after (b ∷ bs)) (End same_after (b ∷ bs) 0) (opened k₁ m₁ o) h₁ t₁ (last_page h₁) []
          opens k₁ ws₁ d m₁ h₁ t₁ r spot₁ desk None files some = absurd (omega (arith, ap length some))
          opens k₁ ws₁ d m₁ h₁ t₁ r spot₁ desk (Some x) files some =
              shows_file s.sum n (Stop same_after (b ∷ bs)) (End same_after (b ∷ bs) 0) k₁ ws₁ d m₁ h₁ t₁ (last_page h₁) x [] desk spot₁.shelf.whole (small_spot s sums n size low most known_is things c w lt grown texts trees tree tips clone_is fine k knows h₁ t₁ spot₁)
              (files x refl).1 (files x refl).0
              (stops_shown s sums n size low most known_is things c w lt grown texts trees tree tips clone_is fine k knows same_after (b ∷ bs) (bytes_at t₁ x ∷ []) [] (append-nil (bytes_at t₁ x ∷ []) ∙ some) h₁ t₁ spot₁)
              (λ z m₂.
              subst (λ (y : Rows). End same_after (b ∷ bs) 0 (at_phase z k₁) m₂ h₁ t₁ (last_page h₁) y 0) (sym some)
              (ends_same s sums n size low most known_is things c w lt grown texts trees tree tips clone_is fine k knows (b ∷ bs) 0 (at_phase z k₁) m₂ h₁ t₁ (record { house = r.house; pages_are = r.pages_are }) spot₁))

      shown_by : (x : Bool) → same the_branch q ≡ x → Out
      shown_by true here = shown_as (found (tree_of w.book tips) p) refl here
      shown_by false away = other away

    -- a file of the branch's last commit; nothing of any other branch
    pub views : (q p : List ℕ) → proper p ≡ true → parsed text ≡ Some (show_file q p) → spelled (show_file q p) ≡ text → fits (show_file q p) ≡ true → Out
    views q p good e sp ft = shown_by q p good e sp ft (same the_branch q) refl
