-- How the house that notes versions goes on its tape, phase by phase: the branch's commit, its log, the sums of a tree's files, the commit that is laid. Assumes nothing.
use Rattle.std.proofs.Common.{◌≡◌, ℕ, zero, suc, ◌+◌, ◌-◌, ◌*◌, ◌<◌, ◌≤◌, min, true, false, eqb, ltb, leb, List, [], ◌∷◌, ◌++◌, length, get_or, take, drop, Some, Option, sym, refl, ap, ◌∙◌, subst, ap₂, inl, inr, arith, append-nil, length-append, length-take, take-add}
use Rattle.std.proofs.lemmas.List.{take_at, take_all, take-append-le, take-take, take-append-drop, drop-drop, append_assoc}
use Rattle.std.proofs.lemmas.Bool.{le-ltb, eq-eqb, ne_eqb, ltb-true, lt-ltb, le-leb, and_parts, and_from}
use lib.Seq.{take-append-add}
use Rattle.pages.specs.Lists.{every, each, flat, has, zeros}
use Rattle.pages.specs.Bytes.{all_bytes}
use Rattle.pages.specs.Words.{over, bytes_of, words}
use Rattle.pages.specs.Object.{heading, object_at, size_in}
use Rattle.pages.specs.Crash.{Rows}
use Rattle.pages.specs.Engine.{bulk_cells}
use Rattle.pages.specs.Machine.{Asked, asked, capped, buffer_words, wanted}
use Rattle.pages.specs.Tape.{first_page, published, opens, rows, finishes}
use Rattle.pages.specs.declared.machine.Request.TheVariants.{Object, Show, Done}
use Rattle.pages.proofs.ListLaws.{pick_true, pick_false, In, in_right, in_has, in_each}
use Rattle.pages.proofs.WordLaws.{length_over, length_words, length_bytes_of, bytes_of_append}
use Rattle.objects.specs.Plan.{counts_at}
use Rattle.objects.specs.Heap.{Placed, heading_at}
use Rattle.objects.specs.Layouts.{answered, bytes_stand, commit_object, commit_of, commit_fits, commit_read, in_front, words_at, words_for, packed_bytes}
use Rattle.objects.specs.declared.layouts.Commit.{Commit as Layout}
use Rattle.objects.specs.Marking.{key_words}
use Rattle.objects.proofs.LayoutLaws.{reads_back, bytes_back}
use Rattle.objects.proofs.PartLaws.{parts_stay, part_written}
use Rattle.trees.specs.Tree.{File, Tree}
use Rattle.trees.specs.Row.{entry, held, entries_of, reference_of, references}
use Rattle.trees.specs.RowOf.{weight_of, RowOf}
use Rattle.trees.specs.declared.differences.Cursor.{Cursor}
use Rattle.trees.proofs.RowLaws.{length_cut, flat_append}
use Rattle.trees.proofs.DifferLaws.{entry_at}
use Rattle.history.specs.Book.{Book, Commit, Sum, nth, id, id_within, commit_spelled}
use Rattle.history.specs.Chain.{chain_from}
use Rattle.history.specs.Laws.{Grown}
use Rattle.commands.specs.Command.{a_text}
use Rattle.house.specs.House.{line}
use Rattle.house.specs.Control.{at_phase, ask_tip, tip_came, under_tip, coming_from, log_from, logged, logging, control_resumes, sum_next, sum_came, sum_at, identified, counted, comparing, cursor, survey, lay_commit, commit_in, commit_put, layout_in, laid_from, publish, published_by, reference_at, row_of, path_at, pages_of, laying, sum_key, bytes_at as bytes_place}
use Rattle.house.specs.Shelf.{bytes_at, FileAt, CommitAt, Numbered, tip_root, work_root, tree_named, parent_named}
use Rattle.house.specs.declared.control.Control.{Control}
use Rattle.house.specs.declared.control.Phase.{Phase}
use Rattle.house.specs.declared.control.Phase.TheVariants.{OpeningTip, Summing, LayingCommit, Publishing, Showing, OpeningLogged}
use Rattle.house.specs.declared.control.Task.{Task}
use Rattle.house.specs.declared.control.Task.TheVariants.{Note}
use Rattle.house.proofs.DeskLaws.{Desk, desk_front, desk_map, head_word_is}
use Rattle.house.proofs.Sheets.{Well, goes_on, object_long, opens_object, publishes_head, lays_object, sum_words, text_parts, stands_there}
use Rattle.house.proofs.SpellLaws.{key_bytes, Comes, four, spelled_is}

-- what is laid of a commit: its tree's reference, its parent's, its id as a key
abbrev pub version_of : Sum → (tree parent : ℕ) → List ℕ → Commit → List ℕ
version_of sum tree parent id c = commit_object tree parent 0 (words 4 id) c.stamp (weight_of c.tree) (length c.words) (packed_bytes c.words)

-- the commit that stands in front of the buffer, as it is read
abbrev pub layout_at : Sum → Book → (ℕ → ℕ) → List ℕ → ℕ → Layout
layout_at sum b number t r =
    record {
      tree = tree_named (object_at t r);
      one = parent_named (object_at t r);
      two = 0;
      id = sum_key (id sum b (number r));
      stamp = (nth b (number r)).stamp;
      tree_weight = weight_of (nth b (number r)).tree;
      bytes = length (nth b (number r)).words;
    }

packed_long : (bs : List ℕ) → length (packed_bytes bs) ≡ words_for (length bs)
packed_long bs = length_words (words_for (length bs)) (bs ++ zeros 7)

module _ (sum : Sum) (b : Book) (number : ℕ → ℕ) (t m : List ℕ) (r : ℕ) (kept : CommitAt sum b number t r) (text : a_text (nth b (number r)).words ≡ true) where
  front_is : over 0 (object_at t r) m ≡ commit_of (layout_at sum b number t r) (packed_bytes (nth b (number r)).words) ++ drop (0 + length (object_at t r)) m
  front_is =
      ap (λ x. x ++ drop (0 + length (object_at t r)) m)
      (kept.is
      ∙ ap (λ x. commit_object (tree_named (object_at t r)) (parent_named (object_at t r)) 0 x (nth b (number r)).stamp (weight_of (nth b (number r)).tree) (length (nth b (number r)).words)
      (packed_bytes (nth b (number r)).words)) (sym (sum_words (id sum b (number r)))))

  commit_came : length (over 0 (object_at t r) m) ≡ bulk_cells → commit_read (over 0 (object_at t r) m) ≡ Some (layout_at sum b number t r)
  commit_came long =
      ap commit_read front_is
      ∙ reads_back.commit (layout_at sum b number t r) (packed_bytes (nth b (number r)).words) (drop (0 + length (object_at t r)) m)
      (omega (arith, packed_long (nth b (number r)).words, (text_parts (nth b (number r)).words text).0)) (omega (arith, ap length front_is, long))

  words_came : take (words_for (min (length (nth b (number r)).words) 65535)) (drop 11 (over 0 (object_at t r) m)) ≡ packed_bytes (nth b (number r)).words
  words_came =
      ap₂ (λ i x. take i (drop 11 x)) many front_is
      ∙ reads_back.commit_words (layout_at sum b number t r) (packed_bytes (nth b (number r)).words) (drop (0 + length (object_at t r)) m)
    where
      many : words_for (min (length (nth b (number r)).words) 65535) ≡ length (packed_bytes (nth b (number r)).words)
      many = omega (arith, packed_long (nth b (number r)).words, (text_parts (nth b (number r)).words text).0)

-- bytes whose words stand in front of the buffer are shown
shown_front : (ws b m : List ℕ) → length ws ≤ 16384 → length b ≤ 8 * length ws → take (length b) (bytes_of ws) ≡ b → take (length b) (bytes_of (take 16384 (over 0 ws m))) ≡ b
shown_front ws b m few some e =
    ap (λ x. take (length b) (bytes_of x)) front
    ∙ ap (take (length b)) (bytes_of_append ws (take (16384 - length ws) (drop (0 + length ws) m)))
    ∙ take-append-le (length b) (bytes_of ws) (bytes_of (take (16384 - length ws) (drop (0 + length ws) m))) (omega (arith, length_bytes_of ws)) ∙ e
  where
    i : 16384 ≡ length ws + (16384 - length ws)
    i = omega arith

    front : take 16384 (over 0 ws m) ≡ ws ++ take (16384 - length ws) (drop (0 + length ws) m)
    front = ap (λ j. take j (ws ++ drop (0 + length ws) m)) i ∙ take-append-add ws (drop (0 + length ws) m) (16384 - length ws)

-- a sum and bytes, as they are shown
line_shown : (s b m : List ℕ) → length s ≡ 32 → all_bytes s ≡ true → a_text b ≡ true →
    take (32 + length b) (bytes_of (take 16384 (over 0 (key_words (sum_key s) ++ packed_bytes b) m))) ≡ s ++ b
line_shown s b m l ok text =
    ap (λ i. take i (bytes_of (take 16384 (over 0 (key_words (sum_key s) ++ packed_bytes b) m)))) (sym long)
    ∙ shown_front (key_words (sum_key s) ++ packed_bytes b) (s ++ b) m (omega (arith, packed_long b, parts.0)) (omega (arith, packed_long b, long))
    (ap (take (length (s ++ b))) (bytes_of_append (key_words (sum_key s)) (packed_bytes b) ∙ ap (λ x. x ++ bytes_of (packed_bytes b)) (key_bytes s l ok))
    ∙ ap (λ i. take i (s ++ bytes_of (packed_bytes b))) (length-append s b) ∙ take-append-add s (bytes_of (packed_bytes b)) (length b) ∙ ap (λ x. s ++ x) (bytes_back b parts.1))
  where
    parts : (length b < 65536) × (all_bytes b ≡ true)
    parts = text_parts b text

    long : length (s ++ b) ≡ 32 + length b
    long = length-append s b ∙ ap (λ i. i + length b) l

-- from no commit there is no chain
chain_none : (i : ℕ) (b : Book) → chain_from i b [] ≡ []
unfolding chain_from
chain_none zero b = refl
chain_none (suc i) b = refl

chain_more : (i : ℕ) (b : Book) (q : ℕ) → chain_from (suc i) b (q ∷ []) ≡ q ∷ chain_from i b (nth b q).parents
unfolding chain_from
chain_more i b q = refl

-- a sum out of its words in front of the buffer
key_shown : (s m : List ℕ) → length s ≡ 32 → all_bytes s ≡ true → take 32 (bytes_of (take 16384 (over 0 (key_words (sum_key s)) m))) ≡ s
key_shown s m l ok =
    ap (λ i. take i (bytes_of (take 16384 (over 0 (key_words (sum_key s)) m)))) (sym l)
    ∙ shown_front (key_words (sum_key s)) s m (omega arith) (omega arith) (ap (take (length s)) (key_bytes s l ok) ∙ take_all (length s) s (omega arith))

-- the commit that is put in front of the buffer
module _ (k : Control) (ws d m h s : List ℕ) (c : Commit) (desk : Desk h ws d m) (sum_is : k.sum ≡ sum_key s) (stamp_is : k.version.stamp ≡ c.stamp)
    (weighed : get_or ws 1 0 ≡ weight_of c.tree) (light : weight_of c.tree ≤ 1152921504606846976) (text : a_text c.words ≡ true) (bytes_are : k.bytes ≡ length c.words)
    (packed : take (words_for (length c.words)) (drop 9 d) ≡ packed_bytes c.words) where
  abbrev layout : Layout
  layout =
      record { tree = work_root h; one = tip_root h; two = 0; id = sum_key s; stamp = c.stamp; tree_weight = weight_of c.tree; bytes = length c.words }

  layout_is : layout_in k m ≡ layout
  layout_is =
      λ j. record {
        tree = head_word_is h ws d m 2 (omega arith) desk j;
        one = head_word_is h ws d m 3 (omega arith) desk j;
        two = 0;
        id = sum_is j;
        stamp = stamp_is j;
        tree_weight = weight j;
        bytes = bytes_are j;
      }
    where
      weight : get_or (row_of m) 1 0 ≡ weight_of c.tree
      weight = ap (λ x. get_or x 1 0) desk.row ∙ weighed

  commit_fitting : commit_fits (layout_in k m) bytes_place m ≡ true
  commit_fitting =
      ap (λ x. commit_fits x bytes_place m) layout_is
      ∙ and_from (bytes_stand 65535 (length c.words) bytes_place m) (leb (256 + length c.words + weight_of c.tree) 9223372036854775808)
      (stands_there (length c.words) m (text_parts c.words text).0 desk.long)
      (le-leb (256 + length c.words + weight_of c.tree) 9223372036854775808 (omega (arith, (text_parts c.words text).0)))

  commit_is : commit_in k m ≡ commit_object (work_root h) (tip_root h) 0 (words 4 s) c.stamp (weight_of c.tree) (length c.words) (packed_bytes c.words)
  commit_is =
      ap₂ (λ x i. commit_of x (words_at i bytes_place m)) layout_is bytes_are
      ∙ ap (commit_of layout) (ap (take (words_for (length c.words))) (sym (drop-drop 9 path_at m) ∙ ap (drop 9) desk.said) ∙ packed)
      ∙ ap (λ x. commit_object (work_root h) (tip_root h) 0 x c.stamp (weight_of c.tree) (length c.words) (packed_bytes c.words)) (sum_words s)

  commit_laid : (page : ℕ) (o : List ℕ) → commit_in k m ≡ o → lay_commit k m page ≡ laid_from LayingCommit k (over 0 o m) page (length o) (reference_at page)
  commit_laid page o is =
      ap (λ x. commit_put k (in_front x (commit_in k m) m) page (answered x (commit_in k m))) commit_fitting
      ∙ ap (λ x. laid_from LayingCommit k (over 0 x m) page (length x) (reference_at page)) is

-- a file has six words at least: heading, weight, and its sum
file_size : (sum : Sum) (t : List ℕ) (lo hi r : ℕ) → 8 * hi ≤ length t → FileAt sum t r → Placed t lo hi r → 6 ≤ size_in (heading_at t r)
file_size sum t lo hi r fits f q =
    omega (
      arith,
      object_long t lo hi r fits q,
      ap length f.is,
      length-append (words 4 (sum (bytes_at t r))) (packed_bytes (bytes_at t r)),
      length_words 4 (sum (bytes_at t r)),
    )

sum_in : (x y : ℕ) (s ws rest : List ℕ) → length s ≡ 4 → take 4 (drop 2 (take 6 (x ∷ y ∷ (s ++ ws)) ++ rest)) ≡ s
sum_in x y s ws rest l = take_at (take 4 (s ++ ws)) rest 4 (ap length front ∙ l) ∙ front
  where
    front : take 4 (s ++ ws) ≡ s
    front = take_at s ws 4 l

glance_sum : (sum : Sum) (t m : List ℕ) (r : ℕ) → FileAt sum t r → take 4 (drop 2 (over 0 (take 6 (object_at t r)) m)) ≡ words 4 (sum (bytes_at t r))
glance_sum sum t m r f =
    ap (λ x. take 4 (drop 2 (take 6 x ++ drop (0 + length (take 6 (object_at t r))) m))) f.is
    ∙ sum_in (heading 1 0 (6 + length (packed_bytes (bytes_at t r)))) (64 + length (bytes_at t r)) (words 4 (sum (bytes_at t r))) (packed_bytes (bytes_at t r))
    (drop (0 + length (take 6 (object_at t r))) m) (length_words 4 (sum (bytes_at t r)))

-- a row's files have each its place among the sums
place_of : (i many : ℕ) → i < many → many ≤ 4096 → sum_at i ≡ counts_at + 4 * i
place_of i many lt le = omega arith

next_of : (i many : ℕ) → i < many → many ≤ 4096 → capped (i + 1) ≡ i + 1
next_of i many lt le = omega arith

-- four words more, behind those that are there
four_more : (i : ℕ) (s m xs : List ℕ) → length s ≡ 4 → counts_at + 4 * i + 4 ≤ length m → take (4 * i) (drop counts_at m) ≡ xs →
    take (4 * (i + 1)) (drop counts_at (over (counts_at + 4 * i) s m)) ≡ xs ++ s
four_more i s m xs l fits so_far =
    ap (λ j. take j (drop counts_at (over (counts_at + 4 * i) s m))) e ∙ take-add (4 * i) 4 (drop counts_at (over (counts_at + 4 * i) s m))
    ∙ ap₂ (λ x y. x ++ y) (parts_stay.beside (counts_at + 4 * i) s m counts_at (4 * i) (omega (arith, l)) (inl (omega arith)) ∙ so_far)
    (ap (take 4) (drop-drop (4 * i) counts_at (over (counts_at + 4 * i) s m)) ∙ part_written (counts_at + 4 * i) 4 s m l (omega arith))
  where
    e : 4 * (i + 1) ≡ 4 * i + 4
    e = omega arith

-- an id is a sum
pub id_long : (sum : Sum) → ((bs : List ℕ) → (length (sum bs) ≡ 32) × (all_bytes (sum bs) ≡ true)) → (n : ℕ) (b : Book) (q : ℕ) → q < n →
    (length (id_within n sum b q) ≡ 32) × (all_bytes (id_within n sum b q) ≡ true)
unfolding id_within
id_long sum sums zero b q lt = absurd (omega arith)
id_long sum sums (suc n) b q lt = sums (commit_spelled sum (each (id_within n sum b) (nth b q).parents) (nth b q))

one_below : (i q : ℕ) (ks : List ℕ) → every (λ j. ltb j i) ks ≡ true → ks ≡ q ∷ [] → q < i
one_below i q ks e f = ltb-true q i (and_parts (ltb q i) true (ap (every (λ j. ltb j i)) (sym f) ∙ e)).0

grown_at : (b : Book) (q : ℕ) → Grown b → every (λ j. ltb j q) (nth b q).parents ≡ true
unfolding Grown
grown_at b q g = g q

all_below : (i q : ℕ) (ks : List ℕ) → q < suc i → every (λ j. ltb j q) ks ≡ true → every (λ j. ltb j i) ks ≡ true
all_below i q [] lt e = refl
all_below i q (j ∷ ks) lt e =
    let p = and_parts (ltb j q) (every (λ j. ltb j q) ks) e in
    let l : j < q = ltb-true j q p.0 in
    and_from (ltb j i) (every (λ j. ltb j i) ks) (lt-ltb j i (omega arith)) (all_below i q ks lt p.1)

module _ (sum : Sum) (sums : (bs : List ℕ) → (length (sum bs) ≡ 32) × (all_bytes (sum bs) ≡ true)) (n : ℕ) (Stop : List ℕ → List ℕ → Rows → Type 0)
    (End : Control → List ℕ → List ℕ → List ℕ → ℕ → Rows → ℕ → Type 0) where
  abbrev Goes : Asked Control → List ℕ → List ℕ → ℕ → Rows → Type 0
  Goes a h t laid ss = Well sum n Stop End a h t laid ss

  -- the branch's commit is asked for, and its tree is named
  pub opens_tip : (k : Control) (ws d m h t : List ℕ) (laid : ℕ) (ss : Rows) (b : Book) (number : ℕ → ℕ) → Desk h ws d m → length t ≡ 64 * laid → 64 * laid < 18446744073709551616 →
      Placed t (8 * first_page h) (8 * laid) (tip_root h) → CommitAt sum b number t (tip_root h) → a_text (nth b (number (tip_root h))).words ≡ true →
      ((m₁ : List ℕ) → Desk h ws d m₁ →
      Goes (under_tip sum (coming_from (sum_key (id sum b (number (tip_root h)))) (at_phase OpeningTip k)) m₁ (tree_named (object_at t (tip_root h))) (weight_of (nth b (number (tip_root h))).tree) k.task) h t laid ss) →
      Goes (ask_tip k m) h t laid ss
  opens_tip k ws d m h t laid ss b number desk tl small_tape q kept text on =
      subst (λ (i : ℕ). Goes (asked (at_phase OpeningTip k) m (Object (capped (8 * (i - 1))) buffer_words)) h t laid ss) (sym (head_word_is h ws d m 3 (omega arith) desk))
      (opens_object sum n Stop End (at_phase OpeningTip k) m h t laid (tip_root h) ss tl small_tape q
      (goes_on sum n Stop End (at_phase OpeningTip k) m₁ h t laid ss desk₁.long
      (subst (λ (x : Option Layout). Goes (tip_came sum (at_phase OpeningTip k) m₁ x) h t laid ss) (sym (commit_came sum b number t m (tip_root h) kept text desk₁.long)) (on m₁ desk₁))))
    where
      m₁ : List ℕ
      m₁ = over 0 (object_at t (tip_root h)) m

      desk₁ : Desk h ws d (over 0 (object_at t (tip_root h)) m)
      desk₁ =
          desk_front h ws d m (object_at t (tip_root h)) (omega (arith, object_long t (8 * first_page h) (8 * laid) (tip_root h) (omega (arith, tl)) q, q.short)) desk

  -- THE LOG is shown, commit after commit
  module _ (b : Book) (number : ℕ → ℕ) (h t : List ℕ) (laid : ℕ) (tl : length t ≡ 64 * laid) (small_tape : 64 * laid < 18446744073709551616) (grown : Grown b)
      (texts : (q : ℕ) → a_text (nth b q).words ≡ true) (Found : ℕ → Type 0)
      (commits : (r : ℕ) → Found r → CommitAt sum b number t r × Placed t (8 * first_page h) (8 * laid) r)
      (parents : (r : ℕ) → Found r → 1 ≤ parent_named (object_at t r) → Found (parent_named (object_at t r)))
      (all : Rows) (stop : (xs ys : Rows) → xs ++ ys ≡ all → Stop h (published h t) xs)
      (c hs : ℕ) (end : (k₁ : Control) (m₁ : List ℕ) → k₁.house ≡ c → k₁.pages ≡ hs → End k₁ m₁ h t laid all 0) where
    -- a commit is asked for and shown, with the next one in mind
    one_more : (i : ℕ) (k : Control) (m : List ℕ) (r : ℕ) (ss : Rows) → k.house ≡ c → k.pages ≡ hs → length m ≡ bulk_cells → CommitAt sum b number t r →
        Placed t (8 * first_page h) (8 * laid) r → ss ++ each (line sum b) (number r ∷ chain_from i b (nth b (number r)).parents) ≡ all →
        ((k₁ : Control) (m₁ : List ℕ) (ss₁ : Rows) → k₁.house ≡ c → k₁.pages ≡ hs → length m₁ ≡ bulk_cells →
        ss₁ ++ each (line sum b) (chain_from i b (nth b (number r)).parents) ≡ all → Goes (log_from k₁ m₁ (parent_named (object_at t r))) h t laid ss₁) →
        Goes (log_from k m r) h t laid ss
    one_more i k m r ss kh kp long kept q so_far more =
        subst (λ (x : Asked Control). Goes x h t laid ss) (sym (pick_false (eqb r 0) _ _ (ne_eqb r 0 (λ z. omega (arith, kept.one)))))
        (opens_object sum n Stop End (at_phase OpeningLogged k) m h t laid r ss tl small_tape q
        (goes_on sum n Stop End (at_phase OpeningLogged k) m₁ h t laid ss long₁
        (subst (λ (x : Option Layout). Goes (logged (at_phase OpeningLogged k) m₁ x) h t laid ss) (sym (commit_came sum b number t m r kept (texts (number r)) long₁))
        (subst (λ (x : Asked Control). Goes x h t laid ss) (sym asked_is)
        (rows (asked k₁ m₂ (Show (32 + length w))) h t laid ss (32 + length w) refl (omega (arith, short))
        (subst (λ (x : List ℕ). Stop h (published h t) (ss ++ x ∷ [])) (sym shown) (stop (ss ++ line sum b (number r) ∷ []) (each (line sum b) (chain_from i b (nth b (number r)).parents)) on_all))
        (goes_on sum n Stop End k₁ m₂ h t laid _ long₂
        (subst (λ (x : List ℕ). Goes (log_from k₁ m₂ (parent_named (object_at t r))) h t laid (ss ++ x ∷ [])) (sym shown) (more k₁ m₂ (ss ++ line sum b (number r) ∷ []) kh kp long₂ on_all))))))))
      where
        w : List ℕ
        w = (nth b (number r)).words

        short : length (nth b (number r)).words < 65536
        short = (text_parts (nth b (number r)).words (texts (number r))).0

        the_id : (length (id sum b (number r)) ≡ 32) × (all_bytes (id sum b (number r)) ≡ true)
        the_id = id_long sum sums (length b) b (number r) kept.noted

        m₁ : List ℕ
        m₁ = over 0 (object_at t r) m

        long₁ : length (over 0 (object_at t r) m) ≡ bulk_cells
        long₁ = length_over 0 (object_at t r) m (omega (arith, object_long t (8 * first_page h) (8 * laid) r (omega (arith, tl)) q, q.short, long)) ∙ long

        ws : List ℕ
        ws = key_words (sum_key (id sum b (number r))) ++ packed_bytes (nth b (number r)).words

        m₂ : List ℕ
        m₂ = over 0 (key_words (sum_key (id sum b (number r))) ++ packed_bytes (nth b (number r)).words) (over 0 (object_at t r) m)

        long₂ : length (over 0 (key_words (sum_key (id sum b (number r))) ++ packed_bytes (nth b (number r)).words) (over 0 (object_at t r) m)) ≡ bulk_cells
        long₂ = length_over 0 ws m₁ (omega (arith, packed_long (nth b (number r)).words, short, long₁)) ∙ long₁

        k₁ : Control
        k₁ = logging (parent_named (object_at t r)) (at_phase OpeningLogged k)

        least : min (length (nth b (number r)).words) 65535 ≡ length (nth b (number r)).words
        least = omega (arith, short)

        asked_is : logged (at_phase OpeningLogged k) m₁ (Some (layout_at sum b number t r)) ≡ asked k₁ m₂ (Show (32 + length w))
        asked_is = ap₂ (λ x j. asked k₁ (over 0 (key_words (sum_key (id sum b (number r))) ++ x) m₁) (Show (32 + j))) (words_came sum b number t m r kept (texts (number r))) least

        shown : take (32 + length (nth b (number r)).words) (bytes_of (take 16384 m₂)) ≡ line sum b (number r)
        shown = line_shown (id sum b (number r)) (nth b (number r)).words m₁ the_id.0 the_id.1 (texts (number r))

        on_all : (ss ++ line sum b (number r) ∷ []) ++ each (line sum b) (chain_from i b (nth b (number r)).parents) ≡ all
        on_all = append_assoc ss (line sum b (number r) ∷ []) (each (line sum b) (chain_from i b (nth b (number r)).parents)) ∙ so_far

    -- from a commit, or from none, with its number below so many
    pub logs : (i : ℕ) (k : Control) (m : List ℕ) (r : ℕ) (ks : List ℕ) (ss : Rows) → k.house ≡ c → k.pages ≡ hs → length m ≡ bulk_cells → Numbered number t r ks →
        (1 ≤ r → Found r) → every (λ q. ltb q i) ks ≡ true → ss ++ each (line sum b) (chain_from i b ks) ≡ all → Goes (log_from k m r) h t laid ss
    logs i k m r ks ss kh kp long (inl (none, empty)) found below so_far =
        subst (λ (x : Asked Control). Goes x h t laid ss) (sym (pick_true (eqb r 0) _ _ (eq-eqb r 0 none)))
        (finishes (asked k m Done) h t laid ss 0 refl (omega arith) (subst (λ (x : Rows). End k m h t laid x 0) (sym all_is) (end k m kh kp)))
      where
        all_is : ss ≡ all
        all_is = sym (append-nil ss) ∙ ap (λ x. ss ++ each (line sum b) x) (sym (ap (chain_from i b) empty ∙ chain_none i b)) ∙ so_far
    logs zero k m r ks ss kh kp long (inr (one, kind, is)) found below so_far =
        let none : number r < 0 = one_below 0 (number r) ks below is in absurd (omega arith)
    logs (suc i) k m r ks ss kh kp long (inr (one, kind, is)) found below so_far =
        one_more i k m r ss kh kp long (commits r (found one)).0 (commits r (found one)).1
        (ap (λ x. ss ++ each (line sum b) x) (sym (ap (chain_from (suc i) b) is ∙ chain_more i b (number r))) ∙ so_far)
        (λ k₁ m₁ ss₁ kh₁ kp₁ long₁ so_far₁.
        logs i k₁ m₁ (parent_named (object_at t r)) (nth b (number r)).parents ss₁ kh₁ kp₁ long₁ (commits r (found one)).0.parent (parents r (found one))
        (all_below i (number r) (nth b (number r)).parents (one_below (suc i) (number r) ks below is) (grown_at b (number r) grown)) so_far₁)

  -- THE SUMS of a row's files are collected: a glance at a file shows its own
  opens_glance : (k : Control) (m h t : List ℕ) (laid r : ℕ) (ss : Rows) → 64 * laid < 18446744073709551616 → Placed t (8 * first_page h) (8 * laid) r →
      6 ≤ size_in (heading_at t r) → Goes (control_resumes sum k (over 0 (take 6 (object_at t r)) m)) h t laid ss → Goes (asked k m (Object (capped (8 * (r - 1))) 6)) h t laid ss
  unfolding object_at
  opens_glance k m h t laid r ss small_tape q six on =
      subst (λ (a : ℕ). Goes (asked k m (Object a 6)) h t laid ss) (sym at_is)
      (opens (asked k m (Object (8 * (r - 1)) 6)) h t laid ss (8 * (r - 1)) 6 refl (omega (arith, q.above)) (omega (arith, q.within, size_is))
      (λ _. subst (λ (x : List ℕ). Goes (control_resumes sum k (over 0 x m)) h t laid ss) (sym front) on))
    where
      at_is : capped (8 * (r - 1)) ≡ 8 * (r - 1)
      at_is = omega (arith, q.within)

      size_is : wanted 6 (get_or t (8 * (r - 1)) 0) ≡ 6
      size_is = omega arith

      front : take (wanted 6 (get_or t (8 * (r - 1)) 0)) (drop (8 * (r - 1)) t) ≡ take 6 (take (size_in (heading_at t r)) (drop (8 * (r - 1)) t))
      front = ap (λ i. take i (drop (8 * (r - 1)) t)) size_is ∙ sym (take-take 6 (size_in (heading_at t r)) (drop (8 * (r - 1)) t) six)

  -- file after file, until what is to be noted is spelled; then it is surveyed under its id
  module _ (k : Control) (ws d h t w : List ℕ) (laid : ℕ) (ss : Rows) (tree : Tree) (ids : List (List ℕ)) (tl : length t ≡ 64 * laid) (small_tape : 64 * laid < 18446744073709551616)
      (row : RowOf (bytes_at t) ws tree) (files : (r : ℕ) → has (references ws) r ≡ true → FileAt sum t r × Placed t (8 * first_page h) (8 * laid) r) (comes : Comes h k ids)
      (text : a_text w ≡ true) (bytes_are : k.bytes ≡ length w) (packed : take (words_for (length w)) (drop 9 d) ≡ packed_bytes w)
      (on : (p : Phase) (v : Cursor) (m₁ : List ℕ) → Desk h ws d m₁ →
      Goes (survey (identified (sum_key (sum (commit_spelled sum ids (record { parents = []; tree = tree; stamp = k.version.stamp; words = w })))) (at_phase p (comparing v k))) m₁) h t laid ss) where
    sums_from : (j i : ℕ) (p : Phase) (v : Cursor) (m : List ℕ) → i + j ≡ held ws → Desk h ws d m →
        take (4 * i) (drop counts_at m) ≡ flat (four sum (bytes_at t)) (take i (entries_of ws)) → Goes (sum_next sum (at_phase p (comparing v k)) m i) h t laid ss
    sums_from zero i p v m e desk so_far =
        subst (λ (x : Asked Control). Goes x h t laid ss) (sym (pick_false (ltb i (held (row_of m))) _ _ over_with))
        (subst (λ (x : List ℕ). Goes (survey (identified (sum_key (sum x)) (at_phase p (comparing v k))) m) h t laid ss)
        (sym (spelled_is sum sums (bytes_at t) (at_phase p (comparing v k)) ws d m h w tree ids desk row comes text bytes_are packed all)) (on p v m desk))
      where
        all_of : i ≡ held ws
        all_of = omega arith

        over_with : ltb i (held (row_of m)) ≡ false
        over_with = ap (λ x. ltb i (held x)) desk.row ∙ le-ltb i (held ws) (omega arith)

        all : take (4 * held ws) (drop counts_at m) ≡ flat (four sum (bytes_at t)) (entries_of ws)
        all =
            ap (λ x. take (4 * x) (drop counts_at m)) (sym all_of) ∙ so_far
            ∙ ap (flat (four sum (bytes_at t))) (take_all i (entries_of ws) (omega (arith, length_cut (held ws) (drop 2 ws))))
    sums_from (suc j) i p v m e desk so_far =
        subst (λ (x : Asked Control). Goes x h t laid ss) (sym (pick_true (ltb i (held (row_of m))) _ _ more))
        (subst (λ (x : List ℕ). Goes (asked (counted i k) m (Object (capped (8 * (get_or x (10 * i + 11) 0 - 1))) 6)) h t laid ss) (sym desk.row)
        (opens_glance (counted i k) m h t laid r ss small_tape q six
        (goes_on sum n Stop End (counted i k) m₁ h t laid ss desk₁.long
        (subst (λ (x : Asked Control). Goes x h t laid ss) (sym came) (sums_from j (i + 1) Summing (cursor i 0) m₂ (omega arith) desk₂ so_far₂)))))
      where
        less : i < held ws
        less = omega arith

        more : ltb i (held (row_of m)) ≡ true
        more = ap (λ x. ltb i (held x)) desk.row ∙ lt-ltb i (held ws) less

        r : ℕ
        r = get_or ws (10 * i + 11) 0

        f : File
        f = entry (take 9 (drop (10 * i + 2) ws)) (get_or ws (10 * i + 11) 0)

        there : In f (entries_of ws)
        there =
            subst (In f) (take-append-drop i (entries_of ws))
            (in_right f (take i (entries_of ws)) (drop i (entries_of ws)) (subst (In f) (sym (entry_at ws i less)) (inl refl)))

        file : FileAt sum t (get_or ws (10 * i + 11) 0) × Placed t (8 * first_page h) (8 * laid) (get_or ws (10 * i + 11) 0)
        file = files (get_or ws (10 * i + 11) 0) (in_has (references ws) (get_or ws (10 * i + 11) 0) (in_each reference_of (entries_of ws) f there))

        q : Placed t (8 * first_page h) (8 * laid) (get_or ws (10 * i + 11) 0)
        q = file.1

        s : List ℕ
        s = words 4 (sum (bytes_at t (get_or ws (10 * i + 11) 0)))

        six : 6 ≤ size_in (heading_at t (get_or ws (10 * i + 11) 0))
        six = file_size sum t (8 * first_page h) (8 * laid) (get_or ws (10 * i + 11) 0) (omega (arith, tl)) file.0 q

        m₁ : List ℕ
        m₁ = over 0 (take 6 (object_at t (get_or ws (10 * i + 11) 0))) m

        few : length (take 6 (object_at t (get_or ws (10 * i + 11) 0))) ≤ 6
        few = omega (arith, length-take 6 (object_at t (get_or ws (10 * i + 11) 0)))

        desk₁ : Desk h ws d (over 0 (take 6 (object_at t (get_or ws (10 * i + 11) 0))) m)
        desk₁ = desk_front h ws d m (take 6 (object_at t (get_or ws (10 * i + 11) 0))) (omega (arith, few)) desk

        m₂ : List ℕ
        m₂ = over (counts_at + 4 * i) (words 4 (sum (bytes_at t (get_or ws (10 * i + 11) 0)))) m₁

        four_long : length (words 4 (sum (bytes_at t (get_or ws (10 * i + 11) 0)))) ≡ 4
        four_long = length_words 4 (sum (bytes_at t (get_or ws (10 * i + 11) 0)))

        desk₂ : Desk h ws d (over (counts_at + 4 * i) (words 4 (sum (bytes_at t (get_or ws (10 * i + 11) 0)))) m₁)
        desk₂ = desk_map h ws d m₁ s (counts_at + 4 * i) (omega arith) (omega (arith, less, four_long)) desk₁

        came : sum_came sum (counted i k) m₁ ≡ sum_next sum (counted i k) m₂ (i + 1)
        came =
            ap₂ (λ x y. sum_next sum (counted i k) (over x y m₁) (capped (i + 1))) (place_of i (held ws) less (omega arith)) (glance_sum sum t m (get_or ws (10 * i + 11) 0) file.0)
            ∙ ap (sum_next sum (counted i k) m₂) (next_of i (held ws) less (omega arith))

        so_far₂ : take (4 * (i + 1)) (drop counts_at m₂) ≡ flat (four sum (bytes_at t)) (take (i + 1) (entries_of ws))
        so_far₂ =
            four_more i s m₁ (flat (four sum (bytes_at t)) (take i (entries_of ws))) four_long (omega (arith, less, desk₁.long))
            (parts_stay.beside 0 (take 6 (object_at t r)) m counts_at (4 * i) (omega (arith, few, desk.long)) (inr (omega (arith, few))) ∙ so_far)
            ∙ sym (ap (flat (four sum (bytes_at t))) (take-add i 1 (entries_of ws) ∙ ap (λ x. take i (entries_of ws) ++ take 1 x) (entry_at ws i less))
            ∙ flat_append (four sum (bytes_at t)) (take i (entries_of ws)) (f ∷ []) ∙ ap (λ x. flat (four sum (bytes_at t)) (take i (entries_of ws)) ++ x) (append-nil s))

  pub sums_files : (k : Control) (ws d m h t w : List ℕ) (laid : ℕ) (ss : Rows) (tree : Tree) (ids : List (List ℕ)) → Desk h ws d m → length t ≡ 64 * laid → 64 * laid < 18446744073709551616 →
      RowOf (bytes_at t) ws tree → ((r : ℕ) → has (references ws) r ≡ true → FileAt sum t r × Placed t (8 * first_page h) (8 * laid) r) → Comes h k ids →
      a_text w ≡ true → k.bytes ≡ length w → take (words_for (length w)) (drop 9 d) ≡ packed_bytes w →
      ((p : Phase) (v : Cursor) (m₁ : List ℕ) → Desk h ws d m₁ →
      Goes (survey (identified (sum_key (sum (commit_spelled sum ids (record { parents = []; tree = tree; stamp = k.version.stamp; words = w })))) (at_phase p (comparing v k))) m₁) h t laid ss) →
      Goes (sum_next sum k m 0) h t laid ss
  sums_files k ws d m h t w laid ss tree ids desk tl small_tape row files comes text bytes_are packed on =
      sums_from k ws d h t w laid ss tree ids tl small_tape row files comes text bytes_are packed on (held ws) 0 k.phase k.cursor m (omega arith) desk refl

  -- THE ID of what was noted is shown, once the head is published
  pub shows_id : (k : Control) (m h t id₁ : List ℕ) (laid : ℕ) → length m ≡ bulk_cells → k.task ≡ Note → k.sum ≡ sum_key id₁ → length id₁ ≡ 32 → all_bytes id₁ ≡ true →
      Stop h (published h t) (id₁ ∷ []) → ((k₁ : Control) (m₁ : List ℕ) → k₁.house ≡ k.house → k₁.pages ≡ k.pages → End k₁ m₁ h t laid (id₁ ∷ []) 0) →
      Goes (published_by k m k.task) h t laid []
  shows_id k m h t id₁ laid long task_is sum_is l ok stop end =
      subst (λ (a : Task). Goes (published_by k m a) h t laid []) (sym task_is)
      (rows (asked k₁ m₁ (Show 32)) h t laid [] 32 refl (omega arith) (subst (λ (y : List ℕ). Stop h (published h t) (y ∷ [])) (sym shown) stop)
      (goes_on sum n Stop End k₁ m₁ h t laid _ (length_over 0 (key_words k.sum) m (omega (arith, long)) ∙ long)
      (finishes (asked k₁ m₁ Done) h t laid _ 0 refl (omega arith) (subst (λ (y : List ℕ). End k₁ m₁ h t laid (y ∷ []) 0) (sym shown) (end k₁ m₁ refl refl)))))
    where
      k₁ : Control
      k₁ = at_phase Showing k

      m₁ : List ℕ
      m₁ = over 0 (key_words k.sum) m

      shown : take 32 (bytes_of (take 16384 (over 0 (key_words k.sum) m))) ≡ id₁
      shown = ap (λ x. take 32 (bytes_of (take 16384 (over 0 (key_words x) m)))) sum_is ∙ key_shown id₁ m l ok

  -- THE COMMIT is laid and published, and its id is shown
  pub lays_version : (k : Control) (ws d m h t id₁ : List ℕ) (c : Commit) (laid : ℕ) → Desk h ws d m → length h ≡ 32 → k.task ≡ Note → k.sum ≡ sum_key id₁ → length id₁ ≡ 32 → all_bytes id₁ ≡ true →
      k.version.stamp ≡ c.stamp → get_or ws 1 0 ≡ weight_of c.tree → weight_of c.tree ≤ 1152921504606846976 → a_text c.words ≡ true → k.bytes ≡ length c.words → take (words_for (length c.words)) (drop 9 d) ≡ packed_bytes c.words →
      first_page h ≤ laid → laid + pages_of (length (version_of sum (work_root h) (tip_root h) id₁ c)) ≤ first_page h + n →
      64 * (laid + pages_of (length (version_of sum (work_root h) (tip_root h) id₁ c))) < 18446744073709551616 →
      ((x : List ℕ) → length x ≡ 64 * pages_of (length (version_of sum (work_root h) (tip_root h) id₁ c)) →
      take (length (version_of sum (work_root h) (tip_root h) id₁ c)) x ≡ version_of sum (work_root h) (tip_root h) id₁ c →
      let h₁ : List ℕ = first_page h ∷ (laid + pages_of (length (version_of sum (work_root h) (tip_root h) id₁ c))) ∷ work_root h ∷ (8 * laid + 1) ∷ drop 4 h in
      Stop h₁ (published h₁ (t ++ x)) [] × Stop h₁ (published h₁ (t ++ x)) (id₁ ∷ [])
      × ((k₁ : Control) (m₁ : List ℕ) → k₁.house ≡ k.house → k₁.pages ≡ k.pages → End k₁ m₁ h₁ (t ++ x) (laid + pages_of (length (version_of sum (work_root h) (tip_root h) id₁ c))) (id₁ ∷ []) 0)) →
      Goes (lay_commit k m laid) h t laid []
  lays_version k ws d m h t id₁ c laid desk hl task_is sum_is l ok stamp_is weighed light text bytes_are packed from fits small_tape on =
      subst (λ (x : Asked Control). Goes x h t laid []) (sym (commit_laid k ws d m h id₁ c desk sum_is stamp_is weighed light text bytes_are packed laid o is))
      (subst (λ (r : ℕ). Goes (laid_from LayingCommit k m₁ laid (length o) r) h t laid []) (sym root_is)
      (lays_object sum n Stop End LayingCommit k m₁ h t o laid (8 * laid + 1) [] desk₁.long (omega (arith, o_long)) (omega (arith, o_long, short)) (take_at o (drop (0 + length o) m) (length o) refl)
      fits small_tape
      (λ x xl front.
      goes_on sum n Stop End k₁ m₁ h (t ++ x) laid₁ [] desk₁.long
      (subst (λ (i : ℕ). Goes (publish k₁ m₁ laid₁ i (8 * laid + 1)) h (t ++ x) laid₁ []) (sym (head_word_is h ws d m₁ 2 (omega arith) desk₁))
      (publishes_head sum n Stop End k₁ ws d m₁ h (t ++ x) laid₁ laid₁ (work_root h) (8 * laid + 1) [] desk₁ hl (omega arith) (omega arith) (on x xl front).0
      (λ m₂ l₂. shows_id (at_phase Publishing k₁) m₂ h₁ (t ++ x) id₁ laid₁ l₂ task_is sum_is l ok (on x xl front).1 (on x xl front).2))))))
    where
      o : List ℕ
      o = version_of sum (work_root h) (tip_root h) id₁ c

      laid₁ : ℕ
      laid₁ = laid + pages_of (length (version_of sum (work_root h) (tip_root h) id₁ c))

      h₁ : List ℕ
      h₁ = first_page h ∷ laid₁ ∷ work_root h ∷ (8 * laid + 1) ∷ drop 4 h

      short : length c.words < 65536
      short = (text_parts c.words text).0

      o_long : length (version_of sum (work_root h) (tip_root h) id₁ c) ≡ 11 + words_for (length c.words)
      o_long = omega (arith, packed_long c.words, length_words 4 id₁, length-append (words 4 id₁) (c.stamp ∷ weight_of c.tree ∷ packed_bytes c.words))

      is : commit_in k m ≡ version_of sum (work_root h) (tip_root h) id₁ c
      is = commit_is k ws d m h id₁ c desk sum_is stamp_is weighed light text bytes_are packed

      root_is : reference_at laid ≡ 8 * laid + 1
      root_is = omega arith

      m₁ : List ℕ
      m₁ = over 0 (version_of sum (work_root h) (tip_root h) id₁ c) m

      desk₁ : Desk h ws d (over 0 (version_of sum (work_root h) (tip_root h) id₁ c) m)
      desk₁ = desk_front h ws d m (version_of sum (work_root h) (tip_root h) id₁ c) (omega (arith, o_long, short)) desk

      k₁ : Control
      k₁ = laying LayingCommit laid₁ (8 * laid + 1) k
