-- What is to be noted is spelled out of memory as its commit is spelled. Assumes nothing.
use Rattle.std.proofs.Common.{◌≡◌, ℕ, suc, ◌+◌, ◌*◌, ◌≤◌, min, true, eqb, ◌⊎◌, List, [], ◌∷◌, ◌++◌, length, take, drop, sym, refl, ap, ◌∙◌, ap₂, inl, inr, arith, append-nil}
use Rattle.std.proofs.lemmas.List.{take_at, drop_at, take-take, drop-take, drop-drop, append_assoc}
use Rattle.std.proofs.lemmas.Bool.{eq-eqb, ne_eqb}
use Rattle.pages.specs.Lists.{each, flat}
use Rattle.pages.specs.Bytes.{all_bytes, eight, with_length}
use Rattle.pages.specs.Words.{bytes_of, words}
use Rattle.pages.proofs.ListLaws.{pick_true, pick_false, length_each}
use Rattle.pages.proofs.WordLaws.{length_words, bytes_of_words}
use Rattle.objects.specs.Plan.{counts_at, counts_of}
use Rattle.objects.specs.Layouts.{words_for, packed_bytes}
use Rattle.objects.specs.Marking.{key_words}
use Rattle.objects.proofs.LayoutLaws.{bytes_back}
use Rattle.trees.specs.Tree.{File, Tree}
use Rattle.trees.specs.Row.{held, entries_of, path_of, reference_of}
use Rattle.trees.specs.RowOf.{file_of, RowOf}
use Rattle.trees.proofs.RowLaws.{length_cut}
use Rattle.history.specs.Book.{Sum, commit_spelled, file_spelled}
use Rattle.commands.specs.Command.{a_text}
use Rattle.house.specs.Control.{files_spelled, parents_spelled, spelled_in, words_said, head_word, path_at, row_of, sum_key}
use Rattle.house.specs.Shelf.{tip_root}
use Rattle.house.specs.declared.control.Control.{Control}
use Rattle.house.proofs.DeskLaws.{Desk, head_word_is}
use Rattle.house.proofs.Sheets.{sum_words, text_parts}

-- a sum's bytes out of its four words
pub key_bytes : (s : List ℕ) → length s ≡ 32 → all_bytes s ≡ true → bytes_of (key_words (sum_key s)) ≡ s
key_bytes s l ok = ap bytes_of (sum_words s) ∙ bytes_of_words 4 s (omega arith) ok

-- what a commit comes from: none, or one
abbrev pub Comes : List ℕ → Control → List (List ℕ) → Type 0
Comes h k ids =
    ((tip_root h ≡ 0) × (ids ≡ [])) ⊎ ((1 ≤ tip_root h) × (p : List ℕ) × (ids ≡ p ∷ []) × (k.version.parent ≡ sum_key p) × (length p ≡ 32) × (all_bytes p ≡ true))

-- six parts, put together from either side
from_the_right : (a b c d e f : List ℕ) → (a ++ b) ++ (c ++ (d ++ (e ++ f))) ≡ ((((a ++ b) ++ c) ++ d) ++ e) ++ f
from_the_right a b c d e f =
    sym (append_assoc (a ++ b) c (d ++ (e ++ f))) ∙ sym (append_assoc ((a ++ b) ++ c) d (e ++ f)) ∙ sym (append_assoc (((a ++ b) ++ c) ++ d) e f)

-- the four words of the sum of an entry's file
abbrev pub four : Sum → (ℕ → List ℕ) → File → List ℕ
four sum stands f = words 4 (sum (stands (reference_of f)))

module _ (sum : Sum) (sums : (bs : List ℕ) → (length (sum bs) ≡ 32) × (all_bytes (sum bs) ≡ true)) (stands : ℕ → List ℕ) where
  files_are : (es : Tree) (cs : List ℕ) → take (4 * length es) cs ≡ flat (four sum stands) es → files_spelled es cs ≡ flat (file_spelled sum) (each (file_of stands) es)
  unfolding files_spelled file_spelled
  files_are [] cs e = refl
  files_are (f ∷ fs) cs e =
      ap₂ (λ x y. with_length (path_of f.path) ++ (with_length x ++ y)) (ap bytes_of front ∙ bytes_of_words 4 s (omega (arith, (sums (stands (reference_of f))).0)) (sums (stands (reference_of f))).1)
      (files_are fs (drop 4 cs) behind)
      ∙ sym (append_assoc (with_length (path_of f.path)) (with_length s) (flat (file_spelled sum) (each (file_of stands) fs)))
    where
      s : List ℕ
      s = sum (stands (reference_of f))

      all : take (4 + 4 * length fs) cs ≡ words 4 (sum (stands (reference_of f))) ++ flat (four sum stands) fs
      all = let n : 4 + 4 * length fs ≡ 4 * suc (length fs) = omega arith in ap (λ i. take i cs) n ∙ e

      front : take 4 cs ≡ words 4 (sum (stands (reference_of f)))
      front = sym (take-take 4 (4 + 4 * length fs) cs (omega arith)) ∙ ap (take 4) all ∙ take_at (words 4 s) (flat (four sum stands) fs) 4 (length_words 4 s)

      behind : take (4 * length fs) (drop 4 cs) ≡ flat (four sum stands) fs
      behind = sym (drop-take 4 (4 * length fs) cs) ∙ ap (drop 4) all ∙ drop_at (words 4 s) (flat (four sum stands) fs) 4 (length_words 4 s)

  module _ (k : Control) (ws d m h w : List ℕ) (tree : Tree) (ids : List (List ℕ)) (desk : Desk h ws d m) where
    parents_are : Comes h k ids → parents_spelled k m ≡ eight (length ids) ++ flat with_length ids
    parents_are (inl (none, empty)) =
        pick_true (eqb (head_word m 3) 0) _ _ (eq-eqb (head_word m 3) 0 (head_word_is h ws d m 3 (omega arith) desk ∙ none))
        ∙ sym (append-nil (eight 0)) ∙ ap (λ (x : List (List ℕ)). eight (length x) ++ flat with_length x) (sym empty)
    parents_are (inr (some, p, one, is, l, ok)) =
        pick_false (eqb (head_word m 3) 0) _ _ (ne_eqb (head_word m 3) 0 (λ z. omega (arith, head_word_is h ws d m 3 (omega arith) desk)))
        ∙ ap (λ x. eight 1 ++ with_length (bytes_of (key_words x))) is ∙ ap (λ x. eight 1 ++ with_length x) (key_bytes p l ok)
        ∙ ap (λ x. eight 1 ++ x) (sym (append-nil (with_length p))) ∙ ap (λ (x : List (List ℕ)). eight (length x) ++ flat with_length x) (sym one)

    words_are : a_text w ≡ true → k.bytes ≡ length w → take (words_for (length w)) (drop 9 d) ≡ packed_bytes w → words_said (min k.bytes 65535) m ≡ w
    words_are text bytes_are packed =
        ap (λ i. words_said i m) least
        ∙ ap (λ x. take (length w) (bytes_of (take (words_for (length w)) x))) (sym (drop-drop 9 path_at m) ∙ ap (drop 9) desk.said)
        ∙ ap (λ x. take (length w) (bytes_of x)) packed ∙ bytes_back w (text_parts w text).1
      where
        least : min k.bytes 65535 ≡ length w
        least = omega (arith, bytes_are, (text_parts w text).0)

    pub spelled_is : RowOf stands ws tree → Comes h k ids → a_text w ≡ true → k.bytes ≡ length w → take (words_for (length w)) (drop 9 d) ≡ packed_bytes w →
        take (4 * held ws) (drop counts_at m) ≡ flat (four sum stands) (entries_of ws) →
        spelled_in k m ≡ commit_spelled sum ids (record { parents = []; tree = tree; stamp = k.version.stamp; words = w })
    unfolding spelled_in
    spelled_is row comes text bytes_are packed sums_are =
        ap₂ (λ x y. x ++ y) (parents_are comes)
        (ap₂ (λ x y. x ++ y) (ap eight many) (ap₂ (λ x y. x ++ (eight k.version.stamp ++ with_length y)) files (words_are text bytes_are packed)))
        ∙ from_the_right (eight (length ids)) (flat with_length ids) (eight (length tree)) (flat (file_spelled sum) tree) (eight k.version.stamp) (with_length w)
      where
        count : length (entries_of ws) ≡ held ws
        count = length_cut (held ws) (drop 2 ws)

        many : length (entries_of (row_of m)) ≡ length tree
        many = ap (λ x. length (entries_of x)) desk.row ∙ sym (length_each (file_of stands) (entries_of ws)) ∙ ap length row.is

        stand : take (4 * length (entries_of ws)) (counts_of m) ≡ flat (four sum stands) (entries_of ws)
        stand = take-take (4 * length (entries_of ws)) 16384 (drop counts_at m) (omega (arith, count)) ∙ ap (λ i. take (4 * i) (drop counts_at m)) count ∙ sums_are

        files : files_spelled (entries_of (row_of m)) (counts_of m) ≡ flat (file_spelled sum) tree
        files = ap (λ x. files_spelled (entries_of x) (counts_of m)) desk.row ∙ files_are (entries_of ws) (counts_of m) stand ∙ ap (flat (file_spelled sum)) row.is
