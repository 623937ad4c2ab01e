-- A map of files is a tree, one of names a list of names: what is found, put in and taken out.
use Rattle.std.proofs.Common.{◌≡◌, ℕ, List, [], ◌∷◌, ◌++◌, refl, sym, ap, ◌∙◌, Bool, true, false, cond, not, ◌&&◌, ◌==◌, ltb, ◌≤◌, zero, suc, length, get_or, Some, None, Option, Vec, Global, Bor, arith}
use Rattle.std.specs.declared.cmp.Ordering.{Ordering}
use Rattle.std.specs.declared.cmp.Ordering.TheVariants.{Less, Equal, Greater}
use Rattle.std.specs.Ordering.{nat_cmp, is_eq, match_ordering}
use Rattle.std.specs.Cmp.Lexicographic.{slice_cmp}
use Rattle.std.specs.BTreeMap.{insert_entry, is_at}
use Rattle.std.specs.Map.{lookup, remove_entry}
use Rattle.pages.specs.Lists.{pick, each, none_of, same, earlier}
use Rattle.pages.proofs.ListLaws.{same_true}
use Rattle.std.specs.Option.{is_some, option_copied, option_or}
use Rattle.std.proofs.lemmas.Bool.Decides.{nat_tests}
use lib.Pointwise.{pointwise}
use Rattle.house.specs.House.{Ref, ref_of, tree_of}
use Rattle.history.specs.Book.{Book, nth}
use Rattle.history.proofs.BookLaws.{nth_beyond}
use Rattle.plain.specs.declared.book.Commit.{Commit as HeldCommit}
use Rattle.trees.specs.Tree.{Tree, alike, found, mark, put, same_tree, set, without}
use Rattle.trees.proofs.KeyLaws.{compared}
use Rattle.plain.specs.Files.{Marks, commit_of, file_of, held, name_of, one}

-- how code compares a path with a key
abbrev pub by_key : List ℕ → Vec ℕ Global → Ordering
by_key p k = slice_cmp nat_cmp p k.items

abbrev pub order : Vec ℕ Global → Vec ℕ Global → Ordering
order p k = slice_cmp nat_cmp p.items k.items

-- one row of bytes, or none
abbrev pub row_of : Option (Vec ℕ Global) → List (List ℕ)
row_of None = []
row_of (Some v) = v.items ∷ []

tested : (s e : Bool) → is_eq (pick s Equal (pick e Less Greater)) ≡ s
tested true e = refl
tested false true = refl
tested false false = refl

pub is_same : (xs ys : List ℕ) → is_eq (slice_cmp nat_cmp xs ys) ≡ same xs ys
is_same xs ys = ap is_eq (compared xs ys) ∙ tested (same xs ys) (earlier xs ys)

same_either : (xs ys : List ℕ) → same xs ys ≡ same ys xs
unfolding same
same_either [] [] = refl
same_either [] (y ∷ ys) = refl
same_either (x ∷ xs) [] = refl
same_either (x ∷ xs) (y ∷ ys) = let e = same_either xs ys in grind (arith, e)

picked : {A : Type 0} (b c : Bool) (x y : A) → b ≡ c → cond b x y ≡ pick c x y
picked true true x y e = refl
picked true false x y e = cc
picked false true x y e = cc
picked false false x y e = refl

row_at : (b : Bool) (v : Vec ℕ Global) (o : Option (Vec ℕ Global)) → row_of (cond b (Some v) o) ≡ cond b (v.items ∷ []) (row_of o)
row_at true v o = refl
row_at false v o = refl

pub found_held : (p : List ℕ) (es : List (Vec ℕ Global × Vec ℕ Global)) → row_of (lookup (is_at (by_key p)) es) ≡ found (each file_of es) p
unfolding found
found_held p [] = refl
found_held p (e ∷ es) =
    row_at (is_eq (by_key p e.0)) e.1 (lookup (is_at (by_key p)) es) ∙ ap (λ r. cond (is_eq (by_key p e.0)) (e.1.items ∷ []) r) (found_held p es)
    ∙ picked (is_eq (by_key p e.0)) (same e.0.items p) (e.1.items ∷ []) (found (each file_of es) p) (is_same p e.0.items ∙ same_either p e.0.items)

files_at : (b : Bool) (es fs : List (Vec ℕ Global × Vec ℕ Global)) → each file_of (cond b es fs) ≡ cond b (each file_of es) (each file_of fs)
files_at true es fs = refl
files_at false es fs = refl

pub without_held : (p : List ℕ) (es : List (Vec ℕ Global × Vec ℕ Global)) → each file_of (remove_entry (is_at (by_key p)) es) ≡ without p (each file_of es)
unfolding without
without_held p [] = refl
without_held p (e ∷ es) =
    files_at (is_eq (by_key p e.0)) es (e ∷ remove_entry (is_at (by_key p)) es)
    ∙ ap (λ r. cond (is_eq (by_key p e.0)) (each file_of es) (file_of e ∷ r)) (without_held p es)
    ∙ picked (is_eq (by_key p e.0)) (same p e.0.items) (each file_of es) (file_of e ∷ without p (each file_of es)) (is_same p e.0.items)

pub put_held : (k v : Vec ℕ Global) (es : List (Vec ℕ Global × Vec ℕ Global)) → each file_of (insert_entry order es k v) ≡ put k.items v.items (each file_of es)
unfolding put
put_held k v [] = refl
put_held k v (e ∷ es) =
    ap (λ o. each file_of (match_ordering o ((k, v) ∷ e ∷ es) ((e.0, v) ∷ es) (e ∷ insert_entry order es k v))) (compared k.items e.0.items)
    ∙ go (same k.items e.0.items) (earlier k.items e.0.items) (same_true k.items e.0.items) (put_held k v es)
  where
    go : (s l : Bool) → (s ≡ true → k.items ≡ e.0.items) → each file_of (insert_entry order es k v) ≡ put k.items v.items (each file_of es) →
        each file_of (match_ordering (pick s Equal (pick l Less Greater)) ((k, v) ∷ e ∷ es) ((e.0, v) ∷ es) (e ∷ insert_entry order es k v))
        ≡ pick s (record { path = k.items; bytes = v.items } ∷ each file_of es)
        (pick l (record { path = k.items; bytes = v.items } ∷ file_of e ∷ each file_of es) (file_of e ∷ put k.items v.items (each file_of es)))
    go true l h r = ap (λ p. record { path = p; bytes = v.items } ∷ each file_of es) (sym (h refl))
    go false true h r = refl
    go false false h r = ap (λ fs. file_of e ∷ fs) r

-- what code looks up and what it lends
pub rows_held : (p : List ℕ) (es : List (Vec ℕ Global × Vec ℕ Global)) (r : List (List ℕ)) (o : Option (Vec ℕ Global)) → o ≡ lookup (is_at (by_key p)) es
    → r ≡ row_of o → r ≡ found (each file_of es) p
rows_held p es r o e g = g ∙ ap row_of e ∙ found_held p es

pub set_some : (p b : List ℕ) (t : Tree) → set p (b ∷ []) t ≡ put p b t
unfolding set
set_some p b t = refl

pub set_none : (p : List ℕ) (t : Tree) → set p [] t ≡ without p t
unfolding set
set_none p t = refl

-- what two options give, one after the other
one_at : (b : Bool) (k : ℕ) (o : Option ℕ) → one (cond b (Some k) o) ≡ cond b (k ∷ []) (one o)
one_at true k o = refl
one_at false k o = refl

pub name_held : (n : List ℕ) (es : List (Vec ℕ Global × ℕ)) → one (lookup (is_at (by_key n)) es) ≡ ref_of (each name_of es) n
unfolding ref_of
name_held n [] = refl
name_held n (e ∷ es) =
    one_at (is_eq (by_key n e.0)) e.1 (lookup (is_at (by_key n)) es) ∙ ap (λ r. cond (is_eq (by_key n e.0)) (e.1 ∷ []) r) (name_held n es)
    ∙ picked (is_eq (by_key n e.0)) (same e.0.items n) (e.1 ∷ []) (ref_of (each name_of es) n) (is_same n e.0.items ∙ same_either n e.0.items)

-- one name, or where that is none what comes behind
abbrev pub either : List ℕ → List ℕ → List ℕ
either [] js = js
either (k ∷ ks) js = k ∷ ks

ref_along : (rs ss : List Ref) (n : List ℕ) → ref_of (rs ++ ss) n ≡ either (ref_of rs n) (ref_of ss n)
unfolding ref_of
ref_along [] ss n = refl
ref_along (r ∷ rs) ss n = go (same r.name n) (ref_along rs ss n)
  where
    go : (b : Bool) → ref_of (rs ++ ss) n ≡ either (ref_of rs n) (ref_of ss n) → pick b (r.to ∷ []) (ref_of (rs ++ ss) n) ≡ either (pick b (r.to ∷ []) (ref_of rs n)) (ref_of ss n)
    go true e = refl
    go false e = e

one_or : (a b : Option (Bor ℕ)) → one (option_copied (option_or a b)) ≡ either (one (option_copied a)) (one (option_copied b))
one_or None b = refl
one_or (Some x) b = refl

pub found_name : (n : List ℕ) (es : List (Vec ℕ Global × ℕ)) (o : Option (Bor ℕ)) → option_copied o ≡ lookup (is_at (by_key n)) es → one (option_copied o) ≡ ref_of (each name_of es) n
found_name n es o e = ap one e ∙ name_held n es

pub either_held : (n : List ℕ) (bs ts : List (Vec ℕ Global × ℕ)) (a b : Option (Bor ℕ)) → option_copied a ≡ lookup (is_at (by_key n)) bs
    → option_copied b ≡ lookup (is_at (by_key n)) ts → one (option_copied (option_or a b)) ≡ ref_of (each name_of bs ++ each name_of ts) n
either_held n bs ts a b e f =
    one_or a b ∙ ap (λ r. either r (one (option_copied b))) (found_name n bs a e) ∙ ap (λ r. either (ref_of (each name_of bs) n) r) (found_name n ts b f)
    ∙ sym (ref_along (each name_of bs) (each name_of ts) n)

pub named_held : (n : List ℕ) (bs ts os : List (Vec ℕ Global × ℕ)) (a b c : Option (Bor ℕ)) → option_copied a ≡ lookup (is_at (by_key n)) bs
    → option_copied b ≡ lookup (is_at (by_key n)) ts → option_copied c ≡ lookup (is_at (by_key n)) os
    → one (option_copied (option_or (option_or a b) c)) ≡ ref_of (each name_of bs ++ each name_of ts ++ each name_of os) n
named_held n bs ts os a b c e f g =
    one_or (option_or a b) c ∙ ap (λ r. either r (one (option_copied c))) (either_held n bs ts a b e f)
    ∙ ap (λ r. either (ref_of (each name_of bs ++ each name_of ts) n) r) (found_name n os c g)
    ∙ sym (ref_along (each name_of bs ++ each name_of ts) (each name_of os) n)

some_one : (o : Option (Bor ℕ)) → is_some o ≡ not (none_of (one (option_copied o)))
some_one None = refl
some_one (Some x) = refl

same_slices : (xs ys : List ℕ) → pointwise (λ m n. m == n) xs ys ≡ same xs ys
unfolding same
same_slices [] [] = refl
same_slices [] (y ∷ ys) = refl
same_slices (x ∷ xs) [] = refl
same_slices (x ∷ xs) (y ∷ ys) = ap (λ b. x == y && b) (same_slices xs ys)

taken_so : (s h f e : Bool) → s ≡ not f → s ≡ h → h ≡ true → true ≡ not (f && not e)
taken_so s h true e p q r = cc
taken_so s h false e p q r = refl

taken_else : (s f e : Bool) → s ≡ not f → s ≡ false → e ≡ not (f && not e)
taken_else s true true p q = refl
taken_else s true false p q = refl
taken_else s false e p q = cc

some_name : (o : Option ℕ) → not (is_some o) ≡ none_of (one o)
some_name None = refl
some_name (Some k) = refl

turned_round : (s b : Bool) → s ≡ not b → b ≡ not s
turned_round s true e = sym (ap not e)
turned_round s false e = sym (ap not e)

pub none_name : (o : Option ℕ) (b : Bool) → is_some o ≡ not b → b ≡ none_of (one o)
none_name o b e = turned_round (is_some o) b e ∙ some_name o

-- whether code misses a name, and is at one
pub missing_name : (n : List ℕ) (es : List (Vec ℕ Global × ℕ)) (b : Bool) → b ≡ is_some (lookup (is_at (by_key n)) es) → not b ≡ none_of (ref_of (each name_of es) n)
missing_name n es b e = ap not e ∙ some_name (lookup (is_at (by_key n)) es) ∙ ap none_of (name_held n es)

pub same_name : (here n h : List ℕ) (b : Bool) → b ≡ pointwise (λ m n. m == n) h n → h ≡ here → b ≡ same n here
same_name here n h b e f = e ∙ ap (λ x. pointwise (λ m n. m == n) x n) f ∙ same_slices here n ∙ same_either here n

-- a name is taken where it is found, or where one works there
pub taken_found : (n here : List ℕ) (rs : List Ref) (o : Option (Bor ℕ)) → one (option_copied o) ≡ ref_of rs n → is_some o ≡ true
    → true ≡ not (none_of (ref_of rs n) && not (same n here))
taken_found n here rs o e t = taken_so (is_some o) (is_some o) (none_of (ref_of rs n)) (same n here) (some_one o ∙ ap (λ r. not (none_of r)) e) refl t

pub taken_here : (n here : List ℕ) (rs : List Ref) (o : Option (Bor ℕ)) (b : Bool) → one (option_copied o) ≡ ref_of rs n → is_some o ≡ false
    → b ≡ pointwise (λ m n. m == n) here n → b ≡ not (none_of (ref_of rs n) && not (same n here))
taken_here n here rs o b e t h =
    h ∙ same_slices here n ∙ same_either here n ∙ taken_else (is_some o) (none_of (ref_of rs n)) (same n here) (some_one o ∙ ap (λ r. not (none_of r)) e) t

pub found_none : (t : Tree) (p : List ℕ) → [] ≡ t → [] ≡ found t p
unfolding found
found_none t p e = rw (← e) refl

-- the tree of a commit, or none
pub tree_none : (b : Book) (o : Option ℕ) → o ≡ None → [] ≡ tree_of b (one o)
unfolding tree_of
tree_none b o e = rw (e) refl

tree_front : (cs : List HeldCommit) (k : ℕ) (c : HeldCommit) → true ≡ ltb k (length cs) → c ≡ get_or cs k c → held c.tree ≡ (nth (each commit_of cs) k).tree
unfolding nth
tree_front [] k c l e = absurd (grind (arith, nat_tests))
tree_front (d ∷ cs) zero c l e = ap (λ x. held x.tree) e
tree_front (d ∷ cs) (suc k) c l e = tree_front cs k c (grind (arith, nat_tests)) e

length_each : (cs : List HeldCommit) → length (each commit_of cs) ≡ length cs
length_each [] = refl
length_each (c ∷ cs) = ap (λ n. suc n) (length_each cs)

pub tree_at : (cs ds : List HeldCommit) (k : ℕ) (o : Option ℕ) (c : HeldCommit) → ds ≡ cs → o ≡ Some k → true ≡ ltb k (length ds) → c ≡ get_or ds k c
    → held c.tree ≡ tree_of (each commit_of cs) (one o)
unfolding tree_of
tree_at cs ds k o c e f l g = rw (f) (rw (← e) (tree_front ds k c l g))

pub tree_beyond : (cs ds : List HeldCommit) (k : ℕ) (o : Option ℕ) → ds ≡ cs → o ≡ Some k → false ≡ ltb k (length ds) → [] ≡ tree_of (each commit_of cs) (one o)
unfolding tree_of
tree_beyond cs ds k o e f l =
    let far : length ds ≤ k = grind (arith, nat_tests) in
    let over : length (each commit_of ds) ≤ k = rw (length_each ds) far in
    rw (f) (rw (← e) (sym (ap (λ c. c.tree) (nth_beyond (each commit_of ds) k over))))

-- what differs at a path
pub marks_alike : (O N : List (List ℕ)) → alike O N ≡ true → Marks O N None
unfolding mark
marks_alike O N q old now p e f = rw (e, f, q) refl

pub marks_new : (O N : List (List ℕ)) → alike O N ≡ false → O ≡ [] → Marks O N (Some 1)
unfolding mark
marks_new O N q g old now p e f = rw (e, f, q, g) refl

pub marks_gone : (O N : List (List ℕ)) (a : List ℕ) → alike O N ≡ false → O ≡ a ∷ [] → N ≡ [] → Marks O N (Some 3)
unfolding mark
marks_gone O N a q g h old now p e f = rw (e, f, q, g, h) refl

pub marks_changed : (O N : List (List ℕ)) (a b : List ℕ) → alike O N ≡ false → O ≡ a ∷ [] → N ≡ b ∷ [] → Marks O N (Some 2)
unfolding mark
marks_changed O N a b q g h old now p e f = rw (e, f, q, g, h) refl

-- two trees that code compares
abbrev pub as_code : List (Vec ℕ Global × Vec ℕ Global) → List (Vec ℕ Global × Vec ℕ Global) → Bool
as_code es fs = pointwise (λ p q. pointwise (λ m n. m == n) p.0.items q.0.items && pointwise (λ m n. m == n) p.1.items q.1.items) es fs

pub same_trees : (es fs : List (Vec ℕ Global × Vec ℕ Global)) → as_code es fs ≡ same_tree (each file_of es) (each file_of fs)
unfolding same_tree
same_trees [] [] = refl
same_trees [] (f ∷ fs) = refl
same_trees (e ∷ es) [] = refl
same_trees (e ∷ es) (f ∷ fs) =
    ap (λ b. b && pointwise (λ m n. m == n) e.1.items f.1.items && as_code es fs) (same_slices e.0.items f.0.items)
    ∙ ap (λ b. same e.0.items f.0.items && b && as_code es fs) (same_slices e.1.items f.1.items)
    ∙ ap (λ b. same e.0.items f.0.items && same e.1.items f.1.items && b) (same_trees es fs)

pub empty_tree : (es : List (Vec ℕ Global × Vec ℕ Global)) → (length es == 0) ≡ same_tree (each file_of es) []
unfolding same_tree
empty_tree [] = refl
empty_tree (e ∷ es) = grind (arith, nat_tests)
