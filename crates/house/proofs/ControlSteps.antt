-- The control's branches: what each test decides. Assumes nothing.
use Rattle.std.proofs.Common.{◌≡◌, ℕ, ◌+◌, ◌-◌, ◌*◌, ◌<◌, ◌≤◌, min, Bool, true, false, not, ◌&&◌, eqb, leb, ltb, List, ◌++◌, length, get_or, take, drop, Some, None, Option, Bor, Ok, Err, Result, sym, refl, ap, ◌∙◌, ap₂, arith}
use Rattle.std.proofs.lemmas.Bool.{and_parts, eq-eqb, eqb-true, leb-true, le-ltb, lt-ltb}
use Rattle.std.proofs.lemmas.List.{get_or-take, get_or-drop, length-take}
use borrow.Rule.Slice.PartMut.{put_mid}
use Rattle.std.specs.Result.{is_err}
use Rattle.pages.specs.Lists.{pick}
use Rattle.pages.specs.Machine.{Asked, asked, buffer_words, capped}
use Rattle.pages.specs.Words.{over}
use Rattle.pages.specs.declared.machine.Request.{Request}
use Rattle.pages.specs.declared.machine.Request.TheVariants.{Done, Object, Recall, Refuse}
use Rattle.pages.proofs.ListLaws.{false_unless, pick_true, pick_false}
use Rattle.objects.specs.Layouts.{answered, bytes_put, bytes_stand, commit_fits, commit_of, in_front, words_at, words_for}
use Rattle.objects.specs.declared.layouts.Commit.{Commit as Layout}
use Rattle.objects.proofs.LayoutLaws.{at_most}
use Rattle.objects.specs.Plan.{plan_end}
use Rattle.objects.specs.Marking.{begun, walk}
use Rattle.objects.specs.Sweeping.{sweep_begun, swung}
use Rattle.objects.specs.Room.{quarter}
use Rattle.objects.proofs.PlanLaws.{over_before, over_same}
use Rattle.objects.specs.declared.mark.Key.{Key}
use Rattle.objects.specs.declared.mark.Walk.{Walk}
use Rattle.trees.specs.Row.{has_key, held, put_key, references, room_for, take_key}
use Rattle.trees.specs.Packed.{squeezed, squeeze_answer}
use Rattle.trees.specs.declared.rows.Refused.{Refused}
use Rattle.trees.specs.declared.rows.Refused.TheVariants.{Full}
use Rattle.commands.specs.Command.{write_file}
use Rattle.commands.specs.Meaning.{meant}
use Rattle.commands.specs.declared.command.Command.{Command}
use Rattle.commands.specs.declared.command.Command.TheVariants.{WriteFile, DropFile, Commit, Branch, GoTo, History, ShowFile, Status as StatusSaid, ReadFile, Join, Settle, Leave as LeaveSaid, MoveOnto, Carry, Forget, Tag, Who, Sweep, Fetch}
use Rattle.history.specs.Book.{Sum}
use Rattle.house.specs.declared.control.Control.{Control}
use Rattle.house.specs.declared.control.Phase.{Phase}
use Rattle.house.specs.declared.control.Phase.TheVariants.{LayingFile, LayingTree, OpeningTip}
use Rattle.house.specs.declared.control.Task.{Task}
use Rattle.house.specs.declared.control.Task.TheVariants.{Nothing, Write, Drop, Read, Status, Leave, Note, Log, View}
use Rattle.house.specs.Control.{again, against, ask_tip, at_phase, bytes_at, commit_put, control_resumes, counted, desk_end, entry_weight, file_in, head_word, hearing, kept, kind_sought, laid_from, lay_commit, lay_file, lay_tree, layout_in, lays, load, loaded, named, path_key, path_put, publish, recalled, reference_at, resumed, row_at, row_of, row_words, said_of, settled, squeezed_in, started, survey, surveyed, surveying, survey_roots, sum_key, sum_next, summed, sweeping, tight, tree_put, under_tip, window_of, with_row}
use Rattle.house.proofs.ControlLaws.{row_written}

-- A NUMBER THAT MAY BE 0
pub is_zero : {A : Type 0} (n : ℕ) (x y : A) → n ≡ 0 → pick (eqb n 0) x y ≡ x
is_zero n x y e = pick_true (eqb n 0) x y (eq-eqb n 0 e)

pub not_zero : {A : Type 0} (n : ℕ) (x y : A) → (n ≡ 0 → ⊥) → pick (eqb n 0) x y ≡ y
not_zero n x y f = pick_false (eqb n 0) x y (false_unless (eqb n 0) (λ t. f (eqb-true n 0 t)))

-- THE TREE IS LAID, where its row could be stored
squeezed_fits : (ws out : List ℕ) (words : ℕ) → Some words ≡ squeeze_answer ws out → words ≤ length out
unfolding squeeze_answer
squeezed_fits ws out words e = go (leb (length (squeezed ws)) (length out)) refl e
  where
    go : (b : Bool) → leb (length (squeezed ws)) (length out) ≡ b → Some words ≡ pick b (Some (length (squeezed ws))) None → words ≤ length out
    go true t q = let l : length (squeezed ws) ≤ length out = leb-true (length (squeezed ws)) (length out) t in let s : words ≡ length (squeezed ws) = cc in omega arith
    go false t q = absurd (cc)

pub tree_words : (m ws : List ℕ) (words : ℕ) (r : Option ℕ) → r ≡ Some words → r ≡ squeeze_answer ws (take buffer_words m) → words < 4294967296
tree_words m ws words r e a = omega (arith, squeezed_fits ws (take buffer_words m) words (sym e ∙ a), length-take buffer_words m)

pub tree_none : (k : Control) (m m₁ : List ℕ) (page : ℕ) (r : Option ℕ) (q : Request) → r ≡ None → r ≡ squeeze_answer (row_of m) (take buffer_words m) →
    m₁ ≡ squeezed_in m → q ≡ Refuse 2 → asked k m₁ q ≡ lay_tree k m page
tree_none k m m₁ page r q n a e f = ap₂ (asked k) e f ∙ ap (tree_put k m page) (sym n ∙ a)

pub tree_some : (k k₁ : Control) (m m₁ : List ℕ) (page words root : ℕ) (r : Option ℕ) (q : Request) → r ≡ Some words →
    r ≡ squeeze_answer (row_of m) (take buffer_words m) → m₁ ≡ squeezed_in m → root ≡ reference_at page →
    asked k₁ m₁ q ≡ laid_from LayingTree k m₁ page words root → asked k₁ m₁ q ≡ lay_tree k m page
tree_some k k₁ m m₁ page words root r q s a e f is =
    is ∙ ap₂ (λ x y. laid_from LayingTree k x page words y) e f ∙ ap (tree_put k m page) (sym s ∙ a)

-- THE FILE IS LAID, where its bytes stand
file_fits : (k : Control) (m : List ℕ) (words : ℕ) (r : Option ℕ) → r ≡ answered (bytes_stand 65535 k.bytes bytes_at m) (file_in k m) → r ≡ Some words →
    (bytes_stand 65535 k.bytes bytes_at m ≡ true) × (words ≡ length (file_in k m))
file_fits k m words r a s = go (bytes_stand 65535 k.bytes bytes_at m) (sym s ∙ a)
  where
    go : (b : Bool) → Some words ≡ pick b (Some (length (file_in k m))) None → (b ≡ true) × (words ≡ length (file_in k m))
    go true e = (refl, cc)
    go false e = absurd (cc)

pub file_words : (k : Control) (m : List ℕ) (words : ℕ) (r : Option ℕ) → r ≡ answered (bytes_stand 65535 k.bytes bytes_at m) (file_in k m) → r ≡ Some words → words < 4294967296
file_words k m words r a s =
    let f = file_fits k m words r a s in
    let p = and_parts (leb plan_end (length m)) _ f.0 in
    let q = and_parts (leb k.bytes 65535) _ p.1 in
    let few : k.bytes ≤ 65535 = leb-true k.bytes 65535 q.0 in
    let long : length (file_in k m) ≡ 6 + length (words_at k.bytes bytes_at m) = omega arith in
    omega (arith, f.1, length-take (words_for k.bytes) (drop bytes_at m))

pub file_none : (k : Control) (m m₁ : List ℕ) (page : ℕ) (r : Option ℕ) (q : Request) → r ≡ answered (bytes_stand 65535 k.bytes bytes_at m) (file_in k m) → r ≡ None →
    m₁ ≡ in_front (bytes_stand 65535 k.bytes bytes_at m) (file_in k m) m → q ≡ Refuse 2 → asked k m₁ q ≡ lay_file k m page
file_none k m m₁ page r q a n e f = go (bytes_stand 65535 k.bytes bytes_at m) (sym n ∙ a) e
  where
    go : (b : Bool) → None ≡ answered b (file_in k m) → m₁ ≡ in_front b (file_in k m) m →
        asked k m₁ q
        ≡ pick b (laid_from LayingFile k (named (reference_at page) (over 0 (file_in k m) m)) page (length (file_in k m)) k.root) (asked k m (Refuse 2))
    go true g h = absurd (cc)
    go false g h = ap₂ (asked k) h f

pub file_some : (k k₁ : Control) (m m₁ m₂ : List ℕ) (page words at : ℕ) (r : Option ℕ) (q : Request) →
    r ≡ answered (bytes_stand 65535 k.bytes bytes_at m) (file_in k m) → r ≡ Some words → m₁ ≡ in_front (bytes_stand 65535 k.bytes bytes_at m) (file_in k m) m →
    at ≡ reference_at page → m₂ ≡ named at m₁ → asked k₁ m₂ q ≡ laid_from LayingFile k m₂ page words k.root → asked k₁ m₂ q ≡ lay_file k m page
file_some k k₁ m m₁ m₂ page words at r q a s e g n is =
    let f = file_fits k m words r a s in
    let front : m₁ ≡ over 0 (file_in k m) m = e ∙ ap (λ b. in_front b (file_in k m) m) f.0 in
    is ∙ ap₂ (λ x y. laid_from LayingFile k x page y k.root) (n ∙ ap₂ named g front) f.1
    ∙ sym (pick_true (bytes_stand 65535 k.bytes bytes_at m) _ (asked k m (Refuse 2)) f.0)

-- THE COMMIT IS LAID, where its words stand
answer_fits : (b : Bool) (o : List ℕ) (words : ℕ) → Some words ≡ answered b o → (b ≡ true) × (words ≡ length o)
answer_fits true o words e = (refl, cc)
answer_fits false o words e = absurd (cc)

pub commit_words : (k : Control) (m : List ℕ) (o : Layout) (words : ℕ) (r : Option ℕ) → o ≡ layout_in k m →
    r ≡ answered (commit_fits o bytes_at m) (commit_of o (words_at o.bytes bytes_at m)) → r ≡ Some words → words < 4294967296
commit_words k m o words r e a s =
    let f = answer_fits (commit_fits o bytes_at m) (commit_of o (words_at o.bytes bytes_at m)) words (sym s ∙ a) in
    let stand = (and_parts (bytes_stand 65535 o.bytes bytes_at m) _ f.0).0 in
    let few : o.bytes ≤ 65535 = at_most 65535 o.bytes bytes_at m stand in
    let long : length (commit_of o (words_at o.bytes bytes_at m)) ≡ 11 + length (words_at o.bytes bytes_at m) = omega arith in
    omega (arith, f.1, length-take (words_for o.bytes) (drop bytes_at m))

pub commit_answered : (k k₁ : Control) (m m₁ : List ℕ) (page : ℕ) (o : Layout) (r : Option ℕ) (q : Request) → o ≡ layout_in k m →
    r ≡ answered (commit_fits o bytes_at m) (commit_of o (words_at o.bytes bytes_at m)) →
    m₁ ≡ in_front (commit_fits o bytes_at m) (commit_of o (words_at o.bytes bytes_at m)) m →
    asked k₁ m₁ q ≡ commit_put k m₁ page r → asked k₁ m₁ q ≡ lay_commit k m page
commit_answered k k₁ m m₁ page o r q e a f is =
    is ∙ ap₂ (λ x y. commit_put k x page y) f a
    ∙ ap (λ o. commit_put k (in_front (commit_fits o bytes_at m) (commit_of o (words_at o.bytes bytes_at m)) m) page (answered (commit_fits o bytes_at m) (commit_of o (words_at o.bytes bytes_at m)))) e

-- THE SURVEY BEGINS
eightfold : (x y r : ℕ) → y ≡ x → r ≡ min (y * 8) 18446744073709551615 → r ≡ capped (8 * x)
eightfold x y r e f = omega arith

pub window_is : (k : Control) (m : List ℕ) (a b d f g kind : ℕ) → a ≡ head_word m 0 → b ≡ head_word m 1 → d ≡ b - a → f ≡ min (a * 8) 18446744073709551615 →
    g ≡ min (d * 8) 18446744073709551615 → kind ≡ kind_sought k.task → walk f g 0 kind k.sum 0 ≡ window_of k m
window_is k m a b d f g kind ea eb ed ef eg ek =
    ap₂ (λ x y. walk x y 0 kind k.sum 0) (eightfold (head_word m 0) a f ea ef)
    (eightfold (head_word m 1 - head_word m 0) d g (ed ∙ ap₂ (λ x y. x - y) eb ea) eg)
    ∙ ap (λ x. walk (capped (8 * head_word m 0)) (capped (8 * (head_word m 1 - head_word m 0))) 0 x k.sum 0) ek

pub kept_begun : (t : Task) (m m₁ : List ℕ) (a f : ℕ) → a ≡ head_word m 0 → f ≡ min (a * 8) 18446744073709551615 → m₁ ≡ begun f (survey_roots t m) m →
    m₁ ≡ begun (capped (8 * head_word m 0)) (survey_roots t m) m
kept_begun t m m₁ a f ea ef e = e ∙ ap (λ x. begun x (survey_roots t m) m) (eightfold (head_word m 0) a f ea ef)

pub roots_kept : (t : Task) (m : List ℕ) → (t ≡ Note → ⊥) → take 7 (drop 41155 m) ++ references (row_of m) ≡ survey_roots t m
roots_kept Nothing m f = refl
roots_kept Write m f = refl
roots_kept Drop m f = refl
roots_kept Read m f = refl
roots_kept Status m f = refl
roots_kept Leave m f = refl
roots_kept Note m f = absurd (f refl)
roots_kept Log m f = refl
roots_kept View m f = refl

-- ALL IS MET
pub no_room : (k : Control) (m : List ℕ) (much most : ℕ) (q : Request) → much ≡ kept k k.walk m → most ≡ quarter (min k.pages 4294967296) → most < much → q ≡ Refuse 8 →
    asked (surveying k k.walk) m q ≡ surveyed k k.walk m
no_room k m much most q a b h e =
    ap (asked (surveying k k.walk) m) e
    ∙ sym (pick_true (ltb (quarter (min k.pages 4294967296)) (kept k k.walk m)) (asked (surveying k k.walk) m (Refuse 8)) _ (lt-ltb (quarter (min k.pages 4294967296)) (kept k k.walk m) (omega arith)))

pub room_left : (k : Control) (m : List ℕ) (much most : ℕ) (a : Asked Control) → much ≡ kept k k.walk m → most ≡ quarter (min k.pages 4294967296) → much ≤ most →
    a ≡ settled (surveying k k.walk) k.walk m k.task → a ≡ surveyed k k.walk m
room_left k m much most a e f h is =
    is ∙ sym (pick_false (ltb (quarter (min k.pages 4294967296)) (kept k k.walk m)) (asked (surveying k k.walk) m (Refuse 8)) _ (le-ltb (quarter (min k.pages 4294967296)) (kept k k.walk m) (omega arith)))

pub settled_else : (k : Control) (w : Walk) (m : List ℕ) (t : Task) → (t ≡ Write → ⊥) → (t ≡ Note → ⊥) → (t ≡ Leave → ⊥) → asked k m Done ≡ settled k w m t
settled_else k w m Nothing f g h = refl
settled_else k w m Write f g h = absurd (f refl)
settled_else k w m Drop f g h = refl
settled_else k w m Read f g h = refl
settled_else k w m Status f g h = refl
settled_else k w m Leave f g h = absurd (h refl)
settled_else k w m Note f g h = absurd (g refl)
settled_else k w m Log f g h = refl
settled_else k w m View f g h = refl

pub file_is_new : (k : Control) (m : List ℕ) (page : ℕ) (a : Asked Control) → k.walk.found ≡ 0 → page ≡ head_word m 1 → a ≡ lay_file k m page →
    a ≡ settled k k.walk m Write
file_is_new k m page a z p is = is ∙ ap (lay_file k m) p ∙ sym (is_zero k.walk.found _ _ z)

pub file_is_there : (k : Control) (m m₁ : List ℕ) (page : ℕ) (a : Asked Control) → (k.walk.found ≡ 0 → ⊥) → page ≡ head_word m 1 →
    m₁ ≡ named k.walk.found m → a ≡ lay_tree k m₁ page → a ≡ settled k k.walk m Write
file_is_there k m m₁ page a z p n is = is ∙ ap₂ (lay_tree k) n p ∙ sym (not_zero k.walk.found _ _ z)

pub commit_is_new : (k : Control) (m : List ℕ) (page : ℕ) (a : Asked Control) → k.walk.found ≡ 0 → page ≡ head_word m 1 → a ≡ lay_commit k m page →
    a ≡ settled k k.walk m Note
commit_is_new k m page a z p is = is ∙ ap (lay_commit k m) p ∙ sym (is_zero k.walk.found _ _ z)

pub commit_is_there : (k : Control) (m : List ℕ) (page root : ℕ) (a : Asked Control) → (k.walk.found ≡ 0 → ⊥) → page ≡ head_word m 1 → root ≡ head_word m 2 →
    a ≡ publish k m page root k.walk.found → a ≡ settled k k.walk m Note
commit_is_there k m page root a z p r is = is ∙ ap₂ (λ x y. publish k m x y k.walk.found) p r ∙ sym (not_zero k.walk.found _ _ z)

-- THE ROW IS CHANGED, or stays
same_row : (m new ws : List ℕ) → desk_end ≤ length m → length new ≡ length (row_of m) → new ≡ ws → ws ≡ row_of m → put_mid row_at row_words m new ≡ m
same_row m new ws h l e s = row_written m new ws h l e ∙ ap (λ x. with_row x m) s ∙ over_same row_at row_words m (omega arith)

put_fails : (m new key : List ℕ) (weight : ℕ) → desk_end ≤ length m → length new ≡ length (row_of m) → new ≡ put_key key weight 0 (row_of m) →
    room_for key 0 (row_of m) ≡ false → put_mid row_at row_words m new ≡ m
unfolding put_key
put_fails m new key weight h l e f = same_row m new _ h l e (pick_false (room_for key 0 (row_of m)) _ (row_of m) f)

take_fails : (m new key : List ℕ) (weight : ℕ) → desk_end ≤ length m → length new ≡ length (row_of m) → new ≡ take_key key weight (row_of m) →
    has_key key (row_of m) ≡ false → put_mid row_at row_words m new ≡ m
unfolding take_key
take_fails m new key weight h l e f = same_row m new _ h l e (pick_false (has_key key (row_of m)) _ (row_of m) f)

head_stays : (ws m : List ℕ) → desk_end ≤ length m → head_word (with_row ws m) 1 ≡ head_word m 1
head_stays ws m h = over_before row_at 41153 ws m (omega arith) (omega arith)

-- an error says that there was no room
pub put_said : (room failed : Bool) (r : Result Unit Refused) → r ≡ pick room (Ok tt) (Err Full) → failed ≡ is_err r → room ≡ not failed
put_said true failed r e f = sym (ap not (f ∙ ap is_err e))
put_said false failed r e f = sym (ap not (f ∙ ap is_err e))

-- a file is written into the row
pub write_full : (sum : Sum) (k : Control) (m new key : List ℕ) (weight : ℕ) (q : Request) → desk_end ≤ length m → length new ≡ length (row_of m) →
    new ≡ put_key key weight 0 (row_of m) → key ≡ path_key m → room_for key 0 (row_of m) ≡ false → q ≡ Refuse 10 →
    asked k (put_mid row_at row_words m new) q ≡ loaded sum k m Write
write_full sum k m new key weight q h l e p f r =
    ap₂ (asked k) (put_fails m new key weight h l e f) r
    ∙ sym (pick_false (room_for (path_key m) 0 (row_of m)) _ (asked k m (Refuse 10)) (ap (λ x. room_for x 0 (row_of m)) (sym p) ∙ f))

pub write_fits : (sum : Sum) (k : Control) (m new key : List ℕ) (weight : ℕ) (a : Asked Control) → desk_end ≤ length m → length new ≡ length (row_of m) →
    new ≡ put_key key weight 0 (row_of m) → key ≡ path_key m → weight ≡ entry_weight m → room_for key 0 (row_of m) ≡ true →
    a ≡ survey k (put_mid row_at row_words m new) → a ≡ loaded sum k m Write
write_fits sum k m new key weight a h l e p w f is =
    is ∙ ap (survey k) (row_written m new _ h l (e ∙ ap₂ (λ x y. put_key x y 0 (row_of m)) p w))
    ∙ sym (pick_true (room_for (path_key m) 0 (row_of m)) (survey k (named 0 m)) _ (ap (λ x. room_for x 0 (row_of m)) (sym p) ∙ f))

-- a file is taken out of the row
pub take_none : (sum : Sum) (k : Control) (m new key : List ℕ) (weight : ℕ) (q : Request) → desk_end ≤ length m → length new ≡ length (row_of m) →
    new ≡ take_key key weight (row_of m) → key ≡ path_key m → has_key key (row_of m) ≡ false → q ≡ Refuse 3 →
    asked k (put_mid row_at row_words m new) q ≡ loaded sum k m Drop
take_none sum k m new key weight q h l e p f r =
    ap₂ (asked k) (take_fails m new key weight h l e f) r
    ∙ sym (pick_false (has_key (path_key m) (row_of m)) _ (asked k m (Refuse 3)) (ap (λ x. has_key x (row_of m)) (sym p) ∙ f))

pub take_some : (sum : Sum) (k : Control) (m new key : List ℕ) (weight page : ℕ) (a : Asked Control) → desk_end ≤ length m → length new ≡ length (row_of m) →
    new ≡ take_key key weight (row_of m) → key ≡ path_key m → weight ≡ entry_weight m → has_key key (row_of m) ≡ true →
    page ≡ head_word (put_mid row_at row_words m new) 1 → a ≡ lay_tree k (put_mid row_at row_words m new) page → a ≡ loaded sum k m Drop
take_some sum k m new key weight page a h l e p w f g is =
    let row : put_mid row_at row_words m new ≡ with_row (take_key (path_key m) (entry_weight m) (row_of m)) m =
    row_written m new _ h l (e ∙ ap₂ (λ x y. take_key x y (row_of m)) p w) in
    is ∙ ap₂ (lay_tree k) row (g ∙ ap (λ x. head_word x 1) row ∙ head_stays (take_key (path_key m) (entry_weight m) (row_of m)) m h)
    ∙ sym (pick_true (has_key (path_key m) (row_of m)) _ (asked k m (Refuse 3)) (ap (λ x. has_key x (row_of m)) (sym p) ∙ f))

-- THE NEXT SUM
pub next_sum : (sum : Sum) (k : Control) (m : List ℕ) (file at : ℕ) → file < held (row_of m) → at ≡ capped (8 * (get_or m (188640 + 10 * file + 11) 0 - 1)) →
    asked (counted file k) m (Object at 6) ≡ sum_next sum k m file
next_sum sum k m file at lt e =
    ap (λ x. asked (counted file k) m (Object x 6)) (e ∙ ap (λ w. capped (8 * (w - 1))) word) ∙ sym (pick_true (ltb file (held (row_of m))) _ _ (lt-ltb file (held (row_of m)) lt))
  where
    place : row_at + (10 * file + 11) ≡ 188640 + 10 * file + 11
    place = omega arith

    word : get_or m (188640 + 10 * file + 11) 0 ≡ get_or (row_of m) (10 * file + 11) 0
    word = ap (λ i. get_or m i 0) (sym place) ∙ sym (get_or-drop row_at m (10 * file + 11) 0) ∙ sym (get_or-take row_words (drop row_at m) (10 * file + 11) 0 (omega arith))

pub all_summed : (sum : Sum) (k : Control) (m : List ℕ) (file : ℕ) (a : Asked Control) → held (row_of m) ≤ file → a ≡ summed sum k m → a ≡ sum_next sum k m file
all_summed sum k m file a le is = is ∙ sym (pick_false (ltb file (held (row_of m))) _ _ (le-ltb file (held (row_of m)) le))

-- THE LAST COMMIT, if there is one
pub no_tip : {A : Type 0} (m : List ℕ) (tip : ℕ) (a x y : A) → tip ≡ head_word m 3 → tip ≡ 0 → a ≡ x → a ≡ pick (eqb (head_word m 3) 0) x y
no_tip m tip a x y e z is = is ∙ sym (is_zero (head_word m 3) x y (sym e ∙ z))

pub some_tip : (k : Control) (m : List ℕ) (tip : ℕ) (a x : Asked Control) → tip ≡ head_word m 3 → (tip ≡ 0 → ⊥) →
    a ≡ asked (at_phase OpeningTip k) m (Object (capped (8 * (tip - 1))) buffer_words) → a ≡ pick (eqb (head_word m 3) 0) x (ask_tip k m)
some_tip k m tip a x e z is =
    is ∙ ap (λ r. asked (at_phase OpeningTip k) m (Object (capped (8 * (r - 1))) buffer_words)) e ∙ sym (not_zero (head_word m 3) x (ask_tip k m) (λ w. z (e ∙ w)))

-- WHAT OTHER TASKS DO WITH THE LAST COMMIT
pub against_else : (sum : Sum) (k : Control) (m : List ℕ) (t : Task) → (t ≡ Status → ⊥) → (t ≡ Note → ⊥) → asked k m Done ≡ against sum k m t
against_else sum k m Nothing f g = refl
against_else sum k m Write f g = refl
against_else sum k m Drop f g = refl
against_else sum k m Read f g = refl
against_else sum k m Status f g = absurd (f refl)
against_else sum k m Leave f g = refl
against_else sum k m Note f g = absurd (g refl)
against_else sum k m Log f g = refl
against_else sum k m View f g = refl

pub under_tip_else : (sum : Sum) (k : Control) (m : List ℕ) (root weight : ℕ) (t : Task) → (t ≡ Status → ⊥) → (t ≡ Note → ⊥) → (t ≡ Leave → ⊥) → (t ≡ View → ⊥) → asked k m Done ≡ under_tip sum k m root weight t
under_tip_else sum k m root weight Nothing f g h i = refl
under_tip_else sum k m root weight Write f g h i = refl
under_tip_else sum k m root weight Drop f g h i = refl
under_tip_else sum k m root weight Read f g h i = refl
under_tip_else sum k m root weight Status f g h i = absurd (f refl)
under_tip_else sum k m root weight Leave f g h i = absurd (h refl)
under_tip_else sum k m root weight Note f g h i = absurd (g refl)
under_tip_else sum k m root weight Log f g h i = refl
under_tip_else sum k m root weight View f g h i = absurd (i refl)

-- THE TASK BEGINS
pub started_loads : (sum : Sum) (k : Control) (m : List ℕ) (t : Task) (root : ℕ) (a : Asked Control) → (t ≡ Nothing → ⊥) → (t ≡ Leave → ⊥) → (t ≡ Log → ⊥) → (t ≡ View → ⊥) →
    root ≡ head_word m 2 → a ≡ load sum k m root → a ≡ started sum k m t
started_loads sum k m Nothing root a n l o v r is = absurd (n refl)
started_loads sum k m Write root a n l o v r is = is ∙ ap (load sum k m) r
started_loads sum k m Drop root a n l o v r is = is ∙ ap (load sum k m) r
started_loads sum k m Read root a n l o v r is = is ∙ ap (load sum k m) r
started_loads sum k m Status root a n l o v r is = is ∙ ap (load sum k m) r
started_loads sum k m Leave root a n l o v r is = absurd (l refl)
started_loads sum k m Note root a n l o v r is = is ∙ ap (load sum k m) r
started_loads sum k m Log root a n l o v r is = absurd (o refl)
started_loads sum k m View root a n l o v r is = absurd (v refl)

-- it sweeps first, or goes on
pub sweep_comes : (sum : Sum) (k : Control) (m : List ℕ) (a : Bool) (r : Asked Control) → a ≡ (lays k.task && tight k.pages m) → a ≡ true →
    r ≡ swung (sweeping k) (again k) (sweep_begun k.sweep m) → r ≡ recalled sum k m
sweep_comes sum k m a r e t is = is ∙ sym (pick_true (lays k.task && tight k.pages m) _ _ (sym e ∙ t))

pub goes_on : (sum : Sum) (k : Control) (m : List ℕ) (a : Bool) (r : Asked Control) → a ≡ (lays k.task && tight k.pages m) → a ≡ false → r ≡ started sum k m k.task → r ≡ recalled sum k m
goes_on sum k m a r e f is = is ∙ sym (pick_false (lays k.task && tight k.pages m) _ _ (sym e ∙ f))

-- a memory that is long enough goes on by its phase
pub resumes_in : (sum : Sum) (k : Control) (m : List ℕ) (p : Phase) → desk_end ≤ length m → k.phase ≡ p → resumed sum k m p ≡ control_resumes sum k m
resumes_in sum k m p h e =
    ap (resumed sum k m) (sym e) ∙ sym (pick_false (ltb (length m) desk_end) (asked k m (Refuse 2)) (resumed sum k m k.phase) (le-ltb (length m) desk_end h))

-- WHAT IS SAID: a command that it does not know
pub not_known : (sum : Sum) (k : Control) (m : List ℕ) (c : Command) → ((p b : Bor (List ℕ)) → c ≡ WriteFile p b → ⊥) → ((p : Bor (List ℕ)) → c ≡ DropFile p → ⊥) →
    ((s : ℕ) (b : Bor (List ℕ)) → c ≡ Commit s b → ⊥) → (c ≡ History → ⊥) → ((n p : Bor (List ℕ)) → c ≡ ShowFile n p → ⊥) → ((p : Bor (List ℕ)) → c ≡ ReadFile p → ⊥) →
    (c ≡ StatusSaid → ⊥) → (c ≡ LeaveSaid → ⊥) → asked k m (Refuse 2) ≡ said_of sum k m (meant c)
not_known sum k m (WriteFile p b) w d n h v r s l = absurd (w p b refl)
not_known sum k m (DropFile p) w d n h v r s l = absurd (d p refl)
not_known sum k m (Commit x b) w d n h v r s l = absurd (n x b refl)
not_known sum k m (Branch x) w d n h v r s l = refl
not_known sum k m (GoTo x) w d n h v r s l = refl
not_known sum k m History w d n h v r s l = absurd (h refl)
not_known sum k m (ShowFile x p) w d n h v r s l = absurd (v x p refl)
not_known sum k m StatusSaid w d n h v r s l = absurd (s refl)
not_known sum k m (ReadFile p) w d n h v r s l = absurd (r p refl)
not_known sum k m (Join x) w d n h v r s l = refl
not_known sum k m (Settle x) w d n h v r s l = refl
not_known sum k m LeaveSaid w d n h v r s l = absurd (l refl)
not_known sum k m (MoveOnto x) w d n h v r s l = refl
not_known sum k m (Carry x) w d n h v r s l = refl
not_known sum k m (Forget x) w d n h v r s l = refl
not_known sum k m (Tag x) w d n h v r s l = refl
not_known sum k m (Who x) w d n h v r s l = refl
not_known sum k m Sweep w d n h v r s l = refl
not_known sum k m (Fetch x) w d n h v r s l = refl

-- a file that is said
pub write_heard : (sum : Sum) (k k₁ : Control) (m m₁ m₂ p b : List ℕ) (s : Key) (q : Request) → m₁ ≡ path_put p m → m₂ ≡ bytes_put bytes_at b m₁ → s ≡ sum_key (sum b) →
    k₁ ≡ hearing Write (length b) s k → q ≡ Recall → asked k₁ m₂ q ≡ said_of sum k m (write_file p b)
write_heard sum k k₁ m m₁ m₂ p b s q e f g h r =
    ap₂ (λ x y. asked x m₂ y) (h ∙ ap (λ x. hearing Write (length b) x k) g) r
    ∙ ap (λ x. asked (hearing Write (length b) (sum_key (sum b)) k) x Recall) (f ∙ ap (bytes_put bytes_at b) e)
