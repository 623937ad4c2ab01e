-- Rows of pages, as the code sets and reads them, are those of the device. Assumes nothing.
use Rattle.std.proofs.Common.{◌≡◌, ℕ, zero, suc, ◌/◌, ◌%◌, ◌<◌, ◌≤◌, false, eqb, List, [], ◌∷◌, ◌++◌, length, get_or, set, replicate, sym, refl, ap, ◌∙◌, arith}
use Rattle.std.specs.List.{AllZip}
use Rattle.std.proofs.lemmas.Slice.Zip.{AllZip-map}
use Rattle.std.proofs.lemmas.Bool.{eqb-true, eqb-false, eq-eqb, ne_eqb}
use Rattle.std.proofs.lemmas.List.{map-id, length-set, get_or-set_same, get_or-set_other}
use Rattle.pages.specs.Lists.{each, pick, zeros}
use Rattle.pages.specs.Device.{Page, Write, all_written, blank, left, page_at, set_page}
use Rattle.pages.proofs.ListLaws.{pick_both, pick_true, pick_false}
use Rattle.pages.proofs.DeviceLaws.{page_at_set_other}
use Rattle.pages.proofs.TapeLaws.{page_at_set_same, length_set_page}
use Rattle.device.specs.Held.{LeadsToLast, last_of, meant, through}
use Rattle.device.specs.Left.{code, digits}
use Rattle.device.specs.declared.Left.{Left}
use Rattle.device.specs.declared.Write.{Write as Waiting}

pub set_is : (ps : List Page) (k : ℕ) (p : Page) → set ps k p ≡ set_page ps k p
unfolding set_page
set_is [] k p = refl
set_is (q ∷ qs) zero p = refl
set_is (q ∷ qs) (suc k) p = ap (λ xs. q ∷ xs) (set_is qs k p)

pub set_past : (ps : List Page) (k : ℕ) (p : Page) → length ps ≤ k → ps ≡ set_page ps k p
unfolding set_page
set_past [] k p h = refl
set_past (q ∷ qs) zero p h = absurd (omega arith)
set_past (q ∷ qs) (suc k) p h = ap (λ xs. q ∷ xs) (set_past qs k p (omega arith))

pub page_is : (ps : List Page) (k : ℕ) (d : Page) → k < length ps → get_or ps k d ≡ page_at ps k
unfolding page_at
page_is [] k d h = absurd (omega arith)
page_is (q ∷ qs) zero d h = refl
page_is (q ∷ qs) (suc k) d h = page_is qs k d (omega arith)

-- a page as the last write to its place has it is the page that is seen
pub seen_is : (ws : List Write) (ps : List Page) (k : ℕ) → k < length ps → last_of (page_at ps k) ws k ≡ page_at (all_written ps ws) k
unfolding all_written
seen_is [] ps k h = refl
seen_is (w ∷ ws) ps k h =
    ap (λ p. last_of p ws k)
    (pick_both (λ p. p ≡ page_at (set_page ps w.at w.page) k) (eqb w.at k) w.page (page_at ps k)
    (λ e. let same : w.at ≡ k = eqb-true w.at k e in sym (ap (λ j. page_at (set_page ps j w.page) k) same ∙ page_at_set_same ps k w.page h))
    (λ e. sym (page_at_set_other ps w.at k w.page (eqb-false w.at k e))))
    ∙ seen_is ws (set_page ps w.at w.page) k (omega (arith, length_set_page ps w.at w.page))

pub blank_is : (n : ℕ) → replicate n (zeros 512) ≡ blank n
unfolding blank
blank_is zero = refl
blank_is (suc n) = ap (λ ps. zeros 512 ∷ ps) (blank_is n)

pub left_none : (ps : List Page) (ws : List Write) → left ps ws [] ≡ ps
unfolding left
left_none ps [] = refl
left_none ps (w ∷ ws) = refl

pub same_zeros : (ys : List ℕ) → AllZip (λ x y. y ≡ x) (zeros 512) ys → ys ≡ zeros 512
same_zeros ys h = AllZip-map (λ x. x) (zeros 512) ys h ∙ map-id (zeros 512)

-- PLACES
through_is : (p : Page) (ws : List Waiting) (i k : ℕ) (d : Waiting) → i < length ws → through p ws i k ≡ pick (eqb (get_or ws i d).at k) (get_or ws i d).page p
through_is p [] i k d h = absurd (omega arith)
through_is p (w ∷ ws) zero k d h = refl
through_is p (w ∷ ws) (suc i) k d h = through_is p ws i k d (omega arith)

pub through_past : (p : Page) (ws : List Waiting) (i k : ℕ) → length ws ≤ i → through p ws i k ≡ p
through_past p [] i k h = refl
through_past p (w ∷ ws) zero k h = absurd (omega arith)
through_past p (w ∷ ws) (suc i) k h = through_past p ws i k (omega arith)

-- a page that is there, by its place: the write that is there, or no write
by_place :
    (ps : List Page) (ws : List Waiting) (places : List ℕ) (k i : ℕ) → length places ≡ length ps → LeadsToLast ws places → k < length places → i ≡ get_or places k 0
    → through (page_at ps k) ws i k ≡ page_at (all_written ps (each meant ws)) k
by_place ps ws places k i l h lt e = ap (λ j. through (page_at ps k) ws j k) e ∙ h k lt (page_at ps k) ∙ seen_is (each meant ws) ps k (omega arith)

pub page_waits :
    (ps : List Page) (ws : List Waiting) (places : List ℕ) (k i : ℕ) (w : Waiting) → length places ≡ length ps → LeadsToLast ws places → k < length places
    → i ≡ get_or places k 0 → i < length ws → w ≡ get_or ws i w → w.at ≡ k → w.page ≡ page_at (all_written ps (each meant ws)) k
page_waits ps ws places k i w l h lt e inside is to =
    ap (λ v. v.page) is
    ∙ sym (through_is (page_at ps k) ws i k w inside ∙ pick_true (eqb (get_or ws i w).at k) (get_or ws i w).page (page_at ps k) (eq-eqb (get_or ws i w).at k (ap (λ v. v.at) (sym is) ∙ to)))
    ∙ by_place ps ws places k i l h lt e

pub page_rests :
    (ps : List Page) (ws : List Waiting) (places : List ℕ) (k i : ℕ) (p : Page) → length places ≡ length ps → LeadsToLast ws places → k < length places
    → i ≡ get_or places k 0 → ((q : Page) → through q ws i k ≡ q) → p ≡ get_or ps k p → p ≡ page_at (all_written ps (each meant ws)) k
page_rests ps ws places k i p l h lt e none is = is ∙ page_is ps k p (omega arith) ∙ sym (none (page_at ps k)) ∙ by_place ps ws places k i l h lt e

pub through_other : (p : Page) (ws : List Waiting) (i k : ℕ) (w : Waiting) → i < length ws → w ≡ get_or ws i w → (w.at ≡ k → ⊥) → through p ws i k ≡ p
through_other p ws i k w h is ne =
    through_is p ws i k w h ∙ pick_false (eqb (get_or ws i w).at k) (get_or ws i w).page p (ne_eqb (get_or ws i w).at k (λ e. ne (ap (λ v. v.at) is ∙ e)))

through_new : (p : Page) (ws : List Waiting) (w : Waiting) (k : ℕ) → through p (ws ++ w ∷ []) (length ws) k ≡ pick (eqb w.at k) w.page p
through_new p [] w k = refl
through_new p (v ∷ ws) w k = through_new p ws w k

through_old : (p : Page) (ws : List Waiting) (w : Waiting) (i k : ℕ) → eqb w.at k ≡ false → through p (ws ++ w ∷ []) i k ≡ through p ws i k
through_old p [] w zero k e = pick_false (eqb w.at k) w.page p e
through_old p [] w (suc i) k e = refl
through_old p (v ∷ ws) w zero k e = refl
through_old p (v ∷ ws) w (suc i) k e = through_old p ws w i k e

last_push : (p : Page) (ws : List Waiting) (w : Waiting) (k : ℕ) → last_of p (each meant (ws ++ w ∷ [])) k ≡ pick (eqb w.at k) w.page (last_of p (each meant ws) k)
last_push p [] w k = refl
last_push p (v ∷ ws) w k = last_push (pick (eqb v.at k) v.page p) ws w k

-- a write more, and its place noted
pub leads_push : (ws : List Waiting) (w : Waiting) (places : List ℕ) → LeadsToLast ws places → LeadsToLast (ws ++ w ∷ []) (set places w.at (length ws))
leads_push ws w places h k lt p =
    let more : List Waiting = ws ++ w ∷ [] in
    let there : k < length places = omega (arith, length-set places w.at (length ws)) in
    pick_both (λ x. through p more (get_or (set places w.at (length ws)) k 0) k ≡ x) (eqb w.at k) w.page (last_of p (each meant ws) k)
    (λ e.
    let same : w.at ≡ k = eqb-true w.at k e in
    ap (λ i. through p more i k) (ap (λ j. get_or (set places j (length ws)) k 0) same ∙ get_or-set_same places k (length ws) 0 there)
    ∙ through_new p ws w k ∙ pick_true (eqb w.at k) w.page p e)
    (λ e.
    ap (λ i. through p more i k) (get_or-set_other places w.at k (length ws) 0 (λ s. eqb-false w.at k e (sym s)))
    ∙ through_old p ws w (get_or places k 0) k e ∙ h k there p)
    ∙ sym (last_push p ws w k)

-- OUTCOMES
pub each_push : (xs : List Left) (x : Left) (ys : List ℕ) → each code (xs ++ x ∷ []) ++ ys ≡ each code xs ++ code x ∷ ys
each_push [] x ys = refl
each_push (l ∷ ls) x ys = ap (λ ns. code l ∷ ns) (each_push ls x ys)

pub digits_none : (n : ℕ) → digits 0 n ≡ []
unfolding digits
digits_none n = refl

pub digits_more : (k n : ℕ) → digits (suc k) n ≡ n % 3 ∷ digits k (n / 3)
unfolding digits
digits_more k n = refl
