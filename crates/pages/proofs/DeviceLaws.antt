-- What a device keeps.
use Rattle.std.proofs.Common.{◌≡◌, ℕ, zero, suc, ◌+◌, ◌-◌, ◌<◌, ◌≤◌, Bool, true, false, ◌&&◌, eqb, ◌⊎◌, List, [], ◌∷◌, ◌++◌, length, get_or, take, drop, sym, refl, ap, ◌∙◌, subst, inl, inr, arith, length-append, length-drop}
use Rattle.std.proofs.lemmas.List.{length-take-le, get_or-take, get_or-drop, get_or_append_left, get_or-append_right}
use Rattle.std.proofs.lemmas.Bool.{eqb-true, eqb-false, eq-eqb, and_parts, cases_lt, false≢true}
use Rattle.pages.specs.Lists.{pick}
use Rattle.pages.specs.Device.{Write, Page, page_at, set_page, left, half, flushed}
use Rattle.pages.proofs.ListLaws.{pick_both, pick_true}
use Rattle.pages.specs.Laws.{elsewhere, FlushedStays, byte_left, ByteStays}

pub page_at_set_other : (ps : List Page) (j k : ℕ) (p : Page) → (j ≡ k → ⊥) → page_at (set_page ps j p) k ≡ page_at ps k
unfolding page_at set_page
page_at_set_other [] j k p ne = refl
page_at_set_other (q ∷ qs) zero zero p ne = absurd (ne refl)
page_at_set_other (q ∷ qs) zero (suc k) p ne = refl
page_at_set_other (q ∷ qs) (suc j) zero p ne = refl
page_at_set_other (q ∷ qs) (suc j) (suc k) p ne = page_at_set_other qs j k p (λ e. ne (ap suc e))

pub left_elsewhere : (ws : List Write) (ps : List Page) (cs : List ℕ) (k : ℕ) → elsewhere k ws ≡ true → page_at (left ps ws cs) k ≡ page_at ps k
unfolding left elsewhere
left_elsewhere [] ps cs k h = refl
left_elsewhere (w ∷ ws) ps [] k h = refl
left_elsewhere (w ∷ ws) ps (c ∷ cs) k h =
    let apart : (w.at ≡ k → ⊥) × (elsewhere k ws ≡ true) = apart_first w.at k (elsewhere k ws) h in
    left_elsewhere ws _ cs k apart.1
    ∙ pick_both (λ x. page_at x k ≡ page_at ps k) (eqb c 1) _ _
    (λ _. page_at_set_other ps w.at k w.page apart.0)
    (λ _. pick_both (λ x. page_at x k ≡ page_at ps k) (eqb c 2) _ _
    (λ _. page_at_set_other ps w.at k (half w.page (page_at ps w.at)) apart.0)
    (λ _. refl))
  where
    apart_first : (i k : ℕ) (r : Bool) → pick (eqb i k) false r ≡ true → (i ≡ k → ⊥) × (r ≡ true)
    apart_first i k r h = pick_both (λ x. x ≡ true → (i ≡ k → ⊥) × (r ≡ true)) (eqb i k) false r (λ _ n. absurd (false≢true n)) (λ e n. (eqb-false i k e, n)) h

pub flushed_stays : FlushedStays
unfolding FlushedStays
flushed_stays d qs cs k h = left_elsewhere qs (flushed d).pages cs k h

-- a page of 512 bytes with a byte as it was
Has : ℕ → ℕ → Page → Type 0
Has i b p = (length p ≡ 512) × (get_or p i 0 ≡ b)

half_has : (i b : ℕ) (new old : Page) → Has i b new → Has i b old → Has i b (half new old)
unfolding Has half
half_has i b new old (l, e) (k, o) = (
  omega (arith, length-append (take 256 new) (drop 256 old), length-take-le 256 new (omega arith), length-drop 256 old),
  go (cases_lt i 256),
)
  where
    front : length (take 256 new) ≡ 256
    front = length-take-le 256 new (omega arith)

    go : (i < 256) ⊎ (256 ≤ i) → get_or (take 256 new ++ drop 256 old) i 0 ≡ b
    go (inl h) = get_or_append_left (take 256 new) (drop 256 old) 0 i (omega (arith, front)) ∙ get_or-take 256 new i 0 h ∙ e
    go (inr h) =
        let s : 256 + (i - 256) ≡ i = omega arith in
        get_or-append_right (take 256 new) (drop 256 old) 256 i 0 front h ∙ get_or-drop 256 old (i - 256) 0 ∙ ap (λ n. get_or old n 0) s ∙ o

-- a write that comes in whole, in half or not at all
set_has : (ps : List Page) (j k i b : ℕ) (p : Page) → (j ≡ k → Has i b p) → Has i b (page_at ps k) → Has i b (page_at (set_page ps j p) k)
unfolding page_at set_page
set_has [] j k i b p f h = h
set_has (q ∷ qs) zero zero i b p f h = f refl
set_has (q ∷ qs) zero (suc k) i b p f h = h
set_has (q ∷ qs) (suc j) zero i b p f h = h
set_has (q ∷ qs) (suc j) (suc k) i b p f h = set_has qs j k i b p (λ e. f (ap suc e)) h

byte_left_parts : (k i b : ℕ) (q : Write) (qs : List Write) → byte_left k i b (q ∷ qs) ≡ true → (q.at ≡ k → Has i b q.page) × (byte_left k i b qs ≡ true)
unfolding byte_left Has
byte_left_parts k i b q qs h =
    let p = and_parts (pick (eqb q.at k) (eqb (length q.page) 512 && eqb (get_or q.page i 0) b) true) (byte_left k i b qs) h in (
      λ e.
          let r = and_parts (eqb (length q.page) 512) (eqb (get_or q.page i 0) b)
          (sym (pick_true (eqb q.at k) (eqb (length q.page) 512 && eqb (get_or q.page i 0) b) true (eq-eqb q.at k e)) ∙ p.0) in
          (eqb-true (length q.page) 512 r.0, eqb-true (get_or q.page i 0) b r.1),
      p.1,
    )

left_has : (qs : List Write) (ps : List Page) (cs : List ℕ) (k i b : ℕ) → byte_left k i b qs ≡ true → Has i b (page_at ps k) → Has i b (page_at (left ps qs cs) k)
unfolding left
left_has [] ps cs k i b h x = x
left_has (q ∷ qs) ps [] k i b h x = x
left_has (q ∷ qs) ps (c ∷ cs) k i b h x =
    let p = byte_left_parts k i b q qs h in
    left_has qs (pick (eqb c 1) (set_page ps q.at q.page) (pick (eqb c 2) (set_page ps q.at (half q.page (page_at ps q.at))) ps)) cs k i b p.1
    (pick_both (λ (y : List Page). Has i b (page_at y k)) (eqb c 1) _ _ (λ _. set_has ps q.at k i b q.page p.0 x)
    (λ _. pick_both (λ (y : List Page). Has i b (page_at y k)) (eqb c 2) _ _
    (λ _. set_has ps q.at k i b (half q.page (page_at ps q.at))
    (λ e. half_has i b q.page (page_at ps q.at) (p.0 e) (subst (λ (n : ℕ). Has i b (page_at ps n)) (sym e) x)) x)
    (λ _. x)))

pub byte_stays : ByteStays
unfolding Has
byte_stays d cs k i l h = (left_has d.queue d.pages cs k i (get_or (page_at d.pages k) i 0) h (l, refl)).1
