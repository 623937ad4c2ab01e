-- The counting client goes well on the tape. Assumes nothing.
use Rattle.std.proofs.Common.{◌≡◌, ℕ, suc, ◌+◌, ◌-◌, ◌*◌, ◌<◌, ◌≤◌, min, eqb, ltb, ◌⊎◌, List, [], ◌∷◌, ◌++◌, length, get_or, take, drop, set, sym, refl, ap, ◌∙◌, subst, subst₂, inl, inr, arith, length-append, length-drop, length-set}
use Rattle.std.proofs.lemmas.List.{get_or_append_left, get_or-append_right, get_or-set_same, take_at, take_all, length-take-le, get_or-take, get_or-drop}
use Rattle.std.proofs.lemmas.Bool.{eq-eqb, ne_eqb, le-ltb}
use Rattle.pages.specs.Lists.{pick}
use Rattle.pages.specs.Bytes.{eight}
use Rattle.pages.specs.Words.{bytes_of, over}
use Rattle.pages.specs.Crash.{Rows}
use Rattle.pages.specs.Engine.{bulk_cells}
use Rattle.pages.specs.Machine.{Asked, asked}
use Rattle.pages.specs.Tape.{first_page, last_page, published, Window, Does, recalls, looks, lays, publishes, rows, finishes}
use Rattle.pages.specs.declared.machine.Request.TheVariants.{Look, Lay, Publish, Show, Done}
use Rattle.pages.proofs.ListLaws.{pick_true, pick_false}
use Rattle.pages.proofs.BytesLaws.{length_eight}
use Rattle.pages.proofs.WordLaws.{length_over}
use Rattle.pages_tests.specs.Counter.{counter, counter_hears, counter_resumes, laid, counting, Counted, CountsUp}
use Rattle.pages_tests.specs.declared.counter.Counter.{Counter}
use Rattle.pages_tests.specs.declared.counter.Phase.TheVariants.{Recalling, Looking, Laying, Publishing, Showing}

-- the first eight bytes of a row whose first word is set
row_is : (m : List ℕ) (x : ℕ) → 1 ≤ length m → take 8 (bytes_of (take 16384 (set m 0 x))) ≡ eight x
unfolding bytes_of
row_is [] x h = absurd (omega arith)
row_is (y ∷ ys) x h = take_at (eight x) (bytes_of (take 16383 ys)) 8 (length_eight x)

-- the head over the buffer, and two words set in it
word_over : (h m : List ℕ) (i : ℕ) → i < length h → get_or (over 0 h m) i 0 ≡ get_or h i 0
word_over h m i l = get_or_append_left h (drop (0 + length h) m) 0 i l

head_words : (m : List ℕ) (a b : ℕ) → 2 ≤ length m → (first_page (take 32 (set (set m 0 a) 1 b)) ≡ a) × (last_page (take 32 (set (set m 0 a) 1 b)) ≡ b)
head_words [] a b h = absurd (omega arith)
head_words (x ∷ []) a b h = absurd (omega arith)
head_words (x ∷ y ∷ m) a b h = (refl, refl)

module _ (n c : ℕ) (two : 2 ≤ n) (below : c + 1 < 18446744073709551615) where
  Stop : List ℕ → List ℕ → Rows → Type 0
  Stop h₁ t₁ ss = Counted h₁ t₁ c ⊎ Counted h₁ t₁ (c + 1)

  End : Counter → List ℕ → List ℕ → List ℕ → ℕ → Rows → ℕ → Type 0
  End k₁ m₁ h₁ t₁ laid ss reply = (reply ≡ 0) × (ss ≡ eight (c + 1) ∷ []) × Counted h₁ (published h₁ t₁) (c + 1)

  Well : Asked Counter → List ℕ → List ℕ → ℕ → Rows → Type 0
  Well a h t laid ss = Does counting n Stop End a h t laid ss

  -- a phase of the client, in a memory that is long enough
  phase : (m : List ℕ) (short a : Asked Counter) (h t : List ℕ) (laid : ℕ) (ss : Rows) → length m ≡ bulk_cells → Well a h t laid ss →
      Well (pick (ltb (length m) 2) short a) h t laid ss
  phase m short a h t laid ss l d =
      subst (λ (x : Asked Counter). Well x h t laid ss) (sym (pick_false (ltb (length m) 2) short a (le-ltb (length m) 2 (omega arith)))) d

  -- the number is shown, and that is all
  showing : (last : ℕ) (m h t : List ℕ) (laid : ℕ) → length m ≡ bulk_cells → Counted h (published h t) (c + 1) →
      Well (counter_resumes (counter Publishing last (c + 1)) m) h t laid []
  unfolding Well Stop End
  showing last m h t laid l st =
      phase m _ _ h t laid [] l
      (rows (asked (counter Showing last (c + 1)) m₁ (Show 8)) h t laid [] 8 refl (omega arith) (inr st)
      (phase m₁ _ _ h t laid _ (length-set m 0 (c + 1) ∙ l)
      (finishes (asked (counter Showing last (c + 1)) m₁ Done) h t laid _ 0 refl (omega arith)
      (refl, ap (λ (x : List ℕ). x ∷ []) (row_is m (c + 1) (omega arith)), st))))
    where
      m₁ : List ℕ
      m₁ = set m 0 (c + 1)

  -- the page is laid: the head is published
  publishing : (v laid : ℕ) (m h t : List ℕ) → laid ≡ suc v → length m ≡ bulk_cells → first_page h ≤ v → length t ≡ 64 * suc v → get_or t (64 * v) 0 ≡ c + 1 → v + 1 < 18446744073709551615 →
      Well (counter_resumes (counter Laying v (c + 1)) m) h t laid []
  unfolding Well Stop End
  publishing v laid m h t many l lo lt num small =
      phase m _ _ h t laid [] l
      (publishes (asked (counter Publishing v (c + 1)) m₁ Publish) h t laid [] refl (omega (arith, w.0)) (omega (arith, w.0, w.1)) (omega (arith, w.1)) (inr st)
      (showing v m₁ (take 32 m₁) t laid (length-set (set m 0 v) 1 next ∙ length-set m 0 v ∙ l) st))
    where
      next : ℕ
      next = min (v + 1) 18446744073709551615

      m₁ : List ℕ
      m₁ = set (set m 0 v) 1 next

      w : (first_page (take 32 m₁) ≡ v) × (last_page (take 32 m₁) ≡ next)
      w = head_words m v next (omega arith)

      last_is : last_page (take 32 m₁) ≡ suc v
      last_is = omega (arith, w.1)

      st : Counted (take 32 m₁) (published (take 32 m₁) t) (c + 1)
      st = inr (v, w.0, last_is, ap (λ (x : List ℕ). get_or x (64 * v) 0) (take_all (64 * last_page (take 32 m₁)) t (omega (arith, last_is))) ∙ num)

  -- the number is one higher at the front of the buffer: it is laid
  laying : (v : ℕ) (m h t : List ℕ) → length m ≡ bulk_cells → first_page h ≤ v → v + 1 ≤ first_page h + n → length t ≡ 64 * v → 64 * (v + 2) < 18446744073709551615 →
      Well (asked (counter Laying v (c + 1)) (set m 0 (c + 1)) (Lay v 1)) h t v []
  unfolding Well
  laying v m h t l lo room lt bound =
      lays (asked (counter Laying v (c + 1)) m₁ (Lay v 1)) h t v [] 1 refl (omega arith) (omega arith) room (omega arith)
      (publishing v (v + 1) m₁ h (t ++ take 64 m₁) (omega arith) l₁ lo (omega (arith, length-append t (take 64 m₁), length-take-le 64 m₁ (omega (arith, l₁))))
      (get_or-append_right t (take 64 m₁) (64 * v) (64 * v) 0 lt (omega arith) ∙ first_is) (omega arith))
    where
      m₁ : List ℕ
      m₁ = set m 0 (c + 1)

      l₁ : length m₁ ≡ bulk_cells
      l₁ = length-set m 0 (c + 1) ∙ l

      first_is : get_or (take 64 m₁) (64 * v - 64 * v) 0 ≡ c + 1
      first_is =
          let z : 64 * v - 64 * v ≡ 0 = omega arith in
          ap (λ (i : ℕ). get_or (take 64 m₁) i 0) z ∙ get_or-take 64 m₁ 0 0 (omega arith) ∙ get_or-set_same m 0 (c + 1) 0 (omega arith)

  -- the number is there
  counting_on : (v : ℕ) (m h t : List ℕ) → length m ≡ bulk_cells → get_or m 0 0 ≡ c → first_page h ≤ v → v + 1 ≤ first_page h + n → length t ≡ 64 * v →
      64 * (v + 2) < 18446744073709551615 → Well (counter_resumes (counter Looking v 0) m) h t v []
  unfolding Well
  counting_on v m h t l num lo room lt bound =
      let e : min (get_or m 0 0 + 1) 18446744073709551615 ≡ c + 1 = omega arith in
      phase m _ _ h t v [] l
      (subst (λ (x : ℕ). Does counting n Stop End (asked (counter Laying v x) (set m 0 x) (Lay v 1)) h t v []) (sym e) (laying v m h t l lo room lt bound))

  -- the head is there
  recalling : (m h t : List ℕ) → length m ≡ bulk_cells → Window n h t (last_page h) → Counted h t c → 64 * (last_page h + 2) < 18446744073709551615 →
      Well (counter_resumes (counter Recalling 0 0) (over 0 h m)) h t (last_page h) []
  unfolding Well Stop End
  recalling m h t l win (inl (zero-c, zero-f, zero-l)) bound =
      let last_is : get_or (over 0 h m) 1 0 ≡ 0 = word_over h m 1 (omega (arith, win.head_length)) ∙ zero-l in
      let one : c + 1 ≡ 1 = omega arith in
      phase (over 0 h m) _ _ h t (last_page h) [] (length_over 0 h m (omega (arith, win.head_length)) ∙ l)
      (subst (λ (x : Asked Counter). Does counting n Stop End x h t (last_page h) []) (sym (pick_true (eqb (get_or (over 0 h m) 1 0) 0) _ _ (eq-eqb (get_or (over 0 h m) 1 0) 0 last_is)))
      (subst₂ (λ (x j : ℕ). Does counting n Stop End (asked (counter Laying 0 x) (set (over 0 h m) 0 x) (Lay 0 1)) h t j []) one (sym zero-l)
      (laying 0 (over 0 h m) h t (length_over 0 h m (omega (arith, win.head_length)) ∙ l) (omega arith) (omega arith) (omega (arith, win.tape_length)) (omega arith))))
  recalling m h t l win (inr (v, first, last, num)) bound =
      let last_is : get_or (over 0 h m) 1 0 ≡ suc v = word_over h m 1 (omega (arith, win.head_length)) ∙ last in
      let l₁ : length (over 0 h m) ≡ bulk_cells = length_over 0 h m (omega (arith, win.head_length)) ∙ l in
      let at_is : min (64 * (suc v - 1)) 18446744073709551615 ≡ 64 * v = omega arith in
      let word : List ℕ = take 1 (drop (64 * v) t) in
      let wl : length word ≡ 1 = length-take-le 1 (drop (64 * v) t) (omega (arith, length-drop (64 * v) t, win.tape_length)) in
      phase (over 0 h m) _ _ h t (last_page h) [] l₁
      (subst (λ (x : Asked Counter). Does counting n Stop End x h t (last_page h) [])
      (sym (pick_false (eqb (get_or (over 0 h m) 1 0) 0) _ _ (ne_eqb (get_or (over 0 h m) 1 0) 0 (λ z. omega arith))))
      (subst (λ (x : ℕ). Does counting n Stop End (asked (counter Looking x 0) (over 0 h m) (Look (min (64 * (x - 1)) 18446744073709551615) 1)) h t (last_page h) []) (sym last_is)
      (subst (λ (x : ℕ). Does counting n Stop End (asked (counter Looking (suc v) 0) (over 0 h m) (Look x 1)) h t (last_page h) []) (sym at_is)
      (looks (asked (counter Looking (suc v) 0) (over 0 h m) (Look (64 * v) 1)) h t (last_page h) [] (64 * v) 1 refl (omega arith) (omega arith) (omega arith) (omega arith)
      (λ s. subst (λ (j : ℕ). Does counting n Stop End (counter_resumes (counter Looking (suc v) 0) (over 0 word (over 0 h m))) h t j []) (sym last)
      (counting_on (suc v) (over 0 word (over 0 h m)) h t (length_over 0 word (over 0 h m) (omega arith) ∙ l₁)
      (word_over word (over 0 h m) 0 (omega arith) ∙ get_or-take 1 (drop (64 * v) t) 0 0 (omega arith) ∙ get_or-drop (64 * v) t 0 0
      ∙ (let z : 64 * v + 0 ≡ 64 * v = omega arith in ap (λ (i : ℕ). get_or t i 0) z) ∙ num)
      (omega arith) (omega arith) (omega (arith, win.tape_length)) (omega arith)))))))

pub counts_up : CountsUp
unfolding Well Stop End
counts_up n k m h t text c two l win st below bound =
    recalls (counter_hears k m text) h t (last_page h) [] refl (λ hl hs. recalling n c two below m h t l win st bound)
