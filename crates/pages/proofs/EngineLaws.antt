-- The engine of a client takes the machine's steps, keeps memory's length and its numbers below 2^64. Assumes nothing.
use Rattle.std.proofs.Common.{◌≡◌, ℕ, ◌+◌, ◌-◌, ◌%◌, ◌^◌, ◌<◌, ◌≤◌, min, max, Bool, true, false, eqb, ltb, leb, List, [], ◌∷◌, ◌++◌, length, get_or, take, drop, sym, refl, ap, ◌∙◌, append_assoc, arith, length-append, length-drop, length-take}
use Rattle.std.proofs.lemmas.Bool.{eq-eqb, eqb-true, ltb-false, true≢false}
use Rattle.std.proofs.lemmas.List.{take_at, drop_at}
use Rattle.pages.specs.Lists.{or}
use Rattle.pages.specs.Words.{page_words, small, over}
use Rattle.pages.specs.Run.{Event, on, said, page, next, heard, lost, Step, done}
use Rattle.pages.specs.Machine.{Asked, Moved, served, begun, first_serving, looked, taken, wanted, go_on, page_came, laid_on, act_done, unexpected, buffer_words}
use Rattle.pages.specs.Engine.{memory_cells, bulk_cells, serving_cells, machine_cells, serving_in, machine_in, Housed, image, stored, stepped_in, engine, request_cells, Small, Lawful}
use Rattle.pages.specs.declared.machine.Request.{Request}
use Rattle.pages.specs.declared.machine.Request.TheVariants.{Recall, Look, Object, Lay, Publish, Show, Done, Refuse}
use Rattle.pages.specs.declared.machine.Serving.{Serving}
use Rattle.pages.specs.declared.machine.Serving.TheVariants.{Idle, Recalling, Looking, Opening, Laying, Flushing, Heading, Settling, Showing}
use Rattle.pages.specs.declared.machine.Machine.{Machine}
use Rattle.pages.proofs.ListLaws.{pick_both, pick_true}
use Rattle.pages.proofs.WordLaws.{small_append, small_take, small_drop, small_over, small_first, small_from, small_get_or, page_words_small}

-- cells hold the machine
machine_cells_length : (r : Machine) → length (machine_cells r) ≡ 8
machine_cells_length r = go r.ring r.serving
  where
    go : (n : ℕ) (s : Serving) → length (machine_cells (record { ring = n; serving = s })) ≡ 8
    go n Idle = refl
    go n Recalling = refl
    go n (Looking at left got) = refl
    go n (Opening at limit) = refl
    go n (Laying v left from) = refl
    go n Flushing = refl
    go n Heading = refl
    go n Settling = refl
    go n Showing = refl

machine_in_cells : (n : ℕ) (s : Serving) (m : List ℕ) → machine_in (machine_cells (record { ring = n; serving = s }) ++ m) ≡ record { ring = n; serving = s }
machine_in_cells n Idle m = refl
machine_in_cells n Recalling m = refl
machine_in_cells n (Looking at left got) m = refl
machine_in_cells n (Opening at limit) m = refl
machine_in_cells n (Laying v left from) m = refl
machine_in_cells n Flushing m = refl
machine_in_cells n Heading m = refl
machine_in_cells n Settling m = refl
machine_in_cells n Showing m = refl

module _ {K : Type 0} (f : Housed K) (law : Lawful f) where
  image_length : (r : Machine) (k : K) (m : List ℕ) → length m ≡ bulk_cells → length (image f r k m) ≡ memory_cells
  image_length r k m l =
      omega (arith, length-append (machine_cells r) (f.save k ++ m), length-append (f.save k) m, law.save_length k, machine_cells_length r)

  -- a step from what the cells hold
  pub step_image : (r : Machine) (k : K) (m : List ℕ) (ev : Event) → length m ≡ bulk_cells →
      (engine f).step (image f r k m) ev ≡ stored f (served f.program r k m ev)
  unfolding engine
  step_image r k m ev l =
      pick_true (eqb (length (image f r k m)) memory_cells) (stepped_in f (image f r k m) ev) (record { memory = image f r k m; act = done })
      (eq-eqb (length (image f r k m)) memory_cells (image_length r k m l))
      ∙ ap₃ (λ (x : Machine) (y : K) (z : List ℕ). stored f (served f.program x y z ev)) (machine_in_cells r.ring r.serving (f.save k ++ m)) cells_are rest_is
    where
      ap₃ : {A B C D : Type 0} (g : A → B → C → D) {a a₁ : A} {b b₁ : B} {c c₁ : C} → a ≡ a₁ → b ≡ b₁ → c ≡ c₁ → g a b c ≡ g a₁ b₁ c₁
      ap₃ g p q s = λ i. g (p i) (q i) (s i)

      behind : drop 8 (image f r k m) ≡ f.save k ++ m
      behind = drop_at (machine_cells r) (f.save k ++ m) 8 (machine_cells_length r)

      cells_are : f.load (take 120 (drop 8 (image f r k m))) ≡ k
      cells_are = ap (λ (x : List ℕ). f.load (take 120 x)) behind ∙ ap f.load (take_at (f.save k) m 120 (law.save_length k)) ∙ law.load_save k

      rest_is : drop 128 (image f r k m) ≡ m
      rest_is =
          ap (drop 128) (sym (append_assoc (machine_cells r) (f.save k) m))
          ∙ drop_at (machine_cells r ++ f.save k) m 128
          (omega (arith, length-append (machine_cells r) (f.save k), law.save_length k, machine_cells_length r))

  -- A step keeps memory's length, and leaves only numbers below 2^64 if there were no others: P is that there were none.
  record Fit (P : Type 0) (v : Moved K) : Type 0 where
    length_kept : length v.memory ≡ bulk_cells
    machine_small : P → small (machine_cells v.machine) ≡ true
    state_small : P → small (f.save v.state) ≡ true
    memory_small : P → small v.memory ≡ true

  cells_small : (n : ℕ) (s : Serving) → n < 2 ^ 64 → small (serving_cells s) ≡ true → small (machine_cells (record { ring = n; serving = s })) ≡ true
  unfolding small
  cells_small n s h k = small_append (n ∷ serving_cells s) (0 ∷ 0 ∷ 0 ∷ []) (small_from n (serving_cells s) h k) refl

  four : (code a b c : ℕ) → code < 2 ^ 64 → a < 2 ^ 64 → b < 2 ^ 64 → c < 2 ^ 64 → small (code ∷ a ∷ b ∷ c ∷ []) ≡ true
  unfolding small
  four code a b c h i j k = small_from code (a ∷ b ∷ c ∷ []) h (small_from a (b ∷ c ∷ []) i (small_from b (c ∷ []) j (small_from c [] k refl)))

  four_parts : (code a b c : ℕ) → small (code ∷ a ∷ b ∷ c ∷ []) ≡ true → (a < 2 ^ 64) × (b < 2 ^ 64) × (c < 2 ^ 64)
  four_parts code a b c h =
      let p = small_first code (a ∷ b ∷ c ∷ []) h in
      let q = small_first a (b ∷ c ∷ []) p.1 in let r = small_first b (c ∷ []) q.1 in (q.0, r.0, (small_first c [] r.1).0)

  first_small : (r : Request) → small (request_cells r) ≡ true → small (serving_cells (first_serving r)) ≡ true
  unfolding small
  first_small Recall h = refl
  first_small (Look at words) h = four 2 at (min words buffer_words) 0 (omega arith) (small_first at (words ∷ []) h).0 (omega arith) (omega arith)
  first_small (Object at limit) h =
      let p = small_first at (limit ∷ []) h in four 3 at limit 0 (omega arith) p.0 (small_first limit [] p.1).0 (omega arith)
  first_small (Lay v pages) h = four 4 v (min (pages - 1) 641) 64 (omega arith) (small_first v (pages ∷ []) h).0 (omega arith) (omega arith)
  first_small Publish h = refl
  first_small (Show bytes) h = refl
  first_small Done h = refl
  first_small (Refuse number) h = refl

  -- what a step starts from
  record From (P : Type 0) (n : ℕ) (k : K) (m : List ℕ) : Type 0 where
    length_is : length m ≡ bulk_cells
    ring_small : P → n < 2 ^ 64
    state_small : P → small (f.save k) ≡ true
    memory_small : P → small m ≡ true

  begun_fit : (P : Type 0) (n : ℕ) (a : Asked K) → (P → n < 2 ^ 64) → length a.memory ≡ bulk_cells → (P → Small f a) → Fit P (begun n a)
  begun_fit P n a h l s =
      record {
        length_kept = l;
        machine_small = λ p. cells_small n (first_serving a.request) (h p) (first_small a.request (s p).request);
        state_small = λ p. (s p).state;
        memory_small = λ p. (s p).memory;
      }

  resumed_fit : (P : Type 0) (n : ℕ) (k : K) (m : List ℕ) → From P n k m → Fit P (begun n (f.program.resumes k m))
  resumed_fit P n k m o =
      begun_fit P n (f.program.resumes k m) o.ring_small (law.resumes_length k m ∙ o.length_is)
      (λ p. law.resumes_small k m (o.state_small p) (o.memory_small p))

  -- memory and client stay, the machine serves something
  served_on : (P : Type 0) (n : ℕ) (s : Serving) (k : K) (m : List ℕ) → From P n k m → (P → small (serving_cells s) ≡ true) → {v : Moved K} →
      v.machine ≡ record { ring = n; serving = s } → v.state ≡ k → v.memory ≡ m → Fit P v
  served_on P n s k m o sc {v} e₁ e₂ e₃ =
      record {
        length_kept = ap length e₃ ∙ o.length_is;
        machine_small = λ p. ap (λ (r : Machine). small (machine_cells r)) e₁ ∙ cells_small n s (o.ring_small p) (sc p);
        state_small = λ p. ap (λ (x : K). small (f.save x)) e₂ ∙ o.state_small p;
        memory_small = λ p. ap small e₃ ∙ o.memory_small p;
      }

  stays : (P : Type 0) (n : ℕ) (k : K) (m : List ℕ) → From P n k m → Fit P (unexpected n k m)
  unfolding small
  stays P n k m o = served_on P n Idle k m o (λ _. refl) refl refl refl

  -- words that came over the buffer
  over_from : (P : Type 0) (n got : ℕ) (new : List ℕ) (k : K) (m : List ℕ) → From P n k m → length new ≤ 41088 - got → small new ≡ true → From P n k (over got new m)
  over_from P n got new k m o h s =
      record {
        length_is =
            omega (
              arith,
              length-append (take got m) (new ++ drop (got + length new) m),
              length-append new (drop (got + length new) m),
              length-take got m,
              length-drop (got + length new) m,
              o.length_is,
            );
        ring_small = o.ring_small;
        state_small = o.state_small;
        memory_small = λ p. small_over got new m s (o.memory_small p);
      }

  looked_fit : (P : Type 0) (n at left got : ℕ) (ws : List ℕ) (k : K) (m : List ℕ) → From P n k m → (P → left < 2 ^ 64) → (P → got < 2 ^ 64) → small ws ≡ true →
      Fit P (go_on f.program n k (looked at left got ws m))
  looked_fit P n at left got ws k m o hl hg sw =
      pick_both (Fit P) (leb left (taken at left got)) _ _ (λ _. resumed_fit P n k (over got part m) then)
      (λ _. served_on P n (Looking (min (at + taken at left got) 18446744073709551615) (left - taken at left got) (got + taken at left got)) k (over got part m) then
      (λ p. let l : left < 2 ^ 64 = hl p in let g : got < 2 ^ 64 = hg p in four 2 _ _ _ (omega arith) (omega arith) (omega arith) (omega arith)) refl refl refl)
    where
      part : List ℕ
      part = take (taken at left got) (drop (at % 64) ws)

      then : From P n k (over got part m)
      then =
          over_from P n got part k m o (omega (arith, length-take (taken at left got) (drop (at % 64) ws)))
          (small_take (taken at left got) (drop (at % 64) ws) (small_drop (at % 64) ws sw))

  page_fit : (P : Type 0) (n : ℕ) (s : Serving) (ws : List ℕ) (k : K) (m : List ℕ) → From P n k m → (P → small (serving_cells s) ≡ true) → small ws ≡ true →
      Fit P (page_came f.program n k m ws s)
  page_fit P n Idle ws k m o sc sw = stays P n k m o
  page_fit P n Recalling ws k m o sc sw =
      resumed_fit P n k (over 0 (take 32 ws) m) (over_from P n 0 (take 32 ws) k m o (omega (arith, length-take 32 ws)) (small_take 32 ws sw))
  page_fit P n (Looking at left got) ws k m o sc sw =
      looked_fit P n at left got ws k m o (λ p. (four_parts 2 at left got (sc p)).1) (λ p. (four_parts 2 at left got (sc p)).2) sw
  page_fit P n (Opening at limit) ws k m o sc sw = looked_fit P n at (wanted limit (get_or ws (at % 64) 0)) 0 ws k m o (λ _. omega arith) (λ _. omega arith) sw
  page_fit P n (Laying v left from) ws k m o sc sw = stays P n k m o
  page_fit P n Flushing ws k m o sc sw = stays P n k m o
  page_fit P n Heading ws k m o sc sw = stays P n k m o
  page_fit P n Settling ws k m o sc sw = stays P n k m o
  page_fit P n Showing ws k m o sc sw = stays P n k m o

  laid_fit : (P : Type 0) (n v left from : ℕ) (k : K) (m : List ℕ) → From P n k m → (P → left < 2 ^ 64) → Fit P (laid_on f.program n k m v left from)
  laid_fit P n v left from k m o hl =
      pick_both (Fit P) (or (eqb left 0) (ltb 41024 from)) _ _ (λ _. resumed_fit P n k m o)
      (λ e. served_on P n (Laying (min (v + 1) 18446744073709551615) (left - 1) (from + 64)) k m o
      (λ p. let l : left < 2 ^ 64 = hl p in let b : from ≤ 41024 = ltb-false 41024 from (or_false (eqb left 0) (ltb 41024 from) e) in
      four 4 _ _ _ (omega arith) (omega arith) (omega arith) (omega arith))
      refl refl refl)
    where
      or_false : (s t : Bool) → or s t ≡ false → t ≡ false
      or_false true t e = absurd (true≢false e)
      or_false false t e = e

  next_fit : (P : Type 0) (n : ℕ) (s : Serving) (k : K) (m : List ℕ) → From P n k m → (P → small (serving_cells s) ≡ true) → Fit P (act_done f.program n k m s)
  unfolding small
  next_fit P n Idle k m o sc = stays P n k m o
  next_fit P n Recalling k m o sc = stays P n k m o
  next_fit P n (Looking at left got) k m o sc = stays P n k m o
  next_fit P n (Opening at limit) k m o sc = stays P n k m o
  next_fit P n (Laying v left from) k m o sc = laid_fit P n v left from k m o (λ p. (four_parts 4 v left from (sc p)).1)
  next_fit P n Flushing k m o sc = served_on P n Heading k m o (λ _. refl) refl refl refl
  next_fit P n Heading k m o sc = served_on P n Settling k m o (λ _. refl) refl refl refl
  next_fit P n Settling k m o sc = resumed_fit P n k m o
  next_fit P n Showing k m o sc = resumed_fit P n k m o

  served_fit : (P : Type 0) (n : ℕ) (s : Serving) (k : K) (m : List ℕ) (ev : Event) → From P n k m → (P → small (serving_cells s) ≡ true) →
      Fit P (served f.program (record { ring = n; serving = s }) k m ev)
  unfolding small
  served_fit P n s k m (on c hs ps) o sc =
      served_on P (max 1 (min ps 18446744073709551615 - 1)) Idle (f.program.wakes k c hs ps) m
      (record {
        length_is = o.length_is;
        ring_small = λ _. omega arith;
        state_small = λ p. law.wakes_small k c hs ps (o.state_small p);
        memory_small = o.memory_small;
      })
      (λ _. refl) refl refl refl
  served_fit P n s k m (said text) o sc =
      begun_fit P n (f.program.hears k m text) o.ring_small (law.hears_length k m text ∙ o.length_is)
      (λ p. law.hears_small k m text (o.state_small p) (o.memory_small p))
  served_fit P n s k m (page bytes) o sc = page_fit P n s (page_words bytes) k m o sc (page_words_small bytes)
  served_fit P n s k m next o sc = next_fit P n s k m o sc
  served_fit P n s k m (heard letter) o sc = stays P n k m o
  served_fit P n s k m lost o sc = stays P n k m o

  serving_in_small : (code a b c : ℕ) → a < 2 ^ 64 → b < 2 ^ 64 → c < 2 ^ 64 → small (serving_cells (serving_in code a b c)) ≡ true
  unfolding small
  serving_in_small code a b c ha hb hc =
      pick_both P (eqb code 1) Recalling _ (λ _. refl)
      (λ _. pick_both P (eqb code 2) (Looking a b c) _ (λ _. four 2 a b c (omega arith) ha hb hc)
      (λ _. pick_both P (eqb code 3) (Opening a b) _ (λ _. four 3 a b 0 (omega arith) ha hb (omega arith))
      (λ _. pick_both P (eqb code 4) (Laying a b c) _ (λ _. four 4 a b c (omega arith) ha hb hc)
      (λ _. pick_both P (eqb code 5) Flushing _ (λ _. refl)
      (λ _. pick_both P (eqb code 6) Heading _ (λ _. refl)
      (λ _. pick_both P (eqb code 7) Settling _ (λ _. refl) (λ _. pick_both P (eqb code 8) Showing Idle (λ _. refl) (λ _. refl))))))))
    where
      P : Serving → Type 0
      P s = small (serving_cells s) ≡ true

  -- Memory never grows, nor do its numbers beyond 64 bits, whatever it holds and whatever comes.
  pub keeps_length : (m : List ℕ) (ev : Event) → length ((engine f).step m ev).memory ≡ length m
  unfolding engine
  keeps_length m ev =
      pick_both (λ (s : Step). length s.memory ≡ length m) (eqb (length m) memory_cells) (stepped_in f m ev) (record { memory = m; act = done })
      (λ e.
      let l : length m ≡ memory_cells = eqb-true (length m) memory_cells e in
      let x : Moved K = served f.program (machine_in m) (f.load (take 120 (drop 8 m))) (drop 128 m) ev in
      let v : Fit ⊥ x =
      served_fit ⊥ (machine_in m).ring (machine_in m).serving (f.load (take 120 (drop 8 m))) (drop 128 m) ev
      (record { length_is = omega (arith, length-drop 128 m); ring_small = λ p. absurd p; state_small = λ p. absurd p; memory_small = λ p. absurd p })
      (λ p. absurd p) in
      image_length x.machine x.state x.memory v.length_kept ∙ sym l)
      (λ _. refl)

  pub keeps_small : (m : List ℕ) (ev : Event) → small m ≡ true → small ((engine f).step m ev).memory ≡ true
  unfolding engine
  keeps_small m ev h =
      pick_both (λ (s : Step). small s.memory ≡ true) (eqb (length m) memory_cells) (stepped_in f m ev) (record { memory = m; act = done })
      (λ e.
      let l : length m ≡ memory_cells = eqb-true (length m) memory_cells e in
      let v : Fit (Unit {0}) (served f.program (machine_in m) (f.load (take 120 (drop 8 m))) (drop 128 m) ev) =
      served_fit (Unit {0}) (machine_in m).ring (machine_in m).serving (f.load (take 120 (drop 8 m))) (drop 128 m) ev
      (record {
        length_is = omega (arith, length-drop 128 m);
        ring_small = λ _. small_get_or m 0 h;
        state_small = λ _. law.load_small (take 120 (drop 8 m)) (small_take 120 (drop 8 m) (small_drop 8 m h));
        memory_small = λ _. small_drop 128 m h;
      })
      (λ _. serving_in_small (get_or m 1 0) (get_or m 2 0) (get_or m 3 0) (get_or m 4 0) (small_get_or m 2 h) (small_get_or m 3 h) (small_get_or m 4 h)) in
      small_append _ _ (v.machine_small tt) (small_append _ _ (v.state_small tt) (v.memory_small tt)))
      (λ _. h)
