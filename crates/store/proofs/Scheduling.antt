-- One more word of the message schedule, and one more round, as the code's loops have them.
use Rattle.std.proofs.Common.{◌≡◌, ℕ, zero, suc, ◌+◌, ◌-◌, ◌<◌, ◌≤◌, ◌≢◌, List, [], ◌∷◌, ◌++◌, length, get_or, take, drop, set, sym, refl, ap, ◌∙◌, subst, add-one, arith, below_more, le-ltb, lt-ltb}
use Rattle.std.proofs.lemmas.List.{take_more_set, get_or-take, take_all, length_push, length-set, get_or_push, get_or_append_left, get_or-set_other}
use Rattle.std.proofs.Math.Seq.{drop-cons}
use Rattle.std.specs.List.{fold, zip}
use Rattle.store.specs.declared.words.Words.{Words}
use Rattle.store.specs.Sha256.{K, word, extension, next_word, schedule, round, rounds, plus, compressed}
use Rattle.store.specs.Mixing.{Mixed}

pub schedule_none : (M w : List ℕ) → take 0 w ≡ schedule 0 M
unfolding schedule
schedule_none M w = refl

module _ (M w : List ℕ) (t x : ℕ) (inside : t < length w) (before : take t w ≡ schedule t M) where
  schedule_more : x ≡ next_word M t (schedule t M) → take (t + 1) (set w t x) ≡ schedule (t + 1) M
  unfolding schedule
  schedule_more e =
      let more : take (t + 1) (set w t x) ≡ take t w ++ x ∷ [] = take_more_set w t x inside in
      more ∙ rw (before, e, add-one)

  pub schedule_low : t < 16 → x ≡ word M t → take (t + 1) (set w t x) ≡ schedule (t + 1) M
  unfolding next_word
  schedule_low low e = schedule_more (rw lt-ltb e)

  schedule_high : 16 ≤ t → x ≡ extension w t → take (t + 1) (set w t x) ≡ schedule (t + 1) M
  unfolding next_word
  schedule_high high e =
      let at : (k : ℕ) → 0 < k → get_or (schedule t M) (t - k) 0 ≡ get_or w (t - k) 0
      = λ k p. let h : t - k < t = omega arith in rw (← before, get_or-take) in
      schedule_more (rw le-ltb (rw (at 2 (omega arith), at 7 (omega arith), at 15 (omega arith), at 16 (omega arith)) e))

-- word t of a schedule, of however many words it is
length_schedule : (n : ℕ) (M : List ℕ) → length (schedule n M) ≡ n
unfolding schedule
length_schedule zero M = refl
length_schedule (suc n) M = length_push (schedule n M) (next_word M n (schedule n M)) ∙ omega (arith, length_schedule n M)

schedule_word : (n : ℕ) (M : List ℕ) (t : ℕ) → t < n → get_or (schedule n M) t 0 ≡ next_word M t (schedule t M)
unfolding schedule
schedule_word zero M t h = elim h [ ]
schedule_word (suc n) M t h =
    below_more (λ k. get_or (schedule (suc n) M) k 0 ≡ next_word M k (schedule k M)) n
    (λ k l. get_or_append_left (schedule n M) (next_word M n (schedule n M) ∷ []) 0 k (omega (arith, length_schedule n M)) ∙ schedule_word n M k l)
    (get_or_push (schedule n M) (next_word M n (schedule n M)) 0 n (length_schedule n M)) t (omega arith)

-- one round
pub rounds_more : (W : List ℕ) (s v r : Words) (t k : ℕ) → v ≡ rounds t W s → k ≡ get_or K t 0 → r ≡ round k (get_or W t 0) v
    → r ≡ rounds (t + 1) W s
unfolding rounds
rounds_more W s v r t k e f g = g ∙ rw (e, f, add-one)

-- the rounds that are left, over what is left of the constants and of the schedule
abbrev pub turned : Words → ℕ × ℕ → Words
turned v p = round p.0 p.1 v

pub rounds_rest : (W : List ℕ) (s : Words) (n t : ℕ) → t + n ≡ 64 → length W ≡ 64 → fold turned (rounds t W s) (zip (drop t K) (drop t W)) ≡ rounds 64 W s
unfolding rounds K
rounds_rest W s zero t e l =
    let f : t ≡ 64 = omega arith in
    rw f
rounds_rest W s (suc n) t e l =
    let k : drop t K ≡ get_or K t 0 ∷ drop (suc t) K = drop-cons K t 0 (omega arith) in
    let w : drop t W ≡ get_or W t 0 ∷ drop (suc t) W = drop-cons W t 0 (omega arith) in
    rw (k, w) (rounds_rest W s n (suc t) (omega arith) l)

pub mixed_none : (M : List ℕ) (s : Words) (w : List ℕ) → length w ≡ 64 → take 16 w ≡ schedule 16 M → Mixed M s 0 s w
unfolding rounds
mixed_none M s w l e = record { size = l; ahead = e; done = refl }

pub mixed_more : (M : List ℕ) (s v r : Words) (w : List ℕ) (t x k : ℕ) → t < 48 → x ≡ extension w (t + 16)
    → k ≡ get_or K t 0 → r ≡ round k (get_or (set w (t + 16) x) t 0) v → Mixed M s t v w → Mixed M s (t + 1) r (set w (t + 16) x)
mixed_more M s v r w t x k early e f g m =
    let inside : t + 16 < length w = omega (arith, m.size) in
    let low : t < t + 16 = omega arith in
    let other : t ≢ t + 16 = λ p. omega arith in
    let words : t + 1 + 16 ≡ t + 16 + 1 = omega arith in
    let here : get_or (set w (t + 16) x) t 0 ≡ get_or (schedule 64 M) t 0
    = get_or-set_other w (t + 16) t x 0 other ∙ sym (get_or-take (t + 16) w t 0 low) ∙ ap (λ W. get_or W t 0) m.ahead
    ∙ schedule_word (t + 16) M t low ∙ sym (schedule_word 64 M t (omega arith)) in
    record {
      size = length-set w (t + 16) x ∙ m.size;
      ahead = rw words (schedule_high M w (t + 16) x inside m.ahead (omega arith) e);
      done = rounds_more (schedule 64 M) s v r t k m.done f (g ∙ rw here);
    }

pub mixed_at : {M : List ℕ} {s v : Words} {w : List ℕ} (a b : ℕ) → a ≡ b → Mixed M s a v w → Mixed M s b v w
mixed_at {M} {s} {v} {w} a b e m = subst (λ k. Mixed M s k v w) e m

-- the last sixteen, with the whole schedule
module _ (M : List ℕ) (s v : Words) (w : List ℕ) (m : Mixed M s 48 v w) where
  whole : w ≡ schedule 64 M
  whole = sym (take_all 64 w (omega (arith, m.size))) ∙ m.ahead

  pub last_none : v ≡ rounds 48 w s
  last_none = m.done ∙ ap (λ W. rounds 48 W s) (sym whole)

  pub last_all : (u : Words) → u ≡ fold turned (rounds 48 w s) (zip (drop 48 K) (drop 48 w)) → plus s u ≡ compressed s M
  unfolding compressed
  last_all u f = ap (plus s) (f ∙ rounds_rest w s 16 48 refl m.size ∙ ap (λ W. rounds 64 W s) whole)
