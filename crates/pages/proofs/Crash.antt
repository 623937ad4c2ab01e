-- From a derivation that a run goes well to the run itself: it ends well, and may be stopped anywhere. Assumes nothing.
use Rattle.std.proofs.Common.{◌≡◌, ℕ, zero, suc, Bool, true, ◌⊎◌, List, [], ◌∷◌, ◌++◌, sym, refl, ap, ◌∙◌, subst, inl, inr}
use Rattle.pages.specs.Lists.{pick}
use Rattle.pages.specs.Device.{Device, Page, read_page, flushed}
use Rattle.pages.specs.Run.{Engine, Event, page, next, Act, read, write, flush, shows, done, refused, Step, World, Ran, ran, in_memory, on_device, queued, writable, refusal_end, replies, one_act, runs}
use Rattle.pages.specs.Crash.{Rows, stepped, Goes, reads, writes, flushes, showing, ends, refuses, Ended, Stoppable, RunsWell}

-- one act more, given what the step answers
run_act : (n : ℕ) (e : Engine) (d ls : ℕ) (w v : World) (ev : Event) (ss : Rows) (m : List ℕ) (a : Act) →
    e.step w.memory ev ≡ stepped m a →
    runs (suc n) e d ls w v ev ss
    ≡ one_act (λ ls₁ w₁ v₁ ev₁ ss₁. runs n e d ls₁ w₁ v₁ ev₁ ss₁) (λ ev₁. replies 16777216 e v ev₁) ls d w v ss m a
unfolding runs
run_act n e d ls w v ev ss m a q =
    ap (λ (s : Step). one_act (λ ls₁ w₁ v₁ ev₁ ss₁. runs n e d ls₁ w₁ v₁ ev₁ ss₁) (λ ev₁. replies 16777216 e v ev₁) ls d w v ss s.memory s.act) q

run_read : (n : ℕ) (e : Engine) (d ls : ℕ) (w v : World) (ev : Event) (ss : Rows) (m : List ℕ) (k : ℕ) →
    e.step w.memory ev ≡ stepped m (read k) →
    runs (suc n) e d ls w v ev ss ≡ runs n e d ls (in_memory w m) v (page (read_page w.device k)) ss
unfolding one_act
run_read n e d ls w v ev ss m k q = run_act n e d ls w v ev ss m (read k) q

run_write : (n : ℕ) (e : Engine) (d ls : ℕ) (w v : World) (ev : Event) (ss : Rows) (m : List ℕ) (k : ℕ) (p : Page) →
    e.step w.memory ev ≡ stepped m (write k p) → writable w.device k p ≡ true →
    runs (suc n) e d ls w v ev ss ≡ runs n e d ls (on_device w m (queued w.device k p)) v next ss
unfolding one_act
run_write n e d ls w v ev ss m k p q t =
    run_act n e d ls w v ev ss m (write k p) q
    ∙ ap (λ (b : Bool). pick b (runs n e d ls (on_device w m (queued w.device k p)) v next ss) (ran (in_memory w m) v ss 1001)) t

run_flush : (n : ℕ) (e : Engine) (d ls : ℕ) (w v : World) (ev : Event) (ss : Rows) (m : List ℕ) →
    e.step w.memory ev ≡ stepped m flush →
    runs (suc n) e d ls w v ev ss ≡ runs n e d ls (on_device w m (flushed w.device)) v next ss
unfolding one_act
run_flush n e d ls w v ev ss m q = run_act n e d ls w v ev ss m flush q

run_show : (n : ℕ) (e : Engine) (d ls : ℕ) (w v : World) (ev : Event) (ss : Rows) (m s : List ℕ) →
    e.step w.memory ev ≡ stepped m (shows s) →
    runs (suc n) e d ls w v ev ss ≡ runs n e d ls (in_memory w m) v next (ss ++ s ∷ [])
unfolding one_act
run_show n e d ls w v ev ss m s q = run_act n e d ls w v ev ss m (shows s) q

run_done : (n : ℕ) (e : Engine) (d ls : ℕ) (w v : World) (ev : Event) (ss : Rows) (m : List ℕ) →
    e.step w.memory ev ≡ stepped m done → runs (suc n) e d ls w v ev ss ≡ ran (in_memory w m) v ss 0
unfolding one_act
run_done n e d ls w v ev ss m q = run_act n e d ls w v ev ss m done q

run_refused : (n : ℕ) (e : Engine) (d ls : ℕ) (w v : World) (ev : Event) (ss : Rows) (m : List ℕ) (k : ℕ) →
    e.step w.memory ev ≡ stepped m (refused k) → runs (suc n) e d ls w v ev ss ≡ ran (in_memory w m) v ss (refusal_end k)
unfolding one_act
run_refused n e d ls w v ev ss m k q = run_act n e d ls w v ev ss m (refused k) q

module _ (e : Engine) (C : Device → World → Rows → Type 0) (Q : World → World → Rows → ℕ → Type 0) (d : ℕ) where
  pub ends_well : {ls : ℕ} {w v : World} {ev : Event} {ss : Rows} → Goes e C Q ls w v ev ss → (n : ℕ) × Ended Q (runs n e d ls w v ev ss)
  ends_well (reads ls w v ev ss m k c q g) = let r = ends_well g in (suc r.0, subst (Ended Q) (sym (run_read r.0 e d ls w v ev ss m k q)) r.1)
  ends_well (writes ls w v ev ss m k p c q t g) = let r = ends_well g in (suc r.0, subst (Ended Q) (sym (run_write r.0 e d ls w v ev ss m k p q t)) r.1)
  ends_well (flushes ls w v ev ss m c q g) = let r = ends_well g in (suc r.0, subst (Ended Q) (sym (run_flush r.0 e d ls w v ev ss m q)) r.1)
  ends_well (showing ls w v ev ss m s c q g) = let r = ends_well g in (suc r.0, subst (Ended Q) (sym (run_show r.0 e d ls w v ev ss m s q)) r.1)
  ends_well (ends ls w v ev ss m c q z) = (1, subst (Ended Q) (sym (run_done 0 e d ls w v ev ss m q)) z)
  ends_well (refuses ls w v ev ss m k c q z) = (1, subst (Ended Q) (sym (run_refused 0 e d ls w v ev ss m k q)) z)

  Either : Ran → Type 0
  Either r = Ended Q r ⊎ Stoppable C r

  at_once : (ls : ℕ) (w v : World) (ev : Event) (ss : Rows) → C w.device v ss → Ended Q (runs 0 e d ls w v ev ss) ⊎ Stoppable C (runs 0 e d ls w v ev ss)
  unfolding runs
  at_once ls w v ev ss c = inr (refl, c)

  pub stops_well : {ls : ℕ} {w v : World} {ev : Event} {ss : Rows} → Goes e C Q ls w v ev ss → (n : ℕ) →
      Ended Q (runs n e d ls w v ev ss) ⊎ Stoppable C (runs n e d ls w v ev ss)
  unfolding Either
  stops_well (reads ls w v ev ss m k c q g) zero = at_once ls w v ev ss c
  stops_well (reads ls w v ev ss m k c q g) (suc n) = subst Either (sym (run_read n e d ls w v ev ss m k q)) (stops_well g n)
  stops_well (writes ls w v ev ss m k p c q t g) zero = at_once ls w v ev ss c
  stops_well (writes ls w v ev ss m k p c q t g) (suc n) = subst Either (sym (run_write n e d ls w v ev ss m k p q t)) (stops_well g n)
  stops_well (flushes ls w v ev ss m c q g) zero = at_once ls w v ev ss c
  stops_well (flushes ls w v ev ss m c q g) (suc n) = subst Either (sym (run_flush n e d ls w v ev ss m q)) (stops_well g n)
  stops_well (showing ls w v ev ss m s c q g) zero = at_once ls w v ev ss c
  stops_well (showing ls w v ev ss m s c q g) (suc n) = subst Either (sym (run_show n e d ls w v ev ss m s q)) (stops_well g n)
  stops_well (ends ls w v ev ss m c q z) zero = at_once ls w v ev ss c
  stops_well (ends ls w v ev ss m c q z) (suc n) = subst Either (sym (run_done n e d ls w v ev ss m q)) (inl z)
  stops_well (refuses ls w v ev ss m k c q z) zero = at_once ls w v ev ss c
  stops_well (refuses ls w v ev ss m k c q z) (suc n) = subst Either (sym (run_refused n e d ls w v ev ss m k q)) (inl z)

pub runs_well : (C : Device → World → Rows → Type 0) (Q : World → World → Rows → ℕ → Type 0) → RunsWell C Q
unfolding RunsWell
runs_well C Q e d ls w v ev ss g = (ends_well e C Q d g, stops_well e C Q d g)

-- what holds of stops and of the end may be weakened
pub goes_weaken : (e : Engine) (C D : Device → World → Rows → Type 0) (Q R : World → World → Rows → ℕ → Type 0) →
    ((d : Device) (v : World) (ss : Rows) → C d v ss → D d v ss) → ((w v : World) (ss : Rows) (k : ℕ) → Q w v ss k → R w v ss k) →
    {ls : ℕ} {w v : World} {ev : Event} {ss : Rows} → Goes e C Q ls w v ev ss → Goes e D R ls w v ev ss
goes_weaken e C D Q R f g (reads ls w v ev ss m k c q r) = reads ls w v ev ss m k (f w.device v ss c) q (goes_weaken e C D Q R f g r)
goes_weaken e C D Q R f g (writes ls w v ev ss m k p c q t r) = writes ls w v ev ss m k p (f w.device v ss c) q t (goes_weaken e C D Q R f g r)
goes_weaken e C D Q R f g (flushes ls w v ev ss m c q r) = flushes ls w v ev ss m (f w.device v ss c) q (goes_weaken e C D Q R f g r)
goes_weaken e C D Q R f g (showing ls w v ev ss m s c q r) = showing ls w v ev ss m s (f w.device v ss c) q (goes_weaken e C D Q R f g r)
goes_weaken e C D Q R f g (ends ls w v ev ss m c q z) = ends ls w v ev ss m (f w.device v ss c) q (g (in_memory w m) v ss 0 z)
goes_weaken e C D Q R f g (refuses ls w v ev ss m k c q z) = refuses ls w v ev ss m k (f w.device v ss c) q (g (in_memory w m) v ss (refusal_end k) z)
