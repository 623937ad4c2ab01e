-- A derivation for a client is one for a client that hands its phases down to it. Assumes nothing.
use Rattle.std.proofs.Common.{◌≡◌, ℕ, Bool, true, List, get_or, take, drop, sym, subst}
use Rattle.pages.specs.Words.{over}
use Rattle.pages.specs.Crash.{Rows}
use Rattle.pages.specs.Machine.{Asked, Program, wanted}
use Rattle.pages.specs.Tape.{Does, recalls, looks, opens, lays, publishes, rows, finishes, HandedDown}

module _ {K : Type 0} (Stop : List ℕ → List ℕ → Rows → Type 0) (End : K → List ℕ → List ℕ → List ℕ → ℕ → Rows → ℕ → Type 0) (lower higher : Program K)
    (phases : K → Bool) (n : ℕ) (agree : (k : K) (m : List ℕ) → phases k ≡ true → higher.resumes k m ≡ lower.resumes k m)
    (stay : (k : K) (m : List ℕ) → phases k ≡ true → phases (lower.resumes k m).state ≡ true) where
  -- the client asked again
  onward : (k : K) (m h t : List ℕ) (laid : ℕ) (ss : Rows) → phases k ≡ true → Does higher n Stop End (lower.resumes k m) h t laid ss →
      Does higher n Stop End (higher.resumes k m) h t laid ss
  onward k m h t laid ss p d = subst (λ (a : Asked K). Does higher n Stop End a h t laid ss) (sym (agree k m p)) d

  handed : {a : Asked K} {h t : List ℕ} {laid : ℕ} {ss : Rows} → Does lower n Stop End a h t laid ss → phases a.state ≡ true → Does higher n Stop End a h t laid ss
  handed (recalls a h t laid ss rq then) p =
      recalls a h t laid ss rq
      (λ l s. onward a.state (over 0 h a.memory) h t laid ss p (handed (then l s) (stay a.state (over 0 h a.memory) p)))
  handed (looks a h t laid ss at words rq one most lo hi then) p =
      looks a h t laid ss at words rq one most lo hi
      (λ s. onward a.state (over 0 (take words (drop at t)) a.memory) h t laid ss p
      (handed (then s) (stay a.state (over 0 (take words (drop at t)) a.memory) p)))
  handed (opens a h t laid ss at limit rq lo hi then) p =
      opens a h t laid ss at limit rq lo hi
      (λ s. onward a.state (over 0 (take (wanted limit (get_or t at 0)) (drop at t)) a.memory) h t laid ss p
      (handed (then s) (stay a.state (over 0 (take (wanted limit (get_or t at 0)) (drop at t)) a.memory) p)))
  handed (lays a h t laid ss pages rq one most room bound then) p =
      lays a h t laid ss pages rq one most room bound (onward a.state a.memory h _ _ ss p (handed then (stay a.state a.memory p)))
  handed (publishes a h t laid ss rq up rise inside st then) p =
      publishes a h t laid ss rq up rise inside st (onward a.state a.memory _ t laid ss p (handed then (stay a.state a.memory p)))
  handed (rows a h t laid ss bytes rq most st then) p =
      rows a h t laid ss bytes rq most st (onward a.state a.memory h t laid _ p (handed then (stay a.state a.memory p)))
  handed (finishes a h t laid ss reply rq most end) p = finishes a h t laid ss reply rq most end

pub handed_down : {K : Type 0} (Stop : List ℕ → List ℕ → Rows → Type 0) (End : K → List ℕ → List ℕ → List ℕ → ℕ → Rows → ℕ → Type 0) → HandedDown Stop End
handed_down Stop End lower higher phases n agree stay a h t laid ss p d = handed Stop End lower higher phases n agree stay d p
