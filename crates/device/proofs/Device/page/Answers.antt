use Rattle.std.proofs.Common.{◌≡◌, ℕ, ◌<◌, ◌≤◌, Option, Some, None, List, length, ◌∙◌, ap, subst}
use Rattle.std.specs.Borrow.{Bor}
use Rattle.std.specs.List.{HoldsAt}
use Rattle.std.specs.Option.{MatchOption}
use Rattle.std.proofs.lemmas.Option.{MatchOption-at_none}
use Rattle.pages.specs.Device.{Device, Page, read_page}
use Rattle.device.specs.declared.Write.{Write as Waiting}
use Rattle.device.specs.Held.{through}
use Rattle.device.proofs.Holding.{page_rests, page_waits, through_other, through_past}
use Rattle.device.proofs.Device.page.Goals.{in_default-via-in-Some+else-write-at, in_default-via-in_default}
use Rattle.device.proofs.Device.page.Goals as goal

abbrev There : {X : Type 0} → List X → ℕ → X → Type 0
There xs i x = (i < length xs) × HoldsAt (λ y. x ≡ y) xs i

pub returns-in-Some : goal.returns-in-Some
returns-in-Some c =
    let i = c.self.inside in
    let w : Waiting = c.in-Some.write.now in
    let place : ℕ = c.in_ok-place.field-0.now in
    let noted : There i.last.items c.args.at place = subst (λ xs. There xs c.args.at place) c.deref.ensures.value c.in_ok-place.ensures.lookup.3 in
    let waits : There i.queue.items place w = subst (λ xs. There xs place w) c.deref-2.ensures.value c.in-Some.ensures.lookup.3 in
    page_waits i.pages.items i.queue.items i.last.items c.args.at place w c.self.invariant.0 c.self.invariant.1 noted.0 (noted.1 0) waits.0 (waits.1 w) c.if-write-at.true
    ∙ ap (λ (d : Device). read_page d c.args.at) c.self.view_is

as_seen : (o : Option (Bor Page)) (ps : List Page) (k : ℕ) (seen : Page) → MatchOption o (length ps ≤ k) (λ x. There ps k x.now) → ((p : Page) → There ps k p → p ≡ seen) → MatchOption o (length ps ≤ k) (λ x. x.now ≡ seen)
as_seen None ps k seen h f = h
as_seen (Some x) ps k seen h f = f x.now h

pub returns-in_default : goal.returns-in_default
returns-in_default c =
    let i = c.self.inside in
    let k : ℕ = c.args.at in
    let place : ℕ = c.in_ok-place.field-0.now in
    let noted : There i.last.items k place = subst (λ xs. There xs k place) c.deref.ensures.value c.in_ok-place.ensures.lookup.3 in
    let none : (q : Page) → through q i.queue.items place k ≡ q =
    λ q. elim c.in_default.branch [
      | in_default-via-in-Some+else-write-at w ↦
          let waits : There i.queue.items place w.in-Some.write.now = subst (λ xs. There xs place w.in-Some.write.now) c.deref-2.ensures.value w.in-Some.ensures.lookup.3 in
          through_other q i.queue.items place k w.in-Some.write.now waits.0 (waits.1 w.in-Some.write.now) w.if-write-at.false
      | in_default-via-in_default w ↦
          through_past q i.queue.items place k
          (MatchOption-at_none (length i.queue.items ≤ place) (λ (x : Bor Waiting). There i.queue.items place x.now) w.in_default.is
          (subst (λ xs. MatchOption c.get-2.result (length xs ≤ place) (λ x. There xs place x.now)) c.deref-2.ensures.value c.get-2.ensures.lookup.3))
    ] in
    subst (λ (d : Device). MatchOption c.get-in_default.result (length d.pages ≤ k) (λ page. page.now ≡ read_page d k)) c.self.view_is
    (as_seen c.get-in_default.result i.pages.items k _
    (subst (λ ps. MatchOption c.get-in_default.result (length ps ≤ k) (λ x. There ps k x.now)) c.deref-in_default.ensures.value c.get-in_default.ensures.lookup.3)
    (λ p there. page_rests i.pages.items i.queue.items i.last.items k place p c.self.invariant.0 c.self.invariant.1 noted.0 (noted.1 0) none (there.1 p)))
