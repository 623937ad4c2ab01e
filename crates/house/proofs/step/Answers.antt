use Rattle.std.proofs.Common.{◌≡◌, ℕ, ◌≤◌, Bool, true, false, ◌&&◌, eqb, leb, List, length, sym, refl, subst, ap}
use Rattle.std.proofs.lemmas.Bool.{le-leb, lt-leb, and_left, and_right}
use Rattle.pages.specs.Run.{Event}
use Rattle.pages.specs.Told.{event_meant}
use Rattle.pages.specs.declared.told.Told.{Told}
use Rattle.pages.specs.declared.told.Told.TheVariants.{No}
use Rattle.house.specs.Entry.{own, own_sum, event_of, StepSays, step_fits, tell_fits, TellSays}
use Rattle.house.proofs.step.Goals as goal

fits_is : (m : List ℕ) (kind : ℕ) (bytes out : List ℕ) → kind ≤ 5 → step_fits m kind bytes out ≡ tell_fits m out
unfolding step_fits tell_fits
fits_is m kind bytes out h = ap (λ b. eqb (length m) (length (own own_sum).start) && (b && leb 131072 (length out))) (le-leb kind 5 h)

says : (m : List ℕ) (kind : ℕ) (bytes out : List ℕ) (ev : Event) (r : Told) (m₁ out₁ : List ℕ) → ev ≡ event_of kind bytes → (b : Bool) →
    TellSays m ev out b r m₁ out₁ → StepSays m kind bytes out b r m₁ out₁
unfolding StepSays TellSays
says m kind bytes out ev r m₁ out₁ e true x = subst (λ v. TellSays m v out true r m₁ out₁) e x
says m kind bytes out ev r m₁ out₁ e false x = x

pub returns-in_default : goal.returns-in_default
unfolding StepSays step_fits
returns-in_default c =
    let m : List ℕ = c.args.memory.now in
    let out : List ℕ = c.args.out.now in
    let no_fit : step_fits m c.args.kind c.args.bytes.now out ≡ false =
    and_right (eqb (length m) (length (own own_sum).start)) _ (and_left (leb c.args.kind 5) _ (lt-leb c.args.kind 5 c.in_default.ensures)) in
    subst (λ b. StepSays m c.args.kind c.args.bytes.now out b (No 0) m out) (sym no_fit) (refl, refl, refl)

pub returns : goal.returns
returns c =
    let m : List ℕ = c.args.memory.now in
    let out : List ℕ = c.args.out.now in
    let bytes : List ℕ = c.args.bytes.now in
    let known = c.in-Some.ensures in
    subst (λ b. StepSays m c.args.kind bytes out b c.tell.result c.tell.new.memory c.tell.new.out)
    (sym (fits_is m c.args.kind bytes out known.0))
    (says m c.args.kind bytes out (event_meant c.in-Some.event) c.tell.result c.tell.new.memory c.tell.new.out known.1 (tell_fits m out)
    c.tell.ensures)
