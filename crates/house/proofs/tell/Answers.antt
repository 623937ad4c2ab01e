use Rattle.std.proofs.Common.{◌≡◌, ℕ, Bool, true, false, ◌&&◌, eqb, leb, List, length, sym, subst, ap}
use Rattle.pages.specs.Run.{Event}
use Rattle.pages.specs.Engine.{engine_fits, StepTold}
use Rattle.pages.specs.declared.told.Told.{Told}
use Rattle.house.specs.Control.{control_client}
use Rattle.house.specs.Entry.{own, own_sum, TellSays, tell_fits}
use Rattle.house.proofs.Started.{start_length}
use Rattle.house.proofs.tell.Goals as goal

fits_is : (m out : List ℕ) → tell_fits m out ≡ engine_fits m out
unfolding tell_fits
fits_is m out = ap (λ n. eqb (length m) n && leb 131072 (length out)) start_length

says : (m : List ℕ) (ev : Event) (out : List ℕ) (r : Told) (m₁ out₁ : List ℕ) → (b : Bool) → StepTold b (control_client own_sum) m ev out r m₁ out₁ →
    TellSays m ev out b r m₁ out₁
unfolding TellSays own
says m ev out r m₁ out₁ true x = x
says m ev out r m₁ out₁ false x = x

told : (m : List ℕ) (ev : Event) (out : List ℕ) (r : Told) (m₁ out₁ : List ℕ) → StepTold (engine_fits m out) (control_client own_sum) m ev out r m₁ out₁ →
    TellSays m ev out (tell_fits m out) r m₁ out₁
told m ev out r m₁ out₁ x = subst (λ b. TellSays m ev out b r m₁ out₁) (sym (fits_is m out)) (says m ev out r m₁ out₁ (engine_fits m out) x)

pub returns : goal.returns
returns c = told _ _ _ _ _ _ c.step.ensures
