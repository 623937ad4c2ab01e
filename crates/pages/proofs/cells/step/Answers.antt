use Rattle.std.proofs.Common.{◌≡◌, ℕ, true, eqb, leb, List, length, sym, ap, ◌∙◌, subst}
use Rattle.std.proofs.lemmas.Bool.{eq-eqb, le-leb, and_from}
use Rattle.pages.specs.Run.{Step, done}
use Rattle.pages.specs.Told.{ActTold, event_meant}
use Rattle.pages.specs.Engine.{StepTold, engine, engine_fits, stepped_in}
use Rattle.pages.proofs.ListLaws.{pick_true}
use Rattle.pages.proofs.cells.step.Goals as goal

pub returns : goal.returns
unfolding engine
returns g c =
    let f = g.C.Client.housed in
    let m : List ℕ = c.args.memory.now in
    let out : List ℕ = c.args.out.now in
    let ev = event_meant c.args.event in
    let long : eqb (length m) 262144 ≡ true = eq-eqb (length m) 262144 c.if-memory-ne-CELLS.false in
    let fits : engine_fits m out ≡ true = and_from (eqb (length m) 262144) (leb 131072 (length out)) long (le-leb 131072 (length out) c.if-out-lt-ROW.false) in
    let steps : (engine f).step m ev ≡ stepped_in f m ev = pick_true (eqb (length m) 262144) (stepped_in f m ev) (record { memory = m; act = done }) long in
    subst (λ b. StepTold b f m ev out c.step_whole.result c.step_whole.new.memory c.step_whole.new.out) (sym fits) (
      c.step_whole.ensures.memory ∙ sym (ap (λ (s : Step). s.memory) steps),
      subst (λ (s : Step). ActTold s.act c.step_whole.result out c.step_whole.new.out) (sym steps) c.step_whole.ensures.told,
    )
