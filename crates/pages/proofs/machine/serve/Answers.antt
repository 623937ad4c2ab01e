use Rattle.std.proofs.Common.{◌≡◌, true, false, leb, length, sym, refl, subst, inl, inr, arith}
use Rattle.std.proofs.lemmas.Bool.{le-leb, lt-leb, and_from, and_left, and_right}
use Rattle.pages.specs.Machine.{ServeSays, serve_fits}
use Rattle.pages.specs.Told.{event_meant}
use Rattle.pages.specs.declared.told.Told.TheVariants.{No}
use Rattle.pages.proofs.machine.serve.Goals as goal

pub returns-then-memory-lt-BUFFER : goal.returns-then-memory-lt-BUFFER
unfolding ServeSays
returns-then-memory-lt-BUFFER g c =
    let short : serve_fits c.args.memory.now c.args.out.now ≡ false =
    elim c.then-memory-lt-BUFFER.either [
      | inl h ↦ and_left (leb 41088 (length c.args.memory.now)) _ (lt-leb 41088 (length c.args.memory.now) h)
      | inr h ↦ and_right (leb 41088 (length c.args.memory.now)) _ (lt-leb 131072 (length c.args.out.now) h.1)
    ] in
    let p = g.C.Client.housed.program in
    subst
    (λ b. ServeSays b p c.args.machine.now c.args.client.now c.args.memory.now (event_meant c.args.event) c.args.out.now (No 0)
    c.args.machine.now c.args.client.now c.args.memory.now c.args.out.now)
    (sym short) (refl, refl, refl, refl, refl)

pub returns : goal.returns
unfolding ServeSays
returns g c =
    let p = g.C.Client.housed.program in
    let fits : serve_fits c.args.memory.now c.args.out.now ≡ true =
    and_from (leb 41088 (length c.args.memory.now)) (leb 131072 (length c.args.out.now)) (le-leb 41088 (length c.args.memory.now) (omega arith))
    (le-leb 131072 (length c.args.out.now) (omega arith)) in
    subst
    (λ b. ServeSays b p c.args.machine.now c.args.client.now c.args.memory.now (event_meant c.args.event) c.args.out.now c.take_in.result
    c.take_in.new.self c.take_in.new.client c.take_in.new.memory c.take_in.new.out)
    (sym fits) c.take_in.ensures
