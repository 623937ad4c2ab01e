use Rattle.std.proofs.Common.{◌≡◌, ℕ, List, ◌++◌, length, drop, sym, refl, ap, ◌∙◌, subst, ap₂, arith}
use Rattle.pages.specs.Machine.{Moves, act_done, head_page}
use Rattle.pages.specs.declared.machine.Serving.TheVariants.{Heading}
use Rattle.pages.specs.declared.told.Told.TheVariants.{Write}
use Rattle.pages.proofs.WordLaws.{head_of_front, length_head_page}
use Rattle.pages.proofs.machine.Machine.act_done.Goals as goal

pub returns-in-Flushing : goal.returns-in-Flushing
returns-in-Flushing g c =
    let m : List ℕ = c.args.memory.now in
    let out : List ℕ = c.args.out.now in
    let p = g.C.Client.housed.program in
    let l : length (head_page m) ≡ 512 = length_head_page m (omega (arith, c.requires.0)) in
    subst (λ v. Moves v (record { ring = c.args.self.now.ring; serving = Heading }) c.args.client.now m (Write 0) out c.put_head.new.out)
    (sym (ap (λ s. act_done p c.args.self.now.ring c.args.client.now m s) c.in-Flushing.is))
    (record {
      machine_is = refl;
      state_is = refl;
      memory_is = refl;
      act_is = (refl, c.put_head.ensures ∙ ap₂ (λ xs n. xs ++ drop n out) (sym (head_of_front m)) (sym l));
    })
