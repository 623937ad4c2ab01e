use Rattle.std.proofs.Common.{◌≡◌, ℕ, ◌+◌, ◌-◌, ◌*◌, min, false, eqb, ltb, List, ◌++◌, length, take, drop, sym, refl, ap, ◌∙◌, subst, ap₂, arith}
use Rattle.std.proofs.lemmas.Bool.{ne_eqb, le-ltb}
use Rattle.pages.specs.Lists.{or}
use Rattle.pages.specs.Words.{bytes_of}
use Rattle.pages.specs.Machine.{Moves, place}
use Rattle.pages.specs.declared.machine.Serving.TheVariants.{Laying}
use Rattle.pages.specs.declared.told.Told.TheVariants.{Write}
use Rattle.pages.proofs.ListLaws.{pick_false}
use Rattle.pages.proofs.WordLaws.{length_bytes_of}
use Rattle.pages.proofs.machine.Machine.lay_on.Goals as goal

pub returns : goal.returns
returns g c =
    let m : List ℕ = c.args.memory.now in
    let out : List ℕ = c.args.out.now in
    let n : ℕ = c.args.self.now.ring in
    let from : ℕ = c.args.from in
    let next : c.saturating_add-next.result ≡ min (c.args.page + 1) 18446744073709551615 = c.saturating_add-next.ensures in
    let more : or (eqb c.args.left 0) (ltb 41024 from) ≡ false =
    ap₂ or (ne_eqb c.args.left 0 c.if-left-eq0.false) (le-ltb 41024 from c.if-from-gt41024.false) in
    let k : from + 64 - from ≡ 64 = omega arith in
    let page : List ℕ = bytes_of (take 64 (drop from m)) in
    subst
    (λ v. Moves v (record { ring = n; serving = Laying c.saturating_add-next.result (c.args.left - 1) (from + 64) }) c.args.client.now m
    (Write c.place_of.result) out c.put_words.new.out)
    (sym (pick_false (or (eqb c.args.left 0) (ltb 41024 from)) _ _ more))
    (record {
      machine_is = ap (λ x. record { ring = n; serving = Laying x (c.args.left - 1) (from + 64) }) next;
      state_is = refl;
      memory_is = refl;
      act_is = (
        ap Write (c.place_of.ensures ∙ ap (place n) next),
        c.put_words.ensures ∙ ap (λ x. bytes_of (take x (drop from m)) ++ drop (8 * length (take x (drop from m))) out) k
            ∙ ap (λ x. page ++ drop x out) (sym (length_bytes_of (take 64 (drop from m)))),
      );
    })
