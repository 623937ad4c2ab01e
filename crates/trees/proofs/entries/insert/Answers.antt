use Rattle.std.proofs.Common.{◌≡◌, ◌+◌, ◌-◌, ◌*◌, refl, ◌∙◌, arith}
use Rattle.trees.proofs.MoveLaws.{insert_laid}
use Rattle.trees.proofs.entries.insert.Goals as goal

pub returns : goal.returns
returns c =
    let k : 10 * c.args.at + 10 - 10 * c.args.at ≡ 10 = omega arith in
    insert_laid c.args.n c.args.at (10 * c.args.at) (10 * c.args.at + 10 - 10 * c.args.at) c.args.reference c.args.body.now c.copy_from_slice.new.self c.copy_within.new.self c.args.key.now c.requires.0 c.requires.1 refl k
    (c.copy_from_slice.ensures.after ∙ c.ten.ensures) c.copy_within.ensures.after
