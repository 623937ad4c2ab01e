use Rattle.std.proofs.Common.{◌+◌, ◌++◌, take, drop, sym, ap, ap₂, ◌∙◌}
use Rattle.objects.specs.Layouts.{words_for}
use Rattle.objects.specs.Marking.{key_words}
use Rattle.pages.specs.Machine.{asked}
use Rattle.pages.specs.Words.{over}
use Rattle.pages.specs.declared.machine.Request.TheVariants.{Show}
use Rattle.house.specs.Control.{logged, logging}
use Rattle.house.proofs.control.Control.logged.Goals as goal

pub returns-in_default : goal.returns-in_default
returns-in_default c =
    let k = c.args.self.now in
    let m = c.args.memory.now in
    ap (asked k m) c.refuse.ensures ∙ ap (logged k m) (sym c.in_default.is ∙ c.read_commit.ensures)

pub returns : goal.returns
returns c =
    let k = c.args.self.now in
    let m = c.args.memory.now in
    let o = c.in-Some.commit in
    ap₂ (λ x n. asked (logging o.one k) x (Show (32 + n)))
    (c.put_logged.ensures ∙ ap (λ n. over 0 (key_words o.id ++ take (words_for n) (drop 11 m)) m) c.min-bytes.ensures) c.min-bytes.ensures
    ∙ ap (logged k m) (sym c.in-Some.is ∙ c.read_commit.ensures)
