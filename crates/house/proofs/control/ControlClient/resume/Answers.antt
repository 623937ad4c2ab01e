use Rattle.std.proofs.Common.{ap, ◌∙◌}
use Rattle.house.specs.Control.{against, loaded, publish}
use Rattle.house.specs.Entry.{own_sum}
use Rattle.house.specs.declared.control.Phase.TheVariants.{Recalling, Loading, LayingFile, LayingTree, Publishing, Comparing, OpeningTip, LoadingOld, Summing, LayingCommit, OpeningLogged, ShowingLogged}
use Rattle.house.proofs.ControlSteps.{resumes_in}
use Rattle.house.proofs.control.ControlClient.resume.Goals as goal

pub returns-in-Recalling : goal.returns-in-Recalling
returns-in-Recalling c =
    let k = c.args.self.now in
    let m = c.args.memory.now in
    c.recalled.ensures ∙ resumes_in own_sum k m Recalling c.if-memory-lt-END.false c.in-Recalling.is

pub returns-in-Loading : goal.returns-in-Loading
returns-in-Loading c =
    let k = c.args.self.now in
    let m = c.args.memory.now in
    c.loaded.ensures ∙ ap (λ x. loaded own_sum k x k.task) c.spread_row.ensures ∙ resumes_in own_sum k m Loading c.if-memory-lt-END.false c.in-Loading.is

pub returns-in-LayingFile : goal.returns-in-LayingFile
returns-in-LayingFile c =
    let k = c.args.self.now in
    let m = c.args.memory.now in
    c.lay_tree.ensures ∙ resumes_in own_sum k m LayingFile c.if-memory-lt-END.false c.in-LayingFile.is

pub returns-in-LayingTree : goal.returns-in-LayingTree
returns-in-LayingTree c =
    let k = c.args.self.now in
    let m = c.args.memory.now in
    c.publish.ensures ∙ ap (publish k m k.page k.root) c.head_word-tip.ensures ∙ resumes_in own_sum k m LayingTree c.if-memory-lt-END.false c.in-LayingTree.is

pub returns-in-Publishing : goal.returns-in-Publishing
returns-in-Publishing c =
    let k = c.args.self.now in
    let m = c.args.memory.now in
    c.published.ensures ∙ resumes_in own_sum k m Publishing c.if-memory-lt-END.false c.in-Publishing.is

pub returns-in-Comparing : goal.returns-in-Comparing
returns-in-Comparing c =
    let k = c.args.self.now in
    let m = c.args.memory.now in
    c.compare.ensures ∙ resumes_in own_sum k m Comparing c.if-memory-lt-END.false c.in-Comparing.is

pub returns-in-OpeningTip : goal.returns-in-OpeningTip
returns-in-OpeningTip c =
    let k = c.args.self.now in
    let m = c.args.memory.now in
    c.tip_came.ensures ∙ resumes_in own_sum k m OpeningTip c.if-memory-lt-END.false c.in-OpeningTip.is

pub returns-in-LoadingOld : goal.returns-in-LoadingOld
returns-in-LoadingOld c =
    let k = c.args.self.now in
    let m = c.args.memory.now in
    c.against.ensures ∙ ap (λ x. against own_sum k x k.task) c.spread_row-in-LoadingOld.ensures ∙ resumes_in own_sum k m LoadingOld c.if-memory-lt-END.false c.in-LoadingOld.is

pub returns-in-Summing : goal.returns-in-Summing
returns-in-Summing c =
    let k = c.args.self.now in
    let m = c.args.memory.now in
    c.sum_came.ensures ∙ resumes_in own_sum k m Summing c.if-memory-lt-END.false c.in-Summing.is

pub returns-in-LayingCommit : goal.returns-in-LayingCommit
returns-in-LayingCommit c =
    let k = c.args.self.now in
    let m = c.args.memory.now in
    c.publish-in-LayingCommit.ensures ∙ ap (λ r. publish k m k.page r k.root) c.head_word-root.ensures ∙ resumes_in own_sum k m LayingCommit c.if-memory-lt-END.false c.in-LayingCommit.is

pub returns-in-OpeningLogged : goal.returns-in-OpeningLogged
returns-in-OpeningLogged c =
    let k = c.args.self.now in
    let m = c.args.memory.now in
    c.logged.ensures ∙ resumes_in own_sum k m OpeningLogged c.if-memory-lt-END.false c.in-OpeningLogged.is

pub returns-in-ShowingLogged : goal.returns-in-ShowingLogged
returns-in-ShowingLogged c =
    let k = c.args.self.now in
    let m = c.args.memory.now in
    c.log_from.ensures m ∙ resumes_in own_sum k m ShowingLogged c.if-memory-lt-END.false c.in-ShowingLogged.is
