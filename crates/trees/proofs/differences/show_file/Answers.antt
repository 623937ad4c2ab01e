use Rattle.trees.specs.Row.{path_of}
use Rattle.trees.proofs.ShowLaws.{shown_front}
use Rattle.trees.proofs.differences.show_file.Goals as goal

pub returns-clause-shown : goal.returns-clause-shown
returns-clause-shown c = shown_front c.args.mark c.put_path.result (path_of c.args.key.now) c.args.out.now c.put_path.new.out c.told-out c.put_path.ensures.many c.put_path.ensures.path
