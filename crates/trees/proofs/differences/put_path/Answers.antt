use Rattle.trees.proofs.ShowLaws.{path_put, path_length}
use Rattle.trees.proofs.differences.put_path.Goals as goal

pub returns-clause-path : goal.returns-clause-path
returns-clause-path c = path_put c.args.key.now c.args.out.now c.put_bytes.new.out c.min-many.result c.told-key c.told-out c.min-many.ensures c.put_bytes.ensures

pub returns-clause-many : goal.returns-clause-many
returns-clause-many c = path_length c.args.key.now c.min-many.result c.told-key c.min-many.ensures
