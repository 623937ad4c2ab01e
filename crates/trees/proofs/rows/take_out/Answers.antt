use Rattle.std.proofs.Common.{◌+◌, ◌&&◌, length, sym, ap, ◌∙◌, ap₂}
use Rattle.std.proofs.lemmas.Bool.{and_left}
use Rattle.pages.proofs.ListLaws.{pick_true, pick_false}
use Rattle.trees.specs.Row.{good_path, has_key, key_of, take_from, take_key, taken_from}
use Rattle.trees.proofs.RowLaws.{key_some, key_none}
use Rattle.trees.proofs.rows.take_out.Goals as goal

pub returns-in-Some : goal.returns-in-Some
unfolding take_from taken_from
returns-in-Some c =
    let p = c.args.path.now in let ws = c.args.row.now in
    let k = key_some (good_path p) c.in-Some.key (key_of p) c.in-Some.ensures in
    record {
      answer = c.take_key.ensures.answer ∙ ap₂ (λ b x. b && has_key x ws) (sym k.0) k.1;
      after = c.take_key.ensures.after ∙ ap (λ x. take_key x (64 + length p) ws) k.1 ∙ sym (pick_true (good_path p) (take_key (key_of p) (64 + length p) ws) ws k.0);
    }

pub returns-in-None : goal.returns-in-None
unfolding take_from taken_from
returns-in-None c =
    let p = c.args.path.now in let ws = c.args.row.now in
    let f = key_none (good_path p) (key_of p) c.in-None.ensures in
    record {
      answer = sym (and_left (good_path p) (has_key (key_of p) ws) f);
      after = sym (pick_false (good_path p) (take_key (key_of p) (64 + length p) ws) ws f);
    }
