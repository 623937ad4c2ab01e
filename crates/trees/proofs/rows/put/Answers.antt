use Rattle.std.proofs.Common.{◌+◌, length, Ok, Err, sym, ap, ◌∙◌}
use Rattle.pages.specs.Lists.{pick}
use Rattle.pages.proofs.ListLaws.{pick_true, pick_false}
use Rattle.trees.specs.declared.rows.Refused.TheVariants.{Path, Full}
use Rattle.trees.specs.Row.{good_path, key_of, put_answer, put_in, put_key, room_for}
use Rattle.trees.proofs.RowLaws.{key_some, key_none}
use Rattle.trees.proofs.rows.put.Goals as goal

pub returns-in_default : goal.returns-in_default
unfolding put_answer put_in
returns-in_default c =
    let p = c.args.path.now in let ws = c.args.row.now in let r = c.args.reference in
    let f = key_none (good_path p) (key_of p) c.in_default.ensures in
    record {
      answer = sym (pick_false (good_path p) (pick (room_for (key_of p) r ws) (Ok tt) (Err Full)) (Err Path) f);
      after = sym (pick_false (good_path p) (put_key (key_of p) (64 + length p) r ws) ws f);
    }

-- with a good path, it's as with its key
pub returns : goal.returns
unfolding put_answer put_in
returns c =
    let p = c.args.path.now in let ws = c.args.row.now in let r = c.args.reference in
    let k = key_some (good_path p) c.in-Some.key (key_of p) c.in-Some.ensures in
    record {
      answer = c.put_key.ensures.answer ∙ ap (λ x. pick (room_for x r ws) (Ok tt) (Err Full)) k.1
          ∙ sym (pick_true (good_path p) (pick (room_for (key_of p) r ws) (Ok tt) (Err Full)) (Err Path) k.0);
      after = c.put_key.ensures.after ∙ ap (λ x. put_key x (64 + length p) r ws) k.1 ∙ sym (pick_true (good_path p) (put_key (key_of p) (64 + length p) r ws) ws k.0);
    }
