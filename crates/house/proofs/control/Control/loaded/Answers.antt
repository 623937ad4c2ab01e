use Rattle.std.proofs.Common.{sym, ap, ◌∙◌, inl, inr}
use Rattle.house.specs.Control.{loaded}
use Rattle.house.specs.Entry.{own_sum}
use Rattle.house.proofs.control.Control.loaded.Goals as goal

pub returns-in-Write : goal.returns-in-Write
returns-in-Write c = c.write.ensures ∙ ap (loaded own_sum c.args.self.now c.args.memory.now) (sym c.in-Write.is)

pub returns-in-Drop : goal.returns-in-Drop
returns-in-Drop c = c.remove.ensures ∙ ap (loaded own_sum c.args.self.now c.args.memory.now) (sym c.in-Drop.is)

pub returns-in-Read : goal.returns-in-Read
returns-in-Read c =
    let k = c.args.self.now in
    let m = c.args.memory.now in
    c.find_file.ensures ∙ elim c.in-Read.is [ inl e ↦ ap (loaded own_sum k m) (sym e) | inr e ↦ ap (loaded own_sum k m) (sym e) ]

pub returns-in-Status : goal.returns-in-Status
returns-in-Status c =
    let k = c.args.self.now in
    let m = c.args.memory.now in
    c.load_last.ensures ∙ elim c.in-Status.is [ inl e ↦ ap (loaded own_sum k m) (sym e) | inr e ↦ ap (loaded own_sum k m) (sym e) ]
