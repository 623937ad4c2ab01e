use Rattle.std.proofs.Common.{ap, ◌∙◌}
use Rattle.plain.specs.Files.{book_of, held_or_empty}
use Rattle.plain.proofs.FileLaws.{tree_at, tree_beyond, tree_none}
use Rattle.plain.proofs.book.Book.tree.Goals as goal

pub returns-in_err-k : goal.returns-in_err-k
returns-in_err-k c = ap held_or_empty c.from_residual.ensures ∙ tree_none (book_of c.args.self.now) c.args.k c.in_err-k.was

pub returns-in_err-get : goal.returns-in_err-get
returns-in_err-get c =
    ap held_or_empty c.from_residual-in_err-get.ensures
    ∙ tree_beyond c.args.self.now.commits.items c.deref.result.now c.in_ok-k.field-0 c.args.k c.deref.ensures.value c.in_ok-k.was c.in_err-get.ensures.lookup.0

pub returns : goal.returns
returns c =
    let l = c.in_ok-get.ensures.lookup in
    tree_at c.args.self.now.commits.items c.deref.result.now c.in_ok-k.field-0 c.args.k c.in_ok-get.field-0.now c.deref.ensures.value c.in_ok-k.was l.0 l.1
