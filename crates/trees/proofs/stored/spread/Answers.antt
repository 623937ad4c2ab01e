use Rattle.std.proofs.Common.{◌≡◌, ◌+◌, leb, length, drop, refl, ap, ◌∙◌, arith}
use Rattle.std.proofs.lemmas.Bool.{lt-leb, and_left, and_right}
use Rattle.std.proofs.lemmas.List.{take_rest}
use Rattle.pages.specs.Object.{references_in}
use Rattle.trees.specs.Row.{laid, room}
use Rattle.trees.specs.Packed.{files_in, unpacked_all}
use Rattle.trees.proofs.SpreadLaws.{spread_done, spread_not}
use Rattle.trees.proofs.stored.spread.Goals as goal

pub returns-then-row-lt2 : goal.returns-then-row-lt2
returns-then-row-lt2 c =
    let ws = c.args.row.now in
    let e = spread_not c.args.stored.now ws (and_left (leb 2 (length ws)) _ (lt-leb 2 (length ws) (omega arith))) in
    record { answer = e.0; after = e.1 }

pub returns-then-n-space : goal.returns-then-n-space
returns-then-n-space c =
    let ws = c.args.row.now in let xs = c.args.stored.now in
    let n : c.references_in-n.result ≡ files_in xs = c.references_in-n.ensures ∙ ap references_in c.word.ensures in
    let e = spread_not xs ws (and_right (leb 2 (length ws)) (leb (files_in xs) (room ws)) (lt-leb (files_in xs) (room ws) (omega arith))) in
    record { answer = e.0; after = e.1 }

pub returns : goal.returns
returns c =
    let ws = c.args.row.now in let xs = c.args.stored.now in
    let n = c.references_in-n.result in
    let en : n ≡ files_in xs = c.references_in-n.ensures ∙ ap references_in c.word.ensures in
    let e = spread_done xs ws c.unpack_all.new.body n c.word-2.result n (omega arith) en (omega arith) refl c.word-2.ensures
    (c.unpack_all.ensures ∙ ap (laid (unpacked_all n (drop 2 xs) (drop (3 + n) xs))) (take_rest ws 2)) in
    record { answer = e.0; after = e.1 }
