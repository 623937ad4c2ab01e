use Rattle.std.proofs.Common.{◌≡◌, ◌≤◌, length, take, false}
use Rattle.std.specs.Iterator.Adapters.{zip_first, zip_second}
use Rattle.std.specs.Slice.Iter.{iter_rest}
use Rattle.trees.specs.Order.{halts}
use Rattle.trees.proofs.entries.is_up_to.Given as goal

-- what is left of the key and of the entry says what both say
abbrev pub invariant-loop-word : goal.invariant-loop-word
invariant-loop-word l =
    (length (iter_rest (zip_first l.word-iterator)) ≤ length (iter_rest (zip_second l.word-iterator)))
    × (halts false (iter_rest (zip_first l.word-iterator)) (take (length (iter_rest (zip_first l.word-iterator))) (iter_rest (zip_second l.word-iterator))) ≡ halts false l.key (take 9 l.entry))
