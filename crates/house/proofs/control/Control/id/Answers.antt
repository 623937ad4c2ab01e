use Rattle.std.proofs.Common.{[], ap, ◌∙◌, arith}
use Rattle.house.specs.Control.{sum_key}
use Rattle.house.specs.Entry.{own_sum}
use Rattle.house.proofs.FedLaws.{all_spelled, sums_long, words_end}
use Rattle.house.proofs.control.Control.id.Goals as goal

pub returns : goal.returns
returns c =
    c.key_of.ensures
    ∙ ap sum_key
    (c.finish.ensures.fed _ (c.add_words.ensures _ (c.add_number.ensures _ (c.add_files.ensures _ (c.add_parents.ensures [] c.new-hasher.ensures.fed))))
    ∙ ap own_sum (all_spelled c.args.self.now c.args.memory.now c.head_word-tip.result c.min-many.result _ c.head_word-tip.ensures c.min-many.ensures (omega arith)))

pub slice_bounds-words-end : goal.slice_bounds-words-end
slice_bounds-words-end c =
    words_end c.args.memory.now c.args.self.now.bytes c.min-many.result c.div_ceil.result c.requires c.min-many.ensures (omega arith)

pub add_files-requires : goal.add_files-requires
add_files-requires c = sums_long c.args.memory.now c.requires
