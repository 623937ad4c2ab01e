use Rattle.std.proofs.Common.{◌+◌, ◌/◌, take, drop, sym, ap, ◌∙◌, ap₂, arith}
use Rattle.pages.specs.Words.{over}
use Rattle.objects.specs.Packing.{kept_back}
use Rattle.objects.specs.Plan.{rest_at}
use Rattle.objects.proofs.PackSteps.{packed_is, packed_short, pages_packed_is, pages_packed_short, put_in_front}
use Rattle.objects.proofs.pack.pack.Goals as goal

pub returns-then-memory-lt-END : goal.returns-then-memory-lt-END
returns-then-memory-lt-END c =
    record {
      pages = sym (pages_packed_short c.args.waiting c.args.words c.args.memory.now c.if-memory-lt-END.true);
      memory = sym (packed_short c.args.waiting c.args.words c.args.memory.now c.if-memory-lt-END.true);
    }

pub returns : goal.returns
returns c =
    let m = c.args.memory.now in
    let w = c.min-waiting.result in
    let n = c.min-words.result in
    record {
      pages =
          ap₂ (λ w n. (w + n) / 64) c.min-waiting.ensures c.min-words.ensures
          ∙ sym (pages_packed_is c.args.waiting c.args.words m c.if-memory-lt-END.false);
      memory =
          c.copy_words-3.ensures
          ∙ ap (kept_back ((w + n) / 64))
          (c.copy_words-2.ensures ∙ ap (λ x. over 0 (take w (drop rest_at x)) x) c.copy_words.ensures
          ∙ put_in_front w n m c.if-memory-lt-END.false (omega arith) (omega arith))
          ∙ packed_is c.args.waiting c.args.words w n m c.if-memory-lt-END.false c.min-waiting.ensures c.min-words.ensures;
    }
