use Rattle.std.proofs.Common.{eqb, length, sym, ◌∙◌}
use Rattle.std.proofs.lemmas.Bool.{ne_eqb, and_left}
use Rattle.pages.specs.Lists.{zeros}
use Rattle.pages.specs.Device.{a_page}
use Rattle.pages.specs.Words.{words, page_words}
use Rattle.pages.proofs.ListLaws.{pick_true, pick_false}
use Rattle.pages.proofs.BytesLaws.{all_bytes_by}
use Rattle.pages.proofs.WordLaws.{a_page_from}
use Rattle.pages.proofs.words.page_words.Goals as goal

pub returns : goal.returns
unfolding page_words
returns c =
    let p = c.args.page.now in
    c.words_in.ensures ∙ sym (pick_true (a_page p) (words 64 p) (zeros 64) (a_page_from p c.if-page-ne512.false (all_bytes_by p c.type_inv.page)))

pub returns-then-page-ne512 : goal.returns-then-page-ne512
unfolding page_words zeros
returns-then-page-ne512 c =
    let p = c.args.page.now in sym (pick_false (a_page p) (words 64 p) (zeros 64) (and_left (eqb (length p) 512) _ (ne_eqb (length p) 512 c.if-page-ne512.true)))
