use Rattle.pages.proofs.WordLaws.{words_of_page, page_of_page_words}
use Rattle.pages.proofs.laws.pages_are_words.Goals as goal

pub returns : goal.returns
returns c = (words_of_page, page_of_page_words)
