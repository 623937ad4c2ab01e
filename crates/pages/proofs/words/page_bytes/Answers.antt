use Rattle.std.proofs.Common.{◌≡◌, ℕ, ◌*◌, List, ◌++◌, length, drop, refl, ap, ◌∙◌, append-nil, arith}
use Rattle.std.proofs.lemmas.List.{drop_all}
use Rattle.pages.specs.Words.{bytes_of}
use Rattle.pages.proofs.words.page_bytes.Goals as goal

-- nothing is left of what was there
whole : (ws out was : List ℕ) → length ws ≡ 64 → length was ≡ 512 → out ≡ bytes_of ws ++ drop (8 * length ws) was → out ≡ bytes_of ws
whole ws out was l k e = e ∙ ap (λ xs. bytes_of ws ++ xs) (drop_all (8 * length ws) was (omega arith)) ∙ append-nil (bytes_of ws)

pub put_words-requires : goal.put_words-requires
put_words-requires c = omega arith

pub returns : goal.returns
returns c = whole c.args.words.now c.put_words.new.out _ c.told-words refl c.put_words.ensures
