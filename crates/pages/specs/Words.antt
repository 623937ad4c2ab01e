-- Words of eight bytes, the highest first: a page has 64, a row of words has its bytes. Assumes nothing: these are definitions.
use Rattle.std.specs.Prelude.{◌≡◌, ℕ, zero, suc, ◌+◌, Bool, true, List, [], ◌∷◌, ◌++◌, length, take, drop, nat_lt}
use Rattle.pages.specs.Lists.{pick, every, flat, zeros}
use Rattle.pages.specs.Bytes.{eight, from_bytes}
use Rattle.pages.specs.Device.{Page, a_page}

unfoldable pub words : ℕ → List ℕ → List ℕ
words zero bs = []
words (suc n) bs = from_bytes 0 (take 8 bs) ∷ words n (drop 8 bs)

unfoldable pub bytes_of : List ℕ → List ℕ
bytes_of ws = flat eight ws

-- what is no page has words that are 0
unfoldable pub page_words : Page → List ℕ
page_words p = pick (a_page p) (words 64 p) (zeros 64)

unfoldable pub small : List ℕ → Bool
small ws = every (λ w. nat_lt w 18446744073709551616) ws

-- new words over old ones, from a place on
abbrev pub over : ℕ → List ℕ → List ℕ → List ℕ
over g new old = take g old ++ (new ++ drop (g + length new) old)

-- words out of a page and back undo each other
abbrev pub PagesAndWords : Type 0
PagesAndWords =
    ((ws : List ℕ) → length ws ≡ 64 → small ws ≡ true → page_words (bytes_of ws) ≡ ws) × ((p : Page) → a_page p ≡ true → bytes_of (page_words p) ≡ p)
