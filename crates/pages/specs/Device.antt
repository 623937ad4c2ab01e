-- Pages that keep what is written, and what a stop may leave of it. Assumes nothing: these are definitions.
use Rattle.std.specs.Prelude.{ℕ, zero, suc, Bool, ◌&&◌, List, [], ◌∷◌, ◌++◌, length, take, drop, ◌==◌, nat_lt}
use Rattle.pages.specs.Lists.{pick, every, zeros}

abbrev pub Page : Type 0
Page = List ℕ

-- a page is 512 bytes; a write waits in the queue until a flush
pub record Write : Type 0 where
  pub at : ℕ
  pub page : Page

pub record Device : Type 0 where
  pub pages : List Page
  pub queue : List Write

unfoldable pub set_page : List Page → ℕ → Page → List Page
set_page [] k p = []
set_page (q ∷ qs) zero p = p ∷ qs
set_page (q ∷ qs) (suc k) p = q ∷ set_page qs k p

unfoldable pub page_at : List Page → ℕ → Page
page_at [] k = []
page_at (q ∷ qs) zero = q
page_at (q ∷ qs) (suc k) = page_at qs k

unfoldable pub all_written : List Page → List Write → List Page
all_written ps [] = ps
all_written ps (w ∷ ws) = all_written (set_page ps w.at w.page) ws

-- whoever reads sees what waits, too
abbrev pub read_page : Device → ℕ → Page
read_page d k = page_at (all_written d.pages d.queue) k

abbrev pub flushed : Device → Device
flushed d = record { pages = all_written d.pages d.queue; queue = [] }

-- a stop: of each waiting write, in turn, nothing (0), all (1), or its first 256 bytes (2) came onto its page; what is not said is 0
unfoldable pub half : Page → Page → Page
half new old = take 256 new ++ drop 256 old

unfoldable pub left : List Page → List Write → List ℕ → List Page
left ps [] cs = ps
left ps (w ∷ ws) [] = ps
left ps (w ∷ ws) (c ∷ cs) =
    left (pick (c == 1) (set_page ps w.at w.page) (pick (c == 2) (set_page ps w.at (half w.page (page_at ps w.at))) ps)) ws cs

abbrev pub stopped : Device → List ℕ → Device
stopped d cs = record { pages = left d.pages d.queue cs; queue = [] }

unfoldable pub blank : ℕ → List Page
blank zero = []
blank (suc n) = zeros 512 ∷ blank n

abbrev pub a_page : Page → Bool
a_page p = length p == 512 && every (λ b. nat_lt b 256) p
