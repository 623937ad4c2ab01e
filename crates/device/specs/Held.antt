-- What the code's pages and writes are on the device of the promise. Assumes nothing: these are definitions.
use Rattle.std.specs.Prelude.{◌≡◌, ℕ, zero, suc, ◌<◌, List, [], ◌∷◌, length, take, slice_index, ◌==◌, nat_le}
use Rattle.pages.specs.Lists.{each, pick, zeros}
use Rattle.pages.specs.Device.{Device, Page, Write, half, page_at, set_page}
use Rattle.device.specs.declared.Write.{Write as Waiting}

abbrev pub meant : Waiting → Write
meant w = record { at = w.at; page = w.page }

abbrev pub held : List Page → List Waiting → Device
held ps ws = record { pages = ps; queue = each meant ws }

-- what a write leaves of which nothing (0), all (1) or the first half (2) came in
abbrev pub brought : List Page → Write → ℕ → List Page
brought ps w c = pick (c == 1) (set_page ps w.at w.page) (pick (c == 2) (set_page ps w.at (half w.page (page_at ps w.at))) ps)

-- a page after writes, as the last one to its place has it
abbrev pub last_of : Page → List Write → ℕ → Page
last_of p [] at = p
last_of p (w ∷ ws) at = last_of (pick (w.at == at) w.page p) ws at

-- a page as the write at a place has it, if that is one to the page
abbrev pub through : Page → List Waiting → ℕ → ℕ → Page
through p [] i at = p
through p (w ∷ ws) zero at = pick (w.at == at) w.page p
through p (w ∷ ws) (suc i) at = through p ws i at

-- a row of places by which each page is as the last write to it has it
abbrev pub LeadsToLast : List Waiting → List ℕ → Type 0
LeadsToLast ws places = (at : ℕ) → at < length places → (p : Page) → through p ws (slice_index places at) at ≡ last_of p (each meant ws) at

-- the page at the front of a row; zeros where the row is shorter
abbrev pub front_page : List ℕ → Page
front_page row = pick (nat_le 512 (length row)) (take 512 row) (zeros 512)
