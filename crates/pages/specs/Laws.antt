-- What rows and a device promise, as statements: each is a type whose proof stands on a contract of this crate.
use Rattle.std.specs.Prelude.{◌≡◌, ℕ, Bool, true, false, ◌&&◌, ◌⊎◌, List, [], ◌∷◌, length, ◌==◌, slice_index}
use Rattle.pages.specs.Lists.{pick, same, earlier}
use Rattle.pages.specs.Device.{Device, Write, page_at, read_page, flushed, stopped}

-- What was flushed stays, whatever a stop leaves of later writes to other pages.
unfoldable pub elsewhere : ℕ → List Write → Bool
elsewhere k [] = true
elsewhere k (q ∷ qs) = pick (q.at == k) false (elsewhere k qs)

unfoldable pub FlushedStays : Type 0
FlushedStays =
    (d : Device) (qs : List Write) (cs : List ℕ) (k : ℕ) → elsewhere k qs ≡ true →
    page_at (stopped (record { pages = (flushed d).pages; queue = qs }) cs).pages k ≡ read_page d k

-- Rows are the same if they are equal; and they stand in an order: of two different rows one is earlier, and none is earlier than itself.
unfoldable pub RowsOrdered : Type 0
RowsOrdered =
    (xs ys zs : List ℕ) →
    (same xs ys ≡ true → xs ≡ ys) × (same xs xs ≡ true)
    × (earlier xs xs ≡ false) × (earlier xs ys ≡ true → earlier ys zs ≡ true → earlier xs zs ≡ true)
    × ((xs ≡ ys) ⊎ ((earlier xs ys ≡ true) ⊎ (earlier ys xs ≡ true)))

-- The finer law: a byte that all waiting writes to its page leave as it is stays, whatever a stop leaves of them. Pages have 512 bytes.
unfoldable pub byte_left : ℕ → ℕ → ℕ → List Write → Bool
byte_left k i b [] = true
byte_left k i b (q ∷ qs) = pick (q.at == k) (length q.page == 512 && slice_index q.page i == b) true && byte_left k i b qs

abbrev pub ByteStays : Type 0
ByteStays =
    (d : Device) (cs : List ℕ) (k i : ℕ) → length (page_at d.pages k) ≡ 512 → byte_left k i (slice_index (page_at d.pages k) i) d.queue ≡ true →
    slice_index (page_at (stopped d cs).pages k) i ≡ slice_index (page_at d.pages k) i
