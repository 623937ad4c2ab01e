-- The request machine: how a client's requests are served, one act at a time. Page 0 has the head; the pages behind it are a ring, on which virtual
-- pages, counted from 0 and never wrapping, lie one after the other. Defined for every value of the registers and every event.
-- Assumes nothing: these are definitions.
use Rattle.std.specs.Prelude.{◌≡◌, ℕ, zero, suc, ◌+◌, ◌-◌, ◌/◌, ◌%◌, min, max, Bool, true, false, ◌&&◌, List, ◌++◌, length, take, drop, ◌==◌, nat_le, nat_lt, slice_index}
use Rattle.pages.specs.Lists.{pick, or, zeros}
use Rattle.pages.specs.Words.{bytes_of, page_words, over}
use Rattle.pages.specs.Run.{Event, on, said, page, next, heard, lost, Act, read, write, flush, shows, done, refused}
use Rattle.pages.specs.Told.{ActTold}
use Rattle.pages.specs.declared.told.Told.{Told}
use Rattle.pages.specs.declared.told.Told.TheVariants.{No}
use Rattle.pages.specs.declared.machine.Request.{Request}
use Rattle.pages.specs.declared.machine.Request.TheVariants.{Recall, Look, Object, Lay, Publish, Show, Done, Refuse}
use Rattle.pages.specs.declared.machine.Serving.{Serving}
use Rattle.pages.specs.declared.machine.Serving.TheVariants.{Idle, Recalling, Looking, Opening, Laying, Flushing, Heading, Settling, Showing}
use Rattle.pages.specs.declared.machine.Machine.{Machine}

-- what a client asks for, and how it leaves itself and memory
pub record Asked (K : Type 0) : Type 0 where
  pub state : K
  pub memory : List ℕ
  pub request : Request

abbrev pub asked : {K : Type 0} → K → List ℕ → Request → Asked K
asked k m r = record { state = k; memory = m; request = r }

-- a program over the tape: power comes, a command is said, what was asked for is done
pub record Program (K : Type 0) : Type 0 where
  pub wakes : K → ℕ → ℕ → ℕ → K
  pub hears : K → List ℕ → List ℕ → Asked K
  pub resumes : K → List ℕ → Asked K

abbrev pub program : {K : Type 0} → (K → ℕ → ℕ → ℕ → K) → (K → List ℕ → List ℕ → Asked K) → (K → List ℕ → Asked K) → Program K
program w h r = record { wakes = w; hears = h; resumes = r }

-- the words of the buffer, at the front of memory; a row that is shown has at most 131,072 bytes
abbrev pub buffer_words : ℕ
buffer_words = 41088

abbrev pub row_bytes : ℕ
row_bytes = 131072

-- the page of a virtual page on a ring of n pages
unfoldable pub place : ℕ → ℕ → ℕ
place n v = pick (n == 0) 1 (1 + v % n)

-- numbers stay below 2^64
abbrev pub capped : ℕ → ℕ
capped x = min x 18446744073709551615

-- the page of a head whose words are at the front of memory: its second half is always 0
unfoldable pub head_page : List ℕ → List ℕ
head_page m = bytes_of (take 32 m) ++ zeros 256

-- one step: registers, client, memory and the act
pub record Moved (K : Type 0) : Type 0 where
  pub machine : Machine
  pub state : K
  pub memory : List ℕ
  pub act : Act

abbrev pub moved : {K : Type 0} → ℕ → Serving → K → List ℕ → Act → Moved K
moved n s k m a = record { machine = record { ring = n; serving = s }; state = k; memory = m; act = a }

-- how a command ends by its reply: by 0 it is done, by any other number it is refused
abbrev pub ending : ℕ → Request
ending zero = Done
ending (suc number) = Refuse (suc number)

-- the first act for a request, and what is served from then on
abbrev pub first_serving : Request → Serving
first_serving Recall = Recalling
first_serving (Look at words) = Looking at (min words buffer_words) 0
first_serving (Object at limit) = Opening at limit
first_serving (Lay v pages) = Laying v (min (pages - 1) 641) 64
first_serving Publish = Flushing
first_serving (Show bytes) = Showing
first_serving Done = Idle
first_serving (Refuse number) = Idle

abbrev pub first_act : ℕ → List ℕ → Request → Act
first_act n m Recall = read 0
first_act n m (Look at words) = read (place n (at / 64))
first_act n m (Object at limit) = read (place n (at / 64))
first_act n m (Lay v pages) = write (place n v) (bytes_of (take 64 m))
first_act n m Publish = flush
first_act n m (Show bytes) = shows (take (min bytes row_bytes) (bytes_of (take 16384 m)))
first_act n m Done = done
first_act n m (Refuse number) = refused number

abbrev pub begun : {K : Type 0} → ℕ → Asked K → Moved K
begun n a = moved n (first_serving a.request) a.state a.memory (first_act n a.memory a.request)

-- what the code leaves after a step, and tells
pub record Moves {K : Type 0} (v : Moved K) (machine : Machine) (state : K) (memory : List ℕ) (told : Told) (out out₁ : List ℕ) : Type 0 where
  pub machine_is : machine ≡ v.machine
  pub state_is : state ≡ v.state
  pub memory_is : memory ≡ v.memory
  pub act_is : ActTold v.act told out out₁

-- words of a page that came, as far as they are wanted: whether that is all, what is still wanted, and memory
pub record Looked : Type 0 where
  pub whole : Bool
  pub serving : Serving
  pub from : ℕ
  pub memory : List ℕ

-- how many words of a page are taken
abbrev pub taken : ℕ → ℕ → ℕ → ℕ
taken at left got = min (64 - at % 64) (min left (buffer_words - got))

abbrev pub looked : ℕ → ℕ → ℕ → List ℕ → List ℕ → Looked
looked at left got ws m =
    record {
      whole = nat_le left (taken at left got);
      serving = Looking (capped (at + taken at left got)) (left - taken at left got) (got + taken at left got);
      from = capped (at + taken at left got);
      memory = over got (take (taken at left got) (drop (at % 64) ws)) m;
    }

-- an object's first word has its length in the lower 32 bits
abbrev pub wanted : ℕ → ℕ → ℕ
wanted limit header = max (min (min (header % 4294967296) limit) buffer_words) 1

abbrev pub go_on : {K : Type 0} → Program K → ℕ → K → Looked → Moved K
go_on p n k l =
    pick l.whole (begun n (p.resumes k l.memory)) (moved n l.serving k l.memory (read (place n (l.from / 64))))

-- what isn't expected changes nothing but that nothing is served any more
abbrev pub unexpected : {K : Type 0} → ℕ → K → List ℕ → Moved K
unexpected n k m = moved n Idle k m done

abbrev pub page_came : {K : Type 0} → Program K → ℕ → K → List ℕ → List ℕ → Serving → Moved K
page_came p n k m ws Idle = unexpected n k m
page_came p n k m ws Recalling = begun n (p.resumes k (over 0 (take 32 ws) m))
page_came p n k m ws (Looking at left got) = go_on p n k (looked at left got ws m)
page_came p n k m ws (Opening at limit) = go_on p n k (looked at (wanted limit (slice_index ws (at % 64))) 0 ws m)
page_came p n k m ws (Laying v left from) = unexpected n k m
page_came p n k m ws Flushing = unexpected n k m
page_came p n k m ws Heading = unexpected n k m
page_came p n k m ws Settling = unexpected n k m
page_came p n k m ws Showing = unexpected n k m

-- the pages of the buffer are laid one after the other
abbrev pub laid_on : {K : Type 0} → Program K → ℕ → K → List ℕ → ℕ → ℕ → ℕ → Moved K
laid_on p n k m v left from =
    pick (or (left == 0) (nat_lt 41024 from)) (begun n (p.resumes k m))
    (moved n (Laying (capped (v + 1)) (left - 1) (from + 64)) k m (write (place n (capped (v + 1))) (bytes_of (take 64 (drop from m)))))

abbrev pub act_done : {K : Type 0} → Program K → ℕ → K → List ℕ → Serving → Moved K
act_done p n k m Idle = unexpected n k m
act_done p n k m Recalling = unexpected n k m
act_done p n k m (Looking at left got) = unexpected n k m
act_done p n k m (Opening at limit) = unexpected n k m
act_done p n k m (Laying v left from) = laid_on p n k m v left from
act_done p n k m Flushing = moved n Heading k m (write 0 (head_page m))
act_done p n k m Heading = moved n Settling k m flush
act_done p n k m Settling = begun n (p.resumes k m)
act_done p n k m Showing = begun n (p.resumes k m)

abbrev pub served : {K : Type 0} → Program K → Machine → K → List ℕ → Event → Moved K
served p r k m (on c hs ps) = moved (max 1 (capped ps - 1)) Idle (p.wakes k c hs ps) m done
served p r k m (said text) = begun r.ring (p.hears k m text)
served p r k m (page bytes) = page_came p r.ring k m (page_words bytes) r.serving
served p r k m next = act_done p r.ring k m r.serving
served p r k m (heard letter) = unexpected r.ring k m
served p r k m lost = unexpected r.ring k m

-- a step of the code: memory that is shorter than the buffer, or a lent row that has no room for a row of bytes, is left alone, and number 0 is told
unfoldable pub ServeSays : {K : Type 0} → Bool → Program K → (r : Machine) → (k : K) → (m : List ℕ) → Event → (out : List ℕ) → Told → Machine → K → List ℕ → List ℕ → Type 0
ServeSays true p r k m ev out told r₁ k₁ m₁ out₁ = Moves (served p r k m ev) r₁ k₁ m₁ told out out₁
ServeSays false p r k m ev out told r₁ k₁ m₁ out₁ = (told ≡ No 0) × (r₁ ≡ r) × (k₁ ≡ k) × (m₁ ≡ m) × (out₁ ≡ out)

abbrev pub serve_fits : List ℕ → List ℕ → Bool
serve_fits m out = nat_le buffer_words (length m) && nat_le row_bytes (length out)
