-- The engine of a client: its registers and the machine's stand in the first cells of memory, the buffer and all else behind them.
-- Assumes nothing: these are definitions.
use Rattle.std.specs.Prelude.{◌≡◌, ℕ, Bool, true, false, ◌&&◌, List, [], ◌∷◌, ◌++◌, length, take, drop, ◌==◌, nat_le, slice_index}
use Rattle.pages.specs.Lists.{pick, zeros}
use Rattle.pages.specs.Words.{small}
use Rattle.pages.specs.Run.{Engine, Event, Step, done}
use Rattle.pages.specs.Told.{ActTold}
use Rattle.pages.specs.declared.told.Told.{Told}
use Rattle.pages.specs.declared.told.Told.TheVariants.{No}
use Rattle.pages.specs.Machine.{Asked, Program, Moved, served}
use Rattle.pages.specs.declared.machine.Request.{Request}
use Rattle.pages.specs.declared.machine.Request.TheVariants.{Recall, Look, Object, Lay, Publish, Show, Done, Refuse}
use Rattle.pages.specs.declared.machine.Serving.{Serving}
use Rattle.pages.specs.declared.machine.Serving.TheVariants.{Idle, Recalling, Looking, Opening, Laying, Flushing, Heading, Settling, Showing}
use Rattle.pages.specs.declared.machine.Machine.{Machine}

-- the machine takes 8 cells, its client 120, what lies behind them 262,016
abbrev pub memory_cells : ℕ
memory_cells = 262144

abbrev pub bulk_cells : ℕ
bulk_cells = 262016

abbrev pub serving_cells : Serving → List ℕ
serving_cells Idle = 0 ∷ 0 ∷ 0 ∷ 0 ∷ []
serving_cells Recalling = 1 ∷ 0 ∷ 0 ∷ 0 ∷ []
serving_cells (Looking at left got) = 2 ∷ at ∷ left ∷ got ∷ []
serving_cells (Opening at limit) = 3 ∷ at ∷ limit ∷ 0 ∷ []
serving_cells (Laying v left from) = 4 ∷ v ∷ left ∷ from ∷ []
serving_cells Flushing = 5 ∷ 0 ∷ 0 ∷ 0 ∷ []
serving_cells Heading = 6 ∷ 0 ∷ 0 ∷ 0 ∷ []
serving_cells Settling = 7 ∷ 0 ∷ 0 ∷ 0 ∷ []
serving_cells Showing = 8 ∷ 0 ∷ 0 ∷ 0 ∷ []

abbrev pub machine_cells : Machine → List ℕ
machine_cells r = r.ring ∷ serving_cells r.serving ++ 0 ∷ 0 ∷ 0 ∷ []

abbrev pub serving_in : ℕ → ℕ → ℕ → ℕ → Serving
serving_in code a b c =
    pick (code == 1) Recalling
    (pick (code == 2) (Looking a b c)
    (pick (code == 3) (Opening a b)
    (pick (code == 4) (Laying a b c)
    (pick (code == 5) Flushing (pick (code == 6) Heading (pick (code == 7) Settling (pick (code == 8) Showing Idle)))))))

abbrev pub machine_in : List ℕ → Machine
machine_in m = record { ring = slice_index m 0; serving = serving_in (slice_index m 1) (slice_index m 2) (slice_index m 3) (slice_index m 4) }

-- a client with its cells: what they hold, and how it is put there
pub record Housed (K : Type 0) : Type 0 where
  pub program : Program K
  pub load : List ℕ → K
  pub save : K → List ℕ

abbrev pub housed : {K : Type 0} → Program K → (List ℕ → K) → (K → List ℕ) → Housed K
housed p l s = record { program = p; load = l; save = s }

abbrev pub image : {K : Type 0} → Housed K → Machine → K → List ℕ → List ℕ
image f r k m = machine_cells r ++ (f.save k ++ m)

abbrev pub stored : {K : Type 0} → Housed K → Moved K → Step
stored f v = record { memory = image f v.machine v.state v.memory; act = v.act }

abbrev pub stepped_in : {K : Type 0} → Housed K → List ℕ → Event → Step
stepped_in f m ev = stored f (served f.program (machine_in m) (f.load (take 120 (drop 8 m))) (drop 128 m) ev)

-- a memory of another length is left alone
unfoldable pub engine : {K : Type 0} → Housed K → Engine
engine f = record { start = zeros memory_cells; step = λ m ev. pick (length m == memory_cells) (stepped_in f m ev) (record { memory = m; act = done }) }

abbrev pub request_cells : Request → List ℕ
request_cells Recall = []
request_cells (Look at words) = at ∷ words ∷ []
request_cells (Object at limit) = at ∷ limit ∷ []
request_cells (Lay v pages) = v ∷ pages ∷ []
request_cells Publish = []
request_cells (Show bytes) = bytes ∷ []
request_cells Done = []
request_cells (Refuse number) = number ∷ []

-- all numbers that a client leaves are below 2^64
pub record Small {K : Type 0} (f : Housed K) (a : Asked K) : Type 0 where
  pub state : small (f.save a.state) ≡ true
  pub memory : small a.memory ≡ true
  pub request : small (request_cells a.request) ≡ true

-- what is asked of a client: cells hold it, memory keeps its length, numbers stay below 2^64 whatever comes
pub record Lawful {K : Type 0} (f : Housed K) : Type 0 where
  pub load_save : (k : K) → f.load (f.save k) ≡ k
  pub save_length : (k : K) → length (f.save k) ≡ 120
  pub load_small : (cs : List ℕ) → small cs ≡ true → small (f.save (f.load cs)) ≡ true
  pub wakes_small : (k : K) (c hs ps : ℕ) → small (f.save k) ≡ true → small (f.save (f.program.wakes k c hs ps)) ≡ true
  pub hears_length : (k : K) (m text : List ℕ) → length (f.program.hears k m text).memory ≡ length m
  pub hears_small : (k : K) (m text : List ℕ) → small (f.save k) ≡ true → small m ≡ true → Small f (f.program.hears k m text)
  pub resumes_length : (k : K) (m : List ℕ) → length (f.program.resumes k m).memory ≡ length m
  pub resumes_small : (k : K) (m : List ℕ) → small (f.save k) ≡ true → small m ≡ true → Small f (f.program.resumes k m)

-- a step of the code: a memory of another length, or a lent row that has no room for a row of bytes, is left alone, and number 0 is told
abbrev pub StepTold : {K : Type 0} → Bool → Housed K → (m : List ℕ) → Event → (out : List ℕ) → Told → (m₁ out₁ : List ℕ) → Type 0
StepTold true f m ev out r m₁ out₁ = (m₁ ≡ ((engine f).step m ev).memory) × ActTold ((engine f).step m ev).act r out out₁
StepTold false f m ev out r m₁ out₁ = (r ≡ No 0) × (m₁ ≡ m) × (out₁ ≡ out)

abbrev pub engine_fits : List ℕ → List ℕ → Bool
engine_fits m out = length m == memory_cells && nat_le 131072 (length out)
