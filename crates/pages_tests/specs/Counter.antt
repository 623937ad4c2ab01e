-- A client that counts: it reads a number from the tape, lays it one higher, publishes, and shows it. Assumes nothing: these are definitions.
use Rattle.std.specs.Prelude.{◌≡◌, ℕ, suc, ◌+◌, ◌-◌, ◌*◌, ◌<◌, ◌≤◌, ◌⊎◌, List, [], ◌∷◌, length, ◌==◌, nat_lt, slice_index, slice_set}
use Rattle.pages.specs.Lists.{pick, zeros}
use Rattle.pages.specs.Bytes.{eight}
use Rattle.pages.specs.Engine.{Housed, housed, bulk_cells}
use Rattle.pages.specs.Machine.{Asked, Program, program, asked, capped}
use Rattle.pages.specs.Tape.{first_page, last_page, published, Window, Does}
use Rattle.pages.specs.declared.machine.Request.TheVariants.{Recall, Look, Lay, Publish, Show, Done}
use Rattle.pages_tests.specs.declared.counter.Counter.{Counter}
use Rattle.pages_tests.specs.declared.counter.Phase.{Phase}
use Rattle.pages_tests.specs.declared.counter.Phase.TheVariants.{Resting, Recalling, Looking, Laying, Publishing, Showing}

abbrev pub counter : Phase → ℕ → ℕ → Counter
counter p l c = record { phase = p; last = l; count = c }

-- a phase as a cell has it
abbrev pub phase_code : Phase → ℕ
phase_code Resting = 0
phase_code Recalling = 1
phase_code Looking = 2
phase_code Laying = 3
phase_code Publishing = 4
phase_code Showing = 5

abbrev pub phase_in : ℕ → Phase
phase_in c =
    pick (c == 1) Recalling (pick (c == 2) Looking (pick (c == 3) Laying (pick (c == 4) Publishing (pick (c == 5) Showing Resting))))

abbrev pub counter_wakes : Counter → ℕ → ℕ → ℕ → Counter
counter_wakes k c hs ps = counter Resting 0 0

abbrev pub counter_hears : Counter → List ℕ → List ℕ → Asked Counter
counter_hears k m text = asked (counter Recalling 0 0) m Recall

-- the head is there: the last page that was laid has the number in front; if none was laid it is 0
abbrev pub recalled : List ℕ → Asked Counter
recalled m =
    pick (slice_index m 1 == 0) (asked (counter Laying 0 1) (slice_set m 0 1) (Lay 0 1)) (asked (counter Looking (slice_index m 1) 0) m (Look (capped (64 * (slice_index m 1 - 1))) 1))

abbrev pub counted : ℕ → List ℕ → Asked Counter
counted last m = asked (counter Laying last (capped (slice_index m 0 + 1))) (slice_set m 0 (capped (slice_index m 0 + 1))) (Lay last 1)

abbrev pub laid : ℕ → ℕ → List ℕ → Asked Counter
laid last count m = asked (counter Publishing last count) (slice_set (slice_set m 0 last) 1 (capped (last + 1))) Publish

abbrev pub resumed : Counter → List ℕ → Phase → Asked Counter
resumed k m Resting = asked k m Done
resumed k m Recalling = recalled m
resumed k m Looking = counted k.last m
resumed k m Laying = laid k.last k.count m
resumed k m Publishing = asked (counter Showing k.last k.count) (slice_set m 0 k.count) (Show 8)
resumed k m Showing = asked k m Done

abbrev pub counter_resumes : Counter → List ℕ → Asked Counter
counter_resumes k m = pick (nat_lt (length m) 2) (asked k m Done) (resumed k m k.phase)

abbrev pub counter_loads : List ℕ → Counter
counter_loads cs = counter (phase_in (slice_index cs 0)) (slice_index cs 1) (slice_index cs 2)

unfoldable pub counter_saves : Counter → List ℕ
counter_saves k = phase_code k.phase ∷ k.last ∷ k.count ∷ zeros 117

-- the head and the tape as far as it knows hold a number: 0 on a new device, otherwise the first word of the last page, which is all of the window
abbrev pub Counted : List ℕ → List ℕ → ℕ → Type 0
Counted h t c =
    ((c ≡ 0) × (first_page h ≡ 0) × (last_page h ≡ 0))
    ⊎ ((v : ℕ) × (first_page h ≡ v) × (last_page h ≡ suc v) × (slice_index t (64 * v) ≡ c))

abbrev pub counting : Program Counter
counting = program counter_wakes counter_hears counter_resumes

abbrev pub counter_client : Housed Counter
counter_client = housed counting counter_loads counter_saves

-- On a ring of two pages or more, whatever stops: the number is as it was or one higher, and at the end it is one higher and shown.
abbrev pub CountsUp : Type 0
CountsUp =
    (n : ℕ) (k : Counter) (m h t text : List ℕ) (c : ℕ) → 2 ≤ n → length m ≡ bulk_cells → Window n h t (last_page h) → Counted h t c →
    c + 1 < 18446744073709551615 → 64 * (last_page h + 2) < 18446744073709551615 →
    Does counting n (λ h₁ t₁ ss. Counted h₁ t₁ c ⊎ Counted h₁ t₁ (c + 1))
    (λ k₁ m₁ h₁ t₁ laid ss reply. (reply ≡ 0) × (ss ≡ eight (c + 1) ∷ []) × Counted h₁ (published h₁ t₁) (c + 1)) (counter_hears k m text) h t (last_page h) []
