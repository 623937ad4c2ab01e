-- A client for tests: it makes the one request that is said, or sweeps, or surveys what is live. Assumes nothing: these are definitions.
use Rattle.std.specs.Prelude.{◌≡◌, ℕ, ◌-◌, ◌*◌, List, ◌∷◌, ◌++◌, length, take, drop, ◌==◌, nat_lt, slice_index, slice_set}
use Rattle.pages.specs.Bytes.{from_bytes}
use Rattle.pages.specs.Lists.{pick, zeros}
use Rattle.pages.specs.Engine.{Housed, housed}
use Rattle.pages.specs.Machine.{Asked, Program, program, asked, capped}
use Rattle.pages.specs.Words.{over}
use Rattle.pages.specs.declared.machine.Request.{Request}
use Rattle.pages.specs.declared.machine.Request.TheVariants.{Recall, Look, Object, Lay, Publish, Show, Done, Refuse}
use Rattle.objects.specs.Cells.{sweep_cells, sweep_in, walk_cells, walk_in}
use Rattle.objects.specs.Marking.{Walks, begun, key, sought, walk, walked, went_on}
use Rattle.objects.specs.Plan.{head_at, plan_end}
use Rattle.objects.specs.Sweeping.{SweepsIn, sweep_begun, sweep_went_on, swung}
use Rattle.objects.specs.declared.mark.Walk.{Walk}
use Rattle.objects.specs.declared.sweep.Sweep.{Sweep}
use Rattle.objects_tests.specs.declared.keeper.Keeper.{Keeper}
use Rattle.objects_tests.specs.declared.keeper.Phase.{Phase}
use Rattle.objects_tests.specs.declared.keeper.Phase.TheVariants.{Once, ToSweep, ToSurvey, Sweeping, Surveying}

abbrev pub keeper : Phase → Sweep → Walk → Keeper
keeper p s w = record { phase = p; sweep = s; walk = w }

-- CELLS

abbrev pub phase_code : Phase → ℕ
phase_code Once = 0
phase_code ToSweep = 1
phase_code ToSurvey = 2
phase_code Sweeping = 3
phase_code Surveying = 4

abbrev pub phase_in : ℕ → Phase
phase_in c = pick (c == 1) ToSweep (pick (c == 2) ToSurvey (pick (c == 3) Sweeping (pick (c == 4) Surveying Once)))

abbrev pub keeper_loads : List ℕ → Keeper
keeper_loads cs = keeper (phase_in (slice_index cs 0)) (sweep_in (take 14 (drop 10 cs))) (walk_in (take 9 (drop 1 cs)))

unfoldable pub keeper_saves : Keeper → List ℕ
keeper_saves k = phase_code k.phase ∷ (walk_cells k.walk ++ (sweep_cells k.sweep ++ zeros 96))

-- COMMANDS: a code and five numbers, of eight bytes each

abbrev pub said : ℕ → List ℕ → ℕ
said i text = from_bytes 0 (take 8 (drop i text))

abbrev pub request_said : ℕ → ℕ → ℕ → Request
request_said code a b =
    pick (code == 0) (Look a b)
    (pick (code == 1) (Object a b)
    (pick (code == 2) (Lay a b)
    (pick (code == 3) Publish (pick (code == 4) (Show a) (pick (code == 5) Recall (pick (code == 6) Recall (Refuse 1)))))))

abbrev pub phase_said : ℕ → Phase
phase_said code = pick (code == 5) ToSweep (pick (code == 6) ToSurvey Once)

-- what a survey looks for
abbrev pub walk_said : List ℕ → Walk
walk_said text = walk 0 0 0 (said 8 text) (key (said 16 text) (said 24 text) (said 32 text) (said 40 text)) 0

abbrev pub keeper_wakes : Keeper → ℕ → ℕ → ℕ → Keeper
keeper_wakes k c hs ps = k

abbrev pub keeper_hears : Keeper → List ℕ → List ℕ → Asked Keeper
keeper_hears k m text =
    pick (nat_lt (length text) 48) (asked k m (Refuse 1))
    (asked (keeper (phase_said (said 0 text)) k.sweep (walk_said text)) m (request_said (said 0 text) (said 8 text) (said 16 text)))

-- SWEEPING: while it sweeps, and when the sweep has ended

abbrev pub sweeping : Walk → Sweep → Keeper
sweeping w s = keeper Sweeping s w

abbrev pub swept : Walk → Sweep → List ℕ → Asked Keeper
swept w s m = asked (keeper Once s w) m Done

-- SURVEYING: while it walks, and when all is met: what was met weighs so much, and what was looked for is there

abbrev pub surveying : Sweep → Walk → Keeper
surveying s w = keeper Surveying s w

abbrev pub surveyed : Sweep → Walk → List ℕ → Asked Keeper
surveyed s w m = asked (keeper Once s w) (slice_set (slice_set m 0 w.weight) 1 w.found) (Show 16)

-- the walk over the window of the head in the buffer
abbrev pub window_in : Walk → List ℕ → Walk
window_in w m = walk (capped (8 * slice_index m 0)) (capped (8 * (slice_index m 1 - slice_index m 0))) 0 w.kind w.key 0

abbrev pub resumed : Keeper → List ℕ → Phase → Asked Keeper
resumed k m Once = asked k m Done
resumed k m ToSweep = swung (sweeping k.walk) (swept k.walk) (sweep_begun k.sweep (over head_at (take 32 m) m))
resumed k m ToSurvey =
    walked (surveying k.sweep) (surveyed k.sweep)
    (sought (window_in k.walk m) (begun (capped (8 * slice_index m 0)) (take 8 (drop 2 m)) m))
resumed k m Sweeping = swung (sweeping k.walk) (swept k.walk) (sweep_went_on k.sweep m)
resumed k m Surveying = walked (surveying k.sweep) (surveyed k.sweep) (went_on k.walk m)

abbrev pub keeper_resumes : Keeper → List ℕ → Asked Keeper
keeper_resumes k m = pick (nat_lt (length m) plan_end) (asked k m (Refuse 2)) (resumed k m k.phase)

abbrev pub keeping : Program Keeper
keeping = program keeper_wakes keeper_hears keeper_resumes

abbrev pub keeper_client : Housed Keeper
keeper_client = housed keeping keeper_loads keeper_saves

-- What was saved is loaded again.
abbrev pub LoadsSaved : Type 0
LoadsSaved = (k : Keeper) → keeper_loads (keeper_saves k) ≡ k

-- It sweeps and marks as a client has to for what is shown of sweeping and of marking in any client.
abbrev pub KeeperSweeps : Type 0
KeeperSweeps = (w : Walk) → SweepsIn keeping (sweeping w) (swept w)

abbrev pub KeeperWalks : Type 0
KeeperWalks = (s : Sweep) → Walks keeping (surveying s) (surveyed s)
