-- A client that lays or looks at 64 KiB again and again, to measure. Assumes nothing: these are definitions.
use Rattle.std.specs.Prelude.{ℕ, ◌-◌, Bool, not, List, ◌∷◌, length, ◌==◌, slice_index}
use Rattle.pages.specs.Lists.{pick, zeros}
use Rattle.pages.specs.Engine.{Housed, housed}
use Rattle.pages.specs.Machine.{Asked, asked, program}
use Rattle.pages.specs.declared.machine.Request.TheVariants.{Look, Lay, Done}
use Rattle.pages_bench.specs.declared.mover.Mover.{Mover}

abbrev pub mover : Bool → ℕ → Mover
mover l n = record { looks = l; left = n }

abbrev pub mover_wakes : Mover → ℕ → ℕ → ℕ → Mover
mover_wakes k c hs ps = k

abbrev pub mover_resumes : Mover → List ℕ → Asked Mover
mover_resumes k m =
    pick (k.left == 0) (asked k m Done)
    (pick k.looks (asked (mover k.looks (k.left - 1)) m (Look 0 8192)) (asked (mover k.looks (k.left - 1)) m (Lay 0 128)))

-- a text without bytes lays, another one looks
abbrev pub mover_hears : Mover → List ℕ → List ℕ → Asked Mover
mover_hears k m text = mover_resumes (mover (not (length text == 0)) 1000) m

abbrev pub mover_loads : List ℕ → Mover
mover_loads cs = mover (not (slice_index cs 0 == 0)) (slice_index cs 1)

unfoldable pub mover_saves : Mover → List ℕ
mover_saves k = pick k.looks 1 0 ∷ k.left ∷ zeros 118

abbrev pub mover_client : Housed Mover
mover_client = housed (program mover_wakes mover_hears mover_resumes) mover_loads mover_saves
