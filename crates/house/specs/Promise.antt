-- What the houses promise, as a statement: `Whole` is a type, and its proof stands on a contract of this crate.
use Rattle.std.specs.Prelude.{◌≡◌, ℕ, zero, suc, ◌+◌, ◌*◌, ◌/◌, ◌<◌, ◌≤◌, Bool, true, false, not, ◌&&◌, ltb, ◌⊎◌, List, [], ◌∷◌, ◌++◌, length, ◌==◌, nat_eq, nat_lt, slice_index_or, slice_set}
use Rattle.pages.specs.Lists.{pick, or, every, any, each, flat, same, has, so_many, distinct, added_up}
use Rattle.pages.specs.Bytes.{from_bytes}
use Rattle.pages.specs.Words.{small}
use Rattle.pages.specs.Device.{blank, stopped}
use Rattle.pages.specs.Run.{Engine, Event, on, said, World, Ran, runs}
use Rattle.history.specs.Book.{Book, Sum, nth, clear, all_files}
use Rattle.commands.specs.Command.{Command, fetch, spelled, fits}
use Rattle.house.specs.House.{Plain, Clone, Turn, turn, clone_at, empty_clone, reached, weight, tree_weight}

-- WHAT MAY HAPPEN AT A COMMAND. A text is a command if it's spelled so; otherwise number 1. What is not known yet is number 2.
-- Known commands do what the plain house does; number 8 only if more is to be kept than a quarter of the pages hold; number 9 only if the line fell short.
abbrev pub Never : Type 0
Never = zero ≡ suc zero

unfoldable pub Said : List ℕ → Command → Type 0
Said text c = (spelled c ≡ text) × (fits c ≡ true)

-- what a house lacks of another, in bytes, and how many letters of 4,096 bytes a line must carry for it
unfoldable pub not_among : List ℕ → List ℕ → List ℕ
not_among old [] = []
not_among old (k ∷ ks) = pick (has old k) (not_among old ks) (k ∷ not_among old ks)

unfoldable pub files_not_among : List (List ℕ) → List (List ℕ) → List (List ℕ)
files_not_among old [] = []
files_not_among old (f ∷ fs) = pick (any (same f) old) (files_not_among old fs) (f ∷ files_not_among old fs)

abbrev pub files_of : Book → List ℕ → List (List ℕ)
files_of b ks = flat (λ k. each (λ f. f.bytes) (nth b k).tree) ks

unfoldable pub lacking : Book → Clone → Clone → ℕ
lacking b x y =
    added_up (λ k. 256 + length (nth b k).words + tree_weight (nth b k).tree) (not_among (reached b x) (reached b y))
    + added_up (λ f. 64 + length f) (distinct (files_not_among (files_of b (reached b x)) (files_of b (not_among (reached b x) (reached b y)))))

abbrev pub letters : Book → Clone → Clone → ℕ
letters b x y = 16 + lacking b x y / 1024 + (length (reached b x) + length (reached b y) + length y.branches) / 16

-- a command that is known: the plain house's turn; or no room; or no line
unfoldable pub KnownAllowed : ℕ → ℕ → Bool → Plain → ℕ → Command → Turn → List (List ℕ) → ℕ → Plain → Type 0
KnownAllowed pages ls other_up w c a t ss reply w₁ =
    ((reply ≡ t.reply) × (ss ≡ t.shows) × (w₁ ≡ t.next))
    ⊎ (((reply ≡ 8) × (ss ≡ []) × (w₁ ≡ w) × (t.reply ≡ 0) × (weight w.book (clone_at w.clones c) < weight t.next.book (clone_at t.next.clones c))
    × (128 * pages < weight t.next.book (clone_at t.next.clones c)))
    ⊎ ((reply ≡ 9) × (ss ≡ []) × (w₁ ≡ w) × (d : ℕ) × (a ≡ fetch d) × (t.reply ≡ 0)
    × ((other_up ≡ false) ⊎ (ls < letters w.book (clone_at w.clones c) (clone_at w.clones d)))))

unfoldable pub Allowed : Sum → (Command → Bool) → ℕ → ℕ → Bool → Plain → ℕ → List ℕ → List (List ℕ) → ℕ → Plain → Type 0
Allowed sum known pages ls other_up w c text ss reply w₁ =
    ((a : Command) × Said text a × (known a ≡ true) × KnownAllowed pages ls other_up w c a (turn sum w c (clone_at w.clones c) a) ss reply w₁)
    ⊎ (((a : Command) × Said text a × (known a ≡ false) × (reply ≡ 2) × (ss ≡ []) × (w₁ ≡ w))
    ⊎ (((a : Command) → Said text a → Never) × (reply ≡ 1) × (ss ≡ []) × (w₁ ≡ w)))

-- WHAT CAN HAPPEN IN THE WORLD: power comes; a command is said, with a line that carries so many letters; power stops in the middle of either,
-- after so many acts, and of the waiting writes so much is left.
pub data Item : Type 0 where
  power : ℕ → Item
  power_stops : ℕ → ℕ → List ℕ → Item
  whole : ℕ → List ℕ → ℕ → Item
  stops : ℕ → List ℕ → ℕ → ℕ → List ℕ → Item

-- which houses have power
abbrev pub flag : List Bool → ℕ → Bool
flag us c = slice_index_or us c false

abbrev pub set_flag : List Bool → ℕ → Bool → List Bool
set_flag us c u = slice_set us c u

unfoldable pub not_up : List Bool → ℕ → Bool
not_up us c = nat_lt c (length us) && pick (flag us c) false true

-- power comes where there is none, and a command is said where there is
unfoldable pub proper : List Bool → List Item → Bool
proper us [] = true
proper us (power c ∷ is) = not_up us c && proper (set_flag us c true) is
proper us (power_stops c n cs ∷ is) = not_up us c && proper us is
proper us (whole c t ls ∷ is) = flag us c && proper us is
proper us (stops c t ls n cs ∷ is) = flag us c && proper (set_flag us c false) is

abbrev pub no_world : World
no_world = record { device = record { pages = []; queue = [] }; memory = []; up = false }

abbrev pub world_at : List World → ℕ → World
world_at vs c = slice_index_or vs c no_world

abbrev pub set_world : List World → ℕ → World → List World
set_world vs c v = slice_set vs c v

-- the other house of a command: the one fetched from; none for other commands, or one that isn't there
unfoldable pub peer : ℕ → List ℕ → ℕ
peer c [] = 1000
peer c (b ∷ bs) = pick (b == 19) (pick (from_bytes 0 bs == c) 1000 (from_bytes 0 bs)) 1000

abbrev pub powered : Engine → World → World
powered e v = record { device = v.device; memory = e.start; up = true }

abbrev pub dark : World → List ℕ → World
dark v cs = record { device = stopped v.device cs; memory = []; up = false }

-- a command as it ran for so many acts
abbrev pub ran_as : Engine → ℕ → List World → ℕ → List ℕ → ℕ → Ran
ran_as e n vs c text ls = runs n e (peer c text) ls (world_at vs c) (world_at vs (peer c text)) (said text) []

abbrev pub worlds_after : List World → ℕ → List ℕ → Ran → World → List World
worlds_after vs c text r v = set_world (set_world vs (peer c text) r.there) c v

abbrev pub woken : Engine → ℕ → ℕ → ℕ → World → Ran
woken e n c hs v = runs n e 1000 0 (powered e v) no_world (on c hs (length v.device.pages)) []

-- no two different commits, and no two different files noted or in work, have one sum
abbrev pub work_files : Plain → List (List ℕ)
work_files w = flat (λ x. each (λ f. f.bytes) x.work) w.clones

unfoldable pub told_apart : Sum → Plain → Bool
told_apart sum w =
    clear sum w.book
    && every (λ x. every (λ y. or (same x y) (not (same (sum x) (sum y)))) (all_files w.book ++ work_files w)) (work_files w)

-- a text by which, if it's a command, nothing comes to have the sum of something else
unfoldable pub StillApart : Sum → Plain → ℕ → List ℕ → Type 0
StillApart sum w c text = (a : Command) → Said text a → told_apart sum (turn sum w c (clone_at w.clones c) a).next ≡ true

-- THE MAIN PROMISE, walked through a list of such items beside the plain houses. It goes on as long as no two different things have one sum.
unfoldable pub Right : Sum → (Command → Bool) → Engine → ℕ → List World → Plain → List Item → Type 0
Right sum known e pages vs w [] = zero ≡ zero
Right sum known e pages vs w (power c ∷ is) =
    (n : ℕ) × ((woken e n c (length vs) (world_at vs c)).end ≡ 0) × ((woken e n c (length vs) (world_at vs c)).showed ≡ [])
    × Right sum known e pages (set_world vs c (woken e n c (length vs) (world_at vs c)).here) w is
Right sum known e pages vs w (power_stops c n cs ∷ is) =
    (((woken e n c (length vs) (world_at vs c)).end ≡ 0) ⊎ ((woken e n c (length vs) (world_at vs c)).end ≡ 1000)) × ((woken e n c (length vs) (world_at vs c)).showed ≡ [])
    × Right sum known e pages (set_world vs c (dark (woken e n c (length vs) (world_at vs c)).here cs)) w is
Right sum known e pages vs w (whole c text ls ∷ is) =
    StillApart sum w c text →
    (n : ℕ) × (w₁ : Plain)
    × Allowed sum known pages ls (world_at vs (peer c text)).up w c text (ran_as e n vs c text ls).showed (ran_as e n vs c text ls).end w₁
    × Right sum known e pages (worlds_after vs c text (ran_as e n vs c text ls) (ran_as e n vs c text ls).here) w₁ is
Right sum known e pages vs w (stops c text ls n cs ∷ is) =
    StillApart sum w c text →
    (w₁ : Plain)
    × (Allowed sum known pages ls (world_at vs (peer c text)).up w c text (ran_as e n vs c text ls).showed (ran_as e n vs c text ls).end w₁
    ⊎ (((ran_as e n vs c text ls).end ≡ 1000) × (more : List (List ℕ)) × (reply : ℕ) × (w₂ : Plain)
    × Allowed sum known pages ls (world_at vs (peer c text)).up w c text ((ran_as e n vs c text ls).showed ++ more) reply w₂
    × ((w₁ ≡ w) ⊎ (w₁ ≡ w₂))))
    × Right sum known e pages (worlds_after vs c text (ran_as e n vs c text ls) (dark (ran_as e n vs c text ls).here cs)) w₁ is

abbrev pub new_world : ℕ → World
new_world pages = record { device = record { pages = blank pages; queue = [] }; memory = []; up = false }

-- memory is all 0 at the start; it never grows, nor do its numbers beyond 64 bits
unfoldable pub Steady : Engine → Type 0
Steady e =
    (length e.start ≤ 262144) × (every (λ m. nat_eq m 0) e.start ≡ true)
    × ((m : List ℕ) (ev : Event) → (length (e.step m ev).memory ≡ length m) × (small m ≡ true → small (e.step m ev).memory ≡ true))

-- for every sum of 32 bytes, up to 16 houses, all devices and all that can happen
unfoldable pub Whole : (Command → Bool) → (Sum → Engine) → Type 0
Whole known e =
    (sum : Sum) → ((bs : List ℕ) → (length (sum bs) ≡ 32) × (every (λ b. ltb b 256) (sum bs) ≡ true)) →
    Steady (e sum)
    × ((houses pages : ℕ) (is : List Item) → houses ≤ 16 → 64 ≤ pages → pages ≤ 1048576 → length is ≤ 4294967296 → proper (so_many houses false) is ≡ true →
    Right sum known (e sum) pages (so_many houses (new_world pages)) (record { book = []; clones = so_many houses empty_clone }) is)
