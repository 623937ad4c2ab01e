-- The house as a machine with a memory, asked and answered step by step; how it runs beside its pages and the other houses.
-- Assumes nothing: these are definitions.
use Rattle.std.specs.Prelude.{ℕ, zero, suc, Bool, true, false, ◌&&◌, ltb, List, [], ◌∷◌, ◌++◌, length, ◌==◌, nat_le, nat_lt}
use Rattle.pages.specs.Lists.{pick, every}
use Rattle.pages.specs.Device.{Device, Page, read_page, flushed, a_page}

-- what the machine is told
pub data Event : Type 0 where
  on : ℕ → ℕ → ℕ → Event  -- power is there, memory is as at the start; the house's number, how many there are, how many pages it has
  said : List ℕ → Event  -- a command
  page : List ℕ → Event  -- the page that was asked for
  next : Event  -- the last act is done
  heard : List ℕ → Event  -- another house's letter
  lost : Event  -- there is no line to the other house any more

-- what it does
pub data Act : Type 0 where
  read : ℕ → Act
  write : ℕ → List ℕ → Act
  flush : Act
  shows : List ℕ → Act
  send : ℕ → List ℕ → Act  -- to a house, a letter of at most 4,096 bytes; or, by one who was written to, the reply
  done : Act
  refused : ℕ → Act

pub record Step : Type 0 where
  pub memory : List ℕ
  pub act : Act

-- the house, whatever it is like inside
pub record Engine : Type 0 where
  pub start : List ℕ
  pub step : List ℕ → Event → Step

pub record World : Type 0 where
  pub device : Device
  pub memory : List ℕ
  pub up : Bool

-- how a command went: what was shown, and how it ended: 0 done, a refusal, 1000 still running, 1001 a fault
pub record Ran : Type 0 where
  pub here : World
  pub there : World
  pub showed : List (List ℕ)
  pub end : ℕ

abbrev pub running : ℕ
running = 1000

abbrev pub fault : ℕ
fault = 1001

abbrev pub ran : World → World → List (List ℕ) → ℕ → Ran
ran w v ss e = record { here = w; there = v; showed = ss; end = e }

abbrev pub in_memory : World → List ℕ → World
in_memory w m = record { device = w.device; memory = m; up = w.up }

abbrev pub on_device : World → List ℕ → Device → World
on_device w m d = record { device = d; memory = m; up = w.up }

abbrev pub queued : Device → ℕ → Page → Device
queued d k p = record { pages = d.pages; queue = d.queue ++ record { at = k; page = p } ∷ [] }

abbrev pub writable : Device → ℕ → Page → Bool
writable d k p = nat_lt k (length d.pages) && a_page p

-- one who was written to works on the letter until it replies; it has 2^24 acts for that, and not to reply by then is a fault. A stop of the one who
-- wrote doesn't stop it
pub record Replied : Type 0 where
  pub world : World
  pub letter : List (List ℕ)  -- none if there was no reply
  pub cut : Bool  -- its acts ran out

abbrev pub a_letter : List ℕ → Bool
a_letter l = nat_le (length l) 4096 && every (λ b. ltb b 256) l

unfoldable pub reply_act : (World → Event → Replied) → World → List ℕ → Act → Replied
reply_act go v m (read k) = go (in_memory v m) (page (read_page v.device k))
reply_act go v m (write k p) = pick (writable v.device k p) (go (on_device v m (queued v.device k p)) next) (record { world = in_memory v m; letter = []; cut = false })
reply_act go v m flush = go (on_device v m (flushed v.device)) next
reply_act go v m (shows s) = record { world = in_memory v m; letter = []; cut = false }
reply_act go v m (send d l) = record { world = in_memory v m; letter = pick (a_letter l) (l ∷ []) []; cut = false }
reply_act go v m done = record { world = in_memory v m; letter = []; cut = false }
reply_act go v m (refused k) = record { world = in_memory v m; letter = []; cut = false }

unfoldable pub replies : ℕ → Engine → World → Event → Replied
replies zero e v ev = record { world = v; letter = []; cut = true }
replies (suc n) e v ev = reply_act (λ u ev₁. replies n e u ev₁) v (e.step v.memory ev).memory (e.step v.memory ev).act

-- a letter that came back, or none
-- if nothing comes back the line is gone
abbrev pub carried : ℕ → List (List ℕ) → ℕ
carried k [] = 0
carried k (b ∷ bs) = k

abbrev pub answered : List (List ℕ) → Event
answered [] = lost
answered (b ∷ bs) = heard b

-- a command: acts, and letters that the line still carries
unfoldable pub sent : (ℕ → World → World → Event → List (List ℕ) → Ran) → ℕ → World → World → List (List ℕ) → Replied → Ran
sent go zero w v ss r = go 0 w v lost ss
sent go (suc k) w v ss r = pick r.cut (ran w r.world ss fault) (go (carried k r.letter) w r.world (answered r.letter) ss)

-- a refusal has a number below 1,000, and not 0: anything else is a fault
abbrev pub refusal_end : ℕ → ℕ
refusal_end k = pick (nat_le 1 k && nat_lt k 1000) k fault

unfoldable pub one_act : (ℕ → World → World → Event → List (List ℕ) → Ran) → (Event → Replied) → ℕ → ℕ → World → World → List (List ℕ) → List ℕ → Act → Ran
one_act go by ls d w v ss m (read k) = go ls (in_memory w m) v (page (read_page w.device k)) ss
one_act go by ls d w v ss m (write k p) = pick (writable w.device k p) (go ls (on_device w m (queued w.device k p)) v next ss) (ran (in_memory w m) v ss fault)
one_act go by ls d w v ss m flush = go ls (on_device w m (flushed w.device)) v next ss
one_act go by ls d w v ss m (shows s) = go ls (in_memory w m) v next (ss ++ s ∷ [])
one_act go by ls d w v ss m (send c l) =
    pick (v.up && (c == d && a_letter l)) (sent go ls (in_memory w m) v ss (by (heard l))) (go ls (in_memory w m) v lost ss)
one_act go by ls d w v ss m done = ran (in_memory w m) v ss 0
one_act go by ls d w v ss m (refused k) = ran (in_memory w m) v ss (refusal_end k)

unfoldable pub runs : ℕ → Engine → ℕ → ℕ → World → World → Event → List (List ℕ) → Ran
runs zero e d ls w v ev ss = ran w v ss running
runs (suc n) e d ls w v ev ss =
    one_act (λ ls₁ w₁ v₁ ev₁ ss₁. runs n e d ls₁ w₁ v₁ ev₁ ss₁) (λ ev₁. replies 16777216 e v ev₁) ls d w v ss
    (e.step w.memory ev).memory (e.step w.memory ev).act
