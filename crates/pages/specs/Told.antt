-- How events and acts are told: what each case of the code's enums means. Assumes nothing: these are definitions.
use Rattle.std.specs.Prelude.{◌≡◌, ℕ, ◌+◌, ◌*◌, List, ◌++◌, length, drop}
use Rattle.pages.specs.Run.{Event, on, said, page, next, heard, lost, Act, read, write, flush, shows, send, done, refused}
use Rattle.pages.specs.declared.told.Event.{Event as ToldEvent}
use Rattle.pages.specs.declared.told.Event.TheVariants.{On, Said, Page, Next, Heard, Lost}
use Rattle.pages.specs.declared.told.Told.{Told}
use Rattle.pages.specs.declared.told.Told.TheVariants.{Read, Write, Flush, Shows, Send, Done, No}

abbrev pub event_meant : ToldEvent → Event
event_meant (On c hs ps) = on c hs ps
event_meant (Said text) = said text.now
event_meant (Page bytes) = page bytes.now
event_meant Next = next
event_meant (Heard letter) = heard letter.now
event_meant Lost = lost

-- an act, with the bytes of a page, a row or a letter at the front of the lent row, which is otherwise as it was
abbrev pub ActTold : Act → Told → (out out₁ : List ℕ) → Type 0
ActTold (read k) r out out₁ = (r ≡ Read k) × (out₁ ≡ out)
ActTold (write k p) r out out₁ = (r ≡ Write k) × (out₁ ≡ p ++ drop (length p) out)
ActTold flush r out out₁ = (r ≡ Flush) × (out₁ ≡ out)
ActTold (shows s) r out out₁ = (r ≡ Shows (length s)) × (out₁ ≡ s ++ drop (length s) out)
ActTold (send d l) r out out₁ = (r ≡ Send (4097 * d + length l)) × (out₁ ≡ l ++ drop (length l) out)
ActTold done r out out₁ = (r ≡ Done) × (out₁ ≡ out)
ActTold (refused k) r out out₁ = (r ≡ No k) × (out₁ ≡ out)
