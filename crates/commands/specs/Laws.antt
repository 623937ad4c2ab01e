-- What is promised of spelling and parsing, as statements whose proofs stand on contracts of this crate.
use Rattle.std.specs.Prelude.{◌≡◌, ℕ, true, List, take, Some}
use Rattle.commands.specs.Command.{Command, spelled, fits}
use Rattle.commands.specs.Parse.{Answers, parsed}
use Rattle.commands.specs.Spell.{spelled_size, spelled_over}

-- no two commands are spelled alike
unfoldable pub SpelledOnce : Type 0
SpelledOnce = (a c : Command) → fits a ≡ true → fits c ≡ true → spelled a ≡ spelled c → a ≡ c

-- a text is parsed as a command exactly if it is spelled so and fits, and as that one
unfoldable pub ParsedRight : Type 0
ParsedRight = (text : List ℕ) → Answers text (parsed text)

-- what is spelled is parsed back
unfoldable pub ParsedBack : Type 0
ParsedBack = (c : Command) → fits c ≡ true → parsed (spelled c) ≡ Some c

-- and so is what was written to the front of a row
unfoldable pub ReadBack : Type 0
ReadBack = (c : Command) (row : List ℕ) (n : ℕ) → spelled_size c row ≡ Some n → parsed (take n (spelled_over c row)) ≡ Some c
