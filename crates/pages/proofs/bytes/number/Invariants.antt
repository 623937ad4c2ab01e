use Rattle.std.proofs.Common.{◌≡◌, ◌^◌, ◌<◌, drop}
use Rattle.pages.specs.Bytes.{from_bytes}
use Rattle.pages.proofs.bytes.number.Given as goal

-- what is left gives the number, and so far it has one byte for each turn
abbrev pub invariant-loop-byte : goal.invariant-loop-byte
invariant-loop-byte l = (from_bytes l.n (drop l.byte-index l.front) ≡ from_bytes 0 l.front) × (l.n < 256 ^ l.byte-index)
