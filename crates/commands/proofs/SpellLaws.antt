-- A command's parts spell it, fit where it does, and are written one behind the other.
use Rattle.std.proofs.Common.{◌≡◌, ℕ, ◌+◌, ◌<◌, ◌≤◌, Bool, true, false, ◌&&◌, ltb, leb, List, [], ◌∷◌, ◌++◌, length, take, drop, Some, None, Option, sym, refl, ap, ◌∙◌, ap₂, append-nil, zero-add, arith, length-append, Bor}
use mathlib.Core.Bool.{and-true}
use lib.Seq.{paste}
use Rattle.std.proofs.lemmas.List.Edits.{paste-paste, paste_all}
use Rattle.std.proofs.lemmas.List.{take_at}
use Rattle.std.proofs.lemmas.Bool.{and_parts, and_from, and_left, and_right, cond-true, cond-false, le-leb, lt-leb}
use Rattle.std.proofs.lemmas.Bool.Decides.{nat_tests}
use Rattle.pages.specs.Bytes.{all_bytes}
use Rattle.pages.proofs.BytesLaws.{all_bytes_in_bytes}
use Rattle.commands.specs.Command.{spelled, fits}
use Rattle.commands.specs.Kind.{kind_number}
use Rattle.commands.specs.Laws.{ReadBack}
use Rattle.commands.specs.Meaning.{meant}
use Rattle.commands.specs.Parse.{within, if_so, parsed}
use Rattle.commands.specs.Spell.{has_room, spelled_size, spelled_over, written, piece_bytes, piece_fits, parts_of}
use Rattle.commands.specs.declared.command.Command.{Command}
use Rattle.commands.specs.declared.command.Command.TheVariants.{WriteFile, DropFile, Commit, Branch, GoTo, History, ShowFile, Status, ReadFile, Join, Settle, Leave, MoveOnto, Carry, Forget, Tag, Who, Sweep, Fetch}
use Rattle.commands.specs.declared.parts.Parts.{Parts}
use Rattle.commands.specs.declared.parts.Piece.{Piece}
use Rattle.commands.specs.declared.parts.Piece.TheVariants.{Number, Row}
use Rattle.commands.proofs.ParseLaws.{all_bytes_row, parsed_back}

-- ---- the parts spell the command

abbrev pub both : Command → List ℕ
both c = kind_number (parts_of c).kind ∷ (piece_bytes (parts_of c).first ++ piece_bytes (parts_of c).second)

one : (k : ℕ) (bs : List ℕ) → k ∷ bs ≡ k ∷ (bs ++ [])
one k bs = ap (λ r. k ∷ r) (sym (append-nil bs))

pub parts_spell : (c : Command) → spelled (meant c) ≡ both c
unfolding spelled
parts_spell (WriteFile path bytes) = refl
parts_spell (DropFile path) = one 2 _
parts_spell (Commit stamp words) = refl
parts_spell (Branch name) = one 4 _
parts_spell (GoTo name) = one 5 _
parts_spell History = refl
parts_spell (ShowFile name path) = refl
parts_spell Status = refl
parts_spell (ReadFile path) = one 9 _
parts_spell (Join name) = one 10 _
parts_spell (Settle path) = one 11 _
parts_spell Leave = refl
parts_spell (MoveOnto name) = one 13 _
parts_spell (Carry id) = one 14 _
parts_spell (Forget name) = one 15 _
parts_spell (Tag name) = one 16 _
parts_spell (Who path) = one 17 _
parts_spell Sweep = refl
parts_spell (Fetch house) = one 19 _

-- ---- the parts fit where the command does

abbrev pub real : Option Piece → Bool
real p = piece_fits p && all_bytes (piece_bytes p)

row_real : (b : Bor (List ℕ)) (low high : ℕ) → (within low high (length b.now) && all_bytes b.now) ≡ real (Some (Row b low high))
row_real b low high = ap (λ x. within low high (length b.now) && x) (sym (all_bytes_row b.now))

text_real : (b : Bor (List ℕ)) → (ltb (length b.now) 65536 && all_bytes b.now) ≡ real (Some (Row b 0 65535))
text_real b =
    let e : ltb (length b.now) 65536 ≡ within 0 65535 (length b.now) = grind (arith, nat_tests) in ap (λ x. x && all_bytes b.now) e ∙ row_real b 0 65535

number_real : (n high : ℕ) → leb n high ≡ real (Some (Number n high))
unfolding all_bytes
number_real n high = sym (ap (λ x. leb n high && x) (all_bytes_in_bytes 8 n []) ∙ and-true (leb n high))

alone : (x y : Bool) → x ≡ y → x ≡ (y && (true && all_bytes []))
unfolding all_bytes
alone x y e = e ∙ sym (and-true y)

pub parts_fit : (c : Command) → fits (meant c) ≡ (real (parts_of c).first && real (parts_of c).second)
unfolding fits all_bytes
parts_fit (WriteFile path bytes) = ap₂ ◌&&◌ (row_real path 1 64) (text_real bytes)
parts_fit (DropFile path) = alone _ _ (row_real path 1 64)
parts_fit (Commit stamp words) =
    let e : ltb stamp 18446744073709551616 ≡ leb stamp 18446744073709551615 = grind (arith, nat_tests) in
    ap₂ ◌&&◌ (e ∙ number_real stamp 18446744073709551615) (text_real words)
parts_fit (Branch name) = alone _ _ (row_real name 1 64)
parts_fit (GoTo name) = alone _ _ (row_real name 1 64)
parts_fit History = refl
parts_fit (ShowFile name path) = ap₂ ◌&&◌ (row_real name 1 65) (row_real path 1 64)
parts_fit Status = refl
parts_fit (ReadFile path) = alone _ _ (row_real path 1 64)
parts_fit (Join name) = alone _ _ (row_real name 1 65)
parts_fit (Settle path) = alone _ _ (row_real path 1 64)
parts_fit Leave = refl
parts_fit (MoveOnto name) = alone _ _ (row_real name 1 65)
parts_fit (Carry id) = alone _ _ (row_real id 1 64)
parts_fit (Forget name) = alone _ _ (row_real name 1 64)
parts_fit (Tag name) = alone _ _ (row_real name 1 64)
parts_fit (Who path) = alone _ _ (row_real path 1 64)
parts_fit Sweep = refl
parts_fit (Fetch house) =
    let e : ltb house 16 ≡ leb house 15 = grind (arith, nat_tests) in alone _ _ (e ∙ number_real house 15)

-- ---- written one behind the other

pub written_more : (d : List ℕ) (at : ℕ) (s t : List ℕ) → at ≤ length d → written (written d at s) (at + length s) t ≡ written d at (s ++ t)
written_more d at s t h = paste-paste d at s t (length s) (length t) refl refl h ∙ ap (paste d at (s ++ t)) (sym (length-append s t))

pub written_front : (d s : List ℕ) → written d 0 s ≡ s ++ drop (length s) d
written_front d s = paste_all d 0 s (length s) refl ∙ ap (λ n. s ++ drop n d) (zero-add (length s))

-- ---- what `spell` answers, from the parts of the command

if_so_none : {A : Type 0} (b : Bool) (x : A) → None ≡ if_so b x → b ≡ false
if_so_none true x e = cc
if_so_none false x e = refl

if_so_some : {A : Type 0} (b : Bool) (x y : A) → Some y ≡ if_so b x → (b ≡ true) × (y ≡ x)
if_so_some true x y e = (refl, cc)
if_so_some false x y e = (cc, cc)

module _ (c : Command) (out : List ℕ) (p : Parts) (e : p ≡ parts_of c) where
  fits_by : fits (meant c) ≡ (real p.first && real p.second)
  fits_by = parts_fit c ∙ sym (ap (λ q. real q.first && real q.second) e)

  spelled_by : spelled (meant c) ≡ kind_number p.kind ∷ (piece_bytes p.first ++ piece_bytes p.second)
  spelled_by = parts_spell c ∙ sym (ap (λ q. kind_number q.kind ∷ (piece_bytes q.first ++ piece_bytes q.second)) e)

  length_by : length (spelled (meant c)) ≡ 1 + length (piece_bytes p.first) + length (piece_bytes p.second)
  length_by = omega (arith, ap length spelled_by, length-append (piece_bytes p.first) (piece_bytes p.second))

  -- refused: no room, or a piece that does not fit
  refused : has_room (meant c) out ≡ false → (None ≡ spelled_size (meant c) out) × (out ≡ spelled_over (meant c) out)
  unfolding spelled_size spelled_over
  refused h = (sym (cond-false _ _ _ h), sym (cond-false _ _ _ h))

  pub first_refused : None ≡ if_so (piece_fits p.first) (length (piece_bytes p.first)) → (None ≡ spelled_size (meant c) out) × (out ≡ spelled_over (meant c) out)
  unfolding has_room
  first_refused h = refused (and_left _ _ (fits_by ∙ and_left _ _ (and_left _ _ (if_so_none _ _ h))))

  pub second_refused : None ≡ if_so (piece_fits p.second) (length (piece_bytes p.second)) → (None ≡ spelled_size (meant c) out) × (out ≡ spelled_over (meant c) out)
  unfolding has_room
  second_refused h = refused (and_left _ _ (fits_by ∙ and_right _ _ (and_left _ _ (if_so_none _ _ h))))

  module _
      (m n : ℕ) (hm : Some m ≡ if_so (piece_fits p.first) (length (piece_bytes p.first)))
      (hn : Some n ≡ if_so (piece_fits p.second) (length (piece_bytes p.second)))
    where
      length_of : length (spelled (meant c)) ≡ 1 + m + n
      length_of = omega (arith, length_by, (if_so_some (piece_fits p.first) _ m hm).1, (if_so_some (piece_fits p.second) _ n hn).1)

      pub room_refused : length out < 1 + m + n → (None ≡ spelled_size (meant c) out) × (out ≡ spelled_over (meant c) out)
      unfolding has_room
      room_refused h = refused (and_right _ _ (lt-leb (length (spelled (meant c))) (length out) (omega (arith, length_of))))

      pub accepted : 1 + m + n ≤ length out → all_bytes (piece_bytes p.first) ≡ true → all_bytes (piece_bytes p.second) ≡ true
          → (Some (1 + length (piece_bytes p.first) + length (piece_bytes p.second)) ≡ spelled_size (meant c) out)
          × (written out 0 (kind_number p.kind ∷ (piece_bytes p.first ++ piece_bytes p.second)) ≡ spelled_over (meant c) out)
      unfolding has_room spelled_size spelled_over
      accepted h b d =
          let fit : fits (meant c) ≡ true = fits_by ∙ and_from _ _ (and_from _ _ (if_so_some _ _ m hm).0 b) (and_from _ _ (if_so_some _ _ n hn).0 d) in
          let room : has_room (meant c) out ≡ true = and_from _ _ fit (le-leb (length (spelled (meant c))) (length out) (omega (arith, length_of))) in
          let s = kind_number p.kind ∷ (piece_bytes p.first ++ piece_bytes p.second) in (
            ap Some (sym length_by) ∙ sym (cond-true _ _ _ room),
            written_front out s ∙ sym (cond-true _ _ _ room ∙ ap (λ s. s ++ drop (length s) out) spelled_by),
          )

-- ---- what was written to the front of a row is parsed back

pub read_back : ReadBack
unfolding ReadBack spelled_size spelled_over has_room
read_back c row n e =
    let h = if_so_some (has_room c row) (length (spelled c)) n (sym e) in
    let fit = and_parts (fits c) (leb (length (spelled c)) (length row)) h.0 in
    ap parsed (ap (take n) (cond-true _ _ _ h.0) ∙ take_at (spelled c) (drop (length (spelled c)) row) n (sym h.1)) ∙ parsed_back c fit.0
