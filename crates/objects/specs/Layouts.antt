-- How files, commits and names are laid: for each kind its words. (A tree's are with the tree rows.) Bytes stand eight to a word, the highest first, with zeros
-- behind them. Assumes nothing: these are definitions.
use Rattle.std.specs.Prelude.{◌≡◌, ℕ, ◌+◌, ◌-◌, ◌*◌, ◌/◌, ◌≤◌, Bool, true, ◌&&◌, List, [], ◌∷◌, ◌++◌, length, take, drop, Some, None, Option, ◌==◌, nat_le, slice_index}
use Rattle.pages.specs.Bytes.{all_bytes}
use Rattle.pages.specs.Lists.{pick, zeros}
use Rattle.pages.specs.Words.{bytes_of, over, words}
use Rattle.pages.specs.Object.{heading, kind_of, own_weight, data_of}
use Rattle.objects.specs.Marking.{key, key_words}
use Rattle.objects.specs.Plan.{plan_end, rest_at}
use Rattle.objects.specs.declared.mark.Key.{Key}
use Rattle.objects.specs.declared.layouts.Commit.{Commit}
use Rattle.objects.specs.declared.layouts.Name.{Name}
use Rattle.objects.specs.declared.layouts.Kind.{Kind}
use Rattle.objects.specs.declared.layouts.Kind.TheVariants.{File, Commit as ACommit, Name as AName}

-- the kinds that are laid here, by their numbers
abbrev pub kind_number : Kind → ℕ
kind_number File = 1
kind_number ACommit = 3
kind_number AName = 4

abbrev pub words_for : ℕ → ℕ
words_for bytes = (bytes + 7) / 8

abbrev pub packed_bytes : List ℕ → List ℕ
packed_bytes bs = words (words_for (length bs)) (bs ++ zeros 7)

-- a file: its sum in four words, and its bytes, so many of them in these words; it weighs 64 and its bytes
abbrev pub file_object : List ℕ → ℕ → List ℕ → List ℕ
file_object sum bytes ws = heading 1 0 (6 + length ws) ∷ (64 + bytes) ∷ (sum ++ ws)

-- a commit: its tree and its parents, of which none to two are there; its id, stamp, what its tree weighs, and its words. It weighs 256, its words and its tree
abbrev pub commit_object : (tree one two : ℕ) → List ℕ → (stamp tree_weight bytes : ℕ) → List ℕ → List ℕ
commit_object tree one two id stamp tree_weight bytes ws =
    heading 3 3 (11 + length ws) ∷ (256 + bytes + tree_weight) ∷ tree ∷ one ∷ two ∷ (id ++ (stamp ∷ tree_weight ∷ ws))

-- a name: the next one of the list, its commit; which kind of name it is, its length, its bytes; it weighs 128
abbrev pub name_object : (next commit list bytes : ℕ) → List ℕ → List ℕ
name_object next commit list bytes ws = heading 4 2 (6 + length ws) ∷ 128 ∷ next ∷ commit ∷ list ∷ bytes ∷ ws

-- what is read from them
abbrev pub file_bytes : List ℕ → ℕ
file_bytes o = own_weight o - 64

-- what a tree weighs, as the tree itself says
abbrev pub tree_weight_in : List ℕ → ℕ
tree_weight_in o = slice_index (data_of o) 0

-- and as a commit notes it
abbrev pub noted_weight : List ℕ → ℕ
noted_weight o = slice_index (data_of o) 5

-- IN MEMORY: bytes, no more than so many, stand packed behind the buffer from a place on
abbrev pub bytes_stand : ℕ → ℕ → ℕ → List ℕ → Bool
bytes_stand most bytes from m = nat_le plan_end (length m) && (nat_le bytes most && (nat_le rest_at from && nat_le (from + words_for bytes) (length m)))

abbrev pub words_at : ℕ → ℕ → List ℕ → List ℕ
words_at bytes from m = take (words_for bytes) (drop from m)

-- an object that fits is put in front of the buffer, and it is said how many words it has
abbrev pub in_front : Bool → List ℕ → List ℕ → List ℕ
in_front fits o m = pick fits (over 0 o m) m

abbrev pub answered : Bool → List ℕ → Option ℕ
answered fits o = pick fits (Some (length o)) None

abbrev pub commit_of : Commit → List ℕ → List ℕ
commit_of c ws = commit_object c.tree c.one c.two (key_words c.id) c.stamp c.tree_weight c.bytes ws

-- its first words, if its own words are so many
abbrev pub commit_front : ℕ → Commit → List ℕ
commit_front many c =
    heading 3 3 (11 + many) ∷ (256 + c.bytes + c.tree_weight) ∷ c.tree ∷ c.one ∷ c.two ∷ (key_words c.id ++ (c.stamp ∷ c.tree_weight ∷ []))

-- it weighs 2^63 at most
abbrev pub commit_fits : Commit → ℕ → List ℕ → Bool
commit_fits c from m = bytes_stand 65535 c.bytes from m && nat_le (256 + c.bytes + c.tree_weight) 9223372036854775808

abbrev pub name_of : Name → List ℕ → List ℕ
name_of n ws = name_object n.next n.commit n.list n.bytes ws

abbrev pub name_fits : Name → ℕ → List ℕ → Bool
name_fits n from m = bytes_stand 65 n.bytes from m && nat_le 1 n.bytes

-- what is read from the front of a memory, if an object of that kind is there
abbrev pub of_kind : ℕ → List ℕ → Bool
of_kind kind m = nat_le plan_end (length m) && kind_of m == kind

abbrev pub file_read : List ℕ → Option ℕ
file_read m = pick (of_kind 1 m) (Some (file_bytes m)) None

abbrev pub key_at : ℕ → List ℕ → Key
key_at at m = key (slice_index m at) (slice_index m (at + 1)) (slice_index m (at + 2)) (slice_index m (at + 3))

abbrev pub commit_in : List ℕ → Commit
commit_in m =
    record {
      tree = slice_index m 2;
      one = slice_index m 3;
      two = slice_index m 4;
      id = key_at 5 m;
      stamp = slice_index m 9;
      tree_weight = slice_index m 10;
      bytes = own_weight m - 256 - slice_index m 10;
    }

abbrev pub commit_read : List ℕ → Option Commit
commit_read m = pick (of_kind 3 m) (Some (commit_in m)) None

abbrev pub name_in : List ℕ → Name
name_in m = record { next = slice_index m 2; commit = slice_index m 3; list = slice_index m 4; bytes = slice_index m 5 }

abbrev pub name_read : List ℕ → Option Name
name_read m = pick (of_kind 4 m) (Some (name_in m)) None

-- the i-th eight bytes of a row, with zeros behind the last
abbrev pub eight_of : ℕ → List ℕ → List ℕ
eight_of i bs = take 8 (drop (8 * i) (bs ++ zeros 7))

-- bytes are written at a place if they fit there
abbrev pub bytes_put : ℕ → List ℕ → List ℕ → List ℕ
bytes_put at bs m = pick (nat_le (at + words_for (length bs)) (length m)) (over at (packed_bytes bs) m) m

-- What was composed is read back as it was, and its words stand where they were put, whatever lies behind.
pub record ReadBack : Type 0 where
  pub file : (sum : Key) (bytes : ℕ) (ws rest : List ℕ) → length ws ≤ 8192 → plan_end ≤ length (file_object (key_words sum) bytes ws ++ rest) →
      file_read (file_object (key_words sum) bytes ws ++ rest) ≡ Some bytes
  pub file_words : (sum : Key) (bytes : ℕ) (ws rest : List ℕ) → take (length ws) (drop 6 (file_object (key_words sum) bytes ws ++ rest)) ≡ ws
  pub file_sum : (sum : Key) (bytes : ℕ) (ws rest : List ℕ) → key_at 2 (file_object (key_words sum) bytes ws ++ rest) ≡ sum
  pub commit : (c : Commit) (ws rest : List ℕ) → length ws ≤ 8192 → plan_end ≤ length (commit_of c ws ++ rest) → commit_read (commit_of c ws ++ rest) ≡ Some c
  pub commit_words : (c : Commit) (ws rest : List ℕ) → take (length ws) (drop 11 (commit_of c ws ++ rest)) ≡ ws
  pub name : (n : Name) (ws rest : List ℕ) → length ws ≤ 8192 → plan_end ≤ length (name_of n ws ++ rest) → name_read (name_of n ws ++ rest) ≡ Some n
  pub name_words : (n : Name) (ws rest : List ℕ) → take (length ws) (drop 6 (name_of n ws ++ rest)) ≡ ws

-- Bytes come back out of the words that they were packed into.
abbrev pub BytesBack : Type 0
BytesBack = (bs : List ℕ) → all_bytes bs ≡ true → take (length bs) (bytes_of (packed_bytes bs)) ≡ bs
