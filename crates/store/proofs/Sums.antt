-- The laws of the sum.
use Rattle.std.proofs.Common.{◌≡◌, ℕ, zero, suc, ◌*◌, ◌/◌, ◌%◌, Bool, true, ltb, List, [], ◌∷◌, ◌++◌, length, sym, refl, ap, ◌∙◌, append_assoc, append-nil, arith, length-append, lt-ltb}
use lib.ListN.{length-replicate}
use Rattle.pages.specs.Lists.{every, flat}
use Rattle.pages.specs.Bytes.{in_bytes}
use Rattle.store.specs.declared.words.Words.{Words}
use Rattle.store.specs.Sha256.{K, initial, padding, words_of, digest, sha256}
use Rattle.store.specs.Running.{Progress, fresh, added, finished}
use Rattle.store.specs.Laws.{GivesBytes, CutsUnseen, all_added, PadsLeast, PadsWhole, ConstantsAreRoots, numbers, primes, root_bits, roots}
use Rattle.store.proofs.Adding.{added_added, added_none}
use Rattle.pages.proofs.BytesLaws.{length_in_bytes}
use Rattle.store.proofs.Padding.{finished_added}

abbrev a_byte : ℕ → Bool
a_byte b = ltb b 256

bytes_in : (k n : ℕ) (bs : List ℕ) → every a_byte bs ≡ true → every a_byte (in_bytes k n bs) ≡ true
unfolding in_bytes
bytes_in zero n bs h = h
bytes_in (suc k) n bs h = bytes_in k (n / 256) (n % 256 ∷ bs) (rw (lt-ltb (n % 256) 256 (omega arith)) h)

-- words as four bytes each
words_length : (ws : List ℕ) → length (flat (λ w. in_bytes 4 w []) ws) ≡ 4 * length ws
words_length [] = refl
words_length (w ∷ ws) = length-append (in_bytes 4 w []) (flat (λ v. in_bytes 4 v []) ws) ∙ omega (arith, length_in_bytes 4 w [], words_length ws)

words_bytes : (ws : List ℕ) → every a_byte (flat (λ w. in_bytes 4 w []) ws) ≡ true
unfolding in_bytes
words_bytes [] = refl
words_bytes (w ∷ ws) = bytes_in 4 w (flat (λ v. in_bytes 4 v []) ws) (words_bytes ws)

digest_bytes : (s : Words) → (length (digest s) ≡ 32) × (every a_byte (digest s) ≡ true)
unfolding digest
digest_bytes s = (words_length (words_of s), words_bytes (words_of s))

pub gives_bytes : GivesBytes
unfolding sha256
gives_bytes bs = digest_bytes _

all_added_is : (pieces : List (List ℕ)) (p : Progress) (m : List ℕ) → p ≡ added fresh m
    → all_added p pieces ≡ added fresh (m ++ flat (λ bs. bs) pieces)
all_added_is [] p m e = e ∙ ap (added fresh) (sym (append-nil m))
all_added_is (bs ∷ pieces) p m e =
    all_added_is pieces (added p bs) (m ++ bs) (ap (λ q. added q bs) e ∙ added_added fresh m bs)
    ∙ ap (added fresh) (append_assoc m bs (flat (λ b. b) pieces))

pub cuts_unseen : CutsUnseen
cuts_unseen pieces = ap finished (all_added_is pieces fresh [] added_none) ∙ finished_added (flat (λ bs. bs) pieces)

pub pads_least : PadsLeast
pads_least l = (omega arith, λ k h. omega arith)

pub pads_whole : PadsWhole
unfolding padding
pads_whole m = simp (length-append, length-replicate) (omega (arith, length_in_bytes 8 (8 * length m) []))

pub constants_are_roots : ConstantsAreRoots
unfolding K initial numbers primes root_bits roots
constants_are_roots = (refl, refl)
