-- Numbers as bytes, and the 32 bytes of a hash value, word by word.
use Rattle.std.specs.List.{flat_map}
use Rattle.std.proofs.Common.{suc, refl, ap₂, ◌≡◌, ℕ, ◌/◌, ◌%◌, ◌<◌, List, [], ◌∷◌, ◌++◌, length, get_or, sym, ap, ◌∙◌, arith}
use Rattle.pages.specs.Lists.{flat}
use Rattle.pages.specs.Bytes.{in_bytes}
use Rattle.store.specs.declared.words.Words.{Words}
use Rattle.store.specs.Sha256.{words_of, digest}

abbrev four : ℕ → List ℕ
four w = in_bytes 4 w []

pub four_is : (w : ℕ) → (w / 16777216 % 256) ∷ (w / 65536 % 256) ∷ (w / 256 % 256) ∷ (w % 256) ∷ [] ≡ in_bytes 4 w []
unfolding in_bytes
four_is w =
    let b : w / 256 / 256 ≡ w / 65536 = omega arith in
    let a : w / 256 / 256 / 256 ≡ w / 16777216 = omega arith in
    rw (a, b)

-- eight rows of four bytes, each of which spells a word
pub digest_is : (s : Words) (ws : List ℕ) (rows : List (List ℕ)) → ws ≡ words_of s → length rows ≡ 8 →
    ((i : ℕ) → i < 8 → get_or rows i [] ≡ in_bytes 4 (get_or ws i 0) []) → flat_map (λ x. x) rows ≡ digest s
unfolding digest
digest_is s ws rows e l h =
    all rows ws (l ∙ sym (ap length e)) (λ i lt. h i (omega (arith, ap length e))) ∙ ap (flat (λ w. in_bytes 4 w [])) e
  where
    all : (rs : List (List ℕ)) (vs : List ℕ) → length rs ≡ length vs → ((i : ℕ) → i < length vs → get_or rs i [] ≡ in_bytes 4 (get_or vs i 0) []) →
        flat_map (λ x. x) rs ≡ flat (λ w. in_bytes 4 w []) vs
    all [] [] n f = refl
    all [] (v ∷ vs) n f = absurd (omega arith)
    all (r ∷ rs) [] n f = absurd (omega arith)
    all (r ∷ rs) (v ∷ vs) n f = ap₂ (λ a b. a ++ b) (f 0 (omega arith)) (all rs vs (omega arith) (λ i lt. f (suc i) (omega arith)))
