-- How text with escapes is read: from its front, byte by byte.
use Rattle.std.proofs.Common.{◌≡◌, ℕ, ◌-◌, ◌≤◌, List, [], ◌∷◌, ◌++◌, length, get_or, take, drop, Some, None, sym, refl, ◌∙◌, append_assoc, append-nil, arith}
use Rattle.std.proofs.lemmas.List.{take_all}
use Rattle.lines.specs.Hex.{byte_read}
use Rattle.lines.specs.Escape.{Gives, Stands, StandsForNone, hexed, itself, letter_read, named, nothing}

pub hexed_gives : (text : List ℕ) (b : ℕ) → 4 ≤ length text → get_or text 0 0 ≡ 92 → get_or text 1 0 ≡ 120 → Some b ≡ byte_read (get_or text 2 0) (get_or text 3 0)
    → Gives text b (take (length text - 4) (drop 4 text))
hexed_gives [] b h e f r = absurd (omega arith)
hexed_gives (x ∷ []) b h e f r = absurd (omega arith)
hexed_gives (x ∷ y ∷ []) b h e f r = absurd (omega arith)
hexed_gives (x ∷ y ∷ v ∷ []) b h e f r = absurd (omega arith)
hexed_gives (x ∷ y ∷ v ∷ w ∷ rest) b h e f r =
    rw (e, f, take_all (length (x ∷ y ∷ v ∷ w ∷ rest) - 4) rest (omega arith))
    (record { shorter = omega arith; stands = λ bytes s. hexed v w b rest bytes (sym r) s; fails = behind })
  where
    behind : StandsForNone rest → (bytes : List ℕ) → Stands (92 ∷ 120 ∷ v ∷ w ∷ rest) bytes → ⊥
    behind n _ (itself _ _ _ z _) = z refl
    behind n _ (named _ _ _ _ z _) = let y : None ≡ Some _ = z in cc
    behind n _ (hexed _ _ _ _ more _ s) = n more s

pub hexed_fails : (text : List ℕ) → 4 ≤ length text → get_or text 0 0 ≡ 92 → get_or text 1 0 ≡ 120 → None ≡ byte_read (get_or text 2 0) (get_or text 3 0) → StandsForNone text
hexed_fails [] h e f r = absurd (omega arith)
hexed_fails (x ∷ []) h e f r = absurd (omega arith)
hexed_fails (x ∷ y ∷ []) h e f r = absurd (omega arith)
hexed_fails (x ∷ y ∷ v ∷ []) h e f r = absurd (omega arith)
hexed_fails (x ∷ y ∷ v ∷ w ∷ rest) h e f r = rw (e, f) none
  where
    none : (bytes : List ℕ) → Stands (92 ∷ 120 ∷ v ∷ w ∷ rest) bytes → ⊥
    none _ (itself _ _ _ z _) = z refl
    none _ (named _ _ _ _ z _) = let y : None ≡ Some _ = z in cc
    none _ (hexed _ _ b _ _ z _) = let y : None ≡ Some b = r ∙ z in cc

pub named_gives : (text : List ℕ) (b : ℕ) → 2 ≤ length text → get_or text 0 0 ≡ 92 → Some b ≡ letter_read (get_or text 1 0) → Gives text b (take (length text - 2) (drop 2 text))
named_gives [] b h e r = absurd (omega arith)
named_gives (x ∷ []) b h e r = absurd (omega arith)
named_gives (x ∷ c ∷ rest) b h e r =
    rw (e, take_all (length (x ∷ c ∷ rest) - 2) rest (omega arith))
    (record { shorter = omega arith; stands = λ bytes s. named c b rest bytes (sym r) s; fails = behind c rest r })
  where
    behind : (c : ℕ) (rest : List ℕ) → Some b ≡ letter_read c → StandsForNone rest → (bytes : List ℕ) → Stands (92 ∷ c ∷ rest) bytes → ⊥
    behind c rest r n _ (itself _ _ _ z _) = z refl
    behind c rest r n _ (named _ _ _ more _ s) = n more s
    behind c rest r n _ (hexed _ _ _ _ _ _ _) = let y : Some b ≡ None = r in cc

pub named_fails : (text : List ℕ) → 2 ≤ length text → get_or text 0 0 ≡ 92 → (4 ≤ length text → get_or text 1 0 ≡ 120 → ⊥) → None ≡ letter_read (get_or text 1 0) → StandsForNone text
named_fails [] h e o r = absurd (omega arith)
named_fails (x ∷ []) h e o r = absurd (omega arith)
named_fails (x ∷ c ∷ rest) h e o r = rw e (none c rest o r)
  where
    none : (c : ℕ) (rest : List ℕ) → (4 ≤ length (92 ∷ c ∷ rest) → c ≡ 120 → ⊥) → None ≡ letter_read c → (bytes : List ℕ) → Stands (92 ∷ c ∷ rest) bytes → ⊥
    none c rest o r _ (itself _ _ _ z _) = z refl
    none c rest o r _ (named _ b _ _ z _) = let y : None ≡ Some b = r ∙ z in cc
    none c rest o r _ (hexed _ _ _ _ _ _ _) = o (omega arith) refl

pub lone_fails : (text : List ℕ) → length text ≡ 1 → get_or text 0 0 ≡ 92 → StandsForNone text
lone_fails [] h e = absurd (omega arith)
lone_fails (x ∷ y ∷ rest) h e = absurd (omega arith)
lone_fails (x ∷ []) h e = rw e none
  where
    none : (bytes : List ℕ) → Stands (92 ∷ []) bytes → ⊥
    none _ (itself _ _ _ z _) = z refl

pub itself_gives : (text : List ℕ) → 1 ≤ length text → (get_or text 0 0 ≡ 92 → ⊥) → Gives text (get_or text 0 0) (take (length text - 1) (drop 1 text))
itself_gives [] h o = absurd (omega arith)
itself_gives (b ∷ rest) h o =
    rw (take_all (length (b ∷ rest) - 1) rest (omega arith))
    (record { shorter = omega arith; stands = λ bytes s. itself b rest bytes o s; fails = behind b rest o })
  where
    behind : (b : ℕ) (rest : List ℕ) → (b ≡ 92 → ⊥) → StandsForNone rest → (bytes : List ℕ) → Stands (b ∷ rest) bytes → ⊥
    behind b rest o n _ (itself _ _ more _ s) = n more s
    behind b rest o n _ (named _ _ _ _ _ _) = o refl
    behind b rest o n _ (hexed _ _ _ _ _ _ _) = o refl

-- what was read of a text, and what is left of it
pub record Reads (text items rest : List ℕ) : Type 0 where
  pub stands : (bytes : List ℕ) → Stands rest bytes → Stands text (items ++ bytes)
  pub fails : StandsForNone rest → StandsForNone text

pub one_more : (text rest after items items' : List ℕ) (b : ℕ) → Reads text items rest → Gives rest b after → items' ≡ items ++ b ∷ [] → Reads text items' after
one_more text rest after items items' b r g e =
    record { stands = λ bytes s. rw (e, append_assoc) (r.stands (b ∷ bytes) (g.stands bytes s)); fails = λ n. r.fails (g.fails n) }

pub at_end : (text rest items : List ℕ) → Reads text items rest → length rest ≡ 0 → Stands text items
at_end text [] items r h = rw append-nil at (r.stands [] nothing)
at_end text (x ∷ xs) items r h = absurd (omega arith)
