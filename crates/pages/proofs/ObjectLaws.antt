-- Laws of an object's first word. Assumes nothing.
use Rattle.std.proofs.Common.{◌≡◌, ℕ, ◌+◌, ◌*◌, ◌/◌, ◌%◌, ◌<◌, ap, ◌∙◌, arith}
use Rattle.pages.specs.Object.{heading, size_in, references_in, kind_in}

pub heading_parts : (k n s : ℕ) → n < 65536 → s < 4294967296 →
    (references_in (heading k n s) ≡ n) × (size_in (heading k n s) ≡ s) × (kind_in (heading k n s) ≡ k)
heading_parts k n s h l =
    let m : s + 4294967296 * n + 281474976710656 * k ≡ s + 4294967296 * (n + 65536 * k) = omega arith in
    let q : (s + 4294967296 * (n + 65536 * k)) / 4294967296 ≡ n + 65536 * k = omega arith in
    let e : heading k n s / 4294967296 ≡ n + 65536 * k = ap (λ w. w / 4294967296) m ∙ q in
    (ap (λ w. w % 65536) e ∙ omega arith, omega arith, omega arith)
