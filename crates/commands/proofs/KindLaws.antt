-- The kind that a number is decoded to, and what a number of no kind spells.
use Rattle.std.proofs.Common.{◌≡◌, ℕ, ◌<◌, ◌≤◌, cond, eqb, List, Some, None, Option, Ok, Err, Result, false, arith, ◌∙◌}
use Rattle.std.proofs.lemmas.Bool.{cond-false}
use Rattle.std.proofs.lemmas.Bool.Decides.{nat_tests}
use Rattle.std.specs.Result.{result_ok}
use Rattle.commands.specs.Command.{Command}
use Rattle.commands.specs.Kind.{kind_number, Decodes}
use Rattle.commands.specs.Parse.{of_kind}
use Rattle.commands.specs.declared.kind.Kind.{Kind}
use Rattle.commands.specs.declared.kind.NoKind.{NoKind}

pub decoded : (n : ℕ) (r : Result Kind NoKind) (k : Kind) → Decodes n r → result_ok r ≡ Some k → kind_number k ≡ n
decoded n (Ok j) k d e = let j-is : j ≡ k = cc in grind arith
decoded n (Err j) k d e = cc

pub not_decoded : (n : ℕ) (r : Result Kind NoKind) → Decodes n r → result_ok r ≡ None → 1 ≤ n → 19 < n
not_decoded n (Ok j) d e = cc
not_decoded n (Err j) d e = d.1

module _ (n : ℕ) (t : List ℕ) (h : 1 ≤ n → 19 < n) where
  past : (k : ℕ) (x y : Option Command) → 1 ≤ k → k ≤ 19 → y ≡ None → cond (eqb n k) x y ≡ None
  past k x y low high e = let is : eqb n k ≡ false = grind (arith, nat_tests) in cond-false _ _ _ is ∙ e

  pub of_no_kind : of_kind n t ≡ None
  of_no_kind =
      let p : (k : ℕ) (x y : Option Command) → 1 ≤ k → k ≤ 19 → y ≡ None → cond (eqb n k) x y ≡ None = past in
      search (p, arith)
