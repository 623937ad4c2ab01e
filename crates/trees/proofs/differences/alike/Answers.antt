use Rattle.std.proofs.Common.{◌≡◌, ◌+◌, ◌<◌, List, ℕ, [], length, get_or, drop, sym, ◌∙◌, ap₂, rules, Decides}
use Rattle.std.proofs.lemmas.Slice.Eq.{slice_eq-Decides}
use Rattle.pages.specs.Lists.{each}
use Rattle.trees.specs.Row.{as_entry}
use Rattle.trees.specs.Differ.{meets}
use Rattle.trees.proofs.DifferLaws.{file_at, meets_words}
use Rattle.std.proofs.lemmas.Bool.Decides.{Decides-eqb}
use Rattle.trees.proofs.differences.alike.Goals as goal

pub returns-in-Some-Some : goal.returns-in-Some-Some
returns-in-Some-Some c =
    let old = c.args.old.now in let new = c.args.new.now in let i = c.args.i in let j = c.args.j in
    let h : i < length old = search rules in
    let k : j < length new = search rules in
    let a : List ℕ = get_or old i [] in let b : List ℕ = get_or new j [] in
    let ea : c.in-Some-Some.old.now ≡ a = search rules in
    let eb : c.in-Some-Some.new.now ≡ b = search rules in
    let la : length a ≡ 10 = search rules in
    let lb : length b ≡ 10 = search rules in
    let d : Decides c.eq.result (a ≡ b) = rw (ea, eb) at (slice_eq-Decides Decides-eqb c.in-Some-Some.old.now c.in-Some-Some.new.now _ c.eq.ensures) in
    meets_words a b (drop (i + 1) (each as_entry old)) (drop (j + 1) (each as_entry new)) c.eq.result la lb d ∙ sym (ap₂ (λ s t. meets s t) (file_at old i h) (file_at new j k))
