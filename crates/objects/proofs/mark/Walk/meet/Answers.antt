use Rattle.std.proofs.Common.{◌≡◌, ℕ, ◌+◌, ◌-◌, min, List, length, get_or, sym, ap, ◌∙◌, ap₂}
use Rattle.pages.specs.Machine.{capped}
use Rattle.pages.specs.Object.{size_in}
use Rattle.objects.specs.Heap.{units}
use Rattle.objects.specs.Marking.{found_now, references_met, run_from, walk, with_references}
use Rattle.objects.specs.Plan.{map_of, map_words, with_map}
use Rattle.objects.specs.declared.mark.Walk.{Walk}
use Rattle.store.proofs.BitLaws.{run_set}
use Rattle.objects.proofs.MarkLaws.{found_before, found_here, marked_on}
use Rattle.objects.proofs.PlanLaws.{length_map_of, put_map}
use Rattle.objects.proofs.mark.Walk.meet.Goals as goal
use Rattle.objects.proofs.mark.Walk.meet.Goals.{then-is_sought, else-is_sought}

pub returns : goal.returns
returns c =
    let m : List ℕ = c.args.memory.now in
    let w : Walk = c.args.self.now in
    let e : c.if-is_sought.self ≡ walk w.first w.below w.weight w.kind w.key (found_now w m) =
    elim c.if-is_sought.branch [
      | then-is_sought x ↦
          x.self-is ∙ ap (walk w.first w.below w.weight w.kind w.key)
          (x.saturating_add-self.ensures ∙ ap (λ n. capped (n + 1)) x.saturating_add.ensures
          ∙ sym (found_here w m c.is_sought.result c.is_sought.ensures x.if-is_sought.true))
      | else-is_sought x ↦
          x.self-is ∙ ap (walk w.first w.below w.weight w.kind w.key)
          (sym (found_before w m c.is_sought.result c.is_sought.ensures x.if-is_sought.false))
    ]
    in
    let ws : List ℕ = run_from w.below (units (size_in (get_or m 0 0))) (map_of m) in
    let ran : c.set_run.new.map ≡ ws =
    c.set_run.ensures ∙ ap₂ (λ from many. run_from from many (map_of m)) (ap (λ x. x.below) e) c.units_in-units.ensures
    in
    let l : length ws ≡ map_words =
    (run_set (min (w.below + units (size_in (get_or m 0 0))) 18446744073709551615 - w.below) (map_of m) w.below 0).2 ∙ length_map_of m c.requires
    in
    record {
      walk =
          ap₂ (λ x weight. walk x.first x.below weight x.kind x.key x.found) e
          (c.saturating_add-self-2.ensures ∙ ap (λ x. capped (x.weight + get_or m 1 0)) e);
      memory =
          c.mark_references.ensures
          ∙ ap₂ (λ first x. with_map (with_references first (references_met x) (map_of x)) x) (ap (λ x. x.first) e)
          (put_map c.set_run.new.map m (ap length ran ∙ l) ∙ ap (λ x. with_map x m) ran)
          ∙ marked_on w.first ws m l c.requires;
    }
