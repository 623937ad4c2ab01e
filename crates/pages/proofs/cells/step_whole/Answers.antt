use Rattle.std.proofs.Common.{◌≡◌, ℕ, ◌≤◌, true, leb, List, ◌++◌, length, take, drop, ap, ◌∙◌, subst, ap₂, append-nil, arith, length-append, length-drop, length-take}
use borrow.Rule.Slice.PartMut.{put_mid}
use Rattle.std.proofs.lemmas.List.{take_at, drop_at, drop-drop, drop_all, take_all, length-take-le}
use Rattle.std.proofs.lemmas.Bool.{le-leb, and_from}
use Rattle.pages.specs.Run.{Event}
use Rattle.pages.specs.Told.{ActTold, event_meant}
use Rattle.pages.specs.Machine.{Moves, ServeSays, serve_fits, served}
use Rattle.pages.specs.Engine.{Housed, machine_cells, machine_in, stepped_in}
use Rattle.pages.specs.declared.machine.Machine.{Machine}
use Rattle.pages.specs.declared.told.Told.{Told}
use Rattle.pages.proofs.cells.step_whole.Goals as goal

-- three parts written over a memory are the whole of it
assembled : (m mc sv bulk : List ℕ) → length m ≡ 262144 → length mc ≡ 8 → length sv ≡ 120 → length bulk ≡ 262016 →
    put_mid 8 120 (mc ++ drop 8 (put_mid 128 262016 m bulk)) sv ≡ mc ++ (sv ++ bulk)
assembled m mc sv bulk l lm ls lb =
    let whole : List ℕ = put_mid 128 262016 m bulk in
    let back : drop 128 whole ≡ bulk =
    drop_at (take 128 m) (bulk ++ drop 262016 (drop 128 m)) 128 (length-take-le 128 m (omega arith))
    ∙ ap (λ xs. bulk ++ xs) (drop_all 262016 (drop 128 m) (omega (arith, length-drop 128 m))) ∙ append-nil bulk in
    ap₂ (λ xs ys. xs ++ (sv ++ drop 120 ys)) (take_at mc (drop 8 whole) 8 lm) (drop_at mc (drop 8 whole) 8 lm)
    ∙ ap (λ xs. mc ++ (sv ++ xs)) (drop-drop 120 8 whole ∙ back)

whole_step : {K : Type 0} (f : Housed K) (m : List ℕ) (ev : Event) (k : K) (mc sv out : List ℕ) (told : Told) (r₁ : Machine) (k₁ : K) (bulk out₁ : List ℕ) →
    length m ≡ 262144 → 131072 ≤ length out → k ≡ f.load (take 120 (drop 8 m)) →
    ServeSays (serve_fits (take 262016 (drop 128 m)) out) f.program (machine_in m) k (take 262016 (drop 128 m)) ev out told r₁ k₁ bulk out₁ →
    mc ≡ machine_cells r₁ → sv ≡ f.save k₁ → length mc ≡ 8 → length sv ≡ 120 → length bulk ≡ 262016 →
    (put_mid 8 120 (mc ++ drop 8 (put_mid 128 262016 m bulk)) sv ≡ (stepped_in f m ev).memory) × ActTold (stepped_in f m ev).act told out out₁
unfolding ServeSays
whole_step f m ev k mc sv out told r₁ k₁ bulk out₁ l lo ek says em es lm ls lb =
    let rest : take 262016 (drop 128 m) ≡ drop 128 m = take_all 262016 (drop 128 m) (omega (arith, length-drop 128 m)) in
    let fits : serve_fits (take 262016 (drop 128 m)) out ≡ true =
    and_from (leb 41088 (length (take 262016 (drop 128 m)))) (leb 131072 (length out))
    (le-leb 41088 (length (take 262016 (drop 128 m))) (omega (arith, length-take 262016 (drop 128 m), length-drop 128 m))) (le-leb 131072 (length out) lo) in
    let moves : Moves (served f.program (machine_in m) k (take 262016 (drop 128 m)) ev) r₁ k₁ bulk told out out₁ =
    subst (λ b. ServeSays b f.program (machine_in m) k (take 262016 (drop 128 m)) ev out told r₁ k₁ bulk out₁) fits says in
    let x : Moves (served f.program (machine_in m) (f.load (take 120 (drop 8 m))) (drop 128 m) ev) r₁ k₁ bulk told out out₁ =
    subst (λ j. Moves (served f.program (machine_in m) j (drop 128 m) ev) r₁ k₁ bulk told out out₁) ek
    (subst (λ xs. Moves (served f.program (machine_in m) k xs ev) r₁ k₁ bulk told out out₁) rest moves) in (
      assembled m mc sv bulk l lm ls lb
          ∙ (λ i. (em ∙ ap machine_cells x.machine_is) i ++ ((es ∙ ap f.save x.state_is) i ++ x.memory_is i)),
      x.act_is,
    )

-- lengths of the parts as they are cut
front_length : (m bulk : List ℕ) → length m ≡ 262144 → length (take 8 (put_mid 128 262016 m bulk)) ≡ 8
front_length m bulk l =
    length-take-le 8 (put_mid 128 262016 m bulk)
    (omega (arith, length-append (take 128 m) (bulk ++ drop 262016 (drop 128 m)), length-take-le 128 m (omega arith)))

middle_length : (m mc bulk : List ℕ) → length m ≡ 262144 → length mc ≡ 8 → length (take 120 (drop 8 (mc ++ drop 8 (put_mid 128 262016 m bulk)))) ≡ 120
middle_length m mc bulk l lm =
    ap (λ xs. length (take 120 xs)) (drop_at mc (drop 8 (put_mid 128 262016 m bulk)) 8 lm)
    ∙ length-take-le 120 (drop 8 (put_mid 128 262016 m bulk))
    (omega (arith, length-drop 8 (put_mid 128 262016 m bulk), length-append (take 128 m) (bulk ++ drop 262016 (drop 128 m)), length-take-le 128 m (omega arith)))

back_length : (m : List ℕ) → length m ≡ 262144 → length (take 262016 (drop 128 m)) ≡ 262016
back_length m l = length-take-le 262016 (drop 128 m) (omega (arith, length-drop 128 m))

pub returns : goal.returns
returns g c =
    let f = g.C.Client.housed in
    let m : List ℕ = c.args.memory.now in
    let out : List ℕ = c.args.out.now in
    let last = c.serve-told.new in
    let lm : length c.copy_from_slice-2.new.self ≡ 8 = c.copy_from_slice-2.ensures.len ∙ front_length m last.memory c.requires.0 in
    let x =
    whole_step f m (event_meant c.args.event) c.load.result c.copy_from_slice-2.new.self c.copy_from_slice-3.new.self out
    c.serve-told.result last.self.machine last.self.client last.memory last.out c.requires.0 c.requires.1
    (c.load.ensures ∙ ap g.C.Client.housed.load c.copy_from_slice.ensures.after)
    (subst
    (λ r. ServeSays (serve_fits (take 262016 (drop 128 m)) out) f.program r c.load.result (take 262016 (drop 128 m)) (event_meant c.args.event) out
    c.serve-told.result last.self.machine last.self.client last.memory last.out)
    c.load_machine.ensures c.serve-told.ensures)
    (c.copy_from_slice-2.ensures.after ∙ c.machine_cells.ensures) (c.copy_from_slice-3.ensures.after ∙ c.save.ensures) lm
    (c.copy_from_slice-3.ensures.len ∙ middle_length m c.copy_from_slice-2.new.self last.memory c.requires.0 lm)
    (c.serve-told.auto.memory ∙ back_length m c.requires.0) in
    record { memory = x.0; told = x.1 }
