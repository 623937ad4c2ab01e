use Rattle.std.proofs.Common.{◌≡◌, ℕ, ◌<◌, ◌≤◌, leb, List, length, take, sym, ◌∙◌, subst}
use Rattle.std.proofs.lemmas.Bool.{le-leb, lt-leb}
use Rattle.pages.specs.Lists.{zeros}
use Rattle.pages.proofs.ListLaws.{pick_true, pick_false}
use Rattle.device.specs.Held.{front_page}
use Rattle.device.proofs.desk.Desk.page.Goals as goal

long : (row page : List ℕ) → 512 ≤ length row → page ≡ take 512 row → page ≡ front_page row
long row page h e = e ∙ sym (pick_true (leb 512 (length row)) (take 512 row) (zeros 512) (le-leb 512 (length row) h))

short : (row : List ℕ) → length row < 512 → zeros 512 ≡ front_page row
short row h = sym (pick_false (leb 512 (length row)) (take 512 row) (zeros 512) (lt-leb 512 (length row) h))

pub returns-in-Some : goal.returns-in-Some
returns-in-Some c =
    subst (λ row. c.in-Some.page.now ≡ front_page row) c.deref.ensures.value
    (long c.deref.result.now c.in-Some.page.now c.in-Some.ensures.cases.enough c.in-Some.ensures.cases.same)

pub returns-in-None : goal.returns-in-None
unfolding zeros
returns-in-None c = short c.args.self.now.out.items (subst (λ row. length row < 512) c.deref.ensures.value c.in-None.ensures.cases)
