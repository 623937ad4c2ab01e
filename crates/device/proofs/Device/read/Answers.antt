use Rattle.std.proofs.Common.{◌≡◌, ◌≤◌, Option, Some, None, length, sym, subst}
use Rattle.std.specs.Borrow.{Bor}
use Rattle.std.specs.Option.{MatchOption, option_copied}
use Rattle.pages.specs.Device.{Page, read_page}
use Rattle.device.proofs.Device.read.Goals as goal

copied_as : {X : Type 0} (o : Option (Bor X)) (A : Type 0) (P : X → Type 0) → MatchOption o A (λ x. P x.now) → MatchOption (option_copied o) A P
copied_as None A P h = h
copied_as (Some x) A P h = h

pub returns : goal.returns
returns c =
    let d = c.args.self.now in
    subst (λ r. MatchOption r (length d.pages ≤ c.args.at) (λ page. page ≡ read_page d c.args.at)) (sym c.copied.ensures)
    (copied_as c.page.result (length d.pages ≤ c.args.at) (λ (page : Page). page ≡ read_page d c.args.at) c.page.ensures)
