use Rattle.std.proofs.Common.{ℕ, List, [], ◌++◌, get_or, drop, sym, ap, ◌∙◌, ap₂}
use Rattle.pages.specs.Device.{Page, half, page_at, set_page}
use Rattle.device.specs.Held.{brought, meant}
use Rattle.device.specs.Left.{code}
use Rattle.device.proofs.Holding.{set_is, set_past, page_is}
use Rattle.device.proofs.bring.Goals as goal

pub returns-then-write-pages : goal.returns-then-write-pages
unfolding half
returns-then-write-pages c =
    let ps : List Page = c.args.pages.now in
    let k : ℕ = c.args.write.now.at in
    set_is ps k (c.copy_from_slice.new.self ++ drop 256 (get_or ps k []))
    ∙ ap₂ (λ new old. set_page ps k (new ++ drop 256 old)) c.copy_from_slice.ensures.after (page_is ps k [] c.if-write-pages.true)
    ∙ sym (ap (λ l. brought ps (meant c.args.write.now) (code l)) c.in-FirstHalf.is)

pub returns-else-write-pages : goal.returns-else-write-pages
returns-else-write-pages c =
    let ps : List Page = c.args.pages.now in
    let k : ℕ = c.args.write.now.at in
    set_past ps k (half c.args.write.now.page (page_at ps k)) c.if-write-pages.false
    ∙ sym (ap (λ l. brought ps (meant c.args.write.now) (code l)) c.in-FirstHalf.is)
