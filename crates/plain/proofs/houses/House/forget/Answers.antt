use Rattle.std.proofs.Common.{◌≡◌, not, sym, ap, ◌∙◌, rules}
use Rattle.pages.specs.Lists.{none_of, same}
use Rattle.house.specs.House.{ref_of}
use Rattle.plain.specs.Files.{house_of}
use Rattle.plain.specs.Replies.{of_forgetting}
use Rattle.plain.proofs.FileLaws.{missing_name, same_name}
use Rattle.plain.proofs.houses.House.forget.Goals as goal

pub returns-in_err-of_forgetting : goal.returns-in_err-of_forgetting
returns-in_err-of_forgetting c =
    let x = c.args.self.now in
    let missing = missing_name c.args.name.now x.branches.entries c.contains_key-missing.result c.contains_key-missing.ensures in
    let here = same_name x.here.items c.args.name.now c.as_slice.result.now c.eq.result c.eq.ensures c.as_slice.ensures.value in
    let e : of_forgetting (not c.contains_key-missing.result) c.eq.result ≡ of_forgetting (none_of (ref_of (house_of x).branches c.args.name.now)) (same c.args.name.now x.here.items) =
    ap (λ b. of_forgetting b c.eq.result) missing ∙ ap (λ b. of_forgetting (none_of (ref_of (house_of x).branches c.args.name.now)) b) here in
    rw (← e) (search rules)

pub returns : goal.returns
returns c =
    let x = c.args.self.now in
    let missing = missing_name c.args.name.now x.branches.entries c.contains_key-missing.result c.contains_key-missing.ensures in
    let here = same_name x.here.items c.args.name.now c.as_slice.result.now c.eq.result c.eq.ensures c.as_slice.ensures.value in
    let done : of_forgetting (not c.contains_key-missing.result) c.eq.result ≡ 0 = search rules in
    sym (ap (λ b. of_forgetting b c.eq.result) missing ∙ ap (λ b. of_forgetting (none_of (ref_of (house_of x).branches c.args.name.now)) b) here) ∙ done
