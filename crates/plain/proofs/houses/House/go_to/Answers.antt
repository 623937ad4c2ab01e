use Rattle.std.proofs.Common.{◌≡◌, not, sym, ap, ◌∙◌, rules}
use Rattle.pages.specs.Lists.{none_of}
use Rattle.house.specs.House.{clean, ref_of}
use Rattle.plain.specs.Files.{book_of, house_of, one}
use Rattle.plain.specs.Replies.{of_going}
use Rattle.plain.proofs.FileLaws.{found_name, none_name}
use Rattle.plain.proofs.houses.House.go_to.Goals as goal

pub returns-in_err-of_going : goal.returns-in_err-of_going
returns-in_err-of_going c =
    let x = c.args.self.now in
    let missing = none_name c.copied-there.result c.is_none.result c.is_none.ensures
    ∙ ap none_of (ap one c.copied-there.ensures ∙ found_name c.args.name.now x.branches.entries c.get.result c.get.ensures.value) in
    let e : of_going c.is_none.result (not c.is_unchanged.result) ≡ of_going (none_of (ref_of (house_of x).branches c.args.name.now)) (not (clean (book_of c.args.book.now) (house_of x))) =
    ap (λ b. of_going b (not c.is_unchanged.result)) missing ∙ ap (λ b. of_going (none_of (ref_of (house_of x).branches c.args.name.now)) (not b)) c.is_unchanged.ensures in
    rw (← e) (search rules)

pub returns : goal.returns
returns c =
    let x = c.args.self.now in
    let missing = none_name c.copied-there.result c.is_none.result c.is_none.ensures
    ∙ ap none_of (ap one c.copied-there.ensures ∙ found_name c.args.name.now x.branches.entries c.get.result c.get.ensures.value) in
    let done : of_going c.is_none.result (not c.is_unchanged.result) ≡ 0 = search rules in
    sym (ap (λ b. of_going b (not c.is_unchanged.result)) missing ∙ ap (λ b. of_going (none_of (ref_of (house_of x).branches c.args.name.now)) (not b)) c.is_unchanged.ensures) ∙ done
