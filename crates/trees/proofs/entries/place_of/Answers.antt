use Rattle.std.proofs.Common.{◌≡◌, ◌<◌, ◌≤◌, [], length, take, get_or, true, false, ◌∙◌, rules}
use Rattle.pages.specs.Lists.{same}
use Rattle.trees.proofs.EntryLaws.{stops, there_at, there_past}
use Rattle.trees.proofs.entries.place_of.Goals as goal

pub returns-in-Some : goal.returns-in-Some
returns-in-Some c =
    let k = c.args.key.now in let es = c.args.entries.now in let at = c.unwrap_or-at.result in
    let h : at < length es = search rules in
    let e : same k (take 9 (get_or es at [])) ≡ true = search rules in
    (stops c.args.key.now es _ _ c.next_to.ensures c.unwrap_or-at.ensures, there_at k es at h ∙ e)

pub returns-in_default : goal.returns-in_default
returns-in_default c =
    let k = c.args.key.now in let es = c.args.entries.now in let at = c.unwrap_or-at.result in
    let h : at < length es = search rules in
    let e : same k (take 9 (get_or es at [])) ≡ false = search rules in
    (stops c.args.key.now es _ _ c.next_to.ensures c.unwrap_or-at.ensures, there_at k es at h ∙ e)

pub returns-in_default-2 : goal.returns-in_default-2
returns-in_default-2 c =
    let k = c.args.key.now in let es = c.args.entries.now in let at = c.unwrap_or-at.result in
    let h : length es ≤ at = search rules in
    (stops c.args.key.now es _ _ c.next_to.ensures c.unwrap_or-at.ensures, there_past k es at h)
