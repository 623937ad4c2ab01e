use Rattle.std.proofs.Common.{◌≡◌, ◌<◌, ℕ, List, All, true, false, slice_index_or, rules, arith, subst}
use borrow.Author.Tests.{tests}
use Rattle.std.specs.BTreeSet as sorted
use Rattle.std.specs.BTreeSet.{BTreeSet}
use Rattle.std.specs.List.{filter, range_with_len}
use Rattle.std.specs.Ordering.{nat_cmp}
use Rattle.std.specs.Vec.{vec_len}
use Rattle.std.proofs.lemmas.Cmp.{nat_cmp_total}
use Rattle.std.proofs.lemmas.Iterator.{YieldsList-from_range}
use Rattle.std.proofs.lemmas.Iterator.Adapters.{fact_from_collect}
use Rattle.std.proofs.lemmas.Iterator.Consumers.{YieldsList-from_filter}
use Rattle.std.proofs.lemmas.List.Elements.{All-contains, All-filter, All-from_get_or, All-weaker}
use Rattle.std.proofs.lemmas.List.FromFn.{get_or-range_with_len, length-range_with_len}
use Rattle.std.proofs.lemmas.Map.Lookups.{exact_unsigned}
use Rattle.std.proofs.lemmas.Map.Views.{All-set_contains, btree_set_contains_from_list}
use Rattle.std.proofs.lemmas.Result.{IfOk-weaker}
use Rattle.plain.proofs.book.Book.back.Goals as goal

range_below : (n : ℕ) → All (λ k. k < n) (range_with_len 0 n)
range_below n = All-from_get_or (λ k. k < n) (range_with_len 0 n) 0 (λ i h.
    let i_below : i < n = subst (λ m. i < m) (length-range_with_len 0 n) h in
    rw (get_or-range_with_len 0 n i 0 i_below) (omega arith))

-- a set of numbers that are all below n
set_below : (n : ℕ) (xs : List ℕ) (s : BTreeSet ℕ) → All (λ k. k < n) xs → sorted.IsFromIterResult nat_cmp xs s → All (λ k. k < n) s.keys
set_below n xs s below made =
    All-weaker (λ k. sorted.contains nat_cmp s k ≡ true) (λ k. k < n)
    (λ k found. All-contains (λ k. k < n) xs k below ((btree_set_contains_from_list nat_cmp_total exact_unsigned xs s made k).0 found))
    s.keys (All-set_contains nat_cmp_total s)

pub returns : goal.returns
returns c =
    let n = vec_len c.args.self.now.commits in
    let marked : ℕ → _ = λ k. slice_index_or c.in_ok-marks.marks.items k false in
    let xs = filter marked (range_with_len 0 n) in
    IfOk-weaker c.collect.result (sorted.IsFromIterResult nat_cmp xs) _
    (λ s. set_below n xs s (All-filter marked (λ k. k < n) _ (range_below n)))
    (fact_from_collect (sorted.IsFromIterResult nat_cmp) c.collect.result c.collect.ensures.ran
    (YieldsList-from_filter _ marked (YieldsList-from_range 0 n n (cc) (omega arith)) c.filter.ensures.closure (λ x r q k. search (rules, tests))))
