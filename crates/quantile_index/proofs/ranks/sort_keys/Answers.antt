use Rattle.std.proofs.Common.{to_z, of_z}
use Rattle.std.specs.Int.{w128}
use Rattle.std.proofs.lemmas.List.Sorted.{IsPermutation-map}
use Rattle.quantile_index.specs.SortKeys.{key_above}
use Rattle.quantile_index.proofs.KeyLemmas.{sorted_above}
use Rattle.quantile_index.proofs.ranks.sort_keys.Goals as goal

pub returns-then-narrow_keys-clause-permutation : goal.returns-then-narrow_keys-clause-permutation
returns-then-narrow_keys-clause-permutation c =
    rw (c.if-narrow_keys.ensures.above, c.widen_keys.ensures)
    (IsPermutation-map (key_above (to_z w128 (of_z w128 c.least_of-least.result))) c.narrow_keys.new.narrow
    c.sort_unstable.new.self c.sort_unstable.ensures.permutation)

pub returns-then-narrow_keys-clause-sorted : goal.returns-then-narrow_keys-clause-sorted
returns-then-narrow_keys-clause-sorted c =
    rw c.widen_keys.ensures
    (sorted_above (to_z w128 (of_z w128 c.least_of-least.result)) c.sort_unstable.new.self
    c.sort_unstable.ensures.sorted)
