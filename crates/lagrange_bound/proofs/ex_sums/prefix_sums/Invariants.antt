use Rattle.std.proofs.Common.{◌≡◌, ◌+◌, slice_index}
use Rattle.instance_model.specs.Naturals.{count_sum}
use Rattle.lagrange_bound.specs.ExSums.{ArePrefixes}
use Rattle.lagrange_bound.proofs.ex_sums.prefix_sums.Given as goal

abbrev pub invariant-loop-u : goal.invariant-loop-u
invariant-loop-u l = record {
  sum : l.sum ≡ count_sum l.u (λ v. slice_index l.numbers (l.from + v));
  prefixes : ArePrefixes l.u l.numbers l.from l.prefixes.items;
}
