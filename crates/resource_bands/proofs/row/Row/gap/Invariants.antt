use Rattle.std.proofs.Common.{◌≡◌, ◌+◌, ◌*◌, ◌≤◌, pos, get_or, unsigned_abs}
use Rattle.fixed_num.specs.Sums.{sum_below}
use Rattle.resource_bands.specs.Gaps.{gap_at}
use Rattle.resource_bands.proofs.row.Row.gap.Given as goal

abbrev pub invariant-loop-u : goal.invariant-loop-u
invariant-loop-u l = record {
  value : l.sum ≡ sum_below l.u (λ v. gap_at l.inst l.c (v + 1) (get_or l.self v (pos 0)));
  small : unsigned_abs l.sum ≤ l.u * 1_000_000_000_000_000_000_000_000;
}
