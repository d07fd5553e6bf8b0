use Rattle.std.proofs.Common.{◌≡◌, ◌*◌, ◌≤◌, [], get_or, unsigned_abs}
use Rattle.fixed_num.specs.Sums.{sum_below}
use Rattle.resource_bands.specs.Gaps.{row_gap}
use Rattle.resource_bands.proofs.rows.gap_of_rows.Given as goal

abbrev pub invariant-loop-c : goal.invariant-loop-c
invariant-loop-c l = record {
  value : l.gap ≡ sum_below l.c (λ d. row_gap l.inst d (get_or l.rows d []));
  small : unsigned_abs l.gap ≤ l.c * 10_000_000_000_000_000_000_000_000_000;
}
