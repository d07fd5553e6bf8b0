use Rattle.std.proofs.Common.{◌≡◌, ◌-◌, ◌<◌, None, get_or}
use Rattle.lagrange_bound.specs.Lesser.{least_entry, IsSmallPrice}
use Rattle.lagrange_bound.proofs.least_price.least_price.Given as goal

abbrev pub invariant-loop-k : goal.invariant-loop-k
invariant-loop-k l = record {
  value : l.best ≡ least_entry (λ k. get_or l.row k None) (l.fn.span.from - 1) (l.k - (l.fn.span.from - 1));
  small : IsSmallPrice l.best;
  start : l.fn.span.to < l.k → l.k ≡ l.fn.span.from - 1;
}
