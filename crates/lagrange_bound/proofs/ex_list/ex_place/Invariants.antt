use Rattle.std.proofs.Common.{ℕ, ◌-◌, ◌≤◌, ◌<◌, length, get_or}
use Rattle.lagrange_bound.specs.declared.ex_price.ExPrice.{ExPrice}
use Rattle.lagrange_bound.specs.ExLists.{PairBefore}
use Rattle.lagrange_bound.proofs.ex_list.ex_place.Given as goal

abbrev pub invariant-loop-low : goal.invariant-loop-low
invariant-loop-low l = record {
  order : l.low ≤ l.high;
  within : l.high ≤ length l.ex;
  before : (j : ℕ) (d : ExPrice) → j < l.low → PairBefore (get_or l.ex j d).exclusion (get_or l.ex j d).period l.e l.t;
  after : (j : ℕ) (d : ExPrice) → l.high ≤ j → j < length l.ex
      → PairBefore l.e l.t (get_or l.ex j d).exclusion (get_or l.ex j d).period;
}

abbrev pub decreases-loop-low : goal.decreases-loop-low
decreases-loop-low l = l.high - l.low
