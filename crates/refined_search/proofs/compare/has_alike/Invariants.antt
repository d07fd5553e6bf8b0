use Rattle.std.proofs.Common.{◌<◌, ℕ, get_or}
use Rattle.refined_prices.specs.RefinedLists.{RefinedList}
use Rattle.refined_search.specs.Alike.{PriceAlike}
use Rattle.refined_search.proofs.compare.has_alike.Given as goal

abbrev pub invariant-loop-other : goal.invariant-loop-other
invariant-loop-other l = (k : ℕ) (d : RefinedList) → k < l.other-index → PriceAlike l.inst (get_or l.lists k d) l.list → ⊥
