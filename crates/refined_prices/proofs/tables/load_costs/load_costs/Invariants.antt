use Rattle.instance_model.specs.Tables.{tmax}
use Rattle.refined_prices.specs.tables.LoadCosts.{load_share}
use Rattle.refined_prices.proofs.TablesLoadCostLemmas.{AreCosts}
use Rattle.refined_prices.proofs.tables.load_costs.load_costs.Given as goal

abbrev pub invariant-loop-cell : goal.invariant-loop-cell
invariant-loop-cell l =
    AreCosts (load_share l.inst l.list) (tmax l.inst l.i) l.cell-index l.cell-items l.costs.items
