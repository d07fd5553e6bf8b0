use Rattle.std.proofs.Common.{◌-◌, length, subst, IfOk}
use Rattle.std.specs.Prelude.{option_map}
use Rattle.certificate_tree.specs.PriceTables.{table_worths}
use Rattle.branch_search.specs.declared.part.Part.{Part}
use Rattle.branch_search.specs.Parts.{IsGoneOnBy}
use Rattle.branch_search.proofs.searching.go_on.Goals as goal

pub returns-clause-gone_on : goal.returns-clause-gone_on
returns-clause-gone_on g c = subst (λ (p : Part). IfOk c.go_on_part.result
    (IsGoneOnBy (g.G.Goal.value_gives c.args.goal.now) c.args.inst.now (length c.args.tables.now - 1)
    (table_worths c.args.tables.now) (option_map (λ given. given.now) c.args.incumbent) c.args.nodes.now p
    c.args.turns)) c.whole.ensures c.go_on_part.ensures.gone_on
