use Rattle.plan_table.proofs.LawLemmas.{shares_law}
use Rattle.plan_table.proofs.laws.values_are_shares.Goals as goal

pub returns : goal.returns
returns c = shares_law c.args.inst.now
