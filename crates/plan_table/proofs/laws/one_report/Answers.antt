use Rattle.plan_table.proofs.OneLemmas.{one_law}
use Rattle.plan_table.proofs.laws.one_report.Goals as goal

pub returns : goal.returns
returns c = one_law c.args.inst.now
