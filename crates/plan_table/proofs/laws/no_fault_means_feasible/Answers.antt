use Rattle.plan_table.proofs.LawLemmas.{no_fault_law}
use Rattle.plan_table.proofs.laws.no_fault_means_feasible.Goals as goal

pub returns : goal.returns
returns c = no_fault_law c.args.inst.now
