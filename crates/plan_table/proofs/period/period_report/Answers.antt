use Rattle.plan_table.proofs.LineLemmas.{names_within}
use Rattle.plan_table.proofs.period.period_report.Goals as goal

pub returns-clause-names : goal.returns-clause-names
returns-clause-names c = names_within c.args.inst.now c.args.starts.now c.args.t c.report_on.result c.report_on.ensures
