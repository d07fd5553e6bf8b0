use Rattle.plan_roll.proofs.FitLaw.{tables_fit}
use Rattle.plan_roll.proofs.laws.rolled_tables_fit.Goals as goal

pub returns : goal.returns
returns c = tables_fit
