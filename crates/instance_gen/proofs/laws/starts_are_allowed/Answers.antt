use Rattle.instance_gen.proofs.FitLemmas.{names-count, starts-count, start-allowed}
use Rattle.instance_gen.proofs.laws.starts_are_allowed.Goals as goal

pub returns-clause-names : goal.returns-clause-names
returns-clause-names c = names-count

pub returns-clause-starts : goal.returns-clause-starts
returns-clause-starts c = starts-count

pub returns-clause-allowed : goal.returns-clause-allowed
returns-clause-allowed c = start-allowed
