use Rattle.refined_prices.proofs.CliqueLemmas.{AtMostOneRuns-from, NamedTwiceNeverRuns-from}
use Rattle.refined_prices.proofs.laws.at_most_one_of_a_clique_runs.Goals as goal

pub returns-clause-one : goal.returns-clause-one
returns-clause-one c = AtMostOneRuns-from c.args.inst.now

pub returns-clause-named_twice : goal.returns-clause-named_twice
returns-clause-named_twice c = NamedTwiceNeverRuns-from c.args.inst.now
