use Rattle.refined_prices.proofs.LimitLemmas.{LimitsAddNothing-from}
use Rattle.refined_prices.proofs.RefinedLaw.{RefinedListsAreLawful-from}
use Rattle.refined_prices.proofs.laws.refined_lists_are_lawful.Goals as goal

pub returns-clause-limits : goal.returns-clause-limits
returns-clause-limits g = LimitsAddNothing-from

pub returns-clause-lawful : goal.returns-clause-lawful
returns-clause-lawful g = RefinedListsAreLawful-from
