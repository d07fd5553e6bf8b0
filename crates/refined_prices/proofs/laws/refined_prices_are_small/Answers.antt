use Rattle.refined_prices.proofs.SizeLemmas.{RefinedPricesAreSmall-from, RefinedConstantsAreSmall-from}
use Rattle.refined_prices.proofs.SizeLemmas.{RefinedWorthsFit-from, RefinedWorthsAreSmall-from}
use Rattle.refined_prices.proofs.laws.refined_prices_are_small.Goals as goal

pub returns-clause-prices : goal.returns-clause-prices
returns-clause-prices g = RefinedPricesAreSmall-from

pub returns-clause-constants : goal.returns-clause-constants
returns-clause-constants g = RefinedConstantsAreSmall-from

pub returns-clause-worths_fit : goal.returns-clause-worths_fit
returns-clause-worths_fit g = RefinedWorthsFit-from

pub returns-clause-worths : goal.returns-clause-worths
returns-clause-worths g = RefinedWorthsAreSmall-from
