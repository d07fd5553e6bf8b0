use Rattle.refined_check.proofs.SingleLists.{PriceListsAreRefined-from}
use Rattle.refined_check.proofs.laws.price_lists_are_refined.Goals as goal

pub returns : goal.returns
returns g = PriceListsAreRefined-from
