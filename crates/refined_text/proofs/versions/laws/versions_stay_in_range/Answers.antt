use Rattle.refined_text.proofs.VersionsRangeLemmas.{VersionsStayInRange-from}
use Rattle.refined_text.proofs.versions.laws.versions_stay_in_range.Goals as goal

pub returns : goal.returns
returns c = VersionsStayInRange-from c.price_lists_are_refined.ensures
