use Rattle.refined_text.proofs.VersionsWorthLemmas.{VersionsProveAlike-from, VersionsFailAlike-from}
use Rattle.refined_text.proofs.versions.laws.versions_hold_alike.Goals as goal

pub returns-clause-valid : goal.returns-clause-valid
returns-clause-valid c =
    VersionsProveAlike-from c.price_lists_are_refined.ensures c.same_worths_prove_the_same.ensures

pub returns-clause-first : goal.returns-clause-first
returns-clause-first c = VersionsFailAlike-from c.price_lists_are_refined.ensures c.same_worths_prove_the_same.ensures
