use Rattle.std.proofs.Common.{◌≡◌, map, take}
use Rattle.refined_check.specs.Singles.{refined_of}
use Rattle.refined_text.proofs.versions.certificate.refined_lists.Given as goal

abbrev pub invariant-loop-prices : goal.invariant-loop-prices
invariant-loop-prices l = l.refined.items ≡ map (refined_of l.inst) (take l.prices-index l.lists)
