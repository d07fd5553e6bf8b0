use Rattle.std.proofs.Common.{◌≡◌, take}
use Rattle.band_rebound.proofs.certificate.copy_of.Given as goal

abbrev pub invariant-loop-prices : goal.invariant-loop-prices
invariant-loop-prices l = l.copy.items ≡ take l.prices-index l.lists
