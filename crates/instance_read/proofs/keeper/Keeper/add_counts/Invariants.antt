use Rattle.std.proofs.Common.{◌≡◌, take}
use Rattle.instance_read.specs.Keeping.{keep_counts}
use Rattle.instance_read.specs.Keepers.{kept_of}
use Rattle.instance_read.proofs.keeper.Keeper.add_counts.Given as goal

abbrev pub invariant-counts : goal.invariant-counts
invariant-counts l = kept_of l.self ≡ keep_counts l.spot (take l.count-index l.counts) (kept_of l.initial.self)
