use Rattle.std.proofs.Common.{◌≡◌, take}
use Rattle.certificate_tree.specs.Holding.{first_starts}
use Rattle.certificate_check.proofs.point.starts_of.Given as goal

abbrev pub invariant-loop-span : goal.invariant-loop-span
invariant-loop-span l = l.starts.items ≡ first_starts (take l.span-index l.spans)
