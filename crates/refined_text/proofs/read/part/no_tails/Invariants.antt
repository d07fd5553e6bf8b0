use Rattle.std.proofs.Common.{◌≡◌, None, replicate}
use Rattle.refined_text.proofs.read.part.no_tails.Given as goal

abbrev pub invariant-loop-t : goal.invariant-loop-t
invariant-loop-t l = l.tails.items ≡ replicate l._t None
