use Rattle.std.proofs.Common.{take}
use Rattle.refined_text.specs.text.Text.{group_lines}
use Rattle.refined_text.proofs.TextWriteLemmas.{HasLines}
use Rattle.refined_text.proofs.text.entries.write_tails.Given as goal

abbrev pub invariant-loop-u : goal.invariant-loop-u
invariant-loop-u g l =
    HasLines (group_lines 1 (take l.u l.list.tails)) (g.D.Desk.shows l.fn.desk) (g.D.Desk.shows l.desk)
