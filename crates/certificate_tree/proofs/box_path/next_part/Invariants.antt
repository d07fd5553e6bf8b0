use Rattle.std.proofs.Common.{◌≡◌, length, All, reverse, vec_len}
use Rattle.certificate_tree.specs.Walk.{IsChange, waiting_after}
use Rattle.certificate_tree.proofs.box_path.next_part.Given as goal

abbrev pub invariant-loop-change : goal.invariant-loop-change
invariant-loop-change l = record {
  same : waiting_after l.fn.spans (reverse l.fn.changes.items) ≡ waiting_after l.spans (reverse l.changes.items);
  changes : All (IsChange (length l.spans)) l.changes.items;
}

abbrev pub decreases-loop-change : goal.decreases-loop-change
decreases-loop-change l = vec_len l.changes
