use Rattle.std.proofs.Common.{◌≡◌, ◌+◌, ◌-◌, take}
use Rattle.command_rehearse.proofs.undoing.undo_on.Given as goal

abbrev pub invariant-loop-change : goal.invariant-loop-change
invariant-loop-change g l = record {
  instance : l.kept.instance ≡ l.fn.kept.instance;
  plans : l.kept.plans ≡ take (l.changes + 1 - l._change) l.fn.kept.plans;
}
