use Rattle.std.proofs.Common.{◌≡◌, ◌-◌, ◌≤◌, length, take}
use Rattle.plan_desk.specs.Desk.{ShowsSame, after_write}
use Rattle.plan_desk.proofs.loops.write_all.Given as goal

abbrev pub invariant-loop-written : goal.invariant-loop-written
invariant-loop-written g l =
    let d = g.D.Desk in
    record {
      within : l.written ≤ length l.piece;
      written : ShowsSame (d.shows l.desk) (after_write (take l.written l.piece) (d.shows l.fn.desk));
      same : (d.shows l.desk).faults ≡ (d.shows l.fn.desk).faults;
    }

abbrev pub decreases-loop-written : goal.decreases-loop-written
decreases-loop-written g l = length l.piece - l.written
