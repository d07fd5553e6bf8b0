use Rattle.std.proofs.Common.{◌≡◌, ◌-◌, ◌≤◌, length, take}
use Rattle.plan_desk.specs.Desk.{ShowsSame, after_say}
use Rattle.plan_desk.proofs.loops.say_all.Given as goal

abbrev pub invariant-loop-said : goal.invariant-loop-said
invariant-loop-said g l =
    let d = g.D.Desk in
    record {
      within : l.said ≤ length l.piece;
      said : ShowsSame (d.shows l.desk) (after_say (take l.said l.piece) (d.shows l.fn.desk));
      same : (d.shows l.desk).faults ≡ (d.shows l.fn.desk).faults;
    }

abbrev pub decreases-loop-said : goal.decreases-loop-said
decreases-loop-said g l = length l.piece - l.said
