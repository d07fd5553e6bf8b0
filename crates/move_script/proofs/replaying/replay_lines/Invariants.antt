use Rattle.std.proofs.Common.{◌≡◌, ◌+◌, ◌≤◌, length}
use Rattle.plan_desk.specs.Desk.{ShowsSame, after_say}
use Rattle.plan_moves.specs.KeptPlans.{present}
use Rattle.move_script.proofs.ReplayLemmas.{Reaches, text_to}
use Rattle.move_script.proofs.replaying.replay_lines.Given as goal

abbrev pub invariant-loop-i : goal.invariant-loop-i
invariant-loop-i g l =
    let shows = g.D.Desk.shows in
    record {
      instance : l.kept.instance ≡ l.fn.kept.instance;
      reached : Reaches l.fn.kept.instance (present l.fn.kept.plans) l.script l.i l.kept.plans;
      room : length l.script ≤ l.i + l.kept.spare;
      said : ShowsSame (shows l.desk)
          (after_say (text_to l.fn.kept.instance (present l.fn.kept.plans) l.script (l.i + 1)) (shows l.fn.desk));
      same : (shows l.desk).faults ≡ (shows l.fn.desk).faults;
    }
