use Rattle.std.proofs.Common.{rules}
use Rattle.plan_desk.proofs.Appended.{say_on}
use Rattle.plan_desk.proofs.loops.say_all.Goals as goal

pub loop-said-preserved : goal.loop-said-preserved
loop-said-preserved g c =
    let d = g.D.Desk in
    record {
      within = search rules;
      said = say_on c.args.piece.now c.loop-said.said c.in_ok-said.field-0 (d.shows c.args.desk.now)
          (d.shows c.loop-said.desk) (d.shows c.say.new.self) c.loop-said.invariant.said c.in_ok-said.ensures.ok;
      same = search rules;
    }
