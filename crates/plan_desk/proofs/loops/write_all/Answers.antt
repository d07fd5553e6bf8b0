use Rattle.std.proofs.Common.{rules}
use Rattle.plan_desk.proofs.Appended.{write_on, write_none}
use Rattle.plan_desk.proofs.loops.write_all.Goals as goal

pub loop-written-preserved : goal.loop-written-preserved
loop-written-preserved g c =
    let d = g.D.Desk in
    record {
      within = search rules;
      written = write_on c.args.piece.now c.loop-written.written c.in_ok-written.field-0 (d.shows c.args.desk.now)
          (d.shows c.loop-written.desk) (d.shows c.write.new.self) c.loop-written.invariant.written
          c.in_ok-written.ensures.ok;
      same = search rules;
    }

pub loop-written-init : goal.loop-written-init
loop-written-init g c = record {
  within = search rules;
  written = write_none (g.D.Desk.shows c.args.desk.now);
  same = search rules;
}
