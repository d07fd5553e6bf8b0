use Rattle.std.proofs.Common.{refl}
use Rattle.plan_desk.specs.Written.Way.{writing}
use Rattle.plan_desk.proofs.Written.{respelled}
use Rattle.instance_writer.specs.Sinks.{Progress}
use Rattle.instance_writer.proofs.FileLemmas.{ends_failed, ends_good}
use Rattle.instance_writer.proofs.file.OpenFile.end.Goals as goal

pub returns-then-self-clause-text : goal.returns-then-self-clause-text
returns-then-self-clause-text g c =
    let self = c.args.self.now in
    let old : Progress = record { shown = g.D.Desk.shows self.desk.now; kept = self.room; failed = self.failed } in
    ends_failed {T = Unit {0}} self.failed old old.shown _ c.if-self.true refl refl

pub returns-clause-text : goal.returns-clause-text
returns-clause-text g c =
    let self = c.args.self.now in
    let old : Progress = record { shown = g.D.Desk.shows self.desk.now; kept = self.room; failed = self.failed } in
    ends_good self.failed old (g.D.Desk.shows c.write_all.new.desk) c.write_all.result c.if-self.false
    (respelled writing c.bytes.ensures c.write_all.ensures)
