use Rattle.std.proofs.Common.{rules}
use Rattle.plan_desk.specs.Written.{PutsText}
use Rattle.plan_desk.specs.Written.Way.{writing}
use Rattle.instance_writer.specs.text.Styles.{decimals}
use Rattle.instance_writer.specs.text.Written.{instance_text}
use Rattle.instance_writer.specs.Sinks.{Progress}
use Rattle.instance_writer.proofs.FileLemmas.{whole_written, seen_as}
use Rattle.instance_writer.proofs.write.write_instance.Goals as goal

pub returns : goal.returns
returns g c =
    let text = instance_text decimals (g.V.InstanceView.tables c.args.view.now) in
    let file = c.new-file.result in
    let sink = c.put_instance.new.sink in
    let begun : Progress = record { shown = g.D.Desk.shows file.desk.now; kept = file.room; failed = file.failed } in
    let taken : Progress = record { shown = g.D.Desk.shows sink.desk.now; kept = sink.room; failed = sink.failed } in
    let puts : PutsText writing text begun.shown (g.D.Desk.shows c.end.new.self.desk.now) c.end.result =
    whole_written text begun taken (g.D.Desk.shows c.end.new.self.desk.now) c.end.result c.new-file.ensures.failed
    c.new-file.ensures.kept c.put_instance.ensures.text.0 c.end.ensures.text in
    seen_as g.D.Desk.shows text c.end.result c.new-file.ensures.shown (search rules) puts
