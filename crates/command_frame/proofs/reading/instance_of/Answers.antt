use Rattle.std.proofs.Common.{rules}
use Rattle.command_frame.specs.Sources.{source_view}
use Rattle.command_frame.proofs.ReadLemmas.{reads_instance, reads_faulty}
use Rattle.command_frame.proofs.reading.instance_of.Goals as goal

pub returns-in-Ok-clause-ok : goal.returns-in-Ok-clause-ok
returns-in-Ok-clause-ok g c =
    reads_instance (source_view c.args.source.now)
    (g.D.Desk.shows c.args.desk.now) c.args.limits.now c.from-slack.result c.in-Ok.inst (search rules)
    c.in-Ok.ensures.built

pub returns-in-Err-Text-clause-err : goal.returns-in-Err-Text-clause-err
returns-in-Err-Text-clause-err g c =
    reads_faulty c.args.source.now.instance.now
    (g.D.Desk.shows c.args.desk.now) c.args.limits.now c.in-Err-Text.fault
    (c.read_instance_from.ensures.fault c.in-Err-Text.fault (search rules))
