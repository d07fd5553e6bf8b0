use Rattle.std.proofs.Common.{refl}
use Rattle.instance_writer.specs.Sinks.{Progress}
use Rattle.instance_writer.proofs.FileLemmas.{kept_more, still_failed}
use Rattle.instance_writer.proofs.file.OpenFileSink.put.Goals as goal

pub returns-then-self-clause-text : goal.returns-then-self-clause-text
returns-then-self-clause-text g c =
    let self = c.args.self.now in
    let old : Progress = record { shown = g.D.Desk.shows self.desk.now; kept = self.room; failed = self.failed } in
    (still_failed c.args.piece.now old old c.if-self.true c.if-self.true refl, refl)

pub returns-then-fits-clause-text : goal.returns-then-fits-clause-text
returns-then-fits-clause-text g c =
    let self = c.args.self.now in
    let shown = g.D.Desk.shows self.desk.now in
    let old : Progress = record { shown = shown; kept = self.room; failed = self.failed } in
    let new : Progress = record { shown = shown; kept = c.push.new.self; failed = self.failed } in
    (kept_more c.args.piece.now old new c.if-self.false c.if-self.false refl c.push.ensures, refl)

pub returns-else-fits-clause-ready : goal.returns-else-fits-clause-ready
returns-else-fits-clause-ready g c = c.write_out.ensures.opened

pub returns-else-fits-clause-text : goal.returns-else-fits-clause-text
returns-else-fits-clause-text g c = (c.write_out.ensures.text, c.write_out.ensures.same_reference)
