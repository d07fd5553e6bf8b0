use Rattle.std.proofs.Common.{[], ◌++◌, List, ℕ, Result, true, refl, ap, subst}
use Rattle.plan_desk.specs.declared.call.Failed.{Failed}
use Rattle.plan_desk.specs.Written.{PutsText}
use Rattle.plan_desk.specs.Written.Way.{writing}
use Rattle.plan_desk.proofs.Written.{respelled}
use Rattle.instance_writer.specs.Sinks.{Progress}
use Rattle.instance_writer.proofs.FileLemmas.{open_after, all_written, write_failed}
use Rattle.instance_writer.proofs.file.OpenFile.write_out.Goals as goal

pub returns-in-Ok-clause-opened : goal.returns-in-Ok-clause-opened
returns-in-Ok-clause-opened g c = open_after _ _ _ c.write_pieces.result c.write_pieces.ensures c.requires.opened

pub returns-in-Ok-clause-text : goal.returns-in-Ok-clause-text
returns-in-Ok-clause-text g c =
    let self = c.args.self.now in
    let old : Progress = record { shown = g.D.Desk.shows self.desk.now; kept = self.room; failed = self.failed } in
    let new : Progress =
    record { shown = g.D.Desk.shows c.write_pieces.new.desk; kept = c.clear.new.self; failed = self.failed } in
    all_written c.args.piece.now old new {x = c.in-Ok.field-0} c.requires.good c.requires.good c.clear.ensures
    (respelled writing (ap (λ (l : List ℕ). l ++ (c.args.piece.now ++ [])) c.bytes.ensures)
    (subst (λ (r : Result (Unit {0}) Failed).
    PutsText writing (c.bytes.result.now ++ (c.args.piece.now ++ [])) old.shown new.shown r) c.in-Ok.is
    c.write_pieces.ensures))

pub returns-in-Err-clause-opened : goal.returns-in-Err-clause-opened
returns-in-Err-clause-opened g c = open_after _ _ _ c.write_pieces.result c.write_pieces.ensures c.requires.opened

pub returns-in-Err-clause-text : goal.returns-in-Err-clause-text
returns-in-Err-clause-text g c =
    let self = c.args.self.now in
    let old : Progress = record { shown = g.D.Desk.shows self.desk.now; kept = self.room; failed = self.failed } in
    let new : Progress =
    record { shown = g.D.Desk.shows c.write_pieces.new.desk; kept = self.room; failed = true } in
    write_failed c.args.piece.now old new {T = Unit {0}} {e = c.in-Err.field-0} c.requires.good refl
    (respelled writing (ap (λ (l : List ℕ). l ++ (c.args.piece.now ++ [])) c.bytes.ensures)
    (subst (λ (r : Result (Unit {0}) Failed).
    PutsText writing (c.bytes.result.now ++ (c.args.piece.now ++ [])) old.shown new.shown r) c.in-Err.is
    c.write_pieces.ensures))
