use Rattle.std.proofs.Common.{List, ℕ, arith, subst, ◌≤◌, ◌^◌, length}
use Rattle.command_frame.specs.Refusals.{SaysOrFails}
use Rattle.command_rebound.specs.Made.TellsNew.{long}
use Rattle.command_rebound.proofs.MakingLemmas.{counted_above, counted_within, written_new, unwritten_new}
use Rattle.command_rebound.proofs.rebound.tell_new.Goals as goal

pub returns-then-limits-text_length : goal.returns-then-limits-text_length
returns-then-limits-text_length g c =
    let text = g.C.FileCertificate.kind.text c.args.inst.now c.args.cert.now in
    long
    (counted_above (length text) c.text_length.result c.args.limits.now.certificate_bytes c.text_length.ensures
    (omega (arith, c.if-limits-text_length.true)))
    c.refuse_long.ensures.keeps c.refuse_long.ensures.ends

pub returns-in-Ok : goal.returns-in-Ok
returns-in-Ok g c =
    let kind = g.C.FileCertificate.kind in
    let inst = c.args.inst.now in
    let cert = c.args.cert.now in
    let limits = c.args.limits.now in
    let mid = g.D.Desk.shows c.put_certificate.new.desk in
    let new = g.D.Desk.shows c.say.new.desk in
    let most : limits.certificate_bytes ≤ 2 ^ 32 = omega (arith, c.requires.bytes) in
    written_new kind limits inst cert c.args.out.now c.args.report.now (g.D.Desk.shows c.args.desk.now) mid new
    c.say.result
    (counted_within (length (kind.text inst cert)) c.text_length.result limits.certificate_bytes
    c.text_length.ensures most (omega (arith, c.if-limits-text_length.false)))
    c.in-Ok.ensures c.say.ensures.keeps
    (subst (λ (text : List ℕ). SaysOrFails 0 text mid new c.say.result) c.as_slice.ensures c.say.ensures.ends)

pub returns-in-Err : goal.returns-in-Err
returns-in-Err g c =
    let kind = g.C.FileCertificate.kind in
    let inst = c.args.inst.now in
    let cert = c.args.cert.now in
    let limits = c.args.limits.now in
    let most : limits.certificate_bytes ≤ 2 ^ 32 = omega (arith, c.requires.bytes) in
    unwritten_new kind limits inst cert c.args.out.now c.args.report.now (g.D.Desk.shows c.args.desk.now)
    (g.D.Desk.shows c.put_certificate.new.desk) (g.D.Desk.shows c.say_numbered.new.desk) c.say_numbered.result
    (counted_within (length (kind.text inst cert)) c.text_length.result limits.certificate_bytes
    c.text_length.ensures most (omega (arith, c.if-limits-text_length.false)))
    c.in-Err.ensures c.say_numbered.ensures.keeps c.say_numbered.ensures.ends
