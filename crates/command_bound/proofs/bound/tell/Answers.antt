use Rattle.std.proofs.Common.{List, ℕ, arith, subst, ◌≤◌, ◌^◌, length}
use Rattle.refined_text.specs.text.Text.{refined_text}
use Rattle.command_frame.specs.Refusals.{SaysOrFails}
use Rattle.command_bound.proofs.MadeLemmas.{counted_above, counted_within, long_told, written_told, unwritten_told}
use Rattle.command_bound.proofs.bound.tell.Goals as goal

pub text_length-requires : goal.text_length-requires
text_length-requires g c = rw c.from_refined-cert.ensures c.requires.made.within.is.in_range

pub put_certificate-requires : goal.put_certificate-requires
put_certificate-requires g c = rw c.from_refined-cert.ensures (record { in_range = c.requires.made.within.is.in_range })

pub returns-then-limits-text_length : goal.returns-then-limits-text_length
returns-then-limits-text_length g c =
    let files = c.args.files.now in
    let made = c.args.made in
    let limits = c.args.limits.now in
    long_told limits files.inst files.plan files.cert c.args.out.now c.args.turns c.args.part made c.requires.made
    (g.D.Desk.shows c.args.desk.now) (g.D.Desk.shows c.refuse_long.new.desk) c.refuse_long.result
    (counted_above (length (refined_text files.inst made.raised.cert)) c.text_length.result limits.certificate_bytes
    (rw c.from_refined-cert.ensures at c.text_length.ensures) (omega (arith, c.if-limits-text_length.true)))
    c.refuse_long.ensures.keeps c.refuse_long.ensures.ends

pub returns-in-Ok : goal.returns-in-Ok
returns-in-Ok g c =
    let files = c.args.files.now in
    let made = c.args.made in
    let limits = c.args.limits.now in
    let mid = g.D.Desk.shows c.put_certificate.new.desk in
    let new = g.D.Desk.shows c.say.new.desk in
    let most : limits.certificate_bytes ≤ 2 ^ 32 = omega (arith, c.requires.bytes) in
    written_told limits files.inst files.plan files.cert c.args.out.now c.args.turns c.args.part made c.requires.made
    (g.D.Desk.shows c.args.desk.now) mid new c.say.result
    (counted_within (length (refined_text files.inst made.raised.cert)) c.text_length.result limits.certificate_bytes
    (rw c.from_refined-cert.ensures at c.text_length.ensures) most (omega (arith, c.if-limits-text_length.false)))
    (rw c.from_refined-cert.ensures at c.in-Ok.ensures) c.say.ensures.keeps
    (subst (λ (text : List ℕ). SaysOrFails made.report.status text mid new c.say.result) c.as_slice.ensures
    c.say.ensures.ends)

pub returns : goal.returns
returns g c =
    let files = c.args.files.now in
    let made = c.args.made in
    let limits = c.args.limits.now in
    let most : limits.certificate_bytes ≤ 2 ^ 32 = omega (arith, c.requires.bytes) in
    unwritten_told limits files.inst files.plan files.cert c.args.out.now c.args.turns c.args.part made c.requires.made
    (g.D.Desk.shows c.args.desk.now) (g.D.Desk.shows c.put_certificate.new.desk)
    (g.D.Desk.shows c.say_numbered.new.desk) c.say_numbered.result
    (counted_within (length (refined_text files.inst made.raised.cert)) c.text_length.result limits.certificate_bytes
    (rw c.from_refined-cert.ensures at c.text_length.ensures) most (omega (arith, c.if-limits-text_length.false)))
    (rw c.from_refined-cert.ensures at c.in-Err.ensures) c.say_numbered.ensures.keeps c.say_numbered.ensures.ends
