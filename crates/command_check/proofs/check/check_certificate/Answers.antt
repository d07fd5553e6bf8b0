-- What is due for `check`, where a file is refused, and where all were read.
use Rattle.std.specs.Prelude.{option_copied}
use Rattle.std.proofs.Common.{◌∙◌}
use Rattle.std.proofs.lemmas.Result.{err_from_is_err_and}
use Rattle.command_frame.specs.Sources.{source_view}
use Rattle.command_frame.specs.Ending.{reply}
use Rattle.command_frame.specs.Files.{reading, OnGiven}
use Rattle.command_frame.proofs.FileLemmas.{is_read}
use Rattle.command_frame.proofs.ReadLemmas.{kept_before, refuses_instance}
use Rattle.command_check.proofs.CheckReading.{OnChecked, check_refuses_plan, check_refuses_certificate, check_answers}
use Rattle.command_check.proofs.check.check_certificate.Goals as goal

pub returns-in_err-inst-clause-err : goal.returns-in_err-inst-clause-err
returns-in_err-inst-clause-err g c =
    let old = g.D.Desk.shows c.args.desk.now in
    let new = g.D.Desk.shows c.instance_of.new.desk in
    let p = err_from_is_err_and c.from_residual.result c.from_residual.ensures.1 in
    rw (p.1, p.2)
    (refuses_instance c.args.limits.now (source_view c.args.source.now) old new
    (λ i. OnGiven c.args.limits.now i (reading old new) 3 (option_copied c.args.plan)
    (OnChecked g.C.FileCertificate.kind c.args.limits.now c.args.certificate.now i old new)) _
    c.in_err-inst.ensures.err)

pub returns-in_err-plan-clause-err : goal.returns-in_err-plan-clause-err
returns-in_err-plan-clause-err g c =
    let old = g.D.Desk.shows c.args.desk.now in
    let mid = g.D.Desk.shows c.instance_of.new.desk in
    let p = err_from_is_err_and c.from_residual-in_err-plan.result c.from_residual-in_err-plan.ensures.1 in
    rw (p.1, p.2)
    (check_refuses_plan g.C.FileCertificate.kind c.args.limits.now (source_view c.args.source.now)
    (option_copied c.args.plan) c.args.certificate.now old mid
    (g.D.Desk.shows c.given_plan_of.new.desk) c.in_ok-inst.inst _ c.in_ok-inst.ensures.ok
    (is_read c.args.source.now.instance.now old mid c.in_ok-inst.ensures.read c.in_ok-inst.ensures.faults)
    c.in_err-plan.ensures.err)

pub returns-in_err-certificate-clause-err : goal.returns-in_err-certificate-clause-err
returns-in_err-certificate-clause-err g c =
    let old = g.D.Desk.shows c.args.desk.now in
    let mid = g.D.Desk.shows c.instance_of.new.desk in
    let last = g.D.Desk.shows c.given_plan_of.new.desk in
    let p = err_from_is_err_and c.from_residual-in_err-certificate.result
    c.from_residual-in_err-certificate.ensures.1 in
    rw (p.1, p.2)
    (check_refuses_certificate g.C.FileCertificate.kind c.args.limits.now (source_view c.args.source.now)
    (option_copied c.args.plan) c.args.certificate.now old mid last
    (g.D.Desk.shows c.certificate_of.new.desk) c.in_ok-inst.inst c.in_ok-plan.plan _ c.in_ok-inst.ensures.ok
    (is_read c.args.source.now.instance.now old mid c.in_ok-inst.ensures.read c.in_ok-inst.ensures.faults)
    c.in_ok-plan.ensures.ok c.in_ok-plan.ensures.faults c.in_ok-plan.ensures.read
    c.in_err-certificate.ensures.err)

pub returns-in_err-plan-clause-kept : goal.returns-in_err-plan-clause-kept
returns-in_err-plan-clause-kept g c =
    let p = err_from_is_err_and c.from_residual-in_err-plan.result c.from_residual-in_err-plan.ensures.1 in
    rw (p.1, p.2)
    (kept_before (g.D.Desk.shows c.args.desk.now) (g.D.Desk.shows c.instance_of.new.desk)
    (g.D.Desk.shows c.given_plan_of.new.desk) _ c.in_ok-inst.ensures.faults c.in_err-plan.ensures.kept)

pub returns-in_err-certificate-clause-kept : goal.returns-in_err-certificate-clause-kept
returns-in_err-certificate-clause-kept g c =
    let p = err_from_is_err_and c.from_residual-in_err-certificate.result
    c.from_residual-in_err-certificate.ensures.1 in
    rw (p.1, p.2)
    (kept_before (g.D.Desk.shows c.args.desk.now) (g.D.Desk.shows c.given_plan_of.new.desk)
    (g.D.Desk.shows c.certificate_of.new.desk) _ (c.in_ok-plan.ensures.faults ∙ c.in_ok-inst.ensures.faults)
    c.in_err-certificate.ensures.kept)

pub returns-in-Ok-clause-ok : goal.returns-in-Ok-clause-ok
returns-in-Ok-clause-ok g c =
    let old = g.D.Desk.shows c.args.desk.now in
    let mid = g.D.Desk.shows c.instance_of.new.desk in
    let last = g.D.Desk.shows c.given_plan_of.new.desk in
    check_answers g.C.FileCertificate.kind c.args.limits.now (source_view c.args.source.now)
    (option_copied c.args.plan) c.args.certificate.now old mid last
    (g.D.Desk.shows c.certificate_of.new.desk) c.in_ok-inst.inst c.in_ok-plan.plan c.in_ok-certificate.certificate
    (reply c.in-Ok.report.status c.in-Ok.report.text) c.in_ok-inst.ensures.ok
    (is_read c.args.source.now.instance.now old mid c.in_ok-inst.ensures.read c.in_ok-inst.ensures.faults)
    c.in_ok-plan.ensures.ok
    c.in_ok-plan.ensures.faults c.in_ok-plan.ensures.read c.in_ok-certificate.ensures.ok c.in-Ok.ensures
