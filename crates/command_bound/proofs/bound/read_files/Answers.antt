-- What is due for `bound`, where a file is refused, and where all were read.
use Rattle.std.specs.Prelude.{option_copied}
use Rattle.std.proofs.Common.{◌∙◌}
use Rattle.std.proofs.lemmas.Result.{err_from_is_err_and}
use Rattle.command_frame.specs.Sources.{source_view}
use Rattle.command_frame.specs.Files.{reading, OnGiven}
use Rattle.command_frame.proofs.FileLemmas.{is_read}
use Rattle.command_frame.proofs.ReadLemmas.{kept_before, refuses_instance}
use Rattle.command_bound.proofs.ReadingLemmas.{OnOld, refuses_plan, refuses_certificate, are_read}
use Rattle.command_bound.proofs.bound.read_files.Goals as goal

pub returns-in_err-inst-clause-err : goal.returns-in_err-inst-clause-err
returns-in_err-inst-clause-err g c =
    let old = g.D.Desk.shows c.args.desk.now in
    let new = g.D.Desk.shows c.instance_of.new.desk in
    let limits = c.args.limits.now in
    let cert = option_copied c.args.certificate in
    let p = err_from_is_err_and c.from_residual.result c.from_residual.ensures.1 in
    rw (p.1, p.2)
    (λ out turns part. refuses_instance limits (source_view c.args.source.now) old new
    (λ i. OnGiven limits i (reading old new) 3 (option_copied c.args.plan)
    (OnOld limits cert out turns part i old new)) _
    c.in_err-inst.ensures.err)

pub returns-in_err-plan-clause-err : goal.returns-in_err-plan-clause-err
returns-in_err-plan-clause-err g c =
    let old = g.D.Desk.shows c.args.desk.now in
    let mid = g.D.Desk.shows c.instance_of.new.desk in
    let p = err_from_is_err_and c.from_residual-in_err-plan.result c.from_residual-in_err-plan.ensures.1 in
    rw (p.1, p.2)
    (λ out turns part. refuses_plan c.args.limits.now (source_view c.args.source.now) (option_copied c.args.plan)
    (option_copied c.args.certificate) out turns part old mid (g.D.Desk.shows c.given_plan_of.new.desk)
    c.in_ok-inst.inst _
    c.in_ok-inst.ensures.ok
    (is_read c.args.source.now.instance.now old mid c.in_ok-inst.ensures.read c.in_ok-inst.ensures.faults)
    c.in_err-plan.ensures.err)

pub returns-in_err-plan-clause-kept : goal.returns-in_err-plan-clause-kept
returns-in_err-plan-clause-kept g c =
    let p = err_from_is_err_and c.from_residual-in_err-plan.result c.from_residual-in_err-plan.ensures.1 in
    rw (p.1, p.2)
    (kept_before (g.D.Desk.shows c.args.desk.now) (g.D.Desk.shows c.instance_of.new.desk)
    (g.D.Desk.shows c.given_plan_of.new.desk) _ c.in_ok-inst.ensures.faults c.in_err-plan.ensures.kept)

pub returns-in_err-cert-clause-err : goal.returns-in_err-cert-clause-err
returns-in_err-cert-clause-err g c =
    let old = g.D.Desk.shows c.args.desk.now in
    let mid = g.D.Desk.shows c.instance_of.new.desk in
    let last = g.D.Desk.shows c.given_plan_of.new.desk in
    let p = err_from_is_err_and c.from_residual-in_err-cert.result c.from_residual-in_err-cert.ensures.1 in
    rw (p.1, p.2)
    (λ out turns part. refuses_certificate c.args.limits.now (source_view c.args.source.now) (option_copied c.args.plan)
    (option_copied c.args.certificate) out turns part old mid last (g.D.Desk.shows c.given_certificate_of.new.desk)
    c.in_ok-inst.inst c.in_ok-plan.plan _ c.in_ok-inst.ensures.ok
    (is_read c.args.source.now.instance.now old mid c.in_ok-inst.ensures.read c.in_ok-inst.ensures.faults)
    c.in_ok-plan.ensures.ok c.in_ok-plan.ensures.faults c.in_ok-plan.ensures.read c.in_err-cert.ensures.err)

pub returns-in_err-cert-clause-kept : goal.returns-in_err-cert-clause-kept
returns-in_err-cert-clause-kept g c =
    let p = err_from_is_err_and c.from_residual-in_err-cert.result c.from_residual-in_err-cert.ensures.1 in
    rw (p.1, p.2)
    (kept_before (g.D.Desk.shows c.args.desk.now) (g.D.Desk.shows c.given_plan_of.new.desk)
    (g.D.Desk.shows c.given_certificate_of.new.desk) _ (c.in_ok-plan.ensures.faults ∙ c.in_ok-inst.ensures.faults)
    c.in_err-cert.ensures.kept)

pub returns-clause-ok : goal.returns-clause-ok
returns-clause-ok g c =
    let old = g.D.Desk.shows c.args.desk.now in
    let mid = g.D.Desk.shows c.instance_of.new.desk in
    let last = g.D.Desk.shows c.given_plan_of.new.desk in
    are_read c.args.limits.now (source_view c.args.source.now) (option_copied c.args.plan)
    (option_copied c.args.certificate) old mid last c.in_ok-inst.inst c.in_ok-plan.plan c.in_ok-cert.cert
    c.in_ok-inst.ensures.ok
    (is_read c.args.source.now.instance.now old mid c.in_ok-inst.ensures.read c.in_ok-inst.ensures.faults)
    c.in_ok-plan.ensures.ok c.in_ok-plan.ensures.each c.in_ok-plan.ensures.faults c.in_ok-plan.ensures.read
    c.in_ok-cert.ensures.ok c.in_ok-cert.ensures.in_range
