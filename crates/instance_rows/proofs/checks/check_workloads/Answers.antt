use Rattle.std.proofs.Common.{List, ℕ, map, string_bytes, sym, ◌∙◌, ap, subst}
use Rattle.std.proofs.lemmas.Result.{err_from_is_err_and}
use Rattle.instance_shape.specs.CrossFaults.{unless, unknown, is_among}
use Rattle.instance_rows.specs.Answers.{TellsFault}
use Rattle.instance_rows.specs.RowFaults.{workload_fault}
use Rattle.instance_rows.specs.Views.{workload_view}
use Rattle.instance_rows.proofs.Turns.{first_in_more, told_in}
use Rattle.instance_rows.proofs.checks.check_workloads.Goals as goal

pub returns-in_err-number_of : goal.returns-in_err-number_of
returns-in_err-number_of c =
    let p = err_from_is_err_and c.from_residual.result c.from_residual.ensures.1 in
    let names = map string_bytes c.args.resources.now.texts.keys in
    rw (p.1, p.2) (told_in (workload_fault names) workload_view c.args.workloads.now c.loop-workload.workload-index
    c.workload-item.result _ c.loop-workload-test.true c.workload-item.is c.loop-workload.invariant
    (subst (λ (t : List ℕ). TellsFault (unless (is_among names t) (unknown t)) c.in_err-number_of.field-0.0)
    c.as_str.ensures.value c.in_err-number_of.ensures.told))

pub loop-workload-preserved : goal.loop-workload-preserved
loop-workload-preserved c =
    let names = map string_bytes c.args.resources.now.texts.keys in
    first_in_more (workload_fault names) workload_view c.args.workloads.now c.loop-workload.workload-index
    c.workload-item.result c.loop-workload-test.true c.workload-item.is c.loop-workload.invariant
    (ap (λ (t : List ℕ). unless (is_among names t) (unknown t)) (sym c.as_str.ensures.value)
    ∙ c.in_ok-number_of.ensures.told)
