use Rattle.std.proofs.Common.{◌∙◌, sym, ap, subst, refl, Err}
use Rattle.std.proofs.lemmas.Result.{err_from_is_err_and}
use Rattle.plan_text.specs.declared.fault.PlanFault.{PlanFault}
use Rattle.plan_text.specs.Spelling.{IsPlan}
use Rattle.plan_text.proofs.ReadLemmas.{read_complete, read_refuses, fault_complete, fault_refuses}
use Rattle.plan_text.proofs.read.read_plan.Goals as goal

pub returns-in_err-read_lines-clause-complete : goal.returns-in_err-read_lines-clause-complete
returns-in_err-read_lines-clause-complete c =
    fault_complete c.args.inst.now.names c.args.bytes.now _ _ c.in_err-read_lines.ensures.err

pub returns-in_err-read_lines-clause-refused : goal.returns-in_err-read_lines-clause-refused
returns-in_err-read_lines-clause-refused c =
    let p = err_from_is_err_and c.from_residual-in_err-read_lines.result c.from_residual-in_err-read_lines.ensures.1 in
    fault_refuses c.args.inst.now.names c.args.bytes.now c.from_residual-in_err-read_lines.result
    c.in_err-read_lines.field-0.0 (p.1 ∙ ap (λ (fault : PlanFault). Err fault) p.2) c.in_err-read_lines.ensures.err

pub returns-clause-complete : goal.returns-clause-complete
returns-clause-complete c =
    read_complete c.args.inst.now.names c.args.bytes.now _ c.from_vec.result refl
    (subst (IsPlan c.args.inst.now.names c.args.bytes.now) (sym c.from_vec.ensures) c.in_ok-read_lines.ensures.ok)

pub returns-clause-refused : goal.returns-clause-refused
returns-clause-refused c =
    read_refuses c.args.inst.now.names c.args.bytes.now _ c.from_vec.result
    (subst (IsPlan c.args.inst.now.names c.args.bytes.now) (sym c.from_vec.ensures) c.in_ok-read_lines.ensures.ok)
