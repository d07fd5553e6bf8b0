use Rattle.std.proofs.Common.{◌∙◌, sym, ap, subst, refl, Err}
use Rattle.std.proofs.lemmas.Result.{err_from_is_err_and}
use Rattle.move_script.specs.declared.fault.ScriptFault.{ScriptFault}
use Rattle.move_script.specs.Spelling.{IsScript}
use Rattle.move_script.proofs.LawLemmas.{read_complete, read_refuses, fault_complete, fault_refuses}
use Rattle.move_script.proofs.ReadLemmas.{script_known}
use Rattle.move_script.proofs.read.read_script.Goals as goal

pub returns-in_err-lines-clause-complete : goal.returns-in_err-lines-clause-complete
returns-in_err-lines-clause-complete c =
    let p = err_from_is_err_and c.from_residual.result c.from_residual.ensures.1 in
    fault_complete c.args.inst.now.names c.args.bytes.now c.from_residual.result c.in_err-lines.field-0.0
    (p.1 ∙ ap (λ (fault : ScriptFault). Err fault) p.2) c.in_err-lines.ensures.err

pub returns-in_err-lines-clause-refused : goal.returns-in_err-lines-clause-refused
returns-in_err-lines-clause-refused c =
    let p = err_from_is_err_and c.from_residual.result c.from_residual.ensures.1 in
    fault_refuses c.args.inst.now.names c.args.bytes.now c.from_residual.result c.in_err-lines.field-0.0
    (p.1 ∙ ap (λ (fault : ScriptFault). Err fault) p.2) c.in_err-lines.ensures.err

pub returns-clause-complete : goal.returns-clause-complete
returns-clause-complete c =
    read_complete c.args.inst.now.names c.args.bytes.now _ c.from_vec.result refl
    (subst (IsScript c.args.inst.now.names c.args.bytes.now) (sym c.from_vec.ensures) c.in_ok-lines.ensures.ok)

pub returns-clause-refused : goal.returns-clause-refused
returns-clause-refused c =
    read_refuses c.args.inst.now.names c.args.bytes.now _ c.from_vec.result
    (subst (IsScript c.args.inst.now.names c.args.bytes.now) (sym c.from_vec.ensures) c.in_ok-lines.ensures.ok)

pub returns-clause-known : goal.returns-clause-known
returns-clause-known c =
    script_known c.args.inst.now c.args.bytes.now c.from_vec.result
    (subst (IsScript c.args.inst.now.names c.args.bytes.now) (sym c.from_vec.ensures) c.in_ok-lines.ensures.ok)
