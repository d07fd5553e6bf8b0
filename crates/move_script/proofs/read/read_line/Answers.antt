use Rattle.std.proofs.Common.{inl, inr}
use Rattle.std.proofs.lemmas.Result.{err_from_is_err_and}
use Rattle.move_script.proofs.LineLemmas.{unknown_refused}
use Rattle.move_script.proofs.read.read_line.Goals as goal

pub returns-in_err-i-clause-err : goal.returns-in_err-i-clause-err
returns-in_err-i-clause-err c =
    let p = err_from_is_err_and c.from_residual.result c.from_residual.ensures.1 in
    rw (p.1, p.2) (unknown_refused c.args.inst.now.names c.args.line.now c.in-Some.name.now c.args.n
    c.in_err-i.field-0.0 (inl (c.in-Some.s, c.in-Some.ensures.found)) c.in_err-i.ensures.err)

pub returns-in_err-i-2-clause-err : goal.returns-in_err-i-2-clause-err
returns-in_err-i-2-clause-err c =
    let p = err_from_is_err_and c.from_residual-in_err-i-2.result c.from_residual-in_err-i-2.ensures.1 in
    rw (p.1, p.2) (unknown_refused c.args.inst.now.names c.args.line.now c.in-Some-swap_of.name.now c.args.n
    c.in_err-i-2.field-0.0 (inr (c.in-Some-swap_of.other.now, inl c.in-Some-swap_of.ensures.found))
    c.in_err-i-2.ensures.err)

pub returns-in_err-j-clause-err : goal.returns-in_err-j-clause-err
returns-in_err-j-clause-err c =
    let p = err_from_is_err_and c.from_residual-in_err-j.result c.from_residual-in_err-j.ensures.1 in
    rw (p.1, p.2) (unknown_refused c.args.inst.now.names c.args.line.now c.in-Some-swap_of.other.now c.args.n
    c.in_err-j.field-0.0 (inr (c.in-Some-swap_of.name.now, inr c.in-Some-swap_of.ensures.found))
    c.in_err-j.ensures.err)
