use Rattle.std.proofs.Common.{◌+◌, sym, subst, List, rules}
use Rattle.std.proofs.lemmas.Result.{err_from_is_err_and}
use Rattle.plan_moves.specs.declared.script_line.ScriptLine.{ScriptLine}
use Rattle.move_script.proofs.ReadLemmas.{ReadSoFar, read_more, read_whole, refused_first}
use Rattle.move_script.proofs.read.read_lines.Goals as goal

pub returns-in_err-read-clause-err : goal.returns-in_err-read-clause-err
returns-in_err-read-clause-err c =
    let p = err_from_is_err_and c.from_residual.result c.from_residual.ensures.1 in
    rw (p.1, p.2) (λ some. refused_first c.args.inst.now.names c.args.text.now c.loop-rest.lines.items c.loop-rest.n
    c.loop-rest.rest.now c.split_line.result.0.now _ _ c.loop-rest.invariant c.split_line.ensures.lines
    c.in_err-read.ensures.err)

pub loop-rest-preserved : goal.loop-rest-preserved
loop-rest-preserved c =
    let names = c.args.inst.now.names in
    let text = c.args.text.now in
    let after = c.split_line.result.1.now in
    subst (λ (script : List ScriptLine). ReadSoFar names text script (c.loop-rest.n + 1) after)
    (sym c.in_ok-push.ensures.items)
    (read_more names text c.loop-rest.lines.items c.loop-rest.n c.loop-rest.rest.now c.split_line.result.0.now after
    c.in_ok-read.read c.loop-rest.invariant c.split_line.ensures.lines c.split_line.ensures.shorter
    c.in_ok-read.ensures.ok)

pub returns-clause-ok : goal.returns-clause-ok
returns-clause-ok c =
    read_whole c.args.inst.now.names c.args.text.now _ _ c.loop-rest.rest.now c.loop-rest.invariant (search rules)
