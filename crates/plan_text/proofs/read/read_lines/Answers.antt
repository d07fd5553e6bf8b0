use Rattle.std.proofs.Common.{◌∙◌, ◌+◌, sym, subst, List, ℕ, arith, rules}
use Rattle.std.proofs.lemmas.Result.{err_from_is_err_and}
use Rattle.plan_text.specs.Spelling.{lines_of}
use Rattle.plan_text.specs.Steps.{Enters, Refuses}
use Rattle.text_lines.proofs.LineLemmas.{next_line}
use Rattle.plan_text.proofs.StepLemmas.{line_cut, refused_first, read_more, nothing_left}
use Rattle.plan_text.proofs.read.read_lines.Goals as goal

pub returns-in_err-read_line-clause-err : goal.returns-in_err-read_line-clause-err
returns-in_err-read_line-clause-err c =
    let names = c.args.inst.now.names in
    let so_far = c.loop-rest.invariant in
    let old = c.loop-rest.starts.items in
    let next = next_line (lines_of c.args.text.now) c.loop-rest.n _ _
    (so_far.left ∙ line_cut c.loop-rest.rest.now _ _ c.split_line.result.1.now c.split_line.ensures.lines
    c.without_return.ensures) in
    let p = err_from_is_err_and c.from_residual.result c.from_residual.ensures.1 in
    rw (p.1, p.2) (refused_first names c.args.text.now c.loop-rest.n old _ so_far.read next.within
    (subst (λ (line : List ℕ). Refuses names line old (c.loop-rest.n + 1) c.in_err-read_line.field-0.0) (sym next.is)
    c.in_err-read_line.ensures.err))

pub loop-rest-preserved : goal.loop-rest-preserved
loop-rest-preserved c =
    let names = c.args.inst.now.names in
    let so_far = c.loop-rest.invariant in
    let old = c.loop-rest.starts.items in
    let new = c.read_line.new.starts.items in
    let next = next_line (lines_of c.args.text.now) c.loop-rest.n _ _
    (so_far.left ∙ line_cut c.loop-rest.rest.now _ _ c.split_line.result.1.now c.split_line.ensures.lines
    c.without_return.ensures) in
    record {
      read = read_more names (lines_of c.args.text.now) c.loop-rest.n old new c.fits.ensures.names.apart
          so_far.read next.within
          (subst (λ (line : List ℕ). Enters names line old new) (sym next.is) c.in_ok-read_line.ensures.ok);
      left = next.left;
      few = omega (arith, so_far.few, c.split_line.ensures.shorter);
    }

pub returns-clause-ok : goal.returns-clause-ok
returns-clause-ok c = nothing_left c.args.inst.now.names c.args.text.now _ _ _ c.loop-rest.invariant (search rules)
