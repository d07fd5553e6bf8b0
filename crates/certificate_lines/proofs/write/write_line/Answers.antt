use Rattle.std.proofs.Common.{[], ◌∷◌, ◌++◌, sym, rules}
use Rattle.plan_desk.specs.Written.Way.{writing}
use Rattle.plan_desk.proofs.Written.{cut, last, put, respelled, stops}
use Rattle.certificate_lines.specs.Steps.{operands}
use Rattle.certificate_lines.proofs.PieceLemmas.{line_pieces}
use Rattle.certificate_lines.proofs.write.write_line.Goals as goal

pub returns-in_err-write_all : goal.returns-in_err-write_all
returns-in_err-write_all g c =
    let line = c.args.line.now in
    respelled writing
    (sym (line_pieces line c.keyword_of-keyword.result c.text.result.now
    c.keyword_of-keyword.ensures c.text.ensures))
    (cut writing c.from_residual.result (search rules) (operands line ++ 10 ∷ []) c.in_err-write_all.ensures)

pub returns-in_err-write_operands : goal.returns-in_err-write_operands
returns-in_err-write_operands g c =
    let line = c.args.line.now in
    respelled writing
    (sym (line_pieces line c.keyword_of-keyword.result c.text.result.now
    c.keyword_of-keyword.ensures c.text.ensures))
    (stops writing c.from_residual-in_err-write_operands.result (search rules) (put writing c.in_ok-write_all.ensures)
    (10 ∷ []) c.in_err-write_operands.ensures)

pub returns : goal.returns
returns g c =
    let line = c.args.line.now in
    respelled writing
    (sym (line_pieces line c.keyword_of-keyword.result c.text.result.now
    c.keyword_of-keyword.ensures c.text.ensures))
    (last writing c.write_all-2.result (put writing c.in_ok-write_all.ensures)
    (last writing c.write_all-2.result (put writing c.in_ok-write_operands.ensures) c.write_all-2.ensures))
