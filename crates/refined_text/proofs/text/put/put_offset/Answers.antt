use Rattle.std.proofs.Common.{◌+◌, [], ◌∷◌, ◌++◌, sym, rules}
use Rattle.plan_desk.specs.Written.Way.{writing}
use Rattle.plan_desk.proofs.Written.{cut, last, put, respelled, stops}
use Rattle.certificate_lines.specs.Spelling.{words}
use Rattle.refined_text.proofs.TextPieceLemmas.{offset_pieces}
use Rattle.refined_text.proofs.text.put.put_offset.Goals as goal

pub returns-in_err-write_all : goal.returns-in_err-write_all
returns-in_err-write_all g c =
    let t = c.from-t.result in
    let i = c.from-i.result in
    let g = c.from-g.result in
    let v = c.from-v.result in
    respelled writing
    (sym (offset_pieces c.args.x t i g v c.from-t.ensures c.from-i.ensures c.from-g.ensures c.from-v.ensures))
    (cut writing c.from_residual.result (search rules) (words (t ∷ (i + 1) ∷ (g + 1) ∷ v ∷ []) ++ 10 ∷ [])
    c.in_err-write_all.ensures)

pub returns-in_err-write_words : goal.returns-in_err-write_words
returns-in_err-write_words g c =
    respelled writing
    (sym (offset_pieces c.args.x c.from-t.result c.from-i.result c.from-g.result c.from-v.result c.from-t.ensures
    c.from-i.ensures c.from-g.ensures c.from-v.ensures))
    (stops writing c.from_residual-in_err-write_words.result (search rules) (put writing c.in_ok-write_all.ensures)
    (10 ∷ []) c.in_err-write_words.ensures)

pub returns : goal.returns
returns g c =
    let r = c.write_all-2.result in
    respelled writing
    (sym (offset_pieces c.args.x c.from-t.result c.from-i.result c.from-g.result c.from-v.result c.from-t.ensures
    c.from-i.ensures c.from-g.ensures c.from-v.ensures))
    (last writing r (put writing c.in_ok-write_all.ensures)
    (last writing r (put writing c.in_ok-write_words.ensures) c.write_all-2.ensures))
