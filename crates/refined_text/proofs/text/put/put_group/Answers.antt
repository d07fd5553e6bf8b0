use Rattle.std.proofs.Common.{[], ◌∷◌, ◌++◌, refl, sym, rules}
use Rattle.plan_desk.specs.Written.Way.{writing}
use Rattle.plan_desk.proofs.Written.{cut, last, put, respelled, stops}
use Rattle.certificate_lines.specs.Spelling.{words}
use Rattle.refined_text.specs.text.Steps.{group_words}
use Rattle.refined_text.proofs.TextPieceLemmas.{group_pieces}
use Rattle.refined_text.proofs.text.put.put_group.Goals as goal

pub returns-in_err-write_all : goal.returns-in_err-write_all
returns-in_err-write_all g c =
    let t = c.args.t in
    let group = c.args.group.now in
    respelled writing (sym (group_pieces t t group refl))
    (cut writing c.from_residual.result (search rules) (words (t ∷ []) ++ (group_words group ++ 10 ∷ []))
    c.in_err-write_all.ensures)

pub returns-in_err-write_words : goal.returns-in_err-write_words
returns-in_err-write_words g c =
    let group = c.args.group.now in
    respelled writing (sym (group_pieces c.args.t c.from.result group c.from.ensures))
    (stops writing c.from_residual-in_err-write_words.result (search rules) (put writing c.in_ok-write_all.ensures)
    (group_words group ++ 10 ∷ []) c.in_err-write_words.ensures)

pub returns-in_err-write_members : goal.returns-in_err-write_members
returns-in_err-write_members g c =
    let r = c.from_residual-in_err-write_members.result in
    respelled writing (sym (group_pieces c.args.t c.from.result c.args.group.now c.from.ensures))
    (last writing r (put writing c.in_ok-write_all.ensures)
    (stops writing r (search rules) (put writing c.in_ok-write_words.ensures) (10 ∷ [])
    c.in_err-write_members.ensures))

pub returns : goal.returns
returns g c =
    let r = c.write_all-2.result in
    respelled writing (sym (group_pieces c.args.t c.from.result c.args.group.now c.from.ensures))
    (last writing r (put writing c.in_ok-write_all.ensures)
    (last writing r (put writing c.in_ok-write_words.ensures)
    (last writing r (put writing c.in_ok-write_members.ensures) c.write_all-2.ensures)))
