use Rattle.std.proofs.Common.{[], ◌∷◌, ◌++◌, refl, sym, rules}
use Rattle.plan_desk.specs.Written.Way.{writing}
use Rattle.plan_desk.proofs.Written.{cut, last, put, respelled, stops}
use Rattle.certificate_lines.specs.Spelling.{words}
use Rattle.refined_text.specs.text.Steps.{clique_words}
use Rattle.refined_text.proofs.TextPieceLemmas.{clique_pieces}
use Rattle.refined_text.proofs.text.put.put_clique.Goals as goal

pub returns-in_err-write_all : goal.returns-in_err-write_all
returns-in_err-write_all g c =
    let x = c.args.x.now in
    let t = c.from-t.result in
    let v = c.from-v.result in
    respelled writing (sym (clique_pieces x t v x.members c.from-t.ensures c.from-v.ensures refl))
    (cut writing c.from_residual.result (search rules) (words (t ∷ v ∷ []) ++ (clique_words x.members ++ 10 ∷ []))
    c.in_err-write_all.ensures)

pub returns-in_err-write_words : goal.returns-in_err-write_words
returns-in_err-write_words g c =
    let x = c.args.x.now in
    respelled writing
    (sym (clique_pieces x c.from-t.result c.from-v.result x.members c.from-t.ensures c.from-v.ensures refl))
    (stops writing c.from_residual-in_err-write_words.result (search rules) (put writing c.in_ok-write_all.ensures)
    (clique_words x.members ++ 10 ∷ []) c.in_err-write_words.ensures)

pub returns-in_err-write_interventions : goal.returns-in_err-write_interventions
returns-in_err-write_interventions g c =
    let r = c.from_residual-in_err-write_interventions.result in
    respelled writing
    (sym (clique_pieces c.args.x.now c.from-t.result c.from-v.result c.as_slice.result.now c.from-t.ensures
    c.from-v.ensures c.as_slice.ensures))
    (last writing r (put writing c.in_ok-write_all.ensures)
    (stops writing r (search rules) (put writing c.in_ok-write_words.ensures) (10 ∷ [])
    c.in_err-write_interventions.ensures))

pub returns : goal.returns
returns g c =
    let r = c.write_all-2.result in
    respelled writing
    (sym (clique_pieces c.args.x.now c.from-t.result c.from-v.result c.as_slice.result.now c.from-t.ensures
    c.from-v.ensures c.as_slice.ensures))
    (last writing r (put writing c.in_ok-write_all.ensures)
    (last writing r (put writing c.in_ok-write_words.ensures)
    (last writing r (put writing c.in_ok-write_interventions.ensures) c.write_all-2.ensures)))
