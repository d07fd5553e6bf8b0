use Rattle.std.proofs.Common.{[], ◌∷◌, ◌++◌, refl, sym, rules}
use Rattle.plan_desk.specs.Written.Way.{writing}
use Rattle.plan_desk.proofs.Written.{cut, last, put, respelled, stops}
use Rattle.certificate_lines.specs.Spelling.{words}
use Rattle.certificate_lines.proofs.PieceLemmas.{tail_pieces}
use Rattle.certificate_lines.proofs.write.write_tail.Goals as goal

pub returns-in_err-write_all : goal.returns-in_err-write_all
returns-in_err-write_all g c =
    let t = c.args.t in
    let weight = c.args.weight in
    respelled writing (sym (tail_pieces t weight t weight c.args.places.now c.text.result.now refl refl c.text.ensures))
    (cut writing c.from_residual.result (search rules) (words (t ∷ weight ∷ []) ++ (words c.args.places.now ++ 10 ∷ []))
    c.in_err-write_all.ensures)

pub returns-in_err-write_words : goal.returns-in_err-write_words
returns-in_err-write_words g c =
    respelled writing
    (sym (tail_pieces c.args.t c.args.weight c.from.result c.from-2.result c.args.places.now c.text.result.now
    c.from.ensures c.from-2.ensures c.text.ensures))
    (stops writing c.from_residual-in_err-write_words.result (search rules) (put writing c.in_ok-write_all.ensures)
    (words c.args.places.now ++ 10 ∷ []) c.in_err-write_words.ensures)

pub returns-in_err-write_places : goal.returns-in_err-write_places
returns-in_err-write_places g c =
    let r = c.from_residual-in_err-write_places.result in
    respelled writing
    (sym (tail_pieces c.args.t c.args.weight c.from.result c.from-2.result c.args.places.now c.text.result.now
    c.from.ensures c.from-2.ensures c.text.ensures))
    (last writing r (put writing c.in_ok-write_all.ensures)
    (stops writing r (search rules) (put writing c.in_ok-write_words.ensures) (10 ∷ [])
    c.in_err-write_places.ensures))

pub returns : goal.returns
returns g c =
    let r = c.write_all-2.result in
    respelled writing
    (sym (tail_pieces c.args.t c.args.weight c.from.result c.from-2.result c.args.places.now c.text.result.now
    c.from.ensures c.from-2.ensures c.text.ensures))
    (last writing r (put writing c.in_ok-write_all.ensures)
    (last writing r (put writing c.in_ok-write_words.ensures)
    (last writing r (put writing c.in_ok-write_places.ensures) c.write_all-2.ensures)))
