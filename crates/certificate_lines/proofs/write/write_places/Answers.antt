use Rattle.std.proofs.Common.{List, ℕ, ◌∷◌, ◌∙◌, ap, decimal, arith, rules}
use Rattle.plan_desk.specs.Written.Way.{writing}
use Rattle.plan_desk.proofs.Written.{begins, next, respelled, stops_at}
use Rattle.certificate_lines.specs.Spelling.{word}
use Rattle.certificate_lines.proofs.write.write_places.Goals as goal

pub loop-place-init : goal.loop-place-init
loop-place-init g c = begins writing (g.D.Desk.shows c.args.desk.now)

pub returns-in_err-write_word : goal.returns-in_err-write_word
returns-in_err-write_word g c =
    stops_at writing word c.args.places.now c.loop-place.place-index 0 (omega arith) c.from_residual.result
    (search rules) c.loop-place.invariant
    (respelled writing
    (ap (λ (xs : List ℕ). 32 ∷ xs) (c.bytes.ensures.value ∙ c.of_natural.ensures ∙ ap decimal c.from.ensures))
    c.in_err-write_word.ensures)

pub loop-place-preserved : goal.loop-place-preserved
loop-place-preserved g c =
    next writing word c.args.places.now c.loop-place.place-index 0 (omega arith) c.loop-place.invariant
    (respelled writing
    (ap (λ (xs : List ℕ). 32 ∷ xs) (c.bytes.ensures.value ∙ c.of_natural.ensures ∙ ap decimal c.from.ensures))
    c.in_ok-write_word.ensures)
