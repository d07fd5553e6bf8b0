use Rattle.std.proofs.Common.{List, ℕ, ◌∷◌, ◌∙◌, ap, arith, rules}
use Rattle.plan_desk.specs.Written.Way.{writing}
use Rattle.plan_desk.proofs.Written.{begins, next, respelled, stops_at}
use Rattle.certificate_lines.specs.Spelling.{word}
use Rattle.certificate_lines.proofs.write.write_words.Goals as goal

pub loop-number-init : goal.loop-number-init
loop-number-init g c = begins writing (g.D.Desk.shows c.args.desk.now)

pub returns-in_err-write_word : goal.returns-in_err-write_word
returns-in_err-write_word g c =
    stops_at writing word c.args.numbers.now c.loop-number.number-index 0 (omega arith) c.from_residual.result
    (search rules) c.loop-number.invariant
    (respelled writing (ap (λ (xs : List ℕ). 32 ∷ xs) (c.bytes.ensures.value ∙ c.of_natural.ensures))
    c.in_err-write_word.ensures)

pub loop-number-preserved : goal.loop-number-preserved
loop-number-preserved g c =
    next writing word c.args.numbers.now c.loop-number.number-index 0 (omega arith) c.loop-number.invariant
    (respelled writing (ap (λ (xs : List ℕ). 32 ∷ xs) (c.bytes.ensures.value ∙ c.of_natural.ensures))
    c.in_ok-write_word.ensures)
