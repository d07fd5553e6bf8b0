use Rattle.std.proofs.Common.{◌+◌, [], ◌∷◌, rules}
use Rattle.plan_desk.specs.Written.Way.{writing}
use Rattle.plan_desk.proofs.Written.{begins, next, respelled, stops_at}
use Rattle.certificate_lines.specs.Spelling.{words}
use Rattle.refined_text.specs.text.Steps.{next_word}
use Rattle.refined_text.proofs.text.put.write_interventions.Goals as goal

pub loop-i-init : goal.loop-i-init
loop-i-init g c = begins writing (g.D.Desk.shows c.args.desk.now)

pub returns-in_err-write_words : goal.returns-in_err-write_words
returns-in_err-write_words g c =
    stops_at writing next_word c.args.members.now c.loop-i.i-index 0 c.loop-i-test.true c.from_residual.result
    (search rules) c.loop-i.invariant
    (respelled writing (λ j. words ((c.from.ensures j + 1) ∷ [])) c.in_err-write_words.ensures)

pub loop-i-preserved : goal.loop-i-preserved
loop-i-preserved g c =
    next writing next_word c.args.members.now c.loop-i.i-index 0 c.loop-i-test.true c.loop-i.invariant
    (respelled writing (λ j. words ((c.from.ensures j + 1) ∷ [])) c.in_ok-write_words.ensures)
