use Rattle.std.proofs.Common.{[], ◌∷◌, rules}
use Rattle.plan_desk.specs.Written.Way.{writing}
use Rattle.plan_desk.proofs.Written.{begins, next, respelled, stops_at}
use Rattle.refined_prices.specs.declared.member.Member.{Member}
use Rattle.certificate_lines.specs.Spelling.{words}
use Rattle.refined_text.specs.text.Steps.{pair_words}
use Rattle.refined_text.proofs.text.put.write_members.Goals as goal

pub loop-member-init : goal.loop-member-init
loop-member-init g c = begins writing (g.D.Desk.shows c.args.desk.now)

pub returns-in_err-write_words : goal.returns-in_err-write_words
returns-in_err-write_words g c =
    let d : Member = record { scenario = 0; weight = 0 } in
    stops_at writing pair_words c.args.group.now c.loop-member.member-index d c.loop-member-test.true
    c.from_residual.result (search rules) c.loop-member.invariant
    (respelled writing (λ j. words (c.from.ensures j ∷ c.from-in-loop-member.ensures j ∷ []))
    c.in_err-write_words.ensures)

pub loop-member-preserved : goal.loop-member-preserved
loop-member-preserved g c =
    let d : Member = record { scenario = 0; weight = 0 } in
    next writing pair_words c.args.group.now c.loop-member.member-index d c.loop-member-test.true
    c.loop-member.invariant
    (respelled writing (λ j. words (c.from.ensures j ∷ c.from-in-loop-member.ensures j ∷ []))
    c.in_ok-write_words.ensures)
