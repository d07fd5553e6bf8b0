use Rattle.std.proofs.Common.{Bool, sym, ap}
use Rattle.plan_desk.specs.Written.Way.{writing}
use Rattle.plan_desk.proofs.Written.{ends, respelled}
use Rattle.refined_text.specs.text.Text.{cap_lines, text_of_refined}
use Rattle.refined_text.proofs.TextWriteLemmas.{nothing}
use Rattle.refined_text.proofs.text.entries.write_cap.Goals as goal

pub returns-then-not-capped : goal.returns-then-not-capped
returns-then-not-capped g c =
    ends writing _ (nothing (cap_lines c.args.capped) (g.D.Desk.shows c.args.desk.now)
    (ap cap_lines c.if-not-capped.true))

pub returns : goal.returns
returns g c =
    respelled writing (ap (λ (b : Bool). text_of_refined (cap_lines b)) (sym c.if-not-capped.false)) c.put_cap.ensures
