use Rattle.std.proofs.Common.{◌∙◌, ap, decimal}
use Rattle.plan_desk.specs.Written.Way.{saying}
use Rattle.plan_desk.proofs.Written.{respelled}
use Rattle.plan_table.proofs.TextLemmas.{period_said}
use Rattle.plan_table.proofs.say.say_period.Goals as goal

pub returns : goal.returns
returns g c =
    respelled saying
    (period_said c.args.report.now _ _ _ (c.bytes.ensures.value ∙ c.of_natural-t.ensures ∙ ap decimal c.from.ensures)
    (c.bytes-2.ensures.value ∙ c.of_natural-scenarios.ensures ∙ ap decimal c.from-2.ensures)
    (c.bytes-3.ensures.value ∙ c.of_natural-rank.ensures ∙ ap decimal c.from-3.ensures)) c.say_words.ensures
