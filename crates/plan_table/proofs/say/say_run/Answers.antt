use Rattle.std.proofs.Common.{◌≡◌, ◌∙◌, [], sym, ap, decimal, rules}
use Rattle.fixed_num.specs.Texts.{fixed_text}
use Rattle.fixed_num.proofs.Bits.{by_bits}
use Rattle.std.proofs.lemmas.Option.{get_or_from_slice_get}
use Rattle.plan_desk.specs.Written.Way.{saying}
use Rattle.plan_desk.proofs.Written.{respelled}
use Rattle.plan_table.proofs.TextLemmas.{run_said}
use Rattle.plan_table.proofs.say.say_run.Goals as goal

pub returns : goal.returns
returns g c =
    let names = c.args.inst.now.names in
    let low : by_bits c.args.line.now.low ≡ c.args.line.now.low = search rules in
    let high : by_bits c.args.line.now.high ≡ c.args.line.now.high = search rules in
    respelled saying
    (run_said c.args.inst.now c.args.line.now _ _ _ _ _ _
    (c.as_bytes-name.ensures.value ∙ sym (get_or_from_slice_get names c.args.line.now.i _ [] c.name.ensures.value))
    (c.bytes.ensures.value ∙ c.of_natural-start.ensures ∙ ap decimal c.from.ensures)
    (c.bytes-2.ensures.value ∙ c.of_natural-day.ensures ∙ ap decimal c.from-2.ensures)
    (c.bytes-3.ensures.value ∙ c.of_natural-duration.ensures ∙ ap decimal c.from-3.ensures)
    (c.bytes-4.ensures.value ∙ c.of_fixed-low.ensures ∙ ap fixed_text low)
    (c.bytes-5.ensures.value ∙ c.of_fixed-high.ensures ∙ ap fixed_text high))
    c.say_words.ensures
