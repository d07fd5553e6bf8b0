use Rattle.std.proofs.Common.{◌≡◌, ◌∙◌, [], sym, ap, rules}
use Rattle.fixed_num.specs.Texts.{fixed_text}
use Rattle.fixed_num.proofs.Bits.{by_bits}
use Rattle.std.proofs.lemmas.Option.{get_or_from_slice_get}
use Rattle.plan_desk.specs.Written.Way.{saying}
use Rattle.plan_desk.proofs.Written.{respelled}
use Rattle.plan_table.proofs.TextLemmas.{load_said}
use Rattle.plan_table.proofs.say.say_load_as.Goals as goal

pub returns : goal.returns
returns g c =
    let names = c.args.inst.now.resource_names in
    let load : by_bits c.args.line.now.load ≡ c.args.line.now.load = search rules in
    let lower : by_bits c.args.line.now.lower ≡ c.args.line.now.lower = search rules in
    let upper : by_bits c.args.line.now.upper ≡ c.args.line.now.upper = search rules in
    respelled saying
    (load_said c.args.inst.now c.args.line.now c.args.state.now _ _ _ _
    (c.as_bytes-name.ensures.value
    ∙ sym (get_or_from_slice_get names c.args.line.now.c _ [] c.resource_name.ensures.value))
    (c.bytes.ensures.value ∙ c.of_fixed-load.ensures ∙ ap fixed_text load)
    (c.bytes-2.ensures.value ∙ c.of_fixed-lower.ensures ∙ ap fixed_text lower)
    (c.bytes-3.ensures.value ∙ c.of_fixed-upper.ensures ∙ ap fixed_text upper)) c.say_words.ensures
