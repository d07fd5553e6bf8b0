use Rattle.std.proofs.Common.{◌∙◌, [], sym}
use Rattle.std.proofs.lemmas.Option.{get_or_from_slice_get}
use Rattle.plan_desk.specs.Written.Way.{saying}
use Rattle.plan_desk.proofs.Written.{respelled}
use Rattle.plan_table.proofs.TextLemmas.{clash_said}
use Rattle.plan_table.proofs.say.say_clash.Goals as goal

pub returns : goal.returns
returns g c =
    let names = c.args.inst.now.exclusion_names in
    respelled saying
    (clash_said c.args.inst.now c.args.e _
    (c.as_bytes.ensures.value ∙ sym (get_or_from_slice_get names c.args.e _ [] c.exclusion_name.ensures.value)))
    c.say_words.ensures
