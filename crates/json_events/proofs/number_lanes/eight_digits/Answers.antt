use Rattle.std.proofs.Common.{◌∙◌}
use Rattle.json_events.proofs.EightDigits.{placed, word_at}
use Rattle.json_events.proofs.number_lanes.eight_digits.Goals as goal

pub returns : goal.returns
returns c =
    let bs = c.args.bytes.now in
    let ask = c.requires in
    let word = c.from_le_bytes-word.result in
    let p = placed bs c.args.count word c.type_inv.bytes ask.room ask.some ask.few ask.digits
    (c.from_le_bytes-word.ensures ∙ word_at bs ask.room) in
    c.value_of_eight.ensures p.digits p.long p.low p.word_is ∙ p.value_is
