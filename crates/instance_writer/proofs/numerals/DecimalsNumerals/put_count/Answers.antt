use Rattle.std.proofs.Common.{◌∙◌, ap, to_z-of_z}
use Rattle.fixed_num.specs.Texts.{fixed_text}
use Rattle.instance_writer.proofs.LoopLemmas.{respelled}
use Rattle.instance_writer.proofs.numerals.DecimalsNumerals.put_count.Goals as goal

pub returns-clause-text : goal.returns-clause-text
returns-clause-text g c =
    respelled g.S.Sink.Takes (c.bytes.ensures.value ∙ c.of_fixed.ensures ∙ ap fixed_text (to_z-of_z c.ranges.z))
    c.put.ensures.text
