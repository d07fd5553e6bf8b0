use Rattle.std.proofs.Common.{◌∙◌, ap, decimal}
use Rattle.instance_writer.proofs.LoopLemmas.{respelled}
use Rattle.instance_gen.proofs.numerals.put_number.Goals as goal

pub returns-clause-text : goal.returns-clause-text
returns-clause-text g c =
    respelled g.S.Sink.Takes (c.bytes.ensures.value ∙ c.of_natural.ensures ∙ ap decimal c.from.ensures)
    c.put.ensures.text
