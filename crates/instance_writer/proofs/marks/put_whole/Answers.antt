use Rattle.std.proofs.Common.{◌∙◌, ap, decimal}
use Rattle.instance_writer.proofs.TextLemmas.{number_in_list}
use Rattle.instance_writer.proofs.LoopLemmas.{respelled, two}
use Rattle.instance_writer.proofs.marks.put_whole.Goals as goal

pub returns-clause-text : goal.returns-clause-text
returns-clause-text g c =
    respelled g.S.Sink.Takes (number_in_list c.args.first (decimal c.args.n))
    (two g.S.Sink.Takes g.met.S.Sink.takes_more c.separate.ensures.text
    (respelled g.S.Sink.Takes (c.bytes.ensures.value ∙ c.of_natural.ensures ∙ ap decimal c.from.ensures)
    c.put.ensures.text))
