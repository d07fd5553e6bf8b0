use Rattle.instance_writer.proofs.TextLemmas.{text_in_list}
use Rattle.instance_writer.proofs.LoopLemmas.{respelled, two}
use Rattle.instance_writer.proofs.marks.put_text.Goals as goal

pub returns-clause-text : goal.returns-clause-text
returns-clause-text g c =
    respelled g.S.Sink.Takes (text_in_list c.args.first c.args.text.now)
    (two g.S.Sink.Takes g.met.S.Sink.takes_more c.separate.ensures.text c.put_quoted.ensures.text)
