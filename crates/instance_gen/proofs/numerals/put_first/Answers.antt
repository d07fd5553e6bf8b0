use Rattle.instance_writer.proofs.LoopLemmas.{two}
use Rattle.instance_gen.proofs.numerals.put_first.Goals as goal

pub returns-clause-text : goal.returns-clause-text
returns-clause-text g c =
    let more = g.met.S.Sink.takes_more in
    two g.S.Sink.Takes more (two g.S.Sink.Takes more c.put_number.ensures.text c.put.ensures.text)
    c.put_number-2.ensures.text
