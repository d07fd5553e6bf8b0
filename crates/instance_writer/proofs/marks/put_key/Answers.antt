use Rattle.instance_writer.proofs.LoopLemmas.{two}
use Rattle.instance_writer.proofs.marks.put_key.Goals as goal

pub returns-clause-text : goal.returns-clause-text
returns-clause-text g c =
    let more = g.met.S.Sink.takes_more in
    two g.S.Sink.Takes more c.separate.ensures.text
    (two g.S.Sink.Takes more c.put_quoted.ensures.text c.put.ensures.text)
