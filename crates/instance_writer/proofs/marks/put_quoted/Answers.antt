use Rattle.json_grammar.specs.laws.Spelling.{quoted}
use Rattle.instance_writer.proofs.LoopLemmas.{two}
use Rattle.instance_writer.proofs.marks.put_quoted.Goals as goal

pub returns-clause-text : goal.returns-clause-text
unfolding quoted
returns-clause-text g c =
    let more = g.met.S.Sink.takes_more in
    two g.S.Sink.Takes more (two g.S.Sink.Takes more c.put.ensures.text c.put_escaped.ensures.text) c.put-2.ensures.text
