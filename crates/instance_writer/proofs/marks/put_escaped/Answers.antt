use Rattle.std.proofs.Common.{sym}
use Rattle.json_grammar.specs.laws.Spelling.{escaped}
use Rattle.instance_writer.proofs.TextLemmas.{escaped-more}
use Rattle.instance_writer.proofs.LoopLemmas.{respelled, two}
use Rattle.instance_writer.proofs.marks.put_escaped.Goals as goal

pub loop-b-init : goal.loop-b-init
unfolding escaped
loop-b-init g c = record { ready = c.requires.ready; text = g.met.S.Sink.takes_none c.args.sink.now }

pub loop-b-preserved : goal.loop-b-preserved
loop-b-preserved g c = record {
  ready = c.put_byte.ensures.ready;
  text = respelled g.S.Sink.Takes (sym (escaped-more c.args.text.now c.loop-b.b-index 0 c.loop-b-test.true))
      (two g.S.Sink.Takes g.met.S.Sink.takes_more c.loop-b.invariant.text c.put_byte.ensures.text);
}
