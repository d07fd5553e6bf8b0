use Rattle.std.proofs.Common.{sym}
use Rattle.instance_writer.proofs.TextLemmas.{escaped-mark, escaped-plain}
use Rattle.instance_writer.proofs.LoopLemmas.{respelled}
use Rattle.instance_writer.proofs.marks.put_byte.Goals as goal

pub returns-then-b-eq92-clause-text : goal.returns-then-b-eq92-clause-text
returns-then-b-eq92-clause-text g c =
    respelled g.S.Sink.Takes (sym (escaped-mark c.args.b c.if-b-eq92.either)) c.put.ensures.text

pub returns-else-b-eq92-clause-text : goal.returns-else-b-eq92-clause-text
returns-else-b-eq92-clause-text g c =
    respelled g.S.Sink.Takes (sym (escaped-plain c.args.b c.if-b-eq92.false)) c.put-else-b-eq92.ensures.text
