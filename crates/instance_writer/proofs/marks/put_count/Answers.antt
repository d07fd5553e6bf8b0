use Rattle.std.proofs.Common.{ap, to_z-of_z}
use Rattle.instance_writer.proofs.TextLemmas.{number_in_list}
use Rattle.instance_writer.proofs.LoopLemmas.{respelled, two}
use Rattle.instance_writer.proofs.marks.put_count.Goals as goal

pub returns-clause-text : goal.returns-clause-text
returns-clause-text g c =
    let style = g.N.Numerals.style in
    respelled g.S.Sink.Takes (number_in_list c.args.first (style.count c.args.z))
    (two g.S.Sink.Takes g.met.S.Sink.takes_more c.separate.ensures.text
    (respelled g.S.Sink.Takes (ap style.count (to_z-of_z c.ranges.z)) c.put_count.ensures.text))
