use Rattle.std.proofs.Common.{◌≡◌, ◌/◌, ◌%◌, length, decimal, sym, ◌∙◌, ap, arith}
use Rattle.std.proofs.lemmas.Fmt.{length-decimal-le}
use Rattle.instance_writer.proofs.TextLemmas.{part_pieces}
use Rattle.instance_writer.proofs.LoopLemmas.{respelled, two}
use Rattle.instance_writer.proofs.numerals.DecimalsNumerals.put_part.Goals as goal

pub slice_bounds-put-count : goal.slice_bounds-put-count
slice_bounds-put-count g c =
    let text : c.bytes-2.result.now ≡ decimal (c.args.m % 1000000) =
    c.bytes-2.ensures.value ∙ c.of_natural-digits.ensures ∙ ap decimal c.from-2.ensures in
    omega (arith, ap length text, length-decimal-le 6 (c.args.m % 1000000) (omega arith) (omega arith) (omega arith))

pub returns-clause-text : goal.returns-clause-text
returns-clause-text g c =
    let more = g.met.S.Sink.takes_more in
    let digits : c.bytes-2.result.now ≡ decimal (c.args.m % 1000000) =
    c.bytes-2.ensures.value ∙ c.of_natural-digits.ensures ∙ ap decimal c.from-2.ensures in
    let whole : c.bytes.result.now ≡ decimal (c.args.m / 1000000) =
    c.bytes.ensures.value ∙ c.of_natural.ensures ∙ ap decimal c.from.ensures in
    respelled g.S.Sink.Takes
    (part_pieces c.args.m c.bytes.result.now c.bytes-2.result.now whole digits
    (omega (
      arith,
      ap length digits,
      length-decimal-le 6 (c.args.m % 1000000) (omega arith) (omega arith)
          (omega arith),
    )))
    (two g.S.Sink.Takes more (two g.S.Sink.Takes more c.put.ensures.text c.put-2.ensures.text)
    (two g.S.Sink.Takes more c.put-3.ensures.text
    (respelled g.S.Sink.Takes (c.bytes-3.ensures.value ∙ sym c.bytes-2.ensures.value) c.put-4.ensures.text)))
