use Rattle.std.proofs.Common.{[], ◌∷◌, ◌+◌, true, false, refl, codes}
use Rattle.fixed_num.specs.Sums.{list_of}
use Rattle.instance_model.specs.Tables.{upper_of, lower_of}
use Rattle.instance_shape.specs.declared.fault.Known.TheVariants as known
use Rattle.instance_writer.specs.text.Written.{count_list, under}
use Rattle.instance_writer.proofs.LoopLemmas.{put_field, join_fields, whole_object}
use Rattle.instance_writer.proofs.resources.put_bands.Goals as goal

pub returns-clause-text : goal.returns-clause-text
returns-clause-text g c =
    let style = g.N.Numerals.style in
    let inst = c.args.inst.now in
    let more = g.met.S.Sink.takes_more in
    let upper = count_list style (list_of inst.periods (λ k. upper_of inst c.args.c (k + 1))) in
    let lower = count_list style (list_of inst.periods (λ k. lower_of inst c.args.c (k + 1))) in
    whole_object g.S.Sink.Takes more (under known.Max upper ∷ under known.Min lower ∷ []) c.put.ensures.text
    (join_fields g.S.Sink.Takes more true (under known.Max upper ∷ []) (under known.Min lower ∷ [])
    (put_field g.S.Sink.Takes more true (codes "max") (codes "max") upper refl c.put_key.ensures.text
    c.put_upper.ensures.text)
    (put_field g.S.Sink.Takes more false (codes "min") (codes "min") lower refl c.put_key-2.ensures.text
    c.put_lower.ensures.text))
    c.put-2.ensures.text
