use Rattle.std.proofs.Common.{[], ◌∷◌, true, false, refl, ◌∙◌, ap, codes, decimal}
use Rattle.std.proofs.lemmas.List.{append-nil}
use Rattle.json_grammar.specs.laws.Value.{Value}
use Rattle.json_grammar.specs.laws.Spelling.{spell}
use Rattle.instance_shape.specs.declared.fault.Known.TheVariants as known
use Rattle.instance_writer.specs.text.Written.{whole_number, whole_list, under}
use Rattle.instance_writer.specs.Steps.{values_text}
use Rattle.instance_writer.proofs.LoopLemmas.{respelled, put_field, join_fields}
use Rattle.instance_writer.proofs.write.put_numbers.Goals as goal

pub returns-clause-text : goal.returns-clause-text
unfolding spell
returns-clause-text g c =
    let style = g.N.Numerals.style in
    let inst = c.args.inst.now in
    let more = g.met.S.Sink.takes_more in
    let periods = whole_number inst.periods in
    let scenarios = whole_list inst.scenarios in
    let quantile = Value.number (style.part inst.quantile) in
    let alpha = Value.number (style.part inst.alpha) in
    join_fields g.S.Sink.Takes more false (under known.T periods ∷ [])
    (under known.ScenariosNumber scenarios ∷ under known.Quantile quantile ∷ under known.Alpha alpha ∷ [])
    (put_field g.S.Sink.Takes more false (codes "T") (codes "T") periods refl c.put_key.ensures.text
    (respelled g.S.Sink.Takes (ap (λ n. values_text true (whole_number n ∷ [])) c.periods.ensures.value
    ∙ append-nil (decimal inst.periods))
    c.put_whole.ensures.text))
    (join_fields g.S.Sink.Takes more false (under known.ScenariosNumber scenarios ∷ [])
    (under known.Quantile quantile ∷ under known.Alpha alpha ∷ [])
    (put_field g.S.Sink.Takes more false (codes "Scenarios_number") (codes "Scenarios_number") scenarios refl
    c.put_key-2.ensures.text c.put_scenarios.ensures.text)
    (join_fields g.S.Sink.Takes more false (under known.Quantile quantile ∷ []) (under known.Alpha alpha ∷ [])
    (put_field g.S.Sink.Takes more false (codes "Quantile") (codes "Quantile") quantile refl c.put_key-3.ensures.text
    (respelled g.S.Sink.Takes (ap style.part c.quantile.ensures.value) c.put_part.ensures.text))
    (put_field g.S.Sink.Takes more false (codes "Alpha") (codes "Alpha") alpha refl c.put_key-4.ensures.text
    (respelled g.S.Sink.Takes (ap style.part c.alpha.ensures.value) c.put_part-2.ensures.text))))
