use Rattle.std.proofs.Common.{[], ◌∷◌, List, true, false, refl, sym, ◌∙◌, ap, codes, decimal}
use Rattle.std.proofs.lemmas.List.{append-nil}
use Rattle.json_grammar.specs.laws.Value.{Field}
use Rattle.json_grammar.specs.laws.Spelling.{spell}
use Rattle.instance_model.specs.Tables.{Tables, tmax, durations}
use Rattle.instance_shape.specs.declared.fault.Known.TheVariants as known
use Rattle.instance_writer.specs.text.Written.{whole_number, whole_list, workload_value, risk_value, under}
use Rattle.instance_writer.specs.Steps.{values_text}
use Rattle.instance_writer.proofs.LoopLemmas.{respelled, put_field, join_fields, whole_object}
use Rattle.instance_writer.proofs.interventions.put_tables_of.Goals as goal

pub returns-clause-text : goal.returns-clause-text
unfolding spell
returns-clause-text g c =
    let style = g.N.Numerals.style in
    let view = g.V.InstanceView.tables c.args.view.now in
    let more = g.met.S.Sink.takes_more in
    let starts = whole_number (tmax view c.args.i) in
    let delta = whole_list (durations view c.args.i) in
    let workload = workload_value style view c.args.i in
    let risk = risk_value style view c.args.i in
    let last : List Field = under known.Workload workload ∷ under known.Risk risk ∷ [] in
    let rest : List Field = under known.Delta delta ∷ last in
    whole_object g.S.Sink.Takes more (under known.Tmax starts ∷ rest) c.put.ensures.text
    (join_fields g.S.Sink.Takes more true (under known.Tmax starts ∷ []) rest
    (put_field g.S.Sink.Takes more true (codes "tmax") (codes "tmax") starts refl c.put_key.ensures.text
    (respelled g.S.Sink.Takes
    (ap (λ n. values_text true (whole_number n ∷ []))
    (c.tmax.ensures.value ∙ ap (λ (inst : Tables). tmax inst c.args.i) c.instance.ensures
    ∙ sym (c.requires.shown.starts c.args.i c.requires.number)) ∙ append-nil (decimal (tmax view c.args.i)))
    c.put_whole.ensures.text))
    (join_fields g.S.Sink.Takes more false (under known.Delta delta ∷ []) last
    (put_field g.S.Sink.Takes more false (codes "Delta") (codes "Delta") delta refl c.put_key-2.ensures.text
    c.put_durations.ensures.text)
    (join_fields g.S.Sink.Takes more false (under known.Workload workload ∷ []) (under known.Risk risk ∷ [])
    (put_field g.S.Sink.Takes more false (codes "workload") (codes "workload") workload refl c.put_key-3.ensures.text
    c.put_workload.ensures.text)
    (put_field g.S.Sink.Takes more false (codes "risk") (codes "risk") risk refl c.put_key-4.ensures.text
    c.put_risk.ensures.text)))) c.put-2.ensures.text
