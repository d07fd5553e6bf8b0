use Rattle.std.proofs.Common.{[], List, ℕ, ◌∙◌, sym, ap}
use Rattle.std.specs.Prelude.{slice_index_or}
use Rattle.std.proofs.lemmas.Option.{get_or_from_slice_get}
use Rattle.instance_model.specs.Tables.{Tables}
use Rattle.instance_writer.specs.text.Written.{intervention_value}
use Rattle.instance_writer.proofs.ViewLemmas.{same_names}
use Rattle.instance_writer.proofs.LoopLemmas.{put_field}
use Rattle.instance_writer.proofs.interventions.put_intervention.Goals as goal

pub returns-clause-text : goal.returns-clause-text
returns-clause-text g c =
    let style = g.N.Numerals.style in
    let view = g.V.InstanceView.tables c.args.view.now in
    put_field g.S.Sink.Takes g.met.S.Sink.takes_more c.args.first _ (slice_index_or view.names c.args.i [])
    (intervention_value style view c.args.i)
    (c.as_bytes.ensures.value
    ∙ sym (get_or_from_slice_get c.instance.result.now.names c.args.i _ [] c.name.ensures.value)
    ∙ ap (λ (names : List (List ℕ)). slice_index_or names c.args.i [])
    (ap (λ (inst : Tables). inst.names) c.instance.ensures
    ∙ sym (same_names (g.V.InstanceView.base c.args.view.now) view c.requires.shown)))
    c.put_key.ensures.text c.put_tables_of.ensures.text
