use Rattle.std.proofs.Common.{[], ◌∷◌, List, Some, true, false, refl, ◌∙◌, ap, codes}
use Rattle.json_grammar.specs.laws.Value.{Field}
use Rattle.json_grammar.specs.laws.Spelling.{spell}
use Rattle.instance_model.specs.Tables.{Tables}
use Rattle.instance_shape.specs.declared.fault.Known.TheVariants as known
use Rattle.instance_writer.specs.text.Written.{object_of, named, under, intervention_value}
use Rattle.instance_writer.specs.Steps.{fields_text, number_fields}
use Rattle.instance_writer.proofs.LoopLemmas.{respelled, put_field, join_fields, whole_object}
use Rattle.instance_writer.proofs.RootLemmas.{resources, seasons, exclusions, same_resource_values, same_season_values}
use Rattle.instance_writer.proofs.RootLemmas.{same_exclusion_values, same_number_fields}
use Rattle.instance_writer.proofs.write.put_instance.Goals as goal

pub returns-clause-text : goal.returns-clause-text
returns-clause-text g c =
    let style = g.N.Numerals.style in
    let inst = g.V.InstanceView.base c.args.view.now in
    let view = g.V.InstanceView.tables c.args.view.now in
    let shown = c.requires.shown in
    let more = g.met.S.Sink.takes_more in
    let all = object_of (named view.names (λ i. Some (intervention_value style view i))) in
    let numbers : List Field = number_fields style view in
    let others : List Field = under known.Exclusions (exclusions view) ∷ numbers in
    let most : List Field = under known.Interventions all ∷ others in
    let rest : List Field = under known.Seasons (seasons view) ∷ most in
    whole_object g.S.Sink.Takes more (under known.Resources (resources style view) ∷ rest) c.put.ensures.text
    (join_fields g.S.Sink.Takes more true (under known.Resources (resources style view) ∷ []) rest
    (put_field g.S.Sink.Takes more true (codes "Resources") (codes "Resources") (resources style view) refl
    c.put_key.ensures.text
    (respelled g.S.Sink.Takes
    (ap (λ (t : Tables). spell (resources style t)) c.instance.ensures
    ∙ ap spell (same_resource_values inst view shown style))
    c.put_resources.ensures.text))
    (join_fields g.S.Sink.Takes more false (under known.Seasons (seasons view) ∷ []) most
    (put_field g.S.Sink.Takes more false (codes "Seasons") (codes "Seasons") (seasons view) refl
    c.put_key-2.ensures.text
    (respelled g.S.Sink.Takes
    (ap (λ (t : Tables). spell (seasons t)) c.instance-2.ensures ∙ ap spell (same_season_values inst view shown))
    c.put_seasons.ensures.text))
    (join_fields g.S.Sink.Takes more false (under known.Interventions all ∷ []) others
    (put_field g.S.Sink.Takes more false (codes "Interventions") (codes "Interventions") all refl
    c.put_key-3.ensures.text c.put_interventions.ensures.text)
    (join_fields g.S.Sink.Takes more false (under known.Exclusions (exclusions view) ∷ []) numbers
    (put_field g.S.Sink.Takes more false (codes "Exclusions") (codes "Exclusions") (exclusions view) refl
    c.put_key-4.ensures.text
    (respelled g.S.Sink.Takes
    (ap (λ (t : Tables). spell (exclusions t)) c.instance-3.ensures ∙ ap spell (same_exclusion_values inst view shown))
    c.put_exclusions.ensures.text))
    (respelled g.S.Sink.Takes
    (ap (λ (t : Tables). fields_text false (number_fields style t)) c.instance-4.ensures
    ∙ ap (fields_text false) (same_number_fields inst view shown style))
    c.put_numbers.ensures.text))))) c.put-2.ensures.text
