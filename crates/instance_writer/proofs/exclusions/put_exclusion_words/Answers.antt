use Rattle.std.proofs.Common.{[], ◌∷◌, true, false, map, ◌∙◌, sym, ap, List, ℕ}
use Rattle.std.specs.Prelude.{slice_index_or}
use Rattle.std.proofs.lemmas.Option.{get_or_from_slice_get}
use Rattle.json_grammar.specs.laws.Value.{Value, values_of}
use Rattle.json_grammar.specs.laws.Spelling.{spell}
use Rattle.instance_model.specs.declared.parts.Exclusion.{Exclusion}
use Rattle.instance_writer.specs.text.Written.{exclusion_words}
use Rattle.instance_writer.specs.Steps.{values_text}
use Rattle.instance_writer.proofs.LoopLemmas.{respelled, join_values, whole_list}
use Rattle.instance_writer.proofs.exclusions.put_exclusion_words.Goals as goal

pub returns-clause-text : goal.returns-clause-text
returns-clause-text g c =
    let inst = c.args.inst.now in
    let more = g.met.S.Sink.takes_more in
    let x = c.exclusion-exclusion.result in
    let first = Value.text (slice_index_or inst.names x.first []) in
    let second = Value.text (slice_index_or inst.names x.second []) in
    let season = Value.text (slice_index_or inst.season_names x.season []) in
    respelled g.S.Sink.Takes
    (ap (λ (y : Exclusion). spell (Value.list (values_of (map Value.text (exclusion_words inst y)))))
    c.exclusion-exclusion.ensures.value)
    (whole_list g.S.Sink.Takes more (first ∷ second ∷ season ∷ []) c.put.ensures.text
    (join_values g.S.Sink.Takes more true (first ∷ []) (second ∷ season ∷ [])
    (respelled g.S.Sink.Takes
    (ap (λ (s : List ℕ). values_text true (Value.text s ∷ []))
    (c.as_bytes.ensures.value ∙ sym (get_or_from_slice_get inst.names x.first _ [] c.name.ensures.value)))
    c.put_text.ensures.text)
    (join_values g.S.Sink.Takes more false (second ∷ []) (season ∷ [])
    (respelled g.S.Sink.Takes
    (ap (λ (s : List ℕ). values_text false (Value.text s ∷ []))
    (c.as_bytes-2.ensures.value ∙ sym (get_or_from_slice_get inst.names x.second _ [] c.name-2.ensures.value)))
    c.put_text-2.ensures.text)
    (respelled g.S.Sink.Takes
    (ap (λ (s : List ℕ). values_text false (Value.text s ∷ []))
    (c.as_bytes-3.ensures.value
    ∙ sym (get_or_from_slice_get inst.season_names x.season _ [] c.season_name.ensures.value)))
    c.put_text-3.ensures.text))) c.put-2.ensures.text)
