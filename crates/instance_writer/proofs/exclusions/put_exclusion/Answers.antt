use Rattle.std.proofs.Common.{[], ◌∙◌, sym}
use Rattle.std.specs.Prelude.{slice_index_or}
use Rattle.std.proofs.lemmas.Option.{get_or_from_slice_get}
use Rattle.instance_writer.specs.text.Written.{exclusion_value}
use Rattle.instance_writer.proofs.LoopLemmas.{put_field}
use Rattle.instance_writer.proofs.exclusions.put_exclusion.Goals as goal

pub returns-clause-text : goal.returns-clause-text
returns-clause-text g c =
    let inst = c.args.inst.now in
    put_field g.S.Sink.Takes g.met.S.Sink.takes_more c.args.first _ (slice_index_or inst.exclusion_names c.args.e [])
    (exclusion_value inst c.args.e)
    (c.as_bytes.ensures.value
    ∙ sym (get_or_from_slice_get inst.exclusion_names c.args.e _ [] c.exclusion_name.ensures.value))
    c.put_key.ensures.text c.put_exclusion_words.ensures.text
