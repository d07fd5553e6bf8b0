use Rattle.std.proofs.Common.{[], ◌∙◌, sym}
use Rattle.std.specs.Prelude.{slice_index_or}
use Rattle.std.proofs.lemmas.Option.{get_or_from_slice_get}
use Rattle.instance_writer.specs.text.Written.{resource_value}
use Rattle.instance_writer.proofs.LoopLemmas.{put_field}
use Rattle.instance_writer.proofs.resources.put_resource.Goals as goal

pub returns-clause-text : goal.returns-clause-text
returns-clause-text g c =
    let style = g.N.Numerals.style in
    let inst = c.args.inst.now in
    put_field g.S.Sink.Takes g.met.S.Sink.takes_more c.args.first _ (slice_index_or inst.resource_names c.args.c [])
    (resource_value style inst c.args.c)
    (c.as_bytes.ensures.value
    ∙ sym (get_or_from_slice_get inst.resource_names c.args.c _ [] c.resource_name.ensures.value))
    c.put_key.ensures.text c.put_bands.ensures.text
