use Rattle.std.proofs.Common.{[], List, ℕ, ◌∙◌, sym, ap}
use Rattle.std.specs.Prelude.{slice_index_or}
use Rattle.std.proofs.lemmas.Option.{get_or_from_slice_get}
use Rattle.instance_model.specs.Tables.{Tables}
use Rattle.instance_writer.specs.text.Written.{object_of, numbered, workload_of}
use Rattle.instance_writer.specs.Steps.{period_loads}
use Rattle.instance_writer.proofs.FilledLemmas.{filled_is, is_none_of}
use Rattle.instance_writer.proofs.ViewLemmas.{same_resources}
use Rattle.instance_writer.proofs.LoopLemmas.{put_some, put_none, first_some, first_none}
use Rattle.instance_writer.proofs.loads.put_resource_loads.Goals as goal

pub returns-then-not-has_load-clause-text : goal.returns-then-not-has_load-clause-text
returns-then-not-has_load-clause-text g c =
    let style = g.N.Numerals.style in
    let view = g.V.InstanceView.tables c.args.view.now in
    put_none g.S.Sink.Takes g.met.S.Sink.takes_more c.args.first (slice_index_or view.resource_names c.args.c [])
    (workload_of style view c.args.i c.args.c)
    (is_none_of (workload_of style view c.args.i c.args.c) (sym (c.has_load.ensures style) ∙ c.if-not-has_load.true))
    (g.met.S.Sink.takes_none c.args.sink.now)

pub returns-then-not-has_load-clause-first : goal.returns-then-not-has_load-clause-first
returns-then-not-has_load-clause-first g c =
    let style = g.N.Numerals.style in
    let view = g.V.InstanceView.tables c.args.view.now in
    first_none c.args.first (slice_index_or view.resource_names c.args.c [])
    (workload_of style view c.args.i c.args.c)
    (is_none_of (workload_of style view c.args.i c.args.c) (sym (c.has_load.ensures style) ∙ c.if-not-has_load.true))

pub returns-clause-text : goal.returns-clause-text
returns-clause-text g c =
    let style = g.N.Numerals.style in
    let view = g.V.InstanceView.tables c.args.view.now in
    let fields = numbered view.periods (period_loads style view c.args.i c.args.c) in
    put_some g.S.Sink.Takes g.met.S.Sink.takes_more c.args.first _ (slice_index_or view.resource_names c.args.c [])
    (object_of fields) (workload_of style view c.args.i c.args.c)
    (c.as_bytes.ensures.value
    ∙ sym (get_or_from_slice_get c.instance.result.now.resource_names c.args.c _ [] c.resource_name.ensures.value)
    ∙ ap (λ (names : List (List ℕ)). slice_index_or names c.args.c [])
    (ap (λ (inst : Tables). inst.resource_names) c.instance.ensures
    ∙ sym (same_resources (g.V.InstanceView.base c.args.view.now) view c.requires.shown)))
    (filled_is fields (sym (c.has_load.ensures style) ∙ c.if-not-has_load.false)) c.put_key.ensures.text
    c.put_periods_of.ensures.text

pub returns-clause-first : goal.returns-clause-first
returns-clause-first g c =
    let style = g.N.Numerals.style in
    let view = g.V.InstanceView.tables c.args.view.now in
    let fields = numbered view.periods (period_loads style view c.args.i c.args.c) in
    first_some c.args.first (slice_index_or view.resource_names c.args.c []) (object_of fields)
    (workload_of style view c.args.i c.args.c)
    (filled_is fields (sym (c.has_load.ensures style) ∙ c.if-not-has_load.false))
