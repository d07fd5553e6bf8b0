use Rattle.std.proofs.Common.{refl, ◌∙◌, sym, decimal}
use Rattle.instance_model.specs.Tables.{tmax}
use Rattle.instance_writer.specs.text.Written.{object_of, numbered}
use Rattle.instance_writer.specs.Steps.{start_load, period_loads}
use Rattle.instance_writer.proofs.FilledLemmas.{filled_is, is_none_of}
use Rattle.instance_writer.proofs.LoopLemmas.{put_some, put_none, first_some, first_none}
use Rattle.instance_writer.proofs.loads.put_period_loads.Goals as goal

pub returns-then-not-has_load_in-clause-text : goal.returns-then-not-has_load_in-clause-text
returns-then-not-has_load_in-clause-text g c =
    let style = g.N.Numerals.style in
    let loads = period_loads style (g.V.InstanceView.tables c.args.view.now) c.args.i c.args.c c.args.t in
    put_none g.S.Sink.Takes g.met.S.Sink.takes_more c.args.first (decimal c.args.t) loads
    (is_none_of loads (sym (c.has_load_in.ensures style) ∙ c.if-not-has_load_in.true))
    (g.met.S.Sink.takes_none c.args.sink.now)

pub returns-then-not-has_load_in-clause-first : goal.returns-then-not-has_load_in-clause-first
returns-then-not-has_load_in-clause-first g c =
    let style = g.N.Numerals.style in
    let loads = period_loads style (g.V.InstanceView.tables c.args.view.now) c.args.i c.args.c c.args.t in
    first_none c.args.first (decimal c.args.t) loads
    (is_none_of loads (sym (c.has_load_in.ensures style) ∙ c.if-not-has_load_in.true))

pub returns-clause-text : goal.returns-clause-text
returns-clause-text g c =
    let style = g.N.Numerals.style in
    let view = g.V.InstanceView.tables c.args.view.now in
    let fields = numbered (tmax view c.args.i) (start_load style view c.args.i c.args.c c.args.t) in
    put_some g.S.Sink.Takes g.met.S.Sink.takes_more c.args.first _ (decimal c.args.t) (object_of fields)
    (period_loads style view c.args.i c.args.c c.args.t) refl
    (filled_is fields (sym (c.has_load_in.ensures style) ∙ c.if-not-has_load_in.false)) c.put_number_key.ensures.text
    c.put_starts_of.ensures.text

pub returns-clause-first : goal.returns-clause-first
returns-clause-first g c =
    let style = g.N.Numerals.style in
    let view = g.V.InstanceView.tables c.args.view.now in
    let fields = numbered (tmax view c.args.i) (start_load style view c.args.i c.args.c c.args.t) in
    first_some c.args.first (decimal c.args.t) (object_of fields)
    (period_loads style view c.args.i c.args.c c.args.t)
    (filled_is fields (sym (c.has_load_in.ensures style) ∙ c.if-not-has_load_in.false))
