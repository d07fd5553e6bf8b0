use Rattle.std.proofs.Common.{refl, ◌∙◌, sym, decimal}
use Rattle.instance_model.specs.Tables.{tmax}
use Rattle.instance_writer.specs.text.Written.{object_of, numbered, risks_of}
use Rattle.instance_writer.specs.Steps.{period_risks}
use Rattle.instance_writer.proofs.FilledLemmas.{filled_is, is_none_of}
use Rattle.instance_writer.proofs.LoopLemmas.{put_some, put_none, first_some, first_none}
use Rattle.instance_writer.proofs.risks.put_period_risks.Goals as goal

pub returns-then-not-has_risks_in-clause-text : goal.returns-then-not-has_risks_in-clause-text
returns-then-not-has_risks_in-clause-text g c =
    let style = g.N.Numerals.style in
    let risks = period_risks style (g.V.InstanceView.tables c.args.view.now) c.args.i c.args.t in
    put_none g.S.Sink.Takes g.met.S.Sink.takes_more c.args.first (decimal c.args.t) risks
    (is_none_of risks (sym (c.has_risks_in.ensures style) ∙ c.if-not-has_risks_in.true))
    (g.met.S.Sink.takes_none c.args.sink.now)

pub returns-then-not-has_risks_in-clause-first : goal.returns-then-not-has_risks_in-clause-first
returns-then-not-has_risks_in-clause-first g c =
    let style = g.N.Numerals.style in
    let risks = period_risks style (g.V.InstanceView.tables c.args.view.now) c.args.i c.args.t in
    first_none c.args.first (decimal c.args.t) risks
    (is_none_of risks (sym (c.has_risks_in.ensures style) ∙ c.if-not-has_risks_in.true))

pub returns-clause-text : goal.returns-clause-text
returns-clause-text g c =
    let style = g.N.Numerals.style in
    let view = g.V.InstanceView.tables c.args.view.now in
    let fields = numbered (tmax view c.args.i) (risks_of style view c.args.i c.args.t) in
    put_some g.S.Sink.Takes g.met.S.Sink.takes_more c.args.first _ (decimal c.args.t) (object_of fields)
    (period_risks style view c.args.i c.args.t) refl
    (filled_is fields (sym (c.has_risks_in.ensures style) ∙ c.if-not-has_risks_in.false)) c.put_number_key.ensures.text
    c.put_starts.ensures.text

pub returns-clause-first : goal.returns-clause-first
returns-clause-first g c =
    let style = g.N.Numerals.style in
    let view = g.V.InstanceView.tables c.args.view.now in
    let fields = numbered (tmax view c.args.i) (risks_of style view c.args.i c.args.t) in
    first_some c.args.first (decimal c.args.t) (object_of fields) (period_risks style view c.args.i c.args.t)
    (filled_is fields (sym (c.has_risks_in.ensures style) ∙ c.if-not-has_risks_in.false))
