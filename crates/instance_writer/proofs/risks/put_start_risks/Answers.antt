use Rattle.std.proofs.Common.{◌+◌, refl, ◌∙◌, sym, ap, decimal}
use Rattle.std.specs.Prelude.{ℤ, List}
use Rattle.fixed_num.specs.Sums.{list_of}
use Rattle.json_grammar.specs.laws.Spelling.{spell}
use Rattle.instance_model.specs.Tables.{scenarios_of, risk_of}
use Rattle.instance_writer.specs.text.Written.{count_list, risks_of}
use Rattle.instance_writer.proofs.LoopLemmas.{respelled, put_some, put_none, first_some, first_none}
use Rattle.instance_writer.proofs.FilledLemmas.{is_none_of}
use Rattle.instance_writer.proofs.ViewLemmas.{risks_some, risks_running}
use Rattle.instance_writer.proofs.risks.put_start_risks.Goals as goal

pub returns-then-not-is_running-clause-text : goal.returns-then-not-is_running-clause-text
returns-then-not-is_running-clause-text g c =
    let style = g.N.Numerals.style in
    let view = g.V.InstanceView.tables c.args.view.now in
    let risks = risks_of style view c.args.i c.args.t c.args.s in
    put_none g.S.Sink.Takes g.met.S.Sink.takes_more c.args.first (decimal c.args.s) risks
    (is_none_of risks
    (risks_some style view c.args.i c.args.t c.args.s ∙ sym c.is_running.ensures ∙ c.if-not-is_running.true))
    (g.met.S.Sink.takes_none c.args.sink.now)

pub returns-then-not-is_running-clause-first : goal.returns-then-not-is_running-clause-first
returns-then-not-is_running-clause-first g c =
    let style = g.N.Numerals.style in
    let view = g.V.InstanceView.tables c.args.view.now in
    let risks = risks_of style view c.args.i c.args.t c.args.s in
    first_none c.args.first (decimal c.args.s) risks
    (is_none_of risks
    (risks_some style view c.args.i c.args.t c.args.s ∙ sym c.is_running.ensures ∙ c.if-not-is_running.true))

pub returns-clause-text : goal.returns-clause-text
returns-clause-text g c =
    let style = g.N.Numerals.style in
    let view = g.V.InstanceView.tables c.args.view.now in
    let risks = list_of (scenarios_of view c.args.t) (λ k. risk_of view c.args.i c.args.s c.args.t (k + 1)) in
    put_some g.S.Sink.Takes g.met.S.Sink.takes_more c.args.first _ (decimal c.args.s) (count_list style risks)
    (risks_of style view c.args.i c.args.t c.args.s) refl
    (risks_running style view c.args.i c.args.t c.args.s (sym c.is_running.ensures ∙ c.if-not-is_running.false))
    c.put_number_key.ensures.text
    (respelled g.S.Sink.Takes (ap (λ (zs : List ℤ). spell (count_list style zs)) c.risks_of_run.ensures)
    c.put_counts.ensures.text)

pub returns-clause-first : goal.returns-clause-first
returns-clause-first g c =
    let style = g.N.Numerals.style in
    let view = g.V.InstanceView.tables c.args.view.now in
    let risks = list_of (scenarios_of view c.args.t) (λ k. risk_of view c.args.i c.args.s c.args.t (k + 1)) in
    first_some c.args.first (decimal c.args.s) (count_list style risks)
    (risks_of style view c.args.i c.args.t c.args.s)
    (risks_running style view c.args.i c.args.t c.args.s (sym c.is_running.ensures ∙ c.if-not-is_running.false))
