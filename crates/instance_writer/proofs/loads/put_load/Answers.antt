use Rattle.std.proofs.Common.{◌≡◌, Some, refl, ◌∙◌, sym, ap, arith, decimal}
use Rattle.std.specs.Prelude.{option_map}
use Rattle.fixed_num.proofs.SignedLemmas.{back_from_abs}
use Rattle.json_grammar.specs.laws.Spelling.{spell}
use Rattle.instance_writer.specs.text.Written.{count_number}
use Rattle.instance_writer.specs.Steps.{start_load}
use Rattle.instance_writer.proofs.ViewLemmas.{start_load_is}
use Rattle.instance_writer.proofs.LoopLemmas.{respelled, put_some, put_none}
use Rattle.instance_writer.proofs.loads.put_load.Goals as goal

pub returns-in-Some-clause-text : goal.returns-in-Some-clause-text
unfolding spell
returns-in-Some-clause-text g c =
    let style = g.N.Numerals.style in
    let view = g.V.InstanceView.tables c.args.view.now in
    let load = start_load style view c.args.i c.args.c c.args.t c.args.s in
    let some : load ≡ Some (count_number style c.in-Some.load) =
    start_load_is style view c.args.i c.args.c c.args.t c.args.s
    ∙ ap (option_map (count_number style)) (sym c.load_at.ensures ∙ c.in-Some.is) in
    put_some g.S.Sink.Takes g.met.S.Sink.takes_more c.args.first _ (decimal c.args.s)
    (count_number style c.in-Some.load) load refl some c.put_number_key.ensures.text
    (respelled g.S.Sink.Takes
    (ap style.count
    (back_from_abs c.count.result (omega (arith, c.count.ensures.small)) ∙ c.count.ensures.value))
    c.put_count.ensures.text)

pub returns-in-None-clause-text : goal.returns-in-None-clause-text
returns-in-None-clause-text g c =
    let style = g.N.Numerals.style in
    let view = g.V.InstanceView.tables c.args.view.now in
    put_none g.S.Sink.Takes g.met.S.Sink.takes_more c.args.first (decimal c.args.s)
    (start_load style view c.args.i c.args.c c.args.t c.args.s)
    (start_load_is style view c.args.i c.args.c c.args.t c.args.s
    ∙ ap (option_map (count_number style)) (sym c.load_at.ensures ∙ c.in-None.is))
    (g.met.S.Sink.takes_none c.args.sink.now)
