use Rattle.std.proofs.Common.{rules, ◌∙◌, ◌+◌, ◌++◌, take, drop, sym, ap}
use Rattle.std.specs.List.{flat_map}
use Rattle.plan_desk.specs.Written.Way.{writing}
use Rattle.plan_desk.proofs.Written.{begins}
use Rattle.lagrange_bound.specs.Prices.{PriceList}
use Rattle.certificate_text.specs.Text.{list_lines}
use Rattle.certificate_text.proofs.WriteLemmas.{step_on, step_stops, flat_step, flat_rest}
use Rattle.certificate_text.proofs.write.write_lists.Goals as goal

pub loop-prices-init : goal.loop-prices-init
loop-prices-init g c = begins writing (g.D.Desk.shows c.args.desk.now)

pub returns-in_err-write_list : goal.returns-in_err-write_list
returns-in_err-write_list g c =
    let lines = list_lines c.args.inst.now in
    let lists = c.args.lists.now in
    let n = c.loop-prices.prices-index in
    let item = c.prices-item.result in
    step_stops (flat_map lines (take n lists)) (lines item) (flat_map lines (take (n + 1) lists))
    (flat_step lines lists n item c.loop-prices-test.true
    ∙ ap (λ (p : PriceList). flat_map lines (take n lists) ++ lines p) (sym c.prices-item.is))
    c.from_residual.result (search rules) (flat_map lines (drop (n + 1) lists)) (flat_map lines lists)
    (flat_rest lines lists n item c.loop-prices-test.true)
    c.loop-prices.invariant c.in_err-write_list.ensures

pub loop-prices-preserved : goal.loop-prices-preserved
loop-prices-preserved g c =
    let lines = list_lines c.args.inst.now in
    let lists = c.args.lists.now in
    let n = c.loop-prices.prices-index in
    let item = c.prices-item.result in
    step_on (flat_map lines (take n lists)) (lines item) (flat_map lines (take (n + 1) lists))
    (flat_step lines lists n item c.loop-prices-test.true
    ∙ ap (λ (p : PriceList). flat_map lines (take n lists) ++ lines p) (sym c.prices-item.is))
    c.loop-prices.invariant c.in_ok-write_list.ensures
