use Rattle.std.proofs.Common.{refl, ◌≡◌, ◌∙◌, ◌+◌, ◌-◌, ◌*◌, ◌≤◌, sym, ap, subst, arith, ℕ, List, Option, true}
use Rattle.std.specs.Prelude.{IfSome}
use Rattle.std.proofs.Math.ListN.{set}
use Rattle.duration_calendar.specs.declared.window.Window.{Window}
use Rattle.duration_calendar.proofs.WindowLemmas.{in_window_from}
use Rattle.instance_model.specs.Tables.{in_run, scenarios_of, delta_of}
use Rattle.scenario_rows.specs.RiskStates.{RiskState}
use Rattle.scenario_rows.specs.Bounds.{most_scenarios, period_bound}
use Rattle.scenario_rows.specs.Changes.{AreChangedBelow}
use Rattle.scenario_rows.specs.RunChanges.{start_after}
use Rattle.scenario_rows.proofs.OverLemmas.{AreChangedBelow-start, CanChange-at, AreChangedBelow-more, IsOver-changed}
use Rattle.scenario_rows.proofs.OverLemmas.{IsOver-same, scenarios_of-most, cost_none, cost_run}
use Rattle.scenario_rows.proofs.risk_rows.RiskRows.change_run.Goals as goal

pub loop-t-init : goal.loop-t-init
loop-t-init g c =
    let from : c.run-window.result.from ≡ c.args.s = ap (λ (w : Window). w.from) c.run-window.ensures.value in
    record {
      board = refl;
      periods = subst
          (λ (t : ℕ). AreChangedBelow c.args.inst.now c.args.self.now.board
          (set c.args.self.now.board c.args.i (start_after c.args.change c.args.s)) t c.args.self.now.periods)
          (sym from)
          (AreChangedBelow-start c.args.change c.args.inst.now c.args.self.now c.args.i c.args.s c.requires.over
          c.requires.number c.requires.before);
      cost = cost_none g.R.Row.most c.args.steps.now (c.run-window.result.from - c.args.s)
          (most_scenarios c.args.inst.now);
      forward = omega arith;
    }

pub change_period-requires-clause-can : goal.change_period-requires-clause-can
change_period-requires-clause-can g c =
    let running : in_run c.args.inst.now c.args.i c.args.s c.loop-t.t ≡ true =
    sym (c.run-window.ensures.periods c.loop-t.t)
    ∙ in_window_from c.run-window.result c.loop-t.t (omega arith) (omega arith) in
    CanChange-at c.args.change c.args.inst.now c.args.self.now.board c.args.i c.args.s c.loop-t.t c.loop-t.self.periods
    c.fits.ensures c.requires.over.each c.requires.number c.requires.before c.requires.allowed running
    (omega (arith, c.run-window.ensures.starts)) (omega (arith, c.run-window.ensures.ends))
    c.loop-t.invariant.periods

pub loop-t-preserved : goal.loop-t-preserved
loop-t-preserved g c =
    let inst = c.args.inst.now in
    let t = c.loop-t.t in
    let from : 1 ≤ t = omega (arith, c.run-window.ensures.starts) in
    let to : t ≤ inst.periods = omega (arith, c.run-window.ensures.ends) in
    let running : in_run inst c.args.i c.args.s t ≡ true =
    sym (c.run-window.ensures.periods t) ∙ in_window_from c.run-window.result t (omega arith) (omega arith) in
    let next : t - c.args.s + 1 ≡ t + 1 - c.args.s =
    omega (arith, ap (λ (w : Window). w.from) c.run-window.ensures.value) in
    record {
      board = c.change_period.ensures.board ∙ c.loop-t.invariant.board;
      periods = AreChangedBelow-more c.args.change inst c.args.self.now.board c.args.i c.args.s t c.loop-t.self.periods
          c.change_period.new.self.periods c.requires.over.each c.requires.number c.requires.before running from to
          c.loop-t.invariant.periods c.change_period.ensures.periods;
      cost = subst
          (λ (d : ℕ). IfSome g.R.Row.most
          (λ most. c.change_period.new.steps ≤ c.args.steps.now + d * period_bound most (most_scenarios inst))) next
          (cost_run g.R.Row.most c.args.steps.now c.loop-t.steps c.change_period.new.steps (t - c.args.s)
          (scenarios_of inst t) (most_scenarios inst)
          (scenarios_of-most inst t c.fits.ensures from to) g.met.R.Row.grows
          c.loop-t.invariant.cost c.change_period.ensures.cost);
      forward = omega (arith, c.loop-t.invariant.forward, c.change_period.ensures.forward);
    }

pub returns-clause-over : goal.returns-clause-over
returns-clause-over g c =
    let inst = c.args.inst.now in
    let past : c.args.s + delta_of inst c.args.i c.args.s ≤ c.loop-t.t =
    omega (arith, ap (λ (w : Window). w.past) c.run-window.ensures.value) in
    let over = IsOver-changed c.args.change inst c.args.self.now c.args.i c.args.s c.loop-t.t c.loop-t.self.periods
    c.requires.over c.requires.number c.requires.before c.requires.allowed past c.loop-t.invariant.periods in
    let board : set c.self.inside.board.items c.args.i c.start_after.result
    ≡ set c.args.self.now.board c.args.i (start_after c.args.change c.args.s) =
    ap (λ (b : List (Option ℕ)). set b c.args.i c.start_after.result) (ap (λ (v : RiskState). v.board) c.self.view_is
    ∙ c.loop-t.invariant.board) ∙ ap (set c.args.self.now.board c.args.i) c.start_after.ensures in
    IsOver-same inst _ _ c.self.inside.periods.items c.loop-t.self.periods board
    (ap (λ (v : RiskState). v.periods) c.self.view_is) over
