use Rattle.std.proofs.Common.{◌≡◌, ◌∙◌, ◌+◌, ◌≤◌, sym, ap, subst, arith, ℕ, ℤ, ◌+ℤ◌, ◌≤ℤ◌, List, length, All}
use Rattle.std.proofs.lemmas.List.FromFn.{length-map-range_with_len}
use Rattle.fixed_num.proofs.SignedLemmas.{back_from_abs}
use Rattle.instance_model.specs.Values.{score_of}
use Rattle.scenario_rows.specs.RiskStates.{PeriodState, RiskState, period_of, IsOver}
use Rattle.scenario_rows.specs.RunChanges.{CanChangeRuns, board_after}
use Rattle.scenario_rows.specs.Shifts.{CanJudge, rise_from}
use Rattle.scenario_rows.proofs.JudgeLemmas.{CanJudge-over, score_risen, none_of, limit_back}
use Rattle.scenario_rows.proofs.ScoreLemmas.{scored_small}
use Rattle.scenario_rows.proofs.risk_rows.RiskRows.score_below.Goals as goal

pub score_from-requires-clause-can : goal.score_from-requires-clause-can
score_from-requires-clause-can g c =
    let inst = c.args.inst.now in
    let runs = c.args.runs.now in
    let v : RiskState = record { board = c.self.inside.board.items; periods = c.self.inside.periods.items } in
    let over : IsOver inst v = subst (IsOver inst) (sym c.self.view_is) c.requires.over in
    let can : CanChangeRuns inst v.board runs =
    subst (λ (w : RiskState). CanChangeRuns inst w.board runs) (sym c.self.view_is) c.requires.can in
    let each : length v.periods ≡ inst.periods = ap length over.periods
    ∙ length-map-range_with_len (λ u. period_of inst v.board (u + 1)) 0 inst.periods in
    let size : length c.self.inside.scratch.items ≡ length c.deref_mut.result.now = omega
    (arith, ap length c.deref_mut.ensures.value, c.self.inside.scratch.ok.0) in
    let room = subst (λ (n : ℕ). All (λ p. length p.sums ≤ n) v.periods) size c.self.invariant.room in
    subst (λ (ps : List PeriodState). CanJudge inst runs ps (length c.deref_mut.result.now))
    (sym c.deref.ensures.value)
    (CanJudge-over inst v runs (length c.deref_mut.result.now) c.fits.ensures over can each
    c.fits.ensures.few_periods room)

pub score_from-requires-clause-small : goal.score_from-requires-clause-small
score_from-requires-clause-small g c =
    let s = scored_small c.self.inside.periods.items c.self.inside.score c.self.invariant.scored in
    omega (arith, s)

pub returns-in_err-after-clause-none : goal.returns-in_err-after-clause-none
returns-in_err-after-clause-none g c =
    let inst = c.args.inst.now in
    let runs = c.args.runs.now in
    let v : RiskState = record { board = c.self.inside.board.items; periods = c.self.inside.periods.items } in
    let over : IsOver inst v = subst (IsOver inst) (sym c.self.view_is) c.requires.over in
    let can : CanChangeRuns inst v.board runs =
    subst (λ (w : RiskState). CanChangeRuns inst w.board runs) (sym c.self.view_is) c.requires.can in
    let sum : c.self.inside.score +ℤ rise_from inst runs c.deref.result.now 1
    ≡ score_of inst (board_after runs c.args.self.now.board) =
    ap (λ (ps : List PeriodState). c.self.inside.score +ℤ rise_from inst runs ps 1) c.deref.ensures.value
    ∙ score_risen inst v runs c.self.inside.score c.self.invariant.scored over can
    ∙ ap (λ (w : RiskState). score_of inst (board_after runs w.board)) c.self.view_is in
    let h = subst (λ (l : ℤ). l ≤ℤ (c.self.inside.score +ℤ rise_from inst runs c.deref.result.now 1))
    (limit_back c.args.limit c.ranges.limit) c.in_err-after.ensures.none in
    none_of c.from_residual.result _ (subst (λ (x : ℤ). c.args.limit ≤ℤ x) sum h)

pub returns-clause-value : goal.returns-clause-value
returns-clause-value g c =
    let inst = c.args.inst.now in
    let runs = c.args.runs.now in
    let v : RiskState = record { board = c.self.inside.board.items; periods = c.self.inside.periods.items } in
    let over : IsOver inst v = subst (IsOver inst) (sym c.self.view_is) c.requires.over in
    let can : CanChangeRuns inst v.board runs =
    subst (λ (w : RiskState). CanChangeRuns inst w.board runs) (sym c.self.view_is) c.requires.can in
    back_from_abs c.number.result (omega (arith, c.number.ensures.small)) ∙ c.number.ensures.value
    ∙ c.in_ok-after.ensures.value
    ∙ ap (λ (ps : List PeriodState). c.self.inside.score +ℤ rise_from inst runs ps 1) c.deref.ensures.value
    ∙ score_risen inst v runs c.self.inside.score c.self.invariant.scored over can
    ∙ ap (λ (w : RiskState). score_of inst (board_after runs w.board)) c.self.view_is
