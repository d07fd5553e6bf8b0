use Rattle.std.proofs.Common.{refl, ◌≡◌, ◌∙◌, ◌+◌, ◌<◌, ◌≤◌, sym, ap, arith, ℕ, List, [], ◌∷◌, ◌++◌, length}
use Rattle.std.proofs.Common.{map, Some}
use Rattle.std.specs.List.{range_with_len}
use Rattle.std.proofs.lemmas.List.FromFn.{map-range_with_len_more, length-map-range_with_len}
use Rattle.instance_model.specs.Tables.{scenarios_of}
use Rattle.scenario_rows.specs.RiskStates.{PeriodState, period_of}
use Rattle.scenario_rows.proofs.ScoreLemmas.{part_of_small, scored_small, IsScored-none, IsScored-push, exchange_small}
use Rattle.scenario_rows.proofs.OverLemmas.{IsOver-starts, IsOver-same, room_for}
use Rattle.scenario_rows.proofs.risk_rows.rows_of.Goals as goal

pub loop-u-init : goal.loop-u-init
loop-u-init g c = record {
  made = c.in_ok-periods.ensures.items;
  scored =
      rw (c.in_ok-periods.ensures.items, c.zero-score.ensures) IsScored-none;
}

pub plus-score-requires : goal.plus-score-requires
plus-score-requires g c =
    let a = part_of_small _ c.part.ensures.sound in
    let s = scored_small c.loop-u.periods.items c.loop-u.score c.loop-u.invariant.scored in
    (exchange_small c.loop-u.score c.part.result c.part.result s (rw c.part.ensures.value a)
    (rw c.part.ensures.value a)).2

pub loop-u-preserved : goal.loop-u-preserved
loop-u-preserved g c =
    let board = map Some c.args.starts.now in
    let f : ℕ → PeriodState = λ k. period_of c.args.inst.now board (k + 1) in
    let few : length c.loop-u.periods.items < 512 = omega (
      arith,
      ap length c.loop-u.invariant.made,
      length-map-range_with_len f 0 c.loop-u.u,
      c.periods-u-end.ensures.few,
    ) in
    let s = IsScored-push c.loop-u.periods.items c.loop-u.score c.part.result c.in_ok-period.period
    c.loop-u.invariant.scored few c.part.ensures.sound c.part.ensures.value in
    record {
      made = c.in_ok-push.ensures.items
          ∙ ap (λ (ps : List PeriodState). ps ++ c.in_ok-period.period ∷ []) c.loop-u.invariant.made
          ∙ ap (λ (p : PeriodState). map f (range_with_len 0 c.loop-u.u) ++ p ∷ []) c.in_ok-period.ensures
          ∙ sym (map-range_with_len_more f 0 c.loop-u.u c.loop-u.u (omega arith));
      scored = rw (c.in_ok-push.ensures.items, c.plus-score.ensures) s;
    }

pub returns-clause-over : goal.returns-clause-over
returns-clause-over g c =
    let e : c.loop-u.u ≡ c.args.inst.now.periods = omega (arith, c.periods-u-end.ensures.value) in
    let made = c.loop-u.invariant.made
    ∙ ap (λ (n : ℕ). map (λ k. period_of c.args.inst.now (map Some c.args.starts.now) (k + 1)) (range_with_len 0 n))
    e in
    IsOver-same c.args.inst.now c.in_ok-board.board.items (map Some c.args.starts.now) c.loop-u.periods.items
    c.loop-u.periods.items c.in_ok-board.ensures refl
    (IsOver-starts c.args.inst.now c.args.starts.now c.loop-u.periods.items c.requires.starts made)

pub invariant_of-result : goal.invariant_of-result
invariant_of-result g c =
    let most : (t : ℕ) → 1 ≤ t → t ≤ c.args.inst.now.periods
    → scenarios_of c.args.inst.now t ≤ length c.in_ok-scratch.scratch.items =
    λ t from to. omega
    (arith, c.most_scenarios-most.ensures t from to, c.in_ok-scratch.ensures.len, c.in_ok-scratch.scratch.ok.0) in
    record {
      scored = c.loop-u.invariant.scored;
      room = room_for c.args.inst.now (map Some c.args.starts.now) c.loop-u.periods.items c.loop-u.u
          (length c.in_ok-scratch.scratch.items) c.loop-u.invariant.made
          (omega (arith, c.periods-u-end.ensures.value)) most;
      values_room = omega (
        arith,
        c.in_ok-values.ensures.len,
        c.in_ok-values.values.ok.0,
        c.in_ok-scratch.ensures.len,
        c.in_ok-scratch.scratch.ok.0,
      );
    }
