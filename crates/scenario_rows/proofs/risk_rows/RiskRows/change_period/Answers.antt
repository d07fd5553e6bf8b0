use Rattle.std.proofs.Common.{◌≡◌, ◌∙◌, ◌-◌, ◌<◌, ◌≤◌, sym, ap, subst, arith, ℕ, ◌++◌, take, drop}
use Rattle.std.proofs.Common.{All, length}
use Rattle.std.proofs.Math.ListN.{set}
use Rattle.std.proofs.lemmas.List.Elements.{All-set}
use Rattle.fixed_num.proofs.SumLemmas.{written_back}
use Rattle.scenario_rows.specs.RiskStates.{RiskState, PeriodState}
use Rattle.scenario_rows.proofs.RowLemmas.{length-changed_sums}
use Rattle.scenario_rows.proofs.ScoreLemmas.{part_of_small, scored_small, IsScored-set, exchange_small}
use Rattle.scenario_rows.proofs.risk_rows.RiskRows.change_period.Goals as goal

pub minus-requires : goal.minus-requires
minus-requires g c =
    let a = part_of_small _ c.part-old.ensures.sound in
    let s = scored_small c.self.inside.periods.items c.self.inside.score c.self.invariant.scored in
    (exchange_small c.self.inside.score c.part-old.result c.part-old.result s (rw c.part-old.ensures.value a)
    (rw c.part-old.ensures.value a)).0

pub plus-self-inside-requires : goal.plus-self-inside-requires
plus-self-inside-requires g c =
    let a = part_of_small _ c.part-old.ensures.sound in
    let b = part_of_small _ c.part-new.ensures.sound in
    let s = scored_small c.self.inside.periods.items c.self.inside.score c.self.invariant.scored in
    rw c.minus.ensures
    ((exchange_small c.self.inside.score c.part-old.result c.part-new.result s (rw c.part-old.ensures.value a)
    (rw c.part-new.ensures.value b)).1)

pub invariant_of-self : goal.invariant_of-self
invariant_of-self g c =
    let within : c.args.t - 1 < length c.self.inside.periods.items = omega (
      arith,
      ap (λ (v : RiskState). length v.periods) c.self.view_is,
      c.requires.each,
      c.requires.can.from,
      c.requires.can.to,
    ) in
    let s = IsScored-set c.self.inside.periods.items c.self.inside.score (c.args.t - 1) c.index_mut-period.result.now
    c.change.new.self c.part-old.result c.part-new.result c.self.invariant.scored within
    c.index_mut-period.ensures.value c.part-old.ensures.value c.part-new.ensures.sound c.part-new.ensures.value in
    let scratch = c.self.inside.scratch.items in
    let same : length c.change.new.scratch ≡ c.self.inside.scratch.len =
    omega (arith, c.change.ensures.room, ap length c.deref_mut.ensures.value, c.self.inside.scratch.ok.0) in
    let size : length (take c.self.inside.scratch.len
    (c.change.new.scratch ++ drop (length c.change.new.scratch) scratch)) ≡ length scratch =
    ap length (written_back scratch c.change.new.scratch c.self.inside.scratch.len same)
    ∙ omega (arith, same, c.self.inside.scratch.ok.0) in
    let old = c.index_mut-period.result.now in
    let fits = subst (λ (p : PeriodState). length p.sums ≤ length scratch) (sym c.index_mut-period.ensures.value)
    (c.self.invariant.room (c.args.t - 1) old within) in
    let each = ap (λ (p : PeriodState). length p.sums) c.change.ensures.value
    ∙ length-changed_sums c.args.inst.now c.args.change c.args.i c.args.s c.args.t old.sums in
    record {
      scored = rw (c.plus-self-inside.ensures, c.minus.ensures) s;
      room = subst
          (λ (n : ℕ). All (λ p. length p.sums ≤ n) (set c.self.inside.periods.items (c.args.t - 1) c.change.new.self))
          (sym size) (All-set (λ p. length p.sums ≤ length scratch) c.self.inside.periods.items (c.args.t - 1)
          c.change.new.self (omega (arith, each, fits)) c.self.invariant.room);
      values_room = c.self.invariant.values_room ∙ sym size;
    }
