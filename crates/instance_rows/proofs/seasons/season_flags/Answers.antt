use Rattle.std.proofs.Common.{◌≡◌, ◌+◌, ◌++◌, ◌∷◌, [], ◌-◌, Bool, ℕ, Vec, Global, get_or, length, take, set, true, sym}
use Rattle.std.proofs.Common.{◌∙◌, ap, arith}
use Rattle.std.proofs.lemmas.List.{take_more}
use Rattle.instance_shape.specs.FileTables.{lists_below}
use Rattle.instance_rows.specs.RowTables.{in_season}
use Rattle.instance_rows.proofs.SeasonLemmas.{season_put, season_skip, season_none, length-flags}
use Rattle.instance_rows.proofs.seasons.season_flags.Goals as goal
use Rattle.instance_rows.proofs.seasons.season_flags.Goals.{then-period-ge1+then-period-periods, else-period-ge1}
use Rattle.instance_rows.proofs.seasons.season_flags.Goals.{else-period-ge1-via-then-period-ge1+else-period-periods}
use Rattle.instance_rows.proofs.seasons.season_flags.Goals.{else-period-ge1-via-else-period-ge1}

pub loop-period-init : goal.loop-period-init
loop-period-init c = c.in_ok-flags.ensures.items_if_clones_equal (λ y e. e) ∙ season_none c.args.periods

pub index_mut-requires : goal.index_mut-requires
index_mut-requires c = omega (
  arith,
  c.if-period-ge1.true,
  c.if-period-periods.true,
  ap length c.loop-period.invariant,
  length-flags c.args.periods (take c.loop-period.period-index c.args.season.now),
)

pub loop-period-preserved : goal.loop-period-preserved
loop-period-preserved c =
    let n = c.args.periods in let ps = take c.loop-period.period-index c.args.season.now in
    let p : ℕ = get_or c.args.season.now c.loop-period.period-index 0 in
    let more : take (c.loop-period.period-index + 1) c.args.season.now ≡ ps ++ p ∷ [] =
    take_more c.args.season.now c.loop-period.period-index 0 (omega (arith, c.loop-period-test.true)) in
    (elim c.if-period-ge1.branch [
      | then-period-ge1+then-period-periods w ↦
          ap (λ (v : Vec Bool Global). v.items) w.flags-is ∙ ap (λ q. set q (p - 1) true) c.loop-period.invariant
          ∙ season_put n ps p w.if-period-ge1.true w.if-period-periods.true
      | else-period-ge1 w ↦
          ap (λ (v : Vec Bool Global). v.items) w.flags-is ∙ c.loop-period.invariant
          ∙ season_skip n ps p (λ l h. elim w.else-period-ge1.branch [
            | else-period-ge1-via-then-period-ge1+else-period-periods v ↦
                absurd (omega (arith, v.if-period-periods.false, h))
            | else-period-ge1-via-else-period-ge1 v ↦ absurd (omega (arith, v.if-period-ge1.false, l))
          ])
    ])
    ∙ ap (λ q. lists_below n (in_season q)) (sym more)
