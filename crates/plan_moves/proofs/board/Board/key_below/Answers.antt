use Rattle.std.proofs.Common.{◌∙◌, ◌<◌, ◌^◌, ◌<ℤ◌, ◌≤ℤ◌, sym, ap, subst, arith, ℤ, Some, map, unsigned_abs}
use Rattle.fixed_num.proofs.Bits.{by_bits}
use Rattle.fixed_num.proofs.SignedLemmas.{back_from_abs}
use Rattle.instance_model.specs.Fitting.{IsFitting}
use Rattle.instance_model.specs.Keys.{KeyBelow, violation_of}
use Rattle.instance_model.specs.Values.{score_of}
use Rattle.instance_model.proofs.ScoreSizeLemmas.{score_of_small}
use Rattle.scenario_rows.proofs.JudgeLemmas.{limit_back, none_of}
use Rattle.plan_moves.specs.Boards.{Board}
use Rattle.plan_moves.specs.Changing.{after_change}
use Rattle.plan_moves.proofs.board.Board.key_below.Goals as goal

pub returns-in_err-score-clause-none : goal.returns-in_err-score-clause-none
returns-in_err-score-clause-none g c =
    let now = c.args.self.now in
    let score = score_of now.instance (map Some (after_change c.args.change now.starts)) in
    let same = c.in_ok-violation.ensures.same ∙ c.self.view_is in
    let small = score_of_small now.instance (map Some (after_change c.args.change now.starts))
    (subst IsFitting c.instance.ensures c.fits.ensures) in
    let violation = back_from_abs c.in_ok-violation.violation (omega (arith, c.in_ok-violation.ensures.small))
    ∙ c.in_ok-violation.ensures.value
    ∙ ap (λ (b : Board). violation_of b.instance (map Some (after_change c.args.change b.starts))) c.self.view_is in
    let above = subst (λ (b : Board). by_bits c.score_limit.result
    ≤ℤ score_of b.instance (map Some (after_change c.args.change b.starts))) same c.in_err-score.ensures.none in
    let limit = subst (λ (l : ℤ). l ≤ℤ score)
    (limit_back c.score_limit.result (record { sfits = c.score_limit.type_inv })) above in
    none_of c.from_residual-in_err-score.result _ (subst (λ (v : ℤ). ¬ KeyBelow (record {
      violation = v;
      score = score;
    }) c.args.limit)
    violation (c.score_limit.ensures.above score small limit))

pub returns-clause-below : goal.returns-clause-below
returns-clause-below g c =
    let now = c.args.self.now in
    let same = c.in_ok-violation.ensures.same ∙ c.self.view_is in
    let value = c.in_ok-score.ensures.value
    ∙ ap (λ (b : Board). score_of b.instance (map Some (after_change c.args.change b.starts))) same in
    let small : unsigned_abs c.in_ok-score.score < 10 ^ 33 =
    rw value (score_of_small now.instance (map Some (after_change c.args.change now.starts))
    (subst IsFitting c.instance.ensures c.fits.ensures)) in
    let below = subst (λ (l : ℤ). c.in_ok-score.score <ℤ l)
    (limit_back c.score_limit.result (record { sfits = c.score_limit.type_inv })) c.in_ok-score.ensures.below in
    subst
    (λ (x : ℤ). KeyBelow (record { violation = by_bits c.in_ok-violation.violation; score = x }) c.args.limit)
    (sym (back_from_abs c.in_ok-score.score (omega (arith, small))))
    (c.score_limit.ensures.below c.in_ok-score.score below)
