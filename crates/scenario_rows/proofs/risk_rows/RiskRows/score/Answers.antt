use Rattle.std.proofs.Common.{◌∙◌, sym, ap, subst, arith}
use Rattle.fixed_num.proofs.SignedLemmas.{back_from_abs}
use Rattle.instance_model.specs.Values.{score_of}
use Rattle.scenario_rows.specs.RiskStates.{RiskState, IsOver}
use Rattle.scenario_rows.proofs.ScoreLemmas.{score_is}
use Rattle.scenario_rows.proofs.risk_rows.RiskRows.score.Goals as goal

pub returns-clause-value : goal.returns-clause-value
returns-clause-value g c = λ inst over.
    let back = back_from_abs c.number.result (omega (arith, c.number.ensures.small)) in
    let there = subst (IsOver inst) (sym c.self.view_is) over in
    back ∙ c.number.ensures.value
    ∙ score_is inst (record { board = c.self.inside.board.items; periods = c.self.inside.periods.items })
    c.self.inside.score c.self.invariant.scored there ∙ ap (λ (v : RiskState). score_of inst v.board) c.self.view_is
