use Rattle.std.proofs.Common.{◌≡◌, ◌∙◌, ◌+◌, ◌-◌, ap, arith, get_or, pos, ℕ, ℤ, List}
use Rattle.fixed_num.proofs.SumLemmas.{get_or-list_of}
use Rattle.instance_model.specs.Tables.{scenarios_of, risk_of}
use Rattle.instance_model.proofs.instance.Instance.risk_cell.Goals as goal

pub returns-clause-value : goal.returns-clause-value
returns-clause-value g c =
    let inst = c.args.self.now in
    let risk : ℕ → ℤ = λ k. risk_of inst c.args.i c.args.s c.args.t k in
    let e : c.args.k - 1 + 1 ≡ c.args.k = omega (arith, c.requires.from) in
    c.at.ensures ∙ ap (λ (xs : List ℤ). get_or xs (c.args.k - 1) (pos 0)) c.risks_in.ensures.value
    ∙ get_or-list_of (scenarios_of inst c.args.t) (λ k. risk (k + 1)) (c.args.k - 1)
    (omega (arith, c.requires.from, c.requires.to)) ∙ ap risk e
