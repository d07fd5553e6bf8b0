use Rattle.std.proofs.Common.{◌∙◌, ◌≤◌, ◌+◌, ◌*◌, sym, ap, subst, arith, ℕ, ℤ, List, length}
use Rattle.std.specs.Prelude.{IfSome}
use Rattle.instance_model.specs.RiskNumbers.{numbers_of}
use Rattle.scenario_rows.specs.Changes.{changed_by}
use Rattle.scenario_rows.specs.Parts.{AreRowSums}
use Rattle.scenario_rows.proofs.RowLemmas.{IsTotalled-changed, totalled_small, length-changed_by}
use Rattle.scenario_rows.proofs.sum_row.SumRow.change.Goals as goal

pub copy_sums-requires : goal.copy_sums-requires
copy_sums-requires g c = omega (arith, c.requires.room, ap length c.self.view_is)

pub shift-requires-clause-each : goal.shift-requires-clause-each
shift-requires-clause-each g c = omega (arith, c.requires.each, ap length (c.copy_sums.ensures ∙ c.self.view_is))

pub shift-requires-clause-small : goal.shift-requires-clause-small
shift-requires-clause-small g c =
    subst (λ (xs : List ℤ). AreRowSums (changed_by c.args.change (numbers_of c.args.risks) xs))
    (sym (c.copy_sums.ensures ∙ c.self.view_is)) c.requires.small

pub replace_all-requires : goal.replace_all-requires
replace_all-requires g c =
    omega (
      arith,
      ap length (c.shift.ensures),
      length-changed_by c.args.change (numbers_of c.args.risks) c.copy_sums.new.to,
      ap
          length c.copy_sums.ensures,
    )

pub total_after-self-inside-requires : goal.total_after-self-inside-requires
total_after-self-inside-requires g c =
    let xs = g.R.Row.sums c.self.inside.row in
    let row = subst (λ (xs : List ℤ). AreRowSums (changed_by c.args.change (numbers_of c.args.risks) xs))
    (sym c.self.view_is) c.requires.small in
    let t = IsTotalled-changed c.args.change (numbers_of c.args.risks) xs c.self.inside.total c.risk_total.result
    c.self.invariant (omega (arith, c.requires.each, ap length c.self.view_is)) c.risk_total.ensures.value row in
    omega (arith, totalled_small _ _ t)

pub invariant_of-self : goal.invariant_of-self
invariant_of-self g c =
    let xs = g.R.Row.sums c.self.inside.row in
    let row = subst (λ (xs : List ℤ). AreRowSums (changed_by c.args.change (numbers_of c.args.risks) xs))
    (sym c.self.view_is) c.requires.small in
    let t = IsTotalled-changed c.args.change (numbers_of c.args.risks) xs c.self.inside.total c.risk_total.result
    c.self.invariant (omega (arith, c.requires.each, ap length c.self.view_is)) c.risk_total.ensures.value row in
    let e = c.replace_all.ensures.map ∙ c.shift.ensures
    ∙ ap (changed_by c.args.change (numbers_of c.args.risks)) c.copy_sums.ensures in
    rw (e, c.total_after-self-inside.ensures) t

pub returns-clause-sums : goal.returns-clause-sums
returns-clause-sums g c =
    c.replace_all.ensures.map ∙ c.shift.ensures
    ∙ ap (changed_by c.args.change (numbers_of c.args.risks)) (c.copy_sums.ensures ∙ c.self.view_is)

pub returns-clause-room : goal.returns-clause-room
returns-clause-room g c =
    omega (
      arith,
      ap length (c.shift.ensures),
      length-changed_by c.args.change (numbers_of c.args.risks) c.copy_sums.new.to,
      ap
          length (c.copy_sums.ensures ∙ c.self.view_is),
      c.requires.room,
    )

pub returns-clause-cost : goal.returns-clause-cost
returns-clause-cost g c =
    let each = ap length c.shift.ensures ∙ length-changed_by c.args.change (numbers_of c.args.risks) c.copy_sums.new.to
    ∙ ap length (c.copy_sums.ensures ∙ c.self.view_is) in
    subst (λ (n : ℕ). IfSome g.R.Row.most (λ most. c.replace_all.new.steps ≤ c.args.steps.now + n * most n)) each
    c.replace_all.ensures.cost
