use Rattle.std.proofs.Common.{◌∙◌, ap, arith, ℤ, ◌+ℤ◌, ◌≤◌, ◌^◌, unsigned_abs}
use Rattle.plan_score.proofs.EnclosureLemmas.{floor_is, ceil_is, sum_is, floor_no_larger, ceil_no_larger}
use Rattle.plan_score.proofs.enclosure.Enclosure.add.Goals as goal

pub returns-clause-low : goal.returns-clause-low
returns-clause-low c =
    let small : unsigned_abs c.floor_div.result ≤ 10 ^ 37 = omega (
      arith,
      floor_no_larger c.floor_div.result c.args.value c.args.n c.requires.some
          (floor_is c.floor_div.result c.args.value c.args.n (omega arith) (omega (arith, c.requires.value))
          c.floor_div.ensures),
      c.requires.value,
    ) in
    sum_is c.args.self.now.low c.floor_div.result (omega (arith, c.requires.low)) small
    ∙ ap (λ (x : ℤ). c.args.self.now.low +ℤ x) (floor_is c.floor_div.result c.args.value c.args.n (omega arith)
    (omega (arith, c.requires.value)) c.floor_div.ensures)

pub returns-clause-high : goal.returns-clause-high
returns-clause-high c =
    let small : unsigned_abs c.ceil_div.result ≤ 10 ^ 37 = omega (
      arith,
      ceil_no_larger c.ceil_div.result c.args.value c.args.n c.requires.some
          (ceil_is c.ceil_div.result c.args.value c.args.n (omega arith) (omega (arith, c.requires.value))
          c.ceil_div.ensures),
      c.requires.value,
    ) in
    sum_is c.args.self.now.high c.ceil_div.result (omega (arith, c.requires.high)) small
    ∙ ap (λ (x : ℤ). c.args.self.now.high +ℤ x) (ceil_is c.ceil_div.result c.args.value c.args.n (omega arith)
    (omega (arith, c.requires.value)) c.ceil_div.ensures)
