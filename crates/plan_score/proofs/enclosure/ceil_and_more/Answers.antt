use Rattle.std.proofs.Common.{◌∙◌, ◌≤◌, ◌^◌, ap, arith, pos, ℤ, ◌+ℤ◌, unsigned_abs}
use Rattle.plan_score.proofs.EnclosureLemmas.{ceil_is, raised_is, ceil_no_larger, raised_small}
use Rattle.plan_score.proofs.enclosure.ceil_and_more.Goals as goal

pub returns-clause-value : goal.returns-clause-value
returns-clause-value c =
    let small : unsigned_abs c.ceil_div.result ≤ 10 ^ 32 = omega (
      arith,
      ceil_no_larger c.ceil_div.result c.args.value c.args.n c.requires.some
          (ceil_is c.ceil_div.result c.args.value c.args.n (omega arith) (omega (arith, c.requires.value))
          c.ceil_div.ensures),
      c.requires.value,
    ) in
    raised_is c.ceil_div.result c.args.margin (omega (arith, small)) (omega (arith, c.requires.few))
    ∙ ap (λ (x : ℤ). x +ℤ pos c.args.margin) (ceil_is c.ceil_div.result c.args.value c.args.n (omega arith)
    (omega (arith, c.requires.value)) c.ceil_div.ensures)

pub returns-clause-small : goal.returns-clause-small
returns-clause-small c =
    let small : unsigned_abs c.ceil_div.result ≤ 10 ^ 32 = omega (
      arith,
      ceil_no_larger c.ceil_div.result c.args.value c.args.n c.requires.some
          (ceil_is c.ceil_div.result c.args.value c.args.n (omega arith) (omega (arith, c.requires.value))
          c.ceil_div.ensures),
      c.requires.value,
    ) in
    rw (raised_is c.ceil_div.result c.args.margin (omega (arith, small)) (omega (arith, c.requires.few)))
    (raised_small c.ceil_div.result c.args.margin small c.requires.few)
