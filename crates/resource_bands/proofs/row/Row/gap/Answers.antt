use Rattle.std.proofs.Common.{◌≡◌, ◌∙◌, ◌+◌, ◌-◌, ℕ, sym, ap, arith, pos, get_or}
use Rattle.fixed_num.specs.Sums.{sum_below}
use Rattle.fixed_num.proofs.SumLemmas.{sum_below-zero}
use Rattle.resource_bands.specs.Gaps.{gap_at, row_gap}
use Rattle.resource_bands.proofs.ChangeLemmas.{sum_more, small_more}
use Rattle.resource_bands.proofs.row.Row.gap.Goals as goal

pub loop-u-init : goal.loop-u-init
loop-u-init c =
    record { value = c.zero-sum.ensures ∙ sym (sum_below-zero _); small = rw c.zero-sum.ensures (omega arith) }

pub loop-u-preserved : goal.loop-u-preserved
loop-u-preserved c =
    let u = c.loop-u.u in
    let place : u + 1 - 1 ≡ u = omega arith in
    let load = c.load.ensures ∙ ap (λ (v : ℕ). get_or c.args.self.now v (pos 0)) place in
    let gap = c.gap.ensures.value ∙ ap (gap_at c.args.inst.now c.args.c (u + 1)) load in
    record {
      value = sum_more u (λ v. gap_at c.args.inst.now c.args.c (v + 1) (get_or c.args.self.now v (pos 0))) c.loop-u.sum
          c.gap.result c.plus-sum.result c.loop-u.invariant.value gap c.plus-sum.ensures;
      small = small_more u 1_000_000_000_000_000_000_000_000 c.loop-u.sum c.gap.result c.plus-sum.result
          c.loop-u.invariant.small c.gap.ensures.small c.plus-sum.ensures;
    }

pub returns-clause-value : goal.returns-clause-value
unfolding row_gap
returns-clause-value c =
    let all : c.loop-u.u ≡ c.args.inst.now.periods = omega arith in
    c.loop-u.invariant.value
    ∙ ap (λ (n : ℕ). sum_below n (λ v. gap_at c.args.inst.now c.args.c (v + 1) (get_or c.args.self.now v (pos 0))))
    all
