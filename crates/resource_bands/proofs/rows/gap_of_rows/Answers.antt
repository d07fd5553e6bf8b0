use Rattle.std.proofs.Common.{◌≡◌, ◌∙◌, ℕ, sym, ap, arith, [], get_or, length}
use Rattle.std.proofs.lemmas.List.{get_or_default}
use Rattle.fixed_num.specs.Sums.{sum_below}
use Rattle.fixed_num.proofs.SumLemmas.{sum_below-zero}
use Rattle.resource_bands.specs.Gaps.{row_gap, rows_gap}
use Rattle.resource_bands.proofs.ChangeLemmas.{sum_more, small_more}
use Rattle.resource_bands.proofs.rows.gap_of_rows.Goals as goal

pub loop-c-init : goal.loop-c-init
loop-c-init c =
    record { value = c.zero-gap.ensures ∙ sym (sum_below-zero _); small = rw c.zero-gap.ensures (omega arith) }

pub loop-c-preserved : goal.loop-c-preserved
loop-c-preserved c =
    let rows = c.args.rows.now in
    let row = c.index-rows-c.is ∙ get_or_default rows c.loop-c.c c.index-rows-c.result [] (omega arith) in
    record {
      value = sum_more c.loop-c.c (λ d. row_gap c.args.inst.now d (get_or rows d [])) c.loop-c.gap c.gap.result
          c.plus-gap.result c.loop-c.invariant.value
          (c.gap.ensures.value ∙ ap (row_gap c.args.inst.now c.loop-c.c) row) c.plus-gap.ensures;
      small = small_more c.loop-c.c 10_000_000_000_000_000_000_000_000_000 c.loop-c.gap c.gap.result c.plus-gap.result
          c.loop-c.invariant.small c.gap.ensures.small c.plus-gap.ensures;
    }

pub returns : goal.returns
unfolding rows_gap
returns c =
    let all : c.loop-c.c ≡ length c.args.inst.now.resource_names = omega arith in
    c.loop-c.invariant.value
    ∙ ap (λ (n : ℕ). sum_below n (λ d. row_gap c.args.inst.now d (get_or c.args.rows.now d []))) all
