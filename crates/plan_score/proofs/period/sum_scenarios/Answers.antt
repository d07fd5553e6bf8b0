use Rattle.std.proofs.Common.{◌≡◌, ◌∙◌, ◌+◌, sym, ap, arith, pos, ℕ, length}
use Rattle.fixed_num.specs.Sums.{list_of}
use Rattle.fixed_num.proofs.SumLemmas.{written_back}
use Rattle.instance_model.specs.Naturals.{count_sum}
use Rattle.instance_model.specs.Plans.{soft_at, soft_count, start_of}
use Rattle.instance_model.proofs.EntryLemmas.{count_sum-zero, count_sum_more}
use Rattle.instance_model.proofs.BoardLemmas.{sums_before-none, sums_before-all, length-sums_before}
use Rattle.plan_score.proofs.period.sum_scenarios.Goals as goal

pub loop-i-init : goal.loop-i-init
loop-i-init g c = record {
  sums = c.in_ok-reset.ensures ∙ ap (λ (n : ℕ). list_of n (λ k. pos 0)) c.scenarios.ensures.value
      ∙ sums_before-none c.args.inst.now c.args.plan.now c.args.t;
  soft = sym (count_sum-zero (λ j. soft_at c.args.inst.now c.args.t j (start_of c.args.plan.now j)));
  few = omega arith;
}

pub loop-i-preserved : goal.loop-i-preserved
loop-i-preserved g c =
    let each : length c.add_run-soft.new.sums ≡ c.loop-i.sums.len = omega (
      arith,
      ap length c.add_run-soft.ensures.after,
      length-sums_before c.args.inst.now c.args.plan.now c.args.t (c.loop-i.i + 1),
      ap length c.loop-i.invariant.sums,
      length-sums_before c.args.inst.now c.args.plan.now c.args.t c.loop-i.i,
      c.loop-i.sums.ok.0,
    ) in
    record {
      sums = written_back c.loop-i.sums.items c.add_run-soft.new.sums c.loop-i.sums.len each
          ∙ c.add_run-soft.ensures.after;
      soft = ap (λ (n : ℕ). n + c.add_run-soft.result) c.loop-i.invariant.soft
          ∙ ap (λ (n : ℕ). count_sum c.loop-i.i (λ j. soft_at c.args.inst.now c.args.t j (start_of c.args.plan.now j))
          + n) c.add_run-soft.ensures.soft
          ∙ sym (count_sum_more c.loop-i.i (λ j. soft_at c.args.inst.now c.args.t j (start_of c.args.plan.now j)));
      few = omega arith;
    }

pub returns-clause-sums : goal.returns-clause-sums
returns-clause-sums g c =
    let e : c.loop-i.i ≡ length c.args.inst.now.names = omega arith in
    c.loop-i.invariant.sums ∙ sums_before-all c.args.inst.now c.args.plan.now c.args.t c.loop-i.i e

pub returns-clause-soft : goal.returns-clause-soft
unfolding soft_count
returns-clause-soft g c =
    let e : c.loop-i.i ≡ length c.args.inst.now.names = omega arith in
    c.loop-i.invariant.soft
    ∙ ap (λ (n : ℕ). count_sum n (λ j. soft_at c.args.inst.now c.args.t j (start_of c.args.plan.now j))) e
