use Rattle.std.proofs.Common.{◌≡◌, ◌∙◌, ◌+◌, ap, arith, pos, ℕ, List, Option, Some, length, map}
use Rattle.fixed_num.specs.Sums.{list_of}
use Rattle.fixed_num.proofs.SumLemmas.{written_back}
use Rattle.instance_model.proofs.BoardLemmas.{sums_before-none, sums_before-all, length-sums_before}
use Rattle.scenario_rows.proofs.runs.sums_of.Goals as goal

pub loop-i-init : goal.loop-i-init
loop-i-init g c = c.in_ok-sums.ensures ∙ ap (λ (n : ℕ). list_of n (λ k. pos 0)) c.scenarios.ensures.value
    ∙ sums_before-none c.args.inst.now (map Some c.args.starts.now) c.args.t

pub loop-i-preserved : goal.loop-i-preserved
loop-i-preserved g c =
    let board : List (Option ℕ) = map Some c.args.starts.now in
    let each : length c.add_run.new.sums ≡ c.loop-i.sums.len = omega (
      arith,
      ap length c.add_run.ensures,
      length-sums_before c.args.inst.now board c.args.t (c.loop-i.i + 1),
      ap length c.loop-i.invariant,
      length-sums_before c.args.inst.now board c.args.t c.loop-i.i,
      c.loop-i.sums.ok.0,
    ) in
    written_back c.loop-i.sums.items c.add_run.new.sums c.loop-i.sums.len each ∙ c.add_run.ensures

pub returns : goal.returns
returns g c =
    let e : c.loop-i.i ≡ length c.args.inst.now.names = omega arith in
    c.loop-i.invariant ∙ sums_before-all c.args.inst.now (map Some c.args.starts.now) c.args.t c.loop-i.i e
