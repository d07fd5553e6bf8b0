use Rattle.std.proofs.Common.{◌≡◌, sym, subst, arith, ℕ, get_or, inl, inr}
use Rattle.std.proofs.lemmas.Bool.{cases_lt}
use Rattle.std.proofs.lemmas.List.{get_or_default}
use Rattle.scenario_rows.specs.declared.change.Change.TheVariants.{Add}
use Rattle.scenario_rows.specs.Shifts.{IsIdle}
use Rattle.scenario_rows.proofs.touched.next_touched.Goals as goal

pub loop-one-preserved : goal.loop-one-preserved
loop-one-preserved c =
    let runs = c.args.runs.now in
    let at = c.loop-one.one-index in
    record {
      from = omega arith;
      to = omega arith;
      idle = λ u a b k d l. elim (cases_lt k at) [
        | inl m ↦ c.loop-one.invariant.idle u a (omega arith) k d m
        | inr m ↦ let same : k ≡ at = omega (arith, l, m) in
            subst (λ (j : ℕ). IsIdle c.args.inst.now u (get_or runs j d)) (sym same)
            (subst (IsIdle c.args.inst.now u)
            (get_or_default runs at (record { change = Add; i = 0; s = 0 }) d (omega arith))
            (c.first_of_run.ensures.idle u a (omega arith)))
      ];
    }

pub returns-clause-idle : goal.returns-clause-idle
returns-clause-idle c = λ u a b k d l. c.loop-one.invariant.idle u a b k d (omega (arith, l))
