use Rattle.std.proofs.Common.{◌≡◌, ◌+◌, None}
use Rattle.instance_model.specs.Rules.{first_of, band_rule_at}
use Rattle.plan_score.proofs.bands.broken_band.Given as goal

abbrev pub invariant-loop-c : goal.invariant-loop-c
invariant-loop-c l = first_of l.c (λ d. first_of l.inst.periods (λ v. band_rule_at l.inst l.plan d (v + 1))) ≡ None
