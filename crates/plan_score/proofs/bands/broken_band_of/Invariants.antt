use Rattle.std.proofs.Common.{◌≡◌, ◌+◌, None}
use Rattle.instance_model.specs.Rules.{first_of, band_rule_at}
use Rattle.plan_score.proofs.bands.broken_band_of.Given as goal

abbrev pub invariant-loop-u : goal.invariant-loop-u
invariant-loop-u l = first_of l.u (λ v. band_rule_at l.inst l.plan l.c (v + 1)) ≡ None
