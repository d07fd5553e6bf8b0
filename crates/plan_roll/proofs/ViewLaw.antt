-- The rolled instance is a view of the instance.
use Rattle.std.proofs.Common.{ℕ, List, refl, Option}
use Rattle.instance_model.specs.Tables.{Tables}
use Rattle.instance_model.specs.Fitting.{IsFitting}
use Rattle.instance_writer.specs.Views.{IsViewOf}
use Rattle.plan_roll.specs.Rolled.{rolled}
use Rattle.plan_roll.proofs.FitLaw.{tables_fit}
use Rattle.plan_roll.proofs.RiskLemmas.{risk_is}
use Rattle.plan_roll.proofs.StartLemmas.{IsLeftStart-from, in_run_is, tmax_is}
use Rattle.std.proofs.Common.{sym, ◌∙◌}

pub rolled_view : (inst : Tables) (plan : List (Option ℕ)) (period : ℕ) → IsFitting inst
    → IsViewOf inst (rolled inst plan period)
rolled_view inst plan period f = record {
  same = refl;
  starts = tmax_is inst plan period;
  durations = λ i s h a. (IsLeftStart-from inst plan period i s h a).same;
  risks = λ i s t k h a r. risk_is inst plan period i s t k f h a
      (sym (in_run_is inst plan period i s t (IsLeftStart-from inst plan period i s h a).same) ∙ r);
  fits = tables_fit inst plan period f;
}
