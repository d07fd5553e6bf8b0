use Rattle.std.proofs.Common.{◌∙◌, ap, subst, map, Some, List, Option, ℕ, sym, refl}
use Rattle.instance_model.specs.Plans.{RunsAreAllowed}
use Rattle.instance_model.proofs.BoardLemmas.{RunsAreAllowed-starts}
use Rattle.plan_table.specs.Figures.{AreFigures}
use Rattle.plan_table.specs.Reports.{load_lines_of}
use Rattle.plan_table.proofs.FigureLemmas.{number_kept}
use Rattle.plan_table.proofs.period.report_on.Goals as goal

pub figures_of-requires-clause-allowed : goal.figures_of-requires-clause-allowed
figures_of-requires-clause-allowed g c =
    subst (RunsAreAllowed c.args.inst.now) (sym (c.as_slice.ensures.value ∙ c.in_ok-plan.ensures))
    (RunsAreAllowed-starts c.args.inst.now c.args.starts.now c.requires.allowed)

pub load_lines-requires-clause-allowed : goal.load_lines-requires-clause-allowed
load_lines-requires-clause-allowed g c =
    subst (RunsAreAllowed c.args.inst.now) (sym (c.as_slice-2.ensures.value ∙ c.in_ok-plan.ensures))
    (RunsAreAllowed-starts c.args.inst.now c.args.starts.now c.requires.allowed)

pub returns : goal.returns
returns g c =
    let i = c.args.inst.now in
    let t = c.args.t in
    let f : AreFigures i (map Some c.args.starts.now) t c.in_ok-figures.figures =
    subst (λ (p : List (Option ℕ)). AreFigures i p t c.in_ok-figures.figures)
    (c.as_slice.ensures.value ∙ c.in_ok-plan.ensures) c.in_ok-figures.ensures in
    record {
      period = refl;
      scenarios = c.scenarios.ensures.value;
      rank = c.rank.ensures.value;
      least = number_kept f.ranked.least;
      quantile = number_kept f.ranked.quantile;
      greatest = number_kept f.ranked.greatest;
      mean_low = number_kept f.mean_low;
      mean_high = number_kept f.mean_high;
      excess_low = number_kept f.excess_low;
      excess_high = number_kept f.excess_high;
      loads = c.in_ok-loads.ensures
          ∙ ap (λ (p : List (Option ℕ)). load_lines_of i p t) (c.as_slice-2.ensures.value ∙ c.in_ok-plan.ensures);
      runs = c.in_ok-runs.ensures;
      clashes = c.in_ok-clashes.ensures;
    }
