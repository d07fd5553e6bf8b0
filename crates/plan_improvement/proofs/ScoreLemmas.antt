-- The score of a plan that was judged.
use Rattle.std.proofs.Common.{◌≡◌, ℕ, ◌∙◌, ap, refl, List, map, Option, Some}
use Rattle.instance_model.specs.Tables.{Tables}
use Rattle.instance_model.specs.Values.{score_of}
use Rattle.plan_score.specs.Values.{values_of}
use Rattle.plan_score.specs.declared.values.Values.{Values}
use Rattle.plan_improvement.specs.Improving.{IsJudged}

score_of_values : (inst : Tables) (plan : List (Option ℕ)) → (values_of inst plan).score ≡ score_of inst plan
unfolding values_of
score_of_values inst plan = refl

pub score_is : (inst : Tables) (starts : List ℕ) (values : Values) → IsJudged inst starts values
    → values.score ≡ score_of inst (map Some starts)
score_is inst starts values judged =
    ap (λ (v : Values). v.score) judged.values_are ∙ score_of_values inst (map Some starts)
