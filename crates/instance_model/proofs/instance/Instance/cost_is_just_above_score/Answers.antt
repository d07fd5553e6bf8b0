use Rattle.instance_model.proofs.ScoreLemmas.{IsJustAbove-score}
use Rattle.instance_model.proofs.instance.Instance.cost_is_just_above_score.Goals as goal

pub returns : goal.returns
returns c = λ plan. IsJustAbove-score c.args.self.now plan c.fits.ensures
