use Rattle.std.proofs.Common.{map, Some}
use Rattle.instance_model.proofs.KeyLemmas.{feasible-from_violation, violation_of-feasible}
use Rattle.instance_model.proofs.instance.Instance.no_violation_means_feasible.Goals as goal

pub returns : goal.returns
returns c = λ starts a.
    (feasible-from_violation c.args.self.now starts a, violation_of-feasible c.args.self.now (map Some starts))
