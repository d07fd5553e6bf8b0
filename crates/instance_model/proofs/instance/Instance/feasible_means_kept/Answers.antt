use Rattle.instance_model.proofs.RuleLemmas.{KeepsRules-from, IsFeasible-from}
use Rattle.instance_model.proofs.instance.Instance.feasible_means_kept.Goals as goal

pub returns : goal.returns
returns c = λ plan. (KeepsRules-from c.args.self.now plan, IsFeasible-from c.args.self.now plan)
