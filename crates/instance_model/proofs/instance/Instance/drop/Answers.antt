use Rattle.instance_model.proofs.instance.Instance.drop.Goals as goal

pub invariant_of-self-inside : goal.invariant_of-self-inside
invariant_of-self-inside c = record { suits = c.self.inside.parts.suits }
