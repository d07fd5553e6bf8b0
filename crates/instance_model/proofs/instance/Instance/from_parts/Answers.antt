use Rattle.instance_model.proofs.instance.Instance.from_parts.Goals as goal

pub invariant_of-result : goal.invariant_of-result
invariant_of-result c = record {
  fits = c.requires.fits;
  risks = c.in_ok-risks.ensures.sound;
  soft = c.in_ok-soft.ensures.sound;
  risk_column = c.in_ok-risks.ensures.column;
  soft_column = c.in_ok-soft.ensures.column;
}
