use Rattle.refined_prices.proofs.CapLemmas.{CapKeepsLowerLimit-from}
use Rattle.refined_prices.proofs.laws.caps_keep_lower_limits.Goals as goal

pub returns : goal.returns
returns c = CapKeepsLowerLimit-from c.args.inst.now
