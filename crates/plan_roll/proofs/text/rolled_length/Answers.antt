use Rattle.plan_roll.proofs.ViewLaw.{rolled_view}
use Rattle.plan_roll.proofs.text.rolled_length.Goals as goal

pub instance_length-requires : goal.instance_length-requires
instance_length-requires c = rolled_view c.args.inst.now c.args.plan.now c.args.period c.fits.ensures
