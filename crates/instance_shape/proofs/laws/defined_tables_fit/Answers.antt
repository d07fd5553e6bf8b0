use Rattle.instance_shape.proofs.Fits.{defined_fits}
use Rattle.instance_shape.proofs.laws.defined_tables_fit.Goals as goal

pub returns : goal.returns
returns c = defined_fits
