use Rattle.instance_shape.proofs.OwnReading.{own_numbers}
use Rattle.instance_shape.proofs.laws.own_numbers_are_a_reading.Goals as goal

pub returns : goal.returns
returns c = own_numbers
