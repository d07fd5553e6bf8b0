use Rattle.instance_shape.proofs.OwnMultiples.{defined_has}
use Rattle.instance_shape.proofs.laws.files_have_own_numbers.Goals as goal

pub returns : goal.returns
returns c = defined_has
