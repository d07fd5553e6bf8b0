use Rattle.instance_shape.proofs.laws.files_have_one_answer.Goals as goal
use Rattle.instance_shape.proofs.OneAnswer.{one_answer}

pub returns : goal.returns
returns c limits slack bytes = one_answer limits slack bytes
