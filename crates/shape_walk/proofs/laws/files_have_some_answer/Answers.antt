use Rattle.shape_walk.proofs.SomeAnswer.{some_answer}
use Rattle.shape_walk.proofs.laws.files_have_some_answer.Goals as goal

pub returns : goal.returns
returns c = some_answer
