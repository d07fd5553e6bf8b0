use Rattle.std.proofs.Common.{ℕ}
use Rattle.std.proofs.lemmas.Result.{IfOk-weaker}
use Rattle.command_repair.specs.Made.{IsSolution}
use Rattle.command_repair.proofs.solution.solution_of.Goals as goal

pub returns-in-Without : goal.returns-in-Without
returns-in-Without g c =
    IfOk-weaker c.startless.result (λ solution. (turns : ℕ) → IsSolution c.args.inst.now c.args.old.now turns solution)
    (IsSolution c.args.inst.now c.args.old.now c.args.turns) (λ solution all. all c.args.turns) c.startless.ensures
