use Rattle.instance_shape.specs.ShapeFaults.{shape_faults}
use Rattle.shape_walk.proofs.FirstIsLeast.{fault_answered, none_exactly, some_exactly}
use Rattle.shape_walk.proofs.walk.ShapeWalk.fault.Goals as goal

pub returns-clause-none : goal.returns-clause-none
returns-clause-none c limits root h s = let d = fault_answered limits root c.args.self.now h s in
    rw (← c.self.view_is) at (none_exactly (shape_faults limits root) c.args.self.now.fault d)

pub returns-clause-least : goal.returns-clause-least
returns-clause-least c limits root h s = let d = fault_answered limits root c.args.self.now h s in
    rw (← c.self.view_is) at (some_exactly (shape_faults limits root) c.args.self.now.fault d)
