use Rattle.instance_read.proofs.keeper.Keeper.take_finish.Goals as goal

pub returns-in-WorkloadResource : goal.returns-in-WorkloadResource
returns-in-WorkloadResource c = λ at. rw c.in-WorkloadResource.is (c.close_workload.ensures at)
