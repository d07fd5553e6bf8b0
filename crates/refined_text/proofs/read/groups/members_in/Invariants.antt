use Rattle.std.proofs.Common.{◌≡◌, take}
use Rattle.refined_text.specs.grammar.Further.{group_of}
use Rattle.refined_text.proofs.read.groups.members_in.Given as goal

abbrev pub invariant-loop-member : goal.invariant-loop-member
invariant-loop-member l = l.group.items ≡ group_of (take l.member-index l.members)
