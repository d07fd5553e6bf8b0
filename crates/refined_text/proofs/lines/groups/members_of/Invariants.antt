use Rattle.std.proofs.Common.{◌≡◌, ◌++◌, length}
use Rattle.std.specs.List.{All, AllPairs}
use Rattle.certificate_lines.specs.Steps.{IsBreak}
use Rattle.refined_text.specs.lines.Spelling.{member_words, IsMember, MemberBefore}
use Rattle.refined_text.proofs.lines.groups.members_of.Given as goal

abbrev pub invariant-loop-rest : goal.invariant-loop-rest
invariant-loop-rest l = record {
  read : l.fn.text ≡ member_words l.list.items ++ l.rest;
  small : All IsMember l.list.items;
  ascending : AllPairs MemberBefore l.list.items;
  then : IsBreak l.rest;
}

abbrev pub decreases-loop-rest : goal.decreases-loop-rest
decreases-loop-rest l = length l.rest
