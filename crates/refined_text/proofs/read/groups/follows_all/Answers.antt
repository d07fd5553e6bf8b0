use Rattle.std.proofs.Common.{arith}
use Rattle.refined_check.specs.certificate.Orders.{GroupBefore}
use Rattle.refined_text.specs.grammar.Further.{group_of}
use Rattle.refined_text.proofs.ReadLastLemmas.{all_from_last, last_from_all}
use Rattle.refined_text.proofs.ReadGroupLemmas.{less_told, less_true}
use Rattle.refined_text.proofs.read.groups.follows_all.Goals as goal

pub returns-in-Some : goal.returns-in-Some
returns-in-Some c =
    let groups = c.args.groups.now in
    let last = c.in-Some.last.now in
    let here = group_of c.args.members.now in
    let first = rw c.as_slice.ensures at c.first_scenario.ensures in (
      λ t.
          let less = less_told c.from.result c.first_in_line.result t in
          all_from_last GroupBefore (λ other. GroupBefore other here) groups last c.in-Some.ensures.value c.requires
          (λ x before behind. omega (arith, before, behind))
          (omega (arith, less, first, c.from.ensures, c.first_in_line.ensures)),
      λ all. less_true c.from.result c.first_in_line.result
          (let less = last_from_all GroupBefore (λ other. GroupBefore other here) groups last
          c.in-Some.ensures.value all in omega (arith, less, first, c.from.ensures, c.first_in_line.ensures)),
    )
