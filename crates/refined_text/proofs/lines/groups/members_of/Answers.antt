use Rattle.std.proofs.Common.{◌<◌, length, rules, sym}
use Rattle.std.specs.List.{All}
use Rattle.std.proofs.lemmas.Bool.{false≢true}
use Rattle.std.proofs.lemmas.List.Elements.{All-push, All-same}
use Rattle.std.proofs.lemmas.List.Quantifiers.{all_pairs_push}
use Rattle.refined_text.specs.declared.lines.members.LineMember.{LineMember}
use Rattle.refined_text.specs.lines.Spelling.{IsMember, MemberBefore}
use Rattle.refined_text.proofs.LinesMemberLemmas.{no_member, not_above, member_more}
use Rattle.refined_text.proofs.lines.groups.members_of.Goals as goal

pub returns-in_default-clause-none : goal.returns-in_default-clause-none
returns-in_default-clause-none c = λ members small ascending e.
    let so_far = c.loop-rest.invariant in
    let some : 0 < length c.loop-rest.rest.now = search rules in
    no_member c.args.text.now c.loop-rest.list.items c.loop-rest.rest.now so_far.read so_far.small so_far.then some
    c.in_default.ensures.none members small e

pub returns-then-not-is_above-clause-none : goal.returns-then-not-is_above-clause-none
returns-then-not-is_above-clause-none c = λ members small ascending e.
    let so_far = c.loop-rest.invariant in
    let next = c.in-Some in
    not_above c.args.text.now c.loop-rest.list.items c.loop-rest.rest.now next.after.now next.member so_far.read
    so_far.small so_far.then next.ensures.found next.ensures.small next.ensures.rest
    (λ below. false≢true
    (c.if-not-is_above.ensures.1
    (All-same (λ (x : LineMember). x.scenario < next.member.scenario) c.deref.result.now c.loop-rest.list.items
    c.deref.ensures.value below)))
    members small ascending e

pub loop-rest-preserved : goal.loop-rest-preserved
loop-rest-preserved c =
    let so_far = c.loop-rest.invariant in
    let next = c.in-Some in
    let front = c.loop-rest.list.items in
    let below : All (λ (x : LineMember). x.scenario < next.member.scenario) front =
    All-same (λ (x : LineMember). x.scenario < next.member.scenario) front c.deref.result.now
    (sym c.deref.ensures.value) (c.if-not-is_above.ensures.0 (search rules)) in
    rw c.in_ok-push.ensures.items
    (record {
      read = member_more c.args.text.now front c.loop-rest.rest.now next.after.now next.member
          so_far.read next.ensures.found;
      small = All-push IsMember front next.member so_far.small next.ensures.small;
      ascending = all_pairs_push MemberBefore front next.member so_far.ascending below;
      then = next.ensures.rest;
    })
