use Rattle.command_check.proofs.CheckLemmas.{valid_checks, leaf_checks}
use Rattle.command_check.proofs.check.report_kept.Goals as goal

pub accepted_text-requires-clause-bound : goal.accepted_text-requires-clause-bound
accepted_text-requires-clause-bound g c =
    let lawful = c.laws.ensures.claims c.args.certificate.now c.requires.in_range in
    rw (c.bound.ensures c.args.inst.now) lawful.bound

pub returns-in_ok-accepted_text-in-Valid : goal.returns-in_ok-accepted_text-in-Valid
returns-in_ok-accepted_text-in-Valid g c =
    let inst = c.args.inst.now in
    let claim = g.C.FileCertificate.kind.claim inst c.args.certificate.now in
    valid_checks inst c.args.score claim c.in_ok-verdict.verdict c.in_ok-accepted_text-in-Valid.field-0 c.in-Valid.is
    (record {
      right = c.in_ok-verdict.ensures.verdict;
      only = c.in_ok-verdict.ensures.only;
      bounds = c.in_ok-verdict.ensures.bounds;
    }) c.cost_is_just_above_score.ensures
    (rw (c.bound.ensures inst) at c.in_ok-accepted_text-in-Valid.ensures)

pub returns-in_ok-leaf_text-in-LeafFails : goal.returns-in_ok-leaf_text-in-LeafFails
returns-in_ok-leaf_text-in-LeafFails g c =
    let inst = c.args.inst.now in
    leaf_checks inst c.args.score (g.C.FileCertificate.kind.claim inst c.args.certificate.now) c.in_ok-verdict.verdict
    c.in-LeafFails.n c.in_ok-leaf_text-in-LeafFails.field-0 c.in-LeafFails.is
    (record {
      right = c.in_ok-verdict.ensures.verdict;
      only = c.in_ok-verdict.ensures.only;
      bounds = c.in_ok-verdict.ensures.bounds;
    }) c.in_ok-leaf_text-in-LeafFails.ensures
