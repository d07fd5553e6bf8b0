use Rattle.std.proofs.Common.{◌∙◌}
use Rattle.command_audit.proofs.AuditLemmas.{valid_audits, leaf_audits}
use Rattle.command_audit.proofs.audit.report_on.Goals as goal

pub returns-in-Valid : goal.returns-in-Valid
returns-in-Valid c =
    valid_audits c.args.inst.now c.args.plan.now c.in_ok-goal.goal c.args.certificate.now c.in_ok-verdict.verdict
    c.in_ok-audited_text-in-Valid.field-0 (c.in_ok-goal.ensures ∙ c.as_slice.ensures) c.in-Valid.is
    (record {
      right = c.in_ok-verdict.ensures.verdict;
      only = c.in_ok-verdict.ensures.only;
      bounds = c.in_ok-verdict.ensures.bounds;
    }) c.bounds_count_changes.ensures c.in_ok-audited_text-in-Valid.ensures

pub returns : goal.returns
returns c =
    leaf_audits c.args.inst.now c.args.plan.now c.in_ok-goal.goal c.args.certificate.now c.in_ok-verdict.verdict
    c.in-LeafFails.n c.in_ok-leaf_text-in-LeafFails.field-0 (c.in_ok-goal.ensures ∙ c.as_slice.ensures)
    c.in-LeafFails.is
    (record {
      right = c.in_ok-verdict.ensures.verdict;
      only = c.in_ok-verdict.ensures.only;
      bounds = c.in_ok-verdict.ensures.bounds;
    }) c.in_ok-leaf_text-in-LeafFails.ensures
