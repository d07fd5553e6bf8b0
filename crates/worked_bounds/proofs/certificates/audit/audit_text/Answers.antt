use Rattle.std.proofs.Common.{inl, ap}
use Rattle.std.specs.Prelude.{Ok}
use Rattle.worked_bounds.specs.declared.certificates.audit.Audit.TheVariants.{LeafFails}
use Rattle.worked_bounds.proofs.AuditLemmas.{no_leaf_fails, not_all_hold, one_leaf}
use Rattle.worked_bounds.proofs.certificates.audit.audit_text.Goals as goal

pub returns-in-Valid-clause-fails : goal.returns-in-Valid-clause-fails
returns-in-Valid-clause-fails c = λ cert n text first.
    absurd (no_leaf_fails c.args.inst.now c.args.text.now c.in_ok-cert.cert cert c.in_ok-verdict.verdict n c.in-Valid.is
    (record { complete = c.in_ok-cert.ensures.complete; only = c.in_ok-verdict.ensures.only }) text first)

pub returns-clause-valid : goal.returns-clause-valid
returns-clause-valid c = λ cert text valid.
    absurd (not_all_hold c.args.inst.now c.args.text.now c.in_ok-cert.cert cert c.in_ok-verdict.verdict
    c.in-LeafFails.n c.in-LeafFails.is
    (record { complete = c.in_ok-cert.ensures.complete; only = c.in_ok-verdict.ensures.only }) text valid)

pub returns-clause-fails : goal.returns-clause-fails
returns-clause-fails c = λ cert n text first.
    inl (ap (λ k. Ok (LeafFails k)) (one_leaf c.args.inst.now c.args.text.now c.in_ok-cert.cert cert
    c.in_ok-verdict.verdict c.in-LeafFails.n n c.in-LeafFails.is
    (record { complete = c.in_ok-cert.ensures.complete; only = c.in_ok-verdict.ensures.only }) text first))
