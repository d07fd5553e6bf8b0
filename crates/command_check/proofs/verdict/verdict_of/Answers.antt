-- The verdict by the tables of a certificate is that on what it claims.
use Rattle.std.proofs.Common.{subst, arith}
use Rattle.lagrange_bound.specs.Goals.{risk_value}
use Rattle.certificate_check.specs.Verdicts.{IsVerdictOn}
use Rattle.certificate_check.proofs.VerdictLemmas.{one_verdict, tree_by_tables, verdict_by_tables}
use Rattle.command_check.proofs.verdict.verdict_of.Goals as goal

pub verdict_by-requires-clause-bound : goal.verdict_by-requires-clause-bound
verdict_by-requires-clause-bound g c =
    let lawful = c.laws.ensures.claims c.args.certificate.now c.requires in
    rw (c.bound.ensures c.args.inst.now) lawful.bound

pub verdict_by-requires-clause-some : goal.verdict_by-requires-clause-some
verdict_by-requires-clause-some g c =
    let each = c.in_ok-tables.ensures.each in
    rw c.as_slice.ensures.value (omega (arith, each))

pub verdict_by-requires-clause-priced : goal.verdict_by-requires-clause-priced
verdict_by-requires-clause-priced g c = rw c.as_slice.ensures.value c.in_ok-tables.ensures.priced

pub verdict_by-requires-clause-tree : goal.verdict_by-requires-clause-tree
verdict_by-requires-clause-tree g c =
    let inst = c.args.inst.now in
    let claim = g.C.FileCertificate.kind.claim inst c.args.certificate.now in
    let t = (c.laws.ensures.claims c.args.certificate.now c.requires).tree in
    rw (c.nodes.ensures inst, c.as_slice.ensures.value) (
      t.0,
      tree_by_tables inst claim.bound claim.lists claim.worths c.in_ok-tables.tables.items claim.nodes t.0
          c.in_ok-tables.ensures t.1,
    )

pub returns-clause-verdict : goal.returns-clause-verdict
returns-clause-verdict g c =
    let inst = c.args.inst.now in
    let claim = g.C.FileCertificate.kind.claim inst c.args.certificate.now in
    verdict_by_tables c.same_worths_prove_the_same.ensures risk_value inst claim.bound claim.lists claim.worths
    c.in_ok-tables.tables.items claim.nodes c.in_ok-verdict.verdict c.fits.ensures c.in_ok-tables.ensures
    (rw (c.bound.ensures inst, c.nodes.ensures inst, c.as_slice.ensures.value) at c.in_ok-verdict.ensures.verdict)

pub returns-clause-only : goal.returns-clause-only
returns-clause-only g c = λ other h. one_verdict c.nodes_are_one_tree.ensures risk_value c.args.inst.now
    (g.C.FileCertificate.kind.claim c.args.inst.now c.args.certificate.now) c.in_ok-verdict.verdict other
    (returns-clause-verdict g c) h

pub returns-clause-bounds : goal.returns-clause-bounds
returns-clause-bounds g c = λ is.
    let inst = c.args.inst.now in
    let claim = g.C.FileCertificate.kind.claim inst c.args.certificate.now in
    c.proved_bounds_plans.ensures risk_value inst claim c.fits.ensures
    (c.laws.ensures.claims c.args.certificate.now c.requires).boxes
    (subst (IsVerdictOn risk_value inst claim) is (returns-clause-verdict g c))
