use Rattle.std.proofs.Common.{length, arith, subst}
use Rattle.lagrange_bound.specs.Goals.{risk_value}
use Rattle.certificate_check.proofs.VerdictLemmas.{one_verdict, tree_by_tables, verdict_by_tables}
use Rattle.refined_check.specs.Worths.{refined_worths}
use Rattle.refined_check.specs.Validity.{refined_claim, IsRefinedVerdict}
use Rattle.refined_check.proofs.checking.check_refined.Goals as goal

pub verdict_by-requires-clause-some : goal.verdict_by-requires-clause-some
verdict_by-requires-clause-some c =
    let each = c.in_ok-tables.ensures.each in
    rw c.as_slice-3.ensures.value (omega (arith, each))

pub verdict_by-requires-clause-priced : goal.verdict_by-requires-clause-priced
verdict_by-requires-clause-priced c = rw c.as_slice-3.ensures.value c.in_ok-tables.ensures.priced

pub verdict_by-requires-clause-tree : goal.verdict_by-requires-clause-tree
verdict_by-requires-clause-tree c =
    let inst = c.args.inst.now in
    let cert = c.args.cert.now in
    let are = rw c.as_slice.ensures at c.in_ok-tables.ensures in
    let t = c.requires.tree in
    rw (c.as_slice-2.ensures, c.as_slice-3.ensures.value) (
      t.0,
      tree_by_tables inst cert.bound (length cert.lists) (refined_worths inst cert.lists)
          c.in_ok-tables.tables.items cert.nodes t.0 are t.1,
    )

pub returns-clause-verdict : goal.returns-clause-verdict
returns-clause-verdict c =
    let inst = c.args.inst.now in
    let cert = c.args.cert.now in
    let are = rw c.as_slice.ensures at c.in_ok-tables.ensures in
    verdict_by_tables c.same_worths_prove_the_same.ensures risk_value inst cert.bound (length cert.lists)
    (refined_worths inst cert.lists) c.in_ok-tables.tables.items cert.nodes c.in_ok-verdict.verdict c.fits.ensures are
    (rw (c.as_slice-2.ensures, c.as_slice-3.ensures.value) at c.in_ok-verdict.ensures.verdict)

pub returns-clause-only : goal.returns-clause-only
returns-clause-only c = λ other h. one_verdict c.nodes_are_one_tree.ensures risk_value c.args.inst.now
    (refined_claim c.args.inst.now c.args.cert.now) c.in_ok-verdict.verdict other (returns-clause-verdict c) h

pub returns-clause-bounds : goal.returns-clause-bounds
returns-clause-bounds c = λ e. c.refined_valid_bounds_plans.ensures c.args.inst.now c.args.cert.now c.fits.ensures
    c.requires (subst (IsRefinedVerdict c.args.inst.now c.args.cert.now) e (returns-clause-verdict c))
