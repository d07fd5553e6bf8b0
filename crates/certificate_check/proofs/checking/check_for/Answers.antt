use Rattle.std.proofs.Common.{length, arith, subst}
use Rattle.certificate_tree.specs.Holding.{worth_by}
use Rattle.certificate_tree.specs.Validity.{claim_of}
use Rattle.certificate_check.specs.Verdicts.{IsVerdict}
use Rattle.certificate_check.proofs.VerdictLemmas.{one_verdict, tree_by_tables, verdict_by_tables}
use Rattle.certificate_check.proofs.checking.check_for.Goals as goal

pub verdict_by-requires-clause-some : goal.verdict_by-requires-clause-some
verdict_by-requires-clause-some g c =
    let each = c.in_ok-tables.ensures.each in
    rw c.as_slice-3.ensures.value (omega (arith, each))

pub verdict_by-requires-clause-priced : goal.verdict_by-requires-clause-priced
verdict_by-requires-clause-priced g c = rw c.as_slice-3.ensures.value c.in_ok-tables.ensures.priced

pub verdict_by-requires-clause-tree : goal.verdict_by-requires-clause-tree
verdict_by-requires-clause-tree g c =
    let inst = c.args.inst.now in
    let cert = c.args.cert.now in
    let are = rw c.as_slice.ensures at c.in_ok-tables.ensures in
    let t = c.requires.tree in
    rw (c.as_slice-2.ensures, c.as_slice-3.ensures.value) (
      t.0,
      tree_by_tables inst cert.bound (length cert.lists) (worth_by (g.G.Goal.base_gives c.args.goal.now) inst
          cert.lists) c.in_ok-tables.tables.items cert.nodes t.0 are t.1,
    )

pub returns-clause-verdict : goal.returns-clause-verdict
returns-clause-verdict g c =
    let inst = c.args.inst.now in
    let cert = c.args.cert.now in
    let are = rw c.as_slice.ensures at c.in_ok-tables.ensures in
    verdict_by_tables c.same_worths_prove_the_same.ensures (g.G.Goal.value_gives c.args.goal.now) inst cert.bound
    (length cert.lists) (worth_by (g.G.Goal.base_gives c.args.goal.now) inst cert.lists) c.in_ok-tables.tables.items
    cert.nodes c.in_ok-verdict.verdict c.fits.ensures are
    (rw (c.as_slice-2.ensures, c.as_slice-3.ensures.value) at c.in_ok-verdict.ensures.verdict)

pub returns-clause-only : goal.returns-clause-only
returns-clause-only g c = λ other h. one_verdict c.nodes_are_one_tree.ensures (g.G.Goal.value_gives c.args.goal.now)
    c.args.inst.now (claim_of (g.G.Goal.base_gives c.args.goal.now) c.args.inst.now c.args.cert.now)
    c.in_ok-verdict.verdict other (returns-clause-verdict g c) h

pub returns-clause-bounds : goal.returns-clause-bounds
returns-clause-bounds g c = λ e. c.valid_bounds_plans.ensures c.args.inst.now c.args.cert.now c.fits.ensures c.requires
    (subst (IsVerdict (g.G.Goal.base_gives c.args.goal.now) (g.G.Goal.value_gives c.args.goal.now) c.args.inst.now
    c.args.cert.now) e (returns-clause-verdict g c))
