use Rattle.std.proofs.Common.{arith}
use Rattle.certificate_check.proofs.VerdictLemmas.{tree_by_tables}
use Rattle.command_rebound.proofs.MakingLemmas.{becomes_by, is_right_for}
use Rattle.command_rebound.proofs.making.make.Goals as goal

pub rebound_by-requires : goal.rebound_by-requires
rebound_by-requires g c =
    let inst = c.args.inst.now in
    let claim = g.C.FileCertificate.kind.claim inst c.args.cert.now in
    let lawful = c.laws.ensures.claims c.args.cert.now c.requires in
    let are = c.in_ok-tables.ensures in
    let each = are.each in
    let few = lawful.few in
    let t = lawful.tree in
    rw (c.nodes.ensures inst, c.as_slice.ensures.value) (record {
      some = omega (arith, each);
      few = omega (arith, each, few);
      priced = are.priced;
      tree = (
        t.0,
        tree_by_tables inst claim.bound claim.lists claim.worths c.in_ok-tables.tables.items claim.nodes t.0 are t.1,
      );
    })

pub returns : goal.returns
returns g c =
    let kind = g.C.FileCertificate.kind in
    let inst = c.args.inst.now in
    let cert = c.args.cert.now in
    let tree = c.in_ok-tree.tree in
    let fit = c.fits.ensures in
    let lawful = c.laws.ensures in
    record {
      right = is_right_for kind inst cert tree fit lawful c.requires c.nodes_are_one_tree.ensures
          c.proved_bounds_plans.ensures c.worths_are_small.ensures.worths c.worths_are_small.ensures.values
          (becomes_by kind inst cert tree fit lawful c.requires c.in_ok-tables.tables.items c.nodes.result.now
          (c.nodes.ensures inst) c.in_ok-tables.ensures
          (rw c.as_slice.ensures.value at c.in_ok-tree.ensures.rebound));
      acceptable = c.valid_is_accepted.ensures;
      text = c.in_ok-report.ensures;
    }
