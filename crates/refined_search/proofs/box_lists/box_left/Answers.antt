use Rattle.std.proofs.Common.{sym, subst, List}
use Rattle.certificate_lines.specs.declared.line.Bound.TheVariants.{NoPlan}
use Rattle.certificate_tree.specs.declared.node.Node.{Node}
use Rattle.certificate_tree.specs.Trees.{Tree}
use Rattle.certificate_tree.specs.Validity.{IsTreeOfClaim}
use Rattle.certificate_tree.specs.PriceTables.{claim_by}
use Rattle.refined_search.proofs.BeginLemmas.{tables_ready}
use Rattle.refined_search.proofs.box_lists.box_left.Goals as goal

pub go_on-requires : goal.go_on-requires
go_on-requires c =
    let inst = c.args.inst.now in
    let rows = c.as_slice-rows.result.now in
    let ready = tables_ready inst c.args.lists.now c.in_ok-tables.tables.items rows c.fits.ensures
    c.tables_bound_boxes.ensures c.refined_lists_bound_boxes.ensures c.requires.lists.few c.requires.lists.in_range
    c.in_ok-tables.ensures c.as_slice-rows.ensures.value in
    record {
      some = ready.some;
      few = ready.few;
      priced = ready.priced;
      lawful = ready.lawful;
      tree = subst (λ (ns : List Node). (t : Tree) × IsTreeOfClaim inst (claim_by NoPlan rows ns) t)
          (sym c.as_slice-begun.ensures) c.in_ok-root.ensures.tree;
      incumbent = c.requires.incumbent;
    }

pub open_box-requires : goal.open_box-requires
open_box-requires c =
    let inst = c.args.inst.now in
    let rows = c.as_slice-rows.result.now in
    let ready = tables_ready inst c.args.lists.now c.in_ok-tables.tables.items rows c.fits.ensures
    c.tables_bound_boxes.ensures c.refined_lists_bound_boxes.ensures c.requires.lists.few c.requires.lists.in_range
    c.in_ok-tables.ensures c.as_slice-rows.ensures.value in
    record {
      priced = ready.priced;
      tree = subst (λ (ns : List Node). (t : Tree) × IsTreeOfClaim inst (claim_by NoPlan rows ns) t)
          (sym c.as_slice.ensures) c.in_ok-end.ensures.tree;
    }
