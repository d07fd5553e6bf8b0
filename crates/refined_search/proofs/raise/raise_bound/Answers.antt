use Rattle.std.proofs.Common.{sym, subst, ℕ, List, All}
use Rattle.std.specs.Prelude.{option_map}
use Rattle.certificate_lines.specs.declared.line.Bound.TheVariants.{NoPlan}
use Rattle.certificate_tree.specs.declared.node.Node.{Node}
use Rattle.certificate_tree.specs.Trees.{Tree}
use Rattle.certificate_tree.specs.Validity.{IsTreeOfClaim}
use Rattle.certificate_tree.specs.PriceTables.{claim_by}
use Rattle.refined_prices.specs.RefinedLists.{RefinedList, IsRefinedList}
use Rattle.refined_check.specs.Worths.{AreRefinedTables}
use Rattle.refined_search.specs.Lists.{lists_of, AreListsFor}
use Rattle.refined_search.proofs.BeginLemmas.{tables_ready}
use Rattle.refined_search.proofs.LentLemmas.{seen, lent_ok, lent_trees}
use Rattle.refined_search.proofs.RaiseLemmas.{IsEnded, Laws, is_raised_as, one_table_more, grows_by}
use Rattle.refined_search.proofs.raise.raise_bound.Goals as goal

pub refined_tables_of-requires : goal.refined_tables_of-requires
refined_tables_of-requires c =
    subst (All (IsRefinedList c.args.inst.now)) (sym c.as_slice.ensures.value) c.in_ok-lists.ensures.in_range

pub begin-requires : goal.begin-requires
begin-requires c =
    let inst = c.args.inst.now in
    let lists = c.in_ok-lists.lists.items in
    let rows = c.as_slice-rows.result.now in
    let is = c.in_ok-lists.ensures in
    let made = subst (λ (ls : List RefinedList). AreRefinedTables inst ls c.in_ok-tables.tables.items)
    c.as_slice.ensures.value c.in_ok-tables.ensures in
    let ready = tables_ready inst lists c.in_ok-tables.tables.items rows c.fits.ensures
    c.tables_bound_boxes.ensures c.refined_lists_bound_boxes.ensures is.few is.in_range made
    c.as_slice-rows.ensures.value in
    let are = subst (AreRefinedTables inst lists) (sym c.as_slice-rows.ensures.value) made in
    record {
      some = ready.some;
      few = ready.few;
      priced = ready.priced;
      lawful = ready.lawful;
      cert = lent_trees inst lists is.more rows c.args.cert
          (one_table_more inst lists rows c.fits.ensures are c.same_worths_prove_the_same.ensures) is.behind
          c.requires.cert;
    }

pub go_on_part-requires : goal.go_on_part-requires
go_on_part-requires c =
    let inst = c.args.inst.now in
    let lists = c.in_ok-lists.lists.items in
    let rows = c.as_slice-rows.result.now in
    let is = c.in_ok-lists.ensures in
    let made = subst (λ (ls : List RefinedList). AreRefinedTables inst ls c.in_ok-tables.tables.items)
    c.as_slice.ensures.value c.in_ok-tables.ensures in
    let ready = tables_ready inst lists c.in_ok-tables.tables.items rows c.fits.ensures
    c.tables_bound_boxes.ensures c.refined_lists_bound_boxes.ensures is.few is.in_range made
    c.as_slice-rows.ensures.value in
    record {
      some = ready.some;
      few = ready.few;
      priced = ready.priced;
      lawful = ready.lawful;
      tree = subst (λ (ns : List Node). (t : Tree) × IsTreeOfClaim inst (claim_by NoPlan rows ns) t)
          (sym c.as_slice-nodes.ensures) c.in_ok-begun.ensures.tree;
      incumbent = c.requires.incumbent;
      part = c.requires.part;
    }

pub new_splits-splits-requires : goal.new_splits-splits-requires
new_splits-splits-requires c =
    let ends = rw c.as_slice-nodes.ensures at c.in_ok-end.ensures in
    let grows = grows_by c.args.inst.now (option_map (λ given. given.now) c.args.incumbent) (seen c.args.cert)
    c.args.turns c.args.part c.as_slice-rows.result.now c.in_ok-begun.begun c.in_ok-end.end c.in_ok-begun.ensures
    ends.gone_on in
    rw (c.as_slice-nodes.ensures, c.as_slice-2.ensures)
    (record { old = grows.odd_old; new = grows.odd_new; more = grows.more; few = grows.few })

pub returns : goal.returns
returns c =
    let inst = c.args.inst.now in
    let lists = c.in_ok-lists.lists.items in
    let rows = c.as_slice-rows.result.now in
    let begun = c.in_ok-begun.begun in
    let end = c.in_ok-end.end in
    let ends = rw c.as_slice-nodes.ensures at c.in_ok-end.ensures in
    let made = subst (λ (ls : List RefinedList). AreRefinedTables inst ls c.in_ok-tables.tables.items)
    c.as_slice.ensures.value c.in_ok-tables.ensures in
    let laws : Laws inst = record {
      fit = c.fits.ensures;
      one_tree = c.nodes_are_one_tree.ensures;
      same_proved = c.same_worths_prove_the_same.ensures;
      plans_bounded = c.proved_bounds_plans.ensures;
      lists_bound = c.refined_lists_bound_boxes.ensures;
      worths = c.worths_are_small.ensures.worths;
      values = c.worths_are_small.ensures.values;
    } in
    let is : IsEnded inst (option_map (λ given. given.now) c.args.incumbent) (seen c.args.cert) c.args.turns c.args.part
    c.args.most lists rows begun end c.new_splits-splits.result = record {
      old_ok = lent_ok inst c.args.cert c.requires.cert;
      lists_are = subst (λ (n : ℕ). AreListsFor inst (option_map (λ given. given.now) c.args.incumbent)
          (lists_of (seen c.args.cert)) c.args.turns n lists) c.most_added-more.ensures c.in_ok-lists.ensures;
      tables_are = subst (AreRefinedTables inst lists) (sym c.as_slice-rows.ensures.value) made;
      begun_is = c.in_ok-begun.ensures;
      proved = ends.proved;
      gone_on = ends.gone_on;
      floor = ends.floor;
      no_lower = ends.no_lower;
      no_plan = ends.no_plan;
      splits_is = rw (c.as_slice-nodes.ensures, c.as_slice-2.ensures) at c.new_splits-splits.ensures;
    } in
    record {
      raised = is_raised_as inst (option_map (λ given. given.now) c.args.incumbent) (seen c.args.cert) c.args.turns
          c.args.part c.args.most lists rows begun end c.new_splits-splits.result laws is c.within_range.result c.from_vec.result
          c.within_range.ensures c.from_vec.ensures;
    }
