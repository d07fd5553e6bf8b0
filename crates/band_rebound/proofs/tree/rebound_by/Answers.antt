use Rattle.std.proofs.Common.{◌-◌, length, refl}
use Rattle.certificate_tree.specs.PriceTables.{table_worths}
use Rattle.band_rebound.specs.declared.rebounded.ReboundTree.{ReboundTree}
use Rattle.band_rebound.proofs.ReboundLemmas.{is_rebound, is_right_tree}
use Rattle.band_rebound.proofs.tree.rebound_by.Goals as goal

pub returns : goal.returns
returns c =
    let inst = c.args.inst.now in
    let nodes = c.args.nodes.now in
    let tables = c.args.tables.now in
    let growth = c.in_ok-growth.growth in
    let answer : ReboundTree = record {
      bound = growth.bound;
      nodes = c.from_vec.result;
      kept = growth.kept;
      changed = growth.changed;
    } in
    let right = is_right_tree inst (length tables - 1) (table_worths tables) nodes answer c.fits.ensures
    c.nodes_are_one_tree.ensures c.proved_bounds_plans.ensures c.worths_are_small.ensures.values
    (is_rebound inst (length tables - 1) (table_worths tables) nodes growth answer c.from_vec.ensures refl refl refl
    c.in_ok-growth.ensures) in
    record {
      rebound = right.rebound;
      only = right.only;
      proved = right.proved;
      in_range = right.in_range;
      bounds = right.bounds;
      no_lower = right.no_lower;
    }
