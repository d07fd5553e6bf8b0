use Rattle.std.proofs.Common.{◌≡◌, List, refl, sym, ◌∙◌, subst, arith}
use Rattle.instance_model.specs.Tables.{Tables}
use Rattle.lagrange_bound.specs.Prices.{PriceList}
use Rattle.lagrange_bound.specs.Goals.{risk_base}
use Rattle.lagrange_bound.specs.Tabulated.{PriceRows}
use Rattle.certificate_tree.specs.PriceTables.{AreTables}
use Rattle.band_rebound.specs.declared.rebounded.Rebounded.{Rebounded}
use Rattle.band_rebound.proofs.SameLemmas.{tree_by, certificate_made}
use Rattle.band_rebound.proofs.ReboundLemmas.{is_right}
use Rattle.band_rebound.proofs.certificate.rebound.Goals as goal

same_tables : (inst : Tables) (lists others : List PriceList) (tables more : List PriceRows) → lists ≡ others
    → tables ≡ more → AreTables risk_base inst lists tables → AreTables risk_base inst others more
same_tables inst lists others tables more e f are =
    subst (λ (ts : List PriceRows). AreTables risk_base inst others ts) f
    (subst (λ (ps : List PriceList). AreTables risk_base inst ps tables) e are)

pub rebound_by-requires : goal.rebound_by-requires
rebound_by-requires c =
    let inst = c.args.inst.now in
    let cert = c.args.cert.now in
    let tables = c.as_slice-3.result.now in
    let are = same_tables inst c.as_slice.result.now cert.lists c.in_ok-tables.tables.items tables c.as_slice.ensures
    (sym c.as_slice-3.ensures.value) c.in_ok-tables.ensures in
    let each = are.each in
    record {
      some = omega (arith, each);
      few = omega (arith, each, c.requires.few);
      priced = are.priced;
      tree = tree_by inst cert tables c.as_slice-2.result.now are c.as_slice-2.ensures c.requires.tree;
    }

pub returns : goal.returns
returns c =
    let inst = c.args.inst.now in
    let cert = c.args.cert.now in
    let tables = c.as_slice-3.result.now in
    let are = same_tables inst c.as_slice.result.now cert.lists c.in_ok-tables.tables.items tables c.as_slice.ensures
    (sym c.as_slice-3.ensures.value) c.in_ok-tables.ensures in
    let tree = c.in_ok-tree.tree in
    let answer : Rebounded = record {
      cert = record { version = cert.version; bound = tree.bound; lists = c.from_vec.result; nodes = tree.nodes };
      kept = tree.kept;
      changed = tree.changed;
    } in
    let right = is_right inst cert answer c.fits.ensures c.requires c.nodes_are_one_tree.ensures
    c.valid_bounds_plans.ensures c.worths_are_small.ensures.worths c.worths_are_small.ensures.values
    (certificate_made inst cert tables c.as_slice-2.result.now answer c.fits.ensures are c.as_slice-2.ensures refl
    (c.from_vec.ensures ∙ c.in_ok-lists.ensures ∙ c.as_slice-4.ensures) c.in_ok-tree.ensures.rebound) in
    record {
      rebound = right.rebound;
      only = right.only;
      in_range = right.in_range;
      valid = right.valid;
      bounds = right.bounds;
      no_lower = right.no_lower;
    }
