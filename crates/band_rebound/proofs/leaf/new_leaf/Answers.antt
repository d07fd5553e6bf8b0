use Rattle.std.proofs.Common.{ℤ, ◌-◌, [], ◌∷◌, length, Some, refl, sym, ◌∙◌, ap, subst, arith}
use Rattle.std.proofs.lemmas.Bool.{false≢true}
use Rattle.fixed_num.proofs.SignedLemmas.{back_from_abs}
use Rattle.certificate_tree.specs.declared.node.Node.TheVariants.{Cost}
use Rattle.certificate_tree.specs.PriceTables.{table_worths}
use Rattle.band_rebound.specs.Rebinding.Becomes.{empty, same, cost}
use Rattle.band_rebound.specs.Steps.{IsNewLeaf}
use Rattle.band_rebound.proofs.LeafLemmas.{held_none, point_made, priced_box}
use Rattle.band_rebound.proofs.leaf.new_leaf.Goals as goal

pub returns-in-Some : goal.returns-in-Some
returns-in-Some c = record { becomes = empty c.in-Some.i c.in-Some.ensures.some; worth = refl; small = tt }

pub returns-then-is_held : goal.returns-then-is_held
returns-then-is_held c =
    let held = c.is_held.ensures.0 c.if-is_held.true in
    record {
      becomes = same c.in_default.ensures.none held;
      worth = held_none c.args.inst.now (table_worths c.args.tables.now) c.args.spans.now c.args.old held;
      small = tt;
    }

pub returns-then-is_single : goal.returns-then-is_single
returns-then-is_single c =
    let tables = c.args.tables.now in
    point_made c.args.inst.now (length tables - 1) (table_worths tables) c.args.spans.now c.args.old c.point_leaf.result
    c.in_default.ensures.none (λ h. false≢true (sym c.if-is_held.false ∙ c.is_held.ensures.1 h))
    (c.is_single.ensures.0 c.if-is_single.true) c.point_leaf.ensures.node c.point_leaf.ensures.worth
    c.point_leaf.ensures.small

pub greatest_worth-list-requires-clause-priced : goal.greatest_worth-list-requires-clause-priced
greatest_worth-list-requires-clause-priced c =
    priced_box c.args.inst.now c.args.tables.now c.args.spans.now c.requires.priced c.requires.spans
    c.in_default.ensures.none

pub returns : goal.returns
returns c =
    let tables = c.args.tables.now in
    let j = c.greatest_worth-list.result.0 in
    let z : ℤ = c.greatest_worth-list.result.1 in
    let made = c.greatest_worth-list.ensures in
    subst (λ (x : ℤ). IsNewLeaf c.args.inst.now (length tables - 1) (table_worths tables) c.args.spans.now c.args.old
    (record { node = Cost j; worth = Some x })) (sym (back_from_abs z (omega (arith, made.small))))
    (record {
      becomes = cost j c.in_default.ensures.none (λ h. false≢true (sym c.if-is_held.false ∙ c.is_held.ensures.1 h))
          (λ h. false≢true (sym c.if-is_single.false ∙ c.is_single.ensures.1 h)) made.table;
      worth = ap (λ (x : ℤ). x ∷ []) (sym made.value);
      small = made.small;
    })
