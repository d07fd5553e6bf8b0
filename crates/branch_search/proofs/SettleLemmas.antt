-- The leaf of a box that waits, and that of a single plan.
use Rattle.std.proofs.Common.{◌≡◌, ℕ, zero, suc, ◌-◌, ◌<◌, refl, sym, ◌∙◌, ap, subst, arith, ℤ, ◌^◌, List, [], ◌∷◌}
use Rattle.std.proofs.Common.{length, map, get_or, Option, Some, is_some, Bool, true, false, unsigned_abs}
use Rattle.std.proofs.lemmas.Bool.{true≢false}
use Rattle.instance_model.specs.declared.rule.Rule.{Rule}
use Rattle.instance_model.specs.Tables.{Tables}
use Rattle.instance_model.specs.Plans.{AreAllowedStarts}
use Rattle.instance_model.specs.Rules.{first_rule, IsFeasible}
use Rattle.lagrange_bound.specs.declared.span.Span.{Span}
use Rattle.lagrange_bound.specs.Goals.{PlanValue}
use Rattle.lagrange_bound.specs.Boxes.{span_of, IsBox, HasStarts, IsPlanIn}
use Rattle.lagrange_bound.specs.Tabulated.{PriceRows}
use Rattle.certificate_tree.specs.declared.node.Node.TheVariants.{Cost}
use Rattle.certificate_tree.specs.Holding.{IsGreatest, IsSingle, first_starts}
use Rattle.certificate_tree.specs.PriceTables.{table_worths}
use Rattle.certificate_tree.specs.Trees.{AreStartsIn}
use Rattle.certificate_tree.proofs.Refuting.{feasible_allowed, length-first_starts}
use Rattle.branch_search.specs.Boxes.{IsUnrefuted}
use Rattle.branch_search.specs.Tasks.{free_task}
use Rattle.branch_search.specs.Settled.{IsLeafOf}
use Rattle.branch_search.specs.Pricing.{AreSearchTables, ArePricedOver}

-- ---- a box that waits
pub priced_over : (inst : Tables) (tables : List PriceRows) (box : List Span) → AreSearchTables inst tables
    → IsBox inst box → HasStarts inst box → ArePricedOver box tables
priced_over inst tables box h b s =
    record { some = h.some; few = h.few; priced = λ k d l. h.priced k d l box b s }

pub waiting_leaf : (value : PlanValue) (inst : Tables) (tables : List PriceRows) (best : Option (List ℕ))
    (box : List Span) (j : ℕ) (z : ℤ) → IsUnrefuted inst box → (IsSingle box → ⊥)
    → IsGreatest (table_worths tables box) (length tables - 1) j → z ≡ table_worths tables box j
    → unsigned_abs z < 10 ^ 37
    → IsLeafOf (free_task value inst tables) best box (record { node = Cost j; worth = Some z })
waiting_leaf value inst tables best box j z u several greatest is small = record {
  no_split = tt;
  settled = record { unrefuted = u; several = several; list = greatest };
  worth = ap Some is;
  small = small;
}

-- ---- single plans
pub allowed_of_feasible : (inst : Tables) (starts : List ℕ) → length starts ≡ length inst.names
    → IsFeasible inst (map Some starts) → AreAllowedStarts inst starts
allowed_of_feasible inst starts each f =
    record { each = each; allowed = λ i l. feasible_allowed inst starts each f i (omega (arith, l, each)) }

-- no broken rule was found of a plan
pub plan_feasible : (inst : Tables) (starts : List ℕ) (plan : List (Option ℕ)) (rule : Option Rule) (b : Bool)
    → plan ≡ map Some starts → rule ≡ first_rule inst plan → b ≡ is_some rule → b ≡ false
    → IsFeasible inst (map Some starts)
plan_feasible inst starts plan rule b f r s n = subst (IsFeasible inst) f (ap is_some (sym r) ∙ sym s ∙ n)

pub plan_broken : (inst : Tables) (starts : List ℕ) (plan : List (Option ℕ)) (rule : Option Rule) (b : Bool)
    → plan ≡ map Some starts → rule ≡ first_rule inst plan → b ≡ is_some rule → b ≡ true
    → IsFeasible inst (map Some starts) → ⊥
plan_broken inst starts plan rule b f r s n h = true≢false (sym n ∙ s
    ∙ ap is_some r ∙ subst (λ (p : List (Option ℕ)). is_some (first_rule inst p) ≡ false) (sym f) h)

first_start_is : (box : List Span) (i : ℕ) → i < length box → get_or (first_starts box) i 0 ≡ (span_of box i).from
first_start_is [] i l = absurd (omega (arith, l))
first_start_is (x ∷ xs) zero l = refl
first_start_is (x ∷ xs) (suc i) l = first_start_is xs i (omega (arith, l))

pub first_starts_in : (inst : Tables) (box : List Span) → IsBox inst box → IsSingle box
    → AreStartsIn box (first_starts box)
first_starts_in inst box b s = record {
  each = length-first_starts box;
  from = λ i l. let e = first_start_is box i l in omega (arith, e);
  to = λ i l. let e = first_start_is box i l in let o = s i l in omega (arith, e, o);
}

pub plan_within : (inst : Tables) (box : List Span) (starts : List ℕ) → IsBox inst box → AreStartsIn box starts
    → IsFeasible inst (map Some starts) → IsPlanIn inst box starts
plan_within inst box starts b w f = record {
  each = w.each ∙ b.each;
  feasible = f;
  from = λ i l. w.from i (omega (arith, l, b.each));
  to = λ i l. w.to i (omega (arith, l, b.each));
}
