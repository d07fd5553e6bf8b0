-- The certificate of a search is in range where the numbers of its list don't come to much, and has few nodes.
use Rattle.std.proofs.Common.{◌≡◌, ℕ, zero, suc, ◌+◌, ◌*◌, ◌≤◌, ◌^◌, inl, inr, sym, ap, subst, arith, ℤ}
use Rattle.std.proofs.Common.{List, length, IfSome, Option, Some, None, option_map, unsigned_abs, Bor}
use Rattle.instance_model.specs.Tables.{Tables}
use Rattle.instance_model.specs.Fitting.{IsFitting}
use Rattle.lagrange_bound.specs.declared.span.Span.{Span}
use Rattle.lagrange_bound.specs.Prices.{PriceList, IsPriceList}
use Rattle.lagrange_bound.specs.Goals.{Bases, PlanValue, ValuesAreSmall}
use Rattle.lagrange_bound.specs.Boxes.{HasStarts}
use Rattle.lagrange_bound.specs.Worth.{price_total, WorthsAreSmall}
use Rattle.lagrange_bound.proofs.PriceLemmas.{zero_in_range, zero_total}
use Rattle.certificate_lines.specs.declared.line.Bound.{Bound}
use Rattle.certificate_lines.specs.declared.line.Bound.TheVariants.{NoPlan, Least}
use Rattle.certificate_tree.specs.Trees.{Leaf, leaves, root_box}
use Rattle.certificate_tree.specs.Ranges.{IsBoundInRange}
use Rattle.certificate_tree.specs.Holding.{Worths, list_at, worth_by}
use Rattle.branch_search.specs.declared.search_end.SearchEnd.{SearchEnd}
use Rattle.branch_search.specs.declared.tree_end.TreeEnd.{TreeEnd}
use Rattle.branch_search.specs.Best.{IsBestOver}
use Rattle.branch_search.specs.Searched.{lists_of, end_of, IsBounding, IsCostOf, IsAmong, IsLeastOf, IsSearchedBy}
use Rattle.branch_search.specs.Searched.{IsSearched}
use Rattle.branch_search.proofs.SplitLemmas.{node_count}
use Rattle.branch_search.proofs.SettleLemmas.{allowed_of_feasible}

-- what is said of a list that is lent, if there is one
abbrev pub seen : Option (Bor PriceList) → Option PriceList
seen prices = option_map (λ (given : Bor PriceList). given.now) prices

pub lent : (P : PriceList → Type 0) (prices : Option (Bor PriceList)) → IfSome prices (λ given. P given.now)
    → IfSome (seen prices) P
lent P None h = tt
lent P (Some given) h = h

-- ---- nodes

pub few_nodes : (value : PlanValue) (inst : Tables) (lists : ℕ) (worths : Worths) (incumbent : Option (List ℕ))
    (before turns : ℕ) (answer : SearchEnd) → IsSearchedBy value inst lists worths incumbent before turns answer
    → length answer.nodes ≤ 2 * (before + turns) + 1
few_nodes value inst lists worths incumbent before turns answer h =
    omega (arith, node_count h.tree (root_box inst), ap length h.of_nodes.order, h.few)

-- ---- the bound

-- a list that a certificate can name: in range, with numbers that don't come to much
record IsLight (inst : Tables) (prices : PriceList) : Type 0 where
  in_range : IsPriceList inst prices
  total : price_total prices ≤ 40_000_000_000

named_light : (inst : Tables) (prices : Option PriceList) (j : ℕ) → j ≤ length (lists_of prices)
    → IfSome prices (IsPriceList inst) → IfSome prices (λ p. price_total p ≤ 40_000_000_000)
    → IsLight inst (list_at inst (lists_of prices) j)
unfolding list_at
named_light inst prices zero l h k =
    record { in_range = zero_in_range inst; total = omega (arith, zero_total inst) }
named_light inst None (suc j) l h k = absurd (omega (arith, l))
named_light inst (Some p) (suc zero) l h k = record { in_range = h; total = k }
named_light inst (Some p) (suc (suc j)) l h k = absurd (omega (arith, l))

-- where worths are small, the bound of a search by them is in range
small_bound : (value : PlanValue) (inst : Tables) (lists : ℕ) (worths : Worths) (incumbent : Option (List ℕ))
    (before turns : ℕ) (answer : SearchEnd) → IsFitting inst → ValuesAreSmall value
    → ((box : List Span) (j : ℕ) → HasStarts inst box → j ≤ lists → unsigned_abs (worths box j) ≤ 10 ^ 36)
    → IsSearchedBy value inst lists worths incumbent before turns answer → IsBoundInRange answer.bound
small_bound value inst lists worths incumbent before turns answer fits values small h = at answer.bound h.bound
  where
    plan_small : (best : Option (List ℕ)) (plan : List ℕ) → IsBestOver value inst incumbent best → best ≡ Some plan
        → unsigned_abs (value inst plan) ≤ 10 ^ 36
    plan_small best plan b e =
        let w = subst (IsBestOver value inst incumbent) e b in
        let s = values inst plan fits (allowed_of_feasible inst plan w.feasible.each w.feasible.feasible) in
        omega (arith, s)

    leaf_small : (x : Leaf) (z : ℤ) → IsBounding value inst lists worths answer.best x.box x.node
        → IsCostOf worths z x → unsigned_abs z ≤ 10 ^ 36
    leaf_small x z b c =
        let w = subst (IsBounding value inst lists worths answer.best x.box) c.node b in
        subst (λ (y : ℤ). unsigned_abs y ≤ 10 ^ 36) c.worth (small x.box c.list w.unrefuted.starts w.list.number)

    among : (z : ℤ) → IsAmong value inst worths answer.best (leaves (root_box inst) h.tree) z
        → unsigned_abs z ≤ 10 ^ 36
    among z (inl (plan, e, v)) =
        subst (λ (y : ℤ). unsigned_abs y ≤ 10 ^ 36) v (plan_small answer.best plan h.best e)
    among z (inr (k, x, l, e, c)) = leaf_small x z
        (subst (λ (y : Leaf). IsBounding value inst lists worths answer.best y.box y.node) e (h.bounding k x l)) c

    at : (b : Bound) → IsLeastOf (IsAmong value inst worths answer.best (leaves (root_box inst) h.tree)) b
        → IsBoundInRange b
    at NoPlan w = tt
    at (Least z) w = among z w.0

pub bound_in_range : (base : Bases) (value : PlanValue) (inst : Tables) (prices : Option PriceList)
    (incumbent : Option (List ℕ)) (turns : ℕ) (answer : TreeEnd) → IsFitting inst → WorthsAreSmall base
    → ValuesAreSmall value → IfSome prices (IsPriceList inst) → IfSome prices (λ p. price_total p ≤ 40_000_000_000)
    → IsSearched base value inst prices incumbent turns answer → IsBoundInRange answer.cert.bound
bound_in_range base value inst prices incumbent turns answer fits worths values in_range light h =
    small_bound value inst (length answer.cert.lists) (worth_by base inst answer.cert.lists) incumbent 0 turns
    (end_of answer) fits values worth_small h.by
  where
    named : (j : ℕ) → j ≤ length answer.cert.lists → IsLight inst (list_at inst answer.cert.lists j)
    named = subst (λ (ls : List PriceList). (j : ℕ) → j ≤ length ls → IsLight inst (list_at inst ls j)) (sym h.lists)
        (λ j l. named_light inst prices j l in_range light)

    worth_small : (box : List Span) (j : ℕ) → HasStarts inst box → j ≤ length answer.cert.lists
        → unsigned_abs (worth_by base inst answer.cert.lists box j) ≤ 10 ^ 36
    worth_small box j some l =
        let list = named j l in
        worths inst (list_at inst answer.cert.lists j) box fits list.in_range list.total some
