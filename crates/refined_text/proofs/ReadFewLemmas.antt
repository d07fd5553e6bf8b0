-- How many groups a period has at most.
use Rattle.std.proofs.Common.{◌≡◌, ℕ, zero, suc, ◌+◌, ◌<◌, ◌≤◌, arith, List, [], ◌∷◌, length, get_or, Option, Some}
use Rattle.std.proofs.Common.{None, refl}
use Rattle.std.specs.List.{All, AllPairs}
use Rattle.std.proofs.lemmas.List.Elements.{All-head}
use Rattle.instance_model.specs.Tables.{Tables, scenarios_of}
use Rattle.instance_model.specs.Fitting.{IsFitting}
use Rattle.refined_prices.specs.declared.member.Member.{Member}
use Rattle.refined_prices.specs.declared.group_tail.GroupTail.{GroupTail}
use Rattle.refined_prices.specs.Groups.{scenarios_in, IsGroup}
use Rattle.refined_prices.specs.Offsets.{group_tail_at, group_count}
use Rattle.certificate_text.proofs.FormLemmas.{scenarios_small}
use Rattle.refined_check.specs.certificate.Orders.{first_scenario, GroupBefore}
use Rattle.refined_text.specs.read.Parts.{Part}
use Rattle.refined_text.specs.read.Taking.{IsPart}

first_within : (n total : ℕ) (g : List Member) → IsGroup n total g → first_scenario g ≤ n
first_within n total [] h = omega arith
first_within n total (x ∷ xs) h = All-head (λ k. k ≤ n) x.scenario (scenarios_in xs) h.within

-- the group at place k has a first scenario of k at least
first_above : (gs : List (List Member)) → AllPairs GroupBefore gs → (k : ℕ) → k < length gs
    → k ≤ first_scenario (get_or gs k [])
first_above gs order zero l = omega arith
first_above gs order (suc k) l =
    let before = first_above gs order k (omega (arith, l)) in
    let next = order k (suc k) [] (omega arith) l in
    omega (arith, before, next)

few_groups : (n total : ℕ) (gs : List (List Member)) → AllPairs GroupBefore gs → All (IsGroup n total) gs
    → length gs ≤ n + 1
few_groups n total [] order each = omega arith
few_groups n total (g ∷ gs) order each =
    let above = first_above (g ∷ gs) order (length gs) (omega arith) in
    let within = first_within n total (get_or (g ∷ gs) (length gs) []) (each (length gs) [] (omega arith)) in
    omega (arith, above, within)

pub group_counts : (inst : Tables) (part : Part) → IsFitting inst → IsPart inst part → (u : ℕ) → 1 ≤ u
    → u ≤ inst.periods → group_count (group_tail_at part.further.tails u) ≤ 1025
group_counts inst part fits s u from to = at (group_tail_at part.further.tails u) refl
  where
    at : (o : Option GroupTail) → group_tail_at part.further.tails u ≡ o → group_count o ≤ 1025
    at None e = omega arith
    at (Some tail) e =
        let own = s.tails u from to tail e in
        let few = few_groups (scenarios_of inst u) tail.weight tail.groups own.order own.groups in
        let small = scenarios_small inst u fits from to in
        omega (arith, few, small)
