-- Where a plan keeps the rules, at most one of a clique is in progress in its period, and pays the price.
use Rattle.std.proofs.Common.{◌≡◌, ℕ, zero, suc, ◌+◌, ◌<◌, ◌≤◌, ◌⊎◌, inl, inr, refl, sym, ◌∙◌, ap, subst, arith, List}
use Rattle.std.proofs.Common.{[], ◌∷◌, length, get_or, map, Some, Bool, true, false, cond, ◌&&◌, ◌||◌, IsTrue, ◌==◌}
use Rattle.std.proofs.lemmas.Bool.{and_parts, cases_order}
use Rattle.std.proofs.lemmas.Bool.Decides.{nat_tests}
use Rattle.std.specs.List.{AllByRecursion}
use Rattle.instance_model.specs.Naturals.{count_sum}
use Rattle.instance_model.specs.Tables.{Tables, in_run, exclusion_of}
use Rattle.instance_model.specs.Plans.{is_running}
use Rattle.instance_model.specs.Rules.{KeepsRules}
use Rattle.lagrange_bound.proofs.WorthLemmas.{running}
use Rattle.lagrange_bound.proofs.ExLemmas.{count_sum-add, count_sum-none}
use Rattle.refined_prices.specs.declared.clique.Clique.{Clique}
use Rattle.refined_prices.specs.Cliques.{ExcludeEachOther, IsPricedClique, is_member, clique_share, clique_part}
use Rattle.refined_prices.specs.Cliques.{clique_total, AtMostOneRuns, NamedTwiceNeverRuns}

-- ---- who is in progress

-- interventions that exclude each other aren't in progress together
not_both : (inst : Tables) (starts : List ℕ) (t i j : ℕ) → KeepsRules inst (map Some starts) → 1 ≤ t
    → t ≤ inst.periods → ExcludeEachOther inst t i j → IsTrue (is_running inst (map Some starts) i t)
    → IsTrue (is_running inst (map Some starts) j t) → ⊥
not_both inst starts t i j k one few w a b = at w.excludes.names
  where
    runs : ℕ → Bool
    runs i = is_running inst (map Some starts) i t

    moved : (x y : ℕ) → x ≡ y → IsTrue (runs y) → IsTrue (runs x)
    moved x y e h = subst (λ (z : ℕ). IsTrue (runs z)) (sym e) h

    at : (((exclusion_of inst w.exclusion).first ≡ i) × ((exclusion_of inst w.exclusion).second ≡ j))
        ⊎ (((exclusion_of inst w.exclusion).first ≡ j) × ((exclusion_of inst w.exclusion).second ≡ i)) → ⊥
    at (inl p) = k.seasons w.exclusion t w.number one few w.excludes.season
        (moved (exclusion_of inst w.exclusion).first i p.0 a, moved (exclusion_of inst w.exclusion).second j p.1 b)
    at (inr p) = k.seasons w.exclusion t w.number one few w.excludes.season
        (moved (exclusion_of inst w.exclusion).first j p.0 b, moved (exclusion_of inst w.exclusion).second i p.1 a)

-- a member stands somewhere
place_of : (members : List ℕ) (i : ℕ) → is_member members i ≡ true
    → (m : ℕ) × (m < length members) × (get_or members m 0 ≡ i)
unfolding is_member
place_of [] i h = absurd (cc)
place_of (j ∷ members) i h = at (j == i) refl h (place_of members i)
  where
    at : (b : Bool) → (j == i) ≡ b → (b || is_member members i) ≡ true
        → (is_member members i ≡ true → (m : ℕ) × (m < length members) × (get_or members m 0 ≡ i))
        → (m : ℕ) × (m < length (j ∷ members)) × (get_or (j ∷ members) m 0 ≡ i)
    at true e h rest = (zero, omega arith, grind (arith, nat_tests))
    at false e h rest = let w = rest h in (suc w.0, omega (arith, w.1), w.2)

pub AtMostOneRuns-from : (inst : Tables) → AtMostOneRuns inst
AtMostOneRuns-from inst starts t members i j each k one few clique p q a b =
    at (place_of members i p) (place_of members j q)
  where
    at : ((m : ℕ) × (m < length members) × (get_or members m 0 ≡ i))
        → ((n : ℕ) × (n < length members) × (get_or members n 0 ≡ j)) → i ≡ j
    at (m, l, e) (n, h, f) = by (cases_order m n)
      where
        apart : (m n x y : ℕ) → m < n → n < length members → get_or members m 0 ≡ x → get_or members n 0 ≡ y
            → ExcludeEachOther inst t x y
        apart m n x y less l e f = subst (λ (z : ℕ). ExcludeEachOther inst t x z) f
            (subst (λ (z : ℕ). ExcludeEachOther inst t z (get_or members n 0)) e (clique.apart m n 0 less l))

        by : (m ≡ n) ⊎ ((m < n) ⊎ (n < m)) → i ≡ j
        by (inl same) = sym e ∙ ap (λ (x : ℕ). get_or members x 0) same ∙ f
        by (inr (inl less)) = absurd (not_both inst starts t i j k one few (apart m n i j less h e f) a b)
        by (inr (inr more)) = absurd (not_both inst starts t j i k one few (apart n m j i more l f e) b a)

pub NamedTwiceNeverRuns-from : (inst : Tables) → NamedTwiceNeverRuns inst
NamedTwiceNeverRuns-from inst starts t i k one few w a = not_both inst starts t i i k one few w a a

-- ---- what a price comes to

-- a sum of v where a test holds, and else of 0
nothing : (n v : ℕ) (test : ℕ → Bool) → ((i : ℕ) → i < n → test i ≡ false)
    → count_sum n (λ i. cond (test i) v 0) ≡ 0
unfolding count_sum
nothing zero v test h = refl
nothing (suc n) v test h =
    let ih = nothing n v test (λ i l. h i (omega (arith, l))) in
    let last = h n (omega arith) in
    rw last (omega (arith, ih))

-- where the test holds at most once, that is at most v
at_most_once : (n v : ℕ) (test : ℕ → Bool)
    → ((i j : ℕ) → i < n → j < n → test i ≡ true → test j ≡ true → i ≡ j) → count_sum n (λ i. cond (test i) v 0) ≤ v
unfolding count_sum
at_most_once zero v test h = omega arith
at_most_once (suc n) v test h =
    at (test n) refl (at_most_once n v test (λ i j l m. h i j (omega (arith, l)) (omega (arith, m))))
  where
    others : test n ≡ true → (i : ℕ) → i < n → test i ≡ false
    others e i l = by (test i) refl
      where
        by : (b : Bool) → test i ≡ b → b ≡ false
        by true f = absurd (let same = h i n (omega (arith, l)) (omega arith) f e in omega (arith, same, l))
        by false f = refl

    at : (b : Bool) → test n ≡ b → count_sum n (λ i. cond (test i) v 0) ≤ v
        → count_sum n (λ i. cond (test i) v 0) + cond (test n) v 0 ≤ v
    at true e before = let none = nothing n v test (others e) in rw e (omega (arith, none))
    at false e before = rw e (omega (arith, before))

-- over a plan that keeps the rules the price of a clique is paid at most once
paid_once : (inst : Tables) (starts : List ℕ) (x : Clique) → length starts ≡ length inst.names
    → KeepsRules inst (map Some starts) → IsPricedClique inst x
    → count_sum (length inst.names) (λ i. clique_share inst x i (get_or starts i 0)) ≤ x.value
unfolding clique_share
paid_once inst starts x each k w = at_most_once (length inst.names) x.value
    (λ i. is_member x.members i && in_run inst i (get_or starts i 0) x.period)
    (λ i j l m p q.
    let a = and_parts (is_member x.members i) (in_run inst i (get_or starts i 0) x.period) p in
    let b = and_parts (is_member x.members j) (in_run inst j (get_or starts j 0) x.period) q in
    AtMostOneRuns-from inst starts x.period x.members i j each k w.from w.to w.members a.0 b.0
    (running inst starts i x.period (omega (arith, l, each)) a.1)
    (running inst starts j x.period (omega (arith, m, each)) b.1))

-- all cliques
pub cliques-le : (inst : Tables) (starts : List ℕ) (xs : List Clique) → length starts ≡ length inst.names
    → KeepsRules inst (map Some starts) → AllByRecursion (IsPricedClique inst) xs
    → count_sum (length inst.names) (λ i. clique_part inst xs i (get_or starts i 0)) ≤ clique_total xs
unfolding clique_part clique_total
cliques-le inst starts [] each k h = omega (arith, count_sum-none (length inst.names))
cliques-le inst starts (x ∷ xs) each k h =
    let n = length inst.names in
    let parts = count_sum-add n (λ i. clique_share inst x i (get_or starts i 0))
    (λ i. clique_part inst xs i (get_or starts i 0)) in
    let one = paid_once inst starts x each k h.0 in
    let rest = cliques-le inst starts xs each k h.1 in
    omega (arith, parts, one, rest)
