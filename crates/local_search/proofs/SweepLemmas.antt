-- A sweep over interventions: what it found where it made no change.
use Rattle.std.proofs.Common.{◌≡◌, ℕ, ◌+◌, ◌<◌, ◌≤◌, length, sym, subst, arith, inl, inr}
use Rattle.std.proofs.lemmas.Bool.{cases_lt}
use Rattle.plan_moves.specs.KeptPlans.{KeptPlans, AreKeptPlans, present}
use Rattle.local_search.specs.Descents.{IsLocalOptimum}
use Rattle.local_search.specs.Progress.{Made, LeadsTo, IfStill, NoStartLowers, NoSwapLowers}
use Rattle.local_search.proofs.ChangeLemmas.{IsLocalOptimum-from}
use Rattle.local_search.proofs.LeadsLemmas.{LeadsTo-same, LeadsTo-more, LeadsTo-still, LeadsTo-fewer, present_each}

-- from one state to another, a sweep came from `from` up to i, and where it made no change P holds of each before i
pub record SweptTo (P : KeptPlans → ℕ → Type 0) (k0 : KeptPlans) (m0 : Made) (k1 : KeptPlans) (m1 : Made)
    (from i : ℕ) : Type 0 where
  pub leads : LeadsTo k0 m0 k1 m1
  pub none : IfStill m0 m1 ((j : ℕ) → from ≤ j → j < i → P k1 j)

pub SweptTo-none : (P : KeptPlans → ℕ → Type 0) (kept : KeptPlans) (made : Made) (from : ℕ)
    → SweptTo P kept made kept made from from
SweptTo-none P kept made from =
    record { leads = LeadsTo-same kept made; none = λ some same j low high. absurd (omega (arith, low, high)) }

-- where two ways one behind the other made no change, neither did
still_before : (k0 k1 k2 : KeptPlans) (m0 m1 m2 : Made) → LeadsTo k0 m0 k1 m1 → LeadsTo k1 m1 k2 m2 → m2.left ≡ m0.left
    → (m1.left ≡ m0.left) × (m2.left ≡ m1.left)
still_before k0 k1 k2 m0 m1 m2 a b same =
    let first = LeadsTo-fewer k0 k1 m0 m1 a in
    let second = LeadsTo-fewer k1 k2 m1 m2 b in
    (omega (arith, first, second, same), omega (arith, first, second, same))

pub SweptTo-more : (P : KeptPlans → ℕ → Type 0) (k0 k1 k2 : KeptPlans) (m0 m1 m2 : Made) (from i : ℕ)
    → SweptTo P k0 m0 k1 m1 from i → LeadsTo k1 m1 k2 m2 → IfStill m1 m2 (P k2 i) → SweptTo P k0 m0 k2 m2 from (i + 1)
SweptTo-more P k0 k1 k2 m0 m1 m2 from i swept leads here = record {
  leads = LeadsTo-more k0 k1 k2 m0 m1 m2 swept.leads leads;
  none = λ some same j low high.
      let still = still_before k0 k1 k2 m0 m1 m2 swept.leads leads same in
      elim (cases_lt j i) [
        | inl l ↦ subst (λ (k : KeptPlans). P k j) (sym (LeadsTo-still k1 k2 m1 m2 leads still.1))
            (swept.none some still.0 j low l)
        | inr l ↦ let at : j ≡ i = omega (arith, l, high) in
            subst (λ (n : ℕ). P k2 n) (sym at) (here (omega (arith, some, still.0)) still.1)
      ];
}

-- ---- a round

-- a sweep over all starts and one over all exchanges, neither of which made a change
pub round_optimum : (k0 k1 k2 : KeptPlans) (m0 m1 m2 : Made) → LeadsTo k0 m0 k1 m1
    → IfStill m0 m1 ((i : ℕ) → i < length k1.instance.names → NoStartLowers k1 i) → LeadsTo k1 m1 k2 m2
    → IfStill m1 m2 ((i : ℕ) → i < length k2.instance.names → NoSwapLowers k2 i) → AreKeptPlans k2 → m0.left ≤ m2.left
    → 0 < m2.left → IsLocalOptimum k2.instance (present k2.plans)
round_optimum k0 k1 k2 m0 m1 m2 first starts second swaps plans least some =
    let same : m2.left ≡ m0.left =
    omega (arith, LeadsTo-fewer k0 k1 m0 m1 first, LeadsTo-fewer k1 k2 m1 m2 second, least) in
    let still = still_before k0 k1 k2 m0 m1 m2 first second same in
    let back : k1 ≡ k2 = sym (LeadsTo-still k1 k2 m1 m2 second still.1) in
    IsLocalOptimum-from k2.instance (present k2.plans) (present_each k2 plans)
    (subst (λ (k : KeptPlans). (i : ℕ) → i < length k.instance.names → NoStartLowers k i) back
    (starts (omega (arith, some, same)) still.0))
    (swaps (omega (arith, some, still.1)) still.1)
