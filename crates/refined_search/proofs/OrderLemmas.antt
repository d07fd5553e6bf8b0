-- Lists whose elements are looked at one by one, and groups in order.
use Rattle.std.proofs.Common.{◌≡◌, ℕ, ◌+◌, ◌-◌, ◌<◌, ◌≤◌, ◌⊎◌, inl, inr, sym, subst, arith, List, length, get_or, All}
use Rattle.std.proofs.Common.{AllPairs}
use Rattle.std.proofs.Math.Nat.{eq-or-lt_of_le}
use Rattle.std.proofs.lemmas.List.{get_or_read}
use Rattle.refined_check.specs.certificate.Orders.{GroupBefore}
use Rattle.refined_prices.specs.declared.member.Member.{Member}
use Rattle.refined_prices.proofs.TablesOrderLemmas.{AreOrdered, AreOrdered-none, AreOrdered-more, AreOrdered-all}

-- ---- each element

-- what holds of the first n and of the next one
pub each_more : {A : Type 0} (P : A → Type 0) (xs : List A) (n : ℕ) (x : A) → n < length xs → x ≡ get_or xs n x → P x
    → ((k : ℕ) (d : A) → k < n → P (get_or xs k d)) → (k : ℕ) (d : A) → k < n + 1 → P (get_or xs k d)
each_more {A} P xs n x l is p h k d m = let below : k ≤ n = omega (arith, m) in at (eq-or-lt_of_le below)
  where
    at : (k ≡ n) ⊎ (k < n) → P (get_or xs k d)
    at (inl e) = subst (λ (j : ℕ). P (get_or xs j d)) (sym e) (subst P (get_or_read xs n x l is d) p)
    at (inr less) = h k d less

pub each_all : {A : Type 0} (P : A → Type 0) (xs : List A) (n : ℕ) → length xs ≤ n
    → ((k : ℕ) (d : A) → k < n → P (get_or xs k d)) → All P xs
each_all P xs n all h k d l = h k d (omega (arith, l, all))

-- ---- groups

-- nothing is asked of a group itself
abbrev pub IsAny : List Member → Type 0
IsAny group = Unit {0}

trans : (a b c : List Member) → GroupBefore a b → GroupBefore b c → GroupBefore a c
trans a b c h k = omega (arith, h, k)

pub ascend_none : (groups : List (List Member)) → AreOrdered IsAny GroupBefore groups 0
ascend_none groups = AreOrdered-none IsAny GroupBefore groups

pub ascend_more : (groups : List (List Member)) (k : ℕ) → AreOrdered IsAny GroupBefore groups k
    → ((d : List Member) → 0 < k → GroupBefore (get_or groups (k - 1) d) (get_or groups k d))
    → AreOrdered IsAny GroupBefore groups (k + 1)
ascend_more groups k h next = AreOrdered-more IsAny GroupBefore groups k trans h (λ d. tt) next

pub ascend_all : (groups : List (List Member)) (k : ℕ) → AreOrdered IsAny GroupBefore groups k → length groups ≤ k
    → AllPairs GroupBefore groups
ascend_all groups k h l = (AreOrdered-all IsAny GroupBefore groups k h l).1

pub not_ascending : (groups : List (List Member)) (k : ℕ) → k < length groups
    → (((d : List Member) → 0 < k → GroupBefore (get_or groups (k - 1) d) (get_or groups k d)) → ⊥)
    → AllPairs GroupBefore groups → ⊥
not_ascending groups k l bad h = bad (λ d some. h (k - 1) k d (omega (arith, some)) l)
