-- The entry at a place in order has the sum of that rank.
use Rattle.std.proofs.Common.{◌≡◌, ℕ, suc, ◌+◌, ◌-◌, ◌<◌, ◌≤◌, ℤ, Bool, true, false, cond, int_le, int_lt, List, []}
use Rattle.std.proofs.Common.{◌∷◌, length, count_by, refl}
use Rattle.std.proofs.Common.{sym, ap, subst, ◌∙◌, inl, inr, arith}
use Rattle.std.proofs.lemmas.Bool.{cases_Bool}
use Rattle.std.proofs.lemmas.Int.{ints}
use Rattle.std.proofs.lemmas.List.Elements.{Contains-get_or, Contains-append_right}
use Rattle.std.specs.List.{Contains}
use Rattle.quantile_index.specs.declared.entry.Entry.{Entry}
use Rattle.quantile_index.specs.Order.{IsBefore, AllEntries, IsOrdered}
use Rattle.quantile_index.specs.Ranking.{numbered, IsRanking, HasSumAt}
use Rattle.fixed_num.specs.Rank.{IsMthSmallest}
use Rattle.quantile_index.proofs.BagLemmas.{count_yes, count_no, count-append, int_le_self}
use Rattle.quantile_index.proofs.OrderLemmas.{below_middle, above_middle}

-- a test of the sums alone counts the same in the entries
pub count-numbered : (p : ℤ → Bool) (n : ℕ) (sums : List ℤ)
    → count_by (λ x. p x.sum) (numbered n sums) ≡ count_by p sums
count-numbered p n [] = refl
count-numbered p n (s ∷ sums) =
    let first : Entry = record { sum = s; scenario = n } in
    let rest = count-numbered p (n + 1) sums in
    elim (cases_Bool (p s)) [
      | inl q ↦ count_yes (λ x. p x.sum) first (numbered (n + 1) sums) q ∙ ap suc rest ∙ sym (count_yes p s sums q)
      | inr q ↦ count_no (λ x. p x.sum) first (numbered (n + 1) sums) q ∙ rest ∙ sym (count_no p s sums q)
    ]

count_all : (p : Entry → Bool) (P : Entry → Type 0) → ((x : Entry) → P x → p x ≡ true)
    → (xs : List Entry) → AllEntries P xs →
    count_by p xs ≡ length xs
count_all p P f [] a = refl
count_all p P f (x ∷ xs) a = count_yes p x xs (f x a.0) ∙ ap suc (count_all p P f xs a.1)

count_none : (p : Entry → Bool) (P : Entry → Type 0) → ((x : Entry) → P x → p x ≡ false) → (xs : List Entry)
    → AllEntries P xs → count_by p xs ≡ 0
count_none p P f [] a = refl
count_none p P f (x ∷ xs) a = count_no p x xs (f x a.0) ∙ count_none p P f xs a.1

count_le : (p : Entry → Bool) (xs : List Entry) → count_by p xs ≤ length xs
count_le p xs = Rattle.std.proofs.lemmas.List.Sums.count_by-le-length p xs

equal_from_test : (s q : ℤ) → cond (int_le s q) (int_le q s) false ≡ true → s ≡ q
equal_from_test s q h = grind (arith, ints)

contains_counted : (q : ℤ) (sums : List ℤ)
    → 0 < count_by (λ s. cond (int_le s q) (int_le q s) false) sums → Contains sums q
contains_counted q [] h = absurd (omega arith)
contains_counted q (s ∷ sums) h =
    let p : ℤ → Bool = λ s. cond (int_le s q) (int_le q s) false in
    elim (cases_Bool (p s)) [
      | inl e ↦ let same : s ≡ q = equal_from_test s q e in
          subst (Contains (s ∷ sums)) same (Contains-get_or (s ∷ sums) 0 s (omega arith))
      | inr e ↦
          Contains-append_right (s ∷ []) sums q (contains_counted q sums (let c = count_no p s sums e in omega arith))
    ]

pub kth_at : (entries : List Entry) (sums : List ℤ) (m : ℕ) (q : ℤ) → IsRanking entries sums → 1 ≤ m
    → HasSumAt entries (m - 1) q →
    IsMthSmallest m sums q
kth_at entries sums m q r h p =
    let s = subst IsOrdered p.is r.ordered in
    let below = below_middle p.front p.entry p.back s in
    let above = above_middle p.front p.entry p.back s in
    record {
      member =
          let eq : Entry → Bool = λ x. cond (int_le x.sum q) (int_le q x.sum) false in
          let self : eq p.entry ≡ true = rw (p.sum_is, int_le_self q) refl in
          let bag = r.bag.counts eq in
          let l = count-numbered (λ s. cond (int_le s q) (int_le q s) false) 1 sums in
          let parts = ap (count_by eq) p.is ∙ count-append eq p.front (p.entry ∷ p.back) in
          contains_counted q sums (omega (arith, parts, count_yes eq p.entry p.back self));
      below =
          let lt : Entry → Bool = λ x. int_lt x.sum q in
          let a = count-append lt p.front (p.entry ∷ p.back) in
          let self : int_lt p.entry.sum q ≡ false = rw p.sum_is (grind (arith, ints)) in
          let b = count_no lt p.entry p.back self in
          let none = count_none lt (λ x. IsBefore p.entry x) (λ x k. let n = k.not_above in let e = p.sum_is in
          grind (arith, ints)) p.back above in
          let bag = r.bag.counts lt in
          let l = count-numbered (λ s. int_lt s q) 1 sums in
          omega (arith, ap (count_by lt) p.is, count_le lt p.front, p.place);
      upto =
          let le : Entry → Bool = λ x. int_le x.sum q in
          let a = count-append le p.front (p.entry ∷ p.back) in
          let self : int_le p.entry.sum q ≡ true = rw p.sum_is (grind (arith, ints)) in
          let b = count_yes le p.entry p.back self in
          let all = count_all le (λ x. IsBefore x p.entry) (λ x k. let n = k.not_above in let e = p.sum_is in
          grind (arith, ints)) p.front below in
          let bag = r.bag.counts le in
          let l = count-numbered (λ s. int_le s q) 1 sums in
          omega (arith, ap (count_by le) p.is, p.place);
    }
