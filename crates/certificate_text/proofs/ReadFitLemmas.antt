-- Numbers that ascend, tested one after another.
use Rattle.std.proofs.Common.{ℕ, ◌+◌, ◌<◌, ◌≤◌, List, length, take, drop, get_or, sym, subst, arith}
use Rattle.std.specs.List.{All}
use Rattle.std.proofs.lemmas.List.{drop_more, drop_all, take_all}
use Rattle.std.proofs.lemmas.List.Elements.{All-get_or, All-more, All-nil}
use Rattle.lagrange_bound.specs.Least.{AscendAbove}

-- the first i numbers ascend, up to the last of them, and are at most `most`
pub record AscendSoFar (most : ℕ) (xs : List ℕ) (i last : ℕ) : Type 0 where
  pub forward : AscendAbove last (drop i xs) → AscendAbove 0 xs
  pub back : AscendAbove 0 xs → AscendAbove last (drop i xs)
  pub within : All (λ k. k ≤ most) (take i xs)

pub ascend_none : (most : ℕ) (xs : List ℕ) → AscendSoFar most xs 0 0
ascend_none most xs = record { forward = λ a. a; back = λ a. a; within = All-nil (λ k. k ≤ most) }

pub ascend_more : (most : ℕ) (xs : List ℕ) (i last : ℕ) → AscendSoFar most xs i last → i < length xs
    → last < get_or xs i 0 → get_or xs i 0 ≤ most → AscendSoFar most xs (i + 1) (get_or xs i 0)
ascend_more most xs i last so h above within = record {
  forward = λ a. so.forward (subst (λ (ys : List ℕ). AscendAbove last ys) (sym (drop_more xs i 0 h)) (above, a));
  back = λ a. (subst (λ (ys : List ℕ). AscendAbove last ys) (drop_more xs i 0 h) (so.back a)).1;
  within = All-more (λ k. k ≤ most) xs i 0 h so.within within;
}

pub not_above : (most : ℕ) (xs : List ℕ) (i last : ℕ) → AscendSoFar most xs i last → i < length xs
    → get_or xs i 0 ≤ last → AscendAbove 0 xs → ⊥
not_above most xs i last so h below a = let above =
    (subst (λ (ys : List ℕ). AscendAbove last ys) (drop_more xs i 0 h) (so.back a)).0 in omega (arith, above, below)

pub not_within : (most : ℕ) (xs : List ℕ) (i : ℕ) → i < length xs → most < get_or xs i 0 → All (λ k. k ≤ most) xs → ⊥
not_within most xs i h above all = let within = All-get_or (λ k. k ≤ most) xs i 0 h all in omega (arith, within, above)

pub ascend_end : (most : ℕ) (xs : List ℕ) (i last : ℕ) → AscendSoFar most xs i last → length xs ≤ i
    → AscendAbove 0 xs × All (λ k. k ≤ most) xs
ascend_end most xs i last so h = (
  so.forward (subst (λ (ys : List ℕ). AscendAbove last ys) (sym (drop_all i xs h)) tt),
  subst (All (λ k. k ≤ most)) (take_all i xs h) so.within,
)
