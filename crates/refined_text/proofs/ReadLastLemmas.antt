-- What the last of elements in order tells of all.
use Rattle.std.proofs.Common.{◌≡◌, ◌⊎◌, inl, inr, ℕ, ◌-◌, ◌+◌, ◌<◌, sym, ◌∙◌, ap, subst, arith, List, length}
use Rattle.std.proofs.Common.{get_or, slice_get, Some}
use Rattle.std.specs.List.{All, AllPairs}
use Rattle.std.proofs.lemmas.Bool.{cases_eq}
use Rattle.std.proofs.lemmas.Option.{get_or_from_slice_get, slice_get_within}
use Rattle.refined_prices.specs.declared.offset.Offset.{Offset}
use Rattle.refined_prices.specs.Offsets.{OffsetBefore}
use Rattle.refined_text.specs.grammar.Further.{OffsetBelow}

module _ {A : Type 0} (R : A → A → Type 0) (P : A → Type 0) (xs : List A) (last : A)
    (is : Some last ≡ slice_get xs (length xs - 1)) where
  -- what holds of the last of them, and so of each before it, holds of all
  pub all_from_last : AllPairs R xs → ((x : A) → R x last → P last → P x) → P last → All P xs
  all_from_last pairs back here k d l = at (cases_eq k (length xs - 1))
    where
      end : get_or xs (length xs - 1) d ≡ last
      end = get_or_from_slice_get xs (length xs - 1) last d (sym is)

      at : (k ≡ length xs - 1) ⊎ (k ≡ length xs - 1 → ⊥) → P (get_or xs k d)
      at (inl e) = subst P (sym (ap (λ (i : ℕ). get_or xs i d) e ∙ end)) here
      at (inr n) = back (get_or xs k d)
          (subst (R (get_or xs k d)) end (pairs k (length xs - 1) d (omega (arith, l, n)) (omega (arith, l)))) here

  pub last_from_all : All P xs → P last
  last_from_all all =
      let within = slice_get_within xs (length xs - 1) last (sym is) in
      subst P (get_or_from_slice_get xs (length xs - 1) last last (sym is)) (all (length xs - 1) last within)

-- an offset is below what one behind it is below of
pub below_offset : (t i g : ℕ) (x y : Offset) → OffsetBefore x y → OffsetBelow t i g y → OffsetBelow t i g x
below_offset t i g x y h k = by x.period x.intervention x.group y.period y.intervention y.group h k
  where
    by : (p j e q k f : ℕ) → (p < q) ⊎ ((p ≡ q) × ((j < k) ⊎ ((j ≡ k) × (e < f))))
        → (q < t) ⊎ ((q ≡ t) × ((k + 1 < i) ⊎ ((k + 1 ≡ i) × (f + 1 < g))))
        → (p < t) ⊎ ((p ≡ t) × ((j + 1 < i) ⊎ ((j + 1 ≡ i) × (e + 1 < g))))
    by p j e q k f a b = grind arith
