-- The plain ladder: where the worth of a changed list falls short, the change is taken back,
-- and no other such change reaches the target.
use Rattle.std.proofs.Common.{◌≡◌, ℕ, sym, ◌∙◌, ap, subst, ℤ, ◌<ℤ◌, Option}
use Rattle.instance_model.specs.Tables.{Tables}
use Rattle.lagrange_bound.specs.declared.tail.Tail.{Tail}
use Rattle.lagrange_bound.specs.Prices.{PriceList, IsPriceList, tail_of}
use Rattle.lagrange_bound.specs.Changes.{with_tail}
use Rattle.price_ladder.specs.declared.place.Place.{Place}
use Rattle.price_ladder.specs.Places.{value_at, IsWithValue}
use Rattle.price_ladder.specs.Raised.{root_worth}
use Rattle.price_ladder.specs.Tried.{NoneReaches}
use Rattle.price_ladder.proofs.PlaceLemmas.{value_same, value_back, tail_back}

pub value_failed : (inst : Tables) (old mid new : PriceList) (place : Place) (v u : ℕ) (target : ℤ)
    → IsPriceList inst old → IsPriceList inst mid → IsPriceList inst new → IsWithValue inst old mid place v
    → IsWithValue inst mid new place u → u ≡ value_at inst old place → root_worth inst mid <ℤ target
    → (new ≡ old) × NoneReaches inst target (λ p. IsWithValue inst old p place v)
value_failed inst old mid new place v u target h k l a b e short = (
  value_back inst old mid new place v h l a (subst (IsWithValue inst mid new place) e b),
  record {
    none = λ p r s. subst (λ (q : PriceList). root_worth inst q <ℤ target)
        (value_same inst old mid p place v k r a s) short;
  },
)

pub tail_failed : (inst : Tables) (old mid new : PriceList) (t : ℕ) (before tail : Option Tail) (target : ℤ)
    → before ≡ tail_of old t → mid ≡ with_tail old t tail → new ≡ with_tail mid t before → root_worth inst mid <ℤ target
    → (new ≡ old) × NoneReaches inst target (λ p. p ≡ with_tail old t tail)
tail_failed inst old mid new t before tail target e a b short = (
  tail_back old mid new t tail a (b ∙ ap (with_tail mid t) e),
  record {
    none =
        λ p r s. subst (λ (q : PriceList). root_worth inst q <ℤ target) (a ∙ sym s) short;
  },
)
