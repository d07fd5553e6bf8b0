-- Kinds of steps in terms of others: what the parts of a scan cover together.
use Rattle.std.proofs.Common.{◌≡◌, ℕ, ◌+◌, ◌-◌, ◌^◌, ◌<◌, ◌≤◌, ◌⊎◌, inl, inr, refl, sym, subst, arith, List, length}
use Rattle.std.proofs.Common.{IsTrue}
use Rattle.instance_model.specs.Tables.{Tables, in_season_of, exclusion_of}
use Rattle.lagrange_bound.specs.Prices.{PriceList}
use Rattle.lagrange_bound.specs.Changes.{IsBandPlace, IsExPlace}
use Rattle.price_ladder.specs.declared.place.Place.{Place}
use Rattle.price_ladder.specs.declared.place.Place.TheVariants.{Upper, Lower, Excluded}
use Rattle.price_ladder.specs.Places.{IsPlace, value_at, IsWithValue}
use Rattle.price_ladder.specs.Steps.{IsStepAt, IsTailStep, IsLadderStep, of_number, of_tail}
use Rattle.price_ladder.specs.Tried.{IsChangedBy, IsStepAmong, IsAnyTailStep, IsLimitIn, IsLimitOf, IsLimit}
use Rattle.price_ladder.specs.Tried.{IsExcludedIn, IsExcludedOf, IsExcluded}

-- ---- powers of ten at a place

pub step_from_size : (inst : Tables) (place : Place) (old new : PriceList) (e : ℕ) → e ≤ 8
    → IsChangedBy inst place (10 ^ e) old new → IsStepAt inst old place new
step_from_size inst place old new e l (inl m) = record {
  value = value_at inst old place + 10 ^ e;
  step = record { exponent = e; few = l; changed = inl refl; small = m.small };
  changed = m.changed;
}
step_from_size inst place old new e l (inr m) = record {
  value = value_at inst old place - 10 ^ e;
  step = record { exponent = e; few = l; changed = inr (omega (arith, m.enough)); small = m.small };
  changed = m.changed;
}

pub size_from_step : (inst : Tables) (place : Place) (old new : PriceList) (n : ℕ) → 9 ≤ n → IsStepAt inst old place new
    → (e : ℕ) × (0 ≤ e) × (e < n) × IsChangedBy inst place (10 ^ e) old new
size_from_step inst place old new n l s =
    (s.step.exponent, omega arith, omega (arith, s.step.few, l), at s.step.changed)
  where
    at : (s.value ≡ value_at inst old place + 10 ^ s.step.exponent)
        ⊎ (value_at inst old place ≡ s.value + 10 ^ s.step.exponent)
        → IsChangedBy inst place (10 ^ s.step.exponent) old new
    at (inl e) = inl (record {
      small = omega (arith, e, s.step.small);
      changed =
          subst (IsWithValue inst old new place) e s.changed;
    })
    at (inr e) =
        let d : s.value ≡ value_at inst old place - 10 ^ s.step.exponent = omega (arith, e) in
        inr (record {
          enough = omega (arith, e);
          small = omega (arith, d, s.step.small);
          changed =
              subst (IsWithValue inst old new place) d s.changed;
        })

-- ---- places

pub limit_from_upper : (inst : Tables) (c t : ℕ) (old new : PriceList) → IsStepAt inst old (Upper c t) new
    → IsStepAmong inst (IsLimitIn c t) old new
limit_from_upper inst c t old new s = record { place = Upper c t; member = (refl, refl); step = s }

pub limit_from_lower : (inst : Tables) (c t : ℕ) (old new : PriceList) → IsStepAt inst old (Lower c t) new
    → IsStepAmong inst (IsLimitIn c t) old new
limit_from_lower inst c t old new s = record { place = Lower c t; member = (refl, refl); step = s }

pub limit_cases : (inst : Tables) (c t : ℕ) (old new : PriceList) → IsStepAmong inst (IsLimitIn c t) old new
    → IsStepAt inst old (Upper c t) new ⊎ IsStepAt inst old (Lower c t) new
limit_cases inst c t old new s = at s.place s.member s.step
  where
    at : (place : Place) → IsLimitIn c t place → IsStepAt inst old place new → IsStepAt inst old (Upper c t) new
        ⊎ IsStepAt inst old (Lower c t) new
    at (Upper d u) (a, b) k = inl (subst (λ (v : ℕ). IsStepAt inst old (Upper c v) new) b
        (subst (λ (v : ℕ). IsStepAt inst old (Upper v u) new) a k))
    at (Lower d u) (a, b) k = inr (subst (λ (v : ℕ). IsStepAt inst old (Lower c v) new) b
        (subst (λ (v : ℕ). IsStepAt inst old (Lower v u) new) a k))
    at (Excluded d u) m k = absurd m

-- a step among some places is one among more
pub among_wider : (inst : Tables) (a b : Place → Type 0) (old new : PriceList) → ((place : Place) → a place → b place)
    → IsStepAmong inst a old new → IsStepAmong inst b old new
among_wider inst a b old new f s = record { place = s.place; member = f s.place s.member; step = s.step }

pub limit_of_wider : (inst : Tables) (c t : ℕ) → IsBandPlace inst c t → (place : Place) → IsLimitIn c t place
    → IsLimitOf inst c place
limit_of_wider inst c t w (Upper d u) (a, b) =
    (a, subst (λ (v : ℕ). IsBandPlace inst d v) (sym b) (subst (λ (v : ℕ). IsBandPlace inst v t) (sym a) w))
limit_of_wider inst c t w (Lower d u) (a, b) =
    (a, subst (λ (v : ℕ). IsBandPlace inst d v) (sym b) (subst (λ (v : ℕ). IsBandPlace inst v t) (sym a) w))
limit_of_wider inst c t w (Excluded d u) m = m

pub limit_wider : (inst : Tables) (c : ℕ) (place : Place) → IsLimitOf inst c place → IsLimit inst place
limit_wider inst c (Upper d u) m = m.1
limit_wider inst c (Lower d u) m = m.1
limit_wider inst c (Excluded d u) m = m

pub excluded_of_wider : (inst : Tables) (e t : ℕ) (place : Place) → IsExcludedIn inst e t place
    → IsExcludedOf inst e place
excluded_of_wider inst e t (Upper d u) m = m
excluded_of_wider inst e t (Lower d u) m = m
excluded_of_wider inst e t (Excluded d u) m = (m.0, m.2)

pub excluded_wider : (inst : Tables) (e : ℕ) (place : Place) → IsExcludedOf inst e place → IsExcluded inst place
excluded_wider inst e (Upper d u) m = m
excluded_wider inst e (Lower d u) m = m
excluded_wider inst e (Excluded d u) m = m.1

-- ---- which number of a loop a step belongs to

pub limit_of_at : (inst : Tables) (c n : ℕ) (old new : PriceList) → n ≡ inst.periods + 1
    → IsStepAmong inst (IsLimitOf inst c) old new → (t : ℕ) × (1 ≤ t) × (t < n)
    × IsStepAmong inst (IsLimitIn c t) old new
limit_of_at inst c n old new e s = at s.place s.member s.step
  where
    at : (place : Place) → IsLimitOf inst c place → IsStepAt inst old place new → (t : ℕ) × (1 ≤ t) × (t < n)
        × IsStepAmong inst (IsLimitIn c t) old new
    at (Upper d u) (a, w) k =
        (u, w.from, omega (arith, w.to, e), record { place = Upper d u; member = (a, refl); step = k })
    at (Lower d u) (a, w) k =
        (u, w.from, omega (arith, w.to, e), record { place = Lower d u; member = (a, refl); step = k })
    at (Excluded d u) m k = absurd m

pub limit_at : (inst : Tables) (n : ℕ) (old new : PriceList) → n ≡ length inst.resource_names
    → IsStepAmong inst (IsLimit inst) old new → (c : ℕ) × (0 ≤ c) × (c < n)
    × IsStepAmong inst (IsLimitOf inst c) old new
limit_at inst n old new e s = at s.place s.member s.step
  where
    at : (place : Place) → IsLimit inst place → IsStepAt inst old place new → (c : ℕ) × (0 ≤ c) × (c < n)
        × IsStepAmong inst (IsLimitOf inst c) old new
    at (Upper d u) w k =
        (d, omega arith, omega (arith, w.resource, e), record { place = Upper d u; member = (refl, w); step = k })
    at (Lower d u) w k =
        (d, omega arith, omega (arith, w.resource, e), record { place = Lower d u; member = (refl, w); step = k })
    at (Excluded d u) m k = absurd m

pub excluded_of_at : (inst : Tables) (e n : ℕ) (old new : PriceList) → n ≡ inst.periods + 1
    → IsStepAmong inst (IsExcludedOf inst e) old new → (t : ℕ) × (1 ≤ t) × (t < n)
    × IsStepAmong inst (IsExcludedIn inst e t) old new
excluded_of_at inst e n old new q s = at s.place s.member s.step
  where
    at : (place : Place) → IsExcludedOf inst e place → IsStepAt inst old place new → (t : ℕ) × (1 ≤ t) × (t < n)
        × IsStepAmong inst (IsExcludedIn inst e t) old new
    at (Upper d u) m k = absurd m
    at (Lower d u) m k = absurd m
    at (Excluded d u) (a, w) k =
        (u, w.from, omega (arith, w.to, q), record { place = Excluded d u; member = (a, refl, w); step = k })

pub excluded_at : (inst : Tables) (n : ℕ) (old new : PriceList) → n ≡ length inst.exclusion_names
    → IsStepAmong inst (IsExcluded inst) old new → (e : ℕ) × (0 ≤ e) × (e < n)
    × IsStepAmong inst (IsExcludedOf inst e) old new
excluded_at inst n old new q s = at s.place s.member s.step
  where
    at : (place : Place) → IsExcluded inst place → IsStepAt inst old place new → (e : ℕ) × (0 ≤ e) × (e < n)
        × IsStepAmong inst (IsExcludedOf inst e) old new
    at (Upper d u) m k = absurd m
    at (Lower d u) m k = absurd m
    at (Excluded d u) w k =
        (d, omega arith, omega (arith, w.number, q), record { place = Excluded d u; member = (refl, w); step = k })

pub excluded_from_place : (inst : Tables) (e t : ℕ) (old new : PriceList) → IsExPlace inst e t
    → IsStepAt inst old (Excluded e t) new → IsStepAmong inst (IsExcludedIn inst e t) old new
excluded_from_place inst e t old new w s = record { place = Excluded e t; member = (refl, refl, w); step = s }

pub place_from_excluded : (inst : Tables) (e t : ℕ) (old new : PriceList)
    → IsStepAmong inst (IsExcludedIn inst e t) old new → IsStepAt inst old (Excluded e t) new
place_from_excluded inst e t old new s = at s.place s.member s.step
  where
    at : (place : Place) → IsExcludedIn inst e t place → IsStepAt inst old place new
        → IsStepAt inst old (Excluded e t) new
    at (Upper d u) m k = absurd m
    at (Lower d u) m k = absurd m
    at (Excluded d u) (a, b, w) k = subst (λ (v : ℕ). IsStepAt inst old (Excluded e v) new) b
        (subst (λ (v : ℕ). IsStepAt inst old (Excluded v u) new) a k)

-- no step where the period isn't one of the season
pub excluded_idle : (inst : Tables) (e t : ℕ) (old new : PriceList)
    → (IsTrue (in_season_of inst (exclusion_of inst e).season t) → ⊥)
    → IsStepAmong inst (IsExcludedIn inst e t) old new → ⊥
excluded_idle inst e t old new none s = at s.place s.member
  where
    at : (place : Place) → IsExcludedIn inst e t place → ⊥
    at (Upper d u) m = m
    at (Lower d u) m = m
    at (Excluded d u) (a, b, w) = none (subst (λ (v : ℕ). IsTrue (in_season_of inst (exclusion_of inst e).season v)) b
        (subst (λ (v : ℕ). IsTrue (in_season_of inst (exclusion_of inst v).season u)) a w.season))

-- ---- all ladder steps

pub ladder_from_tail : (inst : Tables) (starts : List ℕ) (old new : PriceList) → IsAnyTailStep inst starts old new
    → IsLadderStep inst starts old new
ladder_from_tail inst starts old new s = of_tail s.period s.from s.to s.step

pub ladder_from_limit : (inst : Tables) (starts : List ℕ) (old new : PriceList)
    → IsStepAmong inst (IsLimit inst) old new → IsLadderStep inst starts old new
ladder_from_limit inst starts old new s = of_number s.place (at s.place s.member) s.step
  where
    at : (place : Place) → IsLimit inst place → IsPlace inst place
    at (Upper d u) w = w
    at (Lower d u) w = w
    at (Excluded d u) m = absurd m

pub ladder_from_excluded : (inst : Tables) (starts : List ℕ) (old new : PriceList)
    → IsStepAmong inst (IsExcluded inst) old new → IsLadderStep inst starts old new
ladder_from_excluded inst starts old new s = of_number s.place (at s.place s.member) s.step
  where
    at : (place : Place) → IsExcluded inst place → IsPlace inst place
    at (Upper d u) m = absurd m
    at (Lower d u) m = absurd m
    at (Excluded d u) w = w

-- a step of limits or of exclusions
abbrev pub IsNumberStep : Tables → PriceList → PriceList → Type 0
IsNumberStep inst old new = IsStepAmong inst (IsLimit inst) old new ⊎ IsStepAmong inst (IsExcluded inst) old new

pub number_from_excluded : (inst : Tables) (old new : PriceList) → IsStepAmong inst (IsExcluded inst) old new
    → IsNumberStep inst old new
number_from_excluded inst old new s = inr s

pub number_cases : (inst : Tables) (old new : PriceList) → IsNumberStep inst old new
    → IsStepAmong inst (IsLimit inst) old new ⊎ IsStepAmong inst (IsExcluded inst) old new
number_cases inst old new s = s

pub ladder_from_number : (inst : Tables) (starts : List ℕ) (old new : PriceList) → IsNumberStep inst old new
    → IsLadderStep inst starts old new
ladder_from_number inst starts old new (inl s) = ladder_from_limit inst starts old new s
ladder_from_number inst starts old new (inr s) = ladder_from_excluded inst starts old new s

pub ladder_cases : (inst : Tables) (starts : List ℕ) (old new : PriceList) → IsLadderStep inst starts old new
    → IsAnyTailStep inst starts old new ⊎ IsNumberStep inst old new
ladder_cases inst starts old new (of_tail t from to s) = inl (record { period = t; from = from; to = to; step = s })
ladder_cases inst starts old new (of_number place w s) = inr (at place w s)
  where
    at : (place : Place) → IsPlace inst place → IsStepAt inst old place new → IsNumberStep inst old new
    at (Upper d u) w s = inl (record { place = Upper d u; member = w; step = s })
    at (Lower d u) w s = inl (record { place = Lower d u; member = w; step = s })
    at (Excluded d u) w s = inr (record { place = Excluded d u; member = w; step = s })

pub tail_step_at : (inst : Tables) (starts : List ℕ) (n : ℕ) (old new : PriceList) → n ≡ inst.periods + 1
    → IsAnyTailStep inst starts old new → (t : ℕ) × (1 ≤ t) × (t < n) × IsTailStep inst starts old t new
tail_step_at inst starts n old new e s = (s.period, s.from, omega (arith, s.to, e), s.step)
