-- Objects with required keys, and what objects of names and of periods and starts take at the spots of an instance.
use Rattle.std.proofs.Common.{◌≡◌, ℕ, suc, ◌<◌, ◌≤◌, true, List, [], ◌∷◌}
use Rattle.std.proofs.Common.{Some, refl, arith}
use Rattle.std.proofs.lemmas.Bool.{ne_eqb}
use Rattle.std.proofs.lemmas.List.Elements.{All-from_recursion}
use Rattle.json_grammar.specs.laws.Value.{Value, Field}
use Rattle.json_grammar.specs.laws.Spellable.{IsSpellableText}
use Rattle.json_grammar.proofs.LawsSpelledParts.{are_printable, IsSpellableText-from_ascii}
use Rattle.instance_model.specs.declared.limits.Limits.{Limits}
use Rattle.instance_shape.specs.declared.fault.Known.{Known}
use Rattle.instance_shape.specs.declared.fault.Known.TheVariants as known
use Rattle.instance_shape.specs.declared.fault.Flaw.TheVariants as flaw
use Rattle.instance_shape.specs.declared.fault.Which.{Which}
use Rattle.instance_shape.specs.declared.fault.Which.TheVariants as which
use Rattle.instance_shape.specs.declared.spot.Spot.{Spot}
use Rattle.instance_shape.specs.declared.spot.Spot.TheVariants as spot
use Rattle.instance_shape.specs.Keys.{text_of}
use Rattle.instance_shape.specs.Shape as Shape
use Rattle.instance_shape.specs.ShapeFaults.{first_past}
use Rattle.instance_writer.specs.text.Written.{object_of}
use Rattle.instance_writer.specs.text.Written.{under}
use Rattle.instance_writer.proofs.TextFine.{IsFine, IsFineField, object_fine, no_fault}
use Rattle.instance_writer.proofs.TextKeys.{TakesNumbers, TakesNames}

-- ---- required keys

known_printable : (k : Known) → are_printable (text_of k) ≡ true
known_printable known.Resources = refl
known_printable _ = refl

-- required keys are spelled
known_spelled : (k : Known) → IsSpellableText (text_of k)
known_spelled k = IsSpellableText-from_ascii (text_of k) (known_printable k)

-- ---- objects of periods and starts

pub risk_takes : (limits : Limits) → TakesNumbers limits spot.Risk
risk_takes limits = record {
  one = λ key. refl;
  no_names = refl;
  none_missing = λ ks last. refl;
  room = λ n at. refl;
  own = λ at ms. refl;
  plain = refl;
}

pub risk_period_takes : (limits : Limits) → TakesNumbers limits spot.RiskPeriod
risk_period_takes limits = record {
  one = λ key. refl;
  no_names = refl;
  none_missing = λ ks last. refl;
  room = λ n at. refl;
  own = λ at ms. refl;
  plain = refl;
}

pub resource_takes : (limits : Limits) → TakesNumbers limits spot.WorkloadResource
resource_takes limits = record {
  one = λ key. refl;
  no_names = refl;
  none_missing = λ ks last. refl;
  room = λ n at. refl;
  own = λ at ms. refl;
  plain = refl;
}

pub period_takes : (limits : Limits) → TakesNumbers limits spot.WorkloadPeriod
period_takes limits = record {
  one = λ key. refl;
  no_names = refl;
  none_missing = λ ks last. refl;
  room = λ n at. refl;
  own = λ at ms. refl;
  plain = refl;
}

-- ---- objects of names

not_past : (limit : ℕ) (w : Which) (n m at : ℕ) → n ≤ limit → m < n → first_past (Some (limit, w)) m at ≡ []
not_past limit w n m at l h = no_fault _ at (flaw.Limit w) (ne_eqb m limit (λ e. omega (arith, e)))

pub resources_take : (limits : Limits) (n : ℕ) → n ≤ limits.resources → TakesNames limits spot.Resources n
resources_take limits n l = record {
  one = λ key. refl;
  no_numbers = refl;
  none_missing = λ ks last. refl;
  room = λ m at h. not_past limits.resources which.Resources n m at l h;
  own = λ at ms. refl;
  plain = refl;
}

pub seasons_take : (limits : Limits) (n : ℕ) → n ≤ limits.seasons → TakesNames limits spot.Seasons n
seasons_take limits n l = record {
  one = λ key. refl;
  no_numbers = refl;
  none_missing = λ ks last. refl;
  room = λ m at h. not_past limits.seasons which.Seasons n m at l h;
  own = λ at ms. refl;
  plain = refl;
}

pub interventions_take : (limits : Limits) (n : ℕ) → n ≤ limits.interventions → TakesNames limits spot.Interventions n
interventions_take limits n l = record {
  one = λ key. refl;
  no_numbers = refl;
  none_missing = λ ks last. refl;
  room = λ m at h. not_past limits.interventions which.Interventions n m at l h;
  own = λ at ms. refl;
  plain = refl;
}

pub exclusions_take : (limits : Limits) (n : ℕ) → n ≤ limits.exclusions → TakesNames limits spot.Exclusions n
exclusions_take limits n l = record {
  one = λ key. refl;
  no_numbers = refl;
  none_missing = λ ks last. refl;
  room = λ m at h. not_past limits.exclusions which.Exclusions n m at l h;
  own = λ at ms. refl;
  plain = refl;
}

pub workload_takes : (limits : Limits) (n : ℕ) → TakesNames limits spot.Workload n
workload_takes limits n = record {
  one = λ key. refl;
  no_numbers = refl;
  none_missing = λ ks last. refl;
  room = λ m at h. refl;
  own = λ at ms. refl;
  plain = refl;
}

-- ---- objects with required keys

good_field : (limits : Limits) (n : ℕ) (s : Spot) (k : Known) (v : Value)
    → IsFine limits n (Shape.under s (text_of k)) v → IsFineField limits n s (under k v)
good_field limits n s k v h = record { key = known_spelled k; value = h }

pub resource_fine : (limits : Limits) (n : ℕ) (v w : Value) → IsFine limits n spot.Max v → IsFine limits n spot.Min w
    → IsFine limits (suc n) spot.Resource (object_of (under known.Max v ∷ under known.Min w ∷ []))
resource_fine limits n v w h k =
    object_fine limits n spot.Resource (under known.Max v ∷ under known.Min w ∷ []) (λ at ms. refl) refl
    (λ k last. refl)
    (All-from_recursion (IsFineField limits n spot.Resource) (under known.Max v ∷ under known.Min w ∷ [])
    (good_field limits n spot.Resource known.Max v h, (good_field limits n spot.Resource known.Min w k, tt)))

abbrev pub intervention_fields : Value → Value → Value → Value → List Field
intervention_fields a b c d =
    under known.Tmax a ∷ under known.Delta b ∷ under known.Workload c ∷ under known.Risk d ∷ []

pub intervention_fine : (limits : Limits) (n : ℕ) (a b c d : Value) → IsFine limits n spot.Tmax a
    → IsFine limits n spot.Delta b → IsFine limits n spot.Workload c → IsFine limits n spot.Risk d
    → IsFine limits (suc n) spot.Intervention (object_of (under known.Tmax a ∷ under known.Delta b
    ∷ under known.Workload c ∷ under known.Risk d ∷ []))
intervention_fine limits n a b c d h i j k =
    object_fine limits n spot.Intervention (intervention_fields a b c d) (λ at ms. refl) refl (λ k last. refl)
    (All-from_recursion (IsFineField limits n spot.Intervention) (intervention_fields a b c d) (
      good_field limits n spot.Intervention known.Tmax a h,
      (
        good_field limits n spot.Intervention known.Delta b i,
        (
          good_field limits n spot.Intervention known.Workload c j,
          (good_field limits n spot.Intervention known.Risk d k, tt),
        ),
      ),
    ))

-- the values of the root
pub record AreRootValues (limits : Limits) (n : ℕ) (a b c d e f g h : Value) : Type 0 where
  pub resources : IsFine limits n spot.Resources a
  pub seasons : IsFine limits n spot.Seasons b
  pub interventions : IsFine limits n spot.Interventions c
  pub exclusions : IsFine limits n spot.Exclusions d
  pub periods : IsFine limits n spot.T e
  pub scenarios : IsFine limits n spot.ScenariosNumber f
  pub quantile : IsFine limits n spot.Quantile g
  pub alpha : IsFine limits n spot.Alpha h

abbrev pub root_fields : Value → Value → Value → Value → Value → Value → Value → Value → List Field
root_fields a b c d e f g h =
    under known.Resources a ∷ under known.Seasons b ∷ under known.Interventions c ∷ under known.Exclusions d
    ∷ under known.T e ∷ under known.ScenariosNumber f ∷ under known.Quantile g ∷ under known.Alpha h ∷ []

pub root_fine : (limits : Limits) (n : ℕ) (a b c d e f g h : Value) → AreRootValues limits n a b c d e f g h
    → IsFine limits (suc n) spot.Root (object_of (root_fields a b c d e f g h))
root_fine limits n a b c d e f g h r =
    object_fine limits n spot.Root (root_fields a b c d e f g h) (λ at ms. refl) refl (λ k last. refl)
    (All-from_recursion (IsFineField limits n spot.Root) (root_fields a b c d e f g h) (
      good_field limits n spot.Root known.Resources a r.resources,
      (
        good_field limits n spot.Root known.Seasons b r.seasons,
        (
          good_field limits n spot.Root known.Interventions c r.interventions,
          (
            good_field limits n spot.Root known.Exclusions d r.exclusions,
            (
              good_field limits n spot.Root known.T e r.periods,
              (
                good_field limits n spot.Root known.ScenariosNumber f r.scenarios,
                (
                  good_field limits n spot.Root known.Quantile g r.quantile,
                  (good_field limits n spot.Root known.Alpha h r.alpha, tt),
                ),
              ),
            ),
          ),
        ),
      ),
    ))
