-- Parts of small tables that fit: lists of one and two members, few names, and interventions without workloads.
use Rattle.std.proofs.Common.{◌≢◌, ℕ, ◌^◌, ◌<◌, ◌≤◌, ap, arith, List, [], ◌∷◌, length, get_or, unsigned_abs, IsTrue}
use Rattle.std.specs.List.{All, AllPairs}
use Rattle.std.proofs.lemmas.List.Elements.{All-nil, All-cons}
use Rattle.std.proofs.lemmas.List.Kept.{AllPairs-cons}
use Rattle.instance_model.specs.declared.parts.LoadCell.{LoadCell}
use Rattle.instance_model.specs.Tables.{Tables, is_allowed, in_run}
use Rattle.instance_model.specs.Fitting.{IsName, AreNames, AreCells, CellBefore}

-- ---- lists of one and two members

pub one : {X : Type 0} (P : X → Type 0) (x : X) → P x → All P (x ∷ [])
one P x p = All-cons P x [] p (All-nil P)

pub two : {X : Type 0} (P : X → Type 0) (x y : X) → P x → P y → All P (x ∷ y ∷ [])
two P x y p q = All-cons P x (y ∷ []) p (one P y q)

pub no_pairs : {X : Type 0} (R : X → X → Type 0) → AllPairs R []
no_pairs R i j d l k = absurd (omega (arith, k))

pub one_pairs : {X : Type 0} (R : X → X → Type 0) (x : X) → AllPairs R (x ∷ [])
one_pairs R x = AllPairs-cons R x [] (All-nil (R x)) (no_pairs R)

pub two_pairs : {X : Type 0} (R : X → X → Type 0) (x y : X) → R x y → AllPairs R (x ∷ y ∷ [])
two_pairs R x y r = AllPairs-cons R x (y ∷ []) (one (R x) y r) (one_pairs R y)

-- ---- names of one and two bytes

pub letter : (b : ℕ) → 32 < b → b ≢ 127 → IsName (b ∷ [])
letter b low other = record {
  some = omega arith;
  short = omega arith;
  printed = one (λ c. (32 < c) × (c ≢ 127)) b (low, other);
}

pub two_letters : (a b : ℕ) → 32 < a → a ≢ 127 → 32 < b → b ≢ 127 → IsName (a ∷ b ∷ [])
two_letters a b la na lb nb = record {
  some = omega arith;
  short = omega arith;
  printed = two (λ c. (32 < c) × (c ≢ 127)) a b (la, na) (lb, nb);
}

-- two names are not the same where they differ in their byte at k
pub apart_at : (k : ℕ) (xs ys : List ℕ) → get_or xs k 0 ≢ get_or ys k 0 → xs ≢ ys
apart_at k xs ys other e = other (ap (λ (zs : List ℕ). get_or zs k 0) e)

-- ---- few names

pub no_names : (limit : ℕ) → AreNames limit []
no_names limit = record { few = omega arith; shaped = All-nil IsName; apart = no_pairs (λ a b. a ≢ b) }

pub one_name : (limit : ℕ) (name : List ℕ) → 1 ≤ limit → IsName name → AreNames limit (name ∷ [])
one_name limit name few fits = record {
  few = omega (arith, few);
  shaped = one IsName name fits;
  apart = one_pairs (λ a b. a ≢ b) name;
}

pub two_names : (limit : ℕ) (a b : List ℕ) → 2 ≤ limit → IsName a → IsName b → a ≢ b → AreNames limit (a ∷ b ∷ [])
two_names limit a b few first second other =
    record {
      few = omega (arith, few);
      shaped = two IsName a b first second;
      apart = two_pairs (λ a b. a ≢ b) a b other;
    }

-- ---- workloads

pub no_cells : (inst : Tables) (i : ℕ) → AreCells inst i []
no_cells inst i = record {
  ordered = no_pairs CellBefore;
  allowed = All-nil (λ (cell : LoadCell). IsTrue (is_allowed inst i cell.start));
  running = All-nil (λ (cell : LoadCell). IsTrue (in_run inst i cell.start cell.period));
  resources = All-nil (λ (cell : LoadCell). cell.resource < length inst.resource_names);
  small = All-nil (λ (cell : LoadCell). unsigned_abs cell.load < 10 ^ 20);
}
