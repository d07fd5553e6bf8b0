-- What holds of each required key of an object, and of each other key, holds of every key.
use Rattle.std.proofs.Common.{◌≡◌, ℕ, Bool, true, false, cond, List, [], ◌∷◌, refl, sym, subst, bytes_eq}
use Rattle.std.proofs.lemmas.Slice.Eq.{bytes_eq-Decides}
use Rattle.instance_shape.specs.declared.fault.Known.{Known}
use Rattle.instance_shape.specs.declared.spot.Spot.{Spot}
use Rattle.instance_shape.specs.declared.spot.Spot.TheVariants as spot
use Rattle.instance_shape.specs.Keys.{text_of}
use Rattle.instance_shape.specs.Shape.{among}

abbrev pub HoldsOfEach : (List ℕ → Type 0) → List (Known × Spot) → Type 0
HoldsOfEach P [] = Unit {0}
HoldsOfEach P (r ∷ rs) = P (text_of r.0) × HoldsOfEach P rs

abbrev pub IsNoneOf : List (Known × Spot) → List ℕ → Type 0
IsNoneOf [] k = Unit {0}
IsNoneOf (r ∷ rs) k = (bytes_eq (text_of r.0) k ≡ false) × IsNoneOf rs k

pub by_key : (P : List ℕ → Type 0) (rs : List (Known × Spot)) (k : List ℕ) → HoldsOfEach P rs
    → (IsNoneOf rs k → P k) → P k
by_key P [] k each none = none tt
by_key P (r ∷ rs) k each none = by (bytes_eq (text_of r.0) k) refl (by_key P rs k each.1)
  where
    by : (b : Bool) → bytes_eq (text_of r.0) k ≡ b → ((IsNoneOf rs k → P k) → P k) → P k
    by true e rest = subst P ((bytes_eq-Decides (text_of r.0) k).0 e) each.0
    by false e rest = rest (λ n. none (e, n))

-- the value under another key is skipped
pub among_none : (rs : List (Known × Spot)) (k : List ℕ) → IsNoneOf rs k → among rs k ≡ spot.Skipped
among_none [] k n = refl
among_none (r ∷ rs) k n = by (bytes_eq k (text_of r.0)) refl (among_none rs k n.1)
  where
    by : (b : Bool) → bytes_eq k (text_of r.0) ≡ b → among rs k ≡ spot.Skipped → cond b r.1 (among rs k) ≡ spot.Skipped
    by true e rest =
        let same : bytes_eq (text_of r.0) k ≡ true =
        (bytes_eq-Decides (text_of r.0) k).1 (sym ((bytes_eq-Decides k (text_of r.0)).0 e)) in
        let other : bytes_eq (text_of r.0) k ≡ false = n.0 in
        cc
    by false e rest = rest
