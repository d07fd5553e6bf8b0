-- The branches of the shape: below which key of the root a spot stands.
use Rattle.std.proofs.Common.{◌≡◌, ℕ, ◌==◌, ◌&&◌, ◌||◌, Bool, true, false, not, cond, List, [], ◌∷◌, refl, ◌∙◌, ap}
use Rattle.std.proofs.Common.{bytes_eq, nat_lt}
use Rattle.std.proofs.lemmas.Bool.{and_parts}
use Rattle.std.proofs.lemmas.Slice.Eq.{bytes_eq-Decides}
use Rattle.instance_shape.specs.declared.fault.Known.{Known}
use Rattle.instance_shape.specs.declared.spot.Spot.{Spot}
use Rattle.instance_shape.specs.declared.spot.Spot.TheVariants as spot
use Rattle.instance_shape.specs.Keys.{text_of}
use Rattle.instance_shape.specs.Shape.{under, element, among, required}

-- the number of a branch: 0 of the root, 9 of what is skipped
abbrev pub branch : Spot → ℕ
branch spot.Root = 0
branch spot.Resources = 1
branch spot.Resource = 1
branch spot.Max = 1
branch spot.Min = 1
branch spot.BandLimit = 1
branch spot.Seasons = 2
branch spot.Season = 2
branch spot.SeasonPeriod = 2
branch spot.Interventions = 3
branch spot.Intervention = 3
branch spot.Tmax = 3
branch spot.Delta = 3
branch spot.Duration = 3
branch spot.Workload = 3
branch spot.WorkloadResource = 3
branch spot.WorkloadPeriod = 3
branch spot.WorkloadNumber = 3
branch spot.Risk = 3
branch spot.RiskPeriod = 3
branch spot.RiskStart = 3
branch spot.RiskNumber = 3
branch spot.Exclusions = 4
branch spot.Exclusion = 4
branch spot.Word = 4
branch spot.Beyond = 4
branch spot.T = 5
branch spot.ScenariosNumber = 6
branch spot.Scenario = 6
branch spot.Quantile = 7
branch spot.Alpha = 8
branch spot.Skipped = 9

-- a spot is neither the root nor on a branch
abbrev pub is_beside : ℕ → Spot → Bool
is_beside n s = not (branch s == 0) && not (branch s == n)

-- ---- the spot under a key

abbrev all_spots : (Spot → Bool) → List (Known × Spot) → Bool
all_spots p [] = true
all_spots p (r ∷ rs) = p r.1 && all_spots p rs

among_all : (p : Spot → Bool) (rs : List (Known × Spot)) (k : List ℕ) → all_spots p rs ≡ true → p spot.Skipped ≡ true
    → p (among rs k) ≡ true
among_all p [] k h q = q
among_all p (r ∷ rs) k h q =
    let both = and_parts (p r.1) (all_spots p rs) h in
    by (bytes_eq k (text_of r.0)) both.0 (among_all p rs k both.1 q)
  where
    by : (b : Bool) → p r.1 ≡ true → p (among rs k) ≡ true → p (cond b r.1 (among rs k)) ≡ true
    by true h r = h
    by false h r = r

-- each spot of some required keys is beside a branch, or under one key
abbrev pub are_others : ℕ → List ℕ → List (Known × Spot) → Bool
are_others n key [] = true
are_others n key (r ∷ rs) = (bytes_eq key (text_of r.0) || is_beside n r.1) && are_others n key rs

-- under another key
pub among_other : (n : ℕ) (key k : List ℕ) (rs : List (Known × Spot)) → are_others n key rs ≡ true
    → is_beside n spot.Skipped ≡ true → bytes_eq key k ≡ false → is_beside n (among rs k) ≡ true
among_other n key k [] h q d = q
among_other n key k (r ∷ rs) h q d =
    let both = and_parts (bytes_eq key (text_of r.0) || is_beside n r.1) (are_others n key rs) h in
    by (bytes_eq k (text_of r.0)) refl both.0 (among_other n key k rs both.1 q d)
  where
    here : (c : Bool) → bytes_eq key (text_of r.0) ≡ c → k ≡ text_of r.0 → c || is_beside n r.1 ≡ true
        → is_beside n r.1 ≡ true
    here true e same h =
        let again : bytes_eq key k ≡ true = ap (bytes_eq key) same ∙ e in
        cc
    here false e same h = h

    by : (b : Bool) → bytes_eq k (text_of r.0) ≡ b → bytes_eq key (text_of r.0) || is_beside n r.1 ≡ true
        → is_beside n (among rs k) ≡ true → is_beside n (cond b r.1 (among rs k)) ≡ true
    by true e h rest = here (bytes_eq key (text_of r.0)) refl ((bytes_eq-Decides k (text_of r.0)).0 e) h
    by false e h rest = rest

-- ---- beside a branch stands only what is beside it

two : (x : Bool) → x ≡ true → x && (x && true) ≡ true
two true h = refl
two false h = h

four : (x : Bool) → x ≡ true → x && (x && (x && (x && true))) ≡ true
four true h = refl
four false h = h

pub beside_under : (n : ℕ) → is_beside n spot.Skipped ≡ true → (s : Spot) (k : List ℕ) → is_beside n s ≡ true
    → is_beside n (under s k) ≡ true
beside_under n q spot.Root k h = cc
beside_under n q spot.Resources k h = h
beside_under n q spot.Resource k h =
    among_all (is_beside n) (required spot.Resource) k (two (is_beside n spot.Resource) h) q
beside_under n q spot.Seasons k h = h
beside_under n q spot.Interventions k h = h
beside_under n q spot.Intervention k h =
    among_all (is_beside n) (required spot.Intervention) k (four (is_beside n spot.Intervention) h) q
beside_under n q spot.Workload k h = h
beside_under n q spot.WorkloadResource k h = h
beside_under n q spot.WorkloadPeriod k h = h
beside_under n q spot.Risk k h = h
beside_under n q spot.RiskPeriod k h = h
beside_under n q spot.Exclusions k h = h
beside_under n q _ k h = q

pub beside_element : (n : ℕ) → is_beside n spot.Skipped ≡ true → (s : Spot) (m : ℕ) → is_beside n s ≡ true
    → is_beside n (element s m) ≡ true
beside_element n q spot.Max m h = h
beside_element n q spot.Min m h = h
beside_element n q spot.Season m h = h
beside_element n q spot.Delta m h = h
beside_element n q spot.RiskStart m h = h
beside_element n q spot.ScenariosNumber m h = h
beside_element n q spot.Exclusion m h = by (nat_lt m 3)
  where
    by : (b : Bool) → is_beside n (cond b spot.Word spot.Beyond) ≡ true
    by true = h
    by false = h
beside_element n q _ m h = q

-- ---- within the values under the keys of the root

-- a spot is none of the root and of the values under its keys
abbrev pub is_inner : Spot → Bool
is_inner spot.Root = false
is_inner spot.Resources = false
is_inner spot.Seasons = false
is_inner spot.Interventions = false
is_inner spot.Exclusions = false
is_inner _ = true

pub inner_under : (s : Spot) (k : List ℕ) → is_inner s ≡ true → is_inner (under s k) ≡ true
inner_under spot.Root k h = cc
inner_under spot.Resources k h = cc
inner_under spot.Seasons k h = cc
inner_under spot.Interventions k h = cc
inner_under spot.Exclusions k h = cc
inner_under spot.Resource k h = among_all is_inner (required spot.Resource) k refl refl
inner_under spot.Intervention k h = among_all is_inner (required spot.Intervention) k refl refl
inner_under _ k h = refl

pub inner_element : (s : Spot) (m : ℕ) → is_inner s ≡ true → is_inner (element s m) ≡ true
inner_element spot.Exclusion m h = by (nat_lt m 3)
  where
    by : (b : Bool) → is_inner (cond b spot.Word spot.Beyond) ≡ true
    by true = refl
    by false = refl
inner_element _ m h = refl
