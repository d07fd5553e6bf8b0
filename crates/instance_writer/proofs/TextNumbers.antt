-- How many numbers at some spots a value has in it, wherever its text begins.
use Rattle.std.proofs.Common.{◌≡◌, ℕ, zero, suc, ◌+◌, Bool, true, false, cond, List, [], ◌∷◌, ◌++◌, map}
use Rattle.std.proofs.Common.{length, Option, Some, None, refl, ◌∙◌, ap, arith, bytes_eq, codes}
use Rattle.json_grammar.specs.laws.Value.{Value, Values, no_values, and_value, values_of, Field, Fields, no_fields}
use Rattle.json_grammar.specs.laws.Value.{and_field, fields_of}
use Rattle.json_grammar.specs.laws.Spelling.{spell, quoted}
use Rattle.json_grammar.specs.laws.Placed.{placed_at, placed_values, placed_fields}
use Rattle.instance_model.specs.Naturals.{count_sum}
use Rattle.instance_shape.specs.declared.spot.Spot.{Spot}
use Rattle.instance_shape.specs.declared.spot.Spot.TheVariants as spot
use Rattle.instance_shape.specs.Shape.{placed, placed_elements, placed_members, element, under}
use Rattle.instance_shape.specs.ShapeFaults.{numbers_at, is_risk, is_workload}
use Rattle.instance_shape.specs.FileTables.{lists_below}
use Rattle.instance_shape.proofs.Weights.{numbers_in, numbers_sum}
use Rattle.instance_writer.specs.text.Written.{optional, filled}

-- ---- the count

abbrev mutual
  pub value_numbers : (Spot → Bool) → Spot → Value → ℕ
  value_numbers p s Value.null = 0
  value_numbers p s (Value.boolean b) = 0
  value_numbers p s (Value.number x) = cond (p s) 1 0
  value_numbers p s (Value.text x) = 0
  value_numbers p s (Value.list vs) = list_numbers p s 0 vs
  value_numbers p s (Value.object fs) = field_numbers p s fs

  pub list_numbers : (Spot → Bool) → Spot → ℕ → Values → ℕ
  list_numbers p s m no_values = 0
  list_numbers p s m (and_value v vs) = value_numbers p (element s m) v + list_numbers p s (m + 1) vs

  pub field_numbers : (Spot → Bool) → Spot → Fields → ℕ
  field_numbers p s no_fields = 0
  field_numbers p s (and_field key v fs) = value_numbers p (under s key) v + field_numbers p s fs

-- a value that is no number is none of them itself
no_number : (b : Bool) (ns : List ℕ) → length (cond b [] [] ++ ns) ≡ length ns
no_number true ns = refl
no_number false ns = refl

one_number : (b : Bool) (at : ℕ) → length (cond b (at ∷ []) [] ++ []) ≡ cond b 1 0
one_number true at = refl
one_number false at = refl

mutual
  pub numbers_are : (p : Spot → Bool) (s : Spot) (k : ℕ) (v : Value)
      → numbers_in p s (placed_at k v) ≡ value_numbers p s v
  numbers_are p s k Value.null = no_number (p s) []
  numbers_are p s k (Value.boolean b) = no_number (p s) []
  numbers_are p s k (Value.number x) = one_number (p s) k
  numbers_are p s k (Value.text x) = no_number (p s) []
  numbers_are p s k (Value.list vs) =
      no_number (p s) (numbers_at p (placed_elements s 0 (placed_values (suc k) vs)))
      ∙ list_numbers_are p s 0 (suc k) vs
  numbers_are p s k (Value.object fs) =
      no_number (p s) (numbers_at p (placed_members s (placed_fields (suc k) fs)))
      ∙ field_numbers_are p s (suc k) fs

  list_numbers_are : (p : Spot → Bool) (s : Spot) (m k : ℕ) (vs : Values)
      → length (numbers_at p (placed_elements s m (placed_values k vs))) ≡ list_numbers p s m vs
  list_numbers_are p s m k no_values = refl
  list_numbers_are p s m k (and_value v vs) =
      numbers_sum p (placed (element s m) (placed_at k v))
      (placed_elements s (m + 1) (placed_values (suc (k + length (spell v))) vs))
      ∙ ap (λ n. n + length (numbers_at p (placed_elements s (m + 1)
      (placed_values (suc (k + length (spell v))) vs)))) (numbers_are p (element s m) k v)
      ∙ ap (λ n. value_numbers p (element s m) v + n) (list_numbers_are p s (m + 1) (suc (k + length (spell v))) vs)

  field_numbers_are : (p : Spot → Bool) (s : Spot) (k : ℕ) (fs : Fields)
      → length (numbers_at p (placed_members s (placed_fields k fs))) ≡ field_numbers p s fs
  field_numbers_are p s k no_fields = refl
  field_numbers_are p s k (and_field key v fs) =
      numbers_sum p (placed (under s key) (placed_at (suc (k + length (quoted key))) v))
      (placed_members s (placed_fields (suc (suc (k + length (quoted key)) + length (spell v))) fs))
      ∙ ap (λ n. n + length (numbers_at p (placed_members s
      (placed_fields (suc (suc (k + length (quoted key)) + length (spell v))) fs))))
      (numbers_are p (under s key) (suc (k + length (quoted key))) v)
      ∙ ap (λ n. value_numbers p (under s key) v + n)
      (field_numbers_are p s (suc (suc (k + length (quoted key)) + length (spell v))) fs)

-- ---- fields by number, and lists of numbers

-- those of a value, where there is one
abbrev pub option_numbers : (Spot → Bool) → Spot → Option Value → ℕ
option_numbers p s None = 0
option_numbers p s (Some v) = value_numbers p s v

field_numbers-append : (p : Spot → Bool) (s : Spot) (fs gs : List Field)
    → field_numbers p s (fields_of (fs ++ gs)) ≡ field_numbers p s (fields_of fs) + field_numbers p s (fields_of gs)
field_numbers-append p s [] gs = omega arith
field_numbers-append p s (f ∷ fs) gs = omega (arith, field_numbers-append p s fs gs)

optional_numbers : (p : Spot → Bool) (s q : Spot) (key : List ℕ) (o : Option Value) → under s key ≡ q
    → field_numbers p s (fields_of (optional key o)) ≡ option_numbers p q o
optional_numbers p s q key None e = refl
optional_numbers p s q key (Some v) e =
    let zero : value_numbers p (under s key) v + 0 ≡ value_numbers p (under s key) v = omega arith in
    zero ∙ ap (λ x. value_numbers p x v) e

pub fields_count : (p : Spot → Bool) (s q : Spot) (n : ℕ) (key : ℕ → List ℕ) (o : ℕ → Option Value)
    → ((key : List ℕ) → under s key ≡ q)
    → field_numbers p s (fields_of (lists_below n (λ k. optional (key k) (o k))))
    ≡ count_sum n (λ k. option_numbers p q (o k))
unfolding count_sum
fields_count p s q zero key o u = refl
fields_count p s q (suc n) key o u =
    field_numbers-append p s (lists_below n (λ k. optional (key k) (o k))) (optional (key n) (o n))
    ∙ ap (λ m. m + field_numbers p s (fields_of (optional (key n) (o n)))) (fields_count p s q n key o u)
    ∙ ap (λ m. count_sum n (λ k. option_numbers p q (o k)) + m) (optional_numbers p s q (key n) (o n) (u (key n)))

pub filled_count : (p : Spot → Bool) (s : Spot) (fs : List Field)
    → option_numbers p s (filled fs) ≡ field_numbers p s (fields_of fs)
filled_count p s [] = refl
filled_count p s (f ∷ fs) = refl

pub tokens_count : {A : Type 0} (p : Spot → Bool) (s q : Spot) (token : A → List ℕ) (xs : List A) (m : ℕ)
    → ((m : ℕ) → element s m ≡ q) → p q ≡ true
    → list_numbers p s m (values_of (map (λ x. Value.number (token x)) xs)) ≡ length xs
tokens_count p s q token [] m u e = refl
tokens_count p s q token (x ∷ xs) m u e =
    ap (λ y. cond (p y) 1 0 + list_numbers p s (m + 1) (values_of (map (λ x. Value.number (token x)) xs))) (u m)
    ∙ ap (λ b. cond b 1 0 + list_numbers p s (m + 1) (values_of (map (λ x. Value.number (token x)) xs))) e
    ∙ omega (arith, tokens_count p s q token xs (m + 1) u e)

-- ---- spots under which there are none

-- spots of which none is one of them, and under which there are only such spots
pub record AreQuiet (p quiet : Spot → Bool) : Type 0 where
  pub none : (s : Spot) → quiet s ≡ true → p s ≡ false
  pub under : (s : Spot) (key : List ℕ) → quiet s ≡ true → quiet (under s key) ≡ true
  pub element : (s : Spot) (m : ℕ) → quiet s ≡ true → quiet (element s m) ≡ true

mutual
  pub quiet_value : (p quiet : Spot → Bool) (a : AreQuiet p quiet) (s : Spot) (v : Value) → quiet s ≡ true
      → value_numbers p s v ≡ 0
  quiet_value p quiet a s Value.null h = refl
  quiet_value p quiet a s (Value.boolean b) h = refl
  quiet_value p quiet a s (Value.number x) h = ap (λ b. cond b 1 0) (a.none s h)
  quiet_value p quiet a s (Value.text x) h = refl
  quiet_value p quiet a s (Value.list vs) h = quiet_values p quiet a s 0 vs h
  quiet_value p quiet a s (Value.object fs) h = quiet_fields p quiet a s fs h

  quiet_values : (p quiet : Spot → Bool) (a : AreQuiet p quiet) (s : Spot) (m : ℕ) (vs : Values) → quiet s ≡ true
      → list_numbers p s m vs ≡ 0
  quiet_values p quiet a s m no_values h = refl
  quiet_values p quiet a s m (and_value v vs) h =
      ap (λ n. n + list_numbers p s (m + 1) vs) (quiet_value p quiet a (element s m) v (a.element s m h))
      ∙ ap (λ n. 0 + n) (quiet_values p quiet a s (m + 1) vs h)

  quiet_fields : (p quiet : Spot → Bool) (a : AreQuiet p quiet) (s : Spot) (fs : Fields) → quiet s ≡ true
      → field_numbers p s fs ≡ 0
  quiet_fields p quiet a s no_fields h = refl
  quiet_fields p quiet a s (and_field key v fs) h =
      ap (λ n. n + field_numbers p s fs) (quiet_value p quiet a (under s key) v (a.under s key h))
      ∙ ap (λ n. 0 + n) (quiet_fields p quiet a s fs h)

-- no risks stand there
abbrev pub no_risks : Spot → Bool
no_risks spot.Root = false
no_risks spot.Interventions = false
no_risks spot.Intervention = false
no_risks spot.Risk = false
no_risks spot.RiskPeriod = false
no_risks spot.RiskStart = false
no_risks spot.RiskNumber = false
no_risks _ = true

-- no workloads stand there
abbrev pub no_workloads : Spot → Bool
no_workloads spot.Root = false
no_workloads spot.Interventions = false
no_workloads spot.Intervention = false
no_workloads spot.Workload = false
no_workloads spot.WorkloadResource = false
no_workloads spot.WorkloadPeriod = false
no_workloads spot.WorkloadNumber = false
no_workloads _ = true

one_of : (q : Spot → Bool) (b : Bool) (s t : Spot) → q s ≡ true → q t ≡ true → q (cond b s t) ≡ true
one_of q true s t h k = h
one_of q false s t h k = k

quiet_risks : AreQuiet is_risk no_risks
quiet_risks = record { none = none; under = below; element = inside }
  where
    none : (s : Spot) → no_risks s ≡ true → is_risk s ≡ false
    none spot.RiskNumber h = cc
    none _ h = refl

    below : (s : Spot) (key : List ℕ) → no_risks s ≡ true → no_risks (under s key) ≡ true
    below spot.Resource key h =
        one_of no_risks (bytes_eq key (codes "max")) spot.Max (cond (bytes_eq key (codes "min")) spot.Min spot.Skipped)
        refl (one_of no_risks (bytes_eq key (codes "min")) spot.Min spot.Skipped refl refl)
    below spot.Root key h = cc
    below spot.Interventions key h = cc
    below spot.Intervention key h = cc
    below spot.Risk key h = cc
    below spot.RiskPeriod key h = cc
    below spot.RiskStart key h = cc
    below spot.RiskNumber key h = cc
    below _ key h = refl

    inside : (s : Spot) (m : ℕ) → no_risks s ≡ true → no_risks (element s m) ≡ true
    inside spot.Exclusion m h = one_of no_risks _ spot.Word spot.Beyond refl refl
    inside spot.RiskStart m h = cc
    inside _ m h = refl

quiet_workloads : AreQuiet is_workload no_workloads
quiet_workloads = record { none = none; under = below; element = inside }
  where
    none : (s : Spot) → no_workloads s ≡ true → is_workload s ≡ false
    none spot.WorkloadNumber h = cc
    none _ h = refl

    below : (s : Spot) (key : List ℕ) → no_workloads s ≡ true → no_workloads (under s key) ≡ true
    below spot.Resource key h =
        one_of no_workloads (bytes_eq key (codes "max")) spot.Max
        (cond (bytes_eq key (codes "min")) spot.Min spot.Skipped) refl
        (one_of no_workloads (bytes_eq key (codes "min")) spot.Min spot.Skipped refl refl)
    below spot.Root key h = cc
    below spot.Interventions key h = cc
    below spot.Intervention key h = cc
    below spot.Workload key h = cc
    below spot.WorkloadResource key h = cc
    below spot.WorkloadPeriod key h = cc
    below spot.WorkloadNumber key h = cc
    below _ key h = refl

    inside : (s : Spot) (m : ℕ) → no_workloads s ≡ true → no_workloads (element s m) ≡ true
    inside spot.Exclusion m h = one_of no_workloads _ spot.Word spot.Beyond refl refl
    inside _ m h = refl

-- none of them at a spot under which no risks stand
pub no_risk_numbers : (s : Spot) (v : Value) → no_risks s ≡ true → value_numbers is_risk s v ≡ 0
no_risk_numbers s v h = quiet_value is_risk no_risks quiet_risks s v h

pub no_workload_numbers : (s : Spot) (v : Value) → no_workloads s ≡ true → value_numbers is_workload s v ≡ 0
no_workload_numbers s v h = quiet_value is_workload no_workloads quiet_workloads s v h
