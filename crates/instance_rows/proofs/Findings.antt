-- The first row of a period and a start is that of the value under these keys.
use Rattle.std.proofs.Common.{◌≡◌, ℕ, ◌==◌, ◌&&◌, Bool, true, false, cond, List, [], ◌∷◌, map, Option, Some, None, refl}
use Rattle.std.proofs.Common.{sym, ◌∙◌, ap, subst, arith, bytes_eq, option_map}
use Rattle.std.specs.Prelude.{find, flat_map}
use Rattle.std.specs.Option.{option_or}
use Rattle.std.proofs.lemmas.Bool.Decides.{nat_tests}
use Rattle.std.proofs.lemmas.List.Folds.{find-append}
use Rattle.json_grammar.specs.Tree.{Tree}
use Rattle.instance_model.specs.declared.limits.Limits.{Limits}
use Rattle.instance_shape.specs.declared.fault.Known.TheVariants as is
use Rattle.instance_shape.specs.declared.spot.Spot.{Spot}
use Rattle.instance_shape.specs.declared.spot.Spot.TheVariants as spot
use Rattle.instance_shape.specs.declared.spot.Kind.TheVariants as kind
use Rattle.instance_shape.specs.Keys.{number_of, is_digits}
use Rattle.instance_shape.specs.Shape.{kind_of, under}
use Rattle.instance_shape.specs.LookUp.{Entry, entries, elements, first_value, at_key, at_number, number_in, known}
use Rattle.instance_shape.specs.LookUp.{count_at, workload}
use Rattle.instance_shape.specs.FileTables.{some_differs}
use Rattle.instance_rows.specs.FileRows.{LoadRow, risk_rows, load_rows, workload_row}
use Rattle.instance_model.specs.RiskLists.{RiskRow}
use Rattle.instance_rows.specs.RowFaults.{is_list_at}
use Rattle.instance_rows.specs.RowTables.{is_load_at, loads_of, load_at}
use Rattle.instance_shape.proofs.Clear.{IsClear}
use Rattle.instance_shape.proofs.ClearParts.{known_clear}
use Rattle.instance_rows.proofs.NumberedKeys.{AreClear, HasNot, AreNumbered, entries_clear, entries_numbered}
use Rattle.instance_rows.proofs.NumberedKeys.{found_clear}

-- a row of each value under two numbers, in file order
abbrev pub rows_under : {A : Type 0} → (ℕ → ℕ → Tree → A) → List Entry → List A
rows_under row es = flat_map (λ e. map (λ q. row (number_of e.key) (number_of q.key) q.value) (entries e.value)) es

-- in each value every key is a number, and each number comes once
abbrev pub AreNumberedIn : List Entry → Type 0
AreNumberedIn [] = Unit {0}
AreNumberedIn (e ∷ es) = AreNumbered (entries e.value) × AreNumberedIn es

-- a test asks for two numbers
abbrev pub AsksFor : {A : Type 0} → (ℕ → ℕ → A → Bool) → (ℕ → ℕ → Tree → A) → Type 0
AsksFor asks row = (t s n m : ℕ) (v : Tree) → asks t s (row n m v) ≡ (n == t) && (m == s)

-- in the value of one number
first_in : {A : Type 0} (asks : ℕ → ℕ → A → Bool) (row : ℕ → ℕ → Tree → A) (t s n : ℕ) (es : List Entry)
    → AsksFor asks row → AreNumbered es → (n == t) ≡ true
    → find (asks t s) (map (λ q. row n (number_of q.key) q.value) es)
    ≡ option_map (row t s) (first_value (λ key. is_digits key && (number_of key == s)) es)
first_in asks row t s n [] w a h = refl
first_in {A} asks row t s n (e ∷ es) w a h =
    ap (λ b. cond b (Some (row n (number_of e.key) e.value))
    (find (asks t s) (map (λ q. row n (number_of q.key) q.value) es)))
    (w t s n (number_of e.key) e.value ∙ ap (λ b. b && (number_of e.key == s)) h)
    ∙ by (number_of e.key == s) refl (first_in asks row t s n es w a.2 h)
    ∙ ap (λ b. option_map (row t s)
    (cond (b && (number_of e.key == s)) (Some e.value)
    (first_value (λ key. is_digits key && (number_of key == s)) es))) (sym a.0)
  where
    by : (b : Bool) → (number_of e.key == s) ≡ b → find (asks t s) (map (λ q. row n (number_of q.key) q.value) es)
        ≡ option_map (row t s) (first_value (λ key. is_digits key && (number_of key == s)) es)
        → cond b (Some (row n (number_of e.key) e.value)) (find (asks t s)
        (map (λ q. row n (number_of q.key) q.value) es))
        ≡ option_map (row t s) (cond b (Some e.value) (first_value (λ key. is_digits key && (number_of key == s)) es))
    by true i r =
        let x : n ≡ t = grind (arith, nat_tests) in
        let y : number_of e.key ≡ s = grind (arith, nat_tests) in
        ap (λ k. Some (row k (number_of e.key) e.value)) x ∙ ap (λ k. Some (row t k e.value)) y
    by false i r = r

-- in the value of another number
none_in : {A : Type 0} (asks : ℕ → ℕ → A → Bool) (row : ℕ → ℕ → Tree → A) (t s n : ℕ) (es : List Entry)
    → AsksFor asks row → (n == t) ≡ false
    → find (asks t s) (map (λ q. row n (number_of q.key) q.value) es) ≡ None
none_in asks row t s n [] w h = refl
none_in asks row t s n (e ∷ es) w h =
    ap (λ b. cond b (Some (row n (number_of e.key) e.value))
    (find (asks t s) (map (λ q. row n (number_of q.key) q.value) es)))
    (w t s n (number_of e.key) e.value ∙ ap (λ b. b && (number_of e.key == s)) h)
    ∙ none_in asks row t s n es w h

-- where no key has the number
none_under : {A : Type 0} (asks : ℕ → ℕ → A → Bool) (row : ℕ → ℕ → Tree → A) (t s : ℕ) (es : List Entry)
    → AsksFor asks row → HasNot t es → find (asks t s) (rows_under row es) ≡ None
none_under asks row t s [] w h = refl
none_under asks row t s (e ∷ es) w h =
    find-append (asks t s) (map (λ q. row (number_of e.key) (number_of q.key) q.value) (entries e.value))
    (rows_under row es)
    ∙ ap (λ o. option_or o (find (asks t s) (rows_under row es)))
    (none_in asks row t s (number_of e.key) (entries e.value) w h.0)
    ∙ none_under asks row t s es w h.1

or_none : {A : Type 0} (o : Option A) → option_or o None ≡ o
or_none None = refl
or_none (Some x) = refl

has_not_same : (n t : ℕ) (es : List Entry) → n ≡ t → HasNot n es → HasNot t es
has_not_same n t es e h = subst (λ m. HasNot m es) e h

-- the first row of two numbers is that of the value under them
pub found_under : {A : Type 0} (asks : ℕ → ℕ → A → Bool) (row : ℕ → ℕ → Tree → A) (t s : ℕ) (es : List Entry)
    → AsksFor asks row → AreNumbered es → AreNumberedIn es
    → find (asks t s) (rows_under row es)
    ≡ option_map (row t s) (number_in s (first_value (λ key. is_digits key && (number_of key == t)) es))
found_under asks row t s [] w a b = refl
found_under {A} asks row t s (e ∷ es) w a b =
    find-append (asks t s) (map (λ q. row (number_of e.key) (number_of q.key) q.value) (entries e.value))
    (rows_under row es)
    ∙ by (number_of e.key == t) refl (found_under asks row t s es w a.2 b.1)
    ∙ ap (λ c. option_map (row t s)
    (number_in s
    (cond (c && (number_of e.key == t)) (Some e.value)
    (first_value (λ key. is_digits key && (number_of key == t)) es)))) (sym a.0)
  where
    by : (c : Bool) → (number_of e.key == t) ≡ c → find (asks t s) (rows_under row es) ≡ option_map (row t s) (number_in
        s (first_value (λ key. is_digits key && (number_of key == t)) es))
        → option_or (find (asks t s) (map (λ q. row (number_of e.key) (number_of q.key) q.value) (entries e.value)))
        (find (asks t s) (rows_under row es))
        ≡ option_map (row t s)
        (number_in s (cond c (Some e.value) (first_value (λ key. is_digits key && (number_of key == t)) es)))
    by true i r =
        let n : number_of e.key ≡ t = grind (arith, nat_tests) in
        ap (λ o. option_or
        (find (asks t s) (map (λ q. row (number_of e.key) (number_of q.key) q.value) (entries e.value))) o)
        (none_under asks row t s es w (has_not_same (number_of e.key) t es n a.1))
        ∙ or_none (find (asks t s) (map (λ q. row (number_of e.key) (number_of q.key) q.value) (entries e.value)))
        ∙ first_in asks row t s (number_of e.key) (entries e.value) w b.0 i
    by false i r =
        ap (λ o. option_or o (find (asks t s) (rows_under row es)))
        (none_in asks row t s (number_of e.key) (entries e.value) w i)
        ∙ r

-- ---- of the values of a text

all_numbered : (limits : Limits) (s : Spot) (es : List Entry) → ((key : List ℕ) → kind_of (under s key) ≡ kind.Numbers)
    → AreClear limits s es → AreNumberedIn es
all_numbered limits s [] i a = tt
all_numbered limits s (e ∷ es) i a =
    (entries_numbered limits (under s e.key) e.value (i e.key) a.0, all_numbered limits s es i a.1)

-- the row of a list of risks
abbrev pub list_row : ℕ → ℕ → Tree → RiskRow
list_row t s v = record { period = t; start = s; values = map count_at (elements v); soft = some_differs (elements v) }

-- the row of a workload
abbrev pub one_load : ℕ → ℕ → Tree → LoadRow
one_load t s v = record { period = t; start = s; load = count_at v }

risk_under : (limits : Limits) (v : Tree) (t s : ℕ) → IsClear limits spot.Risk v
    → find (is_list_at t s) (risk_rows (entries v)) ≡ option_map (list_row t s) (number_in s (at_number t v))
risk_under limits v t s h =
    found_under is_list_at list_row t s (entries v) (λ t s n m v. refl) (entries_numbered limits spot.Risk v refl h)
    (all_numbered limits spot.Risk (entries v) (λ key. refl) (entries_clear limits spot.Risk v h))

-- the first list of risks in period t at start s is that of the file under these keys
pub risk_found : (limits : Limits) (v : Tree) (t s : ℕ) → IsClear limits spot.Intervention v
    → find (is_list_at t s) (risk_rows (entries (known is.Risk v)))
    ≡ option_map (list_row t s) (number_in s (at_number t (known is.Risk v)))
risk_found limits v t s h =
    known_clear limits spot.Intervention is.Risk v
    (λ w. find (is_list_at t s) (risk_rows (entries w)) ≡ option_map (list_row t s) (number_in s (at_number t w))) h
    refl
    (λ w k. risk_under limits w t s k)

-- the rows of a resource's workloads, if the file has any
abbrev loads_in : Option Tree → List LoadRow
loads_in None = []
loads_in (Some v) = load_rows (entries v)

loads_found : (resource : List ℕ) (es : List Entry)
    → loads_of (find (λ w. bytes_eq resource w.resource) (map workload_row es))
    ≡ loads_in (first_value (bytes_eq resource) es)
loads_found resource [] = refl
loads_found resource (e ∷ es) = by (bytes_eq resource e.key) (loads_found resource es)
  where
    by : (b : Bool) → loads_of (find (λ w. bytes_eq resource w.resource) (map workload_row es))
        ≡ loads_in (first_value (bytes_eq resource) es)
        → loads_of (cond b (Some (workload_row e)) (find (λ w. bytes_eq resource w.resource) (map workload_row es)))
        ≡ loads_in (cond b (Some e.value) (first_value (bytes_eq resource) es))
    by true h = refl
    by false h = h

load_under : (limits : Limits) (v : Tree) (t s : ℕ) → IsClear limits spot.WorkloadResource v
    → find (is_load_at t s) (load_rows (entries v)) ≡ option_map (one_load t s) (number_in s (at_number t v))
load_under limits v t s h =
    found_under is_load_at one_load t s (entries v) (λ t s n m v. refl)
    (entries_numbered limits spot.WorkloadResource v refl h)
    (all_numbered limits spot.WorkloadResource (entries v) (λ key. refl)
    (entries_clear limits spot.WorkloadResource v h))

load_in : (limits : Limits) (w : Tree) (resource : List ℕ) (t s : ℕ) → IsClear limits spot.Workload w
    → load_at (map workload_row (entries w)) resource t s
    ≡ option_map (one_load t s) (number_in s (number_in t (at_key resource w)))
load_in limits w resource t s h = ap (find (is_load_at t s)) (loads_found resource (entries w))
    ∙ by (first_value (bytes_eq resource) (entries w)) refl
  where
    by : (o : Option Tree) → first_value (bytes_eq resource) (entries w) ≡ o
        → find (is_load_at t s) (loads_in o) ≡ option_map (one_load t s) (number_in s (number_in t o))
    by None e = refl
    by (Some v) e = load_under limits v t s (found_clear limits spot.Workload spot.WorkloadResource (bytes_eq resource)
        (entries w) v (λ key i. refl) (entries_clear limits spot.Workload w h) e)

-- the workload of a resource in period t at start s is that of the file under these keys
pub load_found : (limits : Limits) (v : Tree) (resource : List ℕ) (t s : ℕ) → IsClear limits spot.Intervention v
    → load_at (map workload_row (entries (known is.Workload v))) resource t s
    ≡ option_map (one_load t s) (workload v resource t s)
load_found limits v resource t s h =
    known_clear limits spot.Intervention is.Workload v (λ w. load_at (map workload_row (entries w)) resource t s
    ≡ option_map (one_load t s) (number_in s (number_in t (at_key resource w)))) h refl
    (λ w k. load_in limits w resource t s k)
