-- The risk numbers of a text without a fault of shape are whole multiples of a power of ten, in one way.
use Rattle.std.proofs.Common.{◌≡◌, ℕ, ◌+◌, ◌-◌, ◌*◌, ◌^◌, ◌<◌, ◌≤◌, List, [], ◌∷◌, ◌++◌, length, refl, sym, ◌∙◌, ap}
use Rattle.std.proofs.Common.{subst, arith, ℤ, unwrap_or}
use Rattle.std.specs.Prelude.{All, slice_index}
use Rattle.std.specs.List.{AllZip}
use Rattle.std.proofs.Math.Nat.{mul_assoc, lt_of_mul-lt-mul_right}
use Rattle.std.proofs.lemmas.List.Elements.{All-nil, All-head, All-tail, All-append, All-map, All-weaker}
use Rattle.std.proofs.lemmas.Nat.{pow-add}
use Rattle.json_grammar.specs.Tree.{Tree}
use Rattle.json_grammar.specs.Grammar.{Parts, HasParts, IsNumber}
use Rattle.decimal_numbers.specs.Decimal.{number, raised_by, lowered_by, numerator, denominator, signed}
use Rattle.decimal_numbers.proofs.ExactLaws.{positive}
use Rattle.json_grammar.proofs.Tokens.{one_parts}
use Rattle.instance_model.specs.Tables.{Tables, allowed_of}
use Rattle.instance_model.specs.declared.limits.Limits.{Limits}
use Rattle.instance_shape.specs.declared.spot.Spot.TheVariants as spot
use Rattle.instance_shape.specs.LookUp.{Entry, token_at, risk_list, durations, periods, interventions}
use Rattle.instance_shape.specs.Defined.{IsTreeOf, Defines}
use Rattle.instance_shape.specs.FileTables.{all_below, each_run}
use Rattle.instance_shape.specs.OwnNumbers.{IsMultiple, each_at, each_risk, HasOwnNumbers}
use Rattle.instance_shape.specs.ShapeFaults.{shape_faults}
use Rattle.instance_shape.proofs.Clear.{IsClear, root_clear}
use Rattle.instance_shape.proofs.ListsBelow.{all_lists, all_cond}
use Rattle.instance_shape.proofs.OneAnswer.{same_root}
use Rattle.instance_shape.proofs.RiskNumbers.{HasCount, risks_have_counts, interventions_clear}

-- ---- tokens

-- what holds of each element of each list of an intervention holds of all
all_runs : {A : Type 0} (P : A → Type 0) (root : Tree) (f : Tree → ℕ → ℕ → List A) (v : Tree)
    → ((s t : ℕ) → All P (f v s t)) → All P (each_run root f v)
all_runs P root f v h =
    all_lists P (length (durations v)) _ (λ k l. all_cond P (allowed_of (periods root) (durations v) (k + 1)) _ (λ a.
    all_lists P (slice_index (durations v) k) (λ j. f v (k + 1) (k + 1 + j)) (λ j m. h (k + 1) (k + 1 + j))))

risk_tokens : (limits : Limits) (root v : Tree) → IsClear limits spot.Intervention v
    → All IsNumber (each_run root (each_at token_at) v)
risk_tokens limits root v h =
    all_runs IsNumber root (each_at token_at) v (λ s t.
    All-map IsNumber token_at (unwrap_or (risk_list v t s) [])
    (All-weaker HasCount (λ x. IsNumber (token_at x)) (λ x c. (c.parts, c.token_parts)) (unwrap_or (risk_list v t s) [])
    (risks_have_counts limits v t s h)))

all_each : {A : Type 0} (P : A → Type 0) (f : Tree → List A) (es : List Entry) → All (λ e. All P (f e.value)) es
    → All P (all_below es f)
all_each P f [] a = All-nil P
all_each P f (e ∷ es) a = All-append P (f e.value) (all_below es f) (All-head (λ x. All P (f x.value)) e es a)
    (all_each P f es (All-tail (λ x. All P (f x.value)) e es a))

tokens_are_numbers : (limits : Limits) (root : Tree) → IsClear limits spot.Root root
    → All IsNumber (each_risk token_at root)
tokens_are_numbers limits root h =
    all_each IsNumber (each_run root (each_at token_at)) (interventions root)
    (All-weaker (λ e. IsClear limits spot.Intervention e.value)
    (λ e. All IsNumber (each_run root (each_at token_at) e.value)) (λ e c. risk_tokens limits root e.value c)
    (interventions root) (interventions_clear limits root h))

-- ---- one multiple

-- how many places a token's value has
abbrev places_of : Parts → ℕ
places_of p = lowered_by p.shrinks p.exponent + length p.fraction

-- so many places are enough
multiple : (token : List ℕ) (p : Parts) (places : ℕ) → HasParts token p → places_of p ≤ places
    → (z : ℤ) × IsMultiple places token z
multiple token p places t h =
    let digits = number (p.whole ++ p.fraction) in
    let r = raised_by p.shrinks p.exponent in
    let size = digits * 10 ^ (r + (places - places_of p)) in
    let sum : r + (places - places_of p) + places_of p ≡ r + places = omega arith in
    let exact : size * denominator p ≡ numerator p places =
    mul_assoc digits (10 ^ (r + (places - places_of p))) (denominator p)
    ∙ ap (λ n. digits * n) (sym (pow-add 10 (r + (places - places_of p)) (places_of p)))
    ∙ ap (λ n. digits * 10 ^ n) sum in
    (signed p.negative size, record { parts = p; token_parts = t; size = size; exact = exact; z_is = refl })

one_size : (a b n m : ℕ) → n * b ≡ a → m * b ≡ a → 0 < b → n ≡ m
one_size a b n m e f p =
    let up : n * b < (m + 1) * b = omega (arith, e, f, p) in
    let down : m * b < (n + 1) * b = omega (arith, e, f, p) in
    omega (arith, lt_of_mul-lt-mul_right b up, lt_of_mul-lt-mul_right b down)

one_multiple : (places : ℕ) (token : List ℕ) (x y : ℤ) → IsMultiple places token x → IsMultiple places token y → x ≡ y
one_multiple places token x y a b =
    let same : b.parts ≡ a.parts = one_parts b.token_parts a.token_parts in
    let exact : b.size * denominator a.parts ≡ numerator a.parts places =
    subst (λ (p : Parts). b.size * denominator p ≡ numerator p places) same b.exact in
    a.z_is
    ∙ ap (λ n. signed a.parts.negative n)
    (one_size (numerator a.parts places) (denominator a.parts) a.size b.size a.exact exact (positive a.parts))
    ∙ ap (λ (p : Parts). signed p.negative b.size) (sym same)
    ∙ sym b.z_is

-- ---- all of them

-- from some number of places on, tokens have multiples
record HaveMultiples (tokens : List (List ℕ)) : Type 0 where
  least : ℕ
  each : (places : ℕ) → least ≤ places → (numbers : List ℤ) × AllZip (IsMultiple places) tokens numbers

multiples : (tokens : List (List ℕ)) → All IsNumber tokens → HaveMultiples tokens
multiples [] a = record { least = 0; each = λ places h. ([], tt) }
multiples (t ∷ ts) a =
    let n : IsNumber t = All-head IsNumber t ts a in
    let rest : HaveMultiples ts = multiples ts (All-tail IsNumber t ts a) in
    record {
      least = places_of n.0 + rest.least;
      each = λ places h.
          let one = multiple t n.0 places n.1 (omega arith) in
          let more = rest.each places (omega arith) in
          (one.0 ∷ more.0, (one.1, more.1));
    }

one_list : (places : ℕ) (tokens : List (List ℕ)) (xs ys : List ℤ) → AllZip (IsMultiple places) tokens xs
    → AllZip (IsMultiple places) tokens ys → xs ≡ ys
one_list places [] [] [] a b = refl
one_list places [] [] (y ∷ ys) a b = absurd b
one_list places [] (x ∷ xs) ys a b = absurd a
one_list places (t ∷ ts) [] ys a b = absurd a
one_list places (t ∷ ts) (x ∷ xs) [] a b = absurd b
one_list places (t ∷ ts) (x ∷ xs) (y ∷ ys) a b =
    ap (λ z. z ∷ xs) (one_multiple places t x y a.0 b.0) ∙ ap (λ zs. y ∷ zs) (one_list places ts xs ys a.1 b.1)

has_own_numbers : (limits : Limits) (root : Tree) → shape_faults limits root ≡ [] → HasOwnNumbers root
has_own_numbers limits root h =
    let all : HaveMultiples (each_risk token_at root) =
    multiples (each_risk token_at root) (tokens_are_numbers limits root (root_clear limits root h)) in
    let numbers = all.each (12 + all.least) (omega arith) in
    record {
      places = 12 + all.least;
      enough = omega arith;
      numbers = numbers.0;
      own = numbers.1;
      only = λ others o. one_list (12 + all.least) (each_risk token_at root) others numbers.0 o numbers.1;
    }

-- a file that defines an instance has its own numbers
pub defined_has : (limits : Limits) (slack : ℤ) (bytes : List ℕ) (inst : Tables) (root : Tree)
    → Defines limits slack bytes inst → IsTreeOf bytes root → HasOwnNumbers root
defined_has limits slack bytes inst root d t = has_own_numbers limits root
    (subst (λ (r : Tree). shape_faults limits r ≡ []) (same_root bytes d.root root d.text t) d.shaped)
