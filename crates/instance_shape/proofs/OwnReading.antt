-- The numbers of a file are a reading of its instance.
use Rattle.std.proofs.Common.{◌≡◌, ℕ, zero, suc, ◌+◌, ◌-◌, ◌<◌, ◌≤◌, ◌^◌, true, List, [], ◌∷◌, length, get_or, None}
use Rattle.std.proofs.Common.{refl, sym, ◌∙◌, ap, subst, arith, ℤ, pos}
use Rattle.std.specs.List.{AllZip}
use Rattle.std.proofs.lemmas.Bool.{or_left, or_right}
use Rattle.std.proofs.lemmas.List.{length-map}
use Rattle.std.proofs.lemmas.List.Elements.{All-get_or}
use Rattle.json_grammar.specs.Tree.{Tree, tree, Node}
use Rattle.decimal_numbers.proofs.Rounding.{ten_positive}
use Rattle.instance_model.specs.declared.limits.Limits.{Limits}
use Rattle.instance_model.specs.Exact.{with_risks, RoundsTo, IsReading}
use Rattle.instance_model.specs.Tables as model
use Rattle.instance_model.specs.Tables.{Tables, entries_of, entries_at, entries_before, entry_place, risk_place}
use Rattle.instance_model.specs.Tables.{risk_of, soft_of, tmax, is_allowed, delta_of, in_run, scenarios_of}
use Rattle.instance_model.specs.Tables.{scenarios_before}
use Rattle.instance_model.proofs.EntryLemmas.{IsRunning, IsRunning-from}
use Rattle.instance_shape.specs.declared.spot.Spot.TheVariants as spot
use Rattle.instance_shape.specs.CrossFaults.{cross_fault}
use Rattle.instance_shape.specs.Defined.{IsTreeOf, Defines}
use Rattle.instance_shape.specs.FileTables.{tables, some_differs}
use Rattle.instance_shape.specs.LookUp.{Entry, token_at, count_at, differs_at, interventions}
use Rattle.instance_shape.specs.OwnNumbers.{IsMultiple, each_at, each_risk, AreOwnNumbers}
use Rattle.instance_shape.specs.ShapeFaults.{shape_faults}
use Rattle.instance_shape.proofs.Clear.{IsClear, root_clear}
use Rattle.instance_shape.proofs.NoCrossFault.{IsComplete, interventions_complete}
use Rattle.instance_shape.proofs.OneAnswer.{same_root}
use Rattle.instance_shape.proofs.OwnRounding.{token_rounds, softer}
use Rattle.instance_shape.proofs.Places.{IsInRun}
use Rattle.instance_shape.proofs.RiskNumbers.{HasCount, risks_have_counts, interventions_clear}
use Rattle.instance_shape.proofs.RiskPlaces.{numbers_of, no_entry, intervention, each_risk_at, risk_is, soft_is}
use Rattle.instance_shape.proofs.RiskPlaces.{in_run_is, place_below}
use Rattle.instance_shape.proofs.RunLengths.{table_length, scenarios_of_is, all_grow, risks_each}

-- ---- two lists, place by place

zip_length : {A B : Type 0} (R : A → B → Type 0) (xs : List A) (ys : List B) → AllZip R xs ys → length xs ≡ length ys
zip_length R [] [] z = refl
zip_length R [] (y ∷ ys) z = absurd z
zip_length R (x ∷ xs) [] z = absurd z
zip_length R (x ∷ xs) (y ∷ ys) z = ap suc (zip_length R xs ys z.1)

zip_at : {A B : Type 0} (R : A → B → Type 0) (xs : List A) (ys : List B) (i : ℕ) (d : A) (e : B) → AllZip R xs ys
    → i < length xs → R (get_or xs i d) (get_or ys i e)
zip_at R [] ys i d e z h = absurd (omega arith)
zip_at R (x ∷ xs) [] i d e z h = absurd z
zip_at R (x ∷ xs) (y ∷ ys) zero d e z h = z.0
zip_at R (x ∷ xs) (y ∷ ys) (suc i) d e z h = zip_at R xs ys i d e z.1 (omega arith)

-- ---- one number

-- other risk numbers leave the places
other_risk : (inst : Tables) (numbers : List ℤ) (i s t k : ℕ)
    → risk_of (with_risks inst numbers) i s t k ≡ get_or numbers (risk_place inst i s t k) (pos 0)
unfolding risk_of risk_place entry_place entries_before entries_of entries_at tmax is_allowed delta_of
    model.durations scenarios_before
other_risk inst numbers i s t k = refl

some_differs_at : (xs : List Tree) (q : ℕ) (d : Tree) → q < length xs → differs_at (get_or xs q d) ≡ true
    → some_differs xs ≡ true
some_differs_at [] q d h e = absurd (omega arith)
some_differs_at (x ∷ xs) zero d h e = or_left (differs_at x) (some_differs xs) e
some_differs_at (x ∷ xs) (suc q) d h e =
    or_right (differs_at x) (some_differs xs) (some_differs_at xs q d (omega arith) e)

-- the numbers of a text without a fault, in 10^-places
record AreInFile (limits : Limits) (root : Tree) (places : ℕ) (numbers : List ℤ) : Type 0 where
  shaped : shape_faults limits root ≡ []
  fitting : cross_fault root ≡ None
  fine : 12 ≤ places
  own : AreOwnNumbers places root numbers

rounds_at : (limits : Limits) (slack : ℤ) (root : Tree) (places : ℕ) (numbers : List ℤ) (i k j q : ℕ)
    → AreInFile limits root places numbers → i < length (interventions root)
    → is_allowed (tables slack root) i (k + 1) ≡ true → in_run (tables slack root) i (k + 1) (k + 1 + j) ≡ true
    → q < scenarios_of (tables slack root) (k + 1 + j)
    → RoundsTo (10 ^ (places - 12)) (soft_of (tables slack root) i (k + 1) (k + 1 + j))
    (risk_of (with_risks (tables slack root) numbers) i (k + 1) (k + 1 + j) (q + 1))
    (risk_of (tables slack root) i (k + 1) (k + 1 + j) (q + 1))
rounds_at limits slack root places numbers i k j q f l a r m =
    let inst = tables slack root in
    let none : Tree = tree 0 0 Node.null in
    let v = intervention root i in
    let xs = numbers_of v k j in
    let x = get_or xs q none in
    let run : IsInRun root v k j = in_run_is slack root i k j l a r in
    let complete : IsComplete root v = All-get_or (λ e. IsComplete root e.value) (interventions root) i no_entry l
    (interventions_complete root f.fitting) in
    let clear : IsClear limits spot.Intervention v = All-get_or (λ e. IsClear limits spot.Intervention e.value)
    (interventions root) i no_entry l (interventions_clear limits root (root_clear limits root f.shaped)) in
    let within : q < length xs =
    omega (arith, m, scenarios_of_is slack root (k + 1 + j), complete.risks k j run.among run.allowed run.within) in
    let place = risk_place inst i (k + 1) (k + 1 + j) (q + 1) in
    let z = get_or numbers place (pos 0) in
    let token : get_or (each_risk token_at root) place [] ≡ token_at x =
    each_risk_at slack root token_at i k j q [] none f.fitting l run within in
    let multiple : IsMultiple places (token_at x) z = subst (λ (t : List ℕ). IsMultiple places t z) token
    (zip_at (IsMultiple places) (each_risk token_at root) numbers place [] (pos 0) f.own
    (place_below slack root token_at i k j q f.fitting l a r m)) in
    let count : HasCount x =
    All-get_or HasCount xs q none within (risks_have_counts limits v (k + 1 + j) (k + 1) clear) in
    rw (
      other_risk inst numbers i (k + 1) (k + 1 + j) (q + 1),
      risk_is slack root i k j q none f.fitting l run within,
      soft_is slack root i k j l run,
    )
    (softer (10 ^ (places - 12)) (some_differs xs) (differs_at x) z (count_at x) (some_differs_at xs q none within)
    (token_rounds (token_at x) places z (count_at x) (differs_at x) f.fine multiple count))

-- ---- all of them

-- what holds at start k + 1, period k + 1 + j and scenario q + 1 holds at every start, period from it on and scenario
from_one : (P : ℕ → ℕ → ℕ → Type 0) (s t n : ℕ) → 1 ≤ s → s ≤ t → 1 ≤ n
    → P (s - 1 + 1) (s - 1 + 1 + (t - s)) (n - 1 + 1) → P s t n
from_one P s t n a b c h =
    let start : s - 1 + 1 ≡ s = omega arith in
    let period : s + (t - s) ≡ t = omega arith in
    let scenario : n - 1 + 1 ≡ n = omega arith in
    rw (start, period, scenario) at h

rounds : (limits : Limits) (slack : ℤ) (root : Tree) (places : ℕ) (numbers : List ℤ) (i s t n : ℕ)
    → AreInFile limits root places numbers → i < length (interventions root)
    → is_allowed (tables slack root) i s ≡ true → in_run (tables slack root) i s t ≡ true → 1 ≤ n
    → n ≤ scenarios_of (tables slack root) t
    → RoundsTo (10 ^ (places - 12)) (soft_of (tables slack root) i s t)
    (risk_of (with_risks (tables slack root) numbers) i s t n) (risk_of (tables slack root) i s t n)
rounds limits slack root places numbers i s t n f l a r one few =
    let inst = tables slack root in
    let runs : IsRunning inst i s t = IsRunning-from inst i s t a r in
    from_one
    (λ s t n. is_allowed inst i s ≡ true → in_run inst i s t ≡ true → n ≤ scenarios_of inst t
    → RoundsTo (10 ^ (places - 12)) (soft_of inst i s t) (risk_of (with_risks inst numbers) i s t n)
    (risk_of inst i s t n))
    s t n runs.start runs.from one
    (λ b u m. rounds_at limits slack root places numbers i (s - 1) (t - s) (n - 1) f l b u (omega (arith, m)))
    a r few

own_reading : (limits : Limits) (slack : ℤ) (root : Tree) (places : ℕ) (numbers : List ℤ)
    → AreInFile limits root places numbers → IsReading (tables slack root) (10 ^ (places - 12)) numbers
own_reading limits slack root places numbers f = record {
  some = ten_positive (places - 12);
  each = sym (zip_length (IsMultiple places) (each_risk token_at root) numbers f.own)
      ∙ table_length slack root (each_at token_at) (scenarios_before (tables slack root)) (all_grow slack root token_at
      f.fitting) ∙ sym (risks_each slack root f.fitting);
  rounds = λ i s t n l a r one few. rounds limits slack root places numbers i s t n f
      (omega (arith, l, length-map (interventions root) (λ (e : Entry). e.key))) a r one few;
}

-- the numbers of the file of an instance are a reading of it
pub own_numbers : (limits : Limits) (slack : ℤ) (bytes : List ℕ) (inst : Tables) (root : Tree) (places : ℕ)
    (numbers : List ℤ) → Defines limits slack bytes inst → IsTreeOf bytes root → 12 ≤ places
    → AreOwnNumbers places root numbers → IsReading inst (10 ^ (places - 12)) numbers
own_numbers limits slack bytes inst root places numbers d t h o =
    let same : root ≡ d.root = same_root bytes root d.root t d.text in
    let own : AreOwnNumbers places d.root numbers = subst (λ (r : Tree). AreOwnNumbers places r numbers) same o in
    subst (λ (x : Tables). IsReading x (10 ^ (places - 12)) numbers) (sym d.tables)
    (own_reading limits slack d.root places numbers
    (record { shaped = d.shaped; fitting = d.fitting; fine = h; own = own }))
