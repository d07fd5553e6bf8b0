-- Faults as numbers, so that a test tells whether two are one.
use Rattle.std.proofs.Common.{◌≡◌, ℕ, ◌-◌, ◌==◌, ◌≤◌, ◌&&◌, inl, inr, Bool, true, false, cond, List, [], ◌∷◌, refl, sym}
use Rattle.std.proofs.Common.{◌∙◌, ap, arith}
use Rattle.std.proofs.lemmas.Bool.Decides.{nat_tests}
use Rattle.instance_shape.specs.declared.fault.Fault.{Fault}
use Rattle.instance_shape.specs.declared.fault.Flaw.{Flaw}
use Rattle.instance_shape.specs.declared.fault.Flaw.TheVariants as flaw
use Rattle.instance_shape.specs.declared.fault.Known.TheVariants as known
use Rattle.instance_shape.specs.declared.fault.Which.TheVariants as which
use Rattle.instance_shape.specs.ShapeFaults.{Among}
use Rattle.shape_walk.proofs.TextOrder.{one_if}
use Rattle.shape_walk.proofs.Weighing.{weigh}

abbrev flaw_code : Flaw → ℕ
flaw_code flaw.Double = 0
flaw_code flaw.BadName = 1
flaw_code flaw.Shape = 2
flaw_code flaw.TooLarge = 3
flaw_code (flaw.Missing known.Resources) = 4
flaw_code (flaw.Missing known.Seasons) = 5
flaw_code (flaw.Missing known.Interventions) = 6
flaw_code (flaw.Missing known.Exclusions) = 7
flaw_code (flaw.Missing known.T) = 8
flaw_code (flaw.Missing known.ScenariosNumber) = 9
flaw_code (flaw.Missing known.Quantile) = 10
flaw_code (flaw.Missing known.Alpha) = 11
flaw_code (flaw.Missing known.Max) = 12
flaw_code (flaw.Missing known.Min) = 13
flaw_code (flaw.Missing known.Tmax) = 14
flaw_code (flaw.Missing known.Delta) = 15
flaw_code (flaw.Missing known.Workload) = 16
flaw_code (flaw.Missing known.Risk) = 17
flaw_code (flaw.Limit which.Periods) = 18
flaw_code (flaw.Limit which.Scenarios) = 19
flaw_code (flaw.Limit which.Resources) = 20
flaw_code (flaw.Limit which.Interventions) = 21
flaw_code (flaw.Limit which.Seasons) = 22
flaw_code (flaw.Limit which.Exclusions) = 23
flaw_code (flaw.Limit which.RiskCells) = 24
flaw_code (flaw.Limit which.WorkloadEntries) = 25

-- the flaws in the order of their numbers
abbrev all_flaws : List Flaw
all_flaws =
    flaw.Double ∷ flaw.BadName ∷ flaw.Shape ∷ flaw.TooLarge
    ∷ flaw.Missing known.Resources ∷ flaw.Missing known.Seasons ∷ flaw.Missing known.Interventions
    ∷ flaw.Missing known.Exclusions
    ∷ flaw.Missing known.T ∷ flaw.Missing known.ScenariosNumber ∷ flaw.Missing known.Quantile ∷ flaw.Missing known.Alpha
    ∷ flaw.Missing known.Max ∷ flaw.Missing known.Min ∷ flaw.Missing known.Tmax ∷ flaw.Missing known.Delta
    ∷ flaw.Missing known.Workload ∷ flaw.Missing known.Risk
    ∷ flaw.Limit which.Periods ∷ flaw.Limit which.Scenarios ∷ flaw.Limit which.Resources
    ∷ flaw.Limit which.Interventions
    ∷ flaw.Limit which.Seasons ∷ flaw.Limit which.Exclusions ∷ flaw.Limit which.RiskCells
    ∷ flaw.Limit which.WorkloadEntries ∷ []

-- the flaw of a number
abbrev pick : List Flaw → ℕ → Flaw
pick [] n = flaw.Double
pick (f ∷ fs) n = cond (n == 0) f (pick fs (n - 1))

flaw_back : (f : Flaw) → pick all_flaws (flaw_code f) ≡ f
flaw_back flaw.Double = refl
flaw_back flaw.BadName = refl
flaw_back flaw.Shape = refl
flaw_back flaw.TooLarge = refl
flaw_back (flaw.Missing known.Resources) = refl
flaw_back (flaw.Missing _) = refl
flaw_back (flaw.Limit which.Periods) = refl
flaw_back (flaw.Limit _) = refl

-- the weight of one fault
abbrev pub is_fault : Fault → Fault → ℕ
is_fault f g = one_if ((g.at == f.at) && (flaw_code g.flaw == flaw_code f.flaw))

same_code : (f g : Flaw) → flaw_code g ≡ flaw_code f → g ≡ f
same_code f g h = sym (flaw_back g) ∙ ap (pick all_flaws) h ∙ flaw_back f

same_fault : (f g : Fault) → g.at ≡ f.at → g.flaw ≡ f.flaw → g ≡ f
same_fault f g h k =
    ap (λ (a : ℕ). record { at = a; flaw = g.flaw }) h ∙ ap (λ (x : Flaw). record { at = f.at; flaw = x }) k

itself : (f : Fault) → is_fault f f ≡ 1
itself f = grind (arith, nat_tests)

-- a fault of a list weighs something
pub among_weighs : (f : Fault) (xs : List Fault) → Among xs f → 1 ≤ weigh (is_fault f) xs
among_weighs f [] h = absurd h
among_weighs f (g ∷ xs) (inl h) = omega (arith, ap (is_fault f) h, itself f)
among_weighs f (g ∷ xs) (inr h) = omega (arith, among_weighs f xs h)

-- and no other fault does
pub weighs_among : (f : Fault) (xs : List Fault) → 1 ≤ weigh (is_fault f) xs → Among xs f
weighs_among f [] h = absurd (omega arith)
weighs_among f (g ∷ xs) h = by_test (weighs_among f xs) ((g.at == f.at) && (flaw_code g.flaw == flaw_code f.flaw)) refl
  where
    by_test : (1 ≤ weigh (is_fault f) xs → Among xs f) → (b : Bool)
        → (g.at == f.at) && (flaw_code g.flaw == flaw_code f.flaw) ≡ b → Among (g ∷ xs) f
    by_test rest true e =
        let a : g.at ≡ f.at = grind (arith, nat_tests) in
        let c : flaw_code g.flaw ≡ flaw_code f.flaw = grind (arith, nat_tests) in
        inl (same_fault f g a (same_code f.flaw g.flaw c))
    by_test rest false e = inr (rest (omega (arith, ap one_if e, h)))
