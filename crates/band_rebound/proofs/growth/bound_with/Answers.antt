use Rattle.std.proofs.Common.{ℤ, ◌<ℤ◌, ◌++◌, Option, rules, sym, subst, ◌∙◌}
use Rattle.std.proofs.lemmas.Bool.{false≢true}
use Rattle.std.proofs.lemmas.Int.{to_z-of_z}
use mir.Syntax.{w128}
use mir.Val.{SFits, of_z, to_z}
use Rattle.certificate_lines.specs.declared.line.Bound.TheVariants.{Least}
use Rattle.band_rebound.specs.Rebinding.{IsBoundOf}
use Rattle.band_rebound.specs.Steps.{some_worth}
use Rattle.band_rebound.proofs.BoundLemmas.{with_less, with_stays}
use Rattle.band_rebound.proofs.growth.bound_with.Goals as goal

-- what is passed on in 128 bits is the same
pass : (z top : ℤ) → SFits w128 z → SFits w128 top → z <ℤ top → to_z w128 (of_z w128 z) <ℤ to_z w128 (of_z w128 top)
pass z top f g l =
    subst (λ (x : ℤ). x <ℤ to_z w128 (of_z w128 top)) (sym (to_z-of_z w128 z f))
    (subst (λ (x : ℤ). z <ℤ x) (sym (to_z-of_z w128 top g)) l)

passed : (z top : ℤ) → SFits w128 z → SFits w128 top → to_z w128 (of_z w128 z) <ℤ to_z w128 (of_z w128 top) → z <ℤ top
passed z top f g l =
    subst (λ (x : ℤ). x <ℤ top) (to_z-of_z w128 z f)
    (subst (λ (x : ℤ). to_z w128 (of_z w128 z) <ℤ x) (to_z-of_z w128 top g) l)

pub returns-then-is_below : goal.returns-then-is_below
returns-then-is_below c = λ worths h.
    let z : ℤ = c.in-Some.worth in
    let top : ℤ = c.top_of-least.result in
    let fits : SFits w128 z = search rules in
    let top_fits : SFits w128 top = search rules in
    subst (λ (x : ℤ). IsBoundOf (worths ++ some_worth c.args.worth) (Least x)) (sym (to_z-of_z w128 z fits))
    (subst (λ (o : Option ℤ). IsBoundOf (worths ++ some_worth o) (Least z)) (sym c.in-Some.is)
    (with_less c.args.bound worths z top c.top_of-least.ensures h
    (passed z top fits top_fits (c.is_below.ensures.0 c.if-is_below.true))))

pub returns : goal.returns
returns c = λ worths h.
    let z : ℤ = c.in-Some.worth in
    let top : ℤ = c.top_of-least.result in
    let fits : SFits w128 z = search rules in
    let top_fits : SFits w128 top = search rules in
    subst (λ (x : ℤ). IsBoundOf (worths ++ some_worth c.args.worth) (Least x)) (sym (to_z-of_z w128 top top_fits))
    (subst (λ (o : Option ℤ). IsBoundOf (worths ++ some_worth o) (Least top)) (sym c.in-Some.is)
    (with_stays c.args.bound worths z top c.top_of-least.ensures h
    (λ l. false≢true (sym c.if-is_below.false ∙ c.is_below.ensures.1 (pass z top fits top_fits l)))))
