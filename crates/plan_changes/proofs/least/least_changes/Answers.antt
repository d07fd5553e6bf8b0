use Rattle.std.proofs.Common.{◌≡◌, ◌≤ℤ◌, ◌<ℤ◌, ◌∙◌, ap, subst, ℤ, pos, unsigned_abs, arith, rules}
use Rattle.std.proofs.lemmas.Int.{to_z-of_z}
use mir.Syntax.{w128}
use mir.Val.{SFits, of_z, to_z}
use Rattle.fixed_num.specs.Floors.{ceil_of}
use Rattle.fixed_num.proofs.SignedLemmas.{signed_arith, back_from_abs}
use Rattle.plan_changes.proofs.LeastLemmas.{least_above, least_none}
use Rattle.plan_changes.proofs.least.least_changes.Goals as goal

pub returns-then-least-gt0 : goal.returns-then-least-gt0
returns-then-least-gt0 c =
    let q = c.ceil_div-least.result in
    let fits : SFits w128 c.ceil_div-least.result = search rules in
    let same : to_z w128 (of_z w128 c.ceil_div-least.result) ≡ c.ceil_div-least.result = to_z-of_z w128 q fits in
    let bound = back_from_abs c.args.bound (omega (arith, c.requires)) in
    let high : pos 0 <ℤ to_z w128 (of_z w128 c.ceil_div-least.result) =
    omega (arith, signed_arith, c.if-least-gt0.true) in
    ap unsigned_abs same
    ∙ least_above c.args.bound q
    (c.ceil_div-least.ensures ∙ ap (λ (z : ℤ). ceil_of z 1_000_000_000_000_000_000) bound)
    (subst (λ (z : ℤ). pos 0 <ℤ z) same high)

pub returns-else-least-gt0 : goal.returns-else-least-gt0
returns-else-least-gt0 c =
    let q = c.ceil_div-least.result in
    let fits : SFits w128 c.ceil_div-least.result = search rules in
    let same : to_z w128 (of_z w128 c.ceil_div-least.result) ≡ c.ceil_div-least.result = to_z-of_z w128 q fits in
    let bound = back_from_abs c.args.bound (omega (arith, c.requires)) in
    let low : to_z w128 (of_z w128 c.ceil_div-least.result) ≤ℤ pos 0 =
    omega (arith, signed_arith, c.if-least-gt0.false) in
    least_none c.args.bound q
    (c.ceil_div-least.ensures ∙ ap (λ (z : ℤ). ceil_of z 1_000_000_000_000_000_000) bound)
    (subst (λ (z : ℤ). z ≤ℤ pos 0) same low)
