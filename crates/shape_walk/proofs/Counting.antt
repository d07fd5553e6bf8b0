-- Elements are counted to three only, and nothing asks for more.
use Rattle.std.proofs.Common.{◌≡◌, ℕ, ◌+◌, List, Bool, true, false, cond, refl, ap, arith, min, nat_lt}
use Rattle.std.proofs.lemmas.Bool.Decides.{nat_tests}
use Rattle.instance_shape.specs.declared.fault.Flaw.TheVariants as flaw
use Rattle.instance_shape.specs.declared.spot.Spot.{Spot}
use Rattle.instance_shape.specs.declared.spot.Spot.TheVariants as spot
use Rattle.instance_shape.specs.declared.spot.Kind.{Kind}
use Rattle.instance_shape.specs.declared.spot.Kind.TheVariants as kind
use Rattle.instance_shape.specs.Shape.{element}
use Rattle.instance_shape.specs.ShapeFaults.{where_so, too_few}
use Rattle.shape_walk.specs.Machine.{Frame, State, one_more, more_if}
use Rattle.shape_walk.proofs.TextOrder.{one_if}

abbrev pub counted : ℕ → ℕ
counted n = min n 3

below_three : (n : ℕ) → nat_lt (counted n) 3 ≡ nat_lt n 3
below_three n = grind (arith, nat_tests)

pub more_counted : (n : ℕ) → one_more (counted n) ≡ counted (n + 1)
more_counted n = grind (arith, nat_tests)

pub element_counted : (s : Spot) (n : ℕ) → element s (counted n) ≡ element s n
element_counted spot.Exclusion n = ap (λ b. cond b spot.Word spot.Beyond) (below_three n)
element_counted _ n = refl

pub few_counted : (k : Kind) (n at : ℕ) → too_few k (counted n) at ≡ too_few k n at
few_counted kind.Triple n at = ap (λ b. where_so b at flaw.Shape) (below_three n)
few_counted _ n at = refl

pub more_is : (b : Bool) (n : ℕ) → more_if b n ≡ n + one_if b
more_is true n = refl
more_is false n = omega arith

abbrev pub st : Frame → List Frame → ℕ → ℕ → State
st f around r w = record { top = f; around = around; risks = r; workloads = w }
