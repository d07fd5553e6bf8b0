use Rattle.std.proofs.Common.{◌≡◌, arith, pos, ◌-◌, ◌+ℤ◌, ◌*ℤ◌, ◌≤◌, ℤ, ℕ, to_z, of_z, unsigned_abs}
use Rattle.std.specs.Int.{w128}
use Rattle.std.proofs.lemmas.Int.{to_z_pos}
use Rattle.fixed_num.proofs.SignedLemmas.{back_from_abs, abs-product}
use Rattle.fixed_num.proofs.SumLemmas.{abs-sum}
use Rattle.instance_model.proofs.weighing.weighted.Goals as goal

-- what the code computes, and how large it can be
weighed : (a : ℕ) (s e : ℤ) → a ≤ 1_000_000 → unsigned_abs s ≤ 104_857_600_000_000_000_000_000_000
    → unsigned_abs e ≤ 209_715_200_000_000_000_000_000_000
    → (to_z w128 (of_z w128
    (to_z w128 (of_z w128 (to_z w128 a *ℤ to_z w128 (of_z w128 s)))
    +ℤ to_z w128 (of_z w128 (to_z w128 (1_000_000 - a) *ℤ to_z w128 (of_z w128 e))))) ≡ pos a *ℤ s +ℤ pos (1_000_000
    - a) *ℤ e) × (unsigned_abs (pos a *ℤ s +ℤ pos (1_000_000 - a) *ℤ e) ≤ 314_572_800_000_000_000_000_000_000_000_000)
weighed a s e h k l =
    let bs = back_from_abs s (omega (arith, k)) in
    let be = back_from_abs e (omega (arith, l)) in
    let ba = to_z_pos w128 a (omega (arith, h)) in
    let bb = to_z_pos w128 (1_000_000 - a) (omega (arith, h)) in
    let p = abs-product (pos a) s 1_000_000 104_857_600_000_000_000_000_000_000 h k in
    let q = abs-product (pos (1_000_000 - a)) e 1_000_000 209_715_200_000_000_000_000_000_000 (omega arith) l in
    let t = abs-sum (pos a *ℤ s) (pos (1_000_000 - a) *ℤ e) in
    let bp = back_from_abs (pos a *ℤ s) (omega (arith, p)) in
    let bq = back_from_abs (pos (1_000_000 - a) *ℤ e) (omega (arith, q)) in
    let bt = back_from_abs (pos a *ℤ s +ℤ pos (1_000_000 - a) *ℤ e) (omega (arith, p, q, t)) in
    (rw (ba, bb, bs, be, bp, bq) bt, omega (arith, p, q, t))

pub returns-clause-value : goal.returns-clause-value
returns-clause-value c =
    (weighed c.args.alpha c.args.total c.args.excess c.requires.alpha c.requires.total c.requires.excess).0

pub returns-clause-small : goal.returns-clause-small
returns-clause-small c =
    let w = weighed c.args.alpha c.args.total c.args.excess c.requires.alpha c.requires.total c.requires.excess in
    rw w.0 w.1
