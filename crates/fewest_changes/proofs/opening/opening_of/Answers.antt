use Rattle.std.proofs.Common.{◌≡◌, ℕ, length, sym, subst, arith}
use Rattle.fewest_changes.specs.Openings.{IsKeptOpening}
use Rattle.fewest_changes.proofs.OpeningLemmas.{AreFirst, first_opens, first_without}
use Rattle.fewest_changes.proofs.opening.opening_of.Goals as goal

pub returns-in-None : goal.returns-in-None
returns-in-None c =
    let inst = c.args.inst.now in
    let i = c.loop-i.i in
    first_without inst c.args.old.now c.loop-i.starts.items i c.loop-i.invariant
    (omega (arith, c.loop-i-test.true, c.interventions-i-end.ensures.value)) c.in-None.ensures.none

pub returns : goal.returns
returns c =
    let inst = c.args.inst.now in
    let old = c.args.old.now in
    let all : c.loop-i.i ≡ length inst.names =
    omega (arith, c.loop-i-test.false, c.loop-i.auto.i-end, c.interventions-i-end.ensures.value) in
    subst (IsKeptOpening inst old) (sym c.from_vec.ensures)
    (first_opens inst old c.loop-i.starts.items
    (subst (λ (n : ℕ). AreFirst inst old c.loop-i.starts.items n) all c.loop-i.invariant))
