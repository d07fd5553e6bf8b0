use Rattle.std.proofs.Common.{◌≡◌, ℕ, ◌<◌, ◌≤◌, ◌⊎◌, inl, inr, sym, subst, arith}
use Rattle.std.proofs.Math.Nat.{eq-or-lt_of_le}
use Rattle.certificate_lines.specs.declared.line.Side.{Side}
use Rattle.certificate_tree.specs.Holding.{IsOffLimit}
use Rattle.branch_search.proofs.node_state.loads.BoxLoads.band_off.Goals as goal

pub loop-t-preserved : goal.loop-t-preserved
loop-t-preserved c = λ u side l m. at u side l (eq-or-lt_of_le (omega (arith, m)))
  where
    at : (u : ℕ) (side : Side) → c.args.window.from ≤ u → (u ≡ c.loop-t.t) ⊎ (u < c.loop-t.t)
        → ¬ IsOffLimit c.args.inst.now c.args.self.now.spans c.args.c u side
    at u side l (inl e) =
        subst (λ (v : ℕ). ¬ IsOffLimit c.args.inst.now c.args.self.now.spans c.args.c v side) (sym e)
        (c.in_default.ensures.none side)
    at u side l (inr m) = c.loop-t.invariant u side l m
