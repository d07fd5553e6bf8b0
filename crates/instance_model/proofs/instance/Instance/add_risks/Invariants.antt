use Rattle.std.proofs.Common.{◌≡◌, ◌<◌, ◌≤◌, ℕ, ◌+ℤ◌, pos, get_or}
use Rattle.instance_model.specs.RiskNumbers.{numbers_of}
use Rattle.instance_model.proofs.instance.Instance.add_risks.Given as goal

abbrev pub invariant-loop-k : goal.invariant-loop-k
invariant-loop-k g l = record {
  done : (j : ℕ) → j < l.k
      → get_or l.sums j (pos 0) ≡ get_or l.fn.sums j (pos 0) +ℤ get_or (numbers_of l.risks) j (pos 0);
  rest : (j : ℕ) → l.k ≤ j → get_or l.sums j (pos 0) ≡ get_or l.fn.sums j (pos 0);
}
