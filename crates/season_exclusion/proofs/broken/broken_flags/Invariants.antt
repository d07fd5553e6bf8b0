use Rattle.std.proofs.Common.{◌≡◌, ◌<◌, ℕ, false, length, get_or}
use Rattle.season_exclusion.specs.Broken.{is_broken}
use Rattle.season_exclusion.proofs.broken.broken_flags.Given as goal

abbrev pub invariant-loop-e : goal.invariant-loop-e
invariant-loop-e l = record {
  each : length l.flags.items ≡ l.e;
  broken : (d : ℕ) → d < l.e → get_or l.flags.items d false ≡ is_broken l.inst l.starts d;
}
