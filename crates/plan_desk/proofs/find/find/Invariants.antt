use Rattle.std.proofs.Common.{◌≡◌, ℕ, ◌<◌, false}
use Rattle.std.specs.Prelude.{bytes_eq}
use Rattle.plan_desk.specs.Mem.{file_at}
use Rattle.plan_desk.proofs.find.find.Given as goal

abbrev pub invariant-loop-i : goal.invariant-loop-i
invariant-loop-i l = (k : ℕ) → k < l.i → bytes_eq l.name (file_at l.files k).name ≡ false
