use Rattle.std.proofs.Common.{◌≡◌, map, take}
use Rattle.std.specs.Prelude.{flat_map, ◌-ℤ◌}
use Rattle.instance_rows.specs.Views.{band_view}
use Rattle.instance_rows.proofs.limits.lower.Given as goal

abbrev pub invariant-loop-band : goal.invariant-loop-band
invariant-loop-band l =
    l.limits.items ≡ flat_map (λ b. map (λ z. z -ℤ l.slack) b.least) (map band_view (take l.band-index l.bands))
