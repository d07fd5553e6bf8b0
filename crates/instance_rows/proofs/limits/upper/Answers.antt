use Rattle.std.proofs.Common.{◌++◌, map, take, sym, ◌∙◌, ap, arith}
use Rattle.std.specs.Prelude.{flat_map, ◌+ℤ◌}
use Rattle.instance_rows.specs.FileRows.{BandRow}
use Rattle.instance_rows.specs.Views.{band_view}
use Rattle.instance_rows.proofs.Turns.{joined_more}
use Rattle.instance_rows.proofs.limits.upper.Goals as goal

pub loop-band-preserved : goal.loop-band-preserved
loop-band-preserved c =
    let before = flat_map (λ (b : BandRow). map (λ z. z +ℤ c.args.slack) b.most)
    (map band_view (take c.loop-band.band-index c.args.bands.now)) in
    c.in_ok-add_raised.ensures
    ∙ ap (λ q. q ++ map (λ z. z +ℤ c.args.slack) c.as_slice.result.now) c.loop-band.invariant
    ∙ ap (λ q. before ++ map (λ z. z +ℤ c.args.slack) q) c.as_slice.ensures.value
    ∙ sym (joined_more (λ (b : BandRow). map (λ z. z +ℤ c.args.slack) b.most) band_view c.args.bands.now
    c.loop-band.band-index c.band-item.result (omega (arith, c.loop-band-test.true)) c.band-item.is)
