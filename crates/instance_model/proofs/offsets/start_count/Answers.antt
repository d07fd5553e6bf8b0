use Rattle.std.proofs.Common.{◌≡◌, arith}
use Rattle.instance_model.specs.Tables.{tmax}
use Rattle.instance_model.specs.View.{tables_of}
use Rattle.instance_model.proofs.FitLemmas.{durations_is, tmax_is, tmax_small, row_number}
use Rattle.instance_model.proofs.offsets.start_count.Goals as goal

pub returns-clause-value : goal.returns-clause-value
returns-clause-value c =
    let d = durations_is c.args.parts.now c.args.i c.index.result.now c.requires.number c.index.ensures in
    omega (
      arith,
      c.len.ensures,
      c.index.result.now.ok.0,
      tmax_is (tables_of c.args.parts.now) c.args.i c.index.result.now.items d,
    )

pub returns-clause-some : goal.returns-clause-some
returns-clause-some c =
    let t = tables_of c.args.parts.now in
    let e : c.len.result ≡ tmax t c.args.i = returns-clause-value c in
    omega (
      arith,
      tmax_small t c.args.i c.requires.fits (row_number c.args.parts.now c.args.i c.requires.fits c.requires.number),
    )

pub returns-clause-small : goal.returns-clause-small
returns-clause-small c =
    let t = tables_of c.args.parts.now in
    let e : c.len.result ≡ tmax t c.args.i = returns-clause-value c in
    omega (
      arith,
      tmax_small t c.args.i c.requires.fits (row_number c.args.parts.now c.args.i c.requires.fits c.requires.number),
      c.requires.fits.few_periods,
    )
