use Rattle.std.proofs.Common.{pos}
use Rattle.price_ladder.proofs.KeptWorthLemmas.{settled_kept, zero_values, zero_fixed_is, small_bases}
use Rattle.price_ladder.proofs.kept.zeros.Goals as goal

pub returns-clause-kept : goal.returns-clause-kept
returns-clause-kept c = record {
  beside = settled_kept c.args.inst.now c.in_ok-prices.prices c.in_ok-entries.entries.items (pos 0)
      c.in_ok-beside.beside
      (zero_values c.args.inst.now c.in_ok-prices.prices c.in_ok-entries.entries.items c.in_ok-prices.ensures.value
      c.in_ok-entries.ensures.value)
      (small_bases c.args.inst.now c.in_ok-prices.prices c.in_ok-entries.entries.items c.fits.ensures
      c.in_ok-entries.ensures.value c.in_ok-entries.ensures.small)
      (zero_fixed_is c.args.inst.now c.in_ok-prices.prices c.in_ok-prices.ensures.value) c.in_ok-beside.ensures;
  bases = c.in_ok-bases.ensures.value;
}
