use Rattle.std.proofs.Common.{◌*◌, ◌<◌, ◌^◌, sym, subst, arith, ℤ, unsigned_abs}
use Rattle.fixed_num.proofs.SignedLemmas.{back_from_abs}
use Rattle.price_ladder.specs.Kept.{AreSmall}
use Rattle.price_ladder.specs.Beside.{IsSettled}
use Rattle.price_ladder.proofs.KeptLemmas.{entries_small, fixed_small}
use Rattle.price_ladder.proofs.KeptWorthLemmas.{AreSmall-weaker, settled_kept, small_bases}
use Rattle.price_ladder.proofs.whole.whole.Goals as goal

pub fixed_of-requires-clause-small : goal.fixed_of-requires-clause-small
fixed_of-requires-clause-small c =
    let bases = small_bases c.args.inst.now c.args.prices c.in_ok-bases.bases.items c.fits.ensures
    c.in_ok-bases.ensures.value c.in_ok-bases.ensures.small in
    subst (AreSmall c.args.inst.now (3 * 10 ^ 33)) (sym c.as_slice.ensures.value)
    (AreSmall-weaker c.args.inst.now (2 * 10 ^ 33) (3 * 10 ^ 33) c.in_ok-entries.entries.items (omega arith)
    (entries_small c.args.inst.now c.args.prices c.in_ok-entries.entries.items c.fits.ensures c.requires.prices bases
    c.in_ok-entries.ensures))

pub settle-requires-clause-entries : goal.settle-requires-clause-entries
settle-requires-clause-entries c =
    let bases = small_bases c.args.inst.now c.args.prices c.in_ok-bases.bases.items c.fits.ensures
    c.in_ok-bases.ensures.value c.in_ok-bases.ensures.small in
    AreSmall-weaker c.args.inst.now (2 * 10 ^ 33) (3 * 10 ^ 33) c.in_ok-entries.entries.items (omega arith)
    (entries_small c.args.inst.now c.args.prices c.in_ok-entries.entries.items c.fits.ensures c.requires.prices bases
    c.in_ok-entries.ensures)

pub settle-requires-clause-fixed : goal.settle-requires-clause-fixed
settle-requires-clause-fixed c =
    let small = fixed_small c.args.inst.now c.args.prices c.fits.ensures c.requires.prices in
    let fixed = subst (λ (z : ℤ). unsigned_abs z < 10 ^ 36) (sym c.in_ok-fixed.ensures) small in
    rw (back_from_abs c.in_ok-fixed.fixed (omega (arith, fixed))) (omega (arith, fixed))

pub returns-clause-kept : goal.returns-clause-kept
returns-clause-kept c =
    let bases = small_bases c.args.inst.now c.args.prices c.in_ok-bases.bases.items c.fits.ensures
    c.in_ok-bases.ensures.value c.in_ok-bases.ensures.small in
    let small = fixed_small c.args.inst.now c.args.prices c.fits.ensures c.requires.prices in
    let fixed = subst (λ (z : ℤ). unsigned_abs z < 10 ^ 36) (sym c.in_ok-fixed.ensures) small in
    let settled = subst (λ (z : ℤ). IsSettled c.args.inst.now c.in_ok-entries.entries.items z c.in_ok-beside.beside)
    (back_from_abs c.in_ok-fixed.fixed (omega (arith, fixed))) c.in_ok-beside.ensures in
    record {
      beside = settled_kept c.args.inst.now c.args.prices c.in_ok-entries.entries.items c.in_ok-fixed.fixed
          c.in_ok-beside.beside c.in_ok-entries.ensures bases c.in_ok-fixed.ensures settled;
      bases = c.in_ok-bases.ensures.value;
    }
