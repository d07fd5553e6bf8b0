use Rattle.std.proofs.Common.{◌-◌, ◌*◌, ap, arith, get_or, length, refl, sym, subst}
use Rattle.std.proofs.Common.{All, List}
use Rattle.refined_prices.specs.declared.offset.Offset.{Offset}
use Rattle.refined_prices.specs.Offsets.{IsOffset}
use Rattle.refined_prices.proofs.TablesReadLemmas.{read_at}
use Rattle.refined_prices.proofs.TablesOffsetRowLemmas.{IsRowSoFar-none, IsRowSoFar-more, IsOffsetRow-from}
use Rattle.refined_prices.proofs.TablesOffsetRowLemmas.{place_in_row}
use Rattle.refined_prices.proofs.TablesOffsetRowLemmas.{own_ok, own_mine, own_in_range}
use Rattle.refined_prices.proofs.tables.offset_rows.offset_row.Goals as goal

pub loop-k-init : goal.loop-k-init
loop-k-init c = IsRowSoFar-none c.args.inst.now c.args.own.now c.args.width c.args.i (c.periods.result * c.args.width)
    c.in_ok-row.row.items (c.in_ok-row.ensures.items_if_clones_equal (λ y e. e)) (rw c.periods.ensures.value refl)

pub write_offset-requires-clause-from : goal.write_offset-requires-clause-from
write_offset-requires-clause-from c =
    (own_ok c.args.inst.now c.args.list.now.tails c.args.list.now.offsets c.args.own.now c.as_slice-offsets.result.now
    c.args.i (length c.as_slice-offsets.result.now - 1 - c.loop-k.k)
    (record { period = 0; intervention = 0; group = 0; value = 0 }) c.requires.list.offsets c.requires.own
    c.as_slice-offsets.ensures (omega arith)).from

pub write_offset-requires-clause-within : goal.write_offset-requires-clause-within
write_offset-requires-clause-within c =
    let each = c.loop-k.invariant.each in
    omega (
      arith,
      each,
      place_in_row c.args.inst.now c.args.list.now.tails c.args.width
          (get_or c.as_slice-offsets.result.now (length c.as_slice-offsets.result.now - 1 - c.loop-k.k)
          (record { period = 0; intervention = 0; group = 0; value = 0 })) c.requires.width
          (own_ok c.args.inst.now c.args.list.now.tails c.args.list.now.offsets c.args.own.now
          c.as_slice-offsets.result.now
          c.args.i (length c.as_slice-offsets.result.now - 1 - c.loop-k.k)
          (record { period = 0; intervention = 0; group = 0; value = 0 }) c.requires.list.offsets c.requires.own
          c.as_slice-offsets.ensures (omega arith)),
    )

pub loop-k-preserved : goal.loop-k-preserved
loop-k-preserved c =
    IsRowSoFar-more c.args.inst.now c.args.list.now.tails c.args.own.now c.args.width c.args.i c.loop-k.k
    (length c.as_slice-offsets.result.now)
    (get_or c.as_slice-offsets.result.now (length c.as_slice-offsets.result.now - 1 - c.loop-k.k)
    (record { period = 0; intervention = 0; group = 0; value = 0 })) c.loop-k.row.items c.write_offset.new.row.items
    c.requires.width
    (subst (λ (ys : List Offset). All (IsOffset c.args.inst.now c.args.list.now.tails) ys) (sym c.requires.own)
    (own_in_range c.args.inst.now c.args.list.now.tails c.args.list.now.offsets c.args.i c.requires.list.offsets))
    (own_mine c.args.list.now.offsets c.args.own.now c.args.i c.requires.own) (ap length c.as_slice-offsets.ensures)
    (omega arith)
    (read_at c.as_slice-offsets.result.now c.args.own.now (length c.as_slice-offsets.result.now - 1 - c.loop-k.k)
    (record { period = 0; intervention = 0; group = 0; value = 0 }) c.as_slice-offsets.ensures (omega arith))
    c.loop-k.invariant c.write_offset.ensures

pub returns : goal.returns
returns c = IsOffsetRow-from c.args.inst.now c.args.list.now.offsets c.args.own.now c.args.width c.args.i c.loop-k.k
    c.loop-k.row.items c.requires.own (omega (arith, ap length c.as_slice-offsets.ensures)) c.loop-k.invariant
