use Rattle.std.proofs.Common.{◌≡◌, ◌<◌, ◌*◌, ◌+ℤ◌, ◌∙◌, ℕ, ℤ, pos, List, refl, ap, arith, length, get_or}
use Rattle.refined_prices.proofs.TablesCapTableLemmas.{IsCapTable-none, IsCapTable-more, sums_small-more, zeros_small}
use Rattle.refined_prices.proofs.tables.cap_table.CapTable.make.Goals as goal

pub loop-i-init : goal.loop-i-init
loop-i-init c =
    let zeros = c.in_ok-taken.ensures.items_if_clones_equal (λ y e. e) in
    let bands : c.resources.result * c.periods.result ≡ length c.args.inst.now.resource_names * c.args.inst.now.periods
    = rw (c.resources.ensures.value, c.periods.ensures.value) refl in
    record {
      taken = IsCapTable-none c.args.inst.now (c.resources.result * c.periods.result) c.in_ok-taken.taken.items zeros
          bands;
      small = λ k. omega (arith, zeros_small (c.resources.result * c.periods.result) k c.in_ok-taken.taken.items zeros);
    }

pub loop-i-preserved : goal.loop-i-preserved
loop-i-preserved c =
    let row = c.as_slice.ensures.value in
    let each = c.add_row.ensures.each in
    let added : (k : ℕ) → k < length c.loop-i.taken.items → get_or c.add_row.new.sums.items k (pos 0)
    ≡ get_or c.loop-i.taken.items k (pos 0) +ℤ get_or c.in_ok-row.row.items k (pos 0) =
    λ k l. c.add_row.ensures.added k l
    ∙ ap (λ (xs : List ℤ). get_or c.loop-i.taken.items k (pos 0) +ℤ get_or xs k (pos 0)) row in
    record {
      taken = IsCapTable-more c.args.inst.now c.loop-i.i c.loop-i.taken.items c.add_row.new.sums.items
          c.in_ok-row.row.items c.loop-i.invariant.taken c.in_ok-row.ensures.taken each added;
      small = sums_small-more c.loop-i.i c.loop-i.taken.items c.add_row.new.sums.items c.in_ok-row.row.items each
          added c.loop-i.invariant.small c.in_ok-row.ensures.small;
    }
