use Rattle.std.proofs.Common.{ap, ℕ, List, ◌+ℤ◌}
use Rattle.std.proofs.Common.{◌∙◌, ◌*◌, ◌<◌, ◌^◌, sym, subst, arith, ℤ, ◌<ℤ◌, ◌≤ℤ◌, unsigned_abs}
use Rattle.fixed_num.proofs.SignedLemmas.{back_from_abs}
use Rattle.lagrange_bound.specs.Goals.{risk_base}
use Rattle.lagrange_bound.specs.Prices.{PriceList}
use Rattle.price_ladder.specs.Kept.{AreSmall, AreValues, rebased_of, gap_of, sum_over}
use Rattle.price_ladder.specs.Beside.{IsBeside}
use Rattle.price_ladder.proofs.KeptLemmas.{entries_small, fixed_small}
use Rattle.price_ladder.proofs.KeptWorthLemmas.{switched, rebased_values, tail_bounded, raised_is, falls_below}
use Rattle.price_ladder.proofs.KeptWorthLemmas.{shifted_small, small_from_all, kept_bases, below_target}
use Rattle.price_ladder.proofs.KeptWorthLemmas.{reaches_target}
use Rattle.price_ladder.proofs.PlainLemmas.{tail_failed}
use Rattle.price_ladder.proofs.kept.try_switch.Goals as goal

pub set_tail-requires-then-kept-gap-clause-tail : goal.set_tail-requires-then-kept-gap-clause-tail
set_tail-requires-then-kept-gap-clause-tail c =
    λ some e. c.requires.prices.tails c.args.t c.requires.from c.requires.to some (sym c.requires.before ∙ e)

pub returns-then-kept-gap-clause-tried : goal.returns-then-kept-gap-clause-tried
returns-then-kept-gap-clause-tried c =
    let r = raised_is c.args.kept.now.beside.worth c.gap_sum-gap.result c.requires.kept.beside.small
    c.gap_sum-gap.ensures.small in
    let h = tail_bounded c.args.inst.now c.args.kept.now.prices c.set_tail.new.self c.args.t c.args.tail
    c.args.kept.now.bases.items c.args.kept.now.beside.choice.items c.args.kept.now.beside.worth c.requires.from
    c.set_tail.ensures.changed c.requires.kept.bases c.requires.kept.beside.starts c.requires.kept.beside.picked in
    let e = r.value ∙ ap (λ (z : ℤ). c.args.kept.now.beside.worth +ℤ z) (c.gap_sum-gap.ensures.value
    ∙ ap (λ (xs : List ℤ). sum_over c.args.inst.now (gap_of c.args.inst.now c.set_tail.new.self c.args.t xs)
    c.as_slice-2.result.now) c.as_slice.ensures.value
    ∙ ap (λ (xs : List ℕ). sum_over c.args.inst.now (gap_of c.args.inst.now c.set_tail.new.self c.args.t
    c.args.kept.now.bases.items) xs) c.as_slice-2.ensures.value) in
    let f = tail_failed c.args.inst.now c.args.kept.now.prices c.set_tail.new.self _ c.args.t c.args.before
    c.args.tail c.args.target c.requires.before c.set_tail.ensures.changed c.set_tail-then-kept-gap.ensures.changed
    (falls_below _ _ _ c.args.target h e
    (below_target _ c.args.target c.ranges.target r.small c.if-kept-gap.true)) in
    f

pub returns-then-kept-gap-clause-kept : goal.returns-then-kept-gap-clause-kept
returns-then-kept-gap-clause-kept c =
    let r = raised_is c.args.kept.now.beside.worth c.gap_sum-gap.result c.requires.kept.beside.small
    c.gap_sum-gap.ensures.small in
    let h = tail_bounded c.args.inst.now c.args.kept.now.prices c.set_tail.new.self c.args.t c.args.tail
    c.args.kept.now.bases.items c.args.kept.now.beside.choice.items c.args.kept.now.beside.worth c.requires.from
    c.set_tail.ensures.changed c.requires.kept.bases c.requires.kept.beside.starts c.requires.kept.beside.picked in
    let e = r.value ∙ ap (λ (z : ℤ). c.args.kept.now.beside.worth +ℤ z) (c.gap_sum-gap.ensures.value
    ∙ ap (λ (xs : List ℤ). sum_over c.args.inst.now (gap_of c.args.inst.now c.set_tail.new.self c.args.t xs)
    c.as_slice-2.result.now) c.as_slice.ensures.value
    ∙ ap (λ (xs : List ℕ). sum_over c.args.inst.now (gap_of c.args.inst.now c.set_tail.new.self c.args.t
    c.args.kept.now.bases.items) xs) c.as_slice-2.ensures.value) in
    let f = tail_failed c.args.inst.now c.args.kept.now.prices c.set_tail.new.self _ c.args.t c.args.before
    c.args.tail c.args.target c.requires.before c.set_tail.ensures.changed c.set_tail-then-kept-gap.ensures.changed
    (falls_below _ _ _ c.args.target h e
    (below_target _ c.args.target c.ranges.target r.small c.if-kept-gap.true)) in
    record {
      beside = subst (λ (p : PriceList). IsBeside c.args.inst.now p c.args.kept.now.beside) (sym f.0)
          c.requires.kept.beside;
      bases = subst (λ (p : PriceList). AreValues c.args.inst.now (risk_base c.args.inst.now p)
          c.args.kept.now.bases.items) (sym f.0) c.requires.kept.bases;
    }

pub all_shifted-requires-clause-before : goal.all_shifted-requires-clause-before
all_shifted-requires-clause-before c = subst (AreSmall c.args.inst.now (10 ^ 30)) (sym c.as_slice-4.ensures.value)
    (kept_bases c.args.inst.now c.args.kept.now.prices c.args.kept.now.bases.items c.requires.kept.bases
    c.requires.kept.beside.bases)

pub all_rebased-requires-clause-bases : goal.all_rebased-requires-clause-bases
all_rebased-requires-clause-bases c = subst (AreSmall c.args.inst.now (10 ^ 30)) (sym c.as_slice-3.ensures.value)
    (kept_bases c.args.inst.now c.args.kept.now.prices c.args.kept.now.bases.items c.requires.kept.bases
    c.requires.kept.beside.bases)

pub all_shifted-requires-clause-entries : goal.all_shifted-requires-clause-entries
all_shifted-requires-clause-entries c =
    subst (AreSmall c.args.inst.now (2 * 10 ^ 33)) (sym c.as_slice-6.ensures.value)
    (entries_small c.args.inst.now c.args.kept.now.prices c.args.kept.now.beside.entries.items c.fits.ensures
    c.requires.prices c.requires.kept.beside.bases c.requires.kept.beside.values)

pub settle-requires-clause-entries : goal.settle-requires-clause-entries
settle-requires-clause-entries c =
    shifted_small c.args.inst.now c.args.kept.now.bases.items c.in_ok-bases.bases.items
    c.args.kept.now.beside.entries.items c.in_ok-entries.entries.items
    (kept_bases c.args.inst.now c.args.kept.now.prices c.args.kept.now.bases.items c.requires.kept.bases
    c.requires.kept.beside.bases)
    (small_from_all c.args.inst.now (10 ^ 30) c.in_ok-bases.bases.items c.fits.ensures
    c.in_ok-bases.ensures.value.each c.in_ok-bases.ensures.small)
    (entries_small c.args.inst.now c.args.kept.now.prices c.args.kept.now.beside.entries.items c.fits.ensures
    c.requires.prices c.requires.kept.beside.bases c.requires.kept.beside.values)
    (rw (c.as_slice-4.ensures.value, c.as_slice-5.ensures.value, c.as_slice-6.ensures.value)
    at c.in_ok-entries.ensures)

pub settle-requires-clause-fixed : goal.settle-requires-clause-fixed
settle-requires-clause-fixed c =
    let fixed = subst (λ (z : ℤ). unsigned_abs z < 10 ^ 36) (sym c.requires.kept.beside.part)
    (fixed_small c.args.inst.now c.args.kept.now.prices c.fits.ensures c.requires.prices) in
    let e = back_from_abs c.args.kept.now.beside.fixed (omega (arith, fixed)) in
    rw e (omega (arith, fixed))

pub set_tail-requires-then-beside-target-clause-tail : goal.set_tail-requires-then-beside-target-clause-tail
set_tail-requires-then-beside-target-clause-tail c =
    λ some e. c.requires.prices.tails c.args.t c.requires.from c.requires.to some (sym c.requires.before ∙ e)

pub returns-then-beside-target-clause-tried : goal.returns-then-beside-target-clause-tried
returns-then-beside-target-clause-tried c =
    let fixed = subst (λ (z : ℤ). unsigned_abs z < 10 ^ 36) (sym c.requires.kept.beside.part)
    (fixed_small c.args.inst.now c.args.kept.now.prices c.fits.ensures c.requires.prices) in
    let e = back_from_abs c.args.kept.now.beside.fixed (omega (arith, fixed)) in
    let v = rebased_values c.args.inst.now c.args.kept.now.prices c.set_tail.new.self c.args.t c.args.tail
    c.args.kept.now.bases.items c.in_ok-bases.bases.items c.requires.from c.set_tail.ensures.changed
    c.requires.kept.bases (subst (λ (xs : List ℤ). AreValues c.args.inst.now (rebased_of c.args.inst.now
    c.set_tail.new.self c.args.t xs) c.in_ok-bases.bases.items) c.as_slice-3.ensures.value
    c.in_ok-bases.ensures.value) in
    let b = switched c.args.inst.now c.args.kept.now.prices c.set_tail.new.self c.args.t c.args.tail
    c.args.kept.now.bases.items c.in_ok-bases.bases.items c.args.kept.now.beside.entries.items
    c.in_ok-entries.entries.items _ c.in_ok-beside.beside c.fits.ensures c.set_tail.ensures.changed
    c.requires.kept.beside.values c.requires.kept.bases v c.in_ok-bases.ensures.small
    (rw (c.as_slice-4.ensures.value, c.as_slice-5.ensures.value, c.as_slice-6.ensures.value)
    at c.in_ok-entries.ensures) (e ∙ c.requires.kept.beside.part) c.in_ok-beside.ensures in
    let f = tail_failed c.args.inst.now c.args.kept.now.prices c.set_tail.new.self _ c.args.t c.args.before
    c.args.tail c.args.target c.requires.before c.set_tail.ensures.changed
    c.set_tail-then-beside-target.ensures.changed
    (subst (λ (z : ℤ). z <ℤ c.args.target) b.total
    (below_target c.in_ok-beside.beside.worth c.args.target c.ranges.target
    (omega (arith, c.in_ok-beside.ensures.small)) c.if-beside-target.true)) in
    f

pub returns-then-beside-target-clause-kept : goal.returns-then-beside-target-clause-kept
returns-then-beside-target-clause-kept c =
    let fixed = subst (λ (z : ℤ). unsigned_abs z < 10 ^ 36) (sym c.requires.kept.beside.part)
    (fixed_small c.args.inst.now c.args.kept.now.prices c.fits.ensures c.requires.prices) in
    let e = back_from_abs c.args.kept.now.beside.fixed (omega (arith, fixed)) in
    let v = rebased_values c.args.inst.now c.args.kept.now.prices c.set_tail.new.self c.args.t c.args.tail
    c.args.kept.now.bases.items c.in_ok-bases.bases.items c.requires.from c.set_tail.ensures.changed
    c.requires.kept.bases (subst (λ (xs : List ℤ). AreValues c.args.inst.now (rebased_of c.args.inst.now
    c.set_tail.new.self c.args.t xs) c.in_ok-bases.bases.items) c.as_slice-3.ensures.value
    c.in_ok-bases.ensures.value) in
    let b = switched c.args.inst.now c.args.kept.now.prices c.set_tail.new.self c.args.t c.args.tail
    c.args.kept.now.bases.items c.in_ok-bases.bases.items c.args.kept.now.beside.entries.items
    c.in_ok-entries.entries.items _ c.in_ok-beside.beside c.fits.ensures c.set_tail.ensures.changed
    c.requires.kept.beside.values c.requires.kept.bases v c.in_ok-bases.ensures.small
    (rw (c.as_slice-4.ensures.value, c.as_slice-5.ensures.value, c.as_slice-6.ensures.value)
    at c.in_ok-entries.ensures) (e ∙ c.requires.kept.beside.part) c.in_ok-beside.ensures in
    let f = tail_failed c.args.inst.now c.args.kept.now.prices c.set_tail.new.self _ c.args.t c.args.before
    c.args.tail c.args.target c.requires.before c.set_tail.ensures.changed
    c.set_tail-then-beside-target.ensures.changed
    (subst (λ (z : ℤ). z <ℤ c.args.target) b.total
    (below_target c.in_ok-beside.beside.worth c.args.target c.ranges.target
    (omega (arith, c.in_ok-beside.ensures.small)) c.if-beside-target.true)) in
    record {
      beside = subst (λ (p : PriceList). IsBeside c.args.inst.now p c.args.kept.now.beside) (sym f.0)
          c.requires.kept.beside;
      bases = subst (λ (p : PriceList). AreValues c.args.inst.now (risk_base c.args.inst.now p)
          c.args.kept.now.bases.items) (sym f.0) c.requires.kept.bases;
    }

pub returns-clause-tried : goal.returns-clause-tried
returns-clause-tried c =
    let fixed = subst (λ (z : ℤ). unsigned_abs z < 10 ^ 36) (sym c.requires.kept.beside.part)
    (fixed_small c.args.inst.now c.args.kept.now.prices c.fits.ensures c.requires.prices) in
    let e = back_from_abs c.args.kept.now.beside.fixed (omega (arith, fixed)) in
    let v = rebased_values c.args.inst.now c.args.kept.now.prices c.set_tail.new.self c.args.t c.args.tail
    c.args.kept.now.bases.items c.in_ok-bases.bases.items c.requires.from c.set_tail.ensures.changed
    c.requires.kept.bases (subst (λ (xs : List ℤ). AreValues c.args.inst.now (rebased_of c.args.inst.now
    c.set_tail.new.self c.args.t xs) c.in_ok-bases.bases.items) c.as_slice-3.ensures.value
    c.in_ok-bases.ensures.value) in
    let b = switched c.args.inst.now c.args.kept.now.prices c.set_tail.new.self c.args.t c.args.tail
    c.args.kept.now.bases.items c.in_ok-bases.bases.items c.args.kept.now.beside.entries.items
    c.in_ok-entries.entries.items _ c.in_ok-beside.beside c.fits.ensures c.set_tail.ensures.changed
    c.requires.kept.beside.values c.requires.kept.bases v c.in_ok-bases.ensures.small
    (rw (c.as_slice-4.ensures.value, c.as_slice-5.ensures.value, c.as_slice-6.ensures.value)
    at c.in_ok-entries.ensures) (e ∙ c.requires.kept.beside.part) c.in_ok-beside.ensures in
    record {
      step = c.set_tail.ensures.changed;
      in_range = c.set_tail.ensures.in_range;
      reached = subst (λ (z : ℤ). c.args.target ≤ℤ z) b.total
          (reaches_target c.in_ok-beside.beside.worth c.args.target c.ranges.target
          (omega (arith, c.in_ok-beside.ensures.small)) c.if-beside-target.false);
    }

pub returns-clause-kept : goal.returns-clause-kept
returns-clause-kept c =
    let fixed = subst (λ (z : ℤ). unsigned_abs z < 10 ^ 36) (sym c.requires.kept.beside.part)
    (fixed_small c.args.inst.now c.args.kept.now.prices c.fits.ensures c.requires.prices) in
    let e = back_from_abs c.args.kept.now.beside.fixed (omega (arith, fixed)) in
    let v = rebased_values c.args.inst.now c.args.kept.now.prices c.set_tail.new.self c.args.t c.args.tail
    c.args.kept.now.bases.items c.in_ok-bases.bases.items c.requires.from c.set_tail.ensures.changed
    c.requires.kept.bases (subst (λ (xs : List ℤ). AreValues c.args.inst.now (rebased_of c.args.inst.now
    c.set_tail.new.self c.args.t xs) c.in_ok-bases.bases.items) c.as_slice-3.ensures.value
    c.in_ok-bases.ensures.value) in
    let b = switched c.args.inst.now c.args.kept.now.prices c.set_tail.new.self c.args.t c.args.tail
    c.args.kept.now.bases.items c.in_ok-bases.bases.items c.args.kept.now.beside.entries.items
    c.in_ok-entries.entries.items _ c.in_ok-beside.beside c.fits.ensures c.set_tail.ensures.changed
    c.requires.kept.beside.values c.requires.kept.bases v c.in_ok-bases.ensures.small
    (rw (c.as_slice-4.ensures.value, c.as_slice-5.ensures.value, c.as_slice-6.ensures.value)
    at c.in_ok-entries.ensures) (e ∙ c.requires.kept.beside.part) c.in_ok-beside.ensures in
    record { beside = b; bases = v }
