use Rattle.std.proofs.Common.{◌≡◌, ◌∙◌, sym, ap, arith, pos, ◌+ℤ◌, ◌<◌, ◌≤◌, ℕ, ℤ, List, length}
use Rattle.std.proofs.Common.{get_or, take, All, unsigned_abs}
use Rattle.std.proofs.lemmas.List.{take_all}
use Rattle.std.proofs.lemmas.List.Elements.{All-get_or}
use Rattle.fixed_num.specs.Sums.{total}
use Rattle.fixed_num.proofs.Bits.{by_bits}
use Rattle.fixed_num.proofs.SignedLemmas.{back_from_abs}
use Rattle.fixed_num.proofs.SumLemmas.{total-none, total_more, abs-sum}
use Rattle.instance_model.specs.Plans.{IsSmallSum}
use Rattle.scenario_rows.proofs.ListLemmas.{read_at}
use Rattle.scenario_rows.proofs.sum_row.total_of.Goals as goal

-- the number that was read is the one at this place
read_is : (xs : List ℤ) (i : ℕ) (x v w : ℤ) → i < length xs → All IsSmallSum xs → x ≡ get_or xs i x → v ≡ x
    → w ≡ by_bits v → (w ≡ get_or xs i (pos 0)) × (unsigned_abs w ≤ 102_400_000_000_000_000_000_000)
read_is xs i x v w h all ex ev ew =
    let at = read_at xs i x (pos 0) h ex in
    let small = All-get_or IsSmallSum xs i (pos 0) h all in
    let size : unsigned_abs v ≤ 102_400_000_000_000_000_000_000 = rw (ev ∙ at) small.small in
    let e : w ≡ get_or xs i (pos 0) = ew ∙ back_from_abs v (omega (arith, size)) ∙ ev ∙ at in
    (e, rw e small.small)

pub loop-sum-init : goal.loop-sum-init
loop-sum-init g c =
    record {
      value = c.zero-total.ensures ∙ sym total-none;
      small = rw c.zero-total.ensures (omega arith);
      forward = omega arith;
    }

pub plus-total-requires : goal.plus-total-requires
plus-total-requires g c =
    let r = read_is c.args.sums.now c.loop-sum.sum-index c.sum-item.result c.value.result c.of.result (omega arith)
    c.requires.small c.sum-item.is c.value.ensures.value c.of.ensures in
    omega (arith, r.1, abs-sum c.loop-sum.total c.of.result, c.loop-sum.invariant.small, c.requires.few)

pub loop-sum-preserved : goal.loop-sum-preserved
loop-sum-preserved g c =
    let r = read_is c.args.sums.now c.loop-sum.sum-index c.sum-item.result c.value.result c.of.result (omega arith)
    c.requires.small c.sum-item.is c.value.ensures.value c.of.ensures in
    record {
      value = c.plus-total.ensures ∙ ap (λ (x : ℤ). x +ℤ c.of.result) c.loop-sum.invariant.value
          ∙ ap (λ (x : ℤ). total (take c.loop-sum.sum-index c.args.sums.now) +ℤ x) r.0
          ∙ sym (total_more c.args.sums.now c.loop-sum.sum-index (pos 0) (omega arith));
      small =
          rw c.plus-total.ensures
          (omega (arith, r.1, abs-sum c.loop-sum.total c.of.result, c.loop-sum.invariant.small));
      forward = omega (arith, c.loop-sum.invariant.forward, c.value.ensures.cost);
    }

pub returns-clause-total : goal.returns-clause-total
returns-clause-total g c = c.loop-sum.invariant.value ∙ ap total (take_all c.loop-sum.sum-index c.args.sums.now (omega
    arith))
