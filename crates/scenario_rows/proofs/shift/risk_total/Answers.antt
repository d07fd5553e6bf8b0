use Rattle.std.proofs.Common.{◌≡◌, ◌∙◌, sym, ap, arith, pos, ◌+ℤ◌, ◌<◌, ◌≤◌, ◌^◌, ℤ, take, unsigned_abs}
use Rattle.std.proofs.lemmas.List.{take_all}
use Rattle.fixed_num.specs.Sums.{total}
use Rattle.fixed_num.proofs.Bits.{by_bits}
use Rattle.fixed_num.proofs.SignedLemmas.{back_from_abs}
use Rattle.fixed_num.proofs.SumLemmas.{total-none, total_more, abs-sum}
use Rattle.instance_model.specs.RiskNumbers.{numbers_of}
use Rattle.scenario_rows.proofs.shift.risk_total.Goals as goal

-- the amount of a risk is the risk
risk_is : (x v w : ℤ) → v ≡ x → unsigned_abs v < 10 ^ 20 → w ≡ by_bits v
    → (w ≡ x) × (unsigned_abs w ≤ 100_000_000_000_000_000_000)
risk_is x v w ev small ew =
    let back = ew ∙ back_from_abs v (omega (arith, small)) in (back ∙ ev, rw back (omega (arith, small)))

pub loop-k-init : goal.loop-k-init
loop-k-init c =
    record { value = c.zero-total.ensures ∙ sym total-none; small = rw c.zero-total.ensures (omega arith) }

pub plus-total-requires : goal.plus-total-requires
plus-total-requires c =
    let r = risk_is c.at.result c.count.result c.of.result c.count.ensures.value c.count.ensures.small c.of.ensures in
    omega (arith, r.1, abs-sum c.loop-k.total c.of.result, c.loop-k.invariant.small, c.requires)

pub loop-k-preserved : goal.loop-k-preserved
loop-k-preserved c =
    let r = risk_is c.at.result c.count.result c.of.result c.count.ensures.value c.count.ensures.small c.of.ensures in
    record {
      value = c.plus-total.ensures ∙ ap (λ (x : ℤ). x +ℤ c.of.result) c.loop-k.invariant.value
          ∙ ap (λ (x : ℤ). total (take c.loop-k.k (numbers_of c.args.risks)) +ℤ x) (r.0 ∙ c.at.ensures)
          ∙ sym (total_more (numbers_of c.args.risks) c.loop-k.k (pos 0) (omega arith));
      small = rw c.plus-total.ensures
          (omega (arith, r.1, abs-sum c.loop-k.total c.of.result, c.loop-k.invariant.small));
    }

pub returns-clause-value : goal.returns-clause-value
returns-clause-value c =
    c.loop-k.invariant.value ∙ ap total (take_all c.loop-k.k (numbers_of c.args.risks) (omega arith))
