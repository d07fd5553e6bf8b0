use Rattle.std.proofs.Common.{◌∙◌, ◌+◌, ◌*◌, ◌^◌, ◌<◌, ◌≤◌, ◌+ℤ◌, ap, arith, ℤ, List, pos, get_or}
use Rattle.std.proofs.Common.{unsigned_abs}
use Rattle.std.proofs.lemmas.List.{get_or_default}
use Rattle.std.proofs.lemmas.List.Elements.{All-get_or}
use Rattle.fixed_num.proofs.SumLemmas.{abs-sum, list_of-from, get_or-list_of}
use Rattle.instance_model.specs.Tables.{scenarios_of, risk_of}
use Rattle.instance_model.specs.Plans.{IsSmallSum}
use Rattle.instance_model.proofs.FitLemmas.{risk_of_small}
use Rattle.instance_model.proofs.instance.Instance.add_risks.Goals as goal

pub returns-clause-sums : goal.returns-clause-sums
returns-clause-sums g c =
    let n = scenarios_of c.args.self.now c.args.t in
    list_of-from n (λ k. get_or c.args.sums.now k (pos 0) +ℤ risk_of c.args.self.now c.args.i c.args.s c.args.t (k + 1))
    c.loop-k.sums (omega (arith, c.requires.each)) (λ k l.
    c.loop-k.invariant.done k (omega (arith, l, c.risks-risks.ensures.each))
    ∙ ap (λ (x : ℤ). get_or c.args.sums.now k (pos 0) +ℤ x)
    (ap (λ (xs : List ℤ). get_or xs k (pos 0)) c.risks-risks.ensures.value
    ∙ get_or-list_of n (λ k. risk_of c.args.self.now c.args.i c.args.s c.args.t (k + 1)) k l))

pub plus-requires : goal.plus-requires
plus-requires g c =
    let inst = c.args.self.now in
    let k = c.loop-k.k in
    let low : k < scenarios_of inst c.args.t = omega (arith, c.risks-risks.ensures.each) in
    let risk = c.at.ensures ∙ ap (λ (xs : List ℤ). get_or xs k (pos 0)) c.risks-risks.ensures.value
    ∙ get_or-list_of (scenarios_of inst c.args.t) (λ k. risk_of inst c.args.i c.args.s c.args.t (k + 1)) k low in
    let risk_small : unsigned_abs c.at.result < 10 ^ 20 =
    rw risk (risk_of_small inst c.args.i c.args.s c.args.t (k + 1) c.fits.ensures) in
    let sum = c.index-sums-k.is ∙ get_or_default c.loop-k.sums k c.index-sums-k.result (pos 0) (omega arith)
    ∙ c.loop-k.invariant.rest k (omega arith) in
    let sum_small : unsigned_abs c.index-sums-k.result ≤ 1024 * 10 ^ 20 = rw sum
    (All-get_or IsSmallSum c.args.sums.now k (pos 0) (omega (arith, low, c.requires.each)) c.requires.room).small in
    omega (arith, abs-sum c.index-sums-k.result c.at.result, risk_small, sum_small)
