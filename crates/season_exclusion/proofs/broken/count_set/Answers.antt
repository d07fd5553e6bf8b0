use Rattle.std.proofs.Common.{◌≡◌, ◌∙◌, ◌+◌, ℕ, sym, ap, arith, false, get_or, length}
use Rattle.instance_model.specs.Naturals.{count_sum}
use Rattle.instance_model.proofs.EntryLemmas.{count_sum-zero, count_sum_more}
use Rattle.season_exclusion.specs.Broken.{count_set}
use Rattle.season_exclusion.proofs.CountLemmas.{bit, bit_from, bit_small}
use Rattle.season_exclusion.proofs.broken.count_set.Goals as goal

pub loop-flag-init : goal.loop-flag-init
loop-flag-init c = record { value = sym (count_sum-zero _); small = omega arith }

pub loop-flag-preserved : goal.loop-flag-preserved
loop-flag-preserved c =
    let flags = c.args.flags.now in
    let e = c.loop-flag.flag-index in
    let f : ℕ → ℕ = λ k. bit (get_or flags k false) in
    let added : c.from-count.result ≡ bit (get_or flags e false) =
    bit_from c.from-count.result (get_or flags e false) c.from-count.ensures in
    record {
      value = ap (λ (n : ℕ). n + c.from-count.result) c.loop-flag.invariant.value
          ∙ ap (λ (n : ℕ). count_sum e f + n) added ∙ sym (count_sum_more e f);
      small = omega (arith, added, bit_small (get_or flags e false));
    }

pub returns : goal.returns
unfolding count_set
returns c =
    let all : c.loop-flag.flag-index ≡ length c.args.flags.now = omega arith in
    c.loop-flag.invariant.value ∙ ap (λ (n : ℕ). count_sum n (λ k. bit (get_or c.args.flags.now k false))) all
