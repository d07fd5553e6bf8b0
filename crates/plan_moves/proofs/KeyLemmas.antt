-- The key of a board of starts.
use Rattle.std.proofs.Common.{◌≡◌, ℕ, ◌*◌, ◌^◌, ◌<◌, ◌≤◌, arith, ℤ, pos, ◌+ℤ◌, List, Option, length, unsigned_abs}
use Rattle.std.specs.Option.{is_some}
use Rattle.fixed_num.proofs.Bits.{by_bits}
use Rattle.fixed_num.proofs.SignedLemmas.{back_from_abs}
use Rattle.instance_model.specs.Fitting.{IsFitting}
use Rattle.instance_model.specs.Tables.{Tables}
use Rattle.instance_model.specs.Rules.{clash_rule_at}
use Rattle.instance_model.specs.Values.{score_of}
use Rattle.instance_model.specs.Keys.{band_gaps, clash_count, violation_of, key_of}
use Rattle.season_exclusion.proofs.CountLemmas.{count_sum-bits_small}

pub clash_count_small : (inst : Tables) (plan : List (Option ℕ)) → IsFitting inst → clash_count inst plan ≤ 65_536
unfolding clash_count
clash_count_small inst plan f = omega (
  arith,
  count_sum-bits_small (length inst.exclusion_names)
      (λ e. is_some (clash_rule_at inst plan e)),
  f.exclusions.few,
)

-- a violation of its two kinds, as the code hands its numbers on
pub violation_from_parts : (inst : Tables) (plan : List (Option ℕ)) (gaps violation : ℤ) (broken : ℕ)
    → gaps ≡ band_gaps inst plan → broken ≡ clash_count inst plan
    → violation ≡ by_bits gaps +ℤ pos (1_000_000_000_000 * broken) → unsigned_abs gaps < 10 ^ 37
    → violation ≡ violation_of inst plan
unfolding violation_of
violation_from_parts inst plan gaps violation broken g b v near =
    let gaps_back = back_from_abs gaps (omega (arith, near)) in
    rw (v, gaps_back, g, b)

-- a key of a violation and a score, as the code hands them on
pub key_from_parts : (inst : Tables) (plan : List (Option ℕ)) (violation score : ℤ) → violation ≡ violation_of inst plan
    → score ≡ score_of inst plan → unsigned_abs violation < 2 * 10 ^ 37 → unsigned_abs score < 10 ^ 37
    → record { violation = by_bits violation; score = by_bits score } ≡ key_of inst plan
key_from_parts inst plan violation score v s few small =
    let violation_back = back_from_abs violation (omega (arith, few)) in
    let score_back = back_from_abs score (omega (arith, small)) in
    rw (violation_back, score_back, v, s)
