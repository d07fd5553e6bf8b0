-- The exact values of a plan as fractions, and what the printed values hold.
--
-- The file's numbers are kept as counts of 10^-12, and a number that isn't a whole count is rounded. A reading is one
-- choice of numbers that could have led to the kept counts: numbers of which f make one count.
use Rattle.std.specs.Prelude.{◌≡◌, ℕ, ◌+◌, ◌*◌, ◌/◌, ◌<◌, ◌≤◌, ℤ, pos, ◌-ℤ◌, ◌+ℤ◌, ◌*ℤ◌, ◌≤ℤ◌, ◌<ℤ◌, Bool, List, Option}
use Rattle.std.specs.Prelude.{length, unsigned_abs, IsTrue, MatchBool}
use Rattle.fixed_num.specs.Sums.{sum_below}
use Rattle.instance_model.specs.Naturals.{count_product}
use Rattle.instance_model.specs.Tables.{Tables, is_allowed, in_run, scenarios_of, risk_of, soft_of}
use Rattle.instance_model.specs.Plans.{RunsAreAllowed}
use Rattle.instance_model.specs.Values.{risk_total, excess_of, numerator_of, score_of, cost_low_of, cost_high_of}
use Rattle.instance_model.specs.Values.{mean_low_of, mean_high_of, excess_low_of, excess_high_of}

-- the product of the numbers of scenarios of all periods
unfoldable pub scenario_product : Tables → ℕ
scenario_product inst = count_product inst.periods (λ u. scenarios_of inst (u + 1))

-- the sum over the periods of f(t) / n, times the product of all n: a whole number
unfoldable pub sum_of_quotients : Tables → (ℕ → ℤ) → ℤ
sum_of_quotients inst f =
    sum_below inst.periods (λ u. f (u + 1) *ℤ pos (scenario_product inst / scenarios_of inst (u + 1)))

-- the instance with other risk numbers
abbrev pub with_risks : Tables → List ℤ → Tables
with_risks inst numbers = record inst { risks = numbers }

-- a number, of which f make one count, lies at most half a count from the kept count
-- where it may have been rounded, and else is it
abbrev pub RoundsTo : ℕ → Bool → ℤ → ℤ → Type 0
RoundsTo f soft number count =
    MatchBool soft (2 * unsigned_abs (number -ℤ pos f *ℤ count) ≤ f) (number ≡ pos f *ℤ count)

-- numbers, of which f make one count, that round to the risks of the instance
pub record IsReading (inst : Tables) (f : ℕ) (numbers : List ℤ) : Type 0 where
  pub some : 1 ≤ f
  pub each : length numbers ≡ length inst.risks
  pub rounds : (i s t k : ℕ) → i < length inst.names → IsTrue (is_allowed inst i s) → IsTrue (in_run inst i s t) → 1 ≤ k
      → k ≤ scenarios_of inst t →
      RoundsTo f (soft_of inst i s t) (risk_of (with_risks inst numbers) i s t k) (risk_of inst i s t k)

-- the fraction sum / over lies between two whole numbers
pub record Encloses (low high sum : ℤ) (over : ℕ) : Type 0 where
  pub low_below : (low *ℤ pos over) ≤ℤ sum
  pub high_above : sum ≤ℤ (high *ℤ pos over)

-- the printed values enclose the cost, the mean and the excess of a reading, each an exact fraction in counts
pub record EnclosesReading (inst : Tables) (plan : List (Option ℕ)) (f : ℕ) (numbers : List ℤ) : Type 0 where
  pub cost : Encloses (cost_low_of inst plan) (cost_high_of inst plan)
      (sum_of_quotients inst (numerator_of (with_risks inst numbers) plan))
      (inst.periods * 1_000_000 * f * scenario_product inst)
  pub mean : Encloses (mean_low_of inst plan) (mean_high_of inst plan)
      (sum_of_quotients inst (risk_total (with_risks inst numbers) plan)) (inst.periods * f * scenario_product inst)
  pub excess : Encloses (excess_low_of inst plan) (excess_high_of inst plan)
      (sum_of_quotients inst (excess_of (with_risks inst numbers) plan)) (inst.periods * f * scenario_product inst)

-- for each plan of allowed starts, the printed values enclose those of every reading
abbrev pub PrintedValuesEnclose : Tables → Type 0
PrintedValuesEnclose inst = (plan : List (Option ℕ)) (f : ℕ) (numbers : List ℤ) → RunsAreAllowed inst plan
    → IsReading inst f numbers → EnclosesReading inst plan f numbers

-- the kept counts are a reading of themselves
abbrev pub CountsAreAReading : Tables → Type 0
CountsAreAReading inst = IsReading inst 1 inst.risks

-- the exact sum over the periods, of which T * 10^18 make a cost of 1, is at
-- least the score and less than one more a period
pub record IsJustAbove (inst : Tables) (score : ℤ) (sum : ℤ) : Type 0 where
  pub least : (score *ℤ pos (scenario_product inst)) ≤ℤ sum
  pub most : sum <ℤ ((score +ℤ pos inst.periods) *ℤ pos (scenario_product inst))

-- the cost of each plan is at least its score, and less than 10^-18 above it
abbrev pub CostIsJustAboveScore : Tables → Type 0
CostIsJustAboveScore inst =
    (plan : List (Option ℕ)) → IsJustAbove inst (score_of inst plan) (sum_of_quotients inst (numerator_of inst plan))
