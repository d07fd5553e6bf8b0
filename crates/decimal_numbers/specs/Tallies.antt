-- What a tally of digits says of their number. Not part of any promise: only private functions cite it.
use Rattle.std.specs.Prelude.{◌≡◌, ℕ, ◌+◌, ◌*◌, ◌^◌, ◌≤◌, ◌<◌}
use Rattle.decimal_numbers.specs.Scaling.{SizeIs}
use Rattle.decimal_numbers.specs.declared.tally.Tail.{Tail}
use Rattle.decimal_numbers.specs.declared.tally.Tail.TheVariants.{Empty, Zero, Low, High}
use Rattle.decimal_numbers.specs.declared.tally.Tally.{Tally}

-- the dropped digits are those of r, and w is the weight of the last kept one: 1 where none is dropped, else 10 * t
abbrev pub TailIs : Tail → ℕ → ℕ → Type 0
TailIs Empty w r = (w ≡ 1) × (r ≡ 0)
TailIs Zero w r = (t : ℕ) × (w ≡ 10 * t) × (r ≡ 0)
TailIs Low w r = (t : ℕ) × (w ≡ 10 * t) × (0 < r) × (r < 5 * t)
TailIs High w r = (t : ℕ) × (w ≡ 10 * t) × (5 * t ≤ r) × (r < w)

-- of the first digits, which are so many and write n, so many are kept and the others dropped
pub record IsTally (tally : Tally) (keep n count : ℕ) : Type 0 where
  pub c : ℕ
  pub r : ℕ
  pub dropped : ℕ
  pub splits : n ≡ c * 10 ^ dropped + r
  pub tail : TailIs tally.tail (10 ^ dropped) r
  pub kept : SizeIs tally.kept c
  pub places : count + tally.left ≡ keep + dropped
  pub order : 0 < tally.left → dropped ≡ 0
