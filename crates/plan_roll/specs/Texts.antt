-- Defines the text of the rolled instance, and what it is read as: the rolled instance, whether the instance was read
-- or made in another way.
use Rattle.std.specs.Prelude.{ℕ, ◌^◌, ◌<◌, ℤ, pos, List, Option, All, unsigned_abs}
use Rattle.instance_model.specs.declared.limits.Limits.{Limits}
use Rattle.instance_model.specs.Tables.{Tables}
use Rattle.instance_shape.specs.Defined.{Defines}
use Rattle.instance_shape.specs.Ranges.{AreStandard}
use Rattle.instance_writer.specs.text.Conditions.{IsWithin, widened}
use Rattle.instance_writer.specs.text.Styles.{decimals}
use Rattle.instance_writer.specs.text.Written.{instance_text}
use Rattle.plan_roll.specs.Rolled.{rolled}

-- the text: counts with 12 decimals, Quantile and Alpha with 6
unfoldable pub rolled_text : Tables → List (Option ℕ) → ℕ → List ℕ
rolled_text inst plan period = instance_text decimals (rolled inst plan period)

-- each band limit is below 10^20 in absolute value, as where the bands aren't widened
pub record HasSmallBands (inst : Tables) : Type 0 where
  pub upper : All (λ z. unsigned_abs z < 10 ^ 20) inst.upper
  pub lower : All (λ z. unsigned_abs z < 10 ^ 20) inst.lower

-- What the text of the rolled instance is read as: under all limits that the instance is within, and with each slack,
-- it is the rolled one of the instance whose bands are widened by that slack.
abbrev pub TextIsRead : Tables → List (Option ℕ) → ℕ → Type 0
TextIsRead inst plan period =
    (limits : Limits) (slack : ℤ) → IsWithin limits inst
    → Defines limits slack (rolled_text inst plan period) (rolled (widened slack inst) plan period)

-- The same of an instance that was read: where bytes define the instance without a slack, the text defines, with each
-- slack, the rolled one of what the bytes define with that slack. The limits are the same.
abbrev pub TextIsReadAgain : Tables → List (Option ℕ) → ℕ → Type 0
TextIsReadAgain inst plan period =
    (limits : Limits) (slack : ℤ) (bytes : List ℕ) (wide : Tables) → AreStandard limits
    → Defines limits (pos 0) bytes inst → Defines limits slack bytes wide
    → Defines limits slack (rolled_text inst plan period) (rolled wide plan period)

-- of every instance
abbrev pub RolledTextIsRead : Type 0
RolledTextIsRead = (inst : Tables) (plan : List (Option ℕ)) (period : ℕ) → TextIsReadAgain inst plan period
