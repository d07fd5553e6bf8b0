-- The changes of a descent can be written as lines of a script.
use Rattle.std.proofs.Common.{ℕ, arith, List, [], ◌∷◌}
use Rattle.std.specs.List.{All}
use Rattle.std.proofs.lemmas.List.Elements.{All-nil, All-cons}
use Rattle.instance_model.specs.Tables.{Tables}
use Rattle.instance_model.specs.Fitting.{IsFitting}
use Rattle.instance_model.proofs.EntryLemmas.{is_allowed_facts}
use Rattle.plan_moves.specs.declared.change.Change.{Change}
use Rattle.plan_moves.specs.declared.change.Change.TheVariants.{Move, Swap}
use Rattle.plan_moves.specs.Changing.{CanChange, after_change}
use Rattle.plan_moves.specs.Scripts.{NamesKnown, line_of}
use Rattle.move_script.specs.Spelling.{HasSmallStart}
use Rattle.local_search.specs.Descents.{AllLower}

-- the interventions of the change are known
abbrev Known : Tables → Change → Type 0
Known inst change = NamesKnown inst (line_of change)

known_if_made : (inst : Tables) (plan : List ℕ) (change : Change) → CanChange inst plan change → Known inst change
known_if_made inst plan (Move i s) can = can.0
known_if_made inst plan (Swap i j) can = (can.0, can.1)

small_if_made : (inst : Tables) (plan : List ℕ) (change : Change) → IsFitting inst → CanChange inst plan change
    → HasSmallStart change
small_if_made inst plan (Move i s) fits can = omega (arith, fits.few_periods, is_allowed_facts inst i s can.1)
small_if_made inst plan (Swap i j) fits can = tt

pub all_known : (inst : Tables) (plan : List ℕ) (changes : List Change) → AllLower inst plan changes
    → All (λ change. NamesKnown inst (line_of change)) changes
all_known inst plan [] lower = All-nil (Known inst)
all_known inst plan (change ∷ changes) lower =
    All-cons (Known inst) change changes (known_if_made inst plan change lower.0.can)
    (all_known inst (after_change change plan) changes lower.1)

pub all_small : (inst : Tables) (plan : List ℕ) (changes : List Change) → IsFitting inst
    → AllLower inst plan changes → All HasSmallStart changes
all_small inst plan [] fits lower = All-nil HasSmallStart
all_small inst plan (change ∷ changes) fits lower =
    All-cons HasSmallStart change changes (small_if_made inst plan change fits lower.0.can)
    (all_small inst (after_change change plan) changes fits lower.1)
