-- The changes of a descent can be written as the lines of a script.
use Rattle.std.proofs.Common.{ℕ, ◌<◌, ◌^◌, arith, List, [], ◌∷◌, length, All, IsTrue}
use Rattle.std.proofs.lemmas.List.Elements.{All-nil, All-cons}
use Rattle.instance_model.specs.Tables.{Tables, is_allowed}
use Rattle.instance_model.specs.Fitting.{IsFitting}
use Rattle.instance_model.proofs.EntryLemmas.{is_allowed_facts}
use Rattle.instance_model.proofs.FitLemmas.{tmax_small}
use Rattle.plan_moves.specs.declared.change.Change.{Change}
use Rattle.plan_moves.specs.declared.change.Change.TheVariants.{Move, Swap}
use Rattle.plan_moves.specs.Changing.{after_change}
use Rattle.plan_moves.specs.Scripts.{NamesKnown, line_of}
use Rattle.move_script.specs.Spelling.{HasSmallStart}
use Rattle.local_search.specs.Descents.{AllLower}

small_start : (inst : Tables) (i s : ℕ) → IsFitting inst → i < length inst.names → IsTrue (is_allowed inst i s)
    → s < 10 ^ 9
small_start inst i s fit number allowed =
    let few = tmax_small inst i fit number in
    let within = is_allowed_facts inst i s allowed in
    omega (arith, fit.few_periods)

pub known_changes : (inst : Tables) (plan : List ℕ) (changes : List Change) → AllLower inst plan changes
    → All (λ change. NamesKnown inst (line_of change)) changes
known_changes inst plan [] lower = All-nil (λ change. NamesKnown inst (line_of change))
known_changes inst plan (Move i s ∷ changes) lower =
    All-cons (λ change. NamesKnown inst (line_of change)) (Move i s) changes lower.0.can.0
    (known_changes inst (after_change (Move i s) plan) changes lower.1)
known_changes inst plan (Swap i j ∷ changes) lower =
    All-cons (λ change. NamesKnown inst (line_of change)) (Swap i j) changes (lower.0.can.0, lower.0.can.1)
    (known_changes inst (after_change (Swap i j) plan) changes lower.1)

pub small_changes : (inst : Tables) (plan : List ℕ) (changes : List Change) → IsFitting inst
    → AllLower inst plan changes → All HasSmallStart changes
small_changes inst plan [] fit lower = All-nil HasSmallStart
small_changes inst plan (Move i s ∷ changes) fit lower =
    All-cons HasSmallStart (Move i s) changes (small_start inst i s fit lower.0.can.0 lower.0.can.1)
    (small_changes inst (after_change (Move i s) plan) changes fit lower.1)
small_changes inst plan (Swap i j ∷ changes) fit lower =
    All-cons HasSmallStart (Swap i j) changes tt
    (small_changes inst (after_change (Swap i j) plan) changes fit lower.1)
