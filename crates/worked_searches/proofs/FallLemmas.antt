-- The changes of a descent, as a script that is replayed: no line fails, and the keys fall.
use Rattle.std.proofs.Common.{◌≡◌, ℕ, ◌+◌, refl, sym, subst, arith, true, List, [], ◌∷◌, ◌++◌, length, map, Option}
use Rattle.std.proofs.Common.{Some}
use Rattle.std.specs.Prelude.{slice_index}
use Rattle.instance_model.specs.declared.key.Key.{Key}
use Rattle.instance_model.specs.Tables.{Tables, is_allowed}
use Rattle.instance_model.specs.Keys.{KeyBelow}
use Rattle.plan_moves.specs.declared.change.Change.{Change}
use Rattle.plan_moves.specs.declared.change.Change.TheVariants.{Move, Swap}
use Rattle.plan_moves.specs.declared.script_line.ScriptLine.{ScriptLine}
use Rattle.plan_moves.specs.Changing.{CanChange, after_change}
use Rattle.plan_moves.specs.KeptPlans.{present, present_key}
use Rattle.plan_moves.specs.Scripts.{after_line, line_of, lists_along}
use Rattle.plan_moves.proofs.TrailLemmas.{present-push}
use Rattle.local_search.specs.Descents.{plan_key, AllLower}
use Rattle.worked_searches.specs.Falling.{StartBelow, AreFalling, DescentsReplayFalling}

-- a change that can be made is a line that doesn't fail
after_line-made : (inst : Tables) (plans : List (List ℕ)) (change : Change) → CanChange inst (present plans) change
    → after_line inst plans (line_of change) ≡ Some (plans ++ after_change change (present plans) ∷ [])
after_line-made inst plans (Move i s) can =
    let e : is_allowed inst i s ≡ true = can.1 in
    rw e refl
after_line-made inst plans (Swap i j) can =
    let e : is_allowed inst i (slice_index (present plans) j) ≡ true = can.2 in
    let f : is_allowed inst j (slice_index (present plans) i) ≡ true = can.3 in
    rw (e, f) refl

module _ (inst : Tables) where
  -- the keys along a script begin with that of the present plan
  start_below : (plans : List (List ℕ)) (lines : List ScriptLine) (key : Key) → KeyBelow (present_key inst plans) key
      → StartBelow key (map (present_key inst) (lists_along inst (Some plans) lines))
  start_below plans [] key below = below
  start_below plans (line ∷ lines) key below = below

  -- the rest of a descent, behind its first change
  rest_lower : (plans : List (List ℕ)) (next : List ℕ) (changes : List Change) → AllLower inst next changes
      → AllLower inst (present (plans ++ next ∷ [])) changes
  rest_lower plans next changes lower =
      subst (λ (p : List ℕ). AllLower inst p changes) (sym (present-push plans next)) lower

  keys_fall : (plans : List (List ℕ)) (changes : List Change) → AllLower inst (present plans) changes
      → AreFalling (map (present_key inst) (lists_along inst (Some plans) (map line_of changes)))
  keys_fall plans [] lower = (tt, tt)
  keys_fall plans (change ∷ changes) lower =
      let next = after_change change (present plans) in
      let pushed : List (List ℕ) = plans ++ next ∷ [] in
      let below : KeyBelow (present_key inst pushed) (present_key inst plans) =
      subst (λ (p : List ℕ). KeyBelow (plan_key inst p) (present_key inst plans)) (sym (present-push plans next))
      lower.0.lower in
      subst (λ (o : Option (List (List ℕ))).
      StartBelow (present_key inst plans) (map (present_key inst) (lists_along inst o (map line_of changes)))
      × AreFalling (map (present_key inst) (lists_along inst o (map line_of changes))))
      (sym (after_line-made inst plans change lower.0.can)) (
        start_below pushed (map line_of changes) (present_key inst plans) below,
        keys_fall pushed changes (rest_lower plans next changes lower.1),
      )

  none_fails : (plans : List (List ℕ)) (changes : List Change) → AllLower inst (present plans) changes
      → length (lists_along inst (Some plans) (map line_of changes)) ≡ length (map line_of changes) + 1
  none_fails plans [] lower = refl
  none_fails plans (change ∷ changes) lower =
      let next = after_change change (present plans) in
      let more : length (lists_along inst (after_line inst plans (line_of change)) (map line_of changes))
      ≡ length (map line_of changes) + 1 =
      subst (λ (o : Option (List (List ℕ))).
      length (lists_along inst o (map line_of changes)) ≡ length (map line_of changes) + 1)
      (sym (after_line-made inst plans change lower.0.can))
      (none_fails (plans ++ next ∷ []) changes (rest_lower plans next changes lower.1)) in
      omega (arith, more)

pub descents_replay_falling : DescentsReplayFalling
descents_replay_falling inst opening changes lower =
    let alone : AllLower inst (present (opening ∷ [])) changes = rest_lower inst [] opening changes lower in
    record {
      succeeds = none_fails inst (opening ∷ []) changes alone;
      falling = keys_fall inst (opening ∷ []) changes alone;
    }
