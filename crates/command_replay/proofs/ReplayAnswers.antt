-- The bytes of the files of a replay have one answer.
use Rattle.std.proofs.Common.{◌≡◌, ℕ, List, ◌++◌, length, Option, refl, sym, ◌∙◌, ap, subst, arith}
use Rattle.plan_moves.specs.declared.script_line.ScriptLine.{ScriptLine}
use Rattle.plan_moves.specs.Scripts.{Succeeds, FailsAt}
use Rattle.move_script.specs.Replays.{replay_text, FailsByStart, FailsByUndo}
use Rattle.instance_model.specs.declared.limits.Limits.{Limits}
use Rattle.instance_model.specs.Tables.{Tables}
use Rattle.instance_model.specs.Rules.{first_start_rule}
use Rattle.command_frame.specs.Lines.{end_line, not_allowed_line, nothing_to_undo_line}
use Rattle.command_frame.specs.Reports.{infeasible_report}
use Rattle.command_frame.specs.Ending.{reply, IsOneAnswer}
use Rattle.command_frame.specs.Files.{by_bytes, OnPlan, OnScript}
use Rattle.command_frame.specs.Openings.{IsOpeningOf}
use Rattle.command_replay.specs.Replaying.{Replays, AnswersReplay}
use Rattle.command_replay.specs.Replaying.Replays.{broken_start, ended, not_allowed, nothing_to_undo}
use Rattle.command_frame.proofs.OpeningLemmas.{same_opening, no_broken_start}
use Rattle.command_frame.proofs.AnswerLemmas.{one_rule, instance_once, plan_once, script_once}

-- ---- one answer for what was read

pub no_failure : (inst : Tables) (opening : List ℕ) (script : List ScriptLine) (n : ℕ) → Succeeds inst opening script
    → FailsAt inst opening script n → ⊥
no_failure inst opening script n done fails = omega (arith, done, fails.within, fails.reached)

one_failure : (inst : Tables) (opening : List ℕ) (script : List ScriptLine) (n m : ℕ) → FailsAt inst opening script n
    → FailsAt inst opening script m → n ≡ m
one_failure inst opening script n m a b = sym a.reached ∙ b.reached

not_both_failures : (inst : Tables) (opening : List ℕ) (script : List ScriptLine) (n m : ℕ)
    → FailsByStart inst opening script n → FailsByUndo inst opening script m → ⊥
not_both_failures inst opening script n m a b =
    a.changes (subst (λ (k : ℕ). FailsByUndo inst opening script k)
    (one_failure inst opening script m n b.fails a.fails) b).undoes

-- the same for another opening of the plan
replayed_alike : (inst : Tables) (plan : List (Option ℕ)) (script : List ScriptLine)
    (a b : List ℕ) (line other : List ℕ)
    → IsOpeningOf inst plan a → IsOpeningOf inst plan b → line ≡ other
    → replay_text inst a script ++ line ≡ replay_text inst b script ++ other
replayed_alike inst plan script a b line other x y e =
    ap (λ (o : List ℕ). replay_text inst o script ++ line) (same_opening inst plan a b x y) ∙ ap
    (λ (l : List ℕ). replay_text inst b script ++ l) e

from_other : (inst : Tables) (plan : List (Option ℕ)) (P : List ℕ → Type 0) (a b : List ℕ) → IsOpeningOf inst plan a
    → IsOpeningOf inst plan b → P b → P a
from_other inst plan P a b x y p = subst P (same_opening inst plan b a y x) p

replayed_once : (inst : Tables) (plan : List (Option ℕ)) (script : List ScriptLine)
    → IsOneAnswer (Replays inst plan script)
replayed_once inst plan script c d (broken_start r first) (broken_start q again) =
    ap (λ x. reply 1 (infeasible_report inst x)) (one_rule (first_start_rule inst plan) r q first again)
replayed_once inst plan script c d (broken_start r first) (ended b y done) =
    absurd (no_broken_start inst plan b r y first)
replayed_once inst plan script c d (broken_start r first) (not_allowed b m y fails) =
    absurd (no_broken_start inst plan b r y first)
replayed_once inst plan script c d (broken_start r first) (nothing_to_undo b m y fails) =
    absurd (no_broken_start inst plan b r y first)
replayed_once inst plan script c d (ended a x done) (broken_start q again) =
    absurd (no_broken_start inst plan a q x again)
replayed_once inst plan script c d (ended a x done) (ended b y also) =
    ap (reply 0) (replayed_alike inst plan script a b (end_line (length script)) (end_line (length script)) x y refl)
replayed_once inst plan script c d (ended a x done) (not_allowed b m y fails) =
    absurd (no_failure inst a script m done
    (from_other inst plan (λ o. FailsByStart inst o script m) a b x y fails).fails)
replayed_once inst plan script c d (ended a x done) (nothing_to_undo b m y fails) =
    absurd (no_failure inst a script m done
    (from_other inst plan (λ o. FailsByUndo inst o script m) a b x y fails).fails)
replayed_once inst plan script c d (not_allowed a k x fails) (broken_start q again) =
    absurd (no_broken_start inst plan a q x again)
replayed_once inst plan script c d (not_allowed a k x fails) (ended b y done) =
    absurd (no_failure inst a script k (from_other inst plan (λ o. Succeeds inst o script) a b x y done) fails.fails)
replayed_once inst plan script c d (not_allowed a k x fails) (not_allowed b m y also) =
    ap (reply 6) (replayed_alike inst plan script a b (not_allowed_line k) (not_allowed_line m) x y
    (ap not_allowed_line (one_failure inst a script k m fails.fails
    (from_other inst plan (λ o. FailsByStart inst o script m) a b x y also).fails)))
replayed_once inst plan script c d (not_allowed a k x fails) (nothing_to_undo b m y also) =
    absurd (not_both_failures inst a script k m fails
    (from_other inst plan (λ o. FailsByUndo inst o script m) a b x y also))
replayed_once inst plan script c d (nothing_to_undo a k x fails) (broken_start q again) =
    absurd (no_broken_start inst plan a q x again)
replayed_once inst plan script c d (nothing_to_undo a k x fails) (ended b y done) =
    absurd (no_failure inst a script k (from_other inst plan (λ o. Succeeds inst o script) a b x y done) fails.fails)
replayed_once inst plan script c d (nothing_to_undo a k x fails) (not_allowed b m y also) =
    absurd (not_both_failures inst a script m k
    (from_other inst plan (λ o. FailsByStart inst o script m) a b x y also) fails)
replayed_once inst plan script c d (nothing_to_undo a k x fails) (nothing_to_undo b m y also) =
    ap (reply 6) (replayed_alike inst plan script a b (nothing_to_undo_line k) (nothing_to_undo_line m) x y
    (ap nothing_to_undo_line (one_failure inst a script k m fails.fails
    (from_other inst plan (λ o. FailsByUndo inst o script m) a b x y also).fails)))

-- ---- one answer for the bytes of the files

pub replayed_files_once : (limits : Limits) (slack : ℕ) (instance plan script : List ℕ)
    → IsOneAnswer (AnswersReplay limits by_bytes slack instance plan script)
replayed_files_once limits slack instance plan script =
    instance_once limits slack 2 instance
    (λ inst. OnPlan limits inst by_bytes 3 plan (λ p. OnScript limits inst by_bytes 4 script (Replays inst p)))
    (λ inst. plan_once limits inst 3 plan (λ p. OnScript limits inst by_bytes 4 script (Replays inst p))
    (λ p. script_once limits inst 4 script (Replays inst p) (replayed_once inst p)))
