-- How a replay ends, and what is then due.
use Rattle.std.proofs.Common.{◌≡◌, ◌≢◌, ℕ, ◌+◌, ◌<◌, ◌≤◌, ◌⊎◌, inl, inr, ⊎_elim, List, [], ◌∷◌, ◌++◌, length, take, map}
use Rattle.std.proofs.Common.{Option, Some, None, refl, sym, ◌∙◌, subst, arith}
use Rattle.std.specs.Prelude.{Result, Ok, Err}
use Rattle.std.proofs.lemmas.Bool.{cases_lt}
use Rattle.plan_desk.specs.Desk.{Shown, ShowsSame, after_say}
use Rattle.plan_desk.specs.Contents.{Says}
use Rattle.plan_desk.specs.Faults.{SayFails}
use Rattle.instance_model.specs.Tables.{Tables}
use Rattle.instance_model.specs.Plans.{AreAllowedStarts}
use Rattle.plan_moves.specs.declared.script_line.ScriptLine.{ScriptLine}
use Rattle.plan_moves.specs.declared.script_line.ScriptLine.TheVariants.{Move, Swap, Undo}
use Rattle.plan_moves.specs.Scripts.{after_line, lists_along, lists_of, Succeeds, FailsAt}
use Rattle.move_script.specs.declared.replay_fault.ReplayFault.{ReplayFault}
use Rattle.move_script.specs.declared.replay_fault.ReplayFault.TheVariants as fault
use Rattle.move_script.specs.Replays.{replay_text, script_line, FailsByStart, FailsByUndo}
use Rattle.command_frame.specs.Lines.{memory_line, end_line, not_allowed_line, nothing_to_undo_line}
use Rattle.command_frame.specs.Ending.{Answer, reply}
use Rattle.command_frame.specs.Files.{reading}
use Rattle.command_frame.specs.Files.OnFile.{stands}
use Rattle.command_frame.specs.Openings.{OpensAs}
use Rattle.command_replay.specs.Replaying.{Replays, AnswersReplay}
use Rattle.command_replay.specs.Replaying.Replays.{broken_start, ended, not_allowed, nothing_to_undo}
use Rattle.instance_model.specs.declared.limits.Limits.{Limits}
use Rattle.command_frame.specs.Reports.{infeasible_report}
use Rattle.command_frame.specs.Sources.{Source}
use Rattle.command_frame.specs.declared.opening.Opening.{Opening}
use Rattle.command_frame.specs.declared.opening.Opening.TheVariants.{Broken}
use Rattle.command_replay.specs.Opened.{AreRead}
use Rattle.command_frame.specs.Refusals.{SaysOrFails, SaysAnswer}
use Rattle.command_frame.proofs.OpeningLemmas.{own_opening, broken_opening}
use Rattle.plan_desk.proofs.Composed.{fails_since}
use Rattle.command_frame.proofs.SayLemmas.{says_before, or_more, some_first}

-- ---- the lists along a script

few_lists : (inst : Tables) (o : Option (List (List ℕ))) (lines : List ScriptLine)
    → length (lists_along inst o lines) ≤ length lines + 1
few_lists inst None lines = omega arith
few_lists inst (Some plans) [] = omega arith
few_lists inst (Some plans) (line ∷ lines) = omega (arith, few_lists inst (after_line inst plans line) lines)

move_or_undo : (line : ScriptLine) → (line ≢ Undo) ⊎ (line ≡ Undo)
move_or_undo (Move i s) = inl (λ e. cc)
move_or_undo (Swap i j) = inl (λ e. cc)
move_or_undo Undo = inr refl

-- a script succeeds or fails at a line
pub completed : (inst : Tables) (opening : List ℕ) (script : List ScriptLine) → AreAllowedStarts inst opening
    → (status : ℕ) × (tail : List ℕ)
    × Replays inst (map Some opening) script (reply status (replay_text inst opening script ++ tail))
completed inst opening script allowed =
    ⊎_elim (λ fails. line (length (lists_of inst opening script))
    (record { within = omega (arith, fails); reached = refl })
    (move_or_undo (script_line script (length (lists_of inst opening script)))))
    (λ all. let done : Succeeds inst opening script = omega (arith, all, few_lists inst (Some (opening ∷ [])) script) in
    (0, end_line (length script), ended opening (own_opening inst opening allowed) done))
    (cases_lt (length (lists_of inst opening script)) (length script + 1))
  where
    line : (n : ℕ) → FailsAt inst opening script n → (script_line script n ≢ Undo) ⊎ (script_line script n ≡ Undo)
        → (status : ℕ) × (tail : List ℕ)
        × Replays inst (map Some opening) script (reply status (replay_text inst opening script ++ tail))
    line n fails (inl changes) = (
      6,
      not_allowed_line n,
      not_allowed opening n (own_opening inst opening allowed) (record { fails = fails; changes = changes }),
    )
    line n fails (inr undoes) = (
      6,
      nothing_to_undo_line n,
      nothing_to_undo opening n (own_opening inst opening allowed) (record { fails = fails; undoes = undoes }),
    )

-- ---- answers that are no failure of the desk

pub ok_not_failed : {T : Type 0} (r : Result T ReplayFault) (x : T) → r ≡ Ok x → r ≢ Err fault.Failed
ok_not_failed r x e f = let h : Ok x ≡ Err fault.Failed = sym e ∙ f in cc

pub start_not_failed : {T : Type 0} (r : Result T ReplayFault) (n : ℕ) → r ≡ Err (fault.NotAllowed n)
    → r ≢ Err fault.Failed
start_not_failed r n e f = let h : Err (fault.NotAllowed n) ≡ Err fault.Failed = sym e ∙ f in cc

pub undo_not_failed : {T : Type 0} (r : Result T ReplayFault) (n : ℕ) → r ≡ Err (fault.NothingToUndo n)
    → r ≢ Err fault.Failed
undo_not_failed r n e f = let h : Err (fault.NothingToUndo n) ≡ Err fault.Failed = sym e ∙ f in cc

pub memory_not_failed : {T : Type 0} (r : Result T ReplayFault) → r ≡ Err fault.Memory → r ≢ Err fault.Failed
memory_not_failed r e f = let h : Err fault.Memory ≡ Err fault.Failed = sym e ∙ f in cc

-- ---- what was said

-- the keys were said, and nothing failed
pub record KeysSaid (text : List ℕ) (old mid : Shown) : Type 0 where
  pub says : Says text old mid
  pub same : mid.faults ≡ old.faults

pub ended_answer : (inst : Tables) (opening : List ℕ) (script : List ScriptLine) (old mid new : Shown) (n status : ℕ)
    → AreAllowedStarts inst opening → KeysSaid (replay_text inst opening script) old mid
    → Succeeds inst opening script → n ≡ length script → SaysOrFails 0 (end_line n) mid new status
    → SaysAnswer (Replays inst (map Some opening) script) old new status
ended_answer inst opening script old mid new n status allowed keys done count says =
    inl (
      0,
      replay_text inst opening script ++ end_line (length script),
      ended opening (own_opening inst opening allowed) done,
      or_more (replay_text inst opening script)
          (end_line (length script)) old mid new 0 status keys.says keys.same
          (subst (λ (m : ℕ). SaysOrFails 0 (end_line m) mid new status) count says),
    )

pub not_allowed_answer : (inst : Tables) (opening : List ℕ) (script : List ScriptLine)
    (old mid new : Shown) (n status : ℕ)
    → AreAllowedStarts inst opening → KeysSaid (replay_text inst opening script) old mid
    → FailsByStart inst opening script n → SaysOrFails 6 (not_allowed_line n) mid new status
    → SaysAnswer (Replays inst (map Some opening) script) old new status
not_allowed_answer inst opening script old mid new n status allowed keys fails says =
    inl (
      6,
      replay_text inst opening script ++ not_allowed_line n,
      not_allowed opening n (own_opening inst opening allowed) fails,
      or_more (replay_text inst opening script)
          (not_allowed_line n) old mid new 6 status keys.says keys.same says,
    )

pub nothing_to_undo_answer : (inst : Tables) (opening : List ℕ) (script : List ScriptLine)
    (old mid new : Shown) (n status : ℕ)
    → AreAllowedStarts inst opening → KeysSaid (replay_text inst opening script) old mid
    → FailsByUndo inst opening script n → SaysOrFails 6 (nothing_to_undo_line n) mid new status
    → SaysAnswer (Replays inst (map Some opening) script) old new status
nothing_to_undo_answer inst opening script old mid new n status allowed keys fails says =
    inl (
      6,
      replay_text inst opening script ++ nothing_to_undo_line n,
      nothing_to_undo opening n (own_opening inst opening allowed) fails,
      or_more (replay_text inst opening script)
          (nothing_to_undo_line n) old mid new 6 status keys.says keys.same says,
    )

-- saying the keys failed
pub failed_answer : (inst : Tables) (opening : List ℕ) (script : List ScriptLine) (old new : Shown)
    → AreAllowedStarts inst opening
    → (n : ℕ) × (n < length (replay_text inst opening script))
    × ShowsSame new (after_say (take n (replay_text inst opening script)) old) → SayFails old new
    → SaysAnswer (Replays inst (map Some opening) script) old new 8
failed_answer inst opening script old new allowed (n, within, shows) fails =
    let due = completed inst opening script allowed in
    inl (
      due.0,
      replay_text inst opening script ++ due.1,
      due.2,
      inr (some_first (replay_text inst opening script) due.1 old new 8
          (record { status_is = refl; part = n; within = within; says = shows.said; fails = fails })),
    )

-- memory ran out before anything was said
pub memory_answer : (Due : Answer → Type 0) (old mid new : Shown) (status : ℕ) → ShowsSame mid old
    → mid.faults ≡ old.faults
    → SaysOrFails 11 memory_line mid new status → SaysAnswer Due old new status
memory_answer Due old mid new status shows same (inl all) =
    inr (inl (record {
      status_is = all.status_is;
      says = says_before old mid new memory_line shows.said all.says;
      same = all.same ∙ same;
    }))
memory_answer Due old mid new status shows same (inr some) =
    inr (inr (record {
      status_is = some.status_is;
      part = some.part;
      within = some.within;
      says = says_before old mid new (take some.part memory_line) shows.said some.says;
      fails = fails_since old mid new same some.fails;
    }))

-- ---- what is due for the files that were read

-- the report on a plan that breaks a rule on starts
pub broken_answer : (inst : Tables) (plan : List (Option ℕ)) (script : List ScriptLine) (old new : Shown)
    (opening : Opening) (report text : List ℕ) (status : ℕ)
    → OpensAs inst plan opening → opening ≡ Broken report → text ≡ report
    → SaysOrFails 1 text old new status → SaysAnswer (Replays inst plan script) old new status
broken_answer inst plan script old new opening report text status opens is same says =
    let first = broken_opening inst plan opening report text opens is same in
    inl (
      1,
      infeasible_report inst first.rule,
      broken_start first.rule first.first,
      subst (λ (t : List ℕ). SaysOrFails 1 t old new status) first.is says,
    )

pub read_answer : (limits : Limits) (source : Source) (name script_name : List ℕ) (old mid new : Shown) (inst : Tables)
    (plan : List (Option ℕ)) (script : List ScriptLine) (status : ℕ)
    → AreRead limits source name script_name old inst plan script
    → SaysAnswer (Replays inst plan script) mid new status → SaysAnswer (AnswersReplay limits (reading old mid)
    source.slack source.instance name script_name) mid new status
read_answer limits source name script_name old mid new inst plan script status read (inl (due, text, is, says)) = inl (
  due,
  text,
  stands read.reads.bytes inst _ read.reads.held read.reads.such
      (stands read.reads_plan.bytes plan _ read.reads_plan.held read.reads_plan.such
      (stands read.reads_script.bytes script _ read.reads_script.held read.reads_script.such is)),
  says,
)
read_answer limits source name script_name old mid new inst plan script status read (inr says) = inr says
