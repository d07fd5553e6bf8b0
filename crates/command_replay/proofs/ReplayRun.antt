-- What a run of `replay` promises follows from its end.
use Rattle.std.proofs.Common.{◌≡◌, ℕ, ◌⊎◌, inl, inr, List, Option, refl, sym, subst}
use Rattle.std.specs.Prelude.{IsSome}
use Rattle.plan_desk.specs.Desk.{Shown}
use Rattle.plan_desk.specs.Contents.{Says, KeepsFiles}
use Rattle.plan_moves.specs.declared.script_line.ScriptLine.{ScriptLine}
use Rattle.plan_moves.specs.Scripts.{Succeeds, FailsAt}
use Rattle.move_script.specs.Replays.{FailsByStart, FailsByUndo}
use Rattle.instance_model.specs.declared.limits.Limits.{Limits}
use Rattle.instance_model.specs.Tables.{Tables}
use Rattle.instance_model.specs.Rules.{first_start_rule}
use Rattle.command_frame.specs.Sources.{Source}
use Rattle.command_frame.specs.Ending.{Answer, Ends}
use Rattle.command_frame.specs.Bytes.{TakesOne, RefusesInstance, Spells, RefusesPlan, SpellsScript, IsRefusedScript}
use Rattle.command_frame.specs.Bytes.{RefusesScript}
use Rattle.command_frame.specs.Files.{Meeting, reading, by_bytes, OnPlan, OnScript, ReadsInstance, ReadsPlan}
use Rattle.command_frame.specs.Files.{ReadsScript, TellsInstance, TellsPlan}
use Rattle.command_frame.specs.Files.OnFile.{unread, refused, stands}
use Rattle.command_frame.specs.Openings.{IsOpeningOf}
use Rattle.command_replay.specs.Replaying.{Replays, AnswersReplay, DueReplay, ReadsReplay, BehindReplay, ScriptedPlan}
use Rattle.command_replay.specs.Replaying.{TellsScripted, ExpectsReplay, RunsReplay}
use Rattle.command_replay.specs.Replaying.Replays.{broken_start, ended, not_allowed, nothing_to_undo}
use Rattle.command_replay.specs.Replaying.SaysFailure.{not_allowed as by_start, nothing_to_undo as by_undo}
use Rattle.command_replay.specs.Replaying.BehindReplay.{broken_start as behind_broken_start, ended as behind_ended}
use Rattle.command_replay.specs.Replaying.BehindReplay.{refused_instance as behind_refused_instance}
use Rattle.command_replay.specs.Replaying.BehindReplay.{refused_line as behind_refused_line}
use Rattle.command_replay.specs.Replaying.BehindReplay.{refused_plan as behind_refused_plan}
use Rattle.command_replay.specs.Replaying.BehindReplay.{refused_script as behind_refused_script}
use Rattle.command_replay.specs.Replaying.BehindReplay.{unread_instance as behind_unread_instance}
use Rattle.command_replay.specs.Replaying.BehindReplay.{unread_plan as behind_unread_plan}
use Rattle.command_replay.specs.Replaying.BehindReplay.{unread_script as behind_unread_script}
use Rattle.command_replay.specs.Replaying.ExpectsReplay.{no_instance, refused_instance, no_plan, refused_plan}
use Rattle.command_replay.specs.Replaying.ExpectsReplay.{no_script, refused_script, broken_opening, done_script}
use Rattle.command_replay.specs.Replaying.ExpectsReplay.{failing_line}
use Rattle.command_frame.proofs.FileLemmas.{Carries, on_other, later_reading, exact_reading, OrUnread, missing_file}
use Rattle.command_frame.proofs.FileLemmas.{refused_file, told_file, then_next, then_more, say_refusal}
use Rattle.command_frame.proofs.AnswerLemmas.{instance_status, plan_status, same_script, script_sound}
use Rattle.command_frame.proofs.AnswerLemmas.{refused_script_bytes, script_status}
use Rattle.command_frame.proofs.OpeningLemmas.{same_opening, no_broken_start, no_opening}
use Rattle.command_replay.proofs.ReplayAnswers.{no_failure, replayed_files_once}
use Rattle.command_frame.proofs.EndLemmas.{Stays, ends_quiet, ends_behind, ends_allowed, ends_exact}
use Rattle.command_frame.proofs.TakenLemmas.{on_taken, bad_instance, on_spelled, bad_plan}

-- what is answered to a script, and to a plan
abbrev OnReplayed : Limits → Tables → Meeting → List ℕ → List (Option ℕ) → Answer → Type 0
OnReplayed limits inst met script plan = OnScript limits inst met 4 script (Replays inst plan)

abbrev OnPlanned : Limits → Meeting → (plan script : List ℕ) → Tables → Answer → Type 0
OnPlanned limits met plan script inst = OnPlan limits inst met 3 plan (OnReplayed limits inst met script)

replay_other : (limits : Limits) (slack : ℕ) (met other : Meeting) (i p s j q t : List ℕ) (a : Answer)
    → Carries met i other j → Carries met p other q → Carries met s other t
    → AnswersReplay limits met slack i p s a → AnswersReplay limits other slack j q t a
replay_other limits slack met other i p s j q t a ci cp cs =
    on_other met other 2 i j (RefusesInstance limits) (TakesOne limits slack) (OnPlanned limits met p s)
    (OnPlanned limits other q t) a ci
    (λ inst b. on_other met other 3 p q (RefusesPlan limits inst) (Spells limits inst) (OnReplayed limits inst met s)
    (OnReplayed limits inst other t) b cp
    (λ x c. on_other met other 4 s t (RefusesScript limits inst) (SpellsScript limits inst) (Replays inst x)
    (Replays inst x) c cs (λ y d replays. replays)))

pub replay_stays : (limits : Limits) (source : Source) (name script_name : List ℕ) (old mid new : Shown)
    → Stays (λ at. AnswersReplay limits (reading old at) source.slack source.instance name script_name) mid new
replay_stays limits source name script_name old mid new goes a =
    replay_other limits source.slack (reading old mid)
    (reading old new) source.instance name script_name source.instance name script_name a
    (later_reading source.instance old mid new goes) (later_reading name old mid new goes)
    (later_reading script_name old mid new goes)

-- ---- what stands behind the status

-- the files that were read
abbrev files_read : (limits : Limits) (source : Source) (name script_name : List ℕ) (old : Shown) (inst : Tables)
    (plan : List (Option ℕ)) (script : List ScriptLine)
    → ReadsInstance limits source old inst → ReadsPlan limits name inst old plan
    → ReadsScript limits script_name inst old script → ReadsReplay limits source name script_name old
files_read limits source name script_name old inst plan script reads reads_plan reads_script =
    record {
      inst = inst;
      reads = reads;
      plan = plan;
      reads_plan = reads_plan;
      script = script;
      reads_script = reads_script;
    }

replayed_behind : (limits : Limits) (source : Source) (name script_name : List ℕ) (old new : Shown)
    (files : ReadsReplay limits source name script_name old) (a : Answer)
    → Replays files.inst files.plan files.script a → Says a.text old new
    → BehindReplay limits source name script_name old new a.status
replayed_behind limits source name script_name old new files a (broken_start rule first) says =
    behind_broken_start (record { files = files; rule = rule; first = first; says = says })
replayed_behind limits source name script_name old new files a (ended opening opens done) says =
    behind_ended (record { files = files; opening = opening; opens = opens; succeeds = done; says = says })
replayed_behind limits source name script_name old new files a (not_allowed opening n opens fails) says =
    behind_refused_line (record {
      files = files;
      opening = opening;
      opens = opens;
      n = n;
      line = _;
      fails = by_start fails;
      says = says;
    })
replayed_behind limits source name script_name old new files a (nothing_to_undo opening n opens fails) says =
    behind_refused_line (record {
      files = files;
      opening = opening;
      opens = opens;
      n = n;
      line = _;
      fails = by_undo fails;
      says = says;
    })

replay_behind : (limits : Limits) (source : Source) (name script_name : List ℕ) (old new : Shown) (a : Answer)
    → AnswersReplay limits (reading old new) source.slack source.instance name script_name a → Says a.text old new
    → BehindReplay limits source name script_name old new a.status
replay_behind limits source name script_name old new a (unread fails) says =
    behind_unread_instance (record { fails = fails; says = says })
replay_behind limits source name script_name old new a (refused bytes b held is) says =
    subst (λ (n : ℕ). BehindReplay limits source name script_name old new n) (sym (instance_status limits bytes b is))
    (behind_refused_instance (say_refusal source.instance (RefusesInstance limits) old new bytes b held is says))
replay_behind limits source name script_name old new a (stands bytes inst b held takes (unread fails)) says =
    behind_unread_plan inst (record { bytes = bytes; held = held; such = takes })
    (record { fails = fails; says = says })
replay_behind limits source name script_name old new a (stands bytes inst b held takes (refused xs c also is)) says =
    subst (λ (n : ℕ). BehindReplay limits source name script_name old new n) (sym (plan_status limits inst xs c is))
    (behind_refused_plan inst (record { bytes = bytes; held = held; such = takes })
    (say_refusal name (RefusesPlan limits inst) old new xs c also is says))
replay_behind limits source name script_name old new a
    (stands bytes inst b held takes (stands xs plan c also spells (unread fails))) says =
    behind_unread_script inst plan (record { bytes = bytes; held = held; such = takes })
    (record { bytes = xs; held = also; such = spells }) (record { fails = fails; says = says })
replay_behind limits source name script_name old new a
    (stands bytes inst b held takes (stands xs plan c also spells (refused ys d too is))) says =
    subst (λ (n : ℕ). BehindReplay limits source name script_name old new n) (sym (script_status limits inst ys d is))
    (behind_refused_script inst plan (record { bytes = bytes; held = held; such = takes })
    (record { bytes = xs; held = also; such = spells })
    (say_refusal script_name (RefusesScript limits inst) old new ys d too is says))
replay_behind limits source name script_name old new a
    (stands bytes inst b held takes (stands xs plan c also spells (stands ys script d too writes replays))) says =
    replayed_behind limits source name script_name old new
    (files_read limits source name script_name old inst plan script
    (record { bytes = bytes; held = held; such = takes }) (record { bytes = xs; held = also; such = spells })
    (record { bytes = ys; held = too; such = writes })) d replays says

-- ---- which status comes

broken_verdict : (inst : Tables) (plan : List (Option ℕ)) (script : List ScriptLine) (a : Answer)
    → IsSome (first_start_rule inst plan) → Replays inst plan script a → OrUnread 1 a
broken_verdict inst plan script a some (broken_start rule first) = inr refl
broken_verdict inst plan script a some (ended opening opens done) = absurd (no_opening inst plan opening some opens)
broken_verdict inst plan script a some (not_allowed opening n opens fails) =
    absurd (no_opening inst plan opening some opens)
broken_verdict inst plan script a some (nothing_to_undo opening n opens fails) =
    absurd (no_opening inst plan opening some opens)

done_verdict : (inst : Tables) (plan : List (Option ℕ)) (script : List ScriptLine) (a : Answer) (opening : List ℕ)
    → IsOpeningOf inst plan opening → Succeeds inst opening script → Replays inst plan script a → OrUnread 0 a
done_verdict inst plan script a opening opens done (broken_start rule first) =
    absurd (no_broken_start inst plan opening rule opens first)
done_verdict inst plan script a opening opens done (ended other also all) = inr refl
done_verdict inst plan script a opening opens done (not_allowed other n also fails) =
    absurd (no_failure inst opening script n done
    (subst (λ o. FailsByStart inst o script n) (same_opening inst plan other opening also opens) fails).fails)
done_verdict inst plan script a opening opens done (nothing_to_undo other n also fails) =
    absurd (no_failure inst opening script n done
    (subst (λ o. FailsByUndo inst o script n) (same_opening inst plan other opening also opens) fails).fails)

failing_verdict : (inst : Tables) (plan : List (Option ℕ)) (script : List ScriptLine) (a : Answer)
    (opening : List ℕ) (n : ℕ)
    → IsOpeningOf inst plan opening → FailsAt inst opening script n → Replays inst plan script a
    → OrUnread 6 a
failing_verdict inst plan script a opening n opens fails (broken_start rule first) =
    absurd (no_broken_start inst plan opening rule opens first)
failing_verdict inst plan script a opening n opens fails (ended other also done) =
    absurd (no_failure inst opening script n
    (subst (λ o. Succeeds inst o script) (same_opening inst plan other opening also opens) done) fails)
failing_verdict inst plan script a opening n opens fails (not_allowed other m also more) = inr refl
failing_verdict inst plan script a opening n opens fails (nothing_to_undo other m also more) = inr refl

on_planned : (limits : Limits) (source : Source) (name script_name : List ℕ) (old new : Shown) (inst : Tables)
    (plan : List (Option ℕ)) (a : Answer)
    → TellsInstance limits old source inst → TellsPlan limits old name inst plan
    → AnswersReplay limits (reading old new) source.slack source.instance name script_name a
    → (a.status ≡ 7) ⊎ OnReplayed limits inst (reading old new) script_name plan a
on_planned limits source name script_name old new inst plan a tells spells due =
    then_more (OnPlanned limits (reading old new) name script_name inst a)
    (OnReplayed limits inst (reading old new) script_name plan a) a
    (on_spelled limits inst name old new (OnReplayed limits inst (reading old new) script_name) plan a spells)
    (on_taken limits source old new (OnPlanned limits (reading old new) name script_name) inst a tells due)

on_scripted : (limits : Limits) (source : Source) (name script_name : List ℕ) (old new : Shown)
    (files : ScriptedPlan) (a : Answer)
    → TellsScripted limits old source name script_name files
    → AnswersReplay limits (reading old new) source.slack source.instance name script_name a
    → (a.status ≡ 7) ⊎ Replays files.inst files.plan files.script a
on_scripted limits source name script_name old new files a tells due =
    then_more (OnReplayed limits files.inst (reading old new) script_name files.plan a)
    (Replays files.inst files.plan files.script a) a
    (told_file 4 script_name old new (RefusesScript limits files.inst) (SpellsScript limits files.inst)
    (Replays files.inst files.plan) a
    (λ bytes. SpellsScript limits files.inst bytes files.script) files.script tells.script
    (λ bytes b writes is. script_sound limits files.inst bytes files.script writes
    (refused_script_bytes limits files.inst bytes b is))
    (λ bytes other writes also. same_script limits files.inst bytes files.script other writes also))
    (on_planned limits source name script_name old new files.inst files.plan a tells.instance tells.plan due)

replay_expects : (limits : Limits) (source : Source) (name script_name : List ℕ) (old new : Shown) (expected : ℕ)
    → ExpectsReplay limits source name script_name old expected → (a : Answer)
    → AnswersReplay limits (reading old new) source.slack source.instance name script_name a → OrUnread expected a
replay_expects limits source name script_name old new expected (no_instance missing) a due =
    inl (missing_file 2 source.instance old new (RefusesInstance limits) (TakesOne limits source.slack)
    (OnPlanned limits (reading old new) name script_name) a missing due)
replay_expects limits source name script_name old new expected (refused_instance tells) a due =
    bad_instance limits source old new (OnPlanned limits (reading old new) name script_name) a tells due
replay_expects limits source name script_name old new expected (no_plan inst tells missing) a due =
    then_next (OnPlanned limits (reading old new) name script_name inst a) 7 a
    (λ d. inl (missing_file 3 name old new (RefusesPlan limits inst) (Spells limits inst)
    (OnReplayed limits inst (reading old new) script_name) a missing d))
    (on_taken limits source old new (OnPlanned limits (reading old new) name script_name) inst a tells due)
replay_expects limits source name script_name old new expected (refused_plan inst tells bad) a due =
    then_next (OnPlanned limits (reading old new) name script_name inst a) 4 a
    (bad_plan limits inst name old new (OnReplayed limits inst (reading old new) script_name) a bad)
    (on_taken limits source old new (OnPlanned limits (reading old new) name script_name) inst a tells due)
replay_expects limits source name script_name old new expected (no_script inst plan tells spells missing) a due =
    then_next (OnReplayed limits inst (reading old new) script_name plan a) 7 a
    (λ d. inl (missing_file 4 script_name old new (RefusesScript limits inst) (SpellsScript limits inst)
    (Replays inst plan) a missing d))
    (on_planned limits source name script_name old new inst plan a tells spells due)
replay_expects limits source name script_name old new expected (refused_script inst plan tells spells bad) a due =
    then_next (OnReplayed limits inst (reading old new) script_name plan a) 6 a
    (refused_file 4 script_name old new (RefusesScript limits inst) (SpellsScript limits inst) (Replays inst plan) a
    (IsRefusedScript limits inst) 6 bad
    (λ bytes x writes. script_sound limits inst bytes x writes) (script_status limits inst))
    (on_planned limits source name script_name old new inst plan a tells spells due)
replay_expects limits source name script_name old new expected (broken_opening files tells some) a due =
    then_next (Replays files.inst files.plan files.script a) 1 a
    (broken_verdict files.inst files.plan files.script a some)
    (on_scripted limits source name script_name old new files a tells due)
replay_expects limits source name script_name old new expected (done_script files opening tells opens done) a due =
    then_next (Replays files.inst files.plan files.script a) 0 a
    (done_verdict files.inst files.plan files.script a opening opens done)
    (on_scripted limits source name script_name old new files a tells due)
replay_expects limits source name script_name old new expected (failing_line files opening n tells opens fails) a due =
    then_next (Replays files.inst files.plan files.script a) 6 a
    (failing_verdict files.inst files.plan files.script a opening n opens fails)
    (on_scripted limits source name script_name old new files a tells due)

-- ---- a run

pub replay_runs : (limits : Limits) (source : Source) (name script_name : List ℕ) (old new : Shown) (status : ℕ)
    → Ends (DueReplay limits source name script_name old) old new status → KeepsFiles old new
    → RunsReplay limits source name script_name old new status
replay_runs limits source name script_name old new status ends keeps =
    record {
      ends = ends;
      behind = ends_behind (λ at. AnswersReplay limits (reading old at) source.slack source.instance name script_name)
          (BehindReplay limits source name script_name old new) old new status
          (replay_behind limits source name script_name old new) ends;
      allowed = λ expected expects.
          ends_allowed (λ at. AnswersReplay limits (reading old at) source.slack source.instance name script_name) old
          new status expected (replay_expects limits source name script_name old new expected expects) ends;
      exact = λ instance plan script tells tells_plan tells_script calm.
          ends_exact (λ at. AnswersReplay limits (reading old at) source.slack source.instance name script_name)
          (AnswersReplay limits by_bytes source.slack instance plan script) old new status
          (λ a. replay_other limits source.slack
          (reading old new) by_bytes source.instance name script_name instance plan script a
          (exact_reading source.instance instance old new tells calm)
          (exact_reading name plan old new tells_plan calm)
          (exact_reading script_name script old new tells_script calm)) calm ends;
      one = replayed_files_once limits;
      output = keeps;
      quiet = ends_quiet (DueReplay limits source name script_name old) old new status ends;
    }
