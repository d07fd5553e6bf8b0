-- What was read of the files of a replay.
use Rattle.std.proofs.Common.{◌≡◌, ℕ, List, length, Option}
use Rattle.std.specs.Prelude.{All}
use Rattle.plan_desk.specs.Desk.{Shown}
use Rattle.plan_moves.specs.declared.script_line.ScriptLine.{ScriptLine}
use Rattle.plan_moves.specs.Scripts.{NamesKnown}
use Rattle.instance_model.specs.declared.limits.Limits.{Limits}
use Rattle.instance_model.specs.Tables.{Tables}
use Rattle.command_frame.specs.Sources.{Source}
use Rattle.command_frame.specs.Bytes.{Spells, SpellsScript, RefusesScript}
use Rattle.command_frame.specs.Files.{reading, OnPlan, OnScript, ReadsInstance, ReadsPlan, ReadsScript}
use Rattle.command_replay.specs.Replaying.{Replays, AnswersReplay}
use Rattle.command_frame.specs.declared.refusal.Refusal.{Refusal}
use Rattle.command_frame.specs.Refusals.{IsScriptCause, IsDueAs}
use Rattle.command_replay.specs.Opened.{AreRead}
use Rattle.command_frame.proofs.FileLemmas.{on_other, IsRead, read_both, before_reading, reads_before}
use Rattle.command_frame.proofs.ReadLemmas.{script_cause_due, due_within, after_instance, after_plan}

pub replay_refuses_script : (limits : Limits) (source : Source) (name script : List ℕ) (old mid last new : Shown)
    (inst : Tables) (plan : List (Option ℕ)) (r : Refusal)
    → ReadsInstance limits source old inst → IsRead old mid
    → ReadsPlan limits name inst mid plan → IsRead mid last → IsScriptCause limits 4 script inst last new r
    → IsDueAs (AnswersReplay limits (reading old new) source.slack source.instance name script) r
replay_refuses_script limits source name script old mid last new inst plan r reads read reads_plan read_plan cause =
    due_within (OnScript limits inst (reading last new) 4 script (Replays inst plan))
    (AnswersReplay limits (reading old new) source.slack source.instance name script) r
    (λ a due. after_instance limits source old new inst
    (λ i. OnPlan limits i (reading old new) 3 name
    (λ p. OnScript limits i (reading old new) 4 script (Replays i p))) a reads
    (after_plan limits name old mid new inst plan
    (λ p. OnScript limits inst (reading old new) 4 script (Replays inst p)) a read reads_plan
    (on_other (reading last new) (reading old new) 4 script script (RefusesScript limits inst)
    (SpellsScript limits inst) (Replays inst plan) (Replays inst plan) a
    (before_reading script old last new (read_both old mid last read read_plan)) (λ x b n. n) due)))
    (script_cause_due limits 4 script inst last new (Replays inst plan) r cause)

pub replay_reads : (limits : Limits) (source : Source) (name script_name : List ℕ) (old mid last : Shown)
    (inst : Tables) (plan : List (Option ℕ)) (script : List ScriptLine)
    → ReadsInstance limits source old inst → IsRead old mid
    → ReadsPlan limits name inst mid plan → IsRead mid last
    → ReadsScript limits script_name inst last script → length plan ≡ length inst.names
    → All (NamesKnown inst) script
    → AreRead limits source name script_name old inst plan script
replay_reads limits source name script_name old mid last inst plan script reads read reads_plan read_plan
    reads_script each known =
    record {
      reads = reads;
      reads_plan = reads_before name old mid (λ bytes. Spells limits inst bytes plan) read reads_plan;
      reads_script = reads_before script_name old last (λ bytes. SpellsScript limits inst bytes script)
          (read_both old mid last read read_plan) reads_script;
      each = each;
      known = known;
    }
