-- What a run gives where nothing is wrong: which statuses, and the command's own answer to what its files stand for.
--
-- Of each file that the command reads it is told that it holds bytes, within the limit of such files, which are read:
-- as an instance, or as a plan, a script or a certificate of that instance. And no fault rose. So the words, the texts
-- and the desk leave nothing to refuse, and the status is one of the command's own, or 11. `old` and `new` are what the
-- desk shows before and after a run.
use Rattle.std.specs.Prelude.{ℕ, List, [], ◌∷◌, Option}
use Rattle.plan_desk.specs.Desk.{Shown}
use Rattle.instance_model.specs.declared.limits.Limits.{Limits}
use Rattle.instance_model.specs.Tables.{Tables}
use Rattle.certificate_tree.specs.declared.certificate.Certificate.{Certificate}
use Rattle.instance_gen.specs.Drawn.{drawn_tables}
use Rattle.command_frame.specs.Sources.{Source}
use Rattle.command_frame.specs.Files.{TellsInstance, TellsPlan, TellsCertificate}
use Rattle.command_answers.specs.Evaluate.{Judges}
use Rattle.command_replay.specs.Replaying.{ScriptedPlan, TellsScripted, Replays}
use Rattle.command_check.specs.Checking.{CheckedPlan, TellsChecked}
use Rattle.command_answers.specs.Check.{Checks}
use Rattle.branch_search.specs.Turns.{AreEnough}
use Rattle.command_solve.specs.Solving.{SolveFiles, Solves}
use Rattle.command_table.specs.Tabling.{Tabulates}
use Rattle.command_rebound.specs.Rebinding.{Rebinds}
use Rattle.command_roll.specs.Rolling.{RollFiles, source_of, Rolls}
use Rattle.command_rehearse.specs.Rehearsing.{Rehearses}
use Rattle.command_frame.specs.Completing.{Completes}
use Rattle.planner_cli.specs.Words.{evaluate, replay, check, solve, table, rebound, roll, rehearse}
use Rattle.planner_cli.specs.Outcome.{Asks}

-- after a run within these limits in which no fault rose: for each command, which statuses come, 11 aside
pub record IsComplete (limits : Limits) (words : List (List ℕ)) (old new : Shown) (status : ℕ) : Type 0 where
  -- 0: the plan keeps the rules. 1: it breaks one.
  pub evaluates : (source : Source) (name : List ℕ) (inst : Tables) (plan : List (Option ℕ))
      → Asks words (evaluate source name) → TellsInstance limits old source inst
      → TellsPlan limits old name inst plan
      → Completes (0 ∷ 1 ∷ []) (Judges inst plan) old new status
  -- 0: no line of the script fails. 1: a start of the plan isn't allowed. 6: a line fails, as its start isn't allowed
  -- or nothing is left to undo.
  pub replays : (source : Source) (name script_name : List ℕ) (files : ScriptedPlan)
      → Asks words (replay source name script_name) → TellsScripted limits old source name script_name files
      → Completes (0 ∷ 1 ∷ 6 ∷ []) (Replays files.inst files.plan files.script) old new status
  -- 0: the certificate is valid. 1: a plan that is given breaks a rule. 5: a leaf doesn't hold.
  pub checks : (source : Source) (name : Option (List ℕ)) (cert_name : List ℕ) (files : CheckedPlan)
      → Asks words (check source name cert_name) → TellsChecked limits old source name cert_name files
      → Completes (0 ∷ 1 ∷ 5 ∷ []) (Checks files.inst files.plan files.cert) old new status
  -- 0: a plan was found. 9: none was found, and there may be one. 10: there is none.
  pub solves : (source : Source) (files : SolveFiles) (turns : ℕ) (inst : Tables)
      → Asks words (solve source files turns) → TellsInstance limits old source inst
      → Completes (0 ∷ 9 ∷ 10 ∷ []) (Solves limits inst files turns) old new status
  -- with turns for a tree of single plans there is no 9
  pub solves_enough : (source : Source) (files : SolveFiles) (turns : ℕ) (inst : Tables)
      → Asks words (solve source files turns) → TellsInstance limits old source inst → AreEnough inst turns
      → Completes (0 ∷ 10 ∷ []) (Solves limits inst files turns) old new status
  -- 0: all starts of the plan are allowed. 1: one isn't.
  pub tabulates : (source : Source) (name : List ℕ) (from to : ℕ) (inst : Tables) (plan : List (Option ℕ))
      → Asks words (table source name from to) → TellsInstance limits old source inst
      → TellsPlan limits old name inst plan
      → Completes (0 ∷ 1 ∷ []) (Tabulates inst plan from to) old new status
  -- 0: the new certificate is written. 12: its text is too long.
  pub rebounds : (source : Source) (cert_name out : List ℕ) (inst : Tables) (cert : Certificate)
      → Asks words (rebound source cert_name out) → TellsInstance limits old source inst
      → TellsCertificate limits old cert_name inst cert
      → Completes (0 ∷ 12 ∷ []) (Rebinds limits inst out cert) old new status
  -- 0: the rolled instance is written. 1: a start that is kept isn't allowed. 12: its text is too long.
  pub rolls : (files : RollFiles) (period : ℕ) (inst : Tables) (plan : List (Option ℕ))
      → Asks words (roll files period) → TellsInstance limits old (source_of files) inst
      → TellsPlan limits old files.plan inst plan
      → Completes (0 ∷ 1 ∷ 12 ∷ []) (Rolls limits inst plan period files) old new status
  -- 0: the summary is said
  pub rehearses : (seed count : ℕ) → Asks words (rehearse seed count)
      → Completes (0 ∷ []) (Rehearses (drawn_tables seed count)) old new status
