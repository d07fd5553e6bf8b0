-- What a run of `roll` promises follows from its end.
use Rattle.std.proofs.Common.{◌≡◌, ◌⊎◌, inl, inr, ℕ, ◌<◌, ◌≤◌, refl, sym, subst, arith, List, []}
use Rattle.std.proofs.Common.{length, Option, pos}
use Rattle.plan_desk.specs.Desk.{Shown, TellsNames}
use Rattle.plan_desk.specs.Contents.{Says, OnlyReads, KeepsFiles}
use Rattle.plan_desk.specs.FileWrites.{after_writes}
use Rattle.fixed_num.proofs.SignedLemmas.{signed_arith}
use Rattle.instance_model.specs.declared.limits.Limits.{Limits}
use Rattle.instance_model.specs.Tables.{Tables}
use Rattle.instance_shape.specs.Ranges.{AreStandard, IsSlack}
use Rattle.instance_shape.proofs.Fits.{defined_fits}
use Rattle.plan_roll.specs.Begun.{KeptAreAllowed}
use Rattle.plan_roll.specs.Laws.{PlansRoll}
use Rattle.plan_roll.specs.Texts.{rolled_text, RolledTextIsRead}
use Rattle.command_frame.specs.Ending.{Answer, files_of, Ends}
use Rattle.command_frame.specs.Ending.OrMemory.{answers, no_memory}
use Rattle.command_frame.specs.Bytes.{Takes, TakesOne, RefusesInstance, Spells, RefusesPlan}
use Rattle.command_frame.specs.Bytes.RefusesInstance.{long_instance, faulty_instance}
use Rattle.command_frame.specs.Bytes.RefusesPlan.{long_plan, faulty_plan}
use Rattle.command_frame.specs.Files.{Meeting, reading, by_bytes, OnPlan, ReadsInstance, ReadsPlan}
use Rattle.command_frame.specs.Files.OnFile.{unread, refused, stands}
use Rattle.command_frame.specs.declared.refusal.Refusal.{Refusal}
use Rattle.command_frame.specs.Refusals.{CountsRefusal, IsDueAs, SaysRefused}
use Rattle.command_frame.specs.Writing.{TellsAnswer}
use Rattle.command_frame.proofs.FileLemmas.{Carries, on_other, later_reading, exact_reading, OrUnread, missing_file}
use Rattle.command_frame.proofs.FileLemmas.{then_next, then_more, say_refusal}
use Rattle.command_frame.proofs.AnswerLemmas.{instance_status, plan_status}
use Rattle.command_frame.proofs.TakenLemmas.{on_taken, bad_instance, on_spelled, bad_plan}
use Rattle.command_frame.proofs.EndLemmas.{Stays, refusal_ends, ends_quiet, ends_allowed, ends_exact}
use Rattle.command_frame.proofs.WriteLemmas.{told_ends, wrote_behind}
use Rattle.command_frame.specs.Outputs.{Opens}
use Rattle.command_frame.proofs.OutputLemmas.{WritesOnly, writes_none, writes_one, others_kept, unopened_kept, one_held}
use Rattle.command_roll.specs.Rolling.{RollFiles, source_of, out_write, Rolls, AnswersRoll, DueRoll, IsReadAsRolled}
use Rattle.command_roll.specs.Rolling.{BehindRoll, ExpectsRoll, RunsRoll}
use Rattle.command_roll.specs.Rolling.Rolls.{broken, too_long, written}
use Rattle.command_roll.specs.Rolling.BehindRoll.{written as behind_written, broken as behind_broken}
use Rattle.command_roll.specs.Rolling.BehindRoll.{too_long as behind_too_long}
use Rattle.command_roll.specs.Rolling.BehindRoll.{refused_instance as behind_refused_instance}
use Rattle.command_roll.specs.Rolling.BehindRoll.{refused_plan as behind_refused_plan}
use Rattle.command_roll.specs.Rolling.BehindRoll.{unread_instance as behind_unread_instance}
use Rattle.command_roll.specs.Rolling.BehindRoll.{unread_plan as behind_unread_plan}
use Rattle.command_roll.specs.Rolling.ExpectsRoll.{no_instance, refused_instance, no_plan, refused_plan, broken_start}
use Rattle.command_roll.specs.Rolling.ExpectsRoll.{long_text, whole_text}
use Rattle.command_roll.proofs.RollAnswers.{answered_once}

-- ---- from one way of meeting the files to another

roll_other : (limits : Limits) (met other : Meeting) (i p j q : List ℕ) (period : ℕ) (files : RollFiles) (a : Answer)
    → Carries met i other j → Carries met p other q
    → AnswersRoll limits met i p period files a → AnswersRoll limits other j q period files a
roll_other limits met other i p j q period files a ci cp =
    on_other met other 2 i j (RefusesInstance limits) (TakesOne limits 0)
    (λ inst. OnPlan limits inst met 3 p (λ x. Rolls limits inst x period files))
    (λ inst. OnPlan limits inst other 3 q (λ x. Rolls limits inst x period files)) a ci
    (λ inst b. on_other met other 3 p q (RefusesPlan limits inst) (Spells limits inst)
    (λ x. Rolls limits inst x period files) (λ x. Rolls limits inst x period files) b cp (λ x c rolls. rolls))

pub roll_stays : (limits : Limits) (files : RollFiles) (period : ℕ) (old mid new : Shown)
    → Stays (λ at. AnswersRoll limits (reading old at) files.instance files.plan period files) mid new
roll_stays limits files period old mid new goes a =
    roll_other limits (reading old mid) (reading old new) files.instance files.plan files.instance files.plan period
    files a (later_reading files.instance old mid new goes) (later_reading files.plan old mid new goes)

-- ---- which file an answer writes

no_instance_files : (limits : Limits) (bytes : List ℕ) (a : Answer) → RefusesInstance limits bytes a → a.writes ≡ []
no_instance_files limits bytes a (long_instance l) = refl
no_instance_files limits bytes a (faulty_instance fault one) = refl

no_plan_files : (limits : Limits) (inst : Tables) (bytes : List ℕ) (a : Answer) → RefusesPlan limits inst bytes a
    → a.writes ≡ []
no_plan_files limits inst bytes a (long_plan l) = refl
no_plan_files limits inst bytes a (faulty_plan fault has) = refl

rolls_only : (limits : Limits) (inst : Tables) (plan : List (Option ℕ)) (period : ℕ) (files : RollFiles) (a : Answer)
    → Rolls limits inst plan period files a → WritesOnly files.out a.writes
rolls_only limits inst plan period files a (broken rule not first) = writes_none files.out [] refl
rolls_only limits inst plan period files a (too_long all long) = writes_none files.out [] refl
rolls_only limits inst plan period files a (written all few) = writes_one (out_write files inst plan period)

answers_only : (limits : Limits) (met : Meeting) (instance name : List ℕ) (period : ℕ) (files : RollFiles) (a : Answer)
    → AnswersRoll limits met instance name period files a → WritesOnly files.out a.writes
answers_only limits met instance name period files a (unread fails) = writes_none files.out [] refl
answers_only limits met instance name period files a (refused bytes b held is) =
    writes_none files.out b.writes (no_instance_files limits bytes b is)
answers_only limits met instance name period files a (stands bytes inst b held takes (unread fails)) =
    writes_none files.out [] refl
answers_only limits met instance name period files a (stands bytes inst b held takes (refused xs c also is)) =
    writes_none files.out c.writes (no_plan_files limits inst xs c is)
answers_only limits met instance name period files a (stands bytes inst b held takes (stands xs plan c also spells
    rolls)) = rolls_only limits inst plan period files c rolls

due_only : (limits : Limits) (files : RollFiles) (period : ℕ) (old at : Shown) (a : Answer)
    → DueRoll limits files period old at a → WritesOnly files.out a.writes
due_only limits files period old at a (answers b is) =
    answers_only limits (reading old at) files.instance files.plan period files b is
due_only limits files period old at a no_memory = writes_none files.out [] refl

-- a refusal, and want of memory, write no file
unopened_rolls : (limits : Limits) (inst : Tables) (plan : List (Option ℕ)) (period : ℕ) (files : RollFiles)
    (a : Answer) → Rolls limits inst plan period files a → (Opens a.status → ⊥) → a.writes ≡ []
unopened_rolls limits inst plan period files a (broken rule not first) opens = refl
unopened_rolls limits inst plan period files a (too_long all long) opens = refl
unopened_rolls limits inst plan period files a (written all few) opens = absurd (opens (inl refl))

unopened_answer : (limits : Limits) (met : Meeting) (instance name : List ℕ) (period : ℕ) (files : RollFiles)
    (a : Answer) → AnswersRoll limits met instance name period files a → (Opens a.status → ⊥) → a.writes ≡ []
unopened_answer limits met instance name period files a (unread fails) opens = refl
unopened_answer limits met instance name period files a (refused bytes b held is) opens =
    no_instance_files limits bytes b is
unopened_answer limits met instance name period files a (stands bytes inst b held takes (unread fails)) opens = refl
unopened_answer limits met instance name period files a (stands bytes inst b held takes (refused xs c also is)) opens =
    no_plan_files limits inst xs c is
unopened_answer limits met instance name period files a (stands bytes inst b held takes (stands xs plan c also spells
    rolls)) opens = unopened_rolls limits inst plan period files c rolls opens

unopened_due : (limits : Limits) (files : RollFiles) (period : ℕ) (old at : Shown) (a : Answer)
    → DueRoll limits files period old at a → (Opens a.status → ⊥) → a.writes ≡ []
unopened_due limits files period old at a (answers b is) opens =
    unopened_answer limits (reading old at) files.instance files.plan period files b is opens
unopened_due limits files period old at a no_memory opens = refl

-- ---- what the written text is read as

slack_of : (slack : ℕ) → slack ≤ 1_000_000_000 → IsSlack (pos slack)
slack_of slack h = record { least = omega (arith, signed_arith); most = omega (arith, signed_arith) }

pub read_as_rolled : RolledTextIsRead → PlansRoll → (limits : Limits) (bytes : List ℕ) (inst : Tables)
    (plan : List (Option ℕ)) (period : ℕ)
    → AreStandard limits → Takes limits 0 bytes inst → length (rolled_text inst plan period) ≤ limits.instance_bytes
    → IsReadAsRolled limits bytes (rolled_text inst plan period) plan period
read_as_rolled text plans limits bytes inst plan period standard takes few = record {
  takes = λ slack wide small t. record {
    within = few;
    defines = text inst plan period limits (pos slack) bytes wide standard takes.defines t.defines;
  };
  plans = λ slack wide small t.
      plans wide plan period (defined_fits limits (pos slack) bytes wide standard (slack_of slack small) t.defines);
}

-- ---- what stands behind a status

module _ (text_law : RolledTextIsRead) (plans_law : PlansRoll) (limits : Limits) (files : RollFiles) (period : ℕ)
    (old new : Shown) (standard : AreStandard limits) (names : TellsNames old) where
  abbrev Answers : Shown → Answer → Type 0
  Answers at = AnswersRoll limits (reading old at) files.instance files.plan period files

  abbrev Due : Shown → Answer → Type 0
  Due at a = DueRoll limits files period old at a

  rolled_behind : (inst : Tables) (plan : List (Option ℕ)) (a : Answer)
      → ReadsInstance limits (source_of files) old inst → ReadsPlan limits files.plan inst old plan
      → Rolls limits inst plan period files a → new.output ≡ (after_writes (files_of a.writes) old).output
      → Says a.text old new → BehindRoll limits files period old new a.status
  rolled_behind inst plan a reads reads_plan (broken rule not first) writes says =
      behind_broken (record {
        inst = inst;
        reads = reads;
        plan = plan;
        reads_plan = reads_plan;
        not_allowed = not;
        rule = rule;
        first = first;
        says = says;
      })
  rolled_behind inst plan a reads reads_plan (too_long all long) writes says =
      behind_too_long (record {
        inst = inst;
        reads = reads;
        plan = plan;
        reads_plan = reads_plan;
        allowed = all;
        long = long;
        says = says;
      })
  rolled_behind inst plan a reads reads_plan (written all few) writes says =
      behind_written (record {
        inst = inst;
        reads = reads;
        plan = plan;
        reads_plan = reads_plan;
        allowed = all;
        held = one_held Due old new (out_write files inst plan period).file names writes;
        read = read_as_rolled text_law plans_law limits reads.bytes inst plan period standard reads.such.takes few;
        says = says;
      })

  roll_behind : (a : Answer) → Answers new a → new.output ≡ (after_writes (files_of a.writes) old).output
      → Says a.text old new → BehindRoll limits files period old new a.status
  roll_behind a (unread fails) writes says = behind_unread_instance (record { fails = fails; says = says })
  roll_behind a (refused bytes b held is) writes says =
      subst (λ (n : ℕ). BehindRoll limits files period old new n) (sym (instance_status limits bytes b is))
      (behind_refused_instance (say_refusal files.instance (RefusesInstance limits) old new bytes b held is says))
  roll_behind a (stands bytes inst b held takes (unread fails)) writes says =
      behind_unread_plan inst (record { bytes = bytes; held = held; such = takes })
      (record { fails = fails; says = says })
  roll_behind a (stands bytes inst b held takes (refused xs c also is)) writes says =
      subst (λ (n : ℕ). BehindRoll limits files period old new n) (sym (plan_status limits inst xs c is))
      (behind_refused_plan inst (record { bytes = bytes; held = held; such = takes })
      (say_refusal files.plan (RefusesPlan limits inst) old new xs c also is says))
  roll_behind a (stands bytes inst b held takes (stands xs plan c also spells rolls)) writes says =
      rolled_behind inst plan c (record { bytes = bytes; held = held; such = takes })
      (record { bytes = xs; held = also; such = spells }) rolls writes says

  -- ---- which status comes

  broken_status : (inst : Tables) (plan : List (Option ℕ)) (a : Answer) → (KeptAreAllowed inst plan period → ⊥)
      → Rolls limits inst plan period files a → OrUnread 1 a
  broken_status inst plan a nor (broken rule not first) = inr refl
  broken_status inst plan a nor (too_long all long) = absurd (nor all)
  broken_status inst plan a nor (written all few) = absurd (nor all)

  long_status : (inst : Tables) (plan : List (Option ℕ)) (a : Answer) → KeptAreAllowed inst plan period
      → limits.instance_bytes < length (rolled_text inst plan period) → Rolls limits inst plan period files a
      → OrUnread 12 a
  long_status inst plan a any far (broken rule not first) = absurd (not any)
  long_status inst plan a any far (too_long all long) = inr refl
  long_status inst plan a any far (written all few) = absurd (omega (arith, far, few))

  whole_status : (inst : Tables) (plan : List (Option ℕ)) (a : Answer) → KeptAreAllowed inst plan period
      → length (rolled_text inst plan period) ≤ limits.instance_bytes → Rolls limits inst plan period files a
      → OrUnread 0 a
  whole_status inst plan a any low (broken rule not first) = absurd (not any)
  whole_status inst plan a any low (too_long all long) = absurd (omega (arith, low, long))
  whole_status inst plan a any low (written all few) = inr refl

  abbrev OnInst : Tables → Answer → Type 0
  OnInst inst = OnPlan limits inst (reading old new) 3 files.plan (λ p. Rolls limits inst p period files)

  -- where both files are told, the answer is for them
  on_both : (inst : Tables) (plan : List (Option ℕ)) (expected : ℕ) (a : Answer)
      → (OnInst inst a → (a.status ≡ 7) ⊎ Rolls limits inst plan period files a)
      → (Rolls limits inst plan period files a → OrUnread expected a)
      → (a.status ≡ 7) ⊎ OnInst inst a → OrUnread expected a
  on_both inst plan expected a spelled status due =
      then_next (Rolls limits inst plan period files a) expected a status
      (then_more (OnInst inst a) (Rolls limits inst plan period files a) a spelled due)

  roll_expects : (expected : ℕ) → ExpectsRoll limits files period old expected → (a : Answer) → Answers new a
      → OrUnread expected a
  roll_expects expected (no_instance missing) a due =
      inl (missing_file 2 files.instance old new (RefusesInstance limits) (TakesOne limits 0) OnInst a missing due)
  roll_expects expected (refused_instance tells) a due =
      bad_instance limits (source_of files) old new OnInst a tells due
  roll_expects expected (no_plan inst tells missing) a due =
      then_next (OnInst inst a) 7 a
      (λ d. inl (missing_file 3 files.plan old new (RefusesPlan limits inst) (Spells limits inst)
      (λ p. Rolls limits inst p period files) a missing d))
      (on_taken limits (source_of files) old new OnInst inst a tells due)
  roll_expects expected (refused_plan inst tells bad) a due =
      then_next (OnInst inst a) 4 a
      (bad_plan limits inst files.plan old new (λ p. Rolls limits inst p period files) a bad)
      (on_taken limits (source_of files) old new OnInst inst a tells due)
  roll_expects expected (broken_start inst plan tells spells nor) a due =
      on_both inst plan 1 a
      (on_spelled limits inst files.plan old new (λ p. Rolls limits inst p period files) plan a spells)
      (broken_status inst plan a nor) (on_taken limits (source_of files) old new OnInst inst a tells due)
  roll_expects expected (long_text inst plan tells spells all long) a due =
      on_both inst plan 12 a
      (on_spelled limits inst files.plan old new (λ p. Rolls limits inst p period files) plan a spells)
      (long_status inst plan a all long) (on_taken limits (source_of files) old new OnInst inst a tells due)
  roll_expects expected (whole_text inst plan tells spells all few) a due =
      on_both inst plan 0 a
      (on_spelled limits inst files.plan old new (λ p. Rolls limits inst p period files) plan a spells)
      (whole_status inst plan a all few) (on_taken limits (source_of files) old new OnInst inst a tells due)

  -- ---- a run

  pub roll_runs : (status : ℕ) → Ends Due old new status
      → RunsRoll limits files period old new status
  roll_runs status ends = record {
    ends = ends;
    behind = wrote_behind Answers (BehindRoll limits files period old new) old new status roll_behind ends;
    allowed = λ expected expects. ends_allowed Answers old new status expected (roll_expects expected expects) ends;
    exact = λ instance plan tells tells_plan calm.
        ends_exact Answers (AnswersRoll limits by_bytes instance plan period files) old new status
        (λ a. roll_other limits (reading old new) by_bytes files.instance files.plan instance plan period files a
        (exact_reading files.instance instance old new tells calm)
        (exact_reading files.plan plan old new tells_plan calm)) calm ends;
    one = λ instance plan. answered_once limits instance plan period files;
    others = others_kept Due old new files.out (due_only limits files period old) status ends;
    unopened = unopened_kept Due old new (unopened_due limits files period old new) status ends;
    quiet = ends_quiet Due old new status ends;
  }

-- ---- the end of a run

module _ (limits : Limits) (files : RollFiles) (period : ℕ) (old mid new : Shown) (reads : OnlyReads old mid) where
  abbrev AnswersAt : Shown → Answer → Type 0
  AnswersAt at = AnswersRoll limits (reading old at) files.instance files.plan period files

  stays : (at : Shown) → Stays AnswersAt mid at
  stays at = roll_stays limits files period old mid at

  -- both files were read, and what is due was told
  pub rolled_ends : (a : Answer) (status : ℕ) → AnswersAt mid a → mid.faults ≡ old.faults → TellsAnswer a mid new status
      → Ends (DueRoll limits files period old) old new status
  rolled_ends a status due last tells = told_ends AnswersAt old mid a reads last due new status stays tells

  -- a file was refused
  pub refused_ends : (refusal : Refusal) (status : ℕ) → KeepsFiles mid new → CountsRefusal old mid refusal
      → IsDueAs (AnswersAt mid) refusal → SaysRefused refusal mid new status
      → Ends (DueRoll limits files period old) old new status
  refused_ends refusal status keeps kept due says =
      refusal_ends AnswersAt old mid new refusal status (stays new) reads keeps kept due says
