-- What a run of `improve` promises follows from its end.
use Rattle.std.proofs.Common.{◌≡◌, ◌⊎◌, inl, inr, ℕ, refl, sym, subst, List, [], ◌∷◌, map, Option, Some, None}
use Rattle.plan_desk.specs.Desk.{Shown, TellsNames}
use Rattle.plan_desk.specs.Contents.{Says, OnlyReads, KeepsFiles}
use Rattle.plan_desk.specs.FileWrites.{after_writes}
use Rattle.instance_model.specs.declared.limits.Limits.{Limits}
use Rattle.instance_model.specs.Limits.{standard_limits}
use Rattle.instance_model.specs.Tables.{Tables}
use Rattle.local_search.specs.Openings.{IsWithoutStart}
use Rattle.command_frame.specs.Sources.{Source}
use Rattle.command_frame.specs.Reports.{feasible_report}
use Rattle.command_frame.specs.Ending.{Answer, files_of, reply, OrMemory, Ends, IsAllowed}
use Rattle.command_frame.specs.Ending.OrMemory.{answers, no_memory}
use Rattle.command_frame.specs.Ending.Ends.{done, unsaid, unwritten}
use Rattle.command_frame.specs.Bytes.{TakesOne, RefusesInstance, Spells, RefusesPlan}
use Rattle.command_frame.specs.Bytes.RefusesInstance.{long_instance, faulty_instance}
use Rattle.command_frame.specs.Bytes.RefusesPlan.{long_plan, faulty_plan}
use Rattle.command_frame.specs.Files.{Meeting, reading, by_bytes, OnGiven, ReadsInstance, ReadsGiven}
use Rattle.command_frame.specs.Files.OnFile.{unread, refused, stands}
use Rattle.command_frame.specs.Outputs.{Opens}
use Rattle.command_frame.specs.declared.refusal.Refusal.{Refusal}
use Rattle.command_frame.specs.Refusals.{CountsRefusal, IsDueAs, SaysRefused}
use Rattle.command_frame.proofs.ReadLemmas.{after_instance}
use Rattle.command_frame.proofs.FileLemmas.{Carries, CarriesGiven, on_other, on_given_other, later_reading, later_given}
use Rattle.command_frame.proofs.FileLemmas.{exact_reading, exact_given, OrUnread, missing_file, then_next, then_more}
use Rattle.command_frame.proofs.FileLemmas.{say_refusal}
use Rattle.command_frame.proofs.AnswerLemmas.{instance_status, plan_status}
use Rattle.command_frame.proofs.TakenLemmas.{on_taken, bad_instance, bad_plan}
use Rattle.command_frame.proofs.EndLemmas.{Stays, memory_ends, refusal_ends, ends_quiet, ends_allowed, ends_exact}
use Rattle.command_frame.proofs.WriteLemmas.{told_ends, wrote_behind}
use Rattle.command_frame.proofs.OutputLemmas.{WritesOnly, writes_none, writes_one, others_kept, unopened_kept, one_held}
use Rattle.command_answers.specs.Check.{IsKeptPlan}
use Rattle.command_improve.specs.Improving.{out_write, Improves, AnswersImprove, DueImprove, ReadsImprove}
use Rattle.command_improve.specs.Improving.{BehindImprove, TellsImprove, ExpectsImprove, HaveStarts, RunsImprove}
use Rattle.command_improve.specs.Improving.Improves.{improved, nothing, no_start}
use Rattle.command_improve.specs.Improving.BehindImprove.{improved as behind_improved, nothing as behind_nothing}
use Rattle.command_improve.specs.Improving.BehindImprove.{none as behind_none}
use Rattle.command_improve.specs.Improving.BehindImprove.{refused_instance as behind_refused_instance}
use Rattle.command_improve.specs.Improving.BehindImprove.{refused_plan as behind_refused_plan}
use Rattle.command_improve.specs.Improving.BehindImprove.{unread_instance as behind_unread_instance}
use Rattle.command_improve.specs.Improving.BehindImprove.{unread_plan as behind_unread_plan}
use Rattle.command_improve.specs.Improving.ExpectsImprove.{no_instance, refused_instance, no_plan_file, refused_plan}
use Rattle.command_improve.specs.Improving.ExpectsImprove.{no_start as expects_no_start, kept_plan}
use Rattle.command_improve.specs.Made.{AreRead, TellsSolution}
use Rattle.command_improve.specs.Made.TellsSolution.{told, no_memory as no_memory_left}
use Rattle.command_improve.proofs.GivenLemmas.{after_read, on_told, on_named}

-- ---- from one way of meeting the files to another

-- what is answered to the plan, if one is given
abbrev OnPlanned : Limits → Meeting → Option (List ℕ) → List ℕ → ℕ → Tables → Answer → Type 0
OnPlanned limits met plan out turns inst =
    OnGiven limits inst met 3 plan (λ given. Improves limits inst given out turns)

improve_other : (limits : Limits) (slack : ℕ) (met other : Meeting) (i : List ℕ) (p : Option (List ℕ)) (j : List ℕ)
    (q : Option (List ℕ)) (out : List ℕ) (turns : ℕ) (a : Answer) → Carries met i other j → CarriesGiven met p other q
    → AnswersImprove limits met slack i p out turns a → AnswersImprove limits other slack j q out turns a
improve_other limits slack met other i p j q out turns a ci cp =
    on_other met other 2 i j (RefusesInstance limits) (TakesOne limits slack) (OnPlanned limits met p out turns)
    (OnPlanned limits other q out turns) a ci
    (λ inst b. on_given_other limits inst met other 3 p q (λ given. Improves limits inst given out turns)
    (λ given. Improves limits inst given out turns) b cp (λ x c improves. improves))

pub improve_stays : (limits : Limits) (source : Source) (name : Option (List ℕ)) (out : List ℕ) (turns : ℕ)
    (old mid new : Shown)
    → Stays (λ at. AnswersImprove limits (reading old at) source.slack source.instance name out turns) mid new
improve_stays limits source name out turns old mid new goes a =
    improve_other limits source.slack (reading old mid) (reading old new) source.instance name source.instance name out
    turns a (later_reading source.instance old mid new goes) (later_given name old mid new goes)

-- ---- which files are written

instance_none : (limits : Limits) (bytes : List ℕ) (a : Answer) → RefusesInstance limits bytes a → a.writes ≡ []
instance_none limits bytes a (long_instance l) = refl
instance_none limits bytes a (faulty_instance fault one) = refl

plan_none : (limits : Limits) (inst : Tables) (bytes : List ℕ) (a : Answer) → RefusesPlan limits inst bytes a
    → a.writes ≡ []
plan_none limits inst bytes a (long_plan l) = refl
plan_none limits inst bytes a (faulty_plan fault has) = refl

-- an answer writes the file of the plan, or none; and that only with these statuses
record Writes (out : List ℕ) (a : Answer) : Type 0 where
  only : WritesOnly out a.writes
  opened : (Opens a.status → ⊥) → a.writes ≡ []

none_written : (out : List ℕ) (a : Answer) → a.writes ≡ [] → Writes out a
none_written out a none = record { only = writes_none out a.writes none; opened = λ opens. none }

improves_writes : (limits : Limits) (inst : Tables) (given : Option (List (Option ℕ))) (out : List ℕ) (turns : ℕ)
    (a : Answer) → Improves limits inst given out turns a → Writes out a
improves_writes limits inst given out turns a (improved plan is) = record {
  only = writes_one (out_write inst out plan);
  opened = λ opens. absurd (opens (inl refl));
}
improves_writes limits inst given out turns a (nothing violation is) = none_written out a refl
improves_writes limits inst given out turns a (no_start i is) = none_written out a refl

plan_writes : (limits : Limits) (met : Meeting) (plan : Option (List ℕ)) (out : List ℕ) (turns : ℕ) (inst : Tables)
    (a : Answer) → OnPlanned limits met plan out turns inst a → Writes out a
plan_writes limits met None out turns inst a due = improves_writes limits inst None out turns a due
plan_writes limits met (Some plan) out turns inst a (unread fails) = none_written out a refl
plan_writes limits met (Some plan) out turns inst a (refused bytes b held is) =
    none_written out b (plan_none limits inst bytes b is)
plan_writes limits met (Some plan) out turns inst a (stands bytes x b held spells due) =
    improves_writes limits inst (Some x) out turns b due

answers_write : (limits : Limits) (met : Meeting) (slack : ℕ) (instance : List ℕ) (plan : Option (List ℕ))
    (out : List ℕ) (turns : ℕ) (a : Answer) → AnswersImprove limits met slack instance plan out turns a → Writes out a
answers_write limits met slack instance plan out turns a (unread fails) = none_written out a refl
answers_write limits met slack instance plan out turns a (refused bytes b held is) =
    none_written out b (instance_none limits bytes b is)
answers_write limits met slack instance plan out turns a (stands bytes inst b held takes due) =
    plan_writes limits met plan out turns inst b due

due_writes : (limits : Limits) (source : Source) (name : Option (List ℕ)) (out : List ℕ) (turns : ℕ) (old at : Shown)
    (a : Answer) → DueImprove limits source name out turns old at a → Writes out a
due_writes limits source name out turns old at a (answers b is) =
    answers_write limits (reading old at) source.slack source.instance name out turns b is
due_writes limits source name out turns old at a no_memory = none_written out a refl

-- ---- which status an answer comes with

no_start_status : (limits : Limits) (inst : Tables) (given : Option (List (Option ℕ))) (out : List ℕ) (turns i : ℕ)
    (a : Answer) → IsWithoutStart inst i → Improves limits inst given out turns a → OrUnread 10 a
no_start_status limits inst given out turns i a without (improved plan is) =
    let start = is.evaluable.keeps.starts i without.number in absurd (without.none start.start start.allowed)
no_start_status limits inst given out turns i a without (nothing violation is) =
    absurd (without.none _ (is.nothing.opens.at i without.number).allowed)
no_start_status limits inst given out turns i a without (no_start j is) = inr refl

kept_status : (limits : Limits) (inst : Tables) (plan : List (Option ℕ)) (out : List ℕ) (turns : ℕ) (a : Answer)
    → IsKeptPlan inst plan → Improves limits inst (Some plan) out turns a → OrUnread 0 a
kept_status limits inst plan out turns a kept (improved found is) = inr refl
kept_status limits inst plan out turns a kept (nothing violation is) = absurd (is.broken plan refl kept)
kept_status limits inst plan out turns a kept (no_start i without) =
    let start = kept.keeps.starts i without.number in absurd (without.none start.start start.allowed)

started_status : (limits : Limits) (inst : Tables) (given : Option (List (Option ℕ))) (out : List ℕ) (turns : ℕ)
    (a : Answer) → HaveStarts inst → Improves limits inst given out turns a → (a.status ≡ 9) ⊎ (a.status ≡ 0)
started_status limits inst given out turns a have (improved plan is) = inr refl
started_status limits inst given out turns a have (nothing violation is) = inl refl
started_status limits inst given out turns a have (no_start i without) =
    let start = have i without.number in absurd (without.none start.0 start.1)

module _ (limits : Limits) (source : Source) (name : Option (List ℕ)) (out : List ℕ) (turns : ℕ) (old new : Shown)
    (names : TellsNames old) where
  abbrev Answering : Shown → Answer → Type 0
  Answering at = AnswersImprove limits (reading old at) source.slack source.instance name out turns

  abbrev Due : Shown → Answer → Type 0
  Due = DueImprove limits source name out turns old

  abbrev Stand : ℕ → Type 0
  Stand = BehindImprove limits source name out turns old new

  -- ---- what stands behind a status

  improves_behind : (read : ReadsImprove limits source name old) (a : Answer)
      → Improves limits read.inst read.plan out turns a → new.output ≡ (after_writes (files_of a.writes) old).output
      → Says a.text old new → Stand a.status
  improves_behind read a (improved plan is) writes says =
      behind_improved (record {
        read = read;
        plan = plan;
        found = is;
        held = one_held Due old new (out_write read.inst out plan).file names writes;
        evaluated = stands read.reads.bytes read.inst (reply 0 (feasible_report read.inst (map Some plan))) refl
            read.reads.such is.evaluable.judged;
        says = says;
      })
  improves_behind read a (nothing violation is) writes says =
      behind_nothing (record { read = read; violation = violation; unfound = is; says = says })
  improves_behind read a (no_start i without) writes says =
      behind_none (record {
        read = read;
        i = i;
        without = without;
        no_plan = λ plan kept.
            let start = kept.keeps.starts i without.number in without.none start.start start.allowed;
        says = says;
      })

  plan_behind : (plan : Option (List ℕ)) (inst : Tables) (a : Answer) → name ≡ plan
      → ReadsInstance limits source old inst → OnPlanned limits (reading old new) plan out turns inst a
      → new.output ≡ (after_writes (files_of a.writes) old).output → Says a.text old new → Stand a.status
  plan_behind None inst a e reads due writes says =
      improves_behind (record {
        inst = inst;
        reads = reads;
        plan = None;
        reads_plan = subst (λ (o : Option (List ℕ)). ReadsGiven limits o inst old None) (sym e) tt;
      }) a due writes says
  plan_behind (Some plan) inst a e reads (unread fails) writes says =
      behind_unread_plan plan inst e reads (record { fails = fails; says = says })
  plan_behind (Some plan) inst a e reads (refused bytes b held is) writes says =
      subst Stand (sym (plan_status limits inst bytes b is))
      (behind_refused_plan plan inst e reads
      (say_refusal plan (RefusesPlan limits inst) old new bytes b held is says))
  plan_behind (Some plan) inst a e reads (stands bytes x b held spells due) writes says =
      improves_behind (record {
        inst = inst;
        reads = reads;
        plan = Some x;
        reads_plan = subst (λ (o : Option (List ℕ)). ReadsGiven limits o inst old (Some x)) (sym e)
            (record { bytes = bytes; held = held; such = spells });
      }) b due writes says

  answer_behind : (a : Answer) → Answering new a → new.output ≡ (after_writes (files_of a.writes) old).output
      → Says a.text old new → Stand a.status
  answer_behind a (unread fails) writes says = behind_unread_instance (record { fails = fails; says = says })
  answer_behind a (refused bytes b held is) writes says =
      subst Stand (sym (instance_status limits bytes b is))
      (behind_refused_instance (say_refusal source.instance (RefusesInstance limits) old new bytes b held is says))
  answer_behind a (stands bytes inst b held takes due) writes says =
      plan_behind name inst b refl (record { bytes = bytes; held = held; such = takes }) due writes says

  -- ---- which status comes

  abbrev Next : Tables → Answer → Type 0
  Next inst = OnPlanned limits (reading old new) name out turns inst

  abbrev Then : Tables → Option (List (Option ℕ)) → Answer → Type 0
  Then inst given = Improves limits inst given out turns

  on_files : (inst : Tables) (plan : Option (List (Option ℕ))) (a : Answer)
      → TellsImprove limits old source name inst plan → Answering new a → (a.status ≡ 7) ⊎ Then inst plan a
  on_files inst plan a tells due =
      then_more (Next inst a) (Then inst plan a) a
      (on_told limits inst old new (Then inst) name plan a tells.plan_told)
      (on_taken limits source old new Next inst a tells.instance due)

  improve_expects : (expected : ℕ) → ExpectsImprove limits source name old expected → (a : Answer) → Answering new a
      → OrUnread expected a
  improve_expects expected (no_instance missing) a due =
      inl (missing_file 2 source.instance old new (RefusesInstance limits) (TakesOne limits source.slack) Next a missing
      due)
  improve_expects expected (refused_instance tells) a due = bad_instance limits source old new Next a tells due
  improve_expects expected (no_plan_file plan inst is tells missing) a due =
      then_next (Next inst a) 7 a
      (λ d. inl (missing_file 3 plan old new (RefusesPlan limits inst) (Spells limits inst)
      (λ p. Then inst (Some p)) a missing (on_named limits inst old new (Then inst) name plan a is d)))
      (on_taken limits source old new Next inst a tells due)
  improve_expects expected (refused_plan plan inst is tells bad) a due =
      then_next (Next inst a) 4 a
      (λ d. bad_plan limits inst plan old new (λ p. Then inst (Some p)) a bad
      (on_named limits inst old new (Then inst) name plan a is d))
      (on_taken limits source old new Next inst a tells due)
  improve_expects expected (expects_no_start inst plan i tells without) a due =
      then_next (Then inst plan a) 10 a (no_start_status limits inst plan out turns i a without)
      (on_files inst plan a tells due)
  improve_expects expected (kept_plan inst plan tells kept) a due =
      then_next (Then inst (Some plan) a) 0 a (kept_status limits inst plan out turns a kept)
      (on_files inst (Some plan) a tells due)

  started_answer : (inst : Tables) (plan : Option (List (Option ℕ))) → TellsImprove limits old source name inst plan
      → HaveStarts inst → (a : Answer) → Answering new a → (a.status ≡ 7) ⊎ ((a.status ≡ 9) ⊎ (a.status ≡ 0))
  started_answer inst plan tells have a due =
      then_more (Then inst plan a) ((a.status ≡ 9) ⊎ (a.status ≡ 0)) a
      (λ improves. inr (started_status limits inst plan out turns a have improves)) (on_files inst plan a tells due)

  -- the statuses that come at the end
  started_allowed : (status : ℕ)
      → ((a : Answer) → Answering new a → (a.status ≡ 7) ⊎ ((a.status ≡ 9) ⊎ (a.status ≡ 0)))
      → Ends Due old new status → (status ≡ 9) ⊎ IsAllowed 0 status
  started_allowed status f (done n d) =
      subst (λ (m : ℕ). (m ≡ 9) ⊎ IsAllowed 0 m) (sym d.status_is) (at d.answer d.due)
    where
      each : (a : Answer) → (a.status ≡ 7) ⊎ ((a.status ≡ 9) ⊎ (a.status ≡ 0))
          → (a.status ≡ 9) ⊎ IsAllowed 0 a.status
      each a (inl e) = inr (inr (inl e))
      each a (inr (inl e)) = inl e
      each a (inr (inr e)) = inr (inl e)

      at : (a : Answer) → Due new a → (a.status ≡ 9) ⊎ IsAllowed 0 a.status
      at a (answers b is) = each b (f b is)
      at a no_memory = inr (inr (inr (inr (inl refl))))
  started_allowed status f (unsaid u) = inr (inr (inr (inl refl)))
  started_allowed status f (unwritten u) = inr (inr (inr (inl refl)))

  -- ---- a run

  pub improve_runs : (seed status : ℕ) → Ends Due old new status
      → RunsImprove limits source name out turns seed old new status
  improve_runs seed status ends = record {
    ends = ends;
    behind = wrote_behind Answering Stand old new status answer_behind ends;
    allowed = λ expected wants. ends_allowed Answering old new status expected (improve_expects expected wants) ends;
    started = λ inst plan tells have. started_allowed status (started_answer inst plan tells have) ends;
    exact = λ instance plan tells tells_plan calm.
        ends_exact Answering (AnswersImprove limits by_bytes source.slack instance plan out turns) old new status
        (λ a. improve_other limits source.slack (reading old new) by_bytes source.instance name instance plan out turns
        a (exact_reading source.instance instance old new tells calm) (exact_given name plan old new tells_plan calm))
        calm ends;
    others = others_kept Due old new out
        (λ at a due. (due_writes limits source name out turns old at a due).only) status ends;
    unopened = unopened_kept Due old new
        (λ a due. (due_writes limits source name out turns old new a due).opened) status ends;
    quiet = ends_quiet Due old new status ends;
  }

-- ---- the end of a run

module _ (source : Source) (name : Option (List ℕ)) (out : List ℕ) (turns : ℕ) (old mid new : Shown)
    (reads : OnlyReads old mid) where
  abbrev Answers : Shown → Answer → Type 0
  Answers at = AnswersImprove standard_limits (reading old at) source.slack source.instance name out turns

  stays : (at : Shown) → Stays Answers mid at
  stays at = improve_stays standard_limits source name out turns old mid at

  -- the files were read, and their solution was told, or memory ran out
  pub solution_ends : (inst : Tables) (plan : Option (List (Option ℕ))) (status : ℕ)
      → AreRead standard_limits source name old inst plan → mid.faults ≡ old.faults
      → TellsSolution inst plan out turns mid new status
      → Ends (DueImprove standard_limits source name out turns old) old new status
  solution_ends inst plan status read last (told a improves tells) =
      told_ends Answers old mid a reads last
      (after_instance standard_limits source old mid inst (OnPlanned standard_limits (reading old mid) name out turns) a
      read.reads
      (after_read standard_limits inst old mid (λ given. Improves standard_limits inst given out turns) name plan a
      read.reads_plan improves)) new status stays tells
  solution_ends inst plan status read last (no_memory_left keeps says) =
      memory_ends Answers old mid new status reads keeps last says

  -- a file was refused
  pub refused_ends : (refusal : Refusal) (status : ℕ) → KeepsFiles mid new → CountsRefusal old mid refusal
      → IsDueAs (Answers mid) refusal → SaysRefused refusal mid new status
      → Ends (DueImprove standard_limits source name out turns old) old new status
  refused_ends refusal status keeps kept due says =
      refusal_ends Answers old mid new refusal status (stays new) reads keeps kept due says
