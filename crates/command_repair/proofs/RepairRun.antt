-- What a run of `repair` promises follows from its end.
use Rattle.std.proofs.Common.{◌≡◌, ◌≢◌, ◌⊎◌, inl, inr, ℕ, refl, sym, ◌∙◌, ap, subst, arith, List, [], ◌∷◌, Option}
use Rattle.std.proofs.lemmas.List.Elements.{All-nil, All-cons}
use Rattle.plan_desk.specs.Desk.{Shown, TellsNames}
use Rattle.plan_desk.specs.Contents.{HoldsBytes, Says, OnlyReads, KeepsFiles}
use Rattle.plan_desk.specs.FileWrites.{FileWrite, after_writes}
use Rattle.instance_model.specs.declared.limits.Limits.{Limits}
use Rattle.instance_model.specs.Limits.{standard_limits}
use Rattle.instance_model.specs.Tables.{Tables}
use Rattle.certificate_lines.specs.declared.line.Bound.{Bound}
use Rattle.certificate_lines.specs.declared.line.Bound.TheVariants.{NoPlan, Least}
use Rattle.certificate_tree.specs.declared.certificate.Certificate.{Certificate}
use Rattle.certificate_text.specs.Text.{certificate_text}
use Rattle.command_frame.specs.Sources.{Source}
use Rattle.command_frame.specs.Ending.{Writing, Answer, files_of, reply, Ends}
use Rattle.command_frame.specs.Ending.OrMemory.{answers, no_memory}
use Rattle.command_frame.specs.Ending.Ends.{done, unsaid, unwritten}
use Rattle.command_frame.specs.Bytes.{TakesOne, RefusesInstance, Spells, RefusesPlan}
use Rattle.command_frame.specs.Bytes.RefusesInstance.{long_instance, faulty_instance}
use Rattle.command_frame.specs.Bytes.RefusesPlan.{long_plan, faulty_plan}
use Rattle.command_frame.specs.Files.{Meeting, reading, by_bytes, OnPlan, ReadsInstance}
use Rattle.command_frame.specs.Files.OnFile.{unread, refused, stands}
use Rattle.command_frame.specs.declared.refusal.Refusal.{Refusal}
use Rattle.command_frame.specs.Refusals.{CountsRefusal, IsDueAs, SaysRefused}
use Rattle.command_frame.proofs.ReadLemmas.{after_instance}
use Rattle.command_frame.proofs.FileLemmas.{Carries, on_other, later_reading, exact_reading, OrUnread}
use Rattle.command_frame.proofs.FileLemmas.{missing_file, then_next, then_more, say_refusal}
use Rattle.command_frame.proofs.AnswerLemmas.{instance_status, plan_status}
use Rattle.command_frame.proofs.TakenLemmas.{on_taken, bad_instance, on_spelled, bad_plan}
use Rattle.command_frame.proofs.EndLemmas.{Stays, memory_ends, refusal_ends, ends_quiet, ends_allowed, ends_exact}
use Rattle.command_frame.proofs.WriteLemmas.{told_ends, wrote_behind}
use Rattle.command_frame.specs.Outputs.{holding, OpensSearched}
use Rattle.command_frame.proofs.HoldLemmas.{IsNoneOf, named_output, named_after, others_after, held_after, held_alike}
use Rattle.command_frame.proofs.HoldLemmas.{others_stopped}
use Rattle.command_frame.proofs.OutputLemmas.{same_holding}
use Rattle.command_answers.specs.Audit.{AreKeptStarts, BoundsEveryRepair, audited_report, AnswersAudit}
use Rattle.branch_search.specs.Turns.{AreEnough}
use Rattle.local_search.specs.Openings.{IsWithoutStart}
use Rattle.branch_search.specs.Startless.{empty_certificate}
use Rattle.command_repair.specs.Repairing.{RepairFiles, AreDistinct, cert_write, out_write, Repairs}
use Rattle.command_answers.specs.Accepting.{IsAuditable}
use Rattle.command_repair.specs.Repairing.{AnswersRepair, DueRepair, ReadsRepair, BehindRepair, TellsRepair}
use Rattle.command_repair.specs.Repairing.{ExpectsRepair, KeepsOthers, RunsRepair}
use Rattle.command_repair.specs.Repairing.Repairs.{repaired, nothing, none, no_start}
use Rattle.command_repair.specs.Repairing.BehindRepair.{repaired as behind_repaired, nothing as behind_nothing}
use Rattle.command_repair.specs.Repairing.BehindRepair.{none as behind_none}
use Rattle.command_repair.specs.Repairing.BehindRepair.{refused_instance as behind_refused_instance}
use Rattle.command_repair.specs.Repairing.BehindRepair.{refused_plan as behind_refused_plan}
use Rattle.command_repair.specs.Repairing.BehindRepair.{unread_instance as behind_unread_instance}
use Rattle.command_repair.specs.Repairing.BehindRepair.{unread_plan as behind_unread_plan}
use Rattle.command_repair.specs.Repairing.ExpectsRepair.{no_instance, refused_instance, no_plan_file, refused_plan}
use Rattle.command_repair.specs.Repairing.ExpectsRepair.{no_start as expects_no_start, a_plan, no_plan}
use Rattle.command_repair.specs.Made.{AreRead, TellsSolution}
use Rattle.command_repair.specs.Made.TellsSolution.{told, no_memory as no_memory_left}

-- what is answered to a plan
abbrev OnOld : Limits → Meeting → List ℕ → RepairFiles → ℕ → Tables → Answer → Type 0
OnOld limits met plan files turns inst = OnPlan limits inst met 3 plan (λ old. Repairs limits inst old files turns)

-- ---- from one way of meeting the files to another

repair_other : (limits : Limits) (slack : ℕ) (met other : Meeting) (i p j q : List ℕ) (files : RepairFiles) (turns : ℕ)
    (a : Answer) → Carries met i other j → Carries met p other q → AnswersRepair limits met slack i p files turns a
    → AnswersRepair limits other slack j q files turns a
repair_other limits slack met other i p j q files turns a ci cp =
    on_other met other 2 i j (RefusesInstance limits) (TakesOne limits slack) (OnOld limits met p files turns)
    (OnOld limits other q files turns) a ci
    (λ inst b. on_other met other 3 p q (RefusesPlan limits inst) (Spells limits inst)
    (λ old. Repairs limits inst old files turns) (λ old. Repairs limits inst old files turns) b cp (λ x c
    repairs. repairs))

pub repair_stays : (limits : Limits) (source : Source) (name : List ℕ) (files : RepairFiles) (turns : ℕ)
    (old mid new : Shown)
    → Stays (λ at. AnswersRepair limits (reading old at) source.slack source.instance name files turns) mid new
repair_stays limits source name files turns old mid new goes a =
    repair_other limits source.slack (reading old mid) (reading old new) source.instance name source.instance name files
    turns a (later_reading source.instance old mid new goes) (later_reading name old mid new goes)

-- ---- what the files hold

-- each of these writings is that of one of the two files
abbrev AreOfFiles : RepairFiles → List Writing → Type 0
AreOfFiles files writes =
    (name : List ℕ) → name ≢ files.cert → name ≢ files.out → IsNoneOf name (files_of writes)

one_other : (name : List ℕ) (c : FileWrite) → name ≢ c.name → IsNoneOf name (c ∷ [])
one_other name c nc = All-cons (λ f. name ≢ f.name) c [] nc (All-nil (λ f. name ≢ f.name))

two_others : (name : List ℕ) (c p : FileWrite) → name ≢ c.name → name ≢ p.name → IsNoneOf name (c ∷ p ∷ [])
two_others name c p nc np = All-cons (λ f. name ≢ f.name) c (p ∷ []) nc (one_other name p np)

repairs_files : (limits : Limits) (inst : Tables) (old : List (Option ℕ)) (files : RepairFiles) (turns : ℕ) (a : Answer)
    → Repairs limits inst old files turns a → AreOfFiles files a.writes
repairs_files limits inst old files turns a (repaired plan bound cert m x k r) name c p =
    two_others name (cert_write inst files cert).file (out_write inst files plan).file c p
repairs_files limits inst old files turns a (nothing bound cert m x k) name c p =
    one_other name (cert_write inst files cert).file c
repairs_files limits inst old files turns a (none cert m x k) name c p =
    one_other name (cert_write inst files cert).file c
repairs_files limits inst old files turns a (no_start i w k) name c p =
    one_other name (cert_write inst files (empty_certificate i)).file c

no_files : (limits : Limits) (bytes : List ℕ) (a : Answer) → RefusesInstance limits bytes a → a.writes ≡ []
no_files limits bytes a (long_instance l) = refl
no_files limits bytes a (faulty_instance fault one) = refl

no_plan_files : (limits : Limits) (inst : Tables) (bytes : List ℕ) (a : Answer) → RefusesPlan limits inst bytes a
    → a.writes ≡ []
no_plan_files limits inst bytes a (long_plan l) = refl
no_plan_files limits inst bytes a (faulty_plan fault has) = refl

none_of_none : (files : RepairFiles) (writes : List Writing) → writes ≡ [] → AreOfFiles files writes
none_of_none files writes is name c p =
    subst (λ (w : List Writing). IsNoneOf name (files_of w)) (sym is) (All-nil (λ f. name ≢ f.name))

old_files : (limits : Limits) (met : Meeting) (plan : List ℕ) (files : RepairFiles) (turns : ℕ) (inst : Tables)
    (a : Answer)
    → OnOld limits met plan files turns inst a → AreOfFiles files a.writes
old_files limits met plan files turns inst a (unread fails) = none_of_none files [] refl
old_files limits met plan files turns inst a (refused bytes b held is) =
    none_of_none files b.writes (no_plan_files limits inst bytes b is)
old_files limits met plan files turns inst a (stands bytes old b held spells repairs) =
    repairs_files limits inst old files turns b repairs

answers_files : (limits : Limits) (met : Meeting) (slack : ℕ) (instance plan : List ℕ) (files : RepairFiles)
    (turns : ℕ) (a : Answer) → AnswersRepair limits met slack instance plan files turns a → AreOfFiles files a.writes
answers_files limits met slack instance plan files turns a (unread fails) = none_of_none files [] refl
answers_files limits met slack instance plan files turns a (refused bytes b held is) =
    none_of_none files b.writes (no_files limits bytes b is)
answers_files limits met slack instance plan files turns a (stands bytes inst b held takes due) =
    old_files limits met plan files turns inst b due

due_files : (limits : Limits) (source : Source) (name : List ℕ) (files : RepairFiles) (turns : ℕ) (old at : Shown)
    (a : Answer)
    → DueRepair limits source name files turns old at a → AreOfFiles files a.writes
due_files limits source name files turns old at a (answers b is) =
    answers_files limits (reading old at) source.slack source.instance name files turns b is
due_files limits source name files turns old at a no_memory = none_of_none files [] refl

-- ---- what stands behind a status

module _ (limits : Limits) (source : Source) (name : List ℕ) (files : RepairFiles) (turns : ℕ) (old new : Shown)
    (distinct : AreDistinct source.instance name files) (names : TellsNames old) where
  -- the certificate that was written is held, and so is the plan
  one_held : (c : FileWrite) → new.output ≡ (after_writes (c ∷ []) old).output → HoldsBytes new c.name c.bytes
  one_held c writes =
      held_alike (after_writes (c ∷ []) old).output.holds new.output.holds c.name c.bytes
      (same_holding (after_writes (c ∷ []) old) new c.name writes)
      (held_after c [] old (named_output old names) (All-nil (λ f. c.name ≢ f.name)))

  two_held : (c p : FileWrite) → c.name ≢ p.name → new.output ≡ (after_writes (c ∷ p ∷ []) old).output
      → HoldsBytes new c.name c.bytes × HoldsBytes new p.name p.bytes
  two_held c p apart writes =
      let named = named_output old names in
      let same : (f : FileWrite) → HoldsBytes (after_writes (c ∷ p ∷ []) old) f.name f.bytes
      → HoldsBytes new f.name f.bytes =
      λ f. held_alike (after_writes (c ∷ p ∷ []) old).output.holds new.output.holds f.name f.bytes
      (same_holding (after_writes (c ∷ p ∷ []) old) new f.name writes) in (
        same c (held_after c (p ∷ []) old named (one_other c.name p apart)),
        same p (held_after p [] (after_writes (c ∷ []) old) (named_after (c ∷ []) old named)
            (All-nil (λ f. p.name ≢ f.name))),
      )

  -- `audit` with the same instance, plan and slack accepts the certificate
  audits : (inst : Tables) (plan : List (Option ℕ)) (bytes plan_bytes : List ℕ) (cert : Certificate) (bound : Bound)
      → TakesOne limits source.slack bytes inst → Spells limits inst plan_bytes plan
      → IsAuditable limits inst plan cert → cert.bound ≡ bound
      → AnswersAudit limits by_bytes source.slack bytes plan_bytes (certificate_text inst cert)
      (reply 0 (audited_report inst bound))
  audits inst plan bytes plan_bytes cert bound takes spells good is =
      subst (λ (b : Bound). AnswersAudit limits by_bytes source.slack bytes plan_bytes (certificate_text inst cert)
      (reply 0 (audited_report inst b))) is
      (stands bytes inst (reply 0 (audited_report inst cert.bound)) refl takes
      (stands plan_bytes plan (reply 0 (audited_report inst cert.bound)) refl spells good.accepted))

  repaired_behind : (read : ReadsRepair limits source name old) (a : Answer)
      → Repairs limits read.inst read.plan files turns a → new.output ≡ (after_writes (files_of a.writes) old).output
      → Says a.text old new → BehindRepair limits source name files turns old new a.status
  repaired_behind read a (repaired plan bound cert made is good readable) writes says =
      let held = two_held (cert_write read.inst files cert).file (out_write read.inst files plan).file distinct.cert_out
      writes in
      behind_repaired (record {
        read = read;
        plan = plan;
        bound = bound;
        cert = cert;
        made = made;
        repaired = is;
        readable = readable;
        bounds = subst (BoundsEveryRepair read.inst read.plan) is.bound_is good.bounds;
        short = good.short;
        cert_held = held.0;
        out_held = held.1;
        accepted = audits read.inst read.plan read.reads.bytes read.reads_plan.bytes cert (Least bound) read.reads.such
            read.reads_plan.such good is.bound_is;
        says = says;
      })
  repaired_behind read a (nothing bound cert made is good) writes says =
      behind_nothing (record {
        read = read;
        bound = bound;
        cert = cert;
        made = made;
        nothing = is;
        bounds = subst (BoundsEveryRepair read.inst read.plan) is.bound_is good.bounds;
        short = good.short;
        cert_held = one_held (cert_write read.inst files cert).file writes;
        accepted = audits read.inst read.plan read.reads.bytes read.reads_plan.bytes cert (Least bound) read.reads.such
            read.reads_plan.such good is.bound_is;
        says = says;
      })
  repaired_behind read a (none cert made is good) writes says =
      behind_none (record {
        read = read;
        cert = cert;
        bound_is = is;
        no_plan = good.bounds.none is;
        short = good.short;
        made = inl made;
        cert_held = one_held (cert_write read.inst files cert).file writes;
        accepted = audits read.inst read.plan read.reads.bytes read.reads_plan.bytes cert NoPlan read.reads.such
            read.reads_plan.such good is;
        says = says;
      })
  repaired_behind read a (no_start i without good) writes says =
      behind_none (record {
        read = read;
        cert = empty_certificate i;
        bound_is = refl;
        no_plan = good.bounds.none refl;
        short = good.short;
        made = inr (i, without, refl);
        cert_held = one_held (cert_write read.inst files (empty_certificate i)).file writes;
        accepted = audits read.inst read.plan read.reads.bytes read.reads_plan.bytes (empty_certificate i) NoPlan
            read.reads.such read.reads_plan.such good refl;
        says = says;
      })

  old_behind : (inst : Tables) (a : Answer) → ReadsInstance limits source old inst
      → OnOld limits (reading old new) name files turns inst a
      → new.output ≡ (after_writes (files_of a.writes) old).output
      → Says a.text old new → BehindRepair limits source name files turns old new a.status
  old_behind inst a reads (unread fails) writes says =
      behind_unread_plan inst reads (record { fails = fails; says = says })
  old_behind inst a reads (refused bytes b held is) writes says =
      subst (λ (n : ℕ). BehindRepair limits source name files turns old new n) (sym (plan_status limits inst bytes b
      is))
      (behind_refused_plan inst reads (say_refusal name (RefusesPlan limits inst) old new bytes b held is says))
  old_behind inst a reads (stands bytes plan b held spells repairs) writes says =
      repaired_behind
      (record {
        inst = inst;
        reads = reads;
        plan = plan;
        reads_plan = record { bytes = bytes; held = held; such = spells };
      }) b repairs writes says

  repair_behind : (a : Answer) → AnswersRepair limits (reading old new) source.slack source.instance name files turns a
      → new.output ≡ (after_writes (files_of a.writes) old).output → Says a.text old new
      → BehindRepair limits source name files turns old new a.status
  repair_behind a (unread fails) writes says = behind_unread_instance (record { fails = fails; says = says })
  repair_behind a (refused bytes b held is) writes says =
      subst (λ (n : ℕ). BehindRepair limits source name files turns old new n)
      (sym (instance_status limits bytes b is))
      (behind_refused_instance
      (say_refusal source.instance (RefusesInstance limits) old new bytes b held is says))
  repair_behind a (stands bytes inst b held takes due) writes says =
      old_behind inst b (record { bytes = bytes; held = held; such = takes }) due writes says

  -- ---- which files are changed

  abbrev Due : Shown → Answer → Type 0
  Due at a = DueRepair limits source name files turns old at a

  repair_others : (status : ℕ) → Ends Due old new status → KeepsOthers files old new
  repair_others status (done n d) file c p =
      same_holding (after_writes (files_of d.answer.writes) old) new file d.writes
      ∙ others_after (files_of d.answer.writes) old file
      (due_files limits source name files turns old new d.answer d.due file c p)
  repair_others status (unsaid u) file c p =
      same_holding (after_writes (files_of u.answer.writes) old) new file u.writes
      ∙ others_after (files_of u.answer.writes) old file
      (due_files limits source name files turns old u.before u.answer u.due file c p)
  repair_others status (unwritten u) file c p =
      same_holding u.stopped new file u.output_is
      ∙ others_stopped (files_of u.answer.writes) u.n u.call u.before u.stopped file
      (due_files limits source name files turns old u.before u.answer u.due file c p) u.stops
      ∙ same_holding old u.before file u.output

  -- a refusal, and want of memory, write no file
  unopened_repairs : (inst : Tables) (plan : List (Option ℕ)) (a : Answer) → Repairs limits inst plan files turns a
      → (OpensSearched a.status → ⊥) → a.writes ≡ []
  unopened_repairs inst plan a (repaired p bound cert m x k r) opens = absurd (opens (inl refl))
  unopened_repairs inst plan a (nothing bound cert m x k) opens = absurd (opens (inr (inr (inl refl))))
  unopened_repairs inst plan a (none cert m x k) opens = absurd (opens (inr (inr (inr (inl refl)))))
  unopened_repairs inst plan a (no_start i w k) opens = absurd (opens (inr (inr (inr (inl refl)))))

  unopened_old : (inst : Tables) (a : Answer) → OnOld limits (reading old new) name files turns inst a
      → (OpensSearched a.status → ⊥) → a.writes ≡ []
  unopened_old inst a (unread fails) opens = refl
  unopened_old inst a (refused bytes b held is) opens = no_plan_files limits inst bytes b is
  unopened_old inst a (stands bytes plan b held spells repairs) opens = unopened_repairs inst plan b repairs opens

  unopened_answer : (a : Answer)
      → AnswersRepair limits (reading old new) source.slack source.instance name files turns a
      → (OpensSearched a.status → ⊥) → a.writes ≡ []
  unopened_answer a (unread fails) opens = refl
  unopened_answer a (refused bytes b held is) opens = no_files limits bytes b is
  unopened_answer a (stands bytes inst b held takes due) opens = unopened_old inst b due opens

  unopened_due : (a : Answer) → Due new a → (OpensSearched a.status → ⊥) → a.writes ≡ []
  unopened_due a (answers b is) opens = unopened_answer b is opens
  unopened_due a no_memory opens = refl

  repair_unopened : (status : ℕ) → Ends Due old new status → (OpensSearched status → ⊥) → new.output ≡ old.output
  repair_unopened status (done n d) opens =
      d.writes
      ∙ ap (λ (w : List Writing). (after_writes (files_of w) old).output)
      (unopened_due d.answer d.due (λ o. opens (subst OpensSearched (sym d.status_is) o)))
  repair_unopened status (unsaid u) opens = absurd (opens (inr (inl refl)))
  repair_unopened status (unwritten u) opens = absurd (opens (inr (inl refl)))

  -- where no plan is found, its file isn't written
  abbrev IsLow : ℕ → Type 0
  IsLow status = (status ≡ 9) ⊎ (status ≡ 10)

  one_only : (inst : Tables) (cert : Certificate) → IsNoneOf files.out ((cert_write inst files cert).file ∷ [])
  one_only inst cert = one_other files.out (cert_write inst files cert).file (λ e. distinct.cert_out (sym e))

  no_out_repairs : (inst : Tables) (plan : List (Option ℕ)) (a : Answer) → Repairs limits inst plan files turns a
      → IsLow a.status → IsNoneOf files.out (files_of a.writes)
  no_out_repairs inst plan a (repaired p bound cert m x k r) (inl is) = absurd (omega (arith, is))
  no_out_repairs inst plan a (repaired p bound cert m x k r) (inr is) = absurd (omega (arith, is))
  no_out_repairs inst plan a (nothing bound cert m x k) low = one_only inst cert
  no_out_repairs inst plan a (none cert m x k) low = one_only inst cert
  no_out_repairs inst plan a (no_start i w k) low = one_only inst (empty_certificate i)

  no_out_old : (inst : Tables) (a : Answer) → OnOld limits (reading old new) name files turns inst a
      → IsLow a.status → IsNoneOf files.out (files_of a.writes)
  no_out_old inst a (unread fails) low = All-nil (λ f. files.out ≢ f.name)
  no_out_old inst a (refused bytes b held is) low =
      subst (λ (w : List Writing). IsNoneOf files.out (files_of w)) (sym (no_plan_files limits inst bytes b is))
      (All-nil (λ f. files.out ≢ f.name))
  no_out_old inst a (stands bytes plan b held spells repairs) low = no_out_repairs inst plan b repairs low

  no_out_answer : (a : Answer) → AnswersRepair limits (reading old new) source.slack source.instance name files turns a
      → IsLow a.status → IsNoneOf files.out (files_of a.writes)
  no_out_answer a (unread fails) low = All-nil (λ f. files.out ≢ f.name)
  no_out_answer a (refused bytes b held is) low =
      subst (λ (w : List Writing). IsNoneOf files.out (files_of w)) (sym (no_files limits bytes b is))
      (All-nil (λ f. files.out ≢ f.name))
  no_out_answer a (stands bytes inst b held takes due) low = no_out_old inst b due low

  no_out_due : (a : Answer) → Due new a → IsLow a.status → IsNoneOf files.out (files_of a.writes)
  no_out_due a (answers b is) low = no_out_answer b is low
  no_out_due a no_memory low = All-nil (λ f. files.out ≢ f.name)

  repair_no_out : (status : ℕ) → Ends Due old new status → IsLow status → holding new files.out ≡ holding old files.out
  repair_no_out status (done n d) low =
      same_holding (after_writes (files_of d.answer.writes) old) new files.out d.writes
      ∙ others_after (files_of d.answer.writes) old files.out
      (no_out_due d.answer d.due (subst IsLow d.status_is low))
  repair_no_out status (unsaid u) (inl e) = absurd (omega (arith, e))
  repair_no_out status (unsaid u) (inr e) = absurd (omega (arith, e))
  repair_no_out status (unwritten u) (inl e) = absurd (omega (arith, e))
  repair_no_out status (unwritten u) (inr e) = absurd (omega (arith, e))

  -- ---- which status comes

  no_start_status : (inst : Tables) (plan : List (Option ℕ)) (i : ℕ) (a : Answer) → IsWithoutStart inst i
      → Repairs limits inst plan files turns a → OrUnread 10 a
  no_start_status inst plan i a without (repaired p bound cert m x k readable) =
      let start = readable.keeps.starts i without.number in absurd (without.none start.start start.allowed)
  no_start_status inst plan i a without (nothing bound cert made x k) =
      absurd (without.none _ (made.opens.at i without.number).allowed)
  no_start_status inst plan i a without (none cert m x k) = inr refl
  no_start_status inst plan i a without (no_start j w k) = inr refl

  a_plan_status : (inst : Tables) (plan : List (Option ℕ)) (starts : List ℕ) (a : Answer) → AreKeptStarts inst starts
      → AreEnough inst turns → Repairs limits inst plan files turns a → OrUnread 0 a
  a_plan_status inst plan starts a kept enough (repaired p bound cert m x k r) = inr refl
  a_plan_status inst plan starts a kept enough (nothing bound cert m is k) = absurd (is.too_few enough)
  a_plan_status inst plan starts a kept enough (none cert m is good) = absurd (good.bounds.none is starts kept)
  a_plan_status inst plan starts a kept enough (no_start i w good) = absurd (good.bounds.none refl starts kept)

  no_plan_status : (inst : Tables) (plan : List (Option ℕ)) (a : Answer)
      → ((starts : List ℕ) → AreKeptStarts inst starts → ⊥) → AreEnough inst turns
      → Repairs limits inst plan files turns a → OrUnread 10 a
  no_plan_status inst plan a never enough (repaired p bound cert m x k readable) =
      absurd (never p (record { each = readable.each; keeps = readable.keeps }))
  no_plan_status inst plan a never enough (nothing bound cert m is k) = absurd (is.too_few enough)
  no_plan_status inst plan a never enough (none cert m x k) = inr refl
  no_plan_status inst plan a never enough (no_start i w k) = inr refl

  abbrev Next : Tables → Answer → Type 0
  Next inst = OnOld limits (reading old new) name files turns inst

  on_both : (inst : Tables) (plan : List (Option ℕ)) (a : Answer) → TellsRepair limits old source name inst plan
      → AnswersRepair limits (reading old new) source.slack source.instance name files turns a
      → (a.status ≡ 7) ⊎ Repairs limits inst plan files turns a
  on_both inst plan a tells due =
      then_more (Next inst a) (Repairs limits inst plan files turns a) a
      (on_spelled limits inst name old new (λ p. Repairs limits inst p files turns) plan a tells.plan_told)
      (on_taken limits source old new Next inst a tells.instance due)

  repair_expects : (expected : ℕ) → ExpectsRepair limits source name turns old expected → (a : Answer)
      → AnswersRepair limits (reading old new) source.slack source.instance name files turns a → OrUnread expected a
  repair_expects expected (no_instance missing) a due =
      inl (missing_file 2 source.instance old new (RefusesInstance limits) (TakesOne limits source.slack) Next a
      missing due)
  repair_expects expected (refused_instance tells) a due = bad_instance limits source old new Next a tells due
  repair_expects expected (no_plan_file inst tells missing) a due =
      then_next (Next inst a) 7 a
      (λ d. inl (missing_file 3 name old new (RefusesPlan limits inst) (Spells limits inst)
      (λ p. Repairs limits inst p files turns) a missing d))
      (on_taken limits source old new Next inst a tells due)
  repair_expects expected (refused_plan inst tells bad) a due =
      then_next (Next inst a) 4 a (bad_plan limits inst name old new (λ p. Repairs limits inst p files turns) a bad)
      (on_taken limits source old new Next inst a tells due)
  repair_expects expected (expects_no_start inst plan i tells without) a due =
      then_next (Repairs limits inst plan files turns a) 10 a (no_start_status inst plan i a without)
      (on_both inst plan a tells due)
  repair_expects expected (a_plan inst plan starts tells kept enough) a due =
      then_next (Repairs limits inst plan files turns a) 0 a (a_plan_status inst plan starts a kept enough)
      (on_both inst plan a tells due)
  repair_expects expected (no_plan inst plan tells never enough) a due =
      then_next (Repairs limits inst plan files turns a) 10 a (no_plan_status inst plan a never enough)
      (on_both inst plan a tells due)

  -- ---- a run

  pub repair_runs : (status : ℕ) → Ends Due old new status
      → RunsRepair limits source name files turns old new status
  repair_runs status ends =
      record {
        ends = ends;
        behind = wrote_behind
            (λ at. AnswersRepair limits (reading old at) source.slack source.instance name files turns)
            (BehindRepair limits source name files turns old new) old new status repair_behind ends;
        allowed = λ expected expects.
            ends_allowed (λ at. AnswersRepair limits (reading old at) source.slack source.instance name files turns) old
            new status expected (repair_expects expected expects) ends;
        exact = λ instance plan tells tells_plan calm.
            ends_exact (λ at. AnswersRepair limits (reading old at) source.slack source.instance name files turns)
            (AnswersRepair limits by_bytes source.slack instance plan files turns) old new status
            (λ a. repair_other limits source.slack (reading old new) by_bytes source.instance name instance plan files
            turns a (exact_reading source.instance instance old new tells calm)
            (exact_reading name plan old new tells_plan calm)) calm ends;
        others = repair_others status ends;
        unopened = repair_unopened status ends;
        no_out = repair_no_out status ends;
        quiet = ends_quiet Due old new status ends;
      }

-- ---- the end of a run

module _ (source : Source) (name : List ℕ) (files : RepairFiles) (turns : ℕ) (old mid new : Shown)
    (reads : OnlyReads old mid) where
  abbrev Answers : Shown → Answer → Type 0
  Answers at = AnswersRepair standard_limits (reading old at) source.slack source.instance name files turns

  stays : (at : Shown) → Stays Answers mid at
  stays at = repair_stays standard_limits source name files turns old mid at

  -- the files were read, and their solution was told, or memory ran out
  pub solution_ends : (inst : Tables) (plan : List (Option ℕ)) (status : ℕ) → AreRead standard_limits source name old
      inst plan
      → mid.faults ≡ old.faults → TellsSolution inst plan files turns mid new status
      → Ends (DueRepair standard_limits source name files turns old) old new status
  solution_ends inst plan status read last (told a repairs tells) =
      told_ends Answers old mid a reads last
      (after_instance standard_limits source old mid inst (OnOld standard_limits (reading old mid) name files turns) a
      read.reads
      (stands read.reads_plan.bytes plan a read.reads_plan.held read.reads_plan.such repairs)) new status stays tells
  solution_ends inst plan status read last (no_memory_left keeps says) =
      memory_ends Answers old mid new status reads keeps last says

  -- a file was refused
  pub refused_ends : (refusal : Refusal) (status : ℕ) → KeepsFiles mid new → CountsRefusal old mid refusal
      → IsDueAs (Answers mid) refusal → SaysRefused refusal mid new status
      → Ends (DueRepair standard_limits source name files turns old) old new status
  refused_ends refusal status keeps kept due says =
      refusal_ends Answers old mid new refusal status (stays new) reads keeps kept due says
