-- What a run of `bound` promises follows from its end.
use Rattle.std.proofs.Common.{◌≡◌, inl, inr, ◌⊎◌, ℕ, List, [], ◌∷◌, Option, Some, None, refl, sym, ◌∙◌}
use Rattle.std.proofs.Common.{ap, subst}
use Rattle.plan_desk.specs.Desk.{Shown, TellsNames}
use Rattle.plan_desk.specs.Contents.{Says}
use Rattle.plan_desk.specs.FileWrites.{after_writes}
use Rattle.instance_model.specs.declared.limits.Limits.{Limits}
use Rattle.instance_model.specs.Tables.{Tables}
use Rattle.certificate_lines.specs.declared.line.Bound.{Bound}
use Rattle.certificate_lines.specs.declared.line.Bound.TheVariants.{NoPlan, Least}
use Rattle.branch_search.specs.declared.part.Part.{Part}
use Rattle.refined_check.specs.declared.certificate.certificate.RefinedCertificate.{RefinedCertificate}
use Rattle.refined_text.specs.text.Text.{refined_text}
use Rattle.refined_files.specs.RefinedKind.{refined_kind}
use Rattle.refined_search.specs.declared.raised.Raised.{Raised}
use Rattle.branch_search.specs.Turns.{AreEnough}
use Rattle.command_frame.specs.Sources.{Source}
use Rattle.command_frame.specs.Reports.{accepted_report}
use Rattle.command_frame.specs.Ending.{Writing, Answer, files_of, reply, Ends, IsAllowed}
use Rattle.command_frame.specs.Ending.OrMemory.{answers, no_memory}
use Rattle.command_frame.specs.Ending.Ends.{done, unsaid, unwritten}
use Rattle.command_frame.specs.Bytes.{TakesOne, RefusesInstance, Spells, RefusesPlan, SpellsOneBy, RefusesCertificateBy}
use Rattle.command_frame.specs.Bytes.{IsRefusedCertificateBy}
use Rattle.command_frame.specs.Bytes.RefusesInstance.{long_instance, faulty_instance}
use Rattle.command_frame.specs.Bytes.RefusesPlan.{long_plan, faulty_plan}
use Rattle.command_frame.specs.Bytes.RefusesCertificateBy.{long_certificate, faulty_certificate}
use Rattle.command_frame.specs.Files.{Meeting, reading, by_bytes, OnGiven, OnCertificateBy, ReadsInstance, ReadsGiven}
use Rattle.command_frame.specs.Files.{TellsInstance, TellsGiven}
use Rattle.command_frame.specs.Files.OnFile.{unread, refused, stands}
use Rattle.command_frame.proofs.FileLemmas.{Carries, CarriesGiven, on_other, on_given_other, later_reading, later_given}
use Rattle.command_frame.proofs.FileLemmas.{exact_reading, exact_given, OrUnread, missing_file, refused_file}
use Rattle.command_frame.proofs.FileLemmas.{then_next, then_more, say_refusal}
use Rattle.command_frame.proofs.AnswerLemmas.{instance_status, plan_status, certificate_status, refused_apart}
use Rattle.command_frame.proofs.TakenLemmas.{on_taken, bad_instance, bad_plan}
use Rattle.command_frame.proofs.EndLemmas.{Stays, ends_quiet, ends_allowed, ends_exact}
use Rattle.command_frame.proofs.WriteLemmas.{wrote_behind}
use Rattle.command_frame.proofs.OutputLemmas.{WritesOnly, writes_none, writes_one, others_kept, one_held}
use Rattle.command_answers.specs.Check.{IsKeptPlan, BoundsEveryPlan, ChecksBy}
use Rattle.command_bound.specs.Given.{OnGivenCertificateBy, ReadsGivenCertificateBy}
use Rattle.command_bound.specs.Bounding.{IsLeastScore, bound_status, bound_report, out_write, IsBounded, RaisesBound}
use Rattle.command_bound.specs.Bounding.{LeavesTheRest}
use Rattle.command_bound.specs.Bounding.{AnswersBound, DueBound, ReadsBound, WritesBound, BehindBound, ExpectsBound}
use Rattle.command_bound.specs.Bounding.{BoundFiles, TellsBoundFiles, ExpectsMade, OpensBound, RunsBound}
use Rattle.command_bound.specs.Bounding.RaisesBound.{raised, too_long}
use Rattle.command_bound.specs.Bounding.BehindBound.{bounded, no_plan_exists, too_long as behind_too_long}
use Rattle.command_bound.specs.Bounding.BehindBound.{refused_instance as behind_refused_instance}
use Rattle.command_bound.specs.Bounding.BehindBound.{refused_plan as behind_refused_plan}
use Rattle.command_bound.specs.Bounding.BehindBound.{refused_certificate as behind_refused_certificate}
use Rattle.command_bound.specs.Bounding.BehindBound.{unread_instance, unread_plan, unread_certificate}
use Rattle.command_bound.specs.Bounding.ExpectsBound.{no_instance, refused_instance, no_plan, refused_plan}
use Rattle.command_bound.specs.Bounding.ExpectsBound.{no_certificate, refused_certificate}
use Rattle.command_bound.specs.Bounding.ExpectsMade.{a_plan, none_keeps}
use Rattle.command_bound.proofs.GivenLemmas.{on_given_certificate_other, on_told_certificate, on_named_certificate}
use Rattle.command_bound.proofs.GivenLemmas.{on_told_plan, on_named_plan}
use Rattle.command_bound.proofs.LeastLemmas.{least_of_one}

-- ---- from one way of meeting the files to another

-- what is answered to the certificate, and to the plan
abbrev OnCert : Limits → Meeting → Option (List ℕ) → List ℕ → ℕ → Part → Tables → Option (List (Option ℕ)) → Answer
    → Type 0
OnCert limits met cert out turns part inst given =
    OnGivenCertificateBy refined_kind.texts limits inst met 4 cert (RaisesBound limits inst given out turns part)

abbrev OnPlanned : Limits → Meeting → (plan cert : Option (List ℕ)) → List ℕ → ℕ → Part → Tables → Answer → Type 0
OnPlanned limits met plan cert out turns part inst =
    OnGiven limits inst met 3 plan (OnCert limits met cert out turns part inst)

bound_other : (limits : Limits) (slack : ℕ) (met other : Meeting) (i : List ℕ) (p c : Option (List ℕ)) (j : List ℕ)
    (q d : Option (List ℕ)) (out : List ℕ) (turns : ℕ) (part : Part) (a : Answer) → Carries met i other j
    → CarriesGiven met p other q → CarriesGiven met c other d → AnswersBound limits met slack i p c out turns part a
    → AnswersBound limits other slack j q d out turns part a
bound_other limits slack met other i p c j q d out turns part a ci cp cd =
    on_other met other 2 i j (RefusesInstance limits) (TakesOne limits slack) (OnPlanned limits met p c out turns part)
    (OnPlanned limits other q d out turns part) a ci
    (λ inst b. on_given_other limits inst met other 3 p q (OnCert limits met c out turns part inst)
    (OnCert limits other d out turns part inst) b cp
    (λ x e. on_given_certificate_other refined_kind.texts limits inst met other 4 c d
    (RaisesBound limits inst x out turns part) (RaisesBound limits inst x out turns part) e cd (λ y f raises. raises)))

pub bound_stays : (limits : Limits) (source : Source) (name cert_name : Option (List ℕ)) (out : List ℕ) (turns : ℕ)
    (part : Part)
    (old mid new : Shown)
    → Stays (λ at. AnswersBound limits (reading old at) source.slack source.instance name cert_name out turns part) mid
    new
bound_stays limits source name cert_name out turns part old mid new goes a =
    bound_other limits source.slack (reading old mid) (reading old new) source.instance name cert_name source.instance
    name cert_name out turns part a (later_reading source.instance old mid new goes) (later_given name old mid new goes)
    (later_given cert_name old mid new goes)

-- ---- which files are written

instance_none : (limits : Limits) (bytes : List ℕ) (a : Answer) → RefusesInstance limits bytes a → a.writes ≡ []
instance_none limits bytes a (long_instance l) = refl
instance_none limits bytes a (faulty_instance fault one) = refl

plan_none : (limits : Limits) (inst : Tables) (bytes : List ℕ) (a : Answer) → RefusesPlan limits inst bytes a
    → a.writes ≡ []
plan_none limits inst bytes a (long_plan l) = refl
plan_none limits inst bytes a (faulty_plan fault has) = refl

certificate_none : (limits : Limits) (inst : Tables) (bytes : List ℕ) (a : Answer)
    → RefusesCertificateBy refined_kind.texts limits inst bytes a → a.writes ≡ []
certificate_none limits inst bytes a (long_certificate l) = refl
certificate_none limits inst bytes a (faulty_certificate fault one) = refl

-- an answer writes the file of the certificate, or none; and that only with these statuses
record Writes (out : List ℕ) (a : Answer) : Type 0 where
  only : WritesOnly out a.writes
  opened : (OpensBound a.status → ⊥) → a.writes ≡ []

none_written : (out : List ℕ) (a : Answer) → a.writes ≡ [] → Writes out a
none_written out a none = record { only = writes_none out a.writes none; opened = λ opens. none }

status_opens : (bound : Bound) → OpensBound (bound_status bound)
status_opens (Least b) = inl refl
status_opens NoPlan = inr (inr (inl refl))

raises_writes : (limits : Limits) (inst : Tables) (given : Option (List (Option ℕ))) (out : List ℕ) (turns : ℕ)
    (part : Part)
    (cert : Option RefinedCertificate) (a : Answer) → RaisesBound limits inst given out turns part cert a → Writes out a
raises_writes limits inst given out turns part cert a (raised handed_in answer is) = record {
  only = writes_one (out_write inst out answer.cert);
  opened = λ opens. absurd (opens (status_opens answer.cert.bound));
}
raises_writes limits inst given out turns part cert a (too_long handed_in answer plan_is long) =
    none_written out a refl

cert_writes : (limits : Limits) (met : Meeting) (cert : Option (List ℕ)) (out : List ℕ) (turns : ℕ) (part : Part)
    (inst : Tables)
    (given : Option (List (Option ℕ))) (a : Answer) → OnCert limits met cert out turns part inst given a → Writes out a
cert_writes limits met None out turns part inst given a raises = raises_writes limits inst given out turns part None a
    raises
cert_writes limits met (Some cert) out turns part inst given a (unread fails) = none_written out a refl
cert_writes limits met (Some cert) out turns part inst given a (refused bytes b held is) =
    none_written out b (certificate_none limits inst bytes b is)
cert_writes limits met (Some cert) out turns part inst given a (stands bytes x b held spells raises) =
    raises_writes limits inst given out turns part (Some x) b raises

plan_writes : (limits : Limits) (met : Meeting) (plan cert : Option (List ℕ)) (out : List ℕ) (turns : ℕ) (part : Part)
    (inst : Tables)
    (a : Answer) → OnPlanned limits met plan cert out turns part inst a → Writes out a
plan_writes limits met None cert out turns part inst a due = cert_writes limits met cert out turns part inst None a due
plan_writes limits met (Some plan) cert out turns part inst a (unread fails) = none_written out a refl
plan_writes limits met (Some plan) cert out turns part inst a (refused bytes b held is) =
    none_written out b (plan_none limits inst bytes b is)
plan_writes limits met (Some plan) cert out turns part inst a (stands bytes x b held spells due) =
    cert_writes limits met cert out turns part inst (Some x) b due

answers_write : (limits : Limits) (met : Meeting) (slack : ℕ) (instance : List ℕ) (plan cert : Option (List ℕ))
    (out : List ℕ) (turns : ℕ) (part : Part) (a : Answer)
    → AnswersBound limits met slack instance plan cert out turns part a
    → Writes out a
answers_write limits met slack instance plan cert out turns part a (unread fails) = none_written out a refl
answers_write limits met slack instance plan cert out turns part a (refused bytes b held is) =
    none_written out b (instance_none limits bytes b is)
answers_write limits met slack instance plan cert out turns part a (stands bytes inst b held takes due) =
    plan_writes limits met plan cert out turns part inst b due

due_writes : (limits : Limits) (source : Source) (name cert_name : Option (List ℕ)) (out : List ℕ) (turns : ℕ)
    (part : Part)
    (old at : Shown) (a : Answer) → DueBound limits source name cert_name out turns part old at a → Writes out a
due_writes limits source name cert_name out turns part old at a (answers b is) =
    answers_write limits (reading old at) source.slack source.instance name cert_name out turns part b is
due_writes limits source name cert_name out turns part old at a no_memory = none_written out a refl

-- ---- which status a certificate that is made comes with

number_status : (bound : Bound) → (bound ≡ NoPlan → ⊥) → bound_status bound ≡ 0
number_status (Least b) some = refl
number_status NoPlan some = absurd (some refl)

none_status : (bound : Bound) → bound ≡ NoPlan → bound_status bound ≡ 10
none_status bound e = ap bound_status e

-- where a plan keeps every rule the bound is a number
kept_status : (limits : Limits) (inst : Tables) (given : Option (List (Option ℕ))) (out : List ℕ) (turns : ℕ)
    (part : Part)
    (cert : Option RefinedCertificate) (plan : List (Option ℕ)) (a : Answer) → IsKeptPlan inst plan
    → RaisesBound limits inst given out turns part cert a → (a.status ≡ 12) ⊎ (a.status ≡ 0)
kept_status limits inst given out turns part cert plan a keeps (raised handed_in answer is) =
    inr (number_status answer.cert.bound (λ e. is.checkable.bounds.none e plan keeps))
kept_status limits inst given out turns part cert plan a keeps (too_long handed_in answer plan_is is) = inl refl

-- where none does, a bound that is the least score is none
none_least : (inst : Tables) (bound : Bound) → ((plan : List (Option ℕ)) → IsKeptPlan inst plan → ⊥)
    → IsLeastScore inst bound → bound ≡ NoPlan
none_least inst NoPlan none is = refl
none_least inst (Least b) none is = absurd (none is.0.0 is.0.1)

spent_status : (limits : Limits) (inst : Tables) (given : Option (List (Option ℕ))) (out : List ℕ) (turns : ℕ)
    (part : Part)
    (cert : Option RefinedCertificate) (a : Answer) → ((plan : List (Option ℕ)) → IsKeptPlan inst plan → ⊥)
    → part.count ≡ 1 → AreEnough inst turns → RaisesBound limits inst given out turns part cert a
    → (a.status ≡ 12) ⊎ (a.status ≡ 10)
spent_status limits inst given out turns part cert a none one enough (raised handed_in answer is) =
    inr (none_status answer.cert.bound (none_least inst answer.cert.bound none
    (least_of_one inst handed_in cert turns part is.most answer is.is one (is.enough enough))))
spent_status limits inst given out turns part cert a none one enough (too_long handed_in answer plan_is is) = inl refl

module _ (limits : Limits) (source : Source) (name cert_name : Option (List ℕ)) (out : List ℕ) (turns : ℕ) (part : Part)
    (old new : Shown) (names : TellsNames old) where
  abbrev Answering : Shown → Answer → Type 0
  Answering at = AnswersBound limits (reading old at) source.slack source.instance name cert_name out turns part

  abbrev Due : Shown → Answer → Type 0
  Due = DueBound limits source name cert_name out turns part old

  abbrev Stand : ℕ → Type 0
  Stand = BehindBound limits source name cert_name out turns part old new

  -- ---- what stands behind a status

  writes_bound : (files : ReadsBound limits source name cert_name old) (handed_in : Option (List ℕ)) (answer : Raised)
      (bound : Bound) → answer.cert.bound ≡ bound
      → IsBounded limits files.inst files.plan files.cert turns part handed_in answer
      → new.output ≡ (after_writes ((out_write files.inst out answer.cert).file ∷ []) old).output
      → Says (bound_report files.inst handed_in answer) old new
      → WritesBound limits source name cert_name out turns part bound old new
  writes_bound files handed_in answer bound e is writes says = record {
    files = files;
    handed_in = handed_in;
    plan = is.plan;
    answer = answer;
    most = is.most;
    left_out = is.left_out;
    is = is.is;
    bound_is = e;
    bounds = subst (BoundsEveryPlan files.inst) e is.checkable.bounds;
    spent = subst (λ (b : Bound). (answer.splits ≡ turns) ⊎ IsLeastScore files.inst b
        ⊎ LeavesTheRest files.inst handed_in files.cert turns part is.most answer is.is) e is.spent;
    enough = λ enough. subst (λ (b : Bound). IsLeastScore files.inst b
        ⊎ LeavesTheRest files.inst handed_in files.cert turns part is.most answer is.is) e (is.enough enough);
    within = is.within;
    held = one_held Due old new (out_write files.inst out answer.cert).file names writes;
    accepted = stands files.reads.bytes files.inst (reply 0 (accepted_report files.inst bound None)) refl
        files.reads.such
        (subst (λ (b : Bound). OnCertificateBy refined_kind.texts limits files.inst by_bytes 4
        (refined_text files.inst answer.cert) (ChecksBy refined_kind files.inst None)
        (reply 0 (accepted_report files.inst b None))) e is.checkable.accepted);
    says = says;
  }

  by_bound : (files : ReadsBound limits source name cert_name old) (handed_in : Option (List ℕ)) (answer : Raised)
      (bound : Bound) → answer.cert.bound ≡ bound
      → IsBounded limits files.inst files.plan files.cert turns part handed_in answer
      → new.output ≡ (after_writes ((out_write files.inst out answer.cert).file ∷ []) old).output
      → Says (bound_report files.inst handed_in answer) old new → Stand (bound_status bound)
  by_bound files handed_in answer (Least b) e is writes says =
      bounded b (writes_bound files handed_in answer (Least b) e is writes says)
  by_bound files handed_in answer NoPlan e is writes says =
      no_plan_exists (writes_bound files handed_in answer NoPlan e is writes says)

  raises_behind : (files : ReadsBound limits source name cert_name old) (a : Answer)
      → RaisesBound limits files.inst files.plan out turns part files.cert a
      → new.output ≡ (after_writes (files_of a.writes) old).output → Says a.text old new → Stand a.status
  raises_behind files a (raised handed_in answer is) writes says =
      by_bound files handed_in answer answer.cert.bound refl is writes says
  raises_behind files a (too_long handed_in answer plan is) writes says =
      behind_too_long (record {
        files = files;
        handed_in = handed_in;
        plan = plan;
        answer = answer;
        too_long = is;
        says = says;
      })

  cert_behind : (cert : Option (List ℕ)) (inst : Tables) (plan : Option (List (Option ℕ))) (a : Answer)
      → cert_name ≡ cert → ReadsInstance limits source old inst → ReadsGiven limits name inst old plan
      → OnCert limits (reading old new) cert out turns part inst plan a
      → new.output ≡ (after_writes (files_of a.writes) old).output → Says a.text old new → Stand a.status
  cert_behind None inst plan a e reads reads_plan raises writes says =
      raises_behind (record {
        inst = inst;
        reads = reads;
        plan = plan;
        reads_plan = reads_plan;
        cert = None;
        reads_cert = subst (λ (o : Option (List ℕ)). ReadsGivenCertificateBy refined_kind.texts limits o inst old None)
            (sym e) tt;
      }) a raises writes says
  cert_behind (Some cert) inst plan a e reads reads_plan (unread fails) writes says =
      unread_certificate cert inst plan e reads reads_plan (record { fails = fails; says = says })
  cert_behind (Some cert) inst plan a e reads reads_plan (refused bytes b held is) writes says =
      subst Stand (sym (certificate_status limits inst bytes b is))
      (behind_refused_certificate cert inst plan e reads reads_plan
      (say_refusal cert (RefusesCertificateBy refined_kind.texts limits inst) old new bytes b held is says))
  cert_behind (Some cert) inst plan a e reads reads_plan (stands bytes x b held spells raises) writes says =
      raises_behind (record {
        inst = inst;
        reads = reads;
        plan = plan;
        reads_plan = reads_plan;
        cert = Some x;
        reads_cert = subst
            (λ (o : Option (List ℕ)). ReadsGivenCertificateBy refined_kind.texts limits o inst old (Some x)) (sym e)
            (record { bytes = bytes; held = held; such = spells });
      }) b raises writes says

  plan_behind : (plan : Option (List ℕ)) (inst : Tables) (a : Answer) → name ≡ plan
      → ReadsInstance limits source old inst → OnPlanned limits (reading old new) plan cert_name out turns part inst a
      → new.output ≡ (after_writes (files_of a.writes) old).output → Says a.text old new → Stand a.status
  plan_behind None inst a e reads due writes says =
      cert_behind cert_name inst None a refl reads
      (subst (λ (o : Option (List ℕ)). ReadsGiven limits o inst old None) (sym e) tt) due writes says
  plan_behind (Some plan) inst a e reads (unread fails) writes says =
      unread_plan plan inst e reads (record { fails = fails; says = says })
  plan_behind (Some plan) inst a e reads (refused bytes b held is) writes says =
      subst Stand (sym (plan_status limits inst bytes b is))
      (behind_refused_plan plan inst e reads
      (say_refusal plan (RefusesPlan limits inst) old new bytes b held is says))
  plan_behind (Some plan) inst a e reads (stands bytes x b held spells due) writes says =
      cert_behind cert_name inst (Some x) b refl reads
      (subst (λ (o : Option (List ℕ)). ReadsGiven limits o inst old (Some x)) (sym e)
      (record { bytes = bytes; held = held; such = spells })) due writes says

  answer_behind : (a : Answer) → Answering new a → new.output ≡ (after_writes (files_of a.writes) old).output
      → Says a.text old new → Stand a.status
  answer_behind a (unread fails) writes says = unread_instance (record { fails = fails; says = says })
  answer_behind a (refused bytes b held is) writes says =
      subst Stand (sym (instance_status limits bytes b is))
      (behind_refused_instance (say_refusal source.instance (RefusesInstance limits) old new bytes b held is says))
  answer_behind a (stands bytes inst b held takes due) writes says =
      plan_behind name inst b refl (record { bytes = bytes; held = held; such = takes }) due writes says

  -- ---- which status comes

  abbrev Next : Tables → Answer → Type 0
  Next inst = OnPlanned limits (reading old new) name cert_name out turns part inst

  abbrev Then : Tables → Option (List (Option ℕ)) → Answer → Type 0
  Then inst = OnCert limits (reading old new) cert_name out turns part inst

  on_plan : (inst : Tables) (plan : Option (List (Option ℕ))) (a : Answer) → TellsInstance limits old source inst
      → TellsGiven limits old name inst plan → Answering new a → (a.status ≡ 7) ⊎ Then inst plan a
  on_plan inst plan a tells tells_plan due =
      then_more (Next inst a) (Then inst plan a) a
      (on_told_plan limits inst name old new (Then inst) plan a tells_plan)
      (on_taken limits source old new Next inst a tells due)

  on_files : (files : BoundFiles) (a : Answer) → TellsBoundFiles limits old source name cert_name files
      → Answering new a → (a.status ≡ 7) ⊎ RaisesBound limits files.inst files.plan out turns part files.cert a
  on_files files a tells due =
      then_more (Then files.inst files.plan a) (RaisesBound limits files.inst files.plan out turns part files.cert a) a
      (on_told_certificate refined_kind.texts limits files.inst 4 cert_name old new
      (RaisesBound limits files.inst files.plan out turns part) files.cert a tells.cert)
      (on_plan files.inst files.plan a tells.instance tells.plan due)

  bound_expects : (expected : ℕ) → ExpectsBound limits source name cert_name old expected → (a : Answer)
      → Answering new a → OrUnread expected a
  bound_expects expected (no_instance missing) a due =
      inl (missing_file 2 source.instance old new (RefusesInstance limits) (TakesOne limits source.slack) Next a missing
      due)
  bound_expects expected (refused_instance tells) a due = bad_instance limits source old new Next a tells due
  bound_expects expected (no_plan plan inst is tells missing) a due =
      then_next (Next inst a) 7 a
      (λ d. inl (missing_file 3 plan old new (RefusesPlan limits inst) (Spells limits inst)
      (λ p. Then inst (Some p)) a missing (on_named_plan limits inst name plan old new (Then inst) a is d)))
      (on_taken limits source old new Next inst a tells due)
  bound_expects expected (refused_plan plan inst is tells bad) a due =
      then_next (Next inst a) 4 a
      (λ d. bad_plan limits inst plan old new (λ p. Then inst (Some p)) a bad
      (on_named_plan limits inst name plan old new (Then inst) a is d))
      (on_taken limits source old new Next inst a tells due)
  bound_expects expected (no_certificate cert inst plan is tells tells_plan missing) a due =
      then_next (Then inst plan a) 7 a
      (λ d. inl (missing_file 4 cert old new (RefusesCertificateBy refined_kind.texts limits inst)
      (SpellsOneBy refined_kind.texts limits inst) (λ x. RaisesBound limits inst plan out turns part (Some x)) a missing
      (on_named_certificate refined_kind.texts limits inst 4 cert_name cert old new
      (RaisesBound limits inst plan out turns part) a is d)))
      (on_plan inst plan a tells tells_plan due)
  bound_expects expected (refused_certificate cert inst plan is tells tells_plan bad) a due =
      then_next (Then inst plan a) 5 a
      (λ d. refused_file 4 cert old new (RefusesCertificateBy refined_kind.texts limits inst)
      (SpellsOneBy refined_kind.texts limits inst) (λ x. RaisesBound limits inst plan out turns part (Some x)) a
      (IsRefusedCertificateBy refined_kind.texts limits inst) 5 bad
      (λ bytes x one. refused_apart limits inst bytes x one) (certificate_status limits inst)
      (on_named_certificate refined_kind.texts limits inst 4 cert_name cert old new
      (RaisesBound limits inst plan out turns part) a is d))
      (on_plan inst plan a tells tells_plan due)

  made_expects : (expected : ℕ) → ExpectsMade limits source name cert_name turns part old expected → (a : Answer)
      → Answering new a → (a.status ≡ 7) ⊎ ((a.status ≡ 12) ⊎ (a.status ≡ expected))
  made_expects expected (a_plan files plan tells keeps) a due =
      then_more (RaisesBound limits files.inst files.plan out turns part files.cert a)
      ((a.status ≡ 12) ⊎ (a.status ≡ 0)) a
      (λ raises. inr (kept_status limits files.inst files.plan out turns part files.cert plan a keeps raises))
      (on_files files a tells due)
  made_expects expected (none_keeps files tells none one enough) a due =
      then_more (RaisesBound limits files.inst files.plan out turns part files.cert a)
      ((a.status ≡ 12) ⊎ (a.status ≡ 10)) a
      (λ raises. inr (spent_status limits files.inst files.plan out turns part files.cert a none one enough raises))
      (on_files files a tells due)

  -- the statuses that come at the end
  made_allowed : (expected status : ℕ)
      → ((a : Answer) → Answering new a → (a.status ≡ 7) ⊎ ((a.status ≡ 12) ⊎ (a.status ≡ expected)))
      → Ends Due old new status → (status ≡ 12) ⊎ IsAllowed expected status
  made_allowed expected status f (done n d) =
      subst (λ (m : ℕ). (m ≡ 12) ⊎ IsAllowed expected m) (sym d.status_is) (at d.answer d.due)
    where
      each : (a : Answer) → (a.status ≡ 7) ⊎ ((a.status ≡ 12) ⊎ (a.status ≡ expected))
          → (a.status ≡ 12) ⊎ IsAllowed expected a.status
      each a (inl e) = inr (inr (inl e))
      each a (inr (inl e)) = inl e
      each a (inr (inr e)) = inr (inl e)

      at : (a : Answer) → Due new a → (a.status ≡ 12) ⊎ IsAllowed expected a.status
      at a (answers b is) = each b (f b is)
      at a no_memory = inr (inr (inr (inr (inl refl))))
  made_allowed expected status f (unsaid u) = inr (inr (inr (inl refl)))
  made_allowed expected status f (unwritten u) = inr (inr (inr (inl refl)))

  -- ---- a run

  bound_unopened : (status : ℕ) → Ends Due old new status → (OpensBound status → ⊥) → new.output ≡ old.output
  bound_unopened status (done n d) opens =
      d.writes
      ∙ ap (λ (w : List Writing). (after_writes (files_of w) old).output)
      ((due_writes limits source name cert_name out turns part old new d.answer d.due).opened
      (λ o. opens (subst OpensBound (sym d.status_is) o)))
  bound_unopened status (unsaid u) opens = absurd (opens (inr (inl refl)))
  bound_unopened status (unwritten u) opens = absurd (opens (inr (inl refl)))

  pub bound_runs : (status : ℕ) → Ends Due old new status
      → RunsBound limits source name cert_name out turns part old new status
  bound_runs status ends = record {
    ends = ends;
    behind = wrote_behind Answering Stand old new status answer_behind ends;
    allowed = λ expected wants. ends_allowed Answering old new status expected (bound_expects expected wants) ends;
    made = λ expected wants. made_allowed expected status (made_expects expected wants) ends;
    exact = λ instance plan cert tells tells_plan tells_cert calm.
        ends_exact Answering (AnswersBound limits by_bytes source.slack instance plan cert out turns part) old new
        status
        (λ a. bound_other limits source.slack (reading old new) by_bytes source.instance name cert_name instance plan
        cert out turns part a (exact_reading source.instance instance old new tells calm)
        (exact_given name plan old new tells_plan calm) (exact_given cert_name cert old new tells_cert calm)) calm ends;
    others = others_kept Due old new out
        (λ at a due. (due_writes limits source name cert_name out turns part old at a due).only) status ends;
    unopened = bound_unopened status ends;
    quiet = ends_quiet Due old new status ends;
  }
