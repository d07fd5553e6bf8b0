-- What a run of `check` promises follows from its end.
use Rattle.std.proofs.Common.{◌≡◌, ℕ, ◌⊎◌, inl, inr, refl, sym, subst, List, Option, Some, None}
use Rattle.plan_desk.specs.Desk.{Shown}
use Rattle.plan_desk.specs.Contents.{Says, KeepsFiles}
use Rattle.instance_model.specs.declared.limits.Limits.{Limits}
use Rattle.instance_model.specs.Tables.{Tables}
use Rattle.instance_model.specs.Rules.{KeepsRules}
use Rattle.lagrange_bound.specs.Goals.{risk_value}
use Rattle.certificate_lines.specs.declared.line.Bound.{Bound}
use Rattle.certificate_lines.specs.declared.line.Bound.TheVariants.{NoPlan}
use Rattle.certificate_tree.specs.Validity.{Claim, IsProved, IsFirstUnproved}
use Rattle.command_frame.specs.Sources.{Source}
use Rattle.command_frame.specs.Ending.{Answer, Ends}
use Rattle.command_frame.specs.Bytes.{TakesOne, RefusesInstance, Spells, RefusesPlan, SpellsCertificateBy}
use Rattle.command_frame.specs.Bytes.{SpellsOneBy, IsRefusedCertificateBy, RefusesCertificateBy}
use Rattle.command_frame.specs.Files.{Meeting, reading, by_bytes, OnPlan, OnGiven, OnCertificateBy, ReadsInstance}
use Rattle.command_frame.specs.Files.{ReadsGiven, TellsInstance, TellsGiven}
use Rattle.command_frame.specs.Files.OnFile.{unread, refused, stands}
use Rattle.command_frame.specs.Kinds.{CertificateKind}
use Rattle.command_answers.specs.Check.{BoundsEveryPlan, GivenKeeps, ChecksClaim, ChecksBy, AnswersCheckBy}
use Rattle.command_check.specs.Checking.{DueCheck, ReadsCheck, BehindCheck, CheckedFiles, TellsCheckedBy}
use Rattle.command_check.specs.Checking.{ExpectsCheck, RunsCheckBy}
use Rattle.command_answers.specs.Check.ChecksClaim.{broken_plan, failing_leaf, accepted}
use Rattle.command_check.specs.Checking.BehindCheck.{accepted as behind_accepted, broken_given as behind_broken_given}
use Rattle.command_check.specs.Checking.BehindCheck.{refused_certificate as behind_refused_certificate}
use Rattle.command_check.specs.Checking.BehindCheck.{refused_instance as behind_refused_instance}
use Rattle.command_check.specs.Checking.BehindCheck.{refused_leaf as behind_refused_leaf}
use Rattle.command_check.specs.Checking.BehindCheck.{refused_plan as behind_refused_plan}
use Rattle.command_check.specs.Checking.BehindCheck.{unread_certificate as behind_unread_certificate}
use Rattle.command_check.specs.Checking.BehindCheck.{unread_instance as behind_unread_instance}
use Rattle.command_check.specs.Checking.BehindCheck.{unread_plan as behind_unread_plan}
use Rattle.command_check.specs.Checking.ExpectsCheck.{broken_plan as expects_broken_plan}
use Rattle.command_check.specs.Checking.ExpectsCheck.{failing_leaf as expects_failing_leaf}
use Rattle.command_check.specs.Checking.ExpectsCheck.{no_certificate as expects_no_certificate}
use Rattle.command_check.specs.Checking.ExpectsCheck.{no_instance as expects_no_instance, no_plan as expects_no_plan}
use Rattle.command_check.specs.Checking.ExpectsCheck.{refused_certificate as expects_refused_certificate}
use Rattle.command_check.specs.Checking.ExpectsCheck.{refused_instance as expects_refused_instance}
use Rattle.command_check.specs.Checking.ExpectsCheck.{refused_plan as expects_refused_plan}
use Rattle.command_check.specs.Checking.ExpectsCheck.{valid_certificate as expects_valid_certificate}
use Rattle.command_frame.proofs.FileLemmas.{Carries, CarriesGiven, on_other, on_given_other, later_reading, later_given}
use Rattle.command_frame.proofs.FileLemmas.{exact_reading, exact_given, OrUnread, missing_file, refused_file, told_file}
use Rattle.command_frame.proofs.FileLemmas.{then_next, then_more, say_refusal}
use Rattle.command_frame.proofs.AnswerLemmas.{instance_status, plan_status, certificate_status, text_accepted}
use Rattle.command_frame.proofs.AnswerLemmas.{refused_apart}
use Rattle.command_answers.proofs.BoundLemmas.{best_plan}
use Rattle.command_check.proofs.CheckAnswers.{kept_or_broken, checked_files_once}
use Rattle.command_frame.proofs.EndLemmas.{Stays, ends_quiet, ends_behind, ends_allowed, ends_exact}
use Rattle.command_frame.proofs.TakenLemmas.{on_taken, bad_instance, on_spelled, bad_plan}

-- ---- what an accepted certificate says

-- where the bound is none, no plan was given
pub none_given : (inst : Tables) (bound : Bound) (given : Option (List (Option ℕ))) → BoundsEveryPlan inst bound
    → GivenKeeps inst given → bound ≡ NoPlan → given ≡ None
none_given inst bound None bounds keeps e = refl
none_given inst bound (Some plan) bounds keeps e = absurd (bounds.none e plan keeps)

-- ---- what is answered

-- where the plan is told, if one is given, the next answer is for it
on_given : (limits : Limits) (inst : Tables) (name : Option (List ℕ)) (old new : Shown)
    (Next : Option (List (Option ℕ)) → Answer → Type 0) (plan : Option (List (Option ℕ))) (a : Answer)
    → TellsGiven limits old name inst plan
    → OnGiven limits inst (reading old new) 3 name Next a → (a.status ≡ 7) ⊎ Next plan a
on_given limits inst None old new Next None a tells due = inr due
on_given limits inst None old new Next (Some plan) a tells due = absurd tells
on_given limits inst (Some name) old new Next None a tells due = absurd tells
on_given limits inst (Some name) old new Next (Some plan) a tells due =
    on_spelled limits inst name old new (λ p. Next (Some p)) plan a tells due

-- what is answered to a plan that is named
on_named : (limits : Limits) (inst : Tables) (name : Option (List ℕ)) (plan : List ℕ) (old new : Shown)
    (Next : Option (List (Option ℕ)) → Answer → Type 0) (a : Answer)
    → name ≡ Some plan
    → OnGiven limits inst (reading old new) 3 name Next a
    → OnPlan limits inst (reading old new) 3 plan (λ p. Next (Some p)) a
on_named limits inst name plan old new Next a is due =
    subst (λ (o : Option (List ℕ)). OnGiven limits inst (reading old new) 3 o Next a) is due

broken_verdict : (inst : Tables) (given : Option (List (Option ℕ))) (claim : Claim)
    (plan : List (Option ℕ)) (a : Answer)
    → given ≡ Some plan → (KeepsRules inst plan → ⊥) → ChecksClaim inst given claim a → OrUnread 1 a
broken_verdict inst given claim plan a is breaks (broken_plan rule broken) = inr refl
broken_verdict inst given claim plan a is breaks (failing_leaf n leaf) =
    absurd (breaks (kept_or_broken inst given plan leaf.keeps is))
broken_verdict inst given claim plan a is breaks (accepted all) =
    absurd (breaks (kept_or_broken inst given plan all.keeps is))

valid_verdict : (inst : Tables) (given : Option (List (Option ℕ))) (claim : Claim) (a : Answer)
    → GivenKeeps inst given → IsProved risk_value inst claim → ChecksClaim inst given claim a → OrUnread 0 a
valid_verdict inst given claim a keeps valid (broken_plan rule broken) =
    absurd (broken.not_kept (kept_or_broken inst given broken.plan keeps broken.given_is))
valid_verdict inst given claim a keeps valid (failing_leaf n leaf) = absurd (leaf.invalid valid)
valid_verdict inst given claim a keeps valid (accepted all) = inr refl

leaf_verdict : (inst : Tables) (given : Option (List (Option ℕ))) (claim : Claim) (n : ℕ) (a : Answer)
    → GivenKeeps inst given → IsFirstUnproved risk_value inst claim n → ChecksClaim inst given claim a → OrUnread 5 a
leaf_verdict inst given claim n a keeps first (broken_plan rule broken) =
    absurd (broken.not_kept (kept_or_broken inst given broken.plan keeps broken.given_is))
leaf_verdict inst given claim n a keeps first (failing_leaf m leaf) = inr refl
leaf_verdict inst given claim n a keeps first (accepted all) = absurd (all.holds n first)

module _ {C : Type 0} (kind : CertificateKind C) where
  -- what is answered to a certificate, and to a plan that may be left out
  abbrev OnChecked : Limits → Tables → Meeting → List ℕ → Option (List (Option ℕ)) → Answer → Type 0
  OnChecked limits inst met cert plan = OnCertificateBy kind.texts limits inst met 4 cert (ChecksBy kind inst plan)

  abbrev OnPlanned : Limits → Meeting → Option (List ℕ) → List ℕ → Tables → Answer → Type 0
  OnPlanned limits met plan cert inst = OnGiven limits inst met 3 plan (OnChecked limits inst met cert)

  check_other : (limits : Limits) (slack : ℕ) (met other : Meeting) (i : List ℕ) (p : Option (List ℕ)) (c j : List ℕ)
      (q : Option (List ℕ)) (d : List ℕ) (a : Answer)
      → Carries met i other j → CarriesGiven met p other q
      → Carries met c other d → AnswersCheckBy kind limits met slack i p c a
      → AnswersCheckBy kind limits other slack j q d a
  check_other limits slack met other i p c j q d a ci cp cd =
      on_other met other 2 i j (RefusesInstance limits) (TakesOne limits slack) (OnPlanned limits met p c)
      (OnPlanned limits other q d) a ci
      (λ inst b. on_given_other limits inst met other 3 p q (OnChecked limits inst met c)
      (OnChecked limits inst other d) b cp
      (λ x e. on_other met other 4 c d (RefusesCertificateBy kind.texts limits inst)
      (SpellsOneBy kind.texts limits inst) (ChecksBy kind inst x) (ChecksBy kind inst x) e cd (λ y f checks. checks)))

  pub check_stays : (limits : Limits) (source : Source) (name : Option (List ℕ))
      (cert_name : List ℕ) (old mid new : Shown)
      → Stays (λ at. AnswersCheckBy kind limits (reading old at) source.slack source.instance name cert_name) mid new
  check_stays limits source name cert_name old mid new goes a =
      check_other limits source.slack (reading old mid)
      (reading old new) source.instance name cert_name source.instance name cert_name a
      (later_reading source.instance old mid new goes)
      (later_given name old mid new goes) (later_reading cert_name old mid new goes)

  -- ---- what stands behind the status

  checked_behind : (limits : Limits) (source : Source) (name : Option (List ℕ)) (cert_name : List ℕ) (old new : Shown)
      (files : ReadsCheck kind limits source name cert_name old) (a : Answer)
      → ChecksBy kind files.inst files.plan files.cert a → Says a.text old new
      → BehindCheck kind limits source name cert_name old new a.status
  checked_behind limits source name cert_name old new files a (accepted all) says =
      behind_accepted
      (record {
        files = files;
        valid = all.valid;
        bounds = all.bounds;
        keeps = all.keeps;
        no_plan = none_given files.inst (kind.claim files.inst files.cert).bound files.plan all.bounds all.keeps;
        no_better = λ plan b given is zero.
            best_plan files.inst files.plan (kind.claim files.inst files.cert) plan b all is zero;
        says = says;
      })
  checked_behind limits source name cert_name old new files a (broken_plan rule broken) says =
      behind_broken_given (record {
        files = files;
        plan = broken.plan;
        given = broken.given_is;
        not_kept = broken.not_kept;
        rule = rule;
        first = broken.first;
        says = says;
      })
  checked_behind limits source name cert_name old new files a (failing_leaf n leaf) says =
      behind_refused_leaf (record { files = files; keeps = leaf.keeps; n = n; first = leaf.first; says = says })

  certificate_behind : (limits : Limits) (source : Source) (name : Option (List ℕ)) (cert_name : List ℕ)
      (old new : Shown) (inst : Tables) (plan : Option (List (Option ℕ))) (a : Answer)
      → ReadsInstance limits source old inst → ReadsGiven limits name inst old plan
      → OnChecked limits inst (reading old new) cert_name plan a → Says a.text old new
      → BehindCheck kind limits source name cert_name old new a.status
  certificate_behind limits source name cert_name old new inst plan a reads reads_plan (unread fails) says =
      behind_unread_certificate inst plan reads reads_plan (record { fails = fails; says = says })
  certificate_behind limits source name cert_name old new inst plan a reads reads_plan (refused bytes b held is) says =
      subst (λ (n : ℕ). BehindCheck kind limits source name cert_name old new n)
      (sym (certificate_status limits inst bytes b is))
      (behind_refused_certificate inst plan reads reads_plan
      (say_refusal cert_name (RefusesCertificateBy kind.texts limits inst) old new bytes b held is says))
  certificate_behind limits source name cert_name old new inst plan a reads reads_plan
      (stands bytes cert b held spells checks) says =
      checked_behind limits source name cert_name old new
      (record {
        inst = inst;
        reads = reads;
        plan = plan;
        reads_plan = reads_plan;
        cert = cert;
        reads_cert = record { bytes = bytes; held = held; such = spells };
      }) b checks says

  given_behind : (limits : Limits) (source : Source) (name : Option (List ℕ)) (cert_name : List ℕ) (old new : Shown)
      (inst : Tables) (a : Answer)
      → ReadsInstance limits source old inst → OnPlanned limits (reading old new) name cert_name inst a
      → Says a.text old new → BehindCheck kind limits source name cert_name old new a.status
  given_behind limits source None cert_name old new inst a reads due says =
      certificate_behind limits source None cert_name old new inst None a reads tt due says
  given_behind limits source (Some name) cert_name old new inst a reads (unread fails) says =
      behind_unread_plan name inst refl reads (record { fails = fails; says = says })
  given_behind limits source (Some name) cert_name old new inst a reads (refused bytes b held is) says =
      subst (λ (n : ℕ). BehindCheck kind limits source (Some name) cert_name old new n)
      (sym (plan_status limits inst bytes b is))
      (behind_refused_plan name inst refl reads
      (say_refusal name (RefusesPlan limits inst) old new bytes b held is says))
  given_behind limits source (Some name) cert_name old new inst a reads (stands bytes plan b held spells due) says =
      certificate_behind limits source (Some name) cert_name old new inst (Some plan) b reads
      (record { bytes = bytes; held = held; such = spells }) due says

  check_behind : (limits : Limits) (source : Source) (name : Option (List ℕ)) (cert_name : List ℕ)
      (old new : Shown) (a : Answer)
      → AnswersCheckBy kind limits (reading old new) source.slack source.instance name cert_name a → Says a.text old new
      → BehindCheck kind limits source name cert_name old new a.status
  check_behind limits source name cert_name old new a (unread fails) says =
      behind_unread_instance (record { fails = fails; says = says })
  check_behind limits source name cert_name old new a (refused bytes b held is) says =
      subst (λ (n : ℕ). BehindCheck kind limits source name cert_name old new n)
      (sym (instance_status limits bytes b is))
      (behind_refused_instance (say_refusal source.instance (RefusesInstance limits) old new bytes b held is says))
  check_behind limits source name cert_name old new a (stands bytes inst b held takes due) says =
      given_behind limits source name cert_name old new inst b
      (record { bytes = bytes; held = held; such = takes }) due says

  -- ---- which status comes

  on_planned : (limits : Limits) (source : Source) (name : Option (List ℕ)) (cert_name : List ℕ) (old new : Shown)
      (inst : Tables) (plan : Option (List (Option ℕ))) (a : Answer)
      → TellsInstance limits old source inst
      → TellsGiven limits old name inst plan
      → AnswersCheckBy kind limits (reading old new) source.slack source.instance name cert_name a
      → (a.status ≡ 7) ⊎ OnChecked limits inst (reading old new) cert_name plan a
  on_planned limits source name cert_name old new inst plan a tells spells due =
      then_more (OnPlanned limits (reading old new) name cert_name inst a)
      (OnChecked limits inst (reading old new) cert_name plan a) a
      (on_given limits inst name old new (OnChecked limits inst (reading old new) cert_name) plan a spells)
      (on_taken limits source old new (OnPlanned limits (reading old new) name cert_name) inst a tells due)

  on_text : (limits : Limits) (source : Source) (name : Option (List ℕ)) (cert_name : List ℕ) (old new : Shown)
      (files : CheckedFiles C) (a : Answer)
      → TellsCheckedBy kind limits old source name cert_name files
      → AnswersCheckBy kind limits (reading old new) source.slack source.instance name cert_name a
      → (a.status ≡ 7) ⊎ ChecksBy kind files.inst files.plan files.cert a
  on_text limits source name cert_name old new files a tells due =
      then_more (OnChecked limits files.inst (reading old new) cert_name files.plan a)
      (ChecksBy kind files.inst files.plan files.cert a) a
      (told_file 4 cert_name old new (RefusesCertificateBy kind.texts limits files.inst)
      (SpellsOneBy kind.texts limits files.inst) (ChecksBy kind files.inst files.plan) a
      (λ bytes. SpellsCertificateBy kind.texts limits files.inst bytes files.cert) files.cert tells.cert
      (λ bytes b spells is. text_accepted limits files.inst bytes files.cert b spells is)
      (λ bytes other spells one. sym (one.only files.cert spells.text_of)))
      (on_planned limits source name cert_name old new files.inst files.plan a tells.instance tells.plan due)

  check_expects : (limits : Limits) (source : Source) (name : Option (List ℕ)) (cert_name : List ℕ)
      (old new : Shown) (expected : ℕ)
      → ExpectsCheck kind limits source name cert_name old expected → (a : Answer)
      → AnswersCheckBy kind limits (reading old new) source.slack source.instance name cert_name a → OrUnread expected a
  check_expects limits source name cert_name old new expected (expects_no_instance missing) a due =
      inl (missing_file 2 source.instance old new (RefusesInstance limits) (TakesOne limits source.slack)
      (OnPlanned limits (reading old new) name cert_name) a missing due)
  check_expects limits source name cert_name old new expected (expects_refused_instance tells) a due =
      bad_instance limits source old new (OnPlanned limits (reading old new) name cert_name) a tells due
  check_expects limits source name cert_name old new expected (expects_no_plan plan inst is tells missing) a due =
      then_next (OnPlanned limits (reading old new) name cert_name inst a) 7 a
      (λ d. inl (missing_file 3 plan old new (RefusesPlan limits inst) (Spells limits inst)
      (λ p. OnChecked limits inst (reading old new) cert_name (Some p)) a missing
      (on_named limits inst name plan old new (OnChecked limits inst (reading old new) cert_name) a is d)))
      (on_taken limits source old new (OnPlanned limits (reading old new) name cert_name) inst a tells due)
  check_expects limits source name cert_name old new expected (expects_refused_plan plan inst is tells bad) a due =
      then_next (OnPlanned limits (reading old new) name cert_name inst a) 4 a
      (λ d. bad_plan limits inst plan old new (λ p. OnChecked limits inst (reading old new) cert_name (Some p)) a bad
      (on_named limits inst name plan old new (OnChecked limits inst (reading old new) cert_name) a is d))
      (on_taken limits source old new (OnPlanned limits (reading old new) name cert_name) inst a tells due)
  check_expects limits source name cert_name old new expected
      (expects_no_certificate inst plan tells spells missing) a due =
      then_next (OnChecked limits inst (reading old new) cert_name plan a) 7 a
      (λ d. inl (missing_file 4 cert_name old new (RefusesCertificateBy kind.texts limits inst)
      (SpellsOneBy kind.texts limits inst) (ChecksBy kind inst plan) a missing d))
      (on_planned limits source name cert_name old new inst plan a tells spells due)
  check_expects limits source name cert_name old new expected
      (expects_refused_certificate inst plan tells spells bad) a due =
      then_next (OnChecked limits inst (reading old new) cert_name plan a) 5 a
      (refused_file 4 cert_name old new (RefusesCertificateBy kind.texts limits inst)
      (SpellsOneBy kind.texts limits inst) (ChecksBy kind inst plan) a
      (IsRefusedCertificateBy kind.texts limits inst) 5 bad
      (λ bytes x one. refused_apart limits inst bytes x one) (certificate_status limits inst))
      (on_planned limits source name cert_name old new inst plan a tells spells due)
  check_expects limits source name cert_name old new expected (expects_broken_plan files plan tells is breaks) a due =
      then_next (ChecksBy kind files.inst files.plan files.cert a) 1 a
      (broken_verdict files.inst files.plan (kind.claim files.inst files.cert) plan a is breaks)
      (on_text limits source name cert_name old new files a tells due)
  check_expects limits source name cert_name old new expected
      (expects_valid_certificate files tells keeps valid) a due =
      then_next (ChecksBy kind files.inst files.plan files.cert a) 0 a
      (valid_verdict files.inst files.plan (kind.claim files.inst files.cert) a keeps valid)
      (on_text limits source name cert_name old new files a tells due)
  check_expects limits source name cert_name old new expected (expects_failing_leaf files n tells keeps first) a due =
      then_next (ChecksBy kind files.inst files.plan files.cert a) 5 a
      (leaf_verdict files.inst files.plan (kind.claim files.inst files.cert) n a keeps first)
      (on_text limits source name cert_name old new files a tells due)

  -- ---- a run

  pub check_runs : (limits : Limits) (source : Source) (name : Option (List ℕ)) (cert_name : List ℕ)
      (old new : Shown) (status : ℕ)
      → Ends (DueCheck kind limits source name cert_name old) old new status → KeepsFiles old new
      → RunsCheckBy kind limits source name cert_name old new status
  check_runs limits source name cert_name old new status ends keeps =
      record {
        ends = ends;
        behind = ends_behind
            (λ at. AnswersCheckBy kind limits (reading old at) source.slack source.instance name cert_name)
            (BehindCheck kind limits source name cert_name old new) old new status
            (check_behind limits source name cert_name old new) ends;
        allowed = λ expected expects.
            ends_allowed
            (λ at. AnswersCheckBy kind limits (reading old at) source.slack source.instance name cert_name) old new
            status expected (check_expects limits source name cert_name old new expected expects) ends;
        exact = λ instance plan cert tells tells_plan tells_cert calm.
            ends_exact (λ at. AnswersCheckBy kind limits (reading old at) source.slack source.instance name cert_name)
            (AnswersCheckBy kind limits by_bytes source.slack instance plan cert) old new status
            (λ a. check_other limits source.slack
            (reading old new) by_bytes source.instance name cert_name instance plan cert a
            (exact_reading source.instance instance old new tells calm)
            (exact_given name plan old new tells_plan calm) (exact_reading cert_name cert old new tells_cert calm)) calm
            ends;
        one = checked_files_once kind limits;
        output = keeps;
        quiet = ends_quiet (DueCheck kind limits source name cert_name old) old new status ends;
      }
