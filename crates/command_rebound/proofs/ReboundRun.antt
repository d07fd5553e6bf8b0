-- What a run of `rebound` promises follows from its end.
use Rattle.std.proofs.Common.{◌≡◌, inl, inr, ◌⊎◌, ℕ, ◌<◌, ◌≤◌, List, [], length, None, refl, sym, subst}
use Rattle.plan_desk.specs.Desk.{Shown, TellsNames}
use Rattle.plan_desk.specs.Contents.{Says}
use Rattle.plan_desk.specs.FileWrites.{after_writes}
use Rattle.instance_model.specs.declared.limits.Limits.{Limits}
use Rattle.instance_model.specs.Tables.{Tables}
use Rattle.certificate_tree.specs.Validity.{Claim}
use Rattle.band_rebound.specs.declared.rebounded.ReboundTree.{ReboundTree}
use Rattle.command_frame.specs.Sources.{Source}
use Rattle.command_frame.specs.Reports.{accepted_report}
use Rattle.command_frame.specs.Ending.{Answer, files_of, reply, Ends}
use Rattle.command_frame.specs.Ending.OrMemory.{answers, no_memory}
use Rattle.command_frame.specs.Bytes.{TakesOne, RefusesInstance, SpellsCertificateBy, SpellsOneBy}
use Rattle.command_frame.specs.Bytes.{RefusesCertificateBy, IsRefusedCertificateBy}
use Rattle.command_frame.specs.Bytes.RefusesInstance.{long_instance, faulty_instance}
use Rattle.command_frame.specs.Bytes.RefusesCertificateBy.{long_certificate, faulty_certificate}
use Rattle.command_frame.specs.Files.{Meeting, reading, by_bytes, OnCertificateBy, ReadsInstance, TellsInstance}
use Rattle.command_frame.specs.Files.{TellsCertificateBy}
use Rattle.command_frame.specs.Files.OnFile.{unread, refused, stands}
use Rattle.command_frame.specs.Kinds.{CertificateKind}
use Rattle.command_frame.proofs.FileLemmas.{Carries, on_other, later_reading, exact_reading, OrUnread, missing_file}
use Rattle.command_frame.proofs.FileLemmas.{refused_file, told_file, then_next, then_more, say_refusal}
use Rattle.command_frame.proofs.AnswerLemmas.{instance_status, certificate_status, text_accepted, refused_apart}
use Rattle.command_frame.proofs.TakenLemmas.{on_taken, bad_instance}
use Rattle.command_frame.proofs.EndLemmas.{Stays, ends_quiet, ends_allowed, ends_exact}
use Rattle.command_frame.proofs.WriteLemmas.{wrote_behind}
use Rattle.command_frame.specs.Outputs.{Opens}
use Rattle.command_frame.proofs.OutputLemmas.{WritesOnly, writes_none, writes_one, others_kept, unopened_kept}
use Rattle.command_frame.proofs.OutputLemmas.{one_held}
use Rattle.command_answers.specs.Check.{BoundsEveryPlan, ChecksBy}
use Rattle.command_rebound.specs.Rebinding.{BecomesBy, with_tree, out_write, RebindsBy, AnswersReboundBy, DueRebound}
use Rattle.command_rebound.specs.Rebinding.{ReadsRebound, BehindRebound, ExpectsRebound, RunsReboundBy}
use Rattle.command_rebound.specs.Rebinding.RebindsBy.{rebound, too_long}
use Rattle.command_rebound.specs.Rebinding.BehindRebound.{rebound as behind_rebound, too_long as behind_too_long}
use Rattle.command_rebound.specs.Rebinding.BehindRebound.{refused_instance as behind_refused_instance}
use Rattle.command_rebound.specs.Rebinding.BehindRebound.{refused_certificate as behind_refused_certificate}
use Rattle.command_rebound.specs.Rebinding.BehindRebound.{unread_instance as behind_unread_instance}
use Rattle.command_rebound.specs.Rebinding.BehindRebound.{unread_certificate as behind_unread_certificate}
use Rattle.command_rebound.specs.Rebinding.ExpectsRebound.{no_instance, refused_instance, no_certificate}
use Rattle.command_rebound.specs.Rebinding.ExpectsRebound.{refused_certificate, short, long}
use Rattle.command_rebound.proofs.ReboundAnswers.{rebound_once, not_both}

module _ {C : Type 0} (kind : CertificateKind C) where
  -- what is answered to a certificate
  abbrev OnText : Limits → Meeting → (cert out : List ℕ) → Tables → Answer → Type 0
  OnText limits met cert out inst = OnCertificateBy kind.texts limits inst met 3 cert (RebindsBy kind limits inst out)

  -- ---- from one way of meeting the files to another

  rebound_other : (limits : Limits) (slack : ℕ) (met other : Meeting) (i c j d out : List ℕ) (a : Answer)
      → Carries met i other j → Carries met c other d → AnswersReboundBy kind limits met slack i c out a
      → AnswersReboundBy kind limits other slack j d out a
  rebound_other limits slack met other i c j d out a ci cd =
      on_other met other 2 i j (RefusesInstance limits) (TakesOne limits slack) (OnText limits met c out)
      (OnText limits other d out) a ci
      (λ inst b. on_other met other 3 c d (RefusesCertificateBy kind.texts limits inst)
      (SpellsOneBy kind.texts limits inst) (RebindsBy kind limits inst out) (RebindsBy kind limits inst out) b cd
      (λ x e rebinds. rebinds))

  pub rebound_stays : (limits : Limits) (source : Source) (cert_name out : List ℕ) (old mid new : Shown)
      → Stays (λ at. AnswersReboundBy kind limits (reading old at) source.slack source.instance cert_name out) mid new
  rebound_stays limits source cert_name out old mid new goes a =
      rebound_other limits source.slack (reading old mid) (reading old new) source.instance cert_name source.instance
      cert_name out a (later_reading source.instance old mid new goes)
      (later_reading cert_name old mid new goes)

  -- ---- which files are written

  instance_none : (limits : Limits) (bytes : List ℕ) (a : Answer) → RefusesInstance limits bytes a → a.writes ≡ []
  instance_none limits bytes a (long_instance l) = refl
  instance_none limits bytes a (faulty_instance fault one) = refl

  certificate_none : (limits : Limits) (inst : Tables) (bytes : List ℕ) (a : Answer)
      → RefusesCertificateBy kind.texts limits inst bytes a → a.writes ≡ []
  certificate_none limits inst bytes a (long_certificate l) = refl
  certificate_none limits inst bytes a (faulty_certificate fault one) = refl

  rebinds_out : (limits : Limits) (inst : Tables) (out : List ℕ) (cert : C) (a : Answer)
      → RebindsBy kind limits inst out cert a → WritesOnly out a.writes
  rebinds_out limits inst out cert a (rebound answer is) =
      writes_one (out_write kind inst out (with_tree kind cert answer))
  rebinds_out limits inst out cert a (too_long answer is) = writes_none out [] refl

  answers_out : (limits : Limits) (met : Meeting) (slack : ℕ) (instance cert out : List ℕ) (a : Answer)
      → AnswersReboundBy kind limits met slack instance cert out a → WritesOnly out a.writes
  answers_out limits met slack instance cert out a (unread fails) = writes_none out [] refl
  answers_out limits met slack instance cert out a (refused bytes b held is) =
      writes_none out b.writes (instance_none limits bytes b is)
  answers_out limits met slack instance cert out a (stands bytes inst b held takes (unread fails)) =
      writes_none out [] refl
  answers_out limits met slack instance cert out a (stands bytes inst b held takes (refused xs c also is)) =
      writes_none out c.writes (certificate_none limits inst xs c is)
  answers_out limits met slack instance cert out a
      (stands bytes inst b held takes (stands xs x c also spells rebinds)) = rebinds_out limits inst out x c rebinds

  due_out : (limits : Limits) (source : Source) (cert_name out : List ℕ) (old at : Shown) (a : Answer)
      → DueRebound kind limits source cert_name out old at a → WritesOnly out a.writes
  due_out limits source cert_name out old at a (answers b is) =
      answers_out limits (reading old at) source.slack source.instance cert_name out b is
  due_out limits source cert_name out old at a no_memory = writes_none out [] refl

  -- where the status is none of those with which the file is opened, none is
  rebinds_unopened : (limits : Limits) (inst : Tables) (out : List ℕ) (cert : C) (a : Answer)
      → RebindsBy kind limits inst out cert a → (Opens a.status → ⊥) → a.writes ≡ []
  rebinds_unopened limits inst out cert a (rebound answer is) opens = absurd (opens (inl refl))
  rebinds_unopened limits inst out cert a (too_long answer is) opens = refl

  answers_unopened : (limits : Limits) (met : Meeting) (slack : ℕ) (instance cert out : List ℕ) (a : Answer)
      → AnswersReboundBy kind limits met slack instance cert out a → (Opens a.status → ⊥) → a.writes ≡ []
  answers_unopened limits met slack instance cert out a (unread fails) opens = refl
  answers_unopened limits met slack instance cert out a (refused bytes b held is) opens =
      instance_none limits bytes b is
  answers_unopened limits met slack instance cert out a (stands bytes inst b held takes (unread fails)) opens = refl
  answers_unopened limits met slack instance cert out a (stands bytes inst b held takes (refused xs c also is)) opens =
      certificate_none limits inst xs c is
  answers_unopened limits met slack instance cert out a
      (stands bytes inst b held takes (stands xs x c also spells rebinds)) opens =
      rebinds_unopened limits inst out x c rebinds opens

  due_unopened : (limits : Limits) (source : Source) (cert_name out : List ℕ) (old at : Shown) (a : Answer)
      → DueRebound kind limits source cert_name out old at a → (Opens a.status → ⊥) → a.writes ≡ []
  due_unopened limits source cert_name out old at a (answers b is) opens =
      answers_unopened limits (reading old at) source.slack source.instance cert_name out b is opens
  due_unopened limits source cert_name out old at a no_memory opens = refl

  -- ---- what stands behind a status

  module _ (limits : Limits) (source : Source) (cert_name out : List ℕ) (old new : Shown) (names : TellsNames old) where
    abbrev Answering : Shown → Answer → Type 0
    Answering at = AnswersReboundBy kind limits (reading old at) source.slack source.instance cert_name out

    rebound_behind : (files : ReadsRebound kind limits source cert_name old) (a : Answer)
        → RebindsBy kind limits files.inst out files.cert a → new.output ≡ (after_writes (files_of a.writes) old).output
        → Says a.text old new → BehindRebound kind limits source cert_name out old new a.status
    rebound_behind files a (rebound answer is) writes says =
        behind_rebound (record {
          files = files;
          answer = answer;
          is = is.is;
          claims = is.claims;
          valid = is.valid;
          bounds = subst (λ (c : Claim). BoundsEveryPlan files.inst c.bound) is.claims is.checkable.bounds;
          no_lower = is.no_lower;
          within = is.within;
          held = one_held (DueRebound kind limits source cert_name out old) old new
              (out_write kind files.inst out (with_tree kind files.cert answer)).file names writes;
          accepted = stands files.reads.bytes files.inst (reply 0 (accepted_report files.inst answer.bound None))
              refl files.reads.such
              (subst (λ (c : Claim). OnCertificateBy kind.texts limits files.inst by_bytes 4
              (kind.text files.inst (with_tree kind files.cert answer)) (ChecksBy kind files.inst None)
              (reply 0 (accepted_report files.inst c.bound None))) is.claims is.checkable.accepted);
          says = says;
        })
    rebound_behind files a (too_long answer is) writes says =
        behind_too_long (record { files = files; answer = answer; is = is.is; long = is.long; says = says })

    text_behind : (inst : Tables) (a : Answer) → ReadsInstance limits source old inst
        → OnText limits (reading old new) cert_name out inst a
        → new.output ≡ (after_writes (files_of a.writes) old).output → Says a.text old new
        → BehindRebound kind limits source cert_name out old new a.status
    text_behind inst a reads (unread fails) writes says =
        behind_unread_certificate inst reads (record { fails = fails; says = says })
    text_behind inst a reads (refused bytes b held is) writes says =
        subst (λ (n : ℕ). BehindRebound kind limits source cert_name out old new n)
        (sym (certificate_status limits inst bytes b is))
        (behind_refused_certificate inst reads
        (say_refusal cert_name (RefusesCertificateBy kind.texts limits inst) old new bytes b held is says))
    text_behind inst a reads (stands bytes cert b held spells rebinds) writes says =
        rebound_behind (record {
          inst = inst;
          reads = reads;
          cert = cert;
          reads_cert = record { bytes = bytes; held = held; such = spells };
        }) b rebinds writes says

    answer_behind : (a : Answer) → Answering new a → new.output ≡ (after_writes (files_of a.writes) old).output
        → Says a.text old new → BehindRebound kind limits source cert_name out old new a.status
    answer_behind a (unread fails) writes says = behind_unread_instance (record { fails = fails; says = says })
    answer_behind a (refused bytes b held is) writes says =
        subst (λ (n : ℕ). BehindRebound kind limits source cert_name out old new n)
        (sym (instance_status limits bytes b is))
        (behind_refused_instance (say_refusal source.instance (RefusesInstance limits) old new bytes b held is says))
    answer_behind a (stands bytes inst b held takes due) writes says =
        text_behind inst b (record { bytes = bytes; held = held; such = takes }) due writes says

    -- ---- which status comes

    abbrev Next : Tables → Answer → Type 0
    Next inst = OnText limits (reading old new) cert_name out inst

    on_text : (inst : Tables) (cert : C) (a : Answer) → TellsInstance limits old source inst
        → TellsCertificateBy kind.texts limits old cert_name inst cert → Answering new a
        → (a.status ≡ 7) ⊎ RebindsBy kind limits inst out cert a
    on_text inst cert a tells tells_cert due =
        then_more (Next inst a) (RebindsBy kind limits inst out cert a) a
        (told_file 3 cert_name old new (RefusesCertificateBy kind.texts limits inst)
        (SpellsOneBy kind.texts limits inst) (RebindsBy kind limits inst out) a
        (λ bytes. SpellsCertificateBy kind.texts limits inst bytes cert) cert tells_cert
        (λ bytes b spells is. text_accepted limits inst bytes cert b spells is)
        (λ bytes other spells one. sym (one.only cert spells.text_of)))
        (on_taken limits source old new Next inst a tells due)

    short_status : (inst : Tables) (cert : C) (answer : ReboundTree) (a : Answer) → BecomesBy kind inst cert answer
        → length (kind.text inst (with_tree kind cert answer)) ≤ limits.certificate_bytes
        → RebindsBy kind limits inst out cert a → OrUnread 0 a
    short_status inst cert answer a is within (rebound other h) = inr refl
    short_status inst cert answer a is within (too_long other h) =
        absurd (not_both kind inst cert answer other limits.certificate_bytes is h.is within h.long)

    long_status : (inst : Tables) (cert : C) (answer : ReboundTree) (a : Answer) → BecomesBy kind inst cert answer
        → limits.certificate_bytes < length (kind.text inst (with_tree kind cert answer))
        → RebindsBy kind limits inst out cert a → OrUnread 12 a
    long_status inst cert answer a is more (rebound other h) =
        absurd (not_both kind inst cert other answer limits.certificate_bytes h.is is h.within more)
    long_status inst cert answer a is more (too_long other h) = inr refl

    rebound_expects : (expected : ℕ) → ExpectsRebound kind limits source cert_name old expected → (a : Answer)
        → Answering new a → OrUnread expected a
    rebound_expects expected (no_instance missing) a due =
        inl (missing_file 2 source.instance old new (RefusesInstance limits) (TakesOne limits source.slack) Next a
        missing due)
    rebound_expects expected (refused_instance tells) a due = bad_instance limits source old new Next a tells due
    rebound_expects expected (no_certificate inst tells missing) a due =
        then_next (Next inst a) 7 a
        (λ d. inl (missing_file 3 cert_name old new (RefusesCertificateBy kind.texts limits inst)
        (SpellsOneBy kind.texts limits inst) (RebindsBy kind limits inst out) a missing d))
        (on_taken limits source old new Next inst a tells due)
    rebound_expects expected (refused_certificate inst tells bad) a due =
        then_next (Next inst a) 5 a
        (refused_file 3 cert_name old new (RefusesCertificateBy kind.texts limits inst)
        (SpellsOneBy kind.texts limits inst) (RebindsBy kind limits inst out) a
        (IsRefusedCertificateBy kind.texts limits inst) 5 bad
        (λ bytes x one. refused_apart limits inst bytes x one) (certificate_status limits inst))
        (on_taken limits source old new Next inst a tells due)
    rebound_expects expected (short inst cert answer tells tells_cert is within) a due =
        then_next (RebindsBy kind limits inst out cert a) 0 a (short_status inst cert answer a is within)
        (on_text inst cert a tells tells_cert due)
    rebound_expects expected (long inst cert answer tells tells_cert is more) a due =
        then_next (RebindsBy kind limits inst out cert a) 12 a (long_status inst cert answer a is more)
        (on_text inst cert a tells tells_cert due)

    -- ---- a run

    pub rebound_runs : (status : ℕ) → Ends (DueRebound kind limits source cert_name out old) old new status
        → RunsReboundBy kind limits source cert_name out old new status
    rebound_runs status ends =
        record {
          ends = ends;
          behind = wrote_behind Answering (BehindRebound kind limits source cert_name out old new) old new status
              answer_behind ends;
          allowed = λ expected expects.
              ends_allowed Answering old new status expected (rebound_expects expected expects) ends;
          exact = λ instance cert tells tells_cert calm.
              ends_exact Answering (AnswersReboundBy kind limits by_bytes source.slack instance cert out) old new status
              (λ a. rebound_other limits source.slack (reading old new) by_bytes source.instance cert_name instance cert
              out a (exact_reading source.instance instance old new tells calm)
              (exact_reading cert_name cert old new tells_cert calm)) calm ends;
          one = λ slack instance cert. rebound_once kind limits slack instance cert out;
          others = others_kept (DueRebound kind limits source cert_name out old) old new out
              (due_out limits source cert_name out old) status ends;
          unopened = unopened_kept (DueRebound kind limits source cert_name out old) old new
              (due_unopened limits source cert_name out old new) status ends;
          quiet = ends_quiet (DueRebound kind limits source cert_name out old) old new status ends;
        }
