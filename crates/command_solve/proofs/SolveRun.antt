-- What a run of `solve` promises follows from its end.
use Rattle.std.proofs.Common.{◌≡◌, ◌≢◌, ◌⊎◌, inl, inr, ℕ, refl, sym, ◌∙◌, ap, subst, arith, List, [], ◌∷◌}
use Rattle.std.proofs.Common.{map, Option, Some, None}
use Rattle.std.proofs.lemmas.List.{length-map}
use Rattle.std.proofs.lemmas.List.Elements.{All-nil, All-cons}
use Rattle.plan_desk.specs.Desk.{Shown, TellsNames}
use Rattle.plan_desk.specs.Contents.{HoldsBytes, Says, OnlyReads, KeepsFiles}
use Rattle.plan_desk.specs.FileWrites.{FileWrite, after_writes}
use Rattle.instance_model.specs.declared.limits.Limits.{Limits}
use Rattle.instance_model.specs.Limits.{standard_limits}
use Rattle.instance_model.specs.Tables.{Tables}
use Rattle.plan_moves.specs.declared.change.Change.{Change}
use Rattle.certificate_lines.specs.declared.line.Bound.{Bound}
use Rattle.certificate_lines.specs.declared.line.Bound.TheVariants.{NoPlan, Least}
use Rattle.certificate_tree.specs.declared.certificate.Certificate.{Certificate}
use Rattle.certificate_text.specs.Text.{certificate_text}
use Rattle.command_frame.specs.Sources.{Source}
use Rattle.command_frame.specs.Reports.{accepted_report}
use Rattle.command_frame.specs.Ending.{Writing, Answer, files_of, reply, Ends}
use Rattle.command_frame.specs.Ending.OrMemory.{answers, no_memory}
use Rattle.command_frame.specs.Ending.Ends.{done, unsaid, unwritten}
use Rattle.command_frame.specs.Bytes.{TakesOne, RefusesInstance}
use Rattle.command_frame.specs.Bytes.RefusesInstance.{long_instance, faulty_instance}
use Rattle.command_frame.specs.Files.{Meeting, reading, by_bytes}
use Rattle.command_frame.specs.Files.{ReadsInstance}
use Rattle.command_frame.specs.Files.OnFile.{unread, refused, stands}
use Rattle.command_frame.specs.declared.refusal.Refusal.{Refusal}
use Rattle.command_frame.specs.Refusals.{CountsRefusal, IsInstanceCause, SaysRefused}
use Rattle.command_frame.proofs.ReadLemmas.{refuses_instance, after_instance}
use Rattle.command_frame.proofs.FileLemmas.{Carries, on_other, later_reading, exact_reading, OrUnread}
use Rattle.command_frame.proofs.FileLemmas.{missing_file, then_next, say_refusal}
use Rattle.command_frame.proofs.AnswerLemmas.{instance_status}
use Rattle.command_frame.proofs.TakenLemmas.{on_taken, bad_instance}
use Rattle.command_frame.proofs.EndLemmas.{Stays, memory_ends, refusal_ends, ends_quiet, ends_allowed, ends_exact}
use Rattle.command_frame.proofs.WriteLemmas.{told_ends, wrote_behind}
use Rattle.command_frame.specs.Outputs.{holding, OpensSearched}
use Rattle.command_frame.proofs.HoldLemmas.{IsNoneOf, named_output, named_after, others_after, held_after, held_alike}
use Rattle.command_frame.proofs.HoldLemmas.{others_stopped}
use Rattle.command_frame.proofs.OutputLemmas.{same_holding}
use Rattle.command_answers.specs.Check.{IsKeptPlan, BoundsEveryPlan, AnswersCheck}
use Rattle.command_answers.specs.Accepting.{IsShortCheckable}
use Rattle.branch_search.specs.Turns.{AreEnough}
use Rattle.local_search.specs.Openings.{IsWithoutStart}
use Rattle.branch_search.specs.Startless.{empty_certificate}
use Rattle.command_solve.specs.Solving.{SolveFiles, AreDistinct, cert_write, trail_write, plan_write}
use Rattle.command_solve.specs.Solving.{Solves, AnswersSolve, DueSolve, BehindSolve, ExpectsSolve, KeepsOthers}
use Rattle.command_solve.specs.Solving.{RunsSolve}
use Rattle.command_solve.specs.Solving.Solves.{found, nothing, none, no_start}
use Rattle.command_solve.specs.Solving.BehindSolve.{found as behind_found, nothing as behind_nothing}
use Rattle.command_solve.specs.Solving.BehindSolve.{none as behind_none, refused_instance as behind_refused_instance}
use Rattle.command_solve.specs.Solving.BehindSolve.{unread_instance as behind_unread_instance}
use Rattle.command_solve.specs.Solving.ExpectsSolve.{no_instance, refused_instance, no_start as expects_no_start}
use Rattle.command_solve.specs.Solving.ExpectsSolve.{a_plan, no_plan}
use Rattle.command_solve.specs.Made.{TellsSolution}
use Rattle.command_solve.specs.Made.TellsSolution.{told, no_memory as no_memory_left}
use Rattle.command_solve.proofs.AnswerLemmas.{best_feasible}

-- ---- from one way of meeting the instance file to another

solve_other : (limits : Limits) (slack : ℕ) (met other : Meeting) (i j : List ℕ) (files : SolveFiles) (turns : ℕ)
    (a : Answer) → Carries met i other j → AnswersSolve limits met slack i files turns a
    → AnswersSolve limits other slack j files turns a
solve_other limits slack met other i j files turns a carries =
    on_other met other 2 i j (RefusesInstance limits) (TakesOne limits slack) (λ inst. Solves limits inst files turns)
    (λ inst. Solves limits inst files turns) a carries (λ inst b solves. solves)

pub solve_stays : (limits : Limits) (source : Source) (files : SolveFiles) (turns : ℕ) (old mid new : Shown)
    → Stays (λ at. AnswersSolve limits (reading old at) source.slack source.instance files turns) mid new
solve_stays limits source files turns old mid new goes a =
    solve_other limits source.slack (reading old mid) (reading old new) source.instance source.instance files turns a
    (later_reading source.instance old mid new goes)

-- ---- what the files hold

-- each of these writings is that of one of the three files
abbrev AreOfFiles : SolveFiles → List Writing → Type 0
AreOfFiles files writes =
    (name : List ℕ) → name ≢ files.plan → name ≢ files.cert → name ≢ files.trail → IsNoneOf name (files_of writes)

two_others : (name : List ℕ) (c t : FileWrite) → name ≢ c.name → name ≢ t.name → IsNoneOf name (c ∷ t ∷ [])
two_others name c t nc nt =
    All-cons (λ f. name ≢ f.name) c (t ∷ []) nc
    (All-cons (λ f. name ≢ f.name) t [] nt (All-nil (λ f. name ≢ f.name)))

three_others : (name : List ℕ) (c t p : FileWrite) → name ≢ c.name → name ≢ t.name → name ≢ p.name
    → IsNoneOf name (c ∷ t ∷ p ∷ [])
three_others name c t p nc nt np =
    All-cons (λ f. name ≢ f.name) c (t ∷ p ∷ []) nc (two_others name t p nt np)

solves_files : (limits : Limits) (inst : Tables) (files : SolveFiles) (turns : ℕ) (a : Answer)
    → Solves limits inst files turns a → AreOfFiles files a.writes
solves_files limits inst files turns a (found changes answer plan bound x y z u v) name p c t =
    three_others name (cert_write inst files answer.cert).file (trail_write inst files changes).file
    (plan_write inst files plan).file c t p
solves_files limits inst files turns a (nothing changes answer bound x y z u) name p c t =
    two_others name (cert_write inst files answer.cert).file (trail_write inst files changes).file c t
solves_files limits inst files turns a (none changes answer x y z u) name p c t =
    two_others name (cert_write inst files answer.cert).file (trail_write inst files changes).file c t
solves_files limits inst files turns a (no_start i x y) name p c t =
    two_others name (cert_write inst files (empty_certificate i)).file (trail_write inst files []).file c t

no_files : (limits : Limits) (bytes : List ℕ) (a : Answer) → RefusesInstance limits bytes a → a.writes ≡ []
no_files limits bytes a (long_instance l) = refl
no_files limits bytes a (faulty_instance fault one) = refl

none_of_none : (files : SolveFiles) (writes : List Writing) → writes ≡ [] → AreOfFiles files writes
none_of_none files writes is name p c t =
    subst (λ (w : List Writing). IsNoneOf name (files_of w)) (sym is) (All-nil (λ f. name ≢ f.name))

answers_files : (limits : Limits) (met : Meeting) (slack : ℕ) (instance : List ℕ) (files : SolveFiles) (turns : ℕ)
    (a : Answer) → AnswersSolve limits met slack instance files turns a → AreOfFiles files a.writes
answers_files limits met slack instance files turns a (unread fails) = none_of_none files [] refl
answers_files limits met slack instance files turns a (refused bytes b held is) =
    none_of_none files b.writes (no_files limits bytes b is)
answers_files limits met slack instance files turns a (stands bytes inst b held takes solves) =
    solves_files limits inst files turns b solves

due_files : (limits : Limits) (source : Source) (files : SolveFiles) (turns : ℕ) (old at : Shown) (a : Answer)
    → DueSolve limits source files turns old at a → AreOfFiles files a.writes
due_files limits source files turns old at a (answers b is) =
    answers_files limits (reading old at) source.slack source.instance files turns b is
due_files limits source files turns old at a no_memory = none_of_none files [] refl

-- ---- what stands behind a status

module _ (limits : Limits) (source : Source) (files : SolveFiles) (turns : ℕ) (old new : Shown)
    (distinct : AreDistinct source.instance files) (names : TellsNames old) where
  -- the certificate and the trail that were written are held, whatever else was, and the plan
  module _ (c t : FileWrite) (c_is : c.name ≡ files.cert) (t_is : t.name ≡ files.trail) where
    cert_apart : c.name ≢ t.name
    cert_apart e = distinct.cert_trail (sym c_is ∙ e ∙ t_is)

    two_held : new.output ≡ (after_writes (c ∷ t ∷ []) old).output
        → HoldsBytes new c.name c.bytes × HoldsBytes new t.name t.bytes
    two_held writes =
        let named = named_output old names in
        let same : (f : FileWrite) → HoldsBytes (after_writes (c ∷ t ∷ []) old) f.name f.bytes
        → HoldsBytes new f.name f.bytes =
        λ f. held_alike (after_writes (c ∷ t ∷ []) old).output.holds new.output.holds f.name f.bytes
        (same_holding (after_writes (c ∷ t ∷ []) old) new f.name writes) in (
          same c (held_after c (t ∷ []) old named
              (All-cons (λ f. c.name ≢ f.name) t [] cert_apart (All-nil (λ f. c.name ≢ f.name)))),
          same t (held_after t [] (after_writes (c ∷ []) old) (named_after (c ∷ []) old named)
              (All-nil (λ f. t.name ≢ f.name))),
        )

    three_held : (p : FileWrite) → p.name ≡ files.plan → new.output ≡ (after_writes (c ∷ t ∷ p ∷ []) old).output
        → HoldsBytes new c.name c.bytes × HoldsBytes new t.name t.bytes × HoldsBytes new p.name p.bytes
    three_held p p_is writes =
        let named = named_output old names in
        let same : (f : FileWrite) → HoldsBytes (after_writes (c ∷ t ∷ p ∷ []) old) f.name f.bytes
        → HoldsBytes new f.name f.bytes =
        λ f. held_alike (after_writes (c ∷ t ∷ p ∷ []) old).output.holds new.output.holds f.name f.bytes
        (same_holding (after_writes (c ∷ t ∷ p ∷ []) old) new f.name writes) in (
          same c (held_after c (t ∷ p ∷ []) old named
              (two_others c.name t p cert_apart (λ e. distinct.plan_cert (sym p_is ∙ sym e ∙ c_is)))),
          same t (held_after t (p ∷ []) (after_writes (c ∷ []) old) (named_after (c ∷ []) old named)
              (All-cons (λ f. t.name ≢ f.name) p [] (λ e. distinct.plan_trail (sym p_is ∙ sym e ∙ t_is))
              (All-nil (λ f. t.name ≢ f.name)))),
          same p (held_after p [] (after_writes (c ∷ t ∷ []) old) (named_after (c ∷ t ∷ []) old named)
              (All-nil (λ f. p.name ≢ f.name))),
        )

  -- `check` with the same instance and slack accepts the certificate
  checks : (inst : Tables) (bytes : List ℕ) (cert : Certificate) (bound : Bound)
      → TakesOne limits source.slack bytes inst
      → IsShortCheckable limits inst cert → cert.bound ≡ bound
      → AnswersCheck limits by_bytes source.slack bytes None (certificate_text inst cert)
      (reply 0 (accepted_report inst bound None))
  checks inst bytes cert bound takes checkable is =
      subst (λ (b : Bound). AnswersCheck limits by_bytes source.slack bytes None (certificate_text inst cert)
      (reply 0 (accepted_report inst b None))) is
      (stands bytes inst (reply 0 (accepted_report inst cert.bound None)) refl takes checkable.checkable.accepted)

  -- no plan keeps the rules where the bound is none
  no_kept : (inst : Tables) (cert : Certificate) → IsShortCheckable limits inst cert → cert.bound ≡ NoPlan
      → (plan : List (Option ℕ)) → IsKeptPlan inst plan → ⊥
  no_kept inst cert checkable is = checkable.checkable.bounds.none is

  solved_behind : (inst : Tables) (a : Answer) → ReadsInstance limits source old inst
      → Solves limits inst files turns a → new.output ≡ (after_writes (files_of a.writes) old).output
      → Says a.text old new → BehindSolve limits source files turns old new a.status
  solved_behind inst a reads (found changes answer plan bound solved is_found checkable replayable evaluable) writes
      says =
      let held = three_held (cert_write inst files answer.cert).file (trail_write inst files changes).file refl refl
      (plan_write inst files plan).file refl writes in
      behind_found (record {
        inst = inst;
        reads = reads;
        changes = changes;
        answer = answer;
        plan = plan;
        bound = bound;
        solved = solved;
        found = is_found;
        keeps = evaluable.keeps;
        bounds = subst (BoundsEveryPlan inst) is_found.bound_is checkable.checkable.bounds;
        short = checkable.short;
        cert_held = held.0;
        trail_held = held.1;
        plan_held = held.2;
        accepted = checks inst reads.bytes answer.cert (Least bound) reads.such checkable is_found.bound_is;
        replayable = replayable;
        evaluated = stands reads.bytes inst _ refl reads.such evaluable.judged;
        says = says;
      })
  solved_behind inst a reads (nothing changes answer bound solved is_nothing checkable replayable) writes says =
      let held = two_held (cert_write inst files answer.cert).file (trail_write inst files changes).file refl refl
      writes in
      behind_nothing (record {
        inst = inst;
        reads = reads;
        changes = changes;
        answer = answer;
        bound = bound;
        solved = solved;
        nothing = is_nothing;
        bounds = subst (BoundsEveryPlan inst) is_nothing.bound_is checkable.checkable.bounds;
        short = checkable.short;
        cert_held = held.0;
        trail_held = held.1;
        accepted = checks inst reads.bytes answer.cert (Least bound) reads.such checkable is_nothing.bound_is;
        replayable = replayable;
        says = says;
      })
  solved_behind inst a reads (none changes answer solved is_none checkable replayable) writes says =
      let held = two_held (cert_write inst files answer.cert).file (trail_write inst files changes).file refl refl
      writes in
      behind_none (record {
        inst = inst;
        reads = reads;
        cert = answer.cert;
        changes = changes;
        bound_is = is_none.bound_is;
        no_plan = no_kept inst answer.cert checkable is_none.bound_is;
        short = checkable.short;
        cert_held = held.0;
        trail_held = held.1;
        accepted = checks inst reads.bytes answer.cert NoPlan reads.such checkable is_none.bound_is;
        made = inl (answer, solved, is_none, refl, replayable);
        says = says;
      })
  solved_behind inst a reads (no_start i without checkable) writes says =
      let held = two_held (cert_write inst files (empty_certificate i)).file (trail_write inst files []).file refl refl
      writes in
      behind_none (record {
        inst = inst;
        reads = reads;
        cert = empty_certificate i;
        changes = [];
        bound_is = refl;
        no_plan = no_kept inst (empty_certificate i) checkable refl;
        short = checkable.short;
        cert_held = held.0;
        trail_held = held.1;
        accepted = checks inst reads.bytes (empty_certificate i) NoPlan reads.such checkable refl;
        made = inr (i, without, refl, refl);
        says = says;
      })

  solve_behind : (a : Answer) → AnswersSolve limits (reading old new) source.slack source.instance files turns a
      → new.output ≡ (after_writes (files_of a.writes) old).output → Says a.text old new
      → BehindSolve limits source files turns old new a.status
  solve_behind a (unread fails) writes says = behind_unread_instance (record { fails = fails; says = says })
  solve_behind a (refused bytes b held is) writes says =
      subst (λ (n : ℕ). BehindSolve limits source files turns old new n) (sym (instance_status limits bytes b is))
      (behind_refused_instance
      (say_refusal source.instance (RefusesInstance limits) old new bytes b held is says))
  solve_behind a (stands bytes inst b held takes solves) writes says =
      solved_behind inst b (record { bytes = bytes; held = held; such = takes }) solves writes says

  -- ---- which files are changed

  abbrev Due : Shown → Answer → Type 0
  Due at a = DueSolve limits source files turns old at a

  solve_others : (status : ℕ) → Ends Due old new status → KeepsOthers files old new
  solve_others status (done n d) name p c t =
      same_holding (after_writes (files_of d.answer.writes) old) new name d.writes
      ∙ others_after (files_of d.answer.writes) old name
      (due_files limits source files turns old new d.answer d.due name p c t)
  solve_others status (unsaid u) name p c t =
      same_holding (after_writes (files_of u.answer.writes) old) new name u.writes
      ∙ others_after (files_of u.answer.writes) old name
      (due_files limits source files turns old u.before u.answer u.due name p c t)
  solve_others status (unwritten u) name p c t =
      same_holding u.stopped new name u.output_is
      ∙ others_stopped (files_of u.answer.writes) u.n u.call u.before u.stopped name
      (due_files limits source files turns old u.before u.answer u.due name p c t) u.stops
      ∙ same_holding old u.before name u.output

  -- a refusal, and want of memory, write no file
  unopened_solves : (inst : Tables) (a : Answer) → Solves limits inst files turns a → (OpensSearched a.status → ⊥)
      → a.writes ≡ []
  unopened_solves inst a (found changes answer plan bound s f k r e) opens = absurd (opens (inl refl))
  unopened_solves inst a (nothing changes answer bound s f k r) opens = absurd (opens (inr (inr (inl refl))))
  unopened_solves inst a (none changes answer s f k r) opens = absurd (opens (inr (inr (inr (inl refl)))))
  unopened_solves inst a (no_start i w k) opens = absurd (opens (inr (inr (inr (inl refl)))))

  unopened_answer : (a : Answer) → AnswersSolve limits (reading old new) source.slack source.instance files turns a
      → (OpensSearched a.status → ⊥) → a.writes ≡ []
  unopened_answer a (unread fails) opens = refl
  unopened_answer a (refused bytes b held is) opens = no_files limits bytes b is
  unopened_answer a (stands bytes inst b held takes solves) opens = unopened_solves inst b solves opens

  unopened_due : (a : Answer) → Due new a → (OpensSearched a.status → ⊥) → a.writes ≡ []
  unopened_due a (answers b is) opens = unopened_answer b is opens
  unopened_due a no_memory opens = refl

  solve_unopened : (status : ℕ) → Ends Due old new status → (OpensSearched status → ⊥) → new.output ≡ old.output
  solve_unopened status (done n d) opens =
      d.writes
      ∙ ap (λ (w : List Writing). (after_writes (files_of w) old).output)
      (unopened_due d.answer d.due (λ o. opens (subst OpensSearched (sym d.status_is) o)))
  solve_unopened status (unsaid u) opens = absurd (opens (inr (inl refl)))
  solve_unopened status (unwritten u) opens = absurd (opens (inr (inl refl)))

  -- where no plan is found, its file isn't written
  two : (inst : Tables) (cert : Certificate) (changes : List Change)
      → IsNoneOf files.plan ((cert_write inst files cert).file ∷ (trail_write inst files changes).file ∷ [])
  two inst cert changes =
      two_others files.plan (cert_write inst files cert).file (trail_write inst files changes).file distinct.plan_cert
      distinct.plan_trail

  no_plan_solves : (inst : Tables) (a : Answer) → Solves limits inst files turns a → (a.status ≡ 9) ⊎ (a.status ≡ 10)
      → IsNoneOf files.plan (files_of a.writes)
  no_plan_solves inst a (found changes answer plan bound s f k r e) (inl is) = absurd (omega (arith, is))
  no_plan_solves inst a (found changes answer plan bound s f k r e) (inr is) = absurd (omega (arith, is))
  no_plan_solves inst a (nothing changes answer bound s f k r) low = two inst answer.cert changes
  no_plan_solves inst a (none changes answer s f k r) low = two inst answer.cert changes
  no_plan_solves inst a (no_start i w k) low = two inst (empty_certificate i) []

  no_plan_answer : (a : Answer) → AnswersSolve limits (reading old new) source.slack source.instance files turns a
      → (a.status ≡ 9) ⊎ (a.status ≡ 10) → IsNoneOf files.plan (files_of a.writes)
  no_plan_answer a (unread fails) low = All-nil (λ f. files.plan ≢ f.name)
  no_plan_answer a (refused bytes b held is) low =
      subst (λ (w : List Writing). IsNoneOf files.plan (files_of w)) (sym (no_files limits bytes b is))
      (All-nil (λ f. files.plan ≢ f.name))
  no_plan_answer a (stands bytes inst b held takes solves) low = no_plan_solves inst b solves low

  no_plan_due : (a : Answer) → Due new a → (a.status ≡ 9) ⊎ (a.status ≡ 10)
      → IsNoneOf files.plan (files_of a.writes)
  no_plan_due a (answers b is) low = no_plan_answer b is low
  no_plan_due a no_memory low = All-nil (λ f. files.plan ≢ f.name)

  solve_no_plan : (status : ℕ) → Ends Due old new status → (status ≡ 9) ⊎ (status ≡ 10)
      → holding new files.plan ≡ holding old files.plan
  solve_no_plan status (done n d) low =
      same_holding (after_writes (files_of d.answer.writes) old) new files.plan d.writes
      ∙ others_after (files_of d.answer.writes) old files.plan
      (no_plan_due d.answer d.due (subst (λ (m : ℕ). (m ≡ 9) ⊎ (m ≡ 10)) d.status_is low))
  solve_no_plan status (unsaid u) (inl e) = absurd (omega (arith, e))
  solve_no_plan status (unsaid u) (inr e) = absurd (omega (arith, e))
  solve_no_plan status (unwritten u) (inl e) = absurd (omega (arith, e))
  solve_no_plan status (unwritten u) (inr e) = absurd (omega (arith, e))

  -- ---- which status comes

  no_start_status : (inst : Tables) (i : ℕ) (a : Answer) → IsWithoutStart inst i → Solves limits inst files turns a
      → OrUnread 10 a
  no_start_status inst i a without (found changes answer plan bound solved f k r evaluable) =
      let start = evaluable.keeps.starts i without.number in absurd (without.none start.start start.allowed)
  no_start_status inst i a without (nothing changes answer bound solved f k r) =
      let opens = solved.trail.opens.allowed in
      absurd (without.none _ (opens.allowed i (omega (arith, without.number, opens.each))))
  no_start_status inst i a without (none changes answer solved f k r) = inr refl
  no_start_status inst i a without (no_start j w k) = inr refl

  a_plan_status : (inst : Tables) (plan : List (Option ℕ)) (a : Answer) → IsKeptPlan inst plan → AreEnough inst turns
      → Solves limits inst files turns a → OrUnread 0 a
  a_plan_status inst plan a kept enough (found changes answer p bound solved f k r e) = inr refl
  a_plan_status inst plan a kept enough (nothing changes answer bound solved f k r) = absurd (f.too_few enough)
  a_plan_status inst plan a kept enough (none changes answer solved f checkable r) =
      absurd (no_kept inst answer.cert checkable f.bound_is plan kept)
  a_plan_status inst plan a kept enough (no_start i w checkable) =
      absurd (no_kept inst (empty_certificate i) checkable refl plan kept)

  no_plan_status : (inst : Tables) (a : Answer) → ((plan : List (Option ℕ)) → IsKeptPlan inst plan → ⊥)
      → AreEnough inst turns → Solves limits inst files turns a → OrUnread 10 a
  no_plan_status inst a never enough (found changes answer plan bound solved f k r evaluable) =
      let best = best_feasible inst solved.prices solved.given turns answer solved.searched plan f.best in
      absurd (never (map Some plan) (record { each = length-map plan Some ∙ best.each; keeps = evaluable.keeps }))
  no_plan_status inst a never enough (nothing changes answer bound solved f k r) = absurd (f.too_few enough)
  no_plan_status inst a never enough (none changes answer solved f k r) = inr refl
  no_plan_status inst a never enough (no_start i w k) = inr refl

  abbrev Next : Tables → Answer → Type 0
  Next inst = Solves limits inst files turns

  solve_expects : (expected : ℕ) → ExpectsSolve limits source turns old expected → (a : Answer)
      → AnswersSolve limits (reading old new) source.slack source.instance files turns a → OrUnread expected a
  solve_expects expected (no_instance missing) a due =
      inl (missing_file 2 source.instance old new (RefusesInstance limits) (TakesOne limits source.slack) Next a
      missing due)
  solve_expects expected (refused_instance tells) a due = bad_instance limits source old new Next a tells due
  solve_expects expected (expects_no_start inst i tells without) a due =
      then_next (Solves limits inst files turns a) 10 a (no_start_status inst i a without)
      (on_taken limits source old new Next inst a tells due)
  solve_expects expected (a_plan inst plan tells kept enough) a due =
      then_next (Solves limits inst files turns a) 0 a (a_plan_status inst plan a kept enough)
      (on_taken limits source old new Next inst a tells due)
  solve_expects expected (no_plan inst tells never enough) a due =
      then_next (Solves limits inst files turns a) 10 a (no_plan_status inst a never enough)
      (on_taken limits source old new Next inst a tells due)

  -- ---- a run

  pub solve_runs : (status : ℕ) → Ends Due old new status
      → RunsSolve limits source files turns old new status
  solve_runs status ends =
      record {
        ends = ends;
        behind = wrote_behind
            (λ at. AnswersSolve limits (reading old at) source.slack source.instance files turns)
            (BehindSolve limits source files turns old new) old new status solve_behind ends;
        allowed = λ expected expects.
            ends_allowed (λ at. AnswersSolve limits (reading old at) source.slack source.instance files turns) old new
            status expected (solve_expects expected expects) ends;
        exact = λ instance tells calm.
            ends_exact (λ at. AnswersSolve limits (reading old at) source.slack source.instance files turns)
            (AnswersSolve limits by_bytes source.slack instance files turns) old new status
            (λ a. solve_other limits source.slack (reading old new) by_bytes source.instance instance files turns a
            (exact_reading source.instance instance old new tells calm)) calm ends;
        others = solve_others status ends;
        unopened = solve_unopened status ends;
        no_plan_file = solve_no_plan status ends;
        quiet = ends_quiet Due old new status ends;
      }

-- ---- the end of a run

module _ (source : Source) (files : SolveFiles) (turns : ℕ) (old mid new : Shown) (reads : OnlyReads old mid) where
  abbrev Answers : Shown → Answer → Type 0
  Answers at = AnswersSolve standard_limits (reading old at) source.slack source.instance files turns

  stays : (at : Shown) → Stays Answers mid at
  stays at = solve_stays standard_limits source files turns old mid at

  -- the instance was read, and its solution was told, or memory ran out
  pub solution_ends : (inst : Tables) (status : ℕ) → ReadsInstance standard_limits source old inst
      → mid.faults ≡ old.faults → TellsSolution inst files turns mid new status
      → Ends (DueSolve standard_limits source files turns old) old new status
  solution_ends inst status read last (told a solves tells) =
      told_ends Answers old mid a reads last
      (after_instance standard_limits source old mid inst (λ i. Solves standard_limits i files turns) a read solves) new
      status stays tells
  solution_ends inst status read last (no_memory_left keeps says) =
      memory_ends Answers old mid new status reads keeps last says

  -- the instance was refused
  pub refused_ends : (refusal : Refusal) (status : ℕ) → KeepsFiles mid new → CountsRefusal old mid refusal
      → IsInstanceCause standard_limits 2 source.instance old mid refusal → SaysRefused refusal mid new status
      → Ends (DueSolve standard_limits source files turns old) old new status
  refused_ends refusal status keeps kept cause says =
      refusal_ends Answers old mid new refusal status (stays new) reads keeps kept
      (refuses_instance standard_limits source old mid (λ i. Solves standard_limits i files turns) refusal cause) says
