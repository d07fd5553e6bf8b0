-- What was made of an instance is an answer to it.
use Rattle.std.proofs.Common.{◌≡◌, ℕ, ◌<◌, ◌≤◌, refl, sym, subst, arith, ℤ, pos, ◌-ℤ◌, List, [], ◌∷◌}
use Rattle.std.proofs.Common.{length, map, Option, Some, None}
use Rattle.std.specs.Prelude.{IfSome}
use Rattle.fixed_num.proofs.SignedLemmas.{signed_arith}
use Rattle.std.proofs.lemmas.List.Elements.{All-nil, All-cons}
use Rattle.instance_model.specs.Limits.{standard_limits}
use Rattle.instance_model.specs.Tables.{Tables}
use Rattle.instance_model.specs.Fitting.{IsFitting}
use Rattle.instance_model.specs.Values.{score_of}
use Rattle.plan_moves.specs.declared.change.Change.{Change}
use Rattle.plan_moves.specs.Scripts.{NamesKnown, line_of}
use Rattle.move_script.specs.Spelling.{HasSmallStart}
use Rattle.move_script.proofs.WrittenLemmas.{moves_text_spells}
use Rattle.lagrange_bound.specs.Prices.{PriceList, IsPriceList}
use Rattle.lagrange_bound.specs.Goals.{risk_base, risk_value}
use Rattle.certificate_lines.specs.declared.line.Bound.{Bound}
use Rattle.certificate_lines.specs.declared.line.Bound.TheVariants.{NoPlan, Least}
use Rattle.certificate_tree.specs.declared.node.Node.TheVariants.{Empty}
use Rattle.certificate_tree.specs.declared.certificate.Certificate.{Certificate}
use Rattle.certificate_tree.specs.Trees.{leaf, root_box}
use Rattle.certificate_tree.specs.Ranges.{HasPricesOf, IsInRange}
use Rattle.certificate_tree.specs.Validity.{claim_of, CertLeafHolds}
use Rattle.certificate_text.specs.Text.{certificate_text}
use Rattle.certificate_text.specs.Laws.{TextsFitFiles}
use Rattle.branch_search.specs.declared.tree_end.TreeEnd.{TreeEnd}
use Rattle.command_frame.specs.declared.report.Report.{Report}
use Rattle.command_frame.specs.Ending.{Writing}
use Rattle.command_answers.proofs.BoundLemmas.{best_plan}
use Rattle.local_search.specs.Openings.{IsWithoutStart}
use Rattle.branch_search.specs.Startless.{empty_certificate}
use Rattle.command_solve.specs.Solving.{SolveFiles, none_report, cert_write, trail_write, IsReplayable, IsFound, Solves}
use Rattle.command_solve.specs.Solving.Solves.{found, nothing, none, no_start}
use Rattle.command_answers.specs.Accepting.{IsShortCheckable, IsValidWithin, IsAcceptable}
use Rattle.command_solve.specs.Made.{AreWritable, IsMade, CanReport, IsReportOf}
use Rattle.command_solve.specs.Made.{plan_writes, IsSolution}
use Rattle.command_frame.specs.Writing.{IsWritablePlan}
use Rattle.command_solve.proofs.AnswerLemmas.{some_has_bound, best_feasible, gap_is_spent, enough_meets, is_nothing}
use Rattle.command_solve.proofs.PlanLemmas.{evaluable}
use Rattle.command_frame.proofs.PlanWrites.{writable_plan}

-- an answer with this status and text
spoken : (inst : Tables) (files : SolveFiles) (turns : ℕ) (writes : List Writing) (status : ℕ) (text : List ℕ)
    (report : Report) → report.status ≡ status → report.text ≡ text
    → Solves standard_limits inst files turns (record { status = status; text = text; writes = writes })
    → Solves standard_limits inst files turns (record {
      status = report.status;
      text = report.text;
      writes = writes;
    })
spoken inst files turns writes status text report is same solves =
    subst (λ (n : ℕ). Solves standard_limits inst files turns (record {
      status = n;
      text = report.text;
      writes = writes;
    })) (sym is)
    (subst (λ (t : List ℕ). Solves standard_limits inst files turns (record {
      status = status;
      text = t;
      writes = writes;
    })) (sym same) solves)

replayable : (inst : Tables) (changes : List Change) → IsFitting inst → AreWritable inst changes
    → IsReplayable inst changes
replayable inst changes fit are =
    moves_text_spells standard_limits.interventions inst changes fit.names are.known are.small

module _ (inst : Tables) (turns : ℕ) (changes : List Change) (answer : TreeEnd) (fit : IsFitting inst)
    (made : IsMade inst turns changes answer) where
  open made use {solved}

  -- the best plan and the bound can stand together
  pub can_report : CanReport inst answer.best answer.cert.bound
  can_report = at answer.best answer.cert.bound refl refl
    where
      at : (best : Option (List ℕ)) (bound : Bound) → answer.best ≡ best → answer.cert.bound ≡ bound
          → CanReport inst best bound
      at (Some plan) (Least b) is bound_is =
          best_feasible inst solved.prices solved.given turns answer solved.searched plan is
      at (Some plan) NoPlan is bound_is =
          some_has_bound inst solved.prices solved.given turns answer solved.searched plan is bound_is
      at None bound is bound_is = tt

  writable_best : IfSome answer.best (IsWritablePlan inst)
  writable_best = at answer.best refl
    where
      at : (best : Option (List ℕ)) → answer.best ≡ best → IfSome best (IsWritablePlan inst)
      at (Some plan) is =
          let good = best_feasible inst solved.prices solved.given turns answer solved.searched plan is in
          writable_plan inst plan fit good.each good.feasible
      at None is = tt

  module _ (good : IsAcceptable standard_limits inst answer.cert) where
    nothing_between : (a b : ℤ) → a ≡ b → a -ℤ b ≡ pos 0
    nothing_between a b e = omega (arith, signed_arith)

    is_found : (plan : List ℕ) (b : ℤ) → answer.best ≡ Some plan → answer.cert.bound ≡ Least b
        → IsFound inst turns answer plan b
    is_found plan b is bound_is =
        let s = solved.searched in
        record {
          best = is;
          bound_is = bound_is;
          gap = gap_is_spent inst solved.prices solved.given turns answer s plan is b bound_is;
          enough = λ are.
              enough_meets inst solved.prices solved.given turns answer s plan is b bound_is (made.enough are);
          no_better = λ e. best_plan inst None (claim_of risk_base inst answer.cert) (map Some plan) b good.accepted bound_is
              (nothing_between (score_of inst (map Some plan)) b e);
        }

    checkable : IsShortCheckable standard_limits inst answer.cert
    checkable = record { checkable = good.checkable; short = made.short }

    module _ (files : SolveFiles) (report : Report) where
      solves_at : (best : Option (List ℕ)) (bound : Bound) → answer.best ≡ best → answer.cert.bound ≡ bound
          → IsReportOf inst best bound answer.cert changes report
          → Solves standard_limits inst files turns (record {
            status = report.status;
            text = report.text;
            writes = cert_write inst files answer.cert ∷ trail_write inst files changes ∷ plan_writes inst files best;
          })
      solves_at (Some plan) (Least b) is bound_is r =
          spoken inst files turns _ 0 _ report r.status_is r.text_is
          (found changes answer plan b solved (is_found plan b is bound_is) checkable
          (replayable inst changes fit made.changes_are)
          (evaluable inst plan fit
          (best_feasible inst solved.prices solved.given turns answer solved.searched plan is) r.encloses))
      solves_at (Some plan) NoPlan is bound_is r = absurd r
      solves_at None (Least b) is bound_is r =
          spoken inst files turns _ 9 _ report r.status_is r.text_is
          (nothing changes answer b solved
          (is_nothing inst turns changes answer b solved made.enough is bound_is) checkable
          (replayable inst changes fit made.changes_are))
      solves_at None NoPlan is bound_is r =
          spoken inst files turns _ 10 _ report r.status_is r.text_is
          (none changes answer solved (record { best = is; bound_is = bound_is }) checkable
          (replayable inst changes fit made.changes_are))

    pub is_solution : (report : Report) → IsReportOf inst answer.best answer.cert.bound answer.cert changes report
        → IsSolution inst turns (record {
          report = report;
          certificate = answer.cert;
          moves = changes;
          plan = answer.best;
        })
    is_solution report r = record {
      solves = λ files. solves_at files report answer.best answer.cert.bound refl refl r;
      writable = record {
        in_range = made.cert.in_range;
        changes = made.changes_are;
        plan = writable_best;
      };
    }

-- ---- where an intervention has no allowed start

module _ (inst : Tables) (i : ℕ) (without : IsWithoutStart inst i) where
  empty_in_range : IsInRange inst (empty_certificate i)
  empty_in_range = record {
    bound = tt;
    few = omega arith;
    lists = All-nil (IsPriceList inst);
    version = All-nil (HasPricesOf (empty_certificate i).version);
    tree = (leaf (Empty i), record { order = refl; in_range = without.number });
  }

  pub empty_is_short : TextsFitFiles → IsFitting inst
      → length (certificate_text inst (empty_certificate i)) < standard_limits.certificate_bytes
  empty_is_short law fit =
      law inst (empty_certificate i) fit empty_in_range (omega arith)
      (All-nil (λ (prices : PriceList). length prices.ex ≤ 400)) (omega arith)

  pub empty_is_good : TextsFitFiles → IsFitting inst → IsValidWithin standard_limits inst (empty_certificate i)
  empty_is_good law fit = record {
    in_range = empty_in_range;
    valid = record {
      tree = leaf (Empty i);
      of_nodes = record { order = refl; in_range = without.number };
      holds = All-cons (CertLeafHolds risk_base risk_value inst (empty_certificate i))
          (record { box = root_box inst; node = Empty i }) [] (λ s start. without.none s start.allowed)
          (All-nil (CertLeafHolds risk_base risk_value inst (empty_certificate i)));
    };
    within = omega (arith, empty_is_short law fit);
  }

  no_changes : AreWritable inst []
  no_changes = record {
    known = All-nil (λ (change : Change). NamesKnown inst (line_of change));
    small = All-nil HasSmallStart;
  }

  pub no_start_solution : IsShortCheckable standard_limits inst (empty_certificate i) → (cert : Certificate)
      (changes : List Change) (text : List ℕ) → cert ≡ empty_certificate i → changes ≡ [] → text ≡ none_report inst
      cert changes
      → (turns : ℕ) → IsSolution inst turns (record {
        report = record { status = 10; text = text };
        certificate = cert;
        moves = changes;
        plan = None;
      })
  no_start_solution good cert changes text is none_made said turns = record {
    solves = λ files. at files;
    writable = record {
      in_range = subst (IsInRange inst) (sym is) empty_in_range;
      changes = subst (AreWritable inst) (sym none_made) no_changes;
      plan = tt;
    };
  }
    where
      at : (files : SolveFiles) → Solves standard_limits inst files turns (record {
        status = 10;
        text = text;
        writes = cert_write inst files cert ∷ trail_write inst files changes ∷ [];
      })
      at files = rw (said, is, none_made) (no_start i without good)
