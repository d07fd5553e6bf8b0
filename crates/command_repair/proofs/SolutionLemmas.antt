-- What was made of an instance and old starts is an answer to them.
use Rattle.std.proofs.Common.{◌≡◌, ℕ, ◌≤◌, refl, sym, subst, arith, List, [], ◌∷◌, length, map, Option, Some, None, All}
use Rattle.std.specs.Prelude.{IfSome}
use Rattle.std.proofs.lemmas.List.Elements.{All-nil, All-cons}
use Rattle.instance_model.specs.Limits.{standard_limits}
use Rattle.instance_model.specs.Tables.{Tables}
use Rattle.instance_model.specs.Fitting.{IsFitting}
use Rattle.instance_model.proofs.RuleLemmas.{KeepsRules-from}
use Rattle.lagrange_bound.specs.Prices.{PriceList, IsPriceList}
use Rattle.certificate_lines.specs.declared.line.Bound.{Bound}
use Rattle.certificate_lines.specs.declared.line.Bound.TheVariants.{NoPlan, Least}
use Rattle.certificate_tree.specs.declared.node.Node.TheVariants.{Empty}
use Rattle.certificate_tree.specs.declared.certificate.Certificate.{Certificate}
use Rattle.certificate_tree.specs.Trees.{leaf, root_box}
use Rattle.certificate_tree.specs.Ranges.{HasPricesOf, IsInRange}
use Rattle.certificate_tree.specs.Validity.{CertLeafHolds}
use Rattle.branch_search.specs.Best.{IsFeasiblePlan}
use Rattle.certificate_text.specs.Laws.{TextsFitFiles}
use Rattle.plan_changes.specs.Changes.{change_base, change_value}
use Rattle.command_frame.specs.declared.report.Report.{Report}
use Rattle.command_frame.specs.Ending.{Writing}
use Rattle.local_search.specs.Openings.{IsWithoutStart}
use Rattle.branch_search.specs.Startless.{empty_certificate}
use Rattle.command_frame.specs.Writing.{IsWritablePlan}
use Rattle.command_frame.proofs.PlanWrites.{writable_plan, spelled_plan}
use Rattle.fewest_changes.specs.Repaired.{IsRepairOf, ComesTo, IsMadeRepair}
use Rattle.command_repair.specs.Repairing.{RepairFiles, none_report, cert_write, IsReadable, Repairs}
use Rattle.command_answers.specs.Accepting.{IsAuditable, IsShortValidFor}
use Rattle.command_repair.specs.Repairing.Repairs.{repaired, nothing, none, no_start}
use Rattle.command_repair.specs.Made.{CanReport, IsReportOf, out_writes, IsSolution}

-- an answer with this status and text
spoken : (inst : Tables) (old : List (Option ℕ)) (files : RepairFiles) (turns : ℕ) (writes : List Writing)
    (status : ℕ) (text : List ℕ) (report : Report) → report.status ≡ status → report.text ≡ text
    → Repairs standard_limits inst old files turns (record { status = status; text = text; writes = writes })
    → Repairs standard_limits inst old files turns (record {
      status = report.status;
      text = report.text;
      writes = writes;
    })
spoken inst old files turns writes status text report is same repairs =
    subst (λ (n : ℕ). Repairs standard_limits inst old files turns (record {
      status = n;
      text = report.text;
      writes = writes;
    })) (sym is)
    (subst (λ (t : List ℕ). Repairs standard_limits inst old files turns (record {
      status = status;
      text = t;
      writes = writes;
    })) (sym same) repairs)

-- ---- a feasible plan

-- its text spells it
readable : (inst : Tables) (plan : List ℕ) → IsFitting inst → IsFeasiblePlan inst plan
    → IsReadable standard_limits inst plan
readable inst plan fit good = record {
  each = good.each;
  keeps = KeepsRules-from inst (map Some plan) good.feasible;
  spelled = spelled_plan inst plan fit (writable_plan inst plan fit good.each good.feasible);
}

-- the plan that is answered is feasible
plan_feasible : (inst : Tables) (old : List (Option ℕ)) (turns : ℕ) (plan : List ℕ) (cert : Certificate)
    → IsRepairOf inst old turns (Some plan) cert → IsFeasiblePlan inst plan
plan_feasible inst old turns plan cert made = made.found.no_worse.feasible

-- ---- what was made

module _ (inst : Tables) (old : List (Option ℕ)) (turns : ℕ) (few : turns ≤ 1_000_000) (fit : IsFitting inst)
    (plan : Option (List ℕ)) (cert : Certificate)
    (is : IsMadeRepair inst old turns (record { certificate = cert; plan = plan })) where
  open is use {made}

  lists_few : length cert.lists ≤ 1
  lists_few = subst (λ (lists : List PriceList). length lists ≤ 1) (sym made.found.lists) (omega arith)

  ex_few : All (λ (list : PriceList). length list.ex ≤ 400) cert.lists
  ex_few =
      subst (All (λ (list : PriceList). length list.ex ≤ 400)) (sym made.found.lists)
      (All-nil (λ (list : PriceList). length list.ex ≤ 400))

  pub short_valid : TextsFitFiles → IsShortValidFor inst old cert
  short_valid texts = record {
    in_range = is.in_range;
    valid = is.valid;
    short = texts inst cert fit is.in_range lists_few ex_few (omega (arith, is.nodes, few));
  }

  pub can_report : CanReport plan cert.bound
  can_report = at plan cert.bound made is.comes_to
    where
      at : (p : Option (List ℕ)) (b : Bound) (m : IsRepairOf inst old turns p cert) → ComesTo inst old turns p b cert m
          → CanReport p b
      at (Some p) (Least b) m comes = tt
      at (Some p) NoPlan m comes = comes
      at None (Least b) m comes = tt
      at None NoPlan m comes = tt

  writable_best : IfSome plan (IsWritablePlan inst)
  writable_best = at plan made
    where
      at : (p : Option (List ℕ)) → IsRepairOf inst old turns p cert → IfSome p (IsWritablePlan inst)
      at (Some p) m =
          let good = plan_feasible inst old turns p cert m in
          writable_plan inst p fit good.each good.feasible
      at None m = tt

  module _ (good : IsAuditable standard_limits inst old cert) (files : RepairFiles) (report : Report) where
    repairs_at : (p : Option (List ℕ)) (b : Bound) (m : IsRepairOf inst old turns p cert)
        → cert.bound ≡ b → ComesTo inst old turns p b cert m → IsReportOf inst old p b cert report
        → Repairs standard_limits inst old files turns (record {
          status = report.status;
          text = report.text;
          writes = cert_write inst files cert ∷ out_writes inst files p;
        })
    repairs_at (Some p) (Least b) m bound_is comes r =
        spoken inst old files turns _ 0 _ report r.status_is r.text_is
        (repaired p b cert m comes good (readable inst p fit (plan_feasible inst old turns p cert m)))
    repairs_at (Some p) NoPlan m bound_is comes r = absurd r
    repairs_at None (Least b) m bound_is comes r =
        spoken inst old files turns _ 9 _ report r.status_is r.text_is (nothing b cert m comes good)
    repairs_at None NoPlan m bound_is comes r =
        spoken inst old files turns _ 10 _ report r.status_is r.text_is (none cert m bound_is good)

  pub is_solution : IsAuditable standard_limits inst old cert → (report : Report)
      → IsReportOf inst old plan cert.bound cert report
      → IsSolution inst old turns (record { report = report; certificate = cert; plan = plan })
  is_solution good report r = record {
    repairs = λ files. repairs_at good files report plan cert.bound made refl is.comes_to r;
    writable = record { in_range = is.in_range; plan = writable_best };
  }

-- ---- where an intervention has no allowed start

module _ (inst : Tables) (old : List (Option ℕ)) (i : ℕ) (without : IsWithoutStart inst i) where
  empty_in_range : IsInRange inst (empty_certificate i)
  empty_in_range = record {
    bound = tt;
    few = omega arith;
    lists = All-nil (IsPriceList inst);
    version = All-nil (HasPricesOf (empty_certificate i).version);
    tree = (leaf (Empty i), record { order = refl; in_range = without.number });
  }

  pub empty_is_good : TextsFitFiles → IsFitting inst → IsShortValidFor inst old (empty_certificate i)
  empty_is_good law fit = record {
    in_range = empty_in_range;
    valid = record {
      tree = leaf (Empty i);
      of_nodes = record { order = refl; in_range = without.number };
      holds = All-cons (CertLeafHolds (change_base old) (change_value old) inst (empty_certificate i))
          (record { box = root_box inst; node = Empty i }) [] (λ s start. without.none s start.allowed)
          (All-nil (CertLeafHolds (change_base old) (change_value old) inst (empty_certificate i)));
    };
    short = law inst (empty_certificate i) fit empty_in_range (omega arith)
        (All-nil (λ (prices : PriceList). length prices.ex ≤ 400)) (omega arith);
  }

  pub no_start_solution : IsAuditable standard_limits inst old (empty_certificate i) → (cert : Certificate)
      (text : List ℕ) → cert ≡ empty_certificate i → text ≡ none_report inst cert → (turns : ℕ)
      → IsSolution inst old turns (record {
        report = record { status = 10; text = text };
        certificate = cert;
        plan = None;
      })
  no_start_solution good cert text is said turns = record {
    repairs = λ files. at files;
    writable = record { in_range = subst (IsInRange inst) (sym is) empty_in_range; plan = tt };
  }
    where
      at : (files : RepairFiles) → Repairs standard_limits inst old files turns (record {
        status = 10;
        text = text;
        writes = cert_write inst files cert ∷ [];
      })
      at files = rw (said, is) (no_start i without good)
