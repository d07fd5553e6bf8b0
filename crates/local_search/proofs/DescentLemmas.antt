-- A descent leads from room for all its turns to where no turn is left or no neighbour has a lower key.
use Rattle.std.proofs.Common.{◌≡◌, ℕ, ◌+◌, ◌<◌, max, sym, ◌∙◌, ap, subst, arith, Bool, false, List, [], ◌++◌, length}
use Rattle.std.proofs.Common.{eqb}
use Rattle.std.proofs.lemmas.Bool.{OnFalse_from, eqb-true, eqb-false, eq-eqb}
use Rattle.instance_model.specs.Tables.{Tables}
use Rattle.plan_moves.specs.declared.change.Change.{Change}
use Rattle.plan_moves.specs.KeptPlans.{KeptPlans, present}
use Rattle.local_search.specs.Descents.{AllLower, plans_after, IsLocalOptimum, IsDescent}
use Rattle.local_search.specs.Progress.{Made, LeadsTo}

-- all turns are left
abbrev all_left : ℕ → Made
all_left turns = record { changes = []; left = turns }

-- there is room for all turns
abbrev with_room : ℕ → KeptPlans → KeptPlans
with_room turns kept = record kept { spare = max kept.spare turns }

some_left : (left : ℕ) (spent : Bool) → spent ≡ eqb left 0 → spent ≡ false → 0 < left
some_left left spent e f = let apart = eqb-false left 0 (sym e ∙ f) in grind arith

IsDescent-led : (k0 k2 : KeptPlans) (m2 : Made) (turns : ℕ) (spent : Bool)
    → LeadsTo (with_room turns k0) (all_left turns) k2 m2
    → (0 < m2.left → IsLocalOptimum k2.instance (present k2.plans)) → spent ≡ eqb m2.left 0
    → IsDescent k0 k2 turns m2.changes spent
IsDescent-led k0 k2 m2 turns spent leads settled e =
    let counted : length m2.changes ≡ length leads.changes = ap length leads.made in
    record {
      lower = subst (AllLower k0.instance (present k0.plans)) (sym leads.made) leads.lower;
      few = omega (arith, counted, leads.left);
      all_spent = (
        λ t. omega (arith, counted, leads.left, eqb-true m2.left 0 (sym e ∙ t)),
        λ all. e
            ∙ eq-eqb m2.left 0 (omega (arith, counted, leads.left, all)),
      );
      optimum = OnFalse_from spent (IsLocalOptimum k0.instance (present k2.plans)) (λ f.
          subst (λ (inst : Tables). IsLocalOptimum inst (present k2.plans)) leads.instance_same
          (settled (some_left m2.left spent e f)));
      instance_same = leads.instance_same;
      plans = leads.plans ∙ ap (λ (l : List Change). k0.plans ++ plans_after (present k0.plans) l) (sym leads.made);
      spare = omega (arith, counted, leads.spare);
    }

pub IsDescent-from : (k0 k1 k2 : KeptPlans) (m1 m2 : Made) (turns : ℕ) (spent : Bool)
    → k1 ≡ record k0 { spare = max k0.spare turns } → m1 ≡ record { changes = []; left = turns } → LeadsTo k1 m1 k2 m2
    → (0 < m2.left → IsLocalOptimum k2.instance (present k2.plans)) → spent ≡ eqb m2.left 0
    → IsDescent k0 k2 turns m2.changes spent
IsDescent-from k0 k1 k2 m1 m2 turns spent room fresh leads settled e =
    IsDescent-led k0 k2 m2 turns spent (subst (λ (k : KeptPlans). LeadsTo k (all_left turns) k2 m2) room
    (subst (λ (m : Made). LeadsTo k1 m k2 m2) fresh leads)) settled e
