-- How a descent leads from one state to a later one: no step, one change, and one such way after another.
use Rattle.std.proofs.Common.{◌≡◌, ℕ, ◌+◌, ◌-◌, ◌<◌, ◌≤◌, refl, sym, ◌∙◌, ap, subst, arith, List, [], ◌∷◌, ◌++◌, length}
use Rattle.std.proofs.Common.{length-append, append_assoc}
use Rattle.std.proofs.lemmas.List.{append-nil, nil_from_length}
use Rattle.instance_model.specs.Tables.{Tables}
use Rattle.plan_moves.specs.declared.change.Change.{Change}
use Rattle.instance_model.specs.Keys.{KeyBelow}
use Rattle.plan_moves.specs.Changing.{CanChange, after_change, changed_key}
use Rattle.plan_moves.specs.KeptPlans.{KeptPlans, AreKeptPlans, present, present_key, with_plan}
use Rattle.plan_moves.proofs.TrailLemmas.{present-push}
use Rattle.local_search.specs.Descents.{Lowers, AllLower, plans_after}
use Rattle.local_search.specs.Progress.{Made, LeadsTo}
use Rattle.local_search.proofs.ChangeLemmas.{IsNeighbour-changed}

-- the plan after all of these changes
abbrev plan_after : List ℕ → List Change → List ℕ
plan_after plan [] = plan
plan_after plan (change ∷ changes) = plan_after (after_change change plan) changes

AllLower-append : (inst : Tables) (plan : List ℕ) (first second : List Change) → AllLower inst plan first
    → AllLower inst (plan_after plan first) second → AllLower inst plan (first ++ second)
AllLower-append inst plan [] second f s = s
AllLower-append inst plan (change ∷ first) second f s =
    (f.0, AllLower-append inst (after_change change plan) first second f.1 s)

plans_after-append : (plan : List ℕ) (first second : List Change)
    → plans_after plan (first ++ second) ≡ plans_after plan first ++ plans_after (plan_after plan first) second
plans_after-append plan [] second = refl
plans_after-append plan (change ∷ first) second =
    ap (λ (l : List (List ℕ)). after_change change plan ∷ l)
    (plans_after-append (after_change change plan) first second)

-- the present plan is the one after all changes
present-after : (plans : List (List ℕ)) (changes : List Change) → present (plans ++ plans_after (present plans) changes)
    ≡ plan_after (present plans) changes
present-after plans [] = ap present (append-nil plans)
present-after plans (change ∷ changes) =
    let next = after_change change (present plans) in
    ap present (sym (append_assoc plans (next ∷ []) (plans_after next changes)))
    ∙ subst (λ (p : List ℕ). present ((plans ++ next ∷ []) ++ plans_after p changes) ≡ plan_after p changes)
    (present-push plans next) (present-after (plans ++ next ∷ []) changes)

-- ---- ways

-- no change
pub LeadsTo-same : (kept : KeptPlans) (made : Made) → LeadsTo kept made kept made
LeadsTo-same kept made = record {
  changes = [];
  lower = tt;
  instance_same = refl;
  plans = sym (append-nil kept.plans);
  spare = omega arith;
  made = sym (append-nil made.changes);
  left = omega arith;
}

-- one change
pub LeadsTo-one : (kept new_kept : KeptPlans) (made new : Made) (change : Change)
    → Lowers kept.instance (present kept.plans) change → 0 < kept.spare
    → new_kept ≡ with_plan (after_change change (present kept.plans)) kept → new.changes ≡ made.changes ++ change ∷ []
    → new.left + 1 ≡ made.left → LeadsTo kept made new_kept new
LeadsTo-one kept new_kept made new change lower room changed pushed left = record {
  changes = change ∷ [];
  lower = (lower, tt);
  instance_same = ap (λ (k : KeptPlans). k.instance) changed;
  plans = ap (λ (k : KeptPlans). k.plans) changed;
  spare = omega (arith, room, ap (λ (k : KeptPlans). k.spare) changed);
  made = pushed;
  left = omega (arith, left);
}

-- the present plan has one start for each intervention
pub present_each : (kept : KeptPlans) → AreKeptPlans kept → length (present kept.plans) ≡ length kept.instance.names
present_each kept a = (a.allowed (length kept.plans - 1) [] (omega (arith, a.some))).each

-- a change that was judged to lower the key
pub LeadsTo-judged : (kept judged new_kept : KeptPlans) (made new : Made) (change : Change) → judged ≡ kept
    → AreKeptPlans judged → CanChange kept.instance (present kept.plans) change
    → KeyBelow (changed_key kept change) (present_key kept.instance kept.plans) → 0 < made.left → made.left ≤ kept.spare
    → new_kept ≡ with_plan (after_change change (present judged.plans)) judged
    → new.changes ≡ made.changes ++ change ∷ [] → new.left + 1 ≡ made.left → LeadsTo kept made new_kept new
LeadsTo-judged kept judged new_kept made new change same plans can lower some room changed pushed left =
    let each = present_each kept (subst AreKeptPlans same plans) in
    LeadsTo-one kept new_kept made new change
    (record {
      can = can;
      neighbour = IsNeighbour-changed kept.instance (present kept.plans) change each can;
      lower = lower;
    })
    (omega (arith, some, room))
    (changed ∙ ap (λ (k : KeptPlans). with_plan (after_change change (present k.plans)) k) same)
    pushed left

-- one way after another
pub LeadsTo-more : (k0 k1 k2 : KeptPlans) (m0 m1 m2 : Made) → LeadsTo k0 m0 k1 m1
    → LeadsTo k1 m1 k2 m2 → LeadsTo k0 m0 k2 m2
LeadsTo-more k0 k1 k2 m0 m1 m2 a b =
    let here : present k1.plans ≡ plan_after (present k0.plans) a.changes =
    ap present a.plans ∙ present-after k0.plans a.changes in
    let then : AllLower k0.instance (plan_after (present k0.plans) a.changes) b.changes =
    subst (λ (p : List ℕ). AllLower k0.instance p b.changes) here
    (subst (λ (inst : Tables). AllLower inst (present k1.plans) b.changes) a.instance_same b.lower) in
    record {
      changes = a.changes ++ b.changes;
      lower = AllLower-append k0.instance (present k0.plans) a.changes b.changes a.lower then;
      instance_same = b.instance_same ∙ a.instance_same;
      plans = b.plans
          ∙ ap (λ (p : List ℕ). k1.plans ++ plans_after p b.changes) here
          ∙ ap (λ (l : List (List ℕ)). l ++ plans_after (plan_after (present k0.plans) a.changes) b.changes) a.plans
          ∙ append_assoc k0.plans (plans_after (present k0.plans) a.changes)
          (plans_after (plan_after (present k0.plans) a.changes) b.changes)
          ∙ ap (λ (l : List (List ℕ)). k0.plans ++ l) (sym (plans_after-append (present k0.plans) a.changes b.changes));
      spare = omega (arith, a.spare, b.spare, length-append a.changes b.changes);
      made = b.made ∙ ap (λ (l : List Change). l ++ b.changes) a.made ∙ append_assoc m0.changes a.changes b.changes;
      left = omega (arith, a.left, b.left, length-append a.changes b.changes);
    }

-- ---- what a way leaves

pub LeadsTo-room : (k0 k1 : KeptPlans) (m0 m1 : Made) → LeadsTo k0 m0 k1 m1 → m0.left ≤ k0.spare → m1.left ≤ k1.spare
LeadsTo-room k0 k1 m0 m1 a room = omega (arith, a.spare, a.left, room)

pub LeadsTo-fewer : (k0 k1 : KeptPlans) (m0 m1 : Made) → LeadsTo k0 m0 k1 m1 → m1.left ≤ m0.left
LeadsTo-fewer k0 k1 m0 m1 a = omega (arith, a.left)

-- as many turns are left: no change was made
pub LeadsTo-still : (k0 k1 : KeptPlans) (m0 m1 : Made) → LeadsTo k0 m0 k1 m1 → m1.left ≡ m0.left → k1 ≡ k0
LeadsTo-still k0 k1 m0 m1 a e =
    let none : a.changes ≡ [] = nil_from_length a.changes (omega (arith, a.left, e)) in
    let plans : k1.plans ≡ k0.plans =
    a.plans ∙ ap (λ (l : List Change). k0.plans ++ plans_after (present k0.plans) l) none ∙ append-nil k0.plans in
    let spare : k1.spare ≡ k0.spare = omega (arith, a.left, a.spare, e) in
    ap (λ (inst : Tables). record { instance = inst; plans = k1.plans; spare = k1.spare }) a.instance_same
    ∙ ap (λ (l : List (List ℕ)). record { instance = k0.instance; plans = l; spare = k1.spare }) plans
    ∙ ap (λ (n : ℕ). record { instance = k0.instance; plans = k0.plans; spare = n }) spare
