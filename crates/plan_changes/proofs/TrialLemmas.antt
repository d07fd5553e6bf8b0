-- Starts that go back, one after another.
use Rattle.std.proofs.Common.{◌≡◌, ◌≢◌, ℕ, ◌+◌, ◌<◌, ◌⊎◌, refl, sym, ◌∙◌, ap, subst, arith, inl, inr, Bool, true, false}
use Rattle.std.proofs.Common.{List, length, map, get_or, set, Option, Some, eqb}
use Rattle.std.proofs.lemmas.Bool.Decides.{nat_tests}
use Rattle.std.proofs.Common.{below_more}
use Rattle.std.specs.Prelude.{is_some}
use Rattle.std.specs.Bool.{OnTrue, OnFalse}
use Rattle.std.proofs.lemmas.List.{length-set, get_or-set_same, get_or-set_other, map-set, set-set, set-get_or}
use Rattle.instance_model.specs.Tables.{Tables}
use Rattle.instance_model.specs.declared.rule.Rule.{Rule}
use Rattle.instance_model.specs.Rules.{first_rule, IsFeasible}
use Rattle.instance_model.specs.Plans.{start_of}
use Rattle.plan_changes.specs.Changes.{changes_of}
use Rattle.plan_changes.specs.Returning.{CannotGoBack, IsTrialOf, IsGivenBack, GoesBack}
use Rattle.plan_changes.proofs.CountLemmas.{set_changes_fewer}

-- nothing went back
pub nothing_back : (old : List (Option ℕ)) (starts new : List ℕ) → new ≡ starts → IsGivenBack old starts new
nothing_back old starts new same =
    subst (IsGivenBack old starts) (sym same) (record {
      each = refl;
      either = λ i l. inl refl;
      few = omega arith;
    })

-- one start went back
pub one_back : (old : List (Option ℕ)) (starts new : List ℕ) (i : ℕ) → i < length starts → GoesBack old starts new i
    → IsGivenBack old starts new × (changes_of old new < changes_of old starts)
one_back old starts new i l back =
    subst (λ (xs : List ℕ). IsGivenBack old starts xs × (changes_of old xs < changes_of old starts)) (sym back.set) (
      record {
        each = length-set starts i back.start;
        either = λ k m. at k (eqb k i) refl;
        few = omega (arith, set_changes_fewer old starts i back.start l back.old_is back.other);
      },
      set_changes_fewer old starts i back.start l back.old_is back.other,
    )
  where
    at : (k : ℕ) (b : Bool) → eqb k i ≡ b
        → (get_or (set starts i back.start) k 0 ≡ get_or starts k 0)
        ⊎ (start_of old k ≡ Some (get_or (set starts i back.start) k 0))
    at k true e =
        let same : k ≡ i = grind (arith, nat_tests) in
        rw same (inr (back.old_is ∙ ap Some (sym (get_or-set_same starts i back.start 0 l))))
    at k false e =
        let other : k ≢ i = grind (arith, nat_tests) in
        inl (get_or-set_other starts i k back.start 0 other)

-- some starts went back, and then some more
pub back_twice : (old : List (Option ℕ)) (starts mid new : List ℕ) → IsGivenBack old starts mid
    → IsGivenBack old mid new → IsGivenBack old starts new
back_twice old starts mid new a b =
    record {
      each = b.each ∙ a.each;
      either = λ i l. from i l (b.either i l);
      few = omega (arith, a.few, b.few);
    }
  where
    from : (i : ℕ) → i < length new
        → (get_or new i 0 ≡ get_or mid i 0) ⊎ (start_of old i ≡ Some (get_or new i 0))
        → (get_or new i 0 ≡ get_or starts i 0) ⊎ (start_of old i ≡ Some (get_or new i 0))
    from i l h =
        elim h [
          | inl same ↦ elim (a.either i (omega (arith, l, b.each))) [
            | inl before ↦ inl (same ∙ before)
            | inr is ↦ inr (is ∙ ap Some (sym same))
          ]
          | inr is ↦ inr is
        ]

-- ---- the plan at hand

-- a start of the plan is another one
plan_set : (starts : List ℕ) (plan : List (Option ℕ)) (i s : ℕ) → plan ≡ map Some starts
    → set plan i (Some s) ≡ map Some (set starts i s)
plan_set starts plan i s same = ap (λ (p : List (Option ℕ)). set p i (Some s)) same ∙ sym (map-set Some starts i s)

-- and is put back
plan_back : (starts : List ℕ) (plan : List (Option ℕ)) (i s start : ℕ) → plan ≡ map Some starts
    → start ≡ get_or starts i 0 → set (set plan i (Some s)) i (Some start) ≡ map Some starts
plan_back starts plan i s start same is =
    set-set plan i (Some s) (Some start)
    ∙ plan_set starts plan i start same
    ∙ ap (λ (x : ℕ). map Some (set starts i x)) is
    ∙ ap (λ (xs : List ℕ). map Some xs) (set-get_or starts i 0)

pub stays_trial : (inst : Tables) (starts : List ℕ) (plan after : List (Option ℕ)) (i s start : ℕ)
    → plan ≡ map Some starts → length starts ≡ length inst.names → IsFeasible inst (map Some starts)
    → start ≡ get_or starts i 0 → after ≡ set (set plan i (Some s)) i (Some start)
    → IsTrialOf inst starts after
stays_trial inst starts plan after i s start same each feasible is after_is = record {
  same = after_is ∙ plan_back starts plan i s start same is;
  each = each;
  feasible = feasible;
}

pub goes_trial : (inst : Tables) (starts : List ℕ) (plan seen : List (Option ℕ)) (i s : ℕ) (rule : Option Rule)
    → plan ≡ map Some starts → length starts ≡ length inst.names → seen ≡ set plan i (Some s)
    → rule ≡ first_rule inst seen → is_some rule ≡ false → IsTrialOf inst (set starts i s) (set plan i (Some s))
goes_trial inst starts plan seen i s rule same each seen_is rule_is none = record {
  same = plan_set starts plan i s same;
  each = length-set starts i s ∙ each;
  feasible = subst (IsFeasible inst) (seen_is ∙ plan_set starts plan i s same) (sym (ap is_some rule_is) ∙ none);
}

pub cannot_go : (inst : Tables) (starts : List ℕ) (plan seen : List (Option ℕ)) (i s : ℕ) (rule : Option Rule)
    → plan ≡ map Some starts → seen ≡ set plan i (Some s) → rule ≡ first_rule inst seen → is_some rule ≡ true
    → IsFeasible inst (map Some (set starts i s)) → ⊥
cannot_go inst starts plan seen i s rule same seen_is rule_is some feasible =
    apart (sym some ∙ ap is_some rule_is
    ∙ subst (IsFeasible inst) (sym (seen_is ∙ plan_set starts plan i s same)) feasible)
  where
    apart : true ≡ false → ⊥
    apart h = cc

-- ---- a round

-- a fact holds, so it holds where a test is true, and where one is false
given : (b : Bool) (P : Type 0) → P → OnTrue b P
given true P p = p
given false P p = tt

no_false : (b : Bool) (P : Type 0) → b ≡ true → OnFalse b P
no_false true P e = tt
no_false false P e = absurd (apart e)
  where
    apart : false ≡ true → ⊥
    apart h = cc

false_map : (b : Bool) (P Q : Type 0) → (P → Q) → OnFalse b P → OnFalse b Q
false_map true P Q f p = tt
false_map false P Q f p = f p

-- what a round keeps: it began with some starts, and has tried the interventions before i
pub record Rounds (inst : Tables) (old : List (Option ℕ)) (from starts : List ℕ) (any : Bool) (i : ℕ) : Type 0 where
  pub back : IsGivenBack old from starts
  pub fewer : OnTrue any (changes_of old starts < changes_of old from)
  pub none : OnFalse any ((k : ℕ) → k < i → CannotGoBack inst old starts k)

pub round_begins : (inst : Tables) (old : List (Option ℕ)) (from : List ℕ) → Rounds inst old from from false 0
round_begins inst old from = record {
  back = nothing_back old from from refl;
  fewer = tt;
  none = λ k low. absurd (omega (arith, low));
}

pub round_goes : (inst : Tables) (old : List (Option ℕ)) (from mid new : List ℕ) (any now : Bool) (i : ℕ)
    → Rounds inst old from mid any i → i < length mid → GoesBack old mid new i → now ≡ true
    → Rounds inst old from new now (i + 1)
round_goes inst old from mid new any now i r low goes is =
    let one = one_back old mid new i low goes in
    record {
      back = back_twice old from mid new r.back one.0;
      fewer = given now (changes_of old new < changes_of old from) (omega (arith, one.1, r.back.few));
      none = no_false now ((k : ℕ) → k < i + 1 → CannotGoBack inst old new k) is;
    }

pub round_stays : (inst : Tables) (old : List (Option ℕ)) (from mid new : List ℕ) (any now : Bool) (i : ℕ)
    → Rounds inst old from mid any i → new ≡ mid → CannotGoBack inst old mid i → now ≡ any
    → Rounds inst old from new now (i + 1)
round_stays inst old from mid new any now i r same cannot is =
    subst (λ (b : Bool). Rounds inst old from new b (i + 1)) (sym is)
    (subst (λ (xs : List ℕ). Rounds inst old from xs any (i + 1)) (sym same) (record {
      back = r.back;
      fewer = r.fewer;
      none = false_map any ((k : ℕ) → k < i → CannotGoBack inst old mid k)
          ((k : ℕ) → k < i + 1 → CannotGoBack inst old mid k)
          (λ before. below_more (λ k. CannotGoBack inst old mid k) i before cannot) r.none;
    }))
