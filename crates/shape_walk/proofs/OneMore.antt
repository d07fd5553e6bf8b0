-- A walk takes one event more.
use Rattle.std.proofs.Common.{◌≡◌, List, [], ◌∷◌, ◌++◌, true, Option, Some, None, Result, Ok, Err, refl, sym, ◌∙◌, ap}
use Rattle.std.proofs.Common.{append_assoc, append-nil}
use Rattle.std.specs.Prelude.{is_some, IfOk, OnOk}
use Rattle.json_grammar.specs.Tree.{Event}
use Rattle.instance_model.specs.declared.limits.Limits.{Limits}
use Rattle.instance_shape.specs.declared.fault.Fault.{Fault}
use Rattle.shape_walk.specs.declared.taken.Taken.{Taken}
use Rattle.shape_walk.specs.Kept.{event_spot, spot_after}
use Rattle.shape_walk.specs.Machine.{State, step, faults_at, faults_along, state_along, start, first_fault}
use Rattle.shape_walk.specs.Reads.{read_of}
use Rattle.shape_walk.specs.Standing.{Walk, StandsAfter}
use Rattle.shape_walk.specs.Taking.{Takes}
use Rattle.shape_walk.proofs.FaultRows.{first_at_event}

along_more : (limits : Limits) (es : List Event) (e : Event) (s : State)
    → faults_along limits (es ++ e ∷ []) s ≡ faults_along limits es s ++ faults_at limits e (state_along es s)
along_more limits [] e s = append-nil _
along_more limits (d ∷ es) e s = ap (λ x. faults_at limits d s ++ x) (along_more limits es e (step d s))
    ∙ sym (append_assoc (faults_at limits d s) _ _)

pub state_more : (es : List Event) (e : Event) (s : State) → state_along (es ++ e ∷ []) s ≡ step e (state_along es s)
state_more [] e s = refl
state_more (d ∷ es) e s = state_more es e (step d s)

none_so_far : (a b : List Fault) → first_fault a ≡ None → first_fault (a ++ b) ≡ first_fault b
none_so_far [] b h = refl
none_so_far (f ∷ a) b h = cc

first_stays : (a b : List Fault) → is_some (first_fault a) ≡ true → first_fault (a ++ b) ≡ first_fault a
first_stays [] b h = cc
first_stays (f ∷ a) b h = refl

some_fault : (o : Option Fault) → is_some o ≡ true → o ≡ None → ⊥
some_fault None h e = cc
some_fault (Some f) h e = cc

-- behind a fault an event changes nothing
pub stays : (limits : Limits) (walk : Walk) (es : List Event) (e : Event) → is_some walk.fault ≡ true
    → StandsAfter limits walk es → StandsAfter limits walk (es ++ e ∷ [])
stays limits walk es e h s =
    let some : is_some (first_fault (faults_along limits es start)) ≡ true = ap is_some (sym s.first) ∙ h in
    record {
      under = s.under;
      first = s.first ∙ sym (first_stays (faults_along limits es start) (faults_at limits e (state_along es start))
          some) ∙ ap first_fault (sym (along_more limits es e start));
      state = λ n. absurd (some_fault walk.fault h n);
    }

-- a walk without a fault that takes an event stands after it
pub goes_on : (limits : Limits) (walk after : Walk) (es : List Event) (e : Event) (taken : Taken) → walk.fault ≡ None
    → Takes walk e after taken → StandsAfter limits walk es
    → StandsAfter limits after (es ++ e ∷ [])
goes_on limits walk after es e taken n t s =
    let none : first_fault (faults_along limits es start) ≡ None = sym s.first ∙ n in
    record {
      under = t.under ∙ s.under;
      first = t.first ∙ first_at_event walk.limits e walk.state
          ∙ ap (λ (l : Limits). first_fault (faults_at l e walk.state)) s.under
          ∙ ap (λ (q : State). first_fault (faults_at limits e q)) (s.state n)
          ∙ sym (none_so_far (faults_along limits es start) (faults_at limits e (state_along es start)) none)
          ∙ ap first_fault (sym (along_more limits es e start));
      state = λ m. t.state m ∙ ap (step e) (s.state n) ∙ sym (state_more es e start);
    }

-- and tells where the event stands
pub spot_told : (limits : Limits) (walk after : Walk) (es : List Event) (e : Event) (taken : Taken) → walk.fault ≡ None
    → Takes walk e after taken → StandsAfter limits walk es
    → taken.spot ≡ spot_after es e
spot_told limits walk after es e taken n t s = t.spot ∙ ap (λ (q : State). event_spot e q.top) (s.state n)

-- and what is read of it
pub read_told : (walk after : Walk) (e : Event) (taken : Taken) → Takes walk e after taken
    → taken.read ≡ read_of taken.spot e
read_told walk after e taken t = t.read ∙ ap (λ s. read_of s e) (sym t.spot)

pub on_ok : {A E : Type 0} (r : Result A E) (P : A → Type 0) (Q : Type 0) → ((a : A) → P a → Q) → IfOk r P → OnOk r Q
on_ok (Ok a) P Q h p = h a p
on_ok (Err e) P Q h p = tt
