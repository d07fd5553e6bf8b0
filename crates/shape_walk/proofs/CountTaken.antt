-- A number that is exactly a count, at a spot of counts, as an event.
use Rattle.std.specs.Prelude.{ℤ}
use Rattle.std.proofs.Common.{◌≡◌, ℕ, List, [], ◌∷◌, ◌++◌, false, Option, Some, None, refl, sym, ◌∙◌, ap}
use Rattle.json_grammar.specs.Tree.{Node, Event}
use Rattle.decimal_numbers.specs.Exact.{fixed}
use Rattle.instance_model.specs.declared.limits.Limits.{Limits}
use Rattle.instance_shape.specs.declared.fault.Flaw.{Flaw}
use Rattle.instance_shape.specs.declared.spot.Spot.{Spot}
use Rattle.instance_shape.specs.declared.spot.Kind.TheVariants as kind
use Rattle.instance_shape.specs.Shape.{kind_of}
use Rattle.instance_shape.specs.ShapeFaults.{own_faults}
use Rattle.shape_walk.specs.declared.taken.Taken.{Taken}
use Rattle.shape_walk.specs.declared.taken.Read.TheVariants.{Count}
use Rattle.shape_walk.specs.Awaits.{AwaitsCount}
use Rattle.shape_walk.specs.Flaws.{first_flaw, flaw_at}
use Rattle.shape_walk.specs.Machine.{number_past, step}
use Rattle.shape_walk.specs.Reads.{read_of}
use Rattle.shape_walk.specs.Standing.{Walk, StandsAfter}
use Rattle.shape_walk.specs.Taking.{Takes}
use Rattle.shape_walk.proofs.FlawLemmas.{no_flaw}
use Rattle.shape_walk.proofs.OneMore.{goes_on}

-- it has no fault of its own
no_own : (limits : Limits) (at : ℕ) (s : Spot) (token : List ℕ) (count : ℤ) → kind_of s ≡ kind.Count
    → fixed token ≡ Some (count, false) → own_faults limits s at (Node.number token) ≡ []
no_own limits at s token count k f = rw (k, f) refl

-- and its count is read
pub count_is_read : (at : ℕ) (s : Spot) (token : List ℕ) (count : ℤ) → kind_of s ≡ kind.Count
    → fixed token ≡ Some (count, false) → Count count false ≡ read_of s (Event.number at token)
count_is_read at s token count k f = rw (k, f) refl

pub count_stands : (limits : Limits) (old new : Walk) (es : List Event) (at : ℕ) (spot : Spot) (token : List ℕ)
    (count : ℤ) (past : Option Flaw) → AwaitsCount old spot → fixed token ≡ Some (count, false)
    → new.limits ≡ old.limits → new.fault ≡ flaw_at at past
    → past ≡ first_flaw (number_past old.limits spot at old.state.risks old.state.workloads)
    → (past ≡ None → new.state ≡ step (Event.number at token) old.state)
    → StandsAfter limits old es → StandsAfter limits new (es ++ Event.number at token ∷ [])
count_stands limits old new es at spot token count past a f l e p s h =
    let taken : Taken = record { spot = spot; read = Count count false } in
    let own = no_own old.limits at spot token count a.counts f in
    let takes : Takes old (Event.number at token) new taken = record {
      under = l;
      first = e ∙ ap (flaw_at at) p
          ∙ ap (λ fs. flaw_at at
          (first_flaw (fs ++ number_past old.limits spot at old.state.risks old.state.workloads))) (sym own)
          ∙ ap (λ q. flaw_at at
          (first_flaw
          (own_faults old.limits q at (Node.number token)
          ++ number_past old.limits q at old.state.risks old.state.workloads))) a.next;
      state = λ n. s (no_flaw at past (sym e ∙ n));
      spot = a.next;
      read = count_is_read at spot token count a.counts f ∙ ap (λ q. read_of q (Event.number at token)) a.next;
    } in
    goes_on limits old new es (Event.number at token) taken a.no_fault takes h
