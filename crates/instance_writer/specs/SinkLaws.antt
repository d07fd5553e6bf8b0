-- That texts that are taken one after another are taken as one.
use Rattle.std.specs.Prelude.{◌≡◌, ℕ, ◌+◌, Bool, true, false, List, [], ◌++◌, length, Err, refl}
use Rattle.std.specs.Prelude.{Option, Some, None, option_map}
use Rattle.std.proofs.Common.{sym, ◌∙◌, ap, subst, append_assoc, arith, inl, inr}
use Rattle.std.proofs.lemmas.List.{append-nil, length-append}
use Rattle.plan_desk.specs.Desk.{Shown}
use Rattle.plan_desk.specs.Written.{PutsText}
use Rattle.plan_desk.specs.Written.Way.{writing}
use Rattle.plan_desk.proofs.Written.{begins, joins, last, cut, respelled}
use Rattle.instance_writer.specs.Sinks.{CountsText, AddsText, Progress, TakesAs, TakesText}

pub counts_none : (n : ℕ) → CountsText [] n n
counts_none n low = omega arith

pub counts_more : (a b : List ℕ) (s t u : ℕ) → CountsText a s t → CountsText b t u → CountsText (a ++ b) s u
counts_more a b s t u first next low =
    let both : length (a ++ b) ≡ length a + length b = length-append a b in
    let mid : t ≡ s + length a = first (omega (arith, both, low)) in
    let end : u ≡ t + length b = next (omega (arith, both, mid, low)) in
    omega (arith, both, mid, end)

pub adds_none : (t : Option (List ℕ)) → AddsText [] t t
adds_none None = inl refl
adds_none (Some bytes) = inl (ap (λ (l : List ℕ). Some l) (sym (append-nil bytes)))

pub adds_more : (a b : List ℕ) (s t u : Option (List ℕ)) → AddsText a s t → AddsText b t u → AddsText (a ++ b) s u
adds_more a b s t u first (inr refused) = inr refused
adds_more a b s t u (inr refused) (inl next) =
    inr (next ∙ ap (option_map (λ (l : List ℕ). l ++ b)) refused)
adds_more a b None t u (inl first) (inl next) = inl (next ∙ ap (option_map (λ (l : List ℕ). l ++ b)) first)
adds_more a b (Some bytes) t u (inl first) (inl next) =
    inl (next ∙ ap (option_map (λ (l : List ℕ). l ++ b)) first ∙ ap (λ (l : List ℕ). Some l) (append_assoc bytes a b))

takes_none_as : (failed : Bool) (p : Progress) → TakesAs failed failed [] p p
takes_none_as true p = refl
takes_none_as false p = record { written = []; whole = append-nil p.kept; put = begins writing p.shown }

pub takes_none : (p : Progress) → TakesText [] p p
takes_none p = takes_none_as p.failed p

takes_more_as : (before between since : Bool) (a b : List ℕ) (s t u : Progress) → TakesAs before between a s t
    → TakesAs between since b t u → TakesAs before since (a ++ b) s u
takes_more_as false false false a b s t u first next = record {
  written = first.written ++ next.written;
  whole = sym (append_assoc s.kept a b) ∙ ap (λ l. l ++ b) first.whole ∙ append_assoc first.written t.kept b
      ∙ ap (λ l. first.written ++ l) next.whole ∙ sym (append_assoc first.written next.written u.kept);
  put = joins writing first.put next.put;
}
takes_more_as false false true a b s t u first next = λ e.
    respelled writing
    (sym (append_assoc first.written t.kept b) ∙ ap (λ l. l ++ b) (sym first.whole) ∙ append_assoc s.kept a b)
    (last writing (Err e) first.put (next e))
takes_more_as false true true a b s t u first next = λ e.
    subst (λ (shown : Shown). PutsText {T = Unit {0}} writing (s.kept ++ (a ++ b)) s.shown shown (Err e)) (sym next)
    (respelled writing (append_assoc s.kept a b) (cut writing {T = Unit {0}} (Err e) refl b (first e)))
takes_more_as false true false a b s t u first next = absurd next
takes_more_as true true true a b s t u first next = next ∙ first
takes_more_as true true false a b s t u first next = absurd next
takes_more_as true false since a b s t u first next = absurd first

pub takes_more : (a b : List ℕ) (s t u : Progress) → TakesText a s t → TakesText b t u → TakesText (a ++ b) s u
takes_more a b s t u first next = takes_more_as s.failed t.failed u.failed a b s t u first next
