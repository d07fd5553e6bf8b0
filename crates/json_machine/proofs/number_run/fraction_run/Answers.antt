use Rattle.std.proofs.Common.{◌≡◌, ◌⊎◌, inl, inr, ◌≤◌, ℕ, List, length, arith, subst, sym, ap, ◌∙◌}
use Rattle.json_machine.specs.Views.{phase_of}
use Rattle.json_machine.specs.declared.phase.Phase.{Phase}
use Rattle.json_machine.specs.declared.phase.Phase.TheVariants.{LoneZero, Whole}
use Rattle.json_grammar.specs.Token.{digit_count}
use Rattle.json_grammar.proofs.LawsForward.{AfterWhole}
use Rattle.json_machine.proofs.PlainNumbers.{behind, fraction_ends, nothing_ends}
use Rattle.json_machine.proofs.number_run.fraction_run.Goals as goal

whole : (p : Phase) → (p ≡ LoneZero) ⊎ (p ≡ Whole) → AfterWhole (phase_of p)
whole p (inl e) = subst (λ (q : Phase). AfterWhole (phase_of q)) (sym e) AfterWhole.zero
whole p (inr e) = subst (λ (q : Phase). AfterWhole (phase_of q)) (sym e) AfterWhole.whole

pub returns-then-is_empty : goal.returns-then-is_empty
returns-then-is_empty c = nothing_ends (phase_of c.args.phase) c.args.bytes.now (whole c.args.phase c.requires)

pub returns : goal.returns
returns c =
    let bytes = c.args.bytes.now in
    let count = c.digit_count-length.ensures in
    fraction_ends (phase_of c.args.phase) bytes c.digit_count-length.result (whole c.args.phase c.requires)
    (omega arith) (omega arith)
    (count.count ∙ ap digit_count (behind 1 bytes))
    (subst (λ (z : List ℕ). c.digit_count-length.result ≤ length z) (behind 1 bytes) count.within) (omega arith)
