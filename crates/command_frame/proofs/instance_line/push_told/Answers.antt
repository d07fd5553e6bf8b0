use Rattle.std.proofs.Common.{◌≡◌, ℕ, List, ◌++◌, Option, Some, None, ◌∙◌, ap, append_assoc, codes}
use Rattle.std.specs.Prelude.{IfSome}
use Rattle.instance_shape.specs.FileFaults.{FileFault}
use Rattle.instance_read.specs.Faults.{fault_of}
use Rattle.command_frame.specs.Lines.{fault_words, fault_place, instance_fault_line}
use Rattle.command_frame.proofs.instance_line.push_told.Goals as goal

-- a line from its pieces
joined : (o : Option FileFault) (line a b c d words : List ℕ) → a ≡ line ++ codes "refused instance " → b ≡ a ++ words
    → IfSome o (λ told. words ≡ fault_words told) → IfSome o (λ told. c ≡ b ++ fault_place told)
    → d ≡ c ++ codes "\n" → IfSome o (λ told. d ≡ line ++ instance_fault_line told)
joined None line a b c d words e f g h i = h
joined (Some told) line a b c d words e f g h i =
    i ∙ ap (λ z. z ++ codes "\n")
    (h ∙ ap (λ z. z ++ fault_place told)
    (f ∙ ap (λ z. z ++ words) e ∙ ap (λ w. (line ++ codes "refused instance ") ++ w) g))
    ∙ simp append_assoc

pub returns : goal.returns
returns c =
    joined (fault_of c.args.fault.now) c.args.line.now c.push.new.self c.push-2.new.self c.push_place.new.line
    c.push-3.new.self c.words_of.result.now
    c.in_ok-push.ensures.added c.in_ok-push-2.ensures.added c.words_of.ensures c.in_ok-push_place.ensures
    c.in_ok-push-3.ensures.added
