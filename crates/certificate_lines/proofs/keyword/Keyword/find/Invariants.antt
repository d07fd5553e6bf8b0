use Rattle.std.proofs.Common.{◌≢◌, ℕ, ◌<◌, slice_index_or}
use Rattle.certificate_lines.specs.declared.keyword.Keyword.TheVariants.{Title}
use Rattle.certificate_lines.specs.Steps.{keyword_text}
use Rattle.certificate_lines.proofs.keyword.Keyword.find.Given as goal

abbrev pub invariant-loop-keyword : goal.invariant-loop-keyword
invariant-loop-keyword l =
    (k : ℕ) → k < l.keyword-index → keyword_text (slice_index_or l.keyword-items k Title) ≢ l.word
