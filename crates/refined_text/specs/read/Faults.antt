-- Which fault a text has that is that of no certificate by refined price lists: that of its first line with one. Lines
-- count from 1.
use Rattle.std.specs.Prelude.{◌≡◌, ◌≢◌, ◌⊎◌, ℕ, ◌+◌, ◌<◌, ⊤, List, ◌∷◌, ◌++◌, length, All}
use Rattle.instance_model.specs.Tables.{Tables}
use Rattle.certificate_text.specs.declared.read.fault.CertFault.{CertFault}
use Rattle.certificate_text.specs.declared.read.fault.CertFault.TheVariants.{Cut, BadLine, Bounds, Memory}
use Rattle.refined_check.specs.declared.certificate.certificate.RefinedCertificate.{RefinedCertificate}
use Rattle.refined_check.specs.certificate.Ranges.{IsRefinedInRange}
use Rattle.refined_text.specs.declared.lines.line.RefinedLine.{RefinedLine}
use Rattle.refined_text.specs.lines.Spelling.{refined_spelling, IsRefinedLine}
use Rattle.refined_text.specs.text.Text.{text_of_refined, refined_text}
use Rattle.refined_text.specs.grammar.Grammar.{RefinedPlace, start, HasRefinedEnded, RefinedStands, RefinedFits}
use Rattle.refined_text.specs.grammar.Grammar.{RefinedLeads}

-- ---- the faults of a line: what is left of a text begins with it, and it stands at a place

-- a line is needed, and the text ends before its line feed
pub record IsRefinedCut (place : RefinedPlace) (rest : List ℕ) : Type 0 where
  pub needed : HasRefinedEnded place → ⊥
  pub unended : All (λ b. b ≢ 10) rest

-- a line is needed and there, and is none that may stand there
pub record IsRefinedBadLine (place : RefinedPlace) (rest : List ℕ) : Type 0 where
  pub needed : HasRefinedEnded place → ⊥
  pub text : List ℕ
  pub more : List ℕ
  pub cut : rest ≡ text ++ 10 ∷ more
  pub whole : All (λ b. b ≢ 10) text
  pub misplaced : (line : RefinedLine) → IsRefinedLine line → text ≡ refined_spelling line
      → RefinedStands place line → ⊥

-- no line is needed any more, and a byte follows
pub record IsRefinedPastEnd (place : RefinedPlace) (rest : List ℕ) : Type 0 where
  pub ended : HasRefinedEnded place
  pub some : 0 < length rest

-- the line may stand there, and a number of it is out of its range, or the groups that it ends are too few
pub record IsRefinedOutOfBounds (inst : Tables) (place : RefinedPlace) (rest : List ℕ) : Type 0 where
  pub line : RefinedLine
  pub more : List ℕ
  pub cut : rest ≡ refined_spelling line ++ 10 ∷ more
  pub form : IsRefinedLine line
  pub stands : RefinedStands place line
  pub unfit : RefinedFits inst place line → ⊥

-- line n has this fault. Want of memory says nothing of the text.
abbrev pub HasRefinedLineFault : Tables → RefinedPlace → List ℕ → ℕ → CertFault → Type 0
HasRefinedLineFault inst place rest n (Cut k) = (k ≡ n) × IsRefinedCut place rest
HasRefinedLineFault inst place rest n (BadLine k) =
    (k ≡ n) × (IsRefinedBadLine place rest ⊎ IsRefinedPastEnd place rest)
HasRefinedLineFault inst place rest n (Bounds k) = (k ≡ n) × IsRefinedOutOfBounds inst place rest
HasRefinedLineFault inst place rest n Memory = ⊤

-- ---- the fault of a text

-- the text begins with these lines, which lead from one place to another without a fault
pub record RefinedBeginsWith (inst : Tables) (first : RefinedPlace) (text : List ℕ) (lines : List RefinedLine)
    (place : RefinedPlace) (rest : List ℕ) : Type 0 where
  pub cut : text ≡ text_of_refined lines ++ rest
  pub forms : All IsRefinedLine lines
  pub leads : RefinedLeads inst first lines place

-- the fault of the first line that has one, where the text stands at a place behind some lines
pub record HasRefinedFaultFrom (inst : Tables) (first : RefinedPlace) (before : ℕ) (text : List ℕ) (fault : CertFault)
    : Type 0 where
  pub lines : List RefinedLine
  pub place : RefinedPlace
  pub rest : List ℕ
  pub faultless : RefinedBeginsWith inst first text lines place rest
  pub here : HasRefinedLineFault inst place rest (before + length lines + 1) fault

-- why a text was not read: its fault, or want of memory
abbrev pub HasRefinedFault : Tables → List ℕ → CertFault → Type 0
HasRefinedFault inst text fault = HasRefinedFaultFrom inst start 0 text fault

-- the fault of a text
abbrev pub HasRefinedCertFault : Tables → List ℕ → CertFault → Type 0
HasRefinedCertFault inst text (Cut n) = HasRefinedFault inst text (Cut n)
HasRefinedCertFault inst text (BadLine n) = HasRefinedFault inst text (BadLine n)
HasRefinedCertFault inst text (Bounds n) = HasRefinedFault inst text (Bounds n)
HasRefinedCertFault inst text Memory = ⊥

-- the bytes are the text of this certificate, which is in range
pub record IsRefinedTextOf (inst : Tables) (bytes : List ℕ) (cert : RefinedCertificate) : Type 0 where
  pub in_range : IsRefinedInRange inst cert
  pub text : bytes ≡ refined_text inst cert
