-- Which fault a text has that is no certificate's: that of its first line with one. Lines count from 1.
use Rattle.std.specs.Prelude.{◌≡◌, ◌≢◌, ◌⊎◌, ℕ, ◌+◌, ◌<◌, ⊤, List, ◌∷◌, ◌++◌, length, All}
use Rattle.instance_model.specs.Tables.{Tables}
use Rattle.certificate_lines.specs.declared.line.CertificateLine.{CertificateLine}
use Rattle.certificate_lines.specs.Spelling.{spelling, IsLine}
use Rattle.certificate_tree.specs.declared.certificate.Certificate.{Certificate}
use Rattle.certificate_tree.specs.Ranges.{IsInRange}
use Rattle.certificate_text.specs.Text.{text_of_lines, certificate_text}
use Rattle.certificate_text.specs.Grammar.{Place, title, Stands, Fits, Leads, HasEnded}
use Rattle.certificate_text.specs.declared.read.fault.CertFault.{CertFault}
use Rattle.certificate_text.specs.declared.read.fault.CertFault.TheVariants.{Cut, BadLine, Bounds, Memory}

-- ---- the faults of a line: what is left of a text begins with it, and it stands at a place

-- a line is needed, and the text ends before its line feed
pub record IsCut (place : Place) (rest : List ℕ) : Type 0 where
  pub needed : HasEnded place → ⊥
  pub unended : All (λ b. b ≢ 10) rest

-- a line is needed and there, and is none that may stand there
pub record IsBadLine (place : Place) (rest : List ℕ) : Type 0 where
  pub needed : HasEnded place → ⊥
  pub text : List ℕ
  pub more : List ℕ
  pub cut : rest ≡ text ++ 10 ∷ more
  pub whole : All (λ b. b ≢ 10) text
  pub misplaced : (line : CertificateLine) → IsLine line → text ≡ spelling line → Stands place line → ⊥

-- no line is needed any more, and a byte follows
pub record IsPastEnd (place : Place) (rest : List ℕ) : Type 0 where
  pub ended : HasEnded place
  pub some : 0 < length rest

-- the line may stand there, and a number of it is out of its range
pub record IsOutOfBounds (inst : Tables) (place : Place) (rest : List ℕ) : Type 0 where
  pub line : CertificateLine
  pub more : List ℕ
  pub cut : rest ≡ spelling line ++ 10 ∷ more
  pub form : IsLine line
  pub stands : Stands place line
  pub unfit : Fits inst place line → ⊥

-- line n has this fault. Want of memory says nothing of the text.
abbrev pub HasLineFault : Tables → Place → List ℕ → ℕ → CertFault → Type 0
HasLineFault inst place rest n (Cut k) = (k ≡ n) × IsCut place rest
HasLineFault inst place rest n (BadLine k) = (k ≡ n) × (IsBadLine place rest ⊎ IsPastEnd place rest)
HasLineFault inst place rest n (Bounds k) = (k ≡ n) × IsOutOfBounds inst place rest
HasLineFault inst place rest n Memory = ⊤

-- ---- the fault of a text

-- the text begins with these lines, which lead from one place to another without a fault
pub record BeginsWith (inst : Tables) (start : Place) (text : List ℕ) (lines : List CertificateLine) (place : Place)
    (rest : List ℕ) : Type 0 where
  pub cut : text ≡ text_of_lines lines ++ rest
  pub forms : All IsLine lines
  pub leads : Leads inst start lines place

-- the fault of the first line that has one, where the text stands at a place behind some lines
pub record HasFaultFrom (inst : Tables) (start : Place) (before : ℕ) (text : List ℕ) (fault : CertFault) : Type 0 where
  pub lines : List CertificateLine
  pub place : Place
  pub rest : List ℕ
  pub faultless : BeginsWith inst start text lines place rest
  pub here : HasLineFault inst place rest (before + length lines + 1) fault

-- why a text was not read: its fault, or want of memory
abbrev pub HasFault : Tables → List ℕ → CertFault → Type 0
HasFault inst text fault = HasFaultFrom inst title 0 text fault

-- the fault of a text
abbrev pub HasCertFault : Tables → List ℕ → CertFault → Type 0
HasCertFault inst text (Cut n) = HasFault inst text (Cut n)
HasCertFault inst text (BadLine n) = HasFault inst text (BadLine n)
HasCertFault inst text (Bounds n) = HasFault inst text (Bounds n)
HasCertFault inst text Memory = ⊥

-- the bytes are the text of this certificate, which is in range
pub record IsTextOf (inst : Tables) (bytes : List ℕ) (cert : Certificate) : Type 0 where
  pub in_range : IsInRange inst cert
  pub text : bytes ≡ certificate_text inst cert
