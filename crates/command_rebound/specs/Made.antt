-- What the steps of the command come to. Cited by private functions only: no part of any promise.
use Rattle.std.specs.Prelude.{◌≡◌, ℕ, ◌<◌, ◌≤◌, List, [], ◌∷◌, length}
use Rattle.plan_desk.specs.Desk.{Shown}
use Rattle.plan_desk.specs.Contents.{KeepsFiles}
use Rattle.instance_model.specs.declared.limits.Limits.{Limits}
use Rattle.instance_model.specs.Tables.{Tables}
use Rattle.lagrange_bound.specs.Goals.{risk_value}
use Rattle.certificate_tree.specs.Validity.{IsProved}
use Rattle.band_rebound.specs.declared.rebounded.ReboundTree.{ReboundTree}
use Rattle.band_rebound.specs.Rebinding.{IsNoLower}
use Rattle.command_frame.specs.Sources.{Source}
use Rattle.command_frame.specs.Lines.{memory_line}
use Rattle.command_frame.specs.Ending.{Answer}
use Rattle.command_frame.specs.Files.{ReadsInstance, ReadsCertificateBy}
use Rattle.command_frame.specs.Kinds.{CertificateKind}
use Rattle.command_frame.specs.Refusals.{SaysOrFails}
use Rattle.command_frame.specs.Writing.{TellsAnswer}
use Rattle.command_frame.specs.Outputs.{long_output_line}
use Rattle.command_answers.specs.Accepting.{ValidWithinIsAcceptableBy}
use Rattle.command_rebound.specs.declared.making.Made.{Made}
use Rattle.command_rebound.specs.Rebinding.{BecomesBy, with_tree, ClaimsTree, rebound_report, out_write, RebindsBy}

-- both files were read
pub record AreRead {C : Type 0} (kind : CertificateKind C) (limits : Limits) (source : Source) (cert_name : List ℕ)
    (old : Shown) (inst : Tables) (cert : C) : Type 0 where
  pub reads : ReadsInstance limits source old inst
  pub reads_cert : ReadsCertificateBy kind.texts limits cert_name inst old cert
  pub in_range : kind.range inst cert

-- what a certificate becomes by a tree that is right for it
pub record IsRightFor {C : Type 0} (kind : CertificateKind C) (inst : Tables) (cert : C) (tree : ReboundTree)
    : Type 0 where
  pub is : BecomesBy kind inst cert tree
  pub claims : ClaimsTree kind inst cert tree
  pub in_range : kind.range inst (with_tree kind cert tree)
  pub valid : IsProved risk_value inst (kind.claim inst (with_tree kind cert tree))
  pub no_lower : IsProved risk_value inst (kind.claim inst cert) → IsNoLower (kind.claim inst cert).bound tree.bound

-- this, and the report on it
pub record IsMade {C : Type 0} (kind : CertificateKind C) (inst : Tables) (cert : C) (made : Made) : Type 0 where
  pub right : IsRightFor kind inst cert made.tree
  pub acceptable : ValidWithinIsAcceptableBy kind inst
  pub text : made.report ≡ rebound_report inst made.tree

-- of a new certificate: its text is too long, and that was said; or it was written and then the report was said, or
-- that stopped
pub data TellsNew {C : Type 0} (kind : CertificateKind C) (limits : Limits) (inst : Tables) (cert : C)
    (out report : List ℕ) (old new : Shown) (status : ℕ) : Type 0 where
  long : limits.certificate_bytes < length (kind.text inst cert) → KeepsFiles old new
      → SaysOrFails 12 (long_output_line 4) old new status → TellsNew kind limits inst cert out report old new status
  short : length (kind.text inst cert) ≤ limits.certificate_bytes
      → TellsAnswer (record { status = 0; text = report; writes = out_write kind inst out cert ∷ [] }) old new status
      → TellsNew kind limits inst cert out report old new status

-- an answer to an instance and a certificate was told, or memory ran out before the file was opened
pub data TellsRebound {C : Type 0} (kind : CertificateKind C) (limits : Limits) (inst : Tables) (cert : C)
    (out : List ℕ) (old new : Shown) (status : ℕ) : Type 0 where
  told : (a : Answer) → RebindsBy kind limits inst out cert a → TellsAnswer a old new status
      → TellsRebound kind limits inst cert out old new status
  no_memory : KeepsFiles old new → SaysOrFails 11 memory_line old new status
      → TellsRebound kind limits inst cert out old new status
