-- Kinds of certificates: what commands need of those that they read, check, make and write.
use Rattle.std.specs.Prelude.{◌≡◌, ℕ, ◌≤◌, List, [], length}
use Rattle.instance_model.specs.declared.limits.Limits.{Limits}
use Rattle.instance_model.specs.Tables.{Tables}
use Rattle.lagrange_bound.specs.Goals.{risk_base, risk_value}
use Rattle.certificate_lines.specs.declared.line.Bound.{Bound}
use Rattle.certificate_tree.specs.declared.node.Node.{Node}
use Rattle.certificate_tree.specs.declared.certificate.Certificate.{Certificate}
use Rattle.certificate_tree.specs.Trees.{Tree, root_box}
use Rattle.certificate_tree.specs.Ranges.{AreNodesOf, IsBoundInRange, IsInRange}
use Rattle.certificate_tree.specs.Holding.{worth_by}
use Rattle.certificate_tree.specs.Validity.{Claim, claim_of, IsTreeOfClaim, BoundBoxes, AreSameWorths}
use Rattle.certificate_text.specs.Text.{certificate_text}
use Rattle.command_frame.specs.Bytes.{CertificateTexts, SpellsOneBy, plain_texts}

-- what certificates of one kind are, which this type holds
pub record CertificateKind (C : Type 0) : Type 1 where
  -- which bytes are the text of one, and which fault others have
  pub texts : CertificateTexts C
  -- it is in range for an instance
  pub range : Tables → C → Type 0
  -- what it claims of the scores of plans
  pub claim : Tables → C → Claim
  -- its text, as it is written
  pub text : Tables → C → List ℕ
  -- what it is with this bound and these nodes, and the same price lists
  pub remade : C → Bound → List Node → C

-- ---- laws of a kind

-- what is claimed can be checked, and holds where it is proved
pub record IsLawfulClaim (inst : Tables) (claim : Claim) : Type 0 where
  -- the bound is in range, the lists are few, and the nodes are those of a tree in range
  pub bound : IsBoundInRange claim.bound
  pub few : claim.lists ≤ 16
  pub tree : (t : Tree) × IsTreeOfClaim inst claim t
  -- list 0 is the list of zeros
  pub zeros : AreSameWorths inst 0 claim.worths (worth_by risk_base inst [])
  -- no feasible plan in a box has a score below a worth of the box
  pub boxes : BoundBoxes risk_value inst claim.lists claim.worths

-- what holds of the certificates of a kind that are in range for an instance
pub record IsLawfulKind {C : Type 0} (kind : CertificateKind C) (inst : Tables) : Type 0 where
  pub claims : (cert : C) → kind.range inst cert → IsLawfulClaim inst (kind.claim inst cert)
  -- what is written of one is read as it, and as no other, where it is within the limit
  pub told : (limits : Limits) (cert : C) → kind.range inst cert
      → length (kind.text inst cert) ≤ limits.certificate_bytes
      → SpellsOneBy kind.texts limits inst (kind.text inst cert) cert
  -- with another bound and other nodes it claims these, and is in range where they are
  pub remade : (cert : C) (bound : Bound) (nodes : List Node)
      → kind.claim inst (kind.remade cert bound nodes)
      ≡ record (kind.claim inst cert) { bound = bound; nodes = nodes }
  pub in_range : (cert : C) (bound : Bound) (nodes : List Node) (t : Tree) → kind.range inst cert
      → IsBoundInRange bound → AreNodesOf inst (kind.claim inst cert).lists (root_box inst) t nodes
      → kind.range inst (kind.remade cert bound nodes)

-- ---- versions 1 and 2

abbrev pub plain_kind : CertificateKind Certificate
plain_kind =
    record {
      texts = plain_texts;
      range = IsInRange;
      claim = claim_of risk_base;
      text = certificate_text;
      remade = λ cert bound nodes. record cert { bound = bound; nodes = nodes };
    }
