-- What holds of certificates of versions 1 and 2.
use Rattle.std.proofs.Common.{refl, arith}
use Rattle.std.specs.Prelude.{ℕ, zero, suc, List, []}
use Rattle.instance_model.specs.Tables.{Tables}
use Rattle.instance_model.specs.Fitting.{IsFitting}
use Rattle.lagrange_bound.specs.Prices.{PriceList}
use Rattle.lagrange_bound.specs.Goals.{risk_base, risk_value}
use Rattle.certificate_tree.specs.declared.certificate.Certificate.{Certificate}
use Rattle.certificate_tree.specs.Ranges.{IsInRange}
use Rattle.certificate_tree.specs.Holding.{list_at, worth_by}
use Rattle.certificate_tree.specs.Validity.{claim_of, AreSameWorths}
use Rattle.certificate_tree.specs.Laws.{ListsBoundBoxes}
use Rattle.certificate_text.specs.Laws.{TextsTell}
use Rattle.command_frame.specs.Kinds.{IsLawfulClaim, IsLawfulKind, plain_kind}
use Rattle.command_frame.proofs.TextLemmas.{spells}

module _ (inst : Tables) (fit : IsFitting inst) (tell : TextsTell) (law : ListsBoundBoxes risk_base risk_value) where
  -- list 0 is the list of zeros
  zeros : (lists : List PriceList) → AreSameWorths inst 0 (worth_by risk_base inst lists) (worth_by risk_base inst [])
  unfolding list_at
  zeros lists box zero low is_box has_starts = refl
  zeros lists box (suc j) low is_box has_starts = absurd (omega (arith, low))

  lawful_claim : (cert : Certificate) → IsInRange inst cert → IsLawfulClaim inst (claim_of risk_base inst cert)
  lawful_claim cert range = record {
    bound = range.bound;
    few = range.few;
    tree = range.tree;
    zeros = zeros cert.lists;
    boxes = law inst cert.lists fit range.lists;
  }

  pub lawful : IsLawfulKind plain_kind inst
  lawful = record {
    claims = lawful_claim;
    told = λ limits cert range within. spells limits inst fit cert range within tell;
    remade = λ cert bound nodes. refl;
    in_range = λ cert bound nodes t range bounded of_nodes. record {
      bound = bounded;
      few = range.few;
      lists = range.lists;
      version = range.version;
      tree = (t, of_nodes);
    };
  }
