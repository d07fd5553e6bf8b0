-- What holds of certificates by refined price lists.
use Rattle.std.proofs.Common.{refl, arith}
use Rattle.std.specs.Prelude.{zero, suc, List, []}
use Rattle.instance_model.specs.Tables.{Tables}
use Rattle.instance_model.specs.Fitting.{IsFitting}
use Rattle.lagrange_bound.specs.Goals.{risk_base}
use Rattle.lagrange_bound.specs.Worth.{worth_of}
use Rattle.lagrange_bound.specs.Pricings.{pricing_worth}
use Rattle.certificate_tree.specs.Holding.{list_at, worth_by}
use Rattle.certificate_tree.specs.Validity.{AreSameWorths}
use Rattle.refined_prices.specs.RefinedLists.{RefinedList}
use Rattle.refined_check.specs.declared.certificate.certificate.RefinedCertificate.{RefinedCertificate}
use Rattle.refined_check.specs.certificate.Ranges.{IsRefinedInRange}
use Rattle.refined_check.specs.Worths.{refined_pricing_at, refined_worths}
use Rattle.refined_check.specs.Validity.{refined_claim}
use Rattle.refined_check.specs.Laws.{RefinedListsBoundBoxes}
use Rattle.refined_text.specs.versions.AnyTexts.{IsAnyText}
use Rattle.refined_text.specs.versions.Laws.{EachTextIsTold, AnyTextsTell, AnyTextsAreSound}
use Rattle.refined_text.specs.text.Text.{refined_text}
use Rattle.command_frame.specs.Kinds.{IsLawfulClaim, IsLawfulKind}
use Rattle.refined_files.specs.RefinedKind.{refined_kind}

module _ (inst : Tables) (fit : IsFitting inst) (law : RefinedListsBoundBoxes) (each : EachTextIsTold)
    (one : AnyTextsTell) (sound : AnyTextsAreSound) where
  -- list 0 is the list of zeros
  zeros : (lists : List RefinedList)
      → AreSameWorths inst 0 (refined_worths inst lists) (worth_by risk_base inst [])
  unfolding refined_pricing_at list_at worth_of pricing_worth
  zeros lists box zero low is_box has_starts = refl
  zeros lists box (suc j) low is_box has_starts = absurd (omega (arith, low))

  lawful_claim : (cert : RefinedCertificate) → IsRefinedInRange inst cert
      → IsLawfulClaim inst (refined_claim inst cert)
  lawful_claim cert range = record {
    bound = range.bound;
    few = range.few;
    tree = range.tree;
    zeros = zeros cert.lists;
    boxes = law inst cert.lists fit range.lists;
  }

  -- the text that is written is one of the certificate
  is_text : (cert : RefinedCertificate) → IsRefinedInRange inst cert → IsAnyText inst (refined_text inst cert) cert
  is_text cert range = each.refined inst (refined_text inst cert) cert (record { in_range = range; text = refl })

  pub lawful : IsLawfulKind refined_kind inst
  lawful = record {
    claims = lawful_claim;
    told = λ limits cert range within. record {
      spells = record { within = within; text_of = is_text cert range };
      only = λ other also. one inst (refined_text inst cert) other cert fit also (is_text cert range);
      sound = λ fault has. sound inst (refined_text inst cert) cert fault fit (is_text cert range) has;
    };
    remade = λ cert bound nodes. refl;
    in_range = λ cert bound nodes t range bounded of_nodes. record {
      bound = bounded;
      few = range.few;
      lists = range.lists;
      in_order = range.in_order;
      tree = (t, of_nodes);
    };
  }
