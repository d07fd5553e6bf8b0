-- A certificate and a plan that are lent, if there is one.
use Rattle.std.proofs.Common.{◌≡◌, ◌-◌, refl, ap, subst, arith, List, [], ◌∷◌, ◌++◌, length, length-append, Option}
use Rattle.std.proofs.Common.{Some, None, IfSome, Bor}
use Rattle.std.specs.Prelude.{option_map}
use Rattle.std.proofs.lemmas.List.Elements.{All-nil, All-push}
use Rattle.instance_model.specs.Tables.{Tables}
use Rattle.lagrange_bound.specs.Prices.{PriceList, IsPriceList}
use Rattle.lagrange_bound.specs.Tabulated.{PriceRows}
use Rattle.certificate_lines.specs.declared.line.Bound.TheVariants.{NoPlan}
use Rattle.certificate_lines.specs.declared.line.Version.TheVariants.{Two}
use Rattle.certificate_tree.specs.declared.node.Node.TheVariants.{Cost}
use Rattle.certificate_tree.specs.declared.certificate.Certificate.{Certificate}
use Rattle.certificate_tree.specs.Trees.{Tree, leaf, root_box}
use Rattle.certificate_tree.specs.Ranges.{HasPricesOf, IsInRange}
use Rattle.certificate_tree.specs.Validity.{IsTreeOfClaim}
use Rattle.certificate_tree.specs.PriceTables.{claim_by}
use Rattle.refined_text.specs.versions.Laws.{VersionsStayInRange}
use Rattle.refined_prices.specs.RefinedLists.{RefinedList, IsRefinedList}
use Rattle.refined_check.specs.declared.certificate.certificate.RefinedCertificate.{RefinedCertificate}
use Rattle.refined_check.specs.certificate.Orders.{IsInOrder}
use Rattle.refined_check.specs.certificate.Ranges.{IsRefinedInRange}
use Rattle.refined_check.specs.Singles.{refined_of}
use Rattle.refined_search.specs.Lists.{lists_of}
use Rattle.refined_search.specs.Steps.{MayStand}
use Rattle.refined_search.proofs.BeginLemmas.{no_certificate, same_certificate}
use Rattle.refined_search.proofs.TreeLemmas.{nodes_wider}

-- what is said of a certificate that is lent, if there is one
abbrev pub seen : Option (Bor RefinedCertificate) → Option RefinedCertificate
seen cert = option_map (λ (old : Bor RefinedCertificate). old.now) cert

pub lent_ok : (inst : Tables) (cert : Option (Bor RefinedCertificate))
    → IfSome cert (λ old. IsRefinedInRange inst old.now) → (old : RefinedCertificate) → seen cert ≡ Some old
    → IsRefinedInRange inst old
lent_ok inst None h old e = absurd (no_certificate old e)
lent_ok inst (Some x) h old e = subst (IsRefinedInRange inst) (same_certificate x.now old e) h

-- its lists may stand
pub lent_stand : (inst : Tables) (cert : Option (Bor RefinedCertificate)) (lists : List RefinedList)
    → IfSome cert (λ old. IsRefinedInRange inst old.now) → lists ≡ lists_of (seen cert) → MayStand inst lists
lent_stand inst None lists h e = rw e (record {
  few = omega arith;
  in_range = All-nil (IsRefinedList inst);
  in_order = All-nil IsInOrder;
})
lent_stand inst (Some x) lists h e = rw e (record { few = h.few; in_range = h.lists; in_order = h.in_order })

-- its nodes are those of a tree in range for more lists
pub lent_trees : (inst : Tables) (lists more : List RefinedList) (tables : List PriceRows)
    (cert : Option (Bor RefinedCertificate)) → length tables - 1 ≡ length lists → lists ≡ lists_of (seen cert) ++ more
    → IfSome cert (λ old. IsRefinedInRange inst old.now)
    → IfSome cert (λ old. (t : Tree) × IsTreeOfClaim inst (claim_by NoPlan tables old.now.nodes) t)
lent_trees inst lists more tables None each behind h = tt
lent_trees inst lists more tables (Some x) each behind h = (
  h.tree.0,
  nodes_wider inst (length x.now.lists) (length tables - 1) (root_box inst) h.tree.0 x.now.nodes
      (omega (arith, each, ap length behind, length-append x.now.lists more)) h.tree.1,
)

-- ---- a price list that is told as a refined one is in order

module _ (inst : Tables) (prices : PriceList) (ok : IsPriceList inst prices) where
  alone : Certificate
  alone = record { version = Two; bound = NoPlan; lists = prices ∷ []; nodes = Cost 0 ∷ [] }

  alone_in_range : IsInRange inst alone
  unfolding alone
  alone_in_range = record {
    bound = tt;
    few = omega arith;
    lists = All-push (IsPriceList inst) [] prices (All-nil (IsPriceList inst)) ok;
    version = All-push (HasPricesOf Two) [] prices (All-nil (HasPricesOf Two)) tt;
    tree = (leaf (Cost 0), record { order = refl; in_range = omega arith });
  }

  pub told_in_order : VersionsStayInRange → IsInOrder (refined_of inst prices)
  unfolding alone
  told_in_order law = (law inst alone alone_in_range).in_order 0 (refined_of inst prices) (omega arith)
