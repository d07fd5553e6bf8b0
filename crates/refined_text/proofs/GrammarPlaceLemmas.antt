-- Lines that lead from place to place.
use Rattle.std.proofs.Common.{◌≡◌, sym, ◌∙◌, ap, subst, List, [], ◌∷◌, ◌++◌, map}
use Rattle.std.specs.List.{AllByRecursion}
use Rattle.instance_model.specs.Tables.{Tables}
use Rattle.certificate_lines.specs.declared.line.CertificateLine.{CertificateLine}
use Rattle.certificate_lines.specs.declared.line.CertificateLine.TheVariants as line
use Rattle.certificate_text.specs.Grammar.{Place, after, Leads}
use Rattle.refined_text.specs.declared.lines.line.RefinedLine.{RefinedLine}
use Rattle.refined_text.specs.declared.lines.line.RefinedLine.TheVariants.{Plain}
use Rattle.refined_text.specs.grammar.Further.{Further}
use Rattle.refined_text.specs.grammar.Grammar.{RefinedPlace, within, refined_after, RefinedLeads}

pub goes_append : (inst : Tables) (p q r : RefinedPlace) (xs ys : List RefinedLine) → RefinedLeads inst p xs q
    → RefinedLeads inst q ys r → RefinedLeads inst p (xs ++ ys) r
goes_append inst p q r [] ys a b = subst (λ (z : RefinedPlace). RefinedLeads inst z ys r) (sym a) b
goes_append inst p q r (x ∷ xs) ys a b = (a.0, a.1, goes_append inst (refined_after inst p x) q r xs ys a.2 b)

-- lines lead to one place alone
pub goes_once : (inst : Tables) (p q r : RefinedPlace) (xs : List RefinedLine) → RefinedLeads inst p xs q
    → RefinedLeads inst p xs r → q ≡ r
goes_once inst p q r [] a b = sym a ∙ b
goes_once inst p q r (x ∷ xs) a b = goes_once inst (refined_after inst p x) q r xs a.2 b.2

-- a line of version 2 inside a price list or the tree
abbrev pub IsInside : CertificateLine → Type 0
IsInside (line.Title version) = ⊥
IsInside line.Prices = ⊥
IsInside (line.Tail t weight places) = ⊥
IsInside line.Tree = ⊥
IsInside _ = Unit {0}

-- such lines lead as in version 2, where no entry of version 3's own came before
pub inside_goes : (inst : Tables) (p q : Place) (further : Further) (ls : List CertificateLine) → further.kind ≡ 0
    → AllByRecursion IsInside ls → Leads inst p ls q
    → RefinedLeads inst (within p further) (map Plain ls) (within q further)
inside_goes inst p q further [] zero inside leads = ap (λ (x : Place). within x further) leads
inside_goes inst p q further (line.Title version ∷ ls) zero inside leads = absurd inside.0
inside_goes inst p q further (line.Bound least ∷ ls) zero inside leads = (
  (tt, leads.0, tt),
  (leads.1, tt),
  inside_goes inst (after inst p (line.Bound least)) q further ls zero inside.1 leads.2,
)
inside_goes inst p q further (line.Lists n ∷ ls) zero inside leads = (
  (tt, leads.0, tt),
  (leads.1, tt),
  inside_goes inst (after inst p (line.Lists n)) q further ls zero inside.1 leads.2,
)
inside_goes inst p q further (line.Prices ∷ ls) zero inside leads = absurd inside.0
inside_goes inst p q further (line.Up c t v ∷ ls) zero inside leads = (
  (tt, leads.0, zero),
  (leads.1, tt),
  inside_goes inst (after inst p (line.Up c t v)) q further ls zero inside.1 leads.2,
)
inside_goes inst p q further (line.Lo c t v ∷ ls) zero inside leads = (
  (tt, leads.0, zero),
  (leads.1, tt),
  inside_goes inst (after inst p (line.Lo c t v)) q further ls zero inside.1 leads.2,
)
inside_goes inst p q further (line.Tail t weight places ∷ ls) zero inside leads = absurd inside.0
inside_goes inst p q further (line.Ex e t v ∷ ls) zero inside leads = (
  (tt, leads.0, zero),
  (leads.1, tt),
  inside_goes inst (after inst p (line.Ex e t v)) q further ls zero inside.1 leads.2,
)
inside_goes inst p q further (line.Tree ∷ ls) zero inside leads = absurd inside.0
inside_goes inst p q further (line.Split i last ∷ ls) zero inside leads = (
  (tt, leads.0, tt),
  (leads.1, tt),
  inside_goes inst (after inst p (line.Split i last)) q further ls zero inside.1 leads.2,
)
inside_goes inst p q further (line.Cost list ∷ ls) zero inside leads = (
  (tt, leads.0, tt),
  (leads.1, tt),
  inside_goes inst (after inst p (line.Cost list)) q further ls zero inside.1 leads.2,
)
inside_goes inst p q further (line.Point ∷ ls) zero inside leads = (
  (tt, leads.0, tt),
  (leads.1, tt),
  inside_goes inst (after inst p line.Point) q further ls zero inside.1 leads.2,
)
inside_goes inst p q further (line.Band c t side ∷ ls) zero inside leads = (
  (tt, leads.0, tt),
  (leads.1, tt),
  inside_goes inst (after inst p (line.Band c t side)) q further ls zero inside.1 leads.2,
)
inside_goes inst p q further (line.Excl e ∷ ls) zero inside leads = (
  (tt, leads.0, tt),
  (leads.1, tt),
  inside_goes inst (after inst p (line.Excl e)) q further ls zero inside.1 leads.2,
)
inside_goes inst p q further (line.Empty i ∷ ls) zero inside leads = (
  (tt, leads.0, tt),
  (leads.1, tt),
  inside_goes inst (after inst p (line.Empty i)) q further ls zero inside.1 leads.2,
)
