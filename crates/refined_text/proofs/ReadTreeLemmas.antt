-- The lines of the tree, which are those of version 2.
use Rattle.std.proofs.Common.{◌≡◌, ◌⊎◌, ℕ, suc, ◌+◌, ◌-◌, inl, inr, refl, sym, ◌∙◌, ap, subst, List, []}
use Rattle.std.proofs.Common.{◌∷◌, ◌++◌, length, map}
use Rattle.std.specs.List.{AllByRecursion}
use Rattle.std.proofs.lemmas.List.Elements.{All-from_recursion, recursion_from_All}
use Rattle.instance_model.specs.Tables.{Tables}
use Rattle.lagrange_bound.specs.declared.span.Span.{Span}
use Rattle.certificate_lines.specs.declared.line.CertificateLine.{CertificateLine}
use Rattle.certificate_lines.specs.declared.line.CertificateLine.TheVariants as line
use Rattle.certificate_lines.specs.Spelling.{spelling, IsLine}
use Rattle.certificate_tree.specs.declared.node.Node.{Node}
use Rattle.certificate_tree.specs.declared.node.Node.TheVariants as node
use Rattle.certificate_tree.specs.Trees.{below, above, root_box}
use Rattle.certificate_text.specs.Text.{node_line, text_of_lines, line_text}
use Rattle.certificate_text.specs.Grammar.{Place, nodes, Stands, Leads}
use Rattle.certificate_text.specs.declared.read.fault.CertFault.{CertFault}
use Rattle.certificate_text.specs.declared.read.fault.CertFault.TheVariants.{Cut, BadLine, Bounds, Memory}
use Rattle.certificate_text.specs.declared.read.refusal.Refusal.{Refusal}
use Rattle.certificate_text.specs.declared.read.refusal.Refusal.TheVariants.{Misplaced, OutOfRange}
use Rattle.certificate_text.specs.read.Faults.{IsBadLine, IsPastEnd, HasLineFault}
use Rattle.certificate_text.specs.read.Lines.{Left}
use Rattle.certificate_text.specs.read.Reading.{Passes, Fails, Refuses, IsMore}
use Rattle.certificate_text.proofs.ReadCompleteLemmas.{ended}
use Rattle.certificate_text.proofs.ReadTreeLemmas.{tree_of}
use Rattle.refined_text.specs.declared.lines.line.RefinedLine.{RefinedLine}
use Rattle.refined_text.specs.declared.lines.line.RefinedLine.TheVariants.{Title, Plain, Cap, Group, Offset, Clique}
use Rattle.refined_text.specs.lines.Spelling.{refined_spelling, IsPlain, IsRefinedLine}
use Rattle.refined_text.specs.text.Text.{text_of_refined}
use Rattle.refined_text.specs.grammar.Further.{Further, no_further}
use Rattle.refined_text.specs.grammar.Grammar.{within, ComesFirst, RefinedStands}
use Rattle.refined_text.proofs.GrammarPlaceLemmas.{IsInside, inside_goes}
use Rattle.refined_text.specs.read.Faults.{IsRefinedBadLine, IsRefinedPastEnd, HasRefinedLineFault}
use Rattle.refined_text.specs.read.Taking.{RefinedRefuses}
use Rattle.refined_text.specs.read.Reading.{RefinedPasses, RefinedFails, ReadsTree}
use Rattle.refined_text.proofs.ReadStepLemmas.{fails_behind, fails_past_end}

-- ---- lines of both versions

pub inside_plain : (a : CertificateLine) → IsInside a → IsPlain a
inside_plain (line.Title version) h = h
inside_plain (line.Tail t weight places) h = h
inside_plain _ h = tt

-- a line that version 2 refuses at a place is refused there
pub plain_refused : (inst : Tables) (place : Place) (further : Further) (a : CertificateLine) (refusal : Refusal)
    → (Stands place a → IsPlain a × ComesFirst a further.kind) → Refuses inst place a refusal
    → RefinedRefuses inst (within place further) (Plain a) refusal
plain_refused inst place further a Misplaced inside f = λ stands. f stands.1
plain_refused inst place further a OutOfRange inside f =
    let own = inside f.0 in ((own.0, f.0, own.1), λ fits. f.1 fits.0)

plains_form : (ls : List CertificateLine) → AllByRecursion IsInside ls → AllByRecursion IsLine ls
    → AllByRecursion IsRefinedLine (map Plain ls)
plains_form [] inside form = tt
plains_form (a ∷ ls) inside form = ((inside_plain a inside.0, form.0), plains_form ls inside.1 form.1)

plains_text : (ls : List CertificateLine) → text_of_refined (map Plain ls) ≡ text_of_lines ls
plains_text [] = refl
plains_text (a ∷ ls) = ap (λ (t : List ℕ). line_text a ++ t) (plains_text ls)

plains_length : (ls : List CertificateLine) → length (map Plain ls) ≡ length ls
plains_length [] = refl
plains_length (a ∷ ls) = ap (λ (n : ℕ). suc n) (plains_length ls)

-- ---- lines of nodes

node_inside : (n : Node) → IsInside (node_line n)
node_inside (node.Split i last) = tt
node_inside (node.Cost list) = tt
node_inside node.Point = tt
node_inside (node.Band c t side) = tt
node_inside (node.Excl e) = tt
node_inside (node.Empty i) = tt

nodes_inside : (ns : List Node) → AllByRecursion IsInside (map node_line ns)
nodes_inside [] = tt
nodes_inside (n ∷ ns) = (node_inside n, nodes_inside ns)

-- lines that lead on from a place among the nodes
record LeadsOn (m : ℕ) (ls : List CertificateLine) (p : Place) : Type 0 where
  boxes : List (List Span)
  is : nodes m boxes ≡ p
  inside : AllByRecursion IsInside ls

one_on : (m : ℕ) (a : CertificateLine) (ls : List CertificateLine) (p : Place) → IsInside a → LeadsOn m ls p
    → LeadsOn m (a ∷ ls) p
one_on m a ls p own rest = record { boxes = rest.boxes; is = rest.is; inside = (own, rest.inside) }

leads_on : (inst : Tables) (m : ℕ) (boxes : List (List Span)) (ls : List CertificateLine) (p : Place)
    → Leads inst (nodes m boxes) ls p → LeadsOn m ls p
leads_on inst m boxes [] p leads = record { boxes = boxes; is = leads; inside = tt }
leads_on inst m [] (a ∷ ls) p leads = absurd (ended (nodes m []) a tt leads.0)
leads_on inst m (b ∷ bs) (line.Split i last ∷ ls) p leads = one_on m (line.Split i last) ls p tt
    (leads_on inst m (below b (i - 1) last ∷ above b (i - 1) last ∷ bs) ls p leads.2)
leads_on inst m (b ∷ bs) (line.Cost list ∷ ls) p leads = one_on m (line.Cost list) ls p tt
    (leads_on inst m bs ls p leads.2)
leads_on inst m (b ∷ bs) (line.Point ∷ ls) p leads = one_on m line.Point ls p tt (leads_on inst m bs ls p leads.2)
leads_on inst m (b ∷ bs) (line.Band c t side ∷ ls) p leads = one_on m (line.Band c t side) ls p tt
    (leads_on inst m bs ls p leads.2)
leads_on inst m (b ∷ bs) (line.Excl e ∷ ls) p leads = one_on m (line.Excl e) ls p tt
    (leads_on inst m bs ls p leads.2)
leads_on inst m (b ∷ bs) (line.Empty i ∷ ls) p leads = one_on m (line.Empty i) ls p tt
    (leads_on inst m bs ls p leads.2)
leads_on inst m (b ∷ bs) (_ ∷ ls) p leads = absurd leads.0

-- what stands among the nodes is no line of a price list
node_only : (m : ℕ) (boxes : List (List Span)) (a : CertificateLine) (kind : ℕ) → Stands (nodes m boxes) a
    → IsPlain a × ComesFirst a kind
node_only m [] a kind s = absurd (ended (nodes m []) a tt s)
node_only m (b ∷ bs) (line.Split i last) kind s = (tt, tt)
node_only m (b ∷ bs) (line.Cost list) kind s = (tt, tt)
node_only m (b ∷ bs) line.Point kind s = (tt, tt)
node_only m (b ∷ bs) (line.Band c t side) kind s = (tt, tt)
node_only m (b ∷ bs) (line.Excl e) kind s = (tt, tt)
node_only m (b ∷ bs) (line.Empty i) kind s = (tt, tt)
node_only m (b ∷ bs) _ kind s = absurd s

-- lines of nodes that were read
pub passes_nodes : (inst : Tables) (m : ℕ) (boxes more : List (List Span)) (a b : Left) (ns : List Node)
    → Passes inst (nodes m boxes) a (map node_line ns) (nodes m more) b
    → RefinedPasses inst (within (nodes m boxes) (no_further inst)) a (map Plain (map node_line ns))
    (within (nodes m more) (no_further inst)) b
passes_nodes inst m boxes more a b ns u = record {
  forms = All-from_recursion IsRefinedLine (map Plain (map node_line ns)) (plains_form (map node_line ns)
      (nodes_inside ns) (recursion_from_All IsLine (map node_line ns) u.forms));
  cut = u.cut ∙ ap (λ (t : List ℕ). t ++ b.rest) (sym (plains_text (map node_line ns)));
  next = u.next ∙ ap (λ (n : ℕ). a.count + n) (sym (plains_length (map node_line ns)));
  leads = inside_goes inst (nodes m boxes) (nodes m more) (no_further inst) (map node_line ns) refl (nodes_inside ns)
      u.leads;
}

-- ---- faults

-- a line that isn't one of version 2 stands at no place among the nodes
misplaced : (m : ℕ) (boxes : List (List Span)) (f : Further) (text : List ℕ)
    → ((a : CertificateLine) → IsLine a → text ≡ spelling a → Stands (nodes m boxes) a → ⊥) → (a : RefinedLine)
    → IsRefinedLine a → text ≡ refined_spelling a → RefinedStands (within (nodes m boxes) f) a → ⊥
misplaced m boxes f text none Title form spelled s = s
misplaced m boxes f text none (Plain a) form spelled s = none a form.1 spelled s.1
misplaced m boxes f text none Cap form spelled s = s.0
misplaced m boxes f text none (Group t ms) form spelled s = s.0
misplaced m boxes f text none (Offset t i g v) form spelled s = s.0
misplaced m boxes f text none (Clique t v ms) form spelled s = s.0

here : (inst : Tables) (m : ℕ) (boxes : List (List Span)) (f : Further) (rest : List ℕ) (n : ℕ) (fault : CertFault)
    → HasLineFault inst (nodes m boxes) rest n fault
    → HasRefinedLineFault inst (within (nodes m boxes) f) rest n fault
here inst m boxes f rest n Memory h = tt
here inst m boxes f rest n (Cut k) h = (h.0, record { needed = h.1.needed; unended = h.1.unended })
here inst m boxes f rest n (BadLine k) h = (h.0, at h.1)
  where
    at : IsBadLine (nodes m boxes) rest ⊎ IsPastEnd (nodes m boxes) rest
        → IsRefinedBadLine (within (nodes m boxes) f) rest ⊎ IsRefinedPastEnd (within (nodes m boxes) f) rest
    at (inl bad) = inl (record {
      needed = bad.needed;
      text = bad.text;
      more = bad.more;
      cut = bad.cut;
      whole = bad.whole;
      misplaced = misplaced m boxes f bad.text bad.misplaced;
    })
    at (inr past) = inr (record { ended = past.ended; some = past.some })
here inst m boxes f rest n (Bounds k) h = (
  h.0,
  (let o = h.1 in
      let own = node_only m boxes o.line f.kind o.stands in
      record {
        line = Plain o.line;
        more = o.more;
        cut = o.cut;
        form = (own.0, o.form);
        stands = (own.0, o.stands, own.1);
        unfit = λ fits. o.unfit fits.0;
      }),
)

-- a fault of the nodes
pub fails_nodes : (inst : Tables) (m : ℕ) (boxes : List (List Span)) (a : Left) (fault : CertFault)
    → Fails inst (nodes m boxes) a fault → RefinedFails inst (within (nodes m boxes) (no_further inst)) a fault
fails_nodes inst m boxes a fault f =
    let on = leads_on inst m boxes f.lines f.place f.faultless.leads in
    let f0 = no_further inst in
    record {
      lines = map Plain f.lines;
      place = within (nodes m on.boxes) f0;
      rest = f.rest;
      faultless = record {
        cut = f.faultless.cut ∙ ap (λ (t : List ℕ). t ++ f.rest) (sym (plains_text f.lines));
        forms = All-from_recursion IsRefinedLine (map Plain f.lines) (plains_form f.lines on.inside
            (recursion_from_All IsLine f.lines f.faultless.forms));
        leads = inside_goes inst (nodes m boxes) (nodes m on.boxes) f0 f.lines refl on.inside
            (subst (λ (p : Place). Leads inst (nodes m boxes) f.lines p) (sym on.is) f.faultless.leads);
      };
      here = subst (λ (n : ℕ). HasRefinedLineFault inst (within (nodes m on.boxes) f0) f.rest (a.count + n + 1) fault)
          (sym (plains_length f.lines))
          (here inst m on.boxes f0 f.rest (a.count + length f.lines + 1) fault
          (subst (λ (p : Place). HasLineFault inst p f.rest (a.count + length f.lines + 1) fault) (sym on.is) f.here));
    }

-- something is left behind the last node
pub fails_rest : (inst : Tables) (m : ℕ) (a b : Left) (ns : List Node) (fault : CertFault)
    → Passes inst (nodes m (root_box inst ∷ [])) a (map node_line ns) (nodes m []) b → IsMore b fault
    → RefinedFails inst (within (nodes m (root_box inst ∷ [])) (no_further inst)) a fault
fails_rest inst m a b ns fault u more = fails_behind inst (within (nodes m (root_box inst ∷ [])) (no_further inst))
    (within (nodes m []) (no_further inst)) a b (map Plain (map node_line ns)) fault
    (passes_nodes inst m (root_box inst ∷ []) [] a b ns u)
    (fails_past_end inst (within (nodes m []) (no_further inst)) b fault tt more.0 more.1)

-- the same lines, where they are left as they were
pub left_is : (a b : Left) → a.rest ≡ b.rest → a.count ≡ b.count → a ≡ b
left_is a b e f = λ i. record { rest = e i; count = f i }

-- all nodes were read
pub tree_read : (inst : Tables) (m : ℕ) (lines a b : Left) (ns : List Node) → a ≡ lines
    → Passes inst (nodes m (root_box inst ∷ [])) a (map node_line ns) (nodes m []) b → length b.rest ≡ 0
    → ReadsTree inst m lines ns
tree_read inst m lines a b ns e u none = record {
  end = b;
  passes = subst (λ (x : Left). RefinedPasses inst (within (nodes m (root_box inst ∷ [])) (no_further inst)) x
      (map Plain (map node_line ns)) (within (nodes m []) (no_further inst)) b) e
      (passes_nodes inst m (root_box inst ∷ []) [] a b ns u);
  nothing = none;
  tree = tree_of inst m (root_box inst) ns u.leads;
}
