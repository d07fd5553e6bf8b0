-- All lines of a certificate, read one part after another.
use Rattle.std.proofs.Common.{◌≡◌, ℕ, ◌≤◌, refl, sym, ◌∙◌, ap, subst, arith, List, [], ◌∷◌, ◌++◌, length, map}
use Rattle.std.proofs.Common.{append_assoc}
use Rattle.std.specs.List.{flat_map}
use Rattle.std.proofs.lemmas.List.{append-nil}
use Rattle.instance_model.specs.Tables.{Tables}
use Rattle.certificate_lines.specs.declared.line.Version.TheVariants.{Two}
use Rattle.certificate_lines.specs.declared.line.Bound.{Bound}
use Rattle.certificate_lines.specs.declared.line.CertificateLine.TheVariants as line
use Rattle.certificate_tree.specs.declared.node.Node.{Node}
use Rattle.certificate_tree.specs.Trees.{root_box}
use Rattle.certificate_tree.specs.Ranges.{IsBoundInRange}
use Rattle.certificate_text.specs.Text.{node_line}
use Rattle.certificate_text.specs.Grammar.{bound, count, nodes}
use Rattle.certificate_text.specs.declared.read.fault.CertFault.{CertFault}
use Rattle.certificate_text.specs.read.Lines.{Left}
use Rattle.refined_prices.specs.RefinedLists.{RefinedList}
use Rattle.refined_check.specs.declared.certificate.certificate.RefinedCertificate.{RefinedCertificate}
use Rattle.refined_text.specs.declared.lines.line.RefinedLine.{RefinedLine}
use Rattle.refined_text.specs.declared.lines.line.RefinedLine.TheVariants.{Title, Plain}
use Rattle.refined_text.specs.text.Text.{text_of_refined, refined_list_lines, refined_certificate_lines}
use Rattle.refined_text.specs.grammar.Further.{no_further}
use Rattle.refined_text.specs.grammar.Grammar.{start, within}
use Rattle.refined_text.specs.read.Faults.{HasRefinedFault, HasRefinedFaultFrom, IsRefinedTextOf}
use Rattle.refined_text.specs.read.Reading.{RefinedPasses, RefinedFails, lists_begin, ReadsAll, ReadsTree}
use Rattle.refined_text.specs.read.Reading.{ReadsRefinedCertificate}
use Rattle.refined_text.proofs.ReadStepLemmas.{passes_more}

-- the first three lines
abbrev pub header : Bound → ℕ → List RefinedLine
header b n = Title ∷ Plain (line.Bound b) ∷ Plain (line.Lists n) ∷ []

module _ (inst : Tables) (b : Bound) (n : ℕ) (one two three four : Left)
    (p : RefinedPasses inst start one (Title ∷ []) (within (bound Two) (no_further inst)) two)
    (q : RefinedPasses inst (within (bound Two) (no_further inst)) two (Plain (line.Bound b) ∷ [])
    (within (count Two) (no_further inst)) three) where
  pub two_read : RefinedPasses inst start one (Title ∷ Plain (line.Bound b) ∷ [])
      (within (count Two) (no_further inst)) three
  two_read = passes_more inst start (within (bound Two) (no_further inst)) (within (count Two) (no_further inst)) one
      two three (Title ∷ []) (Plain (line.Bound b) ∷ []) p q

  pub header_read : RefinedPasses inst (within (count Two) (no_further inst)) three (Plain (line.Lists n) ∷ [])
      (lists_begin inst n) four → RefinedPasses inst start one (header b n) (lists_begin inst n) four
  header_read r = passes_more inst start (within (count Two) (no_further inst)) (lists_begin inst n) one three four
      (Title ∷ Plain (line.Bound b) ∷ []) (Plain (line.Lists n) ∷ []) two_read r

-- everything before the nodes
abbrev pub before_nodes : Tables → Bound → ℕ → List RefinedList → List RefinedLine
before_nodes inst b n read = header b n ++ (flat_map (refined_list_lines inst) read ++ Plain line.Tree ∷ [])

pub before_nodes_read : (inst : Tables) (b : Bound) (n : ℕ) (read : List RefinedList) (one four five : Left)
    → RefinedPasses inst start one (header b n) (lists_begin inst n) four → ReadsAll inst n four read five
    → RefinedPasses inst start one (before_nodes inst b n read)
    (within (nodes n (root_box inst ∷ [])) (no_further inst)) five
before_nodes_read inst b n read one four five p u = passes_more inst start (lists_begin inst n)
    (within (nodes n (root_box inst ∷ [])) (no_further inst)) one four five (header b n)
    (flat_map (refined_list_lines inst) read ++ Plain line.Tree ∷ []) p u.passes

all_lines : (inst : Tables) (b : Bound) (read : List RefinedList) (ns : List Node)
    → before_nodes inst b (length read) read ++ map Plain (map node_line ns)
    ≡ refined_certificate_lines inst (record { bound = b; lists = read; nodes = ns })
all_lines inst b read ns =
    ap (λ (ls : List RefinedLine). Title ∷ Plain (line.Bound b) ∷ Plain (line.Lists (length read)) ∷ ls)
    (append_assoc (flat_map (refined_list_lines inst) read) (Plain line.Tree ∷ []) (map Plain (map node_line ns)))

exact : (inst : Tables) (b : Bound) (read : List RefinedList) (ns : List Node) (one four five : Left)
    → IsBoundInRange b → length read ≤ 16
    → RefinedPasses inst start one (header b (length read)) (lists_begin inst (length read)) four
    → ReadsAll inst (length read) four read five → ReadsTree inst (length read) five ns
    → ReadsRefinedCertificate inst one (record { bound = b; lists = read; nodes = ns })
exact inst b read ns one four five range few p u w = record {
  in_range = record {
    bound = range;
    few = few;
    lists = u.in_range;
    in_order = u.in_order;
    tree = w.tree;
  };
  end = w.end;
  passes = subst (λ (ls : List RefinedLine). RefinedPasses inst start one ls
      (within (nodes (length read) []) (no_further inst)) w.end) (all_lines inst b read ns)
      (passes_more inst start (within (nodes (length read) (root_box inst ∷ [])) (no_further inst))
      (within (nodes (length read) []) (no_further inst)) one five w.end (before_nodes inst b (length read) read)
      (map Plain (map node_line ns)) (before_nodes_read inst b (length read) read one four five p u) w.passes);
  nothing = w.nothing;
}

pub whole_read : (inst : Tables) (b : Bound) (n : ℕ) (read : List RefinedList) (ns : List Node) (one four five : Left)
    → IsBoundInRange b → n ≤ 16 → RefinedPasses inst start one (header b n) (lists_begin inst n) four
    → ReadsAll inst n four read five → ReadsTree inst n five ns
    → ReadsRefinedCertificate inst one (record { bound = b; lists = read; nodes = ns })
whole_read inst b n read ns one four five range few p u w =
    exact inst b read ns one four five range
    (subst (λ (k : ℕ). k ≤ 16) (sym u.each) few)
    (subst (λ (k : ℕ). RefinedPasses inst start one (header b k) (lists_begin inst k) four) (sym u.each) p)
    (subst (λ (k : ℕ). ReadsAll inst k four read five) (sym u.each) u)
    (subst (λ (k : ℕ). ReadsTree inst k five ns) (sym u.each) w)

empty : (xs : List ℕ) → length xs ≡ 0 → xs ≡ []
empty [] e = refl
empty (x ∷ xs) e = absurd (omega (arith, e))

-- what was read whole is the text
pub text_read : (inst : Tables) (bytes : List ℕ) (left : Left) (cert : RefinedCertificate) → left.rest ≡ bytes
    → ReadsRefinedCertificate inst left cert → IsRefinedTextOf inst bytes cert
text_read inst bytes left cert e u = record {
  in_range = u.in_range;
  text =
      sym e ∙ u.passes.cut
      ∙ ap (λ (rest : List ℕ). text_of_refined (refined_certificate_lines inst cert) ++ rest)
      (empty u.end.rest u.nothing)
      ∙ append-nil (text_of_refined (refined_certificate_lines inst cert));
}

-- a fault from the first line on is the text's
pub text_fails : (inst : Tables) (bytes : List ℕ) (left : Left) (fault : CertFault) → left.rest ≡ bytes
    → left.count ≡ 0 → RefinedFails inst start left fault → HasRefinedFault inst bytes fault
text_fails inst bytes left fault e z f =
    subst (λ (text : List ℕ). HasRefinedFaultFrom inst start 0 text fault) e
    (subst (λ (k : ℕ). HasRefinedFaultFrom inst start k left.rest fault) z f)
