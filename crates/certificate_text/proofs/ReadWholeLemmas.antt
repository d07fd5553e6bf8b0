-- All lines of a certificate, read one part after another.
use Rattle.std.proofs.Common.{◌≡◌, ℕ, ◌≤◌, sym, ap, subst, List, [], ◌∷◌, ◌++◌, length, map, append_assoc, None}
use Rattle.std.specs.List.{flat_map}
use Rattle.instance_model.specs.Tables.{Tables}
use Rattle.lagrange_bound.specs.Prices.{PriceList}
use Rattle.certificate_lines.specs.declared.line.Version.{Version}
use Rattle.certificate_lines.specs.declared.line.Bound.{Bound}
use Rattle.certificate_lines.specs.declared.line.CertificateLine.{CertificateLine}
use Rattle.certificate_lines.specs.declared.line.CertificateLine.TheVariants as line
use Rattle.certificate_tree.specs.declared.node.Node.{Node}
use Rattle.certificate_tree.specs.declared.certificate.Certificate.{Certificate}
use Rattle.certificate_tree.specs.Trees.{root_box}
use Rattle.certificate_tree.specs.Ranges.{IsBoundInRange}
use Rattle.certificate_text.specs.Text.{list_lines, node_line, certificate_lines}
use Rattle.certificate_text.specs.Grammar.{title, bound, count, lists, nodes}
use Rattle.certificate_text.specs.declared.read.fault.CertFault.{CertFault}
use Rattle.certificate_text.specs.read.Faults.{HasFault, HasFaultFrom}
use Rattle.certificate_text.specs.read.Lines.{Left}
use Rattle.certificate_text.specs.read.Reading.{Passes, Fails, IsMore, ReadsAllLists, ReadsCertificate}
use Rattle.certificate_text.proofs.ReadStepLemmas.{passes_more, fails_behind, fails_past_end}
use Rattle.certificate_text.proofs.ReadTreeLemmas.{tree_of}

-- the first three lines
abbrev pub header : Version → Bound → ℕ → List CertificateLine
header v b n = line.Title v ∷ line.Bound b ∷ line.Lists n ∷ []

pub header_read : (inst : Tables) (v : Version) (b : Bound) (n : ℕ) (one two three four : Left)
    → Passes inst title one (line.Title v ∷ []) (bound v) two
    → Passes inst (bound v) two (line.Bound b ∷ []) (count v) three
    → Passes inst (count v) three (line.Lists n ∷ []) (lists v n n None) four
    → Passes inst title one (header v b n) (lists v n n None) four
header_read inst v b n one two three four p q r =
    passes_more inst title (count v) (lists v n n None) one three four (line.Title v ∷ line.Bound b ∷ [])
    (line.Lists n ∷ []) (passes_more inst title (bound v) (count v) one two three (line.Title v ∷ [])
    (line.Bound b ∷ []) p q) r

-- everything before the nodes
abbrev pub before_nodes : Tables → Version → Bound → ℕ → List PriceList → List CertificateLine
before_nodes inst v b n read = header v b n ++ (flat_map (list_lines inst) read ++ line.Tree ∷ [])

pub before_nodes_read : (inst : Tables) (v : Version) (b : Bound) (n : ℕ) (read : List PriceList) (one four five : Left)
    → Passes inst title one (header v b n) (lists v n n None) four → ReadsAllLists inst v n four read five
    → Passes inst title one (before_nodes inst v b n read) (nodes n (root_box inst ∷ [])) five
before_nodes_read inst v b n read one four five p u = passes_more inst title (lists v n n None)
    (nodes n (root_box inst ∷ [])) one four five (header v b n)
    (flat_map (list_lines inst) read ++ line.Tree ∷ []) p u.passes

all_lines : (inst : Tables) (v : Version) (b : Bound) (read : List PriceList) (ns : List Node)
    → before_nodes inst v b (length read) read ++ map node_line ns
    ≡ certificate_lines inst (record { version = v; bound = b; lists = read; nodes = ns })
all_lines inst v b read ns = ap (λ (ls : List CertificateLine). line.Title v ∷ line.Bound b ∷ line.Lists (length read)
    ∷ ls) (append_assoc (flat_map (list_lines inst) read) (line.Tree ∷ []) (map node_line ns))

exact : (inst : Tables) (v : Version) (b : Bound) (read : List PriceList) (ns : List Node) (one four five six : Left)
    → IsBoundInRange b → length read ≤ 16
    → Passes inst title one (header v b (length read)) (lists v (length read) (length read) None) four
    → ReadsAllLists inst v (length read) four read five
    → Passes inst (nodes (length read) (root_box inst ∷ [])) five (map node_line ns) (nodes (length read) []) six
    → ReadsCertificate inst one (record { version = v; bound = b; lists = read; nodes = ns }) six
exact inst v b read ns one four five six range few p u w = record {
  in_range = record {
    bound = range;
    few = few;
    lists = u.in_range;
    version = u.has_prices;
    tree = tree_of inst (length read) (root_box inst) ns w.leads;
  };
  passes = subst (λ (ls : List CertificateLine). Passes inst title one ls (nodes (length read) []) six)
      (all_lines inst v b read ns)
      (passes_more inst title (nodes (length read) (root_box inst ∷ [])) (nodes (length read) []) one five six
      (before_nodes inst v b (length read) read) (map node_line ns)
      (before_nodes_read inst v b (length read) read one four five p u) w);
}

pub whole_read : (inst : Tables) (v : Version) (b : Bound) (n : ℕ) (read : List PriceList) (ns : List Node)
    (one four five six : Left) → IsBoundInRange b → n ≤ 16
    → Passes inst title one (header v b n) (lists v n n None) four → ReadsAllLists inst v n four read five
    → Passes inst (nodes n (root_box inst ∷ [])) five (map node_line ns) (nodes n []) six
    → ReadsCertificate inst one (record { version = v; bound = b; lists = read; nodes = ns }) six
whole_read inst v b n read ns one four five six range few p u w =
    exact inst v b read ns one four five six range
    (subst (λ (k : ℕ). k ≤ 16) (sym u.each) few)
    (subst (λ (k : ℕ). Passes inst title one (header v b k) (lists v k k None) four) (sym u.each) p)
    (subst (λ (k : ℕ). ReadsAllLists inst v k four read five) (sym u.each) u)
    (subst (λ (k : ℕ). Passes inst (nodes k (root_box inst ∷ [])) five (map node_line ns) (nodes k []) six) (sym u.each)
    w)

-- a fault from the first line on is the text's
pub text_fails : (inst : Tables) (bytes : List ℕ) (left : Left) (fault : CertFault) → left.rest ≡ bytes → left.count ≡ 0
    → Fails inst title left fault → HasFault inst bytes fault
text_fails inst bytes left fault e z f = subst (λ (text : List ℕ). HasFaultFrom inst title 0 text fault) e
    (subst (λ (k : ℕ). HasFaultFrom inst title k left.rest fault) z f)

-- something is left behind the last node
pub rest_fails : (inst : Tables) (cert : Certificate) (old new : Left) (fault : CertFault)
    → ReadsCertificate inst old cert new → IsMore new fault → Fails inst title old fault
rest_fails inst cert old new fault u more = fails_behind inst title (nodes (length cert.lists) []) old new
    (certificate_lines inst cert) fault u.passes (fails_past_end inst (nodes (length cert.lists) []) new fault tt more)
