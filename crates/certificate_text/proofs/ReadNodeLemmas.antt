-- Nodes that are read one after another.
use Rattle.std.proofs.Common.{◌≡◌, Bool, false, IsTrue, ℕ, ◌+◌, ◌-◌, ◌<◌, refl, sym, ◌∙◌, ap, subst, arith, List, []}
use Rattle.std.proofs.Common.{◌∷◌, ◌++◌, length, map}
use Rattle.std.specs.List.{All}
use Rattle.std.proofs.lemmas.List.FromFn.{length-map-range_with_len}
use Rattle.std.proofs.lemmas.List.{length-set}
use Rattle.std.proofs.lemmas.Bool.{false≢true}
use Rattle.std.proofs.lemmas.List.Elements.{All-nil, All-cons, All-head, All-tail}
use Rattle.instance_model.specs.Tables.{Tables, tmax}
use Rattle.lagrange_bound.specs.declared.span.Span.{Span}
use Rattle.lagrange_bound.specs.Boxes.{span_of}
use Rattle.certificate_lines.specs.declared.line.CertificateLine.{CertificateLine}
use Rattle.certificate_tree.specs.declared.node.Node.{Node}
use Rattle.certificate_tree.specs.declared.node.Node.TheVariants.{Split, Cost, Point, Band, Excl, Empty}
use Rattle.certificate_tree.specs.Trees.{IsSplit, below, above, root_box}
use Rattle.certificate_tree.specs.Walk.{first_box}
use Rattle.certificate_text.specs.Text.{node_line}
use Rattle.certificate_text.specs.Grammar.{Place, nodes, Stands, Fits, after}
use Rattle.certificate_text.specs.declared.read.fault.CertFault.{CertFault}
use Rattle.certificate_text.specs.read.Lines.{Left}
use Rattle.certificate_text.specs.read.Reading.{ReadsLine, Passes, Fails, DividesBox, HasLeafNumbers, IsNodeOf}
use Rattle.certificate_text.specs.read.Reading.{boxes_after}
use Rattle.certificate_text.proofs.ReadStepLemmas.{passes_none, passes_more, passes_line, fails_behind}

less_one : (i : ℕ) → i + 1 - 1 ≡ i
less_one i = omega arith

pub node_stands : (m : ℕ) (b : List Span) (bs : List (List Span)) (node : Node)
    → Stands (nodes m (b ∷ bs)) (node_line node)
node_stands m b bs (Split i last) = tt
node_stands m b bs (Cost j) = tt
node_stands m b bs Point = tt
node_stands m b bs (Band c t side) = tt
node_stands m b bs (Excl e) = tt
node_stands m b bs (Empty i) = tt

pub node_fits : (inst : Tables) (m : ℕ) (b : List Span) (bs : List (List Span)) (node : Node) → DividesBox b node
    → HasLeafNumbers inst m node → Fits inst (nodes m (b ∷ bs)) (node_line node)
node_fits inst m b bs (Split i last) d h = (omega arith, subst (λ (k : ℕ). IsSplit b k last) (sym (less_one i)) d)
node_fits inst m b bs (Cost j) d h = h
node_fits inst m b bs Point d h = tt
node_fits inst m b bs (Band c t side) d h = (omega arith, omega (arith, h.0), h.1, h.2)
node_fits inst m b bs (Excl e) d h = (omega arith, omega (arith, h))
node_fits inst m b bs (Empty i) d h = (omega arith, omega (arith, h))

pub after_node : (inst : Tables) (m : ℕ) (b : List Span) (bs : List (List Span)) (node : Node)
    → after inst (nodes m (b ∷ bs)) (node_line node) ≡ nodes m (boxes_after node (b ∷ bs))
after_node inst m b bs (Split i last) = ap (λ (k : ℕ). nodes m (below b k last ∷ above b k last ∷ bs)) (less_one i)
after_node inst m b bs (Cost j) = refl
after_node inst m b bs Point = refl
after_node inst m b bs (Band c t side) = refl
after_node inst m b bs (Excl e) = refl
after_node inst m b bs (Empty i) = refl

-- nodes were read from the box of all starts on, and boxes wait
pub record ReadsNodes (inst : Tables) (lists : ℕ) (old : Left) (read : List Node) (boxes : List (List Span))
    (new : Left) : Type 0 where
  pub passes : Passes inst (nodes lists (root_box inst ∷ [])) old (map node_line read) (nodes lists boxes) new
  pub each : All (λ box. length box ≡ length inst.names) boxes

abbrev pub IsWide : Tables → List Span → Type 0
IsWide inst box = length box ≡ length inst.names

pub nodes_none : (inst : Tables) (lists : ℕ) (left : Left) → ReadsNodes inst lists left [] (root_box inst ∷ []) left
nodes_none inst lists left = record {
  passes = passes_none inst (nodes lists (root_box inst ∷ [])) left;
  each = All-cons (IsWide inst) (root_box inst) []
      (length-map-range_with_len {X = Span} (λ i. record { from = 1; to = tmax inst i }) 0 (length inst.names))
      (All-nil (IsWide inst));
}

wide_after : (inst : Tables) (b : List Span) (bs : List (List Span)) (node : Node) → IsWide inst b
    → All (IsWide inst) bs → All (IsWide inst) (boxes_after node (b ∷ bs))
wide_after inst b bs (Split i last) w ws = All-cons (IsWide inst) (below b i last) (above b i last ∷ bs)
    (length-set b i (record { from = (span_of b i).from; to = last }) ∙ w)
    (All-cons (IsWide inst) (above b i last) bs (length-set b i (record { from = last + 1; to = (span_of b i).to }) ∙ w)
    ws)
wide_after inst b bs (Cost j) w ws = ws
wide_after inst b bs Point w ws = ws
wide_after inst b bs (Band c t side) w ws = ws
wide_after inst b bs (Excl e) w ws = ws
wide_after inst b bs (Empty i) w ws = ws

map-push : (xs : List Node) (x : Node) → map node_line (xs ++ x ∷ []) ≡ map node_line xs ++ node_line x ∷ []
map-push [] x = refl
map-push (y ∷ ys) x = ap (λ (ls : List CertificateLine). node_line y ∷ ls) (map-push ys x)

pub nodes_more : (inst : Tables) (lists : ℕ) (old now new : Left) (read : List Node) (boxes : List (List Span))
    (node : Node) → ReadsNodes inst lists old read boxes now → 0 < length boxes → ReadsLine now new (node_line node)
    → IsNodeOf inst lists (first_box boxes) (node_line node) node
    → ReadsNodes inst lists old (read ++ node ∷ []) (boxes_after node boxes) new
nodes_more inst lists old now new read [] node u some r f = absurd (omega (arith, some))
nodes_more inst lists old now new read (b ∷ bs) node u some r f =
    let one = passes_line inst (nodes lists (b ∷ bs)) now new (node_line node) r (node_stands lists b bs node)
    (node_fits inst lists b bs node f.divides f.numbers) in
    let to = subst (λ (p : Place). Passes inst (nodes lists (b ∷ bs)) now (node_line node ∷ []) p new)
    (after_node inst lists b bs node) one in
    let all = passes_more inst (nodes lists (root_box inst ∷ [])) (nodes lists (b ∷ bs))
    (nodes lists (boxes_after node (b ∷ bs))) old now new (map node_line read) (node_line node ∷ []) u.passes to in
    record {
      passes = subst (λ (ls : List CertificateLine). Passes inst (nodes lists (root_box inst ∷ [])) old ls
          (nodes lists (boxes_after node (b ∷ bs))) new) (sym (map-push read node)) all;
      each = wide_after inst b bs node (All-head (IsWide inst) b bs u.each) (All-tail (IsWide inst) b bs u.each);
    }

pub node_fails : (inst : Tables) (lists : ℕ) (old now : Left) (read : List Node) (boxes : List (List Span))
    (fault : CertFault) → ReadsNodes inst lists old read boxes now → 0 < length boxes
    → ((bs : List (List Span)) → Fails inst (nodes lists (first_box boxes ∷ bs)) now fault)
    → Fails inst (nodes lists (root_box inst ∷ [])) old fault
node_fails inst lists old now read [] fault u some f = absurd (omega (arith, some))
node_fails inst lists old now read (b ∷ bs) fault u some f = fails_behind inst (nodes lists (root_box inst ∷ []))
    (nodes lists (b ∷ bs)) old now (map node_line read) fault u.passes (f bs)

pub nodes_end : (inst : Tables) (lists : ℕ) (old new : Left) (read : List Node) (boxes : List (List Span))
    → ReadsNodes inst lists old read boxes new → length boxes ≡ 0
    → Passes inst (nodes lists (root_box inst ∷ [])) old (map node_line read) (nodes lists []) new
nodes_end inst lists old new read [] u none = u.passes
nodes_end inst lists old new read (b ∷ bs) u none = absurd (omega (arith, none))

pub first_wide : (inst : Tables) (boxes : List (List Span)) → 0 < length boxes → All (IsWide inst) boxes
    → length (first_box boxes) ≡ length inst.names
first_wide inst [] some w = absurd (omega (arith, some))
first_wide inst (b ∷ bs) some w = All-head (IsWide inst) b bs w

-- a walk that hasn't ended has a box
pub some_box : (ended : Bool) (boxes : List (List Span)) → (IsTrue ended → length boxes ≡ 0)
    × (length boxes ≡ 0 → IsTrue ended) → ended ≡ false → 0 < length boxes
some_box ended [] w e = absurd (false≢true (sym e ∙ w.1 refl))
some_box ended (b ∷ bs) w e = omega arith
