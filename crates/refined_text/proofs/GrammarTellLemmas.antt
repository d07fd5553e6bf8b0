-- The lines, and the text, of a certificate tell it.
use Rattle.std.proofs.Common.{◌≡◌, ◌≢◌, ℕ, ◌+◌, ◌<◌, refl, sym, ◌∙◌, ap, subst, arith, Bool, true, false, List, [], ◌∷◌}
use Rattle.std.proofs.Common.{◌++◌, length, map, append_assoc, Option, Some, None}
use Rattle.std.specs.List.{All, AllByRecursion, flat_map}
use Rattle.std.proofs.lemmas.List.{length-append, append-nil}
use Rattle.std.proofs.lemmas.List.Elements.{recursion_from_All}
use Rattle.instance_model.specs.Tables.{Tables}
use Rattle.instance_model.specs.Fitting.{IsFitting}
use Rattle.refined_prices.specs.declared.member.Member.{Member}
use Rattle.refined_prices.specs.declared.group_tail.GroupTail.{GroupTail}
use Rattle.refined_prices.specs.declared.offset.Offset.{Offset}
use Rattle.refined_prices.specs.declared.clique.Clique.{Clique}
use Rattle.refined_prices.specs.RefinedLists.{RefinedList, IsRefinedList}
use Rattle.certificate_lines.specs.declared.line.Version.TheVariants.{Two}
use Rattle.certificate_lines.specs.declared.line.CertificateLine.{CertificateLine}
use Rattle.certificate_lines.specs.declared.line.CertificateLine.TheVariants as line
use Rattle.certificate_tree.specs.declared.node.Node.{Node}
use Rattle.certificate_text.specs.Text.{entry_lines, node_line, tree_lines}
use Rattle.certificate_text.specs.Grammar.{Place, lists, before_entries}
use Rattle.certificate_text.proofs.CutLemmas.{feed_one_way}
use Rattle.certificate_text.proofs.SplitLemmas.{BeginsOut, split_one_way}
use Rattle.certificate_text.proofs.TellLemmas.{each_append, begins_out, prices_tell, nodes_tell}
use Rattle.refined_check.specs.certificate.Orders.{IsInOrder}
use Rattle.refined_text.specs.declared.lines.members.LineMember.{LineMember}
use Rattle.refined_text.specs.declared.lines.line.RefinedLine.{RefinedLine}
use Rattle.refined_text.specs.declared.lines.line.RefinedLine.TheVariants.{Title, Plain, Cap, Group}
use Rattle.refined_text.specs.declared.lines.line.RefinedLine.TheVariants as refined
use Rattle.refined_text.specs.lines.Spelling.{refined_spelling, IsRefinedLine}
use Rattle.refined_text.specs.text.Text.{line_member, group_line, group_lines, cap_lines, offset_line, clique_line}
use Rattle.refined_text.specs.text.Text.{further_lines}
use Rattle.refined_text.specs.text.Text.{refined_entry_lines, refined_list_lines, refined_line_text, text_of_refined}
use Rattle.refined_text.specs.grammar.Further.{Further, no_further}
use Rattle.refined_text.specs.grammar.Grammar.{RefinedPlace, start, within}
use Rattle.refined_text.specs.grammar.Laws.{RefinedLinesTell}
use Rattle.refined_text.proofs.GrammarPlaceLemmas.{goes_once, IsInside}
use Rattle.refined_text.proofs.GrammarLeadLemmas.{read_so_far, Goes, further_goes, inside_entries}

-- ---- kinds of lines

-- a line that version 2 has too
abbrev IsPlainLine : RefinedLine → Type 0
IsPlainLine (Plain a) = Unit {0}
IsPlainLine _ = ⊥

-- an entry of a price list
abbrev IsListLine : RefinedLine → Type 0
IsListLine Title = ⊥
IsListLine (Plain a) = IsInside a
IsListLine _ = Unit {0}

-- ---- lines of a list

plain_each : (P : RefinedLine → Type 0) (ls : List CertificateLine) → AllByRecursion (λ a. P (Plain a)) ls
    → AllByRecursion P (map Plain ls)
plain_each P [] h = tt
plain_each P (a ∷ ls) h = (h.0, plain_each P ls h.1)

module _ (P : RefinedLine → Type 0) (cap : P Cap) (group : (t : ℕ) (ms : List LineMember) → P (Group t ms))
    (offset : (t i g v : ℕ) → P (refined.Offset t i g v)) (clique : (t v : ℕ) (ms : List ℕ) → P (refined.Clique t v ms))
  where
    caps_each : (b : Bool) → AllByRecursion P (cap_lines b)
    caps_each true = (cap, tt)
    caps_each false = tt

    some_groups : (t : ℕ) (gs : List (List Member)) → AllByRecursion P (map (group_line t) gs)
    some_groups t [] = tt
    some_groups t (g ∷ gs) = (group t (map line_member g), some_groups t gs)

    groups_each : (t : ℕ) (tails : List (Option GroupTail)) → AllByRecursion P (group_lines t tails)
    unfolding group_lines
    groups_each t [] = tt
    groups_each t (None ∷ tails) = groups_each (t + 1) tails
    groups_each t (Some tail ∷ tails) =
        each_append P (map (group_line t) tail.groups) (group_lines (t + 1) tails) (some_groups t tail.groups)
        (groups_each (t + 1) tails)

    offsets_each : (xs : List Offset) → AllByRecursion P (map offset_line xs)
    offsets_each [] = tt
    offsets_each (x ∷ xs) = (offset x.period (x.intervention + 1) (x.group + 1) x.value, offsets_each xs)

    cliques_each : (xs : List Clique) → AllByRecursion P (map clique_line xs)
    cliques_each [] = tt
    cliques_each (x ∷ xs) = (clique x.period x.value (map (λ i. i + 1) x.members), cliques_each xs)

    pub further_each : (list : RefinedList) → AllByRecursion P (further_lines list)
    further_each list =
        each_append P (cap_lines list.capped) _ (caps_each list.capped)
        (each_append P (group_lines 1 list.tails) _ (groups_each 1 list.tails)
        (each_append P (map offset_line list.offsets) _ (offsets_each list.offsets) (cliques_each list.cliques)))

-- ---- a list

plain_of : RefinedLine → CertificateLine
plain_of (Plain a) = a
plain_of _ = line.Prices

plains_again : (ls : List CertificateLine) → map plain_of (map Plain ls) ≡ ls
unfolding plain_of
plains_again [] = refl
plains_again (a ∷ ls) = ap (λ (bs : List CertificateLine). a ∷ bs) (plains_again ls)

plains_tell : (ls ms : List CertificateLine) → map Plain ls ≡ map Plain ms → ls ≡ ms
plains_tell ls ms e = sym (plains_again ls) ∙ ap (map plain_of) e ∙ plains_again ms

further_in : RefinedPlace → Further → Further
further_in start f = f
further_in (within place further) f = further

within_once : (place : Place) (f g : Further) → within place f ≡ within place g → f ≡ g
unfolding further_in
within_once place f g e = ap (λ (p : RefinedPlace). further_in p f) e

module _ (inst : Tables) (fits : IsFitting inst) where
  -- what a list has besides is told by its lines
  further_tell : (a b : RefinedList) → IsRefinedList inst a → IsRefinedList inst b → IsInOrder a → IsInOrder b
      → further_lines a ≡ further_lines b
      → (k : ℕ) × (p : ℕ) × (l : ℕ) × (q : ℕ) × (read_so_far k p a.capped a.tails a.offsets a.cliques
      ≡ read_so_far l q b.capped b.tails b.offsets b.cliques)
  further_tell a b h g x y e =
      let place : Place = lists Two 0 0 (Some before_entries) in
      let one = further_goes inst place tt fits a h x in
      let two = further_goes inst place tt fits b g y in
      let end : Further = read_so_far one.kind one.period a.capped a.tails a.offsets a.cliques in
      let other : Further = read_so_far two.kind two.period b.capped b.tails b.offsets b.cliques in
      let same = subst (λ (ls : List RefinedLine). Goes inst place tt (no_further inst) ls end) e one.goes in (
        one.kind,
        one.period,
        two.kind,
        two.period,
        within_once place end other
            (goes_once inst (within place (no_further inst)) (within place end) (within place other) (further_lines b)
            same two.goes),
      )

  -- the lines of its entries tell a list
  entries_tell : (a b : RefinedList) → IsRefinedList inst a → IsRefinedList inst b → IsInOrder a → IsInOrder b
      → refined_entry_lines inst a ≡ refined_entry_lines inst b → a ≡ b
  entries_tell a b h g x y e =
      let parts = split_one_way IsPlainLine (map Plain (entry_lines inst a.prices))
      (map Plain (entry_lines inst b.prices)) (further_lines a) (further_lines b)
      (plain_each IsPlainLine (entry_lines inst a.prices) (all (entry_lines inst a.prices)))
      (plain_each IsPlainLine (entry_lines inst b.prices) (all (entry_lines inst b.prices)))
      (begins_out IsPlainLine (further_lines a) (others a)) (begins_out IsPlainLine (further_lines b) (others b)) e in
      let prices = prices_tell inst a.prices b.prices h.prices g.prices
      (plains_tell (entry_lines inst a.prices) (entry_lines inst b.prices) parts.0) in
      let more = further_tell a b h g x y parts.1 in
      let same = more.4 in
      let capped = ap (λ (f : Further). f.capped) same in
      let tails = ap (λ (f : Further). f.tails) same in
      let offsets = ap (λ (f : Further). f.offsets) same in
      let cliques = ap (λ (f : Further). f.cliques) same in
      λ j. record {
        prices = prices j;
        capped = capped j;
        tails = tails j;
        offsets = offsets j;
        cliques = cliques j;
      }
    where
      all : (ls : List CertificateLine) → AllByRecursion (λ l. IsPlainLine (Plain l)) ls
      all [] = tt
      all (l ∷ ls) = (tt, all ls)

      others : (c : RefinedList) → AllByRecursion (λ l. IsPlainLine l → ⊥) (further_lines c)
      others c = further_each (λ l. IsPlainLine l → ⊥) (λ z. z) (λ t ms z. z) (λ t i g v z. z) (λ t v ms z. z) c

  list_each : (a : RefinedList) → IsRefinedList inst a → AllByRecursion IsListLine (refined_entry_lines inst a)
  list_each a h =
      each_append IsListLine (map Plain (entry_lines inst a.prices)) (further_lines a)
      (plain_each IsListLine (entry_lines inst a.prices) (inside_entries inst a.prices h.no_tails))
      (further_each IsListLine tt (λ t ms. tt) (λ t i g v. tt) (λ t v ms. tt) a)

  -- what follows the entries of a list isn't an entry
  after_list : (ls : List RefinedList) (ns : List Node)
      → BeginsOut IsListLine (flat_map (refined_list_lines inst) ls ++ map Plain (tree_lines ns))
  after_list [] ns = λ h. h
  after_list (l ∷ ls) ns = λ h. h

  pub refined_lists_tell : (ls ms : List RefinedList) (ns os : List Node) → AllByRecursion (IsRefinedList inst) ls
      → AllByRecursion (IsRefinedList inst) ms → AllByRecursion IsInOrder ls → AllByRecursion IsInOrder ms
      → flat_map (refined_list_lines inst) ls ++ map Plain (tree_lines ns)
      ≡ flat_map (refined_list_lines inst) ms ++ map Plain (tree_lines os)
      → (ls ≡ ms) × (map Plain (tree_lines ns) ≡ map Plain (tree_lines os))
  refined_lists_tell [] [] ns os h g x y e = (refl, e)
  refined_lists_tell [] (m ∷ ms) ns os h g x y e = absurd (let z : ⊥ = cc in z)
  refined_lists_tell (l ∷ ls) [] ns os h g x y e = absurd (let z : ⊥ = cc in z)
  refined_lists_tell (l ∷ ls) (m ∷ ms) ns os h g x y e =
      let rest : (refined_entry_lines inst l ++ flat_map (refined_list_lines inst) ls) ++ map Plain (tree_lines ns)
      ≡ (refined_entry_lines inst m ++ flat_map (refined_list_lines inst) ms) ++ map Plain (tree_lines os) = cc in
      let parts : refined_entry_lines inst l ++ (flat_map (refined_list_lines inst) ls ++ map Plain (tree_lines ns))
      ≡ refined_entry_lines inst m ++ (flat_map (refined_list_lines inst) ms ++ map Plain (tree_lines os)) =
      sym (append_assoc (refined_entry_lines inst l) (flat_map (refined_list_lines inst) ls)
      (map Plain (tree_lines ns)))
      ∙ rest
      ∙ append_assoc (refined_entry_lines inst m) (flat_map (refined_list_lines inst) ms)
      (map Plain (tree_lines os)) in
      let w = split_one_way IsListLine (refined_entry_lines inst l) (refined_entry_lines inst m)
      (flat_map (refined_list_lines inst) ls ++ map Plain (tree_lines ns))
      (flat_map (refined_list_lines inst) ms ++ map Plain (tree_lines os)) (list_each l h.0) (list_each m g.0)
      (after_list ls ns) (after_list ms os) parts in
      let v = refined_lists_tell ls ms ns os h.1 g.1 x.1 y.1 w.1 in (
        ap (λ (z : RefinedList). z ∷ ls) (entries_tell l m h.0 g.0 x.0 y.0 w.0)
            ∙ ap (λ (zs : List RefinedList). m ∷ zs) v.0,
        v.1,
      )

-- ---- certificates

pub refined_lines_tell : RefinedLinesTell
unfolding plain_of
refined_lines_tell inst cert other fits a b e =
    let first : Plain (line.Bound cert.bound) ≡ Plain (line.Bound other.bound) = cc in
    let second : line.Bound cert.bound ≡ line.Bound other.bound = ap plain_of first in
    let bound : cert.bound ≡ other.bound = cc in
    let rest : flat_map (refined_list_lines inst) cert.lists ++ map Plain (tree_lines cert.nodes)
    ≡ flat_map (refined_list_lines inst) other.lists ++ map Plain (tree_lines other.nodes) = cc in
    let w = refined_lists_tell inst fits cert.lists other.lists cert.nodes other.nodes
    (recursion_from_All (IsRefinedList inst) cert.lists a.lists)
    (recursion_from_All (IsRefinedList inst) other.lists b.lists)
    (recursion_from_All IsInOrder cert.lists a.in_order) (recursion_from_All IsInOrder other.lists b.in_order) rest in
    let tree : tree_lines cert.nodes ≡ tree_lines other.nodes =
    plains_tell (tree_lines cert.nodes) (tree_lines other.nodes) w.1 in
    let behind : map node_line cert.nodes ≡ map node_line other.nodes = cc in
    let nodes = nodes_tell cert.nodes other.nodes behind in
    let lists = w.0 in
    λ j. record { bound = bound j; lists = lists j; nodes = nodes j }

-- ---- texts

-- what the crate of lines says of them
abbrev pub OneRefined : Type 0
OneRefined = (line other : RefinedLine) → IsRefinedLine line → IsRefinedLine other
    → refined_spelling line ≡ refined_spelling other → line ≡ other

abbrev pub NoFeed : Type 0
NoFeed = (line : RefinedLine) → IsRefinedLine line → All (λ b. b ≢ 10) (refined_spelling line)

-- the first line of a text, and what follows it
pub refined_begins : (a : RefinedLine) (ls : List RefinedLine) (rest : List ℕ)
    → text_of_refined (a ∷ ls) ++ rest ≡ refined_spelling a ++ 10 ∷ (text_of_refined ls ++ rest)
refined_begins a ls rest = append_assoc (refined_line_text a) (text_of_refined ls) rest
    ∙ append_assoc (refined_spelling a) (10 ∷ []) (text_of_refined ls ++ rest)

module _ (one : OneRefined) (no_feed : NoFeed) where
  some_text : (a : RefinedLine) (ls : List RefinedLine) → 0 < length (text_of_refined (a ∷ ls))
  some_text a ls = let m = length-append (refined_line_text a) (text_of_refined ls) in
      let n = length-append (refined_spelling a) (10 ∷ []) in omega (arith, m, n)

  pub refined_spelled_one_way : (ls ms : List RefinedLine) → AllByRecursion IsRefinedLine ls
      → AllByRecursion IsRefinedLine ms → text_of_refined ls ≡ text_of_refined ms → ls ≡ ms
  refined_spelled_one_way [] [] a b e = refl
  refined_spelled_one_way [] (o ∷ os) a b e = absurd (let m = some_text o os in
      let f = ap (λ (xs : List ℕ). length xs) e in omega (arith, m, f))
  refined_spelled_one_way (x ∷ xs) [] a b e = absurd (let m = some_text x xs in
      let f = ap (λ (zs : List ℕ). length zs) e in omega (arith, m, f))
  refined_spelled_one_way (x ∷ xs) (o ∷ os) a b e =
      let w = feed_one_way (refined_spelling x) (refined_spelling o) (text_of_refined xs ++ [])
      (text_of_refined os ++ []) (no_feed x a.0) (no_feed o b.0)
      (sym (refined_begins x xs []) ∙ ap (λ (zs : List ℕ). zs ++ []) e ∙ refined_begins o os []) in
      let same = one x o a.0 b.0 w.0 in
      let v = refined_spelled_one_way xs os a.1 b.1
      (sym (append-nil (text_of_refined xs)) ∙ w.1 ∙ append-nil (text_of_refined os)) in
      ap (λ (z : RefinedLine). z ∷ xs) same ∙ ap (λ (zs : List RefinedLine). o ∷ zs) v
