-- Lines that lead from the first line to the end of the tree are those of a certificate in range.
use Rattle.std.proofs.Common.{◌≡◌, ℕ, zero, suc, ◌+◌, ◌-◌, ◌*◌, ◌<◌, ◌≤◌, refl, sym, ◌∙◌, ap, subst, arith, List, []}
use Rattle.std.proofs.Common.{◌∷◌, ◌++◌, length, map, get_or, None, append_assoc, Bool, false, cond, not, eqb}
use Rattle.std.specs.List.{AllByRecursion, flat_map, insert}
use Rattle.std.proofs.lemmas.Bool.Decides.{nat_tests}
use Rattle.std.proofs.lemmas.List.Elements.{All-from_recursion}
use Rattle.instance_model.specs.Tables.{Tables}
use Rattle.lagrange_bound.specs.declared.span.Span.{Span}
use Rattle.lagrange_bound.specs.declared.ex_price.ExPrice.{ExPrice}
use Rattle.lagrange_bound.specs.Prices.{PriceList, IsPriceList, IsExPrice, ExBefore}
use Rattle.lagrange_bound.specs.Changes.{with_up, with_lo, IsExSet}
use Rattle.lagrange_bound.specs.ExLists.{BelongsAt}
use Rattle.lagrange_bound.proofs.PriceLemmas.{up_in_range, lo_in_range}
use Rattle.lagrange_bound.proofs.ExSetLemmas.{price_at, ex_inserted}
use Rattle.certificate_lines.specs.declared.line.Version.TheVariants.{Two}
use Rattle.certificate_lines.specs.declared.line.Bound.{Bound}
use Rattle.certificate_lines.specs.declared.line.CertificateLine.{CertificateLine}
use Rattle.certificate_lines.specs.declared.line.CertificateLine.TheVariants as line
use Rattle.certificate_tree.specs.declared.node.Node.{Node}
use Rattle.certificate_tree.specs.Trees.{Tree, root_box, below, above}
use Rattle.certificate_tree.specs.Ranges.{AreNodesOf, IsBoundInRange}
use Rattle.certificate_text.specs.Text.{tree_lines}
use Rattle.certificate_text.specs.Grammar.{EntryKey, KeyBelow, up_key, lo_key, ex_key, bound, count, lists, nodes}
use Rattle.certificate_text.specs.Grammar.{Place, after, Stands, Fits, Leads, IsLimitPrice}
use Rattle.certificate_text.specs.Entries.{IsUpTo}
use Rattle.certificate_text.proofs.ExLemmas.{all_before}
use Rattle.certificate_text.proofs.GrowLemmas.{some_each, ex_above}
use Rattle.certificate_text.proofs.LedLemmas.{one_back, tree_led}
use Rattle.certificate_text.proofs.ReadCompleteLemmas.{ended}
use Rattle.refined_prices.specs.RefinedLists.{RefinedList, IsRefinedList}
use Rattle.refined_check.specs.declared.certificate.certificate.RefinedCertificate.{RefinedCertificate}
use Rattle.refined_check.specs.certificate.Orders.{IsInOrder}
use Rattle.refined_check.specs.certificate.Ranges.{IsRefinedInRange}
use Rattle.refined_text.specs.declared.lines.line.RefinedLine.{RefinedLine}
use Rattle.refined_text.specs.declared.lines.line.RefinedLine.TheVariants.{Title, Plain, Cap, Group}
use Rattle.refined_text.specs.declared.lines.line.RefinedLine.TheVariants as refined
use Rattle.refined_text.specs.text.Text.{refined_entry_lines, refined_list_lines, refined_certificate_lines}
use Rattle.refined_text.specs.grammar.Further.{Further, no_further, HasEnough, group_of, with_cap, with_group_of}
use Rattle.refined_text.specs.grammar.Further.{with_offset, with_clique, offset_of_line, clique_of_line}
use Rattle.refined_text.specs.grammar.Grammar.{start, within, RefinedLeads}
use Rattle.refined_text.specs.grammar.SoFar.{list_of}
use Rattle.refined_text.proofs.GrammarEntryLemmas.{lists_end}
use Rattle.refined_text.specs.read.Parts.{Part, no_part}
use Rattle.refined_text.specs.read.Taking.{among, IsPart, part_lines, TakesEntry}
use Rattle.refined_text.proofs.ReadTakeLemmas.{price_taken, cap_taken, group_taken, offset_taken, clique_taken}
use Rattle.refined_text.proofs.ReadPartLemmas.{nothing_so_far, no_lines}

-- ---- nodes

-- the lines are those of version 2, and lead there
record AreNodeLines (inst : Tables) (n m : ℕ) (boxes : List (List Span)) (lines : List RefinedLine) : Type 0 where
  plain : List CertificateLine
  is : map Plain plain ≡ lines
  leads : Leads inst (nodes n boxes) plain (nodes m [])

node_more : (inst : Tables) (n m : ℕ) (b : List Span) (bs : List (List Span)) (a : CertificateLine)
    (lines : List RefinedLine) (next : List (List Span)) → after inst (nodes n (b ∷ bs)) a ≡ nodes n next
    → Stands (nodes n (b ∷ bs)) a × Fits inst (nodes n (b ∷ bs)) a → AreNodeLines inst n m next lines
    → AreNodeLines inst n m (b ∷ bs) (Plain a ∷ lines)
node_more inst n m b bs a lines next e ok r = record {
  plain = a ∷ r.plain;
  is = ap (λ (ls : List RefinedLine). Plain a ∷ ls) r.is;
  leads = (
    ok.0,
    ok.1,
    subst (λ (p : Place). Leads inst p r.plain (nodes m [])) (sym e) r.leads,
  );
}

nodes_back : (inst : Tables) (n m : ℕ) (boxes : List (List Span)) (f g : Further) (lines : List RefinedLine)
    → RefinedLeads inst (within (nodes n boxes) f) lines (within (nodes m []) g) → AreNodeLines inst n m boxes lines
nodes_back inst n m boxes f g [] leads =
    let e : nodes n boxes ≡ nodes m [] = cc in record { plain = []; is = refl; leads = e }
nodes_back inst n m boxes f g (Title ∷ lines) leads = absurd leads.0
nodes_back inst n m [] f g (Plain a ∷ lines) leads = absurd (ended (nodes n []) a tt leads.0.1)
nodes_back inst n m (b ∷ bs) f g (Plain (line.Split i last) ∷ lines) leads =
    let next : List (List Span) = below b (i - 1) last ∷ above b (i - 1) last ∷ bs in
    node_more inst n m b bs (line.Split i last) lines next refl (leads.0.1, leads.1.0)
    (nodes_back inst n m next f g lines leads.2)
nodes_back inst n m (b ∷ bs) f g (Plain (line.Cost list) ∷ lines) leads =
    node_more inst n m b bs (line.Cost list) lines bs refl (leads.0.1, leads.1.0) (nodes_back inst n m bs f g lines
    leads.2)
nodes_back inst n m (b ∷ bs) f g (Plain line.Point ∷ lines) leads =
    node_more inst n m b bs line.Point lines bs refl (leads.0.1, leads.1.0) (nodes_back inst n m bs f g lines leads.2)
nodes_back inst n m (b ∷ bs) f g (Plain (line.Band c t side) ∷ lines) leads =
    node_more inst n m b bs (line.Band c t side) lines bs refl (leads.0.1, leads.1.0) (nodes_back inst n m bs f g lines
    leads.2)
nodes_back inst n m (b ∷ bs) f g (Plain (line.Excl e) ∷ lines) leads =
    node_more inst n m b bs (line.Excl e) lines bs refl (leads.0.1, leads.1.0) (nodes_back inst n m bs f g lines
    leads.2)
nodes_back inst n m (b ∷ bs) f g (Plain (line.Empty i) ∷ lines) leads =
    node_more inst n m b bs (line.Empty i) lines bs refl (leads.0.1, leads.1.0) (nodes_back inst n m bs f g lines
    leads.2)
nodes_back inst n m (b ∷ bs) f g (Plain _ ∷ lines) leads = absurd leads.0.1
nodes_back inst n m boxes f g (_ ∷ lines) leads = absurd leads.0.0

-- ---- price lists

-- the lines are those of this many price lists, and of a tree behind them
record AreLists (inst : Tables) (n left : ℕ) (lines : List RefinedLine) : Type 0 where
  read : List RefinedList
  each : length read ≡ left
  in_range : AllByRecursion (IsRefinedList inst) read
  in_order : AllByRecursion IsInOrder read
  nodes_of : List Node
  tree : (t : Tree) × AreNodesOf inst n (root_box inst) t nodes_of
  spelled : flat_map (refined_list_lines inst) read ++ map Plain (tree_lines nodes_of) ≡ lines

-- behind the entries of a price list so far, the lines are the further ones of a whole list, and those of others and a
-- tree
record AreEntries (inst : Tables) (n left : ℕ) (part : Part) (lines : List RefinedLine) : Type 0 where
  whole : RefinedList
  in_range : IsRefinedList inst whole
  in_order : IsInOrder whole
  rest : List RefinedLine
  behind : AreLists inst n left rest
  spelled : refined_entry_lines inst whole ++ rest ≡ part_lines inst part ++ lines

tree_begun : (inst : Tables) (m n left : ℕ) (g : Further) (lines : List RefinedLine) → left ≡ 0
    → RefinedLeads inst (within (nodes n (root_box inst ∷ [])) (no_further inst)) lines (within (nodes m []) g)
    → AreLists inst n left (Plain line.Tree ∷ lines)
tree_begun inst m n left g lines none leads =
    let plain = nodes_back inst n m (root_box inst ∷ []) (no_further inst) g lines leads in
    let a = tree_led inst m n (root_box inst) plain.plain plain.leads in
    record {
      read = [];
      each = sym none;
      in_range = tt;
      in_order = tt;
      nodes_of = a.nodes_of;
      tree = a.tree;
      spelled = ap (λ (ls : List CertificateLine). Plain line.Tree ∷ map Plain ls) a.spelled
          ∙ ap (λ (ls : List RefinedLine). Plain line.Tree ∷ ls) plain.is;
    }

list_begun : (inst : Tables) (n left : ℕ) (lines : List RefinedLine) → 0 < left
    → AreEntries inst n (left - 1) (no_part inst) lines → AreLists inst n left (Plain line.Prices ∷ lines)
list_begun inst n left lines some a = record {
  read = a.whole ∷ a.behind.read;
  each = let e = a.behind.each in omega (arith, e, some);
  in_range = (a.in_range, a.behind.in_range);
  in_order = (a.in_order, a.behind.in_order);
  nodes_of = a.behind.nodes_of;
  tree = a.behind.tree;
  spelled = ap (λ (ls : List RefinedLine). Plain line.Prices ∷ ls)
      (append_assoc (refined_entry_lines inst a.whole) (flat_map (refined_list_lines inst) a.behind.read)
      (map Plain (tree_lines a.behind.nodes_of))
      ∙ ap (λ (ls : List RefinedLine). refined_entry_lines inst a.whole ++ ls) a.behind.spelled
      ∙ a.spelled
      ∙ ap (λ (ls : List RefinedLine). ls ++ lines) (no_lines inst));
}

-- no further entry
none_more : (inst : Tables) (n left : ℕ) (part : Part) (lines : List RefinedLine) → IsPart inst part
    → HasEnough inst part.further.tails part.further.period → AreLists inst n left lines
    → AreEntries inst n left part lines
none_more inst n left part lines s enough r =
    let end = lists_end inst part.prices part.further part.last s enough in
    record {
      whole = list_of part.prices part.further;
      in_range = end.0;
      in_order = end.1;
      rest = lines;
      behind = r;
      spelled = refl;
    }

-- one entry more
one_more : (inst : Tables) (n left : ℕ) (old new : Part) (a : RefinedLine) (lines : List RefinedLine)
    → TakesEntry inst old new a → AreEntries inst n left new lines → AreEntries inst n left old (a ∷ lines)
one_more inst n left old new a lines t r = record {
  whole = r.whole;
  in_range = r.in_range;
  in_order = r.in_order;
  rest = r.rest;
  behind = r.behind;
  spelled = r.spelled ∙ ap (λ (ls : List RefinedLine). ls ++ lines) t.lines
      ∙ append_assoc (part_lines inst old) (a ∷ []) lines;
}

-- ---- prices on limits and exclusions

-- a list in which the price of an exclusion is set behind all others
record IsExMore (inst : Tables) (old : PriceList) (e t w : ℕ) : Type 0 where
  new : PriceList
  in_range : IsPriceList inst new
  sets : IsExSet old new e t w

ex_more : (inst : Tables) (prices : PriceList) (last : EntryKey) (e t w : ℕ) → IsPriceList inst prices
    → IsUpTo inst prices last → KeyBelow last (ex_key e t) → 1 ≤ e → IsExPrice inst (price_at (e - 1) t w)
    → IsExMore inst prices (e - 1) t w
ex_more inst prices last e t w ok upto next from fit =
    let x : ExPrice = price_at (e - 1) t w in
    let over : KeyBelow last (ex_key (e - 1 + 1) t) =
    subst (λ (k : ℕ). KeyBelow last (ex_key k t)) (sym (one_back e from)) next in
    let before = all_before x prices.ex (some_each inst prices.ex ok.ex)
    (λ z n. upto.ex z.exclusion z.period (ex_above last x z over n)) in
    let belongs : BelongsAt prices.ex (e - 1) t (length prices.ex) = record {
      within = omega arith;
      before = λ j d l. record { before = at_end x prices.ex before j d l };
      after = λ j d l h. absurd (omega (arith, l, h));
    } in
    let ex : List ExPrice = insert prices.ex (length prices.ex) x in
    let change = ex_inserted inst prices ex (e - 1) t w (length prices.ex) ok
    (record { number = fit.number; from = fit.from; to = fit.to; season = fit.season }) fit.small belongs
    (picked w ex prices.ex fit.some) in
    record { new = record prices { ex = ex }; in_range = change.in_range; sets = change.changed }
  where
    at_end : (x : ExPrice) (xs : List ExPrice) → AllByRecursion (λ y. ExBefore y x) xs → (j : ℕ) (d : ExPrice)
        → j < length xs → ExBefore (get_or xs j d) x
    at_end x [] h j d l = absurd (omega (arith, l))
    at_end x (y ∷ ys) h zero d l = h.0
    at_end x (y ∷ ys) h (suc j) d l = at_end x ys h.1 j d (omega (arith, l))

    picked : (w : ℕ) (xs ys : List ExPrice) → 1 ≤ w → xs ≡ cond (not (eqb w 0)) xs ys
    picked w xs ys some = let z : eqb w 0 ≡ false = grind (arith, nat_tests) in
        ap (λ (b : Bool). cond (not b) xs ys) (sym z)

module _ (inst : Tables) (part : Part) (s : IsPart inst part) (first : part.further.kind ≡ 0) where
  abbrev up_part : ℕ → ℕ → ℕ → Part
  up_part c t w = record part { prices = with_up inst part.prices (c - 1) t w; last = up_key c t }

  abbrev lo_part : ℕ → ℕ → ℕ → Part
  lo_part c t w = record part { prices = with_lo inst part.prices (c - 1) t w; last = lo_key c t }

  up_taken : (c t w : ℕ) → KeyBelow part.last (up_key c t) → IsLimitPrice inst c t w
      → TakesEntry inst part (up_part c t w) (Plain (line.Up c t w))
  up_taken c t w next fit = price_taken inst part (up_part c t w) (line.Up c t w) s tt (record {
    first = first;
    is_entry = refl;
    above = next;
    fits = fit;
    sets = refl;
    in_range = up_in_range inst part.prices ((c - 1) * inst.periods + (t - 1)) w s.prices fit.small;
    same = refl;
  })

  lo_taken : (c t w : ℕ) → KeyBelow part.last (lo_key c t) → IsLimitPrice inst c t w
      → TakesEntry inst part (lo_part c t w) (Plain (line.Lo c t w))
  lo_taken c t w next fit = price_taken inst part (lo_part c t w) (line.Lo c t w) s tt (record {
    first = first;
    is_entry = refl;
    above = next;
    fits = fit;
    sets = refl;
    in_range = lo_in_range inst part.prices ((c - 1) * inst.periods + (t - 1)) w s.prices fit.small;
    same = refl;
  })

  ex_taken : (e t w : ℕ) (x : IsExMore inst part.prices (e - 1) t w) → KeyBelow part.last (ex_key e t)
      → (1 ≤ e) × IsExPrice inst (price_at (e - 1) t w)
      → TakesEntry inst part (record part { prices = x.new; last = ex_key e t }) (Plain (line.Ex e t w))
  ex_taken e t w x next fit =
      price_taken inst part (record part { prices = x.new; last = ex_key e t }) (line.Ex e t w) s tt (record {
        first = first;
        is_entry = (refl, refl);
        above = next;
        fits = fit;
        sets = x.sets;
        in_range = x.in_range;
        same = refl;
      })

-- ---- entries

entries_led : (inst : Tables) (m n left : ℕ) (g : Further) (part : Part) (lines : List RefinedLine)
    → IsPart inst part → RefinedLeads inst (among n left part) lines (within (nodes m []) g)
    → AreEntries inst n left part lines
entries_led inst m n left g part [] s leads = absurd (let z : ⊥ = cc in z)
entries_led inst m n left g part (Title ∷ lines) s leads = absurd leads.0
entries_led inst m n left g part (Plain line.Prices ∷ lines) s leads =
    none_more inst n left part (Plain line.Prices ∷ lines) s leads.1.1
    (list_begun inst n left lines leads.0.1
    (entries_led inst m n (left - 1) g (no_part inst) lines (nothing_so_far inst) leads.2))
entries_led inst m n left g part (Plain line.Tree ∷ lines) s leads =
    none_more inst n left part (Plain line.Tree ∷ lines) s leads.1.1
    (tree_begun inst m n left g lines leads.0.1 leads.2)
entries_led inst m n left g part (Plain (line.Up c t w) ∷ lines) s leads =
    let taken = up_taken inst part s leads.0.2 c t w leads.0.1 leads.1.0 in
    one_more inst n left part (up_part inst part s leads.0.2 c t w) (Plain (line.Up c t w)) lines taken
    (entries_led inst m n left g (up_part inst part s leads.0.2 c t w) lines taken.so_far leads.2)
entries_led inst m n left g part (Plain (line.Lo c t w) ∷ lines) s leads =
    let taken = lo_taken inst part s leads.0.2 c t w leads.0.1 leads.1.0 in
    one_more inst n left part (lo_part inst part s leads.0.2 c t w) (Plain (line.Lo c t w)) lines taken
    (entries_led inst m n left g (lo_part inst part s leads.0.2 c t w) lines taken.so_far leads.2)
entries_led inst m n left g part (Plain (line.Ex e t w) ∷ lines) s leads =
    let x = ex_more inst part.prices part.last e t w s.prices s.up_to leads.0.1.1 leads.1.0.0 leads.1.0.1 in
    let taken = ex_taken inst part s leads.0.2 e t w x leads.0.1.1 leads.1.0 in
    one_more inst n left part (record part { prices = x.new; last = ex_key e t }) (Plain (line.Ex e t w)) lines taken
    (entries_led inst m n left g (record part { prices = x.new; last = ex_key e t }) lines taken.so_far leads.2)
entries_led inst m n left g part (Plain (line.Tail t weight places) ∷ lines) s leads = absurd leads.0.0
entries_led inst m n left g part (Plain _ ∷ lines) s leads = absurd leads.0.1
entries_led inst m n left g part (Cap ∷ lines) s leads =
    let new : Part = record part { further = with_cap part.further } in
    let taken = cap_taken inst part new s (record { first = leads.0.1; is = refl }) in
    one_more inst n left part new Cap lines taken (entries_led inst m n left g new lines taken.so_far leads.2)
entries_led inst m n left g part (Group t ms ∷ lines) s leads =
    let new : Part = record part { further = with_group_of part.further t (group_of ms) } in
    let taken = group_taken inst part new s t ms (record { next = leads.0.1; fits = leads.1; is = refl }) in
    one_more inst n left part new (Group t ms) lines taken (entries_led inst m n left g new lines taken.so_far leads.2)
entries_led inst m n left g part (refined.Offset t i k v ∷ lines) s leads =
    let new : Part = record part { further = with_offset part.further (offset_of_line t i k v) } in
    let taken = offset_taken inst part new s t i k v (record { next = leads.0.1; fits = leads.1; is = refl }) in
    one_more inst n left part new (refined.Offset t i k v) lines taken
    (entries_led inst m n left g new lines taken.so_far leads.2)
entries_led inst m n left g part (refined.Clique t v ms ∷ lines) s leads =
    let new : Part = record part { further = with_clique part.further (clique_of_line t v ms) } in
    let taken = clique_taken inst part new s t v ms (record { next = leads.0.1; fits = leads.1; is = refl }) in
    one_more inst n left part new (refined.Clique t v ms) lines taken
    (entries_led inst m n left g new lines taken.so_far leads.2)

-- ---- the first lines

lists_led : (inst : Tables) (m n left : ℕ) (g : Further) (lines : List RefinedLine)
    → RefinedLeads inst (within (lists Two n left None) (no_further inst)) lines (within (nodes m []) g)
    → AreLists inst n left lines
lists_led inst m n left g [] leads = absurd (let z : ⊥ = cc in z)
lists_led inst m n left g (Title ∷ lines) leads = absurd leads.0
lists_led inst m n left g (Plain line.Prices ∷ lines) leads = list_begun inst n left lines leads.0.1
    (entries_led inst m n (left - 1) g (no_part inst) lines (nothing_so_far inst) leads.2)
lists_led inst m n left g (Plain line.Tree ∷ lines) leads = tree_begun inst m n left g lines leads.0.1 leads.2
lists_led inst m n left g (Plain (line.Ex e t w) ∷ lines) leads = absurd leads.0.1.1
lists_led inst m n left g (Plain _ ∷ lines) leads = absurd leads.0.1
lists_led inst m n left g (_ ∷ lines) leads = absurd leads.0.0

-- the lines are those of a certificate
abbrev pub IsOfCertificate : Tables → List RefinedLine → Type 0
IsOfCertificate inst lines =
    (cert : RefinedCertificate) × IsRefinedInRange inst cert × (refined_certificate_lines inst cert ≡ lines)

whole : (inst : Tables) (b : Bound) (n : ℕ) (lines : List RefinedLine) → IsBoundInRange b → n ≤ 16
    → AreLists inst n n lines
    → IsOfCertificate inst (Title ∷ Plain (line.Bound b) ∷ Plain (line.Lists n) ∷ lines)
whole inst b n lines range few a = (
  record { bound = b; lists = a.read; nodes = a.nodes_of },
  record {
    bound = range;
    few = subst (λ (k : ℕ). k ≤ 16) (sym a.each) few;
    lists = All-from_recursion (IsRefinedList inst) a.read a.in_range;
    in_order = All-from_recursion IsInOrder a.read a.in_order;
    tree = subst (λ (k : ℕ). (t : Tree) × AreNodesOf inst k (root_box inst) t a.nodes_of) (sym a.each) a.tree;
  },
  ap (λ (k : ℕ). Title ∷ Plain (line.Bound b) ∷ Plain (line.Lists k)
      ∷ (flat_map (refined_list_lines inst) a.read ++ map Plain (tree_lines a.nodes_of))) a.each
      ∙ ap (λ (ls : List RefinedLine). Title ∷ Plain (line.Bound b) ∷ Plain (line.Lists n) ∷ ls) a.spelled,
)

count_led : (inst : Tables) (b : Bound) (m : ℕ) (g : Further) (lines : List RefinedLine) → IsBoundInRange b
    → RefinedLeads inst (within (count Two) (no_further inst)) lines (within (nodes m []) g)
    → IsOfCertificate inst (Title ∷ Plain (line.Bound b) ∷ lines)
count_led inst b m g [] range leads = absurd (let z : ⊥ = cc in z)
count_led inst b m g (Title ∷ lines) range leads = absurd leads.0
count_led inst b m g (Plain (line.Lists n) ∷ lines) range leads =
    whole inst b n lines range leads.1.0 (lists_led inst m n n g lines leads.2)
count_led inst b m g (Plain _ ∷ lines) range leads = absurd leads.0.1
count_led inst b m g (_ ∷ lines) range leads = absurd leads.0.0

bound_led : (inst : Tables) (m : ℕ) (g : Further) (lines : List RefinedLine)
    → RefinedLeads inst (within (bound Two) (no_further inst)) lines (within (nodes m []) g)
    → IsOfCertificate inst (Title ∷ lines)
bound_led inst m g [] leads = absurd (let z : ⊥ = cc in z)
bound_led inst m g (Title ∷ lines) leads = absurd leads.0
bound_led inst m g (Plain (line.Bound b) ∷ lines) leads = count_led inst b m g lines leads.1.0 leads.2
bound_led inst m g (Plain _ ∷ lines) leads = absurd leads.0.1
bound_led inst m g (_ ∷ lines) leads = absurd leads.0.0

pub lead_to_certificates : (inst : Tables) (lines : List RefinedLine) (m : ℕ) (g : Further)
    → RefinedLeads inst start lines (within (nodes m []) g) → IsOfCertificate inst lines
lead_to_certificates inst [] m g leads = absurd (let z : ⊥ = cc in z)
lead_to_certificates inst (Title ∷ lines) m g leads = bound_led inst m g lines leads.2
lead_to_certificates inst (_ ∷ lines) m g leads = absurd leads.0
