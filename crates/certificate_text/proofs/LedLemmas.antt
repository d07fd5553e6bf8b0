-- Lines that lead to the end of the tree are those of a certificate.
use Rattle.std.proofs.Common.{◌≡◌, ℕ, zero, suc, ◌+◌, ◌-◌, ◌*◌, ◌<◌, ◌≤◌, refl, sym, ◌∙◌, ap, subst, arith, List, []}
use Rattle.std.proofs.Common.{◌∷◌, ◌++◌, length, map, get_or, Some, None, append_assoc, Bool, false, cond, not, eqb}
use Rattle.std.specs.List.{AllByRecursion, flat_map, insert}
use Rattle.std.proofs.lemmas.Bool.Decides.{nat_tests}
use Rattle.std.proofs.lemmas.List.Elements.{All-from_recursion}
use Rattle.instance_model.specs.Tables.{Tables}
use Rattle.lagrange_bound.specs.declared.span.Span.{Span}
use Rattle.lagrange_bound.specs.declared.tail.Tail.{Tail}
use Rattle.lagrange_bound.specs.declared.ex_price.ExPrice.{ExPrice}
use Rattle.lagrange_bound.specs.Prices.{PriceList, IsPriceList, IsTail, IsExPrice, ExBefore, zero_list}
use Rattle.lagrange_bound.specs.Changes.{with_up, with_lo, with_tail, IsBandPlace}
use Rattle.lagrange_bound.specs.ExLists.{BelongsAt}
use Rattle.lagrange_bound.proofs.PriceLemmas.{zero_in_range, up_in_range, lo_in_range, tail_in_range}
use Rattle.lagrange_bound.proofs.ExSetLemmas.{price_at, ex_inserted}
use Rattle.certificate_lines.specs.declared.line.Version.{Version}
use Rattle.certificate_lines.specs.declared.line.Version.TheVariants.{One, Two}
use Rattle.certificate_lines.specs.declared.line.Bound.{Bound}
use Rattle.certificate_lines.specs.declared.line.CertificateLine.{CertificateLine}
use Rattle.certificate_lines.specs.declared.line.CertificateLine.TheVariants as line
use Rattle.certificate_tree.specs.declared.node.Node.{Node}
use Rattle.certificate_tree.specs.declared.node.Node.TheVariants as node
use Rattle.certificate_tree.specs.declared.certificate.Certificate.{Certificate}
use Rattle.certificate_tree.specs.Trees.{Tree, leaf, split, pre_order, root_box, below, above, IsSplit}
use Rattle.certificate_tree.specs.Ranges.{IsTreeInRange, IsLeafInRange, AreNodesOf, HasPricesOf, IsBoundInRange}
use Rattle.certificate_tree.specs.Ranges.{IsInRange}
use Rattle.certificate_text.specs.Text.{entry_lines, list_lines, node_line, tree_lines, certificate_lines}
use Rattle.certificate_text.specs.Grammar.{EntryKey, KeyBelow, up_key, lo_key, tail_key, ex_key, before_entries, bound}
use Rattle.certificate_text.specs.Grammar.{count, lists, nodes, Stands, IsLimitPrice, Leads}
use Rattle.certificate_text.specs.Entries.{IsUpTo}
use Rattle.certificate_text.specs.Laws.{Grows, LeadToCertificates}
use Rattle.certificate_text.proofs.ExLemmas.{all_before}
use Rattle.certificate_text.proofs.GrowLemmas.{some_each, ex_above, up_grows, lo_grows, tail_grows, ex_grows}
use Rattle.certificate_text.proofs.GrowLemmas.{zero_has_none, zero_up_to}

pub one_back : (i : ℕ) → 1 ≤ i → i - 1 + 1 ≡ i
one_back i h = omega (arith, h)

-- ---- nodes
-- a tree over each box
abbrev Forest : Tables → ℕ → List (List Span) → List Tree → Type 0
Forest inst n [] [] = Unit {0}
Forest inst n [] (t ∷ ts) = ⊥
Forest inst n (b ∷ bs) [] = ⊥
Forest inst n (b ∷ bs) (t ∷ ts) = IsTreeInRange inst n b t × Forest inst n bs ts

-- the nodes of all
abbrev orders : List Tree → List Node
orders [] = []
orders (t ∷ ts) = pre_order t ++ orders ts

-- the lines are those of a tree over each box
record AreNodes (inst : Tables) (n : ℕ) (boxes : List (List Span)) (lines : List CertificateLine) : Type 0 where
  trees : List Tree
  in_range : Forest inst n boxes trees
  spelled : map node_line (orders trees) ≡ lines

leaf_led : (inst : Tables) (n : ℕ) (b : List Span) (bs : List (List Span)) (of : Node) (a : CertificateLine)
    (lines : List CertificateLine) → node_line of ≡ a → IsLeafInRange inst n of → AreNodes inst n bs lines
    → AreNodes inst n (b ∷ bs) (a ∷ lines)
leaf_led inst n b bs (node.Split i k) a lines e h r = absurd h
leaf_led inst n b bs (node.Cost j) a lines e h r =
    record {
      trees = leaf (node.Cost j) ∷ r.trees;
      in_range = (h, r.in_range);
      spelled =
          ap (λ (x : CertificateLine). x ∷ map node_line (orders r.trees)) e
          ∙ ap (λ (ls : List CertificateLine). a ∷ ls) r.spelled;
    }
leaf_led inst n b bs node.Point a lines e h r =
    record {
      trees = leaf node.Point ∷ r.trees;
      in_range = (h, r.in_range);
      spelled =
          ap (λ (x : CertificateLine). x ∷ map node_line (orders r.trees)) e
          ∙ ap (λ (ls : List CertificateLine). a ∷ ls) r.spelled;
    }
leaf_led inst n b bs (node.Band c t s) a lines e h r =
    record {
      trees = leaf (node.Band c t s) ∷ r.trees;
      in_range = (h, r.in_range);
      spelled =
          ap (λ (x : CertificateLine). x ∷ map node_line (orders r.trees)) e
          ∙ ap (λ (ls : List CertificateLine). a ∷ ls) r.spelled;
    }
leaf_led inst n b bs (node.Excl x) a lines e h r =
    record {
      trees = leaf (node.Excl x) ∷ r.trees;
      in_range = (h, r.in_range);
      spelled =
          ap (λ (x : CertificateLine). x ∷ map node_line (orders r.trees)) e
          ∙ ap (λ (ls : List CertificateLine). a ∷ ls) r.spelled;
    }
leaf_led inst n b bs (node.Empty i) a lines e h r =
    record {
      trees = leaf (node.Empty i) ∷ r.trees;
      in_range = (h, r.in_range);
      spelled =
          ap (λ (x : CertificateLine). x ∷ map node_line (orders r.trees)) e
          ∙ ap (λ (ls : List CertificateLine). a ∷ ls) r.spelled;
    }

split_led : (inst : Tables) (n : ℕ) (b : List Span) (bs : List (List Span)) (i k : ℕ) (lines : List CertificateLine)
    → 1 ≤ i → IsSplit b (i - 1) k → AreNodes inst n (below b (i - 1) k ∷ above b (i - 1) k ∷ bs) lines
    → AreNodes inst n (b ∷ bs) (line.Split i k ∷ lines)
split_led inst n b bs i k lines from divides parts = at parts.trees parts.in_range parts.spelled
  where
    at : (ts : List Tree) → Forest inst n (below b (i - 1) k ∷ above b (i - 1) k ∷ bs) ts
        → map node_line (orders ts) ≡ lines → AreNodes inst n (b ∷ bs) (line.Split i k ∷ lines)
    at [] f e = absurd f
    at (l ∷ []) f e = absurd f.1
    at (l ∷ r ∷ ts) f e = record {
      trees = split (i - 1) k l r ∷ ts;
      in_range = ((divides, f.0, f.1.0), f.1.1);
      spelled =
          ap (λ (j : ℕ). line.Split j k ∷ map node_line ((pre_order l ++ pre_order r) ++ orders ts)) (one_back i from)
          ∙ ap (λ (ns : List Node). line.Split i k ∷ map node_line ns)
          (append_assoc (pre_order l) (pre_order r) (orders ts))
          ∙ ap (λ (ls : List CertificateLine). line.Split i k ∷ ls) e;
    }

no_box : (n : ℕ) (a : CertificateLine) → Stands (nodes n []) a → ⊥
no_box n (line.Title version) s = s
no_box n (line.Bound least) s = s
no_box n (line.Lists total) s = s
no_box n line.Prices s = s
no_box n (line.Up c t w) s = s
no_box n (line.Lo c t w) s = s
no_box n (line.Tail t weight places) s = s
no_box n (line.Ex e t w) s = s
no_box n line.Tree s = s
no_box n (line.Split i k) s = s
no_box n (line.Cost j) s = s
no_box n line.Point s = s
no_box n (line.Band c t side) s = s
no_box n (line.Excl e) s = s
no_box n (line.Empty i) s = s

nodes_led : (inst : Tables) (m n : ℕ) (boxes : List (List Span)) (lines : List CertificateLine)
    → Leads inst (nodes n boxes) lines (nodes m []) → AreNodes inst n boxes lines
nodes_led inst m n [] [] leads = record { trees = []; in_range = tt; spelled = refl }
nodes_led inst m n (b ∷ bs) [] leads = absurd (let z : ⊥ = cc in z)
nodes_led inst m n [] (a ∷ lines) leads = absurd (no_box n a leads.0)
nodes_led inst m n (b ∷ bs) (line.Title version ∷ lines) leads = absurd leads.0
nodes_led inst m n (b ∷ bs) (line.Bound least ∷ lines) leads = absurd leads.0
nodes_led inst m n (b ∷ bs) (line.Lists total ∷ lines) leads = absurd leads.0
nodes_led inst m n (b ∷ bs) (line.Prices ∷ lines) leads = absurd leads.0
nodes_led inst m n (b ∷ bs) (line.Up c t w ∷ lines) leads = absurd leads.0
nodes_led inst m n (b ∷ bs) (line.Lo c t w ∷ lines) leads = absurd leads.0
nodes_led inst m n (b ∷ bs) (line.Tail t weight places ∷ lines) leads = absurd leads.0
nodes_led inst m n (b ∷ bs) (line.Ex e t w ∷ lines) leads = absurd leads.0
nodes_led inst m n (b ∷ bs) (line.Tree ∷ lines) leads = absurd leads.0
nodes_led inst m n (b ∷ bs) (line.Split i k ∷ lines) leads = split_led inst n b bs i k lines leads.1.0 leads.1.1
    (nodes_led inst m n (below b (i - 1) k ∷ above b (i - 1) k ∷ bs) lines leads.2)
nodes_led inst m n (b ∷ bs) (line.Cost j ∷ lines) leads =
    leaf_led inst n b bs (node.Cost j) (line.Cost j) lines refl leads.1 (nodes_led inst m n bs lines leads.2)
nodes_led inst m n (b ∷ bs) (line.Point ∷ lines) leads =
    leaf_led inst n b bs node.Point line.Point lines refl tt (nodes_led inst m n bs lines leads.2)
nodes_led inst m n (b ∷ bs) (line.Band c t side ∷ lines) leads = leaf_led inst n b bs (node.Band (c - 1) t side)
    (line.Band c t side) lines (ap (λ (x : ℕ). line.Band x t side) (one_back c leads.1.0))
    ((let f = leads.1.0 in let g = leads.1.1 in omega (arith, f, g)), leads.1.2, leads.1.3)
    (nodes_led inst m n bs lines leads.2)
nodes_led inst m n (b ∷ bs) (line.Excl e ∷ lines) leads = leaf_led inst n b bs (node.Excl (e - 1)) (line.Excl e) lines
    (ap (λ (x : ℕ). line.Excl x) (one_back e leads.1.0)) (let f = leads.1.0 in let g = leads.1.1 in
    omega (arith, f, g)) (nodes_led inst m n bs lines leads.2)
nodes_led inst m n (b ∷ bs) (line.Empty i ∷ lines) leads = leaf_led inst n b bs (node.Empty (i - 1)) (line.Empty i)
    lines (ap (λ (x : ℕ). line.Empty x) (one_back i leads.1.0)) (let f = leads.1.0 in let g = leads.1.1 in
    omega (arith, f, g)) (nodes_led inst m n bs lines leads.2)

-- over one box the lines are those of one tree
pub record IsTreeSpelled (inst : Tables) (n : ℕ) (box : List Span) (lines : List CertificateLine) : Type 0 where
  pub nodes_of : List Node
  pub tree : (t : Tree) × AreNodesOf inst n box t nodes_of
  pub spelled : map node_line nodes_of ≡ lines

pub tree_led : (inst : Tables) (m n : ℕ) (box : List Span) (lines : List CertificateLine)
    → Leads inst (nodes n (box ∷ [])) lines (nodes m []) → IsTreeSpelled inst n box lines
tree_led inst m n box lines leads = let a = nodes_led inst m n (box ∷ []) lines leads in
    one a.trees a.in_range a.spelled
  where
    nil : (xs : List Node) → xs ++ [] ≡ xs
    nil [] = refl
    nil (x ∷ xs) = ap (λ (ys : List Node). x ∷ ys) (nil xs)

    one : (ts : List Tree) → Forest inst n (box ∷ []) ts → map node_line (orders ts) ≡ lines
        → IsTreeSpelled inst n box lines
    one [] f e = absurd f
    one (t ∷ []) f e = record {
      nodes_of = pre_order t;
      tree = (t, record { order = refl; in_range = f.0 });
      spelled = ap (λ (ns : List Node). map node_line ns) (sym (nil (pre_order t))) ∙ e;
    }
    one (t ∷ u ∷ ts) f e = absurd f.1

-- ---- price lists
-- the lines are those of this many price lists, and of a tree behind them
record AreLists (inst : Tables) (v : Version) (n left : ℕ) (lines : List CertificateLine) : Type 0 where
  read : List PriceList
  each : length read ≡ left
  in_range : AllByRecursion (IsPriceList inst) read
  has_prices : AllByRecursion (HasPricesOf v) read
  nodes_of : List Node
  tree : (t : Tree) × AreNodesOf inst n (root_box inst) t nodes_of
  spelled : flat_map (list_lines inst) read ++ tree_lines nodes_of ≡ lines

-- behind the entries of a price list, the lines are the further ones of a grown list, and those of others and a tree
record AreEntries (inst : Tables) (v : Version) (n left : ℕ) (prices : PriceList)
    (lines : List CertificateLine) : Type 0 where
  grown : PriceList
  in_range : IsPriceList inst grown
  has_prices : HasPricesOf v grown
  rest : List CertificateLine
  behind : AreLists inst v n left rest
  spelled : entry_lines inst grown ++ rest ≡ entry_lines inst prices ++ lines

tree_begun : (inst : Tables) (v : Version) (m n left : ℕ) (lines : List CertificateLine) → left ≡ 0
    → Leads inst (nodes n (root_box inst ∷ [])) lines (nodes m []) → AreLists inst v n left (line.Tree ∷ lines)
tree_begun inst v m n left lines none leads =
    let a = tree_led inst m n (root_box inst) lines leads in
    record {
      read = [];
      each = sym none;
      in_range = tt;
      has_prices = tt;
      nodes_of = a.nodes_of;
      tree = a.tree;
      spelled = ap (λ (ls : List CertificateLine). line.Tree ∷ ls) a.spelled;
    }

list_begun : (inst : Tables) (v : Version) (n left : ℕ) (lines : List CertificateLine) → 0 < left
    → AreEntries inst v n (left - 1) (zero_list inst) lines → AreLists inst v n left (line.Prices ∷ lines)
list_begun inst v n left lines some a = record {
  read = a.grown ∷ a.behind.read;
  each = let e = a.behind.each in omega (arith, e, some);
  in_range = (a.in_range, a.behind.in_range);
  has_prices = (a.has_prices, a.behind.has_prices);
  nodes_of = a.behind.nodes_of;
  tree = a.behind.tree;
  spelled = ap (λ (ls : List CertificateLine). line.Prices ∷ ls)
      (append_assoc (entry_lines inst a.grown) (flat_map (list_lines inst) a.behind.read) (tree_lines a.behind.nodes_of)
      ∙ ap (λ (ls : List CertificateLine). entry_lines inst a.grown ++ ls) a.behind.spelled
      ∙ a.spelled
      ∙ ap (λ (ls : List CertificateLine). ls ++ lines) (zero_has_none inst));
}

-- no further entry
none_more : (inst : Tables) (v : Version) (n left : ℕ) (prices : PriceList) (lines : List CertificateLine)
    → IsPriceList inst prices → HasPricesOf v prices → AreLists inst v n left lines
    → AreEntries inst v n left prices lines
none_more inst v n left prices lines ok has r =
    record { grown = prices; in_range = ok; has_prices = has; rest = lines; behind = r; spelled = refl }

-- one entry more
one_more : (inst : Tables) (v : Version) (n left : ℕ) (old new : PriceList) (a : CertificateLine)
    (lines : List CertificateLine) → entry_lines inst new ≡ entry_lines inst old ++ a ∷ []
    → AreEntries inst v n left new lines → AreEntries inst v n left old (a ∷ lines)
one_more inst v n left old new a lines e r = record {
  grown = r.grown;
  in_range = r.in_range;
  has_prices = r.has_prices;
  rest = r.rest;
  behind = r.behind;
  spelled =
      r.spelled ∙ ap (λ (ls : List CertificateLine). ls ++ lines) e
      ∙ append_assoc (entry_lines inst old) (a ∷ []) lines;
}

-- ---- entries
-- a list that an entry is written into
pub record IsGrown (inst : Tables) (v : Version) (old : PriceList) (a : CertificateLine) (key : EntryKey) : Type 0 where
  pub new : PriceList
  pub in_range : IsPriceList inst new
  pub has_prices : HasPricesOf v new
  pub lines : entry_lines inst new ≡ entry_lines inst old ++ a ∷ []
  pub up_to : IsUpTo inst new key

-- prices on exclusions that are the same are as they were
same_ex : (v : Version) (old new : PriceList) → new.ex ≡ old.ex → HasPricesOf v old → HasPricesOf v new
same_ex One old new e has = e ∙ has
same_ex Two old new e has = tt

zero_has : (inst : Tables) (v : Version) → HasPricesOf v (zero_list inst)
unfolding zero_list
zero_has inst One = refl
zero_has inst Two = tt

module _ (inst : Tables) (v : Version) (prices : PriceList) (last : EntryKey) (ok : IsPriceList inst prices)
    (has : HasPricesOf v prices) (upto : IsUpTo inst prices last) where
  band_place : (c t w : ℕ) → IsLimitPrice inst c t w → IsBandPlace inst (c - 1) t
  band_place c t w fit = record {
    resource = let a = fit.some_resource in let b = fit.resource in omega (arith, a, b);
    from = fit.from;
    to = fit.to;
  }

  pub up_more : (c t w : ℕ) → KeyBelow last (up_key c t) → IsLimitPrice inst c t w
      → IsGrown inst v prices (line.Up c t w) (up_key c t)
  up_more c t w next fit =
      let new : PriceList = with_up inst prices (c - 1) t w in
      let e = one_back c fit.some_resource in
      let grows = subst (λ (k : ℕ). Grows inst prices new (line.Up k t w) (up_key k t)) e
      (up_grows inst prices last (c - 1) t w ok upto (band_place c t w fit) fit.some
      (subst (λ (k : ℕ). KeyBelow last (up_key k t)) (sym e) next)) in
      record {
        new = new;
        in_range = up_in_range inst prices ((c - 1) * inst.periods + (t - 1)) w ok fit.small;
        has_prices = same_ex v prices new refl has;
        lines = grows.lines;
        up_to = grows.up_to;
      }

  pub lo_more : (c t w : ℕ) → KeyBelow last (lo_key c t) → IsLimitPrice inst c t w
      → IsGrown inst v prices (line.Lo c t w) (lo_key c t)
  lo_more c t w next fit =
      let new : PriceList = with_lo inst prices (c - 1) t w in
      let e = one_back c fit.some_resource in
      let grows = subst (λ (k : ℕ). Grows inst prices new (line.Lo k t w) (lo_key k t)) e
      (lo_grows inst prices last (c - 1) t w ok upto (band_place c t w fit) fit.some
      (subst (λ (k : ℕ). KeyBelow last (lo_key k t)) (sym e) next)) in
      record {
        new = new;
        in_range = lo_in_range inst prices ((c - 1) * inst.periods + (t - 1)) w ok fit.small;
        has_prices = same_ex v prices new refl has;
        lines = grows.lines;
        up_to = grows.up_to;
      }

  tail_more : (t : ℕ) (tail : Tail) → KeyBelow last (tail_key t) → 1 ≤ t → t ≤ inst.periods → IsTail inst t tail
      → IsGrown inst v prices (line.Tail t tail.weight tail.places) (tail_key t)
  tail_more t tail next from to fit =
      let new : PriceList = with_tail prices t (Some tail) in
      let grows = tail_grows inst prices last t tail ok upto from to next in
      record {
        new = new;
        in_range = tail_in_range inst prices t (Some tail) ok from to same;
        has_prices = same_ex v prices new refl has;
        lines = grows.lines;
        up_to = grows.up_to;
      }
    where
      same : (some : Tail) → Some tail ≡ Some some → IsTail inst t some
      same some e = let f : tail ≡ some = cc in subst (λ (x : Tail). IsTail inst t x) f fit

  -- the place behind all prices of exclusions
  at_end : (x : ExPrice) (xs : List ExPrice) → AllByRecursion (λ y. ExBefore y x) xs → (j : ℕ) (d : ExPrice)
      → j < length xs → ExBefore (get_or xs j d) x
  at_end x [] h j d l = absurd (omega (arith, l))
  at_end x (y ∷ ys) h zero d l = h.0
  at_end x (y ∷ ys) h (suc j) d l = at_end x ys h.1 j d (omega (arith, l))

  pub ex_more : v ≡ Two → (e t w : ℕ) → KeyBelow last (ex_key e t) → 1 ≤ e → IsExPrice inst (price_at (e - 1) t w)
      → IsGrown inst v prices (line.Ex e t w) (ex_key e t)
  ex_more two e t w next from fit =
      let x : ExPrice = price_at (e - 1) t w in
      let b = one_back e from in
      let over : KeyBelow last (ex_key (e - 1 + 1) t) = subst (λ (k : ℕ). KeyBelow last (ex_key k t)) (sym b) next in
      let before = all_before x prices.ex (some_each inst prices.ex ok.ex)
      (λ z n. upto.ex z.exclusion z.period (ex_above last x z over n)) in
      let belongs : BelongsAt prices.ex (e - 1) t (length prices.ex) = record {
        within = omega arith;
        before = λ j d l. record { before = at_end x prices.ex before j d l };
        after = λ j d l h. absurd (omega (arith, l, h));
      } in
      let ex : List ExPrice = insert prices.ex (length prices.ex) x in
      let change = ex_inserted inst prices ex (e - 1) t w (length prices.ex) ok
      (record { number = fit.number; from = fit.from; to = fit.to; season = fit.season }) fit.small belongs
      (picked w ex prices.ex fit.some) in
      let new : PriceList = record prices { ex = ex } in
      let grows = subst (λ (k : ℕ). Grows inst prices new (line.Ex k t w) (ex_key k t)) b
      (ex_grows inst prices new last (e - 1) t w ok change.in_range upto change.changed fit.some over) in
      record {
        new = new;
        in_range = change.in_range;
        has_prices = subst (λ (u : Version). HasPricesOf u new) (sym two) tt;
        lines = grows.lines;
        up_to = grows.up_to;
      }
    where
      picked : (w : ℕ) (xs ys : List ExPrice) → 1 ≤ w → xs ≡ cond (not (eqb w 0)) xs ys
      picked w xs ys some = let z : eqb w 0 ≡ false = grind (arith, nat_tests) in
          ap (λ (b : Bool). cond (not b) xs ys) (sym z)

entries_led : (inst : Tables) (v : Version) (m n left : ℕ) (prices : PriceList) (last : EntryKey)
    (lines : List CertificateLine) → IsPriceList inst prices → HasPricesOf v prices → IsUpTo inst prices last
    → Leads inst (lists v n left (Some last)) lines (nodes m []) → AreEntries inst v n left prices lines
entries_led inst v m n left prices last [] ok has upto leads = absurd (let z : ⊥ = cc in z)
entries_led inst v m n left prices last (line.Title version ∷ lines) ok has upto leads = absurd leads.0
entries_led inst v m n left prices last (line.Bound least ∷ lines) ok has upto leads = absurd leads.0
entries_led inst v m n left prices last (line.Lists total ∷ lines) ok has upto leads = absurd leads.0
entries_led inst v m n left prices last (line.Prices ∷ lines) ok has upto leads = none_more inst v n left prices
    (line.Prices ∷ lines) ok has
    (list_begun inst v n left lines leads.0 (entries_led inst v m n (left - 1) (zero_list inst) before_entries lines
    (zero_in_range inst) (zero_has inst v) (zero_up_to inst) leads.2))
entries_led inst v m n left prices last (line.Up c t w ∷ lines) ok has upto leads = let g =
    up_more inst v prices last ok has upto c t w leads.0 leads.1 in one_more inst v n left prices g.new (line.Up c t w)
    lines g.lines (entries_led inst v m n left g.new (up_key c t) lines g.in_range g.has_prices g.up_to leads.2)
entries_led inst v m n left prices last (line.Lo c t w ∷ lines) ok has upto leads = let g =
    lo_more inst v prices last ok has upto c t w leads.0 leads.1 in one_more inst v n left prices g.new (line.Lo c t w)
    lines g.lines (entries_led inst v m n left g.new (lo_key c t) lines g.in_range g.has_prices g.up_to leads.2)
entries_led inst v m n left prices last (line.Tail t weight places ∷ lines) ok has upto leads = let g =
    tail_more inst v prices last ok has upto t (record { weight = weight; places = places }) leads.0 leads.1.0 leads.1.1
    leads.1.2 in one_more inst v n left prices g.new (line.Tail t weight places) lines g.lines
    (entries_led inst v m n left g.new (tail_key t) lines g.in_range g.has_prices g.up_to leads.2)
entries_led inst v m n left prices last (line.Ex e t w ∷ lines) ok has upto leads = let g =
    ex_more inst v prices last ok has upto leads.0.0 e t w leads.0.1 leads.1.0 leads.1.1 in
    one_more inst v n left prices g.new (line.Ex e t w) lines g.lines
    (entries_led inst v m n left g.new (ex_key e t) lines g.in_range g.has_prices g.up_to leads.2)
entries_led inst v m n left prices last (line.Tree ∷ lines) ok has upto leads =
    none_more inst v n left prices (line.Tree ∷ lines) ok has (tree_begun inst v m n left lines leads.0 leads.2)
entries_led inst v m n left prices last (line.Split i k ∷ lines) ok has upto leads = absurd leads.0
entries_led inst v m n left prices last (line.Cost j ∷ lines) ok has upto leads = absurd leads.0
entries_led inst v m n left prices last (line.Point ∷ lines) ok has upto leads = absurd leads.0
entries_led inst v m n left prices last (line.Band c t side ∷ lines) ok has upto leads = absurd leads.0
entries_led inst v m n left prices last (line.Excl e ∷ lines) ok has upto leads = absurd leads.0
entries_led inst v m n left prices last (line.Empty i ∷ lines) ok has upto leads = absurd leads.0

lists_led : (inst : Tables) (v : Version) (m n left : ℕ) (lines : List CertificateLine)
    → Leads inst (lists v n left None) lines (nodes m []) → AreLists inst v n left lines
lists_led inst v m n left [] leads = absurd (let z : ⊥ = cc in z)
lists_led inst v m n left (line.Title version ∷ lines) leads = absurd leads.0
lists_led inst v m n left (line.Bound least ∷ lines) leads = absurd leads.0
lists_led inst v m n left (line.Lists total ∷ lines) leads = absurd leads.0
lists_led inst v m n left (line.Prices ∷ lines) leads = list_begun inst v n left lines leads.0
    (entries_led inst v m n (left - 1) (zero_list inst) before_entries lines (zero_in_range inst) (zero_has inst v)
    (zero_up_to inst) leads.2)
lists_led inst v m n left (line.Up c t w ∷ lines) leads = absurd leads.0
lists_led inst v m n left (line.Lo c t w ∷ lines) leads = absurd leads.0
lists_led inst v m n left (line.Tail t weight places ∷ lines) leads = absurd leads.0
lists_led inst v m n left (line.Ex e t w ∷ lines) leads = absurd leads.0.1
lists_led inst v m n left (line.Tree ∷ lines) leads = tree_begun inst v m n left lines leads.0 leads.2
lists_led inst v m n left (line.Split i k ∷ lines) leads = absurd leads.0
lists_led inst v m n left (line.Cost j ∷ lines) leads = absurd leads.0
lists_led inst v m n left (line.Point ∷ lines) leads = absurd leads.0
lists_led inst v m n left (line.Band c t side ∷ lines) leads = absurd leads.0
lists_led inst v m n left (line.Excl e ∷ lines) leads = absurd leads.0
lists_led inst v m n left (line.Empty i ∷ lines) leads = absurd leads.0

-- ---- the first three lines
-- the lines are those of a certificate
abbrev IsCertificate : Tables → List CertificateLine → Type 0
IsCertificate inst lines = (cert : Certificate) × IsInRange inst cert × (certificate_lines inst cert ≡ lines)

whole : (inst : Tables) (v : Version) (b : Bound) (n : ℕ) (lines : List CertificateLine) → IsBoundInRange b → n ≤ 16
    → AreLists inst v n n lines → IsCertificate inst (line.Title v ∷ line.Bound b ∷ line.Lists n ∷ lines)
whole inst v b n lines range few a = (
  record { version = v; bound = b; lists = a.read; nodes = a.nodes_of },
  record {
    bound = range;
    few = subst (λ (k : ℕ). k ≤ 16) (sym a.each) few;
    lists = All-from_recursion (IsPriceList inst) a.read a.in_range;
    version = All-from_recursion (HasPricesOf v) a.read a.has_prices;
    tree = subst (λ (k : ℕ). (t : Tree) × AreNodesOf inst k (root_box inst) t a.nodes_of) (sym a.each) a.tree;
  },
  ap (λ (k : ℕ). line.Title v ∷ line.Bound b ∷ line.Lists k
      ∷ (flat_map (list_lines inst) a.read ++ tree_lines a.nodes_of)) a.each
      ∙ ap (λ (ls : List CertificateLine). line.Title v ∷ line.Bound b ∷ line.Lists n ∷ ls) a.spelled,
)

count_led : (inst : Tables) (v : Version) (b : Bound) (m : ℕ) (lines : List CertificateLine) → IsBoundInRange b
    → Leads inst (count v) lines (nodes m []) → IsCertificate inst (line.Title v ∷ line.Bound b ∷ lines)
count_led inst v b m [] range leads = absurd (let z : ⊥ = cc in z)
count_led inst v b m (line.Title version ∷ lines) range leads = absurd leads.0
count_led inst v b m (line.Bound least ∷ lines) range leads = absurd leads.0
count_led inst v b m (line.Lists n ∷ lines) range leads =
    whole inst v b n lines range leads.1 (lists_led inst v m n n lines leads.2)
count_led inst v b m (line.Prices ∷ lines) range leads = absurd leads.0
count_led inst v b m (line.Up c t w ∷ lines) range leads = absurd leads.0
count_led inst v b m (line.Lo c t w ∷ lines) range leads = absurd leads.0
count_led inst v b m (line.Tail t weight places ∷ lines) range leads = absurd leads.0
count_led inst v b m (line.Ex e t w ∷ lines) range leads = absurd leads.0
count_led inst v b m (line.Tree ∷ lines) range leads = absurd leads.0
count_led inst v b m (line.Split i k ∷ lines) range leads = absurd leads.0
count_led inst v b m (line.Cost j ∷ lines) range leads = absurd leads.0
count_led inst v b m (line.Point ∷ lines) range leads = absurd leads.0
count_led inst v b m (line.Band c t side ∷ lines) range leads = absurd leads.0
count_led inst v b m (line.Excl e ∷ lines) range leads = absurd leads.0
count_led inst v b m (line.Empty i ∷ lines) range leads = absurd leads.0

bound_led : (inst : Tables) (v : Version) (m : ℕ) (lines : List CertificateLine)
    → Leads inst (bound v) lines (nodes m []) → IsCertificate inst (line.Title v ∷ lines)
bound_led inst v m [] leads = absurd (let z : ⊥ = cc in z)
bound_led inst v m (line.Title version ∷ lines) leads = absurd leads.0
bound_led inst v m (line.Bound least ∷ lines) leads = count_led inst v least m lines leads.1 leads.2
bound_led inst v m (line.Lists total ∷ lines) leads = absurd leads.0
bound_led inst v m (line.Prices ∷ lines) leads = absurd leads.0
bound_led inst v m (line.Up c t w ∷ lines) leads = absurd leads.0
bound_led inst v m (line.Lo c t w ∷ lines) leads = absurd leads.0
bound_led inst v m (line.Tail t weight places ∷ lines) leads = absurd leads.0
bound_led inst v m (line.Ex e t w ∷ lines) leads = absurd leads.0
bound_led inst v m (line.Tree ∷ lines) leads = absurd leads.0
bound_led inst v m (line.Split i k ∷ lines) leads = absurd leads.0
bound_led inst v m (line.Cost j ∷ lines) leads = absurd leads.0
bound_led inst v m (line.Point ∷ lines) leads = absurd leads.0
bound_led inst v m (line.Band c t side ∷ lines) leads = absurd leads.0
bound_led inst v m (line.Excl e ∷ lines) leads = absurd leads.0
bound_led inst v m (line.Empty i ∷ lines) leads = absurd leads.0

pub lead_to_certificates : LeadToCertificates
lead_to_certificates inst [] m leads = absurd (let z : ⊥ = cc in z)
lead_to_certificates inst (line.Title version ∷ lines) m leads = bound_led inst version m lines leads.2
lead_to_certificates inst (line.Bound least ∷ lines) m leads = absurd leads.0
lead_to_certificates inst (line.Lists total ∷ lines) m leads = absurd leads.0
lead_to_certificates inst (line.Prices ∷ lines) m leads = absurd leads.0
lead_to_certificates inst (line.Up c t w ∷ lines) m leads = absurd leads.0
lead_to_certificates inst (line.Lo c t w ∷ lines) m leads = absurd leads.0
lead_to_certificates inst (line.Tail t weight places ∷ lines) m leads = absurd leads.0
lead_to_certificates inst (line.Ex e t w ∷ lines) m leads = absurd leads.0
lead_to_certificates inst (line.Tree ∷ lines) m leads = absurd leads.0
lead_to_certificates inst (line.Split i k ∷ lines) m leads = absurd leads.0
lead_to_certificates inst (line.Cost j ∷ lines) m leads = absurd leads.0
lead_to_certificates inst (line.Point ∷ lines) m leads = absurd leads.0
lead_to_certificates inst (line.Band c t side ∷ lines) m leads = absurd leads.0
lead_to_certificates inst (line.Excl e ∷ lines) m leads = absurd leads.0
lead_to_certificates inst (line.Empty i ∷ lines) m leads = absurd leads.0
