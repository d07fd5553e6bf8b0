-- The lines of a certificate lead from the first line to the end.
use Rattle.std.proofs.Common.{◌≡◌, ℕ, suc, ◌+◌, ◌-◌, ◌*◌, ◌/◌, ◌%◌, ◌<◌, ◌≤◌, inl, inr, refl, sym, ◌∙◌, ap, subst}
use Rattle.std.proofs.Common.{arith, Bool, true, false, cond, ◌==◌, List, [], ◌∷◌, ◌++◌, length, map, get_or, Option}
use Rattle.std.proofs.Common.{Some, None}
use Rattle.std.specs.List.{AllByRecursion, flat_map}
use Rattle.std.proofs.lemmas.List.{map-append}
use Rattle.std.proofs.lemmas.List.Elements.{recursion_from_All}
use Rattle.instance_model.specs.Tables.{Tables}
use Rattle.lagrange_bound.specs.declared.span.Span.{Span}
use Rattle.lagrange_bound.specs.declared.tail.Tail.{Tail}
use Rattle.lagrange_bound.specs.declared.ex_price.ExPrice.{ExPrice}
use Rattle.lagrange_bound.specs.Prices.{PriceList, IsPriceList, IsTail, IsExPrice, ExBefore}
use Rattle.certificate_lines.specs.declared.line.Version.{Version}
use Rattle.certificate_lines.specs.declared.line.Version.TheVariants.{One, Two}
use Rattle.certificate_lines.specs.declared.line.CertificateLine.{CertificateLine}
use Rattle.certificate_lines.specs.declared.line.CertificateLine.TheVariants as line
use Rattle.certificate_tree.specs.declared.node.Node.{Node}
use Rattle.certificate_tree.specs.declared.node.Node.TheVariants as node
use Rattle.certificate_tree.specs.Trees.{Tree, leaf, split, pre_order, root_box, below, above, IsSplit}
use Rattle.certificate_tree.specs.Ranges.{IsTreeInRange, IsLeafInRange, HasPricesOf}
use Rattle.certificate_text.specs.Text.{limit_lines, tail_lines, ex_line, entry_lines, list_lines, node_line}
use Rattle.certificate_text.specs.Text.{tree_lines}
use Rattle.certificate_text.specs.Grammar.{EntryKey, KeyBelow, tail_key, ex_key, before_entries, Place, lists, nodes}
use Rattle.certificate_text.specs.Grammar.{Stands, Fits, IsLimitPrice, after, Leads}
use Rattle.certificate_text.specs.Laws.{TextsLead}
use Rattle.certificate_text.proofs.KeyLemmas.{less_one, some_columns, key, kind_rises, place_key, place_order}
use Rattle.certificate_text.proofs.KeyLemmas.{place_within, column_within}
use Rattle.certificate_text.proofs.LimitLemmas.{limit_line, some_of}
use Rattle.certificate_text.proofs.ExLemmas.{AscendFrom, ascend_from}
use Rattle.certificate_text.proofs.GrowLemmas.{ex_order}

pub leads_append : (inst : Tables) (p q r : Place) (xs ys : List CertificateLine) → Leads inst p xs q
    → Leads inst q ys r → Leads inst p (xs ++ ys) r
leads_append inst p q r [] ys a b = subst (λ z. Leads inst z ys r) (sym a) b
leads_append inst p q r (x ∷ xs) ys a b = (a.0, a.1, leads_append inst (after inst p x) q r xs ys a.2 b)

module _ (inst : Tables) (version : Version) (m left : ℕ) where
  -- among the entries of a list
  abbrev pub among : EntryKey → Place
  among last = lists version m left (Some last)

  -- entries of kinds up to this one lead on to the key of some entry of such a kind
  pub record Reaches (kind : ℕ) (last : EntryKey) (lines : List CertificateLine) : Type 0 where
    pub end : EntryKey
    pub low : end.kind ≤ kind
    pub leads : Leads inst (among last) lines (among end)

  -- a line of this form stands behind a key below its own, and leads on to it
  abbrev pub IsForm : ℕ → (ℕ → ℕ → ℕ → CertificateLine) → Type 0
  IsForm kind form =
      (c t v : ℕ) (last : EntryKey) → KeyBelow last (key kind c t) → IsLimitPrice inst c t v
      → Stands (among last) (form c t v) × Fits inst (among last) (form c t v)
      × (after inst (among last) (form c t v) ≡ among (key kind c t))

  limits_lead : (kind : ℕ) (form : ℕ → ℕ → ℕ → CertificateLine) → IsForm kind form → (k : ℕ) (vs : List ℕ)
      → k + length vs ≤ length inst.resource_names * inst.periods → AllByRecursion (λ v. v ≤ 1_000_000_000) vs
      → (last : EntryKey) → ((j : ℕ) → k ≤ j → KeyBelow last (place_key kind inst.periods j))
      → Reaches kind last (limit_lines form inst.periods k vs)
  unfolding limit_lines
  limits_lead kind form step k [] few small last above =
      record { end = last; low = kind_rises last (place_key kind inst.periods k) (above k (omega arith)); leads = refl }
  limits_lead kind form step k (v ∷ vs) few small last above =
      at (v == 0) refl
      (limits_lead kind form step (k + 1) vs (omega (arith, few)) small.1 last (λ j h. above j (omega (arith, h))))
      (limits_lead kind form step (k + 1) vs (omega (arith, few)) small.1 (place_key kind inst.periods k)
      (λ j h. place_order kind inst.periods k j periods (omega (arith, h))))
    where
      in_table : k < length inst.resource_names * inst.periods
      in_table = omega (arith, few)

      periods : 0 < inst.periods
      periods = some_columns (length inst.resource_names) inst.periods k in_table

      price : 1 ≤ v → IsLimitPrice inst (k / inst.periods + 1) (k % inst.periods + 1) v
      price some =
          let row = place_within (length inst.resource_names) inst.periods k periods in_table in
          record {
            some_resource = omega arith;
            resource = omega (arith, row);
            from = omega arith;
            to = column_within inst.periods k periods;
            some = some;
            small = small.0;
          }

      at : (b : Bool) → (v == 0) ≡ b → Reaches kind last (limit_lines form inst.periods (k + 1) vs)
          → Reaches kind (place_key kind inst.periods k) (limit_lines form inst.periods (k + 1) vs)
          → Reaches kind last
          (cond b (limit_lines form inst.periods (k + 1) vs)
          (limit_line form inst.periods k v ∷ limit_lines form inst.periods (k + 1) vs))
      at true e r s = r
      at false e r s =
          let here =
          step (k / inst.periods + 1) (k % inst.periods + 1) v last (above k (omega arith)) (price (some_of v e)) in
          record {
            end = s.end;
            low = s.low;
            leads = (
              here.0,
              here.1,
              subst (λ p. Leads inst p (limit_lines form inst.periods (k + 1) vs) (among s.end)) (sym here.2) s.leads,
            );
          }

  tails_lead : (t : ℕ) (tails : List (Option Tail)) → 1 ≤ t → t + length tails ≤ inst.periods + 1
      → ((i : ℕ) (tail : Tail) → i < length tails → get_or tails i None ≡ Some tail → IsTail inst (t + i) tail)
      → (last : EntryKey) → ((u : ℕ) → t ≤ u → KeyBelow last (tail_key u)) → Reaches 3 last (tail_lines t tails)
  unfolding tail_lines
  tails_lead t [] from few each last above =
      record { end = last; low = kind_rises last (tail_key t) (above t (omega arith)); leads = refl }
  tails_lead t (None ∷ tails) from few each last above =
      tails_lead (t + 1) tails (omega arith) (omega (arith, few))
      (λ i tail h e. let f : t + suc i ≡ t + 1 + i = omega arith in subst (λ u. IsTail inst u tail) f
      (each (suc i) tail (omega (arith, h)) e)) last (λ u h. above u (omega (arith, h)))
  tails_lead t (Some tail ∷ tails) from few each last above =
      let rest = tails_lead (t + 1) tails (omega arith) (omega (arith, few))
      (λ i other h e. let f : t + suc i ≡ t + 1 + i = omega arith in subst (λ u. IsTail inst u other) f
      (each (suc i) other (omega (arith, h)) e)) (tail_key t) (λ u h. inr (refl, inl (omega (arith, h)))) in
      let own = let f : t + 0 ≡ t = omega arith in subst (λ u. IsTail inst u tail) f (each 0 tail (omega arith) refl) in
      record {
        end = rest.end;
        low = rest.low;
        leads = (above t (omega arith), (from, omega (arith, few), own), rest.leads);
      }

  ex_lead : version ≡ Two → (xs : List ExPrice) → AllByRecursion (IsExPrice inst) xs → AscendFrom xs → (last : EntryKey)
      → last.kind ≤ 4 → AllByRecursion (λ x. KeyBelow last (ex_key (x.exclusion + 1) x.period)) xs
      → Reaches 4 last (map ex_line xs)
  ex_lead two [] each order last low above = record { end = last; low = low; leads = refl }
  ex_lead two (x ∷ xs) each order last low above =
      let rest = ex_lead two xs each.1 order.1 (ex_key (x.exclusion + 1) x.period) (omega arith) (next xs order.0) in
      let own = subst (λ i. IsExPrice inst (record { exclusion = i; period = x.period; value = x.value }))
      (sym (less_one x.exclusion)) each.0 in
      record { end = rest.end; low = rest.low; leads = ((two, above.0), (omega arith, own), rest.leads) }
    where
      next : (ys : List ExPrice) → AllByRecursion (ExBefore x) ys
          → AllByRecursion (λ y. KeyBelow (ex_key (x.exclusion + 1) x.period) (ex_key (y.exclusion + 1) y.period)) ys
      next [] h = tt
      next (y ∷ ys) h = (ex_order x y h.0, next ys h.1)

  all_above : (last : EntryKey) (xs : List ExPrice) → last.kind < 4
      → AllByRecursion (λ x. KeyBelow last (ex_key (x.exclusion + 1) x.period)) xs
  all_above last [] h = tt
  all_above last (x ∷ xs) h = (inl h, all_above last xs h)

  ex_of_version : (v : Version) → version ≡ v → (prices : PriceList) → HasPricesOf v prices → IsPriceList inst prices
      → (last : EntryKey) → last.kind < 4 → Reaches 4 last (map ex_line prices.ex)
  ex_of_version One e prices none ok last low = record {
    end = last;
    low = omega (arith, low);
    leads = subst (λ (xs : List ExPrice). Leads inst (among last) (map ex_line xs) (among last)) (sym none) refl;
  }
  ex_of_version Two e prices none ok last low = ex_lead e prices.ex ok.ex (ascend_from prices.ex ok.ex_ascend) last
      (omega (arith, low)) (all_above last prices.ex low)

  pub entries_lead : (prices : PriceList) → HasPricesOf version prices → IsPriceList inst prices
      → (end : EntryKey) × Leads inst (among before_entries) (entry_lines inst prices) (among end)
  entries_lead prices has ok =
      let each = ok.tails_each in
      let one = limits_lead 1 line.Up (λ c t v last h fits. (h, fits, refl)) 0 prices.up (omega (arith, ok.up_each))
      (recursion_from_All (λ v. v ≤ 1_000_000_000) prices.up ok.up_small) before_entries (λ j h. inl (omega arith)) in
      let low = one.low in
      let two = limits_lead 2 line.Lo (λ c t v last h fits. (h, fits, refl)) 0 prices.lo (omega (arith, ok.lo_each))
      (recursion_from_All (λ v. v ≤ 1_000_000_000) prices.lo ok.lo_small) one.end (λ j h. inl (omega (arith, low))) in
      let low2 = two.low in
      let three = tails_lead 1 prices.tails (omega arith) (omega (arith, each)) tail_fits two.end
      (λ u h. inl (omega (arith, low2))) in
      let low3 = three.low in
      let four = ex_of_version version refl prices has ok three.end (omega (arith, low3)) in (
        four.end,
        leads_append inst (among before_entries) (among one.end) (among four.end)
            (limit_lines line.Up inst.periods 0 prices.up)
            (limit_lines line.Lo inst.periods 0 prices.lo ++ (tail_lines 1 prices.tails ++ map ex_line prices.ex))
            one.leads
            (leads_append inst (among one.end) (among two.end) (among four.end)
            (limit_lines line.Lo inst.periods 0 prices.lo)
            (tail_lines 1 prices.tails ++ map ex_line prices.ex) two.leads
            (leads_append inst (among two.end) (among three.end) (among four.end) (tail_lines 1 prices.tails)
            (map ex_line prices.ex) three.leads four.leads)),
      )
    where
      tail_fits : (i : ℕ) (tail : Tail) → i < length prices.tails → get_or prices.tails i None ≡ Some tail
          → IsTail inst (1 + i) tail
      tail_fits i tail h e =
          let each = ok.tails_each in
          let f : 1 + i - 1 ≡ i = omega arith in
          ok.tails (1 + i) (omega arith) (omega (arith, h, each)) tail (ap (λ k. get_or prices.tails k None) f ∙ e)

-- price lists, each begun where one has still to begin
lists_lead : (inst : Tables) (version : Version) (m : ℕ) (ps : List PriceList) (last : Option EntryKey)
    → AllByRecursion (HasPricesOf version) ps → AllByRecursion (IsPriceList inst) ps → (end : Option EntryKey)
    × Leads inst (lists version m (length ps) last) (flat_map (list_lines inst) ps) (lists version m 0 end)
lists_lead inst version m [] last has ok = (last, refl)
lists_lead inst version m (p ∷ ps) last has ok =
    let one = entries_lead inst version m (length ps) p has.0 ok.0 in
    let rest = lists_lead inst version m ps (Some one.0) has.1 ok.1 in
    let both = leads_append inst (lists version m (length ps) (Some before_entries))
    (lists version m (length ps) (Some one.0)) (lists version m 0 rest.0) (entry_lines inst p)
    (flat_map (list_lines inst) ps) one.1 rest.1 in
    let e : length ps ≡ suc (length ps) - 1 = omega arith in (
      rest.0,
      (
        omega arith,
        tt,
        subst (λ n. Leads inst (lists version m n (Some before_entries))
            (entry_lines inst p ++ flat_map (list_lines inst) ps) (lists version m 0 rest.0)) e both,
      ),
    )

-- the nodes of a tree lead from its box to the boxes behind it
leaf_leads : (inst : Tables) (m : ℕ) (n : Node) (box : List Span) (boxes : List (List Span)) → IsLeafInRange inst m n
    → Leads inst (nodes m (box ∷ boxes)) (node_line n ∷ []) (nodes m boxes)
leaf_leads inst m (node.Split i last) box boxes h = absurd h
leaf_leads inst m (node.Cost list) box boxes h = (tt, h, refl)
leaf_leads inst m node.Point box boxes h = (tt, tt, refl)
leaf_leads inst m (node.Band c t side) box boxes h =
    (tt, (omega arith, let a = h.0 in omega (arith, a), h.1, h.2), refl)
leaf_leads inst m (node.Excl e) box boxes h = (tt, (omega arith, omega (arith, h)), refl)
leaf_leads inst m (node.Empty i) box boxes h = (tt, (omega arith, omega (arith, h)), refl)

pub tree_leads : (inst : Tables) (m : ℕ) (t : Tree) (box : List Span) (boxes : List (List Span))
    → IsTreeInRange inst m box t → Leads inst (nodes m (box ∷ boxes)) (map node_line (pre_order t)) (nodes m boxes)
tree_leads inst m (leaf n) box boxes h = leaf_leads inst m n box boxes h
tree_leads inst m (split i last l r) box boxes h =
    let left = tree_leads inst m l (below box i last) (above box i last ∷ boxes) h.1 in
    let right = tree_leads inst m r (above box i last) boxes h.2 in
    let both = leads_append inst (nodes m (below box i last ∷ above box i last ∷ boxes))
    (nodes m (above box i last ∷ boxes)) (nodes m boxes) (map node_line (pre_order l))
    (map node_line (pre_order r)) left right in
    let parts = subst (λ (xs : List CertificateLine). Leads inst (nodes m (below box i last ∷ above box i last ∷ boxes))
    xs (nodes m boxes)) (sym (map-append node_line (pre_order l) (pre_order r))) both in
    let e = sym (less_one i) in (
      tt,
      (omega arith, subst (λ j. IsSplit box j last) e h.0),
      subst
          (λ j. Leads inst (nodes m (below box j last ∷ above box j last ∷ boxes))
          (map node_line (pre_order l ++ pre_order r)) (nodes m boxes)) e parts,
    )

pub texts_lead : TextsLead
texts_lead inst cert ok =
    let m : ℕ = length cert.lists in
    let some = lists_lead inst cert.version m cert.lists None (recursion_from_All (HasPricesOf cert.version) cert.lists
    ok.version) (recursion_from_All (IsPriceList inst) cert.lists ok.lists) in
    let t : Tree = ok.tree.0 in
    let tree = subst (λ (ns : List Node). Leads inst (nodes m (root_box inst ∷ [])) (map node_line ns) (nodes m []))
    ok.tree.1.order (tree_leads inst m t (root_box inst) [] ok.tree.1.in_range) in (
      tt,
      tt,
      (
        tt,
        ok.bound,
        (
          tt,
          ok.few,
          leads_append inst (lists cert.version m m None) (lists cert.version m 0 some.0) (nodes m [])
              (flat_map (list_lines inst) cert.lists) (tree_lines cert.nodes) some.1 (refl, tt, tree),
        ),
      ),
    )
