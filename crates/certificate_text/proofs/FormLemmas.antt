-- Each line of a certificate has a form.
use Rattle.std.proofs.Common.{◌≡◌, ◌⊎◌, inl, inr, ℕ, suc, ◌+◌, ◌-◌, ◌*◌, ◌/◌, ◌%◌, ◌<◌, ◌≤◌, refl, sym, ◌∙◌, ap, subst}
use Rattle.std.proofs.Common.{arith, Bool, true, false, cond, ◌==◌, List, [], ◌∷◌, ◌++◌, length, map, get_or, set}
use Rattle.std.proofs.Common.{Option, Some, None, All, AllPairs}
use Rattle.std.specs.List.{AllByRecursion, flat_map}
use Rattle.std.proofs.lemmas.Bool.{cases_eq}
use Rattle.std.proofs.lemmas.List.{map-append, length-set, get_or-set_same, get_or-set_other, get_or_past}
use Rattle.std.proofs.lemmas.List.FromFn.{get_or-map-range_with_len, length-map-range_with_len}
use Rattle.std.proofs.lemmas.List.Elements.{recursion_from_All, All-from_recursion, All-weaker, All-nil, All-cons}
use Rattle.std.proofs.lemmas.List.Kept.{AllPairs-cons}
use Rattle.instance_model.specs.Tables.{Tables, tmax, scenarios_of}
use Rattle.instance_model.specs.Fitting.{IsFitting}
use Rattle.instance_model.proofs.FitLemmas.{tmax_small}
use Rattle.lagrange_bound.specs.declared.span.Span.{Span}
use Rattle.lagrange_bound.specs.declared.tail.Tail.{Tail}
use Rattle.lagrange_bound.specs.declared.ex_price.ExPrice.{ExPrice}
use Rattle.lagrange_bound.specs.Least.{AscendAbove}
use Rattle.lagrange_bound.specs.Boxes.{span_of}
use Rattle.lagrange_bound.specs.Prices.{PriceList, IsPriceList, IsTail, IsExPrice}
use Rattle.certificate_lines.specs.declared.line.Bound.{Bound}
use Rattle.certificate_lines.specs.declared.line.Bound.TheVariants.{NoPlan, Least}
use Rattle.certificate_lines.specs.declared.line.CertificateLine.{CertificateLine}
use Rattle.certificate_lines.specs.declared.line.CertificateLine.TheVariants as line
use Rattle.certificate_lines.specs.Spelling.{IsNumber, IsLine}
use Rattle.certificate_tree.specs.declared.node.Node.{Node}
use Rattle.certificate_tree.specs.declared.node.Node.TheVariants as node
use Rattle.certificate_tree.specs.Trees.{Tree, leaf, split, pre_order, root_box, below, above}
use Rattle.certificate_tree.specs.Ranges.{IsTreeInRange, IsLeafInRange, IsBoundInRange}
use Rattle.certificate_text.specs.Text.{limit_lines, tail_lines, ex_line, entry_lines, list_lines, node_line}
use Rattle.certificate_text.specs.Text.{tree_lines, certificate_lines}
use Rattle.certificate_text.specs.Grammar.{IsLimitPrice}
use Rattle.certificate_text.specs.Laws.{LinesHaveForms}
use Rattle.certificate_text.proofs.KeyLemmas.{below_or_not, some_columns, place_within, column_within}
use Rattle.certificate_text.proofs.LimitLemmas.{limit_line, some_of}
use Rattle.certificate_text.proofs.TailLemmas.{tail_line}
use Rattle.certificate_text.proofs.TellLemmas.{each_append}

module _ (inst : Tables) where
  -- lines of limits are such, where each line of a price in range is
  pub limits_such : (P : CertificateLine → Type 0) (form : ℕ → ℕ → ℕ → CertificateLine)
      → ((c t v : ℕ) → IsLimitPrice inst c t v → P (form c t v)) → (k : ℕ) (vs : List ℕ)
      → k + length vs ≤ length inst.resource_names * inst.periods → AllByRecursion (λ v. v ≤ 1_000_000_000) vs
      → AllByRecursion P (limit_lines form inst.periods k vs)
  unfolding limit_lines
  limits_such P form such k [] few small = tt
  limits_such P form such k (v ∷ vs) few small =
      at (v == 0) refl (limits_such P form such (k + 1) vs (omega (arith, few)) small.1)
    where
      in_table : k < length inst.resource_names * inst.periods
      in_table = omega (arith, few)

      periods : 0 < inst.periods
      periods = some_columns (length inst.resource_names) inst.periods k in_table

      price : 1 ≤ v → IsLimitPrice inst (k / inst.periods + 1) (k % inst.periods + 1) v
      price some =
          let row = place_within (length inst.resource_names) inst.periods k periods in_table in
          record {
            some_resource = omega arith;
            resource = omega (arith, row);
            from = omega arith;
            to = column_within inst.periods k periods;
            some = some;
            small = small.0;
          }

      at : (b : Bool) → (v == 0) ≡ b → AllByRecursion P (limit_lines form inst.periods (k + 1) vs)
          → AllByRecursion P
          (cond b (limit_lines form inst.periods (k + 1) vs)
          (limit_line form inst.periods k v ∷ limit_lines form inst.periods (k + 1) vs))
      at true e w = w
      at false e w = (such (k / inst.periods + 1) (k % inst.periods + 1) v (price (some_of v e)), w)

  pub tails_such : (P : CertificateLine → Type 0)
      → ((t : ℕ) (tail : Tail) → 1 ≤ t → t ≤ inst.periods → IsTail inst t tail → P (tail_line t tail))
      → (t : ℕ) (tails : List (Option Tail)) → 1 ≤ t → t + length tails ≤ inst.periods + 1
      → ((i : ℕ) (tail : Tail) → i < length tails → get_or tails i None ≡ Some tail → IsTail inst (t + i) tail)
      → AllByRecursion P (tail_lines t tails)
  unfolding tail_lines
  tails_such P such t [] from few each = tt
  tails_such P such t (None ∷ tails) from few each =
      tails_such P such (t + 1) tails (omega arith) (omega (arith, few)) (λ i tail h e. let f : t + suc i ≡ t + 1 + i =
      omega arith in subst (λ u. IsTail inst u tail) f (each (suc i) tail (omega (arith, h)) e))
  tails_such P such t (Some tail ∷ tails) from few each =
      let rest = tails_such P such (t + 1) tails (omega arith) (omega (arith, few))
      (λ i other h e. let f : t + suc i ≡ t + 1 + i = omega arith in
      subst (λ u. IsTail inst u other) f (each (suc i) other (omega (arith, h)) e)) in
      let own = let f : t + 0 ≡ t = omega arith in subst (λ u. IsTail inst u tail) f (each 0 tail (omega arith) refl) in
      (such t tail from (omega (arith, few)) own, rest)

  pub ex_such : (P : CertificateLine → Type 0) → ((x : ExPrice) → IsExPrice inst x → P (ex_line x)) → (xs : List
      ExPrice)
      → AllByRecursion (IsExPrice inst) xs → AllByRecursion P (map ex_line xs)
  ex_such P such [] each = tt
  ex_such P such (x ∷ xs) each = (such x each.0, ex_such P such xs each.1)

-- ---- numbers
ascend_all : (a : ℕ) (ks : List ℕ) → AscendAbove a ks → All (λ k. a < k) ks
ascend_all a [] h = All-nil (λ k. a < k)
ascend_all a (k ∷ ks) h = All-cons (λ l. a < l) k ks h.0 (All-weaker (λ l. k < l) (λ l. a < l) (λ l m. let n = h.0 in
    omega (arith, m, n)) ks (ascend_all k ks h.1))

pub ascend_pairs : (a : ℕ) (ks : List ℕ) → AscendAbove a ks → AllPairs (λ k l. k < l) ks
ascend_pairs a [] h = λ i j d l m. absurd (omega (arith, m))
ascend_pairs a (k ∷ ks) h = AllPairs-cons (λ k l. k < l) k ks (ascend_all k ks h.1) (ascend_pairs k ks h.1)

pub scenarios_small : (inst : Tables) (t : ℕ) → IsFitting inst → 1 ≤ t → t ≤ inst.periods → scenarios_of inst t ≤ 1024
unfolding scenarios_of
scenarios_small inst t fits from to = let each = fits.scenarios_each in
    let w = fits.scenarios_few (t - 1) 0 (omega (arith, each)) in w.1

module _ (inst : Tables) (fits : IsFitting inst) where
  pub few_periods : inst.periods ≤ 512
  few_periods = fits.few_periods

  pub few_resources : length inst.resource_names ≤ 32
  few_resources = fits.resources.few

  pub few_exclusions : length inst.exclusion_names ≤ 65_536
  few_exclusions = fits.exclusions.few

  pub few_names : length inst.names ≤ 1024
  few_names = fits.names.few

  pub limit_numbers : (c t v : ℕ) → IsLimitPrice inst c t v → IsNumber c × IsNumber t × IsNumber v
  limit_numbers c t v h = (omega (arith, few_resources), omega (arith, few_periods), omega arith)

  tail_form : (t : ℕ) (tail : Tail) → 1 ≤ t → t ≤ inst.periods → IsTail inst t tail → IsLine (tail_line t tail)
  tail_form t tail from to h =
      let few = scenarios_small inst t fits from to in
      let places =
      All-weaker (λ k. k ≤ scenarios_of inst t) IsNumber (λ k l. omega (arith, few, l)) tail.places h.within in
      (omega (arith, few_periods), omega (arith, h.weight), places, ascend_pairs 0 tail.places h.ascend)

  pub ex_form : (x : ExPrice) → IsExPrice inst x → IsLine (ex_line x)
  ex_form x h = (omega (arith, few_exclusions, h.number), omega (arith, few_periods, h.to), omega (arith, h.small))

  pub tail_fits : (p : PriceList) → IsPriceList inst p → (i : ℕ) (tail : Tail) → i < length p.tails
      → get_or p.tails i None ≡ Some tail → IsTail inst (1 + i) tail
  tail_fits p ok i tail h e =
      let each = ok.tails_each in
      let f : 1 + i - 1 ≡ i = omega arith in
      ok.tails (1 + i) (omega arith) (omega (arith, h, each)) tail (ap (λ k. get_or p.tails k None) f ∙ e)

  pub entries_form : (p : PriceList) → IsPriceList inst p → AllByRecursion IsLine (entry_lines inst p)
  entries_form p ok =
      let each = ok.tails_each in
      each_append IsLine (limit_lines line.Up inst.periods 0 p.up)
      (limit_lines line.Lo inst.periods 0 p.lo ++ (tail_lines 1 p.tails ++ map ex_line p.ex))
      (limits_such inst IsLine line.Up limit_numbers 0 p.up (omega (arith, ok.up_each))
      (recursion_from_All (λ v. v ≤ 1_000_000_000) p.up ok.up_small))
      (each_append IsLine (limit_lines line.Lo inst.periods 0 p.lo) (tail_lines 1 p.tails ++ map ex_line p.ex)
      (limits_such inst IsLine line.Lo limit_numbers 0 p.lo (omega (arith, ok.lo_each))
      (recursion_from_All (λ v. v ≤ 1_000_000_000) p.lo ok.lo_small))
      (each_append IsLine (tail_lines 1 p.tails) (map ex_line p.ex)
      (tails_such inst IsLine tail_form 1 p.tails (omega arith) (omega (arith, each)) (tail_fits p ok))
      (ex_such inst IsLine ex_form p.ex ok.ex)))

  lists_form : (ps : List PriceList) → AllByRecursion (IsPriceList inst) ps
      → AllByRecursion IsLine (flat_map (list_lines inst) ps)
  lists_form [] ok = tt
  lists_form (p ∷ ps) ok = (
    tt,
    each_append IsLine (entry_lines inst p) (flat_map (list_lines inst) ps) (entries_form p ok.0) (lists_form ps ok.1),
  )

  -- ---- nodes
  -- a box of as many intervals as there are interventions, none of which ends past the last period
  pub record IsSmall (box : List Span) : Type 0 where
    pub each : length box ≡ length inst.names
    pub to : (i : ℕ) → (span_of box i).to ≤ 512

  set_small : (box : List Span) (i : ℕ) (span : Span) → IsSmall box → i < length box → span.to ≤ 512
      → IsSmall (set box i span)
  set_small box i span small l h = record { each = length-set box i span ∙ small.each; to = ends }
    where
      ends : (j : ℕ) → (span_of (set box i span) j).to ≤ 512
      ends j = at (cases_eq j i)
        where
          at : (j ≡ i) ⊎ (j ≡ i → ⊥) → (span_of (set box i span) j).to ≤ 512
          at (inl e) = let f : span_of (set box i span) j ≡ span = ap (λ k. span_of (set box i span) k) e
              ∙ get_or-set_same box i span (record { from = 0; to = 0 }) l in subst (λ (s : Span). s.to ≤ 512) (sym f) h
          at (inr n) = let f : span_of (set box i span) j ≡ span_of box j =
              get_or-set_other box i j span (record { from = 0; to = 0 }) n in
              subst (λ (s : Span). s.to ≤ 512) (sym f) (small.to j)

  pub root_small : IsSmall (root_box inst)
  root_small = record {
    each = length-map-range_with_len (λ i. record { from = 1; to = tmax inst i }) 0 (length inst.names);
    to = ends;
  }
    where
      ends : (i : ℕ) → (span_of (root_box inst) i).to ≤ 512
      ends i = at (below_or_not i (length inst.names))
        where
          at : (i < length inst.names) ⊎ (length inst.names ≤ i) → (span_of (root_box inst) i).to ≤ 512
          at (inl l) =
              let e : 0 + i ≡ i = omega arith in
              let f : span_of (root_box inst) i ≡ record { from = 1; to = tmax inst i } = get_or-map-range_with_len
              (λ j. record { from = 1; to = tmax inst j }) 0 (length inst.names) i i
              (record { from = 0; to = 0 }) l e in
              let w = tmax_small inst i fits l in
              let high : tmax inst i ≤ inst.periods = w.1 in
              subst (λ (s : Span). s.to ≤ 512) (sym f) (omega (arith, high, few_periods))
          at (inr l) =
              let e : length (root_box inst) ≡ length inst.names =
              length-map-range_with_len (λ j. record { from = 1; to = tmax inst j }) 0 (length inst.names) in
              let f : span_of (root_box inst) i ≡ record { from = 0; to = 0 } =
              get_or_past (root_box inst) i (record { from = 0; to = 0 }) (omega (arith, l, e)) in
              subst (λ (s : Span). s.to ≤ 512) (sym f) (omega arith)

  pub leaf_form : (m : ℕ) (n : Node) → m ≤ 16 → IsLeafInRange inst m n → IsLine (node_line n)
  leaf_form m (node.Split i last) few h = absurd h
  leaf_form m (node.Cost list) few h = omega (arith, few, h)
  leaf_form m node.Point few h = tt
  leaf_form m (node.Band c t side) few h =
      (let a = h.0 in omega (arith, few_resources, a), let a = h.2 in omega (arith, few_periods, a))
  leaf_form m (node.Excl e) few h = omega (arith, few_exclusions, h)
  leaf_form m (node.Empty i) few h = omega (arith, few_names, h)

  -- the lines of a tree are such, where those of each leaf and of each split in range are
  pub tree_such : (P : CertificateLine → Type 0) (m : ℕ) → ((n : Node) → IsLeafInRange inst m n → P (node_line n))
      → ((i last : ℕ) → i < length inst.names → last < 512 → P (line.Split (i + 1) last)) → (t : Tree)
      (box : List Span) → IsSmall box → IsTreeInRange inst m box t → AllByRecursion P (map node_line (pre_order t))
  tree_such P m such splits (leaf n) box small h = (such n h, tt)
  tree_such P m such splits (split i last l r) box small h =
      let each = small.each in
      let number = h.0.number in
      let end = small.to i in
      let last_small : last < 512 = let a = h.0.to in omega (arith, a, end) in
      let left = tree_such P m such splits l (below box i last)
      (set_small box i (record { from = (span_of box i).from; to = last }) small number (omega (arith, last_small)))
      h.1 in
      let right = tree_such P m such splits r (above box i last)
      (set_small box i (record { from = last + 1; to = (span_of box i).to }) small number end) h.2 in (
        splits i last (omega (arith, each, number)) last_small,
        subst
            (λ (ls : List CertificateLine). AllByRecursion P ls)
            (sym (map-append node_line (pre_order l) (pre_order r)))
            (each_append P (map node_line (pre_order l)) (map node_line (pre_order r)) left right),
      )

pub bound_form : (b : Bound) → IsBoundInRange b → IsLine (line.Bound b)
bound_form NoPlan h = tt
bound_form (Least n) h = omega (arith, h)

pub lines_have_forms : LinesHaveForms
lines_have_forms inst cert fits ok =
    let few : length cert.lists ≤ 16 = ok.few in
    let t : Tree = ok.tree.0 in
    let tree = subst (λ (ns : List Node). AllByRecursion IsLine (map node_line ns)) ok.tree.1.order
    (tree_such inst fits IsLine (length cert.lists) (λ n h. leaf_form inst fits (length cert.lists) n few h)
    (λ i last h l. (omega (arith, few_names inst fits, h), omega (arith, l))) t (root_box inst) (root_small inst fits)
    ok.tree.1.in_range) in
    All-from_recursion IsLine (certificate_lines inst cert) (
      tt,
      (
        bound_form cert.bound ok.bound,
        (
          omega (arith, few),
          each_append IsLine (flat_map (list_lines inst) cert.lists) (tree_lines cert.nodes)
              (lists_form inst fits cert.lists (recursion_from_All (IsPriceList inst) cert.lists ok.lists)) (tt, tree),
        ),
      ),
    )
