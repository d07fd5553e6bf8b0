-- The state of a search as it is kept: what its calls need, and what a step leaves.
use Rattle.std.proofs.Common.{◌≡◌, ℕ, ◌+◌, ◌-◌, ◌<◌, ◌≤◌, refl, sym, ◌∙◌, ap, subst, arith, ℤ}
use Rattle.std.proofs.Common.{◌≤ℤ◌, ◌<ℤ◌, List, [], ◌∷◌, length, get_or, All, Contains, IfSome, Option, Some, None}
use Rattle.std.proofs.Common.{◌^◌, unsigned_abs}
use Rattle.std.specs.Prelude.{IsPermutation}
use Rattle.std.proofs.lemmas.List.Elements.{All-contains, All-nil, All-cons}
use Rattle.std.proofs.lemmas.List.Sorted.{Contains-permutation}
use Rattle.fixed_num.proofs.SignedLemmas.{signed_arith}
use Rattle.instance_model.specs.Tables.{Tables}
use Rattle.instance_model.specs.Fitting.{IsFitting}
use Rattle.lagrange_bound.specs.declared.span.Span.{Span}
use Rattle.lagrange_bound.specs.Prices.{PriceList, IsPriceList}
use Rattle.lagrange_bound.specs.Goals.{Bases, PlanValue}
use Rattle.lagrange_bound.specs.Boxes.{IsBox}
use Rattle.lagrange_bound.specs.Tabulated.{PriceRows}
use Rattle.certificate_lines.specs.declared.line.Version.{Version}
use Rattle.certificate_lines.specs.declared.line.Version.TheVariants.{Two}
use Rattle.certificate_tree.specs.declared.node.Node.{Node}
use Rattle.certificate_tree.specs.declared.node.Node.TheVariants.{Cost}
use Rattle.certificate_tree.specs.Trees.{IsSplit}
use Rattle.certificate_tree.specs.Ranges.{HasPricesOf, IsBoundInRange, IsInRange}
use Rattle.certificate_tree.specs.Holding.{worth_by, IsSingle}
use Rattle.certificate_tree.specs.Validity.{BoundBoxes}
use Rattle.certificate_tree.specs.PriceTables.{table_worths, AreTables}
use Rattle.branch_search.specs.declared.part.Part.{Part}
use Rattle.branch_search.specs.declared.best.Best.{Best}
use Rattle.branch_search.specs.declared.tree.cell.Cell.{Cell}
use Rattle.branch_search.specs.declared.tree.growth.Growth.{Growth}
use Rattle.branch_search.specs.declared.splitting.settling.Settled.{Settled}
use Rattle.branch_search.specs.declared.search_end.SearchEnd.{SearchEnd}
use Rattle.branch_search.specs.declared.tree_end.TreeEnd.{TreeEnd}
use Rattle.branch_search.specs.Best.{IsShort}
use Rattle.branch_search.specs.Searched.{lists_of, IsSearched}
use Rattle.branch_search.specs.Tasks.{Task, freed}
use Rattle.branch_search.specs.Boxes.{IsUnrefuted}
use Rattle.branch_search.specs.CurrentBoxes.{IsCurrentBox}
use Rattle.branch_search.specs.Growing.{box_at, node_at, split_cells, AreBoxesOf}
use Rattle.branch_search.specs.Settled.{ArePartsOf}
use Rattle.branch_search.specs.Valued.{plan_in, IsSmallValue, IsBelow, IsValued}
use Rattle.branch_search.specs.Entries.{with_entry}
use Rattle.branch_search.specs.Parts.{IsOfPart, whole_part, IsGoneOnBy}
use Rattle.branch_search.specs.Aside.{IsLeastWorth}
use Rattle.branch_search.specs.States.{IsEntry, IsGrown, IsGrowth, IsLeftWorth, IsKept}
use Rattle.branch_search.proofs.WorthLemmas.{GrowInParts}
use Rattle.branch_search.proofs.LeafLemmas.{below_is_at_most}
use Rattle.branch_search.proofs.EntryLemmas.{all_front, all_back, popped}
use Rattle.branch_search.proofs.AsideLemmas.{least_small, below_less}
use Rattle.branch_search.proofs.StepLemmas.{waits_at, grown_more}
use Rattle.branch_search.proofs.EndLemmas.{below_short}
use Rattle.branch_search.proofs.GoneLemmas.{whole_searched, whole_splits}
use Rattle.branch_search.proofs.SamePartLemmas.{gone_on_same}

-- ---- sizes
small_value : (value : PlanValue) (inst : Tables) (best : Option Best) → IsValued value inst best → IsSmallValue best
small_value value inst None v = tt
small_value value inst (Some best) v = v.small

pub kept_of : (task : Task) (part : Part) (growth : Growth) → IsGrowth task part growth → IsKept growth
kept_of task part growth g = record {
  value = small_value task.value task.inst growth.best g.valued;
  worths = all_front (λ (e : ℤ × ℕ). unsigned_abs e.0 < 10 ^ 37) growth.waiting g.aside
      (λ k d l. (g.state.waits.sound k d l).small);
  aside = least_small growth.aside g.aside g.least
      (all_back (λ (e : ℤ × ℕ). unsigned_abs e.0 < 10 ^ 37) growth.waiting g.aside
      (λ k d l. (g.state.waits.sound k d l).small));
}

-- ---- the entry that is taken out
popped_least : (entries rest : List (ℤ × ℕ)) (y z : ℤ) (n k : ℕ) → IsPermutation entries ((y, n) ∷ rest)
    → All (λ o. y ≤ℤ o.0) rest → Contains entries (z, k) → y ≤ℤ z
popped_least entries rest y z n k p l c = All-contains (λ (o : ℤ × ℕ). y ≤ℤ o.0) ((y, n) ∷ rest) (z, k)
    (All-cons (λ (o : ℤ × ℕ). y ≤ℤ o.0) (y, n) rest (omega (arith, signed_arith)) l)
    (Contains-permutation entries ((y, n) ∷ rest) (z, k) p c)

popped_short : (value : PlanValue) (inst : Tables) (best : Option Best) (entries rest : List (ℤ × ℕ)) (y z : ℤ) (n : ℕ)
    → IsValued value inst best → IsLeftWorth best entries z → IsPermutation entries ((y, n) ∷ rest)
    → All (λ o. y ≤ℤ o.0) rest → IsShort value inst (plan_in best) y
popped_short value inst best entries rest y z n v w p l = below_short value inst best y v
    (below_less best y z (popped_least entries rest y z n w.number p l w.member) w.below)

popped_entry : (task : Task) (part : Part) (growth : Growth) (g : IsGrowth task part growth) (rest : List (ℤ × ℕ))
    (y : ℤ) (n : ℕ)
    → IsPermutation growth.waiting ((y, n) ∷ rest) → IsEntry task growth.cells.items g.state.boxes (y, n)
popped_entry task part growth g rest y n p = All-contains (IsEntry task growth.cells.items g.state.boxes)
    growth.waiting (y, n)
    (all_front (IsEntry task growth.cells.items g.state.boxes) growth.waiting g.aside g.state.waits.sound)
    (popped growth.waiting rest (y, n) p)

pub popped_known : (task : Task) (part : Part) (growth : Growth) (rest : List (ℤ × ℕ)) (y : ℤ) (n : ℕ)
    → IsGrowth task part growth
    → IsPermutation growth.waiting ((y, n) ∷ rest) → n < length growth.cells.items
popped_known task part growth rest y n g p = (popped_entry task part growth g rest y n p).within

pub popped_box : (task : Task) (part : Part) (growth : Growth) (g : IsGrowth task part growth) (rest : List (ℤ × ℕ))
    (y : ℤ) (n : ℕ)
    (spans : List Span) → IsPermutation growth.waiting ((y, n) ∷ rest) → spans ≡ box_at g.state.boxes n
    → IsBox task.inst spans
popped_box task part growth g rest y n spans p e = subst (IsBox task.inst) (sym e)
    (g.state.are_boxes.boxed n (popped_entry task part growth g rest y n p).within)

pub popped_several : (task : Task) (part : Part) (growth : Growth) (g : IsGrowth task part growth)
    (rest : List (ℤ × ℕ)) (y : ℤ) (n : ℕ)
    (spans : List Span) → IsPermutation growth.waiting ((y, n) ∷ rest) → spans ≡ box_at g.state.boxes n
    → IsSingle spans → ⊥
popped_several task part growth g rest y n spans p e s =
    let x = popped_entry task part growth g rest y n p in
    (waits_at task (plan_in growth.best) (box_at g.state.boxes n)
    (node_at growth.cells.items n) x.list x.node (g.state.settled n x.within)).several
    (subst IsSingle e s)

pub popped_unrefuted : (task : Task) (part : Part) (growth : Growth) (g : IsGrowth task part growth)
    (rest : List (ℤ × ℕ)) (y : ℤ) (n : ℕ)
    (spans : List Span) → IsPermutation growth.waiting ((y, n) ∷ rest) → spans ≡ box_at g.state.boxes n
    → IsUnrefuted task.inst spans
popped_unrefuted task part growth g rest y n spans p e =
    let x = popped_entry task part growth g rest y n p in
    subst (IsUnrefuted task.inst) (sym e) (waits_at task (plan_in growth.best) (box_at g.state.boxes n)
    (node_at growth.cells.items n) x.list x.node (g.state.settled n x.within)).unrefuted

-- the box of the entry that was taken out, as it was made afresh
pub record IsPopped (inst : Tables) (boxes : List (List Span)) (count n : ℕ) (spans : List Span) : Type 0 where
  pub known : n < count
  pub box_is : spans ≡ box_at boxes n
  pub box : IsBox inst spans
  pub unrefuted : IsUnrefuted inst spans
  pub several : ¬ IsSingle spans

pub popped_made : (task : Task) (part : Part) (growth : Growth) (g : IsGrowth task part growth) (rest : List (ℤ × ℕ))
    (y : ℤ) (n : ℕ)
    (cells : List Cell) (spans : List Span) → IsPermutation growth.waiting ((y, n) ∷ rest)
    → cells ≡ growth.cells.items
    → ((boxes : List (List Span)) → AreBoxesOf task.inst cells boxes → spans ≡ box_at boxes n)
    → IsPopped task.inst g.state.boxes (length growth.cells.items) n spans
popped_made task part growth g rest y n cells spans p e made =
    let is = made g.state.boxes (subst (λ (c : List Cell). AreBoxesOf task.inst c g.state.boxes) (sym e)
    g.state.are_boxes) in
    record {
      known = popped_known task part growth rest y n g p;
      box_is = is;
      box = popped_box task part growth g rest y n spans p is;
      unrefuted = popped_unrefuted task part growth g rest y n spans p is;
      several = popped_several task part growth g rest y n spans p is;
    }

-- a plan whose value is below that of the best one is better
pub better_than : (value : PlanValue) (inst : Tables) (best : Option Best) (z : ℤ) (starts plan : List ℕ)
    → starts ≡ plan → IsValued value inst best → IsBelow best z → z ≡ value inst starts → (other : List ℕ)
    → plan_in best ≡ Some other → value inst plan ≤ℤ value inst other
better_than value inst best z starts plan e v b is other f =
    let s = subst (λ (o : Option (List ℕ)). IsShort value inst o z) f (below_short value inst best z v b) in
    below_is_at_most (value inst plan) (value inst other)
    (subst (λ (x : ℤ). x <ℤ value inst other) (is ∙ ap (value inst) e) s)

-- ---- a step
pub step_kept : (task : Task) (part : Part) (old new : Growth) (n i m c1 c2 : ℕ) (left right : Settled) (y z : ℤ)
    (rest mid : List (ℤ × ℕ)) (spans : List Span)
    → BoundBoxes task.value task.inst task.lists task.worths → GrowInParts task.inst task.lists task.worths
    → (g : IsGrowth task part old) → IsLeftWorth old.best old.waiting z → IsPermutation old.waiting ((y, n) ∷ rest)
    → All (λ o. y ≤ℤ o.0) rest → spans ≡ box_at g.state.boxes n → IsSplit spans i m
    → ArePartsOf (freed task) spans i m (plan_in old.best) (plan_in new.best) left right
    → new.cells.items ≡ split_cells old.cells.items n i m left.node right.node
    → c1 ≡ length old.cells.items → c2 ≡ length old.cells.items + 1
    → IsPermutation (with_entry left.worth c1 rest) mid → IsPermutation (with_entry right.worth c2 mid) new.waiting
    → new.aside ≡ old.aside → new.splits ≡ old.splits + 1 → IsValued task.value task.inst new.best
    → IsCurrentBox task.inst new.current
    → IsGrowth task part new
step_kept task part old new n i m c1 c2 left right y z rest mid spans law grow g w p l e s parts cells d1 d2 pl pr
    same splits v current =
    let short = popped_short task.value task.inst old.best old.waiting rest y z n g.valued w p l in
    let next = grown_more task (IsOfPart part) g.given old.cells.items n i m left right (plan_in old.best)
    (plan_in new.best) y old.waiting rest mid new.waiting g.aside g.seen old.splits g.state p l short
    law grow
    (subst (λ (b : List Span). IsSplit b i m) e s)
    (subst
    (λ (b : List Span). ArePartsOf (freed task) b i m (plan_in old.best) (plan_in new.best) left right) e parts)
    (subst (λ (c : ℕ). IsPermutation (with_entry left.worth c rest) mid) d1 pl)
    (subst (λ (c : ℕ). IsPermutation (with_entry right.worth c mid) new.waiting) d2 pr) in
    record {
      given = g.given;
      of_nodes = g.of_nodes;
      aside = g.aside;
      least = subst (λ (x : Option ℤ). IsLeastWorth x g.aside) (sym same) g.least;
      seen = g.seen;
      state = subst (λ (c : List Cell). IsGrown task (IsOfPart part) g.given c new.waiting g.aside (plan_in new.best)
          g.seen new.splits) (sym cells)
          (subst (λ (k : ℕ). IsGrown task (IsOfPart part) g.given
          (split_cells old.cells.items n i m left.node right.node) new.waiting g.aside (plan_in new.best) g.seen k)
          (sym splits) next);
      valued = v;
      current = current;
    }

-- ---- by price lists
pub searched_by_lists : (base : Bases) (value : PlanValue) (inst : Tables) (prices : Option PriceList)
    (incumbent : Option (List ℕ)) (turns : ℕ) (lists : List PriceList) (tables : List PriceRows) (answer : SearchEnd)
    → IsFitting inst → AreTables base inst lists tables → lists ≡ lists_of prices
    → IsGoneOnBy value inst (length tables - 1) (table_worths tables) incumbent (Cost 0 ∷ []) whole_part turns answer
    → IsSearched base value inst prices incumbent turns (record {
      cert = record { version = Two; bound = answer.bound; lists = lists; nodes = answer.nodes };
      best = answer.best;
      unfinished = answer.unfinished;
    })
searched_by_lists base value inst prices incumbent turns lists tables answer fits h e s =
    let each : length tables - 1 ≡ length lists = omega (arith, h.each) in
    let one : List Node = Cost 0 ∷ [] in
    let gone_on = gone_on_same value inst (length lists) (table_worths tables) (worth_by base inst lists) incumbent one
    whole_part turns answer fits h.same
    (subst (λ (n : ℕ). IsGoneOnBy value inst n (table_worths tables) incumbent one whole_part turns answer) each s) in
    record {
      version = refl;
      lists = e;
      by = whole_searched value inst (length lists) (worth_by base inst lists) incumbent one turns answer gone_on;
      splits = whole_splits value inst (length lists) (worth_by base inst lists) incumbent one turns answer gone_on
          refl;
    }

-- ---- ranges
lists_in_range : (inst : Tables) (prices : Option PriceList) → IfSome prices (IsPriceList inst)
    → (length (lists_of prices) ≤ 1) × All (IsPriceList inst) (lists_of prices)
lists_in_range inst None h = (omega arith, All-nil (IsPriceList inst))
lists_in_range inst (Some prices) h = (
  omega arith,
  All-cons (IsPriceList inst) prices [] h (All-nil (IsPriceList
      inst)),
)

pub lists_known : (inst : Tables) (prices : Option PriceList) (lists : List PriceList)
    → IfSome prices (IsPriceList inst) → lists ≡ lists_of prices
    → (length lists ≤ 1) × All (IsPriceList inst) lists
lists_known inst prices lists h e =
    subst (λ (xs : List PriceList). (length xs ≤ 1) × All (IsPriceList inst) xs) (sym e) (lists_in_range inst prices h)

pub answer_in_range : (base : Bases) (value : PlanValue) (inst : Tables) (prices : Option PriceList)
    (incumbent : Option (List ℕ)) (turns : ℕ) (answer : TreeEnd) → IfSome prices (IsPriceList inst)
    → IsSearched base value inst prices incumbent turns answer → IsBoundInRange answer.cert.bound
    → IsInRange inst answer.cert
answer_in_range base value inst prices incumbent turns answer p h b =
    let w = lists_known inst prices answer.cert.lists p h.lists in
    record {
      bound = b;
      few = omega (arith, w.0);
      lists = w.1;
      version = λ k d l. subst (λ (v : Version). HasPricesOf v (get_or answer.cert.lists k d)) (sym h.version) tt;
      tree = (h.by.tree, h.by.of_nodes);
    }
