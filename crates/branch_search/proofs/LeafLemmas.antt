-- Settled leaves: whatever plan was handed in, and when the best plan gets better.
use Rattle.std.proofs.Common.{◌≡◌, ℕ, inl, inr, refl, sym, ◌∙◌, subst, arith, ℤ, ◌≤ℤ◌, ◌<ℤ◌, List}
use Rattle.std.proofs.Common.{Option, Some, None}
use Rattle.fixed_num.proofs.SignedLemmas.{signed_arith}
use Rattle.instance_model.specs.Tables.{Tables}
use Rattle.lagrange_bound.specs.Goals.{PlanValue}
use Rattle.lagrange_bound.specs.declared.span.Span.{Span}
use Rattle.lagrange_bound.specs.Boxes.{span_of}
use Rattle.certificate_tree.specs.declared.node.Node.{Node}
use Rattle.certificate_tree.specs.declared.node.Node.TheVariants.{Split, Cost, Point, Band, Excl, Empty}
use Rattle.certificate_lines.specs.declared.line.Bound.{Bound}
use Rattle.certificate_lines.specs.declared.line.Bound.TheVariants.{NoPlan, Least}
use Rattle.certificate_tree.specs.Trees.{below, above, IsSplit}
use Rattle.certificate_tree.specs.Ranges.{IsLeafInRange}
use Rattle.certificate_tree.specs.Holding.{IsAtLeast, LeafHolds, first_starts}
use Rattle.certificate_tree.proofs.StartLemmas.{has_start_from, start_found}
use Rattle.branch_search.specs.declared.splitting.settling.Settled.{Settled}
use Rattle.branch_search.specs.Best.{IsReached, IsBestOver}
use Rattle.branch_search.specs.Tasks.{Task, freed}
use Rattle.branch_search.specs.Growing.{IsLeafNode}
use Rattle.branch_search.specs.Settled.{IsWaitingBox, IsSettled, IsWorthOf, IsBetterIn, IsImprovedIn, IsLeafOf}
use Rattle.branch_search.specs.Settled.{ArePartsOf}
use Rattle.branch_search.specs.Refuting.{IsRefuting}
use Rattle.branch_search.proofs.WorthLemmas.{IsPart, plan_of_part, below_is_part, above_is_part}

pub at_most_trans : (a b c : ℤ) → a ≤ℤ b → b ≤ℤ c → a ≤ℤ c
at_most_trans a b c h k = omega (arith, signed_arith)

pub below_at_most : (a b c : ℤ) → a <ℤ b → b ≤ℤ c → a <ℤ c
below_at_most a b c h k = omega (arith, signed_arith)

pub at_most_below : (a b c : ℤ) → a ≤ℤ b → b <ℤ c → a <ℤ c
at_most_below a b c h k = omega (arith, signed_arith)

pub below_is_at_most : (a b : ℤ) → a <ℤ b → a ≤ℤ b
below_is_at_most a b h = omega (arith, signed_arith)

pub none_is_not_some : {A : Type 0} (x : A) → None ≡ Some x → ⊥
none_is_not_some x e = cc

pub some_is : {A : Type 0} (x y : A) → Some x ≡ Some y → x ≡ y
some_is x y e = cc

-- ---- a refuting leaf
pub refuting_leaf : (inst : Tables) (box : List Span) (node : Node) → IsRefuting inst box node → IsLeafNode node
refuting_leaf inst box (Split i m) h = h
refuting_leaf inst box (Cost j) h = tt
refuting_leaf inst box Point h = tt
refuting_leaf inst box (Band c t s) h = tt
refuting_leaf inst box (Excl e) h = tt
refuting_leaf inst box (Empty i) h = tt

pub refuting_settled : (task : Task) (best : Option (List ℕ)) (box : List Span) (node : Node)
    → IsRefuting task.inst box node → IsSettled task best box node
refuting_settled task best box (Split i m) h = absurd h
refuting_settled task best box (Cost j) h = absurd h
refuting_settled task best box Point h = absurd h
refuting_settled task best box (Band c t s) h = ((h.resource, h.from, h.to), h.holds)
refuting_settled task best box (Excl e) h = (h.number, h.holds)
refuting_settled task best box (Empty i) h =
    (h.number, λ s a. h.none (has_start_from task.inst i s (span_of box i) a))

pub refuting_worth : (task : Task) (box : List Span) (node : Node) → IsRefuting task.inst box node
    → IsWorthOf task box node None
refuting_worth task box (Split i m) h = refl
refuting_worth task box (Cost j) h = absurd h
refuting_worth task box Point h = refl
refuting_worth task box (Band c t s) h = refl
refuting_worth task box (Excl e) h = refl
refuting_worth task box (Empty i) h = refl

-- ---- whatever plan was handed in
pub settled_for : (task : Task) (best : Option (List ℕ)) (box : List Span) (node : Node) → IsLeafNode node
    → IsSettled (freed task) best box node → IsSettled task best box node
settled_for task best box (Split i m) l h = absurd l
settled_for task best box (Cost j) l h =
    record { unrefuted = h.unrefuted; several = h.several; list = h.list }
settled_for task best box Point l h = h
settled_for task best box (Band c t s) l h = h
settled_for task best box (Excl e) l h = h
settled_for task best box (Empty i) l h = h

pub worth_for : (task : Task) (box : List Span) (node : Node) (worth : Option ℤ) → IsWorthOf (freed task) box node worth
    → IsWorthOf task box node worth
worth_for task box (Split i m) worth h = h
worth_for task box (Cost j) worth h = h
worth_for task box Point worth h = h
worth_for task box (Band c t s) worth h = h
worth_for task box (Excl e) worth h = h
worth_for task box (Empty i) worth h = h

pub leaf_for : (task : Task) (best : Option (List ℕ)) (box : List Span) (leaf : Settled)
    → IsLeafOf (freed task) best box leaf → IsLeafOf task best box leaf
leaf_for task best box leaf h = record {
  no_split = h.no_split;
  settled = settled_for task best box leaf.node h.no_split h.settled;
  worth = worth_for task box leaf.node leaf.worth h.worth;
  small = h.small;
}

-- ---- a given leaf
pub at_least_more : (bound : Bound) (x y : ℤ) → IsAtLeast bound x → x ≤ℤ y → IsAtLeast bound y
at_least_more NoPlan x y h l = absurd h
at_least_more (Least b) x y h l = at_most_trans b x y h l

-- where a given leaf holds, a box that waits has a worth of at least its bound
pub given_under : (task : Task) (bound : Bound) (box : List Span) (given : Node) (j : ℕ)
    → IsLeafInRange task.inst task.lists given → LeafHolds task.value task.inst bound task.worths box given
    → IsWaitingBox task box j → IsAtLeast bound (task.worths box j)
given_under task bound box (Split i m) j r h w = absurd r
given_under task bound box (Cost k) j r h w =
    at_least_more bound (task.worths box k) (task.worths box j) h.worth (w.list.greatest k r)
given_under task bound box Point j r h w = absurd (w.several h.single)
given_under task bound box (Band c t s) j r h w = absurd (w.unrefuted.bands c t s r.0 r.1 r.2 h)
given_under task bound box (Excl e) j r h w = absurd (w.unrefuted.excls e r h)
given_under task bound box (Empty i) j r h w =
    let start = start_found task.inst i (span_of box i) (w.unrefuted.starts i r) in absurd (h start.0 start.1)

-- ---- a better plan
pub still_reached : (value : PlanValue) (inst : Tables) (box : List Span) (old new : Option (List ℕ)) (z : ℤ)
    → IsImprovedIn value inst box old new → IsReached value inst old z → IsReached value inst new z
still_reached value inst box old new z (inl e) h =
    subst (λ (o : Option (List ℕ)). IsReached value inst o z) (sym e) h
still_reached value inst box None new z (inr w) h = absurd h
still_reached value inst box (Some other) new z (inr (plan, e, b)) h =
    subst (λ (o : Option (List ℕ)). IsReached value inst o z) (sym e)
    (at_most_trans (value inst plan) (value inst other) z (b.better other refl) h)

pub still_settled : (task : Task) (box : List Span) (old new : Option (List ℕ)) (here : List Span) (node : Node)
    → IsImprovedIn task.value task.inst box old new → IsSettled task old here node → IsSettled task new here node
still_settled task box old new here (Split i m) w h = h
still_settled task box old new here (Cost j) w h = h
still_settled task box old new here Point w h =
    (h.0, λ f. still_reached task.value task.inst box old new (task.value task.inst (first_starts here)) w (h.1 f))
still_settled task box old new here (Band c t s) w h = h
still_settled task box old new here (Excl e) w h = h
still_settled task box old new here (Empty i) w h = h

pub still_leaf : (task : Task) (box : List Span) (old new : Option (List ℕ)) (here : List Span) (leaf : Settled)
    → IsImprovedIn task.value task.inst box old new → IsLeafOf task old here leaf → IsLeafOf task new here leaf
still_leaf task box old new here leaf w h = record {
  no_split = h.no_split;
  settled = still_settled task box old new here leaf.node w h.settled;
  worth = h.worth;
  small = h.small;
}

-- the best plan over the one handed in, once it gets better
pub still_best : (task : Task) (box : List Span) (old new : Option (List ℕ))
    → IsImprovedIn task.value task.inst box old new
    → IsBestOver task.value task.inst task.incumbent old → IsBestOver task.value task.inst task.incumbent new
still_best task box old new (inl e) h = subst (IsBestOver task.value task.inst task.incumbent) (sym e) h
still_best task box old new (inr (plan, e, b)) h =
    subst (IsBestOver task.value task.inst task.incumbent) (sym e) (record {
      feasible = record { each = b.inside.each; feasible = b.inside.feasible };
      at_most = at old b h;
    })
  where
    at : (old : Option (List ℕ)) → IsBetterIn task.value task.inst box old plan
        → IsBestOver task.value task.inst task.incumbent old
        → (given : List ℕ) → task.incumbent ≡ Some given → task.value task.inst plan ≤ℤ task.value task.inst given
    at None b h given f = absurd (none_is_not_some given (sym h ∙ f))
    at (Some other) b h given f = at_most_trans (task.value task.inst plan) (task.value task.inst other)
        (task.value task.inst given) (b.better other refl) (h.at_most given f)

-- ---- one part after the other
pub improved_in_part : (value : PlanValue) (inst : Tables) (part box : List Span) (old new : Option (List ℕ))
    → IsPart part box → IsImprovedIn value inst part old new → IsImprovedIn value inst box old new
improved_in_part value inst part box old new p (inl e) = inl e
improved_in_part value inst part box old new p (inr (plan, e, b)) =
    inr (plan, e, record { inside = plan_of_part inst part box plan p b.inside; better = b.better })

pub improved_twice : (value : PlanValue) (inst : Tables) (box : List Span) (old mid new : Option (List ℕ))
    → IsImprovedIn value inst box old mid → IsImprovedIn value inst box mid new → IsImprovedIn value inst box old new
improved_twice value inst box old mid new first (inl e) =
    subst (λ (o : Option (List ℕ)). IsImprovedIn value inst box old o) (sym e) first
improved_twice value inst box old mid new (inl e) (inr w) = inr (subst
    (λ (o : Option (List ℕ)). (plan : List ℕ) × (new ≡ Some plan) × IsBetterIn value inst box o plan) e w)
improved_twice value inst box old mid new (inr (first, f, b)) (inr (plan, e, c)) = inr (
  plan,
  e,
  record {
    inside = c.inside;
    better = λ other g. at_most_trans (value inst plan) (value inst first) (value inst other) (c.better first f)
        (b.better other g);
  },
)

pub parts_settled : (task : Task) (box : List Span) (i m : ℕ) (old mid new : Option (List ℕ)) (left right : Settled)
    → IsSplit box i m → IsLeafOf task mid (below box i m) left
    → IsImprovedIn task.value task.inst (below box i m) old mid → IsLeafOf task new (above box i m) right
    → IsImprovedIn task.value task.inst (above box i m) mid new → ArePartsOf task box i m old new left right
parts_settled task box i m old mid new left right s hl il hr ir = record {
  left_is = still_leaf task (above box i m) mid new (below box i m) left ir hl;
  right_is = hr;
  improved = improved_twice task.value task.inst box old mid new
      (improved_in_part task.value task.inst (below box i m) box old mid (below_is_part box i m s) il)
      (improved_in_part task.value task.inst (above box i m) box mid new (above_is_part box i m s) ir);
}

-- a plan of the box that was judged before
pub parts_after : (task : Task) (box : List Span) (i m : ℕ) (old mid new : Option (List ℕ)) (left right : Settled)
    → IsImprovedIn task.value task.inst box old mid → ArePartsOf task box i m mid new left right
    → ArePartsOf task box i m old new left right
parts_after task box i m old mid new left right first parts = record {
  left_is = parts.left_is;
  right_is = parts.right_is;
  improved = improved_twice task.value task.inst box old mid new first parts.improved;
}
