-- The first fault that the events of a text tell is the least of its faults of shape.
use Rattle.std.proofs.Common.{◌≡◌, ℕ, zero, suc, ◌+◌, ◌==◌, ◌<◌, ◌≤◌, ◌⊎◌, inl, inr, true, false, Option, Some, None}
use Rattle.std.proofs.Common.{List, [], ◌∷◌, ◌++◌, refl, sym, ◌∙◌, ap, subst, arith, ◌↔◌}
use Rattle.std.proofs.lemmas.Bool.Decides.{nat_tests}
use Rattle.std.specs.Prelude.{slice_get}
use Rattle.json_grammar.specs.Tree.{Tree, Event, events_of}
use Rattle.json_grammar.specs.Events.{event_at}
use Rattle.instance_model.specs.declared.limits.Limits.{Limits}
use Rattle.instance_shape.specs.declared.fault.Fault.{Fault}
use Rattle.instance_shape.specs.declared.fault.Flaw.{Flaw}
use Rattle.instance_shape.specs.declared.fault.Flaw.TheVariants as flaw
use Rattle.instance_shape.specs.declared.fault.Which.{Which}
use Rattle.instance_shape.specs.declared.fault.Which.TheVariants as which
use Rattle.instance_shape.specs.declared.spot.Spot.TheVariants as spot
use Rattle.instance_shape.specs.Shape.{placed}
use Rattle.instance_shape.specs.ShapeFaults.{where_so, row_of, is_risk, is_workload, numbers_at, values_faults}
use Rattle.instance_shape.specs.ShapeFaults.{count_faults, shape_faults, IsBefore, Among, IsLeast}
use Rattle.json_grammar.specs.Stream.{AscendFrom}
use Rattle.shape_walk.specs.Machine.{State, faults_at, faults_along, step, start, first_fault}
use Rattle.shape_walk.specs.Standing.{Walk, StandsAfter}
use Rattle.shape_walk.proofs.Along.{text_along}
use Rattle.shape_walk.proofs.Weighing.{weigh, weigh-append, past, value_weighs}
use Rattle.shape_walk.proofs.FaultCodes.{is_fault, among_weighs, weighs_among}
use Rattle.shape_walk.proofs.FaultRows.{Rows, event_rows}

among_cases : (a b : List Fault) (g : Fault) → Among (a ++ b) g → Among a g ⊎ Among b g
among_cases [] b g h = inr h
among_cases (f ∷ a) b g (inl h) = inl (inl h)
among_cases (f ∷ a) b g (inr h) = by (among_cases a b g h)
  where
    by : Among a g ⊎ Among b g → Among (f ∷ a) g ⊎ Among b g
    by (inl x) = inl (inr x)
    by (inr x) = inr x

at_row : (a k : ℕ) (fs : List Fault) (g : Fault) → Rows a k fs → Among fs g → (g.at ≡ a) × (k ≤ row_of g.flaw)
at_row a k [] g r h = absurd h
at_row a k (f ∷ fs) g r (inl h) =
    (ap (λ (x : Fault). x.at) (sym h) ∙ r.0, omega (arith, ap (λ (x : Fault). row_of x.flaw) h, r.1))
at_row a k (f ∷ fs) g r (inr h) = let x = at_row a (row_of f.flaw + 1) fs g r.2 h in (x.0, omega (arith, x.1, r.1))

-- no fault that events tell stands before them
later : (limits : Limits) (es : List Event) (s : State) (k : ℕ) → AscendFrom k es → (g : Fault)
    → Among (faults_along limits es s) g → k ≤ g.at
later limits [] s k h g m = absurd m
later limits (e ∷ es) s k h g m =
    by (later limits es (step e s) (event_at e + 1) h.1 g) (among_cases (faults_at limits e s) _ g m)
  where
    by : (Among (faults_along limits es (step e s)) g → event_at e + 1 ≤ g.at) → Among (faults_at limits e s) g
        ⊎ Among (faults_along limits es (step e s)) g → k ≤ g.at
    by f (inl x) = let y = at_row (event_at e) 0 (faults_at limits e s) g (event_rows limits e s) x in
        omega (arith, y.0, h.0)
    by f (inr x) = omega (arith, f x, h.0)

-- the first one is before all others
abbrev LeastFirst : List Fault → Type 0
LeastFirst [] = Unit {0}
LeastFirst (f ∷ fs) = (g : Fault) → Among fs g → IsBefore f g

joined : (a : ℕ) (xs ys : List Fault) → Rows a 0 xs → ((g : Fault) → Among ys g → a + 1 ≤ g.at) → LeastFirst ys
    → LeastFirst (xs ++ ys)
joined a [] ys r h l = l
joined a (f ∷ xs) ys r h l = λ g m. by g (among_cases xs ys g m)
  where
    by : (g : Fault) → Among xs g ⊎ Among ys g → IsBefore f g
    by g (inl x) = let y = at_row a (row_of f.flaw + 1) xs g r.2 x in inr (r.0 ∙ sym y.0, omega (arith, y.1))
    by g (inr x) = inl (omega (arith, h g x, r.0))

least_first : (limits : Limits) (es : List Event) (s : State) (k : ℕ) → AscendFrom k es
    → LeastFirst (faults_along limits es s)
least_first limits [] s k h = tt
least_first limits (e ∷ es) s k h =
    joined (event_at e) (faults_at limits e s) (faults_along limits es (step e s)) (event_rows limits e s)
    (later limits es (step e s) (event_at e + 1) h.1) (least_first limits es (step e s) (event_at e + 1) h.1)

past_over : (limit : ℕ) (f : Flaw) (r : ℕ) (ns : List ℕ) → limit < r → past limit f r ns ≡ []
past_over limit f r [] h = refl
past_over limit f r (n ∷ ns) h =
    let e : r == limit ≡ false = grind (arith, nat_tests) in
    ap (λ b. where_so b n f ++ past limit f (r + 1) ns) e ∙ past_over limit f (r + 1) ns (omega arith)

-- the number past a limit is the one behind as many as the limit allows
past_is : (limit : ℕ) (w : Which) (r d : ℕ) (ns : List ℕ) → limit ≡ r + d
    → past limit (flaw.Limit w) r ns ≡ count_faults (slice_get ns d) w
past_is limit w r d [] h = refl
past_is limit w r zero (n ∷ ns) h =
    let e : r == limit ≡ true = grind (arith, nat_tests) in
    ap (λ b. where_so b n (flaw.Limit w) ++ past limit (flaw.Limit w) (r + 1) ns) e
    ∙ ap (λ x. record { at = n; flaw = flaw.Limit w } ∷ x) (past_over limit (flaw.Limit w) (r + 1) ns (omega arith))
past_is limit w r (suc d) (n ∷ ns) h =
    let e : r == limit ≡ false = grind (arith, nat_tests) in
    ap (λ b. where_so b n (flaw.Limit w) ++ past limit (flaw.Limit w) (r + 1) ns) e
    ∙ past_is limit w (r + 1) d ns (omega arith)

-- the events of a text tell the faults of the definition
same_weights : (v : Fault → ℕ) (limits : Limits) (t : Tree) → weigh v (faults_along limits (events_of t) start)
    ≡ weigh v (shape_faults limits t)
same_weights v limits t =
    let all = placed spot.Root t in
    let values = values_faults limits all in
    let risks = count_faults (slice_get (numbers_at is_risk all) limits.risk_cells) which.RiskCells in
    let workloads =
    count_faults (slice_get (numbers_at is_workload all) limits.workload_entries) which.WorkloadEntries in
    omega (
      arith,
      ap (weigh v) (text_along limits t),
      value_weighs v limits spot.Root t 0 0,
      ap (weigh v)
          (past_is limits.risk_cells which.RiskCells 0 limits.risk_cells (numbers_at is_risk all) (omega arith)),
      ap (weigh v) (past_is limits.workload_entries which.WorkloadEntries 0 limits.workload_entries
          (numbers_at is_workload all) (omega arith)),
      weigh-append v (values ++ risks) workloads,
      weigh-append v values risks,
    )

-- the least fault, or none where there is none
abbrev pub Answers : List Fault → Option Fault → Type 0
Answers ds None = ds ≡ []
Answers ds (Some f) = IsLeast ds f

nothing_among : (ds : List Fault) → ((g : Fault) → Among ds g → ⊥) → ds ≡ []
nothing_among [] h = refl
nothing_among (d ∷ ds) h = absurd (h d (inl refl))

answered : (xs ds : List Fault) → ((v : Fault → ℕ) → weigh v xs ≡ weigh v ds) → LeastFirst xs
    → Answers ds (first_fault xs)
answered [] ds h l = nothing_among ds (λ g m. absurd (omega (arith, among_weighs g ds m, h (is_fault g))))
answered (f ∷ xs) ds h l = record {
  among = weighs_among f ds (omega (arith, h (is_fault f), among_weighs f (f ∷ xs) (inl refl)));
  least = λ g m. by g (weighs_among g (f ∷ xs) (omega (arith, h (is_fault g), among_weighs g ds m)));
}
  where
    by : (g : Fault) → Among (f ∷ xs) g → (g ≡ f) ⊎ IsBefore f g
    by g (inl x) = inl (sym x)
    by g (inr x) = inr (l g x)

pub text_answered : (limits : Limits) (t : Tree) → AscendFrom 0 (events_of t)
    → Answers (shape_faults limits t) (first_fault (faults_along limits (events_of t) start))
text_answered limits t h = answered (faults_along limits (events_of t) start) (shape_faults limits t)
    (λ v. same_weights v limits t) (least_first limits (events_of t) start 0 h)

-- there is one least fault at most
not_both : (f g : Fault) → IsBefore f g → IsBefore g f → ⊥
not_both f g (inl a) (inl b) = omega arith
not_both f g (inl a) (inr b) = omega (arith, b.0)
not_both f g (inr a) (inl b) = omega (arith, a.0)
not_both f g (inr a) (inr b) = omega (arith, a.1, b.1)

one_least : (ds : List Fault) (f g : Fault) → IsLeast ds f → IsLeast ds g → f ≡ g
one_least ds f g a b = by (a.least g b.among) (b.least f a.among)
  where
    by : (g ≡ f) ⊎ IsBefore f g → (f ≡ g) ⊎ IsBefore g f → f ≡ g
    by (inl x) y = sym x
    by (inr x) (inl y) = y
    by (inr x) (inr y) = absurd (not_both f g x y)

none_among : (ds : List Fault) (f : Fault) → ds ≡ [] → Among ds f → ⊥
none_among ds f e m = subst (λ xs. Among xs f) e m

-- what was answered is none exactly where there is no fault
pub none_exactly : (ds : List Fault) (o : Option Fault) → Answers ds o → (o ≡ None) ↔ (ds ≡ [])
none_exactly ds None a = (λ e. a, λ e. refl)
none_exactly ds (Some f) a = (λ e. cc, λ e. absurd (none_among ds f e a.among))

-- and a fault exactly where that is the least
pub some_exactly : (ds : List Fault) (o : Option Fault) → Answers ds o → (f : Fault) → (o ≡ Some f) ↔ IsLeast ds f
some_exactly ds None a f = (λ e. cc, λ l. absurd (none_among ds f a l.among))
some_exactly ds (Some g) a f =
    (λ e. let same : g ≡ f = cc in subst (IsLeast ds) same a, λ l. ap Some (one_least ds g f a l))

-- the fault of a walk that has taken the events of a text
pub fault_answered : (limits : Limits) (root : Tree) (walk : Walk) → AscendFrom 0 (events_of root)
    → StandsAfter limits walk (events_of root) → Answers (shape_faults limits root) walk.fault
fault_answered limits root walk h s =
    subst (Answers (shape_faults limits root)) (sym s.first) (text_answered limits root h)
