use Rattle.std.proofs.Common.{◌≡◌, ℕ, ◌++◌, ◌<◌, [], ◌∷◌, List, Vec, Global, map, length, get_or, string_bytes, sym}
use Rattle.std.proofs.Common.{◌∙◌, ap}
use Rattle.std.proofs.Common.{subst, arith, length-append, ◌≤◌}
use Rattle.std.proofs.lemmas.Iterator.Adapters.{YieldsList-from_vec}
use Rattle.std.proofs.lemmas.Iterator.Consumers.{YieldsList-turn}
use Rattle.std.proofs.lemmas.List.{get_or-map, length-map, map-append, length-set, get_or-set_other}
use Rattle.instance_rows.specs.declared.fill.WorkTables.{WorkTables}
use Rattle.instance_rows.specs.declared.rows.Work.{Work}
use Rattle.instance_rows.specs.FileRows.{WorkRow}
use Rattle.instance_rows.specs.Filled.{AreTablesOf, IsReady}
use Rattle.instance_rows.specs.Grid.{order_of}
use Rattle.instance_rows.specs.RowFaults.{used_durations}
use Rattle.instance_rows.specs.Views.{work_view}
use Rattle.instance_rows.proofs.fill.work_tables.Goals as goal

-- the intervention of a turn, with those before it
record IsTurn (works : List Work) (n : ℕ) (work : Work) : Type 0 where
  below : n < length works
  item : work ≡ get_or works n work

pub add_work-requires-clause-ready : goal.add_work-requires-clause-ready
add_work-requires-clause-ready c =
    let works = c.args.works.items in
    let h = c.into_iter-work-iterator.ensures.into_iter_gives in
    let t = YieldsList-turn (YieldsList-from_vec {s = c.into_iter-work-iterator.result} works h.0 (omega (arith, h.1)))
    c.loop-work.yielded c.loop-work.work-iterator c.loop-work.yielded_by c.next.result c.next.new.self c.in-Some.work
    c.in-Some.is c.next.ensures.steps in
    let w = work_view c.in-Some.work in
    let same : get_or (map work_view works) (length c.loop-work.yielded) w ≡ w =
    get_or-map work_view works (length c.loop-work.yielded) c.in-Some.work w t.0 ∙ ap work_view (sym t.1) in
    subst (IsReady c.args.periods) same
    (c.requires.ready (length c.loop-work.yielded) w (omega (arith, t.0, length-map works work_view)))

-- how many durations the tables of some interventions have
count : (periods : ℕ) (names : List (List ℕ)) (works : List Work) (t : WorkTables)
    → AreTablesOf periods names (map work_view works) t → length t.delta.items ≡ length works
count periods names works t a =
    let one : length (map (λ (v : Vec ℕ Global). v.items) t.delta.items) ≡ length t.delta.items =
    length-map t.delta.items (λ (v : Vec ℕ Global). v.items) in
    let two : length (map used_durations (map work_view works)) ≡ length works =
    length-map (map work_view works) used_durations ∙ length-map works work_view in
    omega (arith, one, two, ap length a.delta)

-- the order of a turn
own_order : (periods : ℕ) (works : List Work) (orders now : List (Vec ℕ Global)) (n : ℕ) (work : Work)
    (order other : Vec ℕ Global) → map (λ (o : Vec ℕ Global). o.items) orders
    ≡ map (λ w. order_of periods (work_view w)) works → IsTurn works n work
    → ((d : Vec ℕ Global) → get_or now n d ≡ get_or orders n d) → order ≡ get_or now n other
    → order.items ≡ order_of periods (work_view work)
own_order periods works orders now n work order other same t rest is =
    let d = order_of periods (work_view work) in
    let each : length orders ≡ length works = omega (
      arith,
      ap length same,
      length-map orders (λ (o : Vec ℕ Global). o.items),
      length-map works (λ w. order_of periods (work_view w)),
    ) in
    ap (λ (o : Vec ℕ Global). o.items) (is ∙ rest other)
    ∙ sym (get_or-map (λ (o : Vec ℕ Global). o.items) orders n other d (omega (arith, each, t.below)))
    ∙ ap (λ q. get_or q n d) same ∙ get_or-map (λ w. order_of periods (work_view w)) works n work d t.below
    ∙ ap (λ w. order_of periods (work_view w)) (sym t.item)

pub add_work-requires-clause-order : goal.add_work-requires-clause-order
add_work-requires-clause-order c =
    let works = c.args.works.items in let n = length c.loop-work.yielded in
    let names = map string_bytes c.args.resources.now.texts.keys in
    let h = c.into_iter-work-iterator.ensures.into_iter_gives in
    let t = YieldsList-turn (YieldsList-from_vec {s = c.into_iter-work-iterator.result} works h.0 (omega (arith, h.1)))
    c.loop-work.yielded c.loop-work.work-iterator c.loop-work.yielded_by c.next.result c.next.new.self c.in-Some.work
    c.in-Some.is c.next.ensures.steps in
    let i : c.len-in-loop-work.result ≡ n = omega (
      arith,
      c.len-in-loop-work.ensures,
      count c.args.periods names c.loop-work.yielded c.loop-work.tables c.loop-work.invariant.tables,
    ) in
    own_order c.args.periods works c.args.orders.items c.loop-work.orders.items n c.in-Some.work c.replace-order.result
    c.index_mut.result.now c.requires.orders (record { below = t.0; item = t.1 }) (λ d. c.loop-work.invariant.rest
    n d (omega arith)) (c.replace-order.ensures.value ∙ c.index_mut.ensures.value
    ∙ ap (λ k. get_or c.loop-work.orders.items k c.index_mut.result.now) i)

pub loop-work-preserved : goal.loop-work-preserved
loop-work-preserved c =
    let later : (k : ℕ) → length (c.loop-work.yielded ++ c.in-Some.work ∷ []) ≤ k → k ≡ c.len-in-loop-work.result → ⊥ =
    λ k l e. absurd (omega (
      arith,
      e,
      l,
      length-append c.loop-work.yielded (c.in-Some.work ∷ []),
      c.len-in-loop-work.ensures,
      count c.args.periods (map string_bytes c.args.resources.now.texts.keys) c.loop-work.yielded c.loop-work.tables
          c.loop-work.invariant.tables,
    )) in
    let names = map string_bytes c.args.resources.now.texts.keys in
    let i : c.len-in-loop-work.result ≡ length c.loop-work.yielded = omega (
      arith,
      c.len-in-loop-work.ensures,
      count c.args.periods names c.loop-work.yielded c.loop-work.tables c.loop-work.invariant.tables,
    ) in
    record {
      tables = subst (λ (ws : List WorkRow). AreTablesOf c.args.periods names ws c.add_work.new.tables)
          (sym (map-append work_view c.loop-work.yielded (c.in-Some.work ∷ [])))
          (c.in_ok-add_work.ensures (map work_view c.loop-work.yielded) c.loop-work.invariant.tables);
      each = length-set c.loop-work.orders.items c.len-in-loop-work.result c.replace-order.new.dest
          ∙ c.loop-work.invariant.each;
      rest = λ k d l.
          get_or-set_other c.loop-work.orders.items c.len-in-loop-work.result k c.replace-order.new.dest d
          (λ e. later k l e)
          ∙ c.loop-work.invariant.rest k d (omega (arith, l, length-append c.loop-work.yielded (c.in-Some.work ∷ [])));
    }

-- a turn's number is one of an order
in_orders : (periods : ℕ) (works : List Work) (orders now : List (Vec ℕ Global)) (n : ℕ) (work : Work)
    → map (λ (o : Vec ℕ Global). o.items) orders ≡ map (λ w. order_of periods (work_view w)) works
    → IsTurn works n work → length now ≡ length orders → n < length now
in_orders periods works orders now n work same t each =
    omega (
      arith,
      ap length same,
      length-map orders (λ (o : Vec ℕ Global). o.items),
      length-map works (λ w. order_of periods (work_view w)),
      t.below,
      each,
    )

pub index_mut-requires : goal.index_mut-requires
index_mut-requires c =
    let works = c.args.works.items in
    let h = c.into_iter-work-iterator.ensures.into_iter_gives in
    let t = YieldsList-turn (YieldsList-from_vec {s = c.into_iter-work-iterator.result} works h.0 (omega (arith, h.1)))
    c.loop-work.yielded c.loop-work.work-iterator c.loop-work.yielded_by c.next.result c.next.new.self c.in-Some.work
    c.in-Some.is c.next.ensures.steps in
    omega (
      arith,
      c.len-in-loop-work.ensures,
      count c.args.periods (map string_bytes c.args.resources.now.texts.keys) c.loop-work.yielded c.loop-work.tables
          c.loop-work.invariant.tables,
      in_orders c.args.periods works c.args.orders.items c.loop-work.orders.items (length c.loop-work.yielded)
          c.in-Some.work c.requires.orders (record { below = t.0; item = t.1 }) c.loop-work.invariant.each,
    )
