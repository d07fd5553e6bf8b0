use Rattle.std.proofs.Common.{◌∙◌, sym, subst, arith, length}
use Rattle.std.specs.Prelude.{option_map, ◌-◌}
use Rattle.certificate_lines.specs.declared.line.Bound.{Bound}
use Rattle.certificate_tree.specs.Trees.{root_box}
use Rattle.certificate_tree.specs.PriceTables.{table_worths}
use Rattle.branch_search.specs.Best.{Reaches}
use Rattle.branch_search.specs.Splits.{split_count}
use Rattle.branch_search.specs.Tasks.{task_of}
use Rattle.branch_search.proofs.WorthLemmas.{tables_grow}
use Rattle.branch_search.proofs.EndLemmas.{no_lower, no_plan}
use Rattle.branch_search.proofs.FloorLemmas.{root_floor}
use Rattle.branch_search.proofs.StateLemmas.{kept_of}
use Rattle.branch_search.proofs.GoneLemmas.{gone_on}
use Rattle.branch_search.proofs.SplitLemmas.{given_nodes}
use Rattle.branch_search.proofs.RangeLemmas.{few_nodes}
use Rattle.branch_search.proofs.searching.go_on_part.Goals as goal

pub finish-requires-clause-kept : goal.finish-requires-clause-kept
finish-requires-clause-kept g c =
    kept_of (task_of (g.G.Goal.value_gives c.args.goal.now) c.args.inst.now c.args.tables.now c.args.nodes.now
    (option_map (λ given. given.now) c.args.incumbent)) c.args.part c.grow.new.growth c.in_ok-grow.ensures.state

pub returns-clause-gone_on : goal.returns-clause-gone_on
returns-clause-gone_on g c =
    let state = c.in_ok-grow.ensures.state in
    gone_on (task_of (g.G.Goal.value_gives c.args.goal.now) c.args.inst.now c.args.tables.now c.args.nodes.now
    (option_map (λ given. given.now) c.args.incumbent)) c.args.part c.grow.new.growth state c.args.turns
    c.in_ok-answer.answer c.fits.ensures c.requires.part (c.in_ok-answer.ensures state.aside state.least)
    c.in_ok-grow.ensures.few c.in_ok-grow.ensures.spent

pub returns-clause-proved : goal.returns-clause-proved
returns-clause-proved g c =
    let s = (returns-clause-gone_on g c).by in record { tree = s.tree; of_nodes = s.of_nodes; holds = s.holds }

pub returns-clause-tree : goal.returns-clause-tree
returns-clause-tree g c = let s = (returns-clause-gone_on g c).by in (s.tree, s.of_nodes)

pub returns-clause-floor : goal.returns-clause-floor
returns-clause-floor g c =
    let h = returns-clause-gone_on g c in
    root_floor (g.G.Goal.value_gives c.args.goal.now) c.args.inst.now (length c.args.tables.now - 1)
    (table_worths c.args.tables.now) (option_map (λ given. given.now) c.args.incumbent) (split_count c.args.nodes.now)
    h.splits c.in_ok-answer.answer c.fits.ensures c.requires.lawful
    (tables_grow c.args.inst.now c.args.tables.now c.requires.some c.requires.priced) h.by

pub returns-clause-no_lower : goal.returns-clause-no_lower
returns-clause-no_lower g c = λ b h.
    let state = c.in_ok-grow.ensures.state in
    let a = c.in_ok-answer.ensures state.aside state.least in
    subst (λ (x : Bound). Reaches x b) (sym a.bound)
    (no_lower (task_of (g.G.Goal.value_gives c.args.goal.now) c.args.inst.now c.args.tables.now c.args.nodes.now
    (option_map (λ given. given.now) c.args.incumbent)) c.args.part c.grow.new.growth state a.left a.some a.none b h)

pub returns-clause-no_plan : goal.returns-clause-no_plan
returns-clause-no_plan g c = λ h.
    let state = c.in_ok-grow.ensures.state in
    let a = c.in_ok-answer.ensures state.aside state.least in
    a.bound ∙ no_plan (task_of (g.G.Goal.value_gives c.args.goal.now) c.args.inst.now c.args.tables.now
    c.args.nodes.now (option_map (λ given. given.now) c.args.incumbent)) c.args.part c.grow.new.growth state a.left
    a.some
    a.none h

pub returns-clause-nodes : goal.returns-clause-nodes
returns-clause-nodes g c =
    let h = returns-clause-gone_on g c in
    let few = few_nodes (g.G.Goal.value_gives c.args.goal.now) c.args.inst.now (length c.args.tables.now - 1)
    (table_worths c.args.tables.now) (option_map (λ given. given.now) c.args.incumbent) (split_count c.args.nodes.now)
    h.splits c.in_ok-answer.answer h.by in
    let most = h.few in
    let t = c.requires.tree in
    let given = given_nodes c.args.inst.now (length c.args.tables.now - 1) (root_box c.args.inst.now) t.0
    c.args.nodes.now t.1 in
    omega (arith, few, most, given)
