use Rattle.std.proofs.Common.{◌≡◌, ◌∙◌, ◌≤ℤ◌, ap, subst, ℤ, [], ◌∷◌, Some, map}
use Rattle.std.specs.List.{swap}
use Rattle.std.specs.Prelude.{IfSome, IfNone}
use Rattle.fixed_num.proofs.Bits.{by_bits}
use Rattle.instance_model.specs.Tables.{Tables}
use Rattle.instance_model.specs.Values.{score_of}
use Rattle.scenario_rows.specs.RunChanges.{board_after}
use Rattle.scenario_rows.proofs.JudgeLemmas.{limit_back}
use Rattle.plan_moves.specs.Boards.{Board}
use Rattle.plan_moves.proofs.RunLemmas.{exchanged_runs}
use Rattle.plan_moves.proofs.board.Board.exchange_below.Goals as goal

pub returns-clause-value : goal.returns-clause-value
returns-clause-value g c =
    let board = c.self.inside.rows.board in
    let now = c.args.self.now in
    let runs = c.taken.result ∷ c.added.result ∷ c.taken-2.result ∷ c.added-2.result ∷ [] in
    let score = ap (λ (inst : Tables). score_of inst (board_after runs board))
    (c.instance.ensures ∙ ap (λ (b : Board). b.instance) c.self.view_is)
    ∙ ap (score_of now.instance) (exchanged_runs board now.starts c.args.i c.args.j c.start_of-first.result
    c.start_of-second.result c.taken.result c.added.result c.taken-2.result c.added-2.result c.taken.ensures
    c.added.ensures c.taken-2.ensures c.added-2.ensures c.start_of-first.ensures.within
    c.start_of-second.ensures.within (c.self.invariant.board_is
    ∙ ap (λ (b : Board). map Some b.starts) c.self.view_is) c.start_of-first.ensures.value
    c.start_of-second.ensures.value) in
    subst (λ (x : ℤ). IfSome c.score_below.result (λ y. y ≡ x)) score c.score_below.ensures.value

pub returns-clause-none : goal.returns-clause-none
returns-clause-none g c =
    let board = c.self.inside.rows.board in
    let now = c.args.self.now in
    let runs = c.taken.result ∷ c.added.result ∷ c.taken-2.result ∷ c.added-2.result ∷ [] in
    let score = ap (λ (inst : Tables). score_of inst (board_after runs board))
    (c.instance.ensures ∙ ap (λ (b : Board). b.instance) c.self.view_is)
    ∙ ap (score_of now.instance) (exchanged_runs board now.starts c.args.i c.args.j c.start_of-first.result
    c.start_of-second.result c.taken.result c.added.result c.taken-2.result c.added-2.result c.taken.ensures
    c.added.ensures c.taken-2.ensures c.added-2.ensures c.start_of-first.ensures.within
    c.start_of-second.ensures.within (c.self.invariant.board_is
    ∙ ap (λ (b : Board). map Some b.starts) c.self.view_is) c.start_of-first.ensures.value
    c.start_of-second.ensures.value) in
    subst (λ (l : ℤ). IfNone c.score_below.result
    (l ≤ℤ score_of now.instance (map Some (swap now.starts c.args.i c.args.j))))
    (limit_back c.args.limit c.ranges.limit)
    (subst (λ (x : ℤ). IfNone c.score_below.result (by_bits c.args.limit ≤ℤ x)) score c.score_below.ensures.none)
