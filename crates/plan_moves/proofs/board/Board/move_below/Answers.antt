use Rattle.std.proofs.Common.{◌≡◌, ◌∙◌, ◌≤ℤ◌, ap, subst, ℤ, [], ◌∷◌, Some, map, set}
use Rattle.std.specs.Prelude.{IfSome, IfNone}
use Rattle.fixed_num.proofs.Bits.{by_bits}
use Rattle.instance_model.specs.Tables.{Tables}
use Rattle.instance_model.specs.Values.{score_of}
use Rattle.scenario_rows.specs.declared.change.RunChange.{RunChange}
use Rattle.scenario_rows.specs.RunChanges.{board_after}
use Rattle.scenario_rows.proofs.JudgeLemmas.{limit_back}
use Rattle.plan_moves.specs.Boards.{Board}
use Rattle.plan_moves.proofs.RunLemmas.{taken, board_after-move}
use Rattle.plan_moves.proofs.board.Board.move_below.Goals as goal

pub returns-clause-value : goal.returns-clause-value
returns-clause-value g c =
    let board = c.self.inside.rows.board in
    let now = c.args.self.now in
    let score = ap (λ (inst : Tables). score_of inst (board_after (c.taken.result ∷ c.added.result ∷ []) board))
    (c.instance.ensures ∙ ap (λ (b : Board). b.instance) c.self.view_is)
    ∙ ap (λ (r : RunChange). score_of now.instance (board_after (r ∷ c.added.result ∷ []) board)) c.taken.ensures
    ∙ ap (λ (r : RunChange). score_of now.instance
    (board_after (taken c.args.i c.start_of-from.result ∷ r ∷ []) board)) c.added.ensures
    ∙ ap (score_of now.instance) (board_after-move board now.starts c.args.i c.args.s c.start_of-from.result
    (c.self.invariant.board_is ∙ ap (λ (b : Board). map Some b.starts) c.self.view_is)) in
    subst (λ (x : ℤ). IfSome c.score_below.result (λ y. y ≡ x)) score c.score_below.ensures.value

pub returns-clause-none : goal.returns-clause-none
returns-clause-none g c =
    let board = c.self.inside.rows.board in
    let now = c.args.self.now in
    let score = ap (λ (inst : Tables). score_of inst (board_after (c.taken.result ∷ c.added.result ∷ []) board))
    (c.instance.ensures ∙ ap (λ (b : Board). b.instance) c.self.view_is)
    ∙ ap (λ (r : RunChange). score_of now.instance (board_after (r ∷ c.added.result ∷ []) board)) c.taken.ensures
    ∙ ap (λ (r : RunChange). score_of now.instance
    (board_after (taken c.args.i c.start_of-from.result ∷ r ∷ []) board)) c.added.ensures
    ∙ ap (score_of now.instance) (board_after-move board now.starts c.args.i c.args.s c.start_of-from.result
    (c.self.invariant.board_is ∙ ap (λ (b : Board). map Some b.starts) c.self.view_is)) in
    subst (λ (l : ℤ). IfNone c.score_below.result
    (l ≤ℤ score_of now.instance (map Some (set now.starts c.args.i c.args.s))))
    (limit_back c.args.limit c.ranges.limit)
    (subst (λ (x : ℤ). IfNone c.score_below.result (by_bits c.args.limit ≤ℤ x)) score c.score_below.ensures.none)
