use Rattle.std.proofs.Common.{◌∷◌, List, ℕ, Bor, rules, sym, ap, length, ◌≤◌, arith, subst}
use Rattle.std.specs.List.{flat_map}
use Rattle.std.proofs.lemmas.List.{append-nil, take_all}
use Rattle.std.proofs.lemmas.List.Folds.{flat_map-map}
use Rattle.plan_desk.specs.Written.Way.{saying}
use Rattle.plan_desk.specs.Written.{HasPut}
use Rattle.plan_desk.proofs.Written.{begins, next, stops_at, respelled, ends}
use Rattle.plan_table.proofs.say.say_rest.Goals as goal

pub loop-word-init : goal.loop-word-init
loop-word-init g c = begins saying (g.D.Desk.shows c.args.desk.now)

pub returns-in_err-say_pieces : goal.returns-in_err-say_pieces
returns-in_err-say_pieces g c =
    respelled saying
    (sym (flat_map-map (λ (word : List ℕ). 32 ∷ word) (λ (word : Bor (List ℕ)). word.now) c.args.rest.now))
    (stops_at saying (λ word. 32 ∷ word.now) c.args.rest.now c.loop-word.word-index _ (search rules)
    c.from_residual.result (search rules) c.loop-word.invariant
    (respelled saying (ap (λ (xs : List ℕ). 32 ∷ xs) (append-nil _)) c.in_err-say_pieces.ensures))

pub loop-word-preserved : goal.loop-word-preserved
loop-word-preserved g c =
    next saying (λ word. 32 ∷ word.now) c.args.rest.now c.loop-word.word-index _ (search rules) c.loop-word.invariant
    (respelled saying (ap (λ (xs : List ℕ). 32 ∷ xs) (append-nil _)) c.in_ok-say_pieces.ensures)

pub returns : goal.returns
returns g c =
    let e : length c.args.rest.now ≤ c.loop-word.word-index = omega arith in
    respelled saying
    (sym (flat_map-map (λ (word : List ℕ). 32 ∷ word) (λ (word : Bor (List ℕ)). word.now) c.args.rest.now))
    (ends saying tt
    (subst (λ (words : List (Bor (List ℕ))). HasPut saying (flat_map (λ word. 32 ∷ word.now) words)
    (g.D.Desk.shows c.args.desk.now) (g.D.Desk.shows c.loop-word.desk))
    (take_all c.loop-word.word-index c.args.rest.now e) c.loop-word.invariant))
