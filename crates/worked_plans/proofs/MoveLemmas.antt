-- The changes that the tests write.
use Rattle.std.proofs.Common.{◌≡◌, ◌<◌, List, [], ◌∷◌, length, sym, subst, arith, rules}
use Rattle.std.specs.List.{All}
use Rattle.std.proofs.lemmas.List.Elements.{All-nil, All-cons}
use Rattle.instance_model.specs.Tables.{Tables}
use Rattle.plan_moves.specs.Scripts.{NamesKnown, line_of}
use Rattle.plan_moves.specs.declared.change.Change.{Change}
use Rattle.plan_moves.specs.declared.change.Change.TheVariants.{Move, Swap}
use Rattle.move_script.specs.Spelling.{HasSmallStart}

abbrev pub three : List Change
three = Move 0 512 ∷ Swap 1 0 ∷ Move 1 0 ∷ []

-- the interventions of the change are known
abbrev Known : Tables → Change → Type 0
Known inst change = NamesKnown inst (line_of change)

pub three_known : (inst : Tables) (moves : List Change) → length inst.names ≡ 2 → moves ≡ three
    → All (λ change. NamesKnown inst (line_of change)) moves
three_known inst moves two e =
    let first : 0 < length inst.names = omega (arith, two) in
    let second : 1 < length inst.names = omega (arith, two) in
    subst (All (Known inst)) (sym e)
    (All-cons (Known inst) (Move 0 512) (Swap 1 0 ∷ Move 1 0 ∷ []) first
    (All-cons (Known inst) (Swap 1 0) (Move 1 0 ∷ []) (second, first)
    (All-cons (Known inst) (Move 1 0) [] second (All-nil (Known inst)))))

pub three_small : (moves : List Change) → moves ≡ three → All HasSmallStart moves
three_small moves e =
    subst (All HasSmallStart) (sym e) (All-cons HasSmallStart (Move 0 512) (Swap 1 0 ∷ Move 1 0 ∷ []) (omega arith)
    (All-cons HasSmallStart (Swap 1 0) (Move 1 0 ∷ []) (search rules)
    (All-cons HasSmallStart (Move 1 0) [] (omega arith) (All-nil HasSmallStart))))
