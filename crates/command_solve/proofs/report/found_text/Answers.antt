-- The pieces of the report, one behind another.
use Rattle.std.proofs.Common.{◌≡◌, ◌<◌, ◌^◌, List, ℕ, ℤ, ◌++◌, ◌∙◌, ap, subst, codes, ◌-ℤ◌, unsigned_abs, arith}
use mir.Syntax.{w128}
use mir.Val.{of_z, to_z}
use Rattle.fixed_num.proofs.SignedLemmas.{back_from_abs, signed_arith}
use Rattle.command_frame.specs.Reports.{score_line, bound_line, gap_line, ranges_text}
use Rattle.command_solve.specs.Solving.{counts_text}
use Rattle.command_solve.proofs.report.found_text.Goals as goal

gap_small : (score bound : ℤ) → unsigned_abs score < 10 ^ 36 → unsigned_abs bound < 10 ^ 37
    → unsigned_abs (score -ℤ bound) < 2 ^ 127
gap_small score bound a b = omega (arith, signed_arith, a, b)

-- the difference as it is computed and passed
passed : (score bound : ℤ) → unsigned_abs score < 10 ^ 36 → unsigned_abs bound < 10 ^ 37
    → to_z w128 (of_z w128 (to_z w128 (of_z w128 score) -ℤ to_z w128 (of_z w128 bound))) ≡ score -ℤ bound
passed score bound a b =
    let x : to_z w128 (of_z w128 score) ≡ score = back_from_abs score (omega (arith, a)) in
    let y : to_z w128 (of_z w128 bound) ≡ bound = back_from_abs bound (omega (arith, b)) in
    ap (λ (z : ℤ). to_z w128 (of_z w128 (z -ℤ to_z w128 (of_z w128 bound)))) x
    ∙ ap (λ (z : ℤ). to_z w128 (of_z w128 (score -ℤ z))) y
    ∙ back_from_abs (score -ℤ bound) (gap_small score bound a b)

pub returns : goal.returns
returns c =
    let v = c.args.values.now in
    let bound = c.args.bound in
    let counts = counts_text c.args.inst.now c.args.certificate.now c.args.moves.now in
    let score_fits : unsigned_abs v.score < 2 ^ 127 = omega (arith, c.requires.score) in
    let bound_fits : unsigned_abs bound < 2 ^ 127 = omega (arith, c.requires.bound) in
    let bound_small : unsigned_abs bound < 10 ^ 37 = omega (arith, c.requires.bound) in
    let score : c.push_score.new.text ≡ c.push.new.self ++ score_line v.score = subst
    (λ (z : ℤ). c.push_score.new.text ≡ c.push.new.self ++ score_line z) (back_from_abs v.score score_fits)
    c.in_ok-push_score.ensures in
    let least : c.push_bound_line.new.text ≡ c.push_score.new.text ++ bound_line bound = subst
    (λ (z : ℤ). c.push_bound_line.new.text ≡ c.push_score.new.text ++ bound_line z) (back_from_abs bound bound_fits)
    c.in_ok-push_bound_line.ensures in
    let gap : c.push_gap_line.new.text ≡ c.push_bound_line.new.text ++ gap_line (v.score -ℤ bound) = subst
    (λ (z : ℤ). c.push_gap_line.new.text ≡ c.push_bound_line.new.text ++ gap_line z)
    (passed v.score bound c.requires.score bound_small)
    c.in_ok-push_gap_line.ensures in
    c.in_ok-push_counts.ensures
    ∙ ap (λ (t : List ℕ). t ++ counts) (c.in_ok-push_ranges.ensures
    ∙ ap (λ (t : List ℕ). t ++ ranges_text v) (gap
    ∙ ap (λ (t : List ℕ). t ++ gap_line (v.score -ℤ bound)) (least
    ∙ ap (λ (t : List ℕ). t ++ bound_line bound) (score
    ∙ ap (λ (t : List ℕ). t ++ score_line v.score) (c.in_ok-push.ensures.added
    ∙ ap (λ (t : List ℕ). t ++ codes "plan found\n") c.new-text.ensures)))))
