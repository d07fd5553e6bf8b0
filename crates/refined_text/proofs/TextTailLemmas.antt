-- The lines of tails by groups, period by period.
use Rattle.std.proofs.Common.{◌≡◌, ℕ, suc, ◌+◌, ◌-◌, ◌<◌, refl, sym, ◌∙◌, ap, arith, List, [], ◌∷◌, ◌++◌}
use Rattle.std.proofs.Common.{length, map, take, drop, get_or, Option, Some, None, append_assoc}
use Rattle.std.proofs.lemmas.List.{append-nil, take_more, take-append-drop, length-take-le}
use Rattle.instance_model.specs.Tables.{Tables}
use Rattle.refined_prices.specs.declared.group_tail.GroupTail.{GroupTail}
use Rattle.refined_prices.specs.Offsets.{group_tail_at}
use Rattle.refined_prices.specs.RefinedLists.{RefinedList, IsRefinedList}
use Rattle.certificate_text.proofs.KeyLemmas.{less_one}
use Rattle.refined_text.specs.declared.lines.line.RefinedLine.{RefinedLine}
use Rattle.refined_text.specs.text.Text.{group_line, group_lines, text_of_refined}
use Rattle.refined_text.specs.text.Steps.{group_texts}
use Rattle.refined_text.proofs.TextPieceLemmas.{map_text}

pub groups_none : (t : ℕ) → group_lines t [] ≡ []
unfolding group_lines
groups_none t = refl

pub groups_append : (t : ℕ) (xs ys : List (Option GroupTail))
    → group_lines t (xs ++ ys) ≡ group_lines t xs ++ group_lines (t + length xs) ys
unfolding group_lines
groups_append t [] ys = let e : t ≡ t + 0 = omega arith in ap (λ u. group_lines u ys) e
groups_append t (None ∷ xs) ys =
    let e : t + 1 + length xs ≡ t + suc (length xs) = omega arith in
    groups_append (t + 1) xs ys ∙ ap (λ u. group_lines (t + 1) xs ++ group_lines u ys) e
groups_append t (Some tail ∷ xs) ys =
    let e : t + 1 + length xs ≡ t + suc (length xs) = omega arith in
    let own : List RefinedLine = map (group_line t) tail.groups in
    ap (λ (ls : List RefinedLine). own ++ ls)
    (groups_append (t + 1) xs ys ∙ ap (λ u. group_lines (t + 1) xs ++ group_lines u ys) e)
    ∙ sym (append_assoc own (group_lines (t + 1) xs) (group_lines (t + suc (length xs)) ys))

one_tail : (t : ℕ) (tail : GroupTail) → group_lines t (Some tail ∷ []) ≡ map (group_line t) tail.groups
unfolding group_lines
one_tail t tail = append-nil (map (group_line t) tail.groups)

pub tail_some : (t : ℕ) (o : Option GroupTail) (tail : GroupTail) → o ≡ Some tail
    → text_of_refined (group_lines t (o ∷ [])) ≡ group_texts t tail.groups
tail_some t o tail e = ap (λ (p : Option GroupTail). text_of_refined (group_lines t (p ∷ []))) e
    ∙ ap text_of_refined (one_tail t tail) ∙ sym (map_text (group_line t) tail.groups)

pub tail_none : (t : ℕ) (o : Option GroupTail) → o ≡ None → group_lines t (o ∷ []) ≡ []
unfolding group_lines
tail_none t o e = ap (λ (p : Option GroupTail). group_lines t (p ∷ [])) e

pub tails_step : (inst : Tables) (list : RefinedList) (n : ℕ) → IsRefinedList inst list → n < inst.periods
    → group_lines 1 (take (n + 1) list.tails)
    ≡ group_lines 1 (take n list.tails) ++ group_lines (n + 1) (group_tail_at list.tails (n + 1) ∷ [])
tails_step inst list n ok low =
    let each = ok.tails_each in
    let within : n < length list.tails = omega (arith, each, low) in
    let count : 1 + length (take n list.tails) ≡ n + 1 = let l =
    length-take-le n list.tails (omega (arith, within)) in omega (arith, l) in
    let place : n ≡ n + 1 - 1 = sym (less_one n) in
    ap (group_lines 1) (take_more list.tails n None within)
    ∙ groups_append 1 (take n list.tails) (get_or list.tails n None ∷ [])
    ∙ ap (λ u. group_lines 1 (take n list.tails) ++ group_lines u (get_or list.tails n None ∷ [])) count
    ∙ ap (λ k. group_lines 1 (take n list.tails) ++ group_lines (n + 1) (get_or list.tails k None ∷ [])) place

pub tails_rest : (list : RefinedList) (n : ℕ) → group_lines 1 list.tails ≡ group_lines 1 (take (n + 1) list.tails)
    ++ group_lines (1 + length (take (n + 1) list.tails)) (drop (n + 1) list.tails)
tails_rest list n = ap (group_lines 1) (sym (take-append-drop (n + 1) list.tails))
    ∙ groups_append 1 (take (n + 1) list.tails) (drop (n + 1) list.tails)
