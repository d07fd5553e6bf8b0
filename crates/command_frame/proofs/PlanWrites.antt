-- A feasible plan can be written, and its text spells it.
use Rattle.std.proofs.Common.{◌≡◌, ℕ, ◌*◌, ◌<◌, ◌≤◌, ◌^◌, arith, List, [], ◌∷◌, ◌++◌, length, length-append}
use Rattle.std.proofs.Common.{get_or, map, Some, All, decimal}
use Rattle.std.proofs.lemmas.List.Elements.{All-head, All-tail, All-from_get_or}
use Rattle.std.proofs.lemmas.Fmt.{length-decimal-le}
use Rattle.instance_model.specs.Limits.{standard_limits}
use Rattle.instance_model.specs.Tables.{Tables}
use Rattle.instance_model.specs.Fitting.{IsName, IsFitting}
use Rattle.instance_model.specs.Rules.{IsFeasible}
use Rattle.instance_model.proofs.EntryLemmas.{is_allowed_facts}
use Rattle.instance_model.proofs.FitLemmas.{tmax_small}
use Rattle.plan_text.specs.Spelling.{line_text, plan_text}
use Rattle.plan_text.proofs.WrittenLemmas.{plan_text_spells}
use Rattle.certificate_tree.proofs.Refuting.{feasible_allowed}
use Rattle.command_frame.specs.Bytes.{Spells}
use Rattle.command_frame.specs.Writing.{IsWritablePlan}

-- its starts are small
pub writable_plan : (inst : Tables) (plan : List ℕ) → IsFitting inst → length plan ≡ length inst.names
    → IsFeasible inst (map Some plan) → IsWritablePlan inst plan
writable_plan inst plan fit each feasible = record {
  each = each;
  small = All-from_get_or (λ start. start < 10 ^ 9) plan 0 (λ i low.
      let here : i < length inst.names = omega (arith, low, each) in
      let few = tmax_small inst i fit here in
      let within = is_allowed_facts inst i (get_or plan i 0)
      (feasible_allowed inst plan each feasible i here) in
      omega (arith, fit.few_periods));
}

line_short : (name : List ℕ) (start : ℕ) → IsName name → start < 10 ^ 9 → length (line_text name start) ≤ 139
line_short name start is small =
    let digits = length-decimal-le 9 start (omega arith) small (omega (arith, small)) in
    let first = length-append (name ++ 32 ∷ [] ++ decimal start) (10 ∷ []) in
    let second = length-append (name ++ 32 ∷ []) (decimal start) in
    let third = length-append name (32 ∷ []) in
    omega (arith, is.short)

lines_short : (names : List (List ℕ)) (starts : List ℕ) → All IsName names → All (λ start. start < 10 ^ 9) starts
    → length (plan_text names starts) ≤ 139 * length names
lines_short [] starts are small = omega arith
lines_short (name ∷ names) [] are small = omega arith
lines_short (name ∷ names) (start ∷ starts) are small =
    let here = line_short name start (All-head IsName name names are)
    (All-head (λ start. start < 10 ^ 9) start starts small) in
    let rest = lines_short names starts (All-tail IsName name names are)
    (All-tail (λ start. start < 10 ^ 9) start starts small) in
    omega (arith, length-append (line_text name start) (plan_text names starts))

-- its text spells it
pub spelled_plan : (inst : Tables) (plan : List ℕ) → IsFitting inst → IsWritablePlan inst plan
    → Spells standard_limits inst (plan_text inst.names plan) (map Some plan)
spelled_plan inst plan fit writable =
    let short = lines_short inst.names plan fit.names.shaped writable.small in
    record {
      within = omega (arith, fit.names.few);
      plan_is = plan_text_spells standard_limits.interventions inst.names plan fit.names writable.each writable.small;
    }
