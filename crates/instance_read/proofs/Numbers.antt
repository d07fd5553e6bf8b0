-- The numbers that are kept of a text without a fault: periods, weights and scenarios.
use Rattle.std.proofs.Common.{◌≡◌, ℕ, true, List, [], ◌∷◌, ◌++◌, refl, ◌∙◌, arith}
use Rattle.json_grammar.specs.Tree.{Tree, Event}
use Rattle.instance_model.specs.declared.limits.Limits.{Limits}
use Rattle.instance_shape.specs.declared.fault.Known.TheVariants as is
use Rattle.instance_shape.specs.declared.spot.Spot.{Spot}
use Rattle.instance_shape.specs.declared.spot.Spot.TheVariants as spot
use Rattle.instance_shape.specs.LookUp.{elements, known, whole_at, part_at, periods, scenarios}
use Rattle.instance_shape.proofs.Clear.{IsClear}
use Rattle.shape_walk.specs.Kept.{keep_value}
use Rattle.shape_walk.specs.Reads.{read_of}
use Rattle.instance_read.specs.Keeping.{put, keep_periods, keep_alpha, keep_quantile, keep_scenarios}
use Rattle.instance_read.proofs.Branches.{is_beside}
use Rattle.instance_read.proofs.Reading.{whole_kept, part_kept}
use Rattle.instance_read.proofs.RootParts.{root_kept, HasPart, root_part}
use Rattle.instance_read.proofs.Wholes.{list_kept, each_added}

-- ---- periods

abbrev pub periods_keep : Spot → Event → ℕ → ℕ
periods_keep s e n = keep_periods s e (read_of s e) n

periods_idle : (q : Spot) (e : Event) (n : ℕ) → is_beside 5 q ≡ true → periods_keep q e n ≡ n
periods_idle spot.T e n h = cc
periods_idle _ e n h = refl

pub periods_kept : (limits : Limits) (root : Tree) → IsClear limits spot.Root root
    → keep_value periods_keep spot.Root root 0 ≡ periods root
periods_kept limits root h =
    let part : HasPart limits is.T spot.T root = root_part limits root 4 is.T spot.T h (omega arith) refl refl in
    root_kept periods_keep 5 is.T spot.T refl refl refl periods_idle (λ e n. refl) limits root part.value 0 h part.found
    ∙ whole_kept periods_keep spot.T put refl (λ e n. refl) limits (known is.T root) 0 part.clear

-- ---- alpha and quantile

abbrev pub alpha_keep : Spot → Event → ℕ → ℕ
alpha_keep s e n = keep_alpha s e (read_of s e) n

alpha_idle : (q : Spot) (e : Event) (n : ℕ) → is_beside 8 q ≡ true → alpha_keep q e n ≡ n
alpha_idle spot.Alpha e n h = cc
alpha_idle _ e n h = refl

pub alpha_kept : (limits : Limits) (root : Tree) → IsClear limits spot.Root root
    → keep_value alpha_keep spot.Root root 0 ≡ part_at (known is.Alpha root)
alpha_kept limits root h =
    let part : HasPart limits is.Alpha spot.Alpha root =
    root_part limits root 7 is.Alpha spot.Alpha h (omega arith) refl refl in
    root_kept alpha_keep 8 is.Alpha spot.Alpha refl refl refl alpha_idle (λ e n. refl) limits root
    part.value 0 h part.found
    ∙ part_kept alpha_keep spot.Alpha put 0 (λ n. refl) (λ x. refl) (λ e n. refl) limits
    (known is.Alpha root) 0 part.clear

abbrev pub quantile_keep : Spot → Event → ℕ → ℕ
quantile_keep s e n = keep_quantile s e (read_of s e) n

quantile_idle : (q : Spot) (e : Event) (n : ℕ) → is_beside 7 q ≡ true → quantile_keep q e n ≡ n
quantile_idle spot.Quantile e n h = cc
quantile_idle _ e n h = refl

pub quantile_kept : (limits : Limits) (root : Tree) → IsClear limits spot.Root root
    → keep_value quantile_keep spot.Root root 0 ≡ part_at (known is.Quantile root)
quantile_kept limits root h =
    let part : HasPart limits is.Quantile spot.Quantile root =
    root_part limits root 6 is.Quantile spot.Quantile h (omega arith) refl refl in
    root_kept quantile_keep 7 is.Quantile spot.Quantile refl refl refl quantile_idle (λ e n. refl) limits root
    part.value 0 h part.found
    ∙ part_kept quantile_keep spot.Quantile put 1 (λ n. refl) (λ x. refl) (λ e n. refl) limits
    (known is.Quantile root) 0 part.clear

-- ---- scenarios

abbrev pub scenarios_keep : Spot → Event → List ℕ → List ℕ
scenarios_keep s e ns = keep_scenarios s e (read_of s e) ns

scenarios_idle : (q : Spot) (e : Event) (ns : List ℕ) → is_beside 6 q ≡ true → scenarios_keep q e ns ≡ ns
scenarios_idle spot.Scenario e ns h = cc
scenarios_idle _ e ns h = refl

pub scenarios_kept : (limits : Limits) (root : Tree) → IsClear limits spot.Root root
    → keep_value scenarios_keep spot.Root root [] ≡ scenarios root
scenarios_kept limits root h =
    let part : HasPart limits is.ScenariosNumber spot.ScenariosNumber root =
    root_part limits root 5 is.ScenariosNumber spot.ScenariosNumber h (omega arith) refl refl in
    root_kept scenarios_keep 6 is.ScenariosNumber spot.ScenariosNumber refl refl refl scenarios_idle (λ e ns. refl)
    limits root part.value [] h part.found
    ∙ list_kept limits scenarios_keep spot.ScenariosNumber (λ ns. ns) (λ t ns. ns ++ whole_at t ∷ [])
    (λ m t ns c. whole_kept scenarios_keep spot.Scenario (λ n ns. ns ++ n ∷ []) refl (λ e ns. refl) limits t ns c)
    (λ ns. ns) (λ n. refl) (λ at ns. refl) (λ at ns. refl) (known is.ScenariosNumber root) [] part.clear
    ∙ each_added whole_at (elements (known is.ScenariosNumber root)) []
