-- The numbers and names of an instance are fine where they stand: counts, whole numbers, millionths and words.
use Rattle.std.proofs.Common.{◌≡◌, ℕ, suc, ◌<◌, ◌≤◌, Bool, true, false, not, ◌&&◌, ◌++◌, List, [], map}
use Rattle.std.proofs.Common.{Option, Some, None, refl, ◌∙◌, ap, arith, ℤ, unwrap_or, option_map, is_some}
use Rattle.std.specs.Prelude.{All, is_none, nat_le}
use Rattle.std.proofs.lemmas.Bool.{le-leb}
use Rattle.std.proofs.lemmas.List.Elements.{All-map, All-weaker}
use Rattle.json_grammar.specs.Tree.{tree, Node, Trees}
use Rattle.json_grammar.specs.laws.Value.{Value}
use Rattle.json_grammar.specs.laws.Spellable.{IsSpellableText}
use Rattle.decimal_numbers.specs.Exact.{fixed, whole, millionths}
use Rattle.instance_model.specs.declared.limits.Limits.{Limits}
use Rattle.instance_model.specs.Fitting.{IsName}
use Rattle.instance_shape.specs.declared.fault.Flaw.TheVariants as flaw
use Rattle.instance_shape.specs.declared.fault.Which.{Which}
use Rattle.instance_shape.specs.declared.fault.Which.TheVariants as which
use Rattle.instance_shape.specs.declared.spot.Spot.{Spot}
use Rattle.instance_shape.specs.declared.spot.Spot.TheVariants as spot
use Rattle.instance_shape.specs.Keys.{is_name}
use Rattle.instance_shape.specs.Shape.{kind_of, element}
use Rattle.instance_shape.specs.ShapeFaults.{where_so, outside, own_faults, tree_faults}
use Rattle.instance_shape.specs.LookUp.{differs_at}
use Rattle.instance_shape.specs.FileTables.{is_count}
use Rattle.instance_shape.proofs.Clear.{clear_both}
use Rattle.instance_writer.specs.text.Conditions.{SpellsCount, SpellsPart}
use Rattle.instance_writer.specs.text.Styles.{Style}
use Rattle.instance_writer.specs.text.Written.{whole_number, whole_list, count_number, count_list}
use Rattle.instance_writer.proofs.TextFine.{IsFine, number_fine, text_fine, list_fine, no_fault}
use Rattle.instance_writer.proofs.TextKeys.{name_is}
use Rattle.instance_writer.proofs.TextTokens.{whole_token, whole_read}

-- ---- counts

pub count_exact : (style : Style) (z : ℤ) (at end : ℕ) → SpellsCount style z
    → differs_at (tree at end (Node.number (style.count z))) ≡ false
count_exact style z at end h = ap (λ (o : Option (ℤ × Bool)). unwrap_or (option_map (λ f. f.1) o) false) h.exact

-- a spot of counts has no fault where one is a count
abbrev IsCountSpot : Limits → Spot → Type 0
IsCountSpot limits s = (at : ℕ) (token : List ℕ)
    → own_faults limits s at (Node.number token) ≡ where_so (is_none (fixed token)) at flaw.TooLarge

count_fine : (limits : Limits) (n : ℕ) (s : Spot) (style : Style) (z : ℤ) → IsCountSpot limits s → SpellsCount style z
    → IsFine limits n s (count_number style z)
count_fine limits n s style z own h =
    number_fine limits n s (style.count z) h.token
    (λ at. own at (style.count z) ∙ ap (λ (o : Option (ℤ × Bool)). where_so (is_none o) at flaw.TooLarge) h.exact)
    (λ e. count_exact style z 0 0 h)

counts_fine : (limits : Limits) (n : ℕ) (s q : Spot) (style : Style) (zs : List ℤ)
    → ((at end : ℕ) (ts : Trees) → tree_faults limits s (tree at end (Node.list ts)) ≡ [])
    → is_count (kind_of s) ≡ false → ((m : ℕ) → element s m ≡ q) → IsCountSpot limits q → All (SpellsCount style) zs
    → IsFine limits (suc n) s (count_list style zs)
counts_fine limits n s q style zs own plain e c h =
    list_fine limits n s q (map (count_number style) zs) (λ at end k. own at end _) plain (λ m l. e m)
    (All-map (IsFine limits n q) (count_number style) zs
    (All-weaker (SpellsCount style) (λ z. IsFine limits n q (count_number style z))
    (λ z p. count_fine limits n q style z c p) zs h))

pub max_fine : (limits : Limits) (n : ℕ) (style : Style) (zs : List ℤ) → All (SpellsCount style) zs
    → IsFine limits (suc n) spot.Max (count_list style zs)
max_fine limits n style zs h = counts_fine limits n spot.Max spot.BandLimit style zs (λ at end ts. refl) refl
    (λ m. refl) (λ at token. refl) h

pub min_fine : (limits : Limits) (n : ℕ) (style : Style) (zs : List ℤ) → All (SpellsCount style) zs
    → IsFine limits (suc n) spot.Min (count_list style zs)
min_fine limits n style zs h = counts_fine limits n spot.Min spot.BandLimit style zs (λ at end ts. refl) refl
    (λ m. refl) (λ at token. refl) h

pub risks_fine : (limits : Limits) (n : ℕ) (style : Style) (zs : List ℤ) → All (SpellsCount style) zs
    → IsFine limits (suc n) spot.RiskStart (count_list style zs)
risks_fine limits n style zs h = counts_fine limits n spot.RiskStart spot.RiskNumber style zs (λ at end ts. refl) refl
    (λ m. refl) (λ at token. refl) h

pub load_fine : (limits : Limits) (n : ℕ) (style : Style) (z : ℤ) → SpellsCount style z
    → IsFine limits n spot.WorkloadNumber (count_number style z)
load_fine limits n style z h = count_fine limits n spot.WorkloadNumber style z (λ at token. refl) h

-- ---- whole numbers

-- a spot of whole numbers within a limit, where there is one
abbrev IsWholeSpot : Limits → Spot → Option (ℕ × Which) → Type 0
IsWholeSpot limits s l = (at : ℕ) (n : Node)
    → own_faults limits s at n ≡ where_so (not (is_some (whole n))) at flaw.Shape ++ outside l at (whole n)

whole_fine : (limits : Limits) (n : ℕ) (s : Spot) (l : Option (ℕ × Which)) (m : ℕ) → IsWholeSpot limits s l
    → is_count (kind_of s) ≡ false → m < 1_000_000_000 → ((at : ℕ) → outside l at (Some m) ≡ [])
    → IsFine limits n s (whole_number m)
whole_fine limits n s l m own plain small within =
    number_fine limits n s _ (whole_token m (omega arith))
    (λ at. own at _ ∙ ap (λ (o : Option ℕ). where_so (not (is_some o)) at flaw.Shape ++ outside l at o)
    (whole_read m small) ∙ within at)
    (λ e. cc)

wholes_fine : (limits : Limits) (n : ℕ) (s q : Spot) (l : Option (ℕ × Which)) (ns : List ℕ)
    → ((at end : ℕ) (ts : Trees) → tree_faults limits s (tree at end (Node.list ts)) ≡ [])
    → is_count (kind_of s) ≡ false → ((m : ℕ) → element s m ≡ q) → IsWholeSpot limits q l
    → is_count (kind_of q) ≡ false
    → All (λ m. (m < 1_000_000_000) × ((at : ℕ) → outside l at (Some m) ≡ [])) ns
    → IsFine limits (suc n) s (whole_list ns)
wholes_fine limits n s q l ns own plain e w numbers h =
    list_fine limits n s q (map whole_number ns) (λ at end k. own at end _) plain (λ m k. e m)
    (All-map (IsFine limits n q) whole_number ns
    (All-weaker (λ m. (m < 1_000_000_000) × ((at : ℕ) → outside l at (Some m) ≡ []))
    (λ m. IsFine limits n q (whole_number m)) (λ m p. whole_fine limits n q l m w numbers p.0 p.1) ns h))

pub season_fine : (limits : Limits) (n : ℕ) (ns : List ℕ) → All (λ m. m < 1_000_000_000) ns
    → IsFine limits (suc n) spot.Season (whole_list ns)
season_fine limits n ns h =
    wholes_fine limits n spot.Season spot.SeasonPeriod None ns (λ at end ts. refl) refl (λ m. refl) (λ at n. refl) refl
    (All-weaker (λ m. m < 1_000_000_000)
    (λ m. (m < 1_000_000_000) × ((at : ℕ) → outside None at (Some m) ≡ [])) (λ m l. (l, λ at. refl))
    ns h)

pub delta_fine : (limits : Limits) (n : ℕ) (ns : List ℕ) → All (λ m. m < 1_000_000_000) ns
    → IsFine limits (suc n) spot.Delta (whole_list ns)
delta_fine limits n ns h =
    wholes_fine limits n spot.Delta spot.Duration None ns (λ at end ts. refl) refl (λ m. refl) (λ at n. refl) refl
    (All-weaker (λ m. m < 1_000_000_000)
    (λ m. (m < 1_000_000_000) × ((at : ℕ) → outside None at (Some m) ≡ [])) (λ m l. (l, λ at. refl))
    ns h)

pub tmax_fine : (limits : Limits) (n m : ℕ) → m < 1_000_000_000 → IsFine limits n spot.Tmax (whole_number m)
tmax_fine limits n m h = whole_fine limits n spot.Tmax None m (λ at n. refl) refl h (λ at. refl)

-- a number within its limit
inside : (l : ℕ × Which) (m at : ℕ) → 1 ≤ m → m ≤ l.0 → outside (Some l) at (Some m) ≡ []
inside l m at low high =
    let a : nat_le 1 m ≡ true = le-leb 1 m low in
    let b : nat_le m l.0 ≡ true = le-leb m l.0 high in
    no_fault (not (nat_le 1 m && nat_le m l.0)) at (flaw.Limit l.1) (rw (a, b) refl)

pub periods_fine : (limits : Limits) (n m : ℕ) → 1 ≤ m → m ≤ limits.periods → m < 1_000_000_000
    → IsFine limits n spot.T (whole_number m)
periods_fine limits n m low high h =
    whole_fine limits n spot.T (Some (limits.periods, which.Periods)) m (λ at n. refl) refl h
    (λ at. inside (limits.periods, which.Periods) m at low high)

pub scenarios_fine : (limits : Limits) (n : ℕ) (ns : List ℕ)
    → All (λ m. (1 ≤ m) × (m ≤ limits.scenarios) × (m < 1_000_000_000)) ns
    → IsFine limits (suc n) spot.ScenariosNumber (whole_list ns)
scenarios_fine limits n ns h =
    wholes_fine limits n spot.ScenariosNumber spot.Scenario (Some (limits.scenarios, which.Scenarios)) ns
    (λ at end ts. refl) refl (λ m. refl) (λ at n. refl) refl
    (All-weaker (λ m. (1 ≤ m) × (m ≤ limits.scenarios) × (m < 1_000_000_000))
    (λ m. (m < 1_000_000_000) × ((at : ℕ) → outside (Some (limits.scenarios, which.Scenarios)) at (Some m) ≡ []))
    (λ m p. (p.2, λ at. inside (limits.scenarios, which.Scenarios) m at p.0 p.1)) ns h)

-- ---- millionths

part_passes : (style : Style) (m least : ℕ) → SpellsPart style m → least ≤ m → m ≤ 1_000_000
    → unwrap_or (option_map (λ m. nat_le least m && nat_le m 1_000_000) (millionths (style.part m))) false ≡ true
part_passes style m least h low high =
    let a : nat_le least m ≡ true = le-leb least m low in
    let b : nat_le m 1_000_000 ≡ true = le-leb m 1_000_000 high in
    ap (λ (o : Option ℕ). unwrap_or (option_map (λ m. nat_le least m && nat_le m 1_000_000) o) false) h.exact
    ∙ rw (a, b) refl

pub quantile_fine : (limits : Limits) (n : ℕ) (style : Style) (m : ℕ) → SpellsPart style m → 1 ≤ m → m ≤ 1_000_000
    → IsFine limits n spot.Quantile (Value.number (style.part m))
quantile_fine limits n style m h low high =
    number_fine limits n spot.Quantile (style.part m) h.token
    (λ at. clear_both (where_so (not _) at flaw.Shape) []
    (no_fault _ at flaw.Shape (ap not (part_passes style m 1 h low high))) refl)
    (λ e. cc)

pub alpha_fine : (limits : Limits) (n : ℕ) (style : Style) (m : ℕ) → SpellsPart style m → m ≤ 1_000_000
    → IsFine limits n spot.Alpha (Value.number (style.part m))
alpha_fine limits n style m h high =
    number_fine limits n spot.Alpha (style.part m) h.token
    (λ at. clear_both (where_so (not _) at flaw.Shape) []
    (no_fault _ at flaw.Shape (ap not (part_passes style m 0 h (omega arith) high))) refl)
    (λ e. cc)

-- ---- words

pub word_fine : (limits : Limits) (n : ℕ) (name : List ℕ) → IsName name → IsSpellableText name
    → IsFine limits n spot.Word (Value.text name)
word_fine limits n name h t =
    text_fine limits n spot.Word name t
    (λ at. no_fault (not (is_name name)) at flaw.BadName (ap not (name_is name h))) refl
