-- The text of the rolled instance is read as that instance, and as the rolled one of what the instance's own text is
-- read as.
use Rattle.std.proofs.Common.{◌≡◌, ℕ, ◌<◌, ◌^◌, refl, sym, ◌∙◌, ap, subst, arith, List, [], ◌∷◌, ◌++◌, Option, ℤ, pos}
use Rattle.std.proofs.Common.{All, unsigned_abs}
use Rattle.std.specs.Prelude.{◌+ℤ◌, ◌-ℤ◌, map}
use Rattle.std.proofs.lemmas.List.{map-append}
use Rattle.fixed_num.proofs.SignedLemmas.{signed_arith}
use Rattle.json_grammar.specs.Tree.{Tree}
use Rattle.instance_model.specs.declared.limits.Limits.{Limits}
use Rattle.instance_model.specs.Tables.{Tables, tmax, delta_of, is_allowed, durations, entries_at, entries_of}
use Rattle.instance_model.specs.Tables.{all_entries, entries_before, scenarios_before}
use Rattle.instance_model.specs.Fitting.{IsFitting}
use Rattle.instance_shape.specs.declared.fault.Known.TheVariants as is
use Rattle.instance_shape.specs.Defined.{Defines}
use Rattle.instance_shape.specs.FileTables.{tables, all_below}
use Rattle.instance_shape.specs.LookUp.{Entry, elements, entries, known, count_at}
use Rattle.instance_shape.proofs.Fits.{defined_fits, no_slack}
use Rattle.instance_shape.proofs.OneAnswer.{same_root}
use Rattle.instance_writer.specs.text.Conditions.{HasSpellableNames, IsUnrounded, IsWithin, SpellsNumbers, widened}
use Rattle.instance_writer.specs.text.Styles.{Style, decimals}
use Rattle.instance_writer.specs.text.Written.{instance_text}
use Rattle.plan_roll.specs.Rolled.{rolled_delta, rolled_durations, is_left, rolled_cells, start_risks, rolled_risks}
use Rattle.plan_roll.specs.Rolled.{rolled}
use Rattle.plan_roll.specs.Texts.{rolled_text, HasSmallBands, TextIsRead, TextIsReadAgain}
use Rattle.plan_roll.proofs.FitLaw.{tables_fit}
use Rattle.plan_roll.proofs.WithinLaw.{defined_names, defined_within, defined_small, rolled_within, rolled_names}
use Rattle.plan_roll.proofs.WithinLaw.{rolled_unrounded}

-- ---- bands that are widened

-- the instance with other bands
abbrev pub with_bands : Tables → List ℤ → List ℤ → Tables
with_bands inst upper lower = record inst { upper = upper; lower = lower }

-- what is left doesn't depend on the bands
rolled_bands : (inst : Tables) (upper lower : List ℤ) (plan : List (Option ℕ)) (period : ℕ)
    → rolled (with_bands inst upper lower) plan period ≡ with_bands (rolled inst plan period) upper lower
unfolding rolled_durations rolled_delta rolled_cells is_left start_risks rolled_risks tmax delta_of is_allowed durations
    entries_at entries_of all_entries entries_before scenarios_before
rolled_bands inst upper lower plan period = refl

added : (f : Tree → ℤ) (g : ℤ → ℤ) (h : Tree → ℤ) → ((t : Tree) → g (f t) ≡ h t) → (ts : List Tree)
    → map g (map f ts) ≡ map h ts
added f g h e [] = refl
added f g h e (t ∷ ts) = ap (λ z. z ∷ map g (map f ts)) (e t) ∙ ap (λ zs. h t ∷ zs) (added f g h e ts)

all_added : (k : Tree → List Tree) (f : Tree → ℤ) (g : ℤ → ℤ) (h : Tree → ℤ) → ((t : Tree) → g (f t) ≡ h t)
    → (es : List Entry) → map g (all_below es (λ r. map f (k r))) ≡ all_below es (λ r. map h (k r))
all_added k f g h e [] = refl
all_added k f g h e (x ∷ es) =
    map-append g (map f (k x.value)) (all_below es (λ r. map f (k r)))
    ∙ ap (λ zs. zs ++ map g (all_below es (λ r. map f (k r)))) (added f g h e (k x.value))
    ∙ ap (λ zs. map h (k x.value) ++ zs) (all_added k f g h e es)

raised : (slack : ℤ) (t : Tree) → (count_at t +ℤ pos 0) +ℤ slack ≡ count_at t +ℤ slack
raised slack t = plain (count_at t) slack
  where
    plain : (z s : ℤ) → (z +ℤ pos 0) +ℤ s ≡ z +ℤ s
    plain z s = omega (arith, signed_arith)

lowered : (slack : ℤ) (t : Tree) → (count_at t -ℤ pos 0) -ℤ slack ≡ count_at t -ℤ slack
lowered slack t = plain (count_at t) slack
  where
    plain : (z s : ℤ) → (z -ℤ pos 0) -ℤ s ≡ z -ℤ s
    plain z s = omega (arith, signed_arith)

widened_tables : (slack : ℤ) (root : Tree) → widened slack (tables (pos 0) root) ≡ tables slack root
widened_tables slack root =
    ap (λ upper. with_bands (tables (pos 0) root) upper (map (λ z. z -ℤ slack) (tables (pos 0) root).lower))
    (all_added (λ r. elements (known is.Max r)) (λ t. count_at t +ℤ pos 0) (λ z. z +ℤ slack)
    (λ t. count_at t +ℤ slack) (raised slack) (entries (known is.Resources root)))
    ∙ ap (λ lower. with_bands (tables (pos 0) root) (tables slack root).upper lower)
    (all_added (λ r. elements (known is.Min r)) (λ t. count_at t -ℤ pos 0) (λ z. z -ℤ slack)
    (λ t. count_at t -ℤ slack) (lowered slack) (entries (known is.Resources root)))

rolled_widened : (inst : Tables) (slack : ℤ) (plan : List (Option ℕ)) (period : ℕ)
    → widened slack (rolled inst plan period) ≡ rolled (widened slack inst) plan period
rolled_widened inst slack plan period =
    sym (rolled_bands inst (map (λ z. z +ℤ slack) inst.upper) (map (λ z. z -ℤ slack) inst.lower) plan period)

-- what a text defines with a slack is what it defines without, widened
defined_widened : (limits : Limits) (slack : ℤ) (bytes : List ℕ) (inst wide : Tables)
    → Defines limits (pos 0) bytes inst → Defines limits slack bytes wide → widened slack inst ≡ wide
defined_widened limits slack bytes inst wide d w =
    ap (widened slack) (d.tables ∙ ap (tables (pos 0)) (same_root bytes d.root w.root d.text w.text))
    ∙ widened_tables slack w.root
    ∙ sym w.tables

-- ---- the text

-- that texts are read as the instances that they are written for
abbrev pub TextsAreRead : Type 0
TextsAreRead =
    (style : Style) (limits : Limits) (slack : ℤ) (inst : Tables) → IsFitting inst → IsUnrounded inst
    → IsWithin limits inst → SpellsNumbers style inst → HasSpellableNames inst
    → Defines limits slack (instance_text style inst) (widened slack inst)

-- and that decimals spell the numbers of instances with small bands
abbrev pub DecimalsSpell : Type 0
DecimalsSpell =
    (inst : Tables) → IsFitting inst → All (λ z. unsigned_abs z < 10 ^ 20) inst.upper
    → All (λ z. unsigned_abs z < 10 ^ 20) inst.lower → SpellsNumbers decimals inst

module _ (texts : TextsAreRead) (spell : DecimalsSpell) (inst : Tables) (plan : List (Option ℕ)) (period : ℕ) where
  -- that of an instance with small bands
  pub text_is_read : IsFitting inst → HasSpellableNames inst → HasSmallBands inst → TextIsRead inst plan period
  unfolding rolled_text
  text_is_read fits names small limits slack within =
      let fitting = tables_fit inst plan period fits in
      let read : Defines limits slack (rolled_text inst plan period) (widened slack (rolled inst plan period)) =
      texts decimals limits slack (rolled inst plan period) fitting (rolled_unrounded inst plan period)
      (rolled_within limits inst plan period fits within)
      (spell (rolled inst plan period) fitting small.upper small.lower) (rolled_names inst plan period names) in
      subst (Defines limits slack (rolled_text inst plan period)) (rolled_widened inst slack plan period) read

  -- that of an instance that was read
  pub text_is_read_again : TextIsReadAgain inst plan period
  text_is_read_again limits slack bytes wide a d w =
      subst (Defines limits slack (rolled_text inst plan period))
      (ap (λ x. rolled x plan period) (defined_widened limits slack bytes inst wide d w))
      (text_is_read (defined_fits limits (pos 0) bytes inst a no_slack d) (defined_names limits (pos 0) bytes inst d)
      (defined_small limits bytes inst d) limits slack (defined_within limits (pos 0) bytes inst d))
