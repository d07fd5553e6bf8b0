-- What the invariant of an instance gives where risks or a soft flag are read.
use Rattle.std.proofs.Common.{◌≡◌, ℕ, ◌+◌, ◌-◌, ◌<◌, ◌≤◌, ◌^◌, length, true, false, get_or, List, [], ◌∷◌, zero, suc}
use Rattle.std.proofs.Common.{refl, arith, subst, sym}
use Rattle.std.proofs.Common.{◌∙◌, ap, Bool, ℤ, pos, map, flat_map, Vec}
use Rattle.std.proofs.lemmas.List.{length-map, get_or-map}
use Rattle.std.specs.declared.alloc.Global.{Global}
use Rattle.fixed_num.specs.Sums.{list_of}
use Rattle.instance_model.specs.RiskLists.{RiskRow}
use Rattle.instance_model.specs.declared.run_risks.ReadRisks.{ReadRisks}
use Rattle.instance_model.specs.declared.run_risks.RunRisks.TheVariants.{InOrder, AsRead}
use Rattle.instance_model.specs.declared.instance.Instance.TheInside.{Inside}
use Rattle.instance_model.specs.Tables.{Tables, is_allowed, in_run, scenarios_of, entry_place, scenarios_before}
use Rattle.instance_model.specs.Tables.{periods_before, risk_place, risk_of, soft_of}
use Rattle.instance_model.specs.RunRisks.{list_place, no_list, runs_of, values_of, flags_of, risks_of, softs_of}
use Rattle.instance_model.specs.RunRisks.{AreRuns, AreAllRuns, SuitRuns}
use Rattle.instance_model.specs.Fitting.{IsFitting}
use Rattle.instance_model.specs.View.{tables_of, rows_of}
use Rattle.instance_model.specs.Indexed.{IsIndexed}
use Rattle.instance_model.proofs.EntryLemmas.{IsRunning-from}
use Rattle.instance_model.proofs.FitLemmas.{risk_place_below, soft_place_below, scenarios_of_small}
use Rattle.instance_model.proofs.RunLemmas.{flags_few, place_in_lists, list_number, list_flag}
use Rattle.instance_model.proofs.ColumnLemmas.{PlaceFacts, PlaceFacts-from, list_place_from, list_read}

pub fits_as : (a : Inside) (inst : Tables) → tables_of a.parts ≡ inst → IsIndexed a → IsFitting inst
fits_as a inst e x = subst IsFitting e x.fits

pub risk_facts : (a : Inside) (inst : Tables) (i s t : ℕ) → tables_of a.parts ≡ inst → IsIndexed a
    → i < length inst.names → is_allowed inst i s ≡ true → in_run inst i s t ≡ true
    → PlaceFacts inst a.risks (scenarios_before inst) i s t
risk_facts a inst i s t e x h al ru =
    subst (λ (z : Tables). PlaceFacts inst a.risks (scenarios_before z) i s t) e
    (PlaceFacts-from a.parts inst a.risks (scenarios_before (tables_of a.parts)) i s t e x.fits x.risks x.risk_column h
    al ru)

pub soft_facts : (a : Inside) (inst : Tables) (i s t : ℕ) → tables_of a.parts ≡ inst → IsIndexed a
    → i < length inst.names → is_allowed inst i s ≡ true → in_run inst i s t ≡ true
    → PlaceFacts inst a.soft periods_before i s t
soft_facts a inst i s t e x = PlaceFacts-from a.parts inst a.soft periods_before i s t e x.fits x.soft x.soft_column

-- the risks of a period are among all, of which there are not many
pub risk_room : (a : Inside) (inst : Tables) (i s t : ℕ) → tables_of a.parts ≡ inst → IsIndexed a
    → i < length inst.names → is_allowed inst i s ≡ true → in_run inst i s t ≡ true
    → (entry_place inst (scenarios_before inst) i s t + scenarios_of inst t ≤ length inst.risks)
    × (length inst.risks < 2 ^ 62)
unfolding risk_place
risk_room a inst i s t e x h al ru =
    let f = fits_as a inst e x in
    let r = IsRunning-from inst i s t al ru in
    let some = scenarios_of_small inst t f (omega (arith, r.start, r.from)) (omega (arith, r.to, r.ends)) in
    let last = risk_place_below inst i s t (scenarios_of inst t) f h al r some.0 (omega arith) in
    (omega (arith, last, some.0), omega (arith, f.risks_few))

pub soft_room : (a : Inside) (inst : Tables) (i s t : ℕ) → tables_of a.parts ≡ inst → IsIndexed a
    → i < length inst.names → is_allowed inst i s ≡ true → in_run inst i s t ≡ true
    → (entry_place inst periods_before i s t < length inst.soft) × (length inst.soft < 2 ^ 62)
soft_room a inst i s t e x h al ru =
    let f = fits_as a inst e x in (
      soft_place_below inst i s t f h al (IsRunning-from inst i s t al ru),
      omega (arith, flags_few inst f, f.risks_few),
    )

-- the place of a period's list among those of its intervention
pub list_facts : (a : Inside) (inst : Tables) (i s t : ℕ) → tables_of a.parts ≡ inst → IsIndexed a
    → i < length inst.names → is_allowed inst i s ≡ true → in_run inst i s t ≡ true
    → (get_or (get_or (rows_of a.soft.places.items) i []) 0 0
    ≤ get_or (get_or (rows_of a.soft.places.items) i []) (s - 1) 0)
    × (get_or (get_or (rows_of a.soft.places.items) i []) (s - 1) 0 + (get_or a.soft.before.items (t - 1) 0
    - get_or a.soft.before.items (s - 1) 0) - get_or (get_or (rows_of a.soft.places.items) i []) 0 0
    ≡ list_place inst i s t)
list_facts a inst i s t e x = list_place_from a.parts inst a.soft i s t e x.fits x.soft x.soft_column

-- the tables of risks that stand in order
pub in_order : (a : Inside) (inst : Tables) (numbers : Vec ℤ Global) (soft : Vec Bool Global) → tables_of a.parts ≡ inst
    → a.parts.risks ≡ InOrder numbers soft → (inst.risks ≡ numbers.items) × (inst.soft ≡ soft.items)
in_order a inst numbers soft e r = (
  sym (ap (λ (x : Tables). x.risks) e) ∙ ap risks_of r,
  sym (ap (λ (x : Tables). x.soft) e) ∙ ap softs_of r,
)

get_or_default : (xs : List Bool) (k : ℕ) (d e : Bool) → k < length xs → get_or xs k d ≡ get_or xs k e
get_or_default [] k d e h = absurd (omega (arith, h))
get_or_default (x ∷ xs) zero d e h = refl
get_or_default (x ∷ xs) (suc k) d e h = get_or_default xs k d e (omega (arith, h))

-- a flag of those that stand in order
pub flag_read : (inst : Tables) (i s t place : ℕ) (soft : List Bool) (flag : Bool) → inst.soft ≡ soft
    → place ≡ entry_place inst periods_before i s t → place < length inst.soft → flag ≡ get_or soft place flag
    → flag ≡ soft_of inst i s t
unfolding soft_of
flag_read inst i s t place soft flag same m within is =
    is ∙ ap (λ (xs : List Bool). get_or xs place flag) (sym same) ∙ get_or_default inst.soft place flag false within
    ∙ ap (λ (k : ℕ). get_or inst.soft k false) m

-- a period of an allowed run is one
pub period_from : (inst : Tables) (i s t : ℕ) → is_allowed inst i s ≡ true → in_run inst i s t ≡ true
    → (1 ≤ t) × (t ≤ inst.periods)
period_from inst i s t al ru = let r = IsRunning-from inst i s t al ru in
    (omega (arith, r.start, r.from), omega (arith, r.to, r.ends))

-- the list of a period among those of its intervention that were read
pub record ReadFacts (inst : Tables) (i s t : ℕ) (w : ReadRisks) : Type 0 where
  pub within : list_place inst i s t < length (runs_of w)
  pub count : length (get_or (runs_of w) (list_place inst i s t) no_list).values ≡ scenarios_of inst t
  pub values : (get_or (runs_of w) (list_place inst i s t) no_list).values
      ≡ list_of (scenarios_of inst t) (λ k. risk_of inst i s t (k + 1))
  pub soft : (get_or (runs_of w) (list_place inst i s t) no_list).soft ≡ soft_of inst i s t

read_facts_of : (inst : Tables) (i s t : ℕ) (rows : List (List RiskRow)) (w : ReadRisks) → IsFitting inst
    → AreAllRuns inst rows → inst.risks ≡ flat_map values_of rows → inst.soft ≡ flat_map flags_of rows
    → get_or rows i [] ≡ runs_of w → i < length inst.names → is_allowed inst i s ≡ true → in_run inst i s t ≡ true
    → ReadFacts inst i s t w
unfolding soft_of
read_facts_of inst i s t rows w f h risks soft own number al ru =
    let r = IsRunning-from inst i s t al ru in
    let n = list_place inst i s t in
    let mine : AreRuns inst i (runs_of w) = subst (AreRuns inst i) own (h.runs i number) in
    let count = mine.counts s t al r.from r.to in
    let place = entry_place inst (scenarios_before inst) i s t in
    record {
      within = place_in_lists inst i s t (runs_of w) mine al r;
      count = count;
      values = list_read inst i s t (get_or (runs_of w) n no_list).values count (λ k l.
          ap (λ (xs : List ℤ). get_or xs (place + k) (pos 0)) risks ∙ list_number inst rows i s t k f h number al r l
          ∙ ap (λ (z : List RiskRow). get_or (get_or z n no_list).values k (pos 0)) own);
      soft = sym (ap (λ (xs : List Bool). get_or xs (entry_place inst periods_before i s t) false) soft
          ∙ list_flag inst rows i s t h number al r ∙ ap (λ (z : List RiskRow). (get_or z n no_list).soft) own);
    }

pub read_facts : (a : Inside) (inst : Tables) (i s t : ℕ) (works : Vec ReadRisks Global) (w : ReadRisks)
    → tables_of a.parts ≡ inst → IsIndexed a → a.parts.risks ≡ AsRead works → w ≡ get_or works.items i w
    → i < length inst.names → is_allowed inst i s ≡ true → in_run inst i s t ≡ true → ReadFacts inst i s t w
read_facts a inst i s t works w e x r is number al ru =
    let rows = map runs_of works.items in
    let suits : AreAllRuns inst rows = subst (λ (z : Tables). SuitRuns z (AsRead works)) e
    (subst (SuitRuns (tables_of a.parts)) r a.parts.suits) in
    let few : i < length works.items = omega (arith, number, suits.works, length-map works.items runs_of) in
    read_facts_of inst i s t rows w (fits_as a inst e x) suits (sym (ap (λ (z : Tables). z.risks) e) ∙ ap risks_of r)
    (sym (ap (λ (z : Tables). z.soft) e) ∙ ap softs_of r)
    (get_or-map runs_of works.items i w [] few ∙ ap runs_of (sym is)) number al ru
