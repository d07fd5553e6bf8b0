-- The lines of a report, as the code makes them.
use Rattle.std.proofs.Common.{◌≡◌, ℕ, ◌+◌, ◌-◌, ◌≤◌, ◌<◌, ◌^◌, refl, sym, ◌∙◌, arith, ℤ, Bool, true, false}
use Rattle.std.proofs.Common.{int_lt, ◌&&◌, List, Option, unsigned_abs, to_z, length, map, Some, get_or}
use Rattle.std.proofs.Common.{Result, Ok, Err, IfOk}
use Rattle.std.specs.Int.{w128}
use Rattle.std.proofs.lemmas.List.Elements.{All-same, All-map, All-weaker}
use Rattle.fixed_num.specs.Floors.{floor_of, ceil_of, floor_quotient, ceil_quotient}
use Rattle.fixed_num.specs.Sums.{total, list_of}
use Rattle.fixed_num.proofs.Bits.{by_bits}
use Rattle.fixed_num.proofs.SignedLemmas.{back_from_abs}
use Rattle.instance_model.specs.declared.parts.Exclusion.{Exclusion}
use Rattle.instance_model.specs.Tables.{Tables, scenarios_of, upper_of, lower_of, in_season_of}
use Rattle.instance_model.specs.Tables.{exclusion_of, delta_of, risk_of}
use Rattle.instance_model.specs.Plans.{load_sum, is_running}
use Rattle.instance_model.specs.Rules.{clashes}
use Rattle.plan_table.specs.declared.report.LoadLine.{LoadLine}
use Rattle.plan_table.specs.declared.report.LoadState.{LoadState}
use Rattle.plan_table.specs.declared.report.LoadState.TheVariants.{Fits, Over, Under}
use Rattle.plan_score.proofs.EnclosureLemmas.{floor_is, ceil_is, floor_no_larger, ceil_no_larger}
use Rattle.plan_table.specs.declared.report.RunLine.{RunLine}
use Rattle.plan_table.specs.declared.report.PeriodReport.{PeriodReport}
use Rattle.plan_table.specs.Reports.{load_state_of, load_line_of, load_lines_of, run_risk, run_line_of, run_lines_of}
use Rattle.plan_table.specs.Reports.{running_in, clashes_in, IsReport}
use Rattle.plan_table.specs.Texts.{NamesWithin}
use Rattle.plan_table.proofs.RangeLemmas.{All-made, below_all}

-- ---- how a load stands to its limits
module _ (load lower upper : ℤ) where
  pub state_over : int_lt upper load ≡ true → Over ≡ load_state_of load lower upper
  unfolding load_state_of
  state_over h = rw h refl

  pub state_under : int_lt upper load ≡ false → int_lt load lower ≡ true → Under ≡ load_state_of load lower upper
  unfolding load_state_of
  state_under h k = rw (h, k) refl

  pub state_fits : int_lt upper load ≡ false → int_lt load lower ≡ false → Fits ≡ load_state_of load lower upper
  unfolding load_state_of
  state_fits h k = rw (h, k) refl

-- a load, its limits and how it stands to them are a line
pub load_line_is : (inst : Tables) (plan : List (Option ℕ)) (t c : ℕ) (load lower upper : ℤ) (state : LoadState)
    → load ≡ load_sum inst plan c t → unsigned_abs load ≤ 102_400_000_000_000_000_000_000
    → lower ≡ lower_of inst c t → unsigned_abs lower < 200_000_000_000_000_000_000
    → upper ≡ upper_of inst c t → unsigned_abs upper < 200_000_000_000_000_000_000
    → state ≡ load_state_of (by_bits load) (by_bits lower) (by_bits upper)
    → ◌≡◌ {A = LoadLine}
    (record { c = c; load = by_bits load; lower = by_bits lower; upper = by_bits upper; state = state })
    (load_line_of inst plan t c)
load_line_is inst plan t c load lower upper state el sl eo so eu su es =
    let bl = back_from_abs load (omega (arith, sl)) in
    let bo = back_from_abs lower (omega (arith, so)) in
    let bu = back_from_abs upper (omega (arith, su)) in
    rw (es, bl, bo, bu, el, eo, eu) refl

-- ---- a run in progress

run_risk_is : (inst : Tables) (i s t : ℕ) (risk : ℤ)
    → risk ≡ total (list_of (scenarios_of inst t) (λ k. risk_of inst i s t (k + 1))) → risk ≡ run_risk inst i s t
unfolding run_risk
run_risk_is inst i s t risk e = e

pub run_line_is : (inst : Tables) (t i s duration n : ℕ) (risk low high : ℤ) → duration ≡ delta_of inst i s
    → n ≡ scenarios_of inst t → 1 ≤ n → n ≤ 1024
    → risk ≡ total (list_of (scenarios_of inst t) (λ k. risk_of inst i s t (k + 1)))
    → unsigned_abs risk ≤ 102_400_000_000_000_000_000_000
    → low ≡ floor_quotient (by_bits risk) (to_z w128 n)
    → high ≡ ceil_quotient (by_bits risk) (to_z w128 n)
    → ◌≡◌ {A = RunLine}
    (record { i = i; start = s; day = t - s + 1; duration = duration; low = by_bits low; high = by_bits high })
    (run_line_of inst t i s)
unfolding run_line_of
run_line_is inst t i s duration n risk low high ed en some few er small el eh =
    let fits : n < 2 ^ 64 = omega (arith, few) in
    let l : low ≡ floor_of risk n = floor_is low risk n fits (omega (arith, small)) el in
    let h : high ≡ ceil_of risk n = ceil_is high risk n fits (omega (arith, small)) eh in
    let bl = back_from_abs low (omega (arith, floor_no_larger low risk n some l, small)) in
    let bh = back_from_abs high (omega (arith, ceil_no_larger high risk n some h, small)) in
    rw (ed, bl, bh, l, h, en, run_risk_is inst i s t risk er) refl

-- ---- whether an exclusion is broken
pub clash_known : (inst : Tables) (plan : List (Option ℕ)) (e t : ℕ) (x : Exclusion) (a b d : Bool)
    → x ≡ exclusion_of inst e → a ≡ in_season_of inst x.season t → b ≡ is_running inst plan x.first t
    → d ≡ is_running inst plan x.second t → (a && b && d) ≡ clashes inst plan e t
unfolding clashes
clash_known inst plan e t x a b d ex ea eb ed = rw (ea, eb, ed, ex) refl

-- by what the code has found out when it stops
module _ (inst : Tables) (plan : List (Option ℕ)) (e t : ℕ) (x : Exclusion) (a b d : Bool)
    (ex : x ≡ exclusion_of inst e)
    (ea : a ≡ in_season_of inst x.season t) where
  pub clash_off_season : a ≡ false → false ≡ clashes inst plan e t
  unfolding clashes
  clash_off_season h =
      let off : in_season_of inst (exclusion_of inst e).season t ≡ false = rw (sym ex) (sym ea ∙ h) in
      rw off refl

  pub clash_first_idle : b ≡ is_running inst plan x.first t → a ≡ true → b ≡ false → false ≡ clashes inst plan e t
  clash_first_idle eb h k =
      let s : (a && b && is_running inst plan x.second t) ≡ false = rw (h, k) refl in
      sym s ∙ clash_known inst plan e t x a b (is_running inst plan x.second t) ex ea eb refl

  pub clash_if_second : b ≡ is_running inst plan x.first t → d ≡ is_running inst plan x.second t → a ≡ true → b ≡ true
      → d ≡ clashes inst plan e t
  clash_if_second eb ed h k =
      let s : (a && b && d) ≡ d = rw (h, k) refl in
      sym s ∙ clash_known inst plan e t x a b d ex ea eb ed

-- ---- what a report names is in the instance

line_within : (inst : Tables) (t i s : ℕ) → i < length inst.names → (run_line_of inst t i s).i < length inst.names
unfolding run_line_of
line_within inst t i s l = l

report_within : (inst : Tables) (starts : List ℕ) (t : ℕ) (report : PeriodReport) → IsReport inst starts t report
    → NamesWithin inst report
report_within inst starts t report is =
    let plan = map Some starts in
    record {
      loads = All-same (λ line. line.c < length inst.resource_names) report.loads (load_lines_of inst plan t) is.loads
          (All-made (λ line. line.c < length inst.resource_names) (load_line_of inst plan t)
          (length inst.resource_names) (λ c l. l));
      runs = All-same (λ line. line.i < length inst.names) report.runs (run_lines_of inst starts t) is.runs
          (All-map (λ line. line.i < length inst.names) (λ i. run_line_of inst t i (get_or starts i 0))
          (running_in inst starts t)
          (All-weaker (λ i. i < length inst.names)
          (λ i. (run_line_of inst t i (get_or starts i 0)).i < length inst.names)
          (λ i l. line_within inst t i (get_or starts i 0) l) (running_in inst starts t)
          (below_all (λ i. is_running inst plan i t) (length inst.names))));
      clashes = All-same (λ e. e < length inst.exclusion_names) report.clashes (clashes_in inst plan t) is.clashes
          (below_all (λ e. clashes inst plan e t) (length inst.exclusion_names));
    }

pub names_within : {E : Type 0} (inst : Tables) (starts : List ℕ) (t : ℕ) (r : Result PeriodReport E)
    → IfOk r (IsReport inst starts t) → IfOk r (NamesWithin inst)
names_within inst starts t (Ok report) is = report_within inst starts t report is
names_within inst starts t (Err e) is = tt
