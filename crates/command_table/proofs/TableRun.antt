-- What a run of `table` promises follows from its end.
use Rattle.std.proofs.Common.{ℕ, inl, inr, List, Option, refl, sym, subst}
use Rattle.std.specs.Prelude.{IsSome}
use Rattle.plan_desk.specs.Desk.{Shown}
use Rattle.plan_desk.specs.Contents.{Says, KeepsFiles}
use Rattle.instance_model.specs.declared.limits.Limits.{Limits}
use Rattle.instance_model.specs.Tables.{Tables}
use Rattle.instance_model.specs.Rules.{first_start_rule}
use Rattle.command_frame.specs.Sources.{Source}
use Rattle.command_frame.specs.Ending.{Answer, Ends}
use Rattle.command_frame.specs.Bytes.{TakesOne, RefusesInstance, Spells, RefusesPlan}
use Rattle.command_frame.specs.Files.{Meeting, reading, by_bytes, OnPlan, ReadsInstance, ReadsPlan}
use Rattle.command_frame.specs.Files.OnFile.{unread, refused, stands}
use Rattle.command_frame.specs.Openings.{IsOpeningOf}
use Rattle.command_table.specs.Tabling.{Tabulates, AnswersTable, DueTable, BehindTable, ExpectsTable, RunsTable}
use Rattle.command_table.specs.Tabling.Tabulates.{broken_start, reported}
use Rattle.command_table.specs.Tabling.BehindTable.{reported as behind_reported}
use Rattle.command_table.specs.Tabling.BehindTable.{broken_start as behind_broken_start}
use Rattle.command_table.specs.Tabling.BehindTable.{refused_instance as behind_refused_instance}
use Rattle.command_table.specs.Tabling.BehindTable.{refused_plan as behind_refused_plan}
use Rattle.command_table.specs.Tabling.BehindTable.{unread_instance as behind_unread_instance}
use Rattle.command_table.specs.Tabling.BehindTable.{unread_plan as behind_unread_plan}
use Rattle.command_table.specs.Tabling.ExpectsTable.{no_instance, refused_instance, no_plan, refused_plan}
use Rattle.command_table.specs.Tabling.ExpectsTable.{allowed_starts, broken_start as expects_broken_start}
use Rattle.command_frame.proofs.FileLemmas.{Carries, on_other, later_reading, exact_reading, OrUnread, missing_file}
use Rattle.command_frame.proofs.FileLemmas.{then_next, then_more, say_refusal}
use Rattle.command_frame.proofs.AnswerLemmas.{instance_status, plan_status}
use Rattle.command_frame.proofs.EndLemmas.{Stays, ends_quiet, ends_behind, ends_allowed, ends_exact}
use Rattle.command_frame.proofs.TakenLemmas.{on_taken, bad_instance, on_spelled, bad_plan}
use Rattle.command_frame.proofs.OpeningLemmas.{no_broken_start, no_opening}
use Rattle.command_table.proofs.WholeYear.{whole_year}
use Rattle.command_table.proofs.TableAnswers.{table_once}

-- what is answered to a plan
abbrev OnPlanned : Limits → Meeting → List ℕ → (from to : ℕ) → Tables → Answer → Type 0
OnPlanned limits met name from to inst = OnPlan limits inst met 3 name (λ p. Tabulates inst p from to)

table_other : (limits : Limits) (slack from to : ℕ) (met other : Meeting) (i p j q : List ℕ) (a : Answer)
    → Carries met i other j → Carries met p other q
    → AnswersTable limits met slack i p from to a → AnswersTable limits other slack j q from to a
table_other limits slack from to met other i p j q a ci cp =
    on_other met other 2 i j (RefusesInstance limits) (TakesOne limits slack) (OnPlanned limits met p from to)
    (OnPlanned limits other q from to) a ci
    (λ inst b. on_other met other 3 p q (RefusesPlan limits inst) (Spells limits inst) (λ x. Tabulates inst x from to)
    (λ x. Tabulates inst x from to) b cp (λ x c is. is))

pub table_stays : (limits : Limits) (source : Source) (name : List ℕ) (from to : ℕ) (old mid new : Shown)
    → Stays (λ at. AnswersTable limits (reading old at) source.slack source.instance name from to) mid new
table_stays limits source name from to old mid new goes a =
    table_other limits source.slack from to (reading old mid) (reading old new) source.instance name source.instance
    name a (later_reading source.instance old mid new goes) (later_reading name old mid new goes)

-- ---- what stands behind the status

tabulated_behind : (limits : Limits) (source : Source) (name : List ℕ) (from to : ℕ) (old new : Shown) (inst : Tables)
    (plan : List (Option ℕ)) (a : Answer)
    → ReadsInstance limits source old inst → ReadsPlan limits name inst old plan
    → Tabulates inst plan from to a → Says a.text old new → BehindTable limits source name from to old new a.status
tabulated_behind limits source name from to old new inst plan a reads reads_plan (broken_start rule first) says =
    behind_broken_start
    (record {
      inst = inst;
      reads = reads;
      plan = plan;
      reads_plan = reads_plan;
      rule = rule;
      first = first;
      says = says;
    })
tabulated_behind limits source name from to old new inst plan a reads reads_plan (reported starts opens) says =
    behind_reported
    (record {
      inst = inst;
      reads = reads;
      plan = plan;
      reads_plan = reads_plan;
      starts = starts;
      opens = opens;
      says = says;
      whole = whole_year inst plan starts from to opens;
    })

table_behind : (limits : Limits) (source : Source) (name : List ℕ) (from to : ℕ) (old new : Shown) (a : Answer)
    → AnswersTable limits (reading old new) source.slack source.instance name from to a
    → Says a.text old new → BehindTable limits source name from to old new a.status
table_behind limits source name from to old new a (unread fails) says =
    behind_unread_instance (record { fails = fails; says = says })
table_behind limits source name from to old new a (refused bytes b held is) says =
    subst (λ (n : ℕ). BehindTable limits source name from to old new n) (sym (instance_status limits bytes b is))
    (behind_refused_instance (say_refusal source.instance (RefusesInstance limits) old new bytes b held is says))
table_behind limits source name from to old new a (stands bytes inst b held takes (unread fails)) says =
    behind_unread_plan inst (record { bytes = bytes; held = held; such = takes })
    (record { fails = fails; says = says })
table_behind limits source name from to old new a (stands bytes inst b held takes (refused xs c also is)) says =
    subst (λ (n : ℕ). BehindTable limits source name from to old new n) (sym (plan_status limits inst xs c is))
    (behind_refused_plan inst (record { bytes = bytes; held = held; such = takes })
    (say_refusal name (RefusesPlan limits inst) old new xs c also is says))
table_behind limits source name from to old new a
    (stands bytes inst b held takes (stands xs plan c also spells is)) says =
    tabulated_behind limits source name from to old new inst plan c
    (record { bytes = bytes; held = held; such = takes }) (record { bytes = xs; held = also; such = spells }) is says

-- ---- which status comes

allowed_verdict : (inst : Tables) (plan : List (Option ℕ)) (from to : ℕ) (starts : List ℕ) (a : Answer)
    → IsOpeningOf inst plan starts → Tabulates inst plan from to a → OrUnread 0 a
allowed_verdict inst plan from to starts a opens (broken_start rule first) =
    absurd (no_broken_start inst plan starts rule opens first)
allowed_verdict inst plan from to starts a opens (reported other also) = inr refl

broken_verdict : (inst : Tables) (plan : List (Option ℕ)) (from to : ℕ) (a : Answer)
    → IsSome (first_start_rule inst plan) → Tabulates inst plan from to a → OrUnread 1 a
broken_verdict inst plan from to a some (broken_start rule first) = inr refl
broken_verdict inst plan from to a some (reported starts opens) = absurd (no_opening inst plan starts some opens)

module _ (limits : Limits) (source : Source) (name : List ℕ) (from to : ℕ) (old new : Shown) where
  table_expects : (expected : ℕ) → ExpectsTable limits source name old expected → (a : Answer)
      → AnswersTable limits (reading old new) source.slack source.instance name from to a → OrUnread expected a
  table_expects expected (no_instance missing) a due =
      inl (missing_file 2 source.instance old new (RefusesInstance limits) (TakesOne limits source.slack)
      (OnPlanned limits (reading old new) name from to) a missing due)
  table_expects expected (refused_instance tells) a due =
      bad_instance limits source old new (OnPlanned limits (reading old new) name from to) a tells due
  table_expects expected (no_plan inst tells missing) a due =
      then_next (OnPlanned limits (reading old new) name from to inst a) 7 a
      (λ d. inl (missing_file 3 name old new (RefusesPlan limits inst) (Spells limits inst)
      (λ p. Tabulates inst p from to) a missing d))
      (on_taken limits source old new (OnPlanned limits (reading old new) name from to) inst a tells due)
  table_expects expected (refused_plan inst tells bad) a due =
      then_next (OnPlanned limits (reading old new) name from to inst a) 4 a
      (bad_plan limits inst name old new (λ p. Tabulates inst p from to) a bad)
      (on_taken limits source old new (OnPlanned limits (reading old new) name from to) inst a tells due)
  table_expects expected (allowed_starts inst plan starts tells spells opens) a due =
      then_next (Tabulates inst plan from to a) 0 a (allowed_verdict inst plan from to starts a opens)
      (then_more (OnPlanned limits (reading old new) name from to inst a) (Tabulates inst plan from to a) a
      (on_spelled limits inst name old new (λ p. Tabulates inst p from to) plan a spells)
      (on_taken limits source old new (OnPlanned limits (reading old new) name from to) inst a tells due))
  table_expects expected (expects_broken_start inst plan tells spells some) a due =
      then_next (Tabulates inst plan from to a) 1 a (broken_verdict inst plan from to a some)
      (then_more (OnPlanned limits (reading old new) name from to inst a) (Tabulates inst plan from to a) a
      (on_spelled limits inst name old new (λ p. Tabulates inst p from to) plan a spells)
      (on_taken limits source old new (OnPlanned limits (reading old new) name from to) inst a tells due))

-- ---- a run

pub table_runs : (limits : Limits) (source : Source) (name : List ℕ) (from to : ℕ) (old new : Shown) (status : ℕ)
    → Ends (DueTable limits source name from to old) old new status → KeepsFiles old new
    → RunsTable limits source name from to old new status
table_runs limits source name from to old new status ends keeps =
    record {
      ends = ends;
      behind = ends_behind
          (λ at. AnswersTable limits (reading old at) source.slack source.instance name from to)
          (BehindTable limits source name from to old new) old new status
          (table_behind limits source name from to old new) ends;
      allowed = λ expected expects.
          ends_allowed (λ at. AnswersTable limits (reading old at) source.slack source.instance name from to) old new
          status expected (table_expects limits source name from to old new expected expects) ends;
      exact = λ instance plan tells tells_plan calm.
          ends_exact (λ at. AnswersTable limits (reading old at) source.slack source.instance name from to)
          (AnswersTable limits by_bytes source.slack instance plan from to) old new status
          (λ a. table_other limits source.slack from to (reading old new) by_bytes source.instance name instance plan a
          (exact_reading source.instance instance old new tells calm)
          (exact_reading name plan old new tells_plan calm)) calm ends;
      one = table_once limits from to;
      output = keeps;
      quiet = ends_quiet (DueTable limits source name from to old) old new status ends;
    }
