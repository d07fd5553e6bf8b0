-- The best start of one intervention among those below a bound.
use Rattle.std.proofs.Common.{◌≡◌, ℕ, ◌+◌, ◌<◌, ◌≤◌, sym, subst, arith, inl, inr, Option, Some, None, IsTrue}
use Rattle.std.specs.Option.{IfNone}
use Rattle.std.proofs.lemmas.Bool.{cases_lt}
use Rattle.instance_model.specs.declared.key.Key.{Key}
use Rattle.instance_model.specs.Tables.{is_allowed, tmax}
use Rattle.instance_model.specs.Keys.{KeyBelow}
use Rattle.plan_moves.specs.declared.change.Change.TheVariants.{Move}
use Rattle.plan_moves.specs.Changing.{changed_key}
use Rattle.plan_moves.specs.KeptPlans.{KeptPlans, present_key}
use Rattle.instance_model.proofs.EntryLemmas.{is_allowed_facts}
use Rattle.local_search.specs.Progress.{NoStartLowers}
use Rattle.local_search.proofs.KeyLemmas.{KeyBelow-trans}

-- the present key
abbrev pub key_now : KeptPlans → Key
key_now kept = present_key kept.instance kept.plans

-- the key with intervention i at s
abbrev pub key_at : KeptPlans → ℕ → ℕ → Key
key_at kept i s = changed_key kept (Move i s)

-- no allowed start of intervention i below s lowers the key
abbrev pub NoneBelow : KeptPlans → ℕ → ℕ → Type 0
NoneBelow kept i s =
    (r : ℕ) → 1 ≤ r → r < s → IsTrue (is_allowed kept.instance i r) → KeyBelow (key_at kept i r) (key_now kept) → ⊥

-- an allowed start that lowers the key, and this is the key there
pub record IsBetter (kept : KeptPlans) (i s : ℕ) (least : Key) : Type 0 where
  pub allowed : IsTrue (is_allowed kept.instance i s)
  pub value : least ≡ key_at kept i s
  pub lower : KeyBelow least (key_now kept)

-- the best start found below s, with the least key so far
abbrev pub IsBestBelow : KeptPlans → ℕ → ℕ → Option ℕ → Key → Type 0
IsBestBelow kept i s None least = (least ≡ key_now kept) × NoneBelow kept i s
IsBestBelow kept i s (Some best) least = IsBetter kept i best least

pub better_none : (kept : KeptPlans) (i : ℕ) (least : Key) → least ≡ key_now kept → IsBestBelow kept i 1 None least
better_none kept i least e = (e, λ r low high ok lower. absurd (omega (arith, low, high)))

-- a start whose key is below the least so far
pub better_more : (kept : KeptPlans) (i s : ℕ) (best : Option ℕ) (least key : Key) → IsBestBelow kept i s best least
    → IsTrue (is_allowed kept.instance i s) → key ≡ key_at kept i s → KeyBelow key least
    → IsBestBelow kept i (s + 1) (Some s) key
better_more kept i s None least key before ok value below =
    record { allowed = ok; value = value; lower = subst (KeyBelow key) before.0 below }
better_more kept i s (Some best) least key before ok value below =
    record { allowed = ok; value = value; lower = KeyBelow-trans key least (key_now kept) below before.lower }

-- one whose key isn't
pub better_same : (kept : KeptPlans) (i s : ℕ) (best : Option ℕ) (least : Key) → IsBestBelow kept i s best least
    → (IsTrue (is_allowed kept.instance i s) → KeyBelow (key_at kept i s) least → ⊥)
    → IsBestBelow kept i (s + 1) best least
better_same kept i s (Some best) least before not = before
better_same kept i s None least before not = (
  before.0,
  λ r low high ok lower. elim (cases_lt r s) [
    | inl l ↦ before.1 r low l ok lower
    | inr l ↦
        let at : r ≡ s = omega (arith, l, high) in
        let lower_at : KeyBelow (key_at kept i s) (key_now kept) =
        subst (λ (k : ℕ). KeyBelow (key_at kept i k) (key_now kept)) at lower in
        not (subst (λ (k : ℕ). IsTrue (is_allowed kept.instance i k)) at ok)
        (subst (KeyBelow (key_at kept i s)) (sym before.0) lower_at)
  ],
)

-- all starts were looked at: where none is better, none lowers the key
pub better_nowhere : (kept : KeptPlans) (i past : ℕ) (best : Option ℕ) (least : Key) → past ≡ tmax kept.instance i + 1
    → IsBestBelow kept i past best least → IfNone best (NoStartLowers kept i)
better_nowhere kept i past (Some best) least e before = tt
better_nowhere kept i past None least e before = λ s can lower.
    let facts = is_allowed_facts kept.instance i s can.1 in
    before.1 s facts.0 (omega (arith, facts.1, e)) can.1 lower
