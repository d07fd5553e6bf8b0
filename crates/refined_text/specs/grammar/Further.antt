-- What has been read of a refined price list besides its prices on limits and exclusions, and what one entry adds.
use Rattle.std.specs.Prelude.{◌≡◌, ◌⊎◌, ℕ, ◌+◌, ◌-◌, ◌<◌, ◌≤◌, Bool, true, false, List, [], ◌∷◌, ◌++◌, length, map}
use Rattle.std.specs.Prelude.{Option, Some, None, All, IsTrue, slice_set, replicate}
use Rattle.std.specs.Cmp.Lexicographic.{slice_cmp}
use Rattle.std.specs.Ordering.{is_lt, nat_cmp}
use Rattle.instance_model.specs.Tables.{Tables, scenarios_of, rank_of}
use Rattle.refined_prices.specs.declared.member.Member.{Member}
use Rattle.refined_prices.specs.declared.group_tail.GroupTail.{GroupTail}
use Rattle.refined_prices.specs.declared.offset.Offset.{Offset}
use Rattle.refined_prices.specs.declared.clique.Clique.{Clique}
use Rattle.refined_prices.specs.Groups.{weight_in, IsGroup, AreDisjoint}
use Rattle.refined_prices.specs.Offsets.{group_tail_at, IsOffset}
use Rattle.refined_prices.specs.Cliques.{IsPricedClique}
use Rattle.refined_text.specs.declared.lines.members.LineMember.{LineMember}
use Rattle.refined_check.specs.certificate.Orders.{GroupBefore}

-- The kind of the last entry, counted from 1 as cap, group, offset and clique, 0 where there is none; the period of the
-- last group, 0 where there is none; and the entries.
pub record Further : Type 0 where
  pub kind : ℕ
  pub period : ℕ
  pub capped : Bool
  pub tails : List (Option GroupTail)
  pub offsets : List Offset
  pub cliques : List Clique

-- nothing has been read
abbrev pub no_further : Tables → Further
no_further inst =
    record {
      kind = 0;
      period = 0;
      capped = false;
      tails = replicate inst.periods None;
      offsets = [];
      cliques = [];
    }

-- ---- entries, from the numbers of their lines, which count from 1

-- a member of a group
abbrev pub member_of : LineMember → Member
member_of x = record { scenario = x.scenario; weight = x.weight }

-- a group
abbrev pub group_of : List LineMember → List Member
group_of members = map member_of members

-- an offset
abbrev pub offset_of_line : ℕ → ℕ → ℕ → ℕ → Offset
offset_of_line t i g v = record { period = t; intervention = i - 1; group = g - 1; value = v }

-- a clique
abbrev pub clique_of_line : ℕ → ℕ → List ℕ → Clique
clique_of_line t v members = record { period = t; value = v; members = map (λ i. i - 1) members }

-- ---- groups

-- the groups of a tail: none where there is no tail
abbrev pub groups_of : Option GroupTail → List (List Member)
groups_of None = []
groups_of (Some tail) = tail.groups

-- the groups of period t
abbrev pub groups_at : List (Option GroupTail) → ℕ → List (List Member)
groups_at tails t = groups_of (group_tail_at tails t)

-- a tail with a group more; the first group says what the weights add up to
abbrev pub with_group : Option GroupTail → List Member → GroupTail
with_group None group = record { weight = weight_in group; groups = group ∷ [] }
with_group (Some tail) group = record { weight = tail.weight; groups = tail.groups ++ group ∷ [] }

-- that of period t, among all tails
abbrev pub with_group_at : List (Option GroupTail) → ℕ → List Member → List (Option GroupTail)
with_group_at tails t group = slice_set tails (t - 1) (Some (with_group (group_tail_at tails t) group))

-- period t has no tail, or enough groups
abbrev pub HasEnough : Tables → List (Option GroupTail) → ℕ → Type 0
HasEnough inst tails t =
    (tail : GroupTail) → group_tail_at tails t ≡ Some tail
    → scenarios_of inst t + 1 ≤ length tail.groups + rank_of inst t

-- a group of period t comes behind all entries so far
pub record IsNextGroup (further : Further) (t : ℕ) (group : List Member) : Type 0 where
  pub kind : further.kind ≤ 2
  pub period : further.period ≤ t
  pub above : All (λ other. GroupBefore other group) (groups_at further.tails t)

-- the group is in range beside the other groups of its period, and the period before it has enough
pub record GroupFits (inst : Tables) (further : Further) (t : ℕ) (group : List Member) : Type 0 where
  pub from : 1 ≤ t
  pub to : t ≤ inst.periods
  pub some_weight : 1 ≤ (with_group (group_tail_at further.tails t) group).weight
  pub small_weight : (with_group (group_tail_at further.tails t) group).weight ≤ 1000
  pub own : IsGroup (scenarios_of inst t) (with_group (group_tail_at further.tails t) group).weight group
  pub apart : All (λ other. AreDisjoint other group) (groups_at further.tails t)
  pub closed : (further.period ≡ t → ⊥) → HasEnough inst further.tails further.period

-- ---- offsets

-- an offset is below that of these numbers: by period, then intervention, then group
abbrev pub OffsetBelow : ℕ → ℕ → ℕ → Offset → Type 0
OffsetBelow t i g x = (x.period < t) ⊎ ((x.period ≡ t) × ((x.intervention + 1 < i)
    ⊎ ((x.intervention + 1 ≡ i) × (x.group + 1 < g))))

-- an offset comes behind all entries so far
pub record IsNextOffset (further : Further) (t i g : ℕ) : Type 0 where
  pub kind : further.kind ≤ 3
  pub above : All (OffsetBelow t i g) further.offsets

-- it is in range, and the period of the last group has enough
pub record OffsetFits (inst : Tables) (further : Further) (t i g v : ℕ) : Type 0 where
  pub some_intervention : 1 ≤ i
  pub some_group : 1 ≤ g
  pub offset : IsOffset inst further.tails (offset_of_line t i g v)
  pub closed : HasEnough inst further.tails further.period

-- ---- cliques

-- a clique is below that of these numbers: by period, then members in the order of lists of numbers
abbrev pub CliqueBelow : ℕ → List ℕ → Clique → Type 0
CliqueBelow t members x = (x.period < t)
    ⊎ ((x.period ≡ t) × IsTrue (is_lt (slice_cmp nat_cmp (map (λ i. i + 1) x.members) members)))

-- a clique comes behind all entries so far
abbrev pub IsNextClique : Further → ℕ → List ℕ → Type 0
IsNextClique further t members = All (CliqueBelow t members) further.cliques

-- it is in range, and the period of the last group has enough
pub record CliqueFits (inst : Tables) (further : Further) (t v : ℕ) (members : List ℕ) : Type 0 where
  pub numbers : All (λ i. 1 ≤ i) members
  pub some : 2 ≤ length members
  pub few : length further.cliques < 4096
  pub clique : IsPricedClique inst (clique_of_line t v members)
  pub closed : HasEnough inst further.tails further.period

-- ---- what one entry adds

abbrev pub with_cap : Further → Further
with_cap further = record further { kind = 1; capped = true }

abbrev pub with_group_of : Further → ℕ → List Member → Further
with_group_of further t group =
    record further { kind = 2; period = t; tails = with_group_at further.tails t group }

abbrev pub with_offset : Further → Offset → Further
with_offset further x = record further { kind = 3; offsets = further.offsets ++ x ∷ [] }

abbrev pub with_clique : Further → Clique → Further
with_clique further x = record further { kind = 4; cliques = further.cliques ++ x ∷ [] }
