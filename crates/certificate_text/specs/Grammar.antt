-- Which line may stand where in the text of a certificate, and in which ranges its numbers are.
use Rattle.std.specs.Prelude.{◌≡◌, ◌⊎◌, ℕ, ◌-◌, ◌<◌, ◌≤◌, ⊤, List, [], ◌∷◌, length, Option, Some, None}
use Rattle.instance_model.specs.Tables.{Tables}
use Rattle.lagrange_bound.specs.declared.span.Span.{Span}
use Rattle.lagrange_bound.specs.Prices.{IsTail, IsExPrice}
use Rattle.certificate_lines.specs.declared.line.Version.{Version}
use Rattle.certificate_lines.specs.declared.line.Version.TheVariants.{Two}
use Rattle.certificate_lines.specs.declared.line.CertificateLine.{CertificateLine}
use Rattle.certificate_lines.specs.declared.line.CertificateLine.TheVariants as line
use Rattle.certificate_tree.specs.Trees.{below, above, IsSplit, root_box}
use Rattle.certificate_tree.specs.Ranges.{IsBoundInRange}

-- What entries are ordered by: first the kind, counted from 1 as up, lo, tail, ex, then the
-- first two numbers, of which a tail has one.
pub record EntryKey : Type 0 where
  pub kind : ℕ
  pub first : ℕ
  pub second : ℕ

-- the keys of the four kinds
abbrev pub up_key : ℕ → ℕ → EntryKey
up_key c t = record { kind = 1; first = c; second = t }

abbrev pub lo_key : ℕ → ℕ → EntryKey
lo_key c t = record { kind = 2; first = c; second = t }

abbrev pub tail_key : ℕ → EntryKey
tail_key t = record { kind = 3; first = t; second = 0 }

abbrev pub ex_key : ℕ → ℕ → EntryKey
ex_key e t = record { kind = 4; first = e; second = t }

-- a key below that of each entry
abbrev pub before_entries : EntryKey
before_entries = record { kind = 0; first = 0; second = 0 }

-- a is below b
abbrev pub KeyBelow : EntryKey → EntryKey → Type 0
KeyBelow a b =
    (a.kind < b.kind) ⊎ ((a.kind ≡ b.kind) × ((a.first < b.first) ⊎ ((a.first ≡ b.first) × (a.second < b.second))))

-- a place of the text: what the lines before it have left to come
pub data Place : Type 0 where
  -- the first line
  title : Place
  -- the second line, in this version
  bound : Version → Place
  -- the third line
  count : Version → Place
  -- among `count` price lists, of which `left` have still to begin; the key of the last entry, if a list has begun
  lists : Version → (count : ℕ) → (left : ℕ) → Option EntryKey → Place
  -- among the nodes: the boxes that wait for theirs, the first one first
  nodes : (count : ℕ) → List (List Span) → Place

-- nothing has to come any more
abbrev pub HasEnded : Place → Type 0
HasEnded (nodes m []) = ⊤
HasEnded _ = ⊥

-- a list has begun, and the key is above that of its last entry
abbrev pub IsNextEntry : Option EntryKey → EntryKey → Type 0
IsNextEntry None key = ⊥
IsNextEntry (Some last) key = KeyBelow last key

-- a line of this form may stand at the place
abbrev pub Stands : Place → CertificateLine → Type 0
Stands title (line.Title version) = ⊤
Stands (bound version) (line.Bound least) = ⊤
Stands (count version) (line.Lists m) = ⊤
Stands (lists version m left last) line.Prices = 0 < left
Stands (lists version m left last) line.Tree = left ≡ 0
Stands (lists version m left last) (line.Up c t v) = IsNextEntry last (up_key c t)
Stands (lists version m left last) (line.Lo c t v) = IsNextEntry last (lo_key c t)
Stands (lists version m left last) (line.Tail t weight places) = IsNextEntry last (tail_key t)
Stands (lists version m left last) (line.Ex e t v) = (version ≡ Two) × IsNextEntry last (ex_key e t)
Stands (nodes m (box ∷ boxes)) (line.Split i last) = ⊤
Stands (nodes m (box ∷ boxes)) (line.Cost list) = ⊤
Stands (nodes m (box ∷ boxes)) line.Point = ⊤
Stands (nodes m (box ∷ boxes)) (line.Band c t side) = ⊤
Stands (nodes m (box ∷ boxes)) (line.Excl e) = ⊤
Stands (nodes m (box ∷ boxes)) (line.Empty i) = ⊤
Stands _ _ = ⊥

-- the price of a limit: of a resource and a period of the instance, and not 0
pub record IsLimitPrice (inst : Tables) (c t v : ℕ) : Type 0 where
  pub some_resource : 1 ≤ c
  pub resource : c ≤ length inst.resource_names
  pub from : 1 ≤ t
  pub to : t ≤ inst.periods
  pub some : 1 ≤ v
  pub small : v ≤ 1_000_000_000

-- the numbers of a line that stands at the place are in their ranges
abbrev pub Fits : Tables → Place → CertificateLine → Type 0
Fits inst (bound version) (line.Bound least) = IsBoundInRange least
Fits inst (count version) (line.Lists m) = m ≤ 16
Fits inst (lists version m left last) (line.Up c t v) = IsLimitPrice inst c t v
Fits inst (lists version m left last) (line.Lo c t v) = IsLimitPrice inst c t v
Fits inst (lists version m left last) (line.Tail t weight places) =
    (1 ≤ t) × (t ≤ inst.periods) × IsTail inst t (record { weight = weight; places = places })
Fits inst (lists version m left last) (line.Ex e t v) =
    (1 ≤ e) × IsExPrice inst (record { exclusion = e - 1; period = t; value = v })
Fits inst (nodes m (box ∷ boxes)) (line.Split i last) = (1 ≤ i) × IsSplit box (i - 1) last
Fits inst (nodes m (box ∷ boxes)) (line.Cost list) = list ≤ m
Fits inst (nodes m (box ∷ boxes)) (line.Band c t side) =
    (1 ≤ c) × (c ≤ length inst.resource_names) × (1 ≤ t) × (t ≤ inst.periods)
Fits inst (nodes m (box ∷ boxes)) (line.Excl e) = (1 ≤ e) × (e ≤ length inst.exclusion_names)
Fits inst (nodes m (box ∷ boxes)) (line.Empty i) = (1 ≤ i) × (i ≤ length inst.names)
Fits _ _ _ = ⊤

-- the place behind a line that stands at the place
abbrev pub after : Tables → Place → CertificateLine → Place
after inst title (line.Title version) = bound version
after inst (bound version) _ = count version
after inst (count version) (line.Lists m) = lists version m m None
after inst (lists version m left last) line.Prices = lists version m (left - 1) (Some before_entries)
after inst (lists version m left last) line.Tree = nodes m (root_box inst ∷ [])
after inst (lists version m left last) (line.Up c t v) = lists version m left (Some (up_key c t))
after inst (lists version m left last) (line.Lo c t v) = lists version m left (Some (lo_key c t))
after inst (lists version m left last) (line.Tail t weight places) = lists version m left (Some (tail_key t))
after inst (lists version m left last) (line.Ex e t v) = lists version m left (Some (ex_key e t))
after inst (nodes m (box ∷ boxes)) (line.Split i last) =
    nodes m (below box (i - 1) last ∷ above box (i - 1) last ∷ boxes)
after inst (nodes m (box ∷ boxes)) _ = nodes m boxes
after inst place _ = place

-- the lines lead from one place to another: each of them stands where it is, with its numbers in their ranges
abbrev pub Leads : Tables → Place → List CertificateLine → Place → Type 0
Leads inst place [] end = place ≡ end
Leads inst place (line ∷ lines) end =
    Stands place line × Fits inst place line × Leads inst (after inst place line) lines end
