-- What the steps of reading say. No public clause cites this.
use Rattle.std.specs.Prelude.{◌≡◌, ◌≢◌, ℕ, ◌+◌, ◌-◌, ◌<◌, ◌≤◌, ⊤, List, [], ◌∷◌, ◌++◌, length, All, Option, Some, None}
use Rattle.std.specs.List.{flat_map}
use Rattle.instance_model.specs.Tables.{Tables}
use Rattle.lagrange_bound.specs.declared.span.Span.{Span}
use Rattle.lagrange_bound.specs.declared.tail.Tail.{Tail}
use Rattle.lagrange_bound.specs.Prices.{PriceList, IsPriceList, IsTail, IsExPrice}
use Rattle.lagrange_bound.specs.Changes.{with_up, with_lo, with_tail, IsExSet}
use Rattle.certificate_lines.specs.declared.line.Version.{Version}
use Rattle.certificate_lines.specs.declared.line.Version.TheVariants.{Two}
use Rattle.certificate_lines.specs.declared.line.CertificateLine.{CertificateLine}
use Rattle.certificate_lines.specs.declared.line.CertificateLine.TheVariants as line
use Rattle.certificate_lines.specs.Spelling.{spelling, IsLine}
use Rattle.certificate_tree.specs.declared.node.Node.{Node}
use Rattle.certificate_tree.specs.declared.node.Node.TheVariants as node
use Rattle.certificate_tree.specs.declared.certificate.Certificate.{Certificate}
use Rattle.certificate_tree.specs.Trees.{IsSplit, below, above, root_box}
use Rattle.certificate_tree.specs.Ranges.{HasPricesOf, IsInRange}
use Rattle.certificate_tree.specs.Walk.{first_box, other_boxes}
use Rattle.certificate_text.specs.Grammar as place
use Rattle.certificate_text.specs.Grammar.{Place, EntryKey, Stands, Fits, Leads, IsLimitPrice, KeyBelow, before_entries}
use Rattle.certificate_text.specs.Grammar.{up_key, lo_key, tail_key, ex_key}
use Rattle.certificate_text.specs.Entries.{IsUpTo}
use Rattle.certificate_text.specs.Text.{text_of_lines, entry_lines, list_lines, node_line, certificate_lines}
use Rattle.certificate_text.specs.declared.read.fault.CertFault.{CertFault}
use Rattle.certificate_text.specs.declared.read.fault.CertFault.TheVariants.{Cut, BadLine, Bounds, Memory}
use Rattle.certificate_text.specs.declared.read.refusal.Refusal.{Refusal}
use Rattle.certificate_text.specs.declared.read.refusal.Refusal.TheVariants.{Misplaced, OutOfRange}
use Rattle.certificate_text.specs.declared.read.key.EntryKey.{EntryKey as KeyCode}
use Rattle.certificate_text.specs.declared.read.key.EntryKey.TheVariants as keys
use Rattle.certificate_text.specs.read.Faults.{HasFaultFrom}
use Rattle.certificate_text.specs.read.Lines.{Left}

-- ---- lines

-- a line that has a form was read
pub record ReadsLine (old new : Left) (line : CertificateLine) : Type 0 where
  pub form : IsLine line
  pub cut : old.rest ≡ spelling line ++ 10 ∷ new.rest
  pub next : new.count ≡ old.count + 1

-- the next line is there, and has no form
pub record IsFormless (rest : List ℕ) : Type 0 where
  pub text : List ℕ
  pub more : List ℕ
  pub cut : rest ≡ text ++ 10 ∷ more
  pub whole : All (λ b. b ≢ 10) text
  pub none : (line : CertificateLine) → IsLine line → text ≡ spelling line → ⊥

-- why no line was read
abbrev pub IsNoLine : Left → CertFault → Type 0
IsNoLine left (Cut k) = (k ≡ left.count + 1) × All (λ b. b ≢ 10) left.rest
IsNoLine left (BadLine k) = (k ≡ left.count + 1) × IsFormless left.rest
IsNoLine left (Bounds k) = ⊥
IsNoLine left Memory = ⊤

-- the fault of line n, refused so
abbrev pub fault_at : ℕ → Refusal → CertFault
fault_at n Misplaced = BadLine n
fault_at n OutOfRange = Bounds n

-- something is left, and the fault is that of its line
abbrev pub IsMore : Left → CertFault → Type 0
IsMore left fault = (0 < length left.rest) × (fault ≡ BadLine (left.count + 1))

-- these lines were read, and lead from one place to another
pub record Passes (inst : Tables) (start : Place) (old : Left) (lines : List CertificateLine) (end : Place)
    (new : Left) : Type 0 where
  pub forms : All IsLine lines
  pub cut : old.rest ≡ text_of_lines lines ++ new.rest
  pub next : new.count ≡ old.count + length lines
  pub leads : Leads inst start lines end

-- the fault of the first line that has one, of what is left of a text at a place
abbrev pub Fails : Tables → Place → Left → CertFault → Type 0
Fails inst start left fault = HasFaultFrom inst start left.count left.rest fault

-- why a line is refused at a place
abbrev pub Refuses : Tables → Place → CertificateLine → Refusal → Type 0
Refuses inst place line Misplaced = Stands place line → ⊥
Refuses inst place line OutOfRange = Stands place line × (Fits inst place line → ⊥)

-- ---- nodes

-- a split divides the interval of its box
abbrev pub DividesBox : List Span → Node → Type 0
DividesBox box (node.Split i last) = IsSplit box i last
DividesBox box _ = ⊤

-- the numbers of a leaf are in range
abbrev pub HasLeafNumbers : Tables → ℕ → Node → Type 0
HasLeafNumbers inst lists (node.Split i last) = ⊤
HasLeafNumbers inst lists (node.Cost list) = list ≤ lists
HasLeafNumbers inst lists node.Point = ⊤
HasLeafNumbers inst lists (node.Band c t side) = (c < length inst.resource_names) × (1 ≤ t) × (t ≤ inst.periods)
HasLeafNumbers inst lists (node.Excl e) = e < length inst.exclusion_names
HasLeafNumbers inst lists (node.Empty i) = i < length inst.names

-- the node of a line, whose numbers are in range on a box
pub record IsNodeOf (inst : Tables) (lists : ℕ) (box : List Span) (line : CertificateLine) (node : Node) : Type 0 where
  pub line_is : line ≡ node_line node
  pub divides : DividesBox box node
  pub numbers : HasLeafNumbers inst lists node

-- the boxes that wait behind a node
abbrev pub boxes_after : Node → List (List Span) → List (List Span)
boxes_after (node.Split i last) boxes =
    below (first_box boxes) i last ∷ above (first_box boxes) i last ∷ other_boxes boxes
boxes_after _ boxes = other_boxes boxes

-- ---- entries

-- a line begins a price list or the tree
abbrev pub IsMark : CertificateLine → Type 0
IsMark line.Prices = ⊤
IsMark line.Tree = ⊤
IsMark _ = ⊥

-- if a line is next, it is such a line
abbrev pub IsBeforeMark : Left → Type 0
IsBeforeMark left = (new : Left) (line : CertificateLine) → ReadsLine left new line → IsMark line

-- and it isn't
abbrev pub IsBeforeNoMark : Left → Type 0
IsBeforeNoMark left = (new : Left) (line : CertificateLine) → ReadsLine left new line → IsMark line → ⊥

-- no price list has begun, or no further entry follows
abbrev pub IsBetween : Option EntryKey → Left → Type 0
IsBetween None left = ⊤
IsBetween (Some last) left = IsBeforeMark left

-- a line is an entry of this key, in this version
abbrev pub IsEntry : Version → CertificateLine → EntryKey → Type 0
IsEntry version (line.Up c t v) key = key ≡ up_key c t
IsEntry version (line.Lo c t v) key = key ≡ lo_key c t
IsEntry version (line.Tail t weight places) key = key ≡ tail_key t
IsEntry version (line.Ex e t v) key = (version ≡ Two) × (key ≡ ex_key e t)
IsEntry version _ key = ⊥

-- the key that the code has
abbrev pub key_view : KeyCode → EntryKey
key_view keys.Begin = before_entries
key_view (keys.Up c t) = up_key c t
key_view (keys.Lo c t) = lo_key c t
key_view (keys.Tail t) = tail_key t
key_view (keys.Ex e t) = ex_key e t

-- a tail of period t
abbrev pub IsTailOf : Tables → ℕ → Tail → Type 0
IsTailOf inst t tail = (1 ≤ t) × (t ≤ inst.periods) × IsTail inst t tail

-- the price of exclusion e, which counts from 1
abbrev pub IsExPriceOf : Tables → ℕ → ℕ → ℕ → Type 0
IsExPriceOf inst e t v = (1 ≤ e) × IsExPrice inst (record { exclusion = e - 1; period = t; value = v })

-- the line is an entry with its numbers in their ranges
abbrev pub EntryFits : Tables → CertificateLine → Type 0
EntryFits inst (line.Up c t v) = IsLimitPrice inst c t v
EntryFits inst (line.Lo c t v) = IsLimitPrice inst c t v
EntryFits inst (line.Tail t weight places) = IsTailOf inst t (record { weight = weight; places = places })
EntryFits inst (line.Ex e t v) = IsExPriceOf inst e t v
EntryFits inst _ = ⊥

-- the entry of a line is written into a price list
abbrev pub SetsEntry : Tables → PriceList → PriceList → CertificateLine → Type 0
SetsEntry inst old new (line.Up c t v) = new ≡ with_up inst old (c - 1) t v
SetsEntry inst old new (line.Lo c t v) = new ≡ with_lo inst old (c - 1) t v
SetsEntry inst old new (line.Tail t weight places) =
    new ≡ with_tail old t (Some (record { weight = weight; places = places }))
SetsEntry inst old new (line.Ex e t v) = IsExSet old new (e - 1) t v
SetsEntry inst old new _ = ⊥

-- an entry above the last one was read, and written into a price list
pub record ReadsEntry (inst : Tables) (version : Version) (old new : Left) (prices changed : PriceList)
    (last key : EntryKey) : Type 0 where
  pub entry : CertificateLine
  pub reads : ReadsLine old new entry
  pub key_is : IsEntry version entry key
  pub above : KeyBelow last key
  pub fits : EntryFits inst entry
  pub sets : SetsEntry inst prices changed entry
  pub in_range : IsPriceList inst changed

-- the entries of a price list that was begun were read, the last one with this key
pub record ReadsEntries (inst : Tables) (version : Version) (old : Left) (prices : PriceList) (last : EntryKey)
    (new : Left) : Type 0 where
  pub passes : (count left : ℕ) → Passes inst (place.lists version count left (Some before_entries)) old (entry_lines
      inst prices) (place.lists version count left (Some last)) new
  pub in_range : IsPriceList inst prices
  pub has_prices : HasPricesOf version prices
  pub up_to : IsUpTo inst prices last

-- all its entries were read
pub record ReadsAllEntries (inst : Tables) (version : Version) (old : Left) (prices : PriceList)
    (new : Left) : Type 0 where
  pub last : EntryKey
  pub entries : ReadsEntries inst version old prices last new
  pub between : IsBeforeMark new

-- a price list was read
pub record ReadsList (inst : Tables) (version : Version) (start : Option EntryKey) (old : Left) (prices : PriceList)
    (new : Left) : Type 0 where
  pub last : EntryKey
  pub passes : (count left : ℕ) → 0 < left → Passes inst (place.lists version count left start) old (list_lines inst
      prices) (place.lists version count (left - 1) (Some last)) new
  pub in_range : IsPriceList inst prices
  pub has_prices : HasPricesOf version prices
  pub between : IsBeforeMark new

-- price lists were read
pub record ReadsLists (inst : Tables) (version : Version) (count : ℕ) (old : Left) (lists : List PriceList)
    (new : Left) : Type 0 where
  pub few : length lists ≤ count
  pub last : Option EntryKey
  pub passes : Passes inst (place.lists version count count None) old (flat_map (list_lines inst) lists)
      (place.lists version count (count - length lists) last) new
  pub in_range : All (IsPriceList inst) lists
  pub has_prices : All (HasPricesOf version) lists
  pub between : IsBetween last new

-- all price lists and the line that begins the tree were read
pub record ReadsAllLists (inst : Tables) (version : Version) (count : ℕ) (old : Left) (lists : List PriceList)
    (new : Left) : Type 0 where
  pub each : length lists ≡ count
  pub passes : Passes inst (place.lists version count count None) old
      (flat_map (list_lines inst) lists ++ line.Tree ∷ []) (place.nodes count (root_box inst ∷ [])) new
  pub in_range : All (IsPriceList inst) lists
  pub has_prices : All (HasPricesOf version) lists

-- all lines of a certificate were read
pub record ReadsCertificate (inst : Tables) (old : Left) (cert : Certificate) (new : Left) : Type 0 where
  pub in_range : IsInRange inst cert
  pub passes : Passes inst place.title old (certificate_lines inst cert) (place.nodes (length cert.lists) []) new
