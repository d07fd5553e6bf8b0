-- What has the same lines is the same.
use Rattle.std.proofs.Common.{◌≡◌, ℕ, ◌+◌, ◌-◌, refl, sym, ◌∙◌, ap, arith, Bool, true, false, cond, ◌==◌, ◌/◌, ◌%◌}
use Rattle.std.proofs.Common.{List, [], ◌∷◌, ◌++◌, map, Option, Some, None, append_assoc}
use Rattle.std.specs.List.{AllByRecursion, flat_map}
use Rattle.std.proofs.lemmas.List.Elements.{recursion_from_All}
use Rattle.instance_model.specs.Tables.{Tables}
use Rattle.lagrange_bound.specs.declared.tail.Tail.{Tail}
use Rattle.lagrange_bound.specs.declared.ex_price.ExPrice.{ExPrice}
use Rattle.lagrange_bound.specs.Prices.{PriceList, IsPriceList}
use Rattle.certificate_lines.specs.declared.line.CertificateLine.{CertificateLine}
use Rattle.certificate_lines.specs.declared.line.CertificateLine.TheVariants as line
use Rattle.certificate_tree.specs.declared.node.Node.{Node}
use Rattle.certificate_tree.specs.declared.node.Node.TheVariants as node
use Rattle.certificate_text.specs.Text.{limit_lines, tail_lines, ex_line, entry_lines, list_lines, node_line}
use Rattle.certificate_text.specs.Text.{tree_lines}
use Rattle.certificate_text.specs.Laws.{LinesTell}
use Rattle.certificate_text.proofs.KeyLemmas.{less_one}
use Rattle.certificate_text.proofs.LimitLemmas.{limit_line, limits_tell}
use Rattle.certificate_text.proofs.TailLemmas.{tail_line, tails_tell}
use Rattle.certificate_text.proofs.SplitLemmas.{BeginsOut, split_one_way}

-- ---- kinds of lines
abbrev pub IsUp : CertificateLine → Type 0
IsUp (line.Up c t v) = Unit {0}
IsUp _ = ⊥

abbrev pub IsLo : CertificateLine → Type 0
IsLo (line.Lo c t v) = Unit {0}
IsLo _ = ⊥

abbrev pub IsTailLine : CertificateLine → Type 0
IsTailLine (line.Tail t weight places) = Unit {0}
IsTailLine _ = ⊥

abbrev pub IsEntry : CertificateLine → Type 0
IsEntry (line.Up c t v) = Unit {0}
IsEntry (line.Lo c t v) = Unit {0}
IsEntry (line.Tail t weight places) = Unit {0}
IsEntry (line.Ex e t v) = Unit {0}
IsEntry _ = ⊥

-- ---- lists
pub each_append : {A : Type 0} (P : A → Type 0) (xs ys : List A) → AllByRecursion P xs → AllByRecursion P ys
    → AllByRecursion P (xs ++ ys)
each_append P [] ys h k = k
each_append P (x ∷ xs) ys h k = (h.0, each_append P xs ys h.1 k)

pub begins_out : {A : Type 0} (In : A → Type 0) (xs : List A) → AllByRecursion (λ x. In x → ⊥) xs → BeginsOut In xs
begins_out In [] h = tt
begins_out In (x ∷ xs) h = h.0

pub begins_out-append : {A : Type 0} (In : A → Type 0) (xs ys : List A) → BeginsOut In xs → BeginsOut In ys
    → BeginsOut In (xs ++ ys)
begins_out-append In [] ys h k = k
begins_out-append In (x ∷ xs) ys h k = h

-- the lines of each part are such, where each line of its form is
pub limits_each : (P : CertificateLine → Type 0) (form : ℕ → ℕ → ℕ → CertificateLine) → ((c t v : ℕ) → P (form c t v))
    → (n k : ℕ) (vs : List ℕ) → AllByRecursion P (limit_lines form n k vs)
unfolding limit_lines
limits_each P form h n k [] = tt
limits_each P form h n k (v ∷ vs) = at (v == 0) (limits_each P form h n (k + 1) vs)
  where
    at : (b : Bool) → AllByRecursion P (limit_lines form n (k + 1) vs)
        → AllByRecursion P
        (cond b (limit_lines form n (k + 1) vs) (limit_line form n k v ∷ limit_lines form n (k + 1) vs))
    at true w = w
    at false w = (h (k / n + 1) (k % n + 1) v, w)

tails_each : (P : CertificateLine → Type 0) → ((t : ℕ) (tail : Tail) → P (tail_line t tail))
    → (t : ℕ) (tails : List (Option Tail)) → AllByRecursion P (tail_lines t tails)
unfolding tail_lines
tails_each P h t [] = tt
tails_each P h t (None ∷ tails) = tails_each P h (t + 1) tails
tails_each P h t (Some tail ∷ tails) = (h t tail, tails_each P h (t + 1) tails)

pub ex_each : (P : CertificateLine → Type 0) → ((x : ExPrice) → P (ex_line x)) → (xs : List ExPrice)
    → AllByRecursion P (map ex_line xs)
ex_each P h [] = tt
ex_each P h (x ∷ xs) = (h x, ex_each P h xs)

-- ---- a price list
ex_same : (x y : ExPrice) → ex_line x ≡ ex_line y → x ≡ y
ex_same x y e =
    let number : x.exclusion + 1 ≡ y.exclusion + 1 = cc in
    let exclusion : x.exclusion ≡ y.exclusion = omega (arith, number) in
    let period : x.period ≡ y.period = cc in
    let value : x.value ≡ y.value = cc in
    λ j. record { exclusion = exclusion j; period = period j; value = value j }

ex_lines_tell : (xs ys : List ExPrice) → map ex_line xs ≡ map ex_line ys → xs ≡ ys
ex_lines_tell [] [] e = refl
ex_lines_tell [] (y ∷ ys) e = absurd (let z : ⊥ = cc in z)
ex_lines_tell (x ∷ xs) [] e = absurd (let z : ⊥ = cc in z)
ex_lines_tell (x ∷ xs) (y ∷ ys) e =
    let head : ex_line x ≡ ex_line y = cc in
    let rest : map ex_line xs ≡ map ex_line ys = cc in
    ap (λ (z : ExPrice). z ∷ xs) (ex_same x y head) ∙ ap (λ (zs : List ExPrice). y ∷ zs) (ex_lines_tell xs ys rest)

module _ (inst : Tables) where
  after_up : (p : PriceList)
      → BeginsOut IsUp (limit_lines line.Lo inst.periods 0 p.lo ++ (tail_lines 1 p.tails ++ map ex_line p.ex))
  after_up p =
      begins_out-append IsUp (limit_lines line.Lo inst.periods 0 p.lo) (tail_lines 1 p.tails ++ map ex_line p.ex)
      (begins_out IsUp (limit_lines line.Lo inst.periods 0 p.lo)
      (limits_each (λ x. IsUp x → ⊥) line.Lo (λ c t v h. h) inst.periods 0 p.lo))
      (begins_out-append IsUp (tail_lines 1 p.tails) (map ex_line p.ex)
      (begins_out IsUp (tail_lines 1 p.tails) (tails_each (λ x. IsUp x → ⊥) (λ t tail h. h) 1 p.tails))
      (begins_out IsUp (map ex_line p.ex) (ex_each (λ x. IsUp x → ⊥) (λ x h. h) p.ex)))

  after_lo : (p : PriceList) → BeginsOut IsLo (tail_lines 1 p.tails ++ map ex_line p.ex)
  after_lo p =
      begins_out-append IsLo (tail_lines 1 p.tails) (map ex_line p.ex)
      (begins_out IsLo (tail_lines 1 p.tails) (tails_each (λ x. IsLo x → ⊥) (λ t tail h. h) 1 p.tails))
      (begins_out IsLo (map ex_line p.ex) (ex_each (λ x. IsLo x → ⊥) (λ x h. h) p.ex))

  after_tails : (p : PriceList) → BeginsOut IsTailLine (map ex_line p.ex)
  after_tails p = begins_out IsTailLine (map ex_line p.ex) (ex_each (λ x. IsTailLine x → ⊥) (λ x h. h) p.ex)

  pub prices_tell : (p q : PriceList) → IsPriceList inst p → IsPriceList inst q
      → entry_lines inst p ≡ entry_lines inst q → p ≡ q
  prices_tell p q a b e =
      let one = split_one_way IsUp (limit_lines line.Up inst.periods 0 p.up) (limit_lines line.Up inst.periods 0 q.up) _
      _ (limits_each IsUp line.Up (λ c t v. tt) inst.periods 0 p.up)
      (limits_each IsUp line.Up (λ c t v. tt) inst.periods 0 q.up) (after_up p) (after_up q) e in
      let two = split_one_way IsLo (limit_lines line.Lo inst.periods 0 p.lo) (limit_lines line.Lo inst.periods 0 q.lo) _
      _ (limits_each IsLo line.Lo (λ c t v. tt) inst.periods 0 p.lo)
      (limits_each IsLo line.Lo (λ c t v. tt) inst.periods 0 q.lo) (after_lo p) (after_lo q) one.1 in
      let three = split_one_way IsTailLine (tail_lines 1 p.tails) (tail_lines 1 q.tails) _ _
      (tails_each IsTailLine (λ t tail. tt) 1 p.tails) (tails_each IsTailLine (λ t tail. tt) 1 q.tails)
      (after_tails p) (after_tails q) two.1 in
      let up = limits_tell line.Up inst.periods (λ c t v d u w f. (cc, cc, cc)) 0 p.up q.up
      (a.up_each ∙ sym b.up_each) one.0 in
      let lo = limits_tell line.Lo inst.periods (λ c t v d u w f. (cc, cc, cc)) 0 p.lo q.lo
      (a.lo_each ∙ sym b.lo_each) two.0 in
      let tails = tails_tell 1 p.tails q.tails (a.tails_each ∙ sym b.tails_each) three.0 in
      let ex = ex_lines_tell p.ex q.ex three.1 in
      λ j. record { up = up j; lo = lo j; tails = tails j; ex = ex j }

  pub entries_each : (p : PriceList) → AllByRecursion IsEntry (entry_lines inst p)
  entries_each p =
      each_append IsEntry (limit_lines line.Up inst.periods 0 p.up) _
      (limits_each IsEntry line.Up (λ c t v. tt) inst.periods 0 p.up)
      (each_append IsEntry (limit_lines line.Lo inst.periods 0 p.lo) _
      (limits_each IsEntry line.Lo (λ c t v. tt) inst.periods 0 p.lo)
      (each_append IsEntry (tail_lines 1 p.tails) _ (tails_each IsEntry (λ t tail. tt) 1 p.tails)
      (ex_each IsEntry (λ x. tt) p.ex)))

  -- what follows the entries of a list isn't an entry
  after_entries : (ps : List PriceList) (ns : List Node)
      → BeginsOut IsEntry (flat_map (list_lines inst) ps ++ tree_lines ns)
  after_entries [] ns = λ h. h
  after_entries (p ∷ ps) ns = λ h. h

  pub lists_tell : (ps qs : List PriceList) (ns ms : List Node) → AllByRecursion (IsPriceList inst) ps
      → AllByRecursion (IsPriceList inst) qs → flat_map (list_lines inst) ps ++ tree_lines ns
      ≡ flat_map (list_lines inst) qs ++ tree_lines ms → (ps ≡ qs) × (map node_line ns ≡ map node_line ms)
  lists_tell [] [] ns ms a b e = (refl, cc)
  lists_tell [] (q ∷ qs) ns ms a b e = absurd (let z : ⊥ = cc in z)
  lists_tell (p ∷ ps) [] ns ms a b e = absurd (let z : ⊥ = cc in z)
  lists_tell (p ∷ ps) (q ∷ qs) ns ms a b e =
      let rest : (entry_lines inst p ++ flat_map (list_lines inst) ps) ++ tree_lines ns ≡ (entry_lines inst q
      ++ flat_map (list_lines inst) qs) ++ tree_lines ms = cc in
      let parts : entry_lines inst p ++ (flat_map (list_lines inst) ps ++ tree_lines ns)
      ≡ entry_lines inst q ++ (flat_map (list_lines inst) qs ++ tree_lines ms) =
      sym (append_assoc (entry_lines inst p) (flat_map (list_lines inst) ps) (tree_lines ns)) ∙ rest
      ∙ append_assoc (entry_lines inst q) (flat_map (list_lines inst) qs) (tree_lines ms) in
      let w = split_one_way IsEntry (entry_lines inst p) (entry_lines inst q)
      (flat_map (list_lines inst) ps ++ tree_lines ns) (flat_map (list_lines inst) qs ++ tree_lines ms)
      (entries_each p) (entries_each q) (after_entries ps ns) (after_entries qs ms) parts in
      let v = lists_tell ps qs ns ms a.1 b.1 w.1 in
      (ap (λ (z : PriceList). z ∷ ps) (prices_tell p q a.0 b.0 w.0) ∙ ap (λ (zs : List PriceList). q ∷ zs) v.0, v.1)

-- ---- nodes
abbrev node_of : CertificateLine → Node
node_of (line.Split i last) = node.Split (i - 1) last
node_of (line.Cost list) = node.Cost list
node_of (line.Band c t side) = node.Band (c - 1) t side
node_of (line.Excl e) = node.Excl (e - 1)
node_of (line.Empty i) = node.Empty (i - 1)
node_of _ = node.Point

node_again : (n : Node) → node_of (node_line n) ≡ n
node_again (node.Split i last) = ap (λ j. node.Split j last) (less_one i)
node_again (node.Cost list) = refl
node_again node.Point = refl
node_again (node.Band c t side) = ap (λ j. node.Band j t side) (less_one c)
node_again (node.Excl e) = ap (λ j. node.Excl j) (less_one e)
node_again (node.Empty i) = ap (λ j. node.Empty j) (less_one i)

pub nodes_tell : (ns ms : List Node) → map node_line ns ≡ map node_line ms → ns ≡ ms
nodes_tell [] [] e = refl
nodes_tell [] (m ∷ ms) e = absurd (let z : ⊥ = cc in z)
nodes_tell (n ∷ ns) [] e = absurd (let z : ⊥ = cc in z)
nodes_tell (n ∷ ns) (m ∷ ms) e =
    let head : node_line n ≡ node_line m = cc in
    let rest : map node_line ns ≡ map node_line ms = cc in
    let same : n ≡ m = sym (node_again n) ∙ ap node_of head ∙ node_again m in
    ap (λ (z : Node). z ∷ ns) same ∙ ap (λ (zs : List Node). m ∷ zs) (nodes_tell ns ms rest)

-- ---- certificates
pub lines_tell : LinesTell
lines_tell inst cert other a b e =
    let version : cert.version ≡ other.version = cc in
    let bound : cert.bound ≡ other.bound = cc in
    let rest : flat_map (list_lines inst) cert.lists ++ tree_lines cert.nodes ≡ flat_map (list_lines inst) other.lists
    ++ tree_lines other.nodes = cc in
    let w = lists_tell inst cert.lists other.lists cert.nodes other.nodes
    (recursion_from_All (IsPriceList inst) cert.lists a.lists)
    (recursion_from_All (IsPriceList inst) other.lists b.lists) rest in
    let nodes = nodes_tell cert.nodes other.nodes w.1 in
    let lists = w.0 in
    λ j. record { version = version j; bound = bound j; lists = lists j; nodes = nodes j }
