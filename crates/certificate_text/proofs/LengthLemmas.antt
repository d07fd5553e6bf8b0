-- How long the text of a certificate can be.
use Rattle.std.proofs.Common.{◌≡◌, ℕ, suc, ◌+◌, ◌*◌, ◌<◌, ◌≤◌, ◌^◌, ◌∙◌, ap, subst, arith, ℤ, pos, negsuc}
use Rattle.std.proofs.Common.{Bool, true, false, cond, ◌==◌, List, [], ◌∷◌, ◌++◌, length, length-append, map}
use Rattle.std.proofs.Common.{Option, Some, None, All, unsigned_abs, ◌/◌, ◌%◌}
use Rattle.std.specs.Fmt.{signed_decimal}
use Rattle.std.specs.List.{AllByRecursion, flat_map, sum_by}
use Rattle.std.proofs.lemmas.Fmt.{length-decimal-le, length-decimal-le_wide}
use Rattle.std.proofs.lemmas.Nat.{mul-le}
use Rattle.std.proofs.lemmas.List.{length-map}
use Rattle.std.proofs.lemmas.List.Sums.{sum_by-cons, sum_by-le}
use Rattle.std.proofs.lemmas.List.Elements.{recursion_from_All, All-weaker}
use Rattle.std.proofs.lemmas.Grind.{flat_map-append}
use Rattle.instance_model.specs.Tables.{Tables, scenarios_of}
use Rattle.instance_model.specs.Fitting.{IsFitting}
use Rattle.lagrange_bound.specs.declared.tail.Tail.{Tail}
use Rattle.lagrange_bound.specs.declared.ex_price.ExPrice.{ExPrice}
use Rattle.lagrange_bound.specs.Least.{AscendAbove}
use Rattle.lagrange_bound.specs.Prices.{PriceList, IsPriceList, IsTail, IsExPrice}
use Rattle.certificate_lines.specs.declared.line.Version.{Version}
use Rattle.certificate_lines.specs.declared.line.Version.TheVariants.{One, Two}
use Rattle.certificate_lines.specs.declared.line.Bound.{Bound}
use Rattle.certificate_lines.specs.declared.line.Bound.TheVariants.{NoPlan, Least}
use Rattle.certificate_lines.specs.declared.line.Side.TheVariants.{Over, Under}
use Rattle.certificate_lines.specs.declared.line.CertificateLine.{CertificateLine}
use Rattle.certificate_lines.specs.declared.line.CertificateLine.TheVariants as line
use Rattle.certificate_lines.specs.Spelling.{word, words}
use Rattle.certificate_tree.specs.declared.node.Node.{Node}
use Rattle.certificate_tree.specs.declared.node.Node.TheVariants as node
use Rattle.certificate_tree.specs.declared.certificate.Certificate.{Certificate}
use Rattle.certificate_tree.specs.Trees.{root_box}
use Rattle.certificate_tree.specs.Ranges.{IsLeafInRange, IsBoundInRange, IsInRange}
use Rattle.certificate_text.specs.Text.{limit_lines, tail_lines, ex_line, entry_lines, list_lines, node_line}
use Rattle.certificate_text.specs.Text.{tree_lines, line_text, text_of_lines}
use Rattle.certificate_text.specs.Grammar.{IsLimitPrice}
use Rattle.certificate_text.specs.Laws.{list_bytes, TextsAreShort, TextsFitFiles}
use Rattle.certificate_text.proofs.TailLemmas.{tail_line}
use Rattle.certificate_text.proofs.FormLemmas.{limits_such, tails_such, ex_such, tail_fits, tree_such, root_small}
use Rattle.certificate_text.proofs.FormLemmas.{scenarios_small}

-- ---- words

word_size : (k n : ℕ) → 0 < k → n < 10 ^ k → n < 2 ^ 64 → length (word n) ≤ k + 1
word_size k n some small fits = omega (arith, length-decimal-le k n some small fits)

-- one, two, three words
one_word : (i n : ℕ) → 0 < i → n < 10 ^ i → n < 2 ^ 64 → length (words (n ∷ [])) ≤ i + 1
one_word i n some small fits =
    omega (arith, length-append (word n) (words []), word_size i n some small fits)

two_words : (i j n m : ℕ) → 0 < i → 0 < j → n < 10 ^ i → m < 10 ^ j → n < 2 ^ 64 → m < 2 ^ 64
    → length (words (n ∷ m ∷ [])) ≤ (i + 1) + (j + 1)
two_words i j n m a b h k f g =
    omega (arith, length-append (word n) (words (m ∷ [])), word_size i n a h f, one_word j m b k g)

-- words of at most four digits
few_words : (ns : List ℕ) → AllByRecursion (λ n. n ≤ 1024) ns → length (words ns) ≤ 5 * length ns
few_words [] h = omega arith
few_words (n ∷ ns) h =
    let w = h.0 in
    omega (
      arith,
      length-append (word n) (words ns),
      word_size 4 n (omega arith) (omega (arith, w)) (omega (arith, w)),
      few_words ns h.1,
    )

-- places that ascend are no more than the greatest
ascend_few : (a n : ℕ) (ks : List ℕ) → AscendAbove a ks → AllByRecursion (λ k. k ≤ n) ks → a ≤ n → a + length ks ≤ n
ascend_few a n [] h w l = omega (arith, l)
ascend_few a n (k ∷ ks) h w l = omega (arith, h.0, ascend_few k n ks h.1 w.1 w.0)

-- ---- lines

-- a line has at most this many bytes
IsLineOf : ℕ → CertificateLine → Type 0
IsLineOf k line = length (line_text line) ≤ k

triple_line : (keyword : List ℕ) (k a b c : ℕ) → length keyword ≤ k → a < 10 ^ 5 → b ≤ 512 → c ≤ 1_000_000_000
    → (i : ℕ) → 0 < i → a < 10 ^ i
    → length ((keyword ++ words (a ∷ b ∷ c ∷ [])) ++ 10 ∷ []) ≤ k + (i + 17)
triple_line keyword k a b c few wa wb wc i some small =
    omega (
      arith,
      few,
      length-append (keyword ++ words (a ∷ b ∷ c ∷ [])) (10 ∷ []),
      length-append keyword (words (a ∷ b ∷ c ∷ [])),
      length-append (word a) (words (b ∷ c ∷ [])),
      word_size i a some small (omega (arith, wa)),
      two_words 3 10 b c (omega arith) (omega arith) (omega (arith, wb)) (omega (arith, wc)) (omega (arith, wb))
          (omega (arith, wc)),
    )

up_size : (inst : Tables) → IsFitting inst → (c t v : ℕ) → IsLimitPrice inst c t v → IsLineOf 21 (line.Up c t v)
unfolding IsLineOf
up_size inst fits c t v h =
    let resources : length inst.resource_names ≤ 32 = fits.resources.few in
    triple_line (117 ∷ 112 ∷ []) 2 c t v (omega arith) (omega (arith, resources, h.resource))
    (omega (arith, fits.few_periods, h.to)) h.small 2 (omega arith) (omega (arith, resources, h.resource))

lo_size : (inst : Tables) → IsFitting inst → (c t v : ℕ) → IsLimitPrice inst c t v → IsLineOf 21 (line.Lo c t v)
unfolding IsLineOf
lo_size inst fits c t v h =
    let resources : length inst.resource_names ≤ 32 = fits.resources.few in
    triple_line (108 ∷ 111 ∷ []) 2 c t v (omega arith) (omega (arith, resources, h.resource))
    (omega (arith, fits.few_periods, h.to)) h.small 2 (omega arith) (omega (arith, resources, h.resource))

ex_size : (inst : Tables) → IsFitting inst → (x : ExPrice) → IsExPrice inst x → IsLineOf 24 (ex_line x)
unfolding IsLineOf
ex_size inst fits x h =
    let exclusions : length inst.exclusion_names ≤ 65_536 = fits.exclusions.few in
    triple_line (101 ∷ 120 ∷ []) 2 (x.exclusion + 1) x.period x.value (omega arith)
    (omega (arith, exclusions, h.number)) (omega (arith, fits.few_periods, h.to)) h.small 5 (omega arith)
    (omega (arith, exclusions, h.number))

tail_size : (inst : Tables) → IsFitting inst → (t : ℕ) (tail : Tail) → 1 ≤ t → t ≤ inst.periods → IsTail inst t tail
    → IsLineOf 5134 (tail_line t tail)
unfolding IsLineOf
tail_size inst fits t tail from to h =
    let few = scenarios_small inst t fits from to in
    let within = recursion_from_All (λ k. k ≤ scenarios_of inst t) tail.places h.within in
    let small = recursion_from_All (λ k. k ≤ 1024) tail.places
    (All-weaker (λ k. k ≤ scenarios_of inst t) (λ k. k ≤ 1024) (λ k l. omega (arith, few, l)) tail.places h.within) in
    let count = ascend_few 0 (scenarios_of inst t) tail.places h.ascend within (omega arith) in
    let keyword : List ℕ = 116 ∷ 97 ∷ 105 ∷ 108 ∷ [] in
    let numbers : List ℕ = t ∷ tail.weight ∷ tail.places in
    omega (
      arith,
      length-append (keyword ++ words numbers) (10 ∷ []),
      length-append keyword (words numbers),
      length-append (word t) (words (tail.weight ∷ tail.places)),
      length-append (word tail.weight) (words tail.places),
      word_size 3 t (omega arith) (omega (arith, fits.few_periods, to)) (omega (arith, fits.few_periods, to)),
      word_size 4 tail.weight (omega arith) (omega (arith, h.weight)) (omega (arith, h.weight)),
      few_words tail.places small,
      count,
      few,
    )

band_size : (c t : ℕ) (side : List ℕ) → length side ≤ 6 → c < 32 → t ≤ 512
    → length (((98 ∷ 97 ∷ 110 ∷ 100 ∷ []) ++ (words ((c + 1) ∷ t ∷ []) ++ side)) ++ 10 ∷ []) ≤ 18
band_size c t side few h l =
    let keyword : List ℕ = 98 ∷ 97 ∷ 110 ∷ 100 ∷ [] in
    omega (
      arith,
      few,
      length-append (keyword ++ (words ((c + 1) ∷ t ∷ []) ++ side)) (10 ∷ []),
      length-append keyword (words ((c + 1) ∷ t ∷ []) ++ side),
      length-append (words ((c + 1) ∷ t ∷ [])) side,
      two_words 2 3 (c + 1) t (omega arith) (omega arith) (omega (arith, h)) (omega (arith, l)) (omega (arith, h))
          (omega (arith, l)),
    )

numbered_size : (keyword : List ℕ) (n : ℕ) → length keyword ≤ 5 → n < 65_536
    → length ((keyword ++ words ((n + 1) ∷ [])) ++ 10 ∷ []) ≤ 18
numbered_size keyword n few h = omega (
  arith,
  few,
  length-append (keyword ++ words ((n + 1) ∷ [])) (10 ∷ []),
  length-append keyword (words ((n + 1) ∷ [])),
  one_word 5 (n + 1) (omega arith) (omega (arith, h)) (omega (arith, h)),
)

leaf_size : (inst : Tables) (m : ℕ) → IsFitting inst → m ≤ 16 → (n : Node) → IsLeafInRange inst m n
    → IsLineOf 18 (node_line n)
unfolding IsLineOf
leaf_size inst m fits few (node.Split i last) h = absurd h
leaf_size inst m fits few (node.Cost list) h =
    let keyword : List ℕ = 99 ∷ 111 ∷ 115 ∷ 116 ∷ [] in
    omega (
      arith,
      length-append (keyword ++ words (list ∷ [])) (10 ∷ []),
      length-append keyword (words (list ∷ [])),
      one_word 2 list (omega arith) (omega (arith, few, h)) (omega (arith, few, h)),
    )
leaf_size inst m fits few node.Point h = omega arith
leaf_size inst m fits few (node.Band c t Over) h =
    band_size c t (32 ∷ 111 ∷ 118 ∷ 101 ∷ 114 ∷ []) (omega arith) (let w = h.0 in omega (arith, fits.resources.few, w))
    (let w = h.2 in omega (arith, fits.few_periods, w))
leaf_size inst m fits few (node.Band c t Under) h =
    band_size c t (32 ∷ 117 ∷ 110 ∷ 100 ∷ 101 ∷ 114 ∷ []) (omega arith)
    (let w = h.0 in omega (arith, fits.resources.few, w)) (let w = h.2 in omega (arith, fits.few_periods, w))
leaf_size inst m fits few (node.Excl e) h =
    numbered_size (101 ∷ 120 ∷ 99 ∷ 108 ∷ []) e (omega arith) (omega (arith, fits.exclusions.few, h))
leaf_size inst m fits few (node.Empty i) h =
    numbered_size (101 ∷ 109 ∷ 112 ∷ 116 ∷ 121 ∷ []) i (omega arith) (omega (arith, fits.names.few, h))

split_size : (inst : Tables) → IsFitting inst → (i last : ℕ) → i < length inst.names → last < 512
    → IsLineOf 18 (line.Split (i + 1) last)
unfolding IsLineOf
split_size inst fits i last h l =
    let keyword : List ℕ = 115 ∷ 112 ∷ 108 ∷ 105 ∷ 116 ∷ [] in
    let few : length inst.names ≤ 1024 = fits.names.few in
    omega (
      arith,
      length-append (keyword ++ words ((i + 1) ∷ last ∷ [])) (10 ∷ []),
      length-append keyword (words ((i + 1) ∷ last ∷ [])),
      two_words 4 3 (i + 1) last (omega arith) (omega arith) (omega (arith, few, h)) (omega (arith, l))
          (omega (arith, few, h)) (omega (arith, l)),
    )

title_size : (version : Version) → length (line_text (line.Title version)) ≤ 9
title_size One = omega arith
title_size Two = omega arith

signed_size : (z : ℤ) → unsigned_abs z ≤ 10 ^ 36 → length (signed_decimal z) ≤ 38
signed_size (pos n) h =
    omega (arith, length-decimal-le_wide 37 n (omega arith) (omega (arith, h)) (omega (arith, h)))
signed_size (negsuc n) h =
    omega (arith, length-decimal-le_wide 37 (suc n) (omega arith) (omega (arith, h)) (omega (arith, h)))

bound_size : (b : Bound) → IsBoundInRange b → length (line_text (line.Bound b)) ≤ 45
bound_size NoPlan h = omega arith
bound_size (Least z) h =
    let keyword : List ℕ = 98 ∷ 111 ∷ 117 ∷ 110 ∷ 100 ∷ 32 ∷ [] in
    omega (
      arith,
      length-append (keyword ++ signed_decimal z) (10 ∷ []),
      length-append keyword (signed_decimal z),
      signed_size z h,
    )

count_size : (m : ℕ) → m ≤ 16 → length (line_text (line.Lists m)) ≤ 9
count_size m few =
    let keyword : List ℕ = 108 ∷ 105 ∷ 115 ∷ 116 ∷ 115 ∷ [] in
    omega (
      arith,
      length-append (keyword ++ words (m ∷ [])) (10 ∷ []),
      length-append keyword (words (m ∷ [])),
      one_word 2 m (omega arith) (omega (arith, few)) (omega (arith, few)),
    )

-- ---- texts

-- lines of at most k bytes each
lines_size : (k : ℕ) (ls : List CertificateLine) → AllByRecursion (IsLineOf k) ls
    → length (text_of_lines ls) ≤ k * length ls
unfolding IsLineOf
lines_size k [] h = omega arith
lines_size k (l ∷ ls) h =
    omega (arith, length-append (line_text l) (text_of_lines ls), h.0, lines_size k ls h.1)

two_texts : (xs ys : List CertificateLine)
    → length (text_of_lines (xs ++ ys)) ≡ length (text_of_lines xs) + length (text_of_lines ys)
two_texts xs ys = ap length (flat_map-append line_text xs ys) ∙ length-append (text_of_lines xs) (text_of_lines ys)

-- there is at most one line for each price on a limit, and for each tail
limits_few : (form : ℕ → ℕ → ℕ → CertificateLine) (periods k : ℕ) (vs : List ℕ)
    → length (limit_lines form periods k vs) ≤ length vs
unfolding limit_lines
limits_few form periods k [] = omega arith
limits_few form periods k (v ∷ vs) = at (v == 0) (limits_few form periods (k + 1) vs)
  where
    at : (b : Bool) → length (limit_lines form periods (k + 1) vs) ≤ length vs
        → length (cond b (limit_lines form periods (k + 1) vs)
        (form (k / periods + 1) (k % periods + 1) v ∷ limit_lines form periods (k + 1) vs)) ≤ suc (length vs)
    at true h = omega (arith, h)
    at false h = omega (arith, h)

tails_few : (t : ℕ) (tails : List (Option Tail)) → length (tail_lines t tails) ≤ length tails
unfolding tail_lines
tails_few t [] = omega arith
tails_few t (None ∷ tails) = omega (arith, tails_few (t + 1) tails)
tails_few t (Some tail ∷ tails) = omega (arith, tails_few (t + 1) tails)

module _ (inst : Tables) (fits : IsFitting inst) where
  band_count : length inst.resource_names * inst.periods ≤ 16_384
  band_count =
      let few : length inst.resource_names ≤ 32 = fits.resources.few in
      mul-le (length inst.resource_names) inst.periods 32 512 few fits.few_periods

  limits_size : (form : ℕ → ℕ → ℕ → CertificateLine)
      → ((c t v : ℕ) → IsLimitPrice inst c t v → IsLineOf 21 (form c t v)) → (vs : List ℕ)
      → length vs ≡ length inst.resource_names * inst.periods → All (λ v. v ≤ 1_000_000_000) vs
      → length (text_of_lines (limit_lines form inst.periods 0 vs)) ≤ 344_064
  limits_size form such vs each small =
      let lines = limits_such inst (IsLineOf 21) form such 0 vs (omega (arith, each))
      (recursion_from_All (λ v. v ≤ 1_000_000_000) vs small) in
      omega (
        arith,
        lines_size 21 (limit_lines form inst.periods 0 vs) lines,
        limits_few form inst.periods 0 vs,
        each,
        band_count,
      )

  tails_size : (p : PriceList) → IsPriceList inst p → length (text_of_lines (tail_lines 1 p.tails)) ≤ 2_628_608
  tails_size p ok =
      let each = ok.tails_each in
      let lines = tails_such inst (IsLineOf 5134) (tail_size inst fits) 1 p.tails (omega arith) (omega (arith, each))
      (tail_fits inst fits p ok) in
      omega (arith, lines_size 5134 (tail_lines 1 p.tails) lines, tails_few 1 p.tails, each, fits.few_periods)

  entries_size : (p : PriceList) → IsPriceList inst p
      → length (text_of_lines (entry_lines inst p)) ≤ 3_316_736 + 24 * length p.ex
  entries_size p ok =
      let up = limit_lines line.Up inst.periods 0 p.up in
      let lo = limit_lines line.Lo inst.periods 0 p.lo in
      let tails = tail_lines 1 p.tails in
      let ex = map ex_line p.ex in
      omega (
        arith,
        two_texts up (lo ++ (tails ++ ex)),
        two_texts lo (tails ++ ex),
        two_texts tails ex,
        limits_size line.Up (up_size inst fits) p.up ok.up_each ok.up_small,
        limits_size line.Lo (lo_size inst fits) p.lo ok.lo_each ok.lo_small,
        tails_size p ok,
        lines_size 24 ex (ex_such inst (IsLineOf 24) (ex_size inst fits) p.ex ok.ex),
        length-map p.ex ex_line,
      )

  lists_size : (ps : List PriceList) → AllByRecursion (IsPriceList inst) ps
      → length (text_of_lines (flat_map (list_lines inst) ps))
      ≤ list_bytes * length ps + 24 * sum_by (λ p. length p.ex) ps
  lists_size [] ok = omega arith
  lists_size (p ∷ ps) ok =
      omega (
        arith,
        two_texts (list_lines inst p) (flat_map (list_lines inst) ps),
        length-append (line_text line.Prices) (text_of_lines (entry_lines inst p)),
        entries_size p ok.0,
        lists_size ps ok.1,
        sum_by-cons (λ q. length q.ex) p ps,
      )

  tree_size : (cert : Certificate) → IsInRange inst cert
      → length (text_of_lines (tree_lines cert.nodes)) ≤ 5 + 18 * length cert.nodes
  tree_size cert ok =
      let few : length cert.lists ≤ 16 = ok.few in
      let lines = subst (λ (ns : List Node). AllByRecursion (IsLineOf 18) (map node_line ns)) ok.tree.1.order
      (tree_such inst fits (IsLineOf 18) (length cert.lists) (leaf_size inst (length cert.lists) fits few)
      (split_size inst fits) ok.tree.0 (root_box inst) (root_small inst fits) ok.tree.1.in_range) in
      omega (
        arith,
        length-append (line_text line.Tree) (text_of_lines (map node_line cert.nodes)),
        lines_size 18 (map node_line cert.nodes) lines,
        length-map cert.nodes node_line,
      )

pub texts_short : TextsAreShort
texts_short inst cert fits ok =
    let few : length cert.lists ≤ 16 = ok.few in
    let lists = flat_map (list_lines inst) cert.lists in
    let tree = tree_lines cert.nodes in
    let rest = lists ++ tree in
    omega (
      arith,
      length-append (line_text (line.Title cert.version))
          (text_of_lines (line.Bound cert.bound ∷ line.Lists (length cert.lists) ∷ rest)),
      length-append (line_text (line.Bound cert.bound)) (text_of_lines (line.Lists (length cert.lists) ∷ rest)),
      length-append (line_text (line.Lists (length cert.lists))) (text_of_lines rest),
      two_texts lists tree,
      title_size cert.version,
      bound_size cert.bound ok.bound,
      count_size (length cert.lists) few,
      lists_size inst fits cert.lists (recursion_from_All (IsPriceList inst) cert.lists ok.lists),
      tree_size inst fits cert ok,
    )

pub texts_fit_files : TextsFitFiles
texts_fit_files inst cert fits ok one few nodes =
    omega (
      arith,
      texts_short inst cert fits ok,
      sum_by-le (λ p. length p.ex) 400 cert.lists few,
      one,
      nodes,
    )
