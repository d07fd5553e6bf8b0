-- A line is spelled in one way, without a line feed.
use Rattle.std.proofs.Common.{◌≡◌, ◌≢◌, ℕ, suc, ◌^◌, ◌<◌, ◌≤◌, List, [], ◌∷◌, ◌++◌, slice_index, decimal, ℤ, pos}
use Rattle.std.proofs.Common.{negsuc, unsigned_abs, refl, sym, ◌∙◌, ap, subst, arith, rules}
use Rattle.std.specs.List.{All}
use Rattle.std.specs.Fmt.{signed_decimal}
use Rattle.std.proofs.lemmas.List.Elements.{All-nil, All-cons, All-head, All-tail, All-append, All-weaker}
use Rattle.std.proofs.lemmas.List.Elements.{All-from_recursion}
use Rattle.certificate_lines.specs.declared.line.Version.{Version}
use Rattle.certificate_lines.specs.declared.line.Version.TheVariants.{One, Two}
use Rattle.certificate_lines.specs.declared.line.Bound.{Bound}
use Rattle.certificate_lines.specs.declared.line.Bound.TheVariants.{NoPlan, Least}
use Rattle.certificate_lines.specs.declared.line.Side.{Side}
use Rattle.certificate_lines.specs.declared.line.Side.TheVariants.{Over, Under}
use Rattle.certificate_lines.specs.declared.line.CertificateLine.{CertificateLine}
use Rattle.certificate_lines.specs.declared.line.CertificateLine.TheVariants as line
use Rattle.certificate_lines.specs.Spelling.{word, words, spelling, IsNumber, IsLine}
use Rattle.certificate_lines.specs.Steps.{keyword_text, keyword_of, operands, version_text, bound_text, side_text}
use Rattle.certificate_lines.proofs.WordLemmas.{word_once, words_break, decimal_digits}
use Rattle.certificate_lines.proofs.KeywordLemmas.{keyword_once, keyword_letters, keyword_whole}
use Rattle.certificate_lines.proofs.NumberLemmas.{decimal_once, decimal_no_minus, decimal_no_letter}
use Rattle.certificate_lines.proofs.FormLemmas.{spelled, operands_break, line_cut, pair_pieces, side_break, only_title}
use Rattle.certificate_lines.proofs.FormLemmas.{only_bound, only_lists, only_prices, only_up, only_lo, only_tail}
use Rattle.certificate_lines.proofs.FormLemmas.{only_ex, only_tree, only_split, only_cost, only_point, only_band}
use Rattle.certificate_lines.proofs.FormLemmas.{only_excl, only_empty}

-- words are those of one number, or of some
pub one_once : (n m : ℕ) → IsNumber n → IsNumber m → words (n ∷ []) ≡ words (m ∷ []) → n ≡ m
one_once n m ns ms e = (word_once n m [] [] ns ms tt tt e).0

pub two_once : (a b n m : ℕ) → IsNumber a × IsNumber b → IsNumber n × IsNumber m
    → words (a ∷ b ∷ []) ≡ words (n ∷ m ∷ []) → (a ≡ n) × (b ≡ m)
two_once a b n m h g e =
    let first = word_once a n (words (b ∷ [])) (words (m ∷ [])) h.0 g.0 refl refl e in
    (first.0, one_once b m h.1 g.1 first.1)

pub three_once : (a b c n m k : ℕ) → IsNumber a × IsNumber b × IsNumber c → IsNumber n × IsNumber m × IsNumber k
    → words (a ∷ b ∷ c ∷ []) ≡ words (n ∷ m ∷ k ∷ []) → (a ≡ n) × (b ≡ m) × (c ≡ k)
three_once a b c n m k h g e =
    let first = word_once a n (words (b ∷ c ∷ [])) (words (m ∷ k ∷ [])) h.0 g.0 refl refl e in
    let later = two_once b c m k (h.1, h.2) (g.1, g.2) first.1 in
    (first.0, later.0, later.1)

pub words_once : (ns ms : List ℕ) → All IsNumber ns → All IsNumber ms → words ns ≡ words ms → ns ≡ ms
words_once [] [] h g e = refl
words_once [] (m ∷ ms) h g e = absurd (cc)
words_once (n ∷ ns) [] h g e = absurd (cc)
words_once (n ∷ ns) (m ∷ ms) h g e =
    let first = word_once n m (words ns) (words ms) (All-head IsNumber n ns h) (All-head IsNumber m ms g)
    (words_break ns) (words_break ms) e in
    let later = words_once ns ms (All-tail IsNumber n ns h) (All-tail IsNumber m ms g) first.1 in
    λ i. first.0 i ∷ later i

version_once : (v w : Version) → version_text v ≡ version_text w → v ≡ w
version_once One One e = refl
version_once One Two e = let bytes : 49 ≡ 50 = ap (λ xs. slice_index xs 1) e in absurd (omega (arith, bytes))
version_once Two One e = let bytes : 50 ≡ 49 = ap (λ xs. slice_index xs 1) e in absurd (omega (arith, bytes))
version_once Two Two e = refl

side_once : (s t : Side) → side_text s ≡ side_text t → s ≡ t
side_once Over Over e = refl
side_once Over Under e = let bytes : 111 ≡ 117 = ap (λ xs. slice_index xs 1) e in absurd (omega (arith, bytes))
side_once Under Over e = let bytes : 117 ≡ 111 = ap (λ xs. slice_index xs 1) e in absurd (omega (arith, bytes))
side_once Under Under e = refl

least_once : (a b : ℤ) → unsigned_abs a < 10 ^ 37 → unsigned_abs b < 10 ^ 37
    → signed_decimal a ≡ signed_decimal b → a ≡ b
least_once (pos n) (pos m) small less e = ap pos (decimal_once n m small less e)
least_once (pos n) (negsuc m) small less e = absurd (decimal_no_minus n (decimal (suc m)) small (sym e))
least_once (negsuc n) (pos m) small less e = absurd (decimal_no_minus m (decimal (suc n)) less e)
least_once (negsuc n) (negsuc m) small less e =
    let digits : decimal (suc n) ≡ decimal (suc m) = cc in
    let same : suc n ≡ suc m = decimal_once (suc n) (suc m) small less digits in
    ap negsuc (cc)

none_or_least : (z : ℤ) → unsigned_abs z < 10 ^ 37 → bound_text NoPlan ≡ bound_text (Least z) → ⊥
none_or_least (pos n) small e = decimal_no_letter n 110 (111 ∷ 110 ∷ 101 ∷ []) small (omega arith) (cc)
none_or_least (negsuc n) small e = let bytes : 110 ≡ 45 = ap (λ xs. slice_index xs 1) e in omega (arith, bytes)

bound_once : (b d : Bound) → IsLine (line.Bound b) → IsLine (line.Bound d) → bound_text b ≡ bound_text d → b ≡ d
bound_once NoPlan NoPlan h g e = refl
bound_once NoPlan (Least m) h g e = absurd (none_or_least m g e)
bound_once (Least n) NoPlan h g e = absurd (none_or_least n h (sym e))
bound_once (Least n) (Least m) h g e = ap Least (least_once n m h g (cc))

-- two lines of one keyword that go on alike
same_behind : (a b : CertificateLine) → IsLine a → IsLine b → keyword_of b ≡ keyword_of a
    → operands a ≡ operands b → a ≡ b
same_behind (line.Title v) b h g k e =
    only_title b k (λ x. operands (line.Title v) ≡ operands x → line.Title v ≡ x)
    (λ w f. ap line.Title (version_once v w f)) e
same_behind (line.Bound d) b h g k e =
    only_bound b k (λ x. IsLine x → operands (line.Bound d) ≡ operands x → line.Bound d ≡ x)
    (λ w l f. ap line.Bound (bound_once d w h l f)) g e
same_behind (line.Lists n) b h g k e =
    only_lists b k (λ x. IsLine x → operands (line.Lists n) ≡ operands x → line.Lists n ≡ x)
    (λ m l f. ap line.Lists (one_once n m h l f)) g e
same_behind line.Prices b h g k e = only_prices b k (λ x. line.Prices ≡ x) refl
same_behind (line.Up c t v) b h g k e =
    only_up b k (λ x. IsLine x → operands (line.Up c t v) ≡ operands x → line.Up c t v ≡ x) (λ n m o l f. let s =
    three_once c t v n m o h l f in λ i. line.Up (s.0 i) (s.1 i) (s.2 i)) g e
same_behind (line.Lo c t v) b h g k e =
    only_lo b k (λ x. IsLine x → operands (line.Lo c t v) ≡ operands x → line.Lo c t v ≡ x) (λ n m o l f. let s =
    three_once c t v n m o h l f in λ i. line.Lo (s.0 i) (s.1 i) (s.2 i)) g e
same_behind (line.Tail t weight places) b h g k e =
    only_tail b k (λ x. IsLine x → operands (line.Tail t weight places) ≡ operands x → line.Tail t weight places ≡ x)
    (λ n m more l f.
    let first = word_once t n (words (weight ∷ places)) (words (m ∷ more)) h.0 l.0 refl refl f in
    let second =
    word_once weight m (words places) (words more) h.1 l.1 (words_break places) (words_break more) first.1 in
    let last = words_once places more h.2 l.2 second.1 in
    λ i. line.Tail (first.0 i) (second.0 i) (last i))
    g e
same_behind (line.Ex c t v) b h g k e =
    only_ex b k (λ x. IsLine x → operands (line.Ex c t v) ≡ operands x → line.Ex c t v ≡ x) (λ n m o l f. let s =
    three_once c t v n m o h l f in λ i. line.Ex (s.0 i) (s.1 i) (s.2 i)) g e
same_behind line.Tree b h g k e = only_tree b k (λ x. line.Tree ≡ x) refl
same_behind (line.Split n m) b h g k e =
    only_split b k (λ x. IsLine x → operands (line.Split n m) ≡ operands x → line.Split n m ≡ x) (λ c d l f. let s =
    two_once n m c d h l f in λ i. line.Split (s.0 i) (s.1 i)) g e
same_behind (line.Cost n) b h g k e =
    only_cost b k (λ x. IsLine x → operands (line.Cost n) ≡ operands x → line.Cost n ≡ x)
    (λ m l f. ap line.Cost (one_once n m h l f)) g e
same_behind line.Point b h g k e = only_point b k (λ x. line.Point ≡ x) refl
same_behind (line.Band c t side) b h g k e =
    only_band b k (λ x. IsLine x → operands (line.Band c t side) ≡ operands x → line.Band c t side ≡ x)
    (λ n m other l f.
    let parts : word c ++ (word t ++ side_text side) ≡ word n ++ (word m ++ side_text other) =
    sym (pair_pieces c t (side_text side)) ∙ f ∙ pair_pieces n m (side_text other) in
    let first = word_once c n (word t ++ side_text side) (word m ++ side_text other) h.0 l.0 refl refl parts in
    let second =
    word_once t m (side_text side) (side_text other) h.1 l.1 (side_break side) (side_break other) first.1 in
    let last = side_once side other second.1 in
    λ i. line.Band (first.0 i) (second.0 i) (last i))
    g e
same_behind (line.Excl n) b h g k e =
    only_excl b k (λ x. IsLine x → operands (line.Excl n) ≡ operands x → line.Excl n ≡ x)
    (λ m l f. ap line.Excl (one_once n m h l f)) g e
same_behind (line.Empty n) b h g k e =
    only_empty b k (λ x. IsLine x → operands (line.Empty n) ≡ operands x → line.Empty n ≡ x)
    (λ m l f. ap line.Empty (one_once n m h l f)) g e

pub one_line : (a b : CertificateLine) → IsLine a → IsLine b → spelling a ≡ spelling b → a ≡ b
one_line a b h g e =
    let cut = line_cut b (spelling a) (keyword_text (keyword_of a)) (operands a) (spelled a)
    (keyword_whole (keyword_of a)) (operands_break a) e in
    same_behind a b h g (sym (keyword_once (keyword_of a) (keyword_of b) cut.0)) cut.1

-- a byte of a line is no control character
abbrev pub Above : ℕ → Type 0
Above b = 32 ≤ b

digits_above : (n : ℕ) → n < 10 ^ 37 → All Above (decimal n)
digits_above n small =
    All-weaker (λ b. 48 ≤ b) Above (λ b h. omega (arith, h)) (decimal n) (decimal_digits n (omega (arith, small)))

pub words_above : (ns : List ℕ) → All IsNumber ns → All Above (words ns)
words_above [] h = All-nil Above
words_above (n ∷ ns) h =
    let small : IsNumber n = All-head IsNumber n ns h in
    All-append Above (word n) (words ns)
    (All-cons Above 32 (decimal n) (omega arith) (digits_above n (omega (arith, small))))
    (words_above ns (All-tail IsNumber n ns h))

one_above : (n : ℕ) → IsNumber n → All Above (words (n ∷ []))
one_above n h = words_above (n ∷ []) (All-cons IsNumber n [] h (All-nil IsNumber))

two_above : (n m : ℕ) → IsNumber n → IsNumber m → All Above (words (n ∷ m ∷ []))
two_above n m h g =
    words_above (n ∷ m ∷ []) (All-cons IsNumber n (m ∷ []) h (All-cons IsNumber m [] g (All-nil IsNumber)))

three_above : (n m k : ℕ) → IsNumber n → IsNumber m → IsNumber k → All Above (words (n ∷ m ∷ k ∷ []))
three_above n m k h g f = words_above (n ∷ m ∷ k ∷ [])
    (All-cons IsNumber n (m ∷ k ∷ []) h (All-cons IsNumber m (k ∷ []) g (All-cons IsNumber k [] f (All-nil IsNumber))))

version_above : (v : Version) → All Above (version_text v)
version_above One = All-from_recursion Above (version_text One) (search rules)
version_above Two = All-from_recursion Above (version_text Two) (search rules)

side_above : (s : Side) → All Above (side_text s)
side_above Over = All-from_recursion Above (side_text Over) (search rules)
side_above Under = All-from_recursion Above (side_text Under) (search rules)

signed_above : (z : ℤ) → unsigned_abs z < 10 ^ 37 → All Above (signed_decimal z)
signed_above (pos n) small = digits_above n small
signed_above (negsuc n) small = All-cons Above 45 (decimal (suc n)) (omega arith) (digits_above (suc n) small)

bound_above : (b : Bound) → IsLine (line.Bound b) → All Above (bound_text b)
bound_above NoPlan h = All-from_recursion Above (bound_text NoPlan) (search rules)
bound_above (Least z) h = All-cons Above 32 (signed_decimal z) (omega arith) (signed_above z h)

operands_above : (a : CertificateLine) → IsLine a → All Above (operands a)
operands_above (line.Title v) h = version_above v
operands_above (line.Bound b) h = bound_above b h
operands_above (line.Lists n) h = one_above n h
operands_above line.Prices h = All-nil Above
operands_above (line.Up c t v) h = three_above c t v h.0 h.1 h.2
operands_above (line.Lo c t v) h = three_above c t v h.0 h.1 h.2
operands_above (line.Tail t weight places) h = words_above (t ∷ weight ∷ places)
    (All-cons IsNumber t (weight ∷ places) h.0 (All-cons IsNumber weight places h.1 h.2))
operands_above (line.Ex c t v) h = three_above c t v h.0 h.1 h.2
operands_above line.Tree h = All-nil Above
operands_above (line.Split n m) h = two_above n m h.0 h.1
operands_above (line.Cost n) h = one_above n h
operands_above line.Point h = All-nil Above
operands_above (line.Band c t side) h =
    All-append Above (words (c ∷ t ∷ [])) (side_text side) (two_above c t h.0 h.1) (side_above side)
operands_above (line.Excl n) h = one_above n h
operands_above (line.Empty n) h = one_above n h

pub no_line_feed : (a : CertificateLine) → IsLine a → All (λ b. b ≢ 10) (spelling a)
no_line_feed a h =
    let letters : All Above (keyword_text (keyword_of a)) = All-weaker (λ b. 97 ≤ b) Above (λ b l. omega (arith, l))
    (keyword_text (keyword_of a)) (keyword_letters (keyword_of a)) in
    let above : All Above (keyword_text (keyword_of a) ++ operands a) =
    All-append Above (keyword_text (keyword_of a)) (operands a) letters (operands_above a h) in
    All-weaker Above (λ b. b ≢ 10) (λ b l e. omega (arith, l, e)) (spelling a)
    (subst (All Above) (sym (spelled a)) above)
