-- The members of a group are read in one way.
use Rattle.std.proofs.Common.{◌≡◌, ℕ, ◌-◌, ◌<◌, ◌≤◌, List, [], ◌∷◌, ◌++◌, length, get_or, refl, sym, ◌∙◌, ap, subst}
use Rattle.std.proofs.Common.{arith}
use Rattle.std.proofs.Common.{append_assoc, Some, slice_get, ◌⊎◌, inl, inr}
use Rattle.std.specs.List.{All, AllPairs}
use Rattle.std.proofs.Math.Nat.{eq-or-lt_of_le}
use Rattle.std.proofs.lemmas.Option.{slice_get_within, get_or_from_slice_get}
use Rattle.std.proofs.lemmas.List.{append-nil, length-append, get_or_append_left, get_or-append_right}
use Rattle.std.proofs.lemmas.List.Elements.{All-head, All-tail}
use Rattle.std.proofs.lemmas.Grind.{flat_map-append}
use Rattle.certificate_lines.specs.Spelling.{word, IsNumber}
use Rattle.certificate_lines.specs.Steps.{IsBreak}
use Rattle.certificate_lines.proofs.WordLemmas.{word_once}
use Rattle.refined_text.specs.declared.lines.members.LineMember.{LineMember}
use Rattle.refined_text.specs.lines.Spelling.{member_word, member_words, IsMember, MemberBefore}

member_pieces : (x : LineMember) (rest : List ℕ)
    → member_word x ++ rest ≡ word x.scenario ++ (word x.weight ++ rest)
member_pieces x rest = append_assoc (word x.scenario) (word x.weight) rest

-- a text whose first two words are no member has none in front
pub no_weight : (text more : List ℕ) (n : ℕ) → text ≡ word n ++ more → IsNumber n → IsBreak more
    → ((m : ℕ) (rest : List ℕ) → IsNumber m → IsBreak rest → more ≡ word m ++ rest → ⊥) → (x : LineMember)
    (rest : List ℕ) → IsMember x → IsBreak rest → text ≡ member_word x ++ rest → ⊥
no_weight text more n cut small b none x rest h c e =
    none x.weight rest h.1 c (word_once n x.scenario more (word x.weight ++ rest) small h.0 b refl
    (sym cut ∙ e ∙ member_pieces x rest)).1

pub no_scenario : (text : List ℕ)
    → ((m : ℕ) (rest : List ℕ) → IsNumber m → IsBreak rest → text ≡ word m ++ rest → ⊥) → (x : LineMember)
    (rest : List ℕ) → IsMember x → IsBreak rest → text ≡ member_word x ++ rest → ⊥
no_scenario text none x rest h b e = none x.scenario (word x.weight ++ rest) h.0 refl (e ∙ member_pieces x rest)

-- the next member and what follows it
pub member_once : (x y : LineMember) (rest more : List ℕ) → IsMember x → IsMember y → IsBreak rest → IsBreak more
    → member_word x ++ rest ≡ member_word y ++ more → (x ≡ y) × (rest ≡ more)
member_once x y rest more xs ys r s e =
    let first = word_once x.scenario y.scenario (word x.weight ++ rest) (word y.weight ++ more) xs.0 ys.0 refl refl
    (sym (member_pieces x rest) ∙ e ∙ member_pieces y more) in
    let second = word_once x.weight y.weight rest more xs.1 ys.1 r s first.1 in
    let scenario = first.0 in
    let weight = second.0 in
    ((λ j. record { scenario = scenario j; weight = weight j }), second.1)

pub members_break : (xs : List LineMember) → IsBreak (member_words xs)
members_break [] = tt
members_break (x ∷ xs) = refl

pub members_once : (xs ys : List LineMember) → All IsMember xs → All IsMember ys → member_words xs ≡ member_words ys
    → xs ≡ ys
members_once [] [] h g e = refl
members_once [] (y ∷ ys) h g e = absurd (cc)
members_once (x ∷ xs) [] h g e = absurd (cc)
members_once (x ∷ xs) (y ∷ ys) h g e =
    let first = member_once x y (member_words xs) (member_words ys) (All-head IsMember x xs h)
    (All-head IsMember y ys g)
    (members_break xs) (members_break ys) e in
    let later = members_once xs ys (All-tail IsMember x xs h) (All-tail IsMember y ys g) first.1 in
    λ i. first.0 i ∷ later i

append_break : (front : List LineMember) (rest : List ℕ) → IsBreak rest → IsBreak (member_words front ++ rest)
append_break [] rest b = b
append_break (p ∷ front) rest b = refl

-- members whose words begin with those of some others begin with these
record Begins (members front : List LineMember) (rest : List ℕ) : Type 0 where
  more : List LineMember
  is : members ≡ front ++ more
  left : rest ≡ member_words more

begins : (front members : List LineMember) (rest : List ℕ) → All IsMember front → All IsMember members → IsBreak rest
    → member_words members ≡ member_words front ++ rest → Begins members front rest
begins [] members rest f n b e = record { more = members; is = refl; left = sym e }
begins (p ∷ front) [] rest f n b e = absurd (cc)
begins (p ∷ front) (q ∷ members) rest f n b e =
    let parts : member_word q ++ member_words members ≡ member_word p ++ (member_words front ++ rest) =
    e ∙ append_assoc (member_word p) (member_words front) rest in
    let both = member_once q p (member_words members) (member_words front ++ rest) (All-head IsMember q members n)
    (All-head IsMember p front f) (members_break members) (append_break front rest b) parts in
    let later = begins front members rest (All-tail IsMember p front f) (All-tail IsMember q members n) b both.1 in
    record { more = later.more; is = (λ i. both.0 i ∷ later.is i); left = later.left }

-- the element behind the first ones
behind_front : (P : LineMember → Type 0) (front more : List LineMember) (m : LineMember) → All P (front ++ m ∷ more)
    → P m
behind_front P [] more m h = All-head P m more h
behind_front P (p ∷ front) more m h = behind_front P front more m (All-tail P p (front ++ m ∷ more) h)

sub-self : (n : ℕ) → n - n ≡ 0
sub-self n = omega arith

-- and it is above each of them, where all ascend
below_next : (front more : List LineMember) (m : LineMember) → AllPairs MemberBefore (front ++ m ∷ more)
    → All (λ x. x.scenario < m.scenario) front
below_next front more m h k d l =
    let all : List LineMember = front ++ m ∷ more in
    let next : get_or all (length front) d ≡ m = get_or-append_right front (m ∷ more) (length front) (length
    front) d refl (omega arith) ∙ ap (λ i. get_or (m ∷ more) i d) (sub-self (length front)) in
    let pair : MemberBefore (get_or all k d) (get_or all (length front) d) =
    h k (length front) d l (omega (arith, length-append front (m ∷ more))) in
    let upper : (get_or all (length front) d).scenario ≡ m.scenario = ap (λ (x : LineMember). x.scenario) next in
    let lower : (get_or all k d).scenario ≡ (get_or front k d).scenario =
    ap (λ (x : LineMember). x.scenario) (get_or_append_left front (m ∷ more) d k l) in
    omega (arith, pair, upper, lower)

-- no member follows, so the text isn't that of any members
pub no_member : (text : List ℕ) (front : List LineMember) (rest : List ℕ) → text ≡ member_words front ++ rest
    → All IsMember front → IsBreak rest → 0 < length rest
    → ((x : LineMember) (after : List ℕ) → IsMember x → IsBreak after → rest ≡ member_word x ++ after → ⊥)
    → (members : List LineMember) → All IsMember members → text ≡ member_words members → ⊥
no_member text front rest e f b some none members small h = go r.more r.is r.left
  where
    r : Begins members front rest
    r = begins front members rest f small b (sym h ∙ e)

    go : (more : List LineMember) → members ≡ front ++ more → rest ≡ member_words more → ⊥
    go [] is left = omega (arith, some, ap length left)
    go (m ∷ more) is left =
        none m (member_words more) (behind_front IsMember front more m (subst (All IsMember) is small))
        (members_break more) left

-- the next member isn't above those before it, so the text isn't that of any members
pub not_above : (text : List ℕ) (front : List LineMember) (rest after : List ℕ) (x : LineMember)
    → text ≡ member_words front ++ rest → All IsMember front → IsBreak rest → rest ≡ member_word x ++ after → IsMember x
    → IsBreak after → (All (λ y. y.scenario < x.scenario) front → ⊥) → (members : List LineMember)
    → All IsMember members → AllPairs MemberBefore members → text ≡ member_words members → ⊥
not_above text front rest after x e f b next xs brk below members small ascending h = go r.more r.is r.left
  where
    r : Begins members front rest
    r = begins front members rest f small b (sym h ∙ e)

    go : (more : List LineMember) → members ≡ front ++ more → rest ≡ member_words more → ⊥
    go [] is left = let none : [] ≡ member_word x ++ after = sym left ∙ next in absurd (cc)
    go (m ∷ more) is left =
        let here : IsMember m = behind_front IsMember front more m (subst (All IsMember) is small) in
        let same : m ≡ x = (member_once m x (member_words more) after here xs (members_break more) brk
        (sym left ∙ next)).0 in
        below (subst (λ (k : LineMember). All (λ j. j.scenario < k.scenario) front) same
        (below_next front more m (subst (AllPairs MemberBefore) is ascending)))

-- a scenario is above that of the last of members that ascend where it is above all
pub last_above : (xs : List LineMember) (last : LineMember) (s : ℕ) → Some last ≡ slice_get xs (length xs - 1)
    → AllPairs MemberBefore xs → last.scenario < s → All (λ x. x.scenario < s) xs
last_above xs last s e ascending above k d l = at (let m : k ≤ length xs - 1 = omega (arith, l) in eq-or-lt_of_le m)
  where
    end : get_or xs (length xs - 1) d ≡ last
    end = get_or_from_slice_get xs (length xs - 1) last d (sym e)

    at : (k ≡ length xs - 1) ⊎ (k < length xs - 1) → (get_or xs k d).scenario < s
    at (inl f) = subst (λ (x : LineMember). x.scenario < s)
        (sym (ap (λ (i : ℕ). get_or xs i d) f ∙ end)) above
    at (inr h) =
        let pair : MemberBefore (get_or xs k d) (get_or xs (length xs - 1) d) =
        ascending k (length xs - 1) d h (omega (arith, h, l)) in
        let upper : (get_or xs (length xs - 1) d).scenario ≡ last.scenario =
        ap (λ (x : LineMember). x.scenario) end in
        omega (arith, pair, upper, above)

pub above_last : (xs : List LineMember) (last : LineMember) (s : ℕ) → Some last ≡ slice_get xs (length xs - 1)
    → All (λ x. x.scenario < s) xs → last.scenario < s
above_last xs last s e above =
    let within = slice_get_within xs (length xs - 1) last (sym e) in
    subst (λ (x : LineMember). x.scenario < s) (get_or_from_slice_get xs (length xs - 1) last last (sym e))
    (above (length xs - 1) last within)

-- one member more was read
pub member_more : (text : List ℕ) (front : List LineMember) (rest after : List ℕ) (x : LineMember)
    → text ≡ member_words front ++ rest → rest ≡ member_word x ++ after → text ≡ member_words (front ++ x ∷ []) ++ after
member_more text front rest after x e next =
    e
    ∙ ap (λ (xs : List ℕ). member_words front ++ xs) next
    ∙ sym (append_assoc (member_words front) (member_word x) after)
    ∙ ap (λ (xs : List ℕ). (member_words front ++ xs) ++ after) (sym (append-nil (member_word x)))
    ∙ ap (λ (xs : List ℕ). xs ++ after) (sym (flat_map-append member_word front (x ∷ [])))
