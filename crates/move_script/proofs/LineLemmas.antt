-- A line is read in one way.
use Rattle.std.proofs.Common.{◌≡◌, ◌≢◌, ℕ, ◌+◌, ◌<◌, ◌≤◌, ◌^◌, inl, inr, ⊎_elim, Result, Ok, Err, IfOk, true, eqb, List}
use Rattle.std.proofs.Common.{[], ◌∷◌, ◌++◌, Some, Bor, length, take, drop, codes, decimal, slice_index, refl, sym, ◌∙◌}
use Rattle.std.proofs.Common.{ap, subst, arith, rules}
use Rattle.std.specs.List.{All, AllPairs, Contains}
use Rattle.std.specs.Cmp.Lexicographic.{pointwise}
use Rattle.std.proofs.lemmas.Bool.{cases_lt}
use Rattle.std.proofs.lemmas.Bool.Decides.{Decides-eqb}
use Rattle.std.proofs.lemmas.Slice.Eq.{strip_prefix_is}
use Rattle.std.proofs.lemmas.Fmt.{decimal_injective, length-decimal-le}
use Rattle.std.proofs.lemmas.List.{append_cancel_left}
use Rattle.std.proofs.lemmas.List.Elements.{Contains-get_or}
use Rattle.text_lines.proofs.CutLemmas.{cut_once}
use Rattle.plan_moves.specs.declared.script_line.ScriptLine.{ScriptLine}
use Rattle.plan_moves.specs.declared.script_line.ScriptLine.TheVariants.{Move, Swap, Undo}
use Rattle.move_script.specs.Spelling.{words_text, IsWord, MovesTo, Exchanges, name_at, IsPlace, Spells}
use Rattle.move_script.specs.declared.fault.ScriptFault.{ScriptFault}
use Rattle.move_script.specs.declared.fault.ScriptFault.TheVariants.{UnknownName}
use Rattle.move_script.specs.FirstFault.{Names, IsBadLine, HasUnknownName}
use Rattle.move_script.specs.Steps.{Refuses}

-- the words behind a verb
words_once : (verb a b c d : List ℕ) → IsWord a → IsWord c
    → words_text verb a b ≡ words_text verb c d → (a ≡ c) × (b ≡ d)
words_once verb a b c d u v e =
    cut_once 32 a b c d u.unbroken v.unbroken (append_cancel_left verb (a ++ 32 ∷ b) (c ++ 32 ∷ d) e)

pub moves_once : (line a b : List ℕ) (s t : ℕ) → MovesTo line a s → MovesTo line b t → (a ≡ b) × (s ≡ t)
moves_once line a b s t m n =
    let both = words_once (codes "move ") a (decimal s) b (decimal t) m.word n.word (sym m.spelled ∙ n.spelled) in
    (both.0, decimal_injective s t (omega (arith, m.small)) (omega (arith, n.small)) both.1)

pub exchanges_once : (line a b c d : List ℕ) → Exchanges line a b → Exchanges line c d → (a ≡ c) × (b ≡ d)
exchanges_once line a b c d m n = words_once (codes "swap ") a b c d m.word n.word (sym m.spelled ∙ n.spelled)

-- the first byte tells the verbs apart
pub moves_or_exchanges : (line a c d : List ℕ) (s : ℕ) → MovesTo line a s → Exchanges line c d → ⊥
moves_or_exchanges line a c d s m n =
    let first : 109 ≡ 115 = ap (λ xs. slice_index xs 0) (sym m.spelled ∙ n.spelled) in
    omega (arith, first)

pub moves_or_undo : (line a : List ℕ) (s : ℕ) → MovesTo line a s → line ≡ codes "undo" → ⊥
moves_or_undo line a s m e =
    let first : 109 ≡ 117 = ap (λ xs. slice_index xs 0) (sym m.spelled ∙ e) in
    omega (arith, first)

pub exchanges_or_undo : (line a b : List ℕ) → Exchanges line a b → line ≡ codes "undo" → ⊥
exchanges_or_undo line a b n e =
    let first : 115 ≡ 117 = ap (λ xs. slice_index xs 0) (sym n.spelled ∙ e) in
    omega (arith, first)

-- a name stands for one place
same_place : (names : List (List ℕ)) (i j : ℕ) → IsPlace names i → IsPlace names j
    → name_at names i ≡ name_at names j → i ≡ j
same_place names i j a b e =
    ⊎_elim (λ l. absurd (b.first i l e))
    (λ h. ⊎_elim (λ l. absurd (a.first j l (sym e))) (λ k. omega arith) (cases_lt j i))
    (cases_lt i j)

-- where no two names are the same, each stands for its place
pub place_of_apart : (names : List (List ℕ)) (i : ℕ) → AllPairs (λ a b. a ≢ b) names
    → i < length names → IsPlace names i
place_of_apart names i apart l = record { within = l; first = λ k below. apart k i [] below l }

pub found_place : (names : List (List ℕ)) (found : Result ℕ ScriptFault) → AllPairs (λ a b. a ≢ b) names
    → IfOk found (λ i. i < length names) → IfOk found (IsPlace names)
found_place names (Ok i) apart l = place_of_apart names i apart l
found_place names (Err fault) apart l = search rules

-- a line spells one line of a script
pub spells_once : (names : List (List ℕ)) (line : List ℕ) (x y : ScriptLine) → Spells names line x
    → Spells names line y → x ≡ y
spells_once names line (Move i s) (Move j t) p q =
    let both = moves_once line (name_at names i) (name_at names j) s t p.1 q.1 in
    let place : i ≡ j = same_place names i j p.0 q.0 both.0 in
    λ k. Move (place k) (both.1 k)
spells_once names line (Move i s) (Swap k l) p q =
    absurd (moves_or_exchanges line (name_at names i) (name_at names k) (name_at names l) s p.1 q.2)
spells_once names line (Move i s) Undo p q = absurd (moves_or_undo line (name_at names i) s p.1 q)
spells_once names line (Swap i j) (Move k s) p q =
    absurd (moves_or_exchanges line (name_at names k) (name_at names i) (name_at names j) s q.1 p.2)
spells_once names line (Swap i j) (Swap k l) p q =
    let both = exchanges_once line (name_at names i) (name_at names j) (name_at names k) (name_at names l) p.2 q.2 in
    let first : i ≡ k = same_place names i k p.0 q.0 both.0 in
    let second : j ≡ l = same_place names j l p.1 q.1 both.1 in
    λ n. Swap (first n) (second n)
spells_once names line (Swap i j) Undo p q = absurd (exchanges_or_undo line (name_at names i) (name_at names j) p.2 q)
spells_once names line Undo (Move i s) p q = absurd (moves_or_undo line (name_at names i) s q.1 p)
spells_once names line Undo (Swap i j) p q = absurd (exchanges_or_undo line (name_at names i) (name_at names j) q.2 p)
spells_once names line Undo Undo p q = λ k. Undo

-- a line with a fault spells nothing
pub bad_excludes : (names : List (List ℕ)) (line : List ℕ) → IsBadLine line → (x : ScriptLine) → Spells names line x → ⊥
bad_excludes names line bad (Move i s) p = bad.no_move (name_at names i) s p.1
bad_excludes names line bad (Swap i j) p = bad.no_swap (name_at names i) (name_at names j) p.2
bad_excludes names line bad Undo p = bad.no_undo p

known_place : (names : List (List ℕ)) (name : List ℕ) (i : ℕ) → i < length names
    → name_at names i ≡ name → Contains names name
known_place names name i l e = subst (Contains names) e (Contains-get_or names i [] l)

pub unknown_excludes : (names : List (List ℕ)) (line : List ℕ) → HasUnknownName names line → (x : ScriptLine)
    → Spells names line x → ⊥
unknown_excludes names line u x p = excludes u.name x u.named u.unknown p
  where
    excludes : (name : List ℕ) (x : ScriptLine) → Names line name → (Contains names name → ⊥) → Spells names line x → ⊥
    excludes name (Move i s) (inl (t, m)) new p =
        new (known_place names name i p.0.within (moves_once line (name_at names i) name s t p.1 m).0)
    excludes name (Move i s) (inr (other, inl n)) new p = moves_or_exchanges line (name_at names i) name other s p.1 n
    excludes name (Move i s) (inr (other, inr n)) new p = moves_or_exchanges line (name_at names i) other name s p.1 n
    excludes name (Swap i j) (inl (t, m)) new p =
        moves_or_exchanges line name (name_at names i) (name_at names j) t m p.2
    excludes name (Swap i j) (inr (other, inl n)) new p = new
        (known_place names name i p.0.within
        (exchanges_once line (name_at names i) (name_at names j) name other p.2 n).0)
    excludes name (Swap i j) (inr (other, inr n)) new p = new
        (known_place names name j p.1.within
        (exchanges_once line (name_at names i) (name_at names j) other name p.2 n).1)
    excludes name Undo (inl (t, m)) new p = moves_or_undo line name t m p
    excludes name Undo (inr (other, inl n)) new p = exchanges_or_undo line name other n p
    excludes name Undo (inr (other, inr n)) new p = exchanges_or_undo line other name n p

pub bad_or_unknown : (names : List (List ℕ)) (line : List ℕ) → IsBadLine line → HasUnknownName names line → ⊥
bad_or_unknown names line bad u = excludes u.name u.named
  where
    excludes : (name : List ℕ) → Names line name → ⊥
    excludes name (inl (t, m)) = bad.no_move name t m
    excludes name (inr (other, inl n)) = bad.no_swap name other n
    excludes name (inr (other, inr n)) = bad.no_swap other name n

-- no move is a line whose words behind the verb are none
pub no_move : (line words : List ℕ) → line ≡ codes "move " ++ words
    → ((name : List ℕ) (start : ℕ) → IsWord name → start < 10 ^ 9 → words ≡ name ++ 32 ∷ decimal start → ⊥)
    → (name : List ℕ) (start : ℕ) → MovesTo line name start → ⊥
no_move line words e none name start m =
    none name start m.word m.small
    (append_cancel_left (codes "move ") words (name ++ 32 ∷ decimal start) (sym e ∙ m.spelled))

pub no_swap : (line words : List ℕ) → line ≡ codes "swap " ++ words
    → ((name other : List ℕ) → IsWord name → IsWord other → words ≡ name ++ 32 ∷ other → ⊥) → (name other : List ℕ)
    → Exchanges line name other → ⊥
no_swap line words e none name other m =
    none name other m.word m.other_word
    (append_cancel_left (codes "swap ") words (name ++ 32 ∷ other) (sym e ∙ m.spelled))

-- words that are cut at their first blank have no start, where what follows is no number of at most 9 digits
pub no_start : (words front digits : List ℕ) → words ≡ front ++ 32 ∷ digits → All (λ b. b ≢ 32) front
    → ((n : ℕ) → digits ≡ decimal n → length digits ≤ 9 → ⊥) → (name : List ℕ) (start : ℕ) → IsWord name
    → start < 10 ^ 9 → words ≡ name ++ 32 ∷ decimal start → ⊥
no_start words front digits cut first none name start word small e =
    let same : digits ≡ decimal start =
    (cut_once 32 front digits name (decimal start) first word.unbroken (sym cut ∙ e)).1 in
    none start same
    (omega (arith, ap length same, length-decimal-le 9 start (omega arith) small (omega (arith, small))))

-- nor two names, where one of the words is none
pub no_names : (words front back : List ℕ) → words ≡ front ++ 32 ∷ back → All (λ b. b ≢ 32) front
    → (IsWord front → IsWord back → ⊥) → (name other : List ℕ) → IsWord name → IsWord other
    → words ≡ name ++ 32 ∷ other → ⊥
no_names words front back cut first none name other word other_word e =
    let both = cut_once 32 front back name other first word.unbroken (sym cut ∙ e) in
    none (subst IsWord (sym both.0) word) (subst IsWord (sym both.1) other_word)

-- what follows a prefix
pub behind : (line verb : List ℕ) (rest : Bor (List ℕ)) → (pointwise eqb (take (length verb) line) verb ≡ true)
    × (rest.now ≡ drop (length verb) line) × (length rest.now + length verb ≡ length line) → line ≡ verb ++ rest.now
behind line verb rest h = strip_prefix_is Decides-eqb line verb (Some rest) h

-- a name that is none of the names refuses its line
pub unknown_refused : (names : List (List ℕ)) (line name : List ℕ) (n : ℕ) (fault : ScriptFault) → Names line name
    → (fault ≡ UnknownName n) × (Contains names name → ⊥) → Refuses names line n fault
unknown_refused names line name n fault named h =
    subst (Refuses names line n) (sym h.0) (refl, record { name = name; named = named; unknown = h.1 })
