-- The lists of plans along a script, and the text of their keys.
use Rattle.std.proofs.Common.{◌≡◌, ℕ, suc, ◌+◌, ◌-◌, ◌<◌, List, [], ◌∷◌, ◌++◌, length, take, drop, get_or}
use Rattle.std.proofs.Common.{slice_index_or, Option, Some, None, Result, Err, refl, sym, ◌∙◌, ap, subst, arith}
use Rattle.std.proofs.Common.{add-one}
use Rattle.std.specs.Bool.{⊤}
use Rattle.std.proofs.lemmas.List.{append_assoc, append-nil, take_all, take-append-le, take_more, take-append-drop}
use Rattle.std.proofs.lemmas.List.{length-append, length-map, length-take-le, length-drop, drop_all, get_or-map}
use Rattle.std.proofs.lemmas.List.{get_or_default}
use Rattle.std.proofs.Math.Seq.{take-append-add, drop-cons}
use Rattle.plan_desk.specs.Desk.{Shown, ShowsSame, after_say}
use Rattle.plan_desk.proofs.Appended.{say_more, say_none}
use Rattle.instance_model.specs.Tables.{Tables}
use Rattle.instance_model.specs.declared.key.Key.{Key}
use Rattle.plan_moves.specs.declared.script_line.ScriptLine.{ScriptLine}
use Rattle.plan_moves.specs.declared.script_line.ScriptLine.TheVariants.{Move, Swap, Undo}
use Rattle.plan_moves.specs.KeptPlans.{present_key}
use Rattle.plan_moves.specs.Scripts.{after_line, lists_along, lists_of, keys_of, FailsAt, Succeeds}
use Rattle.move_script.specs.declared.replay_fault.ReplayFault.{ReplayFault}
use Rattle.move_script.specs.declared.replay_fault.ReplayFault.TheVariants.{NotAllowed, NothingToUndo}
use Rattle.move_script.specs.LineFaults.{line_fault}
use Rattle.move_script.specs.Replays.{key_line, key_lines, replay_text, script_line, FailsByStart, FailsByUndo}
use Rattle.move_script.specs.Replays.{SaysKeys}

-- ---- texts

-- the lines of keys, and then of more keys
key_lines-append : (n : ℕ) (a b : List Key) → key_lines n (a ++ b) ≡ key_lines n a ++ key_lines (n + length a) b
key_lines-append n [] b = ap (λ m. key_lines m b) (omega arith)
key_lines-append n (key ∷ a) b =
    ap (λ xs. key_line n key ++ xs)
    (key_lines-append (n + 1) a b ∙ ap (λ m. key_lines (n + 1) a ++ key_lines m b) (omega arith))
    ∙ sym (append_assoc (key_line n key) (key_lines (n + 1) a) (key_lines (n + length (key ∷ a)) b))

-- one line of a key
key_lines-one : (n : ℕ) (key : Key) → key_lines n (key ∷ []) ≡ key_line n key
key_lines-one n key = append-nil (key_line n key)

-- a first part of a text was said, not all of it, and nothing else
abbrev pub SaysPart : List ℕ → Shown → Shown → Type 0
SaysPart text old new = (n : ℕ) × (n < length text) × ShowsSame new (after_say (take n text) old)

-- a whole piece, and then a part of the next one
part_more : (a b : List ℕ) (old mid new : Shown) → ShowsSame mid (after_say a old) → SaysPart b mid new
    → SaysPart (a ++ b) old new
part_more a b old mid new e (n, l, s) = (
  length a + n,
  omega (arith, length-append a b),
  subst (λ xs. ShowsSame new (after_say xs old)) (sym (take-append-add a b n)) (say_more a (take n b) old mid new e s),
)

-- a part of a piece is a part of what begins with it
part_longer : (a b : List ℕ) (old new : Shown) → SaysPart a old new → SaysPart (a ++ b) old new
part_longer a b old new (n, l, s) = (
  n,
  omega (arith, length-append a b),
  subst (λ xs. ShowsSame new (after_say xs old)) (sym (take-append-le n a b (omega (arith, l)))) s,
)

-- ---- plans

-- where the rest of a list begins with x, x stands there, and the rest goes on behind it
split_here : {A : Type 0} (xs : List A) (n : ℕ) (x : A) (rest : List A) → n < length xs → drop n xs ≡ x ∷ rest
    → (get_or xs n x ≡ x) × (drop (n + 1) xs ≡ rest)
split_here xs n x rest lt e =
    let f : get_or xs n x ∷ drop (suc n) xs ≡ x ∷ rest = sym (drop-cons xs n x lt) ∙ e in
    let tail : drop (suc n) xs ≡ rest = cc in
    (cc, ap (λ m. drop m xs) (add-one n) ∙ tail)

module _ (inst : Tables) where
  -- the lists begin with that from which they go on
  lists_along-some : (plans : List (List ℕ)) (lines : List ScriptLine)
      → 0 < length (lists_along inst (Some plans) lines)
  lists_along-some plans [] = omega arith
  lists_along-some plans (line ∷ lines) = omega arith

  -- the rest of the lists, behind that from which they go on
  lists_along-head : (plans : List (List ℕ)) (lines : List ScriptLine) → (rest : List (List (List ℕ)))
      × (lists_along inst (Some plans) lines ≡ plans ∷ rest)
  lists_along-head plans [] = ([], refl)
  lists_along-head plans (line ∷ lines) = (lists_along inst (after_line inst plans line) lines, refl)

  -- where no line is left
  along_none : (plans : List (List ℕ)) (lines : List ScriptLine) → lines ≡ []
      → lists_along inst (Some plans) lines ≡ plans ∷ []
  along_none plans lines e = ap (lists_along inst (Some plans)) e

  -- where this line and others are left, and this is what the line makes of the plans
  along_more : (plans : List (List ℕ)) (lines rest : List ScriptLine) (line : ScriptLine)
      (after : Option (List (List ℕ))) → lines ≡ line ∷ rest → after_line inst plans line ≡ after
      → lists_along inst (Some plans) lines ≡ plans ∷ lists_along inst after rest
  along_more plans lines rest line after e f =
      ap (lists_along inst (Some plans)) e ∙ ap (λ a. plans ∷ lists_along inst a rest) f

  module _ (opening : List ℕ) (script : List ScriptLine) where
    -- no line up to line n fails, and after it these are the plans
    pub record Reaches (n : ℕ) (plans : List (List ℕ)) : Type 0 where
      pub some : n < length (lists_of inst opening script)
      pub rest : drop n (lists_of inst opening script) ≡ lists_along inst (Some plans) (drop n script)

    pub reaches_none : Reaches 0 (opening ∷ [])
    reaches_none = record { some = lists_along-some (opening ∷ []) script; rest = refl }

    -- the lists from here on, by what the next line makes of the plans
    next : (n : ℕ) (plans : List (List ℕ)) (none : ScriptLine) (t : Tables) (after : Option (List (List ℕ))) → t ≡ inst
        → Reaches n plans → n < length script → after_line t plans (get_or script n none) ≡ after
        → drop n (lists_of inst opening script) ≡ plans ∷ lists_along inst after (drop (suc n) script)
    next n plans none t after same here lt e =
        let line : ScriptLine = get_or script n none in
        here.rest ∙ along_more plans (drop n script) (drop (suc n) script) line after (drop-cons script n none
        lt) (ap (λ u. after_line u plans line) (sym same) ∙ e)

    -- line n + 1 is followed
    pub reaches_more : (n : ℕ) (plans new : List (List ℕ)) (none : ScriptLine) (t : Tables) → t ≡ inst → Reaches n plans
        → n < length script → after_line t plans (get_or script n none) ≡ Some new → Reaches (n + 1) new
    reaches_more n plans new none t same here lt e =
        let lists : List (List (List ℕ)) = lists_of inst opening script in
        let split = split_here lists n plans _ here.some (next n plans none t (Some new) same here lt e) in
        record {
          some = omega
              (arith, length-drop (n + 1) lists, ap length split.1, lists_along-some new (drop (suc n) script));
          rest = split.1 ∙ ap (λ m. lists_along inst (Some new) (drop m script)) (sym (add-one n));
        }

    -- line n + 1 fails
    pub fails_next : (n : ℕ) (plans : List (List ℕ)) (none : ScriptLine) (t : Tables) → t ≡ inst → Reaches n plans
        → n < length script → after_line t plans (get_or script n none) ≡ None → FailsAt inst opening script (n + 1)
    fails_next n plans none t same here lt e =
        let lists : List (List (List ℕ)) = lists_of inst opening script in
        record {
          within = omega arith;
          reached = omega (arith, here.some, length-drop n lists, ap length (next n plans none t None same here lt e));
        }

    -- no line is left
    pub succeeds_at : (n : ℕ) (plans : List (List ℕ)) → Reaches n plans → n ≡ length script
        → Succeeds inst opening script
    succeeds_at n plans here e =
        let lists : List (List (List ℕ)) = lists_of inst opening script in
        let rest : drop n lists ≡ plans ∷ [] =
        here.rest ∙ along_none plans (drop n script) (drop_all n script (omega arith)) in
        omega (arith, here.some, length-drop n lists, ap length rest)

    -- ---- the fault of a line

    -- line n + 1 of the script
    line_at : (n : ℕ) (none : ScriptLine) → n < length script → script_line script (n + 1) ≡ get_or script n none
    line_at n none lt =
        let e : n + 1 - 1 ≡ n = omega arith in
        ap (λ m. slice_index_or script m Undo) e ∙ get_or_default script n Undo none lt

    by_start : (n m : ℕ) (line : ScriptLine) → script_line script n ≡ line → FailsAt inst opening script n
        → line_fault line n ≡ NotAllowed m → FailsByStart inst opening script m
    by_start n m (Move i s) is fails e =
        let one : n ≡ m = cc in
        subst (FailsByStart inst opening script) one
        (record { fails = fails; changes = λ h. let both : Move i s ≡ Undo = sym is ∙ h in cc })
    by_start n m (Swap i j) is fails e =
        let one : n ≡ m = cc in
        subst (FailsByStart inst opening script) one
        (record { fails = fails; changes = λ h. let both : Swap i j ≡ Undo = sym is ∙ h in cc })
    by_start n m Undo is fails e = absurd (cc)

    -- a line that fails by the start that it sets
    pub fails_by_start : (n m : ℕ) (none : ScriptLine) → n < length script → FailsAt inst opening script (n + 1)
        → line_fault (get_or script n none) (n + 1) ≡ NotAllowed m → FailsByStart inst opening script m
    fails_by_start n m none lt fails e = by_start (n + 1) m (get_or script n none) (line_at n none lt) fails e

    by_undo : (n m : ℕ) (line : ScriptLine) → script_line script n ≡ line → FailsAt inst opening script n
        → line_fault line n ≡ NothingToUndo m → FailsByUndo inst opening script m
    by_undo n m (Move i s) is fails e = absurd (cc)
    by_undo n m (Swap i j) is fails e = absurd (cc)
    by_undo n m Undo is fails e =
        let one : n ≡ m = cc in
        subst (FailsByUndo inst opening script) one (record { fails = fails; undoes = is })

    -- a line that fails since it undoes
    pub fails_by_undo : (n m : ℕ) (none : ScriptLine) → n < length script → FailsAt inst opening script (n + 1)
        → line_fault (get_or script n none) (n + 1) ≡ NothingToUndo m → FailsByUndo inst opening script m
    fails_by_undo n m none lt fails e = by_undo (n + 1) m (get_or script n none) (line_at n none lt) fails e

    -- ---- what is said

    -- the lines of the first n keys
    abbrev pub text_to : ℕ → List ℕ
    text_to n = key_lines 0 (take n (keys_of inst opening script))

    keys_many : length (keys_of inst opening script) ≡ length (lists_of inst opening script)
    keys_many = length-map (lists_of inst opening script) (present_key inst)

    -- the line of one key more
    text_more : (n : ℕ) (plans : List (List ℕ)) → Reaches n plans
        → text_to (n + 1) ≡ text_to n ++ key_line n (present_key inst plans)
    text_more n plans here =
        let lists : List (List (List ℕ)) = lists_of inst opening script in
        let keys : List Key = keys_of inst opening script in
        let key : Key = present_key inst plans in
        let lt : n < length keys = omega (arith, here.some, keys_many) in
        let head = lists_along-head plans (drop n script) in
        let split = split_here lists n plans head.0 here.some (here.rest ∙ head.1) in
        let is : get_or keys n key ≡ key =
        get_or-map (present_key inst) lists n plans key here.some ∙ ap (present_key inst) split.0 in
        let count : 0 + length (take n keys) ≡ n = omega (arith, length-take-le n keys (omega arith)) in
        ap (key_lines 0) (take_more keys n key lt ∙ ap (λ k. take n keys ++ k ∷ []) is)
        ∙ key_lines-append 0 (take n keys) (key ∷ [])
        ∙ ap (λ m. text_to n ++ key_lines m (key ∷ [])) count
        ∙ ap (λ xs. text_to n ++ xs) (key_lines-one n key)

    -- the first keys, and the others
    text_split : (n : ℕ) → replay_text inst opening script ≡ text_to n ++ key_lines (0
        + length (take n (keys_of inst opening script))) (drop n (keys_of inst opening script))
    text_split n =
        let keys : List Key = keys_of inst opening script in
        ap (key_lines 0) (sym (take-append-drop n keys)) ∙ key_lines-append 0 (take n keys) (drop n keys)

    -- a key of the present plan, over the same instance
    key_is : (plans : List (List ℕ)) (t : Tables) (key : Key) → t ≡ inst → key ≡ present_key t plans
        → key ≡ present_key inst plans
    key_is plans t key same e = e ∙ ap (λ u. present_key u plans) same

    -- before the first key nothing was said
    pub said_none : (old : Shown) → ShowsSame old (after_say (text_to 0) old)
    said_none old = say_none old

    -- one key more was said
    pub said_more : (n : ℕ) (plans : List (List ℕ)) (t : Tables) (key : Key) (old mid new : Shown) → t ≡ inst
        → key ≡ present_key t plans → Reaches n plans → ShowsSame mid (after_say (text_to n) old)
        → ShowsSame new (after_say (key_line n key) mid) → ShowsSame new (after_say (text_to (n + 1)) old)
    said_more n plans t key old mid new same of here e f =
        let text : text_to (n + 1) ≡ text_to n ++ key_line n key =
        text_more n plans here ∙ ap (λ k. text_to n ++ key_line n k) (sym (key_is plans t key same of)) in
        subst (λ xs. ShowsSame new (after_say xs old)) (sym text)
        (say_more (text_to n) (key_line n key) old mid new e f)

    -- a part of one key more was said
    pub said_part : (n : ℕ) (plans : List (List ℕ)) (t : Tables) (key : Key) (old mid new : Shown) → t ≡ inst
        → key ≡ present_key t plans → Reaches n plans → ShowsSame mid (after_say (text_to n) old)
        → SaysPart (key_line n key) mid new → SaysPart (replay_text inst opening script) old new
    said_part n plans t key old mid new same of here e part =
        let line : List ℕ = key_line n key in
        let rest : List ℕ = key_lines (0 + length (take (n + 1) (keys_of inst opening script)))
        (drop (n + 1) (keys_of inst opening script)) in
        let text : text_to (n + 1) ≡ text_to n ++ line =
        text_more n plans here ∙ ap (λ k. text_to n ++ key_line n k) (sym (key_is plans t key same of)) in
        subst (λ xs. SaysPart xs old new) (sym (text_split (n + 1) ∙ ap (λ xs. xs ++ rest) text))
        (part_longer (text_to n ++ line) rest old new (part_more (text_to n) line old mid new e part))

    -- all keys were said
    pub said_whole : (n : ℕ) (old new : Shown) → length (lists_of inst opening script) ≡ n
        → ShowsSame new (after_say (text_to n) old) → ShowsSame new (after_say (replay_text inst opening script) old)
    said_whole n old new e s = subst (λ xs. ShowsSame new (after_say xs old))
        (ap (key_lines 0) (take_all n (keys_of inst opening script) (omega (arith, keys_many)))) s

-- all of the text was said before a line failed
pub says_before : (line : ScriptLine) (n : ℕ) (text : List ℕ) (old new : Shown) → ShowsSame new (after_say text old)
    → SaysKeys (Err (line_fault line n)) text old new
says_before (Move i s) n text old new h = h
says_before (Swap i j) n text old new h = h
says_before Undo n text old new h = h

-- an answer has one fault
pub one_answer : (r : Result ⊤ ReplayFault) (told found fault given : ReplayFault) → r ≡ Err told → told ≡ found
    → found ≡ fault → r ≡ Err given → fault ≡ given
one_answer r told found fault given a b c d = cc
