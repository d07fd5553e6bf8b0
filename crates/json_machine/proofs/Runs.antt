-- A run of bytes that only lengthen a token does what its bytes do one by one.
use Rattle.std.specs.Prelude.{◌==◌}
use Rattle.std.specs.List.{prefix_len}
use Rattle.std.proofs.Common.{◌≡◌, ℕ, suc, ◌+◌, ◌≤◌, List, [], ◌∷◌, ◌++◌, length, take, Bool, true, false, cond, Some}
use Rattle.std.proofs.Common.{Result, Ok, Err, IfOk, OnOk, refl, sym, ◌∙◌, ap, append_assoc, append-nil, arith}
use Rattle.std.proofs.lemmas.List.{length-take-le}
use Rattle.std.specs.declared.alloc.AllocError.{AllocError}
use Rattle.std.proofs.lemmas.Bool.Decides.{nat_tests}
use Rattle.json_machine.specs.Views.{phase_of, within_of}
use Rattle.json_machine.specs.Machines.{levels_of, mode_of, state_of, ModeHolds, HasEmptyToken, IsNear}
use Rattle.json_machine.specs.declared.phase.Phase as rust
use Rattle.json_machine.specs.declared.within.Within.{Within}
use Rattle.json_machine.specs.declared.literal_token.Begun.{Begun}
use Rattle.json_machine.specs.declared.machine.Mode as modes
use Rattle.json_machine.specs.declared.machine.Mode.TheVariants.{Want, First, FirstKey, NextKey, Colon, After, Literal}
use Rattle.json_machine.specs.declared.machine.Mode.TheVariants.{Number, Str}
use Rattle.json_machine.specs.declared.machine.Machine.{Machine}
use Rattle.json_grammar.specs.Token.{digit_count}
use Rattle.json_grammar.specs.laws.Machine as machine
use Rattle.json_grammar.proofs.LawsForward.{Waits, in_want, in_first, in_first_key, in_next_key, in_colon, in_after}
use Rattle.json_grammar.proofs.LawsForward.{waits}
use Rattle.json_grammar.specs.laws.Machine.{may_close, is_blank, st, Mode, Phase, number, string, plain, step}
use Rattle.json_grammar.specs.laws.Machine.{inside_step, go}
use Rattle.json_grammar.specs.laws.Machine.{run, phase_step, is_within_digits, is_digit, is_plain}

-- one byte after another, where each lengthens the token
lengthened : (test : ℕ → Bool) (mode : List ℕ → Mode) (levels : List Bool)
    → ((k b : ℕ) (token : List ℕ) → test b ≡ true → step k levels (mode token) b ≡ go levels (mode (token ++ b ∷ [])))
    → (bs : List ℕ) (k : ℕ) (token : List ℕ) → run k (st levels (mode token)) (take (prefix_len test bs) bs)
    ≡ Some (st levels (mode (token ++ take (prefix_len test bs) bs)), [])
lengthened test mode levels goes [] k token = ap (λ z. Some (st levels (mode z), [])) (sym (append-nil token))
lengthened test mode levels goes (b ∷ bs) k token =
    by_test (test b) (lengthened test mode levels goes bs (suc k) (token ++ b ∷ [])) refl
  where
    by_test : (t : Bool) → run (suc k) (st levels (mode (token ++ b ∷ []))) (take (prefix_len test bs) bs)
        ≡ Some (st levels (mode ((token ++ b ∷ []) ++ take (prefix_len test bs) bs)), []) → test b ≡ t
        → run k (st levels (mode token)) (take (cond t (1 + prefix_len test bs) 0) (b ∷ bs))
        ≡ Some (st levels (mode (token ++ take (cond t (1 + prefix_len test bs) 0) (b ∷ bs))), [])
    by_test true rest h =
        let next : 1 + prefix_len test bs ≡ suc (prefix_len test bs) = omega arith in
        rw (next, goes k b token h, rest)
        (ap (λ z. Some (st levels (mode z), [])) (append_assoc token (b ∷ []) (take (prefix_len test bs) bs)))
    by_test false rest h = ap (λ z. Some (st levels (mode z), [])) (sym (append-nil token))

digit_stays : (p : Phase) (b : ℕ) → is_within_digits p ≡ true → is_digit b ≡ true → phase_step p b ≡ Some p
unfolding phase_step
digit_stays Phase.minus b h e = cc
digit_stays Phase.lone_zero b h e = cc
digit_stays Phase.whole b h e = rw e refl
digit_stays Phase.point b h e = cc
digit_stays Phase.fraction b h e = rw e refl
digit_stays Phase.mark b h e = cc
digit_stays Phase.sign b h e = cc
digit_stays Phase.exponent b h e = rw e refl

digit_goes : (k b at : ℕ) (levels : List Bool) (token : List ℕ) (p : Phase) → is_within_digits p ≡ true
    → is_digit b ≡ true → step k levels (number at token p) b ≡ go levels (number at (token ++ b ∷ []) p)
unfolding step
digit_goes k b at levels token p h e = rw (digit_stays p b h e) refl

count_is : (bs : List ℕ) → digit_count bs ≡ prefix_len is_digit bs
count_is [] = refl
count_is (b ∷ bs) = ap (λ z. cond (is_digit b) z 0) (ap suc (count_is bs) ∙ omega arith)

pub digits_taken : (k at : ℕ) (levels : List Bool) (token : List ℕ) (p : Phase) (bs : List ℕ)
    → is_within_digits p ≡ true → run k (st levels (number at token p)) (take (digit_count bs) bs)
    ≡ Some (st levels (number at (token ++ take (digit_count bs) bs) p), [])
digits_taken k at levels token p bs h = rw (count_is bs)
    (lengthened is_digit (λ z. number at z p) levels (λ j b t e. digit_goes j b at levels t p h e) bs k token)

no_quote : (b : ℕ) → is_plain b ≡ true → (b == 34) ≡ false
no_quote b h = grind (arith, nat_tests)

pub plain_goes : (k b at : ℕ) (levels : List Bool) (is_key : Bool) (text : List ℕ) → is_plain b ≡ true
    → step k levels (string is_key at text plain) b ≡ go levels (string is_key at (text ++ b ∷ []) plain)
unfolding step inside_step
plain_goes k b at levels is_key text h = rw h (rw (no_quote b h) refl)

pub plain_taken : (k at : ℕ) (levels : List Bool) (is_key : Bool) (text bs : List ℕ)
    → run k (st levels (string is_key at text plain)) (take (prefix_len is_plain bs) bs)
    ≡ Some (st levels (string is_key at (text ++ take (prefix_len is_plain bs) bs) plain), [])
plain_taken k at levels is_key text bs = lengthened is_plain (λ z. string is_key at z plain) levels
    (λ j b t e. plain_goes j b at levels is_key t e) bs k text

-- the bytes in front by which a token grows
takes : (old new : Machine) (r : Result ℕ AllocError) (bytes : List ℕ) (n : ℕ)
    → ((k : ℕ) (token : List ℕ) → token ≡ old.token.items ++ take n bytes
    → run k (state_of old) (take n bytes) ≡ Some (st (levels_of old.levels.items) (mode_of old.mode old.at token), []))
    → n ≤ length bytes → IfOk r (λ i. i ≡ length (take n bytes))
    → OnOk r (new.token.items ≡ old.token.items ++ take n bytes) → new.levels ≡ old.levels → new.mode ≡ old.mode
    → new.at ≡ old.at → IfOk r (λ i. (k : ℕ) → run k (state_of old) (take i bytes) ≡ Some (state_of new, []))
takes old new (Err e) bytes n h i c t l m a = tt
takes old new (Ok j) bytes n h i c t l m a = λ k.
    let len : j ≡ n = c ∙ length-take-le n bytes i in
    rw len (h k new.token.items t ∙ rw (l, m, a) refl)

pub number_taken : (old new : Machine) (r : Result ℕ AllocError) (bytes : List ℕ) (phase : rust.Phase) (n : ℕ)
    → old.mode ≡ Number phase → is_within_digits (phase_of phase) ≡ true → n ≡ digit_count bytes → n ≤ length bytes
    → IfOk r (λ i. i ≡ length (take n bytes)) → OnOk r (new.token.items ≡ old.token.items ++ take n bytes)
    → new.levels ≡ old.levels → new.mode ≡ old.mode → new.at ≡ old.at
    → IfOk r (λ i. (k : ℕ) → run k (state_of old) (take i bytes) ≡ Some (state_of new, []))
number_taken old new r bytes phase n s p d i c t l m a =
    takes old new r bytes n
    (λ k token e. rw (s, e, d)
    (digits_taken k old.at (levels_of old.levels.items) old.token.items (phase_of phase) bytes p))
    i c t l m a

closing : (within : machine.Within) → may_close within ≡ true → within ≡ plain
closing plain e = refl
closing _ e = absurd cc

pub string_taken : (old new : Machine) (r : Result ℕ AllocError) (bytes : List ℕ) (is_key : Bool) (within : Within)
    (n : ℕ) → old.mode ≡ Str is_key within → may_close (within_of within) ≡ true → n ≡ prefix_len is_plain bytes
    → n ≤ length bytes → IfOk r (λ i. i ≡ length (take n bytes))
    → OnOk r (new.token.items ≡ old.token.items ++ take n bytes) → new.levels ≡ old.levels → new.mode ≡ old.mode
    → new.at ≡ old.at → IfOk r (λ i. (k : ℕ) → run k (state_of old) (take i bytes) ≡ Some (state_of new, []))
string_taken old new r bytes is_key within n s p d i c t l m a =
    takes old new r bytes n
    (λ k token e. rw (s, closing (within_of within) p, e, d)
    (plain_taken k old.at (levels_of old.levels.items) is_key old.token.items bytes))
    i c t l m a

-- blanks where they change nothing
pub blanks_taken : {m : Mode} (k : ℕ) (levels : List Bool) (bs : List ℕ) → Waits m
    → run k (st levels m) (take (prefix_len is_blank bs) bs) ≡ Some (st levels m, [])
blanks_taken {m} k levels bs w = lengthened is_blank (λ _. m) levels (λ i b token t. waits b i levels w t) bs k []

-- outside tokens
pub between : (mode : modes.Mode) (at : ℕ) (token : List ℕ) → ((b : Begun) → mode ≡ Literal b → ⊥)
    → ((p : rust.Phase) → mode ≡ Number p → ⊥) → ((i : Bool) (w : Within) → mode ≡ Str i w → ⊥)
    → Waits (mode_of mode at token)
between Want at token l n s = in_want
between First at token l n s = in_first
between FirstKey at token l n s = in_first_key
between NextKey at token l n s = in_next_key
between Colon at token l n s = in_colon
between After at token l n s = in_after
between (Literal b) at token l n s = absurd (l b refl)
between (Number p) at token l n s = absurd (n p refl)
between (Str i w) at token l n s = absurd (s i w refl)

-- a machine that is sound before a byte is sound before a later one
near_later : (mode : modes.Mode) (k i at : ℕ) (token : List ℕ) → k ≤ i → IsNear k mode at token → IsNear i mode at token
near_later Want k i at token h n = tt
near_later First k i at token h n = tt
near_later FirstKey k i at token h n = tt
near_later NextKey k i at token h n = tt
near_later Colon k i at token h n = tt
near_later After k i at token h n = tt
near_later (Literal b) k i at token h n = omega arith
near_later (Number p) k i at token h n = omega arith
near_later (Str j w) k i at token h n = omega arith

pub still_sound : (mode : modes.Mode) (k i at : ℕ) (token : List ℕ) → k ≤ i → ModeHolds mode × HasEmptyToken mode token
    × IsNear k mode at token → ModeHolds mode × HasEmptyToken mode token × IsNear i mode at token
still_sound mode k i at token h s = (s.0, s.1, near_later mode k i at token h s.2)
