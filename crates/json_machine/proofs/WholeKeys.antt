-- Keys that stand whole in a buffer are what the machine reads of their bytes.
use Rattle.std.specs.Prelude.{◌⊎◌}
use Rattle.std.specs.List.{prefix_len}
use Rattle.std.proofs.Common.{◌≡◌, ℕ, suc, ◌+◌, ◌<◌, List, [], ◌∷◌, length, take, drop, get_or, Bool, Some, true, inl}
use Rattle.std.proofs.Common.{inr, refl, sym, ◌∙◌, ap, arith}
use Rattle.std.proofs.Math.Seq.{drop-cons}
use Rattle.json_grammar.specs.Tree.{key}
use Rattle.json_grammar.specs.laws.Machine.{State, st, Mode, first_key, next_key, colon, string, plain, is_plain, step}
use Rattle.json_grammar.specs.laws.Machine.{go}
use Rattle.json_grammar.specs.laws.Machine.{tell, run, run_then}
use Rattle.json_machine.specs.Machines.{mode_of}
use Rattle.json_machine.specs.NumberRuns.{TakesNumber}
use Rattle.json_machine.specs.declared.machine.Mode as modes
use Rattle.json_machine.specs.declared.machine.Mode.TheVariants.{FirstKey, NextKey}
use Rattle.json_machine.proofs.Runs.{plain_taken}

-- where a key may come
pub key_mode : (mode : modes.Mode) (at : ℕ) (token : List ℕ) → (mode ≡ FirstKey) ⊎ (mode ≡ NextKey)
    → (mode_of mode at token ≡ first_key) ⊎ (mode_of mode at token ≡ next_key)
key_mode mode at token (inl e) = inl (ap (λ m. mode_of m at token) e)
key_mode mode at token (inr e) = inr (ap (λ m. mode_of m at token) e)

-- the quote that begins a key
quote_goes : (k : ℕ) (levels : List Bool) (mode : Mode) → (mode ≡ first_key) ⊎ (mode ≡ next_key)
    → step k levels mode 34 ≡ go levels (string true k [] plain)
unfolding step
quote_goes k levels mode (inl e) = rw e refl
quote_goes k levels mode (inr e) = rw e refl

-- and the one that ends it
quote_ends : (k at : ℕ) (levels : List Bool) (text : List ℕ)
    → step k levels (string true at text plain) 34 ≡ tell levels colon (key at (suc k) text)
unfolding step
quote_ends k at levels text = refl

pub key_taken : (k n : ℕ) (levels : List Bool) (mode : Mode) (bytes text : List ℕ) (end : ℕ)
    → (mode ≡ first_key) ⊎ (mode ≡ next_key) → get_or bytes 0 0 ≡ 34 → n ≡ prefix_len is_plain (drop 1 bytes)
    → 1 + n < length bytes → get_or bytes (1 + n) 0 ≡ 34 → text ≡ take n (drop 1 bytes) → end ≡ k + (n + 2)
    → TakesNumber k (st levels mode) bytes (1 + n) (key k end text) (st levels colon)
key_taken k n levels mode bytes text end m f p l q t e =
    let rest = drop 1 bytes in
    let whole : bytes ≡ 34 ∷ rest = drop-cons bytes 0 0 (omega arith) ∙ ap (λ b. b ∷ rest) f in
    let count : 1 + n ≡ suc n = omega arith in
    let inside : run (suc k) (st levels (string true k [] plain)) (take n rest)
    ≡ Some (st levels (string true k text plain), []) =
    ap (λ i. run (suc k) (st levels (string true k [] plain)) (take i rest)) p
    ∙ plain_taken (suc k) k levels true [] rest
    ∙ ap (λ z. let s : State = st levels (string true k z plain) in Some (s, []))
    (ap (λ i. take i rest) (sym p) ∙ sym t) in
    record {
      inside = st levels (string true k text plain);
      runs = ap (λ (bs : List ℕ). run k (st levels mode) (take (1 + n) bs)) whole
          ∙ ap (λ i. run k (st levels mode) (take i (34 ∷ rest))) count
          ∙ ap (run_then (λ s. run (suc k) s (take n rest))) (quote_goes k levels mode m)
          ∙ ap (λ r. r) (rw inside refl);
      within = l;
      tells = ap (step (k + (1 + n)) levels (string true k text plain)) q
          ∙ quote_ends (k + (1 + n)) k levels text
          ∙ ap (λ i. tell levels colon (key k i text)) (omega (arith, e));
      same_levels = refl;
    }
