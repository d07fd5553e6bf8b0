-- A fault before the end of a stream stays its fault, whatever follows.
use Rattle.std.proofs.Common.{ℕ, suc, ◌≤◌, ◌<◌, List, ◌++◌, length, sym, subst, length-append, arith}
use Rattle.std.proofs.lemmas.List.{take-append-le}
use Rattle.json_grammar.specs.Grammar.{IsText}
use Rattle.json_grammar.specs.Prefix.{IsPrefix, IsSyntaxFault, IsDepthFault, IsShallow}

pub syntax_stays : (stream more : List ℕ) (at : ℕ) → at < length stream → IsSyntaxFault stream at
    → IsSyntaxFault (stream ++ more) at
syntax_stays stream more at i f = record {
  within = omega (arith, length-append stream more);
  sound = subst IsPrefix (sym (take-append-le at stream more f.within)) f.sound;
  stuck = λ _ p. f.stuck i (subst IsPrefix (take-append-le (suc at) stream more (omega arith)) p);
  ended = λ e. absurd (omega (arith, length-append stream more));
}

pub shallow_stays : (stream more : List ℕ) (at : ℕ) → at ≤ length stream → IsShallow stream at
    → IsShallow (stream ++ more) at
shallow_stays stream more at i f rest t h d e =
    f rest t (subst (λ z. IsText (z ++ rest) t) (take-append-le at stream more i) h) d e

pub depth_stays : (stream more : List ℕ) (at : ℕ) → IsDepthFault stream at → IsDepthFault (stream ++ more) at
depth_stays stream more at f =
    let i = f.within in
    record {
      within = omega (arith, length-append stream more);
      sound = subst IsPrefix (sym (take-append-le (suc at) stream more (omega arith))) f.sound;
      opens = λ rest t h. f.opens rest t
          (subst (λ z. IsText (z ++ rest) t) (take-append-le (suc at) stream more (omega arith)) h);
    }
