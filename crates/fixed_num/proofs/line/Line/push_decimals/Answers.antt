use Rattle.std.proofs.Common.{◌≡◌, ◌≤◌, ◌++◌, ◌-◌, List, ℕ, length, take, ◌∙◌, sym, ap, subst, arith, length-append}
use Rattle.std.proofs.Common.{append_assoc, length-take-le}
use Rattle.std.specs.Prelude.{decimal, replicate}
use Rattle.std.proofs.lemmas.List.{take-replicate}
use Rattle.fixed_num.proofs.TextLemmas.{length-decimal}
use Rattle.fixed_num.proofs.line.Line.push_decimals.Goals as goal

pub slice_bounds-push-count : goal.slice_bounds-push-count
slice_bounds-push-count c =
    let text : c.as_bytes-digits.result.now ≡ decimal c.args.n =
    c.as_bytes-digits.ensures.value ∙ c.format.ensures.text in
    subst (λ (digits : List ℕ). length digits ≤ 12) (sym text) (length-decimal c.args.n c.requires.fits)

pub push-requires-2 : goal.push-requires-2
push-requires-2 c =
    let text : c.as_bytes-digits.result.now ≡ decimal c.args.n =
    c.as_bytes-digits.ensures.value ∙ c.format.ensures.text in
    let short : length c.as_bytes-digits.result.now ≤ 12 =
    subst (λ (digits : List ℕ). length digits ≤ 12) (sym text) (length-decimal c.args.n c.requires.fits) in
    let zeros = length-take-le {A = ℕ} (12 - length c.as_bytes-digits.result.now) (replicate 12 48) in
    omega (
      arith,
      short,
      zeros,
      c.requires.room,
      ap length c.push.ensures,
      length-append c.args.self.now (take (12 - length c.as_bytes-digits.result.now) (replicate 12 48)),
    )

pub returns : goal.returns
returns c =
    let front : List ℕ = c.args.self.now in
    let text : c.as_bytes-digits.result.now ≡ decimal c.args.n =
    c.as_bytes-digits.ensures.value ∙ c.format.ensures.text in
    let zeros : ℕ = 12 - length (decimal c.args.n) in
    c.push-2.ensures ∙ ap (λ (l : List ℕ). l ++ c.as_bytes-digits.result.now) c.push.ensures
    ∙ ap (λ (digits : List ℕ). (front ++ take (12 - length digits) (replicate 12 48)) ++ digits) text
    ∙ ap (λ (l : List ℕ). (front ++ l) ++ decimal c.args.n) (take-replicate zeros 12 48 (omega arith))
    ∙ append_assoc front (replicate zeros 48) (decimal c.args.n)
