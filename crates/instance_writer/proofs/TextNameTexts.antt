-- Names that are told one after another to be UTF-8.
use Rattle.std.proofs.Common.{◌≡◌, ◌≢◌, ℕ, zero, suc, ◌+◌, ◌<◌, ◌≤◌, List, [], ◌∷◌, length, get_or, take, Some}
use Rattle.std.proofs.Common.{sym, subst, arith, All}
use Rattle.std.specs.Prelude.{slice_get}
use Rattle.std.specs.Str.{IsUtf8}
use Rattle.std.proofs.lemmas.List.{take_all}
use Rattle.std.proofs.lemmas.List.Elements.{All-more, All-weaker}
use Rattle.json_grammar.specs.laws.Spellable.{IsSpellableText}
use Rattle.instance_model.specs.Fitting.{AreNames}

got : (names : List (List ℕ)) (i : ℕ) (x : List ℕ) → slice_get names i ≡ Some x
    → (i < length names) × (get_or names i [] ≡ x)
got [] i x e = absurd cc
got (n ∷ names) zero x e = (omega arith, cc)
got (n ∷ names) (suc i) x e = let g = got names i x e in (omega (arith, g), g.1)

-- one name more
pub one_more : (names : List (List ℕ)) (i : ℕ) (x : List ℕ) → All IsUtf8 (take i names) → slice_get names i ≡ Some x
    → IsUtf8 x → All IsUtf8 (take (i + 1) names)
one_more names i x a e u =
    let g = got names i x e in
    All-more IsUtf8 names i [] g.0 a (subst IsUtf8 (sym g.1) u)

-- all of them
pub all_told : (names : List (List ℕ)) (n : ℕ) → length names ≤ n → All IsUtf8 (take n names) → All IsUtf8 names
all_told names n l a = subst (λ (xs : List (List ℕ)). All IsUtf8 xs) (take_all n names l) a

-- names that are UTF-8 are spelled
pub spelled : (limit : ℕ) (names : List (List ℕ)) → AreNames limit names → All IsUtf8 names
    → All IsSpellableText names
spelled limit names a u = λ k d l.
    let name = a.shaped k d l in
    record {
      utf8 = u k d l;
      printable = All-weaker (λ b. (32 < b) × (b ≢ 127)) (λ b. 32 ≤ b) (λ b p. omega (arith, p)) (get_or names k d)
          name.printed;
    }
