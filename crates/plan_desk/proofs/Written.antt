-- A text that is written, or said, by several calls.
use Rattle.std.proofs.Common.{◌≡◌, ℕ, ◌+◌, ◌<◌, List, [], ◌∷◌, ◌++◌, length, take, drop, get_or, Option, Some}
use Rattle.std.proofs.Common.{None, Result, Ok, Err, IsErr, true≢false, refl, sym, ◌∙◌, ap, subst, arith}
use Rattle.std.specs.List.{flat_map}
use Rattle.std.specs.Prelude.{IfSome}
use Rattle.std.proofs.lemmas.List.{append-nil, take-append-le, length-append, take_more, take-append-drop, drop_more}
use Rattle.std.proofs.lemmas.Grind.{flat_map-append}
use Rattle.std.proofs.Math.Seq.{take-append-add}
use Rattle.plan_desk.specs.declared.call.Failed.{Failed}
use Rattle.plan_desk.specs.Desk.{Shown, Fault, ShowsSame}
use Rattle.plan_desk.specs.Written.{Way, after_text, IsFaultIn, PutsText, HasPut}
use Rattle.plan_desk.specs.Written.Way.{writing, saying}
use Rattle.plan_desk.proofs.Appended.{write_none, write_more, say_none, say_more}
use Rattle.plan_desk.proofs.Composed.{fails_since}

none : (way : Way) (s : Shown) → ShowsSame s (after_text way [] s)
none writing s = write_none s
none saying s = say_none s

more : (way : Way) (a b : List ℕ) (old mid new : Shown) → ShowsSame mid (after_text way a old)
    → ShowsSame new (after_text way b mid) → ShowsSame new (after_text way (a ++ b) old)
more writing a b old mid new first next = write_more a b old mid new first next
more saying a b old mid new first next = say_more a b old mid new first next

-- the faults are told at the same name before and after
kept : (way : Way) (text : List ℕ) (old mid : Shown) → ShowsSame mid (after_text way text old) → (fault : Fault)
    → IsFaultIn way mid fault → IsFaultIn way old fault
kept writing text old mid shows fault own = (own.0, ap (λ o. o.name) (sym shows.output) ∙ own.1)
kept saying text old mid shows fault own = own

told_own : (o : Option Fault) (P Q : Fault → Type 0) → ((fault : Fault) → P fault → Q fault) → IfSome o P → IfSome o Q
told_own None P Q weaker h = h
told_own (Some fault) P Q weaker h = weaker fault h

module _ (way : Way) where
  -- nothing went out
  pub begins : (s : Shown) → HasPut way [] s s
  begins s = record { shows = none way s; same = refl }

  -- a call put a text out
  pub put : {T : Type 0} {text : List ℕ} {old new : Shown} {x : T} → PutsText way text old new (Ok x)
      → HasPut way text old new
  put puts = record { shows = puts.ok; same = puts.faults.same }

  -- one text went out, and then another
  pub joins : {a b : List ℕ} {old mid new : Shown} → HasPut way a old mid → HasPut way b mid new
      → HasPut way (a ++ b) old new
  joins {a = a} {b = b} {old = old} {mid = mid} {new = new} first next = record {
    shows = more way a b old mid new first.shows next.shows;
    same = next.same ∙ first.same;
  }

  -- the whole text went out
  pub ends : {T : Type 0} {text : List ℕ} {old new : Shown} (x : T) → HasPut way text old new
      → PutsText way text old new (Ok x)
  ends x whole = record {
    ok = whole.shows;
    err = tt;
    faults = record { same = whole.same; fails = tt };
  }

  -- a last call puts out what is left of the text, or fails
  pub last : {T : Type 0} {a b : List ℕ} {old mid new : Shown} (r : Result T Failed) → HasPut way a old mid
      → PutsText way b mid new r → PutsText way (a ++ b) old new r
  last (Ok x) first puts = ends x (joins first (put puts))
  last {a = a} {b = b} {old = old} {mid = mid} {new = new} (Err e) first puts = record {
    ok = tt;
    err = (
      length a + puts.err.0,
      omega (arith, length-append a b, puts.err.1),
      subst (λ xs. ShowsSame new (after_text way xs old)) (sym (take-append-add a b puts.err.0))
          (more way a (take puts.err.0 b) old mid new first.shows puts.err.2),
    );
    faults = record {
      same = tt;
      fails = fails_since old mid new first.same (record {
        one = puts.faults.fails.one;
        own = told_own new.faults.last (IsFaultIn way mid) (IsFaultIn way old) (kept way a old mid first.shows)
            puts.faults.fails.own;
      });
    };
  }

  -- a call failed, and more of the text was to follow
  pub cut : {T U : Type 0} {e : Failed} {a : List ℕ} {old new : Shown} (r : Result T Failed) → IsErr r → (b : List ℕ)
      → PutsText {T = U} way a old new (Err e) → PutsText way (a ++ b) old new r
  cut (Ok x) is b puts = absurd (true≢false (sym is))
  cut {a = a} {old = old} {new = new} (Err f) is b puts = record {
    ok = tt;
    err = (
      puts.err.0,
      omega (arith, length-append a b, puts.err.1),
      subst (λ xs. ShowsSame new (after_text way xs old))
          (sym (take-append-le puts.err.0 a b (omega (arith, puts.err.1)))) puts.err.2,
    );
    faults = record { same = tt; fails = puts.faults.fails };
  }

  -- the same after a first text
  pub stops : {T U : Type 0} {e : Failed} {a b : List ℕ} {old mid new : Shown} (r : Result T Failed) → IsErr r
      → HasPut way a old mid → (c : List ℕ) → PutsText {T = U} way b mid new (Err e)
      → PutsText way (a ++ (b ++ c)) old new r
  stops r is first c puts = last r first (cut r is c puts)

  -- the same where the text is written in another way
  pub respelled : {T : Type 0} {a b : List ℕ} {old new : Shown} {r : Result T Failed} → a ≡ b → PutsText way a old new r
      → PutsText way b old new r
  respelled {old = old} {new = new} {r = r} e puts = subst (λ text. PutsText way text old new r) e puts

  -- a call put out what follows a first text
  pub grows : {T : Type 0} {x : T} {a b text : List ℕ} {old mid new : Shown} → text ≡ a ++ b → HasPut way a old mid
      → PutsText way b mid new (Ok x) → HasPut way text old new
  grows {old = old} {new = new} e first puts = subst (λ l. HasPut way l old new) (sym e) (joins first (put puts))

  -- a call failed behind a first text
  pub fails : {T U : Type 0} {e : Failed} {a b text : List ℕ} {old mid new : Shown} (r : Result T Failed) → IsErr r
      → (rest : List ℕ) → text ≡ a ++ (b ++ rest) → HasPut way a old mid → PutsText {T = U} way b mid new (Err e)
      → PutsText way text old new r
  fails r is rest e first puts = respelled (sym e) (stops r is first rest puts)

  -- texts that are listed, one for each element
  module _ {X : Type 0} (f : X → List ℕ) (xs : List X) (n : ℕ) (d : X) (low : n < length xs) where
    one_more : flat_map f (take (n + 1) xs) ≡ flat_map f (take n xs) ++ f (get_or xs n d)
    one_more =
        ap (flat_map f) (take_more xs n d low)
        ∙ flat_map-append f (take n xs) (get_or xs n d ∷ [])
        ∙ ap (λ l. flat_map f (take n xs) ++ l) (append-nil (f (get_or xs n d)))

    all_of : flat_map f xs ≡ flat_map f (take n xs) ++ (f (get_or xs n d) ++ flat_map f (drop (n + 1) xs))
    all_of =
        ap (flat_map f) (sym (take-append-drop n xs))
        ∙ flat_map-append f (take n xs) (drop n xs)
        ∙ ap (λ l. flat_map f (take n xs) ++ flat_map f l) (drop_more xs n d low)

    -- one more went out
    pub next : {T : Type 0} {x : T} {old mid new : Shown} → HasPut way (flat_map f (take n xs)) old mid
        → PutsText way (f (get_or xs n d)) mid new (Ok x) → HasPut way (flat_map f (take (n + 1) xs)) old new
    next front puts = grows one_more front puts

    -- a call failed at one of them
    pub stops_at : {T U : Type 0} {e : Failed} {old mid new : Shown} (r : Result T Failed) → IsErr r
        → HasPut way (flat_map f (take n xs)) old mid → PutsText {T = U} way (f (get_or xs n d)) mid new (Err e)
        → PutsText way (flat_map f xs) old new r
    stops_at r is front puts = fails r is (flat_map f (drop (n + 1) xs)) all_of front puts
