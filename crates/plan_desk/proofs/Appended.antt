-- A piece that is written or said part by part.
use Rattle.std.proofs.Common.{◌≡◌, ℕ, ◌+◌, ◌-◌, Bool, true, false, List, [], ◌++◌, length, take, drop, refl, sym, ◌∙◌}
use Rattle.std.proofs.Common.{ap, arith, append_assoc, length-drop, subst}
use Rattle.std.specs.Prelude.{Option, Some, None, option_map, if◌then◌else◌, ◌&&◌, bytes_eq}
use Rattle.std.proofs.lemmas.Slice.Eq.{bytes_eq-Decides}
use Rattle.std.proofs.lemmas.List.{take_all, append-nil}
use Rattle.plan_desk.specs.Desk.{Shown, Input, Output, ShowsSame, put_at, append_at, output_after_write}
use Rattle.plan_desk.specs.Desk.{input_after_write, after_write, after_say, same_name}
use Rattle.plan_desk.proofs.Unread.{take-plus}

-- `&xs[i..]` is what is left
rest_is : (i : ℕ) (xs : List ℕ) → take (length xs - i) (drop i xs) ≡ drop i xs
rest_is i xs = take_all _ _ (omega (arith, length-drop i xs))

eq_refl : (name : List ℕ) → bytes_eq name name ≡ true
eq_refl name = (bytes_eq-Decides name name).1 refl

put_at-same : {A : Type 0} (name : List ℕ) (v : A) (files : List ℕ → A) → put_at name v files name ≡ v
put_at-same name v files = ap (λ (b : Bool). if b then v else files name) (eq_refl name)

put_at-twice : {A : Type 0} (name : List ℕ) (u v : A) (files : List ℕ → A)
    → put_at name v (put_at name u files) ≡ put_at name v files
put_at-twice {A = A} name u v files = λ i other. go (bytes_eq other name) (files other) i
  where
    go : (b : Bool) (x : A) → (if b then v else (if b then u else x)) ≡ (if b then v else x)
    go true x = refl
    go false x = refl

put_at-own : {A : Type 0} (name : List ℕ) (files : List ℕ → A) → put_at name (files name) files ≡ files
put_at-own {A = A} name files = λ i other. go other (bytes_eq other name) refl i
  where
    go : (other : List ℕ) (b : Bool) → bytes_eq other name ≡ b → (if b then files name else files other) ≡ files other
    go other true e = ap files (sym ((bytes_eq-Decides other name).0 e))
    go other false e = refl

more : (a b : List ℕ) (o : Option (List ℕ)) → option_map (λ xs. xs ++ b) (option_map (λ xs. xs ++ a) o)
    ≡ option_map (λ xs. xs ++ (a ++ b)) o
more a b None = refl
more a b (Some xs) = ap (λ (l : List ℕ). Some l) (append_assoc xs a b)

no_more : (o : Option (List ℕ)) → option_map (λ xs. xs ++ []) o ≡ o
no_more None = refl
no_more (Some xs) = ap (λ (l : List ℕ). Some l) (append-nil xs)

append_at-more : (name : Option (List ℕ)) (a b : List ℕ) (files : List ℕ → Option (List ℕ))
    → append_at name b (append_at name a files) ≡ append_at name (a ++ b) files
append_at-more None a b files = refl
append_at-more (Some name) a b files =
    let first = option_map (λ xs. xs ++ a) (files name) in
    ap (λ (v : Option (List ℕ)). put_at name (option_map (λ xs. xs ++ b) v) (put_at name first files))
    (put_at-same name first files)
    ∙ put_at-twice name first (option_map (λ xs. xs ++ b) first) files
    ∙ ap (λ (v : Option (List ℕ)). put_at name v files) (more a b (files name))

append_at-none : (name : Option (List ℕ)) (files : List ℕ → Option (List ℕ)) → append_at name [] files ≡ files
append_at-none None files = refl
append_at-none (Some name) files =
    ap (λ (v : Option (List ℕ)). put_at name v files) (no_more (files name)) ∙ put_at-own name files

-- what is done twice to what is told is done once
twice : {F : Type 0} (f g h : F → F) → ((x : F) → g (f x) ≡ h x) → (o : Option F)
    → option_map g (option_map f o) ≡ option_map h o
twice f g h e None = refl
twice f g h e (Some x) = ap (λ y. Some y) (e x)

same : {F : Type 0} (f : F → F) → ((x : F) → f x ≡ x) → (o : Option F) → option_map f o ≡ o
same f e None = refl
same f e (Some x) = ap (λ y. Some y) (e x)

output-more : (a b : List ℕ) (o : Output)
    → output_after_write b (output_after_write a o) ≡ output_after_write (a ++ b) o
output-more a b o = λ j. record o {
  holds =
      twice (append_at o.name a) (append_at o.name b) (append_at o.name (a ++ b)) (append_at-more o.name a b) o.holds j;
  written =
      twice (append_at o.name a) (append_at o.name b) (append_at o.name (a ++ b))
      (append_at-more o.name a b) o.written j;
}

pub output-none : (o : Output) → o ≡ output_after_write [] o
output-none o = λ j. record o {
  holds = sym (same (append_at o.name []) (append_at-none o.name) o.holds) j;
  written = sym (same (append_at o.name []) (append_at-none o.name) o.written) j;
}

input-more : (a b : List ℕ) (o : Output) (i : Input)
    → input_after_write b (output_after_write a o) (input_after_write a o i) ≡ input_after_write (a ++ b) o i
input-more a b o i = λ j. record i { unread = go (i.taken && same_name i.name o.name) i.unread j }
  where
    go : (t : Bool) (u : Option (List ℕ))
        → (if t then option_map (λ xs. xs ++ b) (if t then option_map (λ xs. xs ++ a) u else u)
        else (if t then option_map (λ xs. xs ++ a) u else u)) ≡ (if t then option_map (λ xs. xs ++ (a ++ b)) u else u)
    go true u = more a b u
    go false u = refl

pub input-none : (o : Output) (i : Input) → i ≡ input_after_write [] o i
input-none o i = λ j. record i { unread = go (i.taken && same_name i.name o.name) i.unread j }
  where
    go : (t : Bool) (u : Option (List ℕ)) → u ≡ (if t then option_map (λ xs. xs ++ []) u else u)
    go true u = sym (no_more u)
    go false u = refl

-- nothing was written
pub write_none : (s : Shown) → ShowsSame s (after_write [] s)
write_none s = record { input = input-none s.output s.input; output = output-none s.output; said = refl }

-- one piece was written, and then another
pub write_more : (a b : List ℕ) (old mid new : Shown) → ShowsSame mid (after_write a old)
    → ShowsSame new (after_write b mid) → ShowsSame new (after_write (a ++ b) old)
write_more a b old mid new e f = record {
  input = f.input ∙ (λ j. input_after_write b (e.output j) (e.input j)) ∙ input-more a b old.output old.input;
  output = f.output ∙ ap (output_after_write b) e.output ∙ output-more a b old.output;
  said = f.said ∙ e.said;
}

-- nothing was said
pub say_none : (s : Shown) → ShowsSame s (after_say [] s)
say_none s = record { input = refl; output = refl; said = sym (no_more s.said) }

-- one piece was said, and then another
pub say_more : (a b : List ℕ) (old mid new : Shown) → ShowsSame mid (after_say a old) → ShowsSame new (after_say b mid)
    → ShowsSame new (after_say (a ++ b) old)
say_more a b old mid new e f = record {
  input = f.input ∙ e.input;
  output = f.output ∙ e.output;
  said = f.said ∙ ap (option_map (λ xs. xs ++ b)) e.said ∙ more a b old.said;
}

-- the first i bytes of a piece, and then the first k of what is left
module _ (bs : List ℕ) (i k : ℕ) where
  joined : take i bs ++ take k (take (length bs - i) (drop i bs)) ≡ take (i + k) bs
  joined = ap (λ (l : List ℕ). take i bs ++ take k l) (rest_is i bs) ∙ sym (take-plus i k bs)

  pub write_on : (old mid new : Shown) → ShowsSame mid (after_write (take i bs) old)
      → ShowsSame new (after_write (take k (take (length bs - i) (drop i bs))) mid)
      → ShowsSame new (after_write (take (i + k) bs) old)
  write_on old mid new e f = subst (λ (l : List ℕ). ShowsSame new (after_write l old)) joined
      (write_more (take i bs) (take k (take (length bs - i) (drop i bs))) old mid new e f)

  pub say_on : (old mid new : Shown) → ShowsSame mid (after_say (take i bs) old)
      → ShowsSame new (after_say (take k (take (length bs - i) (drop i bs))) mid)
      → ShowsSame new (after_say (take (i + k) bs) old)
  say_on old mid new e f = subst (λ (l : List ℕ). ShowsSame new (after_say l old)) joined
      (say_more (take i bs) (take k (take (length bs - i) (drop i bs))) old mid new e f)
