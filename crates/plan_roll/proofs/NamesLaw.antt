-- The names of what a text defines are UTF-8 without control bytes.
use Rattle.std.proofs.Common.{◌≢◌, ℕ, ◌<◌, ◌≤◌, arith, Bool, true, false, cond, List, [], ◌∷◌, ◌++◌, map}
use Rattle.std.proofs.Common.{Some, unwrap_or, bytes_eq, All}
use Rattle.std.specs.Str.{IsUtf8}
use Rattle.std.proofs.lemmas.List.Elements.{All-nil, All-cons, All-weaker}
use Rattle.json_grammar.specs.Tree.{Tree, tree, Node, Members, no_members, and_member, Event, events_of}
use Rattle.json_grammar.specs.Tree.{members_events}
use Rattle.json_grammar.specs.laws.Sound.{AreSound}
use Rattle.json_grammar.proofs.LawsOfTexts.{last_sound}
use Rattle.json_grammar.specs.laws.Spellable.{IsSpellableText}
use Rattle.instance_model.specs.Fitting.{IsName}
use Rattle.instance_shape.specs.declared.fault.Known.{Known}
use Rattle.instance_shape.specs.Keys.{text_of}
use Rattle.instance_shape.specs.LookUp.{entry_list, keys, first_value, known}

first_sound : (a b : List Event) → AreSound (a ++ b) → AreSound a
first_sound [] b h = tt
first_sound (e ∷ a) b h = (h.0, first_sound a b h.1)

-- ---- keys

member_keys : (ms : Members) → AreSound (members_events ms) → All IsUtf8 (map (λ e. e.key) (entry_list ms))
member_keys no_members h = All-nil IsUtf8
member_keys (and_member at end k t ms) h =
    All-cons IsUtf8 k (map (λ e. e.key) (entry_list ms)) h.0
    (member_keys ms (last_sound (events_of t) (members_events ms) h.1))

pub keys_utf8 : (t : Tree) → AreSound (events_of t) → All IsUtf8 (keys t)
keys_utf8 (tree at end (Node.object ms)) h = member_keys ms (first_sound (members_events ms) _ h.1)
keys_utf8 (tree at end _) h = All-nil IsUtf8

-- ---- the value under a key

found_sound : (p : List ℕ → Bool) (ms : Members) → AreSound (members_events ms)
    → AreSound (events_of (unwrap_or (first_value p (entry_list ms)) (tree 0 0 Node.null)))
found_sound p no_members h = (tt, tt)
found_sound p (and_member at end k t ms) h =
    by (p k) (found_sound p ms (last_sound (events_of t) (members_events ms) h.1))
  where
    by : (b : Bool) → AreSound (events_of (unwrap_or (first_value p (entry_list ms)) (tree 0 0 Node.null)))
        → AreSound (events_of (unwrap_or (cond b (Some t) (first_value p (entry_list ms))) (tree 0 0 Node.null)))
    by true r = first_sound (events_of t) (members_events ms) h.1
    by false r = r

pub known_sound : (k : Known) (t : Tree) → AreSound (events_of t) → AreSound (events_of (known k t))
known_sound k (tree at end (Node.object ms)) h =
    found_sound (bytes_eq (text_of k)) ms (first_sound (members_events ms) _ h.1)
known_sound k (tree at end _) h = (tt, tt)

-- ---- names

both : (P Q : List ℕ → Type 0) (names : List (List ℕ)) → All P names → All Q names → All (λ n. P n × Q n) names
both P Q names p q = λ k d l. (p k d l, q k d l)

pub spellable : (names : List (List ℕ)) → All IsUtf8 names → All IsName names → All IsSpellableText names
spellable names utf8 shaped =
    All-weaker (λ n. IsUtf8 n × IsName n) IsSpellableText (λ n h. record {
      utf8 = h.0;
      printable = All-weaker (λ b. (32 < b) × (b ≢ 127)) (λ b. 32 ≤ b) (λ b p. omega (arith, p.0)) n h.1.printed;
    }) names (both IsUtf8 IsName names utf8 shaped)
