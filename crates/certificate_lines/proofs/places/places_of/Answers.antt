use Rattle.std.proofs.Common.{◌<◌, length, rules, sym}
use Rattle.std.specs.List.{All}
use Rattle.std.proofs.lemmas.Bool.{false≢true}
use Rattle.std.proofs.lemmas.List.Elements.{All-push, All-same}
use Rattle.std.proofs.lemmas.List.Quantifiers.{all_pairs_push}
use Rattle.certificate_lines.specs.Spelling.{IsNumber}
use Rattle.certificate_lines.proofs.PlaceLemmas.{no_place, not_above, place_more}
use Rattle.certificate_lines.proofs.places.places_of.Goals as goal

pub returns-in_default-clause-none : goal.returns-in_default-clause-none
returns-in_default-clause-none c = λ places small ascending e.
    let so_far = c.loop-rest.invariant in
    let some : 0 < length c.loop-rest.rest.now = search rules in
    no_place c.args.text.now c.loop-rest.places.items c.loop-rest.rest.now so_far.read so_far.small so_far.then some
    c.in_default.ensures.none places small e

pub returns-then-not-is_above-clause-none : goal.returns-then-not-is_above-clause-none
returns-then-not-is_above-clause-none c = λ places small ascending e.
    let so_far = c.loop-rest.invariant in
    let next = c.in-Some in
    not_above c.args.text.now c.loop-rest.places.items c.loop-rest.rest.now next.after.now next.place so_far.read
    so_far.small so_far.then next.ensures.found next.ensures.small next.ensures.rest
    (λ below. false≢true
    (c.if-not-is_above.ensures.1
    (All-same (λ k. k < next.place) c.deref.result.now c.loop-rest.places.items c.deref.ensures.value below)))
    places small ascending e

pub loop-rest-preserved : goal.loop-rest-preserved
loop-rest-preserved c =
    let so_far = c.loop-rest.invariant in
    let next = c.in-Some in
    let front = c.loop-rest.places.items in
    let below : All (λ k. k < next.place) front = All-same (λ k. k < next.place) front c.deref.result.now
    (sym c.deref.ensures.value) (c.if-not-is_above.ensures.0 (search rules)) in
    rw c.in_ok-push.ensures.items
    (record {
      read = place_more c.args.text.now front c.loop-rest.rest.now next.after.now next.place
          so_far.read next.ensures.found;
      small = All-push IsNumber front next.place so_far.small next.ensures.small;
      ascending = all_pairs_push (λ j k. j < k) front next.place so_far.ascending below;
      then = next.ensures.rest;
    })
