-- What a change at the end of a stack does to the boxes that wait.
use Rattle.std.proofs.Common.{◌≡◌, ℕ, ◌+◌, ◌<◌, refl, sym, ◌∙◌, ap, subst, arith, Bool, true, false, cond, List, []}
use Rattle.std.proofs.Common.{◌∷◌, ◌++◌, length, get_or, reverse, set}
use Rattle.std.proofs.lemmas.List.{reverse-append, set-set, set-get_or, get_or_default}
use Rattle.certificate_tree.specs.Walk.{first_box, other_boxes}
use Rattle.lagrange_bound.specs.declared.span.Span.{Span}
use Rattle.certificate_tree.specs.declared.box_path.Change.{Change}
use Rattle.certificate_tree.specs.Walk.{waiting_after, undone, right_of}
use Rattle.lagrange_bound.specs.Boxes.{span_of}
use Rattle.certificate_tree.specs.Trees.{below, above}

pub waiting-last : (box : List Span) (cs : List Change) (c : Change)
    → waiting_after box (reverse (cs ++ c ∷ []))
    ≡ cond c.waits (right_of box c ∷ waiting_after (undone box c) (reverse cs))
    (waiting_after (undone box c) (reverse cs))
waiting-last box cs c = ap (λ (xs : List Change). waiting_after box xs) (reverse-append cs (c ∷ []))

pub waiting_done : (box : List Span) (cs : List Change) (c : Change) → c.waits ≡ false
    → waiting_after box (reverse (cs ++ c ∷ [])) ≡ waiting_after (undone box c) (reverse cs)
waiting_done box cs c e = waiting-last box cs c
    ∙ ap (λ (b : Bool). cond b (right_of box c ∷ waiting_after (undone box c) (reverse cs))
    (waiting_after (undone box c) (reverse cs))) e

waiting_waits : (box : List Span) (cs : List Change) (c : Change) → c.waits ≡ true
    → waiting_after box (reverse (cs ++ c ∷ [])) ≡ right_of box c ∷ waiting_after (undone box c) (reverse cs)
waiting_waits box cs c e = waiting-last box cs c
    ∙ ap (λ (b : Bool). cond b (right_of box c ∷ waiting_after (undone box c) (reverse cs))
    (waiting_after (undone box c) (reverse cs))) e

pub waiting_next : (box : List Span) (cs : List Change) (c d : Change) → c.waits ≡ true → d ≡ record c { waits = false }
    → waiting_after box (reverse (cs ++ c ∷ []))
    ≡ right_of box c ∷ waiting_after (right_of box c) (reverse (cs ++ d ∷ []))
waiting_next box cs c d e f =
    let again : undone (right_of box c) (record c { waits = false }) ≡ undone box c =
    set-set box c.i (record { from = c.last + 1; to = c.to }) (record { from = c.from; to = c.to }) in
    let there = waiting_done (right_of box c) cs (record c { waits = false }) refl in
    waiting_waits box cs c e
    ∙ ap (λ (bs : List (List Span)). right_of box c ∷ bs)
    (sym (ap (λ (d : Change). waiting_after (right_of box c) (reverse (cs ++ d ∷ []))) f ∙ there
    ∙ ap (λ (b : List Span). waiting_after b (reverse cs)) again))

pub waiting_split : (box : List Span) (cs : List Change) (i m : ℕ)
    → waiting_after (below box i m) (reverse
    (cs ++ (record { i = i; from = (span_of box i).from; last = m; to = (span_of box i).to; waits = true }) ∷ []))
    ≡ above box i m ∷ waiting_after box (reverse cs)
waiting_split box cs i m =
    let none : Span = record { from = 0; to = 0 } in
    let b = span_of box i in
    let c : Change = record { i = i; from = (span_of box i).from; last = m; to = (span_of box i).to; waits = true } in
    let right : right_of (below box i m) c ≡ above box i m =
    set-set box i (record { from = b.from; to = m }) (record { from = m + 1; to = b.to }) in
    let back : undone (below box i m) c ≡ box =
    set-set box i (record { from = b.from; to = m }) (record { from = b.from; to = b.to }) ∙ set-get_or box i none in
    waiting_waits (below box i m) cs c refl
    ∙ ap (λ (x : List Span). x ∷ waiting_after (undone (below box i m) c) (reverse cs)) right
    ∙ ap (λ (x : List Span). above box i m ∷ waiting_after x (reverse cs)) back

-- the whole of a walk that is split
pub path_split : (ended : Bool) (spans : List Span) (cs : List Change) (old : List (List Span)) (i m : ℕ) (b : Span)
    (ds : List Change) → cond ended [] (spans ∷ waiting_after spans (reverse cs)) ≡ old → 0 < length old
    → b ≡ get_or spans i b → i < length (first_box old)
    → ds ≡ cs ++ (record { i = i; from = b.from; last = m; to = b.to; waits = true }) ∷ []
    → cond ended [] (set spans i (record { from = b.from; to = m })
    ∷ waiting_after (set spans i (record { from = b.from; to = m })) (reverse ds)) ≡ below (first_box old) i m
    ∷ above (first_box old) i m ∷ other_boxes old
path_split true spans cs old i m b ds view some is number items =
    absurd (let e = ap (λ (bs : List (List Span)). length bs) view in omega (arith, some, e))
path_split false spans cs old i m b ds view some is number items =
    let here : i < length spans = subst (λ (o : List (List Span)). i < length (first_box o)) (sym view) number in
    let same : b ≡ span_of spans i = is ∙ get_or_default spans i b (record { from = 0; to = 0 }) here in
    subst (λ (o : List (List Span)). set spans i (record { from = b.from; to = m })
    ∷ waiting_after (set spans i (record { from = b.from; to = m })) (reverse ds) ≡ below (first_box o) i m
    ∷ above (first_box o) i m ∷ other_boxes o) view
    (rw (items, same) (ap (λ (bs : List (List Span)). below spans i m ∷ bs) (waiting_split spans cs i m)))
