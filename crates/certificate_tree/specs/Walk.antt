-- The boxes that wait on a walk through a tree: the one at hand and those behind it, kept as intervals that
-- were changed. `first_box` and `other_boxes` are what contracts cite, `boxes_of` and `IsPath` how a walk
-- is seen; the rest is no part of any promise.
use Rattle.std.specs.Prelude.{ℕ, ◌+◌, ◌<◌, List, [], ◌∷◌, length, reverse, slice_set, cond, All}
use Rattle.lagrange_bound.specs.declared.span.Span.{Span}
use Rattle.certificate_tree.specs.declared.box_path.Change.{Change}
use Rattle.certificate_tree.specs.declared.box_path.BoxPath.TheInside.{Inside}

-- the first of some boxes
abbrev pub first_box : List (List Span) → List Span
first_box [] = []
first_box (b ∷ bs) = b

-- the others
abbrev pub other_boxes : List (List Span) → List (List Span)
other_boxes [] = []
other_boxes (b ∷ bs) = bs

-- ---- changes

-- the box before the change
abbrev pub undone : List Span → Change → List Span
undone box c = slice_set box c.i (record { from = c.from; to = c.to })

-- the right part of the change's split
abbrev pub right_of : List Span → Change → List Span
right_of box c = slice_set box c.i (record { from = c.last + 1; to = c.to })

-- the boxes that wait behind a box, the last change first
abbrev pub waiting_after : List Span → List Change → List (List Span)
waiting_after box [] = []
waiting_after box (c ∷ cs) =
    cond c.waits (right_of box c ∷ waiting_after (undone box c) cs) (waiting_after (undone box c) cs)

-- the boxes of a path
abbrev pub boxes_of : Inside → List (List Span)
boxes_of a = cond a.ended [] (a.spans.items ∷ waiting_after a.spans.items (reverse a.changes.items))

pub record IsChange (n : ℕ) (c : Change) : Type 0 where
  pub number : c.i < n
  pub last : c.last < c.to

abbrev pub IsPath : Inside → Type 0
IsPath a = All (IsChange (length a.spans.items)) a.changes.items
