-- The drafts that the tour checks, by name. Assumes nothing.
use Rattle.std.specs.Prelude.{◌≡◌, ℕ, cond, List, Some, None, codes, Option}
use Rattle.std.specs.Str.{bytes_eq}
use Rattle.drafts.specs.Drafts.{Draft}
use Rattle.books.specs.Examples.{meet_draft, pick_draft, either_draft, half_draft}

-- the draft of a name, if it is one of the four
abbrev pub draft_named : List ℕ → Option Draft
draft_named n =
    cond (bytes_eq n (codes "meet")) (Some meet_draft)
    (cond (bytes_eq n (codes "pick")) (Some pick_draft) (cond (bytes_eq n (codes "either")) (Some either_draft) (cond (bytes_eq n (codes "half")) (Some half_draft) None)))

-- whether D is the draft of the name n; shut, so that no search computes the drafts
unfoldable pub Named : List ℕ → Draft → Type 0
Named n D = Some D ≡ draft_named n
