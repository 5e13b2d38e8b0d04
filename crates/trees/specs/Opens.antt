-- What the code's open positions are.
use Rattle.std.specs.Prelude.{ℕ, List, map}
use Rattle.terms.specs.Rows.{items}
use Rattle.trees.specs.declared.path.Path.{Path}
use Rattle.trees.specs.declared.open.Open.{Open}
use Rattle.trees.specs.Views.{steps_of}

-- the paths that stand
abbrev pub paths_of : Open → List Path
paths_of o = items o.paths

-- the open positions, in their order
abbrev pub open_of : Open → List (List ℕ)
open_of o = map steps_of (paths_of o)
