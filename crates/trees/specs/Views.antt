-- What the code's paths are.
use Rattle.std.specs.Prelude.{ℕ, List}
use Rattle.terms.specs.Rows.{items}
use Rattle.trees.specs.declared.path.Path.{Path}

-- the argument numbers of a path
abbrev pub steps_of : Path → List ℕ
steps_of p = items p.steps
