use Rattle.std.proofs.Common.{◌∙◌, ◌≡◌, arith}
use Rattle.std.proofs.lemmas.Grind.{common_steps}
use Rattle.terms.specs.Options.{passes}
use Rattle.terms.specs.Letters.{letter_of}
use Rattle.trees.specs.Rows.{variable_letter}
use Rattle.trees.specs.Views.{steps_of}
use Rattle.trees.proofs.LeftSides.{left_variable}
use Rattle.trees.proofs.rows.is_variable_at.Goals as goal

pub returns : goal.returns
returns c =
    let e : c.is_some_and.result ≡ passes (λ y. variable_letter (letter_of y)) c.letter_at.result = grind (arith, common_steps) in
    e ∙ left_variable c.args.draft.now (steps_of c.args.path.now) c.args.rule _ c.letter_at.ensures
