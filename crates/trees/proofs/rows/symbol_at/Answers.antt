use Rattle.std.proofs.Common.{◌∙◌, ap}
use Rattle.terms.specs.Signatures.{Signature}
use Rattle.trees.specs.Views.{steps_of}
use Rattle.trees.specs.Rows.{constructor_symbol}
use Rattle.trees.proofs.LeftSides.{left_symbol}
use Rattle.trees.proofs.rows.symbol_at.Goals as goal

pub returns-in_err-letter_at : goal.returns-in_err-letter_at
returns-in_err-letter_at c = c.from_residual.ensures ∙ left_symbol c.args.draft.now (steps_of c.args.path.now) c.args.rule _ c.in_err-letter_at.ensures

pub returns : goal.returns
returns c =
    c.constructor_symbol.ensures
    ∙ ap (λ (S : Signature). constructor_symbol S c.in_ok-letter_at.field-0) c.declared.ensures.signature
    ∙ left_symbol c.args.draft.now (steps_of c.args.path.now) c.args.rule _ c.in_ok-letter_at.ensures
