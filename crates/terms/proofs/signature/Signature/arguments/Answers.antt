use Rattle.std.proofs.Common.{rules, Some, sym, ap, ◌∙◌}
use Rattle.terms.specs.Views.{declaration, view}
use Rattle.terms.proofs.Roots.{args_of_symbol}
use Rattle.terms.proofs.signature.Signature.arguments.Goals as goal

pub returns-in_ok-declared-in-Symbol : goal.returns-in_ok-declared-in-Symbol
returns-in_ok-declared-in-Symbol c =
    let d = declaration c.in_ok-declared-in-Symbol.field-0.now in
    ap Some c.arguments.ensures ∙ sym (args_of_symbol (view c.args.self.now) c.args.letter c.in-Symbol.symbol d (search rules) (search rules))
