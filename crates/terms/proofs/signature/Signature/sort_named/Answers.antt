use Rattle.std.proofs.Common.{sym, ◌∙◌}
use Rattle.std.specs.Str.{bytes_eq}
use Rattle.terms.specs.Rows.{items}
use Rattle.terms.specs.Views.{bytes_of}
use Rattle.terms.proofs.Names.{position_map}
use Rattle.terms.proofs.signature.Signature.sort_named.Goals as goal

pub returns-in_err-sort_place : goal.returns-in_err-sort_place
returns-in_err-sort_place c =
    c.from_residual.ensures ∙ sym (c.in_err-sort_place.was) ∙ c.sort_place.ensures.value
    ∙ position_map bytes_of (λ n. bytes_eq n c.args.bytes.now) (items c.args.self.now.sorts)

pub returns : goal.returns
returns c = sym (c.in_ok-sort_place.was) ∙ c.sort_place.ensures.value ∙ position_map bytes_of (λ n. bytes_eq n c.args.bytes.now) (items c.args.self.now.sorts)
