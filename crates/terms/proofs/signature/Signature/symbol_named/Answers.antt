use Rattle.std.proofs.Common.{◌≡◌, ℕ, List, sym, ◌∙◌}
use Rattle.std.specs.List.{position}
use Rattle.std.specs.Str.{bytes_eq}
use Rattle.terms.specs.declared.signature.Signature.{Signature as Table}
use Rattle.terms.specs.Rows.{items}
use Rattle.terms.specs.Signatures.{Declaration, symbol_named}
use Rattle.terms.specs.Views.{bytes_of, declaration, view}
use Rattle.terms.proofs.Names.{position_map}
use Rattle.terms.proofs.signature.Signature.symbol_named.Goals as goal

named : (g : Table) (bs : List ℕ) → position (λ y. bytes_eq (bytes_of y.name) bs) (items g.symbols) ≡ symbol_named (view g) bs
named g bs =
    position_map declaration (λ (d : Declaration). bytes_eq d.name bs) (items g.symbols) ∙ position_map (λ (d : Declaration). d.name) (λ n. bytes_eq n bs) (view g).symbols

pub returns-in_err-symbol_place : goal.returns-in_err-symbol_place
returns-in_err-symbol_place c = c.from_residual.ensures ∙ sym (c.in_err-symbol_place.was) ∙ c.symbol_place.ensures.value ∙ named c.args.self.now c.args.bytes.now

pub returns : goal.returns
returns c = sym (c.in_ok-symbol_place.was) ∙ c.symbol_place.ensures.value ∙ named c.args.self.now c.args.bytes.now
