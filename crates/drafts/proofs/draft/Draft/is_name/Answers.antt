use Rattle.std.proofs.Common.{◌≡◌, ℕ, true, false, ◌||◌, List, map, is_some, Some, None, Option, sym, refl, ap, ◌∙◌}
use Rattle.terms.specs.Names.{find_name}
use Rattle.terms.specs.Signatures.{Declaration}
use Rattle.terms.specs.Views.{view}
use Rattle.drafts.specs.Contents.{is_found}
use Rattle.drafts.proofs.Lists.{found_append}
use Rattle.drafts.proofs.draft.Draft.is_name.Goals as goal

found_is : (o : Option ℕ) → is_some o ≡ is_found o
found_is None = refl
found_is (Some i) = refl

pub returns-then-is_some : goal.returns-then-is_some
returns-then-is_some c =
    let S = view c.args.self.now.signature in
    let n = c.args.name.now in
    let a : true ≡ is_found (find_name S.sorts n) = c.if-is_some.ensures ∙ ap is_some c.sort_named.ensures ∙ found_is (find_name S.sorts n) in
    c.if-is_some.true ∙ ap (λ b. b || is_found (find_name (map (λ (d : Declaration). d.name) S.symbols) n)) a ∙ sym (found_append S.sorts (map (λ (d : Declaration). d.name) S.symbols) n)

pub returns-else-is_some : goal.returns-else-is_some
returns-else-is_some c =
    let S = view c.args.self.now.signature in
    let n = c.args.name.now in
    let ns : List (List ℕ) = map (λ (d : Declaration). d.name) S.symbols in
    let a : false ≡ is_found (find_name S.sorts n) = c.if-is_some.ensures ∙ ap is_some c.sort_named.ensures ∙ found_is (find_name S.sorts n) in
    let b : c.is_some-else-is_some.result ≡ is_found (find_name ns n) = c.is_some-else-is_some.ensures ∙ ap is_some c.symbol_named.ensures ∙ found_is (find_name ns n) in
    b ∙ ap (λ t. t || is_found (find_name ns n)) a ∙ sym (found_append S.sorts ns n)
