use Rattle.std.proofs.Common.{true, false, Option, sym, ap, ◌∙◌}
use Rattle.terms.specs.Views.{view}
use Rattle.drafts.specs.Books.{book_of}
use Rattle.drafts.specs.Stores.{seen, verdict}
use Rattle.trees.specs.declared.fault.CheckFault.{CheckFault}
use Rattle.trees.proofs.Rooting.{nothing_added, function_told, a_function, no_function, function_fault, no_fault}
use Rattle.trees.proofs.trees.Trees.add_tree.Goals as goal

pub add_function-requires : goal.add_function-requires
add_function-requires c =
    let d = c.args.draft.now in
    let S = (seen d).signature in
    let s = c.args.symbol in
    record { whole = c.requires.whole; function = a_function S s (function_told S (view c.declared.result.signature.now) s true c.declared.ensures.signature c.if-is_function.ensures); room = c.requires.room }

pub returns-then-is_function : goal.returns-then-is_function
returns-then-is_function c =
    let d = c.args.draft.now in
    let S = (seen d).signature in
    let s = c.args.symbol in
    let h = a_function S s (function_told S (view c.declared.result.signature.now) s true c.declared.ensures.signature c.if-is_function.ensures) in
    record { fault = c.add_function.ensures.fault ∙ ap (λ (o : Option CheckFault). verdict o tt) (sym (function_fault (book_of (seen d)) s h)); added = c.add_function.ensures.added }

pub returns-else-is_function : goal.returns-else-is_function
returns-else-is_function c =
    let d = c.args.draft.now in
    let S = (seen d).signature in
    let s = c.args.symbol in
    let n = function_told S (view c.declared.result.signature.now) s false c.declared.ensures.signature c.if-is_function.ensures in
    record { fault = ap (λ (o : Option CheckFault). verdict o tt) (sym (no_fault (book_of (seen d)) s n)); added = nothing_added (book_of (seen d)) s c.args.self.now (no_function S s n) }
