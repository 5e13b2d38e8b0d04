use Rattle.std.proofs.Common.{ℕ, List, length, sym, ap, subst}
use Rattle.terms.specs.declared.signature.Role.TheVariants.{Function}
use Rattle.drafts.specs.Contents.{function_fault, with_symbol}
use Rattle.drafts.specs.Soundness.{Addable}
use Rattle.drafts.specs.Stores.{seen}
use Rattle.drafts.proofs.Verdicts.{handed, not_done, passed_on, passed, refused}
use Rattle.drafts.proofs.Declared.{addable_function}
use Rattle.drafts.proofs.draft.Draft.declare_function.Goals as goal

pub returns-in_err-new : goal.returns-in_err-new
returns-in_err-new c =
    let a = c.args.self.now in
    let o = function_fault (seen a) c.args.name.now c.args.args.now c.args.sort c.args.rules in
    not_done a o _ (length (seen a).signature.symbols) _ _ (refused o c.args.name.now _ c.in_err-new.ensures) (handed _ _ c.from_residual.ensures.1)

pub add-requires : goal.add-requires
add-requires c =
    let a = c.args.self.now in
    let o = function_fault (seen a) c.args.name.now c.args.args.now c.args.sort c.args.rules in
    let q = passed o c.args.name.now _ c.in_ok-new.ensures in
    subst (λ (n : List ℕ). Addable (seen a) (record { name = n; role = Function; args = c.args.args.now; sort = c.args.sort }) c.args.rules) (sym q.1) (addable_function a c.args.name.now c.args.args.now c.args.sort c.args.rules q.0)

pub returns : goal.returns
returns c =
    let a = c.args.self.now in
    let o = function_fault (seen a) c.args.name.now c.args.args.now c.args.sort c.args.rules in
    let q = passed o c.args.name.now _ c.in_ok-new.ensures in
    passed_on a _ o (seen a) _ _ (length (seen a).signature.symbols) _ q.0
    (ap (λ (n : List ℕ). with_symbol (seen a) (record { name = n; role = Function; args = c.args.args.now; sort = c.args.sort }) c.args.rules) q.1) c.add.ensures
