use Rattle.std.proofs.Common.{Err, Option, sym, refl, ap, ◌∙◌, subst}
use Rattle.std.proofs.lemmas.Result.{err_from_is_err_and}
use Rattle.terms.proofs.Letters.{zero_one}
use Rattle.drafts.specs.Stores.{seen}
use Rattle.trees.specs.declared.fault.CheckFault.{CheckFault}
use Rattle.trees.specs.Standing.{refusal}
use Rattle.books.specs.Holding.{held, after_check}
use Rattle.books.specs.Statements.{ExactCheck}
use Rattle.books.proofs.Exact.{exact_check, accepted_complete}
use Rattle.books.proofs.Tested.{set_tested}
use Rattle.books.proofs.book.Book.check.Goals as goal

pub returns-in_err-trees : goal.returns-in_err-trees
returns-in_err-trees c =
    let d = c.args.draft.now in
    let a = c.args.self.now in
    let p = err_from_is_err_and c.from_residual.result c.from_residual.ensures.1 in
    let e = c.in_err-trees.field-0.0 in
    let r = p.1 ∙ ap Err p.2 in
    let f = c.in_err-trees.ensures.fault in
    let same = ap refusal r ∙ f in
    record {
      checks = record { answered = same; becomes = ap (λ (o : Option CheckFault). after_check o (seen d) (held a)) f; kept = λ x y. refl };
      exact = subst (ExactCheck (seen d)) (sym same) (exact_check d);
    }

pub invariant_of-self : goal.invariant_of-self
invariant_of-self c = let d = c.args.draft.now in let f = c.in_ok-trees.ensures in record { sound = set_tested d c.in_ok-trees.trees (accepted_complete d (sym f.fault)).0 f.rooted f.laid }

pub returns : goal.returns
returns c =
    let d = c.args.draft.now in
    let f = c.in_ok-trees.ensures.fault in
    record {
      checks = record { answered = f; becomes = ap (λ (o : Option CheckFault). after_check o (seen d) (held c.args.self.now)) f; kept = λ x y. absurd (zero_one (cc)) };
      exact = subst (ExactCheck (seen d)) (sym f) (exact_check d);
    }
