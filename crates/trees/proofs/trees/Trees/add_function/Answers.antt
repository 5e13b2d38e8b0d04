use Rattle.std.proofs.Common.{◌≡◌, set, Some, Err, sym, refl, ap, ◌∙◌, subst, arith}
use Rattle.std.proofs.lemmas.Bool.{not-true, not-false}
use Rattle.std.proofs.lemmas.Result.{err_from_is_err_and}
use Rattle.trees.specs.declared.fault.CheckFault.TheVariants.{NoTree}
use Rattle.rewriting.specs.Trees.{Node as Tree}
use Rattle.rewriting.specs.FixedTree.{fixed_tree}
use Rattle.rewriting.specs.Completeness.{is_complete}
use Rattle.rewriting.specs.Growing.{grow}
use Rattle.drafts.specs.Drafts.{longest_side}
use Rattle.drafts.specs.Books.{book_of}
use Rattle.drafts.specs.Stores.{seen}
use Rattle.trees.specs.Opens.{open_of}
use Rattle.trees.specs.Rows.{chosen}
use Rattle.trees.specs.Layout.{seen_kind, laid_tree}
use Rattle.trees.specs.Growth.{stored, IsGrown, cost}
use Rattle.words.proofs.Sorts.{refused_none}
use Rattle.trees.proofs.Told.{grown_some, grown_none}
use Rattle.trees.proofs.Branches.{few_arguments}
use Rattle.trees.proofs.Rooting.{call_open, Called, called, function_below, no_tree, incomplete, complete, function_added}
use Rattle.trees.proofs.trees.Trees.add_function.Goals as goal
use Rattle.trees.proofs.trees.Trees.add_function.Goals.{After-rules_of, In_ok-grown}

-- the function's call
at_function : (c : After-rules_of) → Called c.args.draft.now c.args.function (open_of c.of_call.result) c.rules_of.result
at_function c = called c.args.draft.now c.args.function (open_of c.of_call.result) c.rules_of.result c.requires.whole c.requires.function
    (call_open c.args.function c.of_call.ensures c.arity_of.ensures c.declared.ensures.signature) c.rules_of.ensures

-- the tree that was grown is the fixed tree, and it is written
at_tree : (c : In_ok-grown) → (t : Tree) × (fixed_tree (book_of (seen c.args.draft.now)) c.args.function ≡ Some t)
    × ((stored (book_of (seen c.args.draft.now)).rules c.grow.new.self, seen_kind (book_of (seen c.args.draft.now)).rules c.in_ok-grown.grown.kind) ≡ laid_tree (stored (book_of (seen c.args.draft.now)).rules c.args.self.now.store) t)
    × (c.in_ok-grown.grown.complete ≡ is_complete (seen c.args.draft.now).signature t)
at_tree c =
    let B = book_of (seen c.args.draft.now) in
    let tree = grow B.signature longest_side (open_of c.of_call.result) (chosen c.rules_of.result B.rules) in
    let z = at_function (goal.at.In_ok-grown c).After-rules_of in
    let a = c.args.self.now.store in
    let g = grown_some B.signature B.rules a c.grow.new.self tree c.in_ok-grown.grown (subst (IsGrown B.signature B.rules a c.grow.new.self tree) c.in_ok-grown.ensures.ok_part c.grow.ensures.grown) in
    (g.0, sym z.tree ∙ g.1, g.2, g.3)

pub of_call-requires : goal.of_call-requires
of_call-requires c = let f = few_arguments c.declared.result.signature.now c.args.function in omega (arith, c.arity_of.ensures)

pub grow-requires : goal.grow-requires
grow-requires c =
    let z = at_function (goal.at.grow-requires c).After-rules_of in
    record { stage = z.stage; room = omega (arith, c.requires.room, z.room) }

pub returns-in_err-grown-clause-fault : goal.returns-in_err-grown-clause-fault
returns-in_err-grown-clause-fault c =
    let B = book_of (seen c.args.draft.now) in
    let S = B.signature in
    let f = c.args.function in
    let z = at_function (goal.at.returns-in_err-grown-clause-fault c).After-rules_of in
    let tree = grow S longest_side (open_of c.of_call.result) (chosen c.rules_of.result B.rules) in
    let o = refused_none c.grow.result (NoTree f) c.in_err-grown.field-0.0 c.in_err-grown.ensures.value in
    let n = grown_none S B.rules c.args.self.now.store c.grow.new.self tree (subst (IsGrown S B.rules c.args.self.now.store c.grow.new.self tree) o.0 c.grow.ensures.grown) in
    let p = err_from_is_err_and c.from_residual.result c.from_residual.ensures.1 in
    p.1 ∙ ap Err (p.2 ∙ o.1) ∙ no_tree tt S f (fixed_tree B f) (sym z.tree ∙ n)

pub returns-then-not-grown : goal.returns-then-not-grown
returns-then-not-grown c =
    let B = book_of (seen c.args.draft.now) in
    let g = at_tree (goal.at.returns-then-not-grown c).In_ok-grown in
    let no = not-true c.in_ok-grown.grown.complete c.if-not-grown.true in
    record { fault = incomplete tt B.signature c.args.function (fixed_tree B c.args.function) g.0 g.1 (sym g.3 ∙ no); added = tt }

pub push-root-requires : goal.push-root-requires
push-root-requires c =
    let z = at_function (goal.at.push-root-requires c).After-rules_of in
    omega (arith, c.requires.room, z.room, c.grow.ensures.fits)

pub bounds-self-function : goal.bounds-self-function
bounds-self-function c = let l = function_below c.args.draft.now c.args.function c.requires.function in omega arith

pub returns : goal.returns
returns c =
    let B = book_of (seen c.args.draft.now) in
    let f = c.args.function in
    let a = c.args.self.now in
    let z = at_function (goal.at.returns c).After-rules_of in
    let g = at_tree (goal.at.returns c).In_ok-grown in
    let yes = not-false c.in_ok-grown.grown.complete c.if-not-grown.false in
    record {
      fault = complete tt B.signature f (fixed_tree B f) g.0 g.1 (sym g.3 ∙ yes);
      added = function_added B f a _ c.grow.new.self _ g.0 (cost longest_side (chosen c.rules_of.result B.rules)) c.requires.function c.grow.ensures.fits g.1 g.2 refl refl c.push-root.ensures.pushed
          (ap (set a.roots f) c.push-root.ensures.place) z.room;
    }
