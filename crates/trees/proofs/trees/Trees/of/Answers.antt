use Rattle.std.proofs.Common.{◌≡◌, ◌≤◌, ℕ, List, length, IfOk, Err, Option, Result, sym, refl, ap, ◌∙◌, subst, arith, option_map}
use Rattle.std.proofs.lemmas.Result.{err_from_is_err_and}
use Rattle.std.specs.Option.{option_or}
use Rattle.terms.specs.Signatures.{Signature}
use Rattle.drafts.specs.Books.{book_of}
use Rattle.drafts.specs.Stores.{seen}
use Rattle.drafts.proofs.Sound.{counted_contents}
use Rattle.drafts.proofs.Verdicts.{refused, passed}
use Rattle.trees.specs.declared.fault.CheckFault.{CheckFault}
use Rattle.trees.specs.declared.fault.CheckFault.TheVariants.{RulesMissing}
use Rattle.trees.specs.declared.node.Node.{Node}
use Rattle.trees.specs.declared.trees.Trees.{Trees}
use Rattle.trees.specs.Checks.{fault_at, first_fault}
use Rattle.trees.specs.Standing.{refusal, AllRooted, OthersRootless, AllOnTrees, NodesOnly, LaidOut, RulesDiffer}
use Rattle.trees.proofs.Drafted.{draft_room}
use Rattle.trees.proofs.Rooting.{up_to_next, up_to_fault, first_none, all_laid, none_laid, function_stands, stands_function}
use Rattle.trees.proofs.Different.{rules_differ}
use Rattle.trees.proofs.Laid.{fixed_trees, all_rooted, others_rootless, all_on_trees, nodes_only}
use Rattle.trees.proofs.trees.Trees.of.Goals as goal
use Rattle.trees.proofs.trees.Trees.of.Goals.{After-symbol_count-symbol-end}

-- how many symbols there are
at_count : (c : After-symbol_count-symbol-end) → c.symbol_count-symbol-end.result ≡ length (seen c.args.draft.now).signature.symbols
at_count c = c.symbol_count-symbol-end.ensures.value ∙ ap (λ (S : Signature). length S.symbols) c.declared.ensures.signature

pub loop-symbol-init : goal.loop-symbol-init
loop-symbol-init c =
    let d = c.args.draft.now in
    let r = draft_room d in
    let n = ap (λ (ns : List Node). length ns) c.none-trees.ensures.nodes in
    record { faultless = refl; laid = none_laid (book_of (seen d)) c.none-trees.result c.none-trees.ensures.nodes c.none-trees.ensures.roots; room = omega arith }

pub add_tree-requires : goal.add_tree-requires
add_tree-requires c =
    let d = c.args.draft.now in
    let n = at_count (goal.at.add_tree-requires c).After-symbol_count-symbol-end in
    record { whole = sym c.in_default.ensures; declared = omega (arith, c.loop-symbol-test.true); room = c.loop-symbol.invariant.room }

pub returns-in_err-add_tree : goal.returns-in_err-add_tree
returns-in_err-add_tree c =
    let d = c.args.draft.now in
    let B = book_of (seen d) in
    let s = c.loop-symbol.symbol in
    let n = at_count (goal.at.returns-in_err-add_tree c).After-symbol_count-symbol-end in
    let p = err_from_is_err_and c.from_residual.result c.from_residual.ensures.1 in
    let e = c.in_err-add_tree.field-0.0 in
    let f = up_to_fault B s c.loop-symbol.trees e (omega (arith, c.loop-symbol-test.true)) (refused (fault_at B s) tt e c.in_err-add_tree.ensures.fault) c.loop-symbol.invariant in
    let r = p.1 ∙ ap Err p.2 in
    record {
      fault = ap refusal r ∙ sym f ∙ ap (λ (o : Option ℕ). option_or (option_map RulesMissing o) (first_fault B 0 B.signature.symbols)) c.in_default.ensures;
      rooted = subst (λ (x : Result Trees CheckFault). IfOk x (AllRooted B)) (sym r) tt;
      rootless = subst (λ (x : Result Trees CheckFault). IfOk x (OthersRootless B)) (sym r) tt;
      on_trees = subst (λ (x : Result Trees CheckFault). IfOk x AllOnTrees) (sym r) tt;
      counted = subst (λ (x : Result Trees CheckFault). IfOk x (NodesOnly B)) (sym r) tt;
      laid = subst (λ (x : Result Trees CheckFault). IfOk x (LaidOut B)) (sym r) tt;
      differ = subst (λ (x : Result Trees CheckFault). IfOk x (λ (y : Trees). RulesDiffer B)) (sym r) tt;
    }

pub loop-symbol-preserved : goal.loop-symbol-preserved
loop-symbol-preserved c =
    let d = c.args.draft.now in
    let B = book_of (seen d) in
    let s = c.loop-symbol.symbol in
    let n = at_count (goal.at.loop-symbol-preserved c).After-symbol_count-symbol-end in
    let z = c.in_ok-add_tree.ensures in
    up_to_next B s c.loop-symbol.trees c.add_tree.new.self (omega (arith, c.loop-symbol-test.true)) (passed (fault_at B s) tt _ z.fault).0 z.added c.loop-symbol.invariant

pub returns : goal.returns
returns c =
    let d = c.args.draft.now in
    let B = book_of (seen d) in
    let s = c.loop-symbol.symbol in
    let n = at_count (goal.at.returns c).After-symbol_count-symbol-end in
    let h = c.loop-symbol.invariant in
    let t = c.loop-symbol.trees in
    let end : length B.signature.symbols ≤ s = omega (arith, c.loop-symbol-test.false) in
    let none = first_none B s t end h in
    let laid = all_laid B s t end h in
    let few = (counted_contents d).few_symbols in
    let trees = fixed_trees B 0 B.signature.symbols none in
    let rooted : AllRooted B t = λ f k. all_rooted B t laid few trees f (function_stands d f k) in
    record {
      fault = sym none ∙ ap (λ (o : Option ℕ). option_or (option_map RulesMissing o) (first_fault B 0 B.signature.symbols)) c.in_default.ensures;
      rooted = rooted;
      rootless = λ f k. others_rootless B t laid f (λ g. k (stands_function d f g));
      on_trees = all_on_trees B t laid few trees;
      counted = nodes_only B t laid;
      laid = laid;
      differ = rules_differ d t rooted;
    }
