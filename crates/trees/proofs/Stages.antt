-- What holds wherever a tree is grown, and what its growth comes to.
use Rattle.std.proofs.Common.{◌≡◌, ℕ, suc, ◌+◌, ◌-◌, ◌<◌, ◌≤◌, Bool, true, ◌&&◌, List, [], ◌∷◌, map, length, Some, None, Option, sym, refl, ap, ◌∙◌, subst, ap₂, arith, option_map, filter}
use mathlib.Core.List.{Memᴰ}
use Rattle.std.specs.List.{slice_get}
use Rattle.terms.specs.Terms.{Head, symbol}
use Rattle.terms.specs.Signatures.{Signature}
use Rattle.rewriting.specs.Rules.{Rule, Book}
use Rattle.rewriting.specs.Trees.{Node as Tree, branch, heads}
use Rattle.rewriting.specs.FixedTree.{has_at, first_shared, constructors_at, children}
use Rattle.rewriting.specs.Growing.{sole_open, opened_under, grow, Reached, in_branch, paid_under, Within}
use Rattle.rewriting.specs.Completeness.{covers}
use Rattle.rewriting.specs.Promises.{NoLonger}
use Rattle.rewriting.proofs.Building.{first_is, children_heads}
use Rattle.rewriting.proofs.Growing.{grows_fixed_tree}
use Rattle.drafts.specs.Drafts.{longest_side}
use Rattle.trees.specs.declared.path.Path.{Path}
use Rattle.trees.specs.declared.node.Kind.TheVariants.{Rule as RuleNode, Branch}
use Rattle.trees.specs.declared.grown.Grown.{Grown}
use Rattle.trees.specs.declared.store.Store.{Store}
use Rattle.trees.specs.Views.{steps_of}
use Rattle.trees.specs.Rows.{chosen, new_heads}
use Rattle.trees.specs.Layout.{SeenNode, applies, branches}
use Rattle.trees.specs.Growth.{nodes_of, IsGrown, stored, AtStage, cost, WithinCost}
use Rattle.trees.proofs.Growths.{under, grows_rule, grows_branch, children_none, GrownTo, due}

module _ (B : Book) (short : (f : ℕ) → NoLonger B f longest_side) (n : ℕ) (ps : List (List ℕ)) (rs : List Rule) (stage : AtStage B n ps rs) where
  pub within_stage : Within longest_side n ps rs
  within_stage = grows_fixed_tree.within B stage.0 longest_side stage.1 (short stage.0) n ps rs stage.2

  -- fuel is left
  pub fuel_left : 0 < n
  fuel_left = let w = within_stage.few in omega arith

  -- the open positions have room
  pub open_room : length ps ≤ 64
  open_room = go ps within_stage.few within_stage.near
    where
      go : (qs : List (List ℕ)) → length qs < n → ((p : List ℕ) → Memᴰ p qs → length p + n ≤ suc longest_side) → length qs ≤ 64
      go [] w k = omega arith
      go (q ∷ qs) w k = let d = k q (Memᴰ.head refl) in omega arith

  -- one branch further
  pub child_stage : (p : List ℕ) (c : Head) → first_shared ps rs ≡ Some p → Memᴰ c (constructors_at p rs) → AtStage B (n - 1) (opened_under B.signature ps p c) (filter (has_at p c) rs)
  child_stage p c e m =
      let k : n ≡ suc (n - 1) = (let w = fuel_left in omega arith) in
      (stage.0, stage.1, in_branch (subst (λ (x : ℕ). Reached B stage.0 longest_side x ps rs) k stage.2) e m)

  -- what is paid suffices for a branch and its children
  pub branch_paid : (p : List ℕ) → first_shared ps rs ≡ Some p → suc (paid_under longest_side (n - 1) p rs (constructors_at p rs)) ≤ cost n rs
  branch_paid p e = within_stage.pays_children (n - 1) (let w = fuel_left in omega arith) p e

  -- nothing is added
  pub none_added : (a : Store) → WithinCost a a (cost n rs)
  none_added a = let w = within_stage.pays in omega arith

-- a shared position is short enough to go further
pub shared_short : (B : Book) (short : (f : ℕ) → NoLonger B f longest_side) (n : ℕ) (ps : List (List ℕ)) (rs : List Rule) (stage : AtStage B n ps rs) (p : List ℕ) (c : Head)
    → first_shared ps rs ≡ Some p → Memᴰ c (constructors_at p rs) → length p < 64
shared_short B short n ps rs stage p c e m =
    let a = (within_stage B short n ps rs stage).near p (first_is ps rs e).0 in
    let b = (within_stage B short (n - 1) (opened_under B.signature ps p c) (filter (has_at p c) rs) (child_stage B short n ps rs stage p c e m)).few in
    omega arith

-- a rule node is the answer
pub rule_grown : (S : Signature) (R : List Rule) (a : Store) (n : ℕ) (ps : List (List ℕ)) (rs : List Rule) (r : Rule) (k : ℕ) → 0 < n → sole_open ps rs ≡ Some r → slice_get R k ≡ Some r
    → IsGrown S R a a (grow S n ps rs) (Some (record { kind = RuleNode k; complete = true }))
rule_grown S R a n ps rs r k l e f =
    let g : Grown = record { kind = RuleNode k; complete = true } in
    subst (λ (o : Option Tree). IsGrown S R a a o (Some g)) (sym (grows_rule S n ps rs r l e)) (g, refl, ap (λ (o : Option Rule). (stored R a, applies o)) f, refl)

-- there is no tree
pub none_grown : (S : Signature) (R : List Rule) (a b : Store) (o : Option Tree) (r : Option Grown) → o ≡ None → r ≡ None → IsGrown S R a b o r
none_grown S R a b o r e f = subst (λ (x : Option Tree). IsGrown S R a b x r) (sym e) f

module _ (B : Book) (ps : List (List ℕ)) (m : List Bool) (n : ℕ) (p : List ℕ) (hs : List (Option ℕ)) where
  abbrev left : List Rule
  left = chosen m B.rules

  -- a child that is missing: no tree
  pub child_missing : (c : Head) → 0 < n → sole_open ps left ≡ None → first_shared ps left ≡ Some p → Memᴰ c (constructors_at p left) → under B.signature (n - 1) ps left p c ≡ None
      → grow B.signature n ps left ≡ None
  child_missing c l e f i h = grows_branch B.signature n ps left p l e f ∙ ap (option_map (branch p)) (children_none (under B.signature (n - 1) ps left p) i h)

  -- all children are there: a branch
  pub branch_grown : (a b : Store) (path : Path) (first : Option ℕ) (complete covered : Bool) → covered ≡ covers B.signature (constructors_at p left) → 0 < n → sole_open ps left ≡ None → first_shared ps left ≡ Some p → steps_of path ≡ p
      → constructors_at p left ≡ map symbol (new_heads [] hs) → GrownTo B ps m n p hs 0 a b first complete
      → IsGrown B.signature B.rules a b (grow B.signature n ps left) (Some (record { kind = Branch path first; complete = covered && complete }))
  branch_grown a b path first complete covered c l e f q i h =
      let S = B.signature in
      let R = B.rules in
      let g : Grown = record { kind = Branch path first; complete = covered && complete } in
      let all : children (under S (n - 1) ps left p) (constructors_at p left) ≡ Some h.subtrees = ap (children (under S (n - 1) ps left p)) i ∙ h.built in
      let tree : grow S n ps left ≡ Some (branch p h.subtrees) = grows_branch S n ps left p l e f ∙ ap (option_map (branch p)) all in
      let heads-are : heads h.subtrees ≡ constructors_at p left = children_heads S (under S (n - 1) ps left p) (constructors_at p left) h.subtrees all in
      let wrote = ap (λ (x : List ℕ). (stored R b, branches x first)) q ∙ ap (λ (w : List SeenNode × Option ℕ). (w.0, branches p w.1)) h.wrote in
      subst (λ (o : Option Tree). IsGrown S R a b o (Some g)) (sym tree) (g, refl, wrote, ap₂ ◌&&◌ (c ∙ ap (covers S) (sym heads-are)) h.told)

  -- the nodes that were added, up to a child's or to the last
  pub children_added : (i : ℕ) (a b : Store) (first : Option ℕ) (complete : Bool) (most : ℕ) → suc (paid_under longest_side (n - 1) p left (constructors_at p left)) ≤ most
      → GrownTo B ps m n p hs i a b first complete → WithinCost a b most
  children_added i a b first complete most l h = let w = h.within in omega arith

  pub child_added : (i : ℕ) (a b c : Store) (first : Option ℕ) (complete : Bool) (most due : ℕ) → suc (paid_under longest_side (n - 1) p left (constructors_at p left)) ≤ most
      → GrownTo B ps m n p hs i a b first complete → length (nodes_of b) + due ≤ length (nodes_of a) + paid_under longest_side (n - 1) p left (constructors_at p left) → WithinCost b c due → WithinCost a c most
  child_added i a b c first complete most due l h r f = omega arith
