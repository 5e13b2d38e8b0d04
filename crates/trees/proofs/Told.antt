-- What an answer tells, by cases.
use Rattle.std.proofs.Common.{◌≡◌, ℕ, Bool, List, Some, None, Option, sym, refl, ap, ◌∙◌, subst}
use Rattle.std.specs.List.{slice_get}
use Rattle.terms.specs.Signatures.{Signature}
use Rattle.terms.proofs.Letters.{zero_one}
use Rattle.rewriting.specs.Rules.{Rule}
use Rattle.rewriting.specs.Trees.{Node as Tree}
use Rattle.rewriting.specs.Completeness.{is_complete}
use Rattle.trees.specs.declared.grown.Grown.{Grown}
use Rattle.trees.specs.declared.shared.Shared.{Shared}
use Rattle.trees.specs.declared.store.Store.{Store}
use Rattle.trees.specs.Views.{steps_of}
use Rattle.trees.specs.Rows.{heads_at, IsPlace}
use Rattle.trees.specs.Sharing.{IsShared}
use Rattle.trees.specs.Layout.{seen_kind, laid_tree}
use Rattle.trees.specs.Growth.{stored, IsGrown}

-- a place of a rule
pub place_some : (R : List Rule) (o : Option Rule) (k : ℕ) → IsPlace R o (Some k) → (r : Rule) × (o ≡ Some r) × (slice_get R k ≡ Some r)
place_some R None k h = absurd (zero_one (cc))
place_some R (Some r) k h = let e = h.1 in let i : h.0 ≡ k = cc in (r, refl, subst (λ (x : ℕ). slice_get R x ≡ Some r) i h.2)

pub place_none : (R : List Rule) (o : Option Rule) → IsPlace R o None → o ≡ None
place_none R None h = refl
place_none R (Some r) h = let e = h.1 in absurd (zero_one (cc))

-- a shared position
pub shared_some : (R : List Rule) (m : List Bool) (o : Option (List ℕ)) (s : Shared) → IsShared R m o (Some s) → (o ≡ Some (steps_of s.path)) × (s.heads ≡ heads_at (steps_of s.path) m R)
shared_some R m None s h = absurd (zero_one (cc))
shared_some R m (Some p) s h =
    let e = h.1 in
    let i : h.0 ≡ s = cc in
    let q : steps_of s.path ≡ p = ap (λ (x : Shared). steps_of x.path) (sym i) ∙ h.2 in
    (ap Some (sym q), ap (λ (x : Shared). x.heads) (sym i) ∙ h.3 ∙ ap (λ (x : List ℕ). heads_at x m R) (sym q))

pub shared_none : (R : List Rule) (m : List Bool) (o : Option (List ℕ)) → IsShared R m o None → o ≡ None
shared_none R m None h = refl
shared_none R m (Some p) h = let e = h.1 in absurd (zero_one (cc))

-- a tree
pub grown_some : (S : Signature) (R : List Rule) (a b : Store) (o : Option Tree) (g : Grown) → IsGrown S R a b o (Some g) → (t : Tree) × (o ≡ Some t) × ((stored R b, seen_kind R g.kind) ≡ laid_tree (stored R a) t) × (g.complete ≡ is_complete S t)
grown_some S R a b None g h = absurd (zero_one (cc))
grown_some S R a b (Some t) g h =
    let e = h.1 in
    let i : h.0 ≡ g = cc in
    (t, refl, subst (λ (x : Grown). (stored R b, seen_kind R x.kind) ≡ laid_tree (stored R a) t) i h.2, ap (λ (x : Grown). x.complete) (sym i) ∙ h.3)

pub grown_none : (S : Signature) (R : List Rule) (a b : Store) (o : Option Tree) → IsGrown S R a b o None → o ≡ None
grown_none S R a b None h = refl
grown_none S R a b (Some t) h = let e = h.1 in absurd (zero_one (cc))
