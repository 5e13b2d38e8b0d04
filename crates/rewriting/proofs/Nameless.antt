-- Definitional trees on patterns without names, and that they are the same.
use Rattle.std.proofs.Common.{◌≡◌, ℕ, true, List, [], ◌∷◌, length, Some, sym, refl, ap, ◌∙◌, subst}
use mathlib.Core.List.{Memᴰ}
use Rattle.terms.specs.Terms.{Head, Fn, own, Term, var, con, fun, Terms}
use Rattle.terms.specs.Signatures.{Signature}
use Rattle.terms.specs.Roots.{head_args}
use Rattle.terms.specs.Positions.{part, graft}
use Rattle.rewriting.specs.Rules.{left_side, Different, Linear}
use Rattle.rewriting.specs.Trees.{Node, at_rule, branch, Nodes, no_child, child, heads, SomeChild, ConstructorOf, VariableAt, Tree, Children, Complete, AllComplete, variables_from, unused, call_of, refined}
use Rattle.rewriting.specs.FixedTree.{alike}
use Rattle.rewriting.proofs.Blanks.{over_blank, blank_call, bare, Formed, blank_variable, variable_blank, blank_refined, formed_refined, bare_call, formed_call, alike_blank}
use Rattle.rewriting.proofs.Variants.{linear_call, linear_refined, alike_variant, variant_alike, variant_linear}

abbrev pub NamelessVariant : Term → Term → Type 0
NamelessVariant l π = (alike l π ≡ true) × Linear l

module _ (S : Signature) where
  abbrev mutual
    pub Nameless : Node → Term → Type 0
    Nameless (at_rule r) π = NamelessVariant (left_side r) π
    Nameless (branch p ns) π = (k : ℕ) × (part π p ≡ Some (var k)) × SomeChild ns × Different (heads ns) × NamelessAll ns p k π

    pub NamelessAll : Nodes → List ℕ → ℕ → Term → Type 0
    NamelessAll no_child p k π = Unit {0}
    NamelessAll (child c n ns) p k π = ConstructorOf S c k × Nameless n (graft π p (over_blank S c)) × NamelessAll ns p k π

  abbrev mutual
    pub NamelessComplete : Node → Term → Type 0
    NamelessComplete (at_rule r) π = Unit {0}
    NamelessComplete (branch p ns) π = ((c : Head) (k : ℕ) → part π p ≡ Some (var k) → ConstructorOf S c k → Memᴰ c (heads ns)) × NamelessAllComplete ns p π

    pub NamelessAllComplete : Nodes → List ℕ → Term → Type 0
    NamelessAllComplete no_child p π = Unit {0}
    NamelessAllComplete (child c n ns) p π = NamelessComplete n (graft π p (over_blank S c)) × NamelessAllComplete ns p π

  -- a pattern with names: a call whose symbols have their arguments, no variable twice
  abbrev Named : Term → Type 0
  Named π = ((f : Fn) × (ts : Terms) × (π ≡ fun f ts)) × Formed S π × Linear π

  -- its variables with and without names
  bare_variable : (π : Term) (p : List ℕ) {k : ℕ} → Named π → part (bare S π) p ≡ Some (var k) → VariableAt S π p k
  bare_variable π [] {k} h e = absurd (let q = subst (λ (t : Term). part (bare S t) [] ≡ Some (var k)) h.0.2 e in cc)
  bare_variable π (i ∷ p) h e = blank_variable S π 0 i p e

  variable_bare : (π : Term) (p : List ℕ) {k : ℕ} → Named π → VariableAt S π p k → part (bare S π) p ≡ Some (var k)
  variable_bare π p {k} h v =
      let x = variable_blank S π 0 p h.1 v.0.1 in
      let y = bare_variable π p h x.1 in
      let d = v.1 in
      let e = y.1 in
      let q : x.0 ≡ k = cc in
      x.1 ∙ ap (λ (z : ℕ). Some (var z)) q

  named_refined : (π : Term) (p : List ℕ) {k : ℕ} (c : Head) → Named π → VariableAt S π p k → Named (refined S π p c)
  named_refined π p c h v = (still π p (con c (variables_from (unused π) (length (head_args S c)))) h.0 v.0.1, formed_refined S π p c h.1 v.0.1, linear_refined S π p c h.2)
    where
      still : (t : Term) (q : List ℕ) {x : ℕ} (ρ : Term) → (f : Fn) × (ts : Terms) × (t ≡ fun f ts) → part t q ≡ Some (var x) → (f : Fn) × (ts : Terms) × (graft t q ρ ≡ fun f ts)
      still t [] {x} ρ g e = absurd (let q = subst (λ (u : Term). part u [] ≡ Some (var x)) g.2 e in cc)
      still t (i ∷ q) ρ g e = (g.0, _, ap (λ (u : Term). graft u (i ∷ q) ρ) g.2)

  -- from names to none
  mutual
    to_nameless : (n : Node) (π : Term) → Named π → Tree S n π → Nameless n (bare S π)
    to_nameless (at_rule r) π h t = (alike_blank S (left_side r) π 0 h.1 ∙ variant_alike (left_side r) π t, variant_linear (left_side r) π t h.2)
    to_nameless (branch p ns) π h t = (t.0, variable_bare π p h t.1, t.2, t.3, all_to_nameless ns p t.0 π h t.1 t.4)

    all_to_nameless : (ns : Nodes) (p : List ℕ) (k : ℕ) (π : Term) → Named π → VariableAt S π p k → Children S ns p k π → NamelessAll ns p k (bare S π)
    all_to_nameless no_child p k π h v t = tt
    all_to_nameless (child c n ns) p k π h v t =
        (t.0, subst (Nameless n) (blank_refined S π 0 p c v.0.1) (to_nameless n (refined S π p c) (named_refined π p c h v) t.1), all_to_nameless ns p k π h v t.2)

  -- and back
  mutual
    from_nameless : (n : Node) (π : Term) → Named π → Nameless n (bare S π) → Tree S n π
    from_nameless (at_rule r) π h t = alike_variant (left_side r) π t.1 h.2 (sym (alike_blank S (left_side r) π 0 h.1) ∙ t.0)
    from_nameless (branch p ns) π h t = let v = bare_variable π p h t.1 in (t.0, v, t.2, t.3, all_from_nameless ns p t.0 π h v t.4)

    all_from_nameless : (ns : Nodes) (p : List ℕ) (k : ℕ) (π : Term) → Named π → VariableAt S π p k → NamelessAll ns p k (bare S π) → Children S ns p k π
    all_from_nameless no_child p k π h v t = tt
    all_from_nameless (child c n ns) p k π h v t =
        (t.0, from_nameless n (refined S π p c) (named_refined π p c h v) (subst (Nameless n) (sym (blank_refined S π 0 p c v.0.1)) t.1), all_from_nameless ns p k π h v t.2)

  -- completeness, where the tree is one
  mutual
    to_nameless_complete : (n : Node) (π : Term) → Named π → Tree S n π → Complete S n π → NamelessComplete n (bare S π)
    to_nameless_complete (at_rule r) π h t g = tt
    to_nameless_complete (branch p ns) π h t g = ((λ c k e o. g.0 c k (bare_variable π p h e) o), all_to_complete ns p t.0 π h t.1 t.4 g.1)

    all_to_complete : (ns : Nodes) (p : List ℕ) (k : ℕ) (π : Term) → Named π → VariableAt S π p k → Children S ns p k π → AllComplete S ns p π → NamelessAllComplete ns p (bare S π)
    all_to_complete no_child p k π h v t g = tt
    all_to_complete (child c n ns) p k π h v t g = (
      subst (NamelessComplete n) (blank_refined S π 0 p c v.0.1) (to_nameless_complete n (refined S π p c) (named_refined π p c h v) t.1 g.0),
      all_to_complete ns p k π h v t.2 g.1,
    )

  mutual
    from_nameless_complete : (n : Node) (π : Term) → Named π → Tree S n π → NamelessComplete n (bare S π) → Complete S n π
    from_nameless_complete (at_rule r) π h t g = tt
    from_nameless_complete (branch p ns) π h t g = ((λ c k e o. g.0 c k (variable_bare π p h e) o), all_from_complete ns p t.0 π h t.1 t.4 g.1)

    all_from_complete : (ns : Nodes) (p : List ℕ) (k : ℕ) (π : Term) → Named π → VariableAt S π p k → Children S ns p k π → NamelessAllComplete ns p (bare S π) → AllComplete S ns p π
    all_from_complete no_child p k π h v t g = tt
    all_from_complete (child c n ns) p k π h v t g = (
      from_nameless_complete n (refined S π p c) (named_refined π p c h v) t.1 (subst (NamelessComplete n) (sym (blank_refined S π 0 p c v.0.1)) g.0),
      all_from_complete ns p k π h v t.2 g.1,
    )

  -- for the pattern of a function
  named_call : (f : ℕ) → Named (call_of S f)
  named_call f = ((own f, _, refl), formed_call S f, linear_call S f)

  pub tree_nameless : (f : ℕ) (n : Node) → Tree S n (call_of S f) → Nameless n (blank_call S f)
  tree_nameless f n t = subst (Nameless n) (bare_call S f) (to_nameless n (call_of S f) (named_call f) t)

  pub nameless_tree : (f : ℕ) (n : Node) → Nameless n (blank_call S f) → Tree S n (call_of S f)
  nameless_tree f n t = from_nameless n (call_of S f) (named_call f) (subst (Nameless n) (sym (bare_call S f)) t)

  pub complete_nameless : (f : ℕ) (n : Node) → Tree S n (call_of S f) → Complete S n (call_of S f) → NamelessComplete n (blank_call S f)
  complete_nameless f n t c = subst (NamelessComplete n) (bare_call S f) (to_nameless_complete n (call_of S f) (named_call f) t c)

  pub nameless_is_complete : (f : ℕ) (n : Node) → Tree S n (call_of S f) → NamelessComplete n (blank_call S f) → Complete S n (call_of S f)
  nameless_is_complete f n t c = from_nameless_complete n (call_of S f) (named_call f) t (subst (NamelessComplete n) (sym (bare_call S f)) c)
