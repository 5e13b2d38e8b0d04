-- Definitional trees. Assumes nothing.
use Rattle.std.specs.Prelude.{◌≡◌, ℕ, zero, suc, max, List, [], ◌∷◌, ◌++◌, length, Some, None, Option}
use mathlib.Core.List.{Memᴰ}
use Rattle.terms.specs.Terms.{Head, own, Term, var, con, fun, Terms, nil, ◌▸◌}
use Rattle.terms.specs.Signatures.{Signature}
use Rattle.terms.specs.Roots.{head, Stands, head_args, fn_args}
use Rattle.terms.specs.Sorting.{head_sort}
use Rattle.terms.specs.Positions.{part, graft}
use Rattle.rewriting.specs.Substitutions.{Substitution, instance}
use Rattle.rewriting.specs.Rules.{Rule, left_side, Book, rules_of, Different}

-- A node: a rule; or a branch at a position, with a child for each of some constructors. A number cell counts as a constructor.
mutual
  pub data Node : Type 0 where
    at_rule : Rule → Node
    branch : List ℕ → Nodes → Node

  pub data Nodes : Type 0 where
    no_child : Nodes
    child : Head → Node → Nodes → Nodes

-- the constructors that have a child
abbrev pub heads : Nodes → List Head
heads no_child = []
heads (child c n ns) = c ∷ heads ns

-- at least one child
abbrev pub SomeChild : Nodes → Type 0
SomeChild no_child = ⊥
SomeChild (child c n ns) = Unit {0}

-- the rules at the rule nodes, from the left
abbrev mutual
  pub rules_in : Node → List Rule
  rules_in (at_rule r) = r ∷ []
  rules_in (branch p ns) = all_rules_in ns

  pub all_rules_in : Nodes → List Rule
  all_rules_in no_child = []
  all_rules_in (child c n ns) = rules_in n ++ all_rules_in ns

-- A pattern is a function over constructor terms in variables that are all different. It has no definition of its own: call_of makes the first, refined the others.

-- two terms are variants: each is an instance of the other
abbrev pub Variant : Term → Term → Type 0
Variant t u = ((σ : Substitution) × (instance σ t ≡ u)) × ((τ : Substitution) × (instance τ u ≡ t))

-- variables in a row, n of them, from x on
abbrev pub variables_from : ℕ → ℕ → Terms
variables_from x zero = nil
variables_from x (suc n) = var x ▸ variables_from (suc x) n

-- a number above every variable of a term: from it on, variables are new
abbrev mutual
  pub unused : Term → ℕ
  unused (var x) = suc x
  unused (con c ts) = all_unused ts
  unused (fun f ts) = all_unused ts

  pub all_unused : Terms → ℕ
  all_unused nil = 0
  all_unused (t ▸ ts) = max (unused t) (all_unused ts)

module _ (S : Signature) where
  -- the sort that is due at a position: that of the argument, by the symbol above it
  abbrev mutual
    pub due : Term → List ℕ → Option ℕ
    due (var x) p = None
    due (con c ts) [] = None
    due (con c ts) (i ∷ p) = due_in ts (head_args S c) i p
    due (fun f ts) [] = None
    due (fun f ts) (i ∷ p) = due_in ts (fn_args S f) i p

    pub due_in : Terms → List ℕ → ℕ → List ℕ → Option ℕ
    due_in nil ks i p = None
    due_in (t ▸ ts) [] i p = None
    due_in (t ▸ ts) (k ∷ ks) zero p = None
    due_in (t ▸ ts) (k ∷ ks) (suc zero) [] = Some k
    due_in (t ▸ ts) (k ∷ ks) (suc zero) (j ∷ p) = due t (j ∷ p)
    due_in (t ▸ ts) (k ∷ ks) (suc (suc i)) p = due_in ts ks (suc i) p

  -- the pattern has a variable at p, of the sort k
  abbrev pub VariableAt : Term → List ℕ → ℕ → Type 0
  VariableAt π p k = ((x : ℕ) × (part π p ≡ Some (var x))) × (due π p ≡ Some k)

  -- c is a constructor of the sort k
  abbrev pub ConstructorOf : Head → ℕ → Type 0
  ConstructorOf c k = Stands S (head c) × (k ≡ head_sort S c)

  -- f(x1, .., xn) over different variables
  abbrev pub call_of : ℕ → Term
  call_of f = fun (own f) (variables_from 0 (length (fn_args S (own f))))

  -- the pattern with c(x1, .., xm) at p, over variables that are new to it
  abbrev pub refined : Term → List ℕ → Head → Term
  refined π p c = graft π p (con c (variables_from (unused π) (length (head_args S c))))

  -- A definitional tree with the pattern π: a rule whose left side is a variant of π; or a branch at a variable of π, with at least one child,
  -- its children for different constructors of the variable's sort, each a tree with the pattern that has its constructor over new variables there.
  abbrev mutual
    pub Tree : Node → Term → Type 0
    Tree (at_rule r) π = Variant (left_side r) π
    Tree (branch p ns) π = (k : ℕ) × VariableAt π p k × SomeChild ns × Different (heads ns) × Children ns p k π

    pub Children : Nodes → List ℕ → ℕ → Term → Type 0
    Children no_child p k π = Unit {0}
    Children (child c n ns) p k π = ConstructorOf c k × Tree n (refined π p c) × Children ns p k π

  -- complete: every branch has a child for each constructor of the variable's sort
  abbrev mutual
    pub Complete : Node → Term → Type 0
    Complete (at_rule r) π = Unit {0}
    Complete (branch p ns) π = ((c : Head) (k : ℕ) → VariableAt π p k → ConstructorOf c k → Memᴰ c (heads ns)) × AllComplete ns p π

    pub AllComplete : Nodes → List ℕ → Term → Type 0
    AllComplete no_child p π = Unit {0}
    AllComplete (child c n ns) p π = Complete n (refined π p c) × AllComplete ns p π

-- ys with x put in somewhere
pub data Put {A : Type 0} (x : A) : List A → List A → Type 0 where
  put_here : {ys : List A} → Put x ys (x ∷ ys)
  put_later : {y : A} {ys zs : List A} → Put x ys zs → Put x (y ∷ ys) (y ∷ zs)

-- the same, each as often, in any order
pub data Permutation {A : Type 0} : List A → List A → Type 0 where
  perm_nil : Permutation [] []
  perm_more : {x : A} {xs ys zs : List A} → Put x ys zs → Permutation xs ys → Permutation (x ∷ xs) zs

-- A tree for the function f: its pattern is f(x1, .., xn), and each rule of f is in exactly one rule node, and no other rule.
abbrev pub TreeFor : Book → ℕ → Node → Type 0
TreeFor B f n = Tree B.signature n (call_of B.signature f) × Permutation (rules_in n) (rules_of B f)

-- and complete
abbrev pub CompleteFor : Book → ℕ → Node → Type 0
CompleteFor B f n = Complete B.signature n (call_of B.signature f)
