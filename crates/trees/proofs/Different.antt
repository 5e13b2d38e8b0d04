-- No two rules of a book whose functions have trees are the same.
use Rattle.std.proofs.Common.{◌≡◌, ℕ, zero, suc, ◌<◌, ◌≤◌, Bool, true, eqb, ◌⊎◌, List, [], ◌∷◌, Some, Option, refl, ap, ◌∙◌, subst, inl, inr, arith, filter}
use mathlib.Core.List.Memᴰ
use mathlib.Core.List.{Memᴰ}
use Rattle.std.specs.List.{slice_get}
use Rattle.std.proofs.lemmas.Bool.{cases_lt, cond_both, eq-eqb}
use Rattle.terms.specs.Terms.{Head, Term}
use Rattle.terms.specs.Signatures.{Signature}
use Rattle.terms.proofs.Letters.{zero_one}
use Rattle.rewriting.specs.Rules.{Rule, Book, rules_of}
use Rattle.rewriting.specs.Substitutions.{variable_positions}
use Rattle.rewriting.specs.Trees.{Node, Nodes, call_of, refined}
use Rattle.rewriting.specs.FixedTree.{has_at, children, build, enough, fixed_tree}
use Rattle.rewriting.proofs.Lists.{mem_kept}
use Rattle.rewriting.proofs.Deals.{constructor_has}
use Rattle.rewriting.proofs.Building.{shared, first_is, occurring, children_is, subtree, build_is}
use Rattle.drafts.specs.declared.draft.Draft.{Draft}
use Rattle.drafts.specs.Books.{book_of}
use Rattle.drafts.specs.Stores.{seen}
use Rattle.drafts.proofs.Sound.{book_rules}
use Rattle.trees.specs.declared.trees.Trees.{Trees}
use Rattle.trees.specs.Standing.{AllRooted, RulesDiffer}
use Rattle.trees.proofs.Places.{nth_mem}

-- x stands at two places of a list
data Twice {A : Type 0} (x : A) : List A → Type 0 where
  twice_here : {y : A} {xs : List A} → x ≡ y → Memᴰ x xs → Twice x (y ∷ xs)
  twice_later : {y : A} {xs : List A} → Twice x xs → Twice x (y ∷ xs)

-- what stands twice in a list is in it
twice_mem : {A : Type 0} {x : A} {xs : List A} → Twice x xs → Memᴰ x xs
twice_mem (twice_here e m) = Memᴰ.head e
twice_mem (twice_later w) = Memᴰ.tail (twice_mem w)

-- what is at two places stands twice
twice_at : {A : Type 0} (xs : List A) (j k : ℕ) {x : A} → j < k → slice_get xs j ≡ Some x → slice_get xs k ≡ Some x → Twice x xs
twice_at [] j k l e h = absurd (zero_one (cc))
twice_at (y ∷ xs) j zero l e h = absurd (omega arith)
twice_at (y ∷ xs) zero (suc k) l e h = twice_here (cc) (nth_mem xs k h)
twice_at (y ∷ xs) (suc j) (suc k) l e h = twice_later (twice_at xs j k (omega arith) e h)

-- what passes a test still stands twice among all that pass
twice_kept : {A : Type 0} (t : A → Bool) {x : A} {xs : List A} → Twice x xs → t x ≡ true → Twice x (filter t xs)
twice_kept t (twice_here e m) h = rw (← (ap t e), h) (twice_here e (mem_kept t m h))
twice_kept t {x} (twice_later {y = y} {xs = xs} w) h = cond_both (t y) (y ∷ filter t xs) (filter t xs) (Twice x) (λ e. twice_later (twice_kept t w h)) (λ e. twice_kept t w h)

-- in a list of one nothing stands twice
once_alone : {A : Type 0} {x y : A} → Twice x (y ∷ []) → ⊥
once_alone (twice_here e m) = Memᴰ.not-nil m
once_alone (twice_later w) = elim w [ ]

-- where children are made for some constructors, one is made for each
built_child : (tree : Head → Option Node) {c : Head} {cs : List Head} {ns : Nodes} → Memᴰ c cs → children tree cs ≡ Some ns → (n : Node) × (tree c ≡ Some n)
built_child tree (Memᴰ.head {x = d} {xs = cs} h) e = let x = children_is tree d cs e in (x.0, ap tree h ∙ x.2)
built_child tree (Memᴰ.tail {x = d} {xs = cs} m) e = built_child tree m (children_is tree d cs e).3

module _ (S : Signature) where
  -- where a rule stands twice, no tree is built: at a branch it goes twice into one child
  not_built : (n : ℕ) (π : Term) {r : Rule} {rs : List Rule} {t : Node} → Twice r rs → build S n π rs ≡ Some t → ⊥
  not_built zero π w e = zero_one (cc)
  not_built (suc n) π {r} {rs} w e =
      elim (build_is S n π rs e) [
        | inl x ↦ once_alone (subst (Twice r) x.1 w)
        | inr x ↦
            let p = x.0 in
            let c = shared S p rs (first_is (variable_positions π) rs x.2).1 r (twice_mem w) in
            let t = built_child (subtree S n π rs p) (occurring p (twice_mem w) c.1) x.3 in
            not_built n (refined S π p c.0) (twice_kept (has_at p c.0) w (constructor_has p c.0 r c.1)) t.1
      ]

-- if for each rule its function has a fixed tree, no two rules are the same
trees_differ : (B : Book) → ((r : Rule) → Memᴰ r B.rules → (t : Node) × (fixed_tree B r.function ≡ Some t)) → RulesDiffer B
trees_differ B h j k r e g = go (cases_lt j k) (cases_lt k j)
  where
    apart : (i n : ℕ) → i < n → slice_get B.rules i ≡ Some r → slice_get B.rules n ≡ Some r → ⊥
    apart i n l a b =
        let w = twice_kept (λ q. eqb q.function r.function) (twice_at B.rules i n l a b) (eq-eqb r.function r.function refl) in
        not_built B.signature (enough (rules_of B r.function)) (call_of B.signature r.function) w (h r (nth_mem B.rules i a)).1

    go : (j < k) ⊎ (k ≤ j) → (k < j) ⊎ (j ≤ k) → j ≡ k
    go (inl l) m = absurd (apart j k l e g)
    go (inr l) (inl m) = absurd (apart k j m g e)
    go (inr l) (inr m) = omega arith

-- so it is for a draft all of whose functions have their trees
pub rules_differ : (d : Draft) (t : Trees) → AllRooted (book_of (seen d)) t → RulesDiffer (book_of (seen d))
rules_differ d t rooted =
    trees_differ (book_of (seen d)) (λ r m. let x = rooted r.function ((book_rules d).sort_correct r m).left_sorted.0 in (x.tree, x.fixed))
