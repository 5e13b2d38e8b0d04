-- The fixed tree is exact.
use Rattle.std.proofs.Common.{◌≡◌, ℕ, ◌≤◌, eqb, List, [], ◌∷◌, Some, sym, refl, ap, subst, arith, eqb-true}
use mathlib.Core.List.{Memᴰ}
use Rattle.std.proofs.lemmas.List.Sums.{sum_by-cons}
use Rattle.terms.specs.Terms.{own, Term}
use Rattle.terms.specs.Signatures.{Signature}
use Rattle.terms.specs.Roots.{call, Stands, fn_args}
use Rattle.terms.specs.Sorting.{Sorted, fn_sort}
use Rattle.rewriting.specs.Rules.{Rule, left_side, Book, rules_of, Linear, SortCorrect}
use Rattle.rewriting.specs.Trees.{Node, rules_in, Permutation, call_of, TreeFor, CompleteFor}
use Rattle.rewriting.specs.FixedTree.{size, enough, build, fixed_tree}
use Rattle.rewriting.specs.Promises.{Exact, FixedTreeExact}
use Rattle.rewriting.proofs.Lists.{kept_mem}
use Rattle.rewriting.proofs.Shapes.{Fit, fit_fun, fit_fresh, sizes_fresh}
use Rattle.rewriting.proofs.Deals.{as_sort, fresh_sorted, sorted_count, AllReady, Deals, tree_deals}
use Rattle.rewriting.proofs.Blanks.{blank_call, bare, bare_call, formed_call}
use Rattle.rewriting.proofs.Nameless.{Nameless, NamelessComplete, tree_nameless, nameless_tree, complete_nameless, nameless_is_complete}
use Rattle.rewriting.proofs.Opening.{Whole, tree_whole}
use Rattle.rewriting.proofs.Building.{Bounded, build_tree, builds, build_complete, Pattern}

pub mem_enough : {r : Rule} {rs : List Rule} → Memᴰ r rs → size (left_side r) ≤ enough rs
mem_enough (Memᴰ.head {x = q} {xs = qs} e) =
    let h = ap (λ (z : Rule). size (left_side z)) e in
    let a = sum_by-cons (λ (z : Rule). size (left_side z)) q qs in
    omega arith
mem_enough (Memᴰ.tail {x = q} {xs = qs} m) =
    let h = mem_enough m in
    let a = sum_by-cons (λ (z : Rule). size (left_side z)) q qs in
    omega arith

-- where the fixed tree is built, there is a rule
built_rule : (S : Signature) (π : Term) (rs : List Rule) {n : Node} → build S (enough rs) π rs ≡ Some n → (r : Rule) × Memᴰ r rs
built_rule S π [] e = absurd (cc)
built_rule S π (r ∷ rs) e = (r, Memᴰ.head refl)

pub fixed_rule : (B : Book) (f : ℕ) {n : Node} → fixed_tree B f ≡ Some n → (r : Rule) × Memᴰ r (rules_of B f)
fixed_rule B f e = built_rule B.signature (call_of B.signature f) (rules_of B f) e

module _ (B : Book) (f : ℕ) (ok : (r : Rule) → Memᴰ r (rules_of B f) → SortCorrect B.signature r × Linear (left_side r)) where
  abbrev S : Signature
  S = B.signature

  abbrev rs : List Rule
  rs = rules_of B f

  -- the pattern with names, and without
  abbrev π : Term
  π = call_of S f

  abbrev ν : Term
  ν = blank_call S f

  own_rule : (r : Rule) → Memᴰ r rs → r.function ≡ f
  own_rule r m = eqb-true r.function f (kept_mem (λ q. eqb q.function f) B.rules m).1

  pub ready : AllReady S ν (fn_sort S (own f)) rs
  ready r m =
      let c = (ok r m).0 in
      let h = c.left_sorted in
      let e = own_rule r m in (
        subst (λ (g : ℕ). Fit (blank_call S g) (left_side r)) e (fit_fun (fit_fresh (fn_args S (own r.function)) r.left (sorted_count S c.sorts r.left (fn_args S (own r.function)) h.2))),
        (ok r m).1,
        c.sorts,
        subst (λ (g : ℕ). Sorted S c.sorts (left_side r) (fn_sort S (own g))) e h,
      )

  pub pattern_sorted : (r : Rule) → Memᴰ r rs → Sorted S as_sort ν (fn_sort S (own f))
  pattern_sorted r m = (subst (λ (g : ℕ). Stands S (call (own g))) (own_rule r m) (ok r m).0.left_sorted.0, refl, fresh_sorted S (fn_args S (own f)))

  pub bounded : Bounded S (enough rs) ν rs
  bounded r m = let h = mem_enough m in let z = sizes_fresh (fn_args S (own f)) in omega arith

  -- what is said of the pattern without names
  pub unnamed : (P : Term → Type 0) → P ν → P (bare S π)
  unnamed P h = subst P (sym (bare_call S f)) h

  pub call_pattern : (r : Rule) → Memᴰ r rs → Pattern S (fn_sort S (own f)) π rs
  call_pattern r m = record {
    formed = formed_call S f;
    sorted = unnamed (λ ρ. Sorted S as_sort ρ (fn_sort S (own f))) (pattern_sorted r m);
    fitting = unnamed (λ ρ. AllReady S ρ (fn_sort S (own f)) rs) ready;
    remaining = (r, m);
  }

  -- the fixed tree is a tree, and deals the rules out
  pub fixed_is : (r : Rule) → Memᴰ r rs → (n : Node) → fixed_tree B f ≡ Some n → Nameless S n ν × Deals S n ν rs × Permutation (rules_in n) rs
  fixed_is r m n e =
      subst (λ (ρ : Term). Nameless S n ρ × Deals S n ρ rs × Permutation (rules_in n) rs) (bare_call S f)
      (build_tree S (enough rs) π (fn_sort S (own f)) rs n (call_pattern r m) e)

  -- some tree is there: so the fixed one is
  pub fixed_built : (r : Rule) → Memᴰ r rs → (n : Node) → TreeFor B f n → (t : Node) × (fixed_tree B f ≡ Some t)
  fixed_built r m n t =
      builds S (enough rs) π (fn_sort S (own f)) rs (call_pattern r m) (unnamed (λ ρ. Bounded S (enough rs) ρ rs) bounded) n
      (unnamed (λ ρ. Deals S n ρ rs) (tree_deals S n ν rs (tree_nameless S f n t.0) t.1))

  pub fixed_complete : (r : Rule) → Memᴰ r rs → (n : Node) → TreeFor B f n → CompleteFor B f n → (t : Node) → fixed_tree B f ≡ Some t → NamelessComplete S t ν
  fixed_complete r m n t c s e =
      subst (NamelessComplete S s) (bare_call S f)
      (build_complete S (enough rs) π (fn_sort S (own f)) rs s (call_pattern r m) n
      (unnamed (λ ρ. Deals S n ρ rs) (tree_deals S n ν rs (tree_nameless S f n t.0) t.1))
      (unnamed (Whole S n) (tree_whole S n ν (tree_nameless S f n t.0) (complete_nameless S f n t.0 c))) e)

  exact : (r : Rule) → Memᴰ r rs → Exact B f
  exact r m =
      record {
        is_tree = is;
        some_tree = ((λ t. fixed_built r m t.0 t.1), λ t. (t.0, is t.0 t.1));
        some_complete = (
          (λ t.
              let x = fixed_built r m t.0 t.1 in
              (x.0, x.1, nameless_is_complete S f x.0 (is x.0 x.1).0 (fixed_complete r m t.0 t.1 t.2 x.0 x.1))),
          (λ t. (t.0, is t.0 t.1, t.2)),
        );
      }
    where
      is : (n : Node) → fixed_tree B f ≡ Some n → TreeFor B f n
      is n e = let x = fixed_is r m n e in (nameless_tree S f n x.0, x.2)

pub fixed_tree_exact : FixedTreeExact
fixed_tree_exact B f ok r m = exact B f ok r m
