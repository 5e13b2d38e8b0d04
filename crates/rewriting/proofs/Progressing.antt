-- With complete trees a closed sort-correct term is a value or φ has a move.
use Rattle.std.proofs.Common.{◌≡◌, ℕ, zero, suc, ◌≤◌, eqb, ◌⊎◌, List, [], ◌∷◌, Some, sym, refl, subst, inl, inr, arith}
use mathlib.Core.List.Memᴰ
use mathlib.Core.List.{Memᴰ}
use Rattle.std.proofs.lemmas.Bool.{cond_both}
use Rattle.numbers.specs.Meaning.{Meaning}
use Rattle.terms.specs.Terms.{Head, cell, symbol, Fn, plus, minus, atmost, own, Term, var, con, fun, Terms, nil, ◌▸◌, Closed, AllClosed, Value, Values}
use Rattle.terms.specs.Signatures.{Signature}
use Rattle.terms.specs.Roots.{fn_args}
use Rattle.terms.specs.Sorting.{Sorted, AllSorted, closed}
use Rattle.terms.specs.Positions.{part, part_of, graft}
use Rattle.rewriting.specs.Rules.{Rule, left_side, Book, rules_of, Linear, SortCorrect, SortCorrectRules, Proper}
use Rattle.rewriting.specs.Steps.{Cause, sum, difference, comparison}
use Rattle.rewriting.specs.Trees.{Node, at_rule, branch, Nodes, no_child, child, heads}
use Rattle.rewriting.specs.FixedTree.{same_head, fixed_tree}
use Rattle.rewriting.specs.Strategy.{Found, contract, inside, walk, walk_child, operate, walk_if, Move, from_above, follow, depth, outermost, first_outermost, find, move_in, φ}
use Rattle.rewriting.specs.Promises.{HasCompleteTrees, Progress}
use Rattle.rewriting.proofs.Basics.{same_head_true, mem_other}
use Rattle.rewriting.proofs.Lists.{kept_mem, perm_mem}
use Rattle.rewriting.proofs.Sorts.{sorted_part, sorted_closed}
use Rattle.rewriting.proofs.Shapes.{Fit, fit_fun, fit_fresh, fit_part}
use Rattle.rewriting.proofs.Deals.{as_sort, fresh_sorted, graft_sorted, sorted_count, fit_sorted, fit_child, tree_fits, tree_deals}
use Rattle.rewriting.proofs.Opening.{tree_whole, whole_rule}
use Rattle.rewriting.proofs.Exactness.{fixed_is, fixed_built, fixed_complete}
use Rattle.rewriting.proofs.Runs.{value_calm}
use Rattle.rewriting.proofs.Moves.{depths_part, none_at_value}
use Rattle.rewriting.proofs.Stepping.{two_arguments}
use Rattle.rewriting.proofs.Blanks.{over_blank, blank_call, fresh}
use Rattle.rewriting.proofs.Nameless.{tree_nameless, complete_nameless, Nameless, NamelessAll, NamelessComplete, NamelessAllComplete}

-- the leftmost outermost call, where there is one
mutual
  value_or_call : (t : Term) → Closed t → Value t ⊎ ((p : List ℕ) × (f : Fn) × (ts : Terms) × (outermost t ≡ Some p) × (part t p ≡ Some (fun f ts)))
  value_or_call (var x) h = absurd h
  value_or_call (con c ts) h = elim (values_or_call ts h) [ inl v ↦ inl v | inr x ↦ inr (suc x.0 ∷ x.1, x.2, x.3, x.4, x.5) ]
  value_or_call (fun f ts) h = inr ([], f, ts, refl, refl)

  values_or_call : (ts : Terms) → AllClosed ts
      → Values ts ⊎ ((i : ℕ) × (p : List ℕ) × (f : Fn) × (us : Terms) × (first_outermost ts ≡ Some (suc i ∷ p)) × (part_of ts (suc i) p ≡ Some (fun f us)))
  values_or_call nil h = inl tt
  values_or_call (t ▸ ts) h = go (value_or_call t h.0) (values_or_call ts h.1)
    where
      go : Value t ⊎ ((p : List ℕ) × (f : Fn) × (us : Terms) × (outermost t ≡ Some p) × (part t p ≡ Some (fun f us)))
          → Values ts ⊎ ((i : ℕ) × (p : List ℕ) × (f : Fn) × (us : Terms) × (first_outermost ts ≡ Some (suc i ∷ p)) × (part_of ts (suc i) p ≡ Some (fun f us)))
          → (Value t × Values ts) ⊎ ((i : ℕ) × (p : List ℕ) × (f : Fn) × (us : Terms) × (first_outermost (t ▸ ts) ≡ Some (suc i ∷ p)) × (part_of (t ▸ ts) (suc i) p ≡ Some (fun f us)))
      go (inl v) (inl vs) = inl (v, vs)
      go (inl v) (inr x) = inr (suc x.0, x.1, x.2, x.3, rw (value_calm t v, x.4) refl, x.5)
      go (inr x) q = inr (0, x.0, x.1, x.2, rw x.3 refl, x.4)

-- a call finds a way on: it contracts, or there is a call inside
abbrev Goes_on : Term → Found → Type 0
Goes_on s F = ((c : Cause) × (u : Term) × (F ≡ contract c u)) ⊎ ((i : ℕ) × (q : List ℕ) × (g : Fn) × (us : Terms) × (F ≡ inside (i ∷ q)) × (part s (i ∷ q) ≡ Some (fun g us)))

module _ (S : Signature) (f : Fn) (ts : Terms) (k : ℕ) (sorted : Sorted S closed (fun f ts) k) where
  abbrev s : Term
  s = fun f ts

  mutual
    walk_goes : (n : Node) (ps : Terms) → Nameless S n (fun f ps) → NamelessComplete S n (fun f ps) → Sorted S as_sort (fun f ps) k → Fit (fun f ps) s → Goes_on s (walk n s)
    walk_goes (at_rule r) ps t c g h = inl (_, _, refl)
    walk_goes (branch [] ns) ps t c g h = absurd (cc t.1)
    walk_goes (branch (i ∷ q) ns) ps t c g h =
        let x = fit_part h (i ∷ q) t.1 in
        go x.0 x.1 (λ b bs e m. walk_child_goes ns i q t.0 ps t.1 t.4 c.1 g h b bs e m)
      where
        go : (x : Term) → part s (i ∷ q) ≡ Some x → ((b : Head) (bs : Terms) → part s (i ∷ q) ≡ Some (con b bs) → Memᴰ b (heads ns) → Goes_on s (walk_child ns b s))
            → Goes_on s (walk (branch (i ∷ q) ns) s)
        go (var v) e ih = let y = fit_sorted S closed h k g sorted (i ∷ q) t.1 e in absurd (cc)
        go (con b bs) e ih = let y = fit_child S closed h k g sorted (i ∷ q) t.1 e in rw e (ih b bs e (c.0 b t.0 t.1 y.0))
        go (fun a us) e ih = inr (i, q, a, us, rw e refl, e)

    walk_child_goes : (ns : Nodes) (i : ℕ) (q : List ℕ) (j : ℕ) (ps : Terms) → part (fun f ps) (i ∷ q) ≡ Some (var j) → NamelessAll S ns (i ∷ q) j (fun f ps)
        → NamelessAllComplete S ns (i ∷ q) (fun f ps)
        → Sorted S as_sort (fun f ps) k → Fit (fun f ps) s → (b : Head) (bs : Terms) → part s (i ∷ q) ≡ Some (con b bs) → Memᴰ b (heads ns) → Goes_on s (walk_child ns b s)
    walk_child_goes no_child i q j ps d t c g h b bs e m = absurd (Memᴰ.not-nil m)
    walk_child_goes (child a n ns) i q j ps d t c g h b bs e m =
        cond_both (same_head b a) (walk n s) (walk_child ns b s) (Goes_on s)
        (λ x. walk_goes n _ t.1 c.0 (graft_sorted S (fun f ps) k (i ∷ q) a g d t.0)
        (subst (λ (z : Head). Fit (graft (fun f ps) (i ∷ q) (over_blank S z)) s) (same_head_true b a x) (fit_child S closed h k g sorted (i ∷ q) d e).1))
        (λ x. walk_child_goes ns i q j ps d t.2 c.1 g h b bs e (mem_other x m))

-- numbers are cells or calls
module _ (S : Signature) (proper : Proper S) where
  number_is : (x : Term) → Sorted S closed x 0 → ((n : ℕ) × (xs : Terms) × (x ≡ con (cell n) xs)) ⊎ ((f : Fn) × (xs : Terms) × (x ≡ fun f xs))
  number_is (var v) h = absurd (cc)
  number_is (con (cell n) xs) h = inl (n, xs, refl)
  number_is (con (symbol z) xs) h = absurd (proper.cells_alone z h.0 (sym h.1))
  number_is (fun f xs) h = inr (f, xs, refl)

  operation_goes : (g : ℕ → ℕ → Term) (f : Fn) (ts : Terms) → AllSorted S closed ts (0 ∷ 0 ∷ []) → Goes_on (fun f ts) (operate g (fun f ts))
  operation_goes g f ts h =
      let a = two_arguments S closed ts 0 0 h in
      subst (λ (us : Terms). Goes_on (fun f us) (operate g (fun f us))) (sym a.2) (go a.0 a.1 (number_is a.0 a.3) (number_is a.1 a.4))
    where
      Is : Term → Type 0
      Is x = ((n : ℕ) × (xs : Terms) × (x ≡ con (cell n) xs)) ⊎ ((b : Fn) × (xs : Terms) × (x ≡ fun b xs))

      go : (x y : Term) → Is x → Is y → Goes_on (fun f (x ▸ y ▸ nil)) (operate g (fun f (x ▸ y ▸ nil)))
      go x y (inl a) (inl b) = rw (a.2, b.2) (inl (_, _, refl))
      go x y (inl a) (inr b) = rw (a.2, b.2) (inr (2, [], b.0, b.1, refl, refl))
      go x y (inr a) q = rw a.2 (inr (1, [], a.0, a.1, refl, refl))

module _ (M : Meaning) (B : Book) (proper : Proper B.signature) (sorted : SortCorrectRules B) (trees : HasCompleteTrees B) where
  abbrev S : Signature
  S = B.signature

  own_goes : (f : ℕ) (ts : Terms) (k : ℕ) → Sorted S closed (fun (own f) ts) k → Goes_on (fun (own f) ts) (walk_if (fixed_tree B f) (fun (own f) ts))
  own_goes f ts k h =
      let x = trees f h.0 in
      let ok : (q : Rule) → Memᴰ q (rules_of B f) → SortCorrect S q × Linear (left_side q) =
      (λ q m. (sorted q (kept_mem (λ r. eqb r.function f) B.rules m).0, (tree_fits S x.0 (blank_call S f) (tree_nameless S f x.0 x.1.0) q (perm_mem x.1.1 m)).1)) in
      let r = whole_rule S x.0 (blank_call S f) (rules_of B f) (tree_deals S x.0 (blank_call S f) (rules_of B f) (tree_nameless S f x.0 x.1.0) x.1.1) (tree_whole S x.0 (blank_call S f) (tree_nameless S f x.0 x.1.0) (complete_nameless S f x.0 x.1.0 x.2)) in
      let n = fixed_built B f ok r.0 r.1 x.0 x.1 in
      rw n.1 (walk_goes S (own f) ts k h n.0 (fresh (fn_args S (own f))) (fixed_is B f ok r.0 r.1 n.0 n.1).0 (fixed_complete B f ok r.0 r.1 x.0 x.1 x.2 n.0 n.1)
      (h.0, h.1, fresh_sorted S (fn_args S (own f))) (fit_fun (fit_fresh (fn_args S (own f)) ts (sorted_count S closed ts (fn_args S (own f)) h.2))))

  find_goes : (f : Fn) (ts : Terms) (k : ℕ) → Sorted S closed (fun f ts) k → Goes_on (fun f ts) (find M B (fun f ts))
  find_goes plus ts k h = let p = proper.built_in_first 0 _ refl in operation_goes S proper (sum M) plus ts (rw p at h.2)
  find_goes minus ts k h = let p = proper.built_in_first 1 _ refl in operation_goes S proper (difference M) minus ts (rw p at h.2)
  find_goes atmost ts k h = let p = proper.built_in_first 2 _ refl in operation_goes S proper (comparison M) atmost ts (rw p at h.2)
  find_goes (own f) ts k h = own_goes f ts k h

  call_moves : (n : ℕ) (f : Fn) (ts : Terms) (k : ℕ) → Sorted S closed (fun f ts) k → depth (fun f ts) ≤ n → (m : Move) × (move_in M B n (fun f ts) ≡ Some m)
  call_moves zero f ts k h l = absurd (omega arith)
  call_moves (suc n) f ts k h l = go (find_goes f ts k h) (λ g us j. call_moves n g us j)
    where
      go : Goes_on (fun f ts) (find M B (fun f ts)) → ((g : Fn) (us : Terms) (j : ℕ) → Sorted S closed (fun g us) j → depth (fun g us) ≤ n → (m : Move) × (move_in M B n (fun g us) ≡ Some m))
          → (m : Move) × (follow (fun f ts) (find M B (fun f ts)) (move_in M B n) ≡ Some m)
      go (inl x) ih = (record { position = []; cause = x.0; next = x.1 }, rw x.2 refl)
      go (inr x) ih =
          let y = sorted_part S closed (fun f ts) k (x.0 ∷ x.1) h x.5 in
          let d = depths_part ts x.0 x.1 x.5 in
          let z = ih x.2 x.3 y.0 y.1 (omega arith) in
          (from_above (fun f ts) (x.0 ∷ x.1) z.0, rw (x.4, x.5, z.1) refl)

  moves : (t : Term) (k : ℕ) → Sorted S closed t k → Value t ⊎ ((m : Move) × (φ M B t ≡ Some m))
  moves t k h = go (value_or_call t (sorted_closed S t k h))
    where
      go : Value t ⊎ ((p : List ℕ) × (f : Fn) × (ts : Terms) × (outermost t ≡ Some p) × (part t p ≡ Some (fun f ts))) → Value t ⊎ ((m : Move) × (φ M B t ≡ Some m))
      go (inl v) = inl v
      go (inr x) =
          let y = sorted_part S closed t k x.0 h x.4 in
          let z = call_moves (depth (fun x.1 x.2)) x.1 x.2 y.0 y.1 (omega arith) in
          inr (from_above t x.0 z.0, rw (x.3, x.4, z.1) refl)

pub progress : Progress
progress M B proper sorted trees t k h = (moves M B proper sorted trees t k h, none_at_value M B t)
