-- φ's move is a step.
use Rattle.std.proofs.Common.{◌≡◌, ℕ, zero, suc, eqb, List, [], ◌∷◌, ◌++◌, Some, None, Option, sym, refl, ap, ◌∙◌, subst, ap₂, option_map}
use mathlib.Core.List.Memᴰ
use mathlib.Core.List.{Memᴰ}
use Rattle.std.proofs.lemmas.Bool.{cond_both}
use Rattle.numbers.specs.Meaning.{Meaning}
use Rattle.terms.specs.Terms.{Head, cell, symbol, Fn, plus, minus, atmost, own, Term, var, con, fun, Terms, nil, ◌▸◌}
use Rattle.terms.specs.Signatures.{Signature}
use Rattle.terms.specs.Roots.{fn_args}
use Rattle.terms.specs.Sorting.{Environment, Sorted, AllSorted}
use Rattle.terms.specs.Positions.{part, graft}
use Rattle.rewriting.specs.Substitutions.{instance, matching}
use Rattle.rewriting.specs.Rules.{Rule, left_side, Book, rules_of, Linear, SortCorrect, SortCorrectRules, LeftLinear, Proper}
use Rattle.rewriting.specs.Steps.{Cause, by_rule, by_kind, number, sum, difference, comparison, at_numbers, Contracts, a_rule, a_sum, a_difference, a_comparison, StepAt}
use Rattle.rewriting.specs.Trees.{Node, at_rule, branch, Nodes, no_child, child, rules_in, all_rules_in}
use Rattle.rewriting.specs.FixedTree.{same_head, fixed_tree}
use Rattle.rewriting.specs.Strategy.{Found, stuck, contract, inside, look, walk, walk_child, operate, walk_if, Move, from_above, move_at, follow, depth, outermost, find, move_in}
use Rattle.rewriting.specs.Promises.{MovesAreSteps}
use Rattle.rewriting.proofs.Basics.{onward_some, mapped_some, same_head_true}
use Rattle.rewriting.proofs.Lists.{kept_mem, mem_perm}
use Rattle.rewriting.proofs.Positions.{part_here, graft_here, part_join, graft_join}
use Rattle.rewriting.proofs.Sorts.{sorted_part}
use Rattle.rewriting.proofs.Shapes.{Fit, fit_fun, fit_fresh, alike_fit, matches}
use Rattle.rewriting.proofs.Deals.{as_sort, fresh_sorted, graft_sorted, sorted_count, fit_child}
use Rattle.rewriting.proofs.Exactness.{fixed_rule, fixed_is}
use Rattle.rewriting.proofs.Blanks.{over_blank, blank_call}
use Rattle.rewriting.proofs.Nameless.{Nameless, NamelessAll}

-- the arguments of an operation
pub two_arguments : (S : Signature) (e : Environment) (ts : Terms) (j k : ℕ) → AllSorted S e ts (j ∷ k ∷ []) → (x : Term) × (y : Term) × (ts ≡ x ▸ y ▸ nil) × Sorted S e x j × Sorted S e y k
two_arguments S e nil j k h = absurd h
two_arguments S e (x ▸ nil) j k h = absurd h.1
two_arguments S e (x ▸ y ▸ nil) j k h = (x, y, refl, h.0, h.1.0)
two_arguments S e (x ▸ y ▸ z ▸ ts) j k h = absurd h.1.1

cell_alone : (S : Signature) (e : Environment) (n : ℕ) (ts : Terms) (k : ℕ) → Sorted S e (con (cell n) ts) k → con (cell n) ts ≡ number n
cell_alone S e n nil k h = refl
cell_alone S e n (t ▸ ts) k h = absurd h.2

-- an operation contracts at two numbers alone
operate_is : (S : Signature) (e : Environment) (g : ℕ → ℕ → Term) (f : Fn) (x y : Term) (j k : ℕ) → Sorted S e x j → Sorted S e y k → {c : Cause} {u : Term}
    → operate g (fun f (x ▸ y ▸ nil)) ≡ contract c u
    → (m : ℕ) × (n : ℕ) × (x ≡ number m) × (y ≡ number n) × (c ≡ by_kind) × (u ≡ g m n)
operate_is S e g f (var v) y j k h i d = absurd (cc)
operate_is S e g f (fun b xs) y j k h i d = absurd (cc)
operate_is S e g f (con c xs) (var w) j k h i d = absurd (cc)
operate_is S e g f (con c xs) (fun b ys) j k h i d = absurd (cc)
operate_is S e g f (con (cell m) xs) (con (cell n) ys) j k h i d = (m, n, cell_alone S e m xs j h, cell_alone S e n ys k i, cc, cc)
operate_is S e g f (con (cell m) xs) (con (symbol s) ys) j k h i d = absurd (cc)
operate_is S e g f (con (symbol s) xs) (con (cell n) ys) j k h i d = absurd (cc)
operate_is S e g f (con (symbol s) xs) (con (symbol z) ys) j k h i d = absurd (cc)

operation_is : (S : Signature) (e : Environment) (g : ℕ → ℕ → Term) (f : Fn) (ts : Terms) → AllSorted S e ts (0 ∷ 0 ∷ []) → {c : Cause} {u : Term} → operate g (fun f ts) ≡ contract c u
    → (m : ℕ) × (n : ℕ) × (fun f ts ≡ at_numbers f m n) × (c ≡ by_kind) × (u ≡ g m n)
operation_is S e g f ts h {c} {u} d =
    let a = two_arguments S e ts 0 0 h in
    let x = operate_is S e g f a.0 a.1 0 0 a.3 a.4 (subst (λ (xs : Terms). operate g (fun f xs) ≡ contract c u) a.2 d) in
    (x.0, x.1, ap (fun f) a.2 ∙ ap₂ (λ (y z : Term). fun f (y ▸ z ▸ nil)) x.2 x.3, x.4, x.5)

-- a walk down a tree contracts by a rule whose left side the term is an instance of
module _ (S : Signature) (e : Environment) (s : Term) (k : ℕ) (sorted : Sorted S e s k) where
  abbrev ByARule : List Rule → Cause → Term → Type 0
  ByARule rs c u = (r : Rule) × Memᴰ r rs × (c ≡ by_rule r) × (u ≡ instance (matching (left_side r) s) r.right) × (instance (matching (left_side r) s) (left_side r) ≡ s)

  mutual
    walk_is : (n : Node) (π : Term) → Nameless S n π → Sorted S as_sort π k → Fit π s → {c : Cause} {u : Term} → walk n s ≡ contract c u → ByARule (rules_in n) c u
    walk_is (at_rule r) π t g f {c} {u} d =
        let a : c ≡ by_rule r = cc in
        let b : u ≡ instance (matching (left_side r) s) r.right = cc in
        (r, Memᴰ.head refl, a, b, matches t.1 (alike_fit (left_side r) π t.0 f))
    walk_is (branch p ns) π t g f {c} {u} d = go (part s p) refl d (λ b bs q l. walk_child_is ns p t.0 π t.1 t.4 g f b bs q l)
      where
        go : (o : Option Term) → part s p ≡ o → look o p (λ b. walk_child ns b s) ≡ contract c u
            → ((b : Head) (bs : Terms) → part s p ≡ Some (con b bs) → walk_child ns b s ≡ contract c u → ByARule (all_rules_in ns) c u) → ByARule (all_rules_in ns) c u
        go None q h ih = absurd (cc)
        go (Some (var x)) q h ih = absurd (cc)
        go (Some (con b bs)) q h ih = ih b bs q h
        go (Some (fun b bs)) q h ih = absurd (cc)

    walk_child_is : (ns : Nodes) (p : List ℕ) (j : ℕ) (π : Term) → part π p ≡ Some (var j) → NamelessAll S ns p j π → Sorted S as_sort π k → Fit π s → (b : Head) (bs : Terms)
        → part s p ≡ Some (con b bs)
        → {c : Cause} {u : Term} → walk_child ns b s ≡ contract c u → ByARule (all_rules_in ns) c u
    walk_child_is no_child p j π d t g f b bs q h = absurd (cc)
    walk_child_is (child a n ns) p j π d t g f b bs q {c} {u} h =
        cond_both (same_head b a) (walk n s) (walk_child ns b s) (λ (F : Found). F ≡ contract c u → ByARule (rules_in n ++ all_rules_in ns) c u)
        (λ i l.
        let x = fit_child S e f k g sorted p d q in
        let w = walk_is n (graft π p (over_blank S a)) t.1 (graft_sorted S π k p a g d t.0) (subst (λ (z : Head). Fit (graft π p (over_blank S z)) s) (same_head_true b a i) x.1) l in
        (w.0, Memᴰ.append_left (all_rules_in ns) w.1, w.2, w.3, w.4))
        (λ i l. let w = walk_child_is ns p j π d t.2 g f b bs q l in (w.0, Memᴰ.append_right (rules_in n) w.1, w.2, w.3, w.4))
        h

module _ (M : Meaning) (B : Book) (proper : Proper B.signature) (sorted : SortCorrectRules B) (linear : LeftLinear B) (e : Environment) where
  abbrev S : Signature
  S = B.signature

  ok : (f : ℕ) (r : Rule) → Memᴰ r (rules_of B f) → SortCorrect S r × Linear (left_side r)
  ok f r m = let x = kept_mem (λ q. eqb q.function f) B.rules m in (sorted r x.0, linear r x.0)

  own_contracts : (f : ℕ) (ts : Terms) (k : ℕ) → Sorted S e (fun (own f) ts) k → (o : Option Node) → fixed_tree B f ≡ o → {c : Cause} {u : Term}
      → walk_if o (fun (own f) ts) ≡ contract c u → Contracts M B c (fun (own f) ts) u
  own_contracts f ts k h None q d = absurd (cc)
  own_contracts f ts k h (Some n) q {c} {u} d =
      let r = fixed_rule B f q in
      let x = fixed_is B f (ok f) r.0 r.1 n q in
      let y = walk_is S e (fun (own f) ts) k h n (blank_call S f) x.0 (h.0, h.1, fresh_sorted S (fn_args S (own f))) (fit_fun (fit_fresh (fn_args S (own f)) ts (sorted_count S e ts (fn_args S (own f)) h.2))) d in
      subst (λ (z : Cause). Contracts M B z (fun (own f) ts) u) (sym y.2)
      (a_rule y.0 (matching (left_side y.0) (fun (own f) ts)) (kept_mem (λ q. eqb q.function f) B.rules (mem_perm x.2 y.1)).0 (sym y.4) y.3)

  find_contracts : (t : Term) (k : ℕ) → Sorted S e t k → {c : Cause} {u : Term} → find M B t ≡ contract c u → Contracts M B c t u
  find_contracts (fun plus ts) k h {c} {u} d =
      let p = proper.built_in_first 0 _ refl in
      let x = operation_is S e (sum M) plus ts (rw p at h.2) d in
      rw x.3 (a_sum x.0 x.1 x.2 x.4)
  find_contracts (fun minus ts) k h {c} {u} d =
      let p = proper.built_in_first 1 _ refl in
      let x = operation_is S e (difference M) minus ts (rw p at h.2) d in
      rw x.3 (a_difference x.0 x.1 x.2 x.4)
  find_contracts (fun atmost ts) k h {c} {u} d =
      let p = proper.built_in_first 2 _ refl in
      let x = operation_is S e (comparison M) atmost ts (rw p at h.2) d in
      rw x.3 (a_comparison x.0 x.1 x.2 x.4)
  find_contracts (fun (own f) ts) k h d = own_contracts f ts k h (fixed_tree B f) refl d
  find_contracts t k h d = absurd (cc)

  -- a move is a step
  abbrev IsStep : Term → Move → Type 0
  IsStep t m = StepAt M B m.position m.cause t m.next

  step_above : (t : Term) (p : List ℕ) {s : Term} (m : Move) → part t p ≡ Some s → IsStep s m → IsStep t (from_above t p m)
  step_above t p m d x = record {
    redex = x.redex;
    contractum = x.contractum;
    there = part_join t p m.position d ∙ x.there;
    contracts = x.contracts;
    gives = ap (graft t p) x.gives ∙ sym (graft_join t p m.position x.contractum d);
  }

  move_at_step : (t : Term) (k : ℕ) (p : List ℕ) (go : Term → Option Move) → Sorted S e t k → ((s : Term) (j : ℕ) → Sorted S e s j → (m : Move) → go s ≡ Some m → IsStep s m)
      → (m : Move) → move_at t p go ≡ Some m → IsStep t m
  move_at_step t k p go h f m d =
      let x = onward_some (part t p) (λ s. option_map (from_above t p) (go s)) d in
      let y = mapped_some (from_above t p) (go x.0) x.2 in
      let z = sorted_part S e t k p h x.1 in
      subst (IsStep t) y.2 (step_above t p y.0 x.1 (f x.0 z.0 z.1 y.0 y.1))

  move_in_step : (n : ℕ) (t : Term) (k : ℕ) → Sorted S e t k → (m : Move) → move_in M B n t ≡ Some m → IsStep t m
  move_in_step zero t k h m d = absurd (cc)
  move_in_step (suc n) t k h m d = go (find M B t) refl d (move_in_step n)
    where
      go : (F : Found) → find M B t ≡ F → follow t F (move_in M B n) ≡ Some m → ((s : Term) (j : ℕ) → Sorted S e s j → (w : Move) → move_in M B n s ≡ Some w → IsStep s w) → IsStep t m
      go stuck q l ih = absurd (cc)
      go (contract c u) q l ih =
          let w : Move = record { position = []; cause = c; next = u } in
          let i : w ≡ m = cc in
          subst (IsStep t) i (record { redex = t; contractum = u; there = part_here t; contracts = find_contracts t k h q; gives = sym (graft_here t u) })
      go (inside p) q l ih = move_at_step t k p (move_in M B n) h ih m l

pub moves_are_steps : MovesAreSteps
moves_are_steps M B proper sorted linear e t k h m d =
    let x = onward_some (outermost t) (λ p. move_at t p (λ s. move_in M B (depth s) s)) d in
    move_at_step M B proper sorted linear e t k x.0 (λ s. move_in M B (depth s) s) h (λ s j. move_in_step M B proper sorted linear e (depth s) s j) m x.2
