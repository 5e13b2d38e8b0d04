-- Steps keep a closed term closed, of its sort, and its cells lawful.
use Rattle.std.proofs.Common.{◌≡◌, ℕ, zero, suc, Bool, true, false, List, [], ◌∷◌, Some, refl, ◌∙◌, subst, arith}
use Rattle.numbers.specs.Meaning.{Meaning, Sound}
use Rattle.terms.specs.Terms.{own, Term, var, con, fun, Terms, nil, ◌▸◌, Closed, AllClosed}
use Rattle.terms.specs.Signatures.{Signature}
use Rattle.terms.specs.Roots.{head_args, fn_args}
use Rattle.terms.specs.Sorting.{Environment, Sorted, AllSorted, closed, fn_sort, Lawful, AllLawful}
use Rattle.terms.specs.Positions.{part, part_of, graft, graft_in}
use Rattle.rewriting.specs.Substitutions.{Substitution, instance, instances}
use Rattle.rewriting.specs.Rules.{left_side, Book, SortCorrectRules, LawfulRules, Proper}
use Rattle.rewriting.specs.Steps.{Cause, Contracts, a_rule, a_sum, a_difference, a_comparison, Step, number, truth}
use Rattle.rewriting.specs.Promises.{Ground, StepsKeepSorts}
use Rattle.rewriting.proofs.Occurrences.{Each, Eachs, each, part_variable, variable_part, part_instance}

-- a part has a sort, and another term of that sort may take its place
module _ (S : Signature) (e : Environment) where
  mutual
    pub sorted_part : (t : Term) (k : ℕ) (p : List ℕ) {s : Term} → Sorted S e t k → part t p ≡ Some s
        → (j : ℕ) × Sorted S e s j × ((u : Term) → Sorted S e u j → Sorted S e (graft t p u) k)
    sorted_part (var v) k [] {s} h d = let q : var v ≡ s = cc in (k, subst (λ (y : Term). Sorted S e y k) q h, λ u g. g)
    sorted_part (var v) k (i ∷ p) h d = absurd (cc)
    sorted_part (con c ts) k [] {s} h d = let q : con c ts ≡ s = cc in (k, subst (λ (y : Term). Sorted S e y k) q h, λ u g. g)
    sorted_part (con c ts) k (i ∷ p) h d = let x = all_sorted_part ts (head_args S c) i p h.2 d in (x.0, x.1, λ u g. (h.0, h.1, x.2 u g))
    sorted_part (fun f ts) k [] {s} h d = let q : fun f ts ≡ s = cc in (k, subst (λ (y : Term). Sorted S e y k) q h, λ u g. g)
    sorted_part (fun f ts) k (i ∷ p) h d = let x = all_sorted_part ts (fn_args S f) i p h.2 d in (x.0, x.1, λ u g. (h.0, h.1, x.2 u g))

    all_sorted_part : (ts : Terms) (ks : List ℕ) (i : ℕ) (p : List ℕ) {s : Term} → AllSorted S e ts ks → part_of ts i p ≡ Some s
        → (j : ℕ) × Sorted S e s j × ((u : Term) → Sorted S e u j → AllSorted S e (graft_in ts i p u) ks)
    all_sorted_part (t ▸ ts) [] i p h d = absurd h
    all_sorted_part (t ▸ ts) (k ∷ ks) (suc zero) p h d = let x = sorted_part t k p h.0 d in (x.0, x.1, λ u g. (x.2 u g, h.1))
    all_sorted_part (t ▸ ts) (k ∷ ks) (suc (suc i)) p h d = let x = all_sorted_part ts ks (suc i) p h.1 d in (x.0, x.1, λ u g. (h.0, x.2 u g))
    all_sorted_part ts ks i p h d = absurd (cc)

module _ (lawful : ℕ → Bool) where
  mutual
    pub lawful_part : (t : Term) (p : List ℕ) {s : Term} → Lawful lawful t → part t p ≡ Some s → Lawful lawful s × ((u : Term) → Lawful lawful u → Lawful lawful (graft t p u))
    lawful_part (var v) [] {s} h d = let q : var v ≡ s = cc in (subst (Lawful lawful) q h, λ u g. g)
    lawful_part (var v) (i ∷ p) h d = absurd (cc)
    lawful_part (con c ts) [] {s} h d = let q : con c ts ≡ s = cc in (subst (Lawful lawful) q h, λ u g. g)
    lawful_part (con c ts) (i ∷ p) h d = let x = all_lawful_part ts i p h.1 d in (x.0, λ u g. (h.0, x.1 u g))
    lawful_part (fun f ts) [] {s} h d = let q : fun f ts ≡ s = cc in (subst (Lawful lawful) q h, λ u g. g)
    lawful_part (fun f ts) (i ∷ p) h d = all_lawful_part ts i p h d

    all_lawful_part : (ts : Terms) (i : ℕ) (p : List ℕ) {s : Term} → AllLawful lawful ts → part_of ts i p ≡ Some s
        → Lawful lawful s × ((u : Term) → Lawful lawful u → AllLawful lawful (graft_in ts i p u))
    all_lawful_part (t ▸ ts) (suc zero) p h d = let x = lawful_part t p h.0 d in (x.0, λ u g. (x.1 u g, h.1))
    all_lawful_part (t ▸ ts) (suc (suc i)) p h d = let x = all_lawful_part ts (suc i) p h.1 d in (x.0, λ u g. (h.0, x.1 u g))
    all_lawful_part ts i p h d = absurd (cc)

  mutual
    instance_lawful : (σ : Substitution) (t : Term) → Lawful lawful t → Each (λ x. Lawful lawful (σ x)) t → Lawful lawful (instance σ t)
    instance_lawful σ (var v) h g = g
    instance_lawful σ (con c ts) h g = (h.0, instances_lawful σ ts h.1 g)
    instance_lawful σ (fun f ts) h g = instances_lawful σ ts h g

    instances_lawful : (σ : Substitution) (ts : Terms) → AllLawful lawful ts → Eachs (λ x. Lawful lawful (σ x)) ts → AllLawful lawful (instances σ ts)
    instances_lawful σ nil h g = tt
    instances_lawful σ (t ▸ ts) h g = (instance_lawful σ t h.0 g.0, instances_lawful σ ts h.1 g.1)

module _ (S : Signature) where
  -- what is sort-correct without variables' sorts is closed
  mutual
    pub sorted_closed : (t : Term) (k : ℕ) → Sorted S closed t k → Closed t
    sorted_closed (var v) k h = cc
    sorted_closed (con c ts) k h = all_sorted_closed ts (head_args S c) h.2
    sorted_closed (fun f ts) k h = all_sorted_closed ts (fn_args S f) h.2

    all_sorted_closed : (ts : Terms) (ks : List ℕ) → AllSorted S closed ts ks → AllClosed ts
    all_sorted_closed nil ks h = tt
    all_sorted_closed (t ▸ ts) [] h = absurd h
    all_sorted_closed (t ▸ ts) (k ∷ ks) h = (sorted_closed t k h.0, all_sorted_closed ts ks h.1)

  module _ (e f : Environment) (σ : Substitution) where
    -- σ gives the variable x a term of its sort
    abbrev Due : ℕ → Type 0
    Due x = (j : ℕ) × (e x ≡ Some j) × Sorted S f (σ x) j

    mutual
      instance_due : (l : Term) (k : ℕ) → Sorted S e l k → Sorted S f (instance σ l) k → (p : List ℕ) {x : ℕ} → part l p ≡ Some (var x) → Due x
      instance_due (var v) k h g [] {x} d = let q : v ≡ x = cc in subst Due q (k, h, g)
      instance_due (var v) k h g (i ∷ p) d = absurd (cc)
      instance_due (con c ls) k h g [] {x} d = absurd (let q : con c ls ≡ var x = cc in cc)
      instance_due (con c ls) k h g (i ∷ p) d = instances_due ls (head_args S c) h.2 g.2 i p d
      instance_due (fun c ls) k h g [] {x} d = absurd (let q : fun c ls ≡ var x = cc in cc)
      instance_due (fun c ls) k h g (i ∷ p) d = instances_due ls (fn_args S c) h.2 g.2 i p d

      instances_due : (ls : Terms) (ks : List ℕ) → AllSorted S e ls ks → AllSorted S f (instances σ ls) ks → (i : ℕ) (p : List ℕ) {x : ℕ} → part_of ls i p ≡ Some (var x) → Due x
      instances_due (l ▸ ls) [] h g i p d = absurd h
      instances_due (l ▸ ls) (k ∷ ks) h g (suc zero) p d = instance_due l k h.0 g.0 p d
      instances_due (l ▸ ls) (k ∷ ks) h g (suc (suc i)) p d = instances_due ls ks h.1 g.1 (suc i) p d
      instances_due ts ks h g i p d = absurd (cc)

    mutual
      instance_sorted : (r : Term) (k : ℕ) → Sorted S e r k → Each Due r → Sorted S f (instance σ r) k
      instance_sorted (var v) k h g = let a = g.1 in let q : g.0 ≡ k = cc in subst (Sorted S f (σ v)) q g.2
      instance_sorted (con c ts) k h g = (h.0, h.1, instances_sorted ts (head_args S c) h.2 g)
      instance_sorted (fun c ts) k h g = (h.0, h.1, instances_sorted ts (fn_args S c) h.2 g)

      instances_sorted : (rs : Terms) (ks : List ℕ) → AllSorted S e rs ks → Eachs Due rs → AllSorted S f (instances σ rs) ks
      instances_sorted nil [] h g = h
      instances_sorted nil (k ∷ ks) h g = h
      instances_sorted (r ▸ rs) [] h g = h
      instances_sorted (r ▸ rs) (k ∷ ks) h g = (instance_sorted r k h.0 g.0, instances_sorted rs ks h.1 g.1)

module _ (M : Meaning) (B : Book) (sound : Sound M) (proper : Proper B.signature) (sorted : SortCorrectRules B) (lawful : LawfulRules M.lawful B) where
  abbrev S : Signature
  S = B.signature

  -- an operation's number, lawful, of the sort that the operation has
  answer_fits : (a j : ℕ) → M.lawful a ≡ true → j ≡ 0 → Sorted S closed (number a) j × Lawful M.lawful (number a)
  answer_fits a j h e = ((sound.cells a h, e, tt), (h, tt))

  truth_fits : (b : Bool) (j : ℕ) → j ≡ 1 → Sorted S closed (truth b) j × Lawful M.lawful (truth b)
  truth_fits true j e = let d = proper.built_in_first 3 _ refl in (((_, d, refl, omega arith), e ∙ rw d refl, rw d tt), (tt, tt))
  truth_fits false j e = let d = proper.built_in_first 4 _ refl in (((_, d, refl, omega arith), e ∙ rw d refl, rw d tt), (tt, tt))

  contractum_fits : {c : Cause} {s w : Term} → Contracts M B c s w → (j : ℕ) → Sorted S closed s j → Lawful M.lawful s → Sorted S closed w j × Lawful M.lawful w
  contractum_fits {s = s} {w = w} (a_rule r σ m d e) j h l =
      let c = sorted r m in
      let g : Sorted S closed (instance σ (left_side r)) j = subst (λ (y : Term). Sorted S closed y j) d h in
      let k : Lawful M.lawful (instance σ (left_side r)) = subst (Lawful M.lawful) d l in
      let due : (p : List ℕ) (x : ℕ) → part r.right p ≡ Some (var x) → Due S c.sorts closed σ x =
      (λ p x a.
      let q = variable_part (left_side r) (c.none_new x (part_variable r.right p a)) in
      instance_due S c.sorts closed σ (left_side r) (fn_sort S (own r.function)) c.left_sorted (subst (Sorted S closed (instance σ (left_side r))) g.1 g) q.0 q.1) in
      let law : (p : List ℕ) (x : ℕ) → part r.right p ≡ Some (var x) → Lawful M.lawful (σ x) =
      (λ p x a.
      let q = variable_part (left_side r) (c.none_new x (part_variable r.right p a)) in
      (lawful_part M.lawful (instance σ (left_side r)) q.0 k (part_instance σ (left_side r) q.0 q.1)).0) in
      rw (e, g.1) (
        instance_sorted S c.sorts closed σ r.right (fn_sort S (own r.function)) c.right_sorted (each (Due S c.sorts closed σ) r.right due),
        instance_lawful M.lawful σ r.right (lawful r m) (each (λ x. Lawful M.lawful (σ x)) r.right law),
      )
  contractum_fits (a_sum m n d e) j h l =
      let g = subst (λ (y : Term). Sorted S closed y j) d h in
      let k = subst (Lawful M.lawful) d l in
      let q = proper.built_in_first 0 _ refl in
      let z : j ≡ 0 = g.1 ∙ rw q refl in
      rw (e, k.0.0, k.1.0.0) (answer_fits (M.plus m n) j (sound.plus_lawful m n k.0.0 k.1.0.0) z)
  contractum_fits (a_difference m n d e) j h l =
      let g = subst (λ (y : Term). Sorted S closed y j) d h in
      let k = subst (Lawful M.lawful) d l in
      let q = proper.built_in_first 1 _ refl in
      let z : j ≡ 0 = g.1 ∙ rw q refl in
      rw (e, k.0.0, k.1.0.0) (answer_fits (M.minus m n) j (sound.minus_lawful m n k.0.0 k.1.0.0) z)
  contractum_fits (a_comparison m n d e) j h l =
      let g = subst (λ (y : Term). Sorted S closed y j) d h in
      let q = proper.built_in_first 2 _ refl in
      let z : j ≡ 1 = g.1 ∙ rw q refl in
      rw e (truth_fits _ j z)

  step_keeps : (t u : Term) (k : ℕ) → Ground S M.lawful t k → Step M B t u → Ground S M.lawful u k
  step_keeps t u k h s =
      let p = s.0 in
      let x = s.2 in
      let a = sorted_part S closed t k p h.1 x.there in
      let b = lawful_part M.lawful t p h.2 x.there in
      let c = contractum_fits x.contracts a.0 a.1 b.0 in
      let g = a.2 x.contractum c.0 in
      rw x.gives (sorted_closed S (graft t p x.contractum) k g, g, b.1 x.contractum c.1)

pub steps_keep_sorts : StepsKeepSorts
steps_keep_sorts M B sound proper sorted lawful t u k h s = step_keeps M B sound proper sorted lawful t u k h s
