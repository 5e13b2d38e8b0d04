-- The examples: by computation, and by the theorems with nothing left to assume.
use Rattle.std.proofs.Common.{◌≡◌, ℕ, zero, suc, Bool, true, false, List, [], ◌∷◌, Some, Option, sym, refl, ◌∙◌, subst, arith}
use mathlib.Core.List.Memᴰ
use mathlib.Core.List.{Memᴰ}
use Rattle.std.specs.List.{slice_get, AllByRecursion}
use Rattle.numbers.specs.Meaning.{Meaning}
use Rattle.terms.specs.Terms.{Head, cell, symbol, own, Term, var, fun, nil, ◌▸◌}
use Rattle.terms.specs.Signatures.{Declaration, Signature, built_in}
use Rattle.terms.specs.Roots.{head, Stands}
use Rattle.terms.specs.Sorting.{Environment, Sorted, closed, head_sort, Lawful}
use Rattle.rewriting.specs.Substitutions.{variables}
use Rattle.rewriting.specs.Rules.{Rule, left_side, Different, Linear, SortCorrect, SortCorrectRules, LeftLinear, LawfulRules, Proper}
use Rattle.rewriting.specs.Steps.{truth, StepAt, Steps, stay, ◌then◌}
use Rattle.rewriting.specs.Trees.{Node, ConstructorOf, TreeFor, CompleteFor}
use Rattle.rewriting.specs.Strategy.{Move, φ}
use Rattle.rewriting.specs.Promises.{HasTrees, HasCompleteTrees, Exact}
use Rattle.rewriting.specs.Examples.{levels, four_more, meet_1, meet_2, meet_3, meet_book, meet_tree, either_book, half_book, half_tree, half_1, half_2, either_1, either_2, either_3, level_zero, up, meet, half, true_term, false_term, plain, Judged, MeetHolds}
use Rattle.rewriting.proofs.Occurrences.{different_linear}
use Rattle.rewriting.proofs.Sorts.{steps_keep_sorts}
use Rattle.rewriting.proofs.Exactness.{fixed_tree_exact}
use Rattle.rewriting.proofs.Normalising.{normalises, one_value}
use Rattle.rewriting.proofs.Stepping.{moves_are_steps}
use Rattle.rewriting.proofs.Progressing.{progress}

-- what holds of each of some rules
all : (P : Rule → Type 0) (rs : List Rule) → AllByRecursion P rs → (r : Rule) → Memᴰ r rs → P r
all P [] h r m = absurd (Memᴰ.not-nil m)
all P (q ∷ rs) h r (Memᴰ.head e) = subst P (sym e) h.0
all P (q ∷ rs) h r (Memᴰ.tail m) = all P rs h.1 r m

-- every variable is of the sort k
abbrev each_of : ℕ → Environment
each_of k x = Some k

-- sort-correct, and no two variables of the left side the same
abbrev Fine : Signature → Rule → Type 0
Fine S r = SortCorrect S r × Different (variables (left_side r))

fine : (S : Signature) (rs : List Rule) → AllByRecursion (Fine S) rs → (r : Rule) → Memᴰ r rs → SortCorrect S r × Linear (left_side r)
fine S rs h r m = let x = all (Fine S) rs h r m in (x.0, different_linear (left_side r) x.1)

none_on_right : (xs : List ℕ) (x : ℕ) → Memᴰ x [] → Memᴰ x xs
none_on_right xs x m = absurd (Memᴰ.not-nil m)

zero_not_one : Memᴰ {A = ℕ} 0 (1 ∷ []) → ⊥
zero_not_one m = let e = Memᴰ.eq_of_singleton m in omega arith

module _ (ds : List Declaration) (e : Environment) where
  zero_sorted : Sorted (levels ds) e level_zero 2
  zero_sorted = ((_, refl, refl, omega arith), refl, tt)

  up_sorted : (t : Term) → Sorted (levels ds) e t 2 → Sorted (levels ds) e (up t) 2
  up_sorted t h = ((_, refl, refl, omega arith), refl, (h, tt))

  meet_sorted : (t u : Term) → Sorted (levels ds) e t 2 → Sorted (levels ds) e u 2 → Sorted (levels ds) e (meet t u) 2
  meet_sorted t u g h = (((_, refl, refl, omega arith), refl), refl, (g, (h, tt)))

  truth_sorted : (b : Bool) → Sorted (levels ds) e (truth b) 1
  truth_sorted true = ((_, refl, refl, omega arith), refl, tt)
  truth_sorted false = ((_, refl, refl, omega arith), refl, tt)

half_sorted : (e : Environment) (t : Term) → Sorted (levels four_more) e t 2 → Sorted (levels four_more) e (half t) 2
half_sorted e t h = (((_, refl, refl, omega arith), refl), refl, (h, tt))

either_sorted : (e : Environment) (t u : Term) → Sorted (levels four_more) e t 1 → Sorted (levels four_more) e u 1 → Sorted (levels four_more) e (fun (own 9) (t ▸ u ▸ nil)) 1
either_sorted e t u g h = (((_, refl, refl, omega arith), refl), refl, (g, (h, tt)))

meet_fine : AllByRecursion (Fine (levels [])) (meet_1 ∷ meet_2 ∷ meet_3 ∷ [])
meet_fine =
    let e : Environment = each_of 2 in
    let z = zero_sorted [] e in
    let x = up_sorted [] e (var 0) refl in
    let y = up_sorted [] e (var 1) refl in (
      (
        record { sorts = e; left_sorted = meet_sorted [] e level_zero (var 1) z refl; right_sorted = z; none_new = none_on_right _ },
        (λ m. Memᴰ.not-nil m, tt),
      ),
      (
        (
          record { sorts = e; left_sorted = meet_sorted [] e (up (var 0)) level_zero x z; right_sorted = z; none_new = none_on_right _ },
          (λ m. Memᴰ.not-nil m, tt),
        ),
        (
          (
            record {
              sorts = e;
              left_sorted = meet_sorted [] e (up (var 0)) (up (var 1)) x y;
              right_sorted = up_sorted [] e (meet (var 0) (var 1)) (meet_sorted [] e (var 0) (var 1) refl refl);
              none_new = λ v m. m;
            },
            (zero_not_one, (λ m. Memᴰ.not-nil m, tt)),
          ),
          tt,
        ),
      ),
    )

half_fine : AllByRecursion (Fine (levels four_more)) (half_1 ∷ half_2 ∷ [])
half_fine =
    let e : Environment = each_of 2 in
    let z = zero_sorted four_more e in
    let x = up_sorted four_more e (var 0) refl in (
      (record { sorts = e; left_sorted = half_sorted e level_zero z; right_sorted = z; none_new = none_on_right _ }, tt),
      (
        (
          record {
            sorts = e;
            left_sorted = half_sorted e (up (up (var 0))) (up_sorted four_more e (up (var 0)) x);
            right_sorted = up_sorted four_more e (half (var 0)) (half_sorted e (var 0) refl);
            none_new = λ v m. m;
          },
          (λ m. Memᴰ.not-nil m, tt),
        ),
        tt,
      ),
    )

either_fine : AllByRecursion (Fine (levels four_more)) (either_1 ∷ either_2 ∷ either_3 ∷ [])
either_fine =
    let e : Environment = each_of 1 in
    let y = truth_sorted four_more e true in
    let n = truth_sorted four_more e false in (
      (record { sorts = e; left_sorted = either_sorted e true_term (var 0) y refl; right_sorted = y; none_new = none_on_right _ }, (λ m. Memᴰ.not-nil m, tt)),
      (
        (record { sorts = e; left_sorted = either_sorted e (var 0) true_term refl y; right_sorted = y; none_new = none_on_right _ }, (λ m. Memᴰ.not-nil m, tt)),
        (
          (record { sorts = e; left_sorted = either_sorted e false_term false_term n n; right_sorted = n; none_new = none_on_right _ }, tt),
          tt,
        ),
      ),
    )

-- the fixed tree is exact for each
meet_exact : Exact meet_book 7
meet_exact = fixed_tree_exact meet_book 7 (fine (levels []) _ meet_fine) meet_1 (Memᴰ.head refl)

half_exact : Exact half_book 10
half_exact = fixed_tree_exact half_book 10 (fine (levels four_more) _ half_fine) half_1 (Memᴰ.head refl)

either_exact : Exact either_book 9
either_exact = fixed_tree_exact either_book 9 (fine (levels four_more) _ either_fine) either_1 (Memᴰ.head refl)

-- the constructors of the sort 2 are zero and up
level_constructor : (s k : ℕ) → 2 ≡ k → ConstructorOf (levels []) (symbol s) k → Memᴰ (symbol s) (symbol 5 ∷ symbol 6 ∷ [])
level_constructor zero k e h = let d : ◌≡◌ {A = ℕ} 2 0 = e ∙ h.1 in absurd (omega arith)
level_constructor (suc zero) k e h = let d : ◌≡◌ {A = ℕ} 2 0 = e ∙ h.1 in absurd (omega arith)
level_constructor (suc (suc zero)) k e h = let d : ◌≡◌ {A = ℕ} 2 1 = e ∙ h.1 in absurd (omega arith)
level_constructor (suc (suc (suc zero))) k e h = let d : ◌≡◌ {A = ℕ} 2 1 = e ∙ h.1 in absurd (omega arith)
level_constructor (suc (suc (suc (suc zero)))) k e h = let d : ◌≡◌ {A = ℕ} 2 1 = e ∙ h.1 in absurd (omega arith)
level_constructor (suc (suc (suc (suc (suc zero))))) k e h = Memᴰ.head refl
level_constructor (suc (suc (suc (suc (suc (suc zero)))))) k e h = Memᴰ.tail (Memᴰ.head refl)
level_constructor (suc (suc (suc (suc (suc (suc (suc zero))))))) k e h = absurd (let d = h.0.1 in let b = h.0.2 in cc)
level_constructor (suc (suc (suc (suc (suc (suc (suc (suc s)))))))) k e h = absurd (let d = h.0.1 in cc)

level_head : (c : Head) (k : ℕ) → ◌≡◌ {A = Option ℕ} (Some 2) (Some k) → ConstructorOf (levels []) c k → Memᴰ c (symbol 5 ∷ symbol 6 ∷ [])
level_head (cell n) k e h = let d : 2 ≡ k = cc in let b : ◌≡◌ {A = ℕ} 2 0 = d ∙ h.1 in absurd (omega arith)
level_head (symbol s) k e h = let d : 2 ≡ k = cc in level_constructor s k d h

meet_complete : CompleteFor meet_book 7 meet_tree
meet_complete = ((λ c k v. level_head c k v.1), (tt, (((λ c k v. level_head c k v.1), (tt, (tt, tt))), tt)))

five_six : Memᴰ (symbol 5) (symbol 6 ∷ []) → ⊥
five_six (Memᴰ.head e) = let d : ◌≡◌ {A = ℕ} 5 6 = cc in omega arith
five_six (Memᴰ.tail m) = Memᴰ.not-nil m

half_gap : CompleteFor half_book 10 half_tree → ⊥
half_gap h = five_six (h.1.1.0.0 (symbol 5) 2 ((_, refl), refl) ((_, refl, refl, omega arith), refl))

pub judged : Judged
judged = record {
  meet_complete = (meet_exact.is_tree meet_tree refl, meet_complete);
  either_none = λ n t. (let x = either_exact.some_tree.0 (n, t) in let e = x.1 in cc);
  half_tree_is = half_exact.is_tree half_tree refl;
  half_incomplete = λ n t c.
      let x = half_exact.some_complete.0 (n, t, c) in
      let e = x.1 in
      let q : x.0 ≡ half_tree = cc in
      half_gap (subst (CompleteFor half_book 10) q x.2);
}

-- what the theorems ask of the meet book
meet_sort_correct : SortCorrectRules meet_book
meet_sort_correct r m = (fine (levels []) _ meet_fine r m).0

meet_function : (r : Rule) → Memᴰ r meet_book.rules → 7 ≡ r.function
meet_function = all (λ r. 7 ≡ r.function) _ (refl, (refl, (refl, tt)))

meet_trees : HasTrees meet_book
meet_trees r m = subst (λ (f : ℕ). (n : Node) × TreeFor meet_book f n) (meet_function r m) (meet_tree, meet_exact.is_tree meet_tree refl)

meet_complete_trees : HasCompleteTrees meet_book
meet_complete_trees zero h = absurd (let d = h.1 in cc)
meet_complete_trees (suc zero) h = absurd (let d = h.1 in cc)
meet_complete_trees (suc (suc zero)) h = absurd (let d = h.1 in cc)
meet_complete_trees (suc (suc (suc zero))) h = absurd (let d = h.0.1 in let b = h.0.2 in cc)
meet_complete_trees (suc (suc (suc (suc zero)))) h = absurd (let d = h.0.1 in let b = h.0.2 in cc)
meet_complete_trees (suc (suc (suc (suc (suc zero))))) h = absurd (let d = h.0.1 in let b = h.0.2 in cc)
meet_complete_trees (suc (suc (suc (suc (suc (suc zero)))))) h = absurd (let d = h.0.1 in let b = h.0.2 in cc)
meet_complete_trees (suc (suc (suc (suc (suc (suc (suc zero))))))) h = (meet_tree, meet_exact.is_tree meet_tree refl, meet_complete)
meet_complete_trees (suc (suc (suc (suc (suc (suc (suc (suc f)))))))) h = absurd (let d = h.0.1 in cc)

meet_built_in : (s : ℕ) (d : Declaration) → slice_get built_in.symbols s ≡ Some d → slice_get (levels []).symbols s ≡ Some d
meet_built_in zero d e = e
meet_built_in (suc zero) d e = e
meet_built_in (suc (suc zero)) d e = e
meet_built_in (suc (suc (suc zero))) d e = e
meet_built_in (suc (suc (suc (suc zero)))) d e = e
meet_built_in (suc (suc (suc (suc (suc s))))) d e = absurd (cc)

meet_cells : (s : ℕ) → Stands (levels []) (head (symbol s)) → head_sort (levels []) (symbol s) ≡ 0 → ⊥
meet_cells zero h e = let d = h.1 in let b = h.2 in cc
meet_cells (suc zero) h e = let d = h.1 in let b = h.2 in cc
meet_cells (suc (suc zero)) h e = omega arith
meet_cells (suc (suc (suc zero))) h e = omega arith
meet_cells (suc (suc (suc (suc zero)))) h e = omega arith
meet_cells (suc (suc (suc (suc (suc zero))))) h e = omega arith
meet_cells (suc (suc (suc (suc (suc (suc zero)))))) h e = omega arith
meet_cells (suc (suc (suc (suc (suc (suc (suc zero))))))) h e = omega arith
meet_cells (suc (suc (suc (suc (suc (suc (suc (suc s)))))))) h e = let d = h.1 in cc

meet_proper : Proper (levels [])
meet_proper = record { built_in_first = meet_built_in; cells_alone = meet_cells }

meet_lawful : (lawful : ℕ → Bool) → LawfulRules lawful meet_book
meet_lawful lawful = all (λ r. Lawful lawful r.right) _ ((tt, tt), ((tt, tt), ((tt, ((tt, (tt, tt)), tt)), tt)))

meet_linear : LeftLinear meet_book
meet_linear r m = (fine (levels []) _ meet_fine r m).1

meet_steps : (M : Meaning) (e : Environment) (t : Term) (k : ℕ) → Sorted (levels []) e t k → (m : Move) → φ M meet_book t ≡ Some m → StepAt M meet_book m.position m.cause t m.next
meet_steps M = moves_are_steps M meet_book meet_proper meet_sort_correct meet_linear

two_steps : Steps plain meet_book (meet (meet level_zero level_zero) (up level_zero)) level_zero
two_steps =
    let z = zero_sorted [] closed in
    let u = up_sorted [] closed level_zero z in
    (_, _, meet_steps plain closed (meet (meet level_zero level_zero) (up level_zero)) 2 (meet_sorted [] closed (meet level_zero level_zero) (up level_zero) (meet_sorted [] closed level_zero level_zero z z) u) _ refl)
    then (_, _, meet_steps plain closed (meet level_zero (up level_zero)) 2 (meet_sorted [] closed level_zero (up level_zero) z u) _ refl) then stay

pub meet_holds : MeetHolds
meet_holds = record {
  moves_are_steps = meet_steps;
  normalises = λ M. normalises M meet_book meet_sort_correct meet_trees;
  one_value = λ M. one_value M meet_book meet_sort_correct meet_trees;
  keeps_sorts = λ M sound. steps_keep_sorts M meet_book sound meet_proper meet_sort_correct (meet_lawful M.lawful);
  progress = λ M. progress M meet_book meet_proper meet_sort_correct meet_complete_trees;
  some_steps = two_steps;
}
