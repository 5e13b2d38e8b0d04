-- Grown by open positions, the fixed tree comes out, within its bounds.
use Rattle.std.proofs.Common.{◌≡◌, ℕ, zero, suc, ◌+◌, ◌<◌, ◌≤◌, List, [], ◌∷◌, length, Some, None, Option, sym, refl, ap, ◌∙◌, subst, ap₂, arith, option_map, filter}
use mathlib.Core.List.{Memᴰ}
use Rattle.std.specs.Option.{option_or}
use Rattle.terms.specs.Terms.{Head, own, Term, var, con, fun, Terms, nil, ◌▸◌}
use Rattle.terms.specs.Options.{onward}
use Rattle.terms.specs.Signatures.{Signature}
use Rattle.terms.specs.Roots.{head_args, fn_args}
use Rattle.terms.specs.Sorting.{fn_sort}
use Rattle.rewriting.specs.Substitutions.{variables, variable_positions}
use Rattle.rewriting.specs.Rules.{Rule, left_side, Book, rules_of}
use Rattle.rewriting.specs.Trees.{branch, variables_from, unused, call_of, refined}
use Rattle.rewriting.specs.FixedTree.{has_at, first_shared, constructors_at, children, build, size}
use Rattle.rewriting.specs.Growing.{opened_under, grow, open_call, Reached, at_call, in_branch, paid, paid_under, Within}
use Rattle.rewriting.specs.Promises.{Ruled, NoLonger, GrowsFixedTree}
use Rattle.rewriting.proofs.Lists.{kept_mem}
use Rattle.rewriting.proofs.Shapes.{Fit, fit_var, fit_con, fit_fun, Fits, fit_more, fit_size, size_graft}
use Rattle.rewriting.proofs.Blanks.{blank, blanks, Formed, Formeds}
use Rattle.rewriting.proofs.Building.{position_named, first_is, different_constructors, subtree, Pattern, pattern_child}
use Rattle.rewriting.proofs.Exactness.{call_pattern}
use Rattle.rewriting.proofs.Bounds.{children_same, symbols_enough}
use Rattle.rewriting.proofs.OpenPositions.{sole_same, fit_letters, position_short, row_positions, row_sizes, opened_graft}
use Rattle.rewriting.proofs.Payments.{mem_paid, paid_children}

-- what fits the pattern without names fits it with names
module _ (S : Signature) where
  mutual
    fit_named : (π : Term) (k : ℕ) {t : Term} → Formed S π → Fit (blank S π k) t → Fit π t
    fit_named (var x) k h f = fit_var
    fit_named (con c ps) k h (fit_con f) = fit_con (fits_named ps (head_args S c) h f)
    fit_named (fun g ps) k h (fit_fun f) = fit_fun (fits_named ps (fn_args S g) h f)

    fits_named : (ps : Terms) (ks : List ℕ) {ts : Terms} → Formeds S ps ks → Fits (blanks S ps ks) ts → Fits ps ts
    fits_named nil ks h f = f
    fits_named (p ▸ ps) [] h f = absurd h
    fits_named (p ▸ ps) (k ∷ ks) h (fit_more f fs) = fit_more (fit_named p k h.0 f) (fits_named ps ks h.1 fs)

-- A pattern for which the tree is grown: the rules that remain fit it, and its symbols and what is left of the bound are one more than the bound.
record Growth (S : Signature) (k most n : ℕ) (π : Term) (rs : List Rule) : Type 0 where
  pattern : Pattern S k π rs
  spent : size π + n ≡ suc most
  short : (r : Rule) → Memᴰ r rs → size (left_side r) + length (variables (left_side r)) ≤ most

module _ (S : Signature) where
  growth_fit : {k most n : ℕ} {π : Term} {rs : List Rule} → Growth S k most n π rs → (r : Rule) → Memᴰ r rs → Fit π (left_side r)
  growth_fit {π = π} g r m = fit_named S π 0 g.pattern.formed (g.pattern.fitting r m).0

  -- the child under a constructor: its open positions, and that it is such a pattern
  open_child : (π : Term) (rs : List Rule) (p : List ℕ) (c : Head) → first_shared (variable_positions π) rs ≡ Some p → opened_under S (variable_positions π) p c ≡ variable_positions (refined S π p c)
  open_child π rs p c e =
      sym (opened_graft (con c (variables_from (unused π) (length (head_args S c)))) (length (head_args S c)) (row_positions (unused π) (length (head_args S c))) π p
      (position_named π (first_is (variable_positions π) rs e).0).1)

module _ (S : Signature) (k most : ℕ) where
  growth_child : (n : ℕ) (π : Term) (rs : List Rule) (p : List ℕ) (c : Head) → Growth S k most (suc n) π rs → first_shared (variable_positions π) rs ≡ Some p → Memᴰ c (constructors_at p rs)
      → Growth S k most n (refined S π p c) (filter (has_at p c) rs)
  growth_child n π rs p c g e m =
      let x = (position_named π (first_is (variable_positions π) rs e).0).1 in
      record {
        pattern = pattern_child S p c g.pattern e m;
        spent = (let l = g.spent in let a = size_graft π p (con c (variables_from (unused π) (length (head_args S c)))) x in let b = row_sizes (unused π) (length (head_args S c)) in omega arith);
        short = (λ r l. g.short r (kept_mem (has_at p c) rs l).0);
      }

  -- grown and built, the tree is the same
  grow_build : (n : ℕ) (π : Term) (rs : List Rule) → Growth S k most n π rs → grow S n (variable_positions π) rs ≡ build S n π rs
  grow_build zero π rs g = refl
  grow_build (suc n) π rs g = ap₂ option_or (sole_same π rs (growth_fit S g)) (go (first_shared (variable_positions π) rs) refl (grow_build n))
    where
      go : (o : Option (List ℕ)) → first_shared (variable_positions π) rs ≡ o → ((ρ : Term) (qs : List Rule) → Growth S k most n ρ qs → grow S n (variable_positions ρ) qs ≡ build S n ρ qs)
          → onward o (λ p. option_map (branch p) (children (λ c. grow S n (opened_under S (variable_positions π) p c) (filter (has_at p c) rs)) (constructors_at p rs)))
          ≡ onward o (λ p. option_map (branch p) (children (subtree S n π rs p) (constructors_at p rs)))
      go None e ih = refl
      go (Some p) e ih =
          ap (option_map (branch p)) (children_same (λ c. grow S n (opened_under S (variable_positions π) p c) (filter (has_at p c) rs)) (subtree S n π rs p) (constructors_at p rs)
          (λ c m. ap (λ (ps : List (List ℕ)). grow S n ps (filter (has_at p c) rs)) (open_child S π rs p c e) ∙ ih (refined S π p c) (filter (has_at p c) rs) (growth_child n π rs p c g e m)))

  -- and no bound is passed
  growth_within : (n : ℕ) (π : Term) (rs : List Rule) → Growth S k most n π rs → Within most n (variable_positions π) rs
  growth_within n π rs g =
      let r = g.pattern.remaining.0 in
      let m = g.pattern.remaining.1 in
      let l = g.spent in
      let larger : (q : Rule) → Memᴰ q rs → most < size (left_side q) + n = (λ q i. let a = fit_size (growth_fit S g q i) in omega arith) in
      record {
        remains = g.pattern.remaining;
        few = (let a = fit_letters (growth_fit S g r m) in let b = g.short r m in omega arith);
        near = (λ p i. let a = position_short π p (position_named π i).1 in omega arith);
        pays = (let a = mem_paid most n m in let b = larger r m in omega arith);
        pays_children = (λ j e p i.
            subst (λ (a : ℕ). suc (paid_under most j p rs (constructors_at p rs)) ≤ paid most a rs) (sym e)
            (paid_children most j p rs (constructors_at p rs) (different_constructors p rs) (λ q b. let a = larger q b in omega arith) r m));
      }

-- where the tree of f is grown, there is such a pattern
module _ (B : Book) (f most : ℕ) (h : Ruled B f) (s : NoLonger B f most) where
  abbrev S : Signature
  S = B.signature

  growth_call : Growth S (fn_sort S (own f)) most most (call_of S f) (rules_of B f)
  growth_call = record {
    pattern = call_pattern B f h.right h.some.0 h.some.1;
    spent = (let a = row_sizes 0 (length (fn_args S (own f))) in omega arith);
    short = s;
  }

  call_open : open_call S f ≡ variable_positions (call_of S f)
  call_open = sym (row_positions 0 (length (fn_args S (own f))))

  reached : {n : ℕ} {ps : List (List ℕ)} {rs : List Rule} → Reached B f most n ps rs → (π : Term) × (ps ≡ variable_positions π) × Growth S (fn_sort S (own f)) most n π rs
  reached at_call = (call_of S f, call_open, growth_call)
  reached (in_branch {n = n} {ps = ps} {rs = rs} {p = p} {c = c} w e m) =
      let x = reached w in
      let π : Term = x.0 in
      let d : first_shared (variable_positions π) rs ≡ Some p = ap (λ (qs : List (List ℕ)). first_shared qs rs) (sym x.1) ∙ e in
      (refined S π p c, ap (λ (qs : List (List ℕ)). opened_under S qs p c) x.1 ∙ open_child S π rs p c d, growth_child S (fn_sort S (own f)) most n π rs p c x.2 d m)

  grown : grow S most (open_call S f) (rules_of B f) ≡ build S most (call_of S f) (rules_of B f)
  grown = ap (λ (ps : List (List ℕ)). grow S most ps (rules_of B f)) call_open ∙ grow_build S (fn_sort S (own f)) most most (call_of S f) (rules_of B f) growth_call

pub grows_fixed_tree : GrowsFixedTree
grows_fixed_tree = record {
  same = λ B f most h s. grown B f most h s ∙ symbols_enough B f h most (λ r m. let l = s r m in omega arith);
  within = λ B f most h s n ps rs w.
      let x = reached B f most h s w in
      subst (λ (qs : List (List ℕ)). Within most n qs rs) (sym x.1) (growth_within B.signature (fn_sort B.signature (own f)) most n x.0 rs x.2);
}
