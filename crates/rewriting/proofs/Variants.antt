-- Patterns with names: no variable stands twice in them, and variants are alike.
use Rattle.std.proofs.Common.{◌≡◌, ℕ, zero, suc, ◌+◌, ◌<◌, ◌≤◌, true, ◌⊎◌, List, [], ◌∷◌, ◌++◌, length, Some, sym, refl, ap, ◌∙◌, subst, ap₂, inl, inr, arith, eq-eqb}
use Rattle.terms.specs.Terms.{Head, Fn, plus, minus, atmost, own, Term, var, con, fun, Terms, nil, ◌▸◌}
use Rattle.terms.specs.Signatures.{Signature}
use Rattle.terms.specs.Roots.{head_args, fn_args}
use Rattle.terms.specs.Positions.{part, part_of, graft, graft_in}
use Rattle.rewriting.specs.Substitutions.{Substitution, instance, instances, matching}
use Rattle.rewriting.specs.Rules.{Linear}
use Rattle.rewriting.specs.Trees.{Variant, variables_from, unused, all_unused, call_of, refined}
use Rattle.rewriting.specs.FixedTree.{same_fn, alike, all_alike}
use Rattle.rewriting.proofs.Basics.{same_head_same}
use Rattle.rewriting.proofs.Occurrences.{part_instance}
use Rattle.rewriting.proofs.Shapes.{Fit, fit_var, fit_con, fit_fun, Fits, fit_nil, fit_more, alike_fit, fit_alike, alike_part, matches}

-- variables in a row: the name tells the argument
row_variable : (x n i : ℕ) (p : List ℕ) {y : ℕ} → part_of (variables_from x n) i p ≡ Some (var y) → (p ≡ []) × (y + 1 ≡ x + i) × (x ≤ y)
row_variable x (suc n) (suc zero) [] {y} e = let d : x ≡ y = cc in (refl, omega arith, omega arith)
row_variable x (suc n) (suc (suc i)) p e = let h = row_variable (suc x) n (suc i) p e in let a = h.1 in let b = h.2 in (h.0, omega arith, omega arith)
row_variable x n i p e = absurd (cc)

-- every variable is below the unused ones
mutual
  below_unused : (t : Term) (p : List ℕ) {y : ℕ} → part t p ≡ Some (var y) → y < unused t
  below_unused (var v) [] {y} e = let d : v ≡ y = cc in omega arith
  below_unused (con c ts) (i ∷ p) e = all_below_unused ts i p e
  below_unused (fun f ts) (i ∷ p) e = all_below_unused ts i p e
  below_unused t p e = absurd (cc)

  all_below_unused : (ts : Terms) (i : ℕ) (p : List ℕ) {y : ℕ} → part_of ts i p ≡ Some (var y) → y < all_unused ts
  all_below_unused (t ▸ ts) (suc zero) p e = let h = below_unused t p e in omega arith
  all_below_unused (t ▸ ts) (suc (suc i)) p e = let h = all_below_unused ts (suc i) p e in omega arith
  all_below_unused ts i p e = absurd (cc)

-- a variable of a graft stood there before, or is one of what was grafted
mutual
  graft_variable : (t : Term) (r : List ℕ) (ρ : Term) (p : List ℕ) {y : ℕ} → part (graft t r ρ) p ≡ Some (var y)
      → (part t p ≡ Some (var y)) ⊎ ((q : List ℕ) × (p ≡ r ++ q) × (part ρ q ≡ Some (var y)))
  graft_variable (var v) [] ρ p e = inr (p, refl, e)
  graft_variable (var v) (i ∷ r) ρ p e = inl e
  graft_variable (con c ts) [] ρ p e = inr (p, refl, e)
  graft_variable (con c ts) (i ∷ r) ρ (j ∷ p) e = graft_variables ts i r ρ j p e
  graft_variable (fun f ts) [] ρ p e = inr (p, refl, e)
  graft_variable (fun f ts) (i ∷ r) ρ (j ∷ p) e = graft_variables ts i r ρ j p e
  graft_variable t r ρ p e = absurd (cc)

  graft_variables : (ts : Terms) (i : ℕ) (r : List ℕ) (ρ : Term) (j : ℕ) (p : List ℕ) {y : ℕ} → part_of (graft_in ts i r ρ) j p ≡ Some (var y)
      → (part_of ts j p ≡ Some (var y)) ⊎ ((q : List ℕ) × (j ∷ p ≡ i ∷ (r ++ q)) × (part ρ q ≡ Some (var y)))
  graft_variables nil i r ρ j p e = inl e
  graft_variables (t ▸ ts) zero r ρ j p e = inl e
  graft_variables (t ▸ ts) (suc zero) r ρ (suc zero) p e = elim (graft_variable t r ρ p e) [ inl h ↦ inl h | inr x ↦ inr (x.0, ap (λ (z : List ℕ). 1 ∷ z) x.1, x.2) ]
  graft_variables (t ▸ ts) (suc zero) r ρ (suc (suc j)) p e = inl e
  graft_variables (t ▸ ts) (suc (suc i)) r ρ (suc zero) p e = inl e
  graft_variables (t ▸ ts) (suc (suc i)) r ρ (suc (suc j)) p e =
      elim (graft_variables ts (suc i) r ρ (suc j) p e) [
        | inl h ↦ inl h
        | inr x ↦ inr (x.0, (let a = x.1 in let b : j ≡ i = cc in let d : p ≡ r ++ x.0 = cc in ap₂ (λ (m : ℕ) (z : List ℕ). suc (suc m) ∷ z) b d), x.2)
      ]
  graft_variables ts i r ρ j p e = absurd (cc)

row_linear : (x n : ℕ) (y : ℕ) (i j : ℕ) (p q : List ℕ) → part_of (variables_from x n) i p ≡ Some (var y) → part_of (variables_from x n) j q ≡ Some (var y) → i ∷ p ≡ j ∷ q
row_linear x n y i j p q d e =
    let a = row_variable x n i p d in
    let b = row_variable x n j q e in
    let g = a.1 in
    let h = b.1 in
    let k : i ≡ j = omega arith in
    ap₂ (λ (m : ℕ) (z : List ℕ). m ∷ z) k (a.0 ∙ sym b.0)

con_linear : (c : Head) (x n : ℕ) → Linear (con c (variables_from x n))
con_linear c x n y (i ∷ p) (j ∷ q) d e = row_linear x n y i j p q d e
con_linear c x n y p q d e = absurd (cc)

con_new : (c : Head) (x n : ℕ) (q : List ℕ) {y : ℕ} → part (con c (variables_from x n)) q ≡ Some (var y) → x ≤ y
con_new c x n [] e = absurd (cc)
con_new c x n (i ∷ q) e = (row_variable x n i q e).2

module _ (S : Signature) where
  pub linear_call : (f : ℕ) → Linear (call_of S f)
  linear_call f y (i ∷ p) (j ∷ q) d e = row_linear 0 (length (fn_args S (own f))) y i j p q d e
  linear_call f y p q d e = absurd (cc)

  pub linear_refined : (π : Term) (r : List ℕ) (c : Head) → Linear π → Linear (refined S π r c)
  linear_refined π r c h y p q d e = go (graft_variable π r ρ p d) (graft_variable π r ρ q e)
    where
      n : ℕ
      n = length (head_args S c)

      ρ : Term
      ρ = con c (variables_from (unused π) n)

      go : (part π p ≡ Some (var y)) ⊎ ((a : List ℕ) × (p ≡ r ++ a) × (part ρ a ≡ Some (var y)))
          → (part π q ≡ Some (var y)) ⊎ ((a : List ℕ) × (q ≡ r ++ a) × (part ρ a ≡ Some (var y))) → p ≡ q
      go (inl a) (inl b) = h y p q a b
      go (inl a) (inr b) = let k = below_unused π p a in let l = con_new c (unused π) n b.0 b.2 in absurd (omega arith)
      go (inr a) (inl b) = let k = below_unused π q b in let l = con_new c (unused π) n a.0 a.2 in absurd (omega arith)
      go (inr a) (inr b) = let k = con_linear c (unused π) n y a.0 b.0 a.2 b.2 in a.1 ∙ ap (λ (z : List ℕ). r ++ z) k ∙ sym b.1

-- every term has its own shape
mutual
  fit_self : (t : Term) → Fit t t
  fit_self (var x) = fit_var
  fit_self (con c ts) = fit_con (fits_self ts)
  fit_self (fun f ts) = fit_fun (fits_self ts)

  fits_self : (ts : Terms) → Fits ts ts
  fits_self nil = fit_nil
  fits_self (t ▸ ts) = fit_more (fit_self t) (fits_self ts)

-- linear terms that are alike are variants
pub alike_variant : (l π : Term) → Linear l → Linear π → alike l π ≡ true → Variant l π
alike_variant l π n m e = ((matching l π, matches n (alike_fit l π e (fit_self π))), (matching π l, matches m (fit_alike l π e)))

pub same_fn_same : (f : Fn) → same_fn f f ≡ true
same_fn_same plus = refl
same_fn_same minus = refl
same_fn_same atmost = refl
same_fn_same (own f) = eq-eqb f f refl

-- variants are alike
mutual
  instances_alike : (σ τ : Substitution) (l π : Term) → instance σ l ≡ π → instance τ π ≡ l → alike l π ≡ true
  instances_alike σ τ (var x) (var y) d e = refl
  instances_alike σ τ (con c ls) (con b ps) d e =
      let h : c ≡ b = cc in
      let f : instances σ ls ≡ ps = cc in
      let g : instances τ ps ≡ ls = cc in
      rw (← h, same_head_same c) (all_instances_alike σ τ ls ps f g)
  instances_alike σ τ (fun f ls) (fun b ps) d e =
      let h : f ≡ b = cc in
      let i : instances σ ls ≡ ps = cc in
      let g : instances τ ps ≡ ls = cc in
      rw (← h, same_fn_same f) (all_instances_alike σ τ ls ps i g)
  instances_alike σ τ l π d e = absurd (cc)

  all_instances_alike : (σ τ : Substitution) (ls ps : Terms) → instances σ ls ≡ ps → instances τ ps ≡ ls → all_alike ls ps ≡ true
  all_instances_alike σ τ nil nil d e = refl
  all_instances_alike σ τ (l ▸ ls) (p ▸ ps) d e =
      let f : instance σ l ≡ p = cc in
      let g : instances σ ls ≡ ps = cc in
      let h : instance τ p ≡ l = cc in
      let i : instances τ ps ≡ ls = cc in
      rw (instances_alike σ τ l p f h) (all_instances_alike σ τ ls ps g i)
  all_instances_alike σ τ ls ps d e = absurd (cc)

pub variant_alike : (l π : Term) → Variant l π → alike l π ≡ true
variant_alike l π v = instances_alike v.0.0 v.1.0 l π v.0.1 v.1.1

-- and linear together
pub variant_linear : (l π : Term) → Variant l π → Linear π → Linear l
variant_linear l π v n x p q d e =
    let σ : Substitution = v.0.0 in
    let a = part_instance σ l p d in
    let b = part_instance σ l q e in
    let f : part π p ≡ Some (σ x) = subst (λ (t : Term). part t p ≡ Some (σ x)) v.0.1 a in
    let g : part π q ≡ Some (σ x) = subst (λ (t : Term). part t q ≡ Some (σ x)) v.0.1 b in
    let k = (alike_part l π (variant_alike l π v) p).0 x d in
    let m = k.1 in
    let h : σ x ≡ var k.0 = cc in
    n k.0 p q (f ∙ ap Some h) (g ∙ ap Some h)
