-- Terms that have the shape of a pattern.
use Rattle.std.proofs.Common.{◌≡◌, ℕ, zero, suc, ◌+◌, ◌≤◌, true, List, [], ◌∷◌, length, Some, Option, refl, ap, subst, ap₂, arith}
use Rattle.std.proofs.lemmas.Bool.{and_parts}
use Rattle.terms.specs.Terms.{Head, Fn, Term, var, con, fun, Terms, nil, ◌▸◌, count}
use Rattle.terms.specs.Positions.{part, part_of, graft, graft_in}
use Rattle.rewriting.specs.Substitutions.{Substitution, instance, instances, matching}
use Rattle.rewriting.specs.Rules.{Linear}
use Rattle.rewriting.specs.FixedTree.{same_head, same_fn, alike, all_alike, size, sizes}
use Rattle.rewriting.proofs.Basics.{same_head_true, same_fn_true}
use Rattle.rewriting.proofs.Positions.{part_here, none_at_zero}
use Rattle.rewriting.proofs.Occurrences.{matching_linear}
use Rattle.rewriting.proofs.Blanks.{fresh}

-- t is the pattern with anything in place of its variables
mutual
  pub data Fit : Term → Term → Type 0 where
    fit_var : {x : ℕ} {t : Term} → Fit (var x) t
    fit_con : {c : Head} {ps ts : Terms} → Fits ps ts → Fit (con c ps) (con c ts)
    fit_fun : {f : Fn} {ps ts : Terms} → Fits ps ts → Fit (fun f ps) (fun f ts)

  pub data Fits : Terms → Terms → Type 0 where
    fit_nil : Fits nil nil
    fit_more : {p t : Term} {ps ts : Terms} → Fit p t → Fits ps ts → Fits (p ▸ ps) (t ▸ ts)

pub fit_fresh : (ks : List ℕ) (ts : Terms) → count ts ≡ length ks → Fits (fresh ks) ts
fit_fresh [] nil e = fit_nil
fit_fresh [] (t ▸ ts) e = absurd (omega arith)
fit_fresh (k ∷ ks) nil e = absurd (omega arith)
fit_fresh (k ∷ ks) (t ▸ ts) e = fit_more fit_var (fit_fresh ks ts (omega arith))

-- at a variable of the pattern the term has a part
mutual
  pub fit_part : {π t : Term} → Fit π t → (p : List ℕ) {x : ℕ} → part π p ≡ Some (var x) → (s : Term) × (part t p ≡ Some s)
  fit_part (fit_var {t = t}) [] e = (t, part_here t)
  fit_part fit_var (i ∷ p) e = absurd (cc)
  fit_part (fit_con h) [] e = absurd (cc)
  fit_part (fit_con h) (i ∷ p) e = fits_part h i p e
  fit_part (fit_fun h) [] e = absurd (cc)
  fit_part (fit_fun h) (i ∷ p) e = fits_part h i p e

  fits_part : {ps ts : Terms} → Fits ps ts → (i : ℕ) (p : List ℕ) {x : ℕ} → part_of ps i p ≡ Some (var x) → (s : Term) × (part_of ts i p ≡ Some s)
  fits_part (fit_more h hs) (suc zero) p e = fit_part h p e
  fits_part (fit_more h hs) (suc (suc i)) p e = fits_part hs (suc i) p e
  fits_part f i p e = absurd (cc)

-- what fits the part there fits the pattern grafted there
mutual
  pub fit_graft : {π t : Term} → Fit π t → (p : List ℕ) {x : ℕ} {ρ s : Term} → part π p ≡ Some (var x) → part t p ≡ Some s → Fit ρ s → Fit (graft π p ρ) t
  fit_graft (fit_var {t = t}) [] {ρ = ρ} {s = s} e d f = let q = part_here t in let h : s ≡ t = cc in subst (Fit ρ) h f
  fit_graft fit_var (i ∷ p) e d f = absurd (cc)
  fit_graft (fit_con h) [] e d f = absurd (cc)
  fit_graft (fit_con h) (i ∷ p) e d f = fit_con (fits_graft h i p e d f)
  fit_graft (fit_fun h) [] e d f = absurd (cc)
  fit_graft (fit_fun h) (i ∷ p) e d f = fit_fun (fits_graft h i p e d f)

  fits_graft : {ps ts : Terms} → Fits ps ts → (i : ℕ) (p : List ℕ) {x : ℕ} {ρ s : Term} → part_of ps i p ≡ Some (var x) → part_of ts i p ≡ Some s → Fit ρ s → Fits (graft_in ps i p ρ) ts
  fits_graft (fit_more h hs) (suc zero) p e d f = fit_more (fit_graft h p e d f) hs
  fits_graft (fit_more h hs) (suc (suc i)) p e d f = fit_more h (fits_graft hs (suc i) p e d f)
  fits_graft h i p e d f = absurd (cc)

-- and the other way round
mutual
  pub fit_ungraft : (π : Term) (p : List ℕ) (ρ : Term) {t : Term} {x : ℕ} → part π p ≡ Some (var x) → Fit (graft π p ρ) t → Fit π t × ((s : Term) × (part t p ≡ Some s) × Fit ρ s)
  fit_ungraft (var v) [] ρ {t} e f = (fit_var, (t, part_here t, f))
  fit_ungraft (con c ps) (i ∷ p) ρ e (fit_con h) = let x = fits_ungraft ps i p ρ e h in (fit_con x.0, x.1)
  fit_ungraft (fun g ps) (i ∷ p) ρ e (fit_fun h) = let x = fits_ungraft ps i p ρ e h in (fit_fun x.0, x.1)
  fit_ungraft t p ρ e f = absurd (cc)

  fits_ungraft : (ps : Terms) (i : ℕ) (p : List ℕ) (ρ : Term) {ts : Terms} {x : ℕ} → part_of ps i p ≡ Some (var x) → Fits (graft_in ps i p ρ) ts
      → Fits ps ts × ((s : Term) × (part_of ts i p ≡ Some s) × Fit ρ s)
  fits_ungraft (q ▸ ps) (suc zero) p ρ e (fit_more h hs) = let x = fit_ungraft q p ρ e h in (fit_more x.0 hs, x.1)
  fits_ungraft (q ▸ ps) (suc (suc i)) p ρ e (fit_more h hs) = let x = fits_ungraft ps (suc i) p ρ e hs in (fit_more h x.0, x.1)
  fits_ungraft ts i p ρ e f = absurd (cc)

-- a pattern has no more symbols than what fits it
mutual
  pub fit_size : {π t : Term} → Fit π t → size π ≤ size t
  fit_size fit_var = omega arith
  fit_size (fit_con h) = let l = fits_size h in omega arith
  fit_size (fit_fun h) = let l = fits_size h in omega arith

  fits_size : {ps ts : Terms} → Fits ps ts → sizes ps ≤ sizes ts
  fits_size fit_nil = omega arith
  fits_size (fit_more h hs) = let l = fit_size h in let m = fits_size hs in omega arith

mutual
  pub size_graft : (π : Term) (p : List ℕ) (ρ : Term) {x : ℕ} → part π p ≡ Some (var x) → size (graft π p ρ) ≡ size π + size ρ
  size_graft (var v) [] ρ e = omega arith
  size_graft (con c ps) (i ∷ p) ρ e = let h = sizes_graft ps i p ρ e in omega arith
  size_graft (fun f ps) (i ∷ p) ρ e = let h = sizes_graft ps i p ρ e in omega arith
  size_graft t p ρ e = absurd (cc)

  sizes_graft : (ps : Terms) (i : ℕ) (p : List ℕ) (ρ : Term) {x : ℕ} → part_of ps i p ≡ Some (var x) → sizes (graft_in ps i p ρ) ≡ sizes ps + size ρ
  sizes_graft (q ▸ ps) (suc zero) p ρ e = let h = size_graft q p ρ e in omega arith
  sizes_graft (q ▸ ps) (suc (suc i)) p ρ e = let h = sizes_graft ps (suc i) p ρ e in omega arith
  sizes_graft ts i p ρ e = absurd (cc)

pub sizes_fresh : (ks : List ℕ) → sizes (fresh ks) ≡ 0
sizes_fresh [] = refl
sizes_fresh (k ∷ ks) = let h = sizes_fresh ks in omega arith

-- terms that are alike: what fits the one fits the other, each fits the other, and they have their variables at the same positions
mutual
  pub alike_fit : (l π : Term) {t : Term} → alike l π ≡ true → Fit π t → Fit l t
  alike_fit (var x) π e f = fit_var
  alike_fit (con c ls) (con d ps) e (fit_con h) =
      let x = and_parts (same_head c d) (all_alike ls ps) e in
      rw (same_head_true c d x.0) (fit_con (all_alike_fit ls ps x.1 h))
  alike_fit (fun g ls) (fun h ps) e (fit_fun k) =
      let x = and_parts (same_fn g h) (all_alike ls ps) e in
      rw (same_fn_true g h x.0) (fit_fun (all_alike_fit ls ps x.1 k))
  alike_fit l π e f = absurd (cc)

  all_alike_fit : (ls ps : Terms) {ts : Terms} → all_alike ls ps ≡ true → Fits ps ts → Fits ls ts
  all_alike_fit nil nil e f = f
  all_alike_fit (l ▸ ls) (p ▸ ps) e (fit_more h hs) = let x = and_parts (alike l p) (all_alike ls ps) e in fit_more (alike_fit l p x.0 h) (all_alike_fit ls ps x.1 hs)
  all_alike_fit ls ps e f = absurd (cc)

mutual
  pub fit_alike : (l π : Term) → alike l π ≡ true → Fit π l
  fit_alike (var x) (var y) e = fit_var
  fit_alike (con c ls) (con d ps) e =
      let x = and_parts (same_head c d) (all_alike ls ps) e in
      rw (same_head_true c d x.0) (fit_con (fits_alike ls ps x.1))
  fit_alike (fun g ls) (fun h ps) e =
      let x = and_parts (same_fn g h) (all_alike ls ps) e in
      rw (same_fn_true g h x.0) (fit_fun (fits_alike ls ps x.1))
  fit_alike l π e = absurd (cc)

  fits_alike : (ls ps : Terms) → all_alike ls ps ≡ true → Fits ps ls
  fits_alike nil nil e = fit_nil
  fits_alike (l ▸ ls) (p ▸ ps) e = let x = and_parts (alike l p) (all_alike ls ps) e in fit_more (fit_alike l p x.0) (fits_alike ls ps x.1)
  fits_alike ls ps e = absurd (cc)

-- each has a variable where the other has one
abbrev BothVariables : Option Term → Option Term → Type 0
BothVariables a b = ((x : ℕ) → a ≡ Some (var x) → (y : ℕ) × (b ≡ Some (var y))) × ((y : ℕ) → b ≡ Some (var y) → (x : ℕ) × (a ≡ Some (var x)))

mutual
  pub alike_part : (l π : Term) → alike l π ≡ true → (p : List ℕ) → BothVariables (part l p) (part π p)
  alike_part (var x) (var y) e [] = ((λ z d. (y, refl)), λ z d. (x, refl))
  alike_part (var x) (var y) e (i ∷ p) = ((λ z d. absurd (cc)), λ z d. absurd (cc))
  alike_part (con c ls) (con d ps) e [] = ((λ z q. absurd (cc)), λ z q. absurd (cc))
  alike_part (con c ls) (con d ps) e (i ∷ p) = all_alike_part ls ps (and_parts (same_head c d) (all_alike ls ps) e).1 i p
  alike_part (fun g ls) (fun h ps) e [] = ((λ z q. absurd (cc)), λ z q. absurd (cc))
  alike_part (fun g ls) (fun h ps) e (i ∷ p) = all_alike_part ls ps (and_parts (same_fn g h) (all_alike ls ps) e).1 i p
  alike_part l π e p = absurd (cc)

  all_alike_part : (ls ps : Terms) → all_alike ls ps ≡ true → (i : ℕ) (p : List ℕ) → BothVariables (part_of ls i p) (part_of ps i p)
  all_alike_part nil nil e i p = ((λ z d. absurd (cc)), λ z d. absurd (cc))
  all_alike_part (l ▸ ls) (q ▸ ps) e zero p = ((λ z d. absurd (cc)), λ z d. absurd (cc))
  all_alike_part (l ▸ ls) (q ▸ ps) e (suc zero) p = alike_part l q (and_parts (alike l q) (all_alike ls ps) e).0 p
  all_alike_part (l ▸ ls) (q ▸ ps) e (suc (suc i)) p = all_alike_part ls ps (and_parts (alike l q) (all_alike ls ps) e).1 (suc i) p
  all_alike_part ls ps e i p = absurd (cc)

-- what fits is an instance under the substitution that has its parts
mutual
  fit_instance : (σ : Substitution) {l t : Term} → Fit l t → ((p : List ℕ) (x : ℕ) (s : Term) → part l p ≡ Some (var x) → part t p ≡ Some s → σ x ≡ s) → instance σ l ≡ t
  fit_instance σ (fit_var {x = x} {t = t}) h = h [] x t refl (part_here t)
  fit_instance σ (fit_con {c = c} f) h = ap (con c) (fits_instances σ f (λ i p x s. h (i ∷ p) x s))
  fit_instance σ (fit_fun {f = g} f) h = ap (fun g) (fits_instances σ f (λ i p x s. h (i ∷ p) x s))

  fits_instances : (σ : Substitution) {ls ts : Terms} → Fits ls ts → ((i : ℕ) (p : List ℕ) (x : ℕ) (s : Term) → part_of ls i p ≡ Some (var x) → part_of ts i p ≡ Some s → σ x ≡ s)
      → instances σ ls ≡ ts
  fits_instances σ fit_nil h = refl
  fits_instances σ (fit_more {ps = ls} {ts = ts} f fs) h = ap₂ ◌▸◌ (fit_instance σ f (λ p x s. h 1 p x s)) (fits_instances σ fs (λ i p x s. go i p x s))
    where
      go : (i : ℕ) (p : List ℕ) (x : ℕ) (s : Term) → part_of ls i p ≡ Some (var x) → part_of ts i p ≡ Some s → σ x ≡ s
      go zero p x s e d = absurd (none_at_zero ls p e)
      go (suc i) p x s e d = h (suc (suc i)) p x s e d

pub matches : {l t : Term} → Linear l → Fit l t → instance (matching l t) l ≡ t
matches {l} {t} n f = fit_instance (matching l t) f (λ p x s e d. matching_linear l t n p e d)
