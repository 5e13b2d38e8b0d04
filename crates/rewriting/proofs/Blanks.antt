-- Patterns without names: each variable is written as its sort, so that grafts at different variables commute.
use Rattle.std.proofs.Common.{◌≡◌, ℕ, zero, suc, Bool, ◌&&◌, List, [], ◌∷◌, length, Some, refl, ap, ap₂}
use Rattle.terms.specs.Terms.{Head, own, Term, var, con, fun, Terms, nil, ◌▸◌}
use Rattle.terms.specs.Signatures.{Signature}
use Rattle.terms.specs.Roots.{head_args, fn_args}
use Rattle.terms.specs.Positions.{part, part_of, graft, graft_in}
use Rattle.rewriting.specs.Trees.{variables_from, unused, due, due_in, call_of, refined}
use Rattle.rewriting.specs.FixedTree.{same_head, same_fn, alike, all_alike}

-- variables of these sorts, in a row
abbrev pub fresh : List ℕ → Terms
fresh [] = nil
fresh (k ∷ ks) = var k ▸ fresh ks

module _ (S : Signature) where
  abbrev pub over_blank : Head → Term
  over_blank c = con c (fresh (head_args S c))

  abbrev pub blank_call : ℕ → Term
  blank_call f = fun (own f) (fresh (fn_args S (own f)))

  -- the pattern without names; k is the sort that is due at its root
  abbrev mutual
    pub blank : Term → ℕ → Term
    blank (var x) k = var k
    blank (con c ts) k = con c (blanks ts (head_args S c))
    blank (fun f ts) k = fun f (blanks ts (fn_args S f))

    pub blanks : Terms → List ℕ → Terms
    blanks nil ks = nil
    blanks (t ▸ ts) [] = nil
    blanks (t ▸ ts) (k ∷ ks) = blank t k ▸ blanks ts ks

  -- of a whole pattern, where nothing is due
  abbrev pub bare : Term → Term
  bare π = blank π 0

  -- every symbol has its number of arguments
  abbrev mutual
    pub Formed : Term → Type 0
    Formed (var x) = Unit {0}
    Formed (con c ts) = Formeds ts (head_args S c)
    Formed (fun f ts) = Formeds ts (fn_args S f)

    pub Formeds : Terms → List ℕ → Type 0
    Formeds nil [] = Unit {0}
    Formeds nil (k ∷ ks) = ⊥
    Formeds (t ▸ ts) [] = ⊥
    Formeds (t ▸ ts) (k ∷ ks) = Formed t × Formeds ts ks

  -- a variable at a position without names is one with a name, of that sort
  mutual
    pub blank_variable : (t : Term) (j : ℕ) (i : ℕ) (p : List ℕ) {k : ℕ} → part (blank t j) (i ∷ p) ≡ Some (var k) → ((x : ℕ) × (part t (i ∷ p) ≡ Some (var x))) × (due S t (i ∷ p) ≡ Some k)
    blank_variable (var v) j i p e = absurd (cc)
    blank_variable (con c ts) j i p e = blanks_variable ts (head_args S c) i p e
    blank_variable (fun f ts) j i p e = blanks_variable ts (fn_args S f) i p e

    blanks_variable : (ts : Terms) (ks : List ℕ) (i : ℕ) (p : List ℕ) {k : ℕ} → part_of (blanks ts ks) i p ≡ Some (var k)
        → ((x : ℕ) × (part_of ts i p ≡ Some (var x))) × (due_in S ts ks i p ≡ Some k)
    blanks_variable (t ▸ ts) (j ∷ ks) (suc zero) [] {k} e = go t e
      where
        go : (u : Term) → part (blank u j) [] ≡ Some (var k) → ((x : ℕ) × (part u [] ≡ Some (var x))) × (Some j ≡ Some k)
        go (var x) d = ((x, refl), let q : j ≡ k = cc in ap Some q)
        go (con c us) d = absurd (cc)
        go (fun f us) d = absurd (cc)
    blanks_variable (t ▸ ts) (j ∷ ks) (suc zero) (l ∷ p) e = blank_variable t j l p e
    blanks_variable (t ▸ ts) (j ∷ ks) (suc (suc i)) p e = blanks_variable ts ks (suc i) p e
    blanks_variable ts ks i p e = absurd (cc)

  -- and the other way round
  mutual
    pub variable_blank : (t : Term) (j : ℕ) (p : List ℕ) {x : ℕ} → Formed t → part t p ≡ Some (var x) → (k : ℕ) × (part (blank t j) p ≡ Some (var k))
    variable_blank (var v) j [] h e = (j, refl)
    variable_blank (con c ts) j (i ∷ p) h e = variables_blank ts (head_args S c) i p h e
    variable_blank (fun f ts) j (i ∷ p) h e = variables_blank ts (fn_args S f) i p h e
    variable_blank t j p h e = absurd (cc)

    variables_blank : (ts : Terms) (ks : List ℕ) (i : ℕ) (p : List ℕ) {x : ℕ} → Formeds ts ks → part_of ts i p ≡ Some (var x) → (k : ℕ) × (part_of (blanks ts ks) i p ≡ Some (var k))
    variables_blank (t ▸ ts) [] i p h e = absurd h
    variables_blank (t ▸ ts) (j ∷ ks) (suc zero) p h e = variable_blank t j p h.0 e
    variables_blank (t ▸ ts) (j ∷ ks) (suc (suc i)) p h e = variables_blank ts ks (suc i) p h.1 e
    variables_blank ts ks i p h e = absurd (cc)

  -- grafts
  mutual
    blank_graft : (t : Term) (j : ℕ) (p : List ℕ) {x : ℕ} (ρ ν : Term) → ((k : ℕ) → blank ρ k ≡ ν) → part t p ≡ Some (var x) → blank (graft t p ρ) j ≡ graft (blank t j) p ν
    blank_graft (var v) j [] ρ ν h e = h j
    blank_graft (var v) j (i ∷ p) ρ ν h e = refl
    blank_graft (con c ts) j (i ∷ p) ρ ν h e = ap (con c) (blanks_graft ts (head_args S c) i p ρ ν h e)
    blank_graft (fun f ts) j (i ∷ p) ρ ν h e = ap (fun f) (blanks_graft ts (fn_args S f) i p ρ ν h e)
    blank_graft t j p ρ ν h e = absurd (cc)

    blanks_graft : (ts : Terms) (ks : List ℕ) (i : ℕ) (p : List ℕ) {x : ℕ} (ρ ν : Term) → ((k : ℕ) → blank ρ k ≡ ν) → part_of ts i p ≡ Some (var x)
        → blanks (graft_in ts i p ρ) ks ≡ graft_in (blanks ts ks) i p ν
    blanks_graft nil ks i p ρ ν h e = refl
    blanks_graft (t ▸ ts) ks zero p ρ ν h e = absurd (cc)
    blanks_graft (t ▸ ts) [] (suc zero) p ρ ν h e = refl
    blanks_graft (t ▸ ts) [] (suc (suc i)) p ρ ν h e = refl
    blanks_graft (t ▸ ts) (k ∷ ks) (suc zero) p ρ ν h e = ap (λ (u : Term). u ▸ blanks ts ks) (blank_graft t k p ρ ν h e)
    blanks_graft (t ▸ ts) (k ∷ ks) (suc (suc i)) p ρ ν h e = ap (λ (us : Terms). blank t k ▸ us) (blanks_graft ts ks (suc i) p ρ ν h e)

  mutual
    formed_graft : (t : Term) (p : List ℕ) {x : ℕ} (ρ : Term) → Formed t → Formed ρ → part t p ≡ Some (var x) → Formed (graft t p ρ)
    formed_graft (var v) [] ρ h g e = g
    formed_graft (var v) (i ∷ p) ρ h g e = h
    formed_graft (con c ts) [] ρ h g e = g
    formed_graft (con c ts) (i ∷ p) ρ h g e = formeds_graft ts (head_args S c) i p ρ h g e
    formed_graft (fun f ts) [] ρ h g e = g
    formed_graft (fun f ts) (i ∷ p) ρ h g e = formeds_graft ts (fn_args S f) i p ρ h g e

    formeds_graft : (ts : Terms) (ks : List ℕ) (i : ℕ) (p : List ℕ) {x : ℕ} (ρ : Term) → Formeds ts ks → Formed ρ → part_of ts i p ≡ Some (var x) → Formeds (graft_in ts i p ρ) ks
    formeds_graft nil ks i p ρ h g e = h
    formeds_graft (t ▸ ts) [] i p ρ h g e = absurd h
    formeds_graft (t ▸ ts) (k ∷ ks) zero p ρ h g e = h
    formeds_graft (t ▸ ts) (k ∷ ks) (suc zero) p ρ h g e = (formed_graft t p ρ h.0 g e, h.1)
    formeds_graft (t ▸ ts) (k ∷ ks) (suc (suc i)) p ρ h g e = (h.0, formeds_graft ts ks (suc i) p ρ h.1 g e)

  -- new variables
  blanks_from : (x : ℕ) (ks : List ℕ) → blanks (variables_from x (length ks)) ks ≡ fresh ks
  blanks_from x [] = refl
  blanks_from x (k ∷ ks) = ap (λ (us : Terms). var k ▸ us) (blanks_from (suc x) ks)

  formeds_from : (x : ℕ) (ks : List ℕ) → Formeds (variables_from x (length ks)) ks
  formeds_from x [] = tt
  formeds_from x (k ∷ ks) = (tt, formeds_from (suc x) ks)

  pub blank_refined : (π : Term) (j : ℕ) (p : List ℕ) {x : ℕ} (c : Head) → part π p ≡ Some (var x) → blank (refined S π p c) j ≡ graft (blank π j) p (over_blank c)
  blank_refined π j p c e = blank_graft π j p (con c (variables_from (unused π) (length (head_args S c)))) (over_blank c) (λ k. ap (con c) (blanks_from (unused π) (head_args S c))) e

  pub formed_refined : (π : Term) (p : List ℕ) {x : ℕ} (c : Head) → Formed π → part π p ≡ Some (var x) → Formed (refined S π p c)
  formed_refined π p c h e = formed_graft π p (con c (variables_from (unused π) (length (head_args S c)))) h (formeds_from (unused π) (head_args S c)) e

  pub bare_call : (f : ℕ) → bare (call_of S f) ≡ blank_call f
  bare_call f = ap (fun (own f)) (blanks_from 0 (fn_args S (own f)))

  pub formed_call : (f : ℕ) → Formed (call_of S f)
  formed_call f = formeds_from 0 (fn_args S (own f))

  -- the names do not matter to what is alike
  mutual
    pub alike_blank : (l π : Term) (k : ℕ) → Formed π → alike l (blank π k) ≡ alike l π
    alike_blank (var x) (var y) k h = refl
    alike_blank (var x) (con d ps) k h = refl
    alike_blank (var x) (fun g ps) k h = refl
    alike_blank (con c ls) (var y) k h = refl
    alike_blank (con c ls) (con d ps) k h = ap (λ (b : Bool). same_head c d && b) (all_alike_blank ls ps (head_args S d) h)
    alike_blank (con c ls) (fun g ps) k h = refl
    alike_blank (fun f ls) (var y) k h = refl
    alike_blank (fun f ls) (con d ps) k h = refl
    alike_blank (fun f ls) (fun g ps) k h = ap (λ (b : Bool). same_fn f g && b) (all_alike_blank ls ps (fn_args S g) h)

    all_alike_blank : (ls ps : Terms) (ks : List ℕ) → Formeds ps ks → all_alike ls (blanks ps ks) ≡ all_alike ls ps
    all_alike_blank nil nil ks h = refl
    all_alike_blank nil (p ▸ ps) [] h = absurd h
    all_alike_blank nil (p ▸ ps) (k ∷ ks) h = refl
    all_alike_blank (l ▸ ls) nil ks h = refl
    all_alike_blank (l ▸ ls) (p ▸ ps) [] h = absurd h
    all_alike_blank (l ▸ ls) (p ▸ ps) (k ∷ ks) h = ap₂ ◌&&◌ (alike_blank l p k h.0) (all_alike_blank ls ps ks h.1)
