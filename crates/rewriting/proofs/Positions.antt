-- Parts and grafts.
use Rattle.std.proofs.Common.{◌≡◌, ℕ, zero, suc, List, [], ◌∷◌, ◌++◌, Some, refl, ap}
use Rattle.terms.specs.Terms.{Term, var, con, fun, Terms, nil, ◌▸◌}
use Rattle.terms.specs.Positions.{part, part_of, graft, graft_in}
use Rattle.rewriting.specs.Substitutions.{in_later}

-- at the root
pub part_here : (t : Term) → part t [] ≡ Some t
part_here (var x) = refl
part_here (con c ts) = refl
part_here (fun f ts) = refl

pub graft_here : (t u : Term) → graft t [] u ≡ u
graft_here (var x) u = refl
graft_here (con c ts) u = refl
graft_here (fun f ts) u = refl

-- arguments are numbered from 1
pub none_at_zero : (ts : Terms) (p : List ℕ) {s : Term} → part_of ts 0 p ≡ Some s → ⊥
none_at_zero nil p e = cc
none_at_zero (t ▸ ts) p e = cc

-- what was grafted stands there
mutual
  pub part_graft : (t : Term) (p : List ℕ) (y : Term) {x : Term} → part t p ≡ Some x → part (graft t p y) p ≡ Some y
  part_graft (var v) [] y e = part_here y
  part_graft (var v) (i ∷ p) y e = absurd (cc)
  part_graft (con c ts) [] y e = part_here y
  part_graft (con c ts) (i ∷ p) y e = part_graft_in ts i p y e
  part_graft (fun f ts) [] y e = part_here y
  part_graft (fun f ts) (i ∷ p) y e = part_graft_in ts i p y e

  pub part_graft_in : (ts : Terms) (i : ℕ) (p : List ℕ) (y : Term) {x : Term} → part_of ts i p ≡ Some x → part_of (graft_in ts i p y) i p ≡ Some y
  part_graft_in (t ▸ ts) (suc zero) p y e = part_graft t p y e
  part_graft_in (t ▸ ts) (suc (suc i)) p y e = part_graft_in ts (suc i) p y e
  part_graft_in ts i p y e = absurd (cc)

-- the part grafted back changes nothing
mutual
  pub graft_same : (t : Term) (p : List ℕ) {x : Term} → part t p ≡ Some x → graft t p x ≡ t
  graft_same (var v) [] e = cc
  graft_same (var v) (i ∷ p) e = refl
  graft_same (con c ts) [] e = cc
  graft_same (con c ts) (i ∷ p) e = ap (con c) (graft_same_in ts i p e)
  graft_same (fun f ts) [] e = cc
  graft_same (fun f ts) (i ∷ p) e = ap (fun f) (graft_same_in ts i p e)

  pub graft_same_in : (ts : Terms) (i : ℕ) (p : List ℕ) {x : Term} → part_of ts i p ≡ Some x → graft_in ts i p x ≡ ts
  graft_same_in (t ▸ ts) (suc zero) p e = ap (λ u. u ▸ ts) (graft_same t p e)
  graft_same_in (t ▸ ts) (suc (suc i)) p e = ap (λ us. t ▸ us) (graft_same_in ts (suc i) p e)
  graft_same_in ts i p e = refl

-- of two grafts at one position the later stands
mutual
  pub graft_twice : (t : Term) (p : List ℕ) (a b : Term) → graft (graft t p a) p b ≡ graft t p b
  graft_twice (var v) [] a b = graft_here a b
  graft_twice (var v) (i ∷ p) a b = refl
  graft_twice (con c ts) [] a b = graft_here a b
  graft_twice (con c ts) (i ∷ p) a b = ap (con c) (graft_twice_in ts i p a b)
  graft_twice (fun f ts) [] a b = graft_here a b
  graft_twice (fun f ts) (i ∷ p) a b = ap (fun f) (graft_twice_in ts i p a b)

  graft_twice_in : (ts : Terms) (i : ℕ) (p : List ℕ) (a b : Term) → graft_in (graft_in ts i p a) i p b ≡ graft_in ts i p b
  graft_twice_in (t ▸ ts) (suc zero) p a b = ap (λ u. u ▸ ts) (graft_twice t p a b)
  graft_twice_in (t ▸ ts) (suc (suc i)) p a b = ap (λ us. t ▸ us) (graft_twice_in ts (suc i) p a b)
  graft_twice_in ts i p a b = refl

-- positions that are joined
mutual
  pub part_join : (t : Term) (p q : List ℕ) {x : Term} → part t p ≡ Some x → part t (p ++ q) ≡ part x q
  part_join (var v) [] q {x} e = let d : var v ≡ x = cc in ap (λ (y : Term). part y q) d
  part_join (var v) (i ∷ p) q e = absurd (cc)
  part_join (con c ts) [] q {x} e = let d : con c ts ≡ x = cc in ap (λ (y : Term). part y q) d
  part_join (con c ts) (i ∷ p) q e = part_join_in ts i p q e
  part_join (fun f ts) [] q {x} e = let d : fun f ts ≡ x = cc in ap (λ (y : Term). part y q) d
  part_join (fun f ts) (i ∷ p) q e = part_join_in ts i p q e

  part_join_in : (ts : Terms) (i : ℕ) (p q : List ℕ) {x : Term} → part_of ts i p ≡ Some x → part_of ts i (p ++ q) ≡ part x q
  part_join_in (t ▸ ts) (suc zero) p q e = part_join t p q e
  part_join_in (t ▸ ts) (suc (suc i)) p q e = part_join_in ts (suc i) p q e
  part_join_in ts i p q e = absurd (cc)

mutual
  pub graft_join : (t : Term) (p q : List ℕ) {x : Term} (y : Term) → part t p ≡ Some x → graft t (p ++ q) y ≡ graft t p (graft x q y)
  graft_join (var v) [] q {x} y e = let d : var v ≡ x = cc in ap (λ (s : Term). graft s q y) d
  graft_join (var v) (i ∷ p) q y e = refl
  graft_join (con c ts) [] q {x} y e = let d : con c ts ≡ x = cc in ap (λ (s : Term). graft s q y) d
  graft_join (con c ts) (i ∷ p) q y e = ap (con c) (graft_join_in ts i p q y e)
  graft_join (fun f ts) [] q {x} y e = let d : fun f ts ≡ x = cc in ap (λ (s : Term). graft s q y) d
  graft_join (fun f ts) (i ∷ p) q y e = ap (fun f) (graft_join_in ts i p q y e)

  graft_join_in : (ts : Terms) (i : ℕ) (p q : List ℕ) {x : Term} (y : Term) → part_of ts i p ≡ Some x → graft_in ts i (p ++ q) y ≡ graft_in ts i p (graft x q y)
  graft_join_in (t ▸ ts) (suc zero) p q y e = ap (λ u. u ▸ ts) (graft_join t p q y e)
  graft_join_in (t ▸ ts) (suc (suc i)) p q y e = ap (λ us. t ▸ us) (graft_join_in ts (suc i) p q y e)
  graft_join_in ts i p q y e = refl

-- two different variables of a pattern: each stays while the other is grafted, and the order of the grafts does not matter
abbrev Apart : List ℕ → List ℕ → Type 0
Apart p q = p ≡ q → ⊥

mutual
  pub part_other : (t : Term) (p q : List ℕ) (a : Term) {j k : ℕ} → part t p ≡ Some (var j) → part t q ≡ Some (var k) → Apart p q → part (graft t p a) q ≡ Some (var k)
  part_other (var v) [] [] a d e n = absurd (n refl)
  part_other (con c ts) (i ∷ p) (j ∷ q) a d e n = part_other_in ts i p j q a d e n
  part_other (fun f ts) (i ∷ p) (j ∷ q) a d e n = part_other_in ts i p j q a d e n
  part_other t p q a d e n = absurd (cc)

  part_other_in : (ts : Terms) (i : ℕ) (p : List ℕ) (j : ℕ) (q : List ℕ) (a : Term) {x y : ℕ} → part_of ts i p ≡ Some (var x) → part_of ts j q ≡ Some (var y) → Apart (i ∷ p) (j ∷ q)
      → part_of (graft_in ts i p a) j q ≡ Some (var y)
  part_other_in (t ▸ ts) (suc zero) p (suc zero) q a d e n = part_other t p q a d e (λ h. n (ap (λ r. 1 ∷ r) h))
  part_other_in (t ▸ ts) (suc zero) p (suc (suc j)) q a d e n = e
  part_other_in (t ▸ ts) (suc (suc i)) p (suc zero) q a d e n = e
  part_other_in (t ▸ ts) (suc (suc i)) p (suc (suc j)) q a d e n = part_other_in ts (suc i) p (suc j) q a d e (λ h. n (ap in_later h))
  part_other_in ts i p j q a d e n = absurd (cc)

mutual
  pub graft_other : (t : Term) (p q : List ℕ) (a b : Term) {j k : ℕ} → part t p ≡ Some (var j) → part t q ≡ Some (var k) → Apart p q
      → graft (graft t p a) q b ≡ graft (graft t q b) p a
  graft_other (var v) [] [] a b d e n = absurd (n refl)
  graft_other (con c ts) (i ∷ p) (j ∷ q) a b d e n = ap (con c) (graft_other_in ts i p j q a b d e n)
  graft_other (fun f ts) (i ∷ p) (j ∷ q) a b d e n = ap (fun f) (graft_other_in ts i p j q a b d e n)
  graft_other t p q a b d e n = absurd (cc)

  graft_other_in : (ts : Terms) (i : ℕ) (p : List ℕ) (j : ℕ) (q : List ℕ) (a b : Term) {x y : ℕ} → part_of ts i p ≡ Some (var x) → part_of ts j q ≡ Some (var y) → Apart (i ∷ p) (j ∷ q)
      → graft_in (graft_in ts i p a) j q b ≡ graft_in (graft_in ts j q b) i p a
  graft_other_in (t ▸ ts) (suc zero) p (suc zero) q a b d e n = ap (λ u. u ▸ ts) (graft_other t p q a b d e (λ h. n (ap (λ r. 1 ∷ r) h)))
  graft_other_in (t ▸ ts) (suc zero) p (suc (suc j)) q a b d e n = refl
  graft_other_in (t ▸ ts) (suc (suc i)) p (suc zero) q a b d e n = refl
  graft_other_in (t ▸ ts) (suc (suc i)) p (suc (suc j)) q a b d e n = ap (λ us. t ▸ us) (graft_other_in ts (suc i) p (suc j) q a b d e (λ h. n (ap in_later h)))
  graft_other_in ts i p j q a b d e n = absurd (cc)
