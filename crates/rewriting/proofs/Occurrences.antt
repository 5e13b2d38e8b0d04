-- The variables of a term, and the substitution that a match gives.
use Rattle.std.proofs.Common.{◌≡◌, ℕ, zero, suc, Bool, true, false, cond, eqb, ◌⊎◌, List, [], ◌∷◌, map, Some, sym, refl, ap, ◌∙◌, subst, ap₂, inl, inr, eqb-true, eq-eqb, find, option_map}
use mathlib.Core.List.Memᴰ
use mathlib.Core.List.{Memᴰ}
use Rattle.rewriting.proofs.Lists.{found, mem_found}
use Rattle.rewriting.proofs.Basics.{mapped_some}
use Rattle.terms.specs.Terms.{Term, var, con, fun, Terms, nil, ◌▸◌}
use Rattle.terms.specs.Positions.{part, part_of}
use Rattle.rewriting.specs.Substitutions.{Substitution, instance, instances, Occurrence, in_first, in_later, moved, occurrences, all_occurrences, variables, position_of, matching, is_of}
use Rattle.rewriting.specs.Rules.{Different, Linear}
use Rattle.rewriting.proofs.Positions.{part_here, none_at_zero}

abbrev at_position : ℕ → List ℕ → Occurrence
at_position x p = record { name = x; position = p }

abbrev name_of : Occurrence → ℕ
name_of o = o.name

-- where an occurrence is, the variable stands
abbrev In : Terms → Occurrence → Type 0
In ts o = (i : ℕ) × (p : List ℕ) × (o.position ≡ suc i ∷ p) × (part_of ts (suc i) p ≡ Some (var o.name))

mutual
  pub occurs_part : (t : Term) {o : Occurrence} → Memᴰ o (occurrences t) → part t o.position ≡ Some (var o.name)
  occurs_part (var x) (Memᴰ.head e) = rw e refl
  occurs_part (var x) (Memᴰ.tail m) = absurd (Memᴰ.not-nil m)
  occurs_part (con c ts) m = let x = occurs_in ts m in rw x.2 x.3
  occurs_part (fun f ts) m = let x = occurs_in ts m in rw x.2 x.3

  pub occurs_in : (ts : Terms) {o : Occurrence} → Memᴰ o (all_occurrences ts) → In ts o
  occurs_in nil m = absurd (Memᴰ.not-nil m)
  occurs_in (t ▸ ts) {o} m = go (Memᴰ.append_cases (map (moved in_first) (occurrences t)) m) (λ q n. occurs_part t n) (λ q n. occurs_in ts n)
    where
      go : Memᴰ o (map (moved in_first) (occurrences t)) ⊎ Memᴰ o (map (moved in_later) (all_occurrences ts))
          → ((q : Occurrence) → Memᴰ q (occurrences t) → part t q.position ≡ Some (var q.name))
          → ((q : Occurrence) → Memᴰ q (all_occurrences ts) → In ts q) → In (t ▸ ts) o
      go (inl n) f g = let y = Memᴰ.of_map (moved in_first) (occurrences t) n in (0, y.0.position, ap (λ (u : Occurrence). u.position) (sym y.2), f y.0 y.1 ∙ ap (λ (u : Occurrence). Some (var u.name)) y.2)
      go (inr n) f g =
          let y = Memᴰ.of_map (moved in_later) (all_occurrences ts) n in
          let z = g y.0 y.1 in (
            suc z.0,
            z.1,
            ap (λ (u : Occurrence). u.position) (sym y.2) ∙ ap in_later z.2,
            z.3 ∙ ap (λ (u : Occurrence). Some (var u.name)) y.2,
          )

-- where a variable stands, an occurrence is
mutual
  pub part_occurs : (t : Term) (p : List ℕ) {x : ℕ} → part t p ≡ Some (var x) → Memᴰ (at_position x p) (occurrences t)
  part_occurs (var v) [] {x} e = let d : x ≡ v = cc in Memᴰ.head (ap (λ (y : ℕ). at_position y []) d)
  part_occurs (con c ts) (i ∷ p) e = part_occurs_in ts i p e
  part_occurs (fun f ts) (i ∷ p) e = part_occurs_in ts i p e
  part_occurs t p e = absurd (cc)

  part_occurs_in : (ts : Terms) (i : ℕ) (p : List ℕ) {x : ℕ} → part_of ts i p ≡ Some (var x) → Memᴰ (at_position x (i ∷ p)) (all_occurrences ts)
  part_occurs_in (t ▸ ts) (suc zero) p e = Memᴰ.append_left (map (moved in_later) (all_occurrences ts)) (Memᴰ.map (moved in_first) (part_occurs t p e))
  part_occurs_in (t ▸ ts) (suc (suc i)) p e = Memᴰ.append_right (map (moved in_first) (occurrences t)) (Memᴰ.map (moved in_later) (part_occurs_in ts (suc i) p e))
  part_occurs_in ts i p e = absurd (cc)

pub part_variable : (t : Term) (p : List ℕ) {x : ℕ} → part t p ≡ Some (var x) → Memᴰ x (variables t)
part_variable t p e = Memᴰ.map name_of (part_occurs t p e)

-- parts of instances
module _ (σ : Substitution) where
  mutual
    pub part_instance : (t : Term) (p : List ℕ) {s : Term} → part t p ≡ Some s → part (instance σ t) p ≡ Some (instance σ s)
    part_instance (var v) [] {s} e = let d : var v ≡ s = cc in part_here (σ v) ∙ ap (λ (u : Term). Some (instance σ u)) d
    part_instance (var v) (i ∷ p) e = absurd (cc)
    part_instance (con c ts) [] {s} e = let d : con c ts ≡ s = cc in ap (λ (u : Term). Some (instance σ u)) d
    part_instance (con c ts) (i ∷ p) e = part_instances ts i p e
    part_instance (fun f ts) [] {s} e = let d : fun f ts ≡ s = cc in ap (λ (u : Term). Some (instance σ u)) d
    part_instance (fun f ts) (i ∷ p) e = part_instances ts i p e

    part_instances : (ts : Terms) (i : ℕ) (p : List ℕ) {s : Term} → part_of ts i p ≡ Some s → part_of (instances σ ts) i p ≡ Some (instance σ s)
    part_instances (t ▸ ts) (suc zero) p e = part_instance t p e
    part_instances (t ▸ ts) (suc (suc i)) p e = part_instances ts (suc i) p e
    part_instances ts i p e = absurd (cc)

-- the first position of a variable that stands in a term
first_found : (x : ℕ) (os : List Occurrence) → Memᴰ x (map name_of os) → (p : List ℕ) × (position_of x os ≡ Some p) × Memᴰ (at_position x p) os
first_found x os m =
    let y = Memᴰ.of_map name_of os m in
    let z = mem_found (is_of x) y.1 (eq-eqb x y.0.name (sym y.2)) in
    let w = found (is_of x) os z.1 in
    (z.0.position, ap (option_map (λ (o : Occurrence). o.position)) z.1, Memᴰ.cast (ap (λ (n : ℕ). at_position n z.0.position) (eqb-true x z.0.name w.1)) w.0)

-- the only position, where no variable stands twice
only_found : (x : ℕ) (p : List ℕ) (os : List Occurrence) → Different (map name_of os) → Memᴰ (at_position x p) os → position_of x os ≡ Some p
only_found x p [] d m = absurd (Memᴰ.not-nil m)
only_found x p (o ∷ os) d m = go (eqb x o.name) refl m (only_found x p os d.1)
  where
    go : (b : Bool) → eqb x o.name ≡ b → Memᴰ (at_position x p) (o ∷ os) → (Memᴰ (at_position x p) os → position_of x os ≡ Some p)
        → option_map (λ (q : Occurrence). q.position) (cond b (Some o) (find (is_of x) os)) ≡ Some p
    go true e (Memᴰ.head h) ih = ap (λ (q : Occurrence). Some q.position) (sym h)
    go true e (Memᴰ.tail n) ih = absurd (d.0 (subst (λ (y : ℕ). Memᴰ y (map name_of os)) (eqb-true x o.name e) (Memᴰ.map name_of n)))
    go false e (Memᴰ.head h) ih = absurd (let a = ap (λ (q : Occurrence). eqb x q.name) h in let b = eq-eqb x x refl in cc)
    go false e (Memᴰ.tail n) ih = ih n

pub position_stands : (x : ℕ) (os : List Occurrence) (p : List ℕ) → position_of x os ≡ Some p → Memᴰ (at_position x p) os
position_stands x os p e =
    let y = mapped_some (λ (o : Occurrence). o.position) (find (is_of x) os) e in
    let w = found (is_of x) os y.1 in
    Memᴰ.cast (ap₂ at_position (eqb-true x y.0.name w.1) (sym y.2)) w.0

-- on an instance of l the match finds the substitution
pub matching_instance : (σ : Substitution) (l : Term) (x : ℕ) → Memᴰ x (variables l) → matching l (instance σ l) x ≡ σ x
matching_instance σ l x m =
    let y = first_found x (occurrences l) m in
    rw (y.1, part_instance σ l y.0 (occurs_part l y.2)) refl

-- at a variable of a linear l the match finds the part
pub matching_linear : (l t : Term) → Linear l → (p : List ℕ) {x : ℕ} {s : Term} → part l p ≡ Some (var x) → part t p ≡ Some s → matching l t x ≡ s
matching_linear l t n p {x} {s} e d =
    let y = first_found x (occurrences l) (part_variable l p e) in
    let q = n x y.0 p (occurs_part l y.2) e in
    rw (y.1, q, d) refl

-- where no two of its variables are the same, a term is linear
pub different_linear : (t : Term) → Different (variables t) → Linear t
different_linear t h x p q d e =
    let a = only_found x p (occurrences t) h (part_occurs t p d) in
    let b = only_found x q (occurrences t) h (part_occurs t q e) in
    cc

-- every variable of a term
abbrev mutual
  pub Each : (ℕ → Type 0) → Term → Type 0
  Each Q (var x) = Q x
  Each Q (con c ts) = Eachs Q ts
  Each Q (fun f ts) = Eachs Q ts

  pub Eachs : (ℕ → Type 0) → Terms → Type 0
  Eachs Q nil = Unit {0}
  Eachs Q (t ▸ ts) = Each Q t × Eachs Q ts

mutual
  pub each : (Q : ℕ → Type 0) (t : Term) → ((p : List ℕ) (x : ℕ) → part t p ≡ Some (var x) → Q x) → Each Q t
  each Q (var v) h = h [] v refl
  each Q (con c ts) h = eachs Q ts (λ i p x e. h (i ∷ p) x e)
  each Q (fun f ts) h = eachs Q ts (λ i p x e. h (i ∷ p) x e)

  eachs : (Q : ℕ → Type 0) (ts : Terms) → ((i : ℕ) (p : List ℕ) (x : ℕ) → part_of ts i p ≡ Some (var x) → Q x) → Eachs Q ts
  eachs Q nil h = tt
  eachs Q (t ▸ ts) h = (each Q t (λ p x e. h 1 p x e), eachs Q ts (λ i p x. go i p x))
    where
      go : (i : ℕ) (p : List ℕ) (x : ℕ) → part_of ts i p ≡ Some (var x) → Q x
      go zero p x e = absurd (none_at_zero ts p e)
      go (suc i) p x e = h (suc (suc i)) p x e

-- instances agree where the substitutions agree on the variables
mutual
  pub instance_agrees : (σ τ : Substitution) (t : Term) → Each (λ x. σ x ≡ τ x) t → instance σ t ≡ instance τ t
  instance_agrees σ τ (var v) h = h
  instance_agrees σ τ (con c ts) h = ap (con c) (instances_agree σ τ ts h)
  instance_agrees σ τ (fun f ts) h = ap (fun f) (instances_agree σ τ ts h)

  instances_agree : (σ τ : Substitution) (ts : Terms) → Eachs (λ x. σ x ≡ τ x) ts → instances σ ts ≡ instances τ ts
  instances_agree σ τ nil h = refl
  instances_agree σ τ (t ▸ ts) h = ap₂ ◌▸◌ (instance_agrees σ τ t h.0) (instances_agree σ τ ts h.1)

pub variable_part : (t : Term) {x : ℕ} → Memᴰ x (variables t) → (p : List ℕ) × (part t p ≡ Some (var x))
variable_part t {x} m =
    let y = first_found x (occurrences t) m in
    (y.0, occurs_part t y.2)
