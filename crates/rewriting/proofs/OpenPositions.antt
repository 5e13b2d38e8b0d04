-- The open positions of a pattern: how a term that fits looks there, and how a graft opens one.
use Rattle.std.proofs.Common.{◌≡◌, ℕ, zero, suc, ◌+◌, ◌≤◌, Bool, true, false, cond, ◌&&◌, List, [], ◌∷◌, ◌++◌, map, length, Some, None, sym, refl, ap, ◌∙◌, ap₂, arith, length-append, option_map, append-nil}
use mathlib.Core.List.Memᴰ
use mathlib.Core.List.{map-append, map-map, Memᴰ}
use lib.ListN.{length-map}
use lib.Dec.{eqb-suc-suc}
use Rattle.std.specs.Str.{bytes_eq}
use Rattle.std.proofs.lemmas.Slice.Eq.{bytes_eq-Decides}
use Rattle.std.specs.List.{list_all}
use Rattle.std.proofs.lemmas.List.Folds.{list_all-append, list_all-map}
use Rattle.std.proofs.lemmas.List.Concat.{flat_map-append}
use Rattle.std.proofs.lemmas.Bool.{cond_both}
use Rattle.terms.specs.Terms.{Term, var, con, fun, Terms, ◌▸◌}
use Rattle.terms.specs.Options.{passes}
use Rattle.terms.specs.Positions.{part, part_of, graft, graft_in}
use Rattle.rewriting.specs.Substitutions.{Occurrence, in_first, in_later, occurrences, all_occurrences, variables, variable_positions}
use Rattle.rewriting.specs.Rules.{Rule, left_side}
use Rattle.rewriting.specs.Trees.{at_rule, variables_from}
use Rattle.rewriting.specs.FixedTree.{alike, all_alike, sole_variant, size, sizes}
use Rattle.rewriting.specs.Growing.{is_variable, variable_at, sole_open, below, opened, opened_at}
use Rattle.rewriting.proofs.Basics.{same_head_same}
use Rattle.rewriting.proofs.Occurrences.{occurs_in}
use Rattle.rewriting.proofs.Shapes.{Fit, fit_var, fit_con, fit_fun, Fits, fit_nil, fit_more}
use Rattle.rewriting.proofs.Variants.{same_fn_same}

-- the positions of the variables of arguments in a row: each begins with an argument's number
abbrev positions_in : Terms → List (List ℕ)
positions_in ts = map (λ (o : Occurrence). o.position) (all_occurrences ts)

positions_more : (t : Term) (ts : Terms) → positions_in (t ▸ ts) ≡ map in_first (variable_positions t) ++ map in_later (positions_in ts)
positions_more t ts = simp (map-append, map-map)

numbered : (ts : Terms) {p : List ℕ} → Memᴰ p (positions_in ts) → (i : ℕ) × (q : List ℕ) × (p ≡ suc i ∷ q)
numbered ts m =
    let x = Memᴰ.of_map (λ (o : Occurrence). o.position) (all_occurrences ts) m in
    let y = occurs_in ts x.1 in
    (y.0, y.1, sym x.2 ∙ y.2)

-- a term that fits is alike exactly where it has a variable at each open position
mutual
  alike_open : {π l : Term} → Fit π l → (t : List ℕ → Bool) → ((p : List ℕ) → t p ≡ passes is_variable (part l p)) → alike l π ≡ list_all t (variable_positions π)
  alike_open (fit_var {x = x} {t = l}) t h = rw (h []) (go l)
    where
      go : (u : Term) → alike u (var x) ≡ (passes is_variable (part u []) && true)
      go (var y) = refl
      go (con c ts) = refl
      go (fun f ts) = refl
  alike_open (fit_con {c = c} f) t h = rw (same_head_same c) (all_alike_open f t (λ i p. h (suc i ∷ p)))
  alike_open (fit_fun {f = g} f) t h = rw (same_fn_same g) (all_alike_open f t (λ i p. h (suc i ∷ p)))

  all_alike_open : {ps ts : Terms} → Fits ps ts → (t : List ℕ → Bool) → ((i : ℕ) (p : List ℕ) → t (suc i ∷ p) ≡ passes is_variable (part_of ts (suc i) p))
      → all_alike ts ps ≡ list_all t (positions_in ps)
  all_alike_open fit_nil t h = refl
  all_alike_open (fit_more {p = π} {ps = ps} f fs) t h =
      rw (positions_more π ps, list_all-append t (map in_first (variable_positions π)) (map in_later (positions_in ps)), list_all-map t in_first, list_all-map t in_later)
      (ap₂ ◌&&◌ (alike_open f (λ q. t (in_first q)) (λ q. h 0 q)) (all_alike_open fs (λ q. t (in_later q)) (λ i q. h (suc i) q)))

pub sole_same : (π : Term) (rs : List Rule) → ((r : Rule) → Memᴰ r rs → Fit π (left_side r)) → option_map at_rule (sole_open (variable_positions π) rs) ≡ sole_variant π rs
sole_same π (r ∷ []) f =
    rw (alike_open (f r (Memᴰ.head refl)) (λ p. variable_at p r) (λ p. refl)) (go (list_all (λ p. variable_at p r) (variable_positions π)))
  where
    go : (b : Bool) → option_map at_rule (cond b (Some r) None) ≡ cond b (Some (at_rule r)) None
    go true = refl
    go false = refl
sole_same π rs f = refl

-- a term that fits has no fewer letters than the pattern
some_letter : (t : Term) → 1 ≤ size t + length (occurrences t)
some_letter (var x) = omega arith
some_letter (con c ts) = omega arith
some_letter (fun f ts) = omega arith

more_letters : (t : Term) (ts : Terms) → length (all_occurrences (t ▸ ts)) ≡ length (occurrences t) + length (all_occurrences ts)
more_letters t ts = simp (length-append, length-map)

mutual
  fit_occurrences : {π t : Term} → Fit π t → size π + length (occurrences π) ≤ size t + length (occurrences t)
  fit_occurrences (fit_var {t = t}) = let h = some_letter t in omega arith
  fit_occurrences (fit_con f) = let h = fits_occurrences f in omega arith
  fit_occurrences (fit_fun f) = let h = fits_occurrences f in omega arith

  fits_occurrences : {ps ts : Terms} → Fits ps ts → sizes ps + length (all_occurrences ps) ≤ sizes ts + length (all_occurrences ts)
  fits_occurrences fit_nil = omega arith
  fits_occurrences (fit_more {p = p} {t = t} {ps = ps} {ts = ts} f fs) =
      let a = fit_occurrences f in
      let b = fits_occurrences fs in
      rw (more_letters p ps, more_letters t ts) (omega arith)

pub fit_letters : {π t : Term} → Fit π t → size π + length (variable_positions π) ≤ size t + length (variables t)
fit_letters {π} {t} f = simp length-map (fit_occurrences f)

-- a position is no longer than the symbols of its term
mutual
  pub position_short : (t : Term) (p : List ℕ) {s : Term} → part t p ≡ Some s → length p ≤ size t
  position_short (var v) [] e = omega arith
  position_short (var v) (i ∷ p) e = absurd (cc)
  position_short (con c ts) [] e = omega arith
  position_short (con c ts) (i ∷ p) e = let h = position_short_in ts i p e in omega arith
  position_short (fun f ts) [] e = omega arith
  position_short (fun f ts) (i ∷ p) e = let h = position_short_in ts i p e in omega arith

  position_short_in : (ts : Terms) (i : ℕ) (p : List ℕ) {s : Term} → part_of ts i p ≡ Some s → length p ≤ sizes ts
  position_short_in (t ▸ ts) (suc zero) p e = let h = position_short t p e in omega arith
  position_short_in (t ▸ ts) (suc (suc i)) p e = let h = position_short_in ts (suc i) p e in omega arith
  position_short_in ts i p e = absurd (cc)

-- new variables in a row: their positions, and no symbol
below_later : (i m : ℕ) → map in_later (below [] i m) ≡ below [] (suc i) m
below_later i zero = refl
below_later i (suc m) = ap (λ (ps : List (List ℕ)). (suc i ∷ []) ∷ ps) (below_later (suc i) m)

pub row_positions : (y m : ℕ) → positions_in (variables_from y m) ≡ below [] 1 m
row_positions y zero = refl
row_positions y (suc m) = positions_more (var y) (variables_from (suc y) m) ∙ ap (λ (ps : List (List ℕ)). (1 ∷ []) ∷ ps) (ap (map in_later) (row_positions (suc y) m) ∙ below_later 1 m)

pub row_sizes : (y m : ℕ) → sizes (variables_from y m) ≡ 0
row_sizes y zero = refl
row_sizes y (suc m) = let h = row_sizes (suc y) m in omega arith

-- how what opens a position goes over lists and moves
below_moved : (g : List ℕ → List ℕ) (p : List ℕ) → ((i : ℕ) → g (p ++ (i ∷ [])) ≡ g p ++ (i ∷ [])) → (i m : ℕ) → map g (below p i m) ≡ below (g p) i m
below_moved g p h i zero = refl
below_moved g p h i (suc m) = ap₂ ◌∷◌ (h i) (below_moved g p h (suc i) m)

opened_moved : (g : List ℕ → List ℕ) (p : List ℕ) → ((q : List ℕ) → bytes_eq (g q) (g p) ≡ bytes_eq q p) → ((i : ℕ) → g (p ++ (i ∷ [])) ≡ g p ++ (i ∷ []))
    → (qs : List (List ℕ)) (m : ℕ) → opened (map g qs) (g p) m ≡ map g (opened qs p m)
opened_moved g p s h [] m = refl
opened_moved g p s h (q ∷ qs) m = rw (s q, map-append, opened_moved g p s h qs m) (ap (λ (ps : List (List ℕ)). ps ++ map g (opened qs p m)) (go (bytes_eq q p)))
  where
    go : (b : Bool) → cond b (below (g p) 1 m) (g q ∷ []) ≡ map g (cond b (below p 1 m) (q ∷ []))
    go true = sym (below_moved g p h 1 m)
    go false = refl

opened_none : (qs : List (List ℕ)) (p : List ℕ) (m : ℕ) → ((q : List ℕ) → Memᴰ q qs → q ≡ p → ⊥) → opened qs p m ≡ qs
opened_none [] p m h = refl
opened_none (q ∷ qs) p m h =
    cond_both (bytes_eq q p) (below p 1 m) (q ∷ []) (λ (os : List (List ℕ)). os ++ opened qs p m ≡ q ∷ qs)
    (λ e. absurd (h q (Memᴰ.head refl) ((bytes_eq-Decides q p).0 e)))
    (λ e. ap (λ (ps : List (List ℕ)). q ∷ ps) (opened_none qs p m (λ r n. h r (Memᴰ.tail n))))

opened_more : (t : Term) (ts : Terms) (p : List ℕ) (m : ℕ) → opened (positions_in (t ▸ ts)) p m ≡ opened (map in_first (variable_positions t)) p m ++ opened (map in_later (positions_in ts)) p m
opened_more t ts p m = rw (positions_more t ts, flat_map-append (opened_at p m) (map in_first (variable_positions t)) (map in_later (positions_in ts)))

-- positions in the first argument and in later ones
first_alone : (qs : List (List ℕ)) (i : ℕ) (p q : List ℕ) → Memᴰ q (map in_first qs) → q ≡ suc (suc i) ∷ p → ⊥
first_alone qs i p q n e = let x = Memᴰ.of_map in_first qs n in let a = x.2 in let h : 1 ≡ suc (suc i) = cc in omega arith

later_alone : (ts : Terms) (p q : List ℕ) → Memᴰ q (map in_later (positions_in ts)) → q ≡ 1 ∷ p → ⊥
later_alone ts p q n e =
    let x = Memᴰ.of_map in_later (positions_in ts) n in
    let y = numbered ts x.1 in
    let a = sym x.2 ∙ ap in_later y.2 in
    let h : suc (suc y.0) ≡ 1 = cc in
    omega arith

later_same : (i : ℕ) (p q : List ℕ) → bytes_eq (in_later q) (suc i ∷ p) ≡ bytes_eq q (i ∷ p)
later_same i p [] = refl
later_same i p (j ∷ q) = rw (eqb-suc-suc j i)

-- what is grafted at a variable opens its position, if its own variables are its arguments
module _ (ρ : Term) (m : ℕ) (row : variable_positions ρ ≡ below [] 1 m) where
  mutual
    pub opened_graft : (π : Term) (p : List ℕ) {x : ℕ} → part π p ≡ Some (var x) → variable_positions (graft π p ρ) ≡ opened (variable_positions π) p m
    opened_graft (var v) [] e = row ∙ sym (append-nil (below [] 1 m))
    opened_graft (con c ts) (i ∷ p) e = opened_graft_in ts i p e
    opened_graft (fun f ts) (i ∷ p) e = opened_graft_in ts i p e
    opened_graft t p e = absurd (cc)

    opened_graft_in : (ts : Terms) (i : ℕ) (p : List ℕ) {x : ℕ} → part_of ts i p ≡ Some (var x) → positions_in (graft_in ts i p ρ) ≡ opened (positions_in ts) (i ∷ p) m
    opened_graft_in (t ▸ ts) (suc zero) p e =
        positions_more (graft t p ρ) ts
        ∙ ap₂ ◌++◌ (ap (map in_first) (opened_graft t p e) ∙ sym (opened_moved in_first p (λ q. refl) (λ i. refl) (variable_positions t) m))
        (sym (opened_none (map in_later (positions_in ts)) (1 ∷ p) m (later_alone ts p)))
        ∙ sym (opened_more t ts (1 ∷ p) m)
    opened_graft_in (t ▸ ts) (suc (suc i)) p e =
        positions_more t (graft_in ts (suc i) p ρ)
        ∙ ap₂ ◌++◌ (sym (opened_none (map in_first (variable_positions t)) (suc (suc i) ∷ p) m (first_alone (variable_positions t) i p)))
        (ap (map in_later) (opened_graft_in ts (suc i) p e) ∙ sym (opened_moved in_later (suc i ∷ p) (later_same (suc i) p) (λ j. refl) (positions_in ts) m))
        ∙ sym (opened_more t ts (suc (suc i) ∷ p) m)
    opened_graft_in ts i p e = absurd (cc)
