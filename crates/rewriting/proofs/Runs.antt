-- An evaluation is a run of the strategy.
use Rattle.std.proofs.Common.{◌≡◌, ℕ, zero, suc, List, [], ◌∷◌, Some, None, sym, refl, ap, ◌∙◌, subst, subst₂}
use Rattle.terms.specs.Terms.{Head, Fn, Term, var, con, fun, Terms, nil, ◌▸◌, Value, Values}
use Rattle.terms.specs.Positions.{part, part_of, graft, graft_in}
use Rattle.rewriting.specs.Steps.{Cause}
use Rattle.rewriting.specs.Strategy.{contract, inside, outermost, first_outermost}
use Rattle.rewriting.proofs.Positions.{part_graft, graft_same, graft_twice}
use Rattle.rewriting.proofs.Plans.{Plan, split, seek, Over, over_var, over_con, over_fun, Overs, over_rest, over_short, over_more, over_graft, Ev, ev_con, ev_fun, EvW, ev_leaf, ev_split, Serves, St, Sts, st_nil, st_more, expand}
use Rattle.rewriting.proofs.Blanks.{fresh}

infixr 20 ◌next◌
-- steps of any relation, in a row
pub data Many {A : Type 0} (R : A → A → Type 0) : A → A → Type 0 where
  done : {t : A} → Many R t t
  ◌next◌ : {t u v : A} → R t u → Many R u v → Many R t v

pub many_map : {A B : Type 0} {R : A → A → Type 0} {S : B → B → Type 0} (g : A → B)
    → ((t u : A) → R t u → S (g t) (g u)) → {t u : A} → Many R t u → Many S (g t) (g u)
many_map g h done = done
many_map g h (r next m) = h _ _ r next many_map g h m

pub many_join : {A : Type 0} {R : A → A → Type 0} {t u v : A} → Many R t u → Many R u v → Many R t v
many_join done n = n
many_join (r next m) n = r next many_join m n

-- both terms begin as the pattern does, with anything at its variables
abbrev Any : Term → Term → Type 0
Any t u = Unit {0}

abbrev Anys : Terms → Terms → Type 0
Anys ts us = Unit {0}

abbrev pub BeginAs : Term → Term → Term → Type 0
BeginAs = Over Any Anys

fresh_alike : (ks : List ℕ) (ts : Terms) → Overs Any Anys (fresh ks) ts ts
fresh_alike [] ts = over_rest tt
fresh_alike (k ∷ ks) nil = over_short
fresh_alike (k ∷ ks) (t ▸ ts) = over_more (over_var tt) (fresh_alike ks ts)

-- below a graft: what began with it begins without it, and where the one has a part there, the other has the constructor
abbrev Under : Term → Term → Term → List ℕ → Head → Type 0
Under π t u p d = BeginAs π t u × ((z : Term) → part t p ≡ Some z → (bs : Terms) × (part u p ≡ Some (con d bs)))

abbrev Unders : Terms → Terms → Terms → ℕ → List ℕ → Head → Type 0
Unders ps ts us i p d = Overs Any Anys ps ts us × ((z : Term) → part_of ts i p ≡ Some z → (bs : Terms) × (part_of us i p ≡ Some (con d bs)))

mutual
  ungraft : (π : Term) (p : List ℕ) (d : Head) (vs : Terms) {t u : Term} {x : ℕ} → part π p ≡ Some (var x) → BeginAs (graft π p (con d vs)) t u → Under π t u p d
  ungraft (var v) [] d vs e (over_con {us = us} os) = (over_var tt, λ z q. (us, refl))
  ungraft (con c ps) (i ∷ p) d vs e (over_con os) = let x = ungrafts ps i p d vs e os in (over_con x.0, x.1)
  ungraft (fun f ps) (i ∷ p) d vs e (over_fun os) = let x = ungrafts ps i p d vs e os in (over_fun x.0, x.1)
  ungraft t p d vs e o = absurd (cc)

  ungrafts : (ps : Terms) (i : ℕ) (p : List ℕ) (d : Head) (vs : Terms) {ts us : Terms} {x : ℕ} → part_of ps i p ≡ Some (var x) → Overs Any Anys (graft_in ps i p (con d vs)) ts us
      → Unders ps ts us i p d
  ungrafts (q ▸ ps) (suc zero) p d vs e over_short = (over_short, λ z h. absurd (cc))
  ungrafts (q ▸ ps) (suc zero) p d vs e (over_more o os) = let x = ungraft q p d vs e o in (over_more x.0 os, x.1)
  ungrafts (q ▸ ps) (suc (suc i)) p d vs e over_short = (over_short, λ z h. absurd (cc))
  ungrafts (q ▸ ps) (suc (suc i)) p d vs e (over_more o os) = let x = ungrafts ps (suc i) p d vs e os in (over_more o x.0, x.1)
  ungrafts ts i p d vs e os = absurd (cc)

module _ (plan : Fn → Plan) where
  -- the strategy at a call
  pub data Phi : Term → Term → Type 0 where
    phi_root : {f : Fn} {ts : Terms} {b : Cause} {u : Term} → seek (plan f) (fun f ts) ≡ contract b u → Phi (fun f ts) u
    phi_inside : {f : Fn} {ts : Terms} {i : ℕ} {q : List ℕ} {s u : Term}
        → seek (plan f) (fun f ts) ≡ inside (i ∷ q) → part_of ts i q ≡ Some s → Phi s u → Phi (fun f ts) (fun f (graft_in ts i q u))

  -- a step of it below the root, that a plan asks for
  abbrev Inner : Plan → Term → Term → Term → Type 0
  Inner T π t u = BeginAs π t u × (i : ℕ) × (q : List ℕ) × (s : Term) × (w : Term)
      × (seek T t ≡ inside (i ∷ q)) × (part t (i ∷ q) ≡ Some s) × Phi s w × (u ≡ graft t (i ∷ q) w)

  is_call : {t u : Term} → Phi t u → (f : Fn) × (ts : Terms) × (t ≡ fun f ts)
  is_call (phi_root {f = f} {ts = ts} e) = (f, ts, refl)
  is_call (phi_inside {f = f} {ts = ts} e d p) = (f, ts, refl)

  inner_phi : (f : Fn) (π : Term) {t u : Term} → Many (Inner (plan f) π) t u → (ts : Terms) → t ≡ fun f ts → Many Phi t u × (us : Terms) × (u ≡ fun f us)
  inner_phi f π done ts e = (done, ts, e)
  inner_phi f π (◌next◌ {u = u} r m) ts e =
      let i = r.1 in
      let q = r.2 in
      let g : u ≡ fun f (graft_in ts i q r.4) = r.8 ∙ ap (λ (y : Term). graft y (i ∷ q) r.4) e in
      let d : seek (plan f) (fun f ts) ≡ inside (i ∷ q) = subst (λ (y : Term). seek (plan f) y ≡ inside (i ∷ q)) e r.5 in
      let h : part_of ts i q ≡ Some r.3 = subst (λ (y : Term). part y (i ∷ q) ≡ Some r.3) e r.6 in
      let x = inner_phi f π m (graft_in ts i q r.4) g in
      (subst₂ Phi (sym e) (sym g) (phi_inside d h r.7) next x.0, x.1, x.2)

  -- a run in the part that the plan asks for
  lift_here : (p : List ℕ) (k : Head → Plan) (π : Term) {x : ℕ} (i : ℕ) (q : List ℕ) → p ≡ i ∷ q → part π p ≡ Some (var x)
      → {s w : Term} → Many Phi s w → (t : Term) → part t p ≡ Some s → BeginAs π t t → Many (Inner (split p k) π) t (graft t p w)
  lift_here p k π i q z e done t h o = subst (Many (Inner (split p k) π) t) (sym (graft_same t p h)) done
  lift_here p k π {x} i q z e {s} {w} (◌next◌ {u = u} r m) t h o =
      let c = is_call r in
      let a : seek (split p k) t ≡ inside p = rw (h, c.2) in
      let g = graft_same π p e in
      let both : BeginAs π t (graft t p u) =
      subst₂ (λ ρ y. BeginAs ρ y (graft t p u)) g (graft_same t p h) (over_graft o p e (over_var {x = x} {t = s} {u = u} tt)) in
      let new : BeginAs π (graft t p u) (graft t p u) = subst (λ ρ. BeginAs ρ (graft t p u) (graft t p u)) g (over_graft o p e (over_var {x = x} {t = u} {u = u} tt)) in
      (both, i, q, s, u, a ∙ ap inside z, subst (λ y. part t y ≡ Some s) z h, r, ap (λ y. graft t y u) z)
      next subst (Many (Inner (split p k) π) (graft t p u)) (graft_twice t p u w) (lift_here p k π i q z e m (graft t p u) (part_graft t p u h) new)

  -- and a run further down the plan
  lift_there : (p : List ℕ) (k : Head → Plan) (π : Term) {x : ℕ} (d : Head) (ks : List ℕ) → part π p ≡ Some (var x)
      → {t u : Term} → Many (Inner (k d) (graft π p (con d (fresh ks)))) t u → (bs : Terms) → part t p ≡ Some (con d bs)
      → Many (Inner (split p k) π) t u × (ds : Terms) × (part u p ≡ Some (con d ds))
  lift_there p k π d ks e done bs h = (done, bs, h)
  lift_there p k π d ks e {t} (r next m) bs h =
      let x = ungraft π p d (fresh ks) e r.0 in
      let y = x.1 (con d bs) h in
      let a : seek (split p k) t ≡ inside (r.1 ∷ r.2) = rw h r.5 in
      let z = lift_there p k π d ks e m y.0 y.1 in
      ((x.0, r.1, r.2, r.3, r.4, a, r.6, r.7, r.8) next z.0, z.1, z.2)

module _ {plan : Fn → Plan} (serves : (f : Fn) → (ks : List ℕ) × Serves plan (plan f) (fun f (fresh ks))) where
  mutual
    pub ev_run : {t : Term} {c : Head} {ts : Terms} → Ev plan t c ts → Many (Phi plan) t (con c ts)
    ev_run ev_con = done
    ev_run (ev_fun {f = f} {ss = ss} w) =
        let s = serves f in
        let x = walk_run w s.1 (over_fun (fresh_alike s.0 ss)) in
        let y = inner_phi plan f (fun f (fresh s.0)) x.3 ss refl in
        many_join y.0 (subst (λ z. Phi plan z x.1) (sym y.2) (phi_root (subst (λ z. seek (plan f) z ≡ contract x.2 x.1) y.2 x.4)) next x.5)

    walk_run : {T : Plan} {t : Term} {c : Head} {ts : Terms} → EvW plan T t c ts → {π : Term} → Serves plan T π → BeginAs π t t
        → (v : Term) × (u : Term) × (b : Cause) × Many (Inner plan T π) t v × (seek T v ≡ contract b u) × Many (Phi plan) u (con c ts)
    walk_run (ev_leaf {b = b} {g = g} {t = t} e) s o = (t, g t, b, done, refl, ev_run e)
    walk_run (ev_split {p = p} {k = k} {t = t} {d = d} {bs = bs} h e w) {π} s o =
        let z = s.0 in
        let n = s.2 d in
        let m = lift_here plan p k π z.0 z.1 z.2 s.1.1 (ev_run e) t h o in
        let x = walk_run w n.1 (over_graft o p s.1.1 (over_con (fresh_alike n.0 bs))) in
        let y = lift_there plan p k π d n.0 s.1.1 x.3 bs (part_graft t p (con d bs) h) in
        (x.0, x.1, x.2, many_join m y.0, rw y.2 x.4, x.5)

-- a value has no call
mutual
  pub value_calm : (t : Term) → Value t → outermost t ≡ None
  value_calm (var x) h = absurd h
  value_calm (con c ts) h = values_calm ts h
  value_calm (fun f ts) h = absurd h

  values_calm : (ts : Terms) → Values ts → first_outermost ts ≡ None
  values_calm nil h = refl
  values_calm (t ▸ ts) h = rw (value_calm t h.0, values_calm ts h.1)

-- evaluation to a value
module _ (plan : Fn → Plan) where
  mutual
    pub data Full : Term → Term → Type 0 where
      full : {t : Term} {c : Head} {ts vs : Terms} → Ev plan t c ts → Fulls ts vs → Full t (con c vs)

    pub data Fulls : Terms → Terms → Type 0 where
      full_nil : Fulls nil nil
      full_more : {t v : Term} {ts vs : Terms} → Full t v → Fulls ts vs → Fulls (t ▸ ts) (v ▸ vs)

  mutual
    pub full_value : (v : Term) → Value v → Full v v
    full_value (var x) h = absurd h
    full_value (con c ts) h = full ev_con (fulls_values ts h)
    full_value (fun f ts) h = absurd h

    fulls_values : (vs : Terms) → Values vs → Fulls vs vs
    fulls_values nil h = full_nil
    fulls_values (v ▸ vs) h = full_more (full_value v h.0) (fulls_values vs h.1)

  -- the strategy: at the leftmost outermost call
  mutual
    pub data Next : Term → Term → Type 0 where
      next_call : {t u : Term} → Phi plan t u → Next t u
      next_con : {c : Head} {ts us : Terms} → Nexts ts us → Next (con c ts) (con c us)

    pub data Nexts : Terms → Terms → Type 0 where
      next_here : {t u : Term} {ts : Terms} → Next t u → Nexts (t ▸ ts) (u ▸ ts)
      next_later : {t : Term} {ts us : Terms} → outermost t ≡ None → Nexts ts us → Nexts (t ▸ ts) (t ▸ us)

module _ {plan : Fn → Plan} (serves : (f : Fn) → (ks : List ℕ) × Serves plan (plan f) (fun f (fresh ks))) where
  mutual
    pub full_run : {t v : Term} → Full plan t v → Value v → Many (Next plan) t v
    full_run (full {c = c} e fs) h = many_join (many_map (λ x. x) (λ t u. next_call) (ev_run serves e)) (many_map (con c) (λ t u. next_con) (fulls_run fs h))

    fulls_run : {ts vs : Terms} → Fulls plan ts vs → Values vs → Many (Nexts plan) ts vs
    fulls_run full_nil h = done
    fulls_run (full_more {v = v} {ts = ts} f fs) h =
        many_join (many_map (λ x. x ▸ ts) (λ t u. next_here) (full_run f h.0)) (many_map (λ x. v ▸ x) (λ t u. next_later (value_calm v h.0)) (fulls_run fs h.1))

  mutual
    pub full_expand : {t u v : Term} → Full plan u v → St plan t u → Full plan t v
    full_expand (full e fs) r = let x = expand serves e r in full x.1 (fulls_expand fs x.2)

    fulls_expand : {ts us vs : Terms} → Fulls plan us vs → Sts plan ts us → Fulls plan ts vs
    fulls_expand full_nil st_nil = full_nil
    fulls_expand (full_more f fs) (st_more r rs) = full_more (full_expand f r) (fulls_expand fs rs)
