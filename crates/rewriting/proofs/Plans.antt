-- Trees whose children are given for every constructor: the fixed trees, and those of plus, minus and atmost.
-- Standard reduction and head evaluation along them; what reduces to an evaluated term evaluates alike.
use Rattle.std.proofs.Common.{◌≡◌, ℕ, zero, suc, List, [], ◌∷◌, Some, None, Option, refl, subst}
use Rattle.terms.specs.Terms.{Head, Fn, Term, var, con, fun, Terms, nil, ◌▸◌}
use Rattle.terms.specs.Positions.{part, part_of, graft, graft_in}
use Rattle.rewriting.specs.Substitutions.{Substitution, instance, instances}
use Rattle.rewriting.specs.Steps.{Cause}
use Rattle.rewriting.specs.Strategy.{Found, stuck, contract, look}
use Rattle.rewriting.proofs.Positions.{part_here, graft_here, graft_same}
use Rattle.rewriting.proofs.Blanks.{fresh}

-- a leaf has the cause, and the contractum of a call
pub data Plan : Type 0 where
  no_plan : Plan
  leaf : Cause → (Term → Term) → Plan
  split : List ℕ → (Head → Plan) → Plan

abbrev pub seek : Plan → Term → Found
seek no_plan t = stuck
seek (leaf c g) t = contract c (g t)
seek (split p k) t = look (part t p) p (λ c. seek (k c) t)

-- t and u begin as the pattern does; what stands at its variables is related by R, and arguments past its own by Rs
mutual
  pub data Over (R : Term → Term → Type 0) (Rs : Terms → Terms → Type 0) : Term → Term → Term → Type 0 where
    over_var : {x : ℕ} {t u : Term} → R t u → Over R Rs (var x) t u
    over_con : {c : Head} {ps ts us : Terms} → Overs R Rs ps ts us → Over R Rs (con c ps) (con c ts) (con c us)
    over_fun : {f : Fn} {ps ts us : Terms} → Overs R Rs ps ts us → Over R Rs (fun f ps) (fun f ts) (fun f us)

  pub data Overs (R : Term → Term → Type 0) (Rs : Terms → Terms → Type 0) : Terms → Terms → Terms → Type 0 where
    over_rest : {ts us : Terms} → Rs ts us → Overs R Rs nil ts us
    over_short : {ps : Terms} → Overs R Rs ps nil nil
    over_more : {p t u : Term} {ps ts us : Terms} → Over R Rs p t u → Overs R Rs ps ts us → Overs R Rs (p ▸ ps) (t ▸ ts) (u ▸ us)

-- both are missing, or both are there and related
pub data Both (R : Term → Term → Type 0) : Option Term → Option Term → Type 0 where
  neither : Both R None None
  both : {t u : Term} → R t u → Both R (Some t) (Some u)

pub both_some : {R : Term → Term → Type 0} {o q : Option Term} {u : Term} → Both R o q → q ≡ Some u → (t : Term) × (o ≡ Some t) × R t u
both_some neither e = absurd (cc)
both_some {R} {u = v} (both {t = t} {u = u} r) e = let d : u ≡ v = cc in (t, refl, subst (R t) d r)

module _ {R : Term → Term → Type 0} {Rs : Terms → Terms → Type 0} where
  mutual
    pub over_part : {π t u : Term} → Over R Rs π t u → (p : List ℕ) {x : ℕ} → part π p ≡ Some (var x) → Both R (part t p) (part u p)
    over_part (over_var {t = t} {u = u} r) [] e = rw (part_here t, part_here u) (both r)
    over_part (over_var r) (i ∷ p) e = absurd (cc)
    over_part (over_con os) [] e = absurd (cc)
    over_part (over_con os) (i ∷ p) e = overs_part os i p e
    over_part (over_fun os) [] e = absurd (cc)
    over_part (over_fun os) (i ∷ p) e = overs_part os i p e

    overs_part : {ps ts us : Terms} → Overs R Rs ps ts us → (i : ℕ) (p : List ℕ) {x : ℕ} → part_of ps i p ≡ Some (var x) → Both R (part_of ts i p) (part_of us i p)
    overs_part over_short i p e = neither
    overs_part (over_more o os) (suc zero) p e = over_part o p e
    overs_part (over_more o os) (suc (suc i)) p e = overs_part os (suc i) p e
    overs_part f i p e = absurd (cc)

  mutual
    pub over_graft : {π t u ρ a b : Term} → Over R Rs π t u → (p : List ℕ) {x : ℕ} → part π p ≡ Some (var x) → Over R Rs ρ a b
        → Over R Rs (graft π p ρ) (graft t p a) (graft u p b)
    over_graft {a = a} {b = b} (over_var {t = t} {u = u} r) [] e o = rw (graft_here t a, graft_here u b) o
    over_graft (over_var r) (i ∷ p) e o = absurd (cc)
    over_graft (over_con os) [] e o = absurd (cc)
    over_graft (over_con os) (i ∷ p) e o = over_con (overs_graft os i p e o)
    over_graft (over_fun os) [] e o = absurd (cc)
    over_graft (over_fun os) (i ∷ p) e o = over_fun (overs_graft os i p e o)

    overs_graft : {ρ a b : Term} {ps ts us : Terms} → Overs R Rs ps ts us → (i : ℕ) (p : List ℕ) {x : ℕ} → part_of ps i p ≡ Some (var x) → Over R Rs ρ a b
        → Overs R Rs (graft_in ps i p ρ) (graft_in ts i p a) (graft_in us i p b)
    overs_graft over_short i p e o = over_short
    overs_graft (over_more q qs) (suc zero) p e o = over_more (over_graft q p e o) qs
    overs_graft (over_more q qs) (suc (suc i)) p e o = over_more q (overs_graft qs (suc i) p e o)
    overs_graft f i p e o = absurd (cc)

-- contractions at the root first, then inside
module _ (plan : Fn → Plan) where
  mutual
    pub data St : Term → Term → Type 0 where
      st_var : {x : ℕ} → St (var x) (var x)
      st_con : {c : Head} {ts us : Terms} → Sts ts us → St (con c ts) (con c us)
      st_fun : {f : Fn} {ts us : Terms} → Sts ts us → St (fun f ts) (fun f us)
      st_root : {f : Fn} {ts : Terms} {b : Cause} {u v : Term} → seek (plan f) (fun f ts) ≡ contract b u → St u v → St (fun f ts) v

    pub data Sts : Terms → Terms → Type 0 where
      st_nil : Sts nil nil
      st_more : {t u : Term} {ts us : Terms} → St t u → Sts ts us → Sts (t ▸ ts) (u ▸ us)

  -- head evaluation: a term comes to begin with the constructor c; along a plan, the part that it asks for is evaluated in its place
  mutual
    pub data Ev : Term → Head → Terms → Type 0 where
      ev_con : {c : Head} {ts : Terms} → Ev (con c ts) c ts
      ev_fun : {f : Fn} {c : Head} {ss ts : Terms} → EvW (plan f) (fun f ss) c ts → Ev (fun f ss) c ts

    pub data EvW : Plan → Term → Head → Terms → Type 0 where
      ev_leaf : {b : Cause} {g : Term → Term} {t : Term} {c : Head} {ts : Terms} → Ev (g t) c ts → EvW (leaf b g) t c ts
      ev_split : {p : List ℕ} {k : Head → Plan} {t x : Term} {c d : Head} {bs ts : Terms}
          → part t p ≡ Some x → Ev x d bs → EvW (k d) (graft t p (con d bs)) c ts → EvW (split p k) t c ts

  -- the plan asks for variables of the pattern alone, below its root, and its leaves respect reduction
  abbrev pub Serves : Plan → Term → Type 0
  Serves no_plan π = Unit {0}
  Serves (leaf b g) π = (t u : Term) → Over St Sts π t u → St (g t) (g u)
  Serves (split p k) π = ((i : ℕ) × (q : List ℕ) × (p ≡ i ∷ q)) × ((x : ℕ) × (part π p ≡ Some (var x))) × ((c : Head) → (ks : List ℕ) × Serves (k c) (graft π p (con c (fresh ks))))

  -- evaluated, up to reduction of the arguments
  abbrev pub Upto : Term → Head → Terms → Type 0
  Upto t c us = (ts : Terms) × Ev t c ts × Sts ts us

module _ {plan : Fn → Plan} where
  mutual
    pub st_refl : (t : Term) → St plan t t
    st_refl (var x) = st_var
    st_refl (con c ts) = st_con (sts_refl ts)
    st_refl (fun f ts) = st_fun (sts_refl ts)

    pub sts_refl : (ts : Terms) → Sts plan ts ts
    sts_refl nil = st_nil
    sts_refl (t ▸ ts) = st_more (st_refl t) (sts_refl ts)

  -- reduction inside
  mutual
    pub st_graft : (t : Term) (p : List ℕ) {x y : Term} → part t p ≡ Some x → St plan x y → St plan t (graft t p y)
    st_graft (var v) [] {y = y} e r = subst (λ z. St plan z y) (cc) r
    st_graft (var v) (i ∷ p) e r = absurd (cc)
    st_graft (con c ts) [] {y = y} e r = subst (λ z. St plan z y) (cc) r
    st_graft (con c ts) (i ∷ p) e r = st_con (sts_graft ts i p e r)
    st_graft (fun f ts) [] {y = y} e r = subst (λ z. St plan z y) (cc) r
    st_graft (fun f ts) (i ∷ p) e r = st_fun (sts_graft ts i p e r)

    sts_graft : (ts : Terms) (i : ℕ) (p : List ℕ) {x y : Term} → part_of ts i p ≡ Some x → St plan x y → Sts plan ts (graft_in ts i p y)
    sts_graft (t ▸ ts) (suc zero) p e r = st_more (st_graft t p e r) (sts_refl ts)
    sts_graft (t ▸ ts) (suc (suc i)) p e r = st_more (st_refl t) (sts_graft ts (suc i) p e r)
    sts_graft ts i p e r = absurd (cc)

  -- reduction of instances
  mutual
    pub st_instance : {σ τ : Substitution} → ((x : ℕ) → St plan (σ x) (τ x)) → (r : Term) → St plan (instance σ r) (instance τ r)
    st_instance h (var x) = h x
    st_instance h (con c ts) = st_con (sts_instances h ts)
    st_instance h (fun f ts) = st_fun (sts_instances h ts)

    sts_instances : {σ τ : Substitution} → ((x : ℕ) → St plan (σ x) (τ x)) → (rs : Terms) → Sts plan (instances σ rs) (instances τ rs)
    sts_instances h nil = st_nil
    sts_instances h (t ▸ ts) = st_more (st_instance h t) (sts_instances h ts)

  pub over_fresh : (ks : List ℕ) {ts us : Terms} → Sts plan ts us → Overs (St plan) (Sts plan) (fresh ks) ts us
  over_fresh [] r = over_rest r
  over_fresh (k ∷ ks) st_nil = over_short
  over_fresh (k ∷ ks) (st_more r rs) = over_more (over_var r) (over_fresh ks rs)

  -- what the contractum evaluates to, the call evaluates to
  hit_ev : (T : Plan) (t : Term) {b : Cause} {u : Term} {c : Head} {ts : Terms} → seek T t ≡ contract b u → Ev plan u c ts → EvW plan T t c ts
  hit_ev no_plan t e v = absurd (cc)
  hit_ev (leaf b g) t {u = u} {c = c} {ts = ts} e v = let d : u ≡ g t = cc in ev_leaf (subst (λ z. Ev plan z c ts) d v)
  hit_ev (split p k) t {b} {u} {c} {ts} e v = go (part t p) refl e (λ d h. hit_ev (k d) t h v)
    where
      go : (o : Option Term) → part t p ≡ o → look o p (λ d. seek (k d) t) ≡ contract b u
          → ((d : Head) → seek (k d) t ≡ contract b u → EvW plan (k d) t c ts) → EvW plan (split p k) t c ts
      go None q h ih = absurd (cc)
      go (Some (var x)) q h ih = absurd (cc)
      go (Some (con d bs)) q h ih = ev_split q ev_con (rw (graft_same t p q) (ih d h))
      go (Some (fun f ss)) q h ih = absurd (cc)

  to_con : {t : Term} {c : Head} {us : Terms} → St plan t (con c us) → Upto plan t c us
  to_con (st_con rs) = (_, ev_con, rs)
  to_con (st_root {f = f} e r) = let x = to_con r in (x.0, ev_fun (hit_ev (plan f) _ e x.1), x.2)

  to_fun : {t : Term} {f : Fn} {c : Head} {us vs : Terms} → St plan t (fun f us)
      → ((ts : Terms) → Sts plan ts us → (ws : Terms) × EvW plan (plan f) (fun f ts) c ws × Sts plan ws vs) → Upto plan t c vs
  to_fun (st_fun rs) ih = let x = ih _ rs in (x.0, ev_fun x.1, x.2)
  to_fun (st_root {f = f} e r) ih = let x = to_fun r ih in (x.0, ev_fun (hit_ev (plan f) _ e x.1), x.2)

module _ {plan : Fn → Plan} (serves : (f : Fn) → (ks : List ℕ) × Serves plan (plan f) (fun f (fresh ks))) where
  mutual
    pub expand : {t u : Term} {c : Head} {us : Terms} → Ev plan u c us → St plan t u → Upto plan t c us
    expand ev_con r = to_con r
    expand (ev_fun {f = f} w) r = to_fun r (λ ts q. let s = serves f in expand_walk w s.1 (over_fun (over_fresh s.0 q)))

    expand_walk : {T : Plan} {u : Term} {c : Head} {vs : Terms} → EvW plan T u c vs → {π t : Term} → Serves plan T π → Over (St plan) (Sts plan) π t u
        → (ws : Terms) × EvW plan T t c ws × Sts plan ws vs
    expand_walk (ev_leaf {t = u} e) {t = t} s o = let x = expand e (s t u o) in (x.0, ev_leaf x.1, x.2)
    expand_walk (ev_split {p = p} {d = d} q e w) s o =
        let a = both_some (over_part o p s.1.1) q in
        let x = expand e a.2 in
        let n = s.2 d in
        let y = expand_walk w n.1 (over_graft o p s.1.1 (over_con (over_fresh n.0 x.2))) in
        (y.0, ev_split a.1 x.1 y.1, y.2)
