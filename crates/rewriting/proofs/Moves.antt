-- The strategy computes: what the relations of a run say, φ answers.
use Rattle.std.proofs.Common.{◌≡◌, ℕ, zero, suc, ◌≤◌, Bool, true, false, cond, List, [], ◌∷◌, Some, None, Option, sym, refl, ap, ◌∙◌, subst, arith}
use mathlib.Core.Path.{fun_ext}
use Rattle.numbers.specs.Meaning.{Meaning}
use Rattle.terms.specs.Terms.{Head, cell, Fn, plus, minus, atmost, own, Term, var, con, fun, Terms, ◌▸◌, Value}
use Rattle.terms.specs.Positions.{part, part_of, graft, graft_in}
use Rattle.rewriting.specs.Substitutions.{instance, matching}
use Rattle.rewriting.specs.Rules.{left_side, Book}
use Rattle.rewriting.specs.Steps.{by_rule, by_kind, sum, difference, comparison}
use Rattle.rewriting.specs.Trees.{Node, at_rule, branch, Nodes, no_child, child}
use Rattle.rewriting.specs.FixedTree.{same_head, fixed_tree}
use Rattle.rewriting.specs.Strategy.{Found, look, walk, walk_child, at_cells, operate, walk_if, Move, from_above, depth, depths, outermost, first_outermost, find, move_in, φ, after}
use Rattle.rewriting.proofs.Basics.{onward_some}
use Rattle.rewriting.proofs.Positions.{part_here, graft_here}
use Rattle.rewriting.proofs.Plans.{Plan, no_plan, leaf, split, seek}
use Rattle.rewriting.proofs.Runs.{value_calm, Many, done, ◌next◌, Phi, phi_root, phi_inside, Next, next_call, next_con, Nexts, next_here, next_later}

-- the plan of a tree, and of an operation
abbrev mutual
  pub plan_of : Node → Plan
  plan_of (at_rule r) = leaf (by_rule r) (λ t. instance (matching (left_side r) t) r.right)
  plan_of (branch p ns) = split p (child_plan ns)

  pub child_plan : Nodes → Head → Plan
  child_plan no_child c = no_plan
  child_plan (child d n ns) c = cond (same_head c d) (plan_of n) (child_plan ns c)

abbrev pub cells_plan : (ℕ → ℕ → Term) → Head → Head → Plan
cells_plan g (cell m) (cell n) = leaf by_kind (λ t. g m n)
cells_plan g c d = no_plan

abbrev pub operation_plan : (ℕ → ℕ → Term) → Plan
operation_plan g = split (1 ∷ []) (λ c. split (2 ∷ []) (λ d. cells_plan g c d))

abbrev pub plan_if : Option Node → Plan
plan_if None = no_plan
plan_if (Some n) = plan_of n

abbrev pub plan : Meaning → Book → Fn → Plan
plan M B plus = operation_plan (sum M)
plan M B minus = operation_plan (difference M)
plan M B atmost = operation_plan (comparison M)
plan M B (own f) = plan_if (fixed_tree B f)

child_seek : (b : Bool) (T U : Plan) (t : Term) {F G : Found} → F ≡ seek T t → G ≡ seek U t → cond b F G ≡ seek (cond b T U) t
child_seek true T U t d e = d
child_seek false T U t d e = e

mutual
  pub walk_seek : (n : Node) (t : Term) → walk n t ≡ seek (plan_of n) t
  walk_seek (at_rule r) t = refl
  walk_seek (branch p ns) t = ap (look (part t p) p) (fun_ext (λ c. walk_child_seek ns c t))

  walk_child_seek : (ns : Nodes) (c : Head) (t : Term) → walk_child ns c t ≡ seek (child_plan ns c) t
  walk_child_seek no_child c t = refl
  walk_child_seek (child d n ns) c t = child_seek (same_head c d) (plan_of n) (child_plan ns c) t (walk_seek n t) (walk_child_seek ns c t)

cells_seek : (g : ℕ → ℕ → Term) (c d : Head) (t : Term) → at_cells g c d ≡ seek (cells_plan g c d) t
cells_seek g (cell m) (cell n) t = refl
cells_seek g c d t = refl

operate_seek : (g : ℕ → ℕ → Term) (t : Term) → operate g t ≡ seek (operation_plan g) t
operate_seek g t = ap (look (part t (1 ∷ [])) (1 ∷ [])) (fun_ext (λ c. ap (look (part t (2 ∷ [])) (2 ∷ [])) (fun_ext (λ d. cells_seek g c d t))))

if_seek : (o : Option Node) (t : Term) → walk_if o t ≡ seek (plan_if o) t
if_seek None t = refl
if_seek (Some n) t = walk_seek n t

pub find_seek : (M : Meaning) (B : Book) (f : Fn) (ts : Terms) → find M B (fun f ts) ≡ seek (plan M B f) (fun f ts)
find_seek M B plus ts = operate_seek (sum M) (fun plus ts)
find_seek M B minus ts = operate_seek (difference M) (fun minus ts)
find_seek M B atmost ts = operate_seek (comparison M) (fun atmost ts)
find_seek M B (own f) ts = if_seek (fixed_tree B f) (fun (own f) ts)

-- a part is not deeper
mutual
  depth_part : (t : Term) (p : List ℕ) {s : Term} → part t p ≡ Some s → depth s ≤ depth t
  depth_part (var v) [] {s} e = let q : s ≡ var v = cc in let d : depth s ≡ depth (var v) = ap depth q in omega arith
  depth_part (var v) (i ∷ p) e = absurd (cc)
  depth_part (con c ts) [] {s} e = let q : s ≡ con c ts = cc in let d : depth s ≡ depth (con c ts) = ap depth q in omega arith
  depth_part (con c ts) (i ∷ p) e = let h = depths_part ts i p e in omega arith
  depth_part (fun f ts) [] {s} e = let q : s ≡ fun f ts = cc in let d : depth s ≡ depth (fun f ts) = ap depth q in omega arith
  depth_part (fun f ts) (i ∷ p) e = let h = depths_part ts i p e in omega arith

  pub depths_part : (ts : Terms) (i : ℕ) (p : List ℕ) {s : Term} → part_of ts i p ≡ Some s → depth s ≤ depths ts
  depths_part (t ▸ ts) (suc zero) p e = let h = depth_part t p e in omega arith
  depths_part (t ▸ ts) (suc (suc i)) p e = let h = depths_part ts (suc i) p e in omega arith
  depths_part ts i p e = absurd (cc)

module _ (M : Meaning) (B : Book) where
  phi_move : {t u : Term} → Phi (plan M B) t u → (n : ℕ) → depth t ≤ n → (m : Move) × (move_in M B n t ≡ Some m) × (m.next ≡ u)
  phi_move (phi_root e) zero l = absurd (omega arith)
  phi_move (phi_root {f = f} {ts = ts} {b = b} {u = u} e) (suc n) l = (record { position = []; cause = b; next = u }, rw (find_seek M B f ts ∙ e) refl, refl)
  phi_move (phi_inside e d p) zero l = absurd (omega arith)
  phi_move (phi_inside {f = f} {ts = ts} {i = i} {q = q} e d p) (suc n) l =
      let h = depths_part ts i q d in
      let x = phi_move p n (omega arith) in
      (from_above (fun f ts) (i ∷ q) x.0, rw (find_seek M B f ts ∙ e, d, x.1) refl, ap (λ (w : Term). fun f (graft_in ts i q w)) x.2)

  -- the leftmost outermost call moves
  abbrev Out : Term → Term → Type 0
  Out t u = (p : List ℕ) × (s : Term) × (m : Move) × (outermost t ≡ Some p) × (part t p ≡ Some s) × (move_in M B (depth s) s ≡ Some m) × (graft t p m.next ≡ u)

  abbrev Outs : Terms → Terms → Type 0
  Outs ts us = (i : ℕ) × (p : List ℕ) × (s : Term) × (m : Move)
      × (first_outermost ts ≡ Some (suc i ∷ p)) × (part_of ts (suc i) p ≡ Some s) × (move_in M B (depth s) s ≡ Some m) × (graft_in ts (suc i) p m.next ≡ us)

  call_out : {t u : Term} → Phi (plan M B) t u → outermost t ≡ Some []
  call_out (phi_root e) = refl
  call_out (phi_inside e d p) = refl

  mutual
    next_out : {t u : Term} → Next (plan M B) t u → Out t u
    next_out (next_call {t = t} p) = let x = phi_move p (depth t) (omega arith) in ([], t, x.0, call_out p, part_here t, x.1, graft_here t x.0.next ∙ x.2)
    next_out (next_con {c = c} n) = let x = nexts_out n in (suc x.0 ∷ x.1, x.2, x.3, x.4, x.5, x.6, ap (con c) x.7)

    nexts_out : {ts us : Terms} → Nexts (plan M B) ts us → Outs ts us
    nexts_out (next_here {ts = ts} n) = let x = next_out n in (0, x.0, x.1, x.2, rw x.3 refl, x.4, x.5, ap (λ (u : Term). u ▸ ts) x.6)
    nexts_out (next_later {t = t} e n) = let x = nexts_out n in (suc x.0, x.1, x.2, x.3, rw (e, x.4) refl, x.5, x.6, ap (λ (us : Terms). t ▸ us) x.7)

  next_φ : {t u : Term} → Next (plan M B) t u → (m : Move) × (φ M B t ≡ Some m) × (m.next ≡ u)
  next_φ {t} n = let x = next_out n in (from_above t x.0 x.2, rw (x.3, x.4, x.5) refl, x.6)

  pub runs_after : {t v : Term} → Many (Next (plan M B)) t v → (n : ℕ) × (after M B n t ≡ Some v)
  runs_after done = (zero, refl)
  runs_after {v = v} (n next m) =
      let x = next_φ n in
      let y = runs_after m in
      (suc y.0, rw x.1 (subst (λ (w : Term). after M B y.0 w ≡ Some v) (sym x.2) y.1))

  pub none_at_value : (v : Term) → Value v → φ M B v ≡ None
  none_at_value v h = rw (value_calm v h)

  -- where φ ends at a value, it ends there alone
  pub same_end : (n m : ℕ) (t v w : Term) → after M B n t ≡ Some v → after M B m t ≡ Some w → Value v → Value w → v ≡ w
  same_end zero zero t v w d e g h = cc
  same_end zero (suc m) t v w d e g h =
      let q : t ≡ v = cc in
      let x = onward_some (φ M B t) (λ (y : Move). after M B m y.next) e in
      let z = none_at_value t (subst Value (sym q) g) in
      absurd (let y = x.1 in cc)
  same_end (suc n) zero t v w d e g h =
      let q : t ≡ w = cc in
      let x = onward_some (φ M B t) (λ (y : Move). after M B n y.next) d in
      let z = none_at_value t (subst Value (sym q) h) in
      absurd (let y = x.1 in cc)
  same_end (suc n) (suc m) t v w d e g h =
      let x = onward_some (φ M B t) (λ (y : Move). after M B n y.next) d in
      let z = onward_some (φ M B t) (λ (y : Move). after M B m y.next) e in
      let a = x.1 in
      let b = z.1 in
      let q : z.0 ≡ x.0 = cc in
      same_end n m x.0.next v w x.2 (subst (λ (y : Move). after M B m y.next ≡ Some w) q z.2) g h
