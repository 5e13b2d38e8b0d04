-- φ normalises, and only one value can come of a term.
use Rattle.std.proofs.Common.{◌≡◌, ℕ, true, eqb, List, [], ◌∷◌, Some, None, Option, sym, refl, ap, ◌∙◌, subst, subst₂, eqb-true, eq-eqb, filter, unwrap_or}
use mathlib.Core.List.Memᴰ
use mathlib.Core.List.{Memᴰ}
use Rattle.std.proofs.lemmas.Bool.{cond_both}
use Rattle.numbers.specs.Meaning.{Meaning}
use Rattle.terms.specs.Terms.{Head, cell, Fn, plus, minus, atmost, own, Term, con, fun, Terms, Value, var}
use Rattle.terms.specs.Options.{onward}
use Rattle.terms.specs.Signatures.{Signature}
use Rattle.terms.specs.Roots.{head_args, fn_args}
use Rattle.terms.specs.Positions.{part, graft}
use Rattle.rewriting.specs.Substitutions.{instance, position_of, occurrences, matching}
use Rattle.rewriting.specs.Rules.{Rule, left_side, Book, rules_of, Linear, SortCorrect, SortCorrectRules}
use Rattle.rewriting.specs.Steps.{Cause, by_rule, sum, difference, comparison, Contracts, a_rule, a_sum, a_difference, a_comparison, Steps, stay, ◌then◌}
use Rattle.rewriting.specs.Trees.{Node, at_rule, branch, Nodes, no_child, child, heads, TreeFor}
use Rattle.rewriting.specs.FixedTree.{same_head, alike, constructor_at, has_at, fixed_tree}
use Rattle.rewriting.specs.Strategy.{contract, after}
use Rattle.rewriting.specs.Promises.{HasTrees, Normalises, OneValue}
use Rattle.rewriting.proofs.Basics.{same_head_true, mem_other}
use Rattle.rewriting.proofs.Lists.{mem_kept, kept_mem, perm_mem}
use Rattle.rewriting.proofs.Occurrences.{position_stands, occurs_part, part_variable, part_instance, matching_instance, each, instance_agrees}
use Rattle.rewriting.proofs.Shapes.{alike_part}
use Rattle.rewriting.proofs.Deals.{constructor_part, constructor_has, Deals, Deal, tree_fits}
use Rattle.rewriting.proofs.Exactness.{fixed_rule, fixed_is, fixed_built}
use Rattle.rewriting.proofs.Plans.{Plan, seek, Over, Both, neither, both, over_part, St, Sts, st_var, st_root, st_refl, st_graft, st_instance, Serves}
use Rattle.rewriting.proofs.Runs.{Full, full_value, full_run, full_expand}
use Rattle.rewriting.proofs.Moves.{plan_of, child_plan, cells_plan, operation_plan, plan_if, plan, runs_after, same_end}
use Rattle.rewriting.proofs.Blanks.{fresh, over_blank, blank_call}
use Rattle.rewriting.proofs.Nameless.{tree_nameless, Nameless, NamelessAll}

-- a rule's contractum respects reduction: a variable's position in the left side is a variable's in the pattern
module _ (pl : Fn → Plan) where
  or_reduces : (x : ℕ) {a b : Option Term} → Both (St pl) a b → St pl (unwrap_or a (var x)) (unwrap_or b (var x))
  or_reduces x neither = st_var
  or_reduces x (both r) = r

  matching_reduces : (l π : Term) → alike l π ≡ true → {t u : Term} → Over (St pl) (Sts pl) π t u → (x : ℕ) → St pl (matching l t x) (matching l u x)
  matching_reduces l π e {t} {u} o x = go (position_of x (occurrences l)) refl
    where
      go : (q : Option (List ℕ)) → position_of x (occurrences l) ≡ q → St pl (unwrap_or (onward q (part t)) (var x)) (unwrap_or (onward q (part u)) (var x))
      go None d = st_var
      go (Some p) d = let y = (alike_part l π e p).0 x (occurs_part l (position_stands x (occurrences l) p d)) in or_reduces x (over_part o p y.1)

  -- a definitional tree serves
  module _ (S : Signature) where
    mutual
      tree_serves : (n : Node) (g : Fn) (ps : Terms) → Nameless S n (fun g ps) → Serves pl (plan_of n) (fun g ps)
      tree_serves (at_rule r) g ps t = λ a b o. st_instance (matching_reduces (left_side r) (fun g ps) t.0 o) r.right
      tree_serves (branch [] ns) g ps t = absurd (cc t.1)
      tree_serves (branch (i ∷ q) ns) g ps t = ((i, q, refl), (t.0, t.1), λ c. children_serve ns i q t.0 g ps t.4 c)

      children_serve : (ns : Nodes) (i : ℕ) (q : List ℕ) (k : ℕ) (g : Fn) (ps : Terms) → NamelessAll S ns (i ∷ q) k (fun g ps) → (c : Head)
          → (ks : List ℕ) × Serves pl (child_plan ns c) (graft (fun g ps) (i ∷ q) (con c (fresh ks)))
      children_serve no_child i q k g ps t c = ([], tt)
      children_serve (child d n ns) i q k g ps t c =
          cond_both (same_head c d) (plan_of n) (child_plan ns c) (λ (T : Plan). (ks : List ℕ) × Serves pl T (graft (fun g ps) (i ∷ q) (con c (fresh ks))))
          (λ e. (head_args S c, subst (λ (z : Head). Serves pl (plan_of n) (graft (fun g ps) (i ∷ q) (over_blank S z))) (sym (same_head_true c d e)) (tree_serves n g _ t.1)))
          (λ e. children_serve ns i q k g ps t.2 c)

  cells_serve : (g : ℕ → ℕ → Term) (c d : Head) (π : Term) → Serves pl (cells_plan g c d) π
  cells_serve g (cell m) (cell n) π = λ t u o. st_refl (g m n)
  cells_serve g c d π = tt

  operation_serves : (g : ℕ → ℕ → Term) (f : Fn) → (ks : List ℕ) × Serves pl (operation_plan g) (fun f (fresh ks))
  operation_serves g f = (0 ∷ 0 ∷ [], ((1, [], refl), (0, refl), λ c. ([], ((2, [], refl), (0, refl), λ d. ([], cells_serve g c d _)))))

-- the rule that fits is found
module _ (S : Signature) (r : Rule) (t : Term) (there : (p : List ℕ) (c : Head) → constructor_at p r ≡ Some c → (bs : Terms) × (part t p ≡ Some (con c bs))) where
  mutual
    deals_seek : (n : Node) (π : Term) (rs : List Rule) → Deals S n π rs → Memᴰ r rs → seek (plan_of n) t ≡ contract (by_rule r) (instance (matching (left_side r) t) r.right)
    deals_seek (at_rule q) π rs d m =
        let e = Memᴰ.eq_of_singleton (subst (Memᴰ r) d.0 m) in
        ap (λ (z : Rule). contract (by_rule z) (instance (matching (left_side z) t) z.right)) (sym e)
    deals_seek (branch p ns) π rs d m =
        let x = d.0 r m in
        let y = there p x.0 x.1 in
        rw y.1 (deal_seek ns p π rs d.1 x.0 x.1 x.2 m)

    deal_seek : (ns : Nodes) (p : List ℕ) (π : Term) (rs : List Rule) → Deal S ns p π rs → (c : Head) → constructor_at p r ≡ Some c → Memᴰ c (heads ns) → Memᴰ r rs
        → seek (child_plan ns c) t ≡ contract (by_rule r) (instance (matching (left_side r) t) r.right)
    deal_seek no_child p π rs d c e h m = absurd (Memᴰ.not-nil h)
    deal_seek (child b n ns) p π rs d c e h m =
        cond_both (same_head c b) (plan_of n) (child_plan ns c) (λ (T : Plan). seek T t ≡ contract (by_rule r) (instance (matching (left_side r) t) r.right))
        (λ i. deals_seek n (graft π p (over_blank S b)) (filter (has_at p b) rs) d.1 (mem_kept (has_at p b) m (constructor_has p b r (e ∙ ap Some (same_head_true c b i)))))
        (λ i. deal_seek ns p π rs d.2 c e (mem_other i h) m)

module _ (M : Meaning) (B : Book) (sorted : SortCorrectRules B) (trees : HasTrees B) where
  abbrev S : Signature
  S = B.signature

  abbrev pl : Fn → Plan
  pl = plan M B

  in_book : (f : ℕ) {r : Rule} → Memᴰ r (rules_of B f) → Memᴰ r B.rules × (r.function ≡ f)
  in_book f {r} m = let x = kept_mem (λ q. eqb q.function f) B.rules m in (x.0, eqb-true r.function f x.1)

  tree_of : (f : ℕ) {r : Rule} → Memᴰ r (rules_of B f) → (n : Node) × TreeFor B f n
  tree_of f {r} m = let x = in_book f m in subst (λ (g : ℕ). (n : Node) × TreeFor B g n) x.1 (trees r x.0)

  -- rules that have a tree are left-linear
  pub linear : (f : ℕ) (n : Node) → TreeFor B f n → (q : Rule) → Memᴰ q (rules_of B f) → SortCorrect S q × Linear (left_side q)
  linear f n t q m = (sorted q (in_book f m).0, (tree_fits S n (blank_call S f) (tree_nameless S f n t.0) q (perm_mem t.1 m)).1)

  fixed_of : (f : ℕ) {r : Rule} → Memᴰ r (rules_of B f) → (n : Node) × (fixed_tree B f ≡ Some n) × Deals S n (blank_call S f) (rules_of B f)
  fixed_of f {r} m =
      let x = tree_of f m in
      let o = linear f x.0 x.1 in
      let y = fixed_built B f o r m x.0 x.1 in
      (y.0, y.1, (fixed_is B f o r m y.0 y.1).1)

  own_serves : (f : ℕ) (o : Option Node) → fixed_tree B f ≡ o → (ks : List ℕ) × Serves pl (plan_if o) (fun (own f) (fresh ks))
  own_serves f None e = ([], tt)
  own_serves f (Some n) e =
      let r = fixed_rule B f e in
      let x = tree_of f r.1 in
      (fn_args S (own f), tree_serves pl S n (own f) (fresh (fn_args S (own f))) (fixed_is B f (linear f x.0 x.1) r.0 r.1 n e).0)

  serves : (f : Fn) → (ks : List ℕ) × Serves pl (pl f) (fun f (fresh ks))
  serves plus = operation_serves pl (sum M) plus
  serves minus = operation_serves pl (difference M) minus
  serves atmost = operation_serves pl (comparison M) atmost
  serves (own f) = own_serves f (fixed_tree B f) refl

  own_finds : (r : Rule) (t : Term) → Memᴰ r B.rules → ((p : List ℕ) (c : Head) → constructor_at p r ≡ Some c → (bs : Terms) × (part t p ≡ Some (con c bs)))
      → seek (pl (own r.function)) t ≡ contract (by_rule r) (instance (matching (left_side r) t) r.right)
  own_finds r t m h =
      let x = fixed_of r.function (mem_kept (λ q. eqb q.function r.function) m (eq-eqb r.function r.function refl)) in
      rw x.1 (deals_seek S r t h x.0 (blank_call S r.function) (rules_of B r.function) x.2 (mem_kept (λ q. eqb q.function r.function) m (eq-eqb r.function r.function refl)))

  contracts_reduce : {c : Cause} {s w : Term} → Contracts M B c s w → St pl s w
  contracts_reduce {w = w} (a_rule r σ m d e) =
      let t : Term = instance σ (left_side r) in
      let f = own_finds r t m (λ p c h. let x = constructor_part p r h in (_, part_instance σ (left_side r) p x.1)) in
      let g : instance (matching (left_side r) t) r.right ≡ w =
      instance_agrees (matching (left_side r) t) σ r.right
      (each (λ x. matching (left_side r) t x ≡ σ x) r.right (λ p x h. matching_instance σ (left_side r) x ((sorted r m).none_new x (part_variable r.right p h)))) ∙ sym e in
      subst₂ (St pl) (sym d) g (st_root f (st_refl _))
  contracts_reduce (a_sum m n d e) = subst₂ (St pl) (sym d) (sym e) (st_root refl (st_refl _))
  contracts_reduce (a_difference m n d e) = subst₂ (St pl) (sym d) (sym e) (st_root refl (st_refl _))
  contracts_reduce (a_comparison m n d e) = subst₂ (St pl) (sym d) (sym e) (st_root refl (st_refl _))

  evaluates : {t v : Term} → Steps M B t v → Value v → Full pl t v
  evaluates (stay {t = t}) h = full_value pl t h
  evaluates (◌then◌ {t = t} s m) h =
      let x = s.2 in
      full_expand serves (evaluates m h) (subst (St pl t) (sym x.gives) (st_graft t s.0 x.there (contracts_reduce x.contracts)))

  pub reaches : (t v : Term) → Steps M B t v → Value v → (n : ℕ) × (after M B n t ≡ Some v)
  reaches t v m h = runs_after M B (full_run serves (evaluates m h) h)

pub normalises : Normalises
normalises M B sorted trees t v m h = reaches M B sorted trees t v m h

pub one_value : OneValue
one_value M B sorted trees t v w m n h k =
    let x = reaches M B sorted trees t v m h in
    let y = reaches M B sorted trees t w n k in
    same_end M B x.0 y.0 t v w x.1 y.1 h k
