-- Trees that deal rules out to their children: what a definitional tree does with its rules.
use Rattle.std.proofs.Common.{◌≡◌, ℕ, zero, suc, true, false, ◌⊎◌, List, [], ◌∷◌, ◌++◌, length, Some, None, Option, sym, refl, ap, ◌∙◌, subst, ap₂, subst₂, inl, inr, arith, append-nil, filter}
use mathlib.Core.List.Memᴰ
use mathlib.Core.List.{Memᴰ}
use Rattle.std.proofs.lemmas.List.Elements.{filter-append}
use Rattle.std.proofs.lemmas.Bool.{false_from_ne_true}
use Rattle.terms.specs.Terms.{Head, Term, var, con, Terms, nil, ◌▸◌, count}
use Rattle.terms.specs.Options.{passes}
use Rattle.terms.specs.Signatures.{Signature}
use Rattle.terms.specs.Roots.{head_args, fn_args}
use Rattle.terms.specs.Sorting.{Environment, Sorted, AllSorted}
use Rattle.terms.specs.Positions.{part, part_of, graft}
use Rattle.rewriting.specs.Rules.{Rule, left_side, Different, Linear}
use Rattle.rewriting.specs.Trees.{Node, at_rule, branch, Nodes, no_child, child, heads, rules_in, all_rules_in, Permutation, ConstructorOf}
use Rattle.rewriting.specs.FixedTree.{same_head, constructor, constructor_at, has_at}
use Rattle.rewriting.proofs.Basics.{onward_some, same_head_same, same_head_true}
use Rattle.rewriting.proofs.Lists.{kept_mem, kept_all, kept_none, perm_mem, one_perm, perm_kept}
use Rattle.rewriting.proofs.Positions.{part_here}
use Rattle.rewriting.proofs.Shapes.{Fit, fit_var, fit_con, fit_fun, Fits, fit_more, fit_fresh, fit_graft, fit_ungraft, fit_alike}
use Rattle.rewriting.proofs.Sorts.{sorted_part}
use Rattle.rewriting.proofs.Blanks.{fresh, over_blank}
use Rattle.rewriting.proofs.Nameless.{NamelessVariant, Nameless, NamelessAll}

-- the constructor at a position
constructor_is : (t : Term) {c : Head} → constructor t ≡ Some c → (bs : Terms) × (t ≡ con c bs)
constructor_is (con d bs) {c} e = let h : d ≡ c = cc in (bs, ap (λ (z : Head). con z bs) h)
constructor_is t e = absurd (cc)

pub constructor_part : (p : List ℕ) (r : Rule) {c : Head} → constructor_at p r ≡ Some c → (bs : Terms) × (part (left_side r) p ≡ Some (con c bs))
constructor_part p r {c} e =
    let x = onward_some (part (left_side r) p) constructor e in
    let y = constructor_is x.0 x.2 in
    (y.0, x.1 ∙ ap Some y.1)

pub has_constructor : (p : List ℕ) (c : Head) (r : Rule) → has_at p c r ≡ true → constructor_at p r ≡ Some c
has_constructor p c r e = go (constructor_at p r) refl e
  where
    go : (o : Option Head) → constructor_at p r ≡ o → passes (same_head c) o ≡ true → o ≡ Some c
    go None q h = absurd (cc)
    go (Some d) q h = ap Some (sym (same_head_true c d h))

pub constructor_has : (p : List ℕ) (c : Head) (r : Rule) → constructor_at p r ≡ Some c → has_at p c r ≡ true
constructor_has p c r e = rw e (same_head_same c)

-- another constructor is not there
pub constructor_not : (p : List ℕ) (c d : Head) (r : Rule) → constructor_at p r ≡ Some d → (c ≡ d → ⊥) → has_at p c r ≡ false
constructor_not p c d r e n = rw e (false_from_ne_true (same_head c d) (λ q. n (same_head_true c d q)))

-- sorts: the pattern writes each variable as its sort
abbrev pub as_sort : Environment
as_sort k = Some k

module _ (S : Signature) where
  pub fresh_sorted : (ks : List ℕ) → AllSorted S as_sort (fresh ks) ks
  fresh_sorted [] = tt
  fresh_sorted (k ∷ ks) = (refl, fresh_sorted ks)

  pub graft_sorted : (π : Term) (k : ℕ) (p : List ℕ) {j : ℕ} (c : Head) → Sorted S as_sort π k → part π p ≡ Some (var j) → ConstructorOf S c j
      → Sorted S as_sort (graft π p (over_blank S c)) k
  graft_sorted π k p {j} c h e d =
      let x = sorted_part S as_sort π k p h e in
      let y = x.1 in
      let q : x.0 ≡ j = cc in
      x.2 (over_blank S c) (d.0, q ∙ d.1, fresh_sorted (head_args S c))

  pub sorted_count : (e : Environment) (ts : Terms) (ks : List ℕ) → AllSorted S e ts ks → count ts ≡ length ks
  sorted_count e nil [] h = refl
  sorted_count e nil (k ∷ ks) h = absurd h
  sorted_count e (t ▸ ts) [] h = absurd h
  sorted_count e (t ▸ ts) (k ∷ ks) h = let l = sorted_count e ts ks h.1 in omega arith

  -- at a variable of the pattern a term that fits has a part of its sort
  mutual
    pub fit_sorted : (e : Environment) {π t : Term} → Fit π t → (k : ℕ) → Sorted S as_sort π k → Sorted S e t k → (p : List ℕ) {j : ℕ} {s : Term} → part π p ≡ Some (var j)
        → part t p ≡ Some s → Sorted S e s j
    fit_sorted e (fit_var {x = x} {t = t}) k g h [] {j} {s} d q =
        let a = part_here t in
        let b : t ≡ s = cc in
        let c : k ≡ j = let i : x ≡ k = cc in let l : x ≡ j = cc in cc in
        subst₂ (λ y z. Sorted S e y z) b c h
    fit_sorted e fit_var k g h (i ∷ p) d q = absurd (cc)
    fit_sorted e (fit_con f) k g h [] d q = absurd (cc)
    fit_sorted e (fit_con {c = c} f) k g h (i ∷ p) d q = fits_sorted e f (head_args S c) g.2 h.2 i p d q
    fit_sorted e (fit_fun f) k g h [] d q = absurd (cc)
    fit_sorted e (fit_fun {f = c} f) k g h (i ∷ p) d q = fits_sorted e f (fn_args S c) g.2 h.2 i p d q

    fits_sorted : (e : Environment) {ps ts : Terms} → Fits ps ts → (ks : List ℕ) → AllSorted S as_sort ps ks → AllSorted S e ts ks → (i : ℕ) (p : List ℕ) {j : ℕ} {s : Term}
        → part_of ps i p ≡ Some (var j) → part_of ts i p ≡ Some s → Sorted S e s j
    fits_sorted e (fit_more f fs) [] g h i p d q = absurd g
    fits_sorted e (fit_more f fs) (k ∷ ks) g h (suc zero) p d q = fit_sorted e f k g.0 h.0 p d q
    fits_sorted e (fit_more f fs) (k ∷ ks) g h (suc (suc i)) p d q = fits_sorted e fs ks g.1 h.1 (suc i) p d q
    fits_sorted e f ks g h i p d q = absurd (cc)

  -- a constructor at a variable is of its sort, and the pattern that has it there still fits
  pub fit_child : (e : Environment) {π t : Term} → Fit π t → (k : ℕ) → Sorted S as_sort π k → Sorted S e t k → (p : List ℕ) {j : ℕ} {c : Head} {bs : Terms} → part π p ≡ Some (var j)
      → part t p ≡ Some (con c bs)
      → ConstructorOf S c j × Fit (graft π p (over_blank S c)) t
  fit_child e f k g h p {c = c} {bs = bs} d q =
      let x = fit_sorted e f k g h p d q in
      ((x.0, x.1), fit_graft f p d q (fit_con (fit_fresh (head_args S c) bs (sorted_count e bs (head_args S c) x.2))))

  -- a rule whose left side has the pattern's shape and sort, and no variable twice
  abbrev pub Ready : Term → ℕ → Rule → Type 0
  Ready π k r = Fit π (left_side r) × Linear (left_side r) × (e : Environment) × Sorted S e (left_side r) k

  abbrev pub AllReady : Term → ℕ → List Rule → Type 0
  AllReady π k rs = (r : Rule) → Memᴰ r rs → Ready π k r

  pub ready_constructor : (π : Term) (k : ℕ) (p : List ℕ) {j : ℕ} {c : Head} (r : Rule) → Sorted S as_sort π k → part π p ≡ Some (var j) → Ready π k r → constructor_at p r ≡ Some c
      → ConstructorOf S c j × Ready (graft π p (over_blank S c)) k r
  ready_constructor π k p r g d h e =
      let x = constructor_part p r e in
      let y = fit_child h.2 h.0 k g h.3 p d x.1 in
      (y.0, (y.1, h.1, h.2, h.3))

  pub ready_child : (π : Term) (k : ℕ) (p : List ℕ) {j : ℕ} (c : Head) (rs : List Rule) → Sorted S as_sort π k → part π p ≡ Some (var j) → AllReady π k rs
      → AllReady (graft π p (over_blank S c)) k (filter (has_at p c) rs)
  ready_child π k p c rs g d h r m = let x = kept_mem (has_at p c) rs m in (ready_constructor π k p r g d (h r x.0) (has_constructor p c r x.1)).1

  -- each rule has at p a constructor of some child
  abbrev pub Covered : List ℕ → List Head → List Rule → Type 0
  Covered p cs rs = (r : Rule) → Memᴰ r rs → (c : Head) × (constructor_at p r ≡ Some c) × Memᴰ c cs

  -- the tree with the pattern π deals the rules out: one is left at a rule node, and a child has those with its constructor
  abbrev mutual
    pub Deals : Node → Term → List Rule → Type 0
    Deals (at_rule r) π rs = (rs ≡ r ∷ []) × NamelessVariant (left_side r) π
    Deals (branch p ns) π rs = Covered p (heads ns) rs × Deal ns p π rs

    pub Deal : Nodes → List ℕ → Term → List Rule → Type 0
    Deal no_child p π rs = Unit {0}
    Deal (child c n ns) p π rs = ((k : ℕ) × (part π p ≡ Some (var k)) × ConstructorOf S c k) × Deals n (graft π p (over_blank S c)) (filter (has_at p c) rs) × Deal ns p π rs

  -- the rules of a tree have the shape of its pattern
  pub child_has : (π : Term) (p : List ℕ) {k : ℕ} (c : Head) (r : Rule) → part π p ≡ Some (var k) → Fit (graft π p (over_blank S c)) (left_side r)
      → Fit π (left_side r) × (constructor_at p r ≡ Some c)
  child_has π p c r e f =
      let x = fit_ungraft π p (over_blank S c) e f in
      (x.0, go x.1.2 x.1.1)
    where
      go : {s : Term} → Fit (over_blank S c) s → part (left_side r) p ≡ Some s → constructor_at p r ≡ Some c
      go (fit_con h) q = rw q

  mutual
    pub tree_fits : (n : Node) (π : Term) → Nameless S n π → (r : Rule) → Memᴰ r (rules_in n) → Fit π (left_side r) × Linear (left_side r)
    tree_fits (at_rule q) π t r (Memᴰ.head e) = rw e (fit_alike (left_side q) π t.0, t.1)
    tree_fits (at_rule q) π t r (Memᴰ.tail m) = absurd (Memᴰ.not-nil m)
    tree_fits (branch p ns) π t r m = let x = children_fit ns p t.0 π t.1 t.4 r m in (x.1, x.2)

    children_fit : (ns : Nodes) (p : List ℕ) (k : ℕ) (π : Term) → part π p ≡ Some (var k) → NamelessAll S ns p k π → (r : Rule) → Memᴰ r (all_rules_in ns)
        → ((c : Head) × (constructor_at p r ≡ Some c) × Memᴰ c (heads ns)) × Fit π (left_side r) × Linear (left_side r)
    children_fit no_child p k π e t r m = absurd (Memᴰ.not-nil m)
    children_fit (child c n ns) p k π e t r m =
        go (Memᴰ.append_cases (rules_in n) m) (λ x. tree_fits n (graft π p (over_blank S c)) t.1 r x) (λ x. children_fit ns p k π e t.2 r x)
      where
        go : Memᴰ r (rules_in n) ⊎ Memᴰ r (all_rules_in ns) → (Memᴰ r (rules_in n) → Fit (graft π p (over_blank S c)) (left_side r) × Linear (left_side r))
            → (Memᴰ r (all_rules_in ns) → ((d : Head) × (constructor_at p r ≡ Some d) × Memᴰ d (heads ns)) × Fit π (left_side r) × Linear (left_side r))
            → ((d : Head) × (constructor_at p r ≡ Some d) × Memᴰ d (c ∷ heads ns)) × Fit π (left_side r) × Linear (left_side r)
        go (inl x) f g = let y = f x in let z = child_has π p c r e y.0 in ((c, z.1, Memᴰ.head refl), z.0, y.1)
        go (inr x) f g = let y = g x in ((y.0.0, y.0.1, Memᴰ.tail y.0.2), y.1, y.2)

  -- a definitional tree with these rules deals them out
  mutual
    pub tree_deals : (n : Node) (π : Term) (rs : List Rule) → Nameless S n π → Permutation (rules_in n) rs → Deals n π rs
    tree_deals (at_rule r) π rs t m = (one_perm m refl, t)
    tree_deals (branch p ns) π rs t m =
        ((λ r x. (children_fit ns p t.0 π t.1 t.4 r (perm_mem m x)).0), children_deal ns p t.0 π rs t.1 t.4 t.3 (λ c x. perm_kept (has_at p c) m))

    children_deal : (ns : Nodes) (p : List ℕ) (k : ℕ) (π : Term) (rs : List Rule) → part π p ≡ Some (var k) → NamelessAll S ns p k π → Different (heads ns)
        → ((c : Head) → Memᴰ c (heads ns) → Permutation (filter (has_at p c) (all_rules_in ns)) (filter (has_at p c) rs)) → Deal ns p π rs
    children_deal no_child p k π rs e t d h = tt
    children_deal (child c n ns) p k π rs e t d h =
        let here-all : (r : Rule) → Memᴰ r (rules_in n) → constructor_at p r ≡ Some c = (λ r m. (child_has π p c r e (tree_fits n (graft π p (over_blank S c)) t.1 r m).0).1) in
        let own : filter (has_at p c) (rules_in n ++ all_rules_in ns) ≡ rules_in n =
        filter-append (has_at p c) (rules_in n) (all_rules_in ns)
        ∙ ap₂ ◌++◌ (kept_all (has_at p c) (rules_in n) (λ r m. constructor_has p c r (here-all r m)))
        (kept_none (has_at p c) (all_rules_in ns)
        (λ r m. let x = (children_fit ns p k π e t.2 r m).0 in constructor_not p c x.0 r x.1 (λ q. d.0 (subst (λ (z : Head). Memᴰ z (heads ns)) (sym q) x.2))))
        ∙ append-nil (rules_in n) in
        let rest : (z : Head) → Memᴰ z (heads ns) → filter (has_at p z) (rules_in n ++ all_rules_in ns) ≡ filter (has_at p z) (all_rules_in ns) =
        (λ z m. filter-append (has_at p z) (rules_in n) (all_rules_in ns)
        ∙ ap (λ (xs : List Rule). xs ++ filter (has_at p z) (all_rules_in ns))
        (kept_none (has_at p z) (rules_in n) (λ r x. constructor_not p z c r (here-all r x) (λ q. d.0 (subst (λ (y : Head). Memᴰ y (heads ns)) q m))))) in (
          (k, e, t.0),
          tree_deals n (graft π p (over_blank S c)) (filter (has_at p c) rs) t.1
              (subst (λ (xs : List Rule). Permutation xs (filter (has_at p c) rs)) own (h c (Memᴰ.head refl))),
          children_deal ns p k π rs e t.2 d.1
              (λ z m. subst (λ (xs : List Rule). Permutation xs (filter (has_at p z) rs)) (rest z m) (h z (Memᴰ.tail m))),
        )
