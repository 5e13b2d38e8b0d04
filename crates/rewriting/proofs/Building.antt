-- What the builder builds is a tree, and it builds one wherever there is one.
use Rattle.std.proofs.Common.{◌≡◌, ℕ, zero, suc, ◌+◌, ◌<◌, Bool, true, false, List, [], ◌∷◌, Some, None, Option, sym, refl, ap, ◌∙◌, subst, arith, option_map, filter, is_some, not, inl, inr, ◌⊎◌}
use mathlib.Core.List.Memᴰ
use mathlib.Core.List.{Memᴰ}
use Rattle.std.proofs.lemmas.Bool.{not-true, cases_Bool, not_from_false}
use Rattle.std.specs.Option.{option_or}
use Rattle.std.specs.List.{list_any}
use Rattle.std.proofs.lemmas.Option.{cond_some}
use Rattle.terms.specs.Terms.{Head, Term, var}
use Rattle.terms.specs.Options.{onward}
use Rattle.terms.specs.Signatures.{Signature}
use Rattle.terms.specs.Roots.{head_args}
use Rattle.terms.specs.Sorting.{Sorted}
use Rattle.terms.specs.Positions.{part, graft}
use Rattle.rewriting.specs.Substitutions.{Occurrence, occurrences, variable_positions}
use Rattle.rewriting.specs.Rules.{Rule, left_side, Different}
use Rattle.rewriting.specs.Trees.{Node, at_rule, branch, Nodes, no_child, child, heads, SomeChild, rules_in, all_rules_in, put_here, Permutation, perm_nil, perm_more, ConstructorOf, refined}
use Rattle.rewriting.specs.FixedTree.{same_head, alike, constructor_at, has_at, all_have, first_shared, without, joined, constructors_at, children, sole_variant, build, size}
use Rattle.rewriting.proofs.Basics.{onward_some, mapped_some, same_head_same, same_head_true}
use Rattle.rewriting.proofs.Lists.{mem_kept, kept_mem, kept_all, perm_mix, mix_kept, kept_none, any_mem, mem_any, all_mem, mem_all, found, mem_found, different_kept}
use Rattle.rewriting.proofs.Occurrences.{occurs_part, part_occurs}
use Rattle.rewriting.proofs.Shapes.{fit_size, size_graft, sizes_fresh}
use Rattle.rewriting.proofs.Deals.{has_constructor, constructor_has, as_sort, graft_sorted, AllReady, ready_constructor, ready_child, Covered, Deals, Deal}
use Rattle.rewriting.proofs.Opening.{Whole, whole_rule, Shared, open_tree}
use Rattle.rewriting.proofs.Blanks.{over_blank, bare, Formed, blank_variable, variable_blank, blank_refined, formed_refined, alike_blank}
use Rattle.rewriting.proofs.Nameless.{NamelessVariant, Nameless, NamelessAll, NamelessComplete, NamelessAllComplete}

-- the positions of variables, with names and without
pub position_named : (π : Term) {p : List ℕ} → Memᴰ p (variable_positions π) → (x : ℕ) × (part π p ≡ Some (var x))
position_named π m =
    let x = Memᴰ.of_map (λ (o : Occurrence). o.position) (occurrences π) m in
    (x.0.name, ap (part π) (sym x.2) ∙ occurs_part π x.1)

pub bare_position : (S : Signature) (π : Term) {p : List ℕ} → Formed S π → Memᴰ p (variable_positions π) → (k : ℕ) × (part (bare S π) p ≡ Some (var k))
bare_position S π {p} h m = variable_blank S π 0 p h (position_named π m).1

position_bare : (S : Signature) (π : Term) (p : List ℕ) {k : ℕ} → part (bare S π) p ≡ Some (var k) → Memᴰ p (variable_positions π)
position_bare S (var x) [] e = Memᴰ.head refl
position_bare S π (i ∷ p) e = Memᴰ.map (λ (o : Occurrence). o.position) (part_occurs π (i ∷ p) (blank_variable S π 0 i p e).0.1)
position_bare S π p e = absurd (cc)

-- the first shared position
module _ (S : Signature) where
  pub shared : (p : List ℕ) (rs : List Rule) → all_have p rs ≡ true → Shared S p rs
  shared p rs e r m = there (constructor_at p r) (all_mem (λ q. is_some (constructor_at p q)) m e)
    where
      there : (o : Option Head) → is_some o ≡ true → (c : Head) × (o ≡ Some c)
      there None d = absurd (cc)
      there (Some c) d = (c, refl)

  pub all_shared : (p : List ℕ) (rs : List Rule) → Shared S p rs → all_have p rs ≡ true
  all_shared p rs h = mem_all (λ r. is_some (constructor_at p r)) rs (λ r m. ap is_some (h r m).1)

pub first_is : (ps : List (List ℕ)) (rs : List Rule) {p : List ℕ} → first_shared ps rs ≡ Some p → Memᴰ p ps × (all_have p rs ≡ true)
first_is ps rs e = found (λ p. all_have p rs) ps e

-- the constructors that occur, each once
without_mem : {d : Head} (c : Head) (ds : List Head) → Memᴰ d (without c ds) → Memᴰ d ds × (same_head c d ≡ false)
without_mem {d} c ds m = let x = kept_mem (λ e. not (same_head c e)) ds m in (x.0, not-true (same_head c d) x.1)

mem_without : {d : Head} (c : Head) {ds : List Head} → Memᴰ d ds → Memᴰ d (c ∷ without c ds)
mem_without {d} c m =
    elim (cases_Bool (same_head c d)) [
      | inl e ↦ Memᴰ.head (sym (same_head_true c d e))
      | inr e ↦ Memᴰ.tail (mem_kept (λ a. not (same_head c a)) m (not_from_false (same_head c d) e))
    ]

pub occurring : (p : List ℕ) {c : Head} {r : Rule} {rs : List Rule} → Memᴰ r rs → constructor_at p r ≡ Some c → Memᴰ c (constructors_at p rs)
occurring p {c} (Memᴰ.head {x = q} {xs = rs} h) e = rw (← (ap (constructor_at p) h), e) (Memᴰ.head refl)
occurring p {c} (Memᴰ.tail {x = q} {xs = rs} m) e = go (constructor_at p q) (occurring p m e)
  where
    go : (o : Option Head) → Memᴰ c (constructors_at p rs) → Memᴰ c (joined o (constructors_at p rs))
    go None n = n
    go (Some d) n = mem_without d n

pub occurs : (p : List ℕ) {c : Head} (rs : List Rule) → Memᴰ c (constructors_at p rs) → (r : Rule) × Memᴰ r rs × (constructor_at p r ≡ Some c)
occurs p [] m = absurd (Memᴰ.not-nil m)
occurs p {c} (q ∷ rs) m = go (constructor_at p q) refl m (λ n. occurs p rs n)
  where
    go : (o : Option Head) → constructor_at p q ≡ o → Memᴰ c (joined o (constructors_at p rs))
        → (Memᴰ c (constructors_at p rs) → (r : Rule) × Memᴰ r rs × (constructor_at p r ≡ Some c))
        → (r : Rule) × Memᴰ r (q ∷ rs) × (constructor_at p r ≡ Some c)
    go None e n ih = let x = ih n in (x.0, Memᴰ.tail x.1, x.2)
    go (Some d) e (Memᴰ.head h) ih = (q, Memᴰ.head refl, e ∙ ap Some (sym h))
    go (Some d) e (Memᴰ.tail n) ih = let x = ih (without_mem d (constructors_at p rs) n).0 in (x.0, Memᴰ.tail x.1, x.2)

pub different_constructors : (p : List ℕ) (rs : List Rule) → Different (constructors_at p rs)
different_constructors p [] = tt
different_constructors p (q ∷ rs) = go (constructor_at p q) (different_constructors p rs)
  where
    go : (o : Option Head) → Different (constructors_at p rs) → Different (joined o (constructors_at p rs))
    go None h = h
    go (Some d) h = ((λ m. (let a = (without_mem d (constructors_at p rs) m).1 in let b = same_head_same d in cc)), different_kept (λ e. not (same_head d e)) (constructors_at p rs) h)

-- a rule node
pub sole_is : (π : Term) (rs : List Rule) {t : Node} → sole_variant π rs ≡ Some t → (r : Rule) × (rs ≡ r ∷ []) × (alike (left_side r) π ≡ true) × (t ≡ at_rule r)
sole_is π (r ∷ []) {t} e = let x = cond_some (alike (left_side r) π) (at_rule r) t e in (r, refl, x.0, sym x.1)
sole_is π rs e = absurd (cc)

-- whether a rule has one of some constructors
abbrev any_of : List ℕ → List Head → Rule → Bool
any_of p cs r = list_any (λ c. has_at p c r) cs

any_is : (p : List ℕ) (r : Rule) {c : Head} (cs : List Head) → constructor_at p r ≡ Some c → any_of p cs r ≡ true → Memᴰ c cs
any_is p r {c} cs e h =
    let x = any_mem (λ d. has_at p d r) cs h in
    let y = has_constructor p x.0 r x.2 in
    let z : c ≡ x.0 = cc in
    Memᴰ.cast z x.1

-- A pattern for which a tree is built: it has a sort, and some rules remain that fit it.
pub record Pattern (S : Signature) (k : ℕ) (π : Term) (rs : List Rule) : Type 0 where
  pub formed : Formed S π
  pub sorted : Sorted S as_sort (bare S π) k
  pub fitting : AllReady S (bare S π) k rs
  pub remaining : (r : Rule) × Memᴰ r rs

-- the children for a constructor and for more
pub children_is : (tree : Head → Option Node) (c : Head) (cs : List Head) {ns : Nodes} → children tree (c ∷ cs) ≡ Some ns
    → (n : Node) × (ms : Nodes) × (tree c ≡ Some n) × (children tree cs ≡ Some ms) × (child c n ms ≡ ns)
children_is tree c cs e =
    let x = onward_some (tree c) (λ n. option_map (child c n) (children tree cs)) e in
    let y = mapped_some (child c x.0) (children tree cs) x.2 in
    (x.0, y.0, x.1, y.1, y.2)

module _ (S : Signature) where
  -- the builder's child for c, and its branch
  abbrev pub subtree : ℕ → Term → List Rule → List ℕ → Head → Option Node
  subtree n π rs p c = build S n (refined S π p c) (filter (has_at p c) rs)

  abbrev pub branched : ℕ → Term → List Rule → Option Node
  branched n π rs = onward (first_shared (variable_positions π) rs) (λ p. option_map (branch p) (children (subtree n π rs p) (constructors_at p rs)))

  -- what is built is a rule node, or a branch
  abbrev pub OfRule : Term → List Rule → Node → Type 0
  OfRule π rs t = (r : Rule) × (rs ≡ r ∷ []) × (alike (left_side r) π ≡ true) × (t ≡ at_rule r)

  abbrev pub OfBranch : ℕ → Term → List Rule → Node → Type 0
  OfBranch n π rs t = (p : List ℕ) × (ns : Nodes) × (first_shared (variable_positions π) rs ≡ Some p) × (children (subtree n π rs p) (constructors_at p rs) ≡ Some ns) × (t ≡ branch p ns)

  pub build_is : (n : ℕ) (π : Term) (rs : List Rule) {t : Node} → build S (suc n) π rs ≡ Some t → OfRule π rs t ⊎ OfBranch n π rs t
  build_is n π rs {t} e = go (sole_variant π rs) refl e
    where
      go : (o : Option Node) → sole_variant π rs ≡ o → option_or o (branched n π rs) ≡ Some t → OfRule π rs t ⊎ OfBranch n π rs t
      go (Some s) q h = inl (sole_is π rs (q ∙ h))
      go None q h =
          let x = onward_some (first_shared (variable_positions π) rs) (λ p. option_map (branch p) (children (subtree n π rs p) (constructors_at p rs))) h in
          let y = mapped_some (branch x.0) (children (subtree n π rs x.0) (constructors_at x.0 rs)) x.2 in
          inr (x.0, y.0, x.1, y.1, sym y.2)

  -- what is built for a pattern and rules
  abbrev Built : Node → Term → List Rule → Type 0
  Built t π rs = Nameless S t π × Deals S t π rs × Permutation (rules_in t) rs

  from_children : (tree : Head → Option Node) (π : Term) (k : ℕ) (p : List ℕ) (rs : List Rule) → part π p ≡ Some (var k) → (cs : List Head) (ns : Nodes) → children tree cs ≡ Some ns
      → Different cs
      → ((c : Head) → Memᴰ c cs → (t : Node) → tree c ≡ Some t → ConstructorOf S c k × Built t (graft π p (over_blank S c)) (filter (has_at p c) rs))
      → (heads ns ≡ cs) × NamelessAll S ns p k π × Deal S ns p π rs × Permutation (all_rules_in ns) (filter (any_of p cs) rs)
  from_children tree π k p rs e [] ns h d f =
      let q : no_child ≡ ns = cc in
      subst (λ (z : Nodes). (heads z ≡ []) × NamelessAll S z p k π × Deal S z p π rs × Permutation (all_rules_in z) (filter (any_of p []) rs)) q
      (refl, tt, tt, subst (Permutation []) (sym (kept_none (any_of p []) rs (λ r m. refl))) perm_nil)
  from_children tree π k p rs e (c ∷ cs) ns h d f =
      let x = children_is tree c cs h in
      let z = from_children tree π k p rs e cs x.1 x.3 d.1 (λ b m. f b (Memᴰ.tail m)) in
      let u = f c (Memᴰ.head refl) x.0 x.2 in
      subst (λ (w : Nodes). (heads w ≡ c ∷ cs) × NamelessAll S w p k π × Deal S w p π rs × Permutation (all_rules_in w) (filter (any_of p (c ∷ cs)) rs)) x.4 (
        ap (λ (bs : List Head). c ∷ bs) z.0,
        (u.0, u.1.0, z.1),
        ((k, e, u.0), u.1.1, z.2),
        perm_mix u.1.2 z.3 (mix_kept (has_at p c) (any_of p cs) rs (λ r a b. d.0 (any_is p r cs (has_constructor p c r a) b))),
      )

  some_child : (ns : Nodes) {c : Head} → Memᴰ c (heads ns) → SomeChild ns
  some_child no_child m = Memᴰ.not-nil m
  some_child (child d n ns) m = tt

  -- the pattern of a child, without names
  pub child_bare : (π : Term) (p : List ℕ) (c : Head) → Memᴰ p (variable_positions π) → bare S (refined S π p c) ≡ graft (bare S π) p (over_blank S c)
  child_bare π p c m = blank_refined S π 0 p c (position_named π m).1

  -- the branch of a pattern: its position, its constructors, its children
  pub pattern_at : {k : ℕ} {π : Term} {rs : List Rule} {p : List ℕ} → Pattern S k π rs → first_shared (variable_positions π) rs ≡ Some p → (j : ℕ) × (part (bare S π) p ≡ Some (var j))
  pattern_at {π = π} {rs = rs} g e = bare_position S π g.formed (first_is (variable_positions π) rs e).0

  pub pattern_constructor : {k : ℕ} {π : Term} {rs : List Rule} (p : List ℕ) {j : ℕ} {c : Head} → Pattern S k π rs → part (bare S π) p ≡ Some (var j) → Memᴰ c (constructors_at p rs) → ConstructorOf S c j
  pattern_constructor {k} {π} {rs} p g e m = let u = occurs p rs m in (ready_constructor S (bare S π) k p u.0 g.sorted e (g.fitting u.0 u.1) u.2).0

  pub pattern_child : {k : ℕ} {π : Term} {rs : List Rule} (p : List ℕ) (c : Head) → Pattern S k π rs → first_shared (variable_positions π) rs ≡ Some p → Memᴰ c (constructors_at p rs)
      → Pattern S k (refined S π p c) (filter (has_at p c) rs)
  pattern_child {k} {π} {rs} p c g e m =
      let f = (first_is (variable_positions π) rs e).0 in
      let j = pattern_at g e in
      let v = occurs p rs m in
      let i = sym (child_bare π p c f) in
      record {
        formed = formed_refined S π p c g.formed (position_named π f).1;
        sorted = subst (λ (ρ : Term). Sorted S as_sort ρ k) i (graft_sorted S (bare S π) k p c g.sorted j.1 (pattern_constructor p g j.1 m));
        fitting = subst (λ (ρ : Term). AllReady S ρ k (filter (has_at p c) rs)) i (ready_child S (bare S π) k p c rs g.sorted j.1 g.fitting);
        remaining = (v.0, mem_kept (has_at p c) v.1 (constructor_has p c v.0 v.2));
      }

  pub build_tree : (n : ℕ) (π : Term) (k : ℕ) (rs : List Rule) (t : Node) → Pattern S k π rs → build S n π rs ≡ Some t → Built t (bare S π) rs
  build_tree zero π k rs t g e = absurd (cc)
  build_tree (suc n) π k rs t g e =
      elim (build_is n π rs e) [
        | inl x ↦
            let v : NamelessVariant (left_side x.0) (bare S π) = (alike_blank S (left_side x.0) π 0 g.formed ∙ x.2, (g.fitting x.0 (subst (Memᴰ x.0) (sym x.1) (Memᴰ.head refl))).1) in
            rw x.3 (v, (x.1, v), subst (Permutation (x.0 ∷ [])) (sym x.1) (perm_more put_here perm_nil))
        | inr x ↦
            let p = x.0 in
            let f = first_is (variable_positions π) rs x.2 in
            let j = pattern_at g x.2 in
            let all = shared S p rs f.1 in
            let z = from_children (subtree n π rs p) (bare S π) j.0 p rs j.1 (constructors_at p rs) x.1 x.3 (different_constructors p rs)
            (λ c l s b. (
              pattern_constructor p g j.1 l,
              subst (λ (ρ : Term). Built s ρ (filter (has_at p c) rs)) (child_bare π p c f.0)
                  (build_tree n (refined S π p c) k (filter (has_at p c) rs) s (pattern_child p c g x.2 l) b),
            )) in
            let cover : Covered S p (heads x.1) rs = (λ q l. let b = all q l in (b.0, b.1, subst (Memᴰ b.0) (sym z.0) (occurring p l b.1))) in
            rw x.4 (
              (j.0, j.1, some_child x.1 (cover g.remaining.0 g.remaining.1).2, subst Different (sym z.0) (different_constructors p rs), z.1),
              (cover, z.2),
              subst (Permutation (all_rules_in x.1)) (kept_all (any_of p (constructors_at p rs)) rs (λ q l. let b = all q l in mem_any (λ c. has_at p c q) (occurring p l b.1) (constructor_has p b.0 q b.1))) z.3,
            )
      ]

  -- the bound is enough: a rule has fewer symbols than the pattern and the bound together
  abbrev pub Bounded : ℕ → Term → List Rule → Type 0
  Bounded n π rs = (r : Rule) → Memᴰ r rs → size (left_side r) < size π + n

  pub bounded_child : (n : ℕ) (π : Term) (p : List ℕ) {k : ℕ} (c : Head) (rs : List Rule) → part π p ≡ Some (var k) → Bounded (suc n) π rs
      → Bounded n (graft π p (over_blank S c)) (filter (has_at p c) rs)
  bounded_child n π p c rs e h r m =
      let l = h r (kept_mem (has_at p c) rs m).0 in
      let z = size_graft π p (over_blank S c) e in
      let f = sizes_fresh (head_args S c) in
      omega arith

  pub pattern_bounded : {k : ℕ} {π : Term} {rs : List Rule} (n : ℕ) (p : List ℕ) (c : Head) → Pattern S k π rs → first_shared (variable_positions π) rs ≡ Some p → Bounded (suc n) (bare S π) rs
      → Bounded n (bare S (refined S π p c)) (filter (has_at p c) rs)
  pattern_bounded {π = π} {rs = rs} n p c g e b =
      subst (λ (ρ : Term). Bounded n ρ (filter (has_at p c) rs)) (sym (child_bare π p c (first_is (variable_positions π) rs e).0)) (bounded_child n (bare S π) p c rs (pattern_at g e).1 b)

  all_children : (tree : Head → Option Node) (cs : List Head) → ((c : Head) → Memᴰ c cs → (t : Node) × (tree c ≡ Some t)) → (ns : Nodes) × (children tree cs ≡ Some ns)
  all_children tree [] h = (no_child, refl)
  all_children tree (c ∷ cs) h =
      let x = h c (Memᴰ.head refl) in
      let y = all_children tree cs (λ d m. h d (Memᴰ.tail m)) in
      (child c x.0 y.0, rw (x.1, y.1) refl)

  -- the variable that a tree branches at is shared
  root_shared : (m : Node) (π : Term) (rs : List Rule) → Formed S π → Deals S m (bare S π) rs → (r : Rule) → Memᴰ r rs → sole_variant π rs ≡ None
      → (p : List ℕ) × Memᴰ p (variable_positions π) × (all_have p rs ≡ true)
  root_shared (at_rule q) π rs w d r m e =
      absurd (let a : sole_variant π rs ≡ Some (at_rule q) = rw (d.0, sym (alike_blank S (left_side q) π 0 w) ∙ d.1.0) refl in cc)
  root_shared (branch p ns) π rs w d r m e = (p, go ns d.1 (d.0 r m).2, all_shared S p rs (λ q l. let x = d.0 q l in (x.0, x.1)))
    where
      go : (ms : Nodes) → Deal S ms p (bare S π) rs → {c : Head} → Memᴰ c (heads ms) → Memᴰ p (variable_positions π)
      go no_child h l = absurd (Memᴰ.not-nil l)
      go (child b n ms) h l = position_bare S π p h.0.1

  -- where a tree deals the rules out, one is built
  pub builds : (n : ℕ) (π : Term) (k : ℕ) (rs : List Rule) → Pattern S k π rs → Bounded n (bare S π) rs → (m : Node) → Deals S m (bare S π) rs → (t : Node) × (build S n π rs ≡ Some t)
  builds zero π k rs g b m d = let x = b g.remaining.0 g.remaining.1 in let y = fit_size (g.fitting g.remaining.0 g.remaining.1).0 in absurd (omega arith)
  builds (suc n) π k rs g b m d = go (sole_variant π rs) refl (λ ρ qs. builds n ρ k qs)
    where
      go : (o : Option Node) → sole_variant π rs ≡ o
          → ((ρ : Term) (qs : List Rule) → Pattern S k ρ qs → Bounded n (bare S ρ) qs → (s : Node) → Deals S s (bare S ρ) qs → (t : Node) × (build S n ρ qs ≡ Some t))
          → (t : Node) × (option_or o (branched n π rs) ≡ Some t)
      go (Some s) q ih = (s, refl)
      go None q ih =
          let x = root_shared m π rs g.formed d g.remaining.0 g.remaining.1 q in
          let f = mem_found (λ q. all_have q rs) x.1 x.2 in
          let p = f.0 in
          let h = first_is (variable_positions π) rs f.1 in
          let j = pattern_at g f.1 in
          let ns = all_children (subtree n π rs p) (constructors_at p rs)
          (λ c y.
          let u = open_tree S m (bare S π) rs d p j.0 j.1 (shared S p rs h.1) c in
          ih (refined S π p c) (filter (has_at p c) rs) (pattern_child p c g f.1 y) (pattern_bounded n p c g f.1 b)
          u.0 (subst (λ (ρ : Term). Deals S u.0 ρ (filter (has_at p c) rs)) (sym (child_bare π p c h.0)) u.1)) in
          (branch p ns.0, rw (f.1, ns.1) refl)

  pub children_heads : (tree : Head → Option Node) (cs : List Head) (ns : Nodes) → children tree cs ≡ Some ns → heads ns ≡ cs
  children_heads tree [] ns e = let q : no_child ≡ ns = cc in sym (ap heads q)
  children_heads tree (c ∷ cs) ns e =
      let x = children_is tree c cs e in
      sym (ap heads x.4) ∙ ap (λ (bs : List Head). c ∷ bs) (children_heads tree cs x.1 x.3)

  complete_children : (tree : Head → Option Node) (π : Term) (p : List ℕ) (cs : List Head) (ns : Nodes) → children tree cs ≡ Some ns
      → ((c : Head) → Memᴰ c cs → (t : Node) → tree c ≡ Some t → NamelessComplete S t (graft π p (over_blank S c))) → NamelessAllComplete S ns p π
  complete_children tree π p [] ns e h = let q : no_child ≡ ns = cc in subst (λ (z : Nodes). NamelessAllComplete S z p π) q tt
  complete_children tree π p (c ∷ cs) ns e h =
      let x = children_is tree c cs e in
      subst (λ (z : Nodes). NamelessAllComplete S z p π) x.4 (h c (Memᴰ.head refl) x.0 x.2, complete_children tree π p cs x.1 x.3 (λ b m. h b (Memᴰ.tail m)))

  -- where a complete tree deals the rules out, what is built is complete
  pub build_complete : (n : ℕ) (π : Term) (k : ℕ) (rs : List Rule) (t : Node) → Pattern S k π rs → (m : Node) → Deals S m (bare S π) rs → Whole S m (bare S π) → build S n π rs ≡ Some t
      → NamelessComplete S t (bare S π)
  build_complete zero π k rs t g m d w e = absurd (cc)
  build_complete (suc n) π k rs t g m d w e =
      elim (build_is n π rs e) [
        | inl x ↦ rw x.3 tt
        | inr x ↦
            let p = x.0 in
            let f = first_is (variable_positions π) rs x.2 in
            let j = pattern_at g x.2 in
            let all = shared S p rs f.1 in
            let hs = children_heads (subtree n π rs p) (constructors_at p rs) x.1 x.3 in
            rw x.4 (
              (λ c i b o.
                  let u = open_tree S m (bare S π) rs d p i b all c in
                  let l = whole_rule S u.0 (graft (bare S π) p (over_blank S c)) (filter (has_at p c) rs) u.1 (u.2 o w) in
                  let z = kept_mem (has_at p c) rs l.1 in
                  subst (Memᴰ c) (sym hs) (occurring p z.0 (has_constructor p c l.0 z.1))),
              complete_children (subtree n π rs p) (bare S π) p (constructors_at p rs) x.1 x.3
                  (λ c i s b.
                  let o = pattern_constructor p g j.1 i in
                  let u = open_tree S m (bare S π) rs d p j.0 j.1 all c in
                  let q = child_bare π p c f.0 in
                  subst (NamelessComplete S s) q
                  (build_complete n (refined S π p c) k (filter (has_at p c) rs) s (pattern_child p c g x.2 i)
                  u.0 (subst (λ (ρ : Term). Deals S u.0 ρ (filter (has_at p c) rs)) (sym q) u.1)
                  (subst (Whole S u.0) (sym q) (u.2 o w)) b)),
            )
      ]
