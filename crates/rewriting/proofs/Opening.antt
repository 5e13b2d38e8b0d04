-- Any variable where every left side has a constructor may be branched at first: the tree is opened there.
use Rattle.std.proofs.Common.{◌≡◌, ℕ, Bool, true, false, ◌⊎◌, List, [], ◌∷◌, Some, sym, refl, ap, subst, subst₂, inl, inr, filter}
use mathlib.Core.List.Memᴰ
use mathlib.Core.List.{Memᴰ}
use Rattle.terms.specs.Terms.{Head, Term, var, con}
use Rattle.terms.specs.Signatures.{Signature}
use Rattle.terms.specs.Positions.{part, graft}
use Rattle.rewriting.specs.Rules.{Rule, left_side}
use Rattle.rewriting.specs.Trees.{Node, at_rule, branch, Nodes, no_child, child, heads, SomeChild, ConstructorOf}
use Rattle.rewriting.specs.FixedTree.{same_head, constructor_at, has_at}
use Rattle.rewriting.proofs.Basics.{same_head_same, same_head_true}
use Rattle.rewriting.proofs.Lists.{kept_mem, kept_twice, same_position}
use Rattle.rewriting.proofs.Positions.{part_other, graft_other}
use Rattle.rewriting.proofs.Shapes.{alike_part}
use Rattle.rewriting.proofs.Deals.{constructor_part, has_constructor, Deals, Deal}
use Rattle.rewriting.proofs.Blanks.{over_blank}
use Rattle.rewriting.proofs.Nameless.{Nameless, NamelessAll, NamelessComplete, NamelessAllComplete}

module _ (S : Signature) where
  -- complete, with at least one child at every branch
  abbrev mutual
    pub Whole : Node → Term → Type 0
    Whole (at_rule r) π = Unit {0}
    Whole (branch p ns) π = SomeChild ns × ((c : Head) (k : ℕ) → part π p ≡ Some (var k) → ConstructorOf S c k → Memᴰ c (heads ns)) × Wholes ns p π

    pub Wholes : Nodes → List ℕ → Term → Type 0
    Wholes no_child p π = Unit {0}
    Wholes (child c n ns) p π = Whole n (graft π p (over_blank S c)) × Wholes ns p π

  mutual
    pub tree_whole : (n : Node) (π : Term) → Nameless S n π → NamelessComplete S n π → Whole n π
    tree_whole (at_rule r) π t c = tt
    tree_whole (branch p ns) π t c = (t.2, c.0, children_whole ns p t.0 π t.4 c.1)

    children_whole : (ns : Nodes) (p : List ℕ) (k : ℕ) (π : Term) → NamelessAll S ns p k π → NamelessAllComplete S ns p π → Wholes ns p π
    children_whole no_child p k π t c = tt
    children_whole (child d n ns) p k π t c = (tree_whole n (graft π p (over_blank S d)) t.1 c.0, children_whole ns p k π t.2 c.1)

  -- such a tree has a rule
  mutual
    pub whole_rule : (n : Node) (π : Term) (rs : List Rule) → Deals S n π rs → Whole n π → (r : Rule) × Memᴰ r rs
    whole_rule (at_rule r) π rs d w = (r, subst (Memᴰ r) (sym d.0) (Memᴰ.head refl))
    whole_rule (branch p ns) π rs d w = wholes_rule ns p π rs d.1 w.0 w.2

    wholes_rule : (ns : Nodes) (p : List ℕ) (π : Term) (rs : List Rule) → Deal S ns p π rs → SomeChild ns → Wholes ns p π → (r : Rule) × Memᴰ r rs
    wholes_rule no_child p π rs d o w = absurd o
    wholes_rule (child c n ns) p π rs d o w = let x = whole_rule n (graft π p (over_blank S c)) (filter (has_at p c) rs) d.1 w.0 in (x.0, (kept_mem (has_at p c) rs x.1).0)

  -- every rule has a constructor at q
  abbrev pub Shared : List ℕ → List Rule → Type 0
  Shared q rs = (r : Rule) → Memᴰ r rs → (c : Head) × (constructor_at q r ≡ Some c)

  -- a tree for the rules that have c at q, complete if the first was and c is of the sort there
  abbrev Opened : Node → Term → List Rule → List ℕ → ℕ → Head → Type 0
  Opened n π rs q j c = (m : Node) × Deals S m (graft π q (over_blank S c)) (filter (has_at q c) rs) × (ConstructorOf S c j → Whole n π → Whole m (graft π q (over_blank S c)))

  -- at the branch's own position: its child, if it has one for c
  own_child : (ns : Nodes) (p : List ℕ) (π : Term) (rs : List Rule) → Deal S ns p π rs → (c : Head)
      → ((m : Node) × Deals S m (graft π p (over_blank S c)) (filter (has_at p c) rs) × (Wholes ns p π → Whole m (graft π p (over_blank S c)))) ⊎ (Memᴰ c (heads ns) → ⊥)
  own_child no_child p π rs d c = inr (λ m. Memᴰ.not-nil m)
  own_child (child e n ns) p π rs d c = go (same_head e c) refl (own_child ns p π rs d.2 c)
    where
      go : (b : Bool) → same_head e c ≡ b
          → ((m : Node) × Deals S m (graft π p (over_blank S c)) (filter (has_at p c) rs) × (Wholes ns p π → Whole m (graft π p (over_blank S c)))) ⊎ (Memᴰ c (heads ns) → ⊥)
          → ((m : Node) × Deals S m (graft π p (over_blank S c)) (filter (has_at p c) rs) × (Wholes (child e n ns) p π → Whole m (graft π p (over_blank S c)))) ⊎ (Memᴰ c (e ∷ heads ns) → ⊥)
      go true q o =
          let x = same_head_true e c q in
          inl (n, subst (λ (z : Head). Deals S n (graft π p (over_blank S z)) (filter (has_at p z) rs)) x d.1, λ w. subst (λ (z : Head). Whole n (graft π p (over_blank S z))) x w.0)
      go false q (inl y) = inl (y.0, y.1, λ w. y.2 w.1)
      go false q (inr y) = inr (not_there y)
        where
          not_there : (Memᴰ c (heads ns) → ⊥) → Memᴰ c (e ∷ heads ns) → ⊥
          not_there z (Memᴰ.head h) = (let a = ap (λ (k : Head). same_head e k) h in let b = same_head_same e in cc)
          not_there z (Memᴰ.tail m) = z m

  here_opened : (ns : Nodes) (p : List ℕ) (π : Term) (rs : List Rule) → Deals S (branch p ns) π rs → (j : ℕ) → part π p ≡ Some (var j) → (c : Head) → Opened (branch p ns) π rs p j c
  here_opened ns p π rs d j e c = go (own_child ns p π rs d.1 c)
    where
      go : ((m : Node) × Deals S m (graft π p (over_blank S c)) (filter (has_at p c) rs) × (Wholes ns p π → Whole m (graft π p (over_blank S c)))) ⊎ (Memᴰ c (heads ns) → ⊥)
          → Opened (branch p ns) π rs p j c
      go (inl x) = (x.0, x.1, λ o w. x.2 w.2)
      go (inr x) = (
        branch [] no_child,
        (
          (λ r m. absurd (
              let y = kept_mem (has_at p c) rs m in
              let z = d.0 r y.0 in
              let u = has_constructor p c r y.1 in
              let v = z.1 in
              let q : c ≡ z.0 = cc in
              x (subst (λ (h : Head). Memᴰ h (heads ns)) (sym q) z.2))),
          tt,
        ),
        λ o w. absurd (x (w.1 c j e o)),
      )

  some_same : (ms ns : Nodes) → heads ms ≡ heads ns → SomeChild ns → SomeChild ms
  some_same no_child no_child e o = o
  some_same no_child (child c n ns) e o = cc
  some_same (child c n ms) ns e o = tt

  whole_opened : (ns ms : Nodes) (p q : List ℕ) (π : Term) (rs : List Rule) (j : ℕ) (c : Head) → part π q ≡ Some (var j) → (p ≡ q → ⊥) → heads ms ≡ heads ns → Deal S ns p π rs
      → Whole (branch p ns) π → Wholes ms p (graft π q (over_blank S c)) → Whole (branch p ms) (graft π q (over_blank S c))
  whole_opened no_child ms p q π rs j c e i g d w ws = absurd w.0
  whole_opened (child b n ns) ms p q π rs j c e i g d w ws =
      let k = d.0 in (
        some_same ms (child b n ns) g tt,
        (λ a z f o.
            let x = part_other π q p (over_blank S c) e k.1 (λ y. i (sym y)) in
            let y = k.1 in
            let u : part π p ≡ Some (var z) = cc in
            subst (Memᴰ a) (sym g) (w.1 a z u o)),
        ws,
      )

  mutual
    pub open_tree : (n : Node) (π : Term) (rs : List Rule) → Deals S n π rs → (q : List ℕ) (j : ℕ) → part π q ≡ Some (var j) → Shared q rs → (c : Head) → Opened n π rs q j c
    open_tree (at_rule r) π rs d q j e h c =
        let x = h r (subst (Memᴰ r) (sym d.0) (Memᴰ.head refl)) in
        let y = constructor_part q r x.1 in
        let z = (alike_part (left_side r) π d.1.0 q).1 j e in
        absurd (let a = y.1 in let b = z.1 in let k : con x.0 y.0 ≡ var z.0 = cc in cc)
    open_tree (branch p ns) π rs d q j e h c =
        elim (same_position p q) [
          | inl i ↦ subst (λ (y : List ℕ). Opened (branch p ns) π rs y j c) i (here_opened ns p π rs d j (subst (λ (y : List ℕ). part π y ≡ Some (var j)) (sym i) e) c)
          | inr i ↦
              let x = open_children ns p π rs d.1 q j e h i c in (
                branch p x.0,
                (
                  (λ r m. let y = d.0 r (kept_mem (has_at q c) rs m).0 in (y.0, y.1, subst (Memᴰ y.0) (sym x.2) y.2)),
                  x.1,
                ),
                λ o w. whole_opened ns x.0 p q π rs j c e i x.2 d.1 w (x.3 o w.2),
              )
        ]

    open_children : (ns : Nodes) (p : List ℕ) (π : Term) (rs : List Rule) → Deal S ns p π rs → (q : List ℕ) (j : ℕ) → part π q ≡ Some (var j) → Shared q rs → (p ≡ q → ⊥) → (c : Head)
        → (ms : Nodes) × Deal S ms p (graft π q (over_blank S c)) (filter (has_at q c) rs) × (heads ms ≡ heads ns) × (ConstructorOf S c j → Wholes ns p π → Wholes ms p (graft π q (over_blank S c)))
    open_children no_child p π rs d q j e h i c = (no_child, tt, refl, λ o w. tt)
    open_children (child b n ns) p π rs d q j e h i c =
        let k = d.0 in
        let g = graft_other π p q (over_blank S b) (over_blank S c) k.1 e i in
        let x = open_tree n (graft π p (over_blank S b)) (filter (has_at p b) rs) d.1 q j (part_other π p q (over_blank S b) k.1 e i) (λ r m. h r (kept_mem (has_at p b) rs m).0) c in
        let y = open_children ns p π rs d.2 q j e h i c in (
          child b x.0 y.0,
          (
            (k.0, part_other π q p (over_blank S c) e k.1 (λ z. i (sym z)), k.2),
            subst₂ (λ (ρ : Term) (qs : List Rule). Deals S x.0 ρ qs) g (kept_twice (has_at q c) (has_at p b) rs) x.1,
            y.1,
          ),
          ap (λ (cs : List Head). b ∷ cs) y.2,
          λ o w. (subst (Whole x.0) g (x.2 o w.0), y.3 o w.1),
        )
