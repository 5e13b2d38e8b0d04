-- Children are found along their links.
use Rattle.std.proofs.Common.{◌≡◌, ℕ, zero, suc, ◌-◌, ◌<◌, ◌≤◌, Bool, true, false, cond, ◌||◌, eqb, List, [], map, length, is_some, Some, None, Option, sym, refl, ap, ◌∙◌, subst, arith}
use Rattle.std.specs.List.{slice_get}
use Rattle.std.proofs.lemmas.Bool.{eqb-true, cond-true, cond-false}
use Rattle.terms.specs.Terms.{symbol}
use Rattle.terms.specs.Options.{onward}
use Rattle.terms.proofs.Letters.{zero_one}
use Rattle.rewriting.specs.Rules.{Rule}
use Rattle.rewriting.specs.Trees.{Node as Tree, branch, Nodes as Children, no_child, child, heads}
use Rattle.rewriting.specs.FixedTree.{same_head}
use Rattle.rewriting.specs.Completeness.{is_among}
use Rattle.trees.specs.declared.node.Node.{Node}
use Rattle.trees.specs.declared.node.Kind.{Kind}
use Rattle.trees.specs.Nodes.{Before, first_child, Is, is_rule, is_branch, Linked, no_link, link, child_for, seek, Leads, IsChild, FindsChild}
use Rattle.trees.specs.Rows.{new_heads}
use Rattle.trees.proofs.Scanned.{among_there, among_new}
use Rattle.trees.proofs.Growths.{linked_before}

-- one link more
module _ (ns : List Node) (s : ℕ) where
  seek_step : (k i : ℕ) {n : Node} → 0 < k → slice_get ns i ≡ Some n → seek k ns (Some i) s ≡ cond (eqb s n.symbol) (Some i) (seek (k - 1) ns n.next s)
  seek_step zero i h e = absurd (omega arith)
  seek_step (suc k) i {n} h e =
      let q : k ≡ suc k - 1 = omega arith in
      ap (λ (o : Option Node). onward o (λ m. cond (eqb s m.symbol) (Some i) (seek k ns m.next s))) e ∙ ap (λ (x : ℕ). cond (eqb s n.symbol) (Some i) (seek x ns n.next s)) q

  pub seek_here : (k i : ℕ) {n : Node} → 0 < k → slice_get ns i ≡ Some n → eqb s n.symbol ≡ true → seek k ns (Some i) s ≡ Some i
  seek_here k i {n} h e y = seek_step k i h e ∙ cond-true _ _ _ y

  pub seek_on : (k i : ℕ) {n : Node} → 0 < k → slice_get ns i ≡ Some n → eqb s n.symbol ≡ false → seek k ns (Some i) s ≡ seek (k - 1) ns n.next s
  seek_on k i {n} h e y = seek_step k i h e ∙ cond-false _ _ _ y

  pub seek_none : (k : ℕ) → seek k ns None s ≡ None
  seek_none zero = refl
  seek_none (suc k) = refl

  earlier : (o : Option ℕ) (i k : ℕ) → Before o i → i ≤ k → Before o k
  earlier None i k b l = tt
  earlier (Some j) i k b l = omega arith

  -- enough links are followed
  pub seek_finds : (rs : List Rule) (k : ℕ) {o : Option ℕ} {ts : Children} → Linked rs ns o ts → Before o k → IsChild rs ns s (child_for s ts) (seek k ns o s)
  seek_finds rs k no_link b = seek_none k
  seek_finds rs k (link {i = i} {n = n} {t = t} {ts = ts} e f g h l) b = go (eqb s n.symbol) refl (seek_finds rs (k - 1) l (earlier n.next i (k - 1) g (omega arith)))
    where
      go : (y : Bool) → eqb s n.symbol ≡ y → IsChild rs ns s (child_for s ts) (seek (k - 1) ns n.next s) → IsChild rs ns s (cond (eqb s n.symbol) (Some t) (child_for s ts)) (seek k ns (Some i) s)
      go true q ih =
          subst (λ (x : Bool). IsChild rs ns s (cond x (Some t) (child_for s ts)) (seek k ns (Some i) s)) (sym q)
          (i, n, seek_here k i (omega arith) e q, e, sym (eqb-true s n.symbol q), h)
      go false q ih =
          subst (λ (x : Bool). IsChild rs ns s (cond x (Some t) (child_for s ts)) (seek k ns (Some i) s)) (sym q)
          (subst (IsChild rs ns s (child_for s ts)) (sym (seek_on k i (omega arith) e q)) ih)

-- there is a child for each constructor of the children, and for no other
child_there : (s : ℕ) (ts : Children) → is_some (child_for s ts) ≡ is_among (symbol s) (heads ts)
child_there s no_child = refl
child_there s (child c t ts) = go (same_head (symbol s) c) (child_there s ts)
  where
    go : (b : Bool) → is_some (child_for s ts) ≡ is_among (symbol s) (heads ts) → is_some (cond b (Some t) (child_for s ts)) ≡ (b || is_among (symbol s) (heads ts))
    go true e = refl
    go false e = e

found_there : (rs : List Rule) (ns : List Node) (s : ℕ) (o : Option Tree) (r : Option ℕ) → IsChild rs ns s o r → is_some r ≡ is_some o
found_there rs ns s None r h = ap is_some h
found_there rs ns s (Some t) r h = ap is_some h.2

-- children that are linked lead to their constructors
pub linked_leads : {rs : List Rule} {ns : List Node} {o : Option ℕ} {ts : Children} (hs : List (Option ℕ)) → Linked rs ns o ts → heads ts ≡ map symbol (new_heads [] hs) → Leads ns o hs
linked_leads {rs} {ns} {o} {ts} hs l e s =
    found_there rs ns s (child_for s ts) (seek (length ns) ns o s) (seek_finds ns s rs (length ns) l (linked_before l))
    ∙ child_there s ts
    ∙ ap (is_among (symbol s)) e
    ∙ sym (among_new s hs)
    ∙ among_there s hs

-- a branch's child is found
pub branch_finds : (ns : List Node) (at s : ℕ) (r : Option ℕ) → r ≡ onward (slice_get ns at) (λ n. seek (length ns) ns (first_child n.kind) s) → FindsChild ns at s r
branch_finds ns at s r q rs n p ts e h = subst (IsChild rs ns s (child_for s ts)) (sym (q ∙ ap (λ (o : Option Node). onward o (λ m. seek (length ns) ns (first_child m.kind) s)) e)) (go h refl)
  where
    go : {k : Kind} {t : Tree} → Is rs ns k t → t ≡ branch p ts → IsChild rs ns s (child_for s ts) (seek (length ns) ns (first_child k) s)
    go (is_rule d) i = absurd (zero_one (cc))
    go (is_branch {first = first} {ts = us} l) i = let j : us ≡ ts = cc in subst (λ (vs : Children). IsChild rs ns s (child_for s vs) (seek (length ns) ns first s)) j (seek_finds ns s rs (length ns) l (linked_before l))
