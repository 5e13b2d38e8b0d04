-- What the rules that remain pay: each rule goes to one child at most, and pays one less there.
use Rattle.std.proofs.Common.{◌≡◌, ℕ, suc, ◌+◌, ◌-◌, ◌<◌, ◌≤◌, false, List, [], ◌∷◌, length, refl, ap, subst, arith, filter}
use mathlib.Core.List.{Memᴰ}
use Rattle.std.proofs.lemmas.Bool.{cond_both}
use Rattle.terms.specs.Terms.{Head}
use Rattle.rewriting.specs.Rules.{Rule, left_side, Different}
use Rattle.rewriting.specs.FixedTree.{has_at, size}
use Rattle.rewriting.specs.Growing.{paid, paid_under}
use Rattle.rewriting.proofs.Deals.{has_constructor, constructor_not}

-- a rule pays its part
pub mem_paid : (most n : ℕ) {r : Rule} {rs : List Rule} → Memᴰ r rs → size (left_side r) + n - most ≤ paid most n rs
mem_paid most n (Memᴰ.head e) = let h = ap (λ (q : Rule). size (left_side q) + n - most) e in omega arith
mem_paid most n (Memᴰ.tail m) = let h = mem_paid most n m in omega arith

-- with one branch fewer each rule that pays for a node pays one less
paid_less : (most m : ℕ) (rs : List Rule) → ((r : Rule) → Memᴰ r rs → most < size (left_side r) + suc m) → paid most m rs + length rs ≤ paid most (suc m) rs
paid_less most m [] h = omega arith
paid_less most m (r ∷ rs) h =
    let a = h r (Memᴰ.head refl) in
    let b = paid_less most m rs (λ q l. h q (Memᴰ.tail l)) in
    omega arith

some_length : {r : Rule} {rs : List Rule} → Memᴰ r rs → 1 ≤ length rs
some_length (Memᴰ.head e) = omega arith
some_length (Memᴰ.tail m) = omega arith

module _ (most m : ℕ) (p : List ℕ) where
  under_none : (cs : List Head) → paid_under most m p [] cs ≡ 0
  under_none [] = refl
  under_none (c ∷ cs) = let h = under_none cs in omega arith

  -- a rule that has none of some constructors pays under none of them
  under_other : (r : Rule) (rs : List Rule) (cs : List Head) → ((c : Head) → Memᴰ c cs → has_at p c r ≡ false) → paid_under most m p (r ∷ rs) cs ≡ paid_under most m p rs cs
  under_other r rs [] h = refl
  under_other r rs (c ∷ cs) h = rw (h c (Memᴰ.head refl)) (ap (λ (k : ℕ). paid most m (filter (has_at p c) rs) + k) (under_other r rs cs (λ d n. h d (Memᴰ.tail n))))

  -- and else under one alone
  under_once : (r : Rule) (rs : List Rule) (cs : List Head) → Different cs → paid_under most m p (r ∷ rs) cs ≤ (size (left_side r) + m - most) + paid_under most m p rs cs
  under_once r rs [] d = omega arith
  under_once r rs (c ∷ cs) d =
      let h = under_once r rs cs d.1 in
      cond_both (has_at p c r) (r ∷ filter (has_at p c) rs) (filter (has_at p c) rs)
      (λ (qs : List Rule). paid most m qs + paid_under most m p (r ∷ rs) cs ≤ (size (left_side r) + m - most) + (paid most m (filter (has_at p c) rs) + paid_under most m p rs cs))
      (λ e. let a = under_other r rs cs (λ z l. constructor_not p z c r (has_constructor p c r e) (λ i. d.0 (subst (λ (y : Head). Memᴰ y cs) i l))) in omega arith)
      (λ e. omega arith)

  under_all : (rs : List Rule) (cs : List Head) → Different cs → paid_under most m p rs cs ≤ paid most m rs
  under_all [] cs d = let h = under_none cs in omega arith
  under_all (r ∷ rs) cs d = let a = under_once r rs cs d in let b = under_all rs cs d in omega arith

  -- what is paid suffices for a node and all of its children
  pub paid_children : (rs : List Rule) (cs : List Head) → Different cs → ((r : Rule) → Memᴰ r rs → most < size (left_side r) + suc m) → (r : Rule) → Memᴰ r rs
      → suc (paid_under most m p rs cs) ≤ paid most (suc m) rs
  paid_children rs cs d h r l = let a = under_all rs cs d in let b = paid_less most m rs h in let k = some_length l in omega arith
