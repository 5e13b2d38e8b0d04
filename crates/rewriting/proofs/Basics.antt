-- Answers that may be missing, tests, and equal heads.
use Rattle.std.proofs.Common.{◌≡◌, true, Some, None, Option, refl, ap, option_map, eqb-true, eq-eqb, List, ◌∷◌, false}
use mathlib.Core.List.{Memᴰ}
use Rattle.terms.specs.Terms.{Head, cell, symbol, Fn, plus, minus, atmost, own}
use Rattle.terms.specs.Options.{onward}
use Rattle.rewriting.specs.FixedTree.{same_head, same_fn}

pub onward_some : {X Y : Type 0} (o : Option X) (g : X → Option Y) {y : Y} → onward o g ≡ Some y → (x : X) × (o ≡ Some x) × (g x ≡ Some y)
onward_some None g e = absurd (cc)
onward_some (Some x) g e = (x, refl, e)

pub mapped_some : {X Y : Type 0} (g : X → Y) (o : Option X) {y : Y} → option_map g o ≡ Some y → (x : X) × (o ≡ Some x) × (g x ≡ y)
mapped_some g None e = absurd (cc)
mapped_some g (Some x) e = (x, refl, cc)

pub same_head_same : (c : Head) → same_head c c ≡ true
same_head_same (cell n) = eq-eqb n n refl
same_head_same (symbol s) = eq-eqb s s refl

pub same_head_true : (c d : Head) → same_head c d ≡ true → c ≡ d
same_head_true (cell m) (cell n) e = ap cell (eqb-true m n e)
same_head_true (symbol s) (symbol z) e = ap symbol (eqb-true s z e)
same_head_true c d e = absurd (cc)

pub same_fn_true : (f g : Fn) → same_fn f g ≡ true → f ≡ g
same_fn_true plus plus e = refl
same_fn_true minus minus e = refl
same_fn_true atmost atmost e = refl
same_fn_true (own f) (own g) e = ap own (eqb-true f g e)
same_fn_true f g e = absurd (cc)

-- a member that is not the first stands further on
pub mem_other : {c d : Head} {cs : List Head} → same_head c d ≡ false → Memᴰ c (d ∷ cs) → Memᴰ c cs
mem_other {c} q (Memᴰ.head i) = absurd (let u = ap (same_head c) i in let v = same_head_same c in cc)
mem_other q (Memᴰ.tail k) = k
