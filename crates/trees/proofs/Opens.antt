-- Open positions in their array.
use Rattle.std.proofs.Common.{◌≡◌, ℕ, zero, suc, ◌+◌, ◌-◌, ◌<◌, ◌≤◌, Bool, cond, List, [], ◌∷◌, ◌++◌, map, length, get_or, drop, sym, refl, ap, ◌∙◌, append_assoc, arith}
use Rattle.std.specs.Str.{bytes_eq}
use Rattle.std.proofs.lemmas.List.{length-append, at_drop_more}
use Rattle.rewriting.specs.Growing.{below, opened}
use Rattle.trees.specs.declared.path.Path.{Path}
use Rattle.trees.specs.Views.{steps_of}

pub length_below : (p : List ℕ) (i m : ℕ) → length (below p i m) ≡ m
length_below p i zero = refl
length_below p i (suc m) = ap suc (length_below p (suc i) m)

-- the first of the arguments below, and those that are left
pub below_more : (p : List ℕ) (i m : ℕ) → 0 < m → below p i m ≡ (p ++ (i ∷ [])) ∷ below p (suc i) (m - 1)
below_more p i zero h = absurd (omega arith)
below_more p i (suc m) h = let e : suc m - 1 ≡ m = omega arith in ap (λ (n : ℕ). (p ++ (i ∷ [])) ∷ below p (suc i) n) (sym e)

-- one argument below is pushed
pub pushed_below : (ps qs os : List (List ℕ)) (p : List ℕ) (i m : ℕ) → i < m → os ++ below p (suc i) (m - i) ≡ qs → ps ≡ os ++ ((p ++ ((i + 1) ∷ [])) ∷ []) → ps ++ below p (suc (i + 1)) (m - (i + 1)) ≡ qs
pushed_below ps qs os p i m h e f =
    let n : m - (i + 1) ≡ (m - i) - 1 = omega arith in
    let s : suc i ≡ i + 1 = omega arith in
    ap (λ (zs : List (List ℕ)). zs ++ below p (suc (i + 1)) (m - (i + 1))) f
    ∙ append_assoc os ((p ++ ((i + 1) ∷ [])) ∷ []) (below p (suc (i + 1)) (m - (i + 1)))
    ∙ ap (λ (k : ℕ). os ++ ((p ++ ((i + 1) ∷ [])) ∷ below p (suc (i + 1)) k)) n
    ∙ ap (λ (j : ℕ). os ++ ((p ++ (j ∷ [])) ∷ below p (suc j) ((m - i) - 1))) (sym s)
    ∙ ap (λ (zs : List (List ℕ)). os ++ zs) (sym (below_more p (suc i) (m - i) (omega arith)))
    ∙ e

-- what is pushed has room
pub room_below : (os qs : List (List ℕ)) (p : List ℕ) (i m : ℕ) → i < m → os ++ below p (suc i) (m - i) ≡ qs ++ below p 1 m → length os < length qs + m
room_below os qs p i m h e =
    let a = ap length e in
    let b = length-append os (below p (suc i) (m - i)) in
    let c = length-append qs (below p 1 m) in
    let d = length_below p (suc i) (m - i) in
    let f = length_below p 1 m in
    omega arith

-- the open positions that are left, one step on: whether it is the position that is opened
pub opened_more : (ds : List Path) (i : ℕ) (d : Path) (p : List ℕ) (m : ℕ) (same : Bool) → i < length ds → same ≡ bytes_eq (steps_of (get_or ds i d)) p
    → opened (map steps_of (drop i ds)) p m ≡ cond same (below p 1 m) (steps_of (get_or ds i d) ∷ []) ++ opened (map steps_of (drop (i + 1) ds)) p m
opened_more ds i d p m same h e =
    let x = steps_of (get_or ds i d) in
    at_drop_more (λ (qs : List Path). opened (map steps_of qs) p m) ds i d h
    ∙ ap (λ (t : Bool). cond t (below p 1 m) (x ∷ []) ++ opened (map steps_of (drop (i + 1) ds)) p m) (sym e)

-- and has room
pub opened_room : (os more rest ps qs : List (List ℕ)) → os ++ ps ≡ qs → ps ≡ more ++ rest → length os + length more ≤ length qs
opened_room os more rest ps qs e f =
    let a = ap length e in
    let b = ap length f in
    let c = length-append os ps in
    let d = length-append more rest in
    omega arith
