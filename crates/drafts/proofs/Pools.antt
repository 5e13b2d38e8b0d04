-- Spans in the pool of letters.
use Rattle.std.proofs.Common.{◌≡◌, ℕ, ◌+◌, ◌≤◌, true, eqb, List, [], ◌∷◌, ◌++◌, map, length, take, drop, sym, refl, ap, ◌∙◌, ap₂, arith}
use Rattle.std.proofs.lemmas.List.{drop-take, take-take, drop_at, take_all, take-append-le, append_assoc, length-append, length-take-le, length-drop}
use Rattle.std.proofs.lemmas.Bool.{and_parts, and_from, eqb-true, eq-eqb}
use Rattle.drafts.specs.declared.span.Span.{Span}
use Rattle.drafts.specs.Drafts.{Sides, sides, letters_in}
use Rattle.drafts.specs.Views.{sides_of, in_a_row}

pub row_ends : (n m : ℕ) (ss : List Span) → in_a_row n ss m ≡ true → n ≤ m
row_ends n m [] h = let e = eqb-true n m h in omega arith
row_ends n m (s ∷ ss) h =
    let p = and_parts (eqb s.start n) (in_a_row (n + (s.left + s.right)) ss m) h in
    let i = row_ends (n + (s.left + s.right)) m ss p.1 in
    omega arith

pub row_push : (n m k : ℕ) (ss : List Span) (s : Span) → in_a_row n ss m ≡ true → s.start ≡ m → m + (s.left + s.right) ≡ k → in_a_row n (ss ++ (s ∷ [])) k ≡ true
row_push n m k [] s h e f =
    let q = eqb-true n m h in
    and_from (eqb s.start n) (eqb (n + (s.left + s.right)) k) (eq-eqb s.start n (omega arith)) (eq-eqb (n + (s.left + s.right)) k (omega arith))
row_push n m k (r ∷ ss) s h e f =
    let p = and_parts (eqb r.start n) (in_a_row (n + (r.left + r.right)) ss m) h in
    and_from (eqb r.start n) (in_a_row (n + (r.left + r.right)) (ss ++ (s ∷ [])) k) p.0 (row_push (n + (r.left + r.right)) m k ss s p.1 e f)

length_part : (ls : List ℕ) (a b : ℕ) → b + a ≤ length ls → length (take a (drop b ls)) ≡ a
length_part ls a b h = length-take-le a (drop b ls) (let d = length-drop b ls in omega arith)

-- the letters of all rules fill the pool up to its count
pub row_letters : (ls : List ℕ) (n m : ℕ) (ss : List Span) → in_a_row n ss m ≡ true → m ≤ length ls → n + letters_in (map (sides_of ls) ss) ≡ m
row_letters ls n m [] h l = let e = eqb-true n m h in omega arith
row_letters ls n m (s ∷ ss) h l =
    let p = and_parts (eqb s.start n) (in_a_row (n + (s.left + s.right)) ss m) h in
    let e = eqb-true s.start n p.0 in
    let i = row_letters ls (n + (s.left + s.right)) m ss p.1 l in
    let k = row_ends (n + (s.left + s.right)) m ss p.1 in
    let a = length_part ls s.left s.start (omega arith) in
    let b = length_part ls s.right (s.start + s.left) (omega arith) in
    omega arith

-- parts below a place up to which two lists are the same
part_same : (xs ys : List ℕ) (a b n : ℕ) → take n xs ≡ take n ys → b + a ≤ n → take a (drop b xs) ≡ take a (drop b ys)
part_same xs ys a b n e h =
    sym (drop-take b a xs)
    ∙ ap (drop b) (sym (take-take (b + a) n xs h) ∙ ap (take (b + a)) e ∙ take-take (b + a) n ys h)
    ∙ drop-take b a ys

pub rules_same : (xs ys : List ℕ) (n m k : ℕ) (ss : List Span) → take m xs ≡ take m ys → in_a_row n ss m ≡ true → map (sides_of xs) ss ≡ map (sides_of ys) ss
rules_same xs ys n m k [] e h = refl
rules_same xs ys n m k (s ∷ ss) e h =
    let p = and_parts (eqb s.start n) (in_a_row (n + (s.left + s.right)) ss m) h in
    let q = eqb-true s.start n p.0 in
    let i = row_ends (n + (s.left + s.right)) m ss p.1 in
    ap₂ (λ (r : Sides) (rs : List Sides). r ∷ rs)
    (ap₂ sides (part_same xs ys s.left s.start m e (omega arith)) (part_same xs ys s.right (s.start + s.left) m e (omega arith)))
    (rules_same xs ys (n + (s.left + s.right)) m k ss e p.1)

-- two words at the end of a pool
module _ (ls l r : List ℕ) where
  pub laid_below : take (length ls) (ls ++ (l ++ r)) ≡ take (length ls) ls
  laid_below = take-append-le (length ls) ls (l ++ r) (omega arith)

  pub laid_left : take (length l) (drop (length ls) (ls ++ (l ++ r))) ≡ l
  laid_left = ap (take (length l)) (drop_at ls (l ++ r) (length ls) refl) ∙ take-append-le (length l) l r (omega arith) ∙ take_all (length l) l (omega arith)

  pub laid_right : take (length r) (drop (length ls + length l) (ls ++ (l ++ r))) ≡ r
  laid_right =
      ap (λ (w : List ℕ). take (length r) (drop (length ls + length l) w)) (sym (append_assoc ls l r))
      ∙ ap (take (length r)) (drop_at (ls ++ l) r (length ls + length l) (length-append ls l))
      ∙ take_all (length r) r (omega arith)
