-- The word of a term, and the term of a word. Assumes nothing.
use Rattle.std.specs.Prelude.{◌≡◌, ℕ, zero, suc, cond, List, [], ◌∷◌, ◌++◌, length, Some, None, Option, nat_le}
use Rattle.terms.specs.Terms.{Term, var, con, fun, Terms, nil, ◌▸◌, count}
use Rattle.terms.specs.Options.{onward}
use Rattle.terms.specs.Signatures.{Signature}
use Rattle.terms.specs.Roots.{Root, variable, head, call, make, number, Stands, root_args, root_of}

-- its first letter, then the words of its arguments
abbrev mutual
  pub word : Term → List ℕ
  word (var v) = number (variable v) ∷ []
  word (con c ts) = number (head c) ∷ words ts
  word (fun f ts) = number (call f) ∷ words ts

  pub words : Terms → List ℕ
  words nil = []
  words (t ▸ ts) = word t ++ words ts

-- every root has a letter and its number of arguments
abbrev mutual
  pub Fits : Signature → Term → Type 0
  Fits S (var v) = Stands S (variable v)
  Fits S (con c ts) = Stands S (head c) × (count ts ≡ length (root_args S (head c))) × AllFit S ts
  Fits S (fun f ts) = Stands S (call f) × (count ts ≡ length (root_args S (call f))) × AllFit S ts

  pub AllFit : Signature → Terms → Type 0
  AllFit S nil = Unit {0}
  AllFit S (t ▸ ts) = Fits S t × AllFit S ts

-- the first n terms, and those after them
abbrev pub front : ℕ → Terms → Terms
front zero ts = nil
front (suc n) nil = nil
front (suc n) (t ▸ ts) = t ▸ front n ts

-- and those after them
abbrev pub rest : ℕ → Terms → Terms
rest zero ts = ts
rest (suc n) nil = nil
rest (suc n) (t ▸ ts) = rest n ts

-- a root before terms in a row takes as many of them as it has arguments
abbrev pub push : Signature → Root → Terms → Option Terms
push S r ts = let n = length (root_args S r) in cond (nat_le n (count ts)) (Some (make r (front n ts) ▸ rest n ts)) None

-- the terms in a row that a word is, read from its end
abbrev pub read_row : Signature → List ℕ → Option Terms
read_row S [] = Some nil
read_row S (x ∷ w) = onward (read_row S w) (λ ts. onward (root_of S x) (λ r. push S r ts))

-- the only one of them
abbrev pub sole : Terms → Option Term
sole nil = None
sole (t ▸ nil) = Some t
sole (t ▸ u ▸ ts) = None

-- the term that a word is
abbrev pub read : Signature → List ℕ → Option Term
read S w = onward (read_row S w) sole
