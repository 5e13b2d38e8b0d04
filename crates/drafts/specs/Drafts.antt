-- What a draft is. Assumes nothing.
use Rattle.std.specs.Prelude.{ℕ, suc, ◌+◌, cond, List, [], ◌∷◌, ◌++◌, length, replicate, Option, nat_lt}
use Rattle.std.specs.List.{slice_get}
use Rattle.terms.specs.Signatures.{Signature, built_in}

-- a rule as it was given: the words of its sides
pub record Sides : Type 0 where
  pub left : List ℕ
  pub right : List ℕ

-- the sides that two words are
abbrev pub sides : List ℕ → List ℕ → Sides
sides l r = record { left = l; right = r }

-- the sorts and symbols; how many rules each symbol promises, 0 where it is no function; the rules
pub record Draft : Type 0 where
  pub signature : Signature
  pub promised : List ℕ
  pub rules : List Sides

-- the empty draft: what is built in
abbrev pub empty : Draft
empty = record { signature = built_in; promised = 0 ∷ 0 ∷ 0 ∷ 0 ∷ 0 ∷ []; rules = [] }

-- each symbol from s on as many times as it promises rules: the functions in the order in which their rules come
abbrev pub in_turn : ℕ → List ℕ → List ℕ
in_turn s [] = []
in_turn s (p ∷ ps) = replicate p s ++ in_turn (suc s) ps

-- the function whose rule comes next
abbrev pub awaited : Draft → Option ℕ
awaited D = slice_get (in_turn 0 D.promised) (length D.rules)

-- the sum of some numbers
abbrev pub total : List ℕ → ℕ
total [] = 0
total (n ∷ ns) = n + total ns

-- how many functions there are: the symbols that promise rules
abbrev pub functions_in : List ℕ → ℕ
functions_in [] = 0
functions_in (p ∷ ps) = cond (nat_lt 0 p) 1 0 + functions_in ps

-- how many letters some rules have, both sides together
abbrev pub letters_in : List Sides → ℕ
letters_in [] = 0
letters_in (r ∷ rs) = length r.left + length r.right + letters_in rs

-- a draft has no more rules than this
abbrev pub most_rules : ℕ
most_rules = 96

-- a side has no more letters than this
abbrev pub longest_side : ℕ
longest_side = 64

-- all rules together have no more letters than this
abbrev pub most_letters : ℕ
most_letters = 1024
