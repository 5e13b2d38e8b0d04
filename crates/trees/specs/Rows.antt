-- Rules that a mask leaves, and the symbols that they have at a position. Assumes nothing.
use Rattle.std.specs.Prelude.{◌≡◌, ℕ, ◌+◌, Bool, true, false, cond, ◌||◌, List, [], ◌∷◌, ◌++◌, drop, Some, None, Option, nat_eq}
use Rattle.std.specs.List.{slice_get}
use Rattle.terms.specs.declared.letter.Letter.{Letter}
use Rattle.terms.specs.declared.letter.Letter.TheVariants.{Cell, Symbol, Variable}
use Rattle.terms.specs.Terms.{Head, cell, symbol}
use Rattle.terms.specs.Options.{onward, passes}
use Rattle.terms.specs.Signatures.{Signature}
use Rattle.terms.specs.Roots.{Root, variable, head, call, root_of}
use Rattle.words.specs.Places.{part_at}
use Rattle.rewriting.specs.Rules.{Rule}
use Rattle.rewriting.specs.FixedTree.{constructor_at}

-- a constructor's symbol; a cell has none
abbrev pub head_symbol : Head → Option ℕ
head_symbol (cell n) = None
head_symbol (symbol s) = Some s

-- the letter that a word has at a position
abbrev pub letter_in : Signature → List ℕ → List ℕ → Option ℕ
letter_in S p w = onward (part_at S p w) (λ q. slice_get w q.start)

-- the symbol of a root that is a constructor's
abbrev pub root_symbol : Root → Option ℕ
root_symbol (variable v) = None
root_symbol (head c) = head_symbol c
root_symbol (call f) = None

-- the symbol of a constructor's letter
abbrev pub constructor_symbol : Signature → ℕ → Option ℕ
constructor_symbol S x = onward (root_of S x) root_symbol

-- whether a letter is a variable
abbrev pub variable_letter : Option Letter → Bool
variable_letter None = false
variable_letter (Some (Cell n)) = false
variable_letter (Some (Symbol s)) = false
variable_letter (Some (Variable v)) = true

-- those of some rules that a mask leaves
abbrev pub chosen : List Bool → List Rule → List Rule
chosen [] rs = []
chosen (b ∷ bs) [] = []
chosen (b ∷ bs) (r ∷ rs) = cond b (r ∷ chosen bs rs) (chosen bs rs)

-- the symbol of the constructor that a rule's left side has at a position
abbrev pub symbol_at : List ℕ → Rule → Option ℕ
symbol_at p r = onward (constructor_at p r) head_symbol

-- place by place, the symbol that a rule which the mask leaves has at a position; elsewhere none
abbrev pub heads_at : List ℕ → List Bool → List Rule → List (Option ℕ)
heads_at p [] rs = []
heads_at p (b ∷ bs) [] = None ∷ heads_at p bs []
heads_at p (b ∷ bs) (r ∷ rs) = cond b (symbol_at p r) None ∷ heads_at p bs rs

-- whether a place has this symbol
abbrev pub is_head : ℕ → Option ℕ → Bool
is_head s h = passes (nat_eq s) h

-- whether some place has it
abbrev pub is_met : ℕ → List (Option ℕ) → Bool
is_met s [] = false
is_met s (h ∷ hs) = is_head s h || is_met s hs

-- the symbol of a place, unless an earlier place has it
abbrev pub new_head : List (Option ℕ) → Option ℕ → Option ℕ
new_head before None = None
new_head before (Some s) = cond (is_met s before) None (Some s)

-- one more in front, if it is there
abbrev pub put : {A : Type 0} → Option A → List A → List A
put None xs = xs
put (Some x) xs = x ∷ xs

-- the symbols of some places, each once, in the order in which they are met; but for those of earlier places
abbrev pub new_heads : List (Option ℕ) → List (Option ℕ) → List ℕ
new_heads before [] = []
new_heads before (h ∷ hs) = put (new_head before h) (new_heads (before ++ (h ∷ [])) hs)

-- the constructors of some places
abbrev pub there : List (Option ℕ) → List Head
there [] = []
there (None ∷ hs) = there hs
there (Some s ∷ hs) = symbol s ∷ there hs

-- the answer is the place of the rule, and none where there is no rule
abbrev pub IsPlace : List Rule → Option Rule → Option ℕ → Type 0
IsPlace rs None k = k ≡ None
IsPlace rs (Some r) k = (i : ℕ) × (k ≡ Some i) × (slice_get rs i ≡ Some r)

-- the answer is the first place from i on that the mask leaves, and none where it leaves no rule
abbrev pub IsNext : List Bool → List Rule → ℕ → Option ℕ → Type 0
IsNext bs rs i None = chosen (drop i bs) (drop i rs) ≡ []
IsNext bs rs i (Some k) = (r : Rule) × (slice_get rs k ≡ Some r) × (chosen (drop i bs) (drop i rs) ≡ r ∷ chosen (drop (k + 1) bs) (drop (k + 1) rs))
