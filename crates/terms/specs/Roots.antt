-- What a term begins with, and its letter under a signature. Assumes nothing.
use Rattle.std.specs.Prelude.{◌≡◌, ℕ, zero, suc, ◌^◌, ◌<◌, Bool, true, false, List, [], length, Some, None, Option, option_map}
use Rattle.std.specs.List.{slice_get}
use Rattle.terms.specs.declared.letter.Letter.{Letter}
use Rattle.terms.specs.declared.letter.Letter.TheVariants.{Cell, Symbol, Variable}
use Rattle.terms.specs.declared.signature.Role.{Role}
use Rattle.terms.specs.declared.signature.Role.TheVariants.{Constructor, Function, Operation}
use Rattle.terms.specs.Terms.{Head, cell, symbol, Fn, plus, minus, atmost, own, Term, var, con, fun, Terms}
use Rattle.terms.specs.Options.{onward}
use Rattle.terms.specs.Letters.{letter_of, number_of}
use Rattle.terms.specs.Signatures.{Declaration, Signature}

-- what a term begins with
pub data Root : Type 0 where
  variable : ℕ → Root
  head : Head → Root
  call : Fn → Root

-- the term of a root over its arguments
abbrev pub make : Root → Terms → Term
make (variable v) ts = var v
make (head c) ts = con c ts
make (call f) ts = fun f ts

-- a function's symbol, and the function of a symbol
abbrev pub fn_number : Fn → ℕ
fn_number plus = 0
fn_number minus = 1
fn_number atmost = 2
fn_number (own f) = f

-- the function of a symbol
abbrev pub fn_of : ℕ → Fn
fn_of zero = plus
fn_of (suc zero) = minus
fn_of (suc (suc zero)) = atmost
fn_of (suc (suc (suc n))) = own (suc (suc (suc n)))

-- the letter of a root, and its number
abbrev pub letter : Root → Letter
letter (variable v) = Variable v
letter (head (cell n)) = Cell n
letter (head (symbol s)) = Symbol s
letter (call f) = Symbol (fn_number f)

-- the number of a root
abbrev pub number : Root → ℕ
number r = number_of (letter r)

-- whether a role is that of a constructor
abbrev pub is_constructor : Role → Bool
is_constructor Constructor = true
is_constructor Function = false
is_constructor Operation = false

-- the symbol s is declared, as a constructor or not
abbrev pub Declared : Signature → ℕ → Bool → Type 0
Declared S s b = (d : Declaration) × (slice_get S.symbols s ≡ Some d) × (is_constructor d.role ≡ b) × (s < 96)

-- a root that has a letter: a variable, a cell, a declared constructor, a declared function
abbrev pub Stands : Signature → Root → Type 0
Stands S (variable v) = v < 8
Stands S (head (cell n)) = n < 2 ^ 32
Stands S (head (symbol s)) = Declared S s true
Stands S (call f) = Declared S (fn_number f) false × (fn_of (fn_number f) ≡ f)

-- the root of the symbol s, declared as a constructor or not
abbrev pub symbol_root : ℕ → Bool → Root
symbol_root s true = head (symbol s)
symbol_root s false = call (fn_of s)

-- the root that a letter is under a signature; an undeclared symbol is none
abbrev pub letter_root : Signature → Letter → Option Root
letter_root S (Cell n) = Some (head (cell n))
letter_root S (Symbol s) = option_map (λ d. symbol_root s (is_constructor d.role)) (slice_get S.symbols s)
letter_root S (Variable v) = Some (variable v)

-- the root that a number is
abbrev pub root_of : Signature → ℕ → Option Root
root_of S x = onward (letter_of x) (letter_root S)

-- the role of a letter; cells, variables and undeclared symbols have none
abbrev pub letter_role : Signature → Letter → Option Role
letter_role S (Cell n) = None
letter_role S (Symbol s) = option_map (λ d. d.role) (slice_get S.symbols s)
letter_role S (Variable v) = None

-- the role of a number
abbrev pub role_of : Signature → ℕ → Option Role
role_of S x = onward (letter_of x) (letter_role S)

-- the sorts due for the arguments; cells and variables have none
abbrev pub args_in : Option Declaration → List ℕ
args_in None = []
args_in (Some d) = d.args

-- the sorts due for the arguments of a constructor; a cell has none
abbrev pub head_args : Signature → Head → List ℕ
head_args S (cell n) = []
head_args S (symbol s) = args_in (slice_get S.symbols s)

-- of a function
abbrev pub fn_args : Signature → Fn → List ℕ
fn_args S f = args_in (slice_get S.symbols (fn_number f))

-- of any root
abbrev pub root_args : Signature → Root → List ℕ
root_args S (variable v) = []
root_args S (head c) = head_args S c
root_args S (call f) = fn_args S f

-- of a letter: the sorts due after it, and their number; what is no letter of the signature has neither
abbrev pub args_of : Signature → ℕ → Option (List ℕ)
args_of S x = option_map (root_args S) (root_of S x)

-- how many arguments a number takes
abbrev pub arity : Signature → ℕ → Option ℕ
arity S x = option_map length (args_of S x)
