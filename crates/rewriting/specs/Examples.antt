-- Small books, and what φ and the fixed tree make of them. Assumes nothing.
use Rattle.std.specs.Prelude.{◌≡◌, ℕ, ◌+◌, ◌-◌, true, false, leb, ◌⊎◌, List, [], ◌∷◌, ◌++◌, Some, None, codes, Option, option_map}
use Rattle.numbers.specs.Meaning.{Meaning, Sound}
use Rattle.terms.specs.declared.signature.Role.TheVariants.{Constructor, Function}
use Rattle.terms.specs.Terms.{Head, symbol, plus, own, Term, var, con, fun, nil, ◌▸◌, Value}
use Rattle.terms.specs.Signatures.{Declaration, Signature, built_in}
use Rattle.terms.specs.Sorting.{Environment, Sorted, closed}
use Rattle.rewriting.specs.Rules.{Rule, Book}
use Rattle.rewriting.specs.Steps.{by_rule, by_kind, number, truth, StepAt, Step, Steps}
use Rattle.rewriting.specs.Trees.{Node, at_rule, branch, Nodes, no_child, child, TreeFor, CompleteFor}
use Rattle.rewriting.specs.FixedTree.{fixed_tree}
use Rattle.rewriting.specs.Strategy.{Move, φ, after}
use Rattle.rewriting.specs.Promises.{Ground}

-- after the built-in symbols: zero is 5, up 6 and meet 7, all of the sort 2; then more functions, which begin at 8
abbrev pub levels : List Declaration → Signature
levels ds = record {
  sorts = built_in.sorts ++ (codes "level" ∷ []);
  symbols =
      built_in.symbols
      ++ (record { name = codes "zero"; role = Constructor; args = []; sort = 2 }
      ∷ record { name = codes "up"; role = Constructor; args = 2 ∷ []; sort = 2 }
      ∷ record { name = codes "meet"; role = Function; args = 2 ∷ 2 ∷ []; sort = 2 }
      ∷ ds);
}

-- pick is 8, either 9, half 10, loop 11
abbrev pub four_more : List Declaration
four_more =
    record { name = codes "pick"; role = Function; args = 1 ∷ 1 ∷ []; sort = 1 }
    ∷ record { name = codes "either"; role = Function; args = 1 ∷ 1 ∷ []; sort = 1 }
    ∷ record { name = codes "half"; role = Function; args = 2 ∷ []; sort = 2 }
    ∷ record { name = codes "loop"; role = Function; args = []; sort = 2 }
    ∷ []

-- the terms that the rules are written with: zero
abbrev pub level_zero : Term
level_zero = con (symbol 5) nil

-- up over a term
abbrev pub up : Term → Term
up t = con (symbol 6) (t ▸ nil)

-- meet of two terms
abbrev pub meet : Term → Term → Term
meet a b = fun (own 7) (a ▸ b ▸ nil)

-- half of a term
abbrev pub half : Term → Term
half a = fun (own 10) (a ▸ nil)

-- loop, which has no arguments
abbrev pub loop : Term
loop = fun (own 11) nil

-- true
abbrev pub true_term : Term
true_term = truth true

-- false
abbrev pub false_term : Term
false_term = truth false

-- a rule for a function of one argument
abbrev pub one_rule : ℕ → Term → Term → Rule
one_rule f a r = record { function = f; left = a ▸ nil; right = r }

-- a rule for a function of two arguments
abbrev pub two_rule : ℕ → Term → Term → Term → Rule
two_rule f a b r = record { function = f; left = a ▸ b ▸ nil; right = r }

-- meet(zero, Y) = zero; meet(up(X), zero) = zero; meet(up(X), up(Y)) = up(meet(X, Y))
abbrev pub meet_1 : Rule
meet_1 = two_rule 7 level_zero (var 1) level_zero

abbrev pub meet_2 : Rule
meet_2 = two_rule 7 (up (var 0)) level_zero level_zero

abbrev pub meet_3 : Rule
meet_3 = two_rule 7 (up (var 0)) (up (var 1)) (up (meet (var 0) (var 1)))

-- a book over all of these symbols
abbrev pub book : List Rule → Book
book rs = record { signature = levels four_more; rules = rs }

-- meet alone
abbrev pub meet_book : Book
meet_book = record { signature = levels []; rules = meet_1 ∷ meet_2 ∷ meet_3 ∷ [] }

-- two children
abbrev pub two : Head → Node → Head → Node → Nodes
two c m d n = child c m (child d n no_child)

-- meet's tree: at 1, and under up at 2
abbrev pub meet_tree : Node
meet_tree = branch (1 ∷ []) (two (symbol 5) (at_rule meet_1) (symbol 6) (branch (2 ∷ []) (two (symbol 5) (at_rule meet_2) (symbol 6) (at_rule meet_3))))

-- pick(A, true) = A; pick(true, false) = false; pick(false, false) = true
abbrev pub pick_1 : Rule
pick_1 = two_rule 8 (var 0) true_term (var 0)

abbrev pub pick_2 : Rule
pick_2 = two_rule 8 true_term false_term false_term

abbrev pub pick_3 : Rule
pick_3 = two_rule 8 false_term false_term true_term

-- either(true, A) = true; either(A, true) = true; either(false, false) = false
abbrev pub either_1 : Rule
either_1 = two_rule 9 true_term (var 0) true_term

abbrev pub either_2 : Rule
either_2 = two_rule 9 (var 0) true_term true_term

abbrev pub either_3 : Rule
either_3 = two_rule 9 false_term false_term false_term

-- either alone has rules
abbrev pub either_book : Book
either_book = book (either_1 ∷ either_2 ∷ either_3 ∷ [])

-- half(zero) = zero; half(up(up(A))) = up(half(A))
abbrev pub half_1 : Rule
half_1 = one_rule 10 level_zero level_zero

abbrev pub half_2 : Rule
half_2 = one_rule 10 (up (up (var 0))) (up (half (var 0)))

-- meet with loop = loop
abbrev pub loop_book : Book
loop_book = book (meet_1 ∷ meet_2 ∷ meet_3 ∷ record { function = 11; left = nil; right = loop } ∷ [])

-- a number kind without bounds
abbrev pub plain : Meaning
plain = record { lawful = λ n. true; plus = ◌+◌; minus = ◌-◌; atmost = leb; rest = 0 }

-- half's tree: at 1, and under up below it
abbrev pub half_tree : Node
half_tree = branch (1 ∷ []) (two (symbol 5) (at_rule half_1) (symbol 6) (branch (1 ∷ 1 ∷ []) (child (symbol 6) (at_rule half_2) no_child)))

-- half alone has rules
abbrev pub half_book : Book
half_book = book (half_1 ∷ half_2 ∷ [])

-- the position of φ's next step
abbrev pub next_position : Book → Term → Option (List ℕ)
next_position B t = option_map (λ (m : Move). m.position) (φ plain B t)

-- What is computed.
pub record Worked : Type 0 where
  -- meet branches at 1, and under up at 2
  pub meet_built : fixed_tree meet_book 7 ≡ Some meet_tree
  -- pick branches at 2
  pub pick_tree : fixed_tree (book (pick_1 ∷ pick_2 ∷ pick_3 ∷ [])) 8
      ≡ Some (branch (2 ∷ []) (two (symbol 3) (at_rule pick_1) (symbol 4) (branch (1 ∷ []) (two (symbol 3) (at_rule pick_2) (symbol 4) (at_rule pick_3)))))
  -- for either none is built
  pub either_not : fixed_tree either_book 9 ≡ None
  -- half branches at 1, and under up below it
  pub half_built : fixed_tree half_book 10 ≡ Some half_tree
  -- meet(meet(zero, zero), up(zero)) steps at 1, then at the root
  pub inner_first : φ plain meet_book (meet (meet level_zero level_zero) (up level_zero)) ≡ Some (record { position = 1 ∷ []; cause = by_rule meet_1; next = meet level_zero (up level_zero) })
  pub root_then : φ plain meet_book (meet level_zero (up level_zero)) ≡ Some (record { position = []; cause = by_rule meet_1; next = level_zero })
  -- under constructors, and inside an argument that the tree asks for
  pub under_up : next_position meet_book (up (meet (up (up level_zero)) (up (meet level_zero level_zero)))) ≡ Some (1 ∷ [])
  pub asked_for : next_position meet_book (meet (up level_zero) (meet (meet level_zero level_zero) level_zero)) ≡ Some (2 ∷ 1 ∷ [])
  -- numbers are added by the number kind
  pub adds : φ plain meet_book (fun plus (number 2 ▸ fun plus (number 3 ▸ number 4 ▸ nil) ▸ nil))
      ≡ Some (record { position = 2 ∷ []; cause = by_kind; next = fun plus (number 2 ▸ number 7 ▸ nil) })
  -- meet(zero, loop) has value zero after one step, while loop steps to itself
  pub past_loop : after plain loop_book 1 (meet level_zero loop) ≡ Some level_zero
  pub loops : after plain loop_book 1 loop ≡ Some loop

-- What follows of all trees: meet's is complete; either has none; half has one, and none that is complete.
pub record Judged : Type 0 where
  pub meet_complete : TreeFor meet_book 7 meet_tree × CompleteFor meet_book 7 meet_tree
  pub either_none : (n : Node) → TreeFor either_book 9 n → ⊥
  pub half_tree_is : TreeFor half_book 10 half_tree
  pub half_incomplete : (n : Node) → TreeFor half_book 10 n → CompleteFor half_book 10 n → ⊥

-- The promises at the meet book, of which nothing is left to assume; that sorts are kept still takes a sound number kind.
pub record MeetHolds : Type 0 where
  pub moves_are_steps : (M : Meaning) (e : Environment) (t : Term) (k : ℕ) → Sorted (levels []) e t k → (m : Move) → φ M meet_book t ≡ Some m
      → StepAt M meet_book m.position m.cause t m.next
  pub normalises : (M : Meaning) (t v : Term) → Steps M meet_book t v → Value v → (n : ℕ) × (after M meet_book n t ≡ Some v)
  pub one_value : (M : Meaning) (t v w : Term) → Steps M meet_book t v → Steps M meet_book t w → Value v → Value w → v ≡ w
  pub keeps_sorts : (M : Meaning) → Sound M → (t u : Term) (k : ℕ) → Ground (levels []) M.lawful t k → Step M meet_book t u → Ground (levels []) M.lawful u k
  pub progress : (M : Meaning) (t : Term) (k : ℕ) → Sorted (levels []) closed t k → (Value t ⊎ ((m : Move) × (φ M meet_book t ≡ Some m))) × (Value t → φ M meet_book t ≡ None)
  -- and some steps do lead to a value
  pub some_steps : Steps plain meet_book (meet (meet level_zero level_zero) (up level_zero)) level_zero
