-- The book that a draft is, and what every such book is. Assumes nothing.
use Rattle.std.specs.Prelude.{◌≡◌, ℕ, ◌<◌, ◌≤◌, ◌↔◌, List, [], ◌∷◌, map, length, take, Some, None, Option}
use Rattle.std.specs.List.{slice_get}
use mathlib.Core.List.{Memᴰ}
use Rattle.terms.specs.declared.signature.Role.TheVariants.{Function, Operation}
use Rattle.terms.specs.Terms.{plus, minus, atmost, own, Term, var, con, fun}
use Rattle.terms.specs.Options.{onward}
use Rattle.terms.specs.Signatures.{Declaration, Signature}
use Rattle.words.specs.Words.{read}
use Rattle.rewriting.specs.Rules.{Rule, Book, SortCorrectRules, LeftLinear}
use Rattle.drafts.specs.Drafts.{Sides, Draft, in_turn, total, letters_in, most_rules, longest_side, most_letters}
use Rattle.drafts.specs.Statements.{Patterns, written}

-- the rule between two terms, where the left is a call of a declared function
abbrev pub rule_between : Term → Term → Option Rule
rule_between (var v) u = None
rule_between (con c ts) u = None
rule_between (fun plus ts) u = None
rule_between (fun minus ts) u = None
rule_between (fun atmost ts) u = None
rule_between (fun (own f) ts) u = Some (record { function = f; left = ts; right = u })

-- the rule that two words are
abbrev pub rule_of : Signature → Sides → Option Rule
rule_of S q = onward (read S q.left) (λ t. onward (read S q.right) (rule_between t))

-- a rule, if it is there, before others
abbrev pub rule_before : Option Rule → List Rule → List Rule
rule_before None rs = rs
rule_before (Some r) rs = r ∷ rs

-- the rules that words are, in their order
abbrev pub rules_read : Signature → List Sides → List Rule
rules_read S [] = []
rules_read S (q ∷ qs) = rule_before (rule_of S q) (rules_read S qs)

-- the book that a draft is
abbrev pub book_of : Draft → Book
book_of D = record { signature = D.signature; rules = rules_read D.signature D.rules }

-- no symbol but the three built-in ones is an operation; functions alone promise rules; within the bounds
pub record CountedContents (D : Draft) : Type 0 where
  pub operations : (s : ℕ) (d : Declaration) → slice_get D.signature.symbols s ≡ Some d → d.role ≡ Operation → s < 3
  pub one_each : length D.promised ≡ length D.signature.symbols
  pub promises : (s : ℕ) (d : Declaration) (p : ℕ) → slice_get D.signature.symbols s ≡ Some d → slice_get D.promised s ≡ Some p → (0 < p) ↔ (d.role ≡ Function)
  pub few_symbols : length D.signature.symbols ≤ 96
  pub few : total D.promised ≤ most_rules

-- The rules are those of the book, in the order of the functions as each promised them: sort-correct, left-linear, with patterns inside the left side; within the bounds.
pub record BookRules (D : Draft) : Type 0 where
  pub as_written : map written (book_of D).rules ≡ D.rules
  pub in_order : map (λ (r : Rule). r.function) (book_of D).rules ≡ take (length D.rules) (in_turn 0 D.promised)
  pub sort_correct : SortCorrectRules (book_of D)
  pub left_linear : LeftLinear (book_of D)
  pub patterns : (r : Rule) → Memᴰ r (book_of D).rules → Patterns r.left
  pub few_rules : length D.rules ≤ most_rules
  pub short : (q : Sides) → Memᴰ q D.rules → (0 < length q.left) × (length q.left ≤ longest_side) × (0 < length q.right) × (length q.right ≤ longest_side)
  pub room : letters_in D.rules ≤ most_letters
