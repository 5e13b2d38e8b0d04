-- Check is exact.
use Rattle.std.proofs.Common.{◌≡◌, ℕ, zero, suc, ◌+◌, ◌<◌, ◌≤◌, Bool, true, false, cond, eqb, ◌⊎◌, ◌↔◌, length, drop, Some, None, Option, sym, refl, ap, subst, inl, inr, arith, option_map}
use Rattle.std.specs.List.{slice_get}
use Rattle.std.proofs.lemmas.List.{drop_all}
use Rattle.std.proofs.lemmas.Bool.{cases_lt, both_ways}
use Rattle.std.specs.Option.{option_or}
use Rattle.terms.specs.Terms.{own}
use Rattle.terms.specs.Roots.{call, Stands}
use Rattle.terms.proofs.Letters.{zero_one}
use Rattle.rewriting.specs.Rules.{Book}
use Rattle.rewriting.specs.Trees.{Node, TreeFor, CompleteFor}
use Rattle.rewriting.specs.FixedTree.{fixed_tree}
use Rattle.rewriting.specs.Completeness.{is_complete}
use Rattle.rewriting.specs.Promises.{HasCompleteTrees, Exact}
use Rattle.rewriting.proofs.Lists.{kept_mem}
use Rattle.rewriting.proofs.Exactness.{fixed_tree_exact}
use Rattle.rewriting.proofs.Completeness.{tells_complete}
use Rattle.drafts.specs.declared.draft.Draft.{Draft}
use Rattle.drafts.specs.Drafts.{awaited}
use Rattle.drafts.specs.Books.{book_of}
use Rattle.drafts.specs.Stores.{seen}
use Rattle.drafts.proofs.Sound.{sound_contents, counted_contents}
use Rattle.trees.specs.declared.fault.CheckFault.{CheckFault}
use Rattle.trees.specs.declared.fault.CheckFault.TheVariants.{RulesMissing, NoTree, Incomplete}
use Rattle.trees.specs.Checks.{function_role, judged, fault_at, first_fault, check_fault}
use Rattle.trees.specs.Standing.{IsFunction}
use Rattle.trees.proofs.Places.{nth_below}
use Rattle.trees.proofs.Drafted.{draft_ruled}
use Rattle.trees.proofs.LeftSides.{draft_cells}
use Rattle.trees.proofs.Rooting.{a_function, no_function, function_fault, no_fault, first_more, function_stands, stands_function}
use Rattle.books.specs.Statements.{CompletelyDefined, FirstAtFault, ExactCheck}

-- what an answer says of the awaited rule and of the book
abbrev Means : Option ℕ → Book → Option CheckFault → Type 0
Means a B None = (a ≡ None) × HasCompleteTrees B
Means a B (Some (RulesMissing f)) = a ≡ Some f
Means a B (Some (NoTree f)) = (a ≡ None) × FirstAtFault B f × ((n : Node) → TreeFor B f n → ⊥)
Means a B (Some (Incomplete f)) = (a ≡ None) × FirstAtFault B f × ((n : Node) × TreeFor B f n)

-- one answer is not two
some_none : {A : Type 0} {o : Option A} {x : A} → o ≡ Some x → o ≡ None → ⊥
some_none e f = zero_one (cc)

same_some : {A : Type 0} {o : Option A} {x y : A} → o ≡ Some x → o ≡ Some y → x ≡ y
same_some e f = cc

-- no two answers can both be right
first_once : {B : Book} {f g : ℕ} → FirstAtFault B f → FirstAtFault B g → f ≡ g
first_once {B} {f} {g} h k = go (cases_lt f g) (cases_lt g f)
  where
    go : (f < g) ⊎ (g ≤ f) → (g < f) ⊎ (f ≤ g) → f ≡ g
    go (inl l) m = absurd (h.not_defined (k.before f l h.declared))
    go (inr l) (inl m) = absurd (k.not_defined (h.before g m k.declared))
    go (inr l) (inr m) = omega arith

one_answer : (a : Option ℕ) (B : Book) (o p : Option CheckFault) → Means a B o → Means a B p → o ≡ p
one_answer a B None None h k = refl
one_answer a B None (Some (RulesMissing g)) h k = absurd (some_none k h.0)
one_answer a B None (Some (NoTree g)) h k = absurd (k.1.not_defined (h.1 g k.1.declared))
one_answer a B None (Some (Incomplete g)) h k = absurd (k.1.not_defined (h.1 g k.1.declared))
one_answer a B (Some (RulesMissing f)) None h k = absurd (some_none h k.0)
one_answer a B (Some (RulesMissing f)) (Some (RulesMissing g)) h k = cc
one_answer a B (Some (RulesMissing f)) (Some (NoTree g)) h k = absurd (some_none h k.0)
one_answer a B (Some (RulesMissing f)) (Some (Incomplete g)) h k = absurd (some_none h k.0)
one_answer a B (Some (NoTree f)) None h k = absurd (h.1.not_defined (k.1 f h.1.declared))
one_answer a B (Some (NoTree f)) (Some (RulesMissing g)) h k = absurd (some_none k h.0)
one_answer a B (Some (NoTree f)) (Some (NoTree g)) h k = ap (λ (x : ℕ). Some (NoTree x)) (first_once h.1 k.1)
one_answer a B (Some (NoTree f)) (Some (Incomplete g)) h k = absurd (h.2 k.2.0 (subst (λ (x : ℕ). TreeFor B x k.2.0) (sym (first_once h.1 k.1)) k.2.1))
one_answer a B (Some (Incomplete f)) None h k = absurd (h.1.not_defined (k.1 f h.1.declared))
one_answer a B (Some (Incomplete f)) (Some (RulesMissing g)) h k = absurd (some_none k h.0)
one_answer a B (Some (Incomplete f)) (Some (NoTree g)) h k = absurd (k.2 h.2.0 (subst (λ (x : ℕ). TreeFor B x h.2.0) (first_once h.1 k.1) h.2.1))
one_answer a B (Some (Incomplete f)) (Some (Incomplete g)) h k = ap (λ (x : ℕ). Some (Incomplete x)) (first_once h.1 k.1)

-- what the fault of one symbol says: none, that the symbol is completely defined if it is a function; a fault is the answer where all functions before it are
abbrev DefinedBefore : Book → ℕ → Type 0
DefinedBefore B s = (g : ℕ) → g < s → Stands B.signature (call (own g)) → CompletelyDefined B g

abbrev Says : Book → ℕ → Option CheckFault → Type 0
Says B s None = Stands B.signature (call (own s)) → CompletelyDefined B s
Says B s (Some e) = DefinedBefore B s → Means None B (Some e)

-- so the first fault is the answer, by induction on the number of symbols left
first_means : (B : Book) → ((s : ℕ) → Says B s (fault_at B s)) → (n s : ℕ) → s + n ≡ length B.signature.symbols → DefinedBefore B s
    → Means None B (first_fault B s (drop s B.signature.symbols))
first_means B says zero s l h =
    subst (Means None B) (sym (ap (first_fault B s) (drop_all s B.signature.symbols (omega arith))))
    (refl, λ f k. h f (let m = nth_below B.signature.symbols f k.0.1 in omega arith) k)
first_means B says (suc n) s l h =
    subst (Means None B) (sym (first_more B s (omega arith))) (go (fault_at B s) (says s) (λ t. first_means B says n (suc s) (omega arith) (λ g k. here g (cases_lt g s) k t)))
  where
    here : (g : ℕ) → (g < s) ⊎ (s ≤ g) → g < suc s → Says B s None → Says B g None
    here g (inl m) k t = h g m
    here g (inr m) k t = let e : s ≡ g = omega arith in subst (λ (x : ℕ). Says B x None) e t

    rest : Option CheckFault
    rest = first_fault B (suc s) (drop (suc s) B.signature.symbols)

    go : (o : Option CheckFault) → Says B s o → (Says B s None → Means None B rest) → Means None B (option_or o rest)
    go None t more = more t
    go (Some e) t more = t h

-- what the fault of a draft's symbol says, where no rule is awaited
module _ (d : Draft) (whole : awaited (seen d) ≡ None) where
  abbrev B : Book
  B = book_of (seen d)

  function_says : (f : ℕ) → IsFunction B.signature f → Says B f (judged B.signature f (fixed_tree B f))
  function_says f h = go (fixed_tree B f) refl
    where
      exact : Exact B f
      exact = let r = draft_ruled d f whole h in fixed_tree_exact B f r.right r.some.0 r.some.1

      tells : (t : Node) → fixed_tree B f ≡ Some t → (is_complete B.signature t ≡ true) ↔ CompleteFor B f t
      tells =
          tells_complete B f (sound_contents d).proper (counted_contents d).few_symbols (draft_ruled d f whole h)
          (λ r m p. draft_cells d p r (kept_mem (λ q. eqb q.function f) B.rules m).0)

      at_fault : (CompletelyDefined B f → ⊥) → DefinedBefore B f → FirstAtFault B f
      at_fault n b = record { declared = stands_function d f h; not_defined = n; before = b }

      none : fixed_tree B f ≡ None → (n : Node) → TreeFor B f n → ⊥
      none e n t = some_none (exact.some_tree.0 (n, t)).1 e

      not_complete : (t : Node) → fixed_tree B f ≡ Some t → is_complete B.signature t ≡ false → ((n : Node) × (fixed_tree B f ≡ Some n) × CompleteFor B f n) → ⊥
      not_complete t e c z = both_ways (is_complete B.signature t) c ((tells t e).1 (subst (CompleteFor B f) (same_some z.1 e) z.2))

      test : (t : Node) → fixed_tree B f ≡ Some t → (b : Bool) → is_complete B.signature t ≡ b → Says B f (cond b None (Some (Incomplete f)))
      test t e true c = λ s. (t, exact.is_tree t e, (tells t e).0 c)
      test t e false c = λ b. (refl, at_fault (λ k. not_complete t e c (exact.some_complete.0 k)) b, (t, exact.is_tree t e))

      go : (o : Option Node) → fixed_tree B f ≡ o → Says B f (judged B.signature f o)
      go None e = λ b. (refl, at_fault (λ c. none e c.0 c.1) b, none e)
      go (Some t) e = test t e (is_complete B.signature t) refl

  symbol_says : (s : ℕ) → Says B s (fault_at B s)
  symbol_says s = go (function_role (option_map (λ y. y.role) (slice_get B.signature.symbols s))) refl
    where
      go : (b : Bool) → function_role (option_map (λ y. y.role) (slice_get B.signature.symbols s)) ≡ b → Says B s (fault_at B s)
      go true e = let h = a_function B.signature s e in subst (Says B s) (sym (function_fault B s h)) (function_says s h)
      go false e = subst (Says B s) (sym (no_fault B s e)) (λ h. absurd (no_function B.signature s e (function_stands d s h)))

  faults_mean : Means None B (first_fault B 0 B.signature.symbols)
  faults_mean = first_means B symbol_says (length B.signature.symbols) 0 (omega arith) (λ g k. absurd (omega arith))

-- the answer is right, and so it is the only right one
check_means : (d : Draft) → Means (awaited (seen d)) (book_of (seen d)) (check_fault (seen d))
check_means d = go (awaited (seen d)) refl
  where
    go : (a : Option ℕ) → awaited (seen d) ≡ a → Means a (book_of (seen d)) (option_or (option_map RulesMissing a) (first_fault (book_of (seen d)) 0 (seen d).signature.symbols))
    go None e = faults_mean d e
    go (Some f) e = refl

check_tells : (d : Draft) (o : Option CheckFault) → check_fault (seen d) ≡ o → Means (awaited (seen d)) (book_of (seen d)) o
check_tells d o e = subst (Means (awaited (seen d)) (book_of (seen d))) e (check_means d)

check_told : (d : Draft) (o : Option CheckFault) → Means (awaited (seen d)) (book_of (seen d)) o → check_fault (seen d) ≡ o
check_told d o = one_answer (awaited (seen d)) (book_of (seen d)) (check_fault (seen d)) o (check_means d)

pub accepted_complete : (d : Draft) → check_fault (seen d) ≡ None → (awaited (seen d) ≡ None) × HasCompleteTrees (book_of (seen d))
accepted_complete d = check_tells d None

pub exact_check : (d : Draft) → ExactCheck (seen d) (check_fault (seen d))
exact_check d = record {
  accepted = (accepted_complete d, check_told d None);
  missing = λ f. (check_tells d (Some (RulesMissing f)), check_told d (Some (RulesMissing f)));
  no_tree = λ f. (check_tells d (Some (NoTree f)), check_told d (Some (NoTree f)));
  incomplete = λ f. (check_tells d (Some (Incomplete f)), check_told d (Some (Incomplete f)));
}
