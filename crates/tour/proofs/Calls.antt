-- Calls on a draft that is known.
use Rattle.std.proofs.Common.{◌≡◌, ℕ, true, List, length, None, Option, Result, ap, ◌∙◌}
use Rattle.drafts.specs.declared.draft.Draft.{Draft as Store}
use Rattle.drafts.specs.declared.fault.ContentFault.{ContentFault}
use Rattle.drafts.specs.declared.fault.RuleFault.{RuleFault}
use Rattle.drafts.specs.Drafts.{Draft, Sides, sides, awaited}
use Rattle.drafts.specs.Contents.{outcome, some_rule, declare_sort, declare_constructor, declare_function}
use Rattle.drafts.specs.Rules.{fault_under, with_rule as rule_more, add_rule}
use Rattle.drafts.specs.Stores.{seen, Does}
use Rattle.books.specs.Examples.{with_rule}

module _ {a b : Store} {D : Draft} where
  pub sort_declared : {r : Result ℕ ContentFault} (n : List ℕ) → Does (declare_sort (seen a) n) r a b → seen a ≡ D → seen b ≡ (declare_sort D n).after
  sort_declared n h e = h.becomes ∙ ap (λ (E : Draft). (declare_sort E n).after) e

  pub constructor_declared : {r : Result ℕ ContentFault} (n ks : List ℕ) (k : ℕ) → Does (declare_constructor (seen a) n ks k) r a b → seen a ≡ D → seen b ≡ (declare_constructor D n ks k).after
  constructor_declared n ks k h e = h.becomes ∙ ap (λ (E : Draft). (declare_constructor E n ks k).after) e

  pub function_declared : {r : Result ℕ ContentFault} (n ks : List ℕ) (k p : ℕ) → Does (declare_function (seen a) n ks k p) r a b → seen a ≡ D → seen b ≡ (declare_function D n ks k p).after
  function_declared n ks k p h e = h.becomes ∙ ap (λ (E : Draft). (declare_function E n ks k p).after) e

  pub rule_added : {r : Result ℕ RuleFault} (x y : List ℕ) → Does (add_rule (seen a) (sides x y)) r a b → seen a ≡ D → seen b ≡ with_rule D x y
  rule_added x y h e = h.becomes ∙ ap (λ (E : Draft). with_rule E x y) e

-- a rule that is not awaited changes nothing
pub not_awaited : (D : Draft) (q : Sides) → awaited D ≡ None → (add_rule D q).after ≡ D
not_awaited D q e = ap (λ (o : Option ℕ). (outcome (fault_under D o q) D (length D.rules) (rule_more D q)).after) e

-- nor a sort where a rule stands
pub rule_stands : (D : Draft) (n : List ℕ) → some_rule D.rules ≡ true → (declare_sort D n).after ≡ D
rule_stands D n e = rw e
