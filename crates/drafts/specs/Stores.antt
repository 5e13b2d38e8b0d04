-- What the code's draft is, and what a call does with it.
use Rattle.std.specs.Prelude.{◌≡◌, ℕ, List, Some, None, Ok, Err, Option, Result}
use Rattle.terms.specs.declared.name.Name.{Name}
use Rattle.terms.specs.Rows.{items}
use Rattle.terms.specs.Views.{bytes_of}
use Rattle.drafts.specs.declared.draft.Draft.{Draft as Store}
use Rattle.drafts.specs.Drafts.{Draft}
use Rattle.drafts.specs.Contents.{Outcome}
use Rattle.drafts.specs.Views.{drafted}

-- a draft: what stands up to its counts
abbrev pub seen : Store → Draft
seen d = drafted d.signature d.promised (items d.letters) (items d.rules)

-- a call answered and changed a draft as it should, and left it exactly as it was where it refused
pub record Does {F : Type 0} (o : Outcome F) (r : Result ℕ F) (a b : Store) : Type 0 where
  pub answered : r ≡ o.answer
  pub becomes : seen b ≡ o.after
  pub kept : (e : F) → r ≡ Err e → b ≡ a

-- a verdict: the refusal, or else what may be added
abbrev pub verdict : {A F : Type 0} → Option F → A → Result A F
verdict (Some f) a = Err f
verdict None a = Ok a

-- the same where a name may be added
abbrev pub named : {F : Type 0} → Result Name F → Result (List ℕ) F
named (Ok n) = Ok (bytes_of n)
named (Err f) = Err f
