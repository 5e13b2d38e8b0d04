-- Refusals tried one after the other, and their verdict.
use Rattle.std.proofs.Common.{◌≡◌, ℕ, Bool, true, false, cond, Some, None, Ok, Err, Option, Result, sym, refl, ap, ◌∙◌, subst}
use Rattle.std.specs.Prelude.{IsErrAnd}
use Rattle.std.proofs.lemmas.Result.{err_from_is_err_and}
use Rattle.std.specs.Option.{option_or}
use Rattle.terms.proofs.Letters.{zero_one}
use Rattle.drafts.specs.declared.draft.Draft.{Draft as Store}
use Rattle.drafts.specs.Drafts.{Draft}
use Rattle.drafts.specs.Contents.{outcome}
use Rattle.drafts.specs.Stores.{seen, Does, verdict}

module _ {A B F : Type 0} where
  -- what the first refuses is refused, and what it passes goes to the next
  pub refused_first : (o p : Option F) (a : A) (b : B) (e : F) → Err e ≡ verdict o a → Err e ≡ verdict (option_or o p) b
  refused_first (Some f) p a b e h = (cc)
  refused_first None p a b e h = absurd (zero_one (cc))

  pub passed_first : (o p : Option F) (a c : A) (b : B) → Ok c ≡ verdict o a → verdict p b ≡ verdict (option_or o p) b
  passed_first (Some f) p a c b h = absurd (zero_one (cc))
  passed_first None p a c b h = refl

-- a test refuses
pub refuse : {A F : Type 0} (t : Bool) (f : F) (next : Option F) (a : A) → t ≡ true → Err f ≡ verdict (cond t (Some f) next) a
refuse true f next a e = refl
refuse false f next a e = absurd (zero_one (cc))

-- a test passes
pub pass : {A F : Type 0} (t : Bool) (f : F) (next : Option F) (a : A) → t ≡ false → verdict next a ≡ verdict (cond t (Some f) next) a
pass true f next a e = absurd (zero_one (cc))
pass false f next a e = refl

-- what a verdict says
pub passed : {A F : Type 0} (o : Option F) (a b : A) → Ok b ≡ verdict o a → (o ≡ None) × (b ≡ a)
passed (Some f) a b h = absurd (zero_one (cc))
passed None a b h = (refl, cc)

pub refused : {A F : Type 0} (o : Option F) (a : A) (e : F) → Err e ≡ verdict o a → o ≡ Some e
refused (Some f) a e h = cc
refused None a e h = absurd (zero_one (cc))

-- a refusal that a call hands on
pub handed : {T E : Type 0} (r : Result T E) (e : E) → IsErrAnd r (λ y. y ≡ e) → r ≡ Err e
handed r e h = let p = err_from_is_err_and r h in p.1 ∙ ap Err p.2

-- a call that is done, and one that is refused
module _ {F : Type 0} (a b : Store) where
  pub done : (o : Option F) (D E : Draft) (n : ℕ) (r : Result ℕ F) → o ≡ None → r ≡ Ok n → seen b ≡ E → Does (outcome o D n E) r a b
  done (Some f) D E n r h e v = absurd (zero_one (cc))
  done None D E n r h e v = record { answered = e; becomes = v; kept = λ f g. absurd (zero_one (cc)) }

  pub passed_on : (o : Option F) (D E G : Draft) (n : ℕ) (r : Result ℕ F) → o ≡ None → G ≡ E → Does (outcome None D n G) r a b → Does (outcome o D n E) r a b
  passed_on o D E G n r h e d = subst (λ (p : Option F). Does (outcome p D n E) r a b) (sym h) (subst (λ (z : Draft). Does (outcome None D n z) r a b) e d)

pub not_done : {F : Type 0} (a : Store) (o : Option F) (E : Draft) (n : ℕ) (r : Result ℕ F) (e : F) → o ≡ Some e → r ≡ Err e → Does (outcome o (seen a) n E) r a a
not_done a (Some f) E n r e h g = record { answered = g ∙ ap Err (let q : e ≡ f = cc in q); becomes = refl; kept = λ x y. refl }
not_done a None E n r e h g = absurd (zero_one (cc))

-- a refusal is the same whatever would have been added
pub again : {A B F : Type 0} (o : Option F) (a : A) (b : B) (e : F) → Err e ≡ verdict o a → Err e ≡ verdict o b
again (Some f) a b e h = (cc)
again None a b e h = absurd (zero_one (cc))
