-- What a declaration leaves.
use Rattle.std.proofs.Common.{◌≡◌, ℕ, ◌<◌, true, ltb, leb, List, length, take, Some, None, Ok, Option, refl, ap, ◌∙◌, arith}
use Rattle.std.proofs.lemmas.Bool.{leb-false, and_parts, ltb-true, and_from, lt-ltb}
use Rattle.terms.specs.declared.signature.Role.TheVariants.{Constructor, Function}
use Rattle.terms.specs.declared.signature.Signature.{Signature as Table}
use Rattle.terms.specs.Signatures.{Signature, Change, add_sort}
use Rattle.terms.specs.Rows.{items}
use Rattle.terms.specs.Views.{view, Changed}
use Rattle.terms.proofs.Tables.{sort_added, sorts_fit}
use Rattle.words.proofs.Faultless.{or_none}
use Rattle.drafts.specs.declared.draft.Draft.{Draft as Store}
use Rattle.drafts.specs.Drafts.{Sides, Draft}
use Rattle.drafts.specs.Contents.{name_fault, sorts_full, sort_fault, constructor_fault, function_fault, all_below, with_sort}
use Rattle.drafts.specs.Views.{drafted}
use Rattle.drafts.specs.Soundness.{is_sound, three_operations, Addable}
use Rattle.drafts.specs.Stores.{seen, verdict}
use Rattle.drafts.proofs.Verdicts.{passed}
use Rattle.drafts.proofs.Kept.{none_test, sort_kept, operations_push, KnownSorts, new_constructor, constructor_kept, new_function, function_kept}
use Rattle.drafts.proofs.Lists.{below_wider}

-- a draft over another signature
abbrev over : List ℕ → List Sides → Signature → Draft
over ps rs S = record { signature = S; promised = take (length S.symbols) ps; rules = rs }

-- a sort that was added: no refusal, its number, the draft after, and that it is sound
pub record SortAdded (a : Store) (n : List ℕ) (r : Option ℕ) (g : Table) : Type 0 where
  pub fine : sort_fault (seen a) n ≡ None
  pub number : r ≡ Some (length (seen a).signature.sorts)
  pub after : drafted g a.promised (items a.letters) (items a.rules) ≡ with_sort (seen a) n
  pub sound : is_sound (drafted g a.promised (items a.letters) (items a.rules)) ≡ true
  pub operations : three_operations (view g) ≡ true

pub add_new_sort : (a : Store) (n m : List ℕ) (r : Option ℕ) (g : Table) → Ok m ≡ verdict (sort_fault (seen a) n) n → Changed (add_sort m (view a.signature)) r a.signature g → SortAdded a n r g
add_new_sort a n m r g h c =
    let D = seen a in
    let p = passed (sort_fault D n) n m h in
    let f = or_none (name_fault D n) (sorts_full D) p.0 in
    let t = none_test (leb 16 (length D.signature.sorts)) _ None f.1 in
    let e = ap (λ (l : List ℕ). add_sort l D.signature) p.1 ∙ sort_added n D.signature (leb-false 16 (length D.signature.sorts) t.0) in
    let v = c.becomes ∙ ap (λ (z : Change). z.after) e in
    let w = ap (over a.promised D.rules) v in
    record { fine = p.0; number = c.answered ∙ ap (λ (z : Change). z.answer) e; after = w; sound = ap is_sound w ∙ sort_kept D n a.sound p.0; operations = ap three_operations v ∙ a.operations }

-- sorts of a draft are small numbers
pub small_sorts : (a : Store) (ks : List ℕ) (k : ℕ) → KnownSorts (seen a) ks k → (k < 16) × (all_below 16 ks ≡ true)
small_sorts a ks k h =
    let m : ℕ = length (seen a).signature.sorts in
    let f = sorts_fit a.signature in
    let p = and_parts (ltb k m) (all_below m ks) h.all in
    let q = ltb-true k m p.0 in
    (omega arith, below_wider m 16 ks (omega arith) p.1)

-- what no verdict refuses may be added
pub addable_constructor : (a : Store) (n ks : List ℕ) (k : ℕ) → constructor_fault (seen a) n ks k ≡ None → Addable (seen a) (record { name = n; role = Constructor; args = ks; sort = k }) 0
addable_constructor a n ks k h =
    let w = new_constructor (seen a) n ks k h in
    let s = small_sorts a ks k w.sorts in
    record {
      few = w.sorts.four;
      small = and_from (ltb k 16) (all_below 16 ks) (lt-ltb k 16 s.0) s.1;
      room = w.left;
      promised = omega arith;
      kind = refl;
      sound = constructor_kept (seen a) n ks k a.sound w;
      operations = operations_push 3 (seen a).signature.symbols _ a.operations refl;
    }

pub addable_function : (a : Store) (n ks : List ℕ) (k p : ℕ) → function_fault (seen a) n ks k p ≡ None → Addable (seen a) (record { name = n; role = Function; args = ks; sort = k }) p
addable_function a n ks k p h =
    let w = new_function (seen a) n ks k p h in
    let s = small_sorts a ks k w.sorts in
    let few = w.few in
    record {
      few = w.sorts.four;
      small = and_from (ltb k 16) (all_below 16 ks) (lt-ltb k 16 s.0) s.1;
      room = w.left;
      promised = omega arith;
      kind = refl;
      sound = function_kept (seen a) n ks k p a.sound w;
      operations = operations_push 3 (seen a).signature.symbols _ a.operations refl;
    }
