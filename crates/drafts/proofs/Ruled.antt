-- What adding a rule leaves.
use Rattle.std.proofs.Common.{◌≡◌, ℕ, ◌+◌, ◌<◌, ◌≤◌, true, false, eqb, ltb, leb, List, [], ◌∷◌, ◌++◌, map, length, take, drop, Some, None, Ok, Option, sym, refl, ap, ◌∙◌, ap₂, arith}
use Rattle.std.proofs.lemmas.List.{map_push, length-map, length-append, length-take}
use Rattle.std.proofs.lemmas.Bool.{and_parts, cond-true, le-leb, ltb-false, eqb-false, or_parts}
use Rattle.terms.proofs.Letters.{zero_one}
use Rattle.terms.proofs.Tables.{symbols_fit, items_fit}
use Rattle.terms.specs.declared.row.Row.{Row}
use Rattle.terms.specs.Rows.{items, Longer}
use Rattle.words.proofs.Faultless.{or_none}
use Rattle.drafts.specs.declared.draft.Draft.{Draft as Store}
use Rattle.drafts.specs.declared.span.Span.{Span}
use Rattle.drafts.specs.Drafts.{Sides, sides, Draft, awaited, letters_in, longest_side, most_letters}
use Rattle.drafts.specs.Rules.{bad_length, rule_fault, no_room, fault_under, rule_refusal, with_rule}
use Rattle.drafts.specs.Views.{sides_of, drafted, in_a_row}
use Rattle.drafts.specs.Soundness.{contents_sound, is_sound}
use Rattle.drafts.specs.Stores.{seen, verdict}
use Rattle.drafts.proofs.Verdicts.{passed}
use Rattle.drafts.proofs.Kept.{none_test, parts_of}
use Rattle.drafts.proofs.Turns.{turn_short, turn_below, rule_kept}
use Rattle.drafts.proofs.Pools.{row_push, row_letters, rules_same, laid_below, laid_left, laid_right}

-- a rule without fault
pub record Accepted (D : Draft) (q : Sides) : Type 0 where
  pub function : ℕ
  pub turn : awaited D ≡ Some function
  pub fine : rule_fault D.signature function q ≡ None
  pub room : letters_in D.rules + (length q.left + length q.right) ≤ most_letters

pub accepted : (D : Draft) (q : Sides) → rule_refusal D q ≡ None → Accepted D q
accepted D q h = go (awaited D) refl h
  where
    go : (o : Option ℕ) → awaited D ≡ o → fault_under D o q ≡ None → Accepted D q
    go None e g = absurd (zero_one (cc))
    go (Some f) e g =
        let a = or_none (rule_fault D.signature f q) _ g in
        let b = none_test (no_room D.rules q) _ None a.1 in
        record { function = f; turn = e; fine = a.0; room = ltb-false most_letters (letters_in D.rules + (length q.left + length q.right)) b.0 }

-- a side that is neither empty nor too long
pub good_length : (w : List ℕ) → bad_length w ≡ false → (0 < length w) × (length w ≤ longest_side)
good_length w h =
    let a = or_parts (eqb (length w) 0) (ltb longest_side (length w)) h in
    let n = eqb-false (length w) 0 a.0 in
    (omega arith, ltb-false longest_side (length w) a.1)

-- the letters of all rules fill the pool, and there are as many rules as spans
pub letters_counted : (a : Store) → letters_in (seen a).rules ≡ length (items a.letters)
letters_counted a = let e = row_letters (items a.letters) 0 (length (items a.letters)) (items a.rules) a.laid (omega arith) in omega arith

length_rules : (a : Store) → length (seen a).rules ≡ length (items a.rules)
length_rules a = length-map (items a.rules) (sides_of (items a.letters))

pub rules_few : (a : Store) → length (seen a).rules ≤ 96
rules_few a = let e = length_rules a in let f = items_fit a.rules in omega arith

-- the function awaited is a symbol, and there is a place for its rule
pub turn_known : (a : Store) (f : ℕ) → awaited (seen a) ≡ Some f → (f < 96) × (length (items a.rules) < 96)
turn_known a f h =
    let D = seen a in
    let l = symbols_fit a.signature in
    let b = (turn_below 0 (length D.rules) f D.promised h).1 in
    let s = turn_short 0 (length D.rules) f D.promised h in
    let n = length_rules a in
    let c = parts_of D.signature D.promised (and_parts (contents_sound D.signature D.promised) _ a.sound).0 in
    let few = c.few in
    let t = length-take (length D.signature.symbols) a.promised in
    (omega arith, omega arith)

-- a rule that was added
module _ (a : Store) (l r : List ℕ) (v : Ok (tt {0}) ≡ verdict (rule_refusal (seen a) (sides l r)) (tt {0})) where
  abbrev span : Span
  span = record { start = length (items a.letters); left = length l; right = length r }

  fine : rule_refusal (seen a) (sides l r) ≡ None
  fine = (passed (rule_refusal (seen a) (sides l r)) (tt {0}) (tt {0}) v).0

  pub room_left : length (items a.letters) + (length l + length r) ≤ most_letters
  room_left = let q = (accepted (seen a) (sides l r) fine).room in let k = letters_counted a in omega arith

  pub record RuleAdded (x : Row ℕ 1024) (k : Option ℕ) (z : Row Span 96) : Type 0 where
    pub fine : rule_refusal (seen a) (sides l r) ≡ None
    pub number : k ≡ Some (length (seen a).rules)
    pub laid : in_a_row 0 (items z) (length (items x)) ≡ true
    pub after : drafted a.signature a.promised (items x) (items z) ≡ with_rule (seen a) (sides l r)
    pub sound : is_sound (drafted a.signature a.promised (items x) (items z)) ≡ true

  pub add_new_rule : (x : Row ℕ 1024) (s : Span) (k : Option ℕ) (z : Row Span 96) → Some s ≡ Some span → items x ≡ items a.letters ++ (l ++ r) → Longer (s ∷ []) a.rules k z → RuleAdded x k z
  add_new_rule x s k z e p g =
      let D = seen a in
      let q = accepted D (sides l r) fine in
      let t = (turn_known a q.function q.turn).1 in
      let n : ℕ = length (items a.letters) in
      let is : s ≡ span = cc in
      let fits : leb (length (items a.rules) + 1) 96 ≡ true = le-leb (length (items a.rules) + 1) 96 (omega arith) in
      let grown : items z ≡ items a.rules ++ (span ∷ []) = g.becomes ∙ cond-true (leb (length (items a.rules) + 1) 96) _ _ fits ∙ ap (λ (y : Span). items a.rules ++ (y ∷ [])) is in
      let old : map (sides_of (items x)) (items a.rules) ≡ D.rules = rules_same (items x) (items a.letters) 0 n 0 (items a.rules) (ap (take n) p ∙ laid_below (items a.letters) l r) a.laid in
      let new : sides_of (items x) span ≡ sides l r =
      ap₂ sides (ap (λ (w : List ℕ). take (length l) (drop n w)) p ∙ laid_left (items a.letters) l r) (ap (λ (w : List ℕ). take (length r) (drop (n + length l) w)) p ∙ laid_right (items a.letters) l r) in
      let rules : map (sides_of (items x)) (items z) ≡ D.rules ++ (sides l r ∷ []) =
      ap (map (sides_of (items x))) grown ∙ map_push (sides_of (items x)) (items a.rules) span ∙ ap₂ (λ (qs : List Sides) (y : Sides). qs ++ (y ∷ [])) old new in
      let after : drafted a.signature a.promised (items x) (items z) ≡ with_rule D (sides l r) = ap (λ (qs : List Sides). record { signature = D.signature; promised = D.promised; rules = qs }) rules in
      let long : length (items x) ≡ n + (length l + length r) = ap length p ∙ length-append (items a.letters) (l ++ r) ∙ ap (λ m. n + m) (length-append l r) in
      record {
        fine = fine;
        number = g.answered ∙ cond-true (leb (length (items a.rules) + 1) 96) _ _ fits ∙ ap Some (sym (length_rules a));
        laid = ap (λ (ss : List Span). in_a_row 0 ss (length (items x))) grown ∙ row_push 0 n (length (items x)) (items a.rules) span a.laid refl (sym long);
        after = after;
        sound = ap is_sound after ∙ rule_kept D q.function (sides l r) a.sound q.turn q.fine;
      }
