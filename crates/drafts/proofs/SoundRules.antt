-- The rules of a sound draft are rules of a book.
use Rattle.std.proofs.Common.{◌≡◌, ℕ, zero, suc, ◌+◌, ◌^◌, ◌<◌, ◌≤◌, Bool, true, false, not, ◌&&◌, eqb, ◌↔◌, List, [], ◌∷◌, ◌++◌, map, length, take, replicate, Some, None, Ok, Err, Option, Result, sym, refl, ap, ◌∙◌, subst, ap₂, append-nil, arith}
use mathlib.Core.List.{Memᴰ}
use Rattle.std.specs.List.{slice_get}
use Rattle.std.proofs.lemmas.Bool.{and_parts, eqb-true, ltb-true, both_ways, not-false}
use Rattle.std.specs.Str.{bytes_eq}
use Rattle.terms.specs.declared.signature.Role.{Role}
use Rattle.terms.specs.declared.signature.Role.TheVariants.{Constructor, Function, Operation}
use Rattle.terms.specs.Terms.{cell, symbol, Fn, own, Term, var, con, fun, Terms, nil, ◌▸◌}
use Rattle.terms.specs.Options.{onward}
use Rattle.terms.specs.Signatures.{Declaration, Signature, built_in}
use Rattle.terms.specs.Roots.{variable, head, call, number, fn_number, fn_of, is_constructor}
use Rattle.terms.specs.Sorting.{fn_sort}
use Rattle.terms.specs.Views.{given}
use Rattle.terms.proofs.Letters.{zero_one}
use Rattle.terms.proofs.Options.{more_none}
use Rattle.words.specs.Words.{word, words, read, Fits}
use Rattle.words.specs.Faults.{first_not, is_declared, not_whole, walk, wrong_place}
use Rattle.words.proofs.Rows.{reads_back}
use Rattle.words.proofs.Faultless.{tells_whole}
use Rattle.words.proofs.Sorts.{sorted_words}
use Rattle.rewriting.proofs.Occurrences.{different_linear}
use Rattle.rewriting.specs.Rules.{Rule, left_side, Linear, SortCorrect}
use Rattle.words.proofs.Faultless.{or_none}
use Rattle.drafts.specs.declared.fault.RuleFault.{RuleFault}
use Rattle.drafts.specs.Drafts.{Sides, sides, in_turn, longest_side}
use Rattle.drafts.specs.Rules.{is_cell, is_variable, is_function, stands_in, first_that, bad_length, first_cell, starts_with, inner_function, first_twice, is_new, first_new, left_sorts, none_known, right_wrong, at_place, sort_wrong, word_faults, shape_faults, rule_fault}
use Rattle.drafts.specs.Soundness.{same_declaration, same_role, begins_with, promise_fits, promises_fit, faultless, stand_in_turn}
use Rattle.drafts.specs.Statements.{Patterns, written}
use Rattle.drafts.specs.Books.{rule_between, rule_of, rule_before, rules_read}
use Rattle.drafts.proofs.Kept.{none_test, same_equal}
use Rattle.drafts.proofs.Ruled.{good_length}
use Rattle.drafts.proofs.RuleTerms.{letter_for, that_cons, var_is, patterns_of, mem_word, word_mem, linear_word, left_sorted, var_below, that_at}

-- a declared function, not one of the operations
pub record FunctionAt (S : Signature) (f : ℕ) : Type 0 where
  pub declaration : Declaration
  pub there : slice_get S.symbols f ≡ Some declaration
  pub role : declaration.role ≡ Function
  pub past : 3 ≤ f
  pub few : f < 96

own_of : (f : ℕ) → 3 ≤ f → fn_of f ≡ own f
own_of zero h = absurd (omega arith)
own_of (suc zero) h = absurd (omega arith)
own_of (suc (suc zero)) h = absurd (omega arith)
own_of (suc (suc (suc n))) h = refl

-- a term that starts with the function's letter is a call of it
call_term : (S : Signature) (t : Term) (f : ℕ) → Fits S t → FunctionAt S f → starts_with f (word t) ≡ true → (ts : Terms) × (t ≡ fun (own f) ts)
call_term S (var v) f fit at e = let q = eqb-true (number (variable v)) (2 ^ 32 + f) e in let l = at.few in absurd (zero_one (omega arith))
call_term S (con (cell n) ts) f fit at e = let q = eqb-true (number (head (cell n))) (2 ^ 32 + f) e in let l : n < 2 ^ 32 = fit.0 in absurd (zero_one (omega arith))
call_term S (con (symbol s) ts) f fit at e =
    let q = eqb-true (number (head (symbol s))) (2 ^ 32 + f) e in
    let i : s ≡ f = omega arith in
    let d = fit.0.0 in
    let same : d ≡ at.declaration = (let a = fit.0.1 in let b = at.there in let c = ap (slice_get S.symbols) i in cc) in
    absurd (both_ways (is_constructor d.role) (ap (λ (y : Declaration). is_constructor y.role) same ∙ ap is_constructor at.role) fit.0.2)
call_term S (fun g ts) f fit at e =
    let q = eqb-true (number (call g)) (2 ^ 32 + f) e in
    let i : fn_number g ≡ f = omega arith in
    (ts, ap (λ (h : Fn). fun h ts) (sym fit.0.1 ∙ ap fn_of i ∙ own_of f at.past))

-- no refusal, in parts
place_none : (F : ℕ → RuleFault) (o : Option ℕ) (next : Option RuleFault) → at_place F o next ≡ None → (o ≡ None) × (next ≡ None)
place_none F (Some i) next h = absurd (zero_one (cc))
place_none F None next h = (refl, h)

sorts_none : (S : Signature) (k : ℕ) (r : List ℕ) (o : Result (List (Option ℕ)) ℕ) → sort_wrong S k r o ≡ None → (vs : List (Option ℕ)) × (o ≡ Ok vs) × (right_wrong S k r vs ≡ None)
sorts_none S k r (Err i) h = absurd (zero_one (cc))
sorts_none S k r (Ok vs) h = (vs, refl, (place_none _ (right_wrong S k r vs) None h).0)

-- neither side is empty or too long
abbrev pub Short : Sides → Type 0
Short q = (0 < length q.left) × (length q.left ≤ longest_side) × (0 < length q.right) × (length q.right ≤ longest_side)

record NoFault (S : Signature) (f : ℕ) (q : Sides) : Type 0 where
  short : Short q
  no_cell : first_cell q.left ≡ None
  whole_left : not_whole S q.left ≡ None
  whole_right : not_whole S q.right ≡ None
  starts : starts_with f q.left ≡ true
  no_function : inner_function S q.left ≡ None
  once : first_twice q.left ≡ None
  none_new : first_new q.left q.right ≡ None
  known : List (Option ℕ)
  left_fine : left_sorts S (fn_sort S (own f) ∷ []) none_known q.left ≡ Ok known
  right_fine : right_wrong S (fn_sort S (own f)) q.right known ≡ None

no_fault : (S : Signature) (f : ℕ) (q : Sides) → rule_fault S f q ≡ None → NoFault S f q
no_fault S f q h =
    let z = or_none (word_faults S q) (shape_faults S f q) h in
    let a = none_test (bad_length q.left) _ _ z.0 in
    let b = none_test (bad_length q.right) _ _ a.1 in
    let c = place_none _ (first_not (is_declared S) q.left) _ b.1 in
    let d = place_none _ (first_not (is_declared S) q.right) _ c.1 in
    let e = place_none _ (first_cell q.left) _ d.1 in
    let g = place_none _ (not_whole S q.left) _ e.1 in
    let i = place_none _ (not_whole S q.right) _ g.1 in
    let j = none_test (not (starts_with f q.left)) _ _ z.1 in
    let k = place_none _ (inner_function S q.left) _ j.1 in
    let l = place_none _ (first_twice q.left) _ k.1 in
    let m = place_none _ (first_new q.left q.right) _ l.1 in
    let n = sorts_none S (fn_sort S (own f)) q.right (left_sorts S (fn_sort S (own f) ∷ []) none_known q.left) m.1 in
    let left_long = good_length q.left a.0 in
    let right_long = good_length q.right b.0 in
    record {
      short = (left_long.0, left_long.1, right_long.0, right_long.1);
      no_cell = e.0;
      whole_left = g.0;
      whole_right = i.0;
      starts = not-false (starts_with f q.left) j.0;
      no_function = k.0;
      once = l.0;
      none_new = m.0;
      known = n.0;
      left_fine = n.1;
      right_fine = n.2;
    }

-- the rule that two words without fault are
pub record RuleFound (S : Signature) (f : ℕ) (q : Sides) : Type 0 where
  pub rule : Rule
  pub is_read : rule_of S q ≡ Some rule
  pub same : written rule ≡ q
  pub for : rule.function ≡ f
  pub correct : SortCorrect S rule
  pub linear : Linear (left_side rule)
  pub inside : Patterns rule.left
  pub short : Short q

pub find_rule : (S : Signature) (f : ℕ) (q : Sides) → FunctionAt S f → rule_fault S f q ≡ None → RuleFound S f q
find_rule S f q at h =
    let n = no_fault S f q h in
    let l = (tells_whole S q.left).0 n.whole_left in
    let r = (tells_whole S q.right).0 n.whole_right in
    let c = call_term S l.0 f l.2 at (ap (starts_with f) l.1 ∙ n.starts) in
    let e : word (fun (own f) c.0) ≡ q.left = ap word (sym c.1) ∙ l.1 in
    made S f q c.0 r.0 n (subst (Fits S) c.1 l.2) r.2 e r.1
  where
    made : (S : Signature) (f : ℕ) (q : Sides) (ts : Terms) (t : Term) → NoFault S f q → Fits S (fun (own f) ts) → Fits S t → word (fun (own f) ts) ≡ q.left → word t ≡ q.right → RuleFound S f q
    made S f q ts t n fl fr el er =
        let k : ℕ = fn_sort S (own f) in
        let l : Term = fun (own f) ts in
        let right : wrong_place (walk S (given n.known) (k ∷ []) ((word t ++ []) ++ [])) ≡ None =
        ap (λ (w : List ℕ). wrong_place (walk S (given n.known) (k ∷ []) w)) (append-nil (word t ++ []) ∙ append-nil (word t) ∙ er) ∙ n.right_fine in
        record {
          rule = record { function = f; left = ts; right = t };
          is_read =
              ap (λ (o : Option Term). onward o (λ u. onward (read S q.right) (rule_between u))) ((reads_back S q.left l).1 (el, fl))
              ∙ ap (λ (o : Option Term). onward o (rule_between l)) ((reads_back S q.right t).1 (er, fr));
          same = ap₂ sides el er;
          for = refl;
          correct = record {
            sorts = given n.known;
            left_sorted = left_sorted S l k n.known fl (ap first_twice el ∙ n.once) (ap (left_sorts S (k ∷ []) none_known) el ∙ n.left_fine);
            right_sorted = (sorted_words S (given n.known) (t ▸ nil) (k ∷ []) [] [] (fr, tt) refl right).0.0;
            none_new = λ x m.
                let small = var_below S t x fr m in
                let in_right : stands_in (letter_for x) q.right ≡ true = ap (stands_in (letter_for x)) (sym er) ∙ mem_word S t x m in
                let old = that_at (is_new q.left) (letter_for x) q.right n.none_new in_right in
                word_mem S l x fl small (ap (stands_in (letter_for x)) el ∙ not_new (is_variable (letter_for x)) (stands_in (letter_for x) q.left) (var_is S x small) old);
          };
          linear = different_linear l (linear_word S l fl (ap first_twice el ∙ n.once));
          inside = patterns_of S ts fl.2 (that_cons is_cell (number (call (own f))) (words ts) (ap first_cell el ∙ n.no_cell)).1 (more_none (first_that (is_function S) (words ts)) (ap (inner_function S) el ∙ n.no_function));
          short = n.short;
        }
      where
        not_new : (b c : Bool) → b ≡ true → (b && not c) ≡ false → c ≡ true
        not_new true c e g = not-false c g
        not_new false c e g = absurd (both_ways false refl e)

-- functions alone promise rules
pub role_promises : (o : Role) (p : ℕ) → promise_fits o p ≡ true → (0 < p) ↔ (o ≡ Function)
role_promises Constructor p h = let e = eqb-true p 0 h in ((λ l. absurd (omega arith)), (λ r. absurd (zero_one (cc))))
role_promises Function p h = ((λ l. refl), (λ r. ltb-true 0 p h))
role_promises Operation p h = let e = eqb-true p 0 h in ((λ l. absurd (omega arith)), (λ r. absurd (zero_one (cc))))

-- a function in turn was declared as one
record Promising (ds : List Declaration) (s f : ℕ) : Type 0 where
  place : ℕ
  declaration : Declaration
  is : f ≡ s + place
  there : slice_get ds place ≡ Some declaration
  role : declaration.role ≡ Function

promising : (ds : List Declaration) (ps : List ℕ) (s n f : ℕ) → promises_fit ds ps ≡ true → slice_get (in_turn s ps) n ≡ Some f → Promising ds s f
promising [] [] s n f h e = absurd (zero_one (cc))
promising [] (p ∷ ps) s n f h e = absurd (both_ways false refl h)
promising (d ∷ ds) [] s n f h e = absurd (both_ways false refl h)
promising (d ∷ ds) (p ∷ ps) s n f h e =
    let a = and_parts (promise_fits d.role p) (promises_fit ds ps) h in
    go (role_promises d.role p a.0).0 (λ m g. promising ds ps (suc s) m f a.1 g) p n (omega arith) e
  where
    go : (0 < p → d.role ≡ Function) → ((m : ℕ) → slice_get (in_turn (suc s) ps) m ≡ Some f → Promising ds (suc s) f) → (q m : ℕ) → q ≤ p → slice_get (replicate q s ++ in_turn (suc s) ps) m ≡ Some f → Promising (d ∷ ds) s f
    go r ih zero m l g = let i = ih m g in let e = i.is in record { place = suc i.place; declaration = i.declaration; is = omega arith; there = i.there; role = i.role }
    go r ih (suc q) zero l g = record { place = 0; declaration = d; is = (let e : s ≡ f = cc in omega arith); there = refl; role = r (omega arith) }
    go r ih (suc q) (suc m) l g = go r ih q m (omega arith) g

-- the same declarations stand first
same_roles : (a b : Role) → same_role a b ≡ true → a ≡ b
same_roles Constructor Constructor h = refl
same_roles Constructor Function h = absurd (both_ways false refl h)
same_roles Constructor Operation h = absurd (both_ways false refl h)
same_roles Function Constructor h = absurd (both_ways false refl h)
same_roles Function Function h = refl
same_roles Function Operation h = absurd (both_ways false refl h)
same_roles Operation Constructor h = absurd (both_ways false refl h)
same_roles Operation Function h = absurd (both_ways false refl h)
same_roles Operation Operation h = refl

declared_alike : (a b : Declaration) → same_declaration a b ≡ true → a ≡ b
declared_alike a b h =
    let p = and_parts (bytes_eq a.name b.name) _ h in
    let q = and_parts (same_role a.role b.role) _ p.1 in
    let r = and_parts (bytes_eq a.args b.args) (eqb a.sort b.sort) q.1 in
    ap₂ (λ (n : List ℕ) (o : Role). record { name = n; role = o; args = a.args; sort = a.sort }) (same_equal a.name b.name p.0) (same_roles a.role b.role q.0)
    ∙ ap₂ (λ (ks : List ℕ) (k : ℕ). record { name = b.name; role = b.role; args = ks; sort = k }) (same_equal a.args b.args r.0) (eqb-true a.sort b.sort r.1)

pub first_same : (bs ds : List Declaration) (s : ℕ) (d : Declaration) → begins_with bs ds ≡ true → slice_get bs s ≡ Some d → slice_get ds s ≡ Some d
first_same [] ds s d h e = absurd (zero_one (cc))
first_same (b ∷ bs) [] s d h e = absurd (both_ways false refl h)
first_same (b ∷ bs) (y ∷ ds) zero d h e = ap Some (declared_alike y b (and_parts (same_declaration y b) (begins_with bs ds) h).0) ∙ e
first_same (b ∷ bs) (y ∷ ds) (suc s) d h e = first_same bs ds s d (and_parts (same_declaration y b) (begins_with bs ds) h).1 e

not_operation : (S : Signature) (f : ℕ) (b d : Declaration) → begins_with built_in.symbols S.symbols ≡ true → slice_get built_in.symbols f ≡ Some b → b.role ≡ Operation → slice_get S.symbols f ≡ Some d → d.role ≡ Function → ⊥
not_operation S f b d h e o t r =
    let q = first_same built_in.symbols S.symbols f b h e in
    let i : b ≡ d = cc in
    let z : Operation ≡ Function = sym o ∙ ap (λ (y : Declaration). y.role) i ∙ r in
    zero_one (cc)

pub function_at : (S : Signature) (ps : List ℕ) (n f : ℕ) → promises_fit S.symbols ps ≡ true → begins_with built_in.symbols S.symbols ≡ true → length S.symbols ≤ 96 → slice_get (in_turn 0 ps) n ≡ Some f → FunctionAt S f
function_at S ps n f h b few e =
    let p = promising S.symbols ps 0 n f h e in
    let i : f ≡ p.place = (let q = p.is in omega arith) in
    let there : slice_get S.symbols f ≡ Some p.declaration = ap (slice_get S.symbols) i ∙ p.there in
    record { declaration = p.declaration; there = there; role = p.role; past = go f there; few = (let l = nth_below S.symbols f p.declaration there in omega arith) }
  where
    nth_below : (ds : List Declaration) (j : ℕ) (d : Declaration) → slice_get ds j ≡ Some d → j < length ds
    nth_below [] j d g = absurd (zero_one (cc))
    nth_below (y ∷ ds) zero d g = omega arith
    nth_below (y ∷ ds) (suc j) d g = let l = nth_below ds j d g in omega arith

    go : (j : ℕ) → slice_get S.symbols j ≡ Some (promising S.symbols ps 0 n f h e).declaration → 3 ≤ j
    go zero g = absurd (not_operation S 0 _ (promising S.symbols ps 0 n f h e).declaration b refl refl g (promising S.symbols ps 0 n f h e).role)
    go (suc zero) g = absurd (not_operation S 1 _ (promising S.symbols ps 0 n f h e).declaration b refl refl g (promising S.symbols ps 0 n f h e).role)
    go (suc (suc zero)) g = absurd (not_operation S 2 _ (promising S.symbols ps 0 n f h e).declaration b refl refl g (promising S.symbols ps 0 n f h e).role)
    go (suc (suc (suc j))) g = omega arith

-- the rules rs of all words that stand in turn
pub record RulesFound (S : Signature) (fs : List ℕ) (qs : List Sides) (rs : List Rule) : Type 0 where
  pub same : map written rs ≡ qs
  pub for : map (λ (r : Rule). r.function) rs ≡ take (length qs) fs
  pub correct : (r : Rule) → Memᴰ r rs → SortCorrect S r
  pub linear : (r : Rule) → Memᴰ r rs → Linear (left_side r)
  pub inside : (r : Rule) → Memᴰ r rs → Patterns r.left
  pub short : (q : Sides) → Memᴰ q qs → Short q

-- what holds of the first and of each later one holds of each
each : {A : Type 0} (P : A → Type 0) (x : A) (xs : List A) → P x → ((y : A) → Memᴰ y xs → P y) → (y : A) → Memᴰ y (x ∷ xs) → P y
each P x xs p h y (Memᴰ.head e) = subst P (sym e) p
each P x xs p h y (Memᴰ.tail m) = h y m

no_more : (o : Option RuleFault) → faultless o ≡ true → o ≡ None
no_more None h = refl
no_more (Some e) h = absurd (both_ways false refl h)

pub find_rules : (S : Signature) (fs : List ℕ) (qs : List Sides) → ((n f : ℕ) → slice_get fs n ≡ Some f → FunctionAt S f) → stand_in_turn S fs qs ≡ true → RulesFound S fs qs (rules_read S qs)
find_rules S fs [] at h = record { same = refl; for = refl; correct = λ r m. elim m [ ]; linear = λ r m. elim m [ ]; inside = λ r m. elim m [ ]; short = λ q m. elim m [ ] }
find_rules S [] (q ∷ qs) at h = absurd (both_ways false refl h)
find_rules S (f ∷ fs) (q ∷ qs) at h =
    let p = and_parts (faultless (rule_fault S f q)) (stand_in_turn S fs qs) h in
    let a = find_rule S f q (at 0 f refl) (no_more (rule_fault S f q) p.0) in
    let rs = rules_read S qs in
    let b = find_rules S fs qs (λ n g e. at (suc n) g e) p.1 in
    subst (RulesFound S (f ∷ fs) (q ∷ qs)) (ap (λ (o : Option Rule). rule_before o rs) (sym a.is_read)) (record {
      same = ap₂ (λ (x : Sides) (xs : List Sides). x ∷ xs) a.same b.same;
      for = ap₂ (λ (x : ℕ) (xs : List ℕ). x ∷ xs) a.for b.for;
      correct = each (SortCorrect S) a.rule rs a.correct b.correct;
      linear = each (λ r. Linear (left_side r)) a.rule rs a.linear b.linear;
      inside = each (λ r. Patterns r.left) a.rule rs a.inside b.inside;
      short = each Short q qs a.short b.short;
    })
