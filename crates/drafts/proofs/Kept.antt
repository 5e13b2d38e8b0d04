-- What is declared without fault leaves a draft sound.
use Rattle.std.proofs.Common.{◌≡◌, ℕ, zero, suc, ◌+◌, ◌<◌, ◌≤◌, Bool, true, false, cond, not, ◌&&◌, ◌||◌, eqb, ltb, leb, List, [], ◌∷◌, ◌++◌, map, length, drop, Some, None, Option, sym, refl, ap, ◌∙◌, subst, append_assoc, append-nil, arith}
use Rattle.std.specs.Str.{bytes_eq}
use Rattle.std.proofs.lemmas.Bool.Decides.{same_from_decides, Decides-eqb, Decides-like}
use Rattle.std.proofs.lemmas.List.{length-append, map-append}
use Rattle.std.proofs.lemmas.Bool.{and_parts, and_from, or_parts, or_from, not-true, not-false, both_ways, eqb-true, eqb-false, lt-ltb, leb-true, leb-false, le-leb, ltb-false}
use Rattle.terms.specs.declared.signature.Role.TheVariants.{Constructor, Function, Operation}
use Rattle.terms.specs.Names.{well_formed, find_name}
use Rattle.terms.specs.Roots.{is_constructor}
use Rattle.terms.specs.Signatures.{Declaration, Signature, built_in}
use Rattle.terms.proofs.Letters.{zero_one}
use Rattle.words.proofs.Faultless.{or_none}
use Rattle.drafts.specs.Drafts.{Sides, Draft, in_turn, total, most_rules}
use Rattle.drafts.specs.Contents.{names, is_found, is_taken, is_keyword, some_rule, all_below, name_fault, sorts_fault, sorts_full, sort_fault, symbol_fault, constructor_fault, function_fault, with_sort, with_symbol}
use Rattle.drafts.specs.Soundness.{distinct, sorts_below, no_number_made, begins_with, same_role, same_declaration, no_operation, promise_fits, promises_fit, stand_in_turn, contents_sound, is_sound}
use Rattle.drafts.proofs.Lists.{found_cons, found_append, below_wider, total_push}

-- no refusal, in parts
pub none_test : {F : Type 0} (t : Bool) (f : F) (o : Option F) → cond t (Some f) o ≡ None → (t ≡ false) × (o ≡ None)
none_test true f o h = absurd (zero_one (cc))
none_test false f o h = (refl, h)

no_rules : (rs : List Sides) → some_rule rs ≡ false → rs ≡ []
no_rules [] h = refl
no_rules (r ∷ rs) h = absurd (zero_one (cc))

-- names that are the same
pub eqb_swap : (a b : ℕ) → eqb a b ≡ eqb b a
eqb_swap a b = same_from_decides (eqb a b) (eqb b a) (Decides-eqb a b) (Decides-like (eqb b a) sym sym (Decides-eqb b a))

same_swap : (m n : List ℕ) → bytes_eq m n ≡ bytes_eq n m
same_swap [] [] = refl
same_swap [] (y ∷ n) = refl
same_swap (x ∷ m) [] = refl
same_swap (x ∷ m) (y ∷ n) = ap (λ b. b && bytes_eq m n) (eqb_swap x y) ∙ ap (λ b. eqb y x && b) (same_swap m n)

pub same_equal : (m n : List ℕ) → bytes_eq m n ≡ true → m ≡ n
same_equal [] [] h = refl
same_equal [] (y ∷ n) h = absurd (both_ways false refl h)
same_equal (x ∷ m) [] h = absurd (both_ways false refl h)
same_equal (x ∷ m) (y ∷ n) h =
    let p = and_parts (eqb x y) (bytes_eq m n) h in
    ap (λ z. z ∷ m) (eqb-true x y p.0) ∙ ap (λ (w : List ℕ). y ∷ w) (same_equal m n p.1)

-- a new name anywhere among different ones
distinct_insert : (us vs : List (List ℕ)) (n : List ℕ) → distinct (us ++ vs) ≡ true → is_found (find_name (us ++ vs) n) ≡ false → distinct (us ++ (n ∷ vs)) ≡ true
distinct_insert [] vs n d f = and_from (not (is_found (find_name vs n))) (distinct vs) (ap not f) d
distinct_insert (u ∷ us) vs n d f =
    let p = and_parts (not (is_found (find_name (us ++ vs) u))) (distinct (us ++ vs)) d in
    let q = or_parts (bytes_eq u n) (is_found (find_name (us ++ vs) n)) (sym (found_cons u (us ++ vs) n) ∙ f) in
    let a = or_parts (is_found (find_name us u)) (is_found (find_name vs u)) (sym (found_append us vs u) ∙ not-true (is_found (find_name (us ++ vs) u)) p.0) in
    let b : is_found (find_name (n ∷ vs) u) ≡ false = found_cons n vs u ∙ or_from (bytes_eq n u) (is_found (find_name vs u)) (same_swap n u ∙ q.0) a.1 in
    let g : is_found (find_name (us ++ (n ∷ vs)) u) ≡ false = found_append us (n ∷ vs) u ∙ or_from (is_found (find_name us u)) (is_found (find_name (n ∷ vs) u)) a.0 b in
    and_from (not (is_found (find_name (us ++ (n ∷ vs)) u))) (distinct (us ++ (n ∷ vs))) (ap not g) (distinct_insert us vs n p.1 q.1)

-- more sorts
sorts_wider : (m k : ℕ) (ds : List Declaration) → m ≤ k → sorts_below m ds ≡ true → sorts_below k ds ≡ true
sorts_wider m k [] l h = refl
sorts_wider m k (d ∷ ds) l h =
    let p = and_parts (all_below m (d.sort ∷ d.args)) (sorts_below m ds) h in
    and_from (all_below k (d.sort ∷ d.args)) (sorts_below k ds) (below_wider m k (d.sort ∷ d.args) l p.0) (sorts_wider m k ds l p.1)

-- one symbol more
sorts_push : (m : ℕ) (ds : List Declaration) (d : Declaration) → sorts_below m ds ≡ true → all_below m (d.sort ∷ d.args) ≡ true → sorts_below m (ds ++ (d ∷ [])) ≡ true
sorts_push m [] d h e = and_from (all_below m (d.sort ∷ d.args)) true e refl
sorts_push m (y ∷ ds) d h e =
    let p = and_parts (all_below m (y.sort ∷ y.args)) (sorts_below m ds) h in
    and_from (all_below m (y.sort ∷ y.args)) (sorts_below m (ds ++ (d ∷ []))) p.0 (sorts_push m ds d p.1 e)

numbers_push : (ds : List Declaration) (d : Declaration) → no_number_made ds ≡ true → (not (is_constructor d.role) || ltb 0 d.sort) ≡ true → no_number_made (ds ++ (d ∷ [])) ≡ true
numbers_push [] d h e = and_from (not (is_constructor d.role) || ltb 0 d.sort) true e refl
numbers_push (y ∷ ds) d h e =
    let p = and_parts (not (is_constructor y.role) || ltb 0 y.sort) (no_number_made ds) h in
    and_from (not (is_constructor y.role) || ltb 0 y.sort) (no_number_made (ds ++ (d ∷ []))) p.0 (numbers_push ds d p.1 e)

begins_push : (bs ds : List Declaration) (d : Declaration) → begins_with bs ds ≡ true → begins_with bs (ds ++ (d ∷ [])) ≡ true
begins_push [] ds d h = refl
begins_push (b ∷ bs) [] d h = absurd (both_ways false refl h)
begins_push (b ∷ bs) (y ∷ ds) d h =
    let p = and_parts (same_declaration y b) (begins_with bs ds) h in
    and_from (same_declaration y b) (begins_with bs (ds ++ (d ∷ []))) p.0 (begins_push bs ds d p.1)

-- no operation past a place, with one declaration more
pub operations_push : (n : ℕ) (ds : List Declaration) (d : Declaration) → no_operation (drop n ds) ≡ true → not (same_role d.role Operation) ≡ true → no_operation (drop n (ds ++ (d ∷ []))) ≡ true
operations_push zero [] d h e = and_from (not (same_role d.role Operation)) true e refl
operations_push zero (y ∷ ds) d h e =
    let p = and_parts (not (same_role y.role Operation)) (no_operation ds) h in
    and_from (not (same_role y.role Operation)) (no_operation (ds ++ (d ∷ []))) p.0 (operations_push zero ds d p.1 e)
operations_push (suc n) [] d h e = none n
  where
    none : (m : ℕ) → no_operation (drop m []) ≡ true
    none zero = refl
    none (suc m) = refl
operations_push (suc n) (y ∷ ds) d h e = operations_push n ds d h e

promises_push : (ds : List Declaration) (ps : List ℕ) (d : Declaration) (p : ℕ) → promises_fit ds ps ≡ true → promise_fits d.role p ≡ true → promises_fit (ds ++ (d ∷ [])) (ps ++ (p ∷ [])) ≡ true
promises_push [] [] d p h e = and_from (promise_fits d.role p) true e refl
promises_push [] (q ∷ ps) d p h e = absurd (both_ways false refl h)
promises_push (y ∷ ds) [] d p h e = absurd (both_ways false refl h)
promises_push (y ∷ ds) (q ∷ ps) d p h e =
    let a = and_parts (promise_fits y.role q) (promises_fit ds ps) h in
    and_from (promise_fits y.role q) (promises_fit (ds ++ (d ∷ [])) (ps ++ (p ∷ []))) a.0 (promises_push ds ps d p a.1 e)

-- a sound draft, in parts
pub record SoundParts (S : Signature) (ps : List ℕ) : Type 0 where
  pub apart : distinct (names S) ≡ true
  pub declared : sorts_below (length S.sorts) S.symbols ≡ true
  pub no_numbers : no_number_made S.symbols ≡ true
  pub built : begins_with built_in.symbols S.symbols ≡ true
  pub promise : promises_fit S.symbols ps ≡ true
  pub few : total ps ≤ most_rules

pub parts_of : (S : Signature) (ps : List ℕ) → contents_sound S ps ≡ true → SoundParts S ps
parts_of S ps h =
    let a = and_parts (distinct (names S)) _ h in
    let b = and_parts (sorts_below (length S.sorts) S.symbols) _ a.1 in
    let c = and_parts (no_number_made S.symbols) _ b.1 in
    let d = and_parts (begins_with built_in.symbols S.symbols) _ c.1 in
    let e = and_parts (promises_fit S.symbols ps) (leb (total ps) most_rules) d.1 in
    record { apart = a.0; declared = b.0; no_numbers = c.0; built = d.0; promise = e.0; few = leb-true (total ps) most_rules e.1 }

sound_from : (S : Signature) (ps : List ℕ) → SoundParts S ps → contents_sound S ps ≡ true
sound_from S ps h =
    and_from (distinct (names S)) _ h.apart
    (and_from (sorts_below (length S.sorts) S.symbols) _ h.declared
    (and_from (no_number_made S.symbols) _ h.no_numbers
    (and_from (begins_with built_in.symbols S.symbols) _ h.built
    (and_from (promises_fit S.symbols ps) (leb (total ps) most_rules) h.promise (le-leb (total ps) most_rules h.few)))))

-- what a name without fault says
pub record NewName (D : Draft) (n : List ℕ) : Type 0 where
  pub no_rule : D.rules ≡ []
  pub form : well_formed n ≡ true
  pub free : is_found (find_name (names D.signature) n) ≡ false

pub new_name : (D : Draft) (n : List ℕ) → name_fault D n ≡ None → NewName D n
new_name D n h =
    let a = none_test (some_rule D.rules) _ _ h in
    let b = none_test (not (well_formed n)) _ _ a.1 in
    let c = none_test (is_taken D.signature n) _ _ b.1 in
    record {
      no_rule = no_rules D.rules a.0;
      form = not-false (well_formed n) b.0;
      free = (or_parts (is_found (find_name (names D.signature) n)) (is_keyword n) c.0).0;
    }

pub sort_kept : (D : Draft) (n : List ℕ) → is_sound D ≡ true → sort_fault D n ≡ None → is_sound (with_sort D n) ≡ true
sort_kept D n h e =
    let S = D.signature in
    let m = new_name D n (or_none (name_fault D n) (sorts_full D) e).0 in
    let c = parts_of S D.promised (and_parts (contents_sound S D.promised) _ h).0 in
    let T = (with_sort D n).signature in
    let fresh : distinct (names T) ≡ true = ap distinct (append_assoc S.sorts (n ∷ []) _) ∙ distinct_insert S.sorts (map (λ (d : Declaration). d.name) S.symbols) n c.apart m.free in
    and_from (contents_sound T D.promised) (stand_in_turn T (in_turn 0 D.promised) D.rules)
    (sound_from T D.promised (record {
      apart = fresh;
      declared = sorts_wider (length S.sorts) (length T.sorts) S.symbols (simp length-append (omega arith)) c.declared;
      no_numbers = c.no_numbers;
      built = c.built;
      promise = c.promise;
      few = c.few;
    }))
    (ap (stand_in_turn T (in_turn 0 D.promised)) m.no_rule)

-- a symbol that is new, and what else it must be
symbol_kept : (D : Draft) (d : Declaration) (p : ℕ) → is_sound D ≡ true → NewName D d.name → all_below (length D.signature.sorts) (d.sort ∷ d.args) ≡ true
    → (not (is_constructor d.role) || ltb 0 d.sort) ≡ true → promise_fits d.role p ≡ true → total D.promised + p ≤ most_rules → is_sound (with_symbol D d p) ≡ true
symbol_kept D d p h m k made pr few =
    let S = D.signature in
    let ps = D.promised ++ (p ∷ []) in
    let c = parts_of S D.promised (and_parts (contents_sound S D.promised) _ h).0 in
    let T = (with_symbol D d p).signature in
    let ns : List (List ℕ) = map (λ (y : Declaration). y.name) S.symbols in
    let at-end : names T ≡ names S ++ (d.name ∷ []) = ap (λ (l : List (List ℕ)). S.sorts ++ l) (map-append (λ (y : Declaration). y.name) S.symbols (d ∷ [])) ∙ sym (append_assoc S.sorts ns (d.name ∷ [])) in
    let fresh : distinct (names T) ≡ true = ap distinct at-end ∙ distinct_insert (names S) [] d.name (ap distinct (append-nil (names S)) ∙ c.apart) (ap (λ (l : List (List ℕ)). is_found (find_name l d.name)) (append-nil (names S)) ∙ m.free) in
    and_from (contents_sound T ps) (stand_in_turn T (in_turn 0 ps) D.rules)
    (sound_from T ps (record {
      apart = fresh;
      declared = sorts_push (length S.sorts) S.symbols d c.declared k;
      no_numbers = numbers_push S.symbols d c.no_numbers made;
      built = begins_push built_in.symbols S.symbols d c.built;
      promise = promises_push S.symbols D.promised d p c.promise pr;
      few = subst (λ t. t ≤ most_rules) (sym (total_push D.promised p)) few;
    }))
    (ap (stand_in_turn T (in_turn 0 ps)) m.no_rule)

-- what sorts without fault say
pub record KnownSorts (D : Draft) (ks : List ℕ) (k : ℕ) : Type 0 where
  pub all : all_below (length D.signature.sorts) (k ∷ ks) ≡ true
  pub four : length ks ≤ 4

pub known_sorts : (D : Draft) (ks : List ℕ) (k : ℕ) → sorts_fault D ks k ≡ None → KnownSorts D ks k
known_sorts D ks k h =
    let a = none_test (not (all_below (length D.signature.sorts) (k ∷ ks))) _ _ h in
    let b = none_test (ltb 4 (length ks)) _ _ a.1 in
    record { all = not-false (all_below (length D.signature.sorts) (k ∷ ks)) a.0; four = ltb-false 4 (length ks) b.0 }

-- a constructor without fault
pub record NewConstructor (D : Draft) (n ks : List ℕ) (k : ℕ) : Type 0 where
  pub name : NewName D n
  pub sorts : KnownSorts D ks k
  pub own : 2 ≤ k
  pub left : length D.signature.symbols < 96

pub new_constructor : (D : Draft) (n ks : List ℕ) (k : ℕ) → constructor_fault D n ks k ≡ None → NewConstructor D n ks k
new_constructor D n ks k h =
    let q = or_none (symbol_fault D n ks k) _ h in
    let a = or_none (name_fault D n) (sorts_fault D ks k) q.0 in
    let c = none_test (ltb k 2) _ _ q.1 in
    let d = none_test (leb 96 (length D.signature.symbols)) _ _ c.1 in
    record { name = new_name D n a.0; sorts = known_sorts D ks k a.1; own = ltb-false k 2 c.0; left = leb-false 96 (length D.signature.symbols) d.0 }

pub constructor_kept : (D : Draft) (n ks : List ℕ) (k : ℕ) → is_sound D ≡ true → NewConstructor D n ks k → is_sound (with_symbol D (record { name = n; role = Constructor; args = ks; sort = k }) 0) ≡ true
constructor_kept D n ks k h m =
    let c = parts_of D.signature D.promised (and_parts (contents_sound D.signature D.promised) _ h).0 in
    symbol_kept D (record { name = n; role = Constructor; args = ks; sort = k }) 0 h m.name m.sorts.all (lt-ltb 0 k (let o = m.own in omega arith)) refl (let f = c.few in omega arith)

-- a function without fault
pub record NewFunction (D : Draft) (n ks : List ℕ) (k p : ℕ) : Type 0 where
  pub name : NewName D n
  pub sorts : KnownSorts D ks k
  pub some : 0 < p
  pub few : total D.promised + p ≤ most_rules
  pub left : length D.signature.symbols < 96

pub new_function : (D : Draft) (n ks : List ℕ) (k p : ℕ) → function_fault D n ks k p ≡ None → NewFunction D n ks k p
new_function D n ks k p h =
    let q = or_none (symbol_fault D n ks k) _ h in
    let a = or_none (name_fault D n) (sorts_fault D ks k) q.0 in
    let c = none_test (eqb p 0 || ltb most_rules (total D.promised + p)) _ _ q.1 in
    let d = none_test (leb 96 (length D.signature.symbols)) _ _ c.1 in
    let e = or_parts (eqb p 0) (ltb most_rules (total D.promised + p)) c.0 in
    record {
      name = new_name D n a.0;
      sorts = known_sorts D ks k a.1;
      some = more_than_none p (eqb-false p 0 e.0);
      few = ltb-false most_rules (total D.promised + p) e.1;
      left = leb-false 96 (length D.signature.symbols) d.0;
    }
  where
    more_than_none : (m : ℕ) → (m ≡ 0 → ⊥) → 0 < m
    more_than_none zero g = absurd (g refl)
    more_than_none (suc m) g = omega arith

pub function_kept : (D : Draft) (n ks : List ℕ) (k p : ℕ) → is_sound D ≡ true → NewFunction D n ks k p → is_sound (with_symbol D (record { name = n; role = Function; args = ks; sort = k }) p) ≡ true
function_kept D n ks k p h m = symbol_kept D (record { name = n; role = Function; args = ks; sort = k }) p h m.name m.sorts.all refl (lt-ltb 0 p m.some) m.few
