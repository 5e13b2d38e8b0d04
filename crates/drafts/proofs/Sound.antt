-- Every draft is sound.
use Rattle.std.proofs.Common.{◌≡◌, ℕ, zero, suc, ◌<◌, ◌≤◌, Bool, true, false, not, ◌||◌, eqb, ltb, List, [], ◌∷◌, ◌++◌, map, length, drop, Some, sym, refl, ap, ◌∙◌, subst, ap₂, arith}
use mathlib.Core.List.{Memᴰ}
use Rattle.std.specs.List.{slice_get}
use Rattle.std.specs.Str.{bytes_eq}
use Rattle.std.proofs.lemmas.Bool.{and_parts, and_from, eq-eqb, both_ways, not-true, ltb-true}
use Rattle.terms.specs.declared.name.Name.{Name}
use Rattle.terms.specs.declared.signature.Entry.{Entry}
use Rattle.terms.specs.declared.signature.Signature.{Signature as Table}
use Rattle.terms.specs.declared.signature.Role.{Role}
use Rattle.terms.specs.declared.signature.Role.TheVariants.{Operation}
use Rattle.terms.specs.Names.{well_formed, find_name}
use Rattle.terms.specs.Signatures.{Declaration, built_in}
use Rattle.terms.specs.Roots.{is_constructor}
use Rattle.terms.specs.Sorting.{sort_in}
use Rattle.terms.specs.Views.{bytes_of, declaration, view}
use Rattle.terms.proofs.Letters.{zero_one}
use Rattle.terms.proofs.Tables.{symbols_fit, items_fit}
use Rattle.terms.specs.Rows.{items}
use Rattle.rewriting.specs.Rules.{Different}
use Rattle.drafts.specs.declared.draft.Draft.{Draft as Store}
use Rattle.drafts.specs.Drafts.{in_turn}
use Rattle.drafts.specs.Contents.{names, is_found, all_below}
use Rattle.drafts.specs.Soundness.{distinct, sorts_below, no_number_made, same_role, no_operation, promise_fits, promises_fit, contents_sound, stand_in_turn}
use Rattle.drafts.specs.Stores.{seen}
use Rattle.drafts.specs.Statements.{SoundContents, SoundRules}
use Rattle.drafts.specs.Books.{book_of, CountedContents, BookRules}
use Rattle.drafts.proofs.Kept.{SoundParts, parts_of}
use Rattle.drafts.proofs.Lists.{found_cons}
use Rattle.drafts.proofs.RuleTerms.{or_left, or_right}
use Rattle.drafts.proofs.Ruled.{letters_counted, rules_few}
use Rattle.drafts.proofs.SoundRules.{first_same, role_promises, function_at, find_rules}

-- names
mem_map : {A B : Type 0} (f : A → B) (P : B → Type 0) (xs : List A) → ((x : A) → P (f x)) → (y : B) → Memᴰ y (map f xs) → P y
mem_map f P [] h y m = elim m [ ]
mem_map f P (x ∷ xs) h y (Memᴰ.head e) = subst P (sym e) (h x)
mem_map f P (x ∷ xs) h y (Memᴰ.tail m) = mem_map f P xs h y m

mem_both : {A : Type 0} (P : A → Type 0) (xs ys : List A) → ((y : A) → Memᴰ y xs → P y) → ((y : A) → Memᴰ y ys → P y) → (y : A) → Memᴰ y (xs ++ ys) → P y
mem_both P [] ys g h y m = h y m
mem_both P (x ∷ xs) ys g h y (Memᴰ.head e) = g y (Memᴰ.head e)
mem_both P (x ∷ xs) ys g h y (Memᴰ.tail m) = mem_both P xs ys (λ z n. g z (Memᴰ.tail n)) h y m

name_of_entry : (es : List Entry) (n : List ℕ) → Memᴰ n (map (λ (d : Declaration). d.name) (map declaration es)) → well_formed n ≡ true
name_of_entry [] n m = elim m [ ]
name_of_entry (e ∷ es) n (Memᴰ.head q) = ap well_formed q ∙ e.name.formed
name_of_entry (e ∷ es) n (Memᴰ.tail m) = name_of_entry es n m

pub all_formed : (g : Table) (n : List ℕ) → Memᴰ n (names (view g)) → well_formed n ≡ true
all_formed g = mem_both (λ n. well_formed n ≡ true) (view g).sorts (map (λ (d : Declaration). d.name) (view g).symbols)
    (mem_map bytes_of (λ n. well_formed n ≡ true) (items g.sorts) (λ (x : Name). x.formed))
    (name_of_entry (items g.symbols))

same_self : (n : List ℕ) → bytes_eq n n ≡ true
same_self [] = refl
same_self (x ∷ n) = and_from (eqb x x) (bytes_eq n n) (eq-eqb x x refl) (same_self n)

found_mem : (ns : List (List ℕ)) (n : List ℕ) → Memᴰ n ns → is_found (find_name ns n) ≡ true
found_mem [] n m = elim m [ ]
found_mem (x ∷ ns) n (Memᴰ.head e) = found_cons x ns n ∙ or_left (bytes_eq x n) (is_found (find_name ns n)) (ap (λ (z : List ℕ). bytes_eq z n) (sym e) ∙ same_self n)
found_mem (x ∷ ns) n (Memᴰ.tail m) = found_cons x ns n ∙ or_right (bytes_eq x n) (is_found (find_name ns n)) (found_mem ns n m)

all_apart : (ns : List (List ℕ)) → distinct ns ≡ true → Different ns
all_apart [] h = tt
all_apart (n ∷ ns) h =
    let p = and_parts (not (is_found (find_name ns n))) (distinct ns) h in
    ((λ m. both_ways (is_found (find_name ns n)) (not-true (is_found (find_name ns n)) p.0) (found_mem ns n m)), all_apart ns p.1)

below_each : (m : ℕ) (ks : List ℕ) → all_below m ks ≡ true → (k : ℕ) → Memᴰ k ks → k < m
below_each m [] h k n = elim n [ ]
below_each m (j ∷ ks) h k (Memᴰ.head e) = subst (λ i. i < m) (sym e) (ltb-true j m (and_parts (ltb j m) (all_below m ks) h).0)
below_each m (j ∷ ks) h k (Memᴰ.tail n) = below_each m ks (and_parts (ltb j m) (all_below m ks) h).1 k n

sorts_each : (m : ℕ) (ds : List Declaration) → sorts_below m ds ≡ true → (d : Declaration) → Memᴰ d ds → (k : ℕ) → Memᴰ k (d.sort ∷ d.args) → k < m
sorts_each m [] h d n k i = elim n [ ]
sorts_each m (y ∷ ds) h d (Memᴰ.head e) k i = below_each m (y.sort ∷ y.args) (and_parts (all_below m (y.sort ∷ y.args)) (sorts_below m ds) h).0 k (subst (λ (z : Declaration). Memᴰ k (z.sort ∷ z.args)) e i)
sorts_each m (y ∷ ds) h d (Memᴰ.tail n) k i = sorts_each m ds (and_parts (all_below m (y.sort ∷ y.args)) (sorts_below m ds) h).1 d n k i

no_number : (ds : List Declaration) → no_number_made ds ≡ true → (s : ℕ) (d : Declaration) → slice_get ds s ≡ Some d → is_constructor d.role ≡ true → 0 < d.sort
no_number [] h s d e c = absurd (zero_one (cc))
no_number (y ∷ ds) h zero d e c =
    let i : y ≡ d = cc in
    subst (λ (z : Declaration). 0 < z.sort) i (go (is_constructor y.role) (and_parts (not (is_constructor y.role) || ltb 0 y.sort) (no_number_made ds) h).0 (ap (λ (z : Declaration). is_constructor z.role) i ∙ c))
  where
    go : (b : Bool) → (not b || ltb 0 y.sort) ≡ true → b ≡ true → 0 < y.sort
    go true g t = ltb-true 0 y.sort g
    go false g t = absurd (both_ways false refl t)
no_number (y ∷ ds) h (suc s) d e c = no_number ds (and_parts (not (is_constructor y.role) || ltb 0 y.sort) (no_number_made ds) h).1 s d e c

parts : (a : Store) → SoundParts (seen a).signature (seen a).promised
parts a = parts_of (seen a).signature (seen a).promised (and_parts (contents_sound (seen a).signature (seen a).promised) _ a.sound).0

-- no operation past a place
operations_before : (n : ℕ) (ds : List Declaration) → no_operation (drop n ds) ≡ true → (s : ℕ) (d : Declaration) → slice_get ds s ≡ Some d → d.role ≡ Operation → s < n
operations_before n [] h s d e r = absurd (zero_one (cc))
operations_before zero (y ∷ ds) h zero d e r =
    let i : y ≡ d = cc in
    absurd (both_ways (not (same_role y.role Operation)) (ap (λ (o : Role). not (same_role o Operation)) (ap (λ (z : Declaration). z.role) i ∙ r)) (and_parts (not (same_role y.role Operation)) (no_operation ds) h).0)
operations_before zero (y ∷ ds) h (suc s) d e r =
    let i = operations_before zero ds (and_parts (not (same_role y.role Operation)) (no_operation ds) h).1 s d e r in
    omega arith
operations_before (suc n) (y ∷ ds) h zero d e r = omega arith
operations_before (suc n) (y ∷ ds) h (suc s) d e r = let i = operations_before n ds h s d e r in omega arith

-- as many promises as symbols
promised_each : (ds : List Declaration) (ps : List ℕ) → promises_fit ds ps ≡ true → length ps ≡ length ds
promised_each [] [] h = refl
promised_each [] (p ∷ ps) h = absurd (both_ways false refl h)
promised_each (d ∷ ds) [] h = absurd (both_ways false refl h)
promised_each (d ∷ ds) (p ∷ ps) h = ap suc (promised_each ds ps (and_parts (promise_fits d.role p) (promises_fit ds ps) h).1)

-- and each promise fits its symbol
promise_at : (ds : List Declaration) (ps : List ℕ) → promises_fit ds ps ≡ true → (s : ℕ) (d : Declaration) (p : ℕ) → slice_get ds s ≡ Some d → slice_get ps s ≡ Some p → promise_fits d.role p ≡ true
promise_at [] ps h s d p e g = absurd (zero_one (cc))
promise_at (y ∷ ds) [] h s d p e g = absurd (both_ways false refl h)
promise_at (y ∷ ds) (q ∷ ps) h zero d p e g =
    let i : y ≡ d = cc in
    let j : q ≡ p = cc in
    ap₂ (λ (z : Declaration) (n : ℕ). promise_fits z.role n) (sym i) (sym j) ∙ (and_parts (promise_fits y.role q) (promises_fit ds ps) h).0
promise_at (y ∷ ds) (q ∷ ps) h (suc s) d p e g = promise_at ds ps (and_parts (promise_fits y.role q) (promises_fit ds ps) h).1 s d p e g

few_symbols : (a : Store) → length (seen a).signature.symbols ≤ 96
few_symbols a = symbols_fit a.signature

pub sound_contents : (a : Store) → SoundContents (seen a).signature
sound_contents a =
    let S = (seen a).signature in
    let p = parts a in
    record {
      formed = all_formed a.signature;
      apart = all_apart (names S) p.apart;
      declared = sorts_each (length S.sorts) S.symbols p.declared;
      proper = record {
        built_in_first = λ s d e. first_same built_in.symbols S.symbols s d p.built e;
        cells_alone = λ s h e.
            let l = no_number S.symbols p.no_numbers s h.0 h.1 h.2 in
            let q : h.0.sort ≡ 0 = sym (ap sort_in h.1) ∙ e in
            zero_one (omega arith);
      };
    }

pub counted_contents : (a : Store) → CountedContents (seen a)
counted_contents a =
    let S = (seen a).signature in
    let ps = (seen a).promised in
    let p = parts a in
    record {
      operations = operations_before 3 S.symbols a.operations;
      one_each = promised_each S.symbols ps p.promise;
      promises = λ s d n e g. role_promises d.role n (promise_at S.symbols ps p.promise s d n e g);
      few_symbols = few_symbols a;
      few = p.few;
    }

pub book_rules : (a : Store) → BookRules (seen a)
book_rules a =
    let D = seen a in
    let p = parts a in
    let r = find_rules D.signature (in_turn 0 D.promised) D.rules (λ n g e. function_at D.signature D.promised n g p.promise p.built (few_symbols a) e)
    (and_parts (contents_sound D.signature D.promised) (stand_in_turn D.signature (in_turn 0 D.promised) D.rules) a.sound).1 in
    record {
      as_written = r.same;
      in_order = r.for;
      sort_correct = r.correct;
      left_linear = r.linear;
      patterns = r.inside;
      few_rules = rules_few a;
      short = r.short;
      room = (let l = letters_counted a in let f = items_fit a.letters in omega arith);
    }

pub sound_rules : (a : Store) → SoundRules (seen a)
sound_rules a =
    let b = book_rules a in
    record { rules = (book_of (seen a)).rules; as_written = b.as_written; in_order = b.in_order; sort_correct = b.sort_correct; left_linear = b.left_linear; patterns = b.patterns }
