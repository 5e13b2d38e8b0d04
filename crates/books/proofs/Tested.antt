-- The tests of rule sets tell what they should.
use Rattle.std.proofs.Common.{is_some, is_none, ◌≡◌, ℕ, zero, suc, ◌+◌, Bool, true, ◌&&◌, eqb, List, [], ◌∷◌, Some, None, Option, sym, refl, ap, ◌∙◌, subst, ap₂, arith}
use Rattle.std.specs.Bool.{Decides}
use Rattle.std.specs.Option.{option_eq}
use Rattle.std.proofs.lemmas.Bool.{and_parts, and_from, eqb-true, eq-eqb}
use Rattle.std.proofs.lemmas.Bool.Decides.{Decides-eqb, Decides-and, Decides-like}
use Rattle.std.proofs.lemmas.Slice.Eq.{slice_eq-Decides, bytes_eq-Decides}
use Rattle.terms.specs.declared.signature.Role.{Role}
use Rattle.terms.specs.declared.signature.Role.TheVariants.{Constructor, Function, Operation}
use Rattle.terms.specs.Terms.{Head, Term, var, con, fun, Terms, nil, ◌▸◌}
use Rattle.terms.specs.Signatures.{Declaration}
use Rattle.terms.proofs.Letters.{zero_one}
use Rattle.rewriting.specs.Rules.{Rule, Book}
use Rattle.rewriting.specs.Trees.{Node as Tree}
use Rattle.rewriting.specs.FixedTree.{same_head, same_fn, fixed_tree}
use Rattle.rewriting.proofs.Basics.{same_head_true, same_head_same, same_fn_true}
use Rattle.rewriting.proofs.Variants.{same_fn_same}
use Rattle.drafts.specs.declared.draft.Draft.{Draft}
use Rattle.drafts.specs.Drafts.{awaited}
use Rattle.drafts.specs.Books.{book_of}
use Rattle.drafts.specs.Stores.{seen}
use Rattle.drafts.proofs.Sound.{sound_contents, counted_contents, book_rules}
use Rattle.trees.specs.declared.trees.Trees.{Trees}
use Rattle.trees.specs.Checks.{check_fault}
use Rattle.trees.specs.Layout.{SeenKind, applies, branches, SeenNode, Layout, laid_out}
use Rattle.trees.specs.Standing.{layout_of, LaidOut, AllRooted}
use Rattle.trees.proofs.Different.{rules_differ}
use Rattle.trees.proofs.Rooting.{function_stands, stands_function}
use Rattle.trees.proofs.Laid.{Fixed, later, all_rooted, others_rootless, all_on_trees, nodes_only}
use Rattle.books.specs.Statements.{SoundSet}
use Rattle.books.specs.Soundness.{same_term, same_terms, same_rule, has_fixed, all_fixed, same_link, same_kind, same_seen, same_layout, is_laid, set_sound, is_accepted}

-- terms and rules
mutual
  same_term_true : (t u : Term) → same_term t u ≡ true → t ≡ u
  same_term_true (var x) (var y) e = ap var (eqb-true x y e)
  same_term_true (var x) (con d us) e = absurd (zero_one (cc))
  same_term_true (var x) (fun g us) e = absurd (zero_one (cc))
  same_term_true (con c ts) (var y) e = absurd (zero_one (cc))
  same_term_true (con c ts) (con d us) e = let p = and_parts (same_head c d) (same_terms ts us) e in ap₂ con (same_head_true c d p.0) (same_terms_true ts us p.1)
  same_term_true (con c ts) (fun g us) e = absurd (zero_one (cc))
  same_term_true (fun f ts) (var y) e = absurd (zero_one (cc))
  same_term_true (fun f ts) (con d us) e = absurd (zero_one (cc))
  same_term_true (fun f ts) (fun g us) e = let p = and_parts (same_fn f g) (same_terms ts us) e in ap₂ fun (same_fn_true f g p.0) (same_terms_true ts us p.1)

  same_terms_true : (ts us : Terms) → same_terms ts us ≡ true → ts ≡ us
  same_terms_true nil nil e = refl
  same_terms_true nil (u ▸ us) e = absurd (zero_one (cc))
  same_terms_true (t ▸ ts) nil e = absurd (zero_one (cc))
  same_terms_true (t ▸ ts) (u ▸ us) e = let p = and_parts (same_term t u) (same_terms ts us) e in ap₂ ◌▸◌ (same_term_true t u p.0) (same_terms_true ts us p.1)

mutual
  same_term_self : (t : Term) → same_term t t ≡ true
  same_term_self (var x) = eq-eqb x x refl
  same_term_self (con c ts) = and_from (same_head c c) (same_terms ts ts) (same_head_same c) (same_terms_self ts)
  same_term_self (fun f ts) = and_from (same_fn f f) (same_terms ts ts) (same_fn_same f) (same_terms_self ts)

  same_terms_self : (ts : Terms) → same_terms ts ts ≡ true
  same_terms_self nil = refl
  same_terms_self (t ▸ ts) = and_from (same_term t t) (same_terms ts ts) (same_term_self t) (same_terms_self ts)

same_rule_true : (r q : Rule) → same_rule r q ≡ true → r ≡ q
same_rule_true r q e =
    let a = and_parts (eqb r.function q.function) (same_terms r.left q.left && same_term r.right q.right) e in
    let b = and_parts (same_terms r.left q.left) (same_term r.right q.right) a.1 in
    let f = eqb-true r.function q.function a.0 in
    let l = same_terms_true r.left q.left b.0 in
    let g = same_term_true r.right q.right b.1 in
    ap₂ (λ (x : ℕ) (ts : Terms). record { function = x; left = ts; right = r.right }) f l ∙ ap (λ (u : Term). record { function = q.function; left = q.left; right = u }) g

same_rule_self : (r : Rule) → same_rule r r ≡ true
same_rule_self r = and_from (eqb r.function r.function) (same_terms r.left r.left && same_term r.right r.right) (eq-eqb r.function r.function refl)
    (and_from (same_terms r.left r.left) (same_term r.right r.right) (same_terms_self r.left) (same_term_self r.right))

-- layouts: part by part, a test tells whether two are equal
option_decides : {A : Type 0} {E : A → A → Bool} → ((x y : A) → Decides (E x y) (x ≡ y)) → (o p : Option A) → Decides (option_eq E o p) (o ≡ p)
option_decides h None None = (λ e. refl, λ e. refl)
option_decides h None (Some y) = (λ e. cc, λ e. cc)
option_decides h (Some x) None = (λ e. cc, λ e. cc)
option_decides h (Some x) (Some y) = Decides-like _ (ap Some) (λ e. cc) (h x y)

link_decides : (i j : Option ℕ) → Decides (same_link i j) (i ≡ j)
link_decides = option_decides Decides-eqb

rule_decides : (r q : Rule) → Decides (same_rule r q) (r ≡ q)
rule_decides r q = (same_rule_true r q, λ e. subst (λ (x : Rule). same_rule r x ≡ true) e (same_rule_self r))

head_decides : (c d : Head) → Decides (same_head c d) (c ≡ d)
head_decides c d = (same_head_true c d, λ e. subst (λ (x : Head). same_head c x ≡ true) e (same_head_same c))

kind_decides : (a b : SeenKind) → Decides (same_kind a b) (a ≡ b)
kind_decides (applies r) (applies q) = Decides-like _ (ap applies) (λ e. cc) (option_decides rule_decides r q)
kind_decides (applies r) (branches q j) = (λ e. cc, λ e. cc)
kind_decides (branches p i) (applies q) = (λ e. cc, λ e. cc)
kind_decides (branches p i) (branches q j) = Decides-like _ (λ e. ap₂ branches e.0 e.1) (λ e. (cc, cc)) (Decides-and _ _ (bytes_eq-Decides p q) (link_decides i j))

seen_decides : (m n : SeenNode) → Decides (same_seen m n) (m ≡ n)
seen_decides m n =
    Decides-like _
    (λ e. ap₂ (λ (c : Head) (p : SeenKind). record { under = c; kind = p; next = m.next }) e.0 e.1.0 ∙ ap (λ (o : Option ℕ). record { under = n.under; kind = n.kind; next = o }) e.1.1)
    (λ e. (ap (λ (x : SeenNode). x.under) e, (ap (λ (x : SeenNode). x.kind) e, ap (λ (x : SeenNode). x.next) e)))
    (Decides-and _ _ (head_decides m.under n.under) (Decides-and _ _ (kind_decides m.kind n.kind) (link_decides m.next n.next)))

layout_decides : (v w : Layout) → Decides (same_layout v w) (v ≡ w)
layout_decides v w =
    Decides-like _ (λ e. ap₂ (λ (ns : List SeenNode) (os : List (Option ℕ)). record { nodes = ns; roots = os }) e.0 e.1) (λ e. (ap (λ (x : Layout). x.nodes) e, ap (λ (x : Layout). x.roots) e))
    (Decides-and _ _ (slice_eq-Decides seen_decides v.nodes w.nodes _ refl) (slice_eq-Decides link_decides v.roots w.roots _ refl))

none_there : {A : Type 0} (o : Option A) → is_none o ≡ true → o ≡ None
none_there None e = refl
none_there (Some a) e = absurd (zero_one (cc))

-- fixed trees
module _ (B : Book) where
  fixed_tells : (s : ℕ) (ds : List Declaration) → all_fixed B s ds ≡ true → Fixed B s ds
  fixed_tells s [] e k d f r = absurd (zero_one (cc))
  fixed_tells s (c ∷ ds) e zero d f r = go (fixed_tree B (s + 0)) refl
    where
      there : is_some (fixed_tree B (s + 0)) ≡ true
      there =
          let i : s + 0 ≡ s = omega arith in
          let y : d ≡ c = cc in
          ap (λ (x : ℕ). is_some (fixed_tree B x)) i ∙ sym (ap (has_fixed B s) (ap (λ (x : Declaration). x.role) (sym y) ∙ r)) ∙ (and_parts (has_fixed B s c.role) (all_fixed B (suc s) ds) e).0

      go : (o : Option Tree) → fixed_tree B (s + 0) ≡ o → (x : Tree) × (fixed_tree B (s + 0) ≡ Some x)
      go None g = let none : Option Tree = None in let h : is_some none ≡ true = ap is_some (sym g) ∙ there in absurd (zero_one (cc))
      go (Some x) g = (x, g)
  fixed_tells s (c ∷ ds) e (suc k) d f r =
      let i : suc s + k ≡ s + suc k = omega arith in
      let z = fixed_tells (suc s) ds (and_parts (has_fixed B s c.role) (all_fixed B (suc s) ds) e).1 k d f r in
      (z.0, ap (fixed_tree B) (sym i) ∙ z.1)

  fixed_tested : (s : ℕ) (ds : List Declaration) → Fixed B s ds → all_fixed B s ds ≡ true
  fixed_tested s [] h = refl
  fixed_tested s (c ∷ ds) h = and_from (has_fixed B s c.role) (all_fixed B (suc s) ds) (go c.role refl) (fixed_tested (suc s) ds (later B s c ds h))
    where
      go : (r : Role) → c.role ≡ r → has_fixed B s r ≡ true
      go Constructor e = refl
      go Function e = let i : s + 0 ≡ s = omega arith in let x = h 0 c refl e in ap is_some (ap (fixed_tree B) (sym i) ∙ x.1)
      go Operation e = refl

-- a rule set: its test and what it tells
module _ (d : Draft) (t : Trees) where
  abbrev B : Book
  B = book_of (seen d)

  abbrev fixed : Bool
  fixed = all_fixed B 0 (seen d).signature.symbols

  pub set_tested : awaited (seen d) ≡ None → AllRooted B t → LaidOut B t → set_sound (seen d) t ≡ true
  set_tested e h l =
      let trees : Fixed B 0 (seen d).signature.symbols = λ k y i r. (let z : 0 + k ≡ k = omega arith in let x = h k (stands_function d k (y, i, r)) in (x.tree, ap (fixed_tree B) z ∙ x.fixed)) in
      and_from (is_none (awaited (seen d))) (fixed && is_laid B t) (ap is_none e)
      (and_from fixed (is_laid B t) (fixed_tested B 0 (seen d).signature.symbols trees) ((layout_decides (layout_of B t) (laid_out B)).1 l))

  pub set_tells : set_sound (seen d) t ≡ true → SoundSet (seen d) t
  set_tells e =
      let a = and_parts (is_none (awaited (seen d))) (fixed && is_laid B t) e in
      let b = and_parts fixed (is_laid B t) a.1 in
      let trees = fixed_tells B 0 (seen d).signature.symbols b.0 in
      let laid = (layout_decides (layout_of B t) (laid_out B)).0 b.1 in
      let few = (counted_contents d).few_symbols in
      let rooted : AllRooted B t = λ f h. all_rooted B t laid few trees f (function_stands d f h) in
      record {
        contents = sound_contents d;
        counted = counted_contents d;
        rules = book_rules d;
        whole = none_there (awaited (seen d)) a.0;
        differ = rules_differ d t rooted;
        rooted = rooted;
        rootless = λ k n. others_rootless B t laid k (λ f. n (stands_function d k f));
        on_trees = all_on_trees B t laid few trees;
        nodes = nodes_only B t laid;
        laid = laid;
      }

-- a book's
pub book_tells : (d : Draft) → is_accepted (seen d) ≡ true → check_fault (seen d) ≡ None
book_tells d e = none_there (check_fault (seen d)) e
