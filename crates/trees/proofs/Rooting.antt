-- The trees of a draft's functions, one after the other.
use Rattle.std.proofs.Common.{◌≡◌, ℕ, zero, suc, ◌+◌, ◌<◌, ◌≤◌, Bool, true, false, List, [], ◌∷◌, ◌++◌, map, length, replicate, drop, set, Some, None, Ok, Err, Option, Result, sym, refl, ap, ◌∙◌, subst, ap₂, arith, option_map}
use Rattle.std.specs.List.{slice_get}
use Rattle.std.proofs.lemmas.List.{map-append, length-append, length-map, drop_all}
use Rattle.std.specs.Option.{option_or}
use Rattle.terms.specs.declared.signature.Role.{Role}
use Rattle.terms.specs.declared.signature.Role.TheVariants.{Constructor, Function, Operation}
use Rattle.terms.specs.Terms.{symbol, own}
use Rattle.terms.specs.Options.{onward}
use Rattle.terms.specs.Signatures.{Declaration, Signature, built_in}
use Rattle.terms.specs.Roots.{is_constructor, head_args, fn_of, call, Stands}
use Rattle.terms.proofs.Letters.{zero_one}
use Rattle.rewriting.specs.Rules.{Rule, Book, rules_of}
use Rattle.rewriting.specs.Trees.{Node as Tree}
use Rattle.rewriting.specs.FixedTree.{fixed_tree}
use Rattle.rewriting.specs.Growing.{below, open_call, grow, at_call}
use Rattle.rewriting.specs.Completeness.{is_complete}
use Rattle.rewriting.proofs.Growing.{grows_fixed_tree}
use Rattle.drafts.specs.declared.draft.Draft.{Draft}
use Rattle.drafts.specs.Drafts.{awaited, longest_side}
use Rattle.drafts.specs.Books.{book_of}
use Rattle.drafts.specs.Stores.{seen, verdict}
use Rattle.drafts.proofs.Sound.{sound_contents, counted_contents}
use Rattle.trees.specs.declared.fault.CheckFault.{CheckFault}
use Rattle.trees.specs.declared.fault.CheckFault.TheVariants.{NoTree, Incomplete}
use Rattle.trees.specs.declared.node.Node.{Node}
use Rattle.trees.specs.declared.store.Store.{Store}
use Rattle.trees.specs.declared.trees.Trees.{Trees}
use Rattle.trees.specs.Checks.{function_role, judged, symbol_fault, fault_at, first_fault}
use Rattle.trees.specs.Rows.{chosen}
use Rattle.trees.specs.Layout.{SeenKind, SeenNode, seen_kind, seen_node, laid_tree, Layout, with_tree, with_symbol, with_declared, laid_from, laid_out}
use Rattle.trees.specs.Growth.{nodes_of, stored, AtStage, cost, WithinCost}
use Rattle.trees.specs.Standing.{nodes_in, roots_in, layout_of, LaidOut, IsFunction, owed, TreeAdded}
use Rattle.trees.proofs.Places.{nth_below}
use Rattle.trees.proofs.Drafted.{draft_short, draft_ruled, owed_split}

-- the open positions of a call
pub call_open : {S G : Signature} {k : ℕ} {ps : List (List ℕ)} (f : ℕ) → ps ≡ below [] 1 k → k ≡ length (head_args G (symbol f)) → G ≡ S → ps ≡ open_call S f
call_open f e l g = e ∙ ap (below [] 1) (l ∙ ap (λ (x : Signature). length (head_args x (symbol f))) g)

-- the tree of a function f of a draft is grown from its call, with the open positions ps and the rules ms
pub record Called (d : Draft) (f : ℕ) (ps : List (List ℕ)) (ms : List Bool) : Type 0 where
  pub stage : AtStage (book_of (seen d)) longest_side ps (chosen ms (book_of (seen d)).rules)
  pub tree : grow (seen d).signature longest_side ps (chosen ms (book_of (seen d)).rules) ≡ fixed_tree (book_of (seen d)) f
  pub room : cost longest_side (chosen ms (book_of (seen d)).rules) + owed (book_of (seen d)) (suc f) ≡ owed (book_of (seen d)) f

pub called : (d : Draft) (f : ℕ) (ps : List (List ℕ)) (ms : List Bool) → awaited (seen d) ≡ None → IsFunction (seen d).signature f
    → ps ≡ open_call (seen d).signature f → chosen ms (book_of (seen d)).rules ≡ rules_of (book_of (seen d)) f → Called d f ps ms
called d f ps ms whole h e m =
    let B = book_of (seen d) in
    let start : AtStage B longest_side (open_call B.signature f) (rules_of B f) = (f, draft_ruled d f whole h, at_call) in
    record {
      stage = subst (λ (qs : List (List ℕ)). AtStage B longest_side qs (chosen ms B.rules)) (sym e) (subst (AtStage B longest_side (open_call B.signature f)) (sym m) start);
      tree = ap₂ (grow B.signature longest_side) e m ∙ grows_fixed_tree.same B f longest_side (draft_ruled d f whole h) (draft_short d f);
      room = ap (λ (rs : List Rule). cost longest_side rs + owed B (suc f)) m ∙ sym (owed_split B f);
    }

-- a function is one of at most 96 symbols
pub function_below : (d : Draft) (f : ℕ) → IsFunction (seen d).signature f → f < 96
function_below d f h = let k = (counted_contents d).few_symbols in let l = nth_below (seen d).signature.symbols f h.1 in omega arith

-- what the tree tells
pub no_tree : {A : Type 0} (a : A) (S : Signature) (f : ℕ) (o : Option Tree) → o ≡ None → ◌≡◌ {A = Result A CheckFault} (Err (NoTree f)) (verdict (judged S f o) a)
no_tree a S f o e = ap (λ (x : Option Tree). verdict (judged S f x) a) (sym e)

pub incomplete : {A : Type 0} (a : A) (S : Signature) (f : ℕ) (o : Option Tree) (t : Tree) → o ≡ Some t → is_complete S t ≡ false → ◌≡◌ {A = Result A CheckFault} (Err (Incomplete f)) (verdict (judged S f o) a)
incomplete a S f o t e h = rw (e, h) refl

pub complete : {A : Type 0} (a : A) (S : Signature) (f : ℕ) (o : Option Tree) (t : Tree) → o ≡ Some t → is_complete S t ≡ true → ◌≡◌ {A = Result A CheckFault} (Ok a) (verdict (judged S f o) a)
complete a S f o t e h = rw (e, h) refl

-- how its trees lie with the tree of a symbol
function_laid : (B : Book) (s : ℕ) (w : Layout) → IsFunction B.signature s → with_declared B s (slice_get B.signature.symbols s) w ≡ with_tree s w (fixed_tree B s)
function_laid B s w h = ap (λ (o : Option Declaration). with_declared B s o w) h.1 ∙ ap (λ (r : Role). with_symbol B s r w) h.2

nothing_laid : (B : Book) (s : ℕ) (w : Layout) → (IsFunction B.signature s → ⊥) → with_declared B s (slice_get B.signature.symbols s) w ≡ w
nothing_laid B s w h = go (slice_get B.signature.symbols s) refl
  where
    go : (o : Option Declaration) → slice_get B.signature.symbols s ≡ o → with_declared B s o w ≡ w
    go None e = refl
    go (Some d) e = role d.role refl
      where
        role : (r : Role) → d.role ≡ r → with_symbol B s r w ≡ w
        role Constructor f = refl
        role Function f = absurd (h (d, e, f))
        role Operation f = refl

-- nodes, then a root's node after all: its tree is written
root_laid : (R : List Rule) (before : List SeenNode) (cs ds : List Node) (f : ℕ) (links roots : List (Option ℕ)) (node : Node) (t : Tree) → (map (seen_node R) cs, seen_kind R node.kind) ≡ laid_tree before t
    → ds ≡ cs ++ (node ∷ []) → node.symbol ≡ f → node.next ≡ None → roots ≡ set links f (Some (length cs))
    → ◌≡◌ {A = Layout} (record { nodes = map (seen_node R) ds; roots = roots }) (with_tree f (record { nodes = before; roots = links }) (Some t))
root_laid R before cs ds f links roots node t e pushed y next r =
    let lay : List SeenNode → List (Option ℕ) → Layout = λ vs os. record { nodes = vs; roots = os } in
    let put : List SeenNode × SeenKind → Layout = λ z. record { nodes = z.0 ++ (record { under = symbol f; kind = z.1; next = None } ∷ []); roots = set links f (Some (length z.0)) } in
    let one : ℕ → Option ℕ → List SeenNode = λ x o. map (seen_node R) cs ++ (record { under = symbol x; kind = seen_kind R node.kind; next = o } ∷ []) in
    ap₂ lay (ap (map (seen_node R)) pushed ∙ map-append (seen_node R) cs (node ∷ []) ∙ ap₂ one y next) (r ∙ ap (λ (n : ℕ). set links f (Some n)) (sym (length-map cs (seen_node R)))) ∙ ap put e

-- a function's tree is added: its nodes, then its root
pub function_added : (B : Book) (f : ℕ) (a b : Trees) (g : Store) (node : Node) (t : Tree) (most : ℕ) → IsFunction B.signature f → WithinCost a.store g most → fixed_tree B f ≡ Some t
    → (stored B.rules g, seen_kind B.rules node.kind) ≡ laid_tree (stored B.rules a.store) t → node.symbol ≡ f → node.next ≡ None → nodes_in b ≡ nodes_of g ++ (node ∷ [])
    → roots_in b ≡ set (roots_in a) f (Some (length (nodes_of g))) → most + owed B (suc f) ≡ owed B f → TreeAdded B f a b
function_added B f a b g node t most d z e wrote y next pushed roots room = record {
  laid = root_laid B.rules (stored B.rules a.store) (nodes_of g) (nodes_in b) f (roots_in a) (roots_in b) node t wrote pushed y next roots
      ∙ ap (with_tree f (layout_of B a)) (sym e) ∙ sym (function_laid B f (layout_of B a) d);
  within = (let one : length (nodes_in b) ≡ length (nodes_of g) + 1 = ap length pushed ∙ length-append (nodes_of g) (node ∷ []) in omega arith);
}

-- a symbol that is no function adds nothing
pub nothing_added : (B : Book) (s : ℕ) (a : Trees) → (IsFunction B.signature s → ⊥) → TreeAdded B s a a
nothing_added B s a h = record { laid = sym (nothing_laid B s (layout_of B a) h); within = (let e = owed_split B s in omega arith) }

-- whether a symbol is a function, and its fault
pub function_told : (S G : Signature) (s : ℕ) (b : Bool) → G ≡ S → b ≡ function_role (option_map (λ d. d.role) (slice_get G.symbols s)) → function_role (option_map (λ d. d.role) (slice_get S.symbols s)) ≡ b
function_told S G s b g e = ap (λ (x : Signature). function_role (option_map (λ d. d.role) (slice_get x.symbols s))) (sym g) ∙ sym e

pub a_function : (S : Signature) (s : ℕ) → function_role (option_map (λ d. d.role) (slice_get S.symbols s)) ≡ true → IsFunction S s
a_function S s e = go (slice_get S.symbols s) refl e
  where
    role : (o : Role) → function_role (Some o) ≡ true → o ≡ Function
    role Constructor h = absurd (zero_one (cc))
    role Function h = refl
    role Operation h = absurd (zero_one (cc))

    go : (x : Option Declaration) → slice_get S.symbols s ≡ x → function_role (option_map (λ d. d.role) x) ≡ true → IsFunction S s
    go None h f = absurd (zero_one (cc))
    go (Some d) h f = (d, h, role d.role f)

pub no_function : (S : Signature) (s : ℕ) → function_role (option_map (λ d. d.role) (slice_get S.symbols s)) ≡ false → IsFunction S s → ⊥
no_function S s e h = let a : function_role (option_map (λ d. d.role) (slice_get S.symbols s)) ≡ true = rw (h.1, h.2) refl in zero_one (cc)

pub function_fault : (B : Book) (s : ℕ) → IsFunction B.signature s → fault_at B s ≡ judged B.signature s (fixed_tree B s)
function_fault B s h = ap (λ (y : Option Declaration). onward y (λ d. symbol_fault B s d.role)) h.1 ∙ ap (symbol_fault B s) h.2

pub no_fault : (B : Book) (s : ℕ) → function_role (option_map (λ d. d.role) (slice_get B.signature.symbols s)) ≡ false → fault_at B s ≡ None
no_fault B s e = go (slice_get B.signature.symbols s) e
  where
    role : (o : Role) → function_role (Some o) ≡ false → symbol_fault B s o ≡ None
    role Constructor h = refl
    role Function h = absurd (zero_one (cc))
    role Operation h = refl

    go : (x : Option Declaration) → function_role (option_map (λ d. d.role) x) ≡ false → onward x (λ d. symbol_fault B s d.role) ≡ None
    go None h = refl
    go (Some d) h = role d.role h

-- the faults from a symbol on
pub first_more : (B : Book) (s : ℕ) → s < length B.signature.symbols → first_fault B s (drop s B.signature.symbols) ≡ option_or (fault_at B s) (first_fault B (suc s) (drop (suc s) B.signature.symbols))
first_more B s h = go B.signature.symbols s h
  where
    go : (ds : List Declaration) (k : ℕ) → k < length ds → first_fault B s (drop k ds) ≡ option_or (onward (slice_get ds k) (λ d. symbol_fault B s d.role)) (first_fault B (suc s) (drop (suc k) ds))
    go [] k l = absurd (omega arith)
    go (d ∷ ds) zero l = refl
    go (d ∷ ds) (suc k) l = go ds k (omega arith)

-- they lie one after the other
laid_more : (B : Book) (s : ℕ) (w : Layout) → s < length B.signature.symbols
    → laid_from B s (drop s B.signature.symbols) w ≡ laid_from B (suc s) (drop (suc s) B.signature.symbols) (with_declared B s (slice_get B.signature.symbols s) w)
laid_more B s w h = go B.signature.symbols s h
  where
    go : (ds : List Declaration) (k : ℕ) → k < length ds → laid_from B s (drop k ds) w ≡ laid_from B (suc s) (drop (suc k) ds) (with_declared B s (slice_get ds k) w)
    go [] k l = absurd (omega arith)
    go (d ∷ ds) zero l = refl
    go (d ∷ ds) (suc k) l = go ds k (omega arith)

-- a call of a declared function is one of a symbol that was declared as a function
pub function_stands : (d : Draft) (f : ℕ) → Stands (seen d).signature (call (own f)) → IsFunction (seen d).signature f
function_stands d f h = (h.0.0, h.0.1, role h.0.0.role refl)
  where
    three : (n : ℕ) → fn_of n ≡ own n → 3 ≤ n
    three zero e = absurd (zero_one (cc))
    three (suc zero) e = absurd (zero_one (cc))
    three (suc (suc zero)) e = absurd (zero_one (cc))
    three (suc (suc (suc n))) e = omega arith

    role : (o : Role) → h.0.0.role ≡ o → h.0.0.role ≡ Function
    role Constructor e = let a = h.0.2 in let b = ap is_constructor e in absurd (zero_one (cc))
    role Function e = e
    role Operation e = let l = (counted_contents d).operations f h.0.0 h.0.1 e in let m = three f h.1 in absurd (omega arith)

-- and back
pub stands_function : (d : Draft) (f : ℕ) → IsFunction (seen d).signature f → Stands (seen d).signature (call (own f))
stands_function d f h =
    let S = (seen d).signature in
    let k = sound_contents d in
    let l = nth_below S.symbols f h.1 in
    let m = (counted_contents d).few_symbols in
    ((h.0, h.1, ap is_constructor h.2, omega arith), go f h)
  where
    operation : (n : ℕ) (b : Declaration) → slice_get built_in.symbols n ≡ Some b → b.role ≡ Operation → IsFunction (seen d).signature n → ⊥
    operation n b e o g =
        let q = (sound_contents d).proper.built_in_first n b e in
        let r = g.1 in
        let i : b ≡ g.0 = cc in
        let z : Operation ≡ Function = sym o ∙ ap (λ (y : Declaration). y.role) i ∙ g.2 in
        zero_one (cc)

    go : (n : ℕ) → IsFunction (seen d).signature n → fn_of n ≡ own n
    go zero g = absurd (operation 0 _ refl refl g)
    go (suc zero) g = absurd (operation 1 _ refl refl g)
    go (suc (suc zero)) g = absurd (operation 2 _ refl refl g)
    go (suc (suc (suc n))) g = refl

-- The trees of the symbols below s are laid out, and there is no fault below s.
pub record UpTo (B : Book) (s : ℕ) (t : Trees) : Type 0 where
  pub faultless : first_fault B s (drop s B.signature.symbols) ≡ first_fault B 0 B.signature.symbols
  pub laid : laid_from B s (drop s B.signature.symbols) (layout_of B t) ≡ laid_out B
  pub room : length (nodes_in t) + owed B s ≤ 1024

pub up_to_next : (B : Book) (s : ℕ) (a b : Trees) → s < length B.signature.symbols → fault_at B s ≡ None → TreeAdded B s a b → UpTo B s a → UpTo B (s + 1) b
up_to_next B s a b l e z h =
    let i : suc s ≡ s + 1 = omega arith in
    subst (λ (x : ℕ). UpTo B x b) i (record {
      faultless = sym (ap (λ (o : Option CheckFault). option_or o (first_fault B (suc s) (drop (suc s) B.signature.symbols))) e) ∙ sym (first_more B s l) ∙ h.faultless;
      laid = ap (laid_from B (suc s) (drop (suc s) B.signature.symbols)) z.laid ∙ sym (laid_more B s (layout_of B a) l) ∙ h.laid;
      room = (let w = z.within in let r = h.room in omega arith);
    })

pub up_to_fault : (B : Book) (s : ℕ) (t : Trees) (e : CheckFault) → s < length B.signature.symbols → fault_at B s ≡ Some e → UpTo B s t → first_fault B 0 B.signature.symbols ≡ Some e
up_to_fault B s t e l f h = sym h.faultless ∙ first_more B s l ∙ ap (λ (o : Option CheckFault). option_or o (first_fault B (suc s) (drop (suc s) B.signature.symbols))) f

-- past the last symbol there is no fault
pub first_none : (B : Book) (s : ℕ) (t : Trees) → length B.signature.symbols ≤ s → UpTo B s t → first_fault B 0 B.signature.symbols ≡ None
first_none B s t l h = sym h.faultless ∙ ap (first_fault B s) (drop_all s B.signature.symbols l)

-- and all trees are laid out
pub all_laid : (B : Book) (s : ℕ) (t : Trees) → length B.signature.symbols ≤ s → UpTo B s t → LaidOut B t
all_laid B s t l h = sym (ap (λ (ds : List Declaration). laid_from B s ds (layout_of B t)) (drop_all s B.signature.symbols l)) ∙ h.laid

-- no tree yet
pub none_laid : (B : Book) (t : Trees) → nodes_in t ≡ [] → roots_in t ≡ replicate 96 None → laid_from B 0 B.signature.symbols (layout_of B t) ≡ laid_out B
none_laid B t e f = ap₂ (λ (ns : List Node) (os : List (Option ℕ)). laid_from B 0 B.signature.symbols (record { nodes = map (seen_node B.rules) ns; roots = os })) e f
