-- Trees grow node by node.
use Rattle.std.proofs.Common.{◌≡◌, ℕ, zero, suc, ◌+◌, ◌-◌, ◌<◌, ◌≤◌, Bool, true, false, ◌&&◌, List, [], ◌∷◌, ◌++◌, map, length, get_or, take, drop, Some, None, Option, sym, refl, ap, ◌∙◌, subst, ap₂, append_assoc, append-nil, arith, option_map, filter}
use mathlib.Core.List.Memᴰ
use mathlib.Core.List.{Memᴰ}
use Rattle.std.proofs.lemmas.List.{map-append, length-append, length-map, take_all, drop_all, take_more, drop_more, take-append-drop}
use Rattle.terms.specs.Terms.{Head, symbol}
use Rattle.terms.specs.Options.{onward}
use Rattle.terms.specs.Signatures.{Signature}
use Rattle.rewriting.specs.Rules.{Rule, Book}
use Rattle.rewriting.specs.Trees.{Node as Tree, at_rule, branch, Nodes as Children, no_child, child}
use Rattle.rewriting.specs.FixedTree.{has_at, first_shared, constructors_at, children}
use Rattle.rewriting.specs.Growing.{sole_open, opened_under, grow, paid_under}
use Rattle.rewriting.specs.Completeness.{is_complete, are_complete}
use Rattle.drafts.specs.Drafts.{longest_side}
use Rattle.trees.specs.declared.node.Node.{Node}
use Rattle.trees.specs.declared.node.Kind.{Kind}
use Rattle.trees.specs.declared.grown.Grown.{Grown}
use Rattle.trees.specs.declared.store.Store.{Store}
use Rattle.trees.specs.Rows.{chosen, put, new_head, new_heads}
use Rattle.trees.specs.Nodes.{Before, Linked, no_link, link}
use Rattle.trees.specs.Layout.{SeenKind, SeenNode, seen_kind, seen_node, laid_tree, laid_children}
use Rattle.trees.specs.Growth.{nodes_of, stored, cost, WithinCost}
use Rattle.trees.proofs.Places.{nth_below}

-- links go to places that are there
pub linked_before : {rs : List Rule} {ns : List Node} {o : Option ℕ} {ts : Children} → Linked rs ns o ts → Before o (length ns)
linked_before no_link = tt
linked_before {ns = ns} (link {i = i} e f b h l) = nth_below ns i e

-- a child's node after all: its tree is written, and it is linked before the others
wrote_more : (R : List Rule) (before : List SeenNode) {s : ℕ} (bs cs ds : List Node) (first : Option ℕ) (node : Node) (t : Tree) (ts : Children) → (map (seen_node R) bs, first) ≡ laid_children before ts
    → (map (seen_node R) cs, seen_kind R node.kind) ≡ laid_tree (map (seen_node R) bs) t → ds ≡ cs ++ (node ∷ []) → node.symbol ≡ s → node.next ≡ first
    → (map (seen_node R) ds, Some (length cs)) ≡ laid_children before (child (symbol s) t ts)
wrote_more R before {s} bs cs ds first node t ts e f pushed y next =
    let pair : List SeenNode → ℕ → List SeenNode × Option ℕ = λ vs n. (vs, Some n) in
    let put : Option ℕ → List SeenNode × SeenKind → List SeenNode × Option ℕ = λ o z. (z.0 ++ (record { under = symbol s; kind = z.1; next = o } ∷ []), Some (length z.0)) in
    let one : ℕ → Option ℕ → List SeenNode = λ x o. map (seen_node R) cs ++ (record { under = symbol x; kind = seen_kind R node.kind; next = o } ∷ []) in
    ap₂ pair (ap (map (seen_node R)) pushed ∙ map-append (seen_node R) cs (node ∷ []) ∙ ap₂ one y next) (sym (length-map cs (seen_node R)))
    ∙ ap (put first) f ∙ ap (λ (w : List SeenNode × Option ℕ). put w.1 (laid_tree w.0 t)) e

-- new symbols of two parts of a list
pub new_heads_split : (before xs ys : List (Option ℕ)) → new_heads before (xs ++ ys) ≡ new_heads before xs ++ new_heads (before ++ xs) ys
new_heads_split before [] ys = ap (λ (bs : List (Option ℕ)). new_heads bs ys) (sym (append-nil before))
new_heads_split before (x ∷ xs) ys =
    ap (put (new_head before x)) (new_heads_split (before ++ (x ∷ [])) xs ys
    ∙ ap (λ (bs : List (Option ℕ)). new_heads (before ++ (x ∷ [])) xs ++ new_heads bs ys) (append_assoc before (x ∷ []) xs))
    ∙ put_append (new_head before x) (new_heads (before ++ (x ∷ [])) xs) (new_heads (before ++ (x ∷ xs)) ys)
  where
    put_append : (o : Option ℕ) (vs bs : List ℕ) → put o (vs ++ bs) ≡ put o vs ++ bs
    put_append None vs bs = refl
    put_append (Some a) vs bs = refl

-- what is owed for two parts of a list
pub paid_split : (most n : ℕ) (p : List ℕ) (rs : List Rule) (cs ds : List Head) → paid_under most n p rs (cs ++ ds) ≡ paid_under most n p rs cs + paid_under most n p rs ds
paid_split most n p rs [] ds = omega arith
paid_split most n p rs (c ∷ cs) ds = let h = paid_split most n p rs cs ds in omega arith

-- a child that is not there leaves no children
pub children_none : (tree : Head → Option Tree) {c : Head} {cs : List Head} → Memᴰ c cs → tree c ≡ None → children tree cs ≡ None
children_none tree (Memᴰ.head {x = d} {xs = cs} h) e = ap (λ (o : Option Tree). onward o (λ n. option_map (child d n) (children tree cs))) (ap tree (sym h) ∙ e)
children_none tree (Memᴰ.tail {x = d} {xs = cs} m) e = go (tree d) (children_none tree m e)
  where
    go : (o : Option Tree) → children tree cs ≡ None → onward o (λ n. option_map (child d n) (children tree cs)) ≡ None
    go None h = refl
    go (Some t) h = ap (option_map (child d t)) h

pub children_more : (tree : Head → Option Tree) (c : Head) (cs : List Head) {t : Tree} {ts : Children} → tree c ≡ Some t → children tree cs ≡ Some ts → children tree (c ∷ cs) ≡ Some (child c t ts)
children_more tree c cs e h = rw (e, h) refl

module _ (S : Signature) where
  -- the tree below a branch at p, under a constructor
  abbrev pub under : ℕ → List (List ℕ) → List Rule → List ℕ → Head → Option Tree
  under n ps rs p c = grow S n (opened_under S ps p c) (filter (has_at p c) rs)

  -- what is grown, by cases
  pub grows_rule : (n : ℕ) (ps : List (List ℕ)) (rs : List Rule) (r : Rule) → 0 < n → sole_open ps rs ≡ Some r → grow S n ps rs ≡ Some (at_rule r)
  grows_rule zero ps rs r h e = absurd (omega arith)
  grows_rule (suc n) ps rs r h e = rw e refl

  pub grows_branch : (n : ℕ) (ps : List (List ℕ)) (rs : List Rule) (p : List ℕ) → 0 < n → sole_open ps rs ≡ None → first_shared ps rs ≡ Some p
      → grow S n ps rs ≡ option_map (branch p) (children (under (n - 1) ps rs p) (constructors_at p rs))
  grows_branch zero ps rs p h e f = absurd (omega arith)
  grows_branch (suc n) ps rs p h e f =
      let i : n ≡ suc n - 1 = omega arith in
      rw (e, f) (ap (λ (k : ℕ). option_map (branch p) (children (under k ps rs p) (constructors_at p rs))) i)

  pub grows_none : (n : ℕ) (ps : List (List ℕ)) (rs : List Rule) → sole_open ps rs ≡ None → first_shared ps rs ≡ None → grow S n ps rs ≡ None
  grows_none zero ps rs e f = refl
  grows_none (suc n) ps rs e f = rw (e, f) refl

  -- Children under way: those that are done are linked, and for those that are not enough is left of what was paid.
  pub record SoFar (R : List Rule) (tree : Head → Option Tree) (done : List Head) (owed most : ℕ) (a b : Store) (first : Option ℕ) (complete : Bool) : Type 0 where
    pub subtrees : Children
    pub built : children tree done ≡ Some subtrees
    pub wrote : (stored R b, first) ≡ laid_children (stored R a) subtrees
    pub told : complete ≡ are_complete S subtrees
    pub within : length (nodes_of b) + owed ≤ length (nodes_of a) + most

  -- no child yet
  pub none_so_far : (R : List Rule) (tree : Head → Option Tree) (owed most : ℕ) (a : Store) → owed ≤ most
      → SoFar R tree [] owed most a a None true
  none_so_far R tree owed most a l = record { subtrees = no_child; built = refl; wrote = refl; told = refl; within = omega arith }

  and_swap : (b d : Bool) → (b && d) ≡ (d && b)
  and_swap true true = refl
  and_swap true false = refl
  and_swap false true = refl
  and_swap false false = refl

  -- one child more
  pub one_more : (R : List Rule) (tree : Head → Option Tree) (done : List Head) (owed most s due : ℕ) (a b c d : Store) (first : Option ℕ) (complete : Bool) (g : Grown) (node : Node) (t : Tree)
      → SoFar R tree done (owed + due) most a b first complete
      → WithinCost b c due → tree (symbol s) ≡ Some t → (stored R c, seen_kind R g.kind) ≡ laid_tree (stored R b) t → g.complete ≡ is_complete S t
      → nodes_of d ≡ nodes_of c ++ (node ∷ []) → node.symbol ≡ s → node.kind ≡ g.kind → node.next ≡ first
      → SoFar R tree (symbol s ∷ done) owed most a d (Some (length (nodes_of c))) (complete && g.complete)
  one_more R tree done owed most s due a b c d first complete g node t h f e wrote k pushed y kind next =
      let w = h.within in
      let one : length (nodes_of d) ≡ length (nodes_of c) + 1 = ap length pushed ∙ length-append (nodes_of c) (node ∷ []) in
      record {
        subtrees = child (symbol s) t h.subtrees;
        built = children_more tree (symbol s) done e h.built;
        wrote = wrote_more R (stored R a) (nodes_of b) (nodes_of c) (nodes_of d) first node t h.subtrees h.wrote (subst (λ (q : Kind). (stored R c, seen_kind R q) ≡ laid_tree (stored R b) t) (sym kind) wrote) pushed y next;
        told = ap (λ (x : Bool). x && g.complete) h.told ∙ and_swap (are_complete S h.subtrees) g.complete ∙ ap (λ (x : Bool). x && are_complete S h.subtrees) k;
        within = omega arith;
      }

-- one place more of a list of symbols: what it adds to those that are done, and takes from those that are not
pub heads_step : (hs : List (Option ℕ)) (i : ℕ) (o : Option ℕ) → 0 < i → i ≤ length hs → o ≡ new_head (take (i - 1) hs) (get_or hs (i - 1) None)
    → (new_heads (take (i - 1) hs) (drop (i - 1) hs) ≡ put o (new_heads (take i hs) (drop i hs))) × (new_heads [] (take i hs) ≡ new_heads [] (take (i - 1) hs) ++ put o [])
heads_step hs i o l m e =
    let j = i - 1 in
    let h = get_or hs j None in
    let k : j + 1 ≡ i = omega arith in
    let t : take i hs ≡ take j hs ++ (h ∷ []) = ap (λ (x : ℕ). take x hs) (sym k) ∙ take_more hs j None (omega arith) in
    let d : drop j hs ≡ h ∷ drop i hs = drop_more hs j None (omega arith) ∙ ap (λ (x : ℕ). h ∷ drop x hs) k in (
      ap (new_heads (take j hs)) d ∙ ap₂ (λ (x : Option ℕ) (bs : List (Option ℕ)). put x (new_heads bs (drop i hs))) (sym e) (sym t),
      ap (new_heads []) t ∙ new_heads_split [] (take j hs) (h ∷ []) ∙ ap (λ (x : Option ℕ). new_heads [] (take j hs) ++ put x []) (sym e),
    )

-- a new symbol is one of all
pub new_met : (hs : List (Option ℕ)) (j s : ℕ) (rest : List ℕ) → new_heads (take j hs) (drop j hs) ≡ s ∷ rest → Memᴰ (symbol s) (map symbol (new_heads [] hs))
new_met hs j s rest e =
    let whole : new_heads [] hs ≡ new_heads [] (take j hs) ++ (s ∷ rest) =
    ap (new_heads []) (sym (take-append-drop j hs)) ∙ new_heads_split [] (take j hs) (drop j hs) ∙ ap (λ (xs : List ℕ). new_heads [] (take j hs) ++ xs) e in
    subst (λ (xs : List ℕ). Memᴰ (symbol s) (map symbol xs)) (sym whole)
    (subst (Memᴰ (symbol s)) (sym (map-append symbol (new_heads [] (take j hs)) (s ∷ rest))) (Memᴰ.append_right (map symbol (new_heads [] (take j hs))) (Memᴰ.head refl)))

-- The children of a branch at p, from the place i on.
module _ (B : Book) (ps : List (List ℕ)) (m : List Bool) (n : ℕ) (p : List ℕ) (hs : List (Option ℕ)) where
  abbrev left : List Rule
  left = chosen m B.rules

  abbrev all : List Head
  all = constructors_at p left

  abbrev done : ℕ → List Head
  done i = map symbol (new_heads (take i hs) (drop i hs))

  abbrev owed : ℕ → ℕ
  owed i = paid_under longest_side (n - 1) p left (map symbol (new_heads [] (take i hs)))

  abbrev pub GrownTo : ℕ → Store → Store → Option ℕ → Bool → Type 0
  GrownTo i a b first complete = SoFar B.signature B.rules (under B.signature (n - 1) ps left p) (done i) (owed i) (paid_under longest_side (n - 1) p left all) a b first complete

  pub grown_begins : (a : Store) (i : ℕ) → length hs ≡ i → all ≡ map symbol (new_heads [] hs) → GrownTo i a a None true
  grown_begins a i l e =
      let t : take i hs ≡ hs = take_all i hs (omega arith) in
      let d : drop i hs ≡ [] = drop_all i hs (omega arith) in
      let w : owed i ≡ paid_under longest_side (n - 1) p left all = ap (λ (xs : List (Option ℕ)). paid_under longest_side (n - 1) p left (map symbol (new_heads [] xs))) t ∙ ap (paid_under longest_side (n - 1) p left) (sym e) in
      subst (λ (xs : List (Option ℕ)). SoFar B.signature B.rules (under B.signature (n - 1) ps left p) (map symbol (new_heads (take i hs) xs)) (owed i) (paid_under longest_side (n - 1) p left all) a a None true) (sym d)
      (none_so_far B.signature B.rules (under B.signature (n - 1) ps left p) (owed i) (paid_under longest_side (n - 1) p left all) a (omega arith))

  pub grown_skip : (i : ℕ) (a b : Store) (first : Option ℕ) (complete : Bool) → 0 < i → i ≤ length hs → None ≡ new_head (take (i - 1) hs) (get_or hs (i - 1) None)
      → GrownTo i a b first complete → GrownTo (i - 1) a b first complete
  grown_skip i a b first complete l k e h =
      let z = heads_step hs i None l k e in
      let o : owed i ≡ owed (i - 1) = ap (λ (xs : List ℕ). paid_under longest_side (n - 1) p left (map symbol xs)) (z.1 ∙ append-nil (new_heads [] (take (i - 1) hs))) in
      subst (λ (xs : List ℕ). SoFar B.signature B.rules (under B.signature (n - 1) ps left p) (map symbol xs) (owed (i - 1)) (paid_under longest_side (n - 1) p left all) a b first complete) (sym z.0)
      (subst (λ (x : ℕ). SoFar B.signature B.rules (under B.signature (n - 1) ps left p) (done i) x (paid_under longest_side (n - 1) p left all) a b first complete) o h)

  -- what the constructor of a new symbol is paid
  abbrev pub due : ℕ → ℕ
  due s = cost (n - 1) (filter (has_at p (symbol s)) left)

  pub owed_more : (i s : ℕ) → 0 < i → i ≤ length hs → Some s ≡ new_head (take (i - 1) hs) (get_or hs (i - 1) None) → owed i ≡ owed (i - 1) + due s
  owed_more i s l k e =
      let z = heads_step hs i (Some s) l k e in
      let q = paid_split longest_side (n - 1) p left (map symbol (new_heads [] (take (i - 1) hs))) (symbol s ∷ []) in
      let r : owed i ≡ paid_under longest_side (n - 1) p left (map symbol (new_heads [] (take (i - 1) hs)) ++ (symbol s ∷ [])) =
      ap (λ (xs : List ℕ). paid_under longest_side (n - 1) p left (map symbol xs)) z.1 ∙ ap (paid_under longest_side (n - 1) p left) (map-append symbol (new_heads [] (take (i - 1) hs)) (s ∷ [])) in
      omega arith

  pub symbol_met : (i s : ℕ) → 0 < i → i ≤ length hs → Some s ≡ new_head (take (i - 1) hs) (get_or hs (i - 1) None) → all ≡ map symbol (new_heads [] hs) → Memᴰ (symbol s) all
  symbol_met i s l k e q = subst (Memᴰ (symbol s)) (sym q) (new_met hs (i - 1) s (new_heads (take i hs) (drop i hs)) (heads_step hs i (Some s) l k e).0)

  -- room is left for the child of a new symbol
  pub room_left : (i s : ℕ) (a b : Store) (first : Option ℕ) (complete : Bool) → 0 < i → i ≤ length hs → Some s ≡ new_head (take (i - 1) hs) (get_or hs (i - 1) None)
      → GrownTo i a b first complete → length (nodes_of b) + due s ≤ length (nodes_of a) + paid_under longest_side (n - 1) p left all
  room_left i s a b first complete l k e h = let w = h.within in let q = owed_more i s l k e in omega arith

  pub grown_more : (i s : ℕ) (a b c d : Store) (first : Option ℕ) (complete : Bool) (g : Grown) (node : Node) (t : Tree)
      → 0 < i → i ≤ length hs → Some s ≡ new_head (take (i - 1) hs) (get_or hs (i - 1) None) → GrownTo i a b first complete
      → WithinCost b c (due s) → under B.signature (n - 1) ps left p (symbol s) ≡ Some t → (stored B.rules c, seen_kind B.rules g.kind) ≡ laid_tree (stored B.rules b) t → g.complete ≡ is_complete B.signature t
      → nodes_of d ≡ nodes_of c ++ (node ∷ []) → node.symbol ≡ s → node.kind ≡ g.kind → node.next ≡ first
      → GrownTo (i - 1) a d (Some (length (nodes_of c))) (complete && g.complete)
  grown_more i s a b c d first complete g node t l k e h fits tree wrote told pushed y kind next =
      let z = heads_step hs i (Some s) l k e in
      subst (λ (xs : List ℕ). SoFar B.signature B.rules (under B.signature (n - 1) ps left p) (map symbol xs) (owed (i - 1)) (paid_under longest_side (n - 1) p left all) a d (Some (length (nodes_of c))) (complete && g.complete)) (sym z.0)
      (one_more B.signature B.rules (under B.signature (n - 1) ps left p) (done i) (owed (i - 1)) (paid_under longest_side (n - 1) p left all) s (due s) a b c d first complete g node t
      (subst (λ (x : ℕ). SoFar B.signature B.rules (under B.signature (n - 1) ps left p) (done i) x (paid_under longest_side (n - 1) p left all) a b first complete) (owed_more i s l k e) h)
      fits tree wrote told pushed y kind next)
