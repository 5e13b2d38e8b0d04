-- A branch of a tree that is grown from a draft.
use Rattle.std.proofs.Common.{◌≡◌, ℕ, suc, ◌+◌, ◌-◌, ◌<◌, ◌≤◌, Bool, true, ◌&&◌, List, [], ◌∷◌, ◌++◌, map, length, get_or, take, Some, None, Option, sym, refl, ap, ◌∙◌, subst, ap₂, append-nil, arith, filter}
use mathlib.Core.List.{Memᴰ}
use Rattle.terms.specs.declared.signature.Signature.{Signature as Table}
use Rattle.terms.specs.Rows.{items}
use Rattle.terms.specs.Terms.{symbol}
use Rattle.terms.specs.Signatures.{Signature}
use Rattle.terms.specs.Roots.{head_args}
use Rattle.terms.specs.Views.{view}
use Rattle.rewriting.specs.Rules.{Rule, Book}
use Rattle.rewriting.specs.Trees.{Node as Tree}
use Rattle.rewriting.specs.FixedTree.{has_at, first_shared, constructors_at}
use Rattle.rewriting.specs.Growing.{sole_open, opened, opened_under, grow, paid_under}
use Rattle.rewriting.specs.Completeness.{covers, is_complete}
use Rattle.rewriting.proofs.Building.{children_heads}
use Rattle.drafts.specs.declared.draft.Draft.{Draft}
use Rattle.drafts.specs.Drafts.{longest_side}
use Rattle.drafts.specs.Books.{book_of}
use Rattle.drafts.specs.Stores.{seen}
use Rattle.trees.specs.declared.node.Node.{Node}
use Rattle.trees.specs.declared.node.Kind.TheVariants.{Branch}
use Rattle.trees.specs.declared.grown.Grown.{Grown}
use Rattle.trees.specs.declared.shared.Shared.{Shared}
use Rattle.trees.specs.declared.store.Store.{Store}
use Rattle.trees.specs.Views.{steps_of}
use Rattle.trees.specs.Rows.{chosen, is_head, heads_at, new_head, new_heads, there, IsPlace}
use Rattle.trees.specs.Sharing.{IsShared}
use Rattle.trees.specs.Nodes.{Linked, Leads}
use Rattle.trees.specs.Layout.{SeenNode, seen_kind, laid_tree, laid_children}
use Rattle.trees.specs.Growth.{nodes_of, IsGrown, stored, AtStage, cost, WithinCost}
use Rattle.drafts.proofs.LeftSorts.{few_declared}
use Rattle.trees.proofs.Drafted.{draft_short}
use Rattle.trees.proofs.Scanned.{covers_same}
use Rattle.trees.proofs.Layouts.{children_linked}
use Rattle.trees.proofs.Seeking.{linked_leads}
use Rattle.trees.proofs.LeftSides.{draft_cells}
use Rattle.trees.proofs.Chosen.{chosen_kept, constructors_new}
use Rattle.trees.proofs.Told.{place_none, shared_some}
use Rattle.trees.proofs.Growths.{under, GrownTo, grown_begins, grown_skip, grown_more, symbol_met, room_left, due}
use Rattle.trees.proofs.Stages.{fuel_left, open_room, child_stage, branch_paid, shared_short, child_missing, branch_grown, children_added, child_added}

-- a symbol takes at most four arguments
pub few_arguments : (g : Table) (s : ℕ) → length (head_args (view g) (symbol s)) ≤ 4
few_arguments g s = few_declared (items g.symbols) s

-- no rule is left alone, and the rules that remain share a position
pub record Branching (d : Draft) (ps : List (List ℕ)) (m : List Bool) (n : ℕ) (s : Shared) : Type 0 where
  pub stage : AtStage (book_of (seen d)) n ps (chosen m (book_of (seen d)).rules)
  pub none : sole_open ps (chosen m (book_of (seen d)).rules) ≡ None
  pub shared : first_shared ps (chosen m (book_of (seen d)).rules) ≡ Some (steps_of s.path)
  pub heads : s.heads ≡ heads_at (steps_of s.path) m (book_of (seen d)).rules
  pub long : length s.heads ≡ 96

pub branching : (d : Draft) (ps : List (List ℕ)) (m : List Bool) (n : ℕ) (s : Shared) → AtStage (book_of (seen d)) n ps (chosen m (book_of (seen d)).rules)
    → IsPlace (book_of (seen d)).rules (sole_open ps (chosen m (book_of (seen d)).rules)) None
    → IsShared (book_of (seen d)).rules m (first_shared ps (chosen m (book_of (seen d)).rules)) (Some s) → length s.heads ≡ 96 → Branching d ps m n s
branching d ps m n s stage e f long =
    let R = (book_of (seen d)).rules in
    let x = shared_some R m (first_shared ps (chosen m R)) s f in
    record { stage = stage; none = place_none R (sole_open ps (chosen m R)) e; shared = x.0; heads = x.1; long = long }

-- a symbol that is new at the place before i
pub record NewHead (s : Shared) (i x : ℕ) : Type 0 where
  pub after : 0 < i
  pub within : i ≤ 96
  pub new : Some x ≡ new_head (take (i - 1) s.heads) (get_or s.heads (i - 1) None)

-- its child's open positions qs and rules ms: the stage, what it costs, and the tree that it is to be
pub record NewChild (d : Draft) (ps : List (List ℕ)) (m : List Bool) (n : ℕ) (s : Shared) (x : ℕ) (qs : List (List ℕ)) (ms : List Bool) : Type 0 where
  pub met : Memᴰ (symbol x) (constructors_at (steps_of s.path) (chosen m (book_of (seen d)).rules))
  pub stage : AtStage (book_of (seen d)) (n - 1) qs (chosen ms (book_of (seen d)).rules)
  pub costs : cost (n - 1) (chosen ms (book_of (seen d)).rules) ≡ due (book_of (seen d)) ps m n (steps_of s.path) s.heads x
  pub tree : grow (book_of (seen d)).signature (n - 1) qs (chosen ms (book_of (seen d)).rules) ≡ under (book_of (seen d)).signature (n - 1) ps (chosen m (book_of (seen d)).rules) (steps_of s.path) (symbol x)

module _ {d : Draft} {ps : List (List ℕ)} {m : List Bool} {n : ℕ} {s : Shared} (b : Branching d ps m n s) where
  abbrev B : Book
  B = book_of (seen d)

  abbrev rs : List Rule
  rs = chosen m B.rules

  abbrev p : List ℕ
  p = steps_of s.path

  -- fuel is left
  pub branch_fuel : 0 < n
  branch_fuel = fuel_left B (draft_short d) n ps rs b.stage

  -- the constructors that have a child
  pub all_new : constructors_at p rs ≡ map symbol (new_heads [] s.heads)
  all_new = constructors_new p m B.rules (draft_cells d p) ∙ ap (λ (hs : List (Option ℕ)). map symbol (new_heads [] hs)) (sym b.heads)

  -- no child yet
  pub branch_begins : (a : Store) → GrownTo B ps m n p s.heads 96 a a None true
  branch_begins a = grown_begins B ps m n p s.heads a 96 b.long all_new

  -- no symbol is new at the place before i
  pub branch_skip : {i : ℕ} {a c : Store} {first : Option ℕ} {complete : Bool} → 0 < i → i ≤ 96 → None ≡ new_head (take (i - 1) s.heads) (get_or s.heads (i - 1) None)
      → GrownTo B ps m n p s.heads i a c first complete → GrownTo B ps m n p s.heads (i - 1) a c first complete
  branch_skip {i} {a} {c} {first} {complete} l k e h = grown_skip B ps m n p s.heads i a c first complete l (let q = b.long in omega arith) e h

  -- all children: the look-up finds their constructors, which tells whether none is missing
  pub branch_leads : {a c : Store} {first : Option ℕ} {complete : Bool} → GrownTo B ps m n p s.heads 0 a c first complete → Leads (nodes_of c) first s.heads
  branch_leads {a} {c} {first} h =
      let w = laid_children (stored B.rules a) h.subtrees in
      let l : Linked B.rules (nodes_of c) w.1 h.subtrees = children_linked B.rules (nodes_of c) (stored B.rules a) [] h.subtrees (ap (λ (z : List SeenNode × Option ℕ). z.0) h.wrote ∙ sym (append-nil w.0)) in
      linked_leads s.heads (subst (λ (o : Option ℕ). Linked B.rules (nodes_of c) o h.subtrees) (sym (ap (λ (z : List SeenNode × Option ℕ). z.1) h.wrote)) l)
      (children_heads B.signature (under B.signature (n - 1) ps rs p) (map symbol (new_heads [] s.heads)) h.subtrees h.built)

  pub branch_covered : (g : Table) (covered : Bool) → view g ≡ B.signature → covered ≡ covers (view g) (there s.heads) → covered ≡ covers B.signature (constructors_at p rs)
  branch_covered g covered e h = h ∙ ap (λ (S : Signature). covers S (there s.heads)) e ∙ covers_same B.signature s.heads ∙ ap (covers B.signature) (sym all_new)

  -- the branch that they come to
  pub branch_ends : {a c : Store} {first : Option ℕ} {complete : Bool} (covered : Bool) → covered ≡ covers B.signature (constructors_at p rs) → GrownTo B ps m n p s.heads 0 a c first complete
      → IsGrown B.signature B.rules a c (grow B.signature n ps rs) (Some (record { kind = Branch s.path first; complete = covered && complete }))
  branch_ends {a} {c} {first} {complete} covered e h = branch_grown B ps m n p s.heads a c s.path first complete covered e branch_fuel b.none b.shared refl all_new h

  -- what is paid for all children
  pub paid_all : suc (paid_under longest_side (n - 1) p rs (constructors_at p rs)) ≤ cost n rs
  paid_all = branch_paid B (draft_short d) n ps rs b.stage p b.shared

  pub branch_added : {a c : Store} {first : Option ℕ} {complete : Bool} → GrownTo B ps m n p s.heads 0 a c first complete → WithinCost a c (cost n rs)
  branch_added {a} {c} {first} {complete} h = children_added B ps m n p s.heads 0 a c first complete (cost n rs) paid_all h

  -- a new symbol
  module _ {i x : ℕ} (h : NewHead s i x) where
    abbrev few : ℕ
    few = length (head_args B.signature (symbol x))

    abbrev kept : List Rule
    kept = filter (has_at p (symbol x)) rs

    below : i ≤ length s.heads
    below = let q = b.long in let w = h.within in omega arith

    is_new : Memᴰ (symbol x) (constructors_at p rs)
    is_new = symbol_met B ps m n p s.heads i x h.after below h.new all_new

    pub new_short : length p < 64
    new_short = shared_short B (draft_short d) n ps rs b.stage p (symbol x) b.shared is_new

    new_stage : AtStage B (n - 1) (opened_under B.signature ps p (symbol x)) kept
    new_stage = child_stage B (draft_short d) n ps rs b.stage p (symbol x) b.shared is_new

    -- the open positions have room
    pub new_open : (k : ℕ) → k ≡ few → length (opened ps p k) ≤ 64
    new_open k e = subst (λ (z : ℕ). length (opened ps p z) ≤ 64) (sym e) (open_room B (draft_short d) (n - 1) (opened_under B.signature ps p (symbol x)) kept new_stage)

    pub new_child : (qs : List (List ℕ)) (ms : List Bool) (k : ℕ) → qs ≡ opened ps p k → k ≡ few → ms ≡ map (is_head x) s.heads → NewChild d ps m n s x qs ms
    new_child qs ms k o e f =
        let q : qs ≡ opened_under B.signature ps p (symbol x) = o ∙ ap (opened ps p) e in
        let r : chosen ms B.rules ≡ kept = ap (λ (hs : List Bool). chosen hs B.rules) f ∙ ap (λ (hs : List (Option ℕ)). chosen (map (is_head x) hs) B.rules) b.heads ∙ chosen_kept p x m B.rules in
        record {
          met = is_new;
          stage = subst (λ (zs : List (List ℕ)). AtStage B (n - 1) zs (chosen ms B.rules)) (sym q) (subst (AtStage B (n - 1) (opened_under B.signature ps p (symbol x))) (sym r) new_stage);
          costs = ap (cost (n - 1)) r;
          tree = ap₂ (grow B.signature (n - 1)) q r;
        }

    -- and there is room for it
    pub new_room : {a c : Store} {first : Option ℕ} {complete : Bool} → GrownTo B ps m n p s.heads i a c first complete
        → length (nodes_of c) + due B ps m n p s.heads x ≤ length (nodes_of a) + paid_under longest_side (n - 1) p rs (constructors_at p rs)
    new_room {a} {c} {first} {complete} = room_left B ps m n p s.heads i x a c first complete h.after below h.new

    -- what is added with it
    pub new_added : {qs : List (List ℕ)} {ms : List Bool} {a c : Store} {first : Option ℕ} {complete : Bool} (e : Store) → NewChild d ps m n s x qs ms → GrownTo B ps m n p s.heads i a c first complete
        → WithinCost c e (cost (n - 1) (chosen ms B.rules)) → WithinCost a e (cost n rs)
    new_added {qs} {ms} {a} {c} {first} {complete} e z g w =
        child_added B ps m n p s.heads i a c e first complete (cost n rs) (due B ps m n p s.heads x) paid_all g (new_room g) (subst (WithinCost c e) z.costs w)

    -- without its tree there is none
    pub new_missing : {qs : List (List ℕ)} {ms : List Bool} → NewChild d ps m n s x qs ms → grow B.signature (n - 1) qs (chosen ms B.rules) ≡ None → grow B.signature n ps rs ≡ None
    new_missing z e = child_missing B ps m n p s.heads (symbol x) branch_fuel b.none b.shared z.met (sym z.tree ∙ e)

    -- with it there is one child more
    pub new_more : {qs : List (List ℕ)} {ms : List Bool} {a c g : Store} {first : Option ℕ} {complete : Bool} (e : Store) (k : Grown) (node : Node) (t : Tree) → NewChild d ps m n s x qs ms → GrownTo B ps m n p s.heads i a c first complete
        → WithinCost c e (cost (n - 1) (chosen ms B.rules)) → grow B.signature (n - 1) qs (chosen ms B.rules) ≡ Some t → (stored B.rules e, seen_kind B.rules k.kind) ≡ laid_tree (stored B.rules c) t → k.complete ≡ is_complete B.signature t
        → nodes_of g ≡ nodes_of e ++ (node ∷ []) → node.symbol ≡ x → node.kind ≡ k.kind → node.next ≡ first
        → GrownTo B ps m n p s.heads (i - 1) a g (Some (length (nodes_of e))) (complete && k.complete)
    new_more {qs} {ms} {a} {c} {g} {first} {complete} e k node t z l w r wrote told pushed =
        grown_more B ps m n p s.heads i x a c e g first complete k node t h.after below h.new l (subst (WithinCost c e) z.costs w) (sym z.tree ∙ r) wrote told pushed
