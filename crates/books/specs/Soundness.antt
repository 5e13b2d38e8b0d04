-- What every rule set and every book keeps, as tests. Assumes nothing.
use Rattle.std.specs.Prelude.{is_some, is_none, ℕ, suc, Bool, true, false, ◌&&◌, List, [], ◌∷◌, Option, ◌==◌}
use Rattle.std.specs.Option.{option_eq}
use Rattle.std.specs.Cmp.Lexicographic.{pointwise}
use Rattle.std.specs.Str.{bytes_eq}
use Rattle.terms.specs.declared.signature.Role.{Role}
use Rattle.terms.specs.declared.signature.Role.TheVariants.{Constructor, Function, Operation}
use Rattle.terms.specs.Terms.{Term, var, con, fun, Terms, nil, ◌▸◌}
use Rattle.terms.specs.Signatures.{Declaration}
use Rattle.rewriting.specs.Rules.{Rule, Book}
use Rattle.rewriting.specs.FixedTree.{same_head, same_fn, fixed_tree}
use Rattle.drafts.specs.Drafts.{Draft, awaited}
use Rattle.drafts.specs.Books.{book_of}
use Rattle.trees.specs.declared.trees.Trees.{Trees}
use Rattle.trees.specs.Checks.{check_fault}
use Rattle.trees.specs.Layout.{SeenKind, applies, branches, SeenNode, Layout, laid_out}
use Rattle.trees.specs.Standing.{layout_of}

-- whether two terms are the same
abbrev mutual
  pub same_term : Term → Term → Bool
  same_term (var x) (var y) = x == y
  same_term (var x) (con d us) = false
  same_term (var x) (fun g us) = false
  same_term (con c ts) (var y) = false
  same_term (con c ts) (con d us) = same_head c d && same_terms ts us
  same_term (con c ts) (fun g us) = false
  same_term (fun f ts) (var y) = false
  same_term (fun f ts) (con d us) = false
  same_term (fun f ts) (fun g us) = same_fn f g && same_terms ts us

  -- and so for terms in a row
  pub same_terms : Terms → Terms → Bool
  same_terms nil nil = true
  same_terms nil (u ▸ us) = false
  same_terms (t ▸ ts) nil = false
  same_terms (t ▸ ts) (u ▸ us) = same_term t u && same_terms ts us

-- whether two rules are the same
abbrev pub same_rule : Rule → Rule → Bool
same_rule r q = r.function == q.function && (same_terms r.left q.left && same_term r.right q.right)

-- whether a symbol in a role has its fixed tree, if it is a function
abbrev pub has_fixed : Book → ℕ → Role → Bool
has_fixed B s Constructor = true
has_fixed B s Function = is_some (fixed_tree B s)
has_fixed B s Operation = true

-- so for each symbol, from s on
abbrev pub all_fixed : Book → ℕ → List Declaration → Bool
all_fixed B s [] = true
all_fixed B s (d ∷ ds) = has_fixed B s d.role && all_fixed B (suc s) ds

-- whether two links are the same
abbrev pub same_link : Option ℕ → Option ℕ → Bool
same_link = option_eq ◌==◌

-- whether two nodes are seen to be the same rule or branch
abbrev pub same_kind : SeenKind → SeenKind → Bool
same_kind (applies r) (applies q) = option_eq same_rule r q
same_kind (applies r) (branches q j) = false
same_kind (branches p i) (applies q) = false
same_kind (branches p i) (branches q j) = bytes_eq p q && same_link i j

-- whether two seen nodes are the same
abbrev pub same_seen : SeenNode → SeenNode → Bool
same_seen m n = same_head m.under n.under && (same_kind m.kind n.kind && same_link m.next n.next)

-- whether two layouts are the same
abbrev pub same_layout : Layout → Layout → Bool
same_layout v w = pointwise same_seen v.nodes w.nodes && pointwise same_link v.roots w.roots

-- whether the nodes and the roots are the layout of a book's trees
abbrev pub is_laid : Book → Trees → Bool
is_laid B t = same_layout (layout_of B t) (laid_out B)

-- a rule set: no rule is awaited, each function has its fixed tree, and the nodes and the roots are the layout of these trees
abbrev pub set_sound : Draft → Trees → Bool
set_sound D t = is_none (awaited D) && (all_fixed (book_of D) 0 D.signature.symbols && is_laid (book_of D) t)

-- a book: Check finds no fault
abbrev pub is_accepted : Draft → Bool
is_accepted D = is_none (check_fault D)
