-- The walk along a left side with the sorts that are due.
use Rattle.std.proofs.Common.{◌≡◌, ℕ, zero, suc, ◌+◌, ◌<◌, ◌≤◌, true, List, [], ◌∷◌, map, length, get_or, drop, Some, None, Ok, Err, Option, Result, sym, refl, ap, ◌∙◌, subst, arith, option_map}
use Rattle.std.specs.List.{slice_get}
use Rattle.std.proofs.lemmas.List.{at_drop_more, length-append}
use Rattle.std.proofs.lemmas.Bool.{cond-true}
use Rattle.terms.specs.declared.signature.Entry.{Entry}
use Rattle.terms.specs.declared.signature.Signature.{Signature as Table}
use Rattle.terms.specs.Rows.{items}
use Rattle.terms.proofs.Tables.{items_fit}
use Rattle.terms.specs.Terms.{cell, symbol}
use Rattle.terms.specs.Letters.{letter_of}
use Rattle.terms.specs.Signatures.{Signature}
use Rattle.terms.specs.Roots.{Root, variable, head, call, fn_number, args_in, root_args, root_of, args_of}
use Rattle.terms.specs.Views.{declaration, view}
use Rattle.terms.proofs.Letters.{zero_one}
use Rattle.words.specs.Faults.{due_after}
use Rattle.drafts.specs.Rules.{takes_sort, noted, one_on, left_sorts}
use Rattle.drafts.specs.Dues.{TakesFirst}

-- the same answer, seen from i letters earlier
abbrev pub later_by : ℕ → Result (List (Option ℕ)) ℕ → Result (List (Option ℕ)) ℕ
later_by i (Ok vs) = Ok vs
later_by i (Err j) = Err (i + j)

later_one : (i : ℕ) (r : Result (List (Option ℕ)) ℕ) → later_by i (one_on r) ≡ later_by (i + 1) r
later_one i (Ok vs) = refl
later_one i (Err j) = ap Err (omega arith)

-- what was taken
pub taken_some : (ks js : List ℕ) (k : ℕ) → TakesFirst ks (Some k) js → ks ≡ k ∷ js
taken_some [] js k h = absurd (let e = h.0 in zero_one (cc))
taken_some (l ∷ ks) js k h = let e = h.0 in let f = h.1 in cc

pub taken_none : (ks js : List ℕ) → TakesFirst ks None js → ks ≡ []
taken_none [] js h = refl
taken_none (l ∷ ks) js h = absurd (let e = h.0 in zero_one (cc))

module _ (S : Signature) where
  pub no_letter : (ks : List ℕ) (vs : List (Option ℕ)) → left_sorts S ks vs [] ≡ Ok vs
  no_letter [] vs = refl
  no_letter (k ∷ ks) vs = refl

  pub sorts_more : (w ks js : List ℕ) (i k : ℕ) (vs : List (Option ℕ)) → ks ≡ k ∷ js → i < length w → takes_sort S (get_or w i 0) k ≡ true
      → later_by i (left_sorts S ks vs (drop i w)) ≡ later_by (i + 1) (left_sorts S (due_after (args_of S (get_or w i 0)) js) (noted (letter_of (get_or w i 0)) k vs) (drop (i + 1) w))
  sorts_more w ks js i k vs e h t =
      ap (later_by i) (ap (λ (ls : List ℕ). left_sorts S ls vs (drop i w)) e ∙ at_drop_more (left_sorts S (k ∷ js) vs) w i 0 h ∙ cond-true (takes_sort S (get_or w i 0) k) _ _ t)
      ∙ later_one i (left_sorts S (due_after (args_of S (get_or w i 0)) js) (noted (letter_of (get_or w i 0)) k vs) (drop (i + 1) w))

  pub sorts_out : (w ks : List ℕ) (i : ℕ) (vs : List (Option ℕ)) → ks ≡ [] → i < length w → later_by i (left_sorts S ks vs (drop i w)) ≡ Ok vs
  sorts_out w ks i vs e h = ap (later_by i) (ap (λ (ls : List ℕ). left_sorts S ls vs (drop i w)) e ∙ at_drop_more (left_sorts S [] vs) w i 0 h)

-- a symbol has at most four arguments
pub few_declared : (es : List Entry) (s : ℕ) → length (args_in (slice_get (map declaration es) s)) ≤ 4
few_declared [] s = omega arith
few_declared (e ∷ es) zero = items_fit e.args
few_declared (e ∷ es) (suc s) = few_declared es s

pub few_arguments : (g : Table) (x : ℕ) (ks : List ℕ) → length (due_after (args_of (view g) x) ks) ≤ 4 + length ks
few_arguments g x ks = go (root_of (view g) x)
  where
    few_at : (s : ℕ) → length (args_in (slice_get (view g).symbols s)) ≤ 4
    few_at s = few_declared (items g.symbols) s

    of_root : (r : Root) → length (root_args (view g) r) ≤ 4
    of_root (variable v) = omega arith
    of_root (head (cell n)) = omega arith
    of_root (head (symbol s)) = few_at s
    of_root (call f) = few_at (fn_number f)

    go : (o : Option Root) → length (due_after (option_map (root_args (view g)) o) ks) ≤ 4 + length ks
    go None = omega arith
    go (Some r) = let h = of_root r in let l = length-append (root_args (view g) r) ks in omega arith

pub few_given : (g : Table) (x : ℕ) (ls : List ℕ) → Some ls ≡ args_of (view g) x → length ls ≤ 4
few_given g x ls e =
    let h = subst (λ (o : Option (List ℕ)). length (due_after o []) ≤ 4) (sym e) (few_arguments g x []) in
    let l = length-append ls [] in
    omega arith
