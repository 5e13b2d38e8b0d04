-- The rules of a draft: how long their left sides are, that each function has one, and that its trees have room.
use Rattle.std.proofs.Common.{◌≡◌, ℕ, zero, suc, ◌+◌, ◌<◌, ◌≤◌, Bool, true, false, cond, eqb, leb, ◌≢◌, ◌⊎◌, List, [], ◌∷◌, ◌++◌, map, length, replicate, Some, None, sym, refl, ap, ◌∙◌, subst, inl, inr, arith, filter}
use mathlib.Core.List.Memᴰ
use mathlib.Core.List.{Memᴰ}
use Rattle.std.specs.List.{slice_get}
use Rattle.std.proofs.lemmas.List.{length-append, length-map, take_all}
use Rattle.std.proofs.lemmas.Bool.{cases_lt, cases_eq, le-leb, lt-leb, eq-eqb, ne_eqb}
use Rattle.terms.specs.Terms.{Term, var, con, fun, Terms, nil, ◌▸◌}
use Rattle.terms.proofs.Letters.{zero_one}
use Rattle.words.specs.Words.{word, words}
use Rattle.rewriting.specs.Substitutions.{Occurrence, in_first, in_later, moved, occurrences, all_occurrences, variables}
use Rattle.rewriting.specs.Rules.{Rule, left_side, Book, rules_of, Linear, SortCorrect}
use Rattle.rewriting.specs.FixedTree.{size, sizes}
use Rattle.rewriting.specs.Promises.{Ruled, NoLonger}
use Rattle.rewriting.proofs.Lists.{mem_kept, kept_mem}
use Rattle.drafts.specs.declared.draft.Draft.{Draft as Store}
use Rattle.drafts.specs.Drafts.{in_turn, awaited, letters_in, longest_side}
use Rattle.drafts.specs.Statements.{written}
use Rattle.drafts.specs.Books.{book_of}
use Rattle.drafts.specs.Stores.{seen}
use Rattle.drafts.proofs.Sound.{counted_contents, book_rules}
use Rattle.trees.specs.Growth.{cost}
use Rattle.trees.specs.Standing.{IsFunction, owed}
use Rattle.trees.proofs.Places.{nth_below, nth_there, nth_none}

-- a word has a letter for each symbol and for each variable
mutual
  word_letters : (t : Term) → length (word t) ≡ size t + length (occurrences t)
  word_letters (var v) = refl
  word_letters (con c ts) = let h = words_letters ts in omega arith
  word_letters (fun f ts) = let h = words_letters ts in omega arith

  words_letters : (ts : Terms) → length (words ts) ≡ sizes ts + length (all_occurrences ts)
  words_letters nil = refl
  words_letters (t ▸ ts) =
      let a = word_letters t in
      let b = words_letters ts in
      let c = length-append (word t) (words ts) in
      let d = length-append (map (moved in_first) (occurrences t)) (map (moved in_later) (all_occurrences ts)) in
      let e = length-map (occurrences t) (moved in_first) in
      let f = length-map (all_occurrences ts) (moved in_later) in
      omega arith

pub letters : (t : Term) → length (word t) ≡ size t + length (variables t)
letters t = let a = word_letters t in let b = length-map (occurrences t) (λ (o : Occurrence). o.name) in omega arith

-- no left side of a draft is too long
pub draft_short : (a : Store) (f : ℕ) → NoLonger (book_of (seen a)) f longest_side
draft_short a f r m =
    let s = book_rules a in
    let i = (kept_mem (λ q. eqb q.function f) (book_of (seen a)).rules m).0 in
    let w : Memᴰ (written r) (seen a).rules = subst (Memᴰ (written r)) s.as_written (Memᴰ.map written i) in
    let l = (s.short (written r) w).1 in
    let k = letters (left_side r) in
    omega arith

-- the rules of a function of a draft are sort-correct and left-linear
draft_right : (a : Store) (f : ℕ) (r : Rule) → Memᴰ r (rules_of (book_of (seen a)) f) → SortCorrect (seen a).signature r × Linear (left_side r)
draft_right a f r m =
    let s = book_rules a in
    let i = (kept_mem (λ q. eqb q.function f) (book_of (seen a)).rules m).0 in
    (s.sort_correct r i, s.left_linear r i)

-- a symbol that promises a rule has a turn
in_turn_mem : (s : ℕ) (ps : List ℕ) (f p : ℕ) → slice_get ps f ≡ Some p → 0 < p → Memᴰ (s + f) (in_turn s ps)
in_turn_mem s [] f p e h = absurd (zero_one (cc))
in_turn_mem s (q ∷ ps) zero p e h =
    let i : q ≡ p = cc in
    let z : s + 0 ≡ s = omega arith in
    go q (omega arith) z
  where
    go : (k : ℕ) → 0 < k → s + 0 ≡ s → Memᴰ (s + 0) (replicate k s ++ in_turn (suc s) ps)
    go zero l z = absurd (omega arith)
    go (suc k) l z = mathlib.Core.List.Memᴰ.head z
in_turn_mem s (q ∷ ps) (suc f) p e h =
    let i : suc s + f ≡ s + suc f = omega arith in
    mathlib.Core.List.Memᴰ.append_right (replicate q s) (subst (λ (x : ℕ). Memᴰ x (in_turn (suc s) ps)) i (in_turn_mem (suc s) ps f p e h))

-- where no rule is awaited, each function has one
pub draft_ruled : (a : Store) (f : ℕ) → awaited (seen a) ≡ None → IsFunction (seen a).signature f → Ruled (book_of (seen a)) f
draft_ruled a f none h =
    let D = seen a in
    let B = book_of D in
    let k = counted_contents a in
    let s = book_rules a in
    let l = k.one_each in
    let b = nth_below D.signature.symbols f h.1 in
    let p = nth_there D.promised f (omega arith) in
    let some : 0 < p.0 = (k.promises f h.0 p.0 h.1 p.1).1 h.2 in
    let turn : Memᴰ f (in_turn 0 D.promised) = (let z : 0 + f ≡ f = omega arith in subst (λ (x : ℕ). Memᴰ x (in_turn 0 D.promised)) z (in_turn_mem 0 D.promised f p.0 p.1 some)) in
    let all : map (λ (r : Rule). r.function) B.rules ≡ in_turn 0 D.promised = s.in_order ∙ take_all (length D.rules) (in_turn 0 D.promised) (nth_none (in_turn 0 D.promised) (length D.rules) none) in
    let x = Memᴰ.of_map (λ (r : Rule). r.function) B.rules (subst (Memᴰ f) (sym all) turn) in
    record { right = draft_right a f; some = (x.0, mem_kept (λ q. eqb q.function f) x.1 (eq-eqb x.0.function f x.2)) }

-- the rules of the symbols from s on, and of s alone
abbrev from_on : ℕ → Rule → Bool
from_on s r = leb s r.function

owed_step : (s : ℕ) (rs : List Rule) → cost longest_side (filter (from_on s) rs) ≡ cost longest_side (filter (λ r. eqb r.function s) rs) + cost longest_side (filter (from_on (suc s)) rs)
owed_step s [] = refl
owed_step s (r ∷ rs) = go (cases_lt s r.function) (cases_eq r.function s) (owed_step s rs)
  where
    Goal : Bool → Bool → Bool → Type 0
    Goal x y z = cost longest_side (cond x (r ∷ filter (from_on s) rs) (filter (from_on s) rs))
        ≡ cost longest_side (cond y (r ∷ filter (λ q. eqb q.function s) rs) (filter (λ q. eqb q.function s) rs)) + cost longest_side (cond z (r ∷ filter (from_on (suc s)) rs) (filter (from_on (suc s)) rs))

    at : (x y z : Bool) → leb s r.function ≡ x → eqb r.function s ≡ y → leb (suc s) r.function ≡ z → Goal x y z → Goal (leb s r.function) (eqb r.function s) (leb (suc s) r.function)
    at x y z e f g h = subst (λ (b : Bool). Goal b (eqb r.function s) (leb (suc s) r.function)) (sym e) (subst (λ (b : Bool). Goal x b (leb (suc s) r.function)) (sym f) (subst (Goal x y) (sym g) h))

    go : (s < r.function) ⊎ (r.function ≤ s) → (r.function ≡ s) ⊎ (r.function ≢ s)
        → cost longest_side (filter (from_on s) rs) ≡ cost longest_side (filter (λ q. eqb q.function s) rs) + cost longest_side (filter (from_on (suc s)) rs)
        → Goal (leb s r.function) (eqb r.function s) (leb (suc s) r.function)
    go (inl l) (inl e) h = absurd (omega arith)
    go (inl l) (inr n) h = at true false true (le-leb s r.function (omega arith)) (ne_eqb r.function s n) (le-leb (suc s) r.function (omega arith)) (omega arith)
    go (inr l) (inl e) h = at true true false (le-leb s r.function (omega arith)) (eq-eqb r.function s e) (lt-leb (suc s) r.function (omega arith)) (omega arith)
    go (inr l) (inr n) h = at false false false (lt-leb s r.function (omega arith)) (ne_eqb r.function s n) (lt-leb (suc s) r.function (omega arith)) (omega arith)

pub owed_split : (B : Book) (s : ℕ) → owed B s ≡ cost longest_side (rules_of B s) + owed B (suc s)
owed_split B s = owed_step s B.rules

-- all trees have room
owed_letters : (rs : List Rule) → cost longest_side (filter (from_on 0) rs) ≤ letters_in (map written rs)
owed_letters [] = omega arith
owed_letters (r ∷ rs) =
    let h = owed_letters rs in
    let l = letters (left_side r) in
    subst (λ (b : Bool). cost longest_side (cond b (r ∷ filter (from_on 0) rs) (filter (from_on 0) rs)) ≤ letters_in (map written (r ∷ rs))) (sym (le-leb 0 r.function (omega arith))) (omega arith)

pub draft_room : (a : Store) → owed (book_of (seen a)) 0 ≤ 1024
draft_room a =
    let s = book_rules a in
    let l = owed_letters (book_of (seen a)).rules in
    let e = ap letters_in s.as_written in
    let r = s.room in
    omega arith
