-- The order in which rules come.
use Rattle.std.proofs.Common.{◌≡◌, ℕ, zero, suc, ◌+◌, ◌-◌, ◌<◌, ◌≤◌, true, List, [], ◌∷◌, ◌++◌, length, get_or, drop, replicate, Some, None, sym, refl, ap, ◌∙◌, add-one, arith}
use Rattle.std.specs.List.{slice_get}
use Rattle.std.proofs.lemmas.List.{at_drop_more}
use Rattle.std.proofs.lemmas.Bool.{and_parts, and_from}
use Rattle.terms.specs.Signatures.{Signature}
use Rattle.terms.proofs.Letters.{zero_one}
use Rattle.drafts.specs.Drafts.{Sides, Draft, in_turn, total, awaited}
use Rattle.drafts.specs.Rules.{rule_fault, with_rule}
use Rattle.drafts.specs.Soundness.{faultless, stand_in_turn, contents_sound, is_sound}

nth_here : (p s n : ℕ) (xs : List ℕ) → n < p → slice_get (replicate p s ++ xs) n ≡ Some s
nth_here zero s n xs h = absurd (omega arith)
nth_here (suc p) s zero xs h = refl
nth_here (suc p) s (suc n) xs h = nth_here p s n xs (omega arith)

nth_past : (p s n : ℕ) (xs : List ℕ) → p ≤ n → slice_get (replicate p s ++ xs) n ≡ slice_get xs (n - p)
nth_past zero s n xs h = ap (slice_get xs) (omega arith)
nth_past (suc p) s zero xs h = absurd (omega arith)
nth_past (suc p) s (suc n) xs h = nth_past p s n xs (omega arith) ∙ ap (slice_get xs) (let e : n - p ≡ suc n - suc p = omega arith in e)

-- the steps of the loop over the promises
module _ (ps : List ℕ) where
  turn_step : (i n : ℕ) → i < length ps → slice_get (in_turn i (drop i ps)) n ≡ slice_get (replicate (get_or ps i 0) i ++ in_turn (i + 1) (drop (i + 1) ps)) n
  turn_step i n h = at_drop_more (λ (qs : List ℕ). slice_get (in_turn i qs) n) ps i 0 h ∙ ap (λ k. slice_get (replicate (get_or ps i 0) i ++ in_turn k (drop (i + 1) ps)) n) (sym (add-one i))

  pub turn_here : (i n : ℕ) → i < length ps → n < get_or ps i 0 → slice_get (in_turn i (drop i ps)) n ≡ Some i
  turn_here i n h l = turn_step i n h ∙ nth_here (get_or ps i 0) i n (in_turn (i + 1) (drop (i + 1) ps)) l

  pub turn_more : (i n : ℕ) → i < length ps → get_or ps i 0 ≤ n → slice_get (in_turn i (drop i ps)) n ≡ slice_get (in_turn (i + 1) (drop (i + 1) ps)) (n - get_or ps i 0)
  turn_more i n h l = turn_step i n h ∙ nth_past (get_or ps i 0) i n (in_turn (i + 1) (drop (i + 1) ps)) l

-- a function in turn is one of the symbols, and there are as many turns as promised rules
in_replicate : (p s f n : ℕ) (xs : List ℕ) → slice_get (replicate p s ++ xs) n ≡ Some f → (f ≡ s → ⊥) → slice_get xs (n - p) ≡ Some f
in_replicate zero s f n xs h g = ap (slice_get xs) (let e : n - 0 ≡ n = omega arith in e) ∙ h
in_replicate (suc p) s f zero xs h g = absurd (g (cc))
in_replicate (suc p) s f (suc n) xs h g = ap (slice_get xs) (let e : suc n - suc p ≡ n - p = omega arith in e) ∙ in_replicate p s f n xs h g

pub turn_short : (s n f : ℕ) (ps : List ℕ) → slice_get (in_turn s ps) n ≡ Some f → n < total ps
turn_short s n f [] h = absurd (zero_one (cc))
turn_short s n f (p ∷ ps) h = go (λ m g. turn_short (suc s) m f ps g) p n h
  where
    go : ((m : ℕ) → slice_get (in_turn (suc s) ps) m ≡ Some f → m < total ps) → (q m : ℕ) → slice_get (replicate q s ++ in_turn (suc s) ps) m ≡ Some f → m < q + total ps
    go ih zero m g = let i = ih m g in omega arith
    go ih (suc q) zero g = omega arith
    go ih (suc q) (suc m) g = let i = go ih q m g in omega arith

pub turn_below : (s n f : ℕ) (ps : List ℕ) → slice_get (in_turn s ps) n ≡ Some f → (s ≤ f) × (f < s + length ps)
turn_below s n f [] h = absurd (zero_one (cc))
turn_below s n f (p ∷ ps) h = go (λ m g. turn_below (suc s) m f ps g) p n h
  where
    go : ((m : ℕ) → slice_get (in_turn (suc s) ps) m ≡ Some f → (suc s ≤ f) × (f < suc s + length ps)) → (q m : ℕ) → slice_get (replicate q s ++ in_turn (suc s) ps) m ≡ Some f → (s ≤ f) × (f < s + suc (length ps))
    go ih zero m g = let i = ih m g in let a = i.0 in let b = i.1 in (omega arith, omega arith)
    go ih (suc q) zero g = let e : s ≡ f = cc in (omega arith, omega arith)
    go ih (suc q) (suc m) g = go ih q m g

-- one rule more in its turn
turn_push : (S : Signature) (fs : List ℕ) (qs : List Sides) (f : ℕ) (q : Sides) → stand_in_turn S fs qs ≡ true → slice_get fs (length qs) ≡ Some f → rule_fault S f q ≡ None → stand_in_turn S fs (qs ++ (q ∷ [])) ≡ true
turn_push S [] [] f q h n e = absurd (zero_one (cc))
turn_push S [] (r ∷ qs) f q h n e = absurd (zero_one (cc))
turn_push S (g ∷ fs) [] f q h n e =
    let i : f ≡ g = cc in
    and_from (faultless (rule_fault S g q)) (stand_in_turn S fs []) (ap faultless (ap (λ k. rule_fault S k q) (sym i) ∙ e)) (none_yet fs)
  where
    none_yet : (ks : List ℕ) → stand_in_turn S ks [] ≡ true
    none_yet [] = refl
    none_yet (k ∷ ks) = refl
turn_push S (g ∷ fs) (r ∷ qs) f q h n e =
    let p = and_parts (faultless (rule_fault S g r)) (stand_in_turn S fs qs) h in
    and_from (faultless (rule_fault S g r)) (stand_in_turn S fs (qs ++ (q ∷ []))) p.0 (turn_push S fs qs f q p.1 n e)

pub rule_kept : (D : Draft) (f : ℕ) (q : Sides) → is_sound D ≡ true → awaited D ≡ Some f → rule_fault D.signature f q ≡ None → is_sound (with_rule D q) ≡ true
rule_kept D f q h a e =
    let p = and_parts (contents_sound D.signature D.promised) (stand_in_turn D.signature (in_turn 0 D.promised) D.rules) h in
    and_from (contents_sound D.signature D.promised) (stand_in_turn D.signature (in_turn 0 D.promised) (D.rules ++ (q ∷ []))) p.0
    (turn_push D.signature (in_turn 0 D.promised) D.rules f q p.1 a e)
