-- Lists: what passes a test, and permutations.
use Rattle.std.proofs.Common.{◌≡◌, ℕ, Bool, true, false, cond, ◌||◌, ◌⊎◌, List, [], ◌∷◌, ◌++◌, refl, ap, ◌∙◌, subst, inl, inr, filter, sym, find, Some, Option, bytes_eq}
use mathlib.Core.List.Memᴰ
use mathlib.Core.List.{Memᴰ}
use Rattle.std.specs.List.{list_any, list_all}
use Rattle.std.proofs.lemmas.Bool.{or_cases, or_left, or_right, and_parts, and_from, cond-true, cond_both, cases_Bool}
use Rattle.std.proofs.lemmas.Slice.Eq.{bytes_eq-Decides}
use Rattle.rewriting.specs.Rules.{Different}
use Rattle.rewriting.specs.Trees.{Put, put_here, put_later, Permutation, perm_nil, perm_more}

module _ {A : Type 0} where
  module _ (t : A → Bool) where
    pub mem_kept : {x : A} {xs : List A} → Memᴰ x xs → t x ≡ true → Memᴰ x (filter t xs)
    mem_kept (Memᴰ.head {x = y} e) h = rw (← (ap t e), h) (Memᴰ.head e)
    mem_kept {x} (Memᴰ.tail {x = y} {xs = ys} m) h = cond_both (t y) (y ∷ filter t ys) (filter t ys) (Memᴰ x) (λ e. Memᴰ.tail (mem_kept m h)) (λ e. mem_kept m h)

    pub kept_mem : {x : A} (xs : List A) → Memᴰ x (filter t xs) → Memᴰ x xs × (t x ≡ true)
    kept_mem [] m = absurd (Memᴰ.not-nil m)
    kept_mem {x} (y ∷ ys) m =
        cond_both (t y) (y ∷ filter t ys) (filter t ys) (λ (zs : List A). Memᴰ x zs → Memᴰ x (y ∷ ys) × (t x ≡ true))
        (λ e n. elim (Memᴰ.cases_cons n) [ inl d ↦ (Memᴰ.head d, ap t d ∙ e) | inr k ↦ let z = kept_mem ys k in (Memᴰ.tail z.0, z.1) ])
        (λ e n. let z = kept_mem ys n in (Memᴰ.tail z.0, z.1))
        m

    pub kept_all : (xs : List A) → ((x : A) → Memᴰ x xs → t x ≡ true) → filter t xs ≡ xs
    kept_all [] h = refl
    kept_all (x ∷ xs) h = rw (h x (Memᴰ.head refl)) (ap (λ (ys : List A). x ∷ ys) (kept_all xs (λ y m. h y (Memᴰ.tail m))))

    pub kept_none : (xs : List A) → ((x : A) → Memᴰ x xs → t x ≡ false) → filter t xs ≡ []
    kept_none [] h = refl
    kept_none (x ∷ xs) h = rw (h x (Memᴰ.head refl)) (kept_none xs (λ y m. h y (Memᴰ.tail m)))

    -- some element passes
    pub any_mem : (xs : List A) → list_any t xs ≡ true → (x : A) × Memᴰ x xs × (t x ≡ true)
    any_mem [] e = absurd (cc)
    any_mem (x ∷ xs) e =
        elim (or_cases (t x) (list_any t xs) e) [ inl h ↦ (x, Memᴰ.head refl, h) | inr h ↦ let z = any_mem xs h in (z.0, Memᴰ.tail z.1, z.2) ]

    pub mem_any : {x : A} {xs : List A} → Memᴰ x xs → t x ≡ true → list_any t xs ≡ true
    mem_any (Memᴰ.head {x = y} {xs = ys} e) h = or_left (t y) (list_any t ys) (ap t (sym e) ∙ h)
    mem_any (Memᴰ.tail {x = y} {xs = ys} m) h = or_right (t y) (list_any t ys) (mem_any m h)

    -- each element passes
    pub all_mem : {x : A} {xs : List A} → Memᴰ x xs → list_all t xs ≡ true → t x ≡ true
    all_mem (Memᴰ.head {x = y} {xs = ys} e) h = ap t e ∙ (and_parts (t y) (list_all t ys) h).0
    all_mem (Memᴰ.tail {x = y} {xs = ys} m) h = all_mem m (and_parts (t y) (list_all t ys) h).1

    pub mem_all : (xs : List A) → ((x : A) → Memᴰ x xs → t x ≡ true) → list_all t xs ≡ true
    mem_all [] h = refl
    mem_all (x ∷ xs) h = and_from (t x) (list_all t xs) (h x (Memᴰ.head refl)) (mem_all xs (λ y m. h y (Memᴰ.tail m)))

    -- the first that passes
    pub found : (xs : List A) {x : A} → find t xs ≡ Some x → Memᴰ x xs × (t x ≡ true)
    found [] e = absurd (cc)
    found (y ∷ ys) {x} e =
        cond_both (t y) (Some y) (find t ys) (λ (o : Option A). o ≡ Some x → Memᴰ x (y ∷ ys) × (t x ≡ true))
        (λ d h. let i : x ≡ y = cc in (Memᴰ.head i, ap t i ∙ d))
        (λ d h. let z = found ys h in (Memᴰ.tail z.0, z.1))
        e

    pub mem_found : {x : A} {xs : List A} → Memᴰ x xs → t x ≡ true → (y : A) × (find t xs ≡ Some y)
    mem_found (Memᴰ.head {x = y} {xs = ys} e) h = (y, cond-true (t y) (Some y) (find t ys) (ap t (sym e) ∙ h))
    mem_found (Memᴰ.tail {x = y} {xs = ys} m) h = cond_both (t y) (Some y) (find t ys) (λ (o : Option A). (z : A) × (o ≡ Some z)) (λ e. (y, refl)) (λ e. mem_found m h)

    -- what passes is different if all is
    pub different_kept : (xs : List A) → Different xs → Different (filter t xs)
    different_kept [] h = tt
    different_kept (x ∷ xs) h = cond_both (t x) (x ∷ filter t xs) (filter t xs) Different (λ e. ((λ m. h.0 (kept_mem xs m).0), different_kept xs h.1)) (λ e. different_kept xs h.1)

  -- the order of two tests does not matter
  pub kept_twice : (f g : A → Bool) (xs : List A) → filter f (filter g xs) ≡ filter g (filter f xs)
  kept_twice f g [] = refl
  kept_twice f g (x ∷ xs) = go (f x) refl (g x) refl (kept_twice f g xs)
    where
      go : (a : Bool) → f x ≡ a → (b : Bool) → g x ≡ b → filter f (filter g xs) ≡ filter g (filter f xs)
          → filter f (cond b (x ∷ filter g xs) (filter g xs)) ≡ filter g (cond a (x ∷ filter f xs) (filter f xs))
      go true d true e h = rw (d, e) (ap (λ (zs : List A). x ∷ zs) h)
      go true d false e h = rw e h
      go false d true e h = rw d h
      go false d false e h = h

  -- permutations have the same members
  put_mem : {x y : A} {ys zs : List A} → Put x ys zs → Memᴰ y zs → (y ≡ x) ⊎ Memᴰ y ys
  put_mem put_here (Memᴰ.head e) = inl e
  put_mem put_here (Memᴰ.tail m) = inr m
  put_mem (put_later i) (Memᴰ.head e) = inr (Memᴰ.head e)
  put_mem (put_later i) (Memᴰ.tail m) = elim (put_mem i m) [ inl e ↦ inl e | inr n ↦ inr (Memᴰ.tail n) ]

  pub perm_mem : {xs ys : List A} {y : A} → Permutation xs ys → Memᴰ y ys → Memᴰ y xs
  perm_mem perm_nil m = absurd (Memᴰ.not-nil m)
  perm_mem {y = y} (perm_more {x = x} {xs = xs} {ys = ys} i p) m = go (put_mem i m) (λ n. perm_mem p n)
    where
      go : (y ≡ x) ⊎ Memᴰ y ys → (Memᴰ y ys → Memᴰ y xs) → Memᴰ y (x ∷ xs)
      go (inl e) ih = Memᴰ.head e
      go (inr n) ih = Memᴰ.tail (ih n)

  mem_put : {x y : A} {ys zs : List A} → Put x ys zs → (y ≡ x) ⊎ Memᴰ y ys → Memᴰ y zs
  mem_put put_here (inl e) = Memᴰ.head e
  mem_put put_here (inr m) = Memᴰ.tail m
  mem_put (put_later i) (inl e) = Memᴰ.tail (mem_put i (inl e))
  mem_put (put_later i) (inr (Memᴰ.head e)) = Memᴰ.head e
  mem_put (put_later i) (inr (Memᴰ.tail m)) = Memᴰ.tail (mem_put i (inr m))

  pub mem_perm : {xs ys : List A} {x : A} → Permutation xs ys → Memᴰ x xs → Memᴰ x ys
  mem_perm perm_nil m = m
  mem_perm (perm_more i p) (Memᴰ.head e) = mem_put i (inl e)
  mem_perm (perm_more i p) (Memᴰ.tail m) = mem_put i (inr (mem_perm p m))

  -- a permutation of one
  pub none_perm : {xs ys : List A} → Permutation xs ys → xs ≡ [] → ys ≡ []
  none_perm perm_nil e = refl
  none_perm (perm_more i p) e = absurd (cc)

  put_none : {x : A} {ys zs : List A} → Put x ys zs → ys ≡ [] → zs ≡ x ∷ []
  put_none {x} put_here e = ap (λ (vs : List A). x ∷ vs) e
  put_none (put_later i) e = absurd (cc)

  pub one_perm : {xs ys : List A} {r : A} → Permutation xs ys → xs ≡ r ∷ [] → ys ≡ r ∷ []
  one_perm perm_nil e = absurd (cc)
  one_perm {r = r} (perm_more {x = x} {xs = xs} {zs = zs} i p) e =
      let d : x ≡ r = cc in
      let f : xs ≡ [] = cc in
      subst (λ (y : A). zs ≡ y ∷ []) d (put_none i (none_perm p f))

  -- a permutation of what passes a test
  module _ (t : A → Bool) where
    put_true : {x : A} {ys zs : List A} → Put x ys zs → t x ≡ true → Put x (filter t ys) (filter t zs)
    put_true put_here e = rw e put_here
    put_true {x} (put_later {y = y} {ys = ys} {zs = zs} i) e = go (t y) (put_true i e)
      where
        go : (b : Bool) → Put x (filter t ys) (filter t zs) → Put x (cond b (y ∷ filter t ys) (filter t ys)) (cond b (y ∷ filter t zs) (filter t zs))
        go true j = put_later j
        go false j = j

    put_false : {x : A} {ys zs : List A} → Put x ys zs → t x ≡ false → filter t zs ≡ filter t ys
    put_false put_here e = rw e
    put_false (put_later {y = y} i) e = ap (λ (vs : List A). cond (t y) (y ∷ vs) vs) (put_false i e)

    pub perm_kept : {xs ys : List A} → Permutation xs ys → Permutation (filter t xs) (filter t ys)
    perm_kept perm_nil = perm_nil
    perm_kept (perm_more {x = x} {xs = xs} {ys = ys} {zs = zs} i p) =
        cond_both (t x) (x ∷ filter t xs) (filter t xs) (λ (vs : List A). Permutation vs (filter t zs)) (λ e. perm_more (put_true i e) (perm_kept p)) (λ e. rw (put_false i e) (perm_kept p))

  -- zs is dealt out to xs and ys
  pub data Mix : List A → List A → List A → Type 0 where
    mix_nil : Mix [] [] []
    mix_left : {x : A} {xs ys zs : List A} → Mix xs ys zs → Mix (x ∷ xs) ys (x ∷ zs)
    mix_right : {y : A} {xs ys zs : List A} → Mix xs ys zs → Mix xs (y ∷ ys) (y ∷ zs)

  mix_none : {xs ys zs : List A} → Mix xs ys zs → xs ≡ [] → ys ≡ zs
  mix_none mix_nil e = refl
  mix_none (mix_left m) e = absurd (cc)
  mix_none (mix_right {y = y} m) e = ap (λ (vs : List A). y ∷ vs) (mix_none m e)

  take_out : {x : A} {xs ys zs vs : List A} → Mix xs ys zs → Put x vs xs → (us : List A) × Put x us zs × Mix vs ys us
  take_out mix_nil i = elim i [ ]
  take_out (mix_left m) put_here = (_, put_here, m)
  take_out (mix_left {x = y} m) (put_later i) = let z = take_out m i in (y ∷ z.0, put_later z.1, mix_left z.2)
  take_out (mix_right {y = y} m) i = let z = take_out m i in (y ∷ z.0, put_later z.1, mix_right z.2)

  pub perm_mix : {xs vs ys us zs : List A} → Permutation xs vs → Permutation ys us → Mix vs us zs → Permutation (xs ++ ys) zs
  perm_mix {ys = ys} perm_nil q m = subst (Permutation ys) (mix_none m refl) q
  perm_mix (perm_more i p) q m = let z = take_out m i in perm_more z.1 (perm_mix p q z.2)

  -- what passes one of two tests, no two of which pass together
  pub mix_kept : (f g : A → Bool) (xs : List A) → ((x : A) → f x ≡ true → g x ≡ true → ⊥) → Mix (filter f xs) (filter g xs) (filter (λ x. f x || g x) xs)
  mix_kept f g [] h = mix_nil
  mix_kept f g (x ∷ xs) h = go (f x) refl (g x) refl (mix_kept f g xs h)
    where
      go : (a : Bool) → f x ≡ a → (b : Bool) → g x ≡ b → Mix (filter f xs) (filter g xs) (filter (λ y. f y || g y) xs)
          → Mix (cond a (x ∷ filter f xs) (filter f xs)) (cond b (x ∷ filter g xs) (filter g xs)) (cond (a || b) (x ∷ filter (λ y. f y || g y) xs) (filter (λ y. f y || g y) xs))
      go true d true e m = absurd (h x d e)
      go true d false e m = mix_left m
      go false d true e m = mix_right m
      go false d false e m = m

-- positions are equal or not
pub same_position : (p q : List ℕ) → (p ≡ q) ⊎ (p ≡ q → ⊥)
same_position p q =
    let d = bytes_eq-Decides p q in
    elim (cases_Bool (bytes_eq p q)) [ inl e ↦ inl (d.0 e) | inr e ↦ inr (λ h. let y = d.1 h in cc) ]
