-- Parts at positions, and terms with a part replaced. Assumes nothing.
use Rattle.std.specs.Prelude.{ℕ, zero, suc, List, [], ◌∷◌, Some, None, Option}
use Rattle.terms.specs.Terms.{Term, var, con, fun, Terms, nil, ◌▸◌}

-- the part of t at the position p; argument numbers from 1
abbrev mutual
  pub part : Term → List ℕ → Option Term
  part (var v) [] = Some (var v)
  part (var v) (i ∷ p) = None
  part (con c ts) [] = Some (con c ts)
  part (con c ts) (i ∷ p) = part_of ts i p
  part (fun f ts) [] = Some (fun f ts)
  part (fun f ts) (i ∷ p) = part_of ts i p

  pub part_of : Terms → ℕ → List ℕ → Option Term
  part_of nil i p = None
  part_of (t ▸ ts) zero p = None
  part_of (t ▸ ts) (suc zero) p = part t p
  part_of (t ▸ ts) (suc (suc i)) p = part_of ts (suc i) p

-- t with s in place of the part at p
abbrev mutual
  pub graft : Term → List ℕ → Term → Term
  graft (var v) [] s = s
  graft (var v) (i ∷ p) s = var v
  graft (con c ts) [] s = s
  graft (con c ts) (i ∷ p) s = con c (graft_in ts i p s)
  graft (fun f ts) [] s = s
  graft (fun f ts) (i ∷ p) s = fun f (graft_in ts i p s)

  pub graft_in : Terms → ℕ → List ℕ → Term → Terms
  graft_in nil i p s = nil
  graft_in (t ▸ ts) zero p s = t ▸ ts
  graft_in (t ▸ ts) (suc zero) p s = graft t p s ▸ ts
  graft_in (t ▸ ts) (suc (suc i)) p s = t ▸ graft_in ts (suc i) p s
