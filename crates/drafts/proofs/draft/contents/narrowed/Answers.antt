use Rattle.std.proofs.Common.{rules, refl, arith, get_or}
use Rattle.drafts.proofs.Lists.{made_at, take_same}
use Rattle.drafts.proofs.draft.contents.narrowed.Goals as goal

pub returns : goal.returns
returns c =
    let z = c.from_fn.ensures.items in
    let l = c.requires.few in
    let s = c.args.sorts.now in
    take_same s c.from_fn.result (omega (arith, z.long, l))
    (λ k h. made_at _ _ (λ i. get_or s i 0) c.from_fn.result (λ i y q e. (search rules, search rules)) 4 0 _ refl z.each k (omega arith) (omega (arith, l)) 0)
