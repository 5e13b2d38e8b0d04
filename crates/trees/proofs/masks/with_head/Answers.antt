use Rattle.std.proofs.Common.{None, refl, get_or, arith, rules, ◌≡◌, length}
use Rattle.drafts.proofs.Lists.{made_at}
use Rattle.trees.specs.Rows.{is_head}
use Rattle.trees.proofs.Scanned.{compares, mapped}
use Rattle.trees.proofs.masks.with_head.Goals as goal

pub returns : goal.returns
returns c =
    let hs = c.args.heads.now in
    let s = c.args.symbol in
    let z = c.from_fn.ensures.items in
    let long : length hs ≡ 96 = search rules in
    mapped (is_head s) hs c.from_fn.result None (omega (arith, z.long, long))
    (λ k h. made_at _ _ (λ i. is_head s (get_or hs i None)) c.from_fn.result (λ i y q e. (search rules, compares (get_or hs i None) s y (search rules))) 96 0 _ refl z.each k (omega arith) (omega (arith, long)) (is_head s None))
