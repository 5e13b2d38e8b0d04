use Rattle.std.proofs.Common.{◌≡◌, ◌+◌, ◌<◌, ◌≤◌, [], ◌∷◌, ◌++◌, true, false, length, get_or, ap, ◌∙◌, List, arith}
use Rattle.std.proofs.lemmas.List.{length-append}
use Rattle.std.specs.Str.{bytes_eq}
use Rattle.rewriting.specs.Growing.{below, opened}
use Rattle.trees.specs.declared.path.Path.{Path}
use Rattle.trees.specs.Views.{steps_of}
use Rattle.trees.specs.Opens.{open_of, paths_of}
use Rattle.trees.proofs.Opens.{length_below, opened_more, opened_room}
use Rattle.trees.proofs.open.Open.push_opened.Goals as goal

pub push_below-requires-clause-room : goal.push_below-requires-clause-room
push_below-requires-clause-room c =
    let p = steps_of c.args.path.now in
    let ds = paths_of c.args.others.now in
    let i = c.loop-other.other-index in
    let q = c.paths-other-items.ensures in
    let a : i < length ds = omega (arith, c.loop-other-test.true, ap (λ (xs : List Path). length xs) q) in
    let at : c.other-item.result ≡ get_or ds i c.other-item.result = c.other-item.is ∙ ap (λ (xs : List Path). get_or xs i c.other-item.result) q in
    let e = opened_more ds i c.other-item.result p c.args.arity true a (c.if-eq.ensures ∙ ap (λ (z : Path). bytes_eq (steps_of z) p) at) in
    let r : length (open_of c.loop-other.self) + length (below p 1 c.args.arity) ≤ length (open_of c.args.self.now ++ opened (open_of c.args.others.now) p c.args.arity) = opened_room _ _ _ _ _ c.loop-other.invariant e in
    let l = length_below p 1 c.args.arity in
    let k = length-append (open_of c.args.self.now) (opened (open_of c.args.others.now) p c.args.arity) in
    omega (arith, c.requires.room)

pub push-requires : goal.push-requires
push-requires c =
    let p = steps_of c.args.path.now in
    let ds = paths_of c.args.others.now in
    let i = c.loop-other.other-index in
    let q = c.paths-other-items.ensures in
    let a : i < length ds = omega (arith, c.loop-other-test.true, ap (λ (xs : List Path). length xs) q) in
    let at : c.other-item.result ≡ get_or ds i c.other-item.result = c.other-item.is ∙ ap (λ (xs : List Path). get_or xs i c.other-item.result) q in
    let e = opened_more ds i c.other-item.result p c.args.arity false a (c.if-eq.ensures ∙ ap (λ (z : Path). bytes_eq (steps_of z) p) at) in
    let r : length (open_of c.loop-other.self) + length (steps_of (get_or ds i c.other-item.result) ∷ []) ≤ length (open_of c.args.self.now ++ opened (open_of c.args.others.now) p c.args.arity) = opened_room _ (steps_of (get_or ds i c.other-item.result) ∷ []) _ _ _ c.loop-other.invariant e in
    let k = length-append (open_of c.args.self.now) (opened (open_of c.args.others.now) p c.args.arity) in
    omega (arith, c.requires.room)
