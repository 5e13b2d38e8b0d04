use Rattle.std.proofs.Common.{ℕ, List, [], ◌∷◌, ◌++◌, ap, ◌∙◌, arith}
use Rattle.trees.specs.Views.{steps_of}
use Rattle.trees.specs.Opens.{open_of}
use Rattle.trees.proofs.Opens.{pushed_below, room_below}
use Rattle.trees.proofs.open.Open.push_below.Goals as goal

pub push-requires : goal.push-requires
push-requires c =
    let r = room_below (open_of c.loop-i.self) (open_of c.args.self.now) (steps_of c.args.path.now) c.loop-i.i c.args.arity c.loop-i-test.true c.loop-i.invariant in
    omega (arith, c.requires.room)

pub loop-i-preserved : goal.loop-i-preserved
loop-i-preserved c =
    pushed_below (open_of c.push.new.self) _ (open_of c.loop-i.self) (steps_of c.args.path.now) c.loop-i.i c.args.arity c.loop-i-test.true c.loop-i.invariant
    (c.push.ensures ∙ ap (λ (q : List ℕ). open_of c.loop-i.self ++ (q ∷ [])) c.down.ensures)
