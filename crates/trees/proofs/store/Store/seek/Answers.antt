use Rattle.std.proofs.Common.{◌≡◌, ℕ, ◌+◌, ◌-◌, ◌<◌, List, length, Option, sym, ap, ◌∙◌, arith}
use Rattle.std.proofs.lemmas.Bool.{ne_eqb}
use Rattle.trees.specs.declared.node.Node.{Node}
use Rattle.trees.specs.Nodes.{seek}
use Rattle.trees.specs.Growth.{nodes_of}
use Rattle.trees.proofs.Seeking.{seek_on}
use Rattle.trees.proofs.store.Store.seek.Goals as goal

pub loop-preserved : goal.loop-preserved
loop-preserved c =
    let a = c.args.self.now in
    let k = length (nodes_of a) - c.loop.counter in
    let l : 0 < k = omega (arith, c.loop-test.true, ap (λ (ns : List Node). length ns) c.as_slice-end.ensures) in
    let j : length (nodes_of a) - (c.loop.counter + 1) ≡ k - 1 = omega arith in
    ap (λ (x : ℕ). seek x (nodes_of a) c.in_ok-node.node.next c.args.symbol) j
    ∙ sym (seek_on (nodes_of a) c.args.symbol k c.in_ok-place.place l (sym c.in_ok-node.ensures) (ne_eqb c.args.symbol c.in_ok-node.node.symbol (λ e. c.if-node-symbol.false (sym e))))
    ∙ ap (λ (o : Option ℕ). seek k (nodes_of a) o c.args.symbol) (sym c.in_ok-place.was) ∙ c.loop.invariant
