use Rattle.std.proofs.Common.{◌+◌, ◌-◌, ◌*◌}
use Rattle.tour.proofs.checking.+show_children_show_tree.Given as goal

abbrev pub decreases-show_children : goal.decreases-show_children
decreases-show_children l = 2 * (9 - l.indent)

abbrev pub decreases-show_tree : goal.decreases-show_tree
decreases-show_tree l = 2 * (9 - l.indent) + 1
