use Rattle.std.proofs.Common.{Some, ap}
use Rattle.tour.specs.Checked.{Named}
use Rattle.tour.proofs.drafting.show_draft.Goals as goal

pub returns : goal.returns
unfolding Named
returns c = ap Some c.in_ok-add_rules.ensures
