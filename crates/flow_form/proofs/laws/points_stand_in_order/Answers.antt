use Rattle.flow_form.proofs.Run.{points_stand_in_order}
use Rattle.flow_form.proofs.laws.points_stand_in_order.Goals as goal

pub returns : goal.returns
returns c = points_stand_in_order
