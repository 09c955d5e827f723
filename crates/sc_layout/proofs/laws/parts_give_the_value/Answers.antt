use Rattle.sc_layout.proofs.Postfix.{parts_give_the_value}
use Rattle.sc_layout.proofs.laws.parts_give_the_value.Goals as goal

pub returns : goal.returns
returns c = parts_give_the_value
