use Rattle.sc_isa.proofs.Settling.{settles}
use Rattle.sc_isa.proofs.laws.sound_code_settles.Goals as goal

pub returns : goal.returns
returns c code layout node budget sound in_layout = settles code layout sound node budget in_layout
