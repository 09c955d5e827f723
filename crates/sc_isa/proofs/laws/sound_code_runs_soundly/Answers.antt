use Rattle.sc_isa.proofs.Settling.{soundly}
use Rattle.sc_isa.proofs.laws.sound_code_runs_soundly.Goals as goal

pub returns : goal.returns
returns c code layout node budget many answers sound in_layout = soundly code layout sound node budget in_layout many answers
