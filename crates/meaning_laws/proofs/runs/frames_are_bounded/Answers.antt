use Rattle.meaning_laws.proofs.Framed.{frames_are_bounded}
use Rattle.meaning_laws.proofs.runs.frames_are_bounded.Goals as goal

pub returns : goal.returns
returns c = frames_are_bounded
