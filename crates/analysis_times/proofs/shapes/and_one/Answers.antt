use Rattle.std.proofs.lemmas.List.Elements.{All-push}
use Rattle.sc_layout.specs.Layout.{IsLawful}
use Rattle.analysis_times.proofs.shapes.and_one.Goals as goal

pub returns : goal.returns
returns c = rw c.in_ok-push.ensures.items (All-push IsLawful _ _ c.requires.lawful c.requires.one)
