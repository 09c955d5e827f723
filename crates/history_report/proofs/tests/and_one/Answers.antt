use Rattle.std.proofs.lemmas.List.Elements.{All-push}
use Rattle.sc_layout.specs.Layout.{IsLawful}
use Rattle.history_report.proofs.tests.and_one.Goals as goal

pub returns : goal.returns
returns c = rw c.in_ok-push.ensures.items (All-push IsLawful _ _ c.requires.lawful c.requires.one)
