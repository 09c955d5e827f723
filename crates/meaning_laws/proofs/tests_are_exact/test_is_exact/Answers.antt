use Rattle.meaning_laws.proofs.Exact.{test_is_exact}
use Rattle.meaning_laws.proofs.tests_are_exact.test_is_exact.Goals as goal

pub returns : goal.returns
returns c = test_is_exact
