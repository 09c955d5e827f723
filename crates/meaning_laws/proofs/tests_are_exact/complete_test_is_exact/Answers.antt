use Rattle.meaning_laws.proofs.CompleteExact.{complete_test_is_exact}
use Rattle.meaning_laws.proofs.tests_are_exact.complete_test_is_exact.Goals as goal

pub returns : goal.returns
returns c = complete_test_is_exact
