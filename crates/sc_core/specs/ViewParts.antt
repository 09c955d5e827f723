-- The parts of core expressions and statements of the code as plain data.
use Rattle.sc_core.specs.declared.expression.CoreFirst.{CoreFirst, fold-CoreFirst}
use Rattle.sc_core.specs.declared.expression.CoreLink.{CoreLink, fold-CoreLink}
use Rattle.sc_core.specs.declared.expression.CoreTest.{CoreTest, fold-CoreTest}
use Rattle.sc_core.specs.declared.statement.CoreArm.{CoreArm, fold-CoreArm}
use Rattle.sc_core.specs.Core.{Core, Does}
use Rattle.sc_core.specs.View.{Linked, Tested, first_step, expr_step, link_step, test_step}
use Rattle.sc_core.specs.ViewStatements.{Armed, stmt_step, arm_step}

abbrev pub plain_core_first : CoreFirst → Core
plain_core_first = fold-CoreFirst Core Core Linked Tested first_step expr_step link_step test_step

abbrev pub plain_core_link : CoreLink → Linked
plain_core_link = fold-CoreLink Core Core Linked Tested first_step expr_step link_step test_step

abbrev pub plain_core_test : CoreTest → Tested
plain_core_test = fold-CoreTest Core Core Linked Tested first_step expr_step link_step test_step

abbrev pub plain_core_arm : CoreArm → Armed
plain_core_arm = fold-CoreArm Does Armed stmt_step arm_step
