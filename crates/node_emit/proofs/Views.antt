-- What the plain copies of core trees are, where code reads them.
use Rattle.sc_core.proofs.ViewCoreLaws.{core_expr-is, core_link-is, core_test-is}

pub ruleset core_reads = (core_expr-is, core_link-is, core_test-is)
