use Rattle.std.proofs.Common.{◌≡◌, map, drop}
use Rattle.sc_core.specs.View.{plain_core, arguments_of}
use Rattle.sc_core.specs.ViewParts.{plain_core_link, plain_core_test}
use Rattle.flow_form.specs.Gathers.{gathered_all, gathered_links, gathered_tests}
use Rattle.flow_form.proofs.gather.Wanted.+gather.Given as goal

abbrev pub invariant-arguments-loop-e : goal.invariant-arguments-loop-e
invariant-arguments-loop-e l =
    gathered_all l.self (arguments_of (map plain_core (drop l.e-index l.all))) l.to
    ≡ gathered_all l.self (arguments_of (map plain_core l.all)) l.fn.to

abbrev pub invariant-links-loop-link : goal.invariant-links-loop-link
invariant-links-loop-link l =
    gathered_links l.self (map plain_core_link (drop l.link-index l.links)) l.to
    ≡ gathered_links l.self (map plain_core_link l.links) l.fn.to

abbrev pub invariant-tests-loop-test : goal.invariant-tests-loop-test
invariant-tests-loop-test l =
    gathered_tests l.self (map plain_core_test (drop l.test-index l.tests)) l.to
    ≡ gathered_tests l.self (map plain_core_test l.tests) l.fn.to
