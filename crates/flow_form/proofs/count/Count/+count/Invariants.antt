use Rattle.std.proofs.Common.{◌≡◌, map, drop}
use Rattle.sc_core.specs.View.{plain_core, arguments_of}
use Rattle.sc_core.specs.ViewParts.{plain_core_link, plain_core_test}
use Rattle.flow_form.specs.Counts.{counted_all, counted_links, counted_tests}
use Rattle.flow_form.proofs.count.Count.+count.Given as goal

abbrev pub invariant-arguments-loop-e : goal.invariant-arguments-loop-e
invariant-arguments-loop-e l =
    counted_all (arguments_of (map plain_core (drop l.e-index l.all))) l.self
    ≡ counted_all (arguments_of (map plain_core l.all)) l.fn.self

abbrev pub invariant-links-loop-link : goal.invariant-links-loop-link
invariant-links-loop-link l =
    counted_links (map plain_core_link (drop l.link-index l.links)) l.self
    ≡ counted_links (map plain_core_link l.links) l.fn.self

abbrev pub invariant-tests-loop-test : goal.invariant-tests-loop-test
invariant-tests-loop-test l =
    counted_tests (map plain_core_test (drop l.test-index l.tests)) l.self
    ≡ counted_tests (map plain_core_test l.tests) l.fn.self
