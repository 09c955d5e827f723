use Rattle.std.proofs.Common.{◌≡◌, map, drop}
use Rattle.sc_core.specs.View.{plain_core, arguments_of, every_of, any_of}
use Rattle.sc_core.specs.ViewParts.{plain_core_link, plain_core_test}
use Rattle.node_emit.specs.Drafts.{ended, emitted, emitted_all}
use Rattle.node_emit.specs.Drafted.{chained, closed}
use Rattle.node_emit.proofs.steps.Emitter.+value.Given as goal

abbrev pub invariant-arguments-loop-e : goal.invariant-arguments-loop-e
invariant-arguments-loop-e l =
    emitted_all l.self.plan.now (arguments_of (map plain_core (drop l.e-index l.all))) l.draft
    ≡ emitted_all l.self.plan.now (arguments_of (map plain_core l.all)) l.fn.draft

abbrev pub invariant-links-loop-link : goal.invariant-links-loop-link
invariant-links-loop-link l =
    chained l.self.plan.now (map plain_core_link (drop l.link-index l.links)) l.draft
    ≡ chained l.self.plan.now (map plain_core_link l.links) l.fn.draft

abbrev pub invariant-every-loop-test : goal.invariant-every-loop-test
invariant-every-loop-test l =
    closed l.zeros.items (emitted l.self.plan.now (every_of (map plain_core_test (drop l.test-index l.tests))) l.draft)
    ≡ emitted l.self.plan.now (every_of (map plain_core_test l.tests)) l.fn.draft

abbrev pub invariant-any-loop-test : goal.invariant-any-loop-test
invariant-any-loop-test l =
    ended l.jumps.items (emitted l.self.plan.now (any_of (map plain_core_test (drop l.test-index l.tests))) l.draft)
    ≡ emitted l.self.plan.now (any_of (map plain_core_test l.tests)) l.fn.draft
