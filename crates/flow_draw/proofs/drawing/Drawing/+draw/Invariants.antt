use Rattle.std.proofs.Common.{◌≡◌, [], map, take, drop}
use Rattle.sc_core.specs.View.{plain_core, arguments_of}
use Rattle.sc_core.specs.ViewParts.{plain_core_first, plain_core_link, plain_core_test}
use Rattle.flow_draw.specs.Around.{within_of}
use Rattle.flow_draw.specs.Drawn.{drawn_all}
use Rattle.flow_draw.specs.Drawings.{drawn_links, every_from, any_from}
use Rattle.flow_draw.proofs.drawing.Drawing.+draw.Given as goal

abbrev pub invariant-arguments-loop-e : goal.invariant-arguments-loop-e
invariant-arguments-loop-e l =
    drawn_all l.around.entries.now (within_of l.around) (arguments_of (map plain_core (drop l.e-index l.all))) l.self
    ≡ drawn_all l.around.entries.now (within_of l.around) (arguments_of (map plain_core l.all)) l.fn.self

abbrev pub invariant-links-loop-i : goal.invariant-links-loop-i
invariant-links-loop-i l =
    drawn_links l.around.entries.now (within_of l.around) (plain_core_first l.first) (map plain_core_link (take l.i l.links))
    (map plain_core_link (drop l.i l.links)) l.self
    ≡ drawn_links l.around.entries.now (within_of l.around) (plain_core_first l.first) [] (map plain_core_link l.links) l.fn.self

abbrev pub invariant-every-loop-test : goal.invariant-every-loop-test
invariant-every-loop-test l =
    every_from l.around.entries.now (within_of l.around) l.ways.items (map plain_core_test (drop l.test-index l.tests)) l.self
    ≡ every_from l.around.entries.now (within_of l.around) [] (map plain_core_test l.tests) l.fn.self

abbrev pub invariant-any-loop-test : goal.invariant-any-loop-test
invariant-any-loop-test l =
    any_from l.around.entries.now (within_of l.around) l.ways (map plain_core_test (drop l.test-index l.tests)) l.self
    ≡ any_from l.around.entries.now (within_of l.around) [] (map plain_core_test l.tests) l.fn.self
