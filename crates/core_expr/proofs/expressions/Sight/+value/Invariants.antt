use Rattle.std.proofs.Common.{◌≡◌, ◌++◌, map, drop, length, true}
use Rattle.sc_tree.specs.ViewTyped.{plain_typed, plain_typed_link, plain_typed_tail, typed_expressions_of, typed_links_of, typed_tails_of}
use Rattle.sc_core.specs.Core.{none}
use Rattle.sc_core.specs.Places.{dimensions_of}
use Rattle.sc_core.specs.Expressions.{joined, indices_found, tails_found}
use Rattle.core_expr.specs.Listed.{values_in, tests_in}
use Rattle.sc_core.specs.View.{plain_core, arguments_of}
use Rattle.core_expr.specs.ViewFound.{seen_found}
use Rattle.sc_core.specs.ViewParts.{plain_core_test}
use Rattle.core_expr.proofs.expressions.Sight.+value.Given as goal

abbrev pub invariant-links-loop-link : goal.invariant-links-loop-link
invariant-links-loop-link l =
    joined l.self.objects.now l.star (plain_core l.left) (typed_links_of (map plain_typed_link (drop l.link-index l.rest)))
    ≡ joined l.self.objects.now l.fn.first_star (plain_core l.fn.first) (typed_links_of (map plain_typed_link l.rest))

abbrev pub invariant-operands-loop-e : goal.invariant-operands-loop-e
invariant-operands-loop-e l =
    map plain_core_test l.tests.items ++ tests_in l.self.objects.now (typed_expressions_of (map plain_typed (drop l.e-index l.all)))
    ≡ tests_in l.self.objects.now (typed_expressions_of (map plain_typed l.all))

abbrev pub invariant-values-loop-e : goal.invariant-values-loop-e
invariant-values-loop-e l =
    map plain_core l.values.items ++ values_in l.self.objects.now (typed_expressions_of (map plain_typed (drop l.e-index l.all)))
    ≡ values_in l.self.objects.now (typed_expressions_of (map plain_typed l.all))

abbrev pub invariant-indexed-loop-i : goal.invariant-indexed-loop-i
invariant-indexed-loop-i l =
    indices_found l.self.objects.now l.object l.left (length l.indices.items) l.plain (arguments_of (map plain_core l.indices.items))
    l.line l.stars (typed_tails_of (map plain_typed_tail (drop l.i l.all)))
    ≡ indices_found l.self.objects.now l.object (dimensions_of l.self.objects.now l.object) 0 true none l.fn.name_line l.stars
    (typed_tails_of (map plain_typed_tail l.all))

abbrev pub invariant-tails-loop-i : goal.invariant-tails-loop-i
invariant-tails-loop-i l =
    tails_found l.self.objects.now (seen_found l.what) l.stars (typed_tails_of (map plain_typed_tail (drop l.i l.all)))
    ≡ tails_found l.self.objects.now (seen_found l.fn.first) l.fn.first_stars
    (typed_tails_of (map plain_typed_tail (drop l.fn.from l.all)))
