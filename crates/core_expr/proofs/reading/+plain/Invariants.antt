use Rattle.std.proofs.Common.{◌≡◌, map, drop}
use Rattle.sc_tree.specs.ViewTyped.{plain_typed_link, typed_links_of}
use Rattle.sc_core.specs.Expressions.{are_plain}
use Rattle.core_expr.proofs.reading.+plain.Given as goal

abbrev pub invariant-are_plain-loop-link : goal.invariant-are_plain-loop-link
invariant-are_plain-loop-link l =
    are_plain (typed_links_of (map plain_typed_link l.all)) ≡ are_plain (typed_links_of (map plain_typed_link (drop l.link-index l.all)))
