use Rattle.std.proofs.Common.{◌≡◌, ◌++◌, map, drop}
use Rattle.std.specs.Vec.Iter.{into_iter_items}
use Rattle.sc_tree.specs.ViewTyped.{plain_typed}
use Rattle.sc_typing.specs.Calls.{met_all}
use Rattle.sc_typing.specs.ViewKnown.{seen_judged}
use Rattle.sc_judge.proofs.arguments.met_all.Given as goal

-- what is made so far, and then the rest, is what is made of all
abbrev pub invariant-loop-ty : goal.invariant-loop-ty
invariant-loop-ty l =
    map plain_typed l.made.items ++ met_all (drop l.ty-index l.wanted) (map seen_judged (into_iter_items l.left))
    ≡ met_all l.wanted (map seen_judged l.fn.given.items)
