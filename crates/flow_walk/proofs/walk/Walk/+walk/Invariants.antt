use Rattle.std.proofs.Common.{◌≡◌, map, drop}
use Rattle.sc_core.specs.ViewParts.{plain_core_arm}
use Rattle.sc_core.specs.ViewStatements.{plain_does}
use Rattle.flow_draw.specs.Around.{within_of}
use Rattle.flow_walk.specs.Steps.{walk_block, walk_arms}
use Rattle.flow_walk.proofs.walk.Walk.+walk.Given as goal

abbrev pub invariant-block-loop-s : goal.invariant-block-loop-s
invariant-block-loop-s l =
    walk_block l.around.entries.now (within_of l.around) (map plain_does (drop l.s-index l.all)) l.self
    ≡ walk_block l.around.entries.now (within_of l.around) (map plain_does l.all) l.fn.self

abbrev pub invariant-arms-loop-arm : goal.invariant-arms-loop-arm
invariant-arms-loop-arm l =
    walk_arms l.around.entries.now (within_of l.around) (map plain_core_arm (drop l.arm-index l.arms)) l.self
    ≡ walk_arms l.around.entries.now (within_of l.around) (map plain_core_arm l.arms) l.fn.self
