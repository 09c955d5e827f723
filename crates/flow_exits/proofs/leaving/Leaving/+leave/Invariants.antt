use Rattle.std.proofs.Common.{◌≡◌, map, drop}
use Rattle.sc_core.specs.ViewParts.{plain_core_arm}
use Rattle.sc_core.specs.ViewStatements.{plain_does}
use Rattle.flow_exits.specs.Leaving.{left_block, left_arms}
use Rattle.flow_exits.proofs.leaving.Leaving.+leave.Given as goal

abbrev pub invariant-block-loop-s : goal.invariant-block-loop-s
invariant-block-loop-s l =
    left_block (map plain_does (drop l.s-index l.all)) l.self ≡ left_block (map plain_does l.all) l.fn.self

abbrev pub invariant-arms-loop-arm : goal.invariant-arms-loop-arm
invariant-arms-loop-arm l =
    left_arms (map plain_core_arm (drop l.arm-index l.arms)) l.self ≡ left_arms (map plain_core_arm l.arms) l.fn.self
