use Rattle.std.proofs.Common.{◌≡◌, map, drop}
use Rattle.sc_core.specs.ViewParts.{plain_core_arm}
use Rattle.sc_core.specs.ViewStatements.{plain_does}
use Rattle.flow_form.specs.Gathers.{gathered_block, gathered_arms}
use Rattle.flow_form.proofs.gather.Wanted.+gather_in.Given as goal

abbrev pub invariant-block-loop-s : goal.invariant-block-loop-s
invariant-block-loop-s l =
    gathered_block l.self (map plain_does (drop l.s-index l.all)) l.to ≡ gathered_block l.self (map plain_does l.all) l.fn.to

abbrev pub invariant-arms-loop-arm : goal.invariant-arms-loop-arm
invariant-arms-loop-arm l =
    gathered_arms l.self (map plain_core_arm (drop l.arm-index l.arms)) l.to
    ≡ gathered_arms l.self (map plain_core_arm l.arms) l.fn.to
