use Rattle.std.proofs.Common.{◌≡◌, ◌++◌, map, drop}
use Rattle.sc_core.specs.ViewParts.{plain_core_arm}
use Rattle.sc_core.specs.ViewStatements.{plain_does, block_of}
use Rattle.node_emit.specs.Done.{done, breaks_of, continues_of, arms_put, arms_jumps, arms_breaks, arms_continues}
use Rattle.node_emit.proofs.steps.Emitter.+statement.Given as goal

abbrev pub invariant-block-loop-stmt : goal.invariant-block-loop-stmt
invariant-block-loop-stmt l = record {
  draft : done l.self.plan.now (block_of (map plain_does (drop l.stmt-index l.all))) l.draft
      ≡ done l.self.plan.now (block_of (map plain_does l.all)) l.fn.draft;
  breaks : l.breaks.items ++ breaks_of l.self.plan.now (block_of (map plain_does (drop l.stmt-index l.all))) l.draft
      ≡ l.fn.breaks.items ++ breaks_of l.self.plan.now (block_of (map plain_does l.all)) l.fn.draft;
  continues : l.continues.items ++ continues_of l.self.plan.now (block_of (map plain_does (drop l.stmt-index l.all))) l.draft
      ≡ l.fn.continues.items ++ continues_of l.self.plan.now (block_of (map plain_does l.all)) l.fn.draft;
}

abbrev pub invariant-arms-loop-arm : goal.invariant-arms-loop-arm
invariant-arms-loop-arm l = record {
  draft : arms_put l.self.plan.now (map plain_core_arm (drop l.arm-index l.arms)) l.draft
      ≡ arms_put l.self.plan.now (map plain_core_arm l.arms) l.fn.draft;
  jumps : l.jumps.items ++ arms_jumps l.self.plan.now (map plain_core_arm (drop l.arm-index l.arms)) l.draft
      ≡ l.fn.jumps.items ++ arms_jumps l.self.plan.now (map plain_core_arm l.arms) l.fn.draft;
  breaks : l.breaks.items ++ arms_breaks l.self.plan.now (map plain_core_arm (drop l.arm-index l.arms)) l.draft
      ≡ l.fn.breaks.items ++ arms_breaks l.self.plan.now (map plain_core_arm l.arms) l.fn.draft;
  continues : l.continues.items ++ arms_continues l.self.plan.now (map plain_core_arm (drop l.arm-index l.arms)) l.draft
      ≡ l.fn.continues.items ++ arms_continues l.self.plan.now (map plain_core_arm l.arms) l.fn.draft;
}
