use Rattle.std.proofs.Common.{◌-◌, subst, sym}
use Rattle.code_sim.specs.UnderWay.{IsUnderWay}
use Rattle.code_sim.proofs.Ready.{is_delivery}
use Rattle.code_sim.proofs.Moving.{delivery_under_way, delivery_moved}
use Rattle.code_sim.proofs.run.Simulation.advance.Goals as goal

pub deliver-requires : goal.deliver-requires
deliver-requires c = record {
  within = is_delivery c.args.code.now c.args.layout.now c.requires.sound c.args.budget c.args.self.now.fabric c.args.self.now.nodes.items c.requires.under_way c.args.k
      c.ready-ready.result c.if-k-ready.false c.ready-ready.ensures c.requires.within;
}

pub returns-else-k-ready-clause-under_way : goal.returns-else-k-ready-clause-under_way
returns-else-k-ready-clause-under_way c =
    subst (λ (v : _). IsUnderWay c.args.code.now c.args.layout.now c.args.budget c.deliver.new.self.fabric v.items) (sym c.deliver.ensures.nodes)
    (delivery_under_way c.args.code.now c.args.layout.now c.args.budget c.args.self.now.fabric c.args.self.now.nodes.items c.requires.under_way c.deliver.new.self.fabric
    (c.args.k - c.ready-ready.result) c.deliver.ensures.delivered)

pub returns-else-k-ready-clause-moved : goal.returns-else-k-ready-clause-moved
returns-else-k-ready-clause-moved c =
    delivery_moved c.args.code.now c.args.layout.now c.args.budget c.args.self.now.fabric c.args.self.now.nodes.items c.requires.under_way c.deliver.new.self.fabric
    c.ready-ready.result c.args.k c.if-k-ready.false c.deliver.ensures.delivered c.ready-ready.ensures
