use Rattle.std.proofs.Common.{◌≡◌, ◌∙◌, ◌∷◌, false}
use Rattle.sc_layout.specs.Start.{start}
use Rattle.sc_isa.specs.declared.access.Access.TheVariants.{Read}
use Rattle.sc_isa.specs.declared.access.Track.TheVariants.{Counter}
use Rattle.sc_isa.specs.declared.journal.Entry.TheVariants.{Issued}
use Rattle.effect_order.specs.Transfer.{part_value}
use Rattle.fabric.specs.Effects.{effects, or_zero}
use Rattle.fabric.proofs.Deciding.{decide_eq}
use Rattle.fabric.proofs.Awaiting.{issued_read, value_here, value_away}
use Rattle.fabric.proofs.steps.await_value.Goals as goal

pub returns-clause-awaited : goal.returns-clause-awaited
returns-clause-awaited c = λ past free holds u w.
    let value : c.own_value-value.result ≡ or_zero (part_value c.args.node c.args.number 0 false
    (effects (start c.args.memory.now.layout) (Issued c.args.node c.args.number (Read c.args.place (Counter c.args.counter)) ∷ past))) =
    decide_eq c.args.place.node c.args.node
    (λ here. value_here c.args.memory.now past c.args.node c.args.number c.args.counter c.args.place c.own_value-value.result here c.requires.placed u holds (c.own_value-value.ensures.here here))
    (λ away. c.own_value-value.ensures.away away ∙ value_away c.args.memory.now past c.args.node c.args.number c.args.counter c.args.place away u) in
    rw c.add.ensures.reads
    (issued_read (start c.args.memory.now.layout) past c.args.node c.args.number c.args.counter c.args.place c.own_value-value.result c.args.reads.now.reads free value w)
