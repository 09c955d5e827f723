use Rattle.std.proofs.Common.{◌≡◌, ◌∷◌, ◌∙◌, sym, ap, subst}
use Rattle.sc_layout.specs.Start.{start}
use Rattle.sc_isa.specs.declared.access.Access.{Access}
use Rattle.sc_isa.specs.declared.access.Access.TheVariants.{Read}
use Rattle.sc_isa.specs.declared.access.Track.{Track}
use Rattle.sc_isa.specs.declared.access.Track.TheVariants.{Counter, Store, Covered}
use Rattle.sc_isa.specs.declared.journal.Entry.TheVariants.{Issued}
use Rattle.fabric.specs.Effects.{effects}
use Rattle.fabric.specs.Kept.{AreAwaited}
use Rattle.fabric.specs.Issuing.{HoldsAfter}
use Rattle.fabric.proofs.Awaiting.{NotAwaited, issued_other, write_not_awaited, copy_not_awaited, store_not_awaited, covered_not_awaited}
use Rattle.fabric.proofs.steps.await_read.Goals as goal

pub returns-in-Counter-clause-awaited : goal.returns-in-Counter-clause-awaited
returns-in-Counter-clause-awaited c = λ past free holds u w.
    let is : c.args.access ≡ Read c.in-Read.place (Counter c.in-Counter.counter) = c.in-Read.is ∙ ap (λ (t : Track). Read c.in-Read.place t) c.in-Counter.is in
    subst (λ (a : Access). AreAwaited (start c.args.memory.now.layout) (Issued c.args.node c.args.number a ∷ past) c.await_value.new.reads.reads) (sym is)
    (c.await_value.ensures.awaited past free
    (subst (λ (a : Access). HoldsAfter c.args.memory.now (effects (start c.args.memory.now.layout) (Issued c.args.node c.args.number a ∷ past))) is holds) u w)

pub returns-in-Store-clause-awaited : goal.returns-in-Store-clause-awaited
returns-in-Store-clause-awaited c = λ past free holds u w.
    let is : c.args.access ≡ Read c.in-Read.place Store = c.in-Read.is ∙ ap (λ (t : Track). Read c.in-Read.place t) c.in-Store.is in
    issued_other (start c.args.memory.now.layout) past c.args.node c.args.number c.args.access c.args.reads.now.reads free
    (subst NotAwaited (sym is) (store_not_awaited c.in-Read.place)) w

pub returns-in-Covered-clause-awaited : goal.returns-in-Covered-clause-awaited
returns-in-Covered-clause-awaited c = λ past free holds u w.
    let is : c.args.access ≡ Read c.in-Read.place Covered = c.in-Read.is ∙ ap (λ (t : Track). Read c.in-Read.place t) c.in-Covered.is in
    issued_other (start c.args.memory.now.layout) past c.args.node c.args.number c.args.access c.args.reads.now.reads free
    (subst NotAwaited (sym is) (covered_not_awaited c.in-Read.place)) w

pub returns-in-Write-clause-awaited : goal.returns-in-Write-clause-awaited
returns-in-Write-clause-awaited c = λ past free holds u w.
    issued_other (start c.args.memory.now.layout) past c.args.node c.args.number c.args.access c.args.reads.now.reads free
    (subst NotAwaited (sym c.in-Write.is) (write_not_awaited _ _ _)) w

pub returns-in-Copy-clause-awaited : goal.returns-in-Copy-clause-awaited
returns-in-Copy-clause-awaited c = λ past free holds u w.
    issued_other (start c.args.memory.now.layout) past c.args.node c.args.number c.args.access c.args.reads.now.reads free
    (subst NotAwaited (sym c.in-Copy.is) (copy_not_awaited _ _ _ _)) w
