use Rattle.std.proofs.Common.{sym, subst}
use Rattle.sc_isa.specs.declared.journal.Entry.TheVariants.{Finished}
use Rattle.fabric.specs.Wired.{EntryWired}
use Rattle.fabric.specs.State.{State, start_of, nodes_of}
use Rattle.fabric.proofs.Calls.{in_book, ends_within, may_finish, finish_kept}
use Rattle.fabric.proofs.state.Fabric.finish.Goals as goal

pub finish-requires-clause-node : goal.finish-requires-clause-node
finish-requires-clause-node c =
    let s : State = record { memory = c.self.inside.memory; pool = c.self.inside.pool; book = c.self.inside.book; past = c.self.inside.log.past; spare = c.self.inside.spare } in
    in_book s c.args.node c.self.invariant.of_journal
    (ends_within (start_of s) (nodes_of s) s.past c.args.node c.args.end (subst (λ (v : State). EntryWired (start_of v) (nodes_of v) v.past (Finished c.args.node c.args.end)) (sym c.self.view_is) c.requires.wired))

pub finish-requires-clause-may : goal.finish-requires-clause-may
finish-requires-clause-may c =
    let s : State = record { memory = c.self.inside.memory; pool = c.self.inside.pool; book = c.self.inside.book; past = c.self.inside.log.past; spare = c.self.inside.spare } in
    may_finish s c.args.node c.args.end c.self.invariant.of_journal (subst (λ (v : State). EntryWired (start_of v) (nodes_of v) v.past (Finished c.args.node c.args.end)) (sym c.self.view_is) c.requires.wired)

pub invariant_of-self : goal.invariant_of-self
invariant_of-self c =
    let s : State = record { memory = c.self.inside.memory; pool = c.self.inside.pool; book = c.self.inside.book; past = c.self.inside.log.past; spare = c.self.inside.spare } in
    let w : EntryWired (start_of s) (nodes_of s) s.past (Finished c.args.node c.args.end) = (subst (λ (v : State). EntryWired (start_of v) (nodes_of v) v.past (Finished c.args.node c.args.end)) (sym c.self.view_is) c.requires.wired) in
    rw (c.add.ensures.past, c.finish.ensures)
    (finish_kept s c.self.inside.reads c.self.inside.log c.add.new.self c.args.node c.args.end c.self.invariant
    w (ends_within (start_of s) (nodes_of s) s.past c.args.node c.args.end w) (rw (← c.self.view_is) at c.requires.room) c.add.ensures.nodes c.add.ensures.room)
