use Rattle.std.proofs.Common.{◌≡◌, ℕ, ◌+◌, ◌-◌, ◌<◌, ◌≤◌, ◌∷◌, None, length, sym, ap, ◌∙◌, subst, arith}
use Rattle.sc_layout.specs.Layout.{Arrangement}
use Rattle.sc_layout.specs.Start.{start}
use Rattle.sc_isa.specs.declared.journal.Entry.{Entry}
use Rattle.sc_isa.specs.declared.journal.Entry.TheVariants.{Issued}
use Rattle.sync_book.specs.Book.{Book, outstanding_on, with_outstanding}
use Rattle.fabric.specs.Access.{transfer_of, track_of}
use Rattle.fabric.specs.Effects.{access_at, effects, issues}
use Rattle.fabric.specs.Wired.{Going}
use Rattle.fabric.specs.Books.{Stands}
use Rattle.fabric.specs.State.{State, start_of, nodes_of, need_of, IsAccess}
use Rattle.fabric.specs.Kept.{AreAwaited}
use Rattle.fabric.specs.Issuing.{Unissued, HoldsAfter}
use Rattle.fabric.proofs.Flying.{next_is_free}
use Rattle.fabric.proofs.InFlight.{unissued}
use Rattle.fabric.proofs.Counted.{counted_rows, counted_sites, counted_stands}
use Rattle.fabric.proofs.IssueSteps.{need_enough, can_send, issue_kept}
use Rattle.fabric.proofs.state.Fabric.issue.Goals as goal

pub issue_access-requires-clause-ready : goal.issue_access-requires-clause-ready
issue_access-requires-clause-ready c =
    let s : State = record { memory = c.self.inside.memory; pool = c.self.inside.pool; book = c.self.inside.book; past = c.self.inside.log.past; spare = c.self.inside.spare } in
    can_send s c.self.inside.reads c.self.inside.log.nodes c.self.inside.log.room c.args.node (need_of c.args.access) (transfer_of c.args.access).cells c.self.invariant
    (rw (← c.self.view_is) at c.requires.going).running.node_within c.len-len.ensures.short (rw (← c.self.view_is) at c.requires.room)
    (need_enough c.self.inside.memory.layout c.args.access (rw (← c.self.view_is) at c.requires.access).placed).for_cells

pub invariant_of-self : goal.invariant_of-self
invariant_of-self c =
    let s : State = record { memory = c.self.inside.memory; pool = c.self.inside.pool; book = c.self.inside.book; past = c.self.inside.log.past; spare = c.self.inside.spare } in
    let j = c.self.invariant.of_journal in
    let number : ℕ = c.next_number-number.result in
    let entry : Entry = Issued c.args.node number c.args.access in
    let going : Going (nodes_of s) s.past c.args.node = rw (← c.self.view_is) at c.requires.going in
    let lawful : IsAccess s.memory.layout s.book.sites c.args.access = rw (← c.self.view_is) at c.requires.access in
    let fits : need_of c.args.access ≤ s.spare = rw (← c.self.view_is) at c.requires.room in
    let enough = need_enough s.memory.layout c.args.access lawful.placed in
    let numbered : number ≡ issues c.args.node s.past = c.next_number-number.ensures in
    let free : access_at c.args.node number s.past ≡ None = next_is_free (start_of s) (nodes_of s) s.past j.wired c.args.node number numbered in
    let none : Unissued c.args.node number (effects (start_of s) s.past) =
    record { none = λ cell wrote. unissued (start_of s) (nodes_of s) s.past j.wired c.args.node number cell wrote free } in
    let same : c.issue_access.new.memory.layout ≡ s.memory.layout = c.issue_access.ensures.layout in
    let issued = c.issue_access.ensures.issued (effects (start_of s) s.past) none j.memory in
    let many = c.issue_access.ensures.many in
    let added : ℕ = c.count.result - c.count-before.result in
    let grown : added + length s.pool.pending ≡ length c.issue_access.new.pool.pending = omega (arith, c.count.ensures, c.count-before.ensures, many.grown) in
    let counted : c.issue.new.self ≡ with_outstanding s.book c.args.node (track_of c.args.access) (outstanding_on s.book c.args.node (track_of c.args.access) + added) =
    rw c.track_of.ensures at c.issue.ensures.counted in
    let below : c.args.node < length s.book.nodes = subst (λ n. c.args.node < n) (sym j.rows) going.running.node_within in
    let stood = counted_stands s.past s.book c.args.node (track_of c.args.access) (outstanding_on s.book c.args.node (track_of c.args.access) + added) below j.stands in
    let stands : Stands (entry ∷ s.past) c.issue.new.self = subst (λ (b : Book). Stands (entry ∷ s.past) b) (sym counted) (record { standing = stood.standing; ended = stood.ended }) in
    let rows : length c.issue.new.self.nodes ≡ length s.book.nodes = ap (λ (b : Book). length b.nodes) counted ∙ counted_rows s.book c.args.node (track_of c.args.access) _ in
    let sites : c.issue.new.self.sites ≡ s.book.sites = ap (λ (b : Book). b.sites) counted ∙ counted_sites s.book c.args.node (track_of c.args.access) _ in
    let waiting : AreAwaited (start_of s) (entry ∷ s.past) c.await_read.new.reads.reads =
    subst (λ (l : Arrangement). AreAwaited (start l) (entry ∷ s.past) c.await_read.new.reads.reads) same
    (c.await_read.ensures.awaited s.past free
    (subst (λ (l : Arrangement). HoldsAfter c.issue_access.new.memory (effects (start l) (entry ∷ s.past))) (sym same) issued.holds)
    (subst (λ (l : Arrangement). Unissued c.args.node number (effects (start l) s.past)) (sym same) none)
    (subst (λ (l : Arrangement). AreAwaited (start l) s.past c.self.inside.reads.reads) (sym same) c.self.invariant.awaited_are)) in
    rw (c.issue-2.ensures.past, ← numbered, c.from.ensures, c.need.ensures)
    (issue_kept s c.self.inside.reads c.await_read.new.reads c.self.inside.log c.issue-2.new.self c.issue_access.new.memory c.issue_access.new.pool c.issue.new.self
    c.args.node number (need_of c.args.access) (transfer_of c.args.access).cells c.args.access numbered c.self.invariant going lawful.track same issued many
    enough.for_cells enough.for_one fits (c.issue_access.ensures.ready s.book.sites lawful.track c.self.invariant.ready) added grown counted c.issue.ensures.total rows sites stands waiting
    c.await_read.ensures.room c.issue-2.ensures.nodes c.issue-2.ensures.room)
