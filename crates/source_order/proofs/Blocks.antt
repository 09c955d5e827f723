-- What a plain run says at an entry, and which tracks are waited for.
use Rattle.std.proofs.Common.{◌≡◌, ℕ, List, [], ◌∷◌, true, sym, subst, inl, inr}
use Rattle.std.specs.Prelude.{IsSome}
use Rattle.sc_base.specs.declared.value.Place.{Place}
use Rattle.sc_base.specs.declared.value.Value.{Value}
use Rattle.sc_isa.specs.declared.access.Access.{Access}
use Rattle.sc_isa.specs.declared.access.Access.TheVariants.{Read, Write, Copy}
use Rattle.sc_isa.specs.declared.access.Track.{Track}
use Rattle.sc_isa.specs.declared.access.Track.TheVariants.{Counter, Store, Covered}
use Rattle.sc_isa.specs.declared.journal.Entry.{Entry}
use Rattle.fabric.specs.Access.{track_of, is_counter}
use Rattle.fabric.specs.Wired.{AllDone}
use Rattle.source_order.specs.Steps.{request_by}
use Rattle.sc_meaning.specs.OfAccess.{is_blocking, is_split, is_done_at_once}
use Rattle.source_order.specs.Law.{IsPlain}
use Rattle.source_order.proofs.Stands.{Stands}

pub plain_at : (start : Place → Value) (nodes : ℕ) (past : List Entry) (entry : Entry) (xs : List Entry) → IsPlain start nodes xs → Stands past entry xs → (p : ℕ) → IsSome (request_by p entry) → AllDone start past is_blocking p
plain_at start nodes past entry [] h s p o = absurd s
plain_at start nodes past entry (x ∷ rest) h (inl q) p o = subst (λ u. AllDone start u is_blocking p) (sym q.0) (h.0 p (subst (λ u. IsSome (request_by p u)) q.1 o))
plain_at start nodes past entry (x ∷ rest) h (inr s) p o = plain_at start nodes past entry rest h.1 s p o

pub at_once_blocks : (access : Access) → is_done_at_once access ≡ true → is_blocking (track_of access) ≡ true
at_once_blocks (Read place track) h = h
at_once_blocks (Write place value track) h = h
at_once_blocks (Copy _ _ _ _) h = absurd cc

pub split_waited : (track : Track) → is_split track ≡ true → is_counter 0 track ≡ true
split_waited (Counter c) h = h
split_waited Store h = absurd cc
split_waited Covered h = absurd cc
