-- A pending message is one of the journal's in flight: it carries the part that is due of its cell.
use Rattle.std.proofs.Common.{◌≡◌, ℕ, List, [], ◌∷◌, ◌++◌, Option, Some, None, true, refl, sym, ap, ◌∙◌}
use Rattle.std.specs.Prelude.{if◌then◌else◌}
use Rattle.sc_base.specs.declared.value.Value.{Value}
use Rattle.sc_base.specs.declared.value.Place.{Place}
use Rattle.effect_order.specs.Effect.{Effect}
use Rattle.sc_isa.specs.declared.access.Access.{Access}
use Rattle.sc_isa.specs.declared.journal.Entry.{Entry}
use Rattle.sc_isa.specs.declared.journal.Entry.TheVariants.{Delivered}
use Rattle.msg_pool.specs.declared.message.Message.{Message}
use Rattle.fabric.specs.Access.{transfer_of, track_of}
use Rattle.fabric.specs.Effects.{due, access_at, effects}
use Rattle.fabric.specs.Flight.{message, part_of, carried, is_for, without, back_from, returned, in_flight}
use Rattle.fabric.specs.Wired.{Wired}
use Rattle.fabric.proofs.Deciding.{decide_on}
use Rattle.fabric.proofs.Keys.{same_cell_self}
use Rattle.fabric.proofs.Flying.{only, only_append, first_back, returned_is}
use Rattle.fabric.proofs.InFlight.{expected, flying}

-- what is known of a message in flight, with those before and behind it
pub record Due (start : Place → Value) (past : List Entry) (before after : List Message) (m : Message) : Type 0 where
  pub access : Access
  pub issued : access_at m.issuer m.number past ≡ Some access
  pub part : Effect
  pub is_due : due start (transfer_of access) m.issuer m.number m.cell (effects start past) ≡ Some part
  pub its_track : m.track ≡ track_of access
  pub its_part : m.part ≡ part_of (transfer_of access) m.cell part
  pub none_before : only m.issuer m.number m.cell before ≡ []
  pub none_after : only m.issuer m.number m.cell after ≡ []

-- a list with one member between two parts
pub record OneOf (xs ys : List Message) (x y : Message) : Type 0 where
  pub same : x ≡ y
  pub no_front : xs ≡ []
  pub no_back : ys ≡ []

one_of : (xs ys : List Message) (x y : Message) → xs ++ x ∷ ys ≡ y ∷ [] → OneOf xs ys x y
one_of [] ys x y h = record { same = cc; no_front = refl; no_back = cc }
one_of (z ∷ []) ys x y h = cc
one_of (z ∷ w ∷ xs) ys x y h = cc

due_from : (start : Place → Value) (past : List Entry) (before after : List Message) (m : Message) (o : Option Access) (d : Option Effect)
    → access_at m.issuer m.number past ≡ o
    → ((a : Access) → o ≡ Some a → due start (transfer_of a) m.issuer m.number m.cell (effects start past) ≡ d)
    → only m.issuer m.number m.cell before ++ m ∷ only m.issuer m.number m.cell after ≡ expected start o m.issuer m.number m.cell (effects start past)
    → Due start past before after m
due_from start past before after m None d at is h = absurd (not_empty (only m.issuer m.number m.cell before) (only m.issuer m.number m.cell after) h)
  where
    not_empty : (xs ys : List Message) → xs ++ m ∷ ys ≡ [] → ⊥
    not_empty [] ys e = cc
    not_empty (x ∷ xs) ys e = cc
due_from start past before after m (Some a) None at is h =
    absurd (not_empty (only m.issuer m.number m.cell before) (only m.issuer m.number m.cell after)
    (h ∙ ap (carried (transfer_of a) m.issuer m.number m.cell (track_of a)) (is a refl)))
  where
    not_empty : (xs ys : List Message) → xs ++ m ∷ ys ≡ [] → ⊥
    not_empty [] ys e = cc
    not_empty (x ∷ xs) ys e = cc
due_from start past before after m (Some a) (Some e) at is h =
    let one : OneOf (only m.issuer m.number m.cell before) (only m.issuer m.number m.cell after) m (message m.issuer m.number m.cell (track_of a) (part_of (transfer_of a) m.cell e)) =
    one_of (only m.issuer m.number m.cell before) (only m.issuer m.number m.cell after) m (message m.issuer m.number m.cell (track_of a) (part_of (transfer_of a) m.cell e))
    (h ∙ ap (carried (transfer_of a) m.issuer m.number m.cell (track_of a)) (is a refl)) in
    record {
      access = a;
      issued = at;
      part = e;
      is_due = is a refl;
      its_track = ap (λ (x : Message). x.track) one.same;
      its_part = ap (λ (x : Message). x.part) one.same;
      none_before = one.no_front;
      none_after = one.no_back;
    }

due_at : (start : Place → Value) (past : List Entry) (m : Message) → Option Access → Option Effect
due_at start past m None = None
due_at start past m (Some a) = due start (transfer_of a) m.issuer m.number m.cell (effects start past)

pub is_flying : (start : Place → Value) (nodes : ℕ) (past : List Entry) (before after : List Message) (m : Message) → Wired start nodes past
    → in_flight start past ≡ before ++ m ∷ after → Due start past before after m
unfolding due_at
is_flying start nodes past before after m w at =
    due_from start past before after m (access_at m.issuer m.number past) (due_at start past m (access_at m.issuer m.number past)) refl
    (λ a e. ap (due_at start past m) (sym e))
    (sym (only_append m.issuer m.number m.cell before (m ∷ after) ∙ ap (λ b. only m.issuer m.number m.cell before ++ (if b then m ∷ only m.issuer m.number m.cell after else only m.issuer m.number m.cell after)) (same_cell_self m.issuer m.number m.cell))
    ∙ ap (only m.issuer m.number m.cell) (sym at)
    ∙ flying start nodes past w m.issuer m.number m.cell)

-- ---- the messages after the delivery

without_none : (p n c : ℕ) (ms : List Message) → only p n c ms ≡ [] → without p n c ms ≡ ms
without_none p n c [] h = refl
without_none p n c (m ∷ ms) h =
    decide_on (is_for p n c m)
    (λ t. let x : m ∷ only p n c ms ≡ [] = rw t at h in cc)
    (λ f. rw f (ap (λ l. m ∷ l) (without_none p n c ms (rw f at h))))

without_both : (p n c : ℕ) (xs ys : List Message) → without p n c (xs ++ ys) ≡ without p n c xs ++ without p n c ys
without_both p n c [] ys = refl
without_both p n c (x ∷ xs) ys =
    decide_on (is_for p n c x)
    (λ t. rw t (without_both p n c xs ys))
    (λ f. rw f (ap (λ l. x ∷ l) (without_both p n c xs ys)))

-- the message is gone, and what it becomes is put last
pub flight_after : (start : Place → Value) (past : List Entry) (before after : List Message) (m : Message) (v : Value) → Due start past before after m
    → in_flight start past ≡ before ++ m ∷ after
    → in_flight start (Delivered m.issuer m.number m.cell v ∷ past) ≡ (before ++ after) ++ back_from m v m.part
flight_after start past before after m v d at =
    let own : is_for m.issuer m.number m.cell m ≡ true = same_cell_self m.issuer m.number m.cell in
    let gone : without m.issuer m.number m.cell (before ++ m ∷ after) ≡ before ++ after =
    without_both m.issuer m.number m.cell before (m ∷ after)
    ∙ ap (λ l. l ++ without m.issuer m.number m.cell (m ∷ after)) (without_none m.issuer m.number m.cell before d.none_before)
    ∙ ap (λ b. before ++ (if b then without m.issuer m.number m.cell after else m ∷ without m.issuer m.number m.cell after)) own
    ∙ ap (λ l. before ++ l) (without_none m.issuer m.number m.cell after d.none_after) in
    let back : returned m.issuer m.number m.cell v (before ++ m ∷ after) ≡ back_from m v m.part =
    returned_is m.issuer m.number m.cell v (before ++ m ∷ after)
    ∙ ap (first_back v) (only_append m.issuer m.number m.cell before (m ∷ after)
    ∙ ap (λ l. l ++ only m.issuer m.number m.cell (m ∷ after)) d.none_before
    ∙ ap (λ b. if b then m ∷ only m.issuer m.number m.cell after else only m.issuer m.number m.cell after) own) in
    ap (λ l. without m.issuer m.number m.cell l ++ returned m.issuer m.number m.cell v l) at
    ∙ ap (λ l. l ++ returned m.issuer m.number m.cell v (before ++ m ∷ after)) gone
    ∙ ap (λ l. (before ++ after) ++ l) back
