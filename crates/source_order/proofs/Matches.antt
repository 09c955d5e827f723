-- The requests of the processes are those of the journal: their transfers, kinds and tracks agree.
use Rattle.std.proofs.Common.{◌≡◌, ℕ, zero, suc, ◌<◌, List, [], ◌∷◌, map, Some, Bool, true, false, not, ◌==◌, ◌&&◌, refl, sym, ◌∙◌, subst, inl, inr, arith, eqb-true}
use Rattle.std.specs.Prelude.{if◌then◌else◌, IsSome, slice_get}
use Rattle.std.proofs.lemmas.Bool.{and_parts, and_from, false_from_ne_true}
use Rattle.sc_base.specs.declared.value.Place.{Place}
use Rattle.sc_base.specs.declared.value.End.{End}
use Rattle.sc_base.specs.declared.value.CopyMode.TheVariants.{Blocking, Split, OneWay}
use Rattle.sc_meaning.specs.declared.request.Request.{Request}
use Rattle.sc_meaning.specs.declared.request.Request.TheVariants as ask
use Rattle.resumption.specs.Resumption.{Ends}
use Rattle.sc_meaning.specs.Asking.{Finishes}
use Rattle.effect_order.specs.Transfer.{Transfer}
use Rattle.sc_meaning.specs.Parts.{transfer_of, is_blocking_copy, is_split as asks_split, is_one_way, is_issued, is_get}
use Rattle.sc_meaning.specs.Past.{Processes}
use Rattle.sc_isa.specs.declared.access.Access.{Access}
use Rattle.sc_isa.specs.declared.access.Access.TheVariants.{Read, Write, Copy}
use Rattle.sc_isa.specs.declared.access.Track.TheVariants.{Counter, Store, Covered}
use Rattle.sc_isa.specs.declared.journal.Entry.{Entry}
use Rattle.sc_isa.specs.declared.journal.Entry.TheVariants.{Issued, Delivered, Waited, Arrived, Passed, Finished}
use Rattle.fabric.specs.Access.{transfer_of as moved_by, track_of, is_store, is_read_on, any_track}
use Rattle.fabric.specs.Effects.{access_at}
use Rattle.fabric.specs.Barriers.{finished}
use Rattle.fabric.specs.Wired.{Wired, AllDone}
use Rattle.source_order.specs.Steps.{own_requests, requested, request_by, track_at}
use Rattle.sc_meaning.specs.OfAccess.{is_blocking, is_split, is_done_at_once, request_in, unlined}
use Rattle.source_order.specs.Made.{run_in}
use Rattle.sc_meaning.specs.Answering.{AllWaitForAnswers}
use Rattle.source_order.proofs.Stands.{Stands, own_at, requested_below}
use Rattle.source_order.proofs.Numbers.{eq_self, if_true, if_false, issued_is}

-- what is known of a whole run of a processes
pub record Known (processes : Processes) (whole : List Entry) : Type 0 where
  pub waits : AllWaitForAnswers processes
  pub wired : Wired processes.start processes.nodes whole
  pub all_finished : (p : ℕ) → p < processes.nodes → IsSome (finished p whole)
  pub all_occurred : (p : ℕ) → p < processes.nodes → AllDone processes.start whole any_track p
  pub no_stored_read : (p : ℕ) → p < processes.nodes → (n : ℕ) (place : Place) → access_at p n whole ≡ Some (Read place Store) → ⊥
  pub requests : (p : ℕ) → p < processes.nodes → own_requests p whole ≡ map unlined (run_in processes p whole).events
  pub end : (p : ℕ) → p < processes.nodes → (end : End) → finished p whole ≡ Some end → (run_in processes p whole).end ≡ Ends (Finishes end)

get_map : {X Y : Type 0} (f : X → Y) (xs : List X) (k : ℕ) (y : Y) → slice_get (map f xs) k ≡ Some y → (x : X) × (slice_get xs k ≡ Some x) × (f x ≡ y)
get_map f [] k y h = absurd cc
get_map f (x ∷ xs) zero y h = (x, refl, cc)
get_map f (x ∷ xs) (suc k) y h = get_map f xs k y h

-- the processes's request behind one of the journal
pub asked_for : (processes : Processes) (whole : List Entry) (known : Known processes whole) (p : ℕ) → p < processes.nodes → (past : List Entry) (entry : Entry) (r : Request)
    → Stands past entry whole → request_by p entry ≡ Some r
    → (request : Request) × (slice_get (run_in processes p whole).events (requested p past) ≡ Some request) × (unlined request ≡ r)
asked_for processes whole known p n past entry r s h =
    get_map unlined (run_in processes p whole).events (requested p past) r (subst (λ u. slice_get u (requested p past) ≡ Some r) (known.requests p n) (own_at p past entry whole r s h))

-- ---- lines do not matter

pub same_transfer : (r : Request) → transfer_of (unlined r) ≡ transfer_of r
same_transfer (ask.Read _ _) = refl
same_transfer (ask.Write _ _ _) = refl
same_transfer (ask.Get _ _) = refl
same_transfer (ask.Put _ _ _) = refl
same_transfer (ask.Store _ _ _) = refl
same_transfer (ask.Copy _ _ _ _ _) = refl
same_transfer (ask.Sync _) = refl
same_transfer (ask.Barrier _) = refl
same_transfer (ask.AllStoreSync _) = refl

-- a test of requests that reads no line
abbrev pub Unlined : (Request → Bool) → Type 0
Unlined kind = (r : Request) → kind (unlined r) ≡ kind r

pub blocking_unlined : Unlined is_blocking_copy
blocking_unlined (ask.Read _ _) = refl
blocking_unlined (ask.Write _ _ _) = refl
blocking_unlined (ask.Get _ _) = refl
blocking_unlined (ask.Put _ _ _) = refl
blocking_unlined (ask.Store _ _ _) = refl
blocking_unlined (ask.Copy _ _ _ Blocking _) = refl
blocking_unlined (ask.Copy _ _ _ Split _) = refl
blocking_unlined (ask.Copy _ _ _ OneWay _) = refl
blocking_unlined (ask.Sync _) = refl
blocking_unlined (ask.Barrier _) = refl
blocking_unlined (ask.AllStoreSync _) = refl

pub split_unlined : Unlined asks_split
split_unlined (ask.Read _ _) = refl
split_unlined (ask.Write _ _ _) = refl
split_unlined (ask.Get _ _) = refl
split_unlined (ask.Put _ _ _) = refl
split_unlined (ask.Store _ _ _) = refl
split_unlined (ask.Copy _ _ _ Blocking _) = refl
split_unlined (ask.Copy _ _ _ Split _) = refl
split_unlined (ask.Copy _ _ _ OneWay _) = refl
split_unlined (ask.Sync _) = refl
split_unlined (ask.Barrier _) = refl
split_unlined (ask.AllStoreSync _) = refl

pub one_way_unlined : Unlined is_one_way
one_way_unlined (ask.Read _ _) = refl
one_way_unlined (ask.Write _ _ _) = refl
one_way_unlined (ask.Get _ _) = refl
one_way_unlined (ask.Put _ _ _) = refl
one_way_unlined (ask.Store _ _ _) = refl
one_way_unlined (ask.Copy _ _ _ Blocking _) = refl
one_way_unlined (ask.Copy _ _ _ Split _) = refl
one_way_unlined (ask.Copy _ _ _ OneWay _) = refl
one_way_unlined (ask.Sync _) = refl
one_way_unlined (ask.Barrier _) = refl
one_way_unlined (ask.AllStoreSync _) = refl

pub issued_unlined : Unlined is_issued
issued_unlined r = rw (blocking_unlined r, split_unlined r, one_way_unlined r) refl

pub get_unlined : Unlined is_get
get_unlined (ask.Read _ _) = refl
get_unlined (ask.Write _ _ _) = refl
get_unlined (ask.Get _ _) = refl
get_unlined (ask.Put _ _ _) = refl
get_unlined (ask.Store _ _ _) = refl
get_unlined (ask.Copy _ _ _ _ _) = refl
get_unlined (ask.Sync _) = refl
get_unlined (ask.Barrier _) = refl
get_unlined (ask.AllStoreSync _) = refl

-- ---- what an access requests

-- it is no read that is waited for as a store
abbrev pub Sane : Access → Type 0
Sane access = (place : Place) → access ≡ Read place Store → ⊥

-- a request moves what its access does, and is of the kind that the access's track says
abbrev pub Fit : Request → Transfer → (once split store blocking get : Bool) → Type 0
Fit r t once split store blocking get =
    (transfer_of r ≡ t) × (is_issued r ≡ not once) × (once ≡ false → asks_split r ≡ split) × (once ≡ false → is_one_way r ≡ store)
    × (once ≡ false → is_blocking_copy r ≡ blocking) × (is_get r ≡ get)

pub fits : (access : Access) → Sane access
    → Fit (request_in access) (moved_by access) (is_done_at_once access) (is_split (track_of access)) (is_store (track_of access)) (is_blocking (track_of access)) (is_read_on 0 access)
fits (Read place Store) h = absurd (h place refl)
fits (Read place Covered) h = (refl, refl, λ e. absurd cc, λ e. absurd cc, λ e. absurd cc, refl)
fits (Read place (Counter c)) h = by (c == 0)
  where
    by : (b : Bool) → Fit (if not b then ask.Read place 0 else ask.Get place 0) (moved_by (Read place (Counter c))) (not b) b false (not b) b
    by true = (refl, refl, λ e. refl, λ e. refl, λ e. refl, refl)
    by false = (refl, refl, λ e. absurd cc, λ e. absurd cc, λ e. absurd cc, refl)
fits (Write place value Store) h = (refl, refl, λ e. refl, λ e. refl, λ e. refl, refl)
fits (Write place value Covered) h = (refl, refl, λ e. absurd cc, λ e. absurd cc, λ e. absurd cc, refl)
fits (Write place value (Counter c)) h = by (c == 0)
  where
    by : (b : Bool) → Fit (if b then ask.Put place value 0 else ask.Write place value 0) (moved_by (Write place value (Counter c))) (not b) b false (not b) false
    by true = (refl, refl, λ e. refl, λ e. refl, λ e. refl, refl)
    by false = (refl, refl, λ e. absurd cc, λ e. absurd cc, λ e. absurd cc, refl)
fits (Copy from to cells Store) h = (refl, refl, λ e. refl, λ e. refl, λ e. refl, refl)
fits (Copy from to cells Covered) h = (refl, refl, λ e. refl, λ e. refl, λ e. refl, refl)
fits (Copy from to cells (Counter c)) h = by (c == 0)
  where
    by : (b : Bool) → Fit (ask.Copy from to cells (if b then Split else Blocking) 0) (moved_by (Copy from to cells (Counter c))) false b false (not b) false
    by true = (refl, refl, λ e. refl, λ e. refl, λ e. refl, refl)
    by false = (refl, refl, λ e. refl, λ e. refl, λ e. refl, refl)

-- ---- tracks

other_number : (q p k n : ℕ) → k < n → ((q == p) && (n == k)) ≡ false
other_number q p k n lt = false_from_ne_true _ (λ t. let u = and_parts (q == p) (n == k) t in let v = eqb-true n k u.1 in absurd (omega arith))

pub track_is : (p n : ℕ) (access : Access) (past whole : List Entry) → Stands past (Issued p n access) whole → track_at p (requested p past) whole ≡ Some (track_of access)
track_is p n access past [] s = absurd s
track_is p n access past (e ∷ rest) (inl q) = subst (λ u. track_at p (requested p u) (e ∷ rest) ≡ Some (track_of access)) (sym q.0) (subst (λ u. track_at p (requested p rest) (u ∷ rest) ≡ Some (track_of access)) q.1 (by access))
  where
    here : ((p == p) && (requested p rest == requested p rest)) ≡ true
    here = and_from _ _ (eq_self p) (eq_self (requested p rest))

    by : (access : Access) → track_at p (requested p rest) (Issued p n access ∷ rest) ≡ Some (track_of access)
    by (Read place track) = if_true _ _ _ here
    by (Write place value track) = if_true _ _ _ here
    by (Copy from to cells track) = if_true _ _ _ here
track_is p n access past (Issued q m (Read place track) ∷ rest) (inr s) =
    if_false _ _ _ (other_number q p (requested p past) (requested p rest) (requested_below p past (Issued p n access) rest (request_in access) s (issued_is p n access))) ∙ track_is p n access past rest s
track_is p n access past (Issued q m (Write place value track) ∷ rest) (inr s) =
    if_false _ _ _ (other_number q p (requested p past) (requested p rest) (requested_below p past (Issued p n access) rest (request_in access) s (issued_is p n access))) ∙ track_is p n access past rest s
track_is p n access past (Issued q m (Copy from to cells track) ∷ rest) (inr s) =
    if_false _ _ _ (other_number q p (requested p past) (requested p rest) (requested_below p past (Issued p n access) rest (request_in access) s (issued_is p n access))) ∙ track_is p n access past rest s
track_is p n access past (Delivered _ _ _ _ ∷ rest) (inr s) = track_is p n access past rest s
track_is p n access past (Waited _ _ ∷ rest) (inr s) = track_is p n access past rest s
track_is p n access past (Arrived _ _ ∷ rest) (inr s) = track_is p n access past rest s
track_is p n access past (Passed _ ∷ rest) (inr s) = track_is p n access past rest s
track_is p n access past (Finished _ _ ∷ rest) (inr s) = track_is p n access past rest s
