-- A journal whose nodes' asks are plain: before each request of a node its blocking accesses are over.
use Rattle.std.proofs.Common.{◌≡◌, ◌⊎◌, inl, inr, ⊎_elim, ℕ, ◌<◌, ◌==◌, ◌&&◌, List, [], ◌∷◌, ◌++◌, Option, Some, None, Bool, true, false, if◌then◌else◌, refl, sym, ap, subst}
use Rattle.std.specs.Prelude.{IsSome}
use Rattle.effect_order.specs.Lists.{In}
use Rattle.effect_order.specs.Transfer.{AllOccurred, part_value}
use Rattle.sc_base.specs.declared.value.End.TheVariants as kind
use Rattle.sc_base.specs.declared.value.Place.{Place}
use Rattle.sc_base.specs.declared.value.Value.{Value}
use Rattle.sc_isa.specs.declared.access.Access.{Access}
use Rattle.sc_isa.specs.declared.access.Track.{Track}
use Rattle.sc_isa.specs.declared.journal.Entry.{Entry}
use Rattle.sc_isa.specs.declared.journal.Entry.TheVariants.{Issued, Delivered, Waited, Arrived, Passed, Finished}
use Rattle.sc_isa.specs.Run.{Ask, Issue, Wait, Arrive, Pass, Answer}
use Rattle.resumption.specs.Resumption.{run_of}
use Rattle.sc_meaning.specs.OfAccess.{is_blocking, request_in}
use Rattle.sc_meaning.specs.History.{barrier_of}
use Rattle.sc_meaning.specs.declared.request.Request.{Request}
use Rattle.sc_meaning.specs.declared.request.Request.TheVariants.{Sync}
use Rattle.fabric.specs.Access.{track_of, transfer_of, is_counter}
use Rattle.fabric.specs.Effects.{access_at, effects}
use Rattle.fabric.specs.Wired.{Wired, AllDone}
use Rattle.fabric.specs.Asked.{Machine, answers, Asked}
use Rattle.source_order.specs.Steps.{request_by}
use Rattle.source_order.specs.Law.{IsPlain}
use Rattle.source_order.proofs.Occurs.{not_some, some_from, some_is}
use Rattle.code_requests.proofs.Listed.{asks_by, and_ask, asks_in, same_node, asks_begin}
use Rattle.code_requests.proofs.Oracled.{value_keeps}
use Rattle.run_laws.proofs.PlainAsks.{without_counter, after_ask, after_asks, is_request, ArePlain, plain_front, plain_last, after_last}

-- what has occurred stays
stays : (start : Place → Value) (entry : Entry) (past : List Entry) (a : Access) (node number : ℕ)
    → AllOccurred (transfer_of a) node number (effects start past)
    → AllOccurred (transfer_of a) node number (effects start (entry ∷ past))
stays start entry past a node number h cell wrote has =
    let s = some_is (part_value node number cell wrote (effects start past)) (h cell wrote has) in
    some_from (part_value node number cell wrote (effects start (entry ∷ past))) s.0 (value_keeps start (entry ∷ []) past node number cell wrote s.0 s.1)

-- a track that is waited for on another counter is still open
still_open : (c : ℕ) (track : Track) (tracks : List Track) → is_counter c track ≡ false → In track tracks
    → In track (without_counter c tracks)
still_open c track [] e i = i
still_open c track (x ∷ tracks) e i = by (is_counter c x) refl i (λ j. still_open c track tracks e j)
  where
    by : (b : Bool) → is_counter c x ≡ b → In track (x ∷ tracks)
        → (In track tracks → In track (without_counter c tracks))
        → In track (if b then without_counter c tracks else x ∷ without_counter c tracks)
    by true f (inl s) ih = absurd (let g = ap (is_counter c) s in cc)
    by true f (inr j) ih = ih j
    by false f (inl s) ih = inl s
    by false f (inr j) ih = inr (ih j)

module _ (machine : Machine) (node : ℕ) where
  abbrev open_in : List Entry → List Track
  open_in past = after_asks [] (asks_in node past)

  -- the access is over, or its track is open
  abbrev IsOverOrOpen : List Entry → Access → (number : ℕ) → Type 0
  IsOverOrOpen past a number = AllOccurred (transfer_of a) node number (effects machine.start past) ⊎ In (track_of a) (open_in past)

  -- with an ask that opens or closes nothing
  same_open : (b : Bool) (asks : List Ask) (ask : Ask) (track : Track)
      → ((tracks : List Track) → In track tracks → In track (after_ask tracks ask))
      → In track (after_asks [] asks) → In track (after_asks [] (and_ask asks (if b then Some ask else None)))
  same_open true asks ask track f i = subst (In track) (sym (after_last [] asks ask)) (f (after_asks [] asks) i)
  same_open false asks ask track f i = i

  more_open : (a : Access) (tracks : List Track) (track : Track) → In track tracks
      → In track (after_ask tracks (Issue a))
  more_open a tracks track i = by (is_blocking (track_of a))
    where
      by : (b : Bool) → In track (if b then track_of a ∷ tracks else tracks)
      by true = inr i
      by false = i

  new_open : (a : Access) (tracks : List Track) → is_blocking (track_of a) ≡ true
      → In (track_of a) (after_ask tracks (Issue a))
  new_open a tracks e = subst (λ b. In (track_of a) (if b then track_of a ∷ tracks else tracks)) (sym e) (inl refl)

  issue_open : (b z : Bool) (x a : Access) (o : Option Access) (asks : List Ask)
      → (if b && z then Some x else o) ≡ Some a → is_blocking (track_of a) ≡ true
      → (o ≡ Some a → In (track_of a) (after_asks [] asks))
      → In (track_of a) (after_asks [] (and_ask asks (if b then Some (Issue x) else None)))
  issue_open true true x a o asks e t ih =
      let same : x ≡ a = cc in
      subst (In (track_of a)) (sym (after_last [] asks (Issue x)))
      (subst (λ y. In (track_of a) (after_ask (after_asks [] asks) (Issue y))) (sym same) (new_open a (after_asks [] asks) t))
  issue_open true false x a o asks e t ih =
      subst (In (track_of a)) (sym (after_last [] asks (Issue x))) (more_open x (after_asks [] asks) (track_of a) (ih e))
  issue_open false z x a o asks e t ih = ih e

  pub over_or_open : (past : List Entry) → Wired machine.start machine.nodes past → (number : ℕ) (a : Access)
      → access_at node number past ≡ Some a
      → is_blocking (track_of a) ≡ true → IsOverOrOpen past a number
  over_or_open [] w number a e t = absurd (cc)
  over_or_open (Issued other n x ∷ past) w number a e t =
      by ((other == node) && (n == number)) (other == node) refl (λ f. over_or_open past w.1 number a f t) e
    where
      open_by : (access_at node number past ≡ Some a → In (track_of a) (open_in past))
          → In (track_of a) (open_in (Issued other n x ∷ past))
      open_by ih = issue_open (other == node) (n == number) x a (access_at node number past) (asks_in node past) e t ih

      by : (z b : Bool) → z ≡ ((other == node) && (n == number))
          → (access_at node number past ≡ Some a → IsOverOrOpen past a number)
          → (if z then Some x else access_at node number past) ≡ Some a
          → IsOverOrOpen (Issued other n x ∷ past) a number
      by true b q ih f =
          inr (issue_new (other == node) (n == number) (sym q) (let same : x ≡ a = cc in same))
        where
          issue_new : (b z : Bool) → (b && z) ≡ true → x ≡ a
              → In (track_of a) (after_asks [] (and_ask (asks_in node past) (if b then Some (Issue x) else None)))
          issue_new true z h same =
              subst (In (track_of a)) (sym (after_last [] (asks_in node past) (Issue x)))
              (subst (λ y. In (track_of a) (after_ask (after_asks [] (asks_in node past)) (Issue y))) (sym same) (new_open a (after_asks [] (asks_in node past)) t))
          issue_new false z h same = absurd (cc)
      by false b q ih f =
          ⊎_elim (λ o. inl (stays machine.start (Issued other n x) past a node number o)) (λ i. inr (open_by (λ g. i))) (ih f)
  over_or_open (Delivered other n cell value ∷ past) w number a e t =
      ⊎_elim (λ o. inl (stays machine.start (Delivered other n cell value) past a node number o)) (λ i. inr i) (over_or_open past w.1 number a e t)
  over_or_open (Waited other c ∷ past) w number a e t =
      ⊎_elim (λ o. inl o) (λ i. by (other == node) (λ f. same_node other node f) i) (over_or_open past w.1 number a e t)
    where
      by : (b : Bool) → (b ≡ true → other ≡ node) → In (track_of a) (open_in past)
          → AllOccurred (transfer_of a) node number (effects machine.start past) ⊎ In (track_of a) (after_asks [] (and_ask (asks_in node past) (if b then Some (Wait c) else None)))
      by false f i = inr i
      by true f i = on (is_counter c (track_of a)) refl
        where
          on : (z : Bool) → is_counter c (track_of a) ≡ z
              → AllOccurred (transfer_of a) node number (effects machine.start past) ⊎ In (track_of a) (after_asks [] (asks_in node past ++ Wait c ∷ []))
          on true g = inl (subst (λ p. AllDone machine.start past (is_counter c) p) (f refl) w.0.all_done number a e g)
          on false g = inr (subst (In (track_of a)) (sym (after_last [] (asks_in node past) (Wait c))) (still_open c (track_of a) (open_in past) g i))
  over_or_open (Arrived other stores ∷ past) w number a e t =
      ⊎_elim (λ o. inl o) (λ i. inr (same_open (other == node) (asks_in node past) (Arrive stores) (track_of a) (λ ts j. j) i)) (over_or_open past w.1 number a e t)
  over_or_open (Passed other ∷ past) w number a e t =
      ⊎_elim (λ o. inl o) (λ i. inr (same_open (other == node) (asks_in node past) Pass (track_of a) (λ ts j. j) i)) (over_or_open past w.1 number a e t)
  over_or_open (Finished other kind.Ended ∷ past) w number a e t = over_or_open past w.1 number a e t
  over_or_open (Finished other (kind.Fault k line) ∷ past) w number a e t = over_or_open past w.1 number a e t
  over_or_open (Finished other kind.Cut ∷ past) w number a e t = over_or_open past w.1 number a e t
  over_or_open (Finished other kind.Waiting ∷ past) w number a e t =
      ⊎_elim (λ o. inl o) (λ i. inr (same_open (other == node) (asks_in node past) Pass (track_of a) (λ ts j. j) i)) (over_or_open past w.1 number a e t)

  -- ---- at a request

  -- where nothing is open all is over
  all_over : (past : List Entry) → Wired machine.start machine.nodes past → open_in past ≡ []
      → AllDone machine.start past is_blocking node
  all_over past w none number a e t =
      ⊎_elim (λ o. o) (λ i. absurd (subst (In (track_of a)) none i)) (over_or_open past w number a e t)

  module _ (entry : Entry) (past : List Entry) (w : Wired machine.start machine.nodes (entry ∷ past)) (asked : Asked machine (entry ∷ past))
      (plain : (given : List Answer) → ArePlain [] (run_of (machine.starts node) given).events) where
    asks_plain : ArePlain [] (asks_in node (entry ∷ past))
    asks_plain =
        let f = asks_begin machine node (entry ∷ past) w asked in
        plain_front [] (asks_in node (entry ∷ past)) f.more (subst (ArePlain []) f.is (plain (answers machine node (entry ∷ past))))

    at_ask : (b : Bool) (ask : Ask) → asks_by node entry ≡ (if b then Some ask else None) → b ≡ true
        → is_request ask ≡ true → AllDone machine.start past is_blocking node
    at_ask true ask e h r =
        let p : ArePlain [] (asks_in node past ++ ask ∷ []) = subst (λ o. ArePlain [] (and_ask (asks_in node past) o)) e asks_plain in
        all_over past w.1 (plain_last [] (asks_in node past) ask p r)
    at_ask false ask e h r = absurd (cc)

  some_here : (b : Bool) (r : Request) → IsSome (if b then Some r else None) → b ≡ true
  some_here true r h = refl
  some_here false r h = absurd (not_some {A = Request} None refl h)

  both_here : (b z : Bool) (r : Request) → IsSome (if b && z then Some r else None) → (b ≡ true) × (z ≡ true)
  both_here true true r h = (refl, refl)
  both_here true false r h = absurd (not_some {A = Request} None refl h)
  both_here false z r h = absurd (not_some {A = Request} None refl h)

  pub request_plain : (entry : Entry) (past : List Entry) → Wired machine.start machine.nodes (entry ∷ past)
      → Asked machine (entry ∷ past)
      → ((given : List Answer) → ArePlain [] (run_of (machine.starts node) given).events)
      → IsSome (request_by node entry) → AllDone machine.start past is_blocking node
  request_plain (Issued other n a) past w asked plain h =
      at_ask (Issued other n a) past w asked plain (other == node) (Issue a) refl (some_here (other == node) (request_in a) h) refl
  request_plain (Delivered other n cell value) past w asked plain h = absurd (not_some {A = Request} None refl h)
  request_plain (Waited other c) past w asked plain h =
      let z = both_here (other == node) (c == 0) (Sync 0) h in
      at_ask (Waited other c) past w asked plain (other == node) (Wait c) refl z.0 z.1
  request_plain (Arrived other stores) past w asked plain h =
      at_ask (Arrived other stores) past w asked plain (other == node) (Arrive stores) refl (some_here (other == node) (barrier_of stores 0) h) refl
  request_plain (Passed other) past w asked plain h = absurd (not_some {A = Request} None refl h)
  request_plain (Finished other end) past w asked plain h = absurd (not_some {A = Request} None refl h)

-- ---- all requests

-- the node of a request is one of the run's
within : (machine : Machine) (node : ℕ) (entry : Entry) (past : List Entry)
    → Wired machine.start machine.nodes (entry ∷ past) → IsSome (request_by node entry) → node < machine.nodes
within machine node (Issued other n a) past w h =
    subst (λ p. p < machine.nodes) (same_node other node (some_here machine node (other == node) (request_in a) h)) w.0.going.running.node_within
within machine node (Delivered other n cell value) past w h = absurd (not_some {A = Request} None refl h)
within machine node (Waited other c) past w h =
    subst (λ p. p < machine.nodes) (same_node other node (both_here machine node (other == node) (c == 0) (Sync 0) h).0) w.0.going.running.node_within
within machine node (Arrived other stores) past w h =
    subst (λ p. p < machine.nodes) (same_node other node (some_here machine node (other == node) (barrier_of stores 0) h)) w.0.running.node_within
within machine node (Passed other) past w h = absurd (not_some {A = Request} None refl h)
within machine node (Finished other end) past w h = absurd (not_some {A = Request} None refl h)

pub all_plain : (machine : Machine)
    → ((node : ℕ) → node < machine.nodes → (given : List Answer) → ArePlain [] (run_of (machine.starts node) given).events)
    → (past : List Entry) → Wired machine.start machine.nodes past → Asked machine past
    → IsPlain machine.start machine.nodes past
all_plain machine plain [] w asked = tt
all_plain machine plain (entry ∷ past) w asked =
    (λ node h. request_plain machine node entry past w asked (plain node (within machine node entry past w h)) h, all_plain machine plain past w.1 asked.1)
