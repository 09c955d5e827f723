-- What holds at the ends of all steps, and is kept by each step before, holds of what a source makes a node do. It may speak
-- of how many frames stand and of how many turns and calls the budget leaves.
use Rattle.std.proofs.Common.{◌≡◌, ℕ, zero, suc, ◌+◌, ◌-◌, ◌<◌, ◌≤◌, List, [], ◌∷◌, ◌++◌, length, Option, Some, None, Bool, true, false, slice_get, refl, sym, ap, ◌∙◌, subst, arith}
use Rattle.std.specs.Prelude.{pos, negsuc}
use Rattle.std.specs.Option.{option_map_or}
use Rattle.resumption.specs.Resumption.{Asks, Makes, Says, Stops}
use Rattle.sc_base.specs.declared.limits.TheConstants.{LIMITS}
use Rattle.sc_base.specs.declared.value.CopyMode.{CopyMode}
use Rattle.sc_base.specs.declared.value.End.TheVariants.{Ended, Fault, Cut, Waiting}
use Rattle.sc_base.specs.declared.value.FaultKind.TheVariants.{PendingUse, Depth}
use Rattle.sc_base.specs.declared.value.Value.{Value}
use Rattle.sc_base.specs.declared.value.Value.TheVariants.{Int, Null, Ptr}
use Rattle.sc_isa.specs.Elements.{Outcome, gives, fails, wrong}
use Rattle.sc_isa.specs.Pure.{truth, computed}
use Rattle.sc_isa.specs.Deeds.{Made, makes, faults, stuck, uses, sets, reads, writes, calls, Done, lets_go, ends, sticks, clears, prints, fills, gets, misses, puts, sends, copies, waits, meets}
use Rattle.sc_core.specs.declared.operation.Operation.{Operation}
use Rattle.sc_core.specs.declared.operation.Operation.TheVariants as op
use Rattle.sc_core.specs.Core.{Core, constant, step, choice, update, Arguments, none, argument, Does, nothing, break, continue, then_, act, choose, loop, return, Function, Program}
use Rattle.sc_core.specs.Table.{made_of, done_of}
use Rattle.sc_core.specs.Statements.{zero_of}
use Rattle.sc_meaning.specs.declared.request.Request.{Request}
use Rattle.sc_meaning.specs.declared.request.Request.TheVariants as request
use Rattle.sc_meaning.specs.Asking.{PointedDoing, Requested, Answer, Shown, Landed, Passed, Broken, Halt, Finishes, Breaks, fits_read, fits_sync, fits_barrier}
use Rattle.sc_meaning.specs.Memory.{Slot, has, awaits, Memory, top, slot, with_slot, with_get, places, synced, entered, pushed, popped}
use Rattle.sc_meaning.specs.Points.{size, sizes, size_of, first_point}
use Rattle.sc_meaning.specs.Steps.{Rest, Calls, shown_or_zero, landed_or_none, unless_broken, barrier_request, used, none_awaits, counted, decided_by, decided_as, decided, perform, mode_of, enact}
use Rattle.sc_meaning.specs.Meaning.{Setting, pass, constant_of, Jumps, rounds, performed, taken_back, value, values, does, end_point, in_body, body_of, entering, calls_by, begun, pointed}
use Rattle.meaning_laws.specs.Marks.{Mark, plain, turn, call, enters, leaves, mark_of, mark_if, marks, marks_all, marks_in, marks_of, mark_at}
use Rattle.meaning_laws.proofs.Shallow.{NotDeep, Ordinary, ordinary, Usual, usual}
use Rattle.meaning_laws.proofs.Stretch.{StandAt, front, back, first, rest, long, long_all, long_in, function_stands}

-- a stop that is no cut, and no fault of too many frames
abbrev pub IsMild : Halt → Type 0
IsMild (Finishes Ended) = Unit {0}
IsMild (Finishes (Fault kind line)) = NotDeep kind
IsMild (Finishes Cut) = ⊥
IsMild (Finishes Waiting) = Unit {0}
IsMild Breaks = Unit {0}

-- P is kept by each step, where it holds of what comes after
pub record Keeps (program : Program) (P : (frames left : ℕ) → PointedDoing → Type 0) : Type 0 where
  pub asks : (n left : ℕ) (request : Request) (fits : Answer → Bool) (go : Answer → PointedDoing)
      → ((answer : Answer) → P n left (go answer)) → P n left (Asks (Requested request) fits go)
  pub requests : (n left : ℕ) (request : Request) (doing : PointedDoing) → P n left doing → P n left (Makes (Requested request) doing)
  pub says : (n left : ℕ) (text : List ℕ) (doing : PointedDoing) → P n left doing → P n left (Says text doing)
  pub stops : (n left : ℕ) (halt : Halt) → n ≤ LIMITS.frames → IsMild halt → P n left (Stops halt)
  pub passes : (n left point : ℕ) (doing : PointedDoing) → mark_at program point ≡ plain → P n left doing → P n left (pass point doing)
  pub begins : (n left point : ℕ) (doing : PointedDoing) → mark_at program point ≡ enters → P (suc n) left doing
      → P n left (pass point doing)
  pub returns : (n left point : ℕ) (doing : PointedDoing) → suc n ≤ LIMITS.frames → mark_at program point ≡ leaves → P n left doing
      → P (suc n) left (pass point doing)
  pub turns : (n left point : ℕ) (go : ℕ → PointedDoing) → n ≤ LIMITS.frames → mark_at program point ≡ turn
      → ((l : ℕ) → l < left → P n l (go l)) → P n left (pass point (counted left go))
  pub calls_more : (n left point : ℕ) (go : ℕ → PointedDoing) → n < LIMITS.frames → mark_at program point ≡ call
      → ((l : ℕ) → l < left → P n l (go l)) → P n left (pass point (counted left go))
  pub calls_none : (left point line : ℕ) → mark_at program point ≡ call
      → P LIMITS.frames left (pass point (counted left (λ l. Stops (Finishes (Fault Depth line)))))

module _ (here : Setting) (P : (frames left : ℕ) → PointedDoing → Type 0) (k : Keeps here.program P) where
  -- what comes after keeps P where the budget leaves no more than so much
  abbrev Holds : (n most : ℕ) → Rest → Type 0
  Holds n most after = (m : Memory) (left : ℕ) → left ≤ most → P n left (after m left)

  module _ (n : ℕ) (few : n ≤ LIMITS.frames) where
    mild : (left : ℕ) (halt : Halt) → IsMild halt → P n left (Stops halt)
    mild left halt h = k.stops n left halt few h

    used_holds : (left line : ℕ) (s : Slot) (go : Value → PointedDoing) → ((v : Value) → P n left (go v)) → P n left (used line s go)
    used_holds left line (has v) go h = h v
    used_holds left line awaits go h = mild left (Finishes (Fault PendingUse line)) tt

    none_holds : (left line : ℕ) (slots : List Slot) (doing : PointedDoing) → P n left doing → P n left (none_awaits line slots doing)
    none_holds left line [] doing h = h
    none_holds left line (has v ∷ slots) doing h = none_holds left line slots doing h
    none_holds left line (awaits ∷ slots) doing h = mild left (Finishes (Fault PendingUse line)) tt

    by_holds : (left : ℕ) (v : Value) (on off : PointedDoing) → P n left on → P n left off → P n left (decided_by v on off)
    by_holds left (Int (pos zero)) on off h l = l
    by_holds left (Int (pos (suc i))) on off h l = h
    by_holds left (Int (negsuc i)) on off h l = h
    by_holds left Null on off h l = mild left Breaks tt
    by_holds left (Ptr object node offset) on off h l = mild left Breaks tt

    as_holds : (left : ℕ) (o : Outcome) (on off : PointedDoing) → P n left on → P n left off → P n left (decided_as o on off)
    as_holds left (gives v) on off h l = by_holds left v on off h l
    as_holds left (fails kind) on off h l = mild left Breaks tt
    as_holds left wrong on off h l = mild left Breaks tt

    decided_holds : (left : ℕ) (of_pointer : Bool) (v : Value) (on off : PointedDoing) → P n left on → P n left off
        → P n left (decided here.layout here.node of_pointer v on off)
    decided_holds left false v on off h l = by_holds left v on off h l
    decided_holds left true v on off h l = as_holds left (computed here.layout here.node truth (v ∷ [])) on off h l

    broken_holds : (left : ℕ) (answer : Answer) (doing : PointedDoing) → P n left doing → P n left (unless_broken answer doing)
    broken_holds left Broken doing h = mild left (Finishes Waiting) tt
    broken_holds left Passed doing h = h
    broken_holds left (Shown v) doing h = h
    broken_holds left (Landed vs) doing h = h

    perform_holds : (calling : Calls) (made : Made) → Ordinary made → (line : ℕ) (go : Value → Rest) (m : Memory) (left : ℕ)
        → ((v : Value) (m : Memory) → P n left (go v m left)) → P n left (perform here.layout calling made line go m left)
    perform_holds calling (makes v) o line go m left h = h v m
    perform_holds calling (faults kind) o line go m left h = mild left (Finishes (Fault kind line)) o
    perform_holds calling stuck o line go m left h = mild left Breaks tt
    perform_holds calling (uses x) o line go m left h = used_holds left line (slot m x) (λ v. go v m left) (λ v. h v m)
    perform_holds calling (sets x v) o line go m left h =
        used_holds left line (slot m x) (λ old. go v (with_slot m x (has v)) left) (λ old. h v (with_slot m x (has v)))
    perform_holds calling (reads place) o line go m left h =
        k.asks n left (request.Read place line) (fits_read here.layout place) (λ answer. go (shown_or_zero answer) m left)
        (λ answer. h (shown_or_zero answer) m)
    perform_holds calling (writes place v) o line go m left h = k.requests n left (request.Write place v line) (go v m left) (h v m)
    perform_holds calling (calls f vs) o line go m left h = absurd o

    enact_holds : (mode : CopyMode) (done : Done) → Usual done → (line : ℕ) (after : Rest) (m : Memory) (left : ℕ)
        → ((m : Memory) → P n left (after m left)) → P n left (enact here.layout mode done line after m left)
    enact_holds mode lets_go u line after m left h = h m
    enact_holds mode (ends kind) u line after m left h = mild left (Finishes (Fault kind line)) u
    enact_holds mode sticks u line after m left h = mild left Breaks tt
    enact_holds mode (clears x v) u line after m left h =
        used_holds left line (slot m x) (λ old. after (with_slot m x (has v)) left) (λ old. h (with_slot m x (has v)))
    enact_holds mode (prints text) u line after m left h = k.says n left text (after m left) (h m)
    enact_holds mode (fills x place) u line after m left h =
        k.asks n left (request.Read place line) (fits_read here.layout place) _
        (λ answer. used_holds left line (slot m x) (λ old. after (with_slot m x (has (shown_or_zero answer))) left)
        (λ old. h (with_slot m x (has (shown_or_zero answer)))))
    enact_holds mode (gets x place) u line after m left h =
        used_holds left line (slot m x) (λ old. Makes (Requested (request.Get place line)) (after (with_get m x place) left))
        (λ old. k.requests n left (request.Get place line) (after (with_get m x place) left) (h (with_get m x place)))
    enact_holds mode (misses x kind) u line after m left h =
        used_holds left line (slot m x) (λ old. Stops (Finishes (Fault kind line))) (λ old. mild left (Finishes (Fault kind line)) u)
    enact_holds mode (puts place v) u line after m left h = k.requests n left (request.Put place v line) (after m left) (h m)
    enact_holds mode (sends place v) u line after m left h = k.requests n left (request.Store place v line) (after m left) (h m)
    enact_holds mode (copies from to cells) u line after m left h =
        k.requests n left (request.Copy from to cells mode line) (after m left) (h m)
    enact_holds mode (waits counter) u line after m left h =
        k.asks n left (request.Sync line) (fits_sync here.layout (places m)) (λ answer. after (synced (landed_or_none answer) m) left)
        (λ answer. h (synced (landed_or_none answer) m))
    enact_holds mode (meets stores) u line after m left h =
        k.asks n left (barrier_request stores line) fits_barrier (λ answer. unless_broken answer (after m left))
        (λ answer. broken_holds left answer (after m left) (h m))

  -- ---- expressions

  abbrev all_marks : List Mark
  all_marks = plain ∷ marks_of here.program.functions

  marked : (point : ℕ) (mark : Mark) → slice_get all_marks point ≡ Some mark → mark_at here.program point ≡ mark
  marked point mark e = ap (λ o. option_map_or (λ (x : Mark). x) o plain) e

  -- a call keeps P where its point is passed
  abbrev CallHolds : (n : ℕ) → Calls → Type 0
  CallHolds n calling =
      (f : ℕ) (vs : List Value) (line : ℕ) (go : Value → Rest) (most point : ℕ) → mark_at here.program point ≡ call
      → ((v : Value) → Holds n most (go v)) → Holds n most (λ m left. pass point (calling f vs line go m left))

  module _ (n : ℕ) (few : n ≤ LIMITS.frames) (calling : Calls) (call_holds : CallHolds n calling) where
    plainly : (operation : Operation) → mark_of operation ≡ plain → (vs : List Value) (line point : ℕ) (go : Value → Rest) (most : ℕ)
        → mark_at here.program point ≡ mark_of operation → ((v : Value) → Holds n most (go v))
        → Holds n most (λ m left. pass point (performed here calling operation vs line go m left))
    plainly operation is_plain vs line point go most e h m left le =
        k.passes n left point (performed here calling operation vs line go m left) (e ∙ is_plain)
        (perform_holds n few calling (made_of here.layout here.node operation vs) (ordinary here.layout here.node operation vs is_plain)
        line go m left (λ v m. h v m left le))

    performs : (operation : Operation) (vs : List Value) (line point : ℕ) (go : Value → Rest) (most : ℕ)
        → mark_at here.program point ≡ mark_of operation → ((v : Value) → Holds n most (go v))
        → Holds n most (λ m left. pass point (performed here calling operation vs line go m left))
    performs (op.Call f count) vs line point go most e h = call_holds f vs line go most point e h
    performs operation vs line point go most e h = plainly operation refl vs line point go most e h

    back_holds : (undo : Option Operation) (point line : ℕ) (go : Value → Rest) (most : ℕ) → StandAt all_marks point (mark_if undo)
        → ((v : Value) → Holds n most (go v)) → (v : Value) → Holds n most (taken_back here calling undo point line go v)
    back_holds None point line go most s h v = h v
    back_holds (Some operation) point line go most s h v =
        performs operation (v ∷ Int (pos 1) ∷ []) line point go most (marked point _ (first all_marks point (mark_of operation) [] s)) h

    mutual
      value_holds : (e : Core) (at : ℕ) (go : Value → Rest) (most : ℕ) → StandAt all_marks at (marks e)
          → ((v : Value) → Holds n most (go v)) → Holds n most (value here calling e at go)
      value_holds (constant c) at go most s h = h (constant_of here c)
      value_holds (step operation arguments line) at go most s h =
          let t = at + sizes arguments in
          let own = back all_marks at (sizes arguments) (marks_all arguments) (mark_of operation ∷ []) (long_all arguments) s in
          values_holds arguments at (λ vs m left. pass t (performed here calling operation vs line go m left)) most
          (front all_marks at (marks_all arguments) (mark_of operation ∷ []) s)
          (λ vs. performs operation vs line t go most (marked t _ (first all_marks t (mark_of operation) [] own)) h)
      value_holds (choice of_pointer test on off) at go most s h =
          let t = at + size test in
          let own = back all_marks at (size test) (marks test) (plain ∷ (marks on ++ marks off)) (long test) s in
          let arms = rest all_marks t plain (marks on ++ marks off) own in
          value_holds test at (λ v m left. pass t (decided here.layout here.node of_pointer v
          (value here calling on (t + 1) go m left) (value here calling off (t + 1 + size on) go m left))) most
          (front all_marks at (marks test) (plain ∷ (marks on ++ marks off)) s)
          (λ v m left le. k.passes n left t _ (marked t _ (first all_marks t plain (marks on ++ marks off) own))
          (decided_holds n few left of_pointer v _ _
          (value_holds on (t + 1) go most (front all_marks (t + 1) (marks on) (marks off) arms) h m left le)
          (value_holds off (t + 1 + size on) go most (back all_marks (t + 1) (size on) (marks on) (marks off) (long on) arms) h m left le)))
      value_holds (update pointer operation right undo line) at go most s h =
          let t = at + size pointer in
          let u = t + 1 + size right in
          let later = marks right ++ mark_of operation ∷ plain ∷ mark_if undo in
          let own = back all_marks at (size pointer) (marks pointer) (plain ∷ later) (long pointer) s in
          let behind = rest all_marks t plain later own in
          let operating = back all_marks (t + 1) (size right) (marks right) (mark_of operation ∷ plain ∷ mark_if undo) (long right) behind in
          let writing = rest all_marks u (mark_of operation) (plain ∷ mark_if undo) operating in
          let undoing = rest all_marks (u + 1) plain (mark_if undo) writing in
          let same : u + 1 + 1 ≡ u + 2 = omega arith in
          value_holds pointer at _ most (front all_marks at (marks pointer) (plain ∷ later) s)
          (λ p. performs op.Read (p ∷ []) line t _ most (marked t _ (first all_marks t plain later own))
          (λ old. value_holds right (t + 1) _ most
          (front all_marks (t + 1) (marks right) (mark_of operation ∷ plain ∷ mark_if undo) behind)
          (λ by. performs operation (old ∷ by ∷ []) line u _ most
          (marked u _ (first all_marks u (mark_of operation) (plain ∷ mark_if undo) operating))
          (λ new. performs op.Write (p ∷ new ∷ []) line (u + 1) (taken_back here calling undo (u + 2) line go) most
          (marked (u + 1) _ (first all_marks (u + 1) plain (mark_if undo) writing))
          (back_holds undo (u + 2) line go most (subst (λ j. StandAt all_marks j (mark_if undo)) same undoing) h)))))

      values_holds : (arguments : Arguments) (at : ℕ) (go : List Value → Rest) (most : ℕ) → StandAt all_marks at (marks_all arguments)
          → ((vs : List Value) → Holds n most (go vs)) → Holds n most (values here calling arguments at go)
      values_holds none at go most s h = h []
      values_holds (argument e more) at go most s h =
          value_holds e at (λ v. values here calling more (at + size e) (λ vs. go (v ∷ vs))) most
          (front all_marks at (marks e) (marks_all more) s)
          (λ v. values_holds more (at + size e) (λ vs. go (v ∷ vs)) most
          (back all_marks at (size e) (marks e) (marks_all more) (long e) s) (λ vs. h (v ∷ vs)))

  -- ---- statements, in a function above so many frames

  module _ (base : ℕ) (few : suc base ≤ LIMITS.frames) (calling : Calls) (call_holds : CallHolds (suc base) calling) where
    record JumpsHold (most : ℕ) (j : Jumps) : Type 0 where
      pub back : (v : Value) → Holds base most (j.back v)
      pub out : Holds (suc base) most j.out
      pub again : Holds (suc base) most j.again

    sooner : (most fewer : ℕ) → fewer ≤ most → (j : Jumps) → JumpsHold most j → JumpsHold fewer j
    sooner most fewer le j h = record {
      back = λ v m left l. h.back v m left (omega arith);
      out = λ m left l. h.out m left (omega arith);
      again = λ m left l. h.again m left (omega arith);
    }

    rounds_hold : (turns_left point : ℕ) (before turning : Rest → Rest) (most : ℕ) → mark_at here.program point ≡ turn
        → most < turns_left
        → ((after : Rest) (l : ℕ) → l ≤ most → Holds (suc base) l after → Holds (suc base) l (before after))
        → ((after : Rest) (l : ℕ) → l ≤ most → Holds (suc base) l after → Holds (suc base) l (turning after))
        → Holds (suc base) most (rounds point turns_left before turning)
    rounds_hold zero point before turning most e lt b t = absurd (omega arith)
    rounds_hold (suc turns_left) point before turning most e lt b t =
        b (λ m left. pass point (counted left (λ left. turning (rounds point turns_left before turning) m left))) most (omega arith)
        (λ m left le. k.turns (suc base) left point (λ left. turning (rounds point turns_left before turning) m left) few e
        (λ l less. t (rounds point turns_left before turning) l (omega arith)
        (rounds_hold turns_left point before turning l e (omega arith)
        (λ after i i_le. b after i (omega arith)) (λ after i i_le. t after i (omega arith))) m l (omega arith)))

    does_holds : (s : Does) (at : ℕ) (j : Jumps) (after : Rest) (most : ℕ) → StandAt all_marks at (marks_in s)
        → JumpsHold most j → Holds (suc base) most after → Holds (suc base) most (does here calling s at j after)
    does_holds nothing at j after most s jumps h = h
    does_holds break at j after most s jumps h = jumps.out
    does_holds continue at j after most s jumps h = jumps.again
    does_holds (then_ a b) at j after most s jumps h =
        does_holds a at j (does here calling b (at + size_of a) j after) most (front all_marks at (marks_in a) (marks_in b) s) jumps
        (does_holds b (at + size_of a) j after most (back all_marks at (size_of a) (marks_in a) (marks_in b) (long_in a) s) jumps h)
    does_holds (act action arguments line) at j after most s jumps h =
        let t = at + sizes arguments in
        let own = back all_marks at (sizes arguments) (marks_all arguments) (plain ∷ []) (long_all arguments) s in
        values_holds (suc base) few calling call_holds arguments at _ most (front all_marks at (marks_all arguments) (plain ∷ []) s)
        (λ vs m left le. k.passes (suc base) left t _ (marked t _ (first all_marks t plain [] own))
        (enact_holds (suc base) few (mode_of action) (done_of here.layout here.program.texts action vs)
        (usual here.layout here.program.texts action vs) line after m left (λ m. h m left le)))
    does_holds (choose of_pointer test on off) at j after most s jumps h =
        let t = at + size test in
        let own = back all_marks at (size test) (marks test) (plain ∷ (marks_in on ++ marks_in off)) (long test) s in
        let arms = rest all_marks t plain (marks_in on ++ marks_in off) own in
        value_holds (suc base) few calling call_holds test at _ most
        (front all_marks at (marks test) (plain ∷ (marks_in on ++ marks_in off)) s)
        (λ v m left le. k.passes (suc base) left t _ (marked t _ (first all_marks t plain (marks_in on ++ marks_in off) own))
        (decided_holds (suc base) few left of_pointer v _ _
        (does_holds on (t + 1) j after most (front all_marks (t + 1) (marks_in on) (marks_in off) arms) jumps h m left le)
        (does_holds off (t + 1 + size_of on) j after most
        (back all_marks (t + 1) (size_of on) (marks_in on) (marks_in off) (long_in on) arms) jumps h m left le)))
    does_holds (loop mine before body next) at j after most s jumps h =
        let t = at + size_of before in
        let u = t + 1 + size_of body in
        let around : Jumps = record { back = j.back; out = after; again = j.again } in
        let own = back all_marks at (size_of before) (marks_in before) (turn ∷ (marks_in body ++ marks_in next)) (long_in before) s in
        let inner = rest all_marks t turn (marks_in body ++ marks_in next) own in
        let within : (l : ℕ) → l ≤ most → JumpsHold l around =
        λ l le. sooner most l le around (record { back = jumps.back; out = h; again = jumps.again }) in
        λ m left le. rounds_hold (suc left) t _ _ left (marked t _ (first all_marks t turn (marks_in body ++ marks_in next) own)) (omega arith)
        (λ round l l_le holds. does_holds before at around round l
        (front all_marks at (marks_in before) (turn ∷ (marks_in body ++ marks_in next)) s) (within l (omega arith)) holds)
        (λ round l l_le holds.
        let more = does_holds next u around round l
        (back all_marks (t + 1) (size_of body) (marks_in body) (marks_in next) (long_in body) inner) (within l (omega arith)) holds in
        let w = within l (omega arith) in
        does_holds body (t + 1) (record { back = j.back; out = after; again = does here calling next u around round })
        (does here calling next u around round) l (front all_marks (t + 1) (marks_in body) (marks_in next) inner)
        (record { back = w.back; out = w.out; again = more }) more)
        m left (omega arith)
    does_holds (return e line) at j after most s jumps h =
        let t = at + size e in
        let own = back all_marks at (size e) (marks e) (leaves ∷ []) (long e) s in
        value_holds (suc base) few calling call_holds e at _ most (front all_marks at (marks e) (leaves ∷ []) s)
        (λ v m left le. k.returns base left t _ few (marked t _ (first all_marks t leaves [] own))
        (none_holds base (omega arith) left line (top m.frames) _ (jumps.back v m left le)))

    body_holds : (at : ℕ) (f : Function) (going_back : Value → Rest) (most : ℕ)
        → StandAt all_marks at (enters ∷ (marks_in f.body ++ leaves ∷ []))
        → ((v : Value) → Holds base most (going_back v)) → Holds base most (body_of here calling at f going_back)
    body_holds at f going_back most s h m left le =
        let inner = rest all_marks at enters (marks_in f.body ++ leaves ∷ []) s in
        let own = back all_marks (at + 1) (size_of f.body) (marks_in f.body) (leaves ∷ []) (long_in f.body) inner in
        k.begins base left at _ (marked at _ (first all_marks at enters (marks_in f.body ++ leaves ∷ []) s))
        (does_holds f.body (at + 1) (in_body here going_back) _ most (front all_marks (at + 1) (marks_in f.body) (leaves ∷ []) inner)
        (record {
          back = h;
          out = λ m left le. mild (suc base) few left Breaks tt;
          again = λ m left le. mild (suc base) few left Breaks tt;
        })
        (λ m left le. k.returns base left (end_point here at f) _ few
        (marked (end_point here at f) _ (first all_marks (end_point here at f) leaves [] own))
        (none_holds base (omega arith) left f.line (top m.frames) _ (h (constant_of here (zero_of f.result)) m left le)))
        m left le)

  -- ---- functions

  functions_stand : StandAt all_marks 1 (marks_of here.program.functions)
  functions_stand = λ i m e. slice_behind i m e
    where
      slice_behind : (i : ℕ) (m : Mark) → slice_get (marks_of here.program.functions) i ≡ Some m → slice_get all_marks (1 + i) ≡ Some m
      slice_behind i m e = let same : 1 + i ≡ suc i = omega arith in subst (λ n. slice_get all_marks n ≡ Some m) (sym same) e

  entering_holds : (base : ℕ) → suc base ≤ LIMITS.frames → (calling : Calls) → CallHolds (suc base) calling
      → (f : ℕ) (o : Option Function) → slice_get here.program.functions f ≡ o → (vs : List Value) (go : Value → Rest) (most : ℕ)
      → ((v : Value) → Holds base most (go v))
      → Holds base most (entering here calling (first_point here.program.functions f) o vs go)
  entering_holds base few calling call_holds f None e vs go most h m left le = mild base (omega arith) left Breaks tt
  entering_holds base few calling call_holds f (Some g) e vs go most h m left le =
      body_holds base few calling call_holds (first_point here.program.functions f) g _ most
      (function_stands all_marks here.program.functions 1 f g functions_stand e)
      (λ v m left le. h v (popped m) left le) (pushed (entered vs (length g.others)) m) left le

  calls_hold : (more n : ℕ) → n + more ≡ LIMITS.frames → CallHolds n (calls_by here more)
  calls_hold zero n all f vs line go most point e h m left le =
      let same : LIMITS.frames ≡ n = omega arith in
      subst (λ i. P i left (pass point (counted left (λ l. Stops (Finishes (Fault Depth line)))))) same
      (k.calls_none left point line e)
  calls_hold (suc more) n all f vs line go most point e h m left le =
      k.calls_more n left point _ (omega arith) e
      (λ l less. entering_holds n (omega arith) (calls_by here more) (calls_hold more (suc n) (omega arith)) f
      (slice_get here.program.functions f) refl vs go most h m l (omega arith))

  begun_holds : (o : Option Function) → slice_get here.program.functions here.program.main ≡ o → (budget : ℕ)
      → P 0 budget (begun here o budget)
  begun_holds None e budget = mild 0 (omega arith) budget Breaks tt
  begun_holds (Some f) e budget =
      body_holds 0 (omega arith) (calls_by here (LIMITS.frames - 1)) (calls_hold (LIMITS.frames - 1) 1 refl)
      (first_point here.program.functions here.program.main) f _ budget
      (function_stands all_marks here.program.functions 1 here.program.main f functions_stand e)
      (λ v m left le. mild 0 (omega arith) left (Finishes Ended) tt) _ budget (omega arith)

  pub pointed_holds : (budget : ℕ) → P 0 budget (pointed here budget)
  pointed_holds budget =
      k.passes 0 budget 0 _ (marked 0 plain refl)
      (begun_holds (slice_get here.program.functions here.program.main) refl budget)
