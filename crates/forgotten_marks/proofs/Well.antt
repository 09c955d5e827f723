-- What a source asks: reads, syncs and barriers are asked, whatever fits is of the answer's sort, and a sync wants as many
-- values as there are gets.
use Rattle.std.proofs.Common.{◌≡◌, ◌⊎◌, inl, inr, ℕ, zero, suc, ◌+◌, ◌-◌, ◌&&◌, List, [], ◌∷◌, length, Option, Some, None, Bool, true, false, slice_get, refl, ap, ◌∙◌, subst, arith}
use Rattle.std.proofs.lemmas.List.{length-append, length-map}
use Rattle.std.specs.Prelude.{pos, negsuc}
use Rattle.resumption.specs.Resumption.{Asks, Makes, Says, Stops}
use Rattle.sc_base.specs.declared.limits.TheConstants.{LIMITS}
use Rattle.sc_base.specs.declared.value.CopyMode.{CopyMode}
use Rattle.sc_base.specs.declared.value.End.TheVariants.{Ended, Fault, Cut}
use Rattle.sc_base.specs.declared.value.FaultKind.TheVariants.{Depth}
use Rattle.sc_base.specs.declared.value.Place.{Place}
use Rattle.sc_base.specs.declared.value.Value.{Value}
use Rattle.sc_base.specs.declared.value.Value.TheVariants.{Int, Null, Ptr}
use Rattle.sc_layout.specs.Layout.{Arrangement}
use Rattle.sc_isa.specs.Elements.{Outcome, gives, fails, wrong}
use Rattle.sc_isa.specs.Fitting.{fits, fits_all}
use Rattle.sc_isa.specs.Pure.{truth, computed}
use Rattle.sc_isa.specs.Deeds.{Made, makes, faults, stuck, uses, sets, reads, writes, calls, Done, lets_go, ends, sticks, clears, prints, fills, gets, misses, puts, sends, copies, waits, meets}
use Rattle.sc_core.specs.declared.operation.Operation.{Operation}
use Rattle.sc_core.specs.declared.operation.Operation.TheVariants as op
use Rattle.sc_core.specs.Core.{Core, constant, step, choice, update, Arguments, none, argument, Does, nothing, break, continue, then_, act, choose, loop, return, Function}
use Rattle.sc_core.specs.Table.{made_of, done_of}
use Rattle.sc_core.specs.Statements.{zero_of}
use Rattle.sc_meaning.specs.declared.request.Request.{Request}
use Rattle.sc_meaning.specs.declared.request.Request.TheVariants as request
use Rattle.sc_meaning.specs.Asking.{PointedDoing, Requested, Came, Answer, Shown, Landed, Passed, Broken, Halt, Finishes, Breaks, fits_read, fits_sync, fits_barrier}
use Rattle.sc_meaning.specs.Memory.{Slot, has, awaits, Memory, top, below, slot, with_slot, with_get, places, synced, entered, pushed, popped}
use Rattle.sc_meaning.specs.Points.{size, sizes, size_of, first_point}
use Rattle.sc_meaning.specs.Steps.{Rest, Calls, shown_or_zero, landed_or_none, unless_broken, used, none_awaits, counted, decided_by, decided_as, decided, perform, mode_of, enact}
use Rattle.sc_meaning.specs.Meaning.{Setting, pass, constant_of, Jumps, rounds, performed, taken_back, value, values, does, end_point, in_body, body_of, entering, calls_by, begun, pointed}

-- the answers that fit are of the request's sort; n: how many gets are outstanding
abbrev pub Answers : (n : ℕ) → Request → (Answer → Bool) → Type 0
Answers n (request.Read place line) fits = (a : Answer) → fits a ≡ true → (v : Value) × (a ≡ Shown v)
Answers n (request.Sync line) fits = (a : Answer) → fits a ≡ true → (vs : List Value) × (a ≡ Landed vs) × (length vs ≡ n)
Answers n (request.Barrier line) fits = (a : Answer) → fits a ≡ true → (a ≡ Passed) ⊎ (a ≡ Broken)
Answers n (request.AllStoreSync line) fits = (a : Answer) → fits a ≡ true → (a ≡ Passed) ⊎ (a ≡ Broken)
Answers n _ fits = ⊥

-- the request has no answer
abbrev pub IsMade : Request → Type 0
IsMade (request.Read place line) = ⊥
IsMade (request.Sync line) = ⊥
IsMade (request.Barrier line) = ⊥
IsMade (request.AllStoreSync line) = ⊥
IsMade _ = Unit {0}

abbrev pub gets_after : ℕ → Request → ℕ
gets_after n (request.Get place line) = suc n
gets_after n (request.Sync line) = 0
gets_after n _ = n

unfoldable pub Well : ℕ → PointedDoing → Type 0
Well n (Asks (Requested r) fits go) = Answers n r fits × ((a : Answer) → Well (gets_after n r) (go a))
Well n (Asks (Came t) fits go) = ⊥
Well n (Makes (Requested r) rest) = IsMade r × Well (gets_after n r) rest
Well n (Makes (Came t) rest) = Well n rest
Well n (Says text rest) = Well n rest
Well n (Stops halt) = Unit {0}

-- ---- which answers fit

read_answers : (layout : Arrangement) (place : Place) (a : Answer) → fits_read layout place a ≡ true → (v : Value) × (a ≡ Shown v)
read_answers layout place (Shown v) e = (v, refl)
read_answers layout place (Landed vs) e = absurd (cc)
read_answers layout place Passed e = absurd (cc)
read_answers layout place Broken e = absurd (cc)

and_second : (x y : Bool) → (x && y) ≡ true → y ≡ true
and_second true y e = e
and_second false y e = absurd (cc)

as_many : (layout : Arrangement) (ps : List Place) (vs : List Value) → fits_all layout ps vs ≡ true → length vs ≡ length ps
as_many layout [] [] e = refl
as_many layout [] (v ∷ vs) e = absurd (cc)
as_many layout (p ∷ ps) [] e = absurd (cc)
as_many layout (p ∷ ps) (v ∷ vs) e = ap suc (as_many layout ps vs (and_second (fits layout p v) (fits_all layout ps vs) e))

sync_answers : (layout : Arrangement) (m : Memory) (a : Answer) → fits_sync layout (places m) a ≡ true
    → (vs : List Value) × (a ≡ Landed vs) × (length vs ≡ length m.getting)
sync_answers layout m (Landed vs) e = (vs, refl, as_many layout (places m) vs e ∙ length-map m.getting (λ s. s.place))
sync_answers layout m (Shown v) e = absurd (cc)
sync_answers layout m Passed e = absurd (cc)
sync_answers layout m Broken e = absurd (cc)

barrier_answers : (a : Answer) → fits_barrier a ≡ true → (a ≡ Passed) ⊎ (a ≡ Broken)
barrier_answers Passed e = inl refl
barrier_answers Broken e = inr refl
barrier_answers (Shown v) e = absurd (cc)
barrier_answers (Landed vs) e = absurd (cc)

-- ---- each part

abbrev pub Good : Rest → Type 0
Good after = (m : Memory) (left : ℕ) → Well (length m.getting) (after m left)

used_good : (n line : ℕ) (s : Slot) (go : Value → PointedDoing) → ((v : Value) → Well n (go v)) → Well n (used line s go)
unfolding Well
used_good n line (has v) go h = h v
used_good n line awaits go h = tt

none_good : (n line : ℕ) (slots : List Slot) (doing : PointedDoing) → Well n doing → Well n (none_awaits line slots doing)
unfolding Well
none_good n line [] doing h = h
none_good n line (has v ∷ slots) doing h = none_good n line slots doing h
none_good n line (awaits ∷ slots) doing h = tt

counted_good : (n left : ℕ) (go : ℕ → PointedDoing) → ((l : ℕ) → Well n (go l)) → Well n (counted left go)
unfolding Well
counted_good n zero go h = tt
counted_good n (suc left) go h = h left

by_good : (n : ℕ) (v : Value) (on off : PointedDoing) → Well n on → Well n off → Well n (decided_by v on off)
unfolding Well
by_good n (Int (pos zero)) on off h l = l
by_good n (Int (pos (suc i))) on off h l = h
by_good n (Int (negsuc i)) on off h l = h
by_good n Null on off h l = tt
by_good n (Ptr object node offset) on off h l = tt

as_good : (n : ℕ) (o : Outcome) (on off : PointedDoing) → Well n on → Well n off → Well n (decided_as o on off)
unfolding Well
as_good n (gives v) on off h l = by_good n v on off h l
as_good n (fails kind) on off h l = tt
as_good n wrong on off h l = tt

decided_good : (layout : Arrangement) (node n : ℕ) (of_pointer : Bool) (v : Value) (on off : PointedDoing) → Well n on → Well n off
    → Well n (decided layout node of_pointer v on off)
decided_good layout node n false v on off h l = by_good n v on off h l
decided_good layout node n true v on off h l = as_good n (computed layout node truth (v ∷ [])) on off h l

broken_good : (n : ℕ) (a : Answer) (doing : PointedDoing) → Well n doing → Well n (unless_broken a doing)
unfolding Well
broken_good n Broken doing h = tt
broken_good n Passed doing h = h
broken_good n (Shown v) doing h = h
broken_good n (Landed vs) doing h = h

got_one : (m : Memory) (x : ℕ) (place : Place) → length (with_get m x place).getting ≡ suc (length m.getting)
got_one m x place = let e = length-append m.getting (record { level = length (below m.frames); local = x; place = place } ∷ []) in omega (arith, e)

module _ (here : Setting) where
  stops_good : (halt : Halt) → Good (λ m left. Stops halt)
  unfolding Well
  stops_good halt m left = tt

  module _ (calling : Calls) (call_good : (f : ℕ) (vs : List Value) (line : ℕ) (go : Value → Rest) → ((v : Value) → Good (go v)) → Good (calling f vs line go)) where
    perform_good : (made : Made) (line : ℕ) (go : Value → Rest) → ((v : Value) → Good (go v)) → Good (perform here.layout calling made line go)
    unfolding Well
    perform_good (makes v) line go h m left = h v m left
    perform_good (faults kind) line go h m left = tt
    perform_good stuck line go h m left = tt
    perform_good (uses x) line go h m left = used_good (length m.getting) line (slot m x) (λ v. go v m left) (λ v. h v m left)
    perform_good (sets x v) line go h m left =
        used_good (length m.getting) line (slot m x) (λ old. go v (with_slot m x (has v)) left) (λ old. h v (with_slot m x (has v)) left)
    perform_good (reads place) line go h m left = (read_answers here.layout place, λ a. h (shown_or_zero a) m left)
    perform_good (writes place v) line go h m left = (tt, h v m left)
    perform_good (calls f vs) line go h m left = call_good f vs line go h m left

    enact_good : (mode : CopyMode) (done : Done) (line : ℕ) (after : Rest) → Good after → Good (enact here.layout mode done line after)
    unfolding Well
    enact_good mode lets_go line after h m left = h m left
    enact_good mode (ends kind) line after h m left = tt
    enact_good mode sticks line after h m left = tt
    enact_good mode (clears x v) line after h m left =
        used_good (length m.getting) line (slot m x) (λ old. after (with_slot m x (has v)) left) (λ old. h (with_slot m x (has v)) left)
    enact_good mode (prints text) line after h m left = h m left
    enact_good mode (fills x place) line after h m left = (
      read_answers here.layout place,
      λ a. used_good (length m.getting) line (slot m x) (λ old. after (with_slot m x (has (shown_or_zero a))) left)
          (λ old. h (with_slot m x (has (shown_or_zero a))) left),
    )
    enact_good mode (gets x place) line after h m left =
        used_good (length m.getting) line (slot m x) (λ old. Makes (Requested (request.Get place line)) (after (with_get m x place) left))
        (λ old. (tt, subst (λ n. Well n (after (with_get m x place) left)) (got_one m x place) (h (with_get m x place) left)))
    enact_good mode (misses x kind) line after h m left =
        used_good (length m.getting) line (slot m x) _ (λ old. tt)
    enact_good mode (puts place v) line after h m left = (tt, h m left)
    enact_good mode (sends place v) line after h m left = (tt, h m left)
    enact_good mode (copies from to cells) line after h m left = (tt, h m left)
    enact_good mode (waits counter) line after h m left =
        (sync_answers here.layout m, λ a. h (synced (landed_or_none a) m) left)
    enact_good mode (meets true) line after h m left = (barrier_answers, λ a. broken_good (length m.getting) a (after m left) (h m left))
    enact_good mode (meets false) line after h m left = (barrier_answers, λ a. broken_good (length m.getting) a (after m left) (h m left))

    pass_good : (t : ℕ) (after : Rest) → Good after → Good (λ m left. pass t (after m left))
    unfolding Well
    pass_good t after h m left = h m left

    performs : (operation : Operation) (vs : List Value) (line t : ℕ) (go : Value → Rest) → ((v : Value) → Good (go v))
        → Good (λ m left. pass t (performed here calling operation vs line go m left))
    performs operation vs line t go h = pass_good t _ (perform_good (made_of here.layout here.node operation vs) line go h)

    back_good : (undo : Option Operation) (t line : ℕ) (go : Value → Rest) → ((v : Value) → Good (go v)) → (v : Value)
        → Good (taken_back here calling undo t line go v)
    back_good None t line go h v = h v
    back_good (Some operation) t line go h v = performs operation (v ∷ Int (pos 1) ∷ []) line t go h

    mutual
      value_good : (e : Core) (k : ℕ) (go : Value → Rest) → ((v : Value) → Good (go v)) → Good (value here calling e k go)
      value_good (constant c) k go h = h (constant_of here c)
      value_good (step operation arguments line) k go h =
          values_good arguments k _ (λ vs. performs operation vs line (k + sizes arguments) go h)
      value_good (choice of_pointer test on off) k go h =
          value_good test k _ (λ v. pass_good (k + size test) _ (λ m left. decided_good here.layout here.node (length m.getting) of_pointer v _ _
          (value_good on (k + size test + 1) go h m left) (value_good off (k + size test + 1 + size on) go h m left)))
      value_good (update pointer operation right back line) k go h =
          value_good pointer k _ (λ p. performs op.Read (p ∷ []) line (k + size pointer) _ (λ old.
          value_good right (k + size pointer + 1) _ (λ by. performs operation (old ∷ by ∷ []) line (k + size pointer + 1 + size right) _ (λ new.
          performs op.Write (p ∷ new ∷ []) line (k + size pointer + 1 + size right + 1) _
          (back_good back (k + size pointer + 1 + size right + 2) line go h)))))

      values_good : (es : Arguments) (k : ℕ) (go : List Value → Rest) → ((vs : List Value) → Good (go vs)) → Good (values here calling es k go)
      values_good none k go h = h []
      values_good (argument e more) k go h =
          value_good e k _ (λ v. values_good more (k + size e) (λ vs. go (v ∷ vs)) (λ vs. h (v ∷ vs)))

    record JumpsGood (j : Jumps) : Type 0 where
      pub back : (v : Value) → Good (j.back v)
      pub out : Good j.out
      pub again : Good j.again

    rounds_good : (n t : ℕ) (before turning : Rest → Rest) → ((after : Rest) → Good after → Good (before after))
        → ((after : Rest) → Good after → Good (turning after)) → Good (rounds t n before turning)
    rounds_good zero t before turning b h = stops_good (Finishes Cut)
    rounds_good (suc n) t before turning b h =
        b _ (pass_good t _ (λ m left. counted_good (length m.getting) left (λ left. turning (rounds t n before turning) m left) (λ l. h (rounds t n before turning) (rounds_good n t before turning b h) m l)))

    does_good : (s : Does) (k : ℕ) (j : Jumps) (after : Rest) → JumpsGood j → Good after → Good (does here calling s k j after)
    does_good nothing k j after jumps h = h
    does_good break k j after jumps h = jumps.out
    does_good continue k j after jumps h = jumps.again
    does_good (then_ a b) k j after jumps h = does_good a k j _ jumps (does_good b (k + size_of a) j after jumps h)
    does_good (act action arguments line) k j after jumps h =
        values_good arguments k _ (λ vs. pass_good (k + sizes arguments) _ (enact_good (mode_of action) (done_of here.layout here.program.texts action vs) line after h))
    does_good (choose of_pointer test on off) k j after jumps h =
        value_good test k _ (λ v. pass_good (k + size test) _ (λ m left. decided_good here.layout here.node (length m.getting) of_pointer v _ _
        (does_good on (k + size test + 1) j after jumps h m left) (does_good off (k + size test + 1 + size_of on) j after jumps h m left)))
    does_good (loop mine before body next) k j after jumps h =
        let t = k + size_of before in
        let u = t + 1 + size_of body in
        let around : Jumps = record { back = j.back; out = after; again = j.again } in
        let a : JumpsGood around = record { back = jumps.back; out = h; again = jumps.again } in
        λ m left. rounds_good (suc left) t _ _ (λ round g. does_good before k around round a g)
        (λ round g.
        let more = does_good next u around round a g in
        does_good body (t + 1) (record { back = j.back; out = after; again = does here calling next u around round })
        (does here calling next u around round) (record { back = jumps.back; out = h; again = more }) more) m left
    does_good (return e line) k j after jumps h =
        value_good e k _ (λ v. pass_good (k + size e) _ (λ m left. none_good (length m.getting) line (top m.frames) (j.back v m left) (jumps.back v m left)))

    body_good : (first : ℕ) (f : Function) (going_back : Value → Rest) → ((v : Value) → Good (going_back v)) → Good (body_of here calling first f going_back)
    body_good first f going_back h =
        pass_good first _ (does_good f.body (first + 1) (in_body here going_back) _
        (record { back = h; out = stops_good Breaks; again = stops_good Breaks })
        (pass_good (end_point here first f) _ (λ m left. none_good (length m.getting) f.line (top m.frames) _ (h (constant_of here (zero_of f.result)) m left))))

  entering_good : (calling : Calls) → ((f : ℕ) (vs : List Value) (line : ℕ) (go : Value → Rest) → ((v : Value) → Good (go v)) → Good (calling f vs line go))
      → (first : ℕ) (o : Option Function) (vs : List Value) (go : Value → Rest) → ((v : Value) → Good (go v)) → Good (entering here calling first o vs go)
  entering_good calling c first None vs go h = stops_good Breaks
  entering_good calling c first (Some f) vs go h = λ m left.
      body_good calling c first f (λ v m left. go v (popped m) left) (λ v m left. h v (popped m) left) (pushed (entered vs (length f.others)) m) left

  calls_good : (frames f : ℕ) (vs : List Value) (line : ℕ) (go : Value → Rest) → ((v : Value) → Good (go v)) → Good (calls_by here frames f vs line go)
  calls_good zero f vs line go h m left = counted_good (length m.getting) left (λ left. Stops (Finishes (Fault Depth line))) (λ l. stops_good (Finishes (Fault Depth line)) m l)
  calls_good (suc frames) f vs line go h m left =
      counted_good (length m.getting) left (λ left. entering here (calls_by here frames) (first_point here.program.functions f)
      (slice_get here.program.functions f) vs go m left) (λ l. entering_good (calls_by here frames) (calls_good frames) (first_point here.program.functions f)
      (slice_get here.program.functions f) vs go h m l)

  begun_good : (o : Option Function) (budget : ℕ) → Well 0 (begun here o budget)
  begun_good None budget = stops_good Breaks (record { frames = []; getting = [] }) budget
  begun_good (Some f) budget =
      body_good (calls_by here (LIMITS.frames - 1)) (calls_good (LIMITS.frames - 1)) (first_point here.program.functions here.program.main) f (λ v m left. Stops (Finishes Ended))
      (λ v. stops_good (Finishes Ended)) (record { frames = entered [] (length f.others) ∷ []; getting = [] }) budget

  pub pointed_good : (budget : ℕ) → Well 0 (pointed here budget)
  unfolding Well
  pointed_good budget = begun_good (slice_get here.program.functions here.program.main) budget
