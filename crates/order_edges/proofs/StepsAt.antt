-- The requests of a node by their numbers.
use Rattle.std.proofs.Common.{◌≡◌, ◌⊎◌, ℕ, zero, suc, ◌+◌, ◌<◌, ◌≤◌, List, [], ◌∷◌, ◌++◌, length, get_or, Option, Some, None, Bool, true, false, ◌==◌, ◌&&◌, refl, sym, ap, ap₂, subst, ◌∙◌, arith, inl, inr, ⊎_elim, eqb-true, eq-eqb, length-append}
use Rattle.std.specs.Prelude.{if◌then◌else◌, nat_lt}
use Rattle.std.proofs.lemmas.Bool.{and_parts, and_from, cases_lt, false_from_ne_true, ltb-true}
use Rattle.sc_meaning.specs.OfAccess.{request_in}
use Rattle.sc_meaning.specs.History.{barrier_of}
use Rattle.sc_meaning.specs.declared.request.Request.TheVariants.{Sync as SyncRequest}
use Rattle.sc_isa.specs.declared.access.Access.TheVariants.{Read, Write, Copy}
use Rattle.sc_isa.specs.declared.access.Track.{Track}
use Rattle.sc_isa.specs.declared.journal.Entry.{Entry}
use Rattle.sc_isa.specs.declared.journal.Entry.TheVariants.{Issued, Delivered, Waited, Arrived, Passed, Finished}
use Rattle.fabric.specs.Barriers.{arrivals}
use Rattle.source_order.specs.Steps.{request_by, requested, count_one, track_at, arrivals_among}
use Rattle.source_order.proofs.Numbers.{arrivals_all}
use Rattle.order_edges.specs.declared.steps.Step.{Step}
use Rattle.order_edges.specs.Steps.{track_in, is_request, a_step, step_if, steps_before, steps_of}
use Rattle.order_edges.proofs.Numbers.{if_true, if_false}

get_left : {X : Type 0} (xs ys : List X) (k : ℕ) (d : X) → k < length xs → get_or (xs ++ ys) k d ≡ get_or xs k d
get_left [] ys k d w = absurd (omega (arith, w))
get_left (x ∷ xs) ys zero d w = refl
get_left (x ∷ xs) ys (suc k) d w = get_left xs ys k d (omega (arith, w))

get_end : {X : Type 0} (xs : List X) (y : X) (k : ℕ) (d : X) → length xs ≡ k → get_or (xs ++ y ∷ []) k d ≡ y
get_end [] y zero d e = refl
get_end [] y (suc k) d e = absurd (omega (arith, e))
get_end (x ∷ xs) y zero d e = absurd (omega (arith, e))
get_end (x ∷ xs) y (suc k) d e = get_end xs y k d (omega (arith, e))

-- a request counts as one
pub counts : (p : ℕ) (e : Entry) (past : List Entry) → requested p (e ∷ past) ≡ (if is_request p e then requested p past + 1 else requested p past)
counts p (Issued q n access) past = by (q == p)
  where
    by : (b : Bool) → count_one (if b then Some (request_in access) else None) (requested p past) ≡ (if b then requested p past + 1 else requested p past)
    by true = refl
    by false = refl
counts p (Waited q c) past = by ((q == p) && (c == 0))
  where
    by : (b : Bool) → count_one (if b then Some (SyncRequest 0) else None) (requested p past) ≡ (if b then requested p past + 1 else requested p past)
    by true = refl
    by false = refl
counts p (Arrived q stores) past = by (q == p)
  where
    by : (b : Bool) → count_one (if b then Some (barrier_of stores 0) else None) (requested p past) ≡ (if b then requested p past + 1 else requested p past)
    by true = refl
    by false = refl
counts p (Delivered _ _ _ _) past = refl
counts p (Passed _) past = refl
counts p (Finished _ _) past = refl

pub before_length : (p : ℕ) (past : List Entry) → length (steps_before p past) ≡ requested p past
before_length p [] = refl
before_length p (e ∷ past) = length-append (steps_before p past) (step_if p (arrivals p past) e) ∙ by (before_length p past) (is_request p e) refl ∙ sym (counts p e past)
  where
    by : length (steps_before p past) ≡ requested p past → (b : Bool) → is_request p e ≡ b → length (steps_before p past) + length (step_if p (arrivals p past) e) ≡ (if is_request p e then requested p past + 1 else requested p past)
    by l true h = rw h (ap (λ n. n + 1) l)
    by l false h = rw h (omega (arith, l))

pub steps_length : (p : ℕ) (past : List Entry) → length (steps_of p past) ≡ suc (requested p past)
steps_length p past =
    let a = length-append (steps_before p past) (a_step None (arrivals p past) ∷ []) in
    let b = before_length p past in omega (arith, a, b)

-- ---- tracks

track_same : (p k : ℕ) (e : Entry) (past : List Entry) → (is_request p e && (requested p past == k)) ≡ false → track_at p k (e ∷ past) ≡ track_at p k past
track_same p k (Issued q n (Read place track)) past h = if_false _ _ _ h
track_same p k (Issued q n (Write place value track)) past h = if_false _ _ _ h
track_same p k (Issued q n (Copy from to cells track)) past h = if_false _ _ _ h
track_same p k (Delivered _ _ _ _) past h = refl
track_same p k (Waited _ _) past h = refl
track_same p k (Arrived _ _) past h = refl
track_same p k (Passed _) past h = refl
track_same p k (Finished _ _) past h = refl

track_none : (p k : ℕ) (past : List Entry) → requested p past ≤ k → track_at p k past ≡ None
track_none p k [] w = refl
track_none p k (e ∷ past) w = by (track_none p k past) (is_request p e) refl
  where
    count : requested p (e ∷ past) ≡ (if is_request p e then requested p past + 1 else requested p past)
    count = counts p e past

    by : (requested p past ≤ k → track_at p k past ≡ None) → (b : Bool) → is_request p e ≡ b → track_at p k (e ∷ past) ≡ None
    by old true h =
        let c : requested p (e ∷ past) ≡ requested p past + 1 = count ∙ if_true _ _ _ h in
        track_same p k e past (false_from_ne_true _ (λ t. let z = and_parts (is_request p e) (requested p past == k) t in let q = eqb-true _ _ z.1 in omega (arith, c, q, w)))
        ∙ old (omega (arith, c, w))
    by old false h =
        let c : requested p (e ∷ past) ≡ requested p past = count ∙ if_false _ _ _ h in
        track_same p k e past (ap (λ b. b && (requested p past == k)) h) ∙ old (omega (arith, c, w))

track_here : (p k : ℕ) (e : Entry) (past : List Entry) → (is_request p e && (requested p past == k)) ≡ true → track_at p k past ≡ None → track_at p k (e ∷ past) ≡ track_in e
track_here p k (Issued q n (Read place track)) past h none = if_true _ _ _ h
track_here p k (Issued q n (Write place value track)) past h none = if_true _ _ _ h
track_here p k (Issued q n (Copy from to cells track)) past h none = if_true _ _ _ h
track_here p k (Delivered _ _ _ _) past h none = none
track_here p k (Waited _ _) past h none = none
track_here p k (Arrived _ _) past h none = none
track_here p k (Passed _) past h none = none
track_here p k (Finished _ _) past h none = none

-- ---- arrivals

among_same : (p k : ℕ) (e : Entry) (past : List Entry) → (is_request p e && nat_lt (requested p past) k) ≡ false → arrivals_among p k (e ∷ past) ≡ arrivals_among p k past
among_same p k (Arrived q stores) past h = if_false _ _ _ h
among_same p k (Issued _ _ _) past h = refl
among_same p k (Delivered _ _ _ _) past h = refl
among_same p k (Waited _ _) past h = refl
among_same p k (Passed _) past h = refl
among_same p k (Finished _ _) past h = refl

-- ---- steps

before_at : (p k : ℕ) (d : Step) (past : List Entry) → k < requested p past → get_or (steps_before p past) k d ≡ a_step (track_at p k past) (arrivals_among p k past)
before_at p k d [] w = absurd (omega (arith, w))
before_at p k d (e ∷ past) w = by (before_at p k d past) (is_request p e) refl
  where
    count : requested p (e ∷ past) ≡ (if is_request p e then requested p past + 1 else requested p past)
    count = counts p e past

    old : (k < requested p past → get_or (steps_before p past) k d ≡ a_step (track_at p k past) (arrivals_among p k past)) → k < requested p past → get_or (steps_before p (e ∷ past)) k d ≡ a_step (track_at p k (e ∷ past)) (arrivals_among p k (e ∷ past))
    old before t =
        get_left (steps_before p past) (step_if p (arrivals p past) e) k d (let l = before_length p past in omega (arith, l, t))
        ∙ before t
        ∙ ap₂ a_step
        (sym (track_same p k e past (false_from_ne_true _ (λ u. let z = and_parts (is_request p e) (requested p past == k) u in let q = eqb-true _ _ z.1 in omega (arith, q, t)))))
        (sym (among_same p k e past (false_from_ne_true _ (λ u. let z = and_parts (is_request p e) (nat_lt (requested p past) k) u in let q = ltb-true _ _ z.1 in omega (arith, q, t)))))

    new : is_request p e ≡ true → requested p past ≡ k → get_or (steps_before p (e ∷ past)) k d ≡ a_step (track_at p k (e ∷ past)) (arrivals_among p k (e ∷ past))
    new h q =
        ap (λ b. get_or (steps_before p past ++ (if b then a_step (track_in e) (arrivals p past) ∷ [] else [])) k d) h
        ∙ get_end (steps_before p past) (a_step (track_in e) (arrivals p past)) k d (before_length p past ∙ q)
        ∙ ap₂ a_step
        (sym (track_here p k e past (and_from _ _ h (eq-eqb _ _ q)) (track_none p k past (omega (arith, q)))))
        (sym (among_same p k e past (false_from_ne_true _ (λ u. let z = and_parts (is_request p e) (nat_lt (requested p past) k) u in let y = ltb-true _ _ z.1 in omega (arith, q, y)))
        ∙ arrivals_all p k past (omega (arith, q))))

    by : (k < requested p past → get_or (steps_before p past) k d ≡ a_step (track_at p k past) (arrivals_among p k past)) → (b : Bool) → is_request p e ≡ b → get_or (steps_before p (e ∷ past)) k d ≡ a_step (track_at p k (e ∷ past)) (arrivals_among p k (e ∷ past))
    by before true h =
        let c : requested p (e ∷ past) ≡ requested p past + 1 = count ∙ if_true _ _ _ h in
        ⊎_elim (old before) (λ t. new h (omega (arith, c, w, t))) (cases_lt k (requested p past))
    by before false h = let c : requested p (e ∷ past) ≡ requested p past = count ∙ if_false _ _ _ h in old before (omega (arith, c, w))

pub step_is : (p k : ℕ) (d : Step) (past : List Entry) → k ≤ requested p past → get_or (steps_of p past) k d ≡ a_step (track_at p k past) (arrivals_among p k past)
step_is p k d past w = ⊎_elim
    (λ t. get_left (steps_before p past) (a_step None (arrivals p past) ∷ []) k d (let l = before_length p past in omega (arith, l, t)) ∙ before_at p k d past t)
    (λ t. let q : requested p past ≡ k = omega (arith, t, w) in
    get_end (steps_before p past) (a_step None (arrivals p past)) k d (before_length p past ∙ q)
    ∙ ap₂ a_step (sym (track_none p k past t)) (sym (arrivals_all p k past t)))
    (cases_lt k (requested p past))
