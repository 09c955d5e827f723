-- No more frames stand than may.
use Rattle.std.proofs.Common.{◌≡◌, ℕ, zero, suc, ◌+◌, ◌-◌, ◌<◌, ◌≤◌, ◌⊎◌, inl, inr, ⊎_elim, List, [], ◌∷◌, length, take, slice_get, Some, Bool, true, false, if◌then◌else◌, refl, sym, ap, ◌∙◌, subst, arith}
use Rattle.resumption.specs.Resumption.{Asks, Stops, RunOf, RunEnd, Ends, unanswered, after_event, run_of}
use Rattle.sc_base.specs.declared.limits.TheConstants.{LIMITS}
use Rattle.sc_base.specs.declared.value.End.TheVariants.{Ended, Fault, Cut, Waiting}
use Rattle.sc_base.specs.declared.value.FaultKind.TheVariants as fault
use Rattle.sc_core.specs.Core.{Program}
use Rattle.sc_meaning.specs.declared.request.Request.{Request}
use Rattle.sc_meaning.specs.Asking.{PointedDoing, Event, Requested, Came, Answer, Passed, Halt, Finishes, Breaks}
use Rattle.sc_meaning.specs.Steps.{counted}
use Rattle.sc_meaning.specs.Meaning.{pass, pointed}
use Rattle.meaning_laws.specs.Marks.{Mark, plain, turn, call, enters, leaves, mark_at}
use Rattle.meaning_laws.specs.Budget.{after_mark, frames_after, IsCutOrDeep, IsWithinFrames, FramesAreBounded}
use Rattle.meaning_laws.proofs.Shallow.{NotDeep}
use Rattle.meaning_laws.proofs.Closure.{Keeps, IsMild, pointed_holds}

abbrev NoDeep : RunEnd Halt → Type 0
NoDeep end = (line : ℕ) → end ≡ Ends (Finishes (Fault fault.Depth line)) → ⊥

module _ (program : Program) where
  -- a call that makes one frame too many: nothing comes after it
  record IsLast (n point : ℕ) (later : List Event) (end : RunEnd Halt) : Type 0 where
    pub is_call : mark_at program point ≡ call
    pub full : n ≡ LIMITS.frames
    pub last : later ≡ []
    pub so_ends : IsCutOrDeep end

  -- so many frames stand, and the events and the end keep to what may stand
  Framed : ℕ → List Event → RunEnd Halt → Type 0
  Framed n [] end = (n ≤ LIMITS.frames) × NoDeep end
  Framed n (Requested request ∷ events) end = Framed n events end
  Framed n (Came point ∷ events) end =
      (n ≤ LIMITS.frames)
      × (IsLast n point events end
      ⊎ ((mark_at program point ≡ call → n < LIMITS.frames) × Framed (after_mark (mark_at program point) n) events end))

  few_now : (n : ℕ) (events : List Event) (end : RunEnd Halt) → Framed n events end → n ≤ LIMITS.frames
  unfolding Framed
  few_now n [] end h = h.0
  few_now n (Requested request ∷ events) end h = few_now n events end h
  few_now n (Came point ∷ events) end h = h.0

  -- ---- what the run keeps to

  few_always : (n : ℕ) (events : List Event) (end : RunEnd Halt) → Framed n events end
      → (number : ℕ) → frames_after program n (take number events) ≤ LIMITS.frames
  unfolding Framed
  few_always n [] end h zero = h.0
  few_always n [] end h (suc number) = h.0
  few_always n (Requested request ∷ events) end h zero = few_now n events end h
  few_always n (Requested request ∷ events) end h (suc number) = few_always n events end h number
  few_always n (Came point ∷ events) end h zero = h.0
  few_always n (Came point ∷ events) end h (suc number) =
      ⊎_elim (λ (last : IsLast n point events end). at_last last)
      (λ later. few_always (after_mark (mark_at program point) n) events end later.1 number) h.1
    where
      at_last : IsLast n point events end → frames_after program (after_mark (mark_at program point) n) (take number events) ≤ LIMITS.frames
      at_last last =
          subst (λ es. frames_after program (after_mark (mark_at program point) n) (take number es) ≤ LIMITS.frames) (sym last.last)
          (subst (λ (m : Mark). frames_after program (after_mark m n) (take number []) ≤ LIMITS.frames) (sym last.is_call)
          (none number))
        where
          none : (i : ℕ) → frames_after program n (take i []) ≤ LIMITS.frames
          none zero = h.0
          none (suc i) = h.0

  record DeepAt (n : ℕ) (events : List Event) (number : ℕ) : Type 0 where
    pub point : ℕ
    pub comes : slice_get events number ≡ Some (Came point)
    pub is_call : mark_at program point ≡ call
    pub full : frames_after program n (take number events) ≡ LIMITS.frames

  deep_ends : (n : ℕ) (events : List Event) (end : RunEnd Halt) → Framed n events end
      → (number : ℕ) → DeepAt n events number → (length events ≡ number + 1) × IsCutOrDeep end
  unfolding Framed
  deep_ends n [] end h number d = let c = d.comes in absurd cc
  deep_ends n (Requested request ∷ events) end h zero d = let c = d.comes in absurd cc
  deep_ends n (Requested request ∷ events) end h (suc number) d =
      let i = deep_ends n events end h number (record { point = d.point; comes = d.comes; is_call = d.is_call; full = d.full }) in
      ((let e = i.0 in omega arith), i.1)
  deep_ends n (Came point ∷ events) end h zero d =
      let same : point ≡ d.point = (let c = d.comes in cc) in
      let is_call : mark_at program point ≡ call = subst (λ p. mark_at program p ≡ call) (sym same) d.is_call in
      ⊎_elim (λ (last : IsLast n point events end). ((let e : length events ≡ 0 = ap length last.last in omega arith), last.so_ends))
      (λ later. absurd (let lt = later.0 is_call in let f : n ≡ LIMITS.frames = d.full in omega arith)) h.1
  deep_ends n (Came point ∷ events) end h (suc number) d =
      ⊎_elim (λ (last : IsLast n point events end). absurd (nothing number last.last d.comes))
      (λ later.
      let i = deep_ends (after_mark (mark_at program point) n) events end later.1 number
      (record { point = d.point; comes = d.comes; is_call = d.is_call; full = d.full }) in
      ((let e = i.0 in omega arith), i.1)) h.1
    where
      nothing : (i : ℕ) → events ≡ [] → slice_get events i ≡ Some (Came d.point) → ⊥
      nothing i e c = let g : slice_get [] i ≡ Some (Came d.point) = subst (λ es. slice_get es i ≡ Some (Came d.point)) e c in cc

  record Deepest (n : ℕ) (events : List Event) : Type 0 where
    pub number : ℕ
    pub there : DeepAt n events number
    pub last : length events ≡ number + 1

  deep_comes : (n : ℕ) (events : List Event) (end : RunEnd Halt) (line : ℕ) → Framed n events end
      → end ≡ Ends (Finishes (Fault fault.Depth line)) → Deepest n events
  unfolding Framed
  deep_comes n [] end line h e = absurd (h.1 line e)
  deep_comes n (Requested request ∷ events) end line h e =
      let d = deep_comes n events end line h e in
      record {
        number = suc d.number;
        there = record { point = d.there.point; comes = d.there.comes; is_call = d.there.is_call; full = d.there.full };
        last = (let l = d.last in omega arith);
      }
  deep_comes n (Came point ∷ events) end line h e =
      ⊎_elim (λ (last : IsLast n point events end). record {
        number = 0;
        there = record { point = point; comes = refl; is_call = last.is_call; full = last.full };
        last = (let l : length events ≡ 0 = ap length last.last in omega arith);
      })
      (λ later.
      let d = deep_comes (after_mark (mark_at program point) n) events end line later.1 e in
      record {
        number = suc d.number;
        there = record { point = d.there.point; comes = d.there.comes; is_call = d.there.is_call; full = d.there.full };
        last = (let l = d.last in omega arith);
      }) h.1

  within_frames : (run : RunOf Event Halt) → Framed 0 run.events run.end → IsWithinFrames program run
  within_frames run h = record {
    few = few_always 0 run.events run.end h;
    deep = λ number d. deep_ends 0 run.events run.end h number
        (record { point = d.point; comes = d.comes; is_call = d.is_call; full = d.full });
    deep_only = λ line e.
        let d = deep_comes 0 run.events run.end line h e in
        (d.number, record { point = d.there.point; comes = d.there.comes; is_call = d.there.is_call; full = d.there.full }, d.last);
  }

  -- ---- each step

  abbrev Within : ℕ → ℕ → PointedDoing → Type 0
  Within n left doing = (answers : List Answer) → Framed n (run_of doing answers).events (run_of doing answers).end

  answered : (n : ℕ) (request : Request) (b : Bool) (run : RunOf Event Halt) → Framed n run.events run.end
      → Framed n (if b then after_event (Requested request) run else unanswered (Requested request)).events
      (if b then after_event (Requested request) run else unanswered (Requested request)).end
  unfolding Framed
  answered n request true run h = h
  answered n request false run h = (few_now n run.events run.end h, λ line e. cc)

  asks_within : (n left : ℕ) (request : Request) (fits : Answer → Bool) (go : Answer → PointedDoing)
      → ((answer : Answer) → Within n left (go answer)) → Within n left (Asks (Requested request) fits go)
  unfolding Framed
  asks_within n left request fits go h [] = (few_now n (run_of (go Passed) []).events (run_of (go Passed) []).end (h Passed []), λ line e. cc)
  asks_within n left request fits go h (answer ∷ answers) =
      answered n request (fits answer) (run_of (go answer) answers) (h answer answers)

  mild_end : (halt : Halt) → IsMild halt → NoDeep (Ends halt)
  mild_end (Finishes Ended) h line e = cc
  mild_end (Finishes (Fault kind at)) h line e =
      let same : kind ≡ fault.Depth = cc in
      subst NotDeep same h
  mild_end (Finishes Cut) h line e = absurd h
  mild_end (Finishes Waiting) h line e = cc
  mild_end Breaks h line e = cc

  stops_within : (n left : ℕ) (halt : Halt) → n ≤ LIMITS.frames → IsMild halt → Within n left (Stops halt)
  unfolding Framed
  stops_within n left halt few mild answers = (few, mild_end halt mild)

  -- ---- points

  -- a point of this mark comes first
  point_first : (n point : ℕ) (mark : Mark) (doing : PointedDoing) → n ≤ LIMITS.frames → mark_at program point ≡ mark
      → (mark ≡ call → n < LIMITS.frames)
      → ((answers : List Answer) → Framed (after_mark mark n) (run_of doing answers).events (run_of doing answers).end)
      → (answers : List Answer) → Framed n (run_of (pass point doing) answers).events (run_of (pass point doing) answers).end
  unfolding Framed
  point_first n point mark doing few e room h answers = (
    few,
    inr (
      λ c. room (sym e ∙ c),
      subst (λ (m : Mark). Framed (after_mark m n) (run_of doing answers).events (run_of doing answers).end) (sym e) (h answers),
    ),
  )

  passes_within : (n left point : ℕ) (doing : PointedDoing) → mark_at program point ≡ plain → Within n left doing
      → Within n left (pass point doing)
  passes_within n left point doing e h =
      point_first n point plain doing (few_now n _ _ (h [])) e (λ c. absurd cc) h

  begins_within : (n left point : ℕ) (doing : PointedDoing) → mark_at program point ≡ enters → Within (suc n) left doing
      → Within n left (pass point doing)
  begins_within n left point doing e h =
      let few = few_now (suc n) _ _ (h []) in
      let same : suc n ≡ n + 1 = omega arith in
      point_first n point enters doing (omega arith) e (λ c. absurd cc)
      (λ answers. subst (λ i. Framed i (run_of doing answers).events (run_of doing answers).end) same (h answers))

  returns_within : (n left point : ℕ) (doing : PointedDoing) → suc n ≤ LIMITS.frames → mark_at program point ≡ leaves
      → Within n left doing → Within (suc n) left (pass point doing)
  returns_within n left point doing few e h =
      let same : n ≡ suc n - 1 = omega arith in
      point_first (suc n) point leaves doing few e (λ c. absurd cc)
      (λ answers. subst (λ i. Framed i (run_of doing answers).events (run_of doing answers).end) same (h answers))

  counted_within : (n left : ℕ) (go : ℕ → PointedDoing) → n ≤ LIMITS.frames
      → ((l : ℕ) → l < left → Within n l (go l)) → (answers : List Answer)
      → Framed n (run_of (counted left go) answers).events (run_of (counted left go) answers).end
  unfolding Framed
  counted_within n zero go few h answers = (few, λ line e. cc)
  counted_within n (suc left) go few h answers = h left (omega arith) answers

  -- where no further frame may stand, the node is cut or it is the fault
  none_within : (left point line : ℕ) → mark_at program point ≡ call
      → Within LIMITS.frames left (pass point (counted left (λ l. Stops (Finishes (Fault fault.Depth line)))))
  unfolding Framed
  none_within zero point line e answers =
      (omega arith, inl (record { is_call = e; full = refl; last = refl; so_ends = inl refl }))
  none_within (suc left) point line e answers =
      (omega arith, inl (record { is_call = e; full = refl; last = refl; so_ends = inr (line, refl) }))

  keeps_within : Keeps program Within
  unfolding Framed
  keeps_within = record {
    asks = asks_within;
    requests = λ n left request doing h answers. h answers;
    says = λ n left text doing h answers. h answers;
    stops = stops_within;
    passes = passes_within;
    begins = begins_within;
    returns = returns_within;
    turns = λ n left point go few e h.
        point_first n point turn (counted left go) few e (λ c. absurd cc) (counted_within n left go few h);
    calls_more = λ n left point go few e h.
        point_first n point call (counted left go) (omega arith) e (λ c. few) (counted_within n left go (omega arith) h);
    calls_none = none_within;
  }

pub frames_are_bounded : FramesAreBounded
frames_are_bounded here budget answers =
    within_frames here.program (run_of (pointed here budget) answers)
    (pointed_holds here (Within here.program) (keeps_within here.program) budget answers)
