-- A typed source keeps its promises: its calls by the frames that are left, and all of it from its start.
use Rattle.std.proofs.Common.{◌≡◌, ℕ, zero, suc, ◌+◌, ◌-◌, ◌<◌, Option, Some, None, Bool, true, false, if◌then◌else◌, List, [], ◌∷◌, ◌++◌, map, length, slice_get, refl, sym, subst, arith}
use Rattle.std.specs.Prelude.{flat_map, pos}
use Rattle.std.specs.List.{All, Contains}
use Rattle.std.proofs.lemmas.List.{length-map, map-append}
use Rattle.std.proofs.lemmas.List.Elements.{All-nil, All-cons, All-head, All-tail, All-contains, Contains-append_left, Contains-append_right}
use Rattle.std.proofs.lemmas.Option.{slice_get_within, get_or_from_slice_get}
use Rattle.resumption.specs.Resumption.{Asks, Makes, Says, Stops, RunOf, run_of, after_event, unanswered}
use Rattle.sc_base.specs.declared.value.End.TheVariants.{Ended}
use Rattle.sc_base.specs.declared.limits.TheConstants.{LIMITS}
use Rattle.sc_base.specs.declared.shape.Shape.{Shape}
use Rattle.sc_base.specs.declared.shape.Star.{Star}
use Rattle.sc_base.specs.declared.shape.Ty.{Ty}
use Rattle.sc_base.specs.declared.value.Place.{Place}
use Rattle.sc_base.specs.declared.value.Value.{Value}
use Rattle.sc_layout.specs.Layout.{Arrangement}
use Rattle.sc_core.specs.declared.operation.Constant.TheVariants.{Number, Null}
use Rattle.sc_core.specs.Core.{Function, Program}
use Rattle.sc_core.specs.Kinds.{kind_of, kind_of_type}
use Rattle.sc_core.specs.Places.{last_of, is_pointer}
use Rattle.sc_core.specs.Forms.{exposes_in, exposes_of}
use Rattle.sc_core.specs.Statements.{zero_of}
use Rattle.sc_core.specs.Typed.{begins, below, scope_of, IsTypedFunction}
use Rattle.sc_meaning.specs.declared.request.Request.{Request}
use Rattle.sc_meaning.specs.declared.request.Request.TheVariants.{Sync}
use Rattle.sc_meaning.specs.Asking.{Answer, Halt, Finishes, Breaks, SourceDoing}
use Rattle.sc_meaning.specs.Memory.{entered, top, pushed, popped}
use Rattle.sc_meaning.specs.Points.{first_point}
use Rattle.sc_meaning.specs.Steps.{Rest, Calls}
use Rattle.sc_meaning.specs.Meaning.{Setting, constant_of, in_body, body_of, entering, calls_by, begun, pointed, meaning}
use Rattle.value_soundness.specs.Lawful.{IsLawfulRequest, RunsLawfully, AnswerNamesOnly}
use Rattle.value_soundness.specs.Laws.{IsLaidSource}
use Rattle.value_soundness.proofs.Values.{IsOf, AreOf}
use Rattle.value_soundness.proofs.Deeds.{Footing, Within}
use Rattle.value_soundness.proofs.Memories.{Typing, FrameFits, entered_fits, good_push, good_pop, good_restrict}
use Rattle.value_soundness.proofs.Promises.{PromisesPointed, Promises, then_gets, without}
use Rattle.value_soundness.proofs.Safety.{typing_of, Safe, SafeWith, SafeCalls, counted_safe, none_awaits_safe}
use Rattle.value_soundness.proofs.StatementWalks.{SafeBack, does_safe}

-- ---- what a function gives without `return`

has_last : (s : Star) (ss : List Star) → is_pointer (last_of (s ∷ ss)) ≡ true
has_last s [] = refl
has_last s (t ∷ ts) = has_last t ts

-- 0, or null where there is a star
zero_by : (here : Setting) (exposed : List ℕ) (stars : List Star) (b : Bool) → is_pointer (last_of stars) ≡ b
    → IsOf here.layout exposed (kind_of stars) (constant_of here (elim b [ true ↦ Null | false ↦ Number (pos 0) ]))
zero_by here exposed [] true e = absurd (cc)
zero_by here exposed [] false e = record { sfits = omega arith }
zero_by here exposed (s ∷ ss) true e = tt
zero_by here exposed (s ∷ ss) false e = absurd (let t = has_last s ss in cc)

zero_is : (here : Setting) (exposed : List ℕ) (ty : Ty)
    → IsOf here.layout exposed (kind_of_type ty) (constant_of here (zero_of ty))
zero_is here exposed ty = zero_by here exposed ty.stars (is_pointer (last_of ty.stars)) refl

-- ---- the functions of a source

exposed_there : (functions : List Function) (n : ℕ) (f : Function) → slice_get functions n ≡ Some f
    → Within (flat_map (λ (f : Function). exposes_in f.body) functions) (exposes_in f.body)
exposed_there [] n f e o c = absurd (cc)
exposed_there (g ∷ more) zero f e o c =
    let same : g ≡ f = cc in
    Contains-append_left (exposes_in g.body) (flat_map (λ (f : Function). exposes_in f.body) more) o
    (subst (λ (f : Function). Contains (exposes_in f.body) o) (sym same) c)
exposed_there (g ∷ more) (suc n) f e o c =
    Contains-append_right (exposes_in g.body) (flat_map (λ (f : Function). exposes_in f.body) more) o
    (exposed_there more n f e o c)

all_at : {X : Type 0} (P : X → Type 0) (xs : List X) (n : ℕ) (x : X) → All P xs → slice_get xs n ≡ Some x → P x
all_at P xs n x h e = subst P (get_or_from_slice_get xs n x x e) (h n x (slice_get_within xs n x e))

low : (n x : ℕ) → Contains (below n) x → x < n
low zero x (k, within, is) = absurd (let no : ⊥ = omega (arith, within) in no)
low (suc n) x (zero, within, is) = omega (arith, is)
low (suc n) x (suc k, within, is) = let h = low n x (k, omega (arith, within), is) in omega (arith, h)

-- ---- calls

module _ (here : Setting) (exposed : List ℕ) (objects : List Shape)
    (footing : Footing here.layout here.node objects) where
  -- the locals of a function, whose parameters have begun
  abbrev entry : Function → Typing
  entry f = typing_of (scope_of objects here.program f)

  body_safe : (call : Calls) → SafeCalls here.layout exposed here.program.functions call
      → (ts : List Typing) (f : Function)
      → IsTypedFunction objects here.program f → Within exposed (exposes_in f.body) → (first : ℕ) (back : Value → Rest)
      → SafeBack here exposed ts (entry f).locals (kind_of_type f.result) back
      → Safe here.layout exposed (entry f ∷ ts) (body_of here call first f back)
  body_safe call safe ts f typed within first back ok gs m left g =
      let scope = scope_of objects here.program f in
      let fewest : Typing = record { locals = scope.locals; begun = [] } in
      does_safe here exposed call safe ts f.body scope footing (refl, refl) (kind_of_type f.result) false false
      (first + 1)
      (in_body here back) _ typed within ok tt tt
      (λ gs m left g. ok (constant_of here (zero_of f.result)) f.line gs m left (zero_is here exposed f.result)
      (good_restrict here.layout exposed
      (record { locals = scope.locals; begun = begins f.body ++ scope.begun }) fewest ts gs m refl
      (λ x c. Contains-append_right (begins f.body) scope.begun x (none_begun x c)) g)) gs m left g
    where
      none_begun : (x : ℕ) → Contains [] x → Contains (below (length f.params)) x
      none_begun x (n, within, is) = absurd (let no : ⊥ = omega (arith, within) in no)

  entry_fits : (f : Function) (vs : List Value) → AreOf here.layout exposed (map kind_of_type f.params) vs
      → FrameFits here.layout exposed (entry f) (entered vs (length f.others))
  entry_fits f vs are =
      entered_fits here.layout exposed (map kind_of_type f.params) (map kind_of_type f.others) (entry f) vs
      (length f.others)
      (map-append kind_of_type f.params f.others) (length-map f.others kind_of_type)
      (λ x c. let b = low (length f.params) x c in let n = length-map f.params kind_of_type in omega (arith, b, n)) are

  abbrev Typed : Type 0
  Typed = All (IsTypedFunction objects here.program) here.program.functions

  abbrev AllWithin : Type 0
  AllWithin = (n : ℕ) (f : Function) → slice_get here.program.functions n ≡ Some f → Within exposed (exposes_in f.body)

  -- a call's return
  back_safe : (f : Function) (ts : List Typing) (go : Value → Rest)
      → SafeWith here.layout exposed ts (kind_of_type f.result) go
      → SafeBack here exposed ts (entry f).locals (kind_of_type f.result) (λ v m left. go v (popped m) left)
  back_safe f ts go next v line gs m left is g =
      none_awaits_safe here.layout exposed gs line (top m.frames) (go v (popped m) left)
      (λ none. next v is gs (popped m) left
      (good_pop here.layout exposed (record { locals = (entry f).locals; begun = [] }) ts gs m none g))

  module _ (typed : Typed) (within : AllWithin) where
    entering_safe : (call : Calls) → SafeCalls here.layout exposed here.program.functions call
        → (n first : ℕ) (f : Function)
        (o : Option Function) (vs : List Value) (go : Value → Rest) (ts : List Typing)
        → slice_get here.program.functions n ≡ Some f → o ≡ Some f
        → AreOf here.layout exposed (map kind_of_type f.params) vs
        → SafeWith here.layout exposed ts (kind_of_type f.result) go
        → Safe here.layout exposed ts (entering here call first o vs go)
    entering_safe call safe n first f None vs go ts at e are next gs m left g = absurd (cc)
    entering_safe call safe n first f (Some h) vs go ts at e are next gs m left g =
        subst (λ (h : Function). PromisesPointed here.layout exposed gs (entering here call first
        (Some h) vs go m left))
        (let same : f ≡ h = cc in same)
        (body_safe call safe ts f (all_at (IsTypedFunction objects here.program) here.program.functions n f typed at)
        (within n f at) first (λ v m left. go v (popped m) left) (back_safe f ts go next) gs
        (pushed (entered vs (length f.others)) m) left
        (good_push here.layout exposed (entry f) ts gs m (entered vs (length f.others)) (entry_fits f vs are) g))

    calls_safe : (n : ℕ) → SafeCalls here.layout exposed here.program.functions (calls_by here n)
    calls_safe zero f called vs line go ts at are next gs m left g = counted_safe here.layout exposed gs left _
        (λ left. tt)
    calls_safe (suc n) f called vs line go ts at are next gs m left g =
        counted_safe here.layout exposed gs left _ (λ left.
        entering_safe (calls_by here n) (calls_safe n) f (first_point here.program.functions f) called
        (slice_get here.program.functions f) vs go ts at at are next gs m left g)

    begun_safe : (f : Function) (budget : ℕ) → slice_get here.program.functions here.program.main ≡ Some f
        → f.params ≡ []
        → PromisesPointed here.layout exposed [] (begun here (Some f) budget)
    begun_safe f budget at none =
        body_safe (calls_by here (LIMITS.frames - 1)) (calls_safe (LIMITS.frames - 1)) [] f
        (all_at (IsTypedFunction objects here.program) here.program.functions here.program.main f typed at)
        (within here.program.main f at) (first_point here.program.functions here.program.main)
        (λ v m left. Stops (Finishes Ended))
        (λ v line gs m left is g. none_awaits_safe here.layout exposed gs line (top m.frames) _ (λ none. tt))
        [] (record { frames = entered [] (length f.others) ∷ []; getting = [] }) budget
        (record {
          frames = (
            entry_fits f [] (subst (λ (ps : List Ty). AreOf here.layout exposed (map kind_of_type ps) [])
                (sym none) tt),
            tt,
          );
          spots = tt;
          gets_are = refl;
        })

-- ---- a source

pub promises : (layout : Arrangement) (program : Program) (exposed : List ℕ) (node budget : ℕ)
    → IsLaidSource layout program → node < layout.nodes → All (Contains exposed) (exposes_of program)
    → Promises layout exposed [] (meaning (record { layout = layout; node = node; program = program }) budget)
promises layout program exposed node budget source below among =
    let here : Setting = record { layout = layout; node = node; program = program } in
    let typed = source.typed in
    let footing : Footing layout node (map (λ object. object.shape) layout.objects) =
    record { laid = source.laid; few = source.few_nodes; shapes = refl; node_within = below } in
    without layout exposed (Sync 0) [] (pointed here budget)
    (subst (λ (o : Option Function). PromisesPointed layout exposed [] (begun here o budget))
    (sym typed.begins)
    (begun_safe here exposed (map (λ object. object.shape) layout.objects) footing typed.functions
    (λ n f at o c. All-contains (Contains exposed) (exposes_of program) o among (exposed_there program.functions n f at o c))
    typed.main budget typed.begins typed.no_params))

-- ---- runs

module _ (layout : Arrangement) (exposed : List ℕ) where
  after_lawful : (request : Request) (run : RunOf Request Halt) → IsLawfulRequest layout exposed request
      → RunsLawfully layout exposed run → RunsLawfully layout exposed (after_event request run)
  after_lawful request run h r = record {
    not_broken = r.not_broken;
    requests = All-cons (IsLawfulRequest layout exposed) request run.events h r.requests;
  }

  unanswered_lawful : (request : Request) → IsLawfulRequest layout exposed request
      → RunsLawfully layout exposed (unanswered request)
  unanswered_lawful request h = record {
    not_broken = λ e. absurd (cc);
    requests = All-cons (IsLawfulRequest layout exposed) request [] h (All-nil (IsLawfulRequest layout exposed));
  }

  if_fits : (b : Bool) (long short : RunOf Request Halt) → (b ≡ true → RunsLawfully layout exposed long)
      → RunsLawfully layout exposed short → RunsLawfully layout exposed (if b then long else short)
  if_fits true long short h k = h refl
  if_fits false long short h k = k

  pub runs : (d : SourceDoing) (gs : List Place) (answers : List Answer) → Promises layout exposed gs d
      → All (AnswerNamesOnly exposed) answers → RunsLawfully layout exposed (run_of d answers)
  runs (Asks request test go) gs [] h names = unanswered_lawful request h.0.lawful
  runs (Asks request test go) gs (a ∷ rest) h names =
      if_fits (test a) _ _ (λ fit. after_lawful request (run_of (go a) rest) h.0.lawful
      (runs (go a) (then_gets gs request) rest (h.1 a fit (All-head (AnswerNamesOnly exposed) a rest names))
      (All-tail (AnswerNamesOnly exposed) a rest names))) (unanswered_lawful request h.0.lawful)
  runs (Makes request rest) gs answers h names =
      after_lawful request (run_of rest answers) h.0.lawful (runs rest (then_gets gs request) answers h.1 names)
  runs (Says text rest) gs answers h names =
      let r = runs rest gs answers h names in record { not_broken = r.not_broken; requests = r.requests }
  runs (Stops (Finishes end)) gs answers h names =
      record { not_broken = λ e. absurd (cc); requests = All-nil (IsLawfulRequest layout exposed) }
  runs (Stops Breaks) gs answers h names = absurd h
