-- What typing gives of the form of a core tree: each step has as many arguments as it takes, names a local that its function
-- has, and calls a function of the source; and a body is left by no `break` or `continue`.
use Rattle.std.proofs.Common.{◌≡◌, inl, inr, ℕ, zero, suc, ◌<◌, List, [], ◌∷◌, length, Option, Some, None, Bool, true, false, slice_get, refl, sym, ap, subst}
use Rattle.std.proofs.lemmas.List.{length-map}
use Rattle.std.proofs.lemmas.Option.{slice_get_within}
use Rattle.sc_core.specs.declared.operation.Operation.{Operation}
use Rattle.sc_core.specs.declared.operation.Operation.TheVariants as does
use Rattle.sc_core.specs.declared.operation.Action.{Action}
use Rattle.sc_core.specs.declared.operation.Action.TheVariants as acts
use Rattle.sc_core.specs.Core.{Core, constant, step, choice, update, Arguments, none, argument, Does, nothing, break, continue, then_, act, choose, loop, return, Function}
use Rattle.sc_core.specs.Kinds.{Kind, numbers, kind_of_type, Scope, IsLocal, Computes, forward, back, binary, Takes, use_, element, address, own_pointer, own_cell, convert, computes, unary, same, differ, is_null, to_global, to_proc, to_local, set, call, read, write, Uses, drop, begin, clear_number, clear_pointer, fill, get, put, send, copy, print, sync, barrier, all_store_sync}
use Rattle.sc_core.specs.Typed.{TakesBack, Has, Have, after, IsMineLoop, IsTypedDoes}
use Rattle.meaning_laws.specs.StepTable.{arguments_of, arguments_of_action}
use Rattle.emit_laws.proofs.Parts.{In, named, touched, count_of}

module _ (functions : List Function) (locals : ℕ) where
  abbrev pub Callable : Operation → Type 0
  Callable (does.Call f count) = (g : Function) × (slice_get functions f ≡ Some g) × (length g.params ≡ count)
  Callable operation = Unit {0}

  pub record StepShaped (operation : Operation) (count : ℕ) : Type 0 where
    pub counted : count ≡ arguments_of operation
    pub called : Callable operation
    pub within : (x : ℕ) → In x (named operation) → x < locals

  pub record ActShaped (action : Action) (count : ℕ) : Type 0 where
    pub counted : count ≡ arguments_of_action action
    pub within : (x : ℕ) → In x (touched action) → x < locals

  abbrev pub BackShaped : Option Operation → Type 0
  BackShaped None = Unit {0}
  BackShaped (Some operation) = StepShaped operation 2

  abbrev mutual
    pub Shaped : Core → Type 0
    Shaped (constant v) = Unit {0}
    Shaped (step operation arguments line) = ShapedAll arguments × StepShaped operation (count_of arguments)
    Shaped (choice of_pointer test on off) = Shaped test × Shaped on × Shaped off
    Shaped (update pointer operation right undo line) = Shaped pointer × Shaped right × StepShaped operation 2 × BackShaped undo

    pub ShapedAll : Arguments → Type 0
    ShapedAll none = Unit {0}
    ShapedAll (argument e more) = Shaped e × ShapedAll more

  -- `break` and `continue` may stand in it or not
  abbrev pub ShapedIn : (breaks continues : Bool) → Does → Type 0
  ShapedIn breaks continues nothing = Unit {0}
  ShapedIn breaks continues break = breaks ≡ true
  ShapedIn breaks continues continue = continues ≡ true
  ShapedIn breaks continues (then_ first second) = ShapedIn breaks continues first × ShapedIn breaks continues second
  ShapedIn breaks continues (act action arguments line) = ShapedAll arguments × ActShaped action (count_of arguments)
  ShapedIn breaks continues (choose of_pointer test on off) = Shaped test × ShapedIn breaks continues on × ShapedIn breaks continues off
  ShapedIn breaks continues (loop mine before body next) = ShapedIn true false before × ShapedIn true true body × ShapedIn true false next
  ShapedIn breaks continues (return e line) = Shaped e

  -- ---- single steps

  one_within : (x : ℕ) → x < locals → (y : ℕ) → In y (x ∷ []) → y < locals
  one_within x lt y (inl e) = subst (λ z. z < locals) (sym e) lt
  one_within x lt y (inr i) = absurd i

  numbers_long : (n : ℕ) → length (numbers n) ≡ n
  numbers_long zero = refl
  numbers_long (suc n) = ap suc (numbers_long n)

  local_within : (scope : Scope) → length scope.locals ≡ locals → (x : ℕ) (k : Kind) → IsLocal scope x k → x < locals
  local_within scope l x k e = subst (λ n. x < n) l (slice_get_within scope.locals x k e)

  computes_shaped : {operation : Operation} {kinds : List Kind} {kind : Kind} → Computes operation kinds kind → StepShaped operation (length kinds)
  computes_shaped forward = record { counted = refl; called = tt; within = λ x i. absurd i }
  computes_shaped back = record { counted = refl; called = tt; within = λ x i. absurd i }
  computes_shaped binary = record { counted = refl; called = tt; within = λ x i. absurd i }

  takes_shaped : (scope : Scope) → scope.functions ≡ functions → length scope.locals ≡ locals → {operation : Operation} {kinds : List Kind} {kind : Kind}
      → Takes scope operation kinds kind → StepShaped operation (length kinds)
  takes_shaped scope fs l (use_ {x} {k} b) = record { counted = refl; called = tt; within = one_within x (local_within scope l x k b.0) }
  takes_shaped scope fs l (element {o} {n} e m) = record { counted = numbers_long n; called = tt; within = λ x i. absurd i }
  takes_shaped scope fs l (address {o} {n} e m) = record { counted = numbers_long n; called = tt; within = λ x i. absurd i }
  takes_shaped scope fs l own_pointer = record { counted = refl; called = tt; within = λ x i. absurd i }
  takes_shaped scope fs l own_cell = record { counted = refl; called = tt; within = λ x i. absurd i }
  takes_shaped scope fs l convert = record { counted = refl; called = tt; within = λ x i. absurd i }
  takes_shaped scope fs l (computes c) = computes_shaped c
  takes_shaped scope fs l unary = record { counted = refl; called = tt; within = λ x i. absurd i }
  takes_shaped scope fs l same = record { counted = refl; called = tt; within = λ x i. absurd i }
  takes_shaped scope fs l differ = record { counted = refl; called = tt; within = λ x i. absurd i }
  takes_shaped scope fs l is_null = record { counted = refl; called = tt; within = λ x i. absurd i }
  takes_shaped scope fs l to_global = record { counted = refl; called = tt; within = λ x i. absurd i }
  takes_shaped scope fs l to_proc = record { counted = refl; called = tt; within = λ x i. absurd i }
  takes_shaped scope fs l to_local = record { counted = refl; called = tt; within = λ x i. absurd i }
  takes_shaped scope fs l (set {x} {k} b) = record { counted = refl; called = tt; within = one_within x (local_within scope l x k b.0) }
  takes_shaped scope fs l (call {f} {called} e) = record {
    counted = length-map f.params kind_of_type;
    called = (f, subst (λ all. slice_get all called ≡ Some f) fs e, refl);
    within = λ x i. absurd i;
  }
  takes_shaped scope fs l (read p) = record { counted = refl; called = tt; within = λ x i. absurd i }
  takes_shaped scope fs l (write p) = record { counted = refl; called = tt; within = λ x i. absurd i }

  uses_shaped : (scope : Scope) → length scope.locals ≡ locals → {action : Action} {kinds : List Kind} → Uses scope action kinds → ActShaped action (length kinds)
  uses_shaped scope l drop = record { counted = refl; within = λ x i. absurd i }
  uses_shaped scope l (begin {x} {k} b) = record { counted = refl; within = one_within x (local_within scope l x k b) }
  uses_shaped scope l (clear_number {x} b) = record { counted = refl; within = one_within x (local_within scope l x _ b) }
  uses_shaped scope l (clear_pointer {x} b) = record { counted = refl; within = one_within x (local_within scope l x _ b) }
  uses_shaped scope l (fill {x} p b) = record { counted = refl; within = one_within x (local_within scope l x _ b) }
  uses_shaped scope l (get {x} p b) = record { counted = refl; within = one_within x (local_within scope l x _ b.0) }
  uses_shaped scope l (put p) = record { counted = refl; within = λ x i. absurd i }
  uses_shaped scope l (send p) = record { counted = refl; within = λ x i. absurd i }
  uses_shaped scope l (copy p q) = record { counted = refl; within = λ x i. absurd i }
  uses_shaped scope l (print {text} {n} lt) = record { counted = numbers_long n; within = λ x i. absurd i }
  uses_shaped scope l sync = record { counted = refl; within = λ x i. absurd i }
  uses_shaped scope l barrier = record { counted = refl; within = λ x i. absurd i }
  uses_shaped scope l all_store_sync = record { counted = refl; within = λ x i. absurd i }

  -- ---- expressions

  as_many : (scope : Scope) (arguments : Arguments) (kinds : List Kind) → Have scope arguments kinds → length kinds ≡ count_of arguments
  as_many scope none [] h = refl
  as_many scope none (kind ∷ kinds) h = absurd h
  as_many scope (argument e more) [] h = absurd h
  as_many scope (argument e more) (kind ∷ kinds) h = ap suc (as_many scope more kinds h.1)

  back_shaped : (undo : Option Operation) (kind : Kind) → TakesBack undo kind → BackShaped undo
  back_shaped None kind h = tt
  back_shaped (Some operation) kind h = computes_shaped h

  module _ (scope : Scope) (fs : scope.functions ≡ functions) (l : length scope.locals ≡ locals) where
    mutual
      shaped : (e : Core) (kind : Kind) → Has scope e kind → Shaped e
      shaped (constant c) kind h = tt
      shaped (step operation arguments line) kind h =
          (all_shaped arguments h.0 h.1, subst (StepShaped operation) (as_many scope arguments h.0 h.1) (takes_shaped scope fs l h.2))
      shaped (choice false test on off) kind h = (shaped test _ h.1, shaped on kind h.2, shaped off kind h.3)
      shaped (choice true test on off) kind h = (shaped test _ h.2, shaped on kind h.3, shaped off kind h.4)
      shaped (update pointer operation right undo line) kind h =
          (shaped pointer _ h.5, shaped right _ h.6, computes_shaped h.7, back_shaped undo kind h.8)

      all_shaped : (arguments : Arguments) (kinds : List Kind) → Have scope arguments kinds → ShapedAll arguments
      all_shaped none kinds h = tt
      all_shaped (argument e more) [] h = absurd h
      all_shaped (argument e more) (kind ∷ kinds) h = (shaped e kind h.0, all_shaped more kinds h.1)

  -- ---- statements

  step_shaped : (operation : Operation) (count : ℕ) → count ≡ arguments_of operation → Callable operation
      → ((x : ℕ) → In x (named operation) → x < locals) → StepShaped operation count
  step_shaped operation count c called within = record { counted = c; called = called; within = within }

  mine_shaped : (scope : Scope) → scope.functions ≡ functions → length scope.locals ≡ locals → (x : ℕ) (first before next : Does)
      → IsMineLoop scope x first before next → (breaks continues : Bool) → ShapedIn breaks continues first × ShapedIn true false before × ShapedIn true false next
  mine_shaped scope fs l x first before next m breaks continues =
      let bound = shaped scope fs l m.bound _ m.bounded in
      let lt = local_within scope l x _ m.counts.0 in
      let used = step_shaped (does.Use x) 0 refl tt (one_within x lt) in
      let sets = step_shaped (does.Set x) 1 refl tt (one_within x lt) in
      let drops : ActShaped acts.Drop 1 = record { counted = refl; within = λ x i. absurd i } in (
        subst (ShapedIn breaks continues) (sym m.begins_at) (((((tt, tt), sets), tt), drops)),
        subst (ShapedIn true false) (sym m.tests) ((((tt, used), (bound, tt)), step_shaped _ 2 refl tt (λ x i. absurd i)), tt, refl),
        subst (ShapedIn true false) (sym m.goes_on) ((((((((tt, used), (tt, tt)), step_shaped _ 2 refl tt (λ x i. absurd i)), tt), sets), tt), drops)),
      )

  pub typed_shaped : (scope : Scope) → scope.functions ≡ functions → length scope.locals ≡ locals → (result : Kind) (breaks continues : Bool) (d : Does)
      → IsTypedDoes scope result breaks continues d → ShapedIn breaks continues d
  typed_shaped scope fs l result breaks continues nothing h = tt
  typed_shaped scope fs l result breaks continues break h = h
  typed_shaped scope fs l result breaks continues continue h = h
  typed_shaped scope fs l result breaks continues (then_ first (then_ (loop (Some x) before body next) more)) h =
      let m = mine_shaped scope fs l x first before next h.0 breaks continues in
      (m.0, ((m.1, typed_shaped scope fs l result true true body h.1, m.2), typed_shaped scope fs l result breaks continues more h.2))
  typed_shaped scope fs l result breaks continues (then_ first second) h =
      (typed_shaped scope fs l result breaks continues first h.0, typed_shaped (after scope first) fs l result breaks continues second h.1)
  typed_shaped scope fs l result breaks continues (act action arguments line) h =
      (all_shaped scope fs l arguments h.0 h.1, subst (ActShaped action) (as_many scope arguments h.0 h.1) (uses_shaped scope l h.2))
  typed_shaped scope fs l result breaks continues (choose false test on off) h =
      (shaped scope fs l test _ h.0, typed_shaped scope fs l result breaks continues on h.1, typed_shaped scope fs l result breaks continues off h.2)
  typed_shaped scope fs l result breaks continues (choose true test on off) h =
      (shaped scope fs l test _ h.1, typed_shaped scope fs l result breaks continues on h.2, typed_shaped scope fs l result breaks continues off h.3)
  typed_shaped scope fs l result breaks continues (loop None before body next) h = (
    typed_shaped scope fs l result true false before h.0,
    typed_shaped scope fs l result true true body h.1,
    typed_shaped scope fs l result true false next h.2,
  )
  typed_shaped scope fs l result breaks continues (loop (Some x) before body next) h = absurd h
  typed_shaped scope fs l result breaks continues (return e line) h = shaped scope fs l e result h
