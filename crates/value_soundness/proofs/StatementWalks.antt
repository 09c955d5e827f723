-- Typed statements are safe before what is safe.
use Rattle.std.proofs.Common.{◌≡◌, ℕ, zero, suc, ◌+◌, inl, inr, Option, Some, None, Bool, true, false, List, [], ◌∷◌, ◌++◌, length, refl, subst, arith}
use Rattle.std.specs.List.{Contains}
use Rattle.std.proofs.lemmas.List.Elements.{Contains-append_left, Contains-append_right, Contains-append_cases}
use Rattle.sc_base.specs.declared.value.Place.{Place}
use Rattle.sc_base.specs.declared.value.Value.{Value}
use Rattle.sc_core.specs.Core.{Core, Does, nothing, break, continue, then_, act, choose, loop, return}
use Rattle.sc_core.specs.Kinds.{Kind, number, to as pointer_to, Scope, HasBegun, of_mine, of_procs, binary, use_, computes, set, drop}
use Rattle.sc_core.specs.Table.{done_of}
use Rattle.sc_core.specs.Forms.{exposes, exposes_in}
use Rattle.sc_core.specs.Typed.{Has, begins, after, IsMineLoop, IsTypedDoes}
use Rattle.sc_core.specs.Statements.{mine_first, mine_test, mine_next}
use Rattle.sc_meaning.specs.Memory.{Memory, top}
use Rattle.sc_meaning.specs.Points.{size_of}
use Rattle.sc_meaning.specs.Steps.{Rest, Calls, none_awaits, mode_of}
use Rattle.sc_meaning.specs.Meaning.{Setting, Jumps, rounds, does}
use Rattle.value_soundness.proofs.Values.{IsOf}
use Rattle.value_soundness.proofs.Deeds.{Footing, Within}
use Rattle.value_soundness.proofs.Layouts.{not_void}
use Rattle.value_soundness.proofs.Actions.{uses_fits}
use Rattle.value_soundness.proofs.Memories.{Typing, Good, good_restrict}
use Rattle.value_soundness.proofs.Promises.{PromisesPointed}
use Rattle.value_soundness.proofs.Safety.{typing_of, Safe, SafeCalls, counted_safe, number_test, pointer_test, enacts}
use Rattle.value_soundness.proofs.Walks.{in_left, in_right, first_in, second_in, third_in, calls_safe, value_safe, values_safe}

-- `for_my_1d` in its parts
record MineParts (scope : Scope) (result : Kind) (breaks continues : Bool) (first before next : Does) : Type 0 where
  pub first_typed : IsTypedDoes scope result breaks continues first
  pub before_typed : IsTypedDoes scope result true false before
  pub next_typed : IsTypedDoes scope result true false next
  pub first_begins : begins first ≡ []

mine_parts_of : (scope : Scope) (result : Kind) (breaks continues : Bool) (x line : ℕ) (bound : Core)
    → HasBegun scope x number
    → Has scope bound number
    → MineParts scope result breaks continues (mine_first x line) (mine_test x bound line) (mine_next x line)
mine_parts_of scope result breaks continues x line bound counts bounded =
    let count : (k : Kind) × Unit {0} = (number, tt) in record {
      first_typed = (number ∷ [], ((number ∷ [], (of_mine, tt), set counts), tt), drop);
      before_typed = ((number ∷ number ∷ [], (([], tt, use_ counts), (bounded, tt)), computes binary), tt, refl);
      next_typed = (
        number ∷ [],
        (
          (
            number ∷ [],
            (
              (
                number ∷ number ∷ [],
                (
                  ([], tt, use_ counts),
                  (of_procs, tt),
                ),
                computes binary,
              ),
              tt,
            ),
            set counts,
          ),
          tt,
        ),
        drop,
      );
      first_begins = refl;
    }

mine_parts : (scope : Scope) (result : Kind) (breaks continues : Bool) (x : ℕ) (first before next : Does)
    → IsMineLoop scope x first before next → MineParts scope result breaks continues first before next
mine_parts scope result breaks continues x first before next h =
    rw (h.begins_at, h.tests, h.goes_on)
    (mine_parts_of scope result breaks continues x h.line h.bound h.counts h.bounded)

abbrev pub If : Bool → Type 0 → Type 0
If true A = A
If false A = Unit {0}

-- a return from the function, whatever has begun
abbrev pub SafeBack : Setting → (exposed : List ℕ) → List Typing → (locals : List Kind) → (result : Kind) → (Value
    → Rest) → Type 0
SafeBack here exposed ts locals result back =
    (v : Value) (line : ℕ) (gs : List Place) (m : Memory) (left : ℕ) → IsOf here.layout exposed result v
    → Good here.layout exposed (record { locals = locals; begun = [] } ∷ ts) gs m
    → PromisesPointed here.layout exposed gs (none_awaits line (top m.frames) (back v m left))

module _ (here : Setting) (exposed : List ℕ) (call : Calls)
    (safe : SafeCalls here.layout exposed here.program.functions call) (ts : List Typing) where
  abbrev SafeRest : Scope → Rest → Type 0
  SafeRest scope rest = Safe here.layout exposed (typing_of scope ∷ ts) rest

  -- ---- what has begun

  -- where more has begun
  widened : (scope : Scope) (new : List ℕ) (rest : Rest) → SafeRest scope rest
      → SafeRest (record scope { begun = new ++ scope.begun }) rest
  widened scope new rest h gs m left g =
      h gs m left (good_restrict here.layout exposed (record { locals = scope.locals; begun = new ++ scope.begun })
      (typing_of scope)
      ts gs m refl (λ x c. Contains-append_right new scope.begun x c) g)

  widened_if : (b : Bool) (scope : Scope) (new : List ℕ) (rest : Rest) → If b (SafeRest scope rest)
      → If b (SafeRest (record scope { begun = new ++ scope.begun }) rest)
  widened_if true scope new rest h = widened scope new rest h
  widened_if false scope new rest h = tt

  if_jumps : (b : Bool) (A : Type 0) → b ≡ true → If b A → A
  if_jumps true A e h = h
  if_jumps false A e h = absurd (cc)

  moved : (first second begun : List ℕ) (x : ℕ) → Contains (first ++ second ++ begun) x
      → Contains (second ++ (first ++ begun)) x
  moved first second begun x c =
      elim (Contains-append_cases (first ++ second) begun x c) [
        | inl d ↦ elim (Contains-append_cases first second x d) [
          | inl e ↦ Contains-append_right second (first ++ begun) x (Contains-append_left first begun x e)
          | inr e ↦ Contains-append_left second (first ++ begun) x e
        ]
        | inr d ↦ Contains-append_right second (first ++ begun) x (Contains-append_right first begun x d)
      ]

  -- one after the other
  in_turn : (scope : Scope) (first second : List ℕ) (rest : Rest)
      → SafeRest (record scope { begun = (first ++ second) ++ scope.begun }) rest
      → SafeRest (record scope { begun = second ++ (first ++ scope.begun) }) rest
  in_turn scope first second rest h gs m left g =
      h gs m left (good_restrict here.layout exposed (record {
        locals = scope.locals;
        begun = second ++
            (first ++ scope.begun);
      })
      (record { locals = scope.locals; begun = (first ++ second) ++ scope.begun }) ts gs m refl
      (λ x c. moved first second scope.begun x c) g)

  behind_nothing : (scope : Scope) (first second : List ℕ) (rest : Rest) → first ≡ []
      → SafeRest (record scope { begun = second ++ (first ++ scope.begun) }) rest
      → SafeRest (record scope { begun = second ++ scope.begun }) rest
  behind_nothing scope first second rest e h =
      subst (λ (first : List ℕ). SafeRest (record scope { begun = second ++ (first ++ scope.begun) }) rest) e h

  -- ---- loops

  rounds_safe : (scope : Scope) (t n : ℕ) (before turn : Rest → Rest)
      → ((rest : Rest) → SafeRest scope rest → SafeRest scope (before rest))
      → ((rest : Rest) → SafeRest scope rest → SafeRest scope (turn rest)) → SafeRest scope (rounds t n before turn)
  rounds_safe scope t zero before turn hh ht gs m left g = tt
  rounds_safe scope t (suc n) before turn hh ht gs m left g =
      hh _ (λ gs m left g. counted_safe here.layout exposed gs left (λ left. turn (rounds t n before turn) m left)
      (λ left. ht (rounds t n before turn) (rounds_safe scope t n before turn hh ht) gs m left g)) gs m left g

  -- the statement is safe before what is safe
  abbrev IsSafe : Scope → (result : Kind) → (breaks continues : Bool) → Does → Type 0
  IsSafe scope result breaks continues s =
      (k : ℕ) (j : Jumps) (rest : Rest) → SafeBack here exposed ts scope.locals result j.back
      → If breaks (SafeRest scope j.out)
      → If continues (SafeRest scope j.again) → SafeRest (after scope s) rest
      → SafeRest scope (does here call s k j rest)

  loop_safe : (scope : Scope) (result : Kind) (mine : Option ℕ) (before body next : Does)
      → IsSafe scope result true false before
      → IsSafe scope result true true body → IsSafe scope result true false next → (k : ℕ) (j : Jumps) (rest : Rest)
      → SafeBack here exposed ts scope.locals result j.back → SafeRest scope rest
      → SafeRest scope (does here call (loop mine before body next) k j rest)
  loop_safe scope result mine before body next is_before is_body is_next k j rest back ok gs m left g =
      let t = k + size_of before in
      let u = t + 1 + size_of body in
      let around : Jumps = record { back = j.back; out = rest; again = j.again } in
      let ending : (round : Rest) → SafeRest scope round → SafeRest scope (does here call next u around round) =
      λ round is. is_next u around round back ok tt (widened scope (begins next) round is) in
      rounds_safe scope t (suc left) (does here call before k around)
      (λ round. does here call body (t + 1)
      (record { back = j.back; out = rest; again = does here call next u around round })
      (does here call next u around round))
      (λ round is. is_before k around round back ok tt (widened scope (begins before) round is))
      (λ round is. is_body (t + 1) (record { back = j.back; out = rest; again = does here call next u around round })
      (does here call next u around round) back ok (ending round is)
      (widened scope (begins body) (does here call next u around round) (ending round is))) gs m left g

  -- ---- statements

  abbrev IsFrom : Scope → Type 0
  IsFrom scope = (scope.functions ≡ here.program.functions) × (scope.texts ≡ length here.program.texts)

  pub does_safe : (s : Does) (scope : Scope) → Footing here.layout here.node scope.objects → IsFrom scope
      → (result : Kind) (breaks continues : Bool) (k : ℕ) (j : Jumps) (rest : Rest)
      → IsTypedDoes scope result breaks continues s
      → Within exposed (exposes_in s) → SafeBack here exposed ts scope.locals result j.back
      → If breaks (SafeRest scope j.out)
      → If continues (SafeRest scope j.again) → SafeRest (after scope s) rest
      → SafeRest scope (does here call s k j rest)
  does_safe nothing scope footing from result breaks continues k j rest h w back out again next gs m left g = next gs
      m left g
  does_safe break scope footing from result breaks continues k j rest h w back out again next gs m left g =
      if_jumps breaks (SafeRest scope j.out) h out gs m left g
  does_safe continue scope footing from result breaks continues k j rest h w back out again next gs m left g =
      if_jumps continues (SafeRest scope j.again) h again gs m left g
  does_safe (then_ first (then_ (loop
      (Some x) before body after_) more)) scope footing from result breaks continues k j rest h w back out again next
      gs m left g =
      let parts = mine_parts scope result breaks continues x first before after_ h.0 in
      let of_loop = exposes_in before ++ exposes_in body ++ exposes_in after_ in
      let behind = in_right exposed (exposes_in first) (of_loop ++ exposes_in more) w in
      let inside = in_left exposed of_loop (exposes_in more) behind in
      let k2 = k + size_of first in
      let k3 = k2 + size_of (loop (Some x) before body after_) in
      let last : SafeRest scope (does here call more k3 j rest) =
      does_safe more scope footing from result breaks continues k3 j rest h.2
      (in_right exposed of_loop (exposes_in more) behind) back out again
      (behind_nothing scope (begins first) (begins more) rest parts.first_begins
      (in_turn scope (begins first) (begins more) rest next)) in
      let around : SafeRest scope (does here call (then_ (loop (Some x) before body after_) more) k2 j rest) =
      λ gs m left g. loop_safe scope result (Some x) before body after_
      (λ k j rest back out again next. does_safe before scope footing from result true false k j rest parts.before_typed
      (first_in exposed (exposes_in before) (exposes_in body) (exposes_in after_) inside) back out again next)
      (λ k j rest back out again next. does_safe body scope footing from result true true k j rest h.1
      (second_in exposed (exposes_in before) (exposes_in body) (exposes_in after_) inside) back out again next)
      (λ k j rest back out again next. does_safe after_ scope footing from result true false k j rest parts.next_typed
      (third_in exposed (exposes_in before) (exposes_in body) (exposes_in after_) inside) back out again next)
      k2 j (does here call more k3 j rest) back last gs m left g in
      does_safe first scope footing from result breaks continues k j
      (does here call (then_ (loop (Some x) before body after_) more) k2 j rest) parts.first_typed
      (in_left exposed (exposes_in first) (of_loop ++ exposes_in more) w) back out again
      (widened scope (begins first) (does here call (then_ (loop
      (Some x) before body after_) more) k2 j rest) around) gs m left g
  does_safe (then_ first second) scope footing from result breaks continues k j rest h w back out again next gs m
      left g =
      does_safe first scope footing from result breaks continues k j _ h.0
      (in_left exposed (exposes_in first) (exposes_in second) w) back out again
      (does_safe second (after scope first) footing from result breaks continues (k + size_of first) j rest h.1
      (in_right exposed (exposes_in first) (exposes_in second) w) back (widened_if breaks scope
      (begins first) j.out out)
      (widened_if continues scope (begins first) j.again again)
      (in_turn scope (begins first) (begins second) rest next)) gs m left g
  does_safe (act action arguments line) scope footing from result breaks continues k j rest h w back out again next
      gs m left g =
      values_safe here exposed call safe ts scope footing from.0 arguments h.0 k _ h.1 w
      (λ vs are gs m left g. enacts here.layout exposed (not_void here.layout footing.laid) scope call
      (calls_safe here exposed call safe ts scope footing from.0) ts (begins (act action arguments line))
      (mode_of action)
      (done_of here.layout here.program.texts action vs) line rest
      (uses_fits here.layout exposed scope here.node
      (not_void here.layout footing.laid) here.program.texts from.1 h.2 vs arguments line are)
      next gs m left g) gs m left g
  does_safe (choose false test on off) scope footing from result breaks continues k j rest h w back out again next gs
      m left g =
      value_safe here exposed call safe ts scope footing from.0 test number k _ h.0
      (first_in exposed (exposes test) (exposes_in on) (exposes_in off) w)
      (λ v is gs m left g. number_test here.layout exposed gs here.node v _ _ is
      (does_safe on scope footing from result breaks continues _ j rest h.1
      (second_in exposed (exposes test) (exposes_in on) (exposes_in off) w) back out again (widened scope
      (begins on) rest next) gs m left g)
      (does_safe off scope footing from result breaks continues _ j rest h.2
      (third_in exposed (exposes test) (exposes_in on) (exposes_in off) w) back out again (widened scope
      (begins off) rest next) gs m left g))
      gs m left g
  does_safe (choose true test on off) scope footing from result breaks continues k j rest h w back out again next gs
      m left g =
      value_safe here exposed call safe ts scope footing from.0 test (pointer_to h.0) k _ h.1
      (first_in exposed (exposes test) (exposes_in on) (exposes_in off) w)
      (λ v is gs m left g. pointer_test here.layout exposed gs here.node v _ _
      (does_safe on scope footing from result breaks continues _ j rest h.2
      (second_in exposed (exposes test) (exposes_in on) (exposes_in off) w) back out again (widened scope
      (begins on) rest next) gs m left g)
      (does_safe off scope footing from result breaks continues _ j rest h.3
      (third_in exposed (exposes test) (exposes_in on) (exposes_in off) w) back out again (widened scope
      (begins off) rest next) gs m left g))
      gs m left g
  does_safe (loop None before body after_) scope footing from result breaks continues k j rest h w back out again
      next gs m left g =
      loop_safe scope result None before body after_
      (λ k j rest back out again next. does_safe before scope footing from result true false k j rest h.0
      (first_in exposed (exposes_in before) (exposes_in body) (exposes_in after_) w) back out again next)
      (λ k j rest back out again next. does_safe body scope footing from result true true k j rest h.1
      (second_in exposed (exposes_in before) (exposes_in body) (exposes_in after_) w) back out again next)
      (λ k j rest back out again next. does_safe after_ scope footing from result true false k j rest h.2
      (third_in exposed (exposes_in before) (exposes_in body) (exposes_in after_) w) back out again next)
      k j rest back next gs m left g
  does_safe (loop
      (Some x) before body after_) scope footing from result breaks continues k j rest h w back out again next gs m
      left g = absurd h
  does_safe (return e line) scope footing from result breaks continues k j rest h w back out again next gs m left g =
      value_safe here exposed call safe ts scope footing from.0 e result k _ h w
      (λ v is gs m left g. back v line gs m left is
      (good_restrict here.layout exposed (typing_of scope) (record { locals = scope.locals; begun = [] }) ts gs m refl
      (λ x c. none_begun x c) g)) gs m left g
    where
      none_begun : (x : ℕ) → Contains [] x → Contains scope.begun x
      none_begun x (n, within, is) = absurd (let no : ⊥ = omega (arith, within) in no)
