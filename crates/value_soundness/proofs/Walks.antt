-- Typed expressions, arguments and statements are safe before what is safe.
use Rattle.std.proofs.Common.{◌≡◌, ℕ, Option, Some, None, true, false, List, [], ◌∷◌, ◌++◌, length, sym, subst, arith}
use Rattle.std.specs.Prelude.{pos}
use Rattle.std.proofs.lemmas.List.Elements.{Contains-append_left, Contains-append_right}
use Rattle.sc_base.specs.declared.value.Value.{Value}
use Rattle.sc_base.specs.declared.value.Value.TheVariants.{Int}
use Rattle.sc_core.specs.declared.operation.Constant.{Constant}
use Rattle.sc_core.specs.declared.operation.Operation.{Operation}
use Rattle.sc_core.specs.declared.operation.Operation.TheVariants.{Read, Write}
use Rattle.sc_core.specs.Core.{Core, constant, step, choice, update, Arguments, none, argument, Function}
use Rattle.sc_core.specs.Kinds.{Kind, number, to as pointer_to, kind_of, Scope, IsConstant, of_number, of_null, of_mine, of_procs, read, write}
use Rattle.sc_core.specs.Table.{made_of}
use Rattle.sc_core.specs.Forms.{exposed_by, exposes, exposes_all}
use Rattle.sc_core.specs.Typed.{TakesBack, Has, Have}
use Rattle.sc_meaning.specs.Steps.{Rest, Calls}
use Rattle.sc_meaning.specs.Meaning.{Setting, constant_of, performed, taken_back, value, values}
use Rattle.value_soundness.proofs.Values.{IsOf, AreOf}
use Rattle.value_soundness.proofs.Deeds.{Footing, Within, MadeFits, computes_fits, takes_fits}
use Rattle.value_soundness.proofs.Layouts.{not_void}
use Rattle.value_soundness.proofs.Memories.{Typing}
use Rattle.value_soundness.proofs.Safety.{typing_of, Safe, SafeWith, SafeCalls, number_test, pointer_test, performs}

-- ---- exposed objects

pub in_left : (exposed xs ys : List ℕ) → Within exposed (xs ++ ys) → Within exposed xs
in_left exposed xs ys w o c = w o (Contains-append_left xs ys o c)

pub in_right : (exposed xs ys : List ℕ) → Within exposed (xs ++ ys) → Within exposed ys
in_right exposed xs ys w o c = w o (Contains-append_right xs ys o c)

pub first_in : (exposed xs ys zs : List ℕ) → Within exposed (xs ++ ys ++ zs) → Within exposed xs
first_in exposed xs ys zs w = in_left exposed xs ys (in_left exposed (xs ++ ys) zs w)

pub second_in : (exposed xs ys zs : List ℕ) → Within exposed (xs ++ ys ++ zs) → Within exposed ys
second_in exposed xs ys zs w = in_right exposed xs ys (in_left exposed (xs ++ ys) zs w)

pub third_in : (exposed xs ys zs : List ℕ) → Within exposed (xs ++ ys ++ zs) → Within exposed zs
third_in exposed xs ys zs w = in_right exposed (xs ++ ys) zs w

pub none_in : (exposed : List ℕ) → Within exposed []
none_in exposed o (k, within, is) = absurd (let no : ⊥ = omega (arith, within) in no)

-- ---- constants

pub constant_is : (here : Setting) (exposed : List ℕ) (objects : _) → Footing here.layout here.node objects
    → {c : Constant} {k : Kind}
    → IsConstant c k → IsOf here.layout exposed k (constant_of here c)
constant_is here exposed objects footing (of_number fits) = fits
constant_is here exposed objects footing of_null = tt
constant_is here exposed objects footing of_mine =
    let few = footing.few in let within = footing.node_within in record { sfits = omega (arith, few, within) }
constant_is here exposed objects footing of_procs = let few = footing.few in record { sfits = omega (arith, few) }

-- ---- scopes

-- a part of a function of the source
pub record IsScope (here : Setting) (objects : _) (scope : Scope) : Type 0 where
  pub objects_are : scope.objects ≡ objects
  pub functions_are : scope.functions ≡ here.program.functions
  pub texts_are : scope.texts ≡ length here.program.texts

module _ (here : Setting) (exposed : List ℕ) (call : Calls)
    (safe : SafeCalls here.layout exposed here.program.functions call) (ts : List Typing) where
  abbrev SafeRest : Scope → Rest → Type 0
  SafeRest scope rest = Safe here.layout exposed (typing_of scope ∷ ts) rest

  abbrev SafeNext : Scope → Kind → (Value → Rest) → Type 0
  SafeNext scope k go = SafeWith here.layout exposed (typing_of scope ∷ ts) k go

  module _ (scope : Scope) (footing : Footing here.layout here.node scope.objects)
      (functions : scope.functions ≡ here.program.functions) where
    pub calls_safe : SafeCalls here.layout exposed scope.functions call
    calls_safe = subst (λ (fs : List Function). SafeCalls here.layout exposed fs call) (sym functions) safe

    performing : (k : Kind) (operation : Operation) (vs : List Value) (line : ℕ) (go : Value → Rest)
        → MadeFits here.layout exposed scope k (made_of here.layout here.node operation vs) → SafeNext scope k go
        → SafeRest scope (performed here call operation vs line go)
    performing k operation vs line go h next =
        performs here.layout exposed (not_void here.layout footing.laid) scope call calls_safe ts k
        (made_of here.layout here.node operation vs) line go h next

    back_safe : (back : Option Operation) (point line : ℕ) (k : Kind) (go : Value → Rest) → TakesBack back k
        → SafeNext scope k go
        → SafeNext scope k (taken_back here call back point line go)
    back_safe None point line k go h next v is gs m left g = next v is gs m left g
    back_safe (Some operation) point line k go h next v is gs m left g =
        performing k operation (v ∷ Int (pos 1) ∷ []) line go
        (computes_fits here.layout exposed scope here.node footing h (v ∷ Int (pos 1) ∷ []) (
          is,
          (record { sfits = omega arith }, tt),
        ))
        next gs m left g

    mutual
      pub value_safe : (e : Core) (kind : Kind) (k : ℕ) (go : Value → Rest) → Has scope e kind
          → Within exposed (exposes e)
          → SafeNext scope kind go → SafeRest scope (value here call e k go)
      value_safe (constant c) kind k go h w next gs m left g =
          next (constant_of here c) (constant_is here exposed scope.objects footing h) gs m left g
      value_safe (step operation arguments line) kind k go h w next gs m left g =
          values_safe arguments h.0 k _ h.1 (in_left exposed (exposes_all arguments) (exposed_by operation) w)
          (λ vs are gs m left g. performing kind operation vs line go
          (takes_fits here.layout exposed scope here.node footing h.2
          (in_right exposed (exposes_all arguments) (exposed_by operation) w) vs are) next gs m left g) gs m left g
      value_safe (choice false test on off) kind k go h w next gs m left g =
          value_safe test number k _ h.1 (first_in exposed (exposes test) (exposes on) (exposes off) w)
          (λ v is gs m left g. number_test here.layout exposed gs here.node v _ _ is
          (value_safe on kind _ go h.2 (second_in exposed (exposes test) (exposes on) (exposes off) w) next gs m left g)
          (value_safe off kind _ go h.3 (third_in exposed (exposes test) (exposes on)
          (exposes off) w) next gs m left g)) gs m left g
      value_safe (choice true test on off) kind k go h w next gs m left g =
          value_safe test (pointer_to h.1) k _ h.2 (first_in exposed (exposes test) (exposes on) (exposes off) w)
          (λ v is gs m left g. pointer_test here.layout exposed gs here.node v _ _
          (value_safe on kind _ go h.3 (second_in exposed (exposes test) (exposes on) (exposes off) w) next gs m left g)
          (value_safe off kind _ go h.4 (third_in exposed (exposes test) (exposes on)
          (exposes off) w) next gs m left g)) gs m left g
      value_safe (update pointer operation right back line) kind k go h w next gs m left g =
          let as_cell : (v : Value) → IsOf here.layout exposed kind v → IsOf here.layout exposed (kind_of h.0) v =
          λ v is. subst (λ (k : Kind). IsOf here.layout exposed k v) h.3 is in
          value_safe pointer h.1 k _ h.5 (in_left exposed (exposes pointer) (exposes right) w)
          (λ p at gs m left g. performing kind Read (p ∷ []) line _
          (subst (λ (k : Kind). MadeFits here.layout exposed scope k (made_of here.layout here.node Read (p ∷ [])))
          (sym h.3)
          (takes_fits here.layout exposed scope here.node footing (read h.4) (none_in exposed) (p ∷ []) (at, tt)))
          (λ old was gs m left g. value_safe right h.2 _ _ h.6 (in_right exposed (exposes pointer) (exposes right) w)
          (λ by is gs m left g. performing kind operation (old ∷ by ∷ []) line _
          (computes_fits here.layout exposed scope here.node footing h.7 (old ∷ by ∷ []) (was, (is, tt)))
          (λ new made gs m left g. performing kind Write (p ∷ new ∷ []) line _
          (subst (λ (k : Kind). MadeFits here.layout exposed scope k (made_of here.layout here.node Write
          (p ∷ new ∷ []))) (sym h.3)
          (takes_fits here.layout exposed scope here.node footing (write h.4) (none_in exposed) (p ∷ new ∷ []) (
            at,
            (as_cell new made, tt),
          )))
          (back_safe back _ line kind go h.8 next) gs m left g) gs m left g) gs m left g) gs m left g) gs m left g

      pub values_safe : (es : Arguments) (kinds : List Kind) (k : ℕ) (go : List Value → Rest) → Have scope es kinds
          → Within exposed (exposes_all es)
          → ((vs : List Value) → AreOf here.layout exposed kinds vs → SafeRest scope (go vs))
          → SafeRest scope (values here call es k go)
      values_safe none [] k go h w next gs m left g = next [] tt gs m left g
      values_safe none (kind ∷ kinds) k go h w next gs m left g = absurd h
      values_safe (argument e more) [] k go h w next gs m left g = absurd h
      values_safe (argument e more) (kind ∷ kinds) k go h w next gs m left g =
          value_safe e kind k _ h.0 (in_left exposed (exposes e) (exposes_all more) w)
          (λ v is gs m left g. values_safe more kinds _ _ h.1 (in_right exposed (exposes e) (exposes_all more) w)
          (λ vs are. next (v ∷ vs) (is, are)) gs m left g) gs m left g
