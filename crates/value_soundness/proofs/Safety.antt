-- What comes after is safe where it keeps its promises after every memory whose locals are of their kinds: a logical
-- predicate over continuations, after Tait, "Intensional interpretations of functionals of finite type" (1967). A step
-- on values of the kinds that it takes is safe before what is safe.
use Rattle.std.proofs.Common.{◌≡◌, ℕ, zero, suc, inl, inr, Some, Bool, true, false, List, [], ◌∷◌, ◌++◌, map, slice_get, refl, sym, ap, subst, arith}
use Rattle.std.specs.Prelude.{pos, negsuc}
use Rattle.std.specs.List.{Contains}
use Rattle.std.proofs.lemmas.List.Elements.{Contains-append_cases}
use Rattle.sc_base.specs.declared.shape.Star.{Star}
use Rattle.sc_base.specs.declared.value.CopyMode.{CopyMode}
use Rattle.sc_base.specs.declared.value.Place.{Place}
use Rattle.sc_base.specs.declared.value.Value.{Value}
use Rattle.sc_base.specs.declared.value.Value.TheVariants.{Int, Null, Ptr}
use Rattle.sc_layout.specs.Layout.{Arrangement, LaidObject}
use Rattle.sc_isa.specs.Pure.{is_true, bit}
use Rattle.sc_isa.specs.Deeds.{Made, makes, faults, stuck, uses, sets, reads, writes, calls, Done, lets_go, ends, sticks, clears, prints, fills, gets, misses, puts, sends, copies, waits, meets}
use Rattle.sc_core.specs.Core.{Function}
use Rattle.sc_core.specs.Kinds.{Kind, number, kind_of, kind_of_type, Scope}
use Rattle.sc_meaning.specs.Asking.{PointedDoing, fits_read, fits_sync, fits_barrier, Answer, Shown, Landed, Passed, Broken}
use Rattle.sc_meaning.specs.Memory.{Slot, has, awaits, Memory, slot, with_slot, with_get, places, synced}
use Rattle.sc_meaning.specs.Steps.{Rest, Calls, shown_or_zero, landed_or_none, unless_broken, used, none_awaits, counted, decided_by, decided, perform, enact}
use Rattle.value_soundness.specs.Lawful.{AnswerNamesOnly}
use Rattle.value_soundness.proofs.Values.{IsOf, AreOf, IsCell, of_cell, to_cell}
use Rattle.value_soundness.proofs.Deeds.{MadeFits}
use Rattle.value_soundness.proofs.Actions.{DoneFits}
use Rattle.value_soundness.proofs.Memories.{Typing, SlotFits, Good, Grows, local_fits, good_set, good_get, good_sync, NoneAwaits}
use Rattle.value_soundness.proofs.Promises.{PromisesPointed, lawful_read, lawful_all}

-- what the locals are in this scope
abbrev pub typing_of : Scope → Typing
typing_of scope = record { locals = scope.locals; begun = scope.begun }

-- where these have begun too
abbrev pub with_begun : List ℕ → Scope → Scope
with_begun new scope = record scope { begun = new ++ scope.begun }

module _ (layout : Arrangement) (exposed : List ℕ) where
  abbrev pub Safe : List Typing → Rest → Type 0
  Safe ts rest =
      (gs : List Place) (m : Memory) (left : ℕ) → Good layout exposed ts gs m
      → PromisesPointed layout exposed gs (rest m left)

  abbrev pub SafeWith : List Typing → Kind → (Value → Rest) → Type 0
  SafeWith ts k go = (v : Value) → IsOf layout exposed k v → Safe ts (go v)

  abbrev pub SafeCalls : List Function → Calls → Type 0
  SafeCalls functions call =
      (f : ℕ) (called : Function) (vs : List Value) (line : ℕ) (go : Value → Rest) (ts : List Typing)
      → slice_get functions f ≡ Some called → AreOf layout exposed (map kind_of_type called.params) vs
      → SafeWith ts (kind_of_type called.result) go → Safe ts (call f vs line go)

  -- ---- tests

  pub used_safe : (gs : List Place) (line : ℕ) (s : Slot) (go : Value → PointedDoing)
      → ((v : Value) → s ≡ has v → PromisesPointed layout exposed gs (go v))
      → PromisesPointed layout exposed gs (used line s go)
  used_safe gs line (has v) go h = h v refl
  used_safe gs line awaits go h = tt

  pub counted_safe : (gs : List Place) (left : ℕ) (go : ℕ → PointedDoing)
      → ((n : ℕ) → PromisesPointed layout exposed gs (go n)) → PromisesPointed layout exposed gs (counted left go)
  counted_safe gs zero go h = tt
  counted_safe gs (suc n) go h = h n

  pub none_awaits_safe : (gs : List Place) (line : ℕ) (f : List Slot) (d : PointedDoing)
      → (NoneAwaits layout exposed f → PromisesPointed layout exposed gs d)
      → PromisesPointed layout exposed gs (none_awaits line f d)
  none_awaits_safe gs line [] d h = h tt
  none_awaits_safe gs line (has v ∷ f) d h = none_awaits_safe gs line f d h
  none_awaits_safe gs line (awaits ∷ f) d h = tt

  number_safe : (gs : List Place) (v : Value) (on off : PointedDoing) → IsOf layout exposed number v
      → PromisesPointed layout exposed gs on → PromisesPointed layout exposed gs off
      → PromisesPointed layout exposed gs (decided_by v on off)
  number_safe gs (Int (pos zero)) on off h a b = b
  number_safe gs (Int (pos (suc n))) on off h a b = a
  number_safe gs (Int (negsuc n)) on off h a b = a
  number_safe gs Null on off h a b = absurd h
  number_safe gs (Ptr object node offset) on off h a b = absurd h

  bit_safe : (gs : List Place) (t : Bool) (on off : PointedDoing) → PromisesPointed layout exposed gs on
      → PromisesPointed layout exposed gs off → PromisesPointed layout exposed gs (decided_by (bit t) on off)
  bit_safe gs true on off a b = a
  bit_safe gs false on off a b = b

  pub number_test : (gs : List Place) (node : ℕ) (v : Value) (on off : PointedDoing) → IsOf layout exposed number v
      → PromisesPointed layout exposed gs on → PromisesPointed layout exposed gs off
      → PromisesPointed layout exposed gs (decided layout node false v on off)
  number_test gs node v on off h a b = number_safe gs v on off h a b

  pub pointer_test : (gs : List Place) (node : ℕ) (v : Value) (on off : PointedDoing)
      → PromisesPointed layout exposed gs on → PromisesPointed layout exposed gs off
      → PromisesPointed layout exposed gs (decided layout node true v on off)
  pointer_test gs node v on off a b = bit_safe gs (is_true v) on off a b

  -- ---- steps

  -- the cells of the layout are not void
  abbrev pub NoVoid : Type 0
  NoVoid = (k : ℕ) (o : LaidObject) → slice_get layout.objects k ≡ Some o → o.shape.ty.void ≡ false

  has_fits : (k : Kind) (s : Slot) (v : Value) → s ≡ has v → SlotFits layout exposed k s → IsOf layout exposed k v
  has_fits k s v e h = subst (SlotFits layout exposed k) e h

  itself : (t : Typing) (x : ℕ) → Grows layout exposed t t x
  itself t x = record { locals = refl; begun = λ y b. inr b }

  read_next : (gs : List Place) (cell : List Star) (place : Place) (go : Value → PointedDoing)
      → IsCell layout cell place
      → ((v : Value) → IsOf layout exposed (kind_of cell) v → PromisesPointed layout exposed gs (go v))
      → (answer : Answer) → fits_read layout place answer ≡ true → AnswerNamesOnly exposed answer
      → PromisesPointed layout exposed gs (go (shown_or_zero answer))
  read_next gs cell place go c k (Shown v) fit names =
      k v (of_cell layout exposed cell place v c (lawful_read layout exposed place v fit names))
  read_next gs cell place go c k (Landed vs) fit names = absurd (cc)
  read_next gs cell place go c k Passed fit names = absurd (cc)
  read_next gs cell place go c k Broken fit names = absurd (cc)

  sync_next : (ts : List Typing) (gs : List Place) (m : Memory) (left : ℕ) (rest : Rest)
      → Good layout exposed ts gs m → Safe ts rest
      → (answer : Answer) → fits_sync layout (places m) answer ≡ true → AnswerNamesOnly exposed answer
      → PromisesPointed layout exposed [] (rest (synced (landed_or_none answer) m) left)
  sync_next ts gs m left rest g k (Landed vs) fit names =
      k [] (synced vs m) left (good_sync layout exposed ts gs m vs g (lawful_all layout exposed
      (places m) vs fit names))
  sync_next ts gs m left rest g k (Shown v) fit names = absurd (cc)
  sync_next ts gs m left rest g k Passed fit names = absurd (cc)
  sync_next ts gs m left rest g k Broken fit names = absurd (cc)

  barrier_next : (gs : List Place) (d : PointedDoing) → PromisesPointed layout exposed gs d
      → (answer : Answer) → fits_barrier answer ≡ true
      → PromisesPointed layout exposed gs (unless_broken answer d)
  barrier_next gs d h Passed fit = h
  barrier_next gs d h Broken fit = tt
  barrier_next gs d h (Shown v) fit = absurd (cc)
  barrier_next gs d h (Landed vs) fit = absurd (cc)

  module _ (void : NoVoid) (scope : Scope) (call : Calls) (safe : SafeCalls scope.functions call)
      (ts : List Typing) where
    abbrev all : List Typing
    all = typing_of scope ∷ ts

    pub performs : (k : Kind) (made : Made) (line : ℕ) (go : Value → Rest) → MadeFits layout exposed scope k made
        → SafeWith all k go → Safe all (perform layout call made line go)
    performs k (makes v) line go h next gs m left g = next v h gs m left g
    performs k (faults fault) line go h next gs m left g = tt
    performs k stuck line go h next gs m left g = absurd h
    performs k (uses x) line go h next gs m left g =
        used_safe gs line (slot m x) (λ v. go v m left) (λ v e. next v
        (has_fits k (slot m x) v e (local_fits layout exposed (typing_of scope) ts gs m x k g h.0 h.1)) gs m left g)
    performs k (sets x v) line go h next gs m left g =
        used_safe gs line (slot m x) (λ old. go v (with_slot m x (has v)) left) (λ old e. next v h.1 gs
        (with_slot m x (has v)) left
        (good_set layout exposed (typing_of scope) (typing_of scope) ts gs m x k v old (itself
        (typing_of scope) x) g h.0 h.1 e))
    performs k (reads place) line go h next gs m left g = (
      record { asked = refl; lawful = h.1.placed; fits = λ answer. refl },
      read_next gs h.0 place (λ v. go v m left) h.1
          (λ v is. next v (subst (λ k. IsOf layout exposed k v) (sym h.2) is) gs m left g),
    )
    performs k (writes place v) line go h next gs m left g = (
      record {
        made = refl;
        lawful = (
          h.1.placed,
          to_cell layout exposed void h.0 place v h.1 (subst
              (λ k. IsOf layout exposed k v) h.2 h.3),
        );
      },
      next v h.3 gs m left g,
    )
    performs k (calls f vs) line go h next gs m left g =
        safe f h.0 vs line go all h.1 h.2 (subst (λ k. SafeWith all k go) h.3 next) gs m left g

    new_begun : (new : List ℕ) (x : ℕ) → new ≡ x ∷ []
        → Grows layout exposed (typing_of scope) (typing_of (with_begun new scope)) x
    new_begun new x e = record {
      locals = refl;
      begun = λ y b. elim (Contains-append_cases new scope.begun y b) [
        | inl c ↦ inl (only x y (subst (λ (xs : List ℕ). Contains xs y) e c))
        | inr c ↦ inr c
      ];
    }
      where
        only : (x y : ℕ) → Contains (x ∷ []) y → y ≡ x
        only x y (zero, within, is) = sym is
        only x y (suc n, within, is) = absurd (let no : ⊥ = omega (arith, within) in no)

    -- where nothing new has begun
    as_before : (new : List ℕ) (rest : Rest) → new ≡ [] → Safe (typing_of (with_begun new scope) ∷ ts) rest
        → Safe all rest
    as_before new rest e h = subst (λ (new : List ℕ). Safe (typing_of (with_begun new scope) ∷ ts) rest) e h

    pub enacts : (new : List ℕ) (mode : CopyMode) (done : Done) (line : ℕ) (rest : Rest)
        → DoneFits layout exposed scope new done
        → Safe (typing_of (with_begun new scope) ∷ ts) rest → Safe all (enact layout mode done line rest)
    enacts new mode lets_go line rest h next gs m left g = as_before new rest h next gs m left g
    enacts new mode (ends fault) line rest h next gs m left g = tt
    enacts new mode sticks line rest h next gs m left g = absurd h
    enacts new mode (clears x v) line rest h next gs m left g =
        used_safe gs line (slot m x) (λ old. rest (with_slot m x (has v)) left) (λ old e. next gs (with_slot m x
        (has v)) left
        (good_set layout exposed (typing_of scope) (typing_of (with_begun new scope)) ts gs m x h.0 v old
        (new_begun new x h.3) g h.1 h.2 e))
    enacts new mode (prints text) line rest h next gs m left g = as_before new rest h next gs m left g
    enacts new mode (fills x place) line rest h next gs m left g = (
      record { asked = refl; lawful = h.1.placed; fits = λ answer. refl },
      read_next gs h.0 place (λ v. used line (slot m x) (λ old. rest (with_slot m x (has v)) left)) h.1
          (λ v is. used_safe gs line (slot m x) (λ old. rest (with_slot m x (has v)) left) (λ old e. next gs
          (with_slot m x (has v)) left
          (good_set layout exposed (typing_of scope) (typing_of (with_begun new scope)) ts gs m x
          (kind_of h.0) v old (new_begun new x h.3) g h.2 is e))),
    )
    enacts new mode (gets x place) line rest h next gs m left g =
        used_safe gs line (slot m x) _ (λ old e. (
          record { made = refl; lawful = h.1.placed },
          as_before new rest h.3 next (gs ++ place ∷ []) (with_get m x place) left
              (good_get layout exposed (typing_of scope) ts gs m x h.0 place old g h.1 h.2 e),
        ))
    enacts new mode (misses x fault) line rest h next gs m left g = used_safe gs line (slot m x) _ (λ old e. tt)
    enacts new mode (puts place v) line rest h next gs m left g = (
      record { made = refl; lawful = (h.1.placed, to_cell layout exposed void h.0 place v h.1 h.2) },
      as_before new rest h.3 next gs m left g,
    )
    enacts new mode (sends place v) line rest h next gs m left g = (
      record { made = refl; lawful = (h.1.placed, to_cell layout exposed void h.0 place v h.1 h.2) },
      as_before new rest h.3 next gs m left g,
    )
    enacts new mode (copies from over cells) line rest h next gs m left g =
        (record { made = refl; lawful = h.0 }, as_before new rest h.1 next gs m left g)
    enacts new mode (waits counter) line rest h next gs m left g = (
      record {
        asked = refl;
        lawful = tt;
        fits = λ answer. ap (λ (ps : List Place). fits_sync layout ps answer) g.gets_are;
      },
      sync_next all gs m left rest g (as_before new rest h next),
    )
    enacts new mode (meets true) line rest h next gs m left g = (
      record { asked = refl; lawful = tt; fits = λ answer. refl },
      λ answer fit names. barrier_next gs (rest m left) (as_before new rest h next gs m left g) answer fit,
    )
    enacts new mode (meets false) line rest h next gs m left g = (
      record { asked = refl; lawful = tt; fits = λ answer. refl },
      λ answer fit names. barrier_next gs (rest m left) (as_before new rest h next gs m left g) answer fit,
    )
