-- Memories whose locals are of their kinds, and where each get that has not landed is awaited by its local.
use Rattle.std.proofs.Common.{◌≡◌, ℕ, zero, suc, ◌+◌, ◌<◌, ◌⊎◌, inl, inr, Some, List, [], ◌∷◌, ◌++◌, map, length, slice_get, slice_index_or, slice_set, eq-eqb, refl, sym, ap, ◌∙◌, subst, arith}
use Rattle.std.specs.Prelude.{pos, replicate}
use Rattle.std.specs.List.{Contains}
use Rattle.std.proofs.lemmas.List.{get_or-set_other, length-set, map-append, length-append, length-map, length-replicate}
use Rattle.std.proofs.lemmas.Grind.{get_or-set_at}
use Rattle.std.proofs.lemmas.Option.{slice_get_within}
use Rattle.std.proofs.lemmas.Bool.{cases_eq, ne_eqb}
use Rattle.sc_base.specs.declared.shape.Star.{Star}
use Rattle.sc_base.specs.declared.value.Place.{Place}
use Rattle.sc_base.specs.declared.value.Value.{Value}
use Rattle.sc_base.specs.declared.value.Value.TheVariants.{Int}
use Rattle.sc_layout.specs.Layout.{Arrangement}
use Rattle.sc_core.specs.Kinds.{Kind, kind_of}
use Rattle.sc_meaning.specs.Memory.{Slot, has, awaits, Spot, Memory, blank, entered, top, below, slot, with_top, with_slot, pushed, popped, with_get, places, landed_at, landed_all, synced}
use Rattle.value_soundness.specs.Lawful.{IsLawfulAt}
use Rattle.value_soundness.proofs.Values.{IsOf, AreOf, IsCell, of_cell}

-- what the locals of a function are, and which of them have begun
pub record Typing : Type 0 where
  pub locals : List Kind
  pub begun : List ℕ

has_awaits : {A : Type 0} → (v : Value) → has v ≡ awaits → A
has_awaits v e = absurd (cc)

module _ (layout : Arrangement) (exposed : List ℕ) where
  abbrev pub SlotFits : Kind → Slot → Type 0
  SlotFits k (has v) = IsOf layout exposed k v
  SlotFits k awaits = Unit {0}

  -- each local that has begun is of its kind
  pub record FrameFits (t : Typing) (frame : List Slot) : Type 0 where
    pub sized : length frame ≡ length t.locals
    pub fits : (x : ℕ) (k : Kind) → slice_get t.locals x ≡ Some k → Contains t.begun x
        → SlotFits k (slice_index_or frame x blank)

  abbrev pub FramesFit : List Typing → List (List Slot) → Type 0
  FramesFit [] [] = Unit {0}
  FramesFit (t ∷ ts) (f ∷ fs) = FrameFits t f × FramesFit ts fs
  FramesFit _ _ = ⊥

  -- the spot's local is of its cell's kind
  pub record IsLocalOf (t : Typing) (s : Spot) : Type 0 where
    pub cell : List Star
    pub is_cell : IsCell layout cell s.place
    pub local : slice_get t.locals s.local ≡ Some (kind_of cell)

  -- it is so in the spot's frame, and it awaits a value
  pub data IsAwaited (s : Spot) : List Typing → List (List Slot) → Type 0 where
    here : {t : Typing} {ts : List Typing} {f : List Slot} {fs : List (List Slot)} → s.level ≡ length fs → IsLocalOf t s
        → slice_index_or f s.local blank ≡ awaits → IsAwaited s (t ∷ ts) (f ∷ fs)
    there : {t : Typing} {ts : List Typing} {f : List Slot} {fs : List (List Slot)} → s.level < length fs
        → IsAwaited s ts fs
        → IsAwaited s (t ∷ ts) (f ∷ fs)

  abbrev pub AreAwaited : List Typing → List (List Slot) → List Spot → Type 0
  AreAwaited ts fs [] = Unit {0}
  AreAwaited ts fs (s ∷ ss) = IsAwaited s ts fs × AreAwaited ts fs ss

  pub record Good (ts : List Typing) (gets : List Place) (m : Memory) : Type 0 where
    pub frames : FramesFit ts m.frames
    pub spots : AreAwaited ts m.frames m.getting
    pub gets_are : places m ≡ gets

  -- ---- a local's value

  frame_local : (t : Typing) (ts : List Typing) (fs : List (List Slot)) (x : ℕ) (k : Kind) → FramesFit (t ∷ ts) fs
      → slice_get t.locals x ≡ Some k → Contains t.begun x → SlotFits k (slice_index_or (top fs) x blank)
  frame_local t ts [] x k h i b = absurd h
  frame_local t ts (f ∷ fs) x k h i b = h.0.fits x k i b

  pub local_fits : (t : Typing) (ts : List Typing) (gets : List Place) (m : Memory) (x : ℕ) (k : Kind)
      → Good (t ∷ ts) gets m
      → slice_get t.locals x ≡ Some k → Contains t.begun x → SlotFits k (slot m x)
  local_fits t ts gets m x k g i b = frame_local t ts m.frames x k g.frames i b

  -- ---- a local that is set

  -- nothing has begun besides but perhaps this local
  pub record Grows (old new : Typing) (x : ℕ) : Type 0 where
    pub locals : new.locals ≡ old.locals
    pub begun : (y : ℕ) → Contains new.begun y → (y ≡ x) ⊎ Contains old.begun y

  same_kind : (locals : List Kind) (x : ℕ) (j k : Kind) → slice_get locals x ≡ Some j → slice_get locals x ≡ Some k
      → j ≡ k
  same_kind locals x j k e f = cc

  at_local : (locals : List Kind) (f : List Slot) (x y : ℕ) (j k : Kind) (s : Slot) → length f ≡ length locals
      → slice_get locals x ≡ Some k → SlotFits k s → slice_get locals y ≡ Some j → y ≡ x
      → SlotFits j (slice_index_or (slice_set f x s) y blank)
  at_local locals f x y j k s sized i fit at e =
      let same : k ≡ j = same_kind locals x k j i (subst (λ z. slice_get locals z ≡ Some j) e at) in
      let within : x < length locals = slice_get_within locals x k i in
      subst (SlotFits j) (sym (get_or-set_at f x y s blank e (omega (arith, sized, within))))
      (subst (λ k. SlotFits k s) same fit)

  frame_set : (t u : Typing) (f : List Slot) (x : ℕ) (k : Kind) (s : Slot) → Grows t u x → FrameFits t f
      → slice_get t.locals x ≡ Some k → SlotFits k s → FrameFits u (slice_set f x s)
  frame_set t u f x k s g h i fit = record {
    sized = length-set f x s ∙ h.sized ∙ ap length (sym g.locals);
    fits = λ y j at b.
        (let was : slice_get t.locals y ≡ Some j = subst (λ (ls : List Kind). slice_get ls y ≡ Some j) g.locals at in
        elim (cases_eq y x) [
          | inl e ↦ at_local t.locals f x y j k s h.sized i fit was e
          | inr ne ↦ elim (g.begun y b) [
            | inl e ↦ absurd (ne e)
            | inr old ↦ subst (SlotFits j) (sym (get_or-set_other f x y s blank ne)) (h.fits y j was old)
          ]
        ]);
  }

  frames_set : (t u : Typing) (ts : List Typing) (fs : List (List Slot)) (x : ℕ) (k : Kind) (s : Slot) → Grows t u x
      → FramesFit (t ∷ ts) fs → slice_get t.locals x ≡ Some k → SlotFits k s
      → FramesFit (u ∷ ts) (with_top (λ frame. slice_set frame x s) fs)
  frames_set t u ts [] x k s g h i fit = absurd h
  frames_set t u ts (f ∷ fs) x k s g h i fit = (frame_set t u f x k s g h.0 i fit, h.1)

  in_typing : (t u : Typing) (s : Spot) → u.locals ≡ t.locals → IsLocalOf t s → IsLocalOf u s
  in_typing t u s e h = record {
    cell = h.cell;
    is_cell = h.is_cell;
    local = subst (λ (ls : List Kind). slice_get ls s.local ≡ Some (kind_of h.cell)) (sym e) h.local;
  }

  -- what awaits a value goes on to where a local is set that has one
  still_awaits : (f : List Slot) (x y : ℕ) (s : Slot) (old : Value) → slice_index_or f x blank ≡ has old
      → slice_index_or f y blank ≡ awaits → slice_index_or (slice_set f x s) y blank ≡ awaits
  still_awaits f x y s old e h =
      get_or-set_other f x y s blank (λ same. has_awaits old (sym e ∙ (ap (λ z. slice_index_or f z blank)
      (sym same) ∙ h))) ∙ h

  awaited_set : (t u : Typing) (ts : List Typing) (fs : List (List Slot)) (x : ℕ) (s : Slot) (old : Value) (spot : Spot)
      → u.locals ≡ t.locals → FramesFit (t ∷ ts) fs → slice_index_or (top fs) x blank ≡ has old
      → IsAwaited spot (t ∷ ts) fs → IsAwaited spot (u ∷ ts) (with_top (λ frame. slice_set frame x s) fs)
  awaited_set t u ts [] x s old spot same h e i = absurd h
  awaited_set t u ts (f ∷ fs) x s old spot same h e (here level local empty) =
      here level (in_typing t u spot same local) (still_awaits f x spot.local s old e empty)
  awaited_set t u ts (f ∷ fs) x s old spot same h e (there level i) = there level i

  all_awaited_set : (t u : Typing) (ts : List Typing) (fs : List (List Slot)) (x : ℕ) (s : Slot) (old : Value)
      (ss : List Spot)
      → u.locals ≡ t.locals → FramesFit (t ∷ ts) fs → slice_index_or (top fs) x blank ≡ has old
      → AreAwaited (t ∷ ts) fs ss → AreAwaited (u ∷ ts) (with_top (λ frame. slice_set frame x s) fs) ss
  all_awaited_set t u ts fs x s old [] same h e i = tt
  all_awaited_set t u ts fs x s old (spot ∷ ss) same h e i =
      (awaited_set t u ts fs x s old spot same h e i.0, all_awaited_set t u ts fs x s old ss same h e i.1)

  pub good_set : (t u : Typing) (ts : List Typing) (gets : List Place) (m : Memory) (x : ℕ) (k : Kind) (v old : Value)
      → Grows t u x → Good (t ∷ ts) gets m → slice_get t.locals x ≡ Some k → IsOf layout exposed k v
      → slot m x ≡ has old
      → Good (u ∷ ts) gets (with_slot m x (has v))
  good_set t u ts gets m x k v old grows g i fit e = record {
    frames = frames_set t u ts m.frames x k (has v) grows g.frames i fit;
    spots = all_awaited_set t u ts m.frames x (has v) old m.getting grows.locals g.frames e g.spots;
    gets_are = g.gets_are;
  }

  -- ---- a get

  own_awaited : (t : Typing) (ts : List Typing) (fs : List (List Slot)) (s : Spot) → FramesFit (t ∷ ts) fs
      → s.level ≡ length (below fs) → IsLocalOf t s
      → IsAwaited s (t ∷ ts) (with_top (λ frame. slice_set frame s.local awaits) fs)
  own_awaited t ts [] s h e i = absurd h
  own_awaited t ts (f ∷ fs) s h e i =
      let sized = h.0.sized in
      let within : s.local < length t.locals = slice_get_within t.locals s.local (kind_of i.cell) i.local in
      here e i (get_or-set_at f s.local s.local awaits blank refl (omega (arith, sized, within)))

  spots_add : (ts : List Typing) (fs : List (List Slot)) (ss : List Spot) (s : Spot) → AreAwaited ts fs ss
      → IsAwaited s ts fs
      → AreAwaited ts fs (ss ++ s ∷ [])
  spots_add ts fs [] s h i = (i, tt)
  spots_add ts fs (r ∷ ss) s h i = (h.0, spots_add ts fs ss s h.1 i)

  grows_itself : (t : Typing) (x : ℕ) → Grows t t x
  grows_itself t x = record { locals = refl; begun = λ y b. inr b }

  pub good_get : (t : Typing) (ts : List Typing) (gets : List Place) (m : Memory) (x : ℕ) (cell : List Star)
      (place : Place) (old : Value)
      → Good (t ∷ ts) gets m → IsCell layout cell place → slice_get t.locals x ≡ Some (kind_of cell)
      → slot m x ≡ has old
      → Good (t ∷ ts) (gets ++ place ∷ []) (with_get m x place)
  good_get t ts gets m x cell place old g c i e =
      let s : Spot = record { level = length (below m.frames); local = x; place = place } in
      let fs = with_top (λ frame. slice_set frame x awaits) m.frames in record {
        frames = frames_set t t ts m.frames x (kind_of cell) awaits (grows_itself t x) g.frames i tt;
        spots = spots_add (t ∷ ts) fs m.getting s
            (all_awaited_set t t ts m.frames x awaits old m.getting refl g.frames e g.spots)
            (own_awaited t ts m.frames s g.frames refl (record { cell = cell; is_cell = c; local = i }));
        gets_are = map-append (λ (s : Spot). s.place) m.getting (s ∷ [])
            ∙ ap (λ (ps : List Place). ps ++ place ∷ []) g.gets_are;
      }

  -- ---- a sync

  -- the spot's local is of its cell's kind in its frame
  data IsTypedSpot (s : Spot) : List Typing → Type 0 where
    here_typed : {t : Typing} {ts : List Typing} → s.level ≡ length ts → IsLocalOf t s → IsTypedSpot s (t ∷ ts)
    there_typed : {t : Typing} {ts : List Typing} → s.level < length ts → IsTypedSpot s ts → IsTypedSpot s (t ∷ ts)

  abbrev AreTypedSpots : List Typing → List Spot → Type 0
  AreTypedSpots ts [] = Unit {0}
  AreTypedSpots ts (s ∷ ss) = IsTypedSpot s ts × AreTypedSpots ts ss

  same_length : (ts : List Typing) (fs : List (List Slot)) → FramesFit ts fs → length fs ≡ length ts
  same_length [] [] h = refl
  same_length [] (f ∷ fs) h = absurd h
  same_length (t ∷ ts) [] h = absurd h
  same_length (t ∷ ts) (f ∷ fs) h = ap suc (same_length ts fs h.1)

  typed_spot : (ts : List Typing) (fs : List (List Slot)) (s : Spot) → FramesFit ts fs → IsAwaited s ts fs
      → IsTypedSpot s ts
  typed_spot [] [] s h i = elim i [ ]
  typed_spot [] (f ∷ fs) s h i = absurd h
  typed_spot (t ∷ ts) [] s h i = absurd h
  typed_spot (t ∷ ts) (f ∷ fs) s h (here level local empty) = here_typed (level ∙ same_length ts fs h.1) local
  typed_spot (t ∷ ts) (f ∷ fs) s h (there level i) =
      let n = same_length ts fs h.1 in there_typed (omega (arith, level, n)) (typed_spot ts fs s h.1 i)

  typed_spots : (ts : List Typing) (fs : List (List Slot)) (ss : List Spot) → FramesFit ts fs → AreAwaited ts fs ss
      → AreTypedSpots ts ss
  typed_spots ts fs [] h i = tt
  typed_spots ts fs (s ∷ ss) h i = (typed_spot ts fs s h i.0, typed_spots ts fs ss h i.1)

  landed_here : (s : Spot) (v : Value) (f : List Slot) (fs : List (List Slot)) → s.level ≡ length fs
      → landed_at s v (f ∷ fs) ≡ slice_set f s.local (has v) ∷ fs
  landed_here s v f fs e = rw (eq-eqb s.level (length fs) e) refl

  landed_there : (s : Spot) (v : Value) (f : List Slot) (fs : List (List Slot)) → s.level < length fs
      → landed_at s v (f ∷ fs) ≡ f ∷ landed_at s v fs
  landed_there s v f fs l = rw (ne_eqb s.level (length fs) (λ e. let no : ⊥ = omega (arith, e, l) in no)) refl

  frames_landed : (ts : List Typing) (fs : List (List Slot)) (s : Spot) (v : Value) → FramesFit ts fs → IsTypedSpot s ts
      → IsLawfulAt layout exposed s.place v → FramesFit ts (landed_at s v fs)
  frames_landed [] [] s v h i l = h
  frames_landed [] (f ∷ fs) s v h i l = absurd h
  frames_landed (t ∷ ts) [] s v h i l = absurd h
  frames_landed (t ∷ ts) (f ∷ fs) s v h (here_typed level local) l =
      subst (FramesFit (t ∷ ts)) (sym (landed_here s v f fs (level ∙ sym (same_length ts fs h.1)))) (
        frame_set t t f s.local (kind_of local.cell) (has v) (grows_itself t s.local) h.0 local.local
            (of_cell layout exposed local.cell s.place v local.is_cell l),
        h.1,
      )
  frames_landed (t ∷ ts) (f ∷ fs) s v h (there_typed level i) l =
      let n = same_length ts fs h.1 in
      subst (FramesFit (t ∷ ts)) (sym (landed_there s v f fs (omega (arith, level, n))))
      (h.0, frames_landed ts fs s v h.1 i l)

  -- each value is lawful at its place
  abbrev pub AreLawful : List Place → List Value → Type 0
  AreLawful [] [] = Unit {0}
  AreLawful (p ∷ ps) (v ∷ vs) = IsLawfulAt layout exposed p v × AreLawful ps vs
  AreLawful _ _ = ⊥

  all_landed : (ts : List Typing) (ss : List Spot) (vs : List Value) (fs : List (List Slot)) → FramesFit ts fs
      → AreTypedSpots ts ss → AreLawful (map (λ s. s.place) ss) vs → FramesFit ts (landed_all ss vs fs)
  all_landed ts [] [] fs h i l = h
  all_landed ts [] (v ∷ vs) fs h i l = absurd l
  all_landed ts (s ∷ ss) [] fs h i l = absurd l
  all_landed ts (s ∷ ss) (v ∷ vs) fs h i l =
      all_landed ts ss vs (landed_at s v fs) (frames_landed ts fs s v h i.0 l.0) i.1 l.1

  pub good_sync : (ts : List Typing) (gets : List Place) (m : Memory) (vs : List Value) → Good ts gets m
      → AreLawful (places m) vs → Good ts [] (synced vs m)
  good_sync ts gets m vs g l = record {
    frames = all_landed ts m.getting vs m.frames g.frames (typed_spots ts m.frames m.getting g.frames g.spots) l;
    spots = tt;
    gets_are = refl;
  }

  -- ---- fewer that have begun

  frames_restrict : (t u : Typing) (ts : List Typing) (fs : List (List Slot)) → u.locals ≡ t.locals
      → ((x : ℕ) → Contains u.begun x → Contains t.begun x) → FramesFit (t ∷ ts) fs → FramesFit (u ∷ ts) fs
  frames_restrict t u ts [] e b h = absurd h
  frames_restrict t u ts (f ∷ fs) e b h = (
    record {
      sized = h.0.sized ∙ ap length (sym e);
      fits = λ x k at begun. h.0.fits x k (subst (λ (ls : List Kind). slice_get ls x ≡ Some k) e at) (b x begun);
    },
    h.1,
  )

  awaited_restrict : (t u : Typing) (ts : List Typing) (fs : List (List Slot)) (s : Spot) → u.locals ≡ t.locals
      → IsAwaited s (t ∷ ts) fs → IsAwaited s (u ∷ ts) fs
  awaited_restrict t u ts [] s e i = elim i [ ]
  awaited_restrict t u ts (f ∷ fs) s e (here level local empty) = here level (in_typing t u s e local) empty
  awaited_restrict t u ts (f ∷ fs) s e (there level i) = there level i

  all_restrict : (t u : Typing) (ts : List Typing) (fs : List (List Slot)) (ss : List Spot) → u.locals ≡ t.locals
      → AreAwaited (t ∷ ts) fs ss → AreAwaited (u ∷ ts) fs ss
  all_restrict t u ts fs [] e h = tt
  all_restrict t u ts fs (s ∷ ss) e h = (awaited_restrict t u ts fs s e h.0, all_restrict t u ts fs ss e h.1)

  -- where fewer are known to have begun
  pub good_restrict : (t u : Typing) (ts : List Typing) (gets : List Place) (m : Memory) → u.locals ≡ t.locals
      → ((x : ℕ) → Contains u.begun x → Contains t.begun x) → Good (t ∷ ts) gets m → Good (u ∷ ts) gets m
  good_restrict t u ts gets m e b g = record {
    frames = frames_restrict t u ts m.frames e b g.frames;
    spots = all_restrict t u ts m.frames m.getting e g.spots;
    gets_are = g.gets_are;
  }

  -- ---- a call

  below_level : (ts : List Typing) (fs : List (List Slot)) (s : Spot) → IsAwaited s ts fs → s.level < length fs
  below_level [] [] s i = elim i [ ]
  below_level [] (f ∷ fs) s i = elim i [ ]
  below_level (t ∷ ts) [] s i = elim i [ ]
  below_level (t ∷ ts) (f ∷ fs) s (here level local empty) = omega (arith, level)
  below_level (t ∷ ts) (f ∷ fs) s (there level i) = omega (arith, level)

  spots_push : (t : Typing) (ts : List Typing) (f : List Slot) (fs : List (List Slot)) (ss : List Spot)
      → AreAwaited ts fs ss
      → AreAwaited (t ∷ ts) (f ∷ fs) ss
  spots_push t ts f fs [] h = tt
  spots_push t ts f fs (s ∷ ss) h = (there (below_level ts fs s h.0) h.0, spots_push t ts f fs ss h.1)

  pub good_push : (t : Typing) (ts : List Typing) (gets : List Place) (m : Memory) (frame : List Slot)
      → FrameFits t frame
      → Good ts gets m → Good (t ∷ ts) gets (pushed frame m)
  good_push t ts gets m frame h g = record {
    frames = (h, g.frames);
    spots = spots_push t ts frame m.frames m.getting g.spots;
    gets_are = g.gets_are;
  }

  arguments_length : (ks : List Kind) (vs : List Value) → AreOf layout exposed ks vs → length vs ≡ length ks
  arguments_length [] [] h = refl
  arguments_length [] (v ∷ vs) h = absurd h
  arguments_length (k ∷ ks) [] h = absurd h
  arguments_length (k ∷ ks) (v ∷ vs) h = ap suc (arguments_length ks vs h.1)

  argument_at : (ks others : List Kind) (vs : List Value) (n x : ℕ) (k : Kind) → AreOf layout exposed ks vs
      → slice_get (ks ++ others) x ≡ Some k → x < length ks
      → SlotFits k (slice_index_or (map has vs ++ replicate n blank) x blank)
  argument_at [] others vs n x k h at below = absurd (let no : ⊥ = omega (arith, below) in no)
  argument_at (j ∷ ks) others [] n x k h at below = absurd h
  argument_at (j ∷ ks) others (v ∷ vs) n zero k h at below = subst (λ k. IsOf layout exposed k v)
      (let e : j ≡ k = cc in e) h.0
  argument_at (j ∷ ks) others (v ∷ vs) n (suc x) k h at below = argument_at ks others vs n x k h.1 at (omega
      (arith, below))

  -- the frame of a function that is entered with these arguments
  pub entered_fits : (ks others : List Kind) (t : Typing) (vs : List Value) (n : ℕ) → t.locals ≡ ks ++ others
      → length others ≡ n
      → ((x : ℕ) → Contains t.begun x → x < length ks) → AreOf layout exposed ks vs → FrameFits t (entered vs n)
  entered_fits ks others t vs n e count begun h = record {
    sized = length-append (map has vs) (replicate n blank)
        ∙ (let a = length-map vs has in
        let b = length-replicate n blank in
        let c = arguments_length ks vs h in
        let d : length t.locals ≡ length ks + length others = ap length e ∙ length-append ks others in
        omega (arith, a, b, c, d, count));
    fits = λ x k at b.
        argument_at ks others vs n x k h (subst (λ (ls : List Kind). slice_get ls x ≡ Some k) e at) (begun x b);
  }

  -- ---- a return

  abbrev pub NoneAwaits : List Slot → Type 0
  NoneAwaits [] = Unit {0}
  NoneAwaits (has v ∷ ss) = NoneAwaits ss
  NoneAwaits (awaits ∷ ss) = ⊥

  none_awaits_at : (f : List Slot) (x : ℕ) → NoneAwaits f → slice_index_or f x blank ≡ awaits → ⊥
  none_awaits_at [] x h e = has_awaits (Int (pos 0)) e
  none_awaits_at (has v ∷ f) zero h e = has_awaits v e
  none_awaits_at (has v ∷ f) (suc x) h e = none_awaits_at f x h e
  none_awaits_at (awaits ∷ f) x h e = h

  pop_spot : (t : Typing) (ts : List Typing) (f : List Slot) (fs : List (List Slot)) (s : Spot) → NoneAwaits f
      → IsAwaited s (t ∷ ts) (f ∷ fs) → IsAwaited s ts fs
  pop_spot t ts f fs s n (here level local empty) = absurd (none_awaits_at f s.local n empty)
  pop_spot t ts f fs s n (there level i) = i

  pop_spots : (t : Typing) (ts : List Typing) (f : List Slot) (fs : List (List Slot)) (ss : List Spot) → NoneAwaits f
      → AreAwaited (t ∷ ts) (f ∷ fs) ss → AreAwaited ts fs ss
  pop_spots t ts f fs [] n h = tt
  pop_spots t ts f fs (s ∷ ss) n h = (pop_spot t ts f fs s n h.0, pop_spots t ts f fs ss n h.1)

  popped_frames : (t : Typing) (ts : List Typing) (gets : List Place) (fs : List (List Slot)) (getting : List Spot)
      → NoneAwaits (top fs)
      → Good (t ∷ ts) gets (record { frames = fs; getting = getting })
      → Good ts gets (record { frames = below fs; getting = getting })
  popped_frames t ts gets [] getting n g = absurd g.frames
  popped_frames t ts gets (f ∷ fs) getting n g = record {
    frames = g.frames.1;
    spots = pop_spots t ts f fs getting n g.spots;
    gets_are = g.gets_are;
  }

  pub good_pop : (t : Typing) (ts : List Typing) (gets : List Place) (m : Memory) → NoneAwaits (top m.frames)
      → Good (t ∷ ts) gets m → Good ts gets (popped m)
  good_pop t ts gets m n g = popped_frames t ts gets m.frames m.getting n g
