-- Locals with ghosts: they are the source's, and what each may hold.
use Rattle.std.proofs.Common.{◌≡◌, ◌⊎◌, inl, inr, ℕ, zero, suc, ◌+◌, ◌<◌, ◌==◌, List, [], ◌∷◌, ◌++◌, length, map, Option, Some, None, Bool, true, false, slice_get, slice_index_or, slice_set, if◌then◌else◌, refl, sym, ap, ◌∙◌, subst, arith}
use Rattle.std.specs.Prelude.{replicate}
use Rattle.std.proofs.lemmas.List.{map-set, length-set, length-map, length-append, length-replicate, map-append}
use Rattle.std.proofs.lemmas.Option.{slice_get-get_or}
use Rattle.sc_base.specs.declared.value.Place.{Place}
use Rattle.sc_base.specs.declared.value.Value.{Value}
use Rattle.sc_meaning.specs.Memory.{Slot, has, awaits, blank, entered, Spot, Memory, top, below, slot, with_top, with_slot, with_get as source_get, landed_at, landed_all, synced}
use Rattle.emit_laws.proofs.Parts.{In, Setup, Takes, Touches}
use Rattle.emit_laws.proofs.Ghosts.{Token, Thing, val, awaited, slot_of, plain, unset, World, slots, memory_of, newest, older, put_top, put_at, put_all, Worth, Local, MayFrom, AllMay, into, with_get, got, after_sync, called_with}

pub in_left : (y : ℕ) (xs ys : List ℕ) → In y xs → In y (xs ++ ys)
in_left y [] ys h = absurd h
in_left y (x ∷ xs) ys (inl e) = inl e
in_left y (x ∷ xs) ys (inr h) = inr (in_left y xs ys h)

pub in_right : (y : ℕ) (xs ys : List ℕ) → In y ys → In y (xs ++ ys)
in_right y [] ys h = h
in_right y (x ∷ xs) ys h = inr (in_right y xs ys h)

-- ---- they are the source's

pub top_slots : (cells : List (List Thing)) → top (slots cells) ≡ map slot_of (newest cells)
top_slots [] = refl
top_slots (f ∷ fs) = refl

pub below_slots : (cells : List (List Thing)) → below (slots cells) ≡ slots (older cells)
below_slots [] = refl
below_slots (f ∷ fs) = refl

slot_in : (frame : List Thing) (x : ℕ) (cell : Thing) → slice_get frame x ≡ Some cell → slice_index_or (map slot_of frame) x blank ≡ slot_of cell
slot_in [] x cell h = absurd (cc)
slot_in (f ∷ fs) zero cell h = cc
slot_in (f ∷ fs) (suc x) cell h = slot_in fs x cell h

pub slot_is : (w : World) (x : ℕ) (cell : Thing) → slice_get (newest w.cells) x ≡ Some cell → slot (memory_of w) x ≡ slot_of cell
slot_is w x cell h = ap (λ frame. slice_index_or frame x blank) (top_slots w.cells) ∙ slot_in (newest w.cells) x cell h

slots_put : (cells : List (List Thing)) (x : ℕ) (v : Thing) → slots (put_top cells x v) ≡ with_top (λ frame. slice_set frame x (slot_of v)) (slots cells)
slots_put [] x v = refl
slots_put (f ∷ fs) x v = ap (λ l. l ∷ slots fs) (map-set slot_of f x v)

pub put_memory : (c : Setup) (w : World) (x : ℕ) (v : Thing) → memory_of (into c w x v) ≡ with_slot (memory_of w) x (slot_of v)
put_memory c w x v =
    let F : List (List Slot) → Memory = λ f. record { frames = f; getting = w.getting } in
    ap F (slots_put w.cells x v)

length_older : (cells : List (List Thing)) → length (older cells) ≡ length (below (slots cells))
length_older [] = refl
length_older (f ∷ fs) = sym (length-map fs (map slot_of))

pub get_memory : (c : Setup) (w : World) (x : ℕ) (p : Place) → memory_of (with_get c w x p) ≡ source_get (memory_of w) x p
get_memory c w x p =
    let F : List (List Slot) → ℕ → Memory = λ f n. record { frames = f; getting = w.getting ++ record { level = n; local = x; place = p } ∷ [] } in
    ap (λ f. F f (length (older w.cells))) (slots_put w.cells x (awaited (length w.getting)))
    ∙ ap (F (with_top (λ frame. slice_set frame x awaits) (slots w.cells))) (length_older w.cells)

slots_put_at : (s : Spot) (v : Value) (cells : List (List Thing)) → slots (put_at s v cells) ≡ landed_at s v (slots cells)
slots_put_at s v [] = refl
slots_put_at s v (f ∷ fs) =
    by_level (slots_put_at s v fs) (s.level == length fs)
    ∙ ap (λ n. if s.level == n then slice_set (map slot_of f) s.local (has v) ∷ slots fs else map slot_of f ∷ landed_at s v (slots fs)) (sym (length-map fs (map slot_of)))
  where
    by_level : slots (put_at s v fs) ≡ landed_at s v (slots fs) → (b : Bool)
        → slots (if b then slice_set f s.local (plain v) ∷ fs else f ∷ put_at s v fs)
        ≡ (if b then slice_set (map slot_of f) s.local (has v) ∷ slots fs else map slot_of f ∷ landed_at s v (slots fs))
    by_level h true = ap (λ l. l ∷ slots fs) (map-set slot_of f s.local (plain v))
    by_level h false = ap (λ l. map slot_of f ∷ l) h

slots_put_all : (ss : List Spot) (vs : List Value) (cells : List (List Thing)) → slots (put_all ss vs cells) ≡ landed_all ss vs (slots cells)
slots_put_all [] vs cells = refl
slots_put_all (s ∷ ss) [] cells = refl
slots_put_all (s ∷ ss) (v ∷ vs) cells = slots_put_all ss vs (put_at s v cells) ∙ ap (landed_all ss vs) (slots_put_at s v cells)

pub sync_memory : (c : Setup) (value : ℕ → Value) (w : World) → memory_of (after_sync c value w) ≡ synced (got c value w) (memory_of w)
sync_memory c value w =
    let F : List (List Slot) → Memory = λ f. record { frames = f; getting = [] } in
    ap F (slots_put_all w.getting (got c value w) w.cells)

plain_slots : (vs : List Value) → map slot_of (map plain vs) ≡ map has vs
plain_slots [] = refl
plain_slots (v ∷ vs) = ap (λ l. has v ∷ l) (plain_slots vs)

unset_slots : (n : ℕ) → map slot_of (replicate n unset) ≡ replicate n blank
unset_slots zero = refl
unset_slots (suc n) = ap (λ l. blank ∷ l) (unset_slots n)

pub called_slots : (c : Setup) (vs : List Value) (others : ℕ) → map slot_of (called_with c vs others) ≡ entered vs others
called_slots c vs others =
    map-append slot_of (map plain vs) (replicate others unset)
    ∙ ap (λ l. l ++ map slot_of (replicate others unset)) (plain_slots vs)
    ∙ ap (λ l. map has vs ++ l) (unset_slots others)

-- ---- what each may hold

pub set_cases : (xs : List Thing) (i j : ℕ) (v w : Thing) → slice_get (slice_set xs i v) j ≡ Some w
    → ((i ≡ j) × (w ≡ v)) ⊎ (slice_get xs j ≡ Some w)
set_cases [] i j v w h = inr h
set_cases (x ∷ xs) zero zero v w h = inl (refl, cc)
set_cases (x ∷ xs) zero (suc j) v w h = inr h
set_cases (x ∷ xs) (suc i) zero v w h = inr h
set_cases (x ∷ xs) (suc i) (suc j) v w h = deeper (set_cases xs i j v w h)
  where
    deeper : ((i ≡ j) × (w ≡ v)) ⊎ (slice_get xs j ≡ Some w) → ((suc i ≡ suc j) × (w ≡ v)) ⊎ (slice_get xs j ≡ Some w)
    deeper (inl e) = inl (ap suc e.0, e.1)
    deeper (inr g) = inr g

module _ (c : Setup) where
  -- a local's thing: a value that no read gave, or one that a read gave which fills the local
  abbrev pub IsCell : (fn x : ℕ) → Thing → Type 0
  IsCell fn x (val v None) = Unit {0}
  IsCell fn x (val v (Some k)) = c.Fills fn x k.counter
  IsCell fn x (awaited number) = Unit {0}

  pub record Held (fn : ℕ) (cells : List Thing) : Type 0 where
    pub count : length cells ≡ c.locals fn
    pub cell : (x : ℕ) (v : Thing) → slice_get cells x ≡ Some v → IsCell fn x v

  held_put : (fn : ℕ) (cells : List Thing) (x : ℕ) (v : Thing) → IsCell fn x v → Held fn cells → Held fn (slice_set cells x v)
  held_put fn cells x v new h = record {
    count = length-set cells x v ∙ h.count;
    cell = λ y w is. by_case y w (set_cases cells x y v w is);
  }
    where
      by_case : (y : ℕ) (w : Thing) → ((x ≡ y) × (w ≡ v)) ⊎ (slice_get cells y ≡ Some w) → IsCell fn y w
      by_case y w (inl e) = subst (λ u. IsCell fn y u) (sym e.1) (subst (λ i. IsCell fn i v) e.0 new)
      by_case y w (inr is) = h.cell y w is

  -- each frame's locals are those of its function
  abbrev pub HeldAll : List ℕ → List (List Thing) → Type 0
  HeldAll [] [] = Unit {0}
  HeldAll (fn ∷ fns) (f ∷ fs) = Held fn f × HeldAll fns fs
  HeldAll _ _ = ⊥

  pub held_top : (fn : ℕ) (fns : List ℕ) (cells : List (List Thing)) (x : ℕ) (v : Thing) → IsCell fn x v → HeldAll (fn ∷ fns) cells → HeldAll (fn ∷ fns) (put_top cells x v)
  held_top fn fns [] x v new h = absurd h
  held_top fn fns (f ∷ fs) x v new h = (held_put fn f x v new h.0, h.1)

  pub held_older : (fn : ℕ) (fns : List ℕ) (cells : List (List Thing)) → HeldAll (fn ∷ fns) cells → HeldAll fns (older cells)
  held_older fn fns [] h = absurd h
  held_older fn fns (f ∷ fs) h = h.1

  held_at : (fns : List ℕ) (s : Spot) (v : Value) (cells : List (List Thing)) → HeldAll fns cells → HeldAll fns (put_at s v cells)
  held_at [] s v [] h = tt
  held_at [] s v (f ∷ fs) h = absurd h
  held_at (fn ∷ fns) s v [] h = absurd h
  held_at (fn ∷ fns) s v (f ∷ fs) h = by_level (s.level == length fs) (held_at fns s v fs h.1)
    where
      by_level : (b : Bool) → HeldAll fns (put_at s v fs) → HeldAll (fn ∷ fns) (if b then slice_set f s.local (plain v) ∷ fs else f ∷ put_at s v fs)
      by_level true g = (held_put fn f s.local (plain v) tt h.0, h.1)
      by_level false g = (h.0, g)

  pub held_all : (fns : List ℕ) (ss : List Spot) (vs : List Value) (cells : List (List Thing)) → HeldAll fns cells → HeldAll fns (put_all ss vs cells)
  held_all fns [] vs cells h = h
  held_all fns (s ∷ ss) [] cells h = h
  held_all fns (s ∷ ss) (v ∷ vs) cells h = held_all fns ss vs (put_at s v cells) (held_at fns s v cells h)

  plain_cell : (fn : ℕ) (vs : List Value) (others x y : ℕ) (v : Thing) → slice_get (called_with c vs others) x ≡ Some v → IsCell fn y v
  plain_cell fn [] zero x y v h = absurd (cc)
  plain_cell fn [] (suc others) zero y v h = subst (λ u. IsCell fn y u) (let e : unset ≡ v = cc in e) tt
  plain_cell fn [] (suc others) (suc x) y v h = plain_cell fn [] others x y v h
  plain_cell fn (u ∷ vs) others zero y v h = subst (λ u. IsCell fn y u) (let e : plain u ≡ v = cc in e) tt
  plain_cell fn (u ∷ vs) others (suc x) y v h = plain_cell fn vs others x y v h

  pub held_called : (fn : ℕ) (vs : List Value) (others : ℕ) → length vs + others ≡ c.locals fn → Held fn (called_with c vs others)
  held_called fn vs others e = record {
    count = length-append (map plain vs) (replicate others unset) ∙ ap (λ n. n + length (replicate others unset)) (length-map vs plain)
        ∙ ap (λ n. length vs + n) (length-replicate others unset) ∙ e;
    cell = λ x v h. plain_cell fn vs others x x v h;
  }

  -- ---- where operands come from

  abbrev pub Comes : List ℕ → Option Token → Type 0
  Comes sites None = Unit {0}
  Comes sites (Some k) = In k.counter sites

  abbrev pub AllCome : List ℕ → List Worth → Type 0
  AllCome sites [] = Unit {0}
  AllCome sites (x ∷ xs) = Comes sites x.from × AllCome sites xs

  pub may_from : (t : ℕ) (from : Option Token) (sites : List ℕ) → Takes c t sites → Comes sites from → MayFrom c t from
  may_from t None sites takes h = tt
  may_from t (Some k) sites takes h = takes k.counter h

  pub all_may : (t : ℕ) (xs : List Worth) (sites : List ℕ) → Takes c t sites → AllCome sites xs → AllMay c t xs
  all_may t [] sites takes h = tt
  all_may t (x ∷ xs) sites takes h = (may_from t x.from sites takes h.0, all_may t xs sites takes h.1)

  pub comes_left : (from : Option Token) (xs ys : List ℕ) → Comes xs from → Comes (xs ++ ys) from
  comes_left None xs ys h = tt
  comes_left (Some k) xs ys h = in_left k.counter xs ys h

  pub comes_right : (from : Option Token) (xs ys : List ℕ) → Comes ys from → Comes (xs ++ ys) from
  comes_right None xs ys h = tt
  comes_right (Some k) xs ys h = in_right k.counter xs ys h

  pub all_right : (all : List Worth) (xs ys : List ℕ) → AllCome ys all → AllCome (xs ++ ys) all
  all_right [] xs ys h = tt
  all_right (x ∷ all) xs ys h = (comes_right x.from xs ys h.0, all_right all xs ys h.1)

  -- ---- what a local has, where the point names it

  pub record Had (w : World) (x : ℕ) : Type 0 where
    pub cell : Thing
    pub local : Local c w x cell

  had_cell : (fn x : ℕ) (w : World) → Touches c fn w.at x → (o : Thing) → slice_get (newest w.cells) x ≡ Some o → IsCell fn x o → Had w x
  had_cell fn x w touches (val v None) e h = record { cell = val v None; local = record { is = e; may = tt } }
  had_cell fn x w touches (val v (Some k)) e h = record { cell = val v (Some k); local = record { is = e; may = touches.demands k.counter h } }
  had_cell fn x w touches (awaited n) e h = record { cell = awaited n; local = record { is = e; may = tt } }

  held_newest : (fn : ℕ) (fns : List ℕ) (cells : List (List Thing)) → HeldAll (fn ∷ fns) cells → Held fn (newest cells)
  held_newest fn fns [] h = absurd h
  held_newest fn fns (f ∷ fs) h = h.0

  pub had : (fn x : ℕ) (fns : List ℕ) (w : World) → Touches c fn w.at x → HeldAll (fn ∷ fns) w.cells → Had w x
  had fn x fns w touches h =
      let held = held_newest fn fns w.cells h in
      let within : x < length (newest w.cells) = omega (arith, touches.within, held.count) in
      let is = slice_get-get_or (newest w.cells) x unset within in
      had_cell fn x w touches (slice_index_or (newest w.cells) x unset) is (held.cell x (slice_index_or (newest w.cells) x unset) is)
