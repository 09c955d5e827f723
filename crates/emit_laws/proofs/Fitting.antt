-- What holds of a world with ghosts so that the machine's state shows it, and what each step keeps of it.
use Rattle.std.proofs.Common.{◌≡◌, ⊎_elim, ℕ, zero, suc, ◌==◌, List, [], ◌∷◌, ◌++◌, map, reverse, Option, Some, None, Bool, true, false, ◌&&◌, ◌||◌, slice_set, if◌then◌else◌, refl, sym, ap, ◌∙◌, subst, arith}
use mathlib.Core.List.{reverse_aux}
use Rattle.std.proofs.lemmas.Bool.{and_from}
use Rattle.std.proofs.lemmas.Bool.Decides.{Decides-eqb}
use Rattle.sc_base.specs.declared.value.Value.{Value}
use Rattle.sc_layout.specs.Layout.{Arrangement}
use Rattle.sc_isa.specs.declared.operand.Operand.{Operand}
use Rattle.sc_isa.specs.declared.operand.Operand.TheVariants.{Here}
use Rattle.sc_isa.specs.declared.operand.Slot.{Slot}
use Rattle.sc_isa.specs.declared.operand.Slot.TheVariants.{Holds, Pending}
use Rattle.sc_isa.specs.Fitting.{fits, fits_all}
use Rattle.sc_isa.specs.State.{Frame, Flight, State, reads_on, value_at, land, land_slot, land_frame, landed}
use Rattle.emit_laws.proofs.Parts.{In, Setup}
use Rattle.emit_laws.proofs.Ghosts.{Token, Thing, val, awaited, Holder, World, newest, older, put_top, without, without_all, on_counter, Worth, things, worths, onto, MayFrom, AllMay, Ready, called_with}
use Rattle.emit_laws.proofs.Masks.{by_bool, no_way, flights, flies, index, reads_flights, without_flights, landing, mask_by, mask_from, mask_all, mask_slots, mask_callers, state_of, GivenBy, AllGiven, CellsGiven, FramesGiven, land_all, land_from, old_all, old_slots}
use Rattle.emit_laws.proofs.Standing.{Timely}

-- ---- operands from the top

onto_here : (vs acc : List Value) (rest : List Operand) → onto (map Here vs) (map Here acc ++ rest) ≡ map Here (reverse_aux vs acc) ++ rest
onto_here [] acc rest = refl
onto_here (v ∷ vs) acc rest = onto_here vs (v ∷ acc) rest

mask_onto : (fl : List Token) (xs rest : List Thing) → mask_all fl (onto xs rest) ≡ onto (mask_all fl xs) (mask_all fl rest)
mask_onto fl [] rest = refl
mask_onto fl (x ∷ xs) rest = mask_onto fl xs (x ∷ rest)

-- ---- each read that is no get

abbrev pub Each : (ℕ → Type 0) → List Token → Type 0
Each P [] = Unit {0}
Each P (t ∷ ts) = ((t.counter ≡ 0 → ⊥) → P t.counter) × Each P ts

pub each_map : (P Q : ℕ → Type 0) → ((a : ℕ) → P a → Q a) → (ts : List Token) → Each P ts → Each Q ts
each_map P Q f [] h = tt
each_map P Q f (t ∷ ts) h = (λ n. f t.counter (h.0 n), each_map P Q f ts h.1)

pub each_add : (P : ℕ → Type 0) (ts : List Token) (t : Token) → Each P ts → ((t.counter ≡ 0 → ⊥) → P t.counter) → Each P (ts ++ t ∷ [])
each_add P [] t h p = (p, tt)
each_add P (u ∷ ts) t h p = (h.0, each_add P ts t h.1 p)

pub each_of : (P : ℕ → Type 0) (k : Token) (ts : List Token) → Each P ts → flies k ts ≡ true → (k.counter ≡ 0 → ⊥) → P k.counter
each_of P k [] h e n = no_way (sym e)
each_of P k (t ∷ ts) h e n =
    by_bool (t.counter == k.counter)
    (λ f. let same : t.counter ≡ k.counter = (Decides-eqb t.counter k.counter).0 f in subst P same (h.0 (λ z. n (sym same ∙ z))))
    (λ f. each_of P k ts h.1 (sym (ap (λ b. b || flies k ts) (ap (λ b. (t.order == k.order) && b) f ∙ and_false (t.order == k.order))) ∙ e) n)
  where
    and_false : (b : Bool) → (b && false) ≡ false
    and_false true = refl
    and_false false = refl

each_without : (P : ℕ → Type 0) (w : ℕ) (ts : List Token) → Each P ts → Each (λ a. P a × (a ≡ w → ⊥)) (without w ts)
each_without P w [] h = tt
each_without P w (t ∷ ts) h = go (t.counter == w) refl (each_without P w ts h.1)
  where
    Q : ℕ → Type 0
    Q a = P a × (a ≡ w → ⊥)

    go : (b : Bool) → (t.counter == w) ≡ b → Each Q (without w ts) → Each Q (if b then without w ts else t ∷ without w ts)
    go true e g = g
    go false e g = (λ n. (h.0 n, λ f. no_way (sym ((Decides-eqb t.counter w).1 f) ∙ e)), g)

pub each_without_all : (P : ℕ → Type 0) (ws : List ℕ) (ts : List Token) → Each P ts → Each (λ a. P a × (In a ws → ⊥)) (without_all ws ts)
each_without_all P [] ts h = each_map P (λ a. P a × (In a [] → ⊥)) (λ a p. (p, λ f. f)) ts h
each_without_all P (w ∷ ws) ts h =
    let Q : ℕ → Type 0 = λ a. P a × (a ≡ w → ⊥) in
    each_map (λ a. Q a × (In a ws → ⊥)) (λ a. P a × (In a (w ∷ ws) → ⊥))
    (λ a q. (q.0.0, λ i. ⊎_elim (λ e. q.0.1 e) (λ j. q.1 j) i)) (without_all ws (without w ts))
    (each_without_all Q ws (without w ts) (each_without P w ts h))

pub each_only : (P : ℕ → Type 0) (w : ℕ) (ts : List Token) → Each P ts → Each P (without w ts)
each_only P w ts h = each_map (λ a. P a × (a ≡ w → ⊥)) P (λ a p. p.0) (without w ts) (each_without P w ts h)

module _ (c : Setup) (timely : Timely c) where
  -- what flies may come to each next point
  abbrev pub Coming : World → Type 0
  Coming w = (u : ℕ) → c.Goes w.at u → Each (timely.Open u) w.flying

  abbrev pub Calm : ℕ → ℕ → Type 0
  Calm t a = timely.Open t a × (In a (c.waits t) → ⊥)

  -- the point's waits are done
  abbrev pub Still : World → Type 0
  Still w = Each (Calm w.at) w.flying

  pub still : (t : ℕ) (w : World) → Coming w → c.Goes w.at t → Each (Calm t) (without_all (c.waits t) w.flying)
  still t w coming goes = each_without_all (timely.Open t) (c.waits t) w.flying (coming t goes)

  pub coming_on : (w : World) → Still w → Coming w
  coming_on w h u goes =
      each_map (Calm w.at) (timely.Open u) (λ a p. timely.goes_on w.at u a p.0 (λ d. p.1 (timely.waited w.at a p.0 d)) p.1 goes) w.flying h

  seen_by : (t : ℕ) (v : Value) (k : Token) (fl : List Token) → Each (Calm t) fl → c.Demand t k.counter → (k.counter ≡ 0 → ⊥) → (b : Bool) → flies k fl ≡ b
      → mask_by b k.counter (index k fl) v ≡ Here v
  seen_by t v k fl h demand n true e = let p = each_of (Calm t) k fl h e n in absurd (p.1 (timely.waited t k.counter p.0 demand))
  seen_by t v k fl h demand n false e = refl

  -- what the point takes has landed
  pub seen : (value : ℕ → Value) (n t : ℕ) (v : Value) (from : Option Token) (fl : List Token) → Each (Calm t) fl → MayFrom c t from → GivenBy value n (val v from)
      → mask_from fl v from ≡ Here v
  seen value n t v None fl h may given = refl
  seen value n t v (Some k) fl h may given = seen_by t v k fl h may given.2 (flies k fl) refl

  seen_all : (value : ℕ → Value) (n t : ℕ) (xs : List Worth) (fl : List Token) → Each (Calm t) fl → AllMay c t xs → AllGiven value n (things xs)
      → mask_all fl (things xs) ≡ map Here (worths xs)
  seen_all value n t [] fl h may given = refl
  seen_all value n t (x ∷ xs) fl h may given =
      let a = seen value n t x.value x.from fl h may.0 given.0 in
      let b = seen_all value n t xs fl h may.1 given.1 in cc

  pub given_onto : (value : ℕ → Value) (n : ℕ) (xs rest : List Thing) → AllGiven value n (onto xs rest) → AllGiven value n xs × AllGiven value n rest
  given_onto value n [] rest h = (tt, h)
  given_onto value n (x ∷ xs) rest h = let g = given_onto value n xs (x ∷ rest) h in ((g.1.0, g.0), g.1.1)

  -- the operands of a step of the point are its values
  pub taken_values : (value : ℕ → Value) (n count : ℕ) (stack : List Thing) (xs : List Worth) (rest : List Thing) (w : World) → Ready c count w.at stack xs rest
      → Still w → AllGiven value n stack → mask_all w.flying stack ≡ map Here (reverse (worths xs)) ++ mask_all w.flying rest
  taken_values value n count stack xs rest w ready h given =
      let fl = w.flying in
      let parts = given_onto value n (things xs) rest (subst (AllGiven value n) ready.is given) in
      ap (mask_all fl) ready.is ∙ mask_onto fl (things xs) rest
      ∙ ap (λ os. onto os (mask_all fl rest)) (seen_all value n w.at xs fl h ready.may parts.0)
      ∙ onto_here (worths xs) [] (mask_all fl rest)

-- ---- values that a read gave

module _ (value : ℕ → Value) where
  given_more : (n : ℕ) (x : Thing) → GivenBy value n x → GivenBy value (suc n) x
  given_more n (val v None) h = tt
  given_more n (val v (Some k)) h = (h.0, omega (arith, h.1), h.2)
  given_more n (awaited number) h = tt

  pub all_more : (n : ℕ) (xs : List Thing) → AllGiven value n xs → AllGiven value (suc n) xs
  all_more n [] h = tt
  all_more n (x ∷ xs) h = (given_more n x h.0, all_more n xs h.1)

  pub cells_more : (n : ℕ) (fs : List (List Thing)) → CellsGiven value n fs → CellsGiven value (suc n) fs
  cells_more n [] h = tt
  cells_more n (f ∷ fs) h = (all_more n f h.0, cells_more n fs h.1)

  pub frames_more : (n : ℕ) (hs : List Holder) → FramesGiven value n hs → FramesGiven value (suc n) hs
  frames_more n [] h = tt
  frames_more n (f ∷ hs) h = (all_more n f.stack h.0, frames_more n hs h.1)

  pub all_set : (n : ℕ) (xs : List Thing) (i : ℕ) (v : Thing) → GivenBy value n v → AllGiven value n xs → AllGiven value n (slice_set xs i v)
  all_set n [] i v new h = tt
  all_set n (x ∷ xs) zero v new h = (new, h.1)
  all_set n (x ∷ xs) (suc i) v new h = (h.0, all_set n xs i v new h.1)

  pub cells_top : (n : ℕ) (fs : List (List Thing)) (x : ℕ) (v : Thing) → GivenBy value n v → CellsGiven value n fs → CellsGiven value n (put_top fs x v)
  cells_top n [] x v new h = tt
  cells_top n (f ∷ fs) x v new h = (all_set n f x v new h.0, h.1)

  pub cells_older : (n : ℕ) (fs : List (List Thing)) → CellsGiven value n fs → CellsGiven value n (older fs)
  cells_older n [] h = tt
  cells_older n (f ∷ fs) h = h.1

  pub cells_newest : (n : ℕ) (fs : List (List Thing)) → CellsGiven value n fs → AllGiven value n (newest fs)
  cells_newest n [] h = tt
  cells_newest n (f ∷ fs) h = h.0

  pub called_given : (c : Setup) (n : ℕ) (vs : List Value) (others : ℕ) → AllGiven value n (called_with c vs others)
  called_given c n [] zero = tt
  called_given c n [] (suc others) = (tt, called_given c n [] others)
  called_given c n (v ∷ vs) others = (tt, called_given c n vs others)

  -- ---- one wait of the plan, on the machine's state

  land_slots : (n w : ℕ) (fl : List Token) (xs : List Thing) → (w ≡ 0 → ⊥) → AllGiven value n xs
      → map (land_slot w (landing value w fl)) (mask_slots fl xs) ≡ mask_slots (without w fl) xs
  land_slots n w fl [] z h = refl
  land_slots n w fl (val v from ∷ xs) z h =
      let a : Holds (land w (landing value w fl) (mask_from fl v from)) ≡ Holds (mask_from (without w fl) v from) = ap Holds (land_from value n w fl v from h.0) in
      let b = land_slots n w fl xs z h.1 in cc
  land_slots n w fl (awaited number ∷ xs) z h =
      ap (λ b. (if b then Holds (Here (value_at (landing value w fl) number)) else Pending number) ∷ map (land_slot w (landing value w fl)) (mask_slots fl xs))
      (by_bool (w == 0) (λ e. absurd (z ((Decides-eqb w 0).0 e))) (λ e. e))
      ∙ ap (λ l. Pending number ∷ l) (land_slots n w fl xs z h.1)

  pub same_frame : (at : ℕ) {s s' : List Operand} {l l' : List Slot} → s ≡ s' → l ≡ l'
      → (let F : List Operand → List Slot → Frame = λ s l. record { at = at; stack = s; locals = l } in F s l ≡ F s' l')
  same_frame at {s} {s'} {l} {l'} a b =
      let F : List Operand → List Slot → Frame = λ s l. record { at = at; stack = s; locals = l } in
      ap (λ x. F x l) a ∙ ap (λ x. F s' x) b

  land_callers : (n w : ℕ) (fl : List Token) (hs : List Holder) (fs : List (List Thing)) → (w ≡ 0 → ⊥) → FramesGiven value n hs → CellsGiven value n fs
      → map (land_frame w (landing value w fl)) (mask_callers fl hs fs) ≡ mask_callers (without w fl) hs fs
  land_callers n w fl [] fs z h g = refl
  land_callers n w fl (f ∷ hs) fs z h g =
      let a = same_frame f.pc (land_all value n w fl f.stack h.0) (land_slots n w fl (newest fs) z (cells_newest n fs g)) in
      let b = land_callers n w fl hs (older fs) z h.1 (cells_older n fs g) in cc

  abbrev pub state_with : (left : ℕ) → Frame → List Frame → List Flight → State
  state_with left frame callers fl = record { frame = frame; callers = callers; left = left; flying = fl }

  pub same_state : (left : ℕ) {f f' : Frame} {fs fs' : List Frame} {fl fl' : List Flight} → f ≡ f' → fs ≡ fs' → fl ≡ fl'
      → state_with left f fs fl ≡ state_with left f' fs' fl'
  same_state left {f} {f'} {fs} {fs'} {fl} {fl'} a b d =
      ap (λ x. state_with left x fs fl) a ∙ ap (λ x. state_with left f' x fl) b ∙ ap (λ x. state_with left f' fs' x) d

  pub landed_state : (n w pc : ℕ) (stack : List Thing) (frames : List Holder) (world : World) → (w ≡ 0 → ⊥) → AllGiven value n stack → FramesGiven value n frames
      → CellsGiven value n world.cells
      → landed w (landing value w world.flying) (state_of pc stack frames world) ≡ state_of pc stack frames (record world { flying = without w world.flying })
  landed_state n w pc stack frames world z hs hf hc =
      same_state world.left
      (same_frame pc (land_all value n w world.flying stack hs) (land_slots n w world.flying (newest world.cells) z (cells_newest n world.cells hc)))
      (land_callers n w world.flying frames (older world.cells) z hf (cells_older n world.cells hc))
      (without_flights w world.flying)

  -- ---- one read more

  pub old_callers : (n : ℕ) (fl : List Token) (t : Token) (hs : List Holder) (fs : List (List Thing)) → t.order ≡ n → FramesGiven value n hs → CellsGiven value n fs
      → mask_callers (fl ++ t ∷ []) hs fs ≡ mask_callers fl hs fs
  old_callers n fl t [] fs e h g = refl
  old_callers n fl t (f ∷ hs) fs e h g =
      let a = same_frame f.pc (old_all value n fl t f.stack e h.0) (old_slots value n fl t (newest fs) e (cells_newest n fs g)) in
      let b = old_callers n fl t hs (older fs) e h.1 (cells_older n fs g) in cc

  -- ---- what flies fits

  abbrev pub AllFit : Arrangement → List Token → Type 0
  AllFit layout [] = Unit {0}
  AllFit layout (t ∷ ts) = ((t.counter ≡ 0 → ⊥) → fits layout t.place (value t.order) ≡ true) × AllFit layout ts

  pub fit_add : (layout : Arrangement) (ts : List Token) (t : Token) → ((t.counter ≡ 0 → ⊥) → fits layout t.place (value t.order) ≡ true)
      → AllFit layout ts → AllFit layout (ts ++ t ∷ [])
  fit_add layout [] t new h = (new, tt)
  fit_add layout (u ∷ ts) t new h = (h.0, fit_add layout ts t new h.1)

  pub fit_without : (layout : Arrangement) (w : ℕ) (ts : List Token) → AllFit layout ts → AllFit layout (without w ts)
  fit_without layout w [] h = tt
  fit_without layout w (t ∷ ts) h = go (t.counter == w) (fit_without layout w ts h.1)
    where
      go : (b : Bool) → AllFit layout (without w ts) → AllFit layout (if b then without w ts else t ∷ without w ts)
      go true g = g
      go false g = (h.0, g)

  fit_on : (layout : Arrangement) (w : ℕ) (ts : List Token) → (w ≡ 0 → ⊥) → AllFit layout ts
      → fits_all layout (map (λ t. t.place) (on_counter w ts)) (landing value w ts) ≡ true
  fit_on layout w [] z h = refl
  fit_on layout w (t ∷ ts) z h = go (t.counter == w) refl (fit_on layout w ts z h.1)
    where
      go : (b : Bool) → (t.counter == w) ≡ b → fits_all layout (map (λ t. t.place) (on_counter w ts)) (landing value w ts) ≡ true
          → fits_all layout (map (λ t. t.place) (if b then t ∷ on_counter w ts else on_counter w ts)) (map (λ t. value t.order) (if b then t ∷ on_counter w ts else on_counter w ts)) ≡ true
      go true e g = and_from (fits layout t.place (value t.order)) _ (h.0 (λ y. z (sym ((Decides-eqb t.counter w).0 e) ∙ y))) g
      go false e g = g

  pub wait_fits : (layout : Arrangement) (w : ℕ) (ts : List Token) → (w ≡ 0 → ⊥) → AllFit layout ts
      → fits_all layout (reads_on w (flights ts)) (landing value w ts) ≡ true
  wait_fits layout w ts z h = ap (λ ps. fits_all layout ps (landing value w ts)) (reads_flights w ts) ∙ fit_on layout w ts z h
