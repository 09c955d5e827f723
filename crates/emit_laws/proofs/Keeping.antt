-- What fits a world with ghosts, and what each step makes of it and of the machine's state.
use Rattle.std.proofs.Common.{◌≡◌, ℕ, zero, suc, ◌+◌, ◌-◌, ◌<◌, ◌==◌, List, [], ◌∷◌, ◌++◌, length, map, Option, Some, None, Bool, true, false, slice_get, slice_set, if◌then◌else◌, refl, sym, ap, ◌∙◌, subst, arith}
use Rattle.std.specs.Prelude.{replicate}
use Rattle.std.proofs.lemmas.List.{map-set, map-append, length-map}
use Rattle.std.proofs.lemmas.Bool.Decides.{Decides-eqb}
use Rattle.sc_base.specs.declared.value.Place.{Place}
use Rattle.sc_base.specs.declared.value.Value.{Value}
use Rattle.sc_isa.specs.declared.code.FnRow.{FnRow}
use Rattle.sc_isa.specs.declared.operand.Operand.TheVariants.{Here, Landing}
use Rattle.sc_isa.specs.declared.operand.Slot.TheVariants.{Holds, Pending}
use Rattle.sc_isa.specs.Fitting.{fits}
use Rattle.sc_isa.specs.State.{blank, with_local, with_left, flown as machine_flown, reads_on, next_number, value_at, land, land_slot, land_frame, landed}
use Rattle.sc_isa.specs.Moves.{reading_in, call_of}
use Rattle.sc_meaning.specs.Memory.{Spot, places}
use Rattle.emit_laws.proofs.Parts.{Setup}
use Rattle.emit_laws.proofs.Ghosts.{Token, Thing, val, awaited, plain, Holder, World, memory_of, newest, older, put_top, without, on_counter, Worth, things, onto, Ready, token, flown, one_more, into, with_get, called_with, fetched, got, after_sync}
use Rattle.emit_laws.proofs.Masks.{by_bool, flight_of, flights, reads_flights, without_flights, landing, AllBelow, below_more, below_new, below_without, on_append, mask, mask_from, mask_slot, mask_all, mask_slots, mask_callers, state_of, GivenBy, AllGiven, CellsGiven, FramesGiven, land_from, land_all, old_all, old_slots, new_mask}
use Rattle.emit_laws.proofs.Fitting.{all_more, cells_more, frames_more, cells_top, cells_older, cells_newest, called_given, same_frame, same_state, old_callers, AllFit, fit_add, fit_without}
use Rattle.emit_laws.proofs.Awaited.{KnownAt, Known, Spots, fill_all, sync_fills, fill_all_val, fill_all_at, known_within, spots_called, spots_older, spots_put, spots_get, spots_synced}

pub append_nil : {A : Type 0} (xs : List A) → xs ++ [] ≡ xs
append_nil [] = refl
append_nil (x ∷ xs) = ap (λ l. x ∷ l) (append_nil xs)

abbrev place_of : Token → Place
place_of t = t.place

abbrev spot_place : Spot → Place
spot_place s = s.place

newest_put : (cells : List (List Thing)) (x : ℕ) (v : Thing) → newest (put_top cells x v) ≡ slice_set (newest cells) x v
newest_put [] x v = refl
newest_put (f ∷ fs) x v = refl

older_put : (cells : List (List Thing)) (x : ℕ) (v : Thing) → older (put_top cells x v) ≡ older cells
older_put [] x v = refl
older_put (f ∷ fs) x v = refl

pub not_zero : (n : ℕ) → 0 < n → n ≡ 0 → ⊥
not_zero n l e = omega (arith, l, e)

pub on_other : (t : Token) (fl : List Token) → (t.counter ≡ 0 → ⊥) → on_counter 0 (fl ++ t ∷ []) ≡ on_counter 0 fl
on_other t fl other =
    on_append 0 t fl
    ∙ ap (λ b. on_counter 0 fl ++ (if b then t ∷ [] else [])) (by_bool (t.counter == 0) (λ e. absurd (other ((Decides-eqb t.counter 0).0 e))) (λ e. e))
    ∙ append_nil (on_counter 0 fl)

pub on_same : (t : Token) (fl : List Token) → t.counter ≡ 0 → on_counter 0 (fl ++ t ∷ []) ≡ on_counter 0 fl ++ t ∷ []
on_same t fl same = on_append 0 t fl ∙ ap (λ b. on_counter 0 fl ++ (if b then t ∷ [] else [])) ((Decides-eqb t.counter 0).1 same)

pub on_without : (w : ℕ) (fl : List Token) → (w ≡ 0 → ⊥) → on_counter 0 (without w fl) ≡ on_counter 0 fl
on_without w [] z = refl
on_without w (t ∷ ts) z = go (t.counter == w) refl (on_without w ts z)
  where
    go : (b : Bool) → (t.counter == w) ≡ b → on_counter 0 (without w ts) ≡ on_counter 0 ts
        → on_counter 0 (if b then without w ts else t ∷ without w ts) ≡ on_counter 0 (t ∷ ts)
    go true e h =
        h ∙ sym (ap (λ b. if b then t ∷ on_counter 0 ts else on_counter 0 ts)
        (by_bool (t.counter == 0) (λ f. absurd (z (sym ((Decides-eqb t.counter w).0 e) ∙ (Decides-eqb t.counter 0).0 f))) (λ f. f)))
    go false e h = ap (λ l. if t.counter == 0 then t ∷ l else l) h

pub none_on : (w : ℕ) (fl : List Token) → on_counter w (without w fl) ≡ []
none_on w [] = refl
none_on w (t ∷ ts) = go (t.counter == w) refl (none_on w ts)
  where
    go : (b : Bool) → (t.counter == w) ≡ b → on_counter w (without w ts) ≡ [] → on_counter w (if b then without w ts else t ∷ without w ts) ≡ []
    go true e h = h
    go false e h = ap (λ b. if b then t ∷ on_counter w (without w ts) else on_counter w (without w ts)) e ∙ h

module _ (c : Setup) (value : ℕ → Value) where
  pub record Fit (stack : List Thing) (frames : List Holder) (w : World) : Type 0 where
    pub on_stack : AllGiven value w.accesses stack
    pub in_cells : CellsGiven value w.accesses w.cells
    pub in_frames : FramesGiven value w.accesses frames
    pub below : AllBelow w.accesses w.flying
    pub fit : AllFit value c.here.layout w.flying
    -- the gets are those of the source
    pub gets : map spot_place w.getting ≡ map place_of (on_counter 0 w.flying)
    pub spots : Spots w.getting w.cells

  pub rest_given : {count t : ℕ} (n : ℕ) (stack : List Thing) (xs : List Worth) (rest : List Thing) → Ready c count t stack xs rest
      → AllGiven value n stack → AllGiven value n rest
  rest_given n stack xs rest ready h = onto_rest n (things xs) rest (subst (AllGiven value n) ready.is h)
    where
      onto_rest : (n : ℕ) (xs rest : List Thing) → AllGiven value n (onto xs rest) → AllGiven value n rest
      onto_rest n [] rest h = h
      onto_rest n (x ∷ xs) rest h = (onto_rest n xs (x ∷ rest) h).1

  pub with_stack : {stack : List Thing} (new : List Thing) {frames : List Holder} {w : World} → AllGiven value w.accesses new → Fit stack frames w → Fit new frames w
  with_stack new h fit = record { on_stack = h; in_cells = fit.in_cells; in_frames = fit.in_frames; below = fit.below; fit = fit.fit; gets = fit.gets; spots = fit.spots }

  pub fit_at : (t left : ℕ) {stack : List Thing} {frames : List Holder} {w : World} → Fit stack frames w → Fit stack frames (record w { at = t; left = left })
  fit_at t left fit = record { on_stack = fit.on_stack; in_cells = fit.in_cells; in_frames = fit.in_frames; below = fit.below; fit = fit.fit; gets = fit.gets; spots = fit.spots }

  pub fit_waited : (counter : ℕ) {stack : List Thing} {frames : List Holder} {w : World} → (counter ≡ 0 → ⊥) → Fit stack frames w
      → Fit stack frames (record w { flying = without counter w.flying })
  fit_waited counter {w = w} z fit = record {
    on_stack = fit.on_stack;
    in_cells = fit.in_cells;
    in_frames = fit.in_frames;
    below = below_without w.accesses counter w.flying fit.below;
    fit = fit_without value c.here.layout counter w.flying fit.fit;
    gets = fit.gets ∙ ap (map place_of) (sym (on_without counter w.flying z));
    spots = fit.spots;
  }

  pub fit_into : (x : ℕ) (v : Value) (old : Value) (from : Option Token) {stack : List Thing} {frames : List Holder} {w : World}
      → slice_get (newest w.cells) x ≡ Some (val old from) → Fit stack frames w → Fit stack frames (into c w x (plain v))
  fit_into x v old from {w = w} is fit = record {
    on_stack = fit.on_stack;
    in_frames = fit.in_frames;
    below = fit.below;
    fit = fit.fit;
    gets = fit.gets;
    in_cells = cells_top value w.accesses w.cells x (plain v) tt fit.in_cells;
    spots = spots_put w.getting w.cells x old from v None is fit.spots;
  }

  pub fit_one_more : {stack : List Thing} {frames : List Holder} {w : World} → Fit stack frames w → Fit stack frames (one_more c w)
  fit_one_more {stack} {frames} {w} fit = record {
    on_stack = all_more value w.accesses stack fit.on_stack;
    in_cells = cells_more value w.accesses w.cells fit.in_cells;
    in_frames = frames_more value w.accesses frames fit.in_frames;
    below = below_more w.accesses (suc w.accesses) w.flying (omega arith) fit.below;
    fit = fit.fit;
    gets = fit.gets;
    spots = fit.spots;
  }

  pub fit_flown : (site : ℕ) (p : Place) {stack : List Thing} {frames : List Holder} {w : World} → (site ≡ 0 → ⊥)
      → fits c.here.layout p (value w.accesses) ≡ true → Fit stack frames w → Fit stack frames (flown c w site p)
  fit_flown site p {stack} {frames} {w} z fits_ fit = record {
    on_stack = all_more value w.accesses stack fit.on_stack;
    in_cells = cells_more value w.accesses w.cells fit.in_cells;
    in_frames = frames_more value w.accesses frames fit.in_frames;
    below = below_new w.accesses (suc w.accesses) w.flying (token c w site p) (omega arith) refl fit.below;
    fit = fit_add value c.here.layout w.flying (token c w site p) (λ n. fits_) fit.fit;
    gets = fit.gets ∙ ap (map place_of) (sym (on_other (token c w site p) w.flying z));
    spots = fit.spots;
  }

  pub fit_fetched : (site : ℕ) (p : Place) {stack : List Thing} {frames : List Holder} {w : World} → (site ≡ 0 → ⊥)
      → fits c.here.layout p (value w.accesses) ≡ true → Fit stack frames w → Fit (fetched c value w site p ∷ stack) frames (flown c w site p)
  fit_fetched site p {stack} {frames} {w} z fits_ fit =
      let f = fit_flown site p z fits_ fit in with_stack (fetched c value w site p ∷ stack) ((refl, omega arith, z), f.on_stack) f

  pub fit_filled : (site x : ℕ) (p : Place) (old : Value) (from : Option Token) {stack : List Thing} {frames : List Holder} {w : World} → (site ≡ 0 → ⊥)
      → fits c.here.layout p (value w.accesses) ≡ true → slice_get (newest w.cells) x ≡ Some (val old from) → Fit stack frames w
      → Fit stack frames (into c (flown c w site p) x (fetched c value w site p))
  fit_filled site x p old from {w = w} z fits_ is fit =
      let f = fit_flown site p z fits_ fit in
      record {
        on_stack = f.on_stack;
        in_frames = f.in_frames;
        below = f.below;
        fit = f.fit;
        gets = f.gets;
        in_cells = cells_top value (suc w.accesses) w.cells x (fetched c value w site p) (refl, omega arith, z) f.in_cells;
        spots = spots_put w.getting w.cells x old from (value w.accesses) (Some (token c w site p)) is fit.spots;
      }

  pub fit_get : (x : ℕ) (p : Place) (old : Value) (from : Option Token) {stack : List Thing} {frames : List Holder} {w : World}
      → slice_get (newest w.cells) x ≡ Some (val old from) → Fit stack frames w → Fit stack frames (with_get c w x p)
  fit_get x p old from {stack} {frames} {w} is fit = record {
    on_stack = all_more value w.accesses stack fit.on_stack;
    in_cells = cells_more value w.accesses (put_top w.cells x (awaited (length w.getting))) (cells_top value w.accesses w.cells x (awaited (length w.getting)) tt fit.in_cells);
    in_frames = frames_more value w.accesses frames fit.in_frames;
    below = below_new w.accesses (suc w.accesses) w.flying (token c w 0 p) (omega arith) refl fit.below;
    fit = fit_add value c.here.layout w.flying (token c w 0 p) (λ n. absurd (n refl)) fit.fit;
    gets = map-append spot_place w.getting (record { level = length (older w.cells); local = x; place = p } ∷ []) ∙ ap (λ l. l ++ p ∷ []) fit.gets
        ∙ sym (ap (map place_of) (on_same (token c w 0 p) w.flying refl) ∙ map-append place_of (on_counter 0 w.flying) (token c w 0 p ∷ []));
    spots = spots_get w.getting w.cells x p old from is fit.spots;
  }

  pub got_length : {stack : List Thing} {frames : List Holder} (w : World) → Fit stack frames w → length (got c value w) ≡ length w.getting
  got_length w fit =
      length-map (on_counter 0 w.flying) (λ t. value t.order)
      ∙ sym (length-map (on_counter 0 w.flying) place_of) ∙ sym (ap length fit.gets) ∙ length-map w.getting spot_place

  fill_given : (n k : ℕ) (vs : List Value) (d : Thing) → GivenBy value n d → GivenBy value n (fill_all k vs d)
  fill_given n k [] d h = h
  fill_given n k (v ∷ vs) (val u from) h = fill_given n (k + 1) vs (val u from) h
  fill_given n k (v ∷ vs) (awaited m) h = go (m == k) (fill_given n (k + 1) vs (plain v) tt) (fill_given n (k + 1) vs (awaited m) tt)
    where
      go : (b : Bool) → GivenBy value n (fill_all (k + 1) vs (plain v)) → GivenBy value n (fill_all (k + 1) vs (awaited m))
          → GivenBy value n (fill_all (k + 1) vs (if b then plain v else awaited m))
      go true a b = a
      go false a b = b

  fills_given : (n : ℕ) (vs : List Value) (cells : List (List Thing)) → CellsGiven value n cells → CellsGiven value n (map (map (fill_all 0 vs)) cells)
  fills_given n vs [] h = tt
  fills_given n vs (f ∷ fs) h = (all f h.0, fills_given n vs fs h.1)
    where
      all : (xs : List Thing) → AllGiven value n xs → AllGiven value n (map (fill_all 0 vs) xs)
      all [] h = tt
      all (x ∷ xs) h = (fill_given n 0 vs x h.0, all xs h.1)

  pub fit_synced : {stack : List Thing} {frames : List Holder} {w : World} → Fit stack frames w → Fit stack frames (after_sync c value w)
  fit_synced {stack} {frames} {w} fit =
      let l = got_length w fit in
      record {
        on_stack = fit.on_stack;
        in_frames = fit.in_frames;
        in_cells = subst (CellsGiven value w.accesses) (sym (sync_fills w.getting (got c value w) w.cells l fit.spots)) (fills_given w.accesses (got c value w) w.cells fit.in_cells);
        below = below_without w.accesses 0 w.flying fit.below;
        fit = fit_without value c.here.layout 0 w.flying fit.fit;
        gets = ap (map place_of) (sym (none_on 0 w.flying));
        spots = spots_synced w.getting (got c value w) w.cells l fit.spots;
      }

  pub fit_called : (vs : List Value) (others left end : ℕ) (rest : List Thing) {frames : List Holder} {w : World} → Fit rest frames w
      → Fit [] (record { pc = end; stack = rest } ∷ frames) (record w { cells = called_with c vs others ∷ w.cells; left = left })
  fit_called vs others left end rest {frames} {w} fit = record {
    on_stack = tt;
    in_cells = (called_given value c w.accesses vs others, fit.in_cells);
    in_frames = (fit.on_stack, fit.in_frames);
    below = fit.below;
    fit = fit.fit;
    gets = fit.gets;
    spots = spots_called c w.getting vs others w.cells fit.spots;
  }

  pub fit_returned : (v : Value) {stack : List Thing} (f : Holder) {frames : List Holder} {w : World}
      → ((x n : ℕ) → slice_get (newest w.cells) x ≡ Some (awaited n) → ⊥) → Fit stack (f ∷ frames) w → Fit (plain v ∷ f.stack) frames (record w { cells = older w.cells })
  fit_returned v f {frames} {w} none fit = record {
    on_stack = (tt, fit.in_frames.0);
    in_cells = cells_older value w.accesses w.cells fit.in_cells;
    in_frames = fit.in_frames.1;
    below = fit.below;
    fit = fit.fit;
    gets = fit.gets;
    spots = spots_older w.getting w.cells none fit.spots;
  }

  -- ---- the machine's states

  pub length_callers : (fl : List Token) (hs : List Holder) (fs : List (List Thing)) → length (mask_callers fl hs fs) ≡ length hs
  length_callers fl [] fs = refl
  length_callers fl (h ∷ hs) fs = ap suc (length_callers fl hs (older fs))

  number_is : (counter : ℕ) (fl : List Token) → length (reads_on counter (flights fl)) ≡ length (on_counter counter fl)
  number_is counter fl = ap length (reads_flights counter fl) ∙ length-map (on_counter counter fl) place_of

  flights_more : (fl : List Token) (t : Token) → flights fl ++ flight_of t ∷ [] ≡ flights (fl ++ t ∷ [])
  flights_more fl t = sym (map-append flight_of fl (t ∷ []))

  pub read_state : (end site : ℕ) (p : Place) (rest : List Thing) (frames : List Holder) (w : World) → Fit rest frames w
      → reading_in site (state_of end rest frames w) p ≡ state_of end (fetched c value w site p ∷ rest) frames (flown c w site p)
  read_state end site p rest frames w fit =
      let t = token c w site p in
      let top : Landing site (length (reads_on site (flights w.flying))) ≡ mask (w.flying ++ t ∷ []) (fetched c value w site p) =
      ap (Landing site) (number_is site w.flying) ∙ sym (new_mask w.flying t (value w.accesses) fit.below) in
      same_state value w.left
      (same_frame value end
      (ap (λ o. o ∷ mask_all w.flying rest) top ∙ ap (λ l. mask (w.flying ++ t ∷ []) (fetched c value w site p) ∷ l) (sym (old_all value w.accesses w.flying t rest refl fit.on_stack)))
      (sym (old_slots value w.accesses w.flying t (newest w.cells) refl (cells_newest value w.accesses w.cells fit.in_cells))))
      (sym (old_callers value w.accesses w.flying t frames (older w.cells) refl fit.in_frames (cells_older value w.accesses w.cells fit.in_cells)))
      (flights_more w.flying t)

  -- a local set while nothing is read
  pub into_state : (end x : ℕ) (v : Value) (rest : List Thing) (frames : List Holder) (w : World)
      → with_local x (Holds (Here v)) (state_of end rest frames w) ≡ state_of end rest frames (into c w x (plain v))
  into_state end x v rest frames w =
      same_state value w.left
      (same_frame value end refl (sym (ap (mask_slots w.flying) (newest_put w.cells x (plain v)) ∙ map-set (mask_slot w.flying) (newest w.cells) x (plain v))))
      (ap (mask_callers w.flying frames) (sym (older_put w.cells x (plain v)))) refl

  locals_after : (t : Token) (x : ℕ) (v : Thing) (w : World) → t.order ≡ w.accesses → CellsGiven value w.accesses w.cells
      → slice_set (mask_slots w.flying (newest w.cells)) x (mask_slot (w.flying ++ t ∷ []) v) ≡ mask_slots (w.flying ++ t ∷ []) (newest (put_top w.cells x v))
  locals_after t x v w e given =
      ap (λ l. slice_set l x (mask_slot (w.flying ++ t ∷ []) v)) (sym (old_slots value w.accesses w.flying t (newest w.cells) e (cells_newest value w.accesses w.cells given)))
      ∙ sym (ap (mask_slots (w.flying ++ t ∷ [])) (newest_put w.cells x v) ∙ map-set (mask_slot (w.flying ++ t ∷ [])) (newest w.cells) x v)

  pub fill_state : (end site x : ℕ) (p : Place) (rest : List Thing) (frames : List Holder) (w : World) → Fit rest frames w
      → with_local x (Holds (Landing site (next_number site (state_of end rest frames w)))) (machine_flown site p (state_of end rest frames w))
      ≡ state_of end rest frames (into c (flown c w site p) x (fetched c value w site p))
  fill_state end site x p rest frames w fit =
      let t = token c w site p in
      let top : Holds (Landing site (length (reads_on site (flights w.flying)))) ≡ mask_slot (w.flying ++ t ∷ []) (fetched c value w site p) =
      ap (λ n. Holds (Landing site n)) (number_is site w.flying) ∙ ap Holds (sym (new_mask w.flying t (value w.accesses) fit.below)) in
      same_state value w.left
      (same_frame value end (sym (old_all value w.accesses w.flying t rest refl fit.on_stack))
      (ap (slice_set (mask_slots w.flying (newest w.cells)) x) top ∙ locals_after t x (fetched c value w site p) w refl fit.in_cells))
      (sym (old_callers value w.accesses w.flying t frames (older w.cells) refl fit.in_frames (cells_older value w.accesses w.cells fit.in_cells))
      ∙ ap (mask_callers (w.flying ++ t ∷ []) frames) (sym (older_put w.cells x (fetched c value w site p))))
      (flights_more w.flying t)

  pub get_state : (end x : ℕ) (p : Place) (rest : List Thing) (frames : List Holder) (w : World) → Fit rest frames w
      → with_local x (Pending (next_number 0 (state_of end rest frames w))) (machine_flown 0 p (state_of end rest frames w)) ≡ state_of end rest frames (with_get c w x p)
  get_state end x p rest frames w fit =
      let t = token c w 0 p in
      let number : length (reads_on 0 (flights w.flying)) ≡ length w.getting =
      number_is 0 w.flying ∙ sym (length-map (on_counter 0 w.flying) place_of) ∙ sym (ap length fit.gets) ∙ length-map w.getting spot_place in
      same_state value w.left
      (same_frame value end (sym (old_all value w.accesses w.flying t rest refl fit.on_stack))
      (ap (λ n. slice_set (mask_slots w.flying (newest w.cells)) x (Pending n)) number ∙ locals_after t x (awaited (length w.getting)) w refl fit.in_cells))
      (sym (old_callers value w.accesses w.flying t frames (older w.cells) refl fit.in_frames (cells_older value w.accesses w.cells fit.in_cells))
      ∙ ap (mask_callers (w.flying ++ t ∷ []) frames) (sym (older_put w.cells x (awaited (length w.getting)))))
      (flights_more w.flying t)

  -- ---- a sync

  abbrev KnownIn : List Spot → (level : ℕ) → List Thing → Type 0
  KnownIn getting level f = (x n : ℕ) → slice_get f x ≡ Some (awaited n) → KnownAt getting level x n

  sync_slots : (n : ℕ) (getting : List Spot) (vs : List Value) (fl : List Token) (level : ℕ) (xs : List Thing) → vs ≡ landing value 0 fl → length vs ≡ length getting
      → ((m : ℕ) (x : ℕ) → slice_get xs x ≡ Some (awaited m) → m < length getting)
      → AllGiven value n xs → map (land_slot 0 vs) (mask_slots fl xs) ≡ mask_slots (without 0 fl) (map (fill_all 0 vs) xs)
  sync_slots n getting vs fl level [] e l known h = refl
  sync_slots n getting vs fl level (val v from ∷ xs) e l known h =
      let a : Holds (land 0 vs (mask_from fl v from)) ≡ mask_slot (without 0 fl) (fill_all 0 vs (val v from)) =
      ap Holds (subst (λ vs. land 0 vs (mask_from fl v from) ≡ mask_from (without 0 fl) v from) (sym e) (land_from value n 0 fl v from h.0))
      ∙ ap (mask_slot (without 0 fl)) (sym (fill_all_val 0 vs v from)) in
      let b = sync_slots n getting vs fl level xs e l (λ m x is. known m (suc x) is) h.1 in cc
  sync_slots n getting vs fl level (awaited m ∷ xs) e l known h =
      let k = known m zero refl in
      let a : Holds (Here (value_at vs m)) ≡ mask_slot (without 0 fl) (fill_all 0 vs (awaited m)) = ap (mask_slot (without 0 fl)) (sym (fill_all_at m vs (omega (arith, k, l)))) in
      let b = sync_slots n getting vs fl level xs e l (λ m x is. known m (suc x) is) h.1 in cc

  known_newest : (getting : List Spot) (cells : List (List Thing)) → Known getting cells → (m x : ℕ) → slice_get (newest cells) x ≡ Some (awaited m) → m < length getting
  known_newest getting [] h m x is = absurd (cc)
  known_newest getting (f ∷ fs) h m x is = known_within getting (length fs) x m (h.0 x m is)

  known_older : (getting : List Spot) (cells : List (List Thing)) → Known getting cells → Known getting (older cells)
  known_older getting [] h = tt
  known_older getting (f ∷ fs) h = h.1

  newest_map : (g : List Thing → List Thing) (cells : List (List Thing)) → g [] ≡ [] → newest (map g cells) ≡ g (newest cells)
  newest_map g [] e = sym e
  newest_map g (f ∷ fs) e = refl

  older_map : (g : List Thing → List Thing) (cells : List (List Thing)) → older (map g cells) ≡ map g (older cells)
  older_map g [] = refl
  older_map g (f ∷ fs) = refl

  sync_callers : (n : ℕ) (getting : List Spot) (vs : List Value) (fl : List Token) (hs : List Holder) (fs : List (List Thing)) → vs ≡ landing value 0 fl → length vs ≡ length getting
      → Known getting fs → FramesGiven value n hs → CellsGiven value n fs
      → map (land_frame 0 vs) (mask_callers fl hs fs) ≡ mask_callers (without 0 fl) hs (map (map (fill_all 0 vs)) fs)
  sync_callers n getting vs fl [] fs e l k h g = refl
  sync_callers n getting vs fl (f ∷ hs) fs e l k h g =
      let a = same_frame value f.pc (subst (λ vs. map (land 0 vs) (mask_all fl f.stack) ≡ mask_all (without 0 fl) f.stack) (sym e) (land_all value n 0 fl f.stack h.0))
      (sync_slots n getting vs fl 0 (newest fs) e l (known_newest getting fs k) (cells_newest value n fs g)
      ∙ ap (mask_slots (without 0 fl)) (sym (newest_map (map (fill_all 0 vs)) fs refl))) in
      let b = sync_callers n getting vs fl hs (older fs) e l (known_older getting fs k) h.1 (cells_older value n fs g)
      ∙ ap (mask_callers (without 0 fl) hs) (sym (older_map (map (fill_all 0 vs)) fs)) in cc

  pub sync_state : (end : ℕ) (rest : List Thing) (frames : List Holder) (w : World) → Fit rest frames w
      → landed 0 (landing value 0 w.flying) (state_of end rest frames w) ≡ state_of end rest frames (after_sync c value w)
  sync_state end rest frames w fit =
      let vs = got c value w in
      let l = got_length w fit in
      let cells_ = sync_fills w.getting vs w.cells l fit.spots in
      same_state value w.left
      (same_frame value end (land_all value w.accesses 0 w.flying rest fit.on_stack)
      (sync_slots w.accesses w.getting vs w.flying 0 (newest w.cells) refl l (known_newest w.getting w.cells fit.spots.known) (cells_newest value w.accesses w.cells fit.in_cells)
      ∙ ap (mask_slots (without 0 w.flying)) (sym (newest_map (map (fill_all 0 vs)) w.cells refl) ∙ ap newest (sym cells_))))
      (sync_callers w.accesses w.getting vs w.flying frames (older w.cells) refl l (known_older w.getting w.cells fit.spots.known) fit.in_frames (cells_older value w.accesses w.cells fit.in_cells)
      ∙ ap (mask_callers (without 0 w.flying) frames) (sym (older_map (map (fill_all 0 vs)) w.cells) ∙ ap older (sym cells_)))
      (without_flights 0 w.flying)

  pub sync_places : (end : ℕ) (rest : List Thing) (frames : List Holder) (w : World) → Fit rest frames w
      → reads_on 0 (state_of end rest frames w).flying ≡ places (memory_of w)
  sync_places end rest frames w fit = reads_flights 0 w.flying ∙ sym fit.gets

  -- ---- a call

  called_locals : (fl : List Token) (vs : List Value) (others : ℕ) → map (λ v. Holds (Here v)) vs ++ replicate others blank ≡ mask_slots fl (called_with c vs others)
  called_locals fl [] zero = refl
  called_locals fl [] (suc others) = ap (λ l. blank ∷ l) (called_locals fl [] others)
  called_locals fl (v ∷ vs) others = ap (λ l. Holds (Here v) ∷ l) (called_locals fl vs others)

  pub call_state : (row : FnRow) (vs : List Value) (others left end : ℕ) (rest : List Thing) (frames : List Holder) (w : World) → row.locals ≡ length vs + others
      → call_of row vs (with_left left (state_of end rest frames w))
      ≡ state_of row.start [] (record { pc = end; stack = rest } ∷ frames) (record w { cells = called_with c vs others ∷ w.cells; left = left })
  call_state row vs others left end rest frames w e =
      let n : row.locals - length vs ≡ others = omega (arith, e) in
      same_state value left
      (same_frame value row.start refl (ap (λ k. map (λ v. Holds (Here v)) vs ++ replicate k blank) n ∙ called_locals w.flying vs others)) refl refl
