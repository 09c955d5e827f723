-- What each step without a value does with values of the kinds that it takes.
use Rattle.std.proofs.Common.{◌≡◌, ℕ, zero, suc, ◌+◌, ◌/◌, ◌%◌, ◌<◌, ◌≤◌, ℤ, pos, negsuc, Result, Ok, Err, Option, Some, None, Bool, true, false, ◌==◌, ◌&&◌, List, [], ◌∷◌, length, slice_get, refl, sym, ◌∙◌, subst, arith}
use Rattle.std.specs.Prelude.{nat_le, if◌then◌else◌}
use Rattle.std.specs.Int.{w64}
use Rattle.std.specs.Option.{option_map_or}
use Rattle.std.proofs.lemmas.Bool.{leb-true, eqb-true}
use Rattle.std.proofs.lemmas.Option.{slice_get_within, slice_get-get_or}
use Rattle.sc_base.specs.declared.shape.Star.{Star}
use Rattle.sc_base.specs.declared.shape.Ty.{Ty}
use Rattle.sc_base.specs.declared.value.FaultKind.{FaultKind}
use Rattle.sc_base.specs.declared.value.Place.{Place}
use Rattle.sc_base.specs.declared.value.Value.{Value}
use Rattle.sc_base.specs.declared.value.Value.TheVariants.{Int, Null, Ptr}
use Rattle.sc_layout.specs.Layout.{Arrangement, LaidObject}
use Rattle.sc_layout.specs.Place.{IsPlace, extent_of}
use Rattle.sc_tree.specs.Names.{Text}
use Rattle.sc_isa.specs.Pure.{is_pointer}
use Rattle.sc_isa.specs.Deeds.{Done, lets_go, ends, sticks, clears, prints, fills, gets, misses, puts, sends, copies, waits, meets, Spotted, found, missing, nowhere, spotted, spanned, filling, getting, putting, copied_from, copied, copying}
use Rattle.sc_isa.specs.Sound.{IsPlacedCopy, further}
use Rattle.sc_core.specs.declared.operation.Action.{Action}
use Rattle.sc_core.specs.declared.operation.Action.TheVariants.{Copy, Print}
use Rattle.sc_core.specs.Core.{Arguments, act}
use Rattle.sc_core.specs.Kinds.{Kind, number, to as pointer_to, kind_of, numbers, Scope, IsLocal, IsPlaceOf, pointed, by_name, Uses, drop, begin, clear_number, clear_pointer, fill, get, put, send, copy, print, sync, barrier, all_store_sync}
use Rattle.sc_core.specs.Table.{done_of}
use Rattle.sc_core.specs.Typed.{begins}
use Rattle.value_soundness.proofs.Values.{Points, IsOf, AreOf, IsCell}
use Rattle.value_soundness.proofs.Outcomes.{all_ints}
use Rattle.value_soundness.proofs.Deeds.{SpotFits, spot_fits, place_is_pointer}

module _ (layout : Arrangement) (exposed : List ℕ) where
  -- ---- spans

  -- so many cells from the place on lie in one object, whose cells' type has these stars
  record IsSpan (cell : List Star) (cells : ℕ) (place : Place) : Type 0 where
    pub places : (k : ℕ) → k < cells → IsPlace layout (further k place)
    pub laid : LaidObject
    pub laid_is : slice_get layout.objects place.object ≡ Some laid
    pub stars : laid.shape.ty.stars ≡ cell

  abbrev SpanFits : List Star → ℕ → Result Place FaultKind → Type 0
  SpanFits cell cells (Ok place) = IsSpan cell cells place
  SpanFits cell cells (Err fault) = Unit {0}

  in_extent : (cell : List Star) (cells object node offset : ℕ) (b : Bool) (fault : FaultKind)
      → nat_le (offset + cells) (extent_of layout node object) ≡ b → Points layout cell object node offset
      → SpanFits cell cells (if b then Ok (record { object = object; node = node; offset = offset }) else Err fault)
  in_extent cell cells object node offset true fault e p =
      let low : offset + cells ≤ extent_of layout node object = leb-true (offset + cells)
      (extent_of layout node object) e in
      record {
        places = λ k below. record {
          object = slice_get_within layout.objects object p.laid p.laid_is;
          node = p.node_within;
          offset = omega (arith, low, below);
        };
        laid = p.laid;
        laid_is = p.laid_is;
        stars = p.stars;
      }
  in_extent cell cells object node offset false fault e p = tt

  span_fits : (cell : List Star) (cells : ℕ) (p : Kind) → IsPlaceOf cell p → (v : Value) → IsOf layout exposed p v
      → SpanFits cell cells (spanned layout cells v)
  span_fits cell cells _ pointed (Int n) h = absurd h
  span_fits cell cells _ pointed Null h = tt
  span_fits cell cells _ pointed (Ptr object node offset) h = in_extent cell cells object node offset _ _ refl h.0
  span_fits cell cells _ by_name (Int n) h = absurd h
  span_fits cell cells _ by_name Null h = tt
  span_fits cell cells _ by_name (Ptr object node offset) h = in_extent cell cells object node offset _ _ refl h

  -- ---- what is done

  module _ (scope : Scope) where
    -- what the step does, behind which these locals have begun too
    abbrev pub DoneFits : (new : List ℕ) → Done → Type 0
    DoneFits new lets_go = new ≡ []
    DoneFits new (ends fault) = Unit {0}
    DoneFits new sticks = ⊥
    DoneFits new (clears x v) =
        (k : Kind) × IsLocal scope x k × IsOf layout exposed k v × (new ≡ x ∷ [])
    DoneFits new (prints text) = new ≡ []
    DoneFits new (fills x place) =
        (cell : List Star) × IsCell layout cell place × IsLocal scope x (kind_of cell) × (new ≡ x ∷ [])
    DoneFits new (gets x place) =
        (cell : List Star) × IsCell layout cell place × IsLocal scope x (kind_of cell) × (new ≡ [])
    DoneFits new (misses x fault) = Unit {0}
    DoneFits new (puts place v) =
        (cell : List Star) × IsCell layout cell place × IsOf layout exposed (kind_of cell) v × (new ≡ [])
    DoneFits new (sends place v) =
        (cell : List Star) × IsCell layout cell place × IsOf layout exposed (kind_of cell) v × (new ≡ [])
    DoneFits new (copies from to cells) = IsPlacedCopy layout from to cells × (new ≡ [])
    DoneFits new (waits counter) = new ≡ []
    DoneFits new (meets stores) = new ≡ []

    fill_fits : (cell : List Star) (x : ℕ) (s : Spotted) → SpotFits layout exposed cell s
        → IsLocal scope x (kind_of cell)
        → DoneFits (x ∷ []) (filling x s)
    fill_fits cell x (found place) h i = (cell, h, i, refl)
    fill_fits cell x (missing fault) h i = tt
    fill_fits cell x nowhere h i = absurd h

    get_fits : (cell : List Star) (x : ℕ) (s : Spotted) → SpotFits layout exposed cell s
        → IsLocal scope x (kind_of cell)
        → DoneFits [] (getting x s)
    get_fits cell x (found place) h i = (cell, h, i, refl)
    get_fits cell x (missing fault) h i = tt
    get_fits cell x nowhere h i = absurd h

    put_fits : (cell : List Star) (v : Value) (s : Spotted) → SpotFits layout exposed cell s
        → IsOf layout exposed (kind_of cell) v → DoneFits [] (putting puts s v)
    put_fits cell v (found place) h f = (cell, h, f, refl)
    put_fits cell v (missing fault) h f = tt
    put_fits cell v nowhere h f = absurd h

    send_fits : (cell : List Star) (v : Value) (s : Spotted) → SpotFits layout exposed cell s
        → IsOf layout exposed (kind_of cell) v → DoneFits [] (putting sends s v)
    send_fits cell v (found place) h f = (cell, h, f, refl)
    send_fits cell v (missing fault) h f = tt
    send_fits cell v nowhere h f = absurd h

    same_type : (a b : Ty) → a.stars ≡ b.stars → a.void ≡ b.void → a ≡ b
    same_type a b e f = λ i. record { stars = e i; void = f i }

    module _ (node : ℕ) (void : (k : ℕ) (o : LaidObject) → slice_get layout.objects k ≡ Some o
        → o.shape.ty.void ≡ false) where
      copied_from_fits : (cell : List Star) (cells : ℕ) (to : Place) (r : Result Place FaultKind) → 0 < cells
          → IsSpan cell cells to → SpanFits cell cells r → DoneFits [] (copied_from to cells r)
      copied_from_fits cell cells to (Ok from) some t f = (
        record {
          some_cell = some;
          reads = f.places;
          writes = t.places;
          source = f.laid;
          target = t.laid;
          source_is = f.laid_is;
          target_is = t.laid_is;
          one_type = same_type f.laid.shape.ty t.laid.shape.ty (f.stars ∙ sym t.stars)
              (void from.object f.laid f.laid_is ∙ sym (void to.object t.laid t.laid_is));
        },
        refl,
      )
      copied_from_fits cell cells to (Err fault) some t f = tt

      copied_fits : (cell : List Star) (cells : ℕ) (r : Result Place FaultKind) (from : Value) → 0 < cells
          → SpanFits cell cells r → SpanFits cell cells (spanned layout cells from)
          → DoneFits [] (copied layout cells r from)
      copied_fits cell cells (Ok to) from some t f =
          copied_from_fits cell cells to (spanned layout cells from) some t f
      copied_fits cell cells (Err fault) from some t f = tt

      if_whole : (b : Bool) (d : Done) (fault : FaultKind) → (b ≡ true → DoneFits [] d)
          → DoneFits [] (if b then d else ends fault)
      if_whole true d fault h = h refl
      if_whole false d fault h = tt

      some_cells : (n : ℕ) → suc n % 8 ≡ 0 → 0 < suc n / 8
      some_cells n e = omega (arith, e)

      copying_fits : (cell : List Star) (p q : Kind) → IsPlaceOf cell p → IsPlaceOf cell q
          → (to from : Value) (bytes : ℤ)
          → IsOf layout exposed p to → IsOf layout exposed q from → DoneFits [] (copying layout to from bytes)
      copying_fits cell p q ip iq to from (pos zero) h k = refl
      copying_fits cell p q ip iq to from (pos (suc n)) h k =
          if_whole (suc n % 8 == 0) _ _ (λ e. copied_fits cell (suc n / 8) (spanned layout (suc n / 8) to) from
          (some_cells n (eqb-true (suc n % 8) 0 e)) (span_fits cell (suc n / 8) p ip to h)
          (span_fits cell (suc n / 8) q iq from k))
      copying_fits cell p q ip iq to from (negsuc n) h k = tt

      copies_if : (a b : Bool) (d : Done) → a ≡ true → b ≡ true → DoneFits [] d
          → DoneFits [] (if a && b then d else sticks)
      copies_if true true d e f h = h
      copies_if true false d e f h = absurd (cc)
      copies_if false b d e f h = absurd (cc)

      copy_fits : (texts : List Text) (mode : _) (cell : List Star) (p q : Kind) → IsPlaceOf cell p → IsPlaceOf cell q
          → (to from bytes : Value) → IsOf layout exposed p to → IsOf layout exposed q from
          → IsOf layout exposed number bytes → DoneFits [] (done_of layout texts (Copy mode) (to ∷ from ∷ bytes ∷ []))
      copy_fits texts mode cell p q ip iq to from (Int n) h k f =
          copies_if (is_pointer layout to) (is_pointer layout from) (copying layout to from n)
          (place_is_pointer layout exposed cell p ip to h) (place_is_pointer layout exposed cell q iq from k)
          (copying_fits cell p q ip iq to from n h k)
      copy_fits texts mode cell p q ip iq to from Null h k f = absurd f
      copy_fits texts mode cell p q ip iq to from (Ptr object at offset) h k f = absurd f

      text_given : (texts : List Text) (text : ℕ) (o : Option Text) (go : List ℕ → Done)
          → o ≡ Some (Rattle.std.specs.List.slice_index_or texts text [])
          → ((format : List ℕ) → DoneFits [] (go format)) → DoneFits [] (option_map_or go o sticks)
      text_given texts text (Some format) go e h = h format
      text_given texts text None go e h = absurd (cc)

      print_fits : (texts : List Text) (text n : ℕ) (vs : List Value) → text < length texts
          → AreOf layout exposed (numbers n) vs → DoneFits [] (done_of layout texts (Print text n) vs)
      print_fits texts text n vs below f =
          let all = all_ints layout exposed n vs f in
          text_given texts text (slice_get texts text) _ (slice_get-get_or texts text [] below)
          (λ format. rw (all.are) refl)

      -- a step on values of the kinds that it takes
      pub uses_fits : (texts : List Text) → scope.texts ≡ length texts → {action : Action} {kinds : List Kind}
          → Uses scope action kinds
          → (vs : List Value) (arguments : Arguments) (line : ℕ) → AreOf layout exposed kinds vs
          → DoneFits (begins (act action arguments line)) (done_of layout texts action vs)
      uses_fits texts many drop [] arguments line f = absurd f
      uses_fits texts many drop (v ∷ []) arguments line f = refl
      uses_fits texts many drop (v ∷ u ∷ vs) arguments line f = absurd f.1
      uses_fits texts many (begin i) [] arguments line f = absurd f
      uses_fits texts many (begin {k = k} i) (v ∷ []) arguments line f = (k, i, f.0, refl)
      uses_fits texts many (begin i) (v ∷ u ∷ vs) arguments line f = absurd f.1
      uses_fits texts many (clear_number i) [] arguments line f = (number, i, record { sfits = omega arith }, refl)
      uses_fits texts many (clear_number i) (v ∷ vs) arguments line f = absurd f
      uses_fits texts many (clear_pointer {cell = cell} i) [] arguments line f = (pointer_to cell, i, tt, refl)
      uses_fits texts many (clear_pointer i) (v ∷ vs) arguments line f = absurd f
      uses_fits texts many (fill is i) [] arguments line f = absurd f
      uses_fits texts many (fill {x = x} {p = p} {cell = cell} is i) (v ∷ []) arguments line f =
          fill_fits cell x (spotted layout v) (spot_fits layout exposed cell p is v f.0) i
      uses_fits texts many (fill is i) (v ∷ u ∷ vs) arguments line f = absurd f.1
      uses_fits texts many (get is i) [] arguments line f = absurd f
      uses_fits texts many (get {x = x} {p = p} {cell = cell} is i) (v ∷ []) arguments line f =
          get_fits cell x (spotted layout v) (spot_fits layout exposed cell p is v f.0) i.0
      uses_fits texts many (get is i) (v ∷ u ∷ vs) arguments line f = absurd f.1
      uses_fits texts many (put is) [] arguments line f = absurd f
      uses_fits texts many (put is) (v ∷ []) arguments line f = absurd f.1
      uses_fits texts many (put {p = p} {cell = cell} is) (v ∷ u ∷ []) arguments line f =
          put_fits cell u (spotted layout v) (spot_fits layout exposed cell p is v f.0) f.1.0
      uses_fits texts many (put is) (v ∷ u ∷ t ∷ vs) arguments line f = absurd f.1.1
      uses_fits texts many (send is) [] arguments line f = absurd f
      uses_fits texts many (send is) (v ∷ []) arguments line f = absurd f.1
      uses_fits texts many (send {p = p} {cell = cell} is) (v ∷ u ∷ []) arguments line f =
          send_fits cell u (spotted layout v) (spot_fits layout exposed cell p is v f.0) f.1.0
      uses_fits texts many (send is) (v ∷ u ∷ t ∷ vs) arguments line f = absurd f.1.1
      uses_fits texts many (copy ip iq) [] arguments line f = absurd f
      uses_fits texts many (copy ip iq) (v ∷ []) arguments line f = absurd f.1
      uses_fits texts many (copy ip iq) (v ∷ u ∷ []) arguments line f = absurd f.1.1
      uses_fits texts many (copy {mode = mode} {p = p} {q = q} {cell = cell} ip iq) (v ∷ u ∷ n ∷ []) arguments line f =
          copy_fits texts mode cell p q ip iq v u n f.0 f.1.0 f.1.1.0
      uses_fits texts many (copy ip iq) (v ∷ u ∷ n ∷ t ∷ vs) arguments line f = absurd f.1.1.1
      uses_fits texts many (print {text = text} {n = n} below) vs arguments line f =
          print_fits texts text n vs (subst (λ m. text < m) many below) f
      uses_fits texts many sync [] arguments line f = refl
      uses_fits texts many sync (v ∷ vs) arguments line f = absurd f
      uses_fits texts many barrier [] arguments line f = refl
      uses_fits texts many barrier (v ∷ vs) arguments line f = absurd f
      uses_fits texts many all_store_sync [] arguments line f = refl
      uses_fits texts many all_store_sync (v ∷ vs) arguments line f = absurd f
