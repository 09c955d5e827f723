-- In a whole run of code whose accesses are placed each value fits the cell where it is read or written.
use Rattle.std.proofs.Common.{◌≡◌, inl, inr, ⊎_elim, ℕ, List, [], ◌∷◌, Some, None, Bool, true, false, if◌then◌else◌, nat_lt, slice_get, refl, sym, ap, ◌∙◌, subst}
use Rattle.std.specs.List.{All}
use Rattle.std.proofs.lemmas.List.Elements.{All-nil, All-cons}
use Rattle.effect_order.specs.Effect.{Effect}
use Rattle.effect_order.specs.Lists.{In, Each}
use Rattle.effect_order.specs.Transfer.{part_place, part_value, written, cell_past, further}
use Rattle.sc_base.specs.declared.value.CopyMode.TheVariants.{Split}
use Rattle.sc_base.specs.declared.value.Place.{Place}
use Rattle.sc_base.specs.declared.value.Value.{Value}
use Rattle.sc_layout.specs.Layout.{Arrangement}
use Rattle.sc_layout.specs.Start.{start}
use Rattle.sc_layout.specs.Place.{IsPlace}
use Rattle.sc_isa.specs.declared.access.Access.{Access}
use Rattle.sc_isa.specs.declared.access.Access.TheVariants as access
use Rattle.sc_isa.specs.declared.access.Track.{Track}
use Rattle.sc_isa.specs.declared.journal.Entry.{Entry}
use Rattle.sc_isa.specs.declared.journal.Entry.TheVariants.{Issued}
use Rattle.sc_isa.specs.Fitting.{fits, fits_type, object_is}
use Rattle.sc_isa.specs.Sound.{IsPlaced}
use Rattle.sc_isa.proofs.Exact.{exact}
use Rattle.sc_meaning.specs.declared.request.Request.{Request}
use Rattle.sc_meaning.specs.declared.request.Request.TheVariants as request
use Rattle.sc_meaning.specs.Parts as parts
use Rattle.value_soundness.specs.Lawful.{NamesOnly, IsLawfulAt, IsLawfulRequest, IsLawfulEffect}
use Rattle.value_soundness.proofs.Effects.{held_lawful, part_placed, written_lawful}
use Rattle.fabric.specs.Access.{transfer_of, any_track}
use Rattle.fabric.specs.Effects.{access_at, effects, due, or_zero}
use Rattle.fabric.specs.Wired.{Wired, AllDone}
use Rattle.source_order.proofs.Occurs.{IsRead, IsWrite, due_is, effects_have, found, part_of, part_self, some_is}
use Rattle.source_order.proofs.Numbers.{access_is}
use Rattle.source_order.proofs.Stands.{Stands}

-- the access as a request of which parts are spoken
abbrev pub as_request : Access → Request
as_request (access.Read place track) = request.Get place 0
as_request (access.Write place value track) = request.Put place value 0
as_request (access.Copy from to cells track) = request.Copy from to cells Split 0

module _ (layout : Arrangement) (exposed : List ℕ) (names : (place : Place) (v : Value) → fits layout place v ≡ true → NamesOnly exposed v) where
  lawful_request : (a : Access) → IsPlaced layout a → IsLawfulRequest layout exposed (as_request a)
  lawful_request (access.Read place track) h = h
  lawful_request (access.Write place value track) h = (h.0, record { fits = h.1; names = names place value ((exact layout place value).1 h.1) })
  lawful_request (access.Copy from to cells track) h = h

  placed_part : (a : Access) (cell : ℕ) (wrote : Bool) (place : Place) → IsPlaced layout a → part_place (transfer_of a) cell wrote ≡ Some place → IsPlace layout place
  placed_part (access.Read first track) cell wrote place h e = part_placed layout exposed (request.Get first 0) cell wrote place h refl e
  placed_part (access.Write first value track) cell wrote place h e =
      part_placed layout exposed (request.Put first value 0) cell wrote place (lawful_request (access.Write first value track) h) refl e
  placed_part (access.Copy from to cells track) cell wrote place h e = part_placed layout exposed (request.Copy from to cells Split 0) cell wrote place h refl e

  -- ---- what is written

  none_of : (node : ℕ) (rs : List Request) → All (λ (e : Effect). e.node ≡ node → (r : Request) × (slice_get rs e.number ≡ Some r)
      × (parts.is_issued r ≡ true → part_place (parts.transfer_of r) e.cell e.wrote ≡ Some e.place)) []
  none_of node rs = All-nil (λ (e : Effect). e.node ≡ node → (r : Request) × (slice_get rs e.number ≡ Some r)
      × (parts.is_issued r ≡ true → part_place (parts.transfer_of r) e.cell e.wrote ≡ Some e.place))

  -- a value that the access itself has
  given_lawful : (first place : Place) (given value : Value) (cell : ℕ) (track : Track) → IsPlaced layout (access.Write first given track)
      → part_place (transfer_of (access.Write first given track)) cell true ≡ Some place → Some given ≡ Some value → IsLawfulAt layout exposed place value
  given_lawful first place given value cell track h has e =
      written_lawful layout exposed 0 (request.Put first given 0 ∷ []) [] 0 cell (request.Put first given 0) place value (lawful_request (access.Write first given track) h)
      (none_of 0 (request.Put first given 0 ∷ [])) (All-nil (IsLawfulEffect layout exposed)) refl refl has e

  -- a value that was read in the same cell of a copy
  moved_lawful : (from to place taken : Place) (cells cell : ℕ) (value : Value) (track : Track) → IsPlaced layout (access.Copy from to cells track)
      → part_place (transfer_of (access.Copy from to cells track)) cell true ≡ Some place
      → part_place (transfer_of (access.Copy from to cells track)) cell false ≡ Some taken → IsPlace layout taken → IsLawfulAt layout exposed taken value
      → IsLawfulAt layout exposed place value
  moved_lawful from to place taken cells cell value track h has at_ placed lawful =
      let r = request.Copy from to cells Split 0 in
      let e : Effect = record { node = 0; number = 0; cell = cell; wrote = false; place = taken; value = value } in
      written_lawful layout exposed 0 (r ∷ []) (e ∷ []) 0 cell r place value h
      (All-cons (λ (e : Effect). e.node ≡ 0 → (x : Request) × (slice_get (r ∷ []) e.number ≡ Some x)
      × (parts.is_issued x ≡ true → part_place (parts.transfer_of x) e.cell e.wrote ≡ Some e.place)) e [] (λ n. (r, refl, λ i. at_)) (none_of 0 (r ∷ [])))
      (All-cons (IsLawfulEffect layout exposed) e [] (record { placed = placed; lawful = lawful }) (All-nil (IsLawfulEffect layout exposed)))
      refl refl has (ap (λ b. if b then Some value else None) (part_self e))

  module _ (nodes : ℕ) (whole : List Entry) (wired : Wired (start layout) nodes whole)
      (placed : (p n : ℕ) (a : Access) → access_at p n whole ≡ Some a → IsPlaced layout a) where
    -- the effect is one of an access of the run, and its value fits
    pub record IsFit (e : Effect) : Type 0 where
      pub what : Access
      pub is : access_at e.node e.number whole ≡ Some what
      pub has : part_place (transfer_of what) e.cell e.wrote ≡ Some e.place
      pub lawful : IsLawfulEffect layout exposed e

    all_of : (es : List Effect) → Each IsFit es → All (IsLawfulEffect layout exposed) es
    all_of [] h = All-nil (IsLawfulEffect layout exposed)
    all_of (e ∷ es) h = All-cons (IsLawfulEffect layout exposed) e es h.0.lawful (all_of es h.1)

    each_in : (es : List Effect) (e : Effect) → In e es → Each IsFit es → IsFit e
    each_in [] e i h = absurd i
    each_in (x ∷ es) e (inl q) h = subst IsFit (sym q) h.0
    each_in (x ∷ es) e (inr i) h = each_in es e i h.1

    read_fit : (p n c : ℕ) (a : Access) (earlier : List Effect) (e : Effect) → access_at p n whole ≡ Some a → IsRead (start layout) (transfer_of a) p n c earlier e → Each IsFit earlier → IsFit e
    read_fit p n c a earlier e at_ r h =
        let here = placed_part a c false r.place (placed p n a at_) r.has in
        subst IsFit (sym r.is) (record {
          what = a;
          is = at_;
          has = r.has;
          lawful = record { placed = here; lawful = held_lawful layout exposed earlier r.place (all_of earlier h) here };
        })

    -- the value of a copy's read
    copied : (from to place : Place) (cells p n c : ℕ) (track : Track) (value : Value) (earlier : List Effect) → access_at p n whole ≡ Some (access.Copy from to cells track)
        → part_place (transfer_of (access.Copy from to cells track)) c true ≡ Some place → part_value p n c false earlier ≡ Some value → Each IsFit earlier → IsLawfulAt layout exposed place value
    copied from to place cells p n c track value earlier at_ has is_read h =
        let f = found p n c false earlier value is_read in
        let q = part_of p n c false f.0 f.2 in
        let g = each_in earlier f.0 f.1 h in
        let at_e : access_at f.0.node f.0.number whole ≡ Some (access.Copy from to cells track) =
        subst (λ k. access_at k f.0.number whole ≡ Some (access.Copy from to cells track)) (sym q.0)
        (subst (λ k. access_at p k whole ≡ Some (access.Copy from to cells track)) (sym q.1) at_) in
        let same : g.what ≡ access.Copy from to cells track = (let x = g.is in cc) in
        let taken : part_place (transfer_of (access.Copy from to cells track)) c false ≡ Some f.0.place =
        subst (λ w. part_place (transfer_of (access.Copy from to cells track)) c w ≡ Some f.0.place) q.3
        (subst (λ k. part_place (transfer_of (access.Copy from to cells track)) k f.0.wrote ≡ Some f.0.place) q.2
        (subst (λ a. part_place (transfer_of a) f.0.cell f.0.wrote ≡ Some f.0.place) same g.has)) in
        moved_lawful from to place f.0.place cells c value track (placed p n (access.Copy from to cells track) at_) has taken g.lawful.placed
        (subst (λ v. IsLawfulAt layout exposed f.0.place v) f.3 g.lawful.lawful)

    value_fit : (p n c : ℕ) (a : Access) (earlier : List Effect) (place : Place) (value : Value) → access_at p n whole ≡ Some a → part_place (transfer_of a) c true ≡ Some place
        → written (transfer_of a) p n c earlier ≡ Some value → Each IsFit earlier → IsLawfulAt layout exposed place value
    value_fit p n c (access.Read first track) earlier place value at_ has w h = absurd (none (nat_lt c 1) has)
      where
        none : (b : Bool) → (if b then cell_past c None else None) ≡ Some place → ⊥
        none true e = cc
        none false e = cc
    value_fit p n c (access.Write first given track) earlier place value at_ has w h = given_lawful first place given value c track (placed p n (access.Write first given track) at_) has w
    value_fit p n c (access.Copy from to cells track) earlier place value at_ has w h = copied from to place cells p n c track value earlier at_ has w h

    write_fit : (p n c : ℕ) (a : Access) (earlier : List Effect) (e : Effect) → access_at p n whole ≡ Some a → IsWrite (transfer_of a) p n c earlier e → Each IsFit earlier → IsFit e
    write_fit p n c a earlier e at_ r h =
        subst IsFit (sym r.is) (record {
          what = a;
          is = at_;
          has = r.has;
          lawful = record { placed = placed_part a c true r.place (placed p n a at_) r.has; lawful = value_fit p n c a earlier r.place r.value at_ r.has r.its h };
        })

    pub effects_fit : Each IsFit (effects (start layout) whole)
    effects_fit = effects_have (start layout) whole (Each IsFit) next tt
      where
        next : (past : List Entry) (p n : ℕ) (a : Access) (c : ℕ) (earlier : List Effect) (e : Effect) → Stands past (Issued p n a) whole
            → due (start layout) (transfer_of a) p n c earlier ≡ Some e → Each IsFit earlier → Each IsFit (e ∷ earlier)
        next past p n a c earlier e s d h =
            let at_ = (access_is (start layout) nodes p n a past whole wired s).0 in
            (⊎_elim (λ r. read_fit p n c a earlier e at_ r h) (λ r. write_fit p n c a earlier e at_ r h) (due_is (start layout) (transfer_of a) p n c earlier e d), h)

    -- the value of each read fits its place
    pub reads_fit : (p n : ℕ) (place : Place) (track : Track) → access_at p n whole ≡ Some (access.Read place track) → AllDone (start layout) whole any_track p
        → fits layout place (or_zero (part_value p n 0 false (effects (start layout) whole))) ≡ true
    reads_fit p n place track at_ done =
        let es = effects (start layout) whole in
        let s = some_is (part_value p n 0 false es) (done n (access.Read place track) at_ refl 0 false refl) in
        let f = found p n 0 false es s.0 s.1 in
        let q = part_of p n 0 false f.0 f.2 in
        let g = each_in es f.0 f.1 effects_fit in
        let at_e : access_at f.0.node f.0.number whole ≡ Some (access.Read place track) =
        subst (λ k. access_at k f.0.number whole ≡ Some (access.Read place track)) (sym q.0) (subst (λ k. access_at p k whole ≡ Some (access.Read place track)) (sym q.1) at_) in
        let same : g.what ≡ access.Read place track = (let x = g.is in cc) in
        let has : part_place (transfer_of (access.Read place track)) 0 false ≡ Some f.0.place =
        subst (λ w. part_place (transfer_of (access.Read place track)) 0 w ≡ Some f.0.place) q.3
        (subst (λ k. part_place (transfer_of (access.Read place track)) k f.0.wrote ≡ Some f.0.place) q.2
        (subst (λ a. part_place (transfer_of a) f.0.cell f.0.wrote ≡ Some f.0.place) same g.has)) in
        let here : further 0 place ≡ f.0.place = cc in
        let fit = (exact layout f.0.place f.0.value).1 g.lawful.lawful.fits in
        ap (λ (v : Value). fits layout place v) (ap or_zero s.1 ∙ sym f.3)
        ∙ ap (λ (object : ℕ). object_is (λ o. fits_type layout o.shape.ty f.0.value) (slice_get layout.objects object)) (ap (λ (x : Place). x.object) here)
        ∙ fit
