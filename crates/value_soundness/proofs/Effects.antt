-- What cells hold after lawful effects is lawful, and so is what the parts of lawful requests read and write.
use Rattle.std.proofs.Common.{◌≡◌, ℕ, zero, suc, ◌+◌, ◌<◌, Option, Some, None, Bool, true, false, ◌==◌, ◌&&◌, if◌then◌else◌, List, [], ◌∷◌, length, slice_get, IsSomeAnd, refl, sym, ap, ◌∙◌, subst, arith}
use Rattle.std.specs.Prelude.{nat_lt, IsSome}
use Rattle.std.specs.List.{All}
use Rattle.std.proofs.lemmas.Bool.{and_parts, ltb-true, eqb-true}
use Rattle.std.proofs.lemmas.List.Elements.{All-head, All-tail}
use Rattle.sc_base.specs.declared.shape.Star.{Star}
use Rattle.sc_base.specs.declared.shape.Ty.{Ty}
use Rattle.sc_base.specs.declared.value.Place.{Place}
use Rattle.sc_base.specs.declared.value.Value.{Value}
use Rattle.sc_layout.specs.Layout.{Arrangement, LaidObject}
use Rattle.sc_layout.specs.Place.{IsPlace, FitsType}
use Rattle.sc_layout.specs.Start.{start, zero_in, zero_of}
use Rattle.sc_isa.specs.Sound.{IsPlacedCopy}
use Rattle.effect_order.specs.Effect.{Effect, held, same_place}
use Rattle.effect_order.specs.Transfer.{further, part_place, part_value, written, is_part, same_flag}
use Rattle.effect_order.proofs.Equal.{place_is}
use Rattle.sc_meaning.specs.declared.request.Request.{Request}
use Rattle.sc_meaning.specs.declared.request.Request.TheVariants.{Read, Write, Get, Put, Store, Copy, Sync, Barrier, AllStoreSync}
use Rattle.sc_meaning.specs.Parts.{transfer_of, is_issued}
use Rattle.sc_meaning.specs.Past.{or_zero}
use Rattle.value_soundness.specs.Lawful.{NamesOnly, IsLawfulAt, IsLawfulRequest, IsLawfulEffect}
use Rattle.value_soundness.proofs.Values.{some_inv, some_intro}

module _ (layout : Arrangement) (exposed : List ℕ) where
  -- ---- cells

  zero_fits : (ty : Ty) (stars : List Star) → ty.stars ≡ stars
      → FitsType layout ty (zero_of stars) × NamesOnly exposed (zero_of stars)
  zero_fits ty [] e = ((e, record { sfits = omega arith }), tt)
  zero_fits ty (s ∷ ss) e = (λ none. absurd (let no : [] ≡ s ∷ ss = sym none ∙ e in cc), tt)

  zero_lawful : (place : Place) (o : Option LaidObject) → slice_get layout.objects place.object ≡ o → IsSome o
      → IsLawfulAt layout exposed place (zero_in o)
  zero_lawful place None e h = absurd (cc)
  zero_lawful place (Some laid) e h =
      let z = zero_fits laid.shape.ty laid.shape.ty.stars refl in
      record {
        fits = some_intro (λ o. FitsType layout o.shape.ty
            (zero_of laid.shape.ty.stars)) _ laid e z.0;
        names = z.1;
      }

  there : (objects : List LaidObject) (n : ℕ) → n < length objects → IsSome (slice_get objects n)
  there [] n h = absurd (let no : ⊥ = omega (arith, h) in no)
  there (o ∷ more) zero h = refl
  there (o ∷ more) (suc n) h = there more n (omega (arith, h))

  pub start_lawful : (place : Place) → IsPlace layout place → IsLawfulAt layout exposed place (start layout place)
  start_lawful place p = zero_lawful place (slice_get layout.objects place.object) refl
      (there layout.objects place.object p.object)

  shown_by : (place : Place) (e : Effect) (b : Bool) (rest : Value) → (e.wrote && same_place e.place place) ≡ b
      → IsLawfulEffect layout exposed e → IsLawfulAt layout exposed place rest
      → IsLawfulAt layout exposed place (if b then e.value else rest)
  shown_by place e true rest is h k =
      let same : e.place ≡ place = place_is e.place place (and_parts e.wrote (same_place e.place place) is).1 in
      subst (λ (p : Place). IsLawfulAt layout exposed p e.value) same h.lawful
  shown_by place e false rest is h k = k

  -- what a cell holds
  pub held_lawful : (effs : List Effect) (place : Place) → All (IsLawfulEffect layout exposed) effs
      → IsPlace layout place
      → IsLawfulAt layout exposed place (held (start layout) place effs)
  held_lawful [] place h p = start_lawful place p
  held_lawful (e ∷ effs) place h p =
      shown_by place e (e.wrote && same_place e.place place) (held (start layout) place effs) refl
      (All-head (IsLawfulEffect layout exposed) e effs h)
      (held_lawful effs place (All-tail (IsLawfulEffect layout exposed) e effs h) p)

  -- ---- parts

  -- where the effect is the node's, it is of a request that the node has made, at the place of that part
  abbrev pub IsOfRequest : (node : ℕ) → List Request → Effect → Type 0
  IsOfRequest node done e =
      e.node ≡ node → (request : Request) × (slice_get done e.number ≡ Some request)
      × (is_issued request ≡ true → part_place (transfer_of request) e.cell e.wrote ≡ Some e.place)

  pub record IsLawfulPart (request : Request) (cell : ℕ) (wrote : Bool) (value : Value) : Type 0 where
    pub place : Place
    pub is_part : part_place (transfer_of request) cell wrote ≡ Some place
    pub lawful : IsLawfulAt layout exposed place value

  record IsPartOf (e : Effect) (node number cell : ℕ) (wrote : Bool) : Type 0 where
    pub node_is : e.node ≡ node
    pub number_is : e.number ≡ number
    pub cell_is : e.cell ≡ cell
    pub wrote_is : e.wrote ≡ wrote

  flag_is : (a b : Bool) → same_flag a b ≡ true → a ≡ b
  flag_is true b h = sym h
  flag_is false true h = absurd (cc)
  flag_is false false h = refl

  part_is : (e : Effect) (node number cell : ℕ) (wrote : Bool) → is_part node number cell wrote e ≡ true
      → IsPartOf e node number cell wrote
  part_is e node number cell wrote h =
      let a = and_parts ((e.node == node) && (e.number == number) && (e.cell == cell)) (same_flag e.wrote wrote) h in
      let b = and_parts ((e.node == node) && (e.number == number)) (e.cell == cell) a.0 in
      let c = and_parts (e.node == node) (e.number == number) b.0 in
      record {
        node_is = eqb-true e.node node c.0;
        number_is = eqb-true e.number number c.1;
        cell_is = eqb-true e.cell cell b.1;
        wrote_is = flag_is e.wrote wrote a.1;
      }

  part_here : (node : ℕ) (done : List Request) (e : Effect) (number cell : ℕ) (wrote : Bool) (request : Request)
      → IsOfRequest node done e → IsLawfulEffect layout exposed e → slice_get done number ≡ Some request
      → is_issued request ≡ true
      → IsPartOf e node number cell wrote → IsLawfulPart request cell wrote e.value
  part_here node done e number cell wrote request of lawful at issued p =
      let r = of p.node_is in
      let same : r.0 ≡ request =
      (let x : slice_get done number ≡ Some r.0 = subst (λ n. slice_get done n ≡ Some r.0) p.number_is r.1 in cc) in
      let placed : part_place (transfer_of r.0) e.cell e.wrote ≡ Some e.place = r.2 (subst (λ r. is_issued r ≡ true)
      (sym same) issued) in
      record {
        place = e.place;
        is_part = subst (λ w. part_place (transfer_of request) cell w ≡ Some e.place) p.wrote_is
            (subst (λ c. part_place (transfer_of request) c e.wrote ≡ Some e.place) p.cell_is
            (subst (λ r. part_place (transfer_of r) e.cell e.wrote ≡ Some e.place) same placed));
        lawful = lawful.lawful;
      }

  -- the value of a part of a request that was made is lawful at the part's place
  pub part_lawful : (node : ℕ) (done : List Request) (effs : List Effect) (number cell : ℕ) (wrote : Bool)
      (request : Request) (value : Value)
      → All (IsOfRequest node done) effs → All (IsLawfulEffect layout exposed) effs
      → slice_get done number ≡ Some request
      → is_issued request ≡ true → part_value node number cell wrote effs ≡ Some value
      → IsLawfulPart request cell wrote value
  part_lawful node done [] number cell wrote request value of lawful at issued h = absurd (cc)
  part_lawful node done (e ∷ effs) number cell wrote request value of lawful at issued h =
      by (is_part node number cell wrote e) refl h
      (λ k. part_lawful node done effs number cell wrote request value (All-tail (IsOfRequest node done) e effs of)
      (All-tail (IsLawfulEffect layout exposed) e effs lawful) at issued k)
    where
      by : (b : Bool) → is_part node number cell wrote e ≡ b
          → (if b then Some e.value else part_value node number cell wrote effs) ≡ Some value
          → (part_value node number cell wrote effs ≡ Some value → IsLawfulPart request cell wrote value)
          → IsLawfulPart request cell wrote value
      by true is h k =
          subst (λ (v : Value). IsLawfulPart request cell wrote v) (let same : e.value ≡ value = cc in same)
          (part_here node done e number cell wrote request (All-head (IsOfRequest node done) e effs of)
          (All-head (IsLawfulEffect layout exposed) e effs lawful) at issued (part_is e node number cell wrote is))
      by false is h k = k h

  -- ---- the places of parts

  record IsCellOf (place first : Place) (cell cells : ℕ) : Type 0 where
    pub below : cell < cells
    pub is : further cell first ≡ place

  cell_of : (cells cell : ℕ) (first place : Place) (b : Bool) → nat_lt cell cells ≡ b
      → (if b then Some (further cell first) else None) ≡ Some place → IsCellOf place first cell cells
  cell_of cells cell first place true e h = record { below = ltb-true cell cells e; is = cc }
  cell_of cells cell first place false e h = absurd (cc)

  no_cell : (b : Bool) (place : Place) → (if b then None else None) ≡ Some place → ⊥
  no_cell true place h = cc
  no_cell false place h = cc

  first_cell : (first : Place) (cell : ℕ) → cell < 1 → further cell first ≡ first
  first_cell first zero h = λ i. record {
    object = first.object;
    node = first.node;
    offset =
        (let e : first.offset + 0 ≡ first.offset = omega arith in e) i;
  }
  first_cell first (suc n) h = absurd (let no : ⊥ = omega (arith, h) in no)

  same_object : (p q : Place) (v : Value) → p.object ≡ q.object → IsLawfulAt layout exposed p v
      → IsLawfulAt layout exposed q v
  same_object p q v e h = record {
    fits = subst (λ object. IsSomeAnd (slice_get layout.objects object) (λ o. FitsType layout o.shape.ty v)) e h.fits;
    names = h.names;
  }

  -- a part's place is one of the layout
  pub part_placed : (request : Request) (cell : ℕ) (wrote : Bool) (place : Place)
      → IsLawfulRequest layout exposed request
      → is_issued request ≡ true → part_place (transfer_of request) cell wrote ≡ Some place → IsPlace layout place
  part_placed (Get first line) cell false place h issued e =
      let c = cell_of 1 cell first place (nat_lt cell 1) refl e in
      subst (IsPlace layout) (sym (first_cell first cell c.below) ∙ c.is) h
  part_placed (Get first line) cell true place h issued e = absurd (no_cell (nat_lt cell 1) place e)
  part_placed (Put first value line) cell true place h issued e =
      let c = cell_of 1 cell first place (nat_lt cell 1) refl e in
      subst (IsPlace layout) (sym (first_cell first cell c.below) ∙ c.is) h.0
  part_placed (Put first value line) cell false place h issued e = absurd (no_cell (nat_lt cell 1) place e)
  part_placed (Store first value line) cell true place h issued e =
      let c = cell_of 1 cell first place (nat_lt cell 1) refl e in
      subst (IsPlace layout) (sym (first_cell first cell c.below) ∙ c.is) h.0
  part_placed (Store first value line) cell false place h issued e = absurd (no_cell (nat_lt cell 1) place e)
  part_placed (Copy from to cells mode line) cell false place h issued e =
      let c = cell_of cells cell from place (nat_lt cell cells) refl e in
      subst (IsPlace layout) c.is (h.reads cell c.below)
  part_placed (Copy from to cells mode line) cell true place h issued e =
      let c = cell_of cells cell to place (nat_lt cell cells) refl e in
      subst (IsPlace layout) c.is (h.writes cell c.below)
  part_placed (Read first line) cell wrote place h issued e = absurd (cc)
  part_placed (Write first value line) cell wrote place h issued e = absurd (cc)
  part_placed (Sync line) cell wrote place h issued e = absurd (cc)
  part_placed (Barrier line) cell wrote place h issued e = absurd (cc)
  part_placed (AllStoreSync line) cell wrote place h issued e = absurd (cc)

  -- ---- what parts write

  filled : (first place : Place) (cell : ℕ) (given value : Value) → IsLawfulAt layout exposed first given
      → (if nat_lt cell 1 then Some (further cell first) else None) ≡ Some place → Some given ≡ Some value
      → IsLawfulAt layout exposed place value
  filled first place cell given value h e w =
      let c = cell_of 1 cell first place (nat_lt cell 1) refl e in
      let same : given ≡ value = cc in
      subst (λ (v : Value). IsLawfulAt layout exposed place v) same
      (subst (λ (p : Place). IsLawfulAt layout exposed p given) (sym (first_cell first cell c.below) ∙ c.is) h)

  -- cells of one type hold the same values
  of_one_type : (from to : Place) (cells : ℕ) (p q : Place) (value : Value) → IsPlacedCopy layout from to cells
      → p.object ≡ from.object
      → q.object ≡ to.object → IsLawfulAt layout exposed p value → IsLawfulAt layout exposed q value
  of_one_type from to cells p q value h ep eq l = record {
    fits = some_intro (λ o. FitsType layout o.shape.ty value) _ h.target (ap
        (λ object. slice_get layout.objects object) eq ∙ h.target_is)
        (subst (λ (ty : Ty). FitsType layout ty value) h.one_type
        (some_inv (λ o. FitsType layout o.shape.ty value) _ h.source (ap
        (λ object. slice_get layout.objects object) ep ∙ h.source_is) l.fits));
    names = l.names;
  }

  moved : (from to : Place) (cells : ℕ) (mode : _) (line : ℕ) (node : ℕ) (done : List Request) (effs : List Effect)
      (number cell : ℕ) (place : Place) (value : Value) → IsPlacedCopy layout from to cells
      → All (IsOfRequest node done) effs
      → All (IsLawfulEffect layout exposed) effs → slice_get done number ≡ Some (Copy from to cells mode line)
      → is_issued (Copy from to cells mode line) ≡ true
      → (if nat_lt cell cells then Some (further cell to) else None) ≡ Some place
      → part_value node number cell false effs ≡ Some value → IsLawfulAt layout exposed place value
  moved from to cells mode line node done effs number cell place value h of lawful at issued e w =
      let c = cell_of cells cell to place (nat_lt cell cells) refl e in
      let part = part_lawful node done effs number cell false
      (Copy from to cells mode line) value of lawful at issued w in
      let d = cell_of cells cell from part.place (nat_lt cell cells) refl part.is_part in
      of_one_type from to cells part.place place value h (ap (λ (p : Place). p.object) (sym d.is)) (ap (λ
      (p : Place). p.object) (sym c.is)) part.lawful

  -- what a part of a lawful request writes is lawful at its place
  pub written_lawful : (node : ℕ) (done : List Request) (effs : List Effect) (number cell : ℕ) (request : Request)
      (place : Place) (value : Value)
      → IsLawfulRequest layout exposed request → All (IsOfRequest node done) effs
      → All (IsLawfulEffect layout exposed) effs
      → slice_get done number ≡ Some request → is_issued request ≡ true
      → part_place (transfer_of request) cell true ≡ Some place
      → written (transfer_of request) node number cell effs ≡ Some value → IsLawfulAt layout exposed place value
  written_lawful node done effs number cell (Get first line) place value h of lawful at issued e w =
      absurd (no_cell (nat_lt cell 1) place e)
  written_lawful node done effs number cell (Put first given line) place value h of lawful at issued e w =
      filled first place cell given value h.1 e w
  written_lawful node done effs number cell (Store first given line) place value h of lawful at issued e w =
      filled first place cell given value h.1 e w
  written_lawful node done effs number cell (Copy from to cells mode line) place value h of lawful at issued e w =
      moved from to cells mode line node done effs number cell place value h of lawful at issued e w
  written_lawful node done effs number cell (Read first line) place value h of lawful at issued e w = absurd (cc)
  written_lawful node done effs number cell (Write first given line) place value h of lawful at issued e w = absurd (cc)
  written_lawful node done effs number cell (Sync line) place value h of lawful at issued e w = absurd (cc)
  written_lawful node done effs number cell (Barrier line) place value h of lawful at issued e w = absurd (cc)
  written_lawful node done effs number cell (AllStoreSync line) place value h of lawful at issued e w = absurd (cc)

  -- ---- what the gets got

  or_zero_of : (o : Option Value) (value : Value) → o ≡ Some value → or_zero o ≡ value
  or_zero_of None value e = absurd (cc)
  or_zero_of (Some v) value e = cc

  pub get_lawful : (node : ℕ) (done : List Request) (effs : List Effect) (number line : ℕ) (place : Place)
      (value : Value)
      → All (IsOfRequest node done) effs → All (IsLawfulEffect layout exposed) effs
      → slice_get done number ≡ Some (Get place line)
      → part_value node number 0 false effs ≡ Some value
      → IsLawfulAt layout exposed place (or_zero (part_value node number 0 false effs))
  get_lawful node done effs number line place value of lawful at e =
      let part = part_lawful node done effs number 0 false (Get place line) value of lawful at refl e in
      let c = cell_of 1 0 place part.place (nat_lt 0 1) refl part.is_part in
      subst (λ (v : Value). IsLawfulAt layout exposed place v) (sym (or_zero_of
      (part_value node number 0 false effs) value e))
      (same_object part.place place value (ap (λ (p : Place). p.object) (sym c.is)) part.lawful)
