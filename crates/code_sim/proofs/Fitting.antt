-- The values that land at a wait fit the cells that were read: what a cell holds fits it, and each wait is answered by the
-- reads that the node has on its way there.
use Rattle.std.proofs.Common.{◌≡◌, ℕ, zero, suc, ◌<◌, List, [], ◌∷◌, ◌++◌, map, length, Option, Some, None, Bool, true, false, ◌==◌, ◌&&◌, refl, sym, ap, ◌∙◌, subst, arith, rules, eqb-true, eq-eqb}
use Rattle.std.specs.Prelude.{if◌then◌else◌, slice_get, IsSome, is_some, IsSomeAnd, nat_lt}
use Rattle.std.proofs.lemmas.Bool.{and_parts, and_from}
use Rattle.std.specs.Option.{option_map}
use Rattle.sc_base.specs.declared.shape.Star.{Star}
use Rattle.sc_base.specs.declared.value.Place.{Place}
use Rattle.sc_base.specs.declared.value.Value.{Value}
use Rattle.sc_layout.specs.Layout.{LaidObject, Arrangement}
use Rattle.sc_layout.specs.Place.{FitsType, Fits}
use Rattle.sc_layout.specs.Start.{start, zero_of, zero_in}
use Rattle.sc_isa.specs.declared.access.Access.{Access}
use Rattle.sc_isa.specs.declared.access.Access.TheVariants.{Read, Write, Copy}
use Rattle.sc_isa.specs.declared.access.Track.{Track}
use Rattle.sc_isa.specs.declared.access.Track.TheVariants.{Counter, Store, Covered}
use Rattle.sc_isa.specs.declared.journal.Entry.{Entry}
use Rattle.sc_isa.specs.declared.journal.Entry.TheVariants.{Issued, Delivered, Waited, Arrived, Passed, Finished}
use Rattle.sc_isa.specs.Fitting.{fits, fits_all}
use Rattle.sc_isa.specs.State.{Flight, reads_on, and_on, without_reads_on}
use Rattle.sc_isa.specs.Run.{Ask, Issue, Wait, Arrive, Pass}
use Rattle.sc_isa.proofs.Exact.{exact}
use Rattle.effect_order.specs.Effect.{Effect, held, same_place}
use Rattle.effect_order.specs.Transfer.{part_place, part_value, is_part, further}
use Rattle.node_machine.specs.Flights.{flown_by, flights_from, flights_of}
use Rattle.fabric.specs.Access.{transfer_of, is_counter, is_read_on}
use Rattle.fabric.specs.Effects.{access_at, awaited, due, effects, at_delivery, and_effect, or_zero, landed}
use Rattle.fabric.specs.Wired.{AllDone, Wired}
use Rattle.fabric.specs.State.{IsPlaced, IsCopy, type_at}
use Rattle.fabric.proofs.Parts.{IsDue, IsRead, IsWrite, is_due, written_with}
use Rattle.fabric.proofs.Keys.{issue_keeps}
use Rattle.fabric.proofs.Flying.{next_is_free}
use Rattle.code_sim.specs.Asking.{asks_of}
use Rattle.code_sim.specs.UnderWay.{AllPlaced}

-- ---- cells

object_there : {X : Type 0} (xs : List X) (k : ℕ) → k < length xs → (x : X) × (slice_get xs k ≡ Some x)
object_there [] k lt = absurd (omega arith)
object_there (y ∷ ys) zero lt = (y, refl)
object_there (y ∷ ys) (suc k) lt = object_there ys k (omega arith)

has_zero : (layout : Arrangement) (x : LaidObject) → FitsType layout x.shape.ty (zero_of x.shape.ty.stars)
has_zero layout x = by x.shape.ty.stars refl
  where
    by : (stars : List Star) → x.shape.ty.stars ≡ stars → FitsType layout x.shape.ty (zero_of stars)
    by [] e = (e, search rules)
    by (s ∷ stars) e = λ none. (let z : s ∷ stars ≡ [] = sym e ∙ none in cc)

-- a cell begins with a value that fits it
start_fits : (layout : Arrangement) (place : Place) → place.object < length layout.objects → Fits layout place (start layout place)
start_fits layout place lt =
    let o = object_there layout.objects place.object lt in
    subst (λ (x : Option LaidObject). IsSomeAnd x (λ y. FitsType layout y.shape.ty (zero_in x))) (sym o.1) (has_zero layout o.0)

-- ---- what is kept of the effects so far

pub record Good (layout : Arrangement) (past : List Entry) (earlier : List Effect) : Type 0 where
  pub held_fits : (place : Place) → place.object < length layout.objects → Fits layout place (held (start layout) place earlier)
  pub read_fits : (node number cell : ℕ) (v : Value) → part_value node number cell false earlier ≡ Some v
      → (access : Access) × (access_at node number past ≡ Some access) × ((place : Place) → part_place (transfer_of access) cell false ≡ Some place → Fits layout place v)

-- fits depends on the object alone
same_object : (layout : Arrangement) (p q : Place) (v : Value) → p.object ≡ q.object → Fits layout p v → Fits layout q v
same_object layout p q v e f = subst (λ k. IsSomeAnd (slice_get layout.objects k) (λ o. FitsType layout o.shape.ty v)) e f

-- of a place of one type with another one
same_type : (layout : Arrangement) (p q : Place) (v : Value) → type_at layout p ≡ type_at layout q → q.object < length layout.objects → Fits layout p v → Fits layout q v
same_type layout p q v e lt f = by (slice_get layout.objects p.object) (slice_get layout.objects q.object) refl e f
  where
    there : (x : LaidObject) × (slice_get layout.objects q.object ≡ Some x)
    there = object_there layout.objects q.object lt

    by : (a b : Option LaidObject) → slice_get layout.objects q.object ≡ b → option_map (λ (o : LaidObject). o.shape.ty) a ≡ option_map (λ (o : LaidObject). o.shape.ty) b
        → IsSomeAnd a (λ o. FitsType layout o.shape.ty v) → IsSomeAnd b (λ o. FitsType layout o.shape.ty v)
    by (Some x) (Some y) h t g = let s : x.shape.ty ≡ y.shape.ty = cc in subst (λ ty. FitsType layout ty v) s g
    by (Some x) None h t g = absurd (let z : None ≡ Some there.0 = sym h ∙ there.1 in cc)
    by None b h t g = absurd g

-- the places of an access that lies in the layout
placed_read : (layout : Arrangement) (access : Access) (cell : ℕ) (place : Place) → IsPlaced layout access → part_place (transfer_of access) cell false ≡ Some place
    → place.object < length layout.objects
placed_read layout (Read p track) cell place h e = by (nat_lt cell 1) e
  where
    by : (b : Bool) → (if b then Some (further cell p) else None) ≡ Some place → place.object < length layout.objects
    by true s = let z : further cell p ≡ place = cc in subst (λ (q : Place). q.object < length layout.objects) z h.object
    by false s = cc
placed_read layout (Write p v track) cell place h e = by (nat_lt cell 1) e
  where
    by : (b : Bool) → (if b then None else None) ≡ Some place → place.object < length layout.objects
    by true s = cc
    by false s = cc
placed_read layout (Copy from to cells track) cell place h e = by (nat_lt cell cells) e
  where
    by : (b : Bool) → (if b then Some (further cell from) else None) ≡ Some place → place.object < length layout.objects
    by true s = let z : further cell from ≡ place = cc in subst (λ (q : Place). q.object < length layout.objects) z (h.from_inside 0 h.some_cell).object
    by false s = cc

-- a part that is due is of the access, and so what it does fits
module _ (layout : Arrangement) (past : List Entry) (node number cell : ℕ) (access : Access) (issued : access_at node number past ≡ Some access) (placed : IsPlaced layout access) where
  written_fits : (earlier : List Effect) → Good layout past earlier → (place : Place) (value : Value) → part_place (transfer_of access) cell true ≡ Some place
      → written_with (transfer_of access).value (part_value node number cell false earlier) ≡ Some value → Fits layout place value
  written_fits earlier g place value at is = by access refl placed at is
    where
      copied : (from to : Place) (cells : ℕ) (track : Track) → access ≡ Copy from to cells track → IsCopy layout from to cells → (b : Bool) → nat_lt cell cells ≡ b
          → (if b then Some (further cell to) else None) ≡ Some place → part_value node number cell false earlier ≡ Some value → Fits layout place value
      copied from to cells track e h true lt s v =
          let r = g.read_fits node number cell value v in
          let same : r.0 ≡ Copy from to cells track = (let q : Some r.0 ≡ Some access = sym r.1 ∙ issued in let q' : r.0 ≡ access = cc in q' ∙ e) in
          let f : Fits layout (further cell from) value =
          r.2 (further cell from) (ap (λ (a : Access). part_place (transfer_of a) cell false) same ∙ ap (λ (t : Bool). if t then Some (further cell from) else None) lt) in
          let z : further cell to ≡ place = cc in
          subst (λ (q : Place). Fits layout q value) z
          (same_type layout (further cell from) (further cell to) value h.one_type (h.to_inside 0 h.some_cell).object f)
      copied from to cells track e h false lt s v = cc

      filled : (p : Place) (w : Value) (b : Bool) → Fits layout p w → (if b then Some (further cell p) else None) ≡ Some place → w ≡ value → Fits layout place value
      filled p w true f s v =
          let z : further cell p ≡ place = cc in
          subst (λ (q : Place). Fits layout q value) z (same_object layout p (further cell p) value refl (subst (Fits layout p) v f))
      filled p w false f s v = cc

      by : (a : Access) → access ≡ a → IsPlaced layout a → part_place (transfer_of a) cell true ≡ Some place
          → written_with (transfer_of a).value (part_value node number cell false earlier) ≡ Some value → Fits layout place value
      by (Read p track) e h s v = none (nat_lt cell 1) s
        where
          none : (b : Bool) → (if b then None else None) ≡ Some place → Fits layout place value
          none true t = cc
          none false t = cc
      by (Write p w track) e h s v = filled p w (nat_lt cell 1) h.1 s (cc)
      by (Copy from to cells track) e h s v = copied from to cells track e h (nat_lt cell cells) refl s v

  pub due_keeps : (earlier : List Effect) (e : Effect) → Good layout past earlier → due (start layout) (transfer_of access) node number cell earlier ≡ Some e → Good layout past (e ∷ earlier)
  due_keeps earlier e g d = by (is_due (start layout) (transfer_of access) node number cell earlier e d)
    where
      read : (place : Place) (v : Value) → part_place (transfer_of access) cell false ≡ Some place → Fits layout place v
          → Good layout past (record { node = node; number = number; cell = cell; wrote = false; place = place; value = v } ∷ earlier)
      read place v p f = record {
        held_fits = g.held_fits;
        read_fits = λ q n c w h. which (is_part q n c false (record { node = node; number = number; cell = cell; wrote = false; place = place; value = v })) q n c w h refl;
      }
        where
          which : (b : Bool) → (q n c : ℕ) (w : Value) → (if b then Some v else part_value q n c false earlier) ≡ Some w
              → is_part q n c false (record { node = node; number = number; cell = cell; wrote = false; place = place; value = v }) ≡ b
              → (a : Access) × (access_at q n past ≡ Some a) × ((at : Place) → part_place (transfer_of a) c false ≡ Some at → Fits layout at w)
          which false q n c w h t = g.read_fits q n c w h
          which true q n c w h t =
              let parts = and_parts ((node == q) && (number == n) && (cell == c)) true t in
              let two = and_parts ((node == q) && (number == n)) (cell == c) parts.0 in
              let one = and_parts (node == q) (number == n) two.0 in
              let vw : v ≡ w = cc in (
                access,
                subst (λ k. access_at k n past ≡ Some access) (eqb-true node q one.0) (subst (λ k. access_at node k past ≡ Some access) (eqb-true number n one.1) issued),
                λ at e. (let same : Some at ≡ Some place = sym e ∙ ap (λ k. part_place (transfer_of access) k false) (sym (eqb-true cell c two.1)) ∙ p in
                    let same' : place ≡ at = cc in
                    subst (λ (x : Place). Fits layout x w) same' (subst (Fits layout place) vw f)),
              )

      write : (place : Place) (v : Value) → Fits layout place v
          → Good layout past (record { node = node; number = number; cell = cell; wrote = true; place = place; value = v } ∷ earlier)
      write place v f = record {
        held_fits = λ at lt. held_by (same_place place at) at refl lt;
        read_fits = λ q n c w h. g.read_fits q n c w
            (sym (ap (λ (b : Bool). if b then Some v else part_value q n c false earlier) (and_false ((node == q) && (number == n) && (cell == c)))) ∙ h);
      }
        where
          and_false : (b : Bool) → (b && false) ≡ false
          and_false true = refl
          and_false false = refl

          held_by : (b : Bool) → (at : Place) → same_place place at ≡ b → at.object < length layout.objects → Fits layout at (if b then v else held (start layout) at earlier)
          held_by true at t lt =
              let parts = and_parts ((place.object == at.object) && (place.node == at.node)) (place.offset == at.offset) t in
              let two = and_parts (place.object == at.object) (place.node == at.node) parts.0 in
              same_object layout place at v (eqb-true place.object at.object two.0) f
          held_by false at t lt = g.held_fits at lt

      by : IsDue (start layout) (transfer_of access) node number cell earlier e → Good layout past (e ∷ earlier)
      by (IsRead place p r is) =
          subst (λ (x : Effect). Good layout past (x ∷ earlier)) (sym is)
          (read place (held (start layout) place earlier) p (g.held_fits place (placed_read layout access cell place placed p)))
      by (IsWrite place value p w v first is) =
          subst (λ (x : Effect). Good layout past (x ∷ earlier)) (sym is) (write place value (written_fits earlier g place value p v))

-- ---- over a whole past

-- an access that is issued now was not issued before
grown : (layout : Arrangement) (past : List Entry) (q n : ℕ) (a : Access) (earlier : List Effect) → access_at q n past ≡ None → Good layout past earlier
    → Good layout (Issued q n a ∷ past) earlier
grown layout past q n a earlier free g = record {
  held_fits = g.held_fits;
  read_fits = λ node number cell v h. (let r = g.read_fits node number cell v h in (r.0, still ((q == node) && (n == number)) node number r.0 r.1 refl, r.2));
}
  where
    still : (b : Bool) → (node number : ℕ) (x : Access) → access_at node number past ≡ Some x → ((q == node) && (n == number)) ≡ b
        → (if b then Some a else access_at node number past) ≡ Some x
    still false node number x h t = h
    still true node number x h t =
        let two = and_parts (q == node) (n == number) t in
        let f : access_at node number past ≡ None = subst (λ k. access_at k number past ≡ None) (eqb-true q node two.0) (subst (λ k. access_at q k past ≡ None) (eqb-true n number two.1) free) in
        absurd (let z : None ≡ Some x = sym f ∙ h in cc)

placed_before : (layout : Arrangement) (past : List Entry) (q n : ℕ) (a : Access) → access_at q n past ≡ None → AllPlaced layout (Issued q n a ∷ past) → AllPlaced layout past
placed_before layout past q n a free all = λ node number x h. all node number x (still ((q == node) && (n == number)) node number x h refl)
  where
    still : (b : Bool) → (node number : ℕ) (x : Access) → access_at node number past ≡ Some x → ((q == node) && (n == number)) ≡ b
        → (if b then Some a else access_at node number past) ≡ Some x
    still false node number x h t = h
    still true node number x h t =
        let two = and_parts (q == node) (n == number) t in
        let f : access_at node number past ≡ None = subst (λ k. access_at k number past ≡ None) (eqb-true q node two.0) (subst (λ k. access_at q k past ≡ None) (eqb-true n number two.1) free) in
        absurd (let z : None ≡ Some x = sym f ∙ h in cc)

pub effects_good : (layout : Arrangement) (past : List Entry) → Wired (start layout) layout.nodes past → AllPlaced layout past → Good layout past (effects (start layout) past)
effects_good layout [] w all = record { held_fits = λ place lt. start_fits layout place lt; read_fits = λ node number cell v h. cc }
effects_good layout (Issued q n a ∷ past) w all =
    let free : access_at q n past ≡ None = next_is_free (start layout) layout.nodes past w.1 q n w.0.numbered in
    let here : access_at q n (Issued q n a ∷ past) ≡ Some a = self (q == q) (n == n) (eq-eqb q q refl) (eq-eqb n n refl) in
    issue_keeps (Good layout (Issued q n a ∷ past)) (start layout) (transfer_of a) q n
    (λ cell earlier e g d. due_keeps layout (Issued q n a ∷ past) q n cell a here (all q n a here) earlier e g d)
    (transfer_of a).cells (effects (start layout) past)
    (grown layout past q n a (effects (start layout) past) free (effects_good layout past w.1 (placed_before layout past q n a free all)))
  where
    self : (b c : Bool) → b ≡ true → c ≡ true → (if b && c then Some a else access_at q n past) ≡ Some a
    self true true e f = refl
    self false c e f = cc
    self true false e f = cc
effects_good layout (Delivered q n c v ∷ past) w all =
    by (let h = effects_good layout past w.1 all in record { held_fits = h.held_fits; read_fits = h.read_fits }) (access_at q n past) refl
  where
    due_by : Good layout (Delivered q n c v ∷ past) (effects (start layout) past) → (a : Access) → access_at q n past ≡ Some a → (e : Option Effect) → due (start layout) (transfer_of a) q n c (effects (start layout) past) ≡ e
        → Good layout (Delivered q n c v ∷ past) (and_effect e (effects (start layout) past))
    due_by g a h None d = g
    due_by g a h (Some e) d = due_keeps layout (Delivered q n c v ∷ past) q n c a h (all q n a h) (effects (start layout) past) e g d

    by : Good layout (Delivered q n c v ∷ past) (effects (start layout) past) → (o : Option Access) → access_at q n past ≡ o → Good layout (Delivered q n c v ∷ past) (and_effect (at_delivery (start layout) o q n c (effects (start layout) past)) (effects (start layout) past))
    by g None h = g
    by g (Some a) h = due_by g a h (due (start layout) (transfer_of a) q n c (effects (start layout) past)) refl
effects_good layout (Waited q c ∷ past) w all = let g = effects_good layout past w.1 all in record { held_fits = g.held_fits; read_fits = g.read_fits }
effects_good layout (Arrived q s ∷ past) w all = let g = effects_good layout past w.1 all in record { held_fits = g.held_fits; read_fits = g.read_fits }
effects_good layout (Passed q ∷ past) w all = let g = effects_good layout past w.1 all in record { held_fits = g.held_fits; read_fits = g.read_fits }
effects_good layout (Finished q e ∷ past) w all = let g = effects_good layout past w.1 all in record { held_fits = g.held_fits; read_fits = g.read_fits }

-- ---- what a wait is answered

-- the places are those of the node's reads of these numbers, on the counter
abbrev pub Match : (past : List Entry) (node counter : ℕ) → List Place → List ℕ → Type 0
Match past node counter [] [] = Unit {0}
Match past node counter (p ∷ ps) (n ∷ ns) = (access_at node n past ≡ Some (Read p (Counter counter))) × Match past node counter ps ns
Match past node counter _ _ = ⊥

flights_joined : (fl : List Flight) (xs ys : List Ask) → flights_from fl (xs ++ ys) ≡ flights_from (flights_from fl xs) ys
flights_joined fl [] ys = refl
flights_joined fl (Issue access ∷ xs) ys = flights_joined (flown_by access fl) xs ys
flights_joined fl (Wait counter ∷ xs) ys = flights_joined (without_reads_on counter fl) xs ys
flights_joined fl (Arrive stores ∷ xs) ys = flights_joined fl xs ys
flights_joined fl (Pass ∷ xs) ys = flights_joined fl xs ys

reads_joined : (counter : ℕ) (xs : List Flight) (f : Flight) → reads_on counter (xs ++ f ∷ []) ≡ reads_on counter xs ++ and_on counter f []
reads_joined counter [] f = by (f.counter == counter)
  where
    by : (b : Bool) → (if b then f.place ∷ [] else []) ≡ (if b then f.place ∷ [] else [])
    by b = refl
reads_joined counter (x ∷ xs) f = ap (and_on counter x) (reads_joined counter xs f) ∙ by (x.counter == counter)
  where
    by : (b : Bool) → (if b then x.place ∷ (reads_on counter xs ++ and_on counter f []) else (reads_on counter xs ++ and_on counter f []))
        ≡ (if b then x.place ∷ reads_on counter xs else reads_on counter xs) ++ and_on counter f []
    by true = refl
    by false = refl

reads_left : (c counter : ℕ) (xs : List Flight) → reads_on counter (without_reads_on c xs) ≡ (if c == counter then [] else reads_on counter xs)
reads_left c counter [] = by (c == counter)
  where
    by : (b : Bool) → ◌≡◌ {A = List Place} [] (if b then [] else [])
    by true = refl
    by false = refl
reads_left c counter (x ∷ xs) = by (x.counter == c) refl (c == counter) refl (x.counter == counter) refl (reads_left c counter xs)
  where
    R : List Place
    R = reads_on counter (without_reads_on c xs)

    unlike : (a b d : ℕ) → (a == b) ≡ true → (b == d) ≡ true → (a == d) ≡ false → ⊥
    unlike a b d p q r = (let z : (a == d) ≡ true = eq-eqb a d (eqb-true a b p ∙ eqb-true b d q) in let y : true ≡ false = sym z ∙ r in cc)

    unlike' : (a b d : ℕ) → (a == b) ≡ true → (a == d) ≡ true → (b == d) ≡ false → ⊥
    unlike' a b d p q r = (let z : (b == d) ≡ true = eq-eqb b d (sym (eqb-true a b p) ∙ eqb-true a d q) in let y : true ≡ false = sym z ∙ r in cc)

    unlike'' : (a b d : ℕ) → (b == d) ≡ true → (a == d) ≡ true → (a == b) ≡ false → ⊥
    unlike'' a b d p q r = (let z : (a == b) ≡ true = eq-eqb a b (eqb-true a d q ∙ sym (eqb-true b d p)) in let y : true ≡ false = sym z ∙ r in cc)

    by : (a : Bool) → (x.counter == c) ≡ a → (b : Bool) → (c == counter) ≡ b → (d : Bool) → (x.counter == counter) ≡ d
        → reads_on counter (without_reads_on c xs) ≡ (if b then [] else reads_on counter xs)
        → reads_on counter (if a then without_reads_on c xs else x ∷ without_reads_on c xs) ≡ (if b then [] else (if d then x.place ∷ reads_on counter xs else reads_on counter xs))
    by true p true q d r i = i
    by true p false q true r i = absurd (unlike' x.counter c counter p r q)
    by true p false q false r i = i
    by false p true q true r i = absurd (unlike'' x.counter c counter q r p)
    by false p true q false r i = ap (λ (t : Bool). if t then x.place ∷ reads_on counter (without_reads_on c xs) else reads_on counter (without_reads_on c xs)) r ∙ i
    by false p false q true r i = ap (λ (t : Bool). if t then x.place ∷ reads_on counter (without_reads_on c xs) else reads_on counter (without_reads_on c xs)) r ∙ ap (λ (l : List Place). x.place ∷ l) i
    by false p false q false r i = ap (λ (t : Bool). if t then x.place ∷ reads_on counter (without_reads_on c xs) else reads_on counter (without_reads_on c xs)) r ∙ i

-- more is issued
lifted : (past : List Entry) (q m : ℕ) (a : Access) (node counter : ℕ) → access_at q m past ≡ None → (ps : List Place) (ns : List ℕ) → Match past node counter ps ns
    → Match (Issued q m a ∷ past) node counter ps ns
lifted past q m a node counter free [] [] h = tt
lifted past q m a node counter free (p ∷ ps) (n ∷ ns) h = (still ((q == node) && (m == n)) refl, lifted past q m a node counter free ps ns h.1)
  where
    still : (b : Bool) → ((q == node) && (m == n)) ≡ b → (if b then Some a else access_at node n past) ≡ Some (Read p (Counter counter))
    still false t = h.0
    still true t =
        let two = and_parts (q == node) (m == n) t in
        let f : access_at node n past ≡ None = subst (λ k. access_at k n past ≡ None) (eqb-true q node two.0) (subst (λ k. access_at q k past ≡ None) (eqb-true m n two.1) free) in
        absurd (let z : None ≡ Some (Read p (Counter counter)) = sym f ∙ h.0 in cc)
lifted past q m a node counter free [] (n ∷ ns) h = absurd h
lifted past q m a node counter free (p ∷ ps) [] h = absurd h

-- other entries issue nothing
kept : (past later : List Entry) (node counter : ℕ) → ((n : ℕ) → access_at node n later ≡ access_at node n past) → (ps : List Place) (ns : List ℕ)
    → Match past node counter ps ns → Match later node counter ps ns
kept past later node counter same [] [] h = tt
kept past later node counter same (p ∷ ps) (n ∷ ns) h = (same n ∙ h.0, kept past later node counter same ps ns h.1)
kept past later node counter same [] (n ∷ ns) h = absurd h
kept past later node counter same (p ∷ ps) [] h = absurd h

last_too : (past : List Entry) (node counter : ℕ) (p : Place) (n : ℕ) → access_at node n past ≡ Some (Read p (Counter counter)) → (ps : List Place) (ns : List ℕ)
    → Match past node counter ps ns → Match past node counter (ps ++ p ∷ []) (ns ++ n ∷ [])
last_too past node counter p n e [] [] h = (e, tt)
last_too past node counter p n e (q ∷ ps) (m ∷ ns) h = (h.0, last_too past node counter p n e ps ns h.1)
last_too past node counter p n e [] (m ∷ ns) h = absurd h
last_too past node counter p n e (q ∷ ps) [] h = absurd h

module _ (layout : Arrangement) (node counter : ℕ) where
  abbrev pub on_way : List Entry → List Place
  on_way past = reads_on counter (flights_of (asks_of node past))

  at_end : (asks : List Ask) (ask : Ask) → flights_of (asks ++ ask ∷ []) ≡ flights_from (flights_of asks) (ask ∷ [])
  at_end asks ask = flights_joined [] asks (ask ∷ [])

  matched : (past : List Entry) → Wired (start layout) layout.nodes past → Match past node counter (on_way past) (awaited node counter past)
  matched [] w = tt
  matched (Issued q n a ∷ past) w =
      by (lifted past q n a node counter (next_is_free (start layout) layout.nodes past w.1 q n w.0.numbered) (on_way past) (awaited node counter past) (matched past w.1)) (q == node) refl a refl
    where
      own : (q == node) ≡ true → access_at node n (Issued q n a ∷ past) ≡ Some a
      own e = ap (λ (b : Bool). if b && (n == n) then Some a else access_at node n past) e ∙ ap (λ (b : Bool). if b then Some a else access_at node n past) (eq-eqb n n refl)

      same : (b : Bool) (other : Ask) → flights_from (flights_of (asks_of node past)) (other ∷ []) ≡ flights_of (asks_of node past)
          → on_way past ≡ reads_on counter (flights_of (if b then asks_of node past ++ other ∷ [] else asks_of node past))
      same true other e = ap (reads_on counter) (sym (at_end (asks_of node past) other ∙ e))
      same false other e = refl

      unread : Match (Issued q n a ∷ past) node counter (on_way past) (awaited node counter past) → (b : Bool) → flown_by a (flights_of (asks_of node past)) ≡ flights_of (asks_of node past) → is_read_on counter a ≡ false
          → Match (Issued q n a ∷ past) node counter (reads_on counter (flights_of (if b then asks_of node past ++ Issue a ∷ [] else asks_of node past)))
          (if b && is_read_on counter a then awaited node counter past ++ n ∷ [] else awaited node counter past)
      unread old b e f =
          subst (λ ps. Match (Issued q n a ∷ past) node counter ps (if b && is_read_on counter a then awaited node counter past ++ n ∷ [] else awaited node counter past)) (same b (Issue a) e)
          (subst (λ ns. Match (Issued q n a ∷ past) node counter (on_way past) ns) (sym (none b (is_read_on counter a) f)) old)
        where
          none : (b t : Bool) → t ≡ false → (if b && t then awaited node counter past ++ n ∷ [] else awaited node counter past) ≡ awaited node counter past
          none true false e = refl
          none false t e = refl
          none true true e = cc

      by : Match (Issued q n a ∷ past) node counter (on_way past) (awaited node counter past) → (b : Bool) → (q == node) ≡ b → (x : Access) → x ≡ a
          → Match (Issued q n a ∷ past) node counter (reads_on counter (flights_of (if b then asks_of node past ++ Issue a ∷ [] else asks_of node past)))
          (if b && is_read_on counter a then awaited node counter past ++ n ∷ [] else awaited node counter past)
      by old false h x e = old
      by old true h (Write p v track) e = unread old true (ap (λ (y : Access). flown_by y (flights_of (asks_of node past))) (sym e)) (ap (is_read_on counter) (sym e))
      by old true h (Copy from to cells track) e = unread old true (ap (λ (y : Access). flown_by y (flights_of (asks_of node past))) (sym e)) (ap (is_read_on counter) (sym e))
      by old true h (Read p Store) e = unread old true (ap (λ (y : Access). flown_by y (flights_of (asks_of node past))) (sym e)) (ap (is_read_on counter) (sym e))
      by old true h (Read p Covered) e = unread old true (ap (λ (y : Access). flown_by y (flights_of (asks_of node past))) (sym e)) (ap (is_read_on counter) (sym e))
      by old true h (Read p (Counter c)) e = counted (c == counter) refl
        where
          flying : reads_on counter (flights_of (asks_of node past ++ Issue a ∷ [])) ≡ on_way past ++ (if c == counter then p ∷ [] else [])
          flying =
              ap (reads_on counter) (at_end (asks_of node past) (Issue a))
              ∙ ap (λ (y : Access). reads_on counter (flown_by y (flights_of (asks_of node past)))) (sym e)
              ∙ reads_joined counter (flights_of (asks_of node past)) (record { counter = c; place = p })

          reads : is_read_on counter a ≡ (c == counter)
          reads = ap (is_read_on counter) (sym e)

          counted : (t : Bool) → (c == counter) ≡ t
              → Match (Issued q n a ∷ past) node counter (reads_on counter (flights_of (asks_of node past ++ Issue a ∷ [])))
              (if is_read_on counter a then awaited node counter past ++ n ∷ [] else awaited node counter past)
          counted true t =
              subst (λ ps. Match (Issued q n a ∷ past) node counter ps (if is_read_on counter a then awaited node counter past ++ n ∷ [] else awaited node counter past))
              (sym (flying ∙ ap (λ (b : Bool). on_way past ++ (if b then p ∷ [] else [])) t))
              (subst (λ ns. Match (Issued q n a ∷ past) node counter (on_way past ++ p ∷ []) ns)
              (sym (ap (λ (b : Bool). if b then awaited node counter past ++ n ∷ [] else awaited node counter past) (reads ∙ t)))
              (last_too (Issued q n a ∷ past) node counter p n
              (own h ∙ ap (λ (y : Access). Some y) (sym e) ∙ ap (λ k. Some (Read p (Counter k))) (eqb-true c counter t)) (on_way past) (awaited node counter past) old))
          counted false t =
              subst (λ ps. Match (Issued q n a ∷ past) node counter ps (if is_read_on counter a then awaited node counter past ++ n ∷ [] else awaited node counter past))
              (sym (flying ∙ ap (λ (b : Bool). on_way past ++ (if b then p ∷ [] else [])) t ∙ no_more (on_way past)))
              (subst (λ ns. Match (Issued q n a ∷ past) node counter (on_way past) ns)
              (sym (ap (λ (b : Bool). if b then awaited node counter past ++ n ∷ [] else awaited node counter past) (reads ∙ t))) old)
            where
              no_more : (xs : List Place) → xs ++ [] ≡ xs
              no_more [] = refl
              no_more (x ∷ xs) = ap (λ (l : List Place). x ∷ l) (no_more xs)
  matched (Delivered q n c v ∷ past) w = kept past (Delivered q n c v ∷ past) node counter (λ m. refl) (on_way past) (awaited node counter past) (matched past w.1)
  matched (Waited q c ∷ past) w = by (q == node) (c == counter) refl (kept past (Waited q c ∷ past) node counter (λ m. refl) (on_way past) (awaited node counter past) (matched past w.1))
    where
      left : reads_on counter (flights_of (asks_of node past ++ Wait c ∷ [])) ≡ (if c == counter then [] else on_way past)
      left = ap (reads_on counter) (at_end (asks_of node past) (Wait c)) ∙ reads_left c counter (flights_of (asks_of node past))

      by : (b t : Bool) → (c == counter) ≡ t → Match (Waited q c ∷ past) node counter (on_way past) (awaited node counter past)
          → Match (Waited q c ∷ past) node counter (reads_on counter (flights_of (if b then asks_of node past ++ Wait c ∷ [] else asks_of node past)))
          (if b && (c == counter) then [] else awaited node counter past)
      by false t e old = old
      by true true e old =
          subst (λ ps. Match (Waited q c ∷ past) node counter ps (if c == counter then [] else awaited node counter past)) (sym (left ∙ ap (λ (b : Bool). if b then [] else on_way past) e))
          (subst (λ ns. Match (Waited q c ∷ past) node counter [] ns) (sym (ap (λ (b : Bool). if b then [] else awaited node counter past) e)) tt)
      by true false e old =
          subst (λ ps. Match (Waited q c ∷ past) node counter ps (if c == counter then [] else awaited node counter past)) (sym (left ∙ ap (λ (b : Bool). if b then [] else on_way past) e))
          (subst (λ ns. Match (Waited q c ∷ past) node counter (on_way past) ns) (sym (ap (λ (b : Bool). if b then [] else awaited node counter past) e)) old)
  matched (Arrived q s ∷ past) w =
      subst (λ ps. Match (Arrived q s ∷ past) node counter ps (awaited node counter past)) (same (q == node))
      (kept past (Arrived q s ∷ past) node counter (λ m. refl) (on_way past) (awaited node counter past) (matched past w.1))
    where
      same : (b : Bool) → on_way past ≡ reads_on counter (flights_of (if b then asks_of node past ++ Arrive s ∷ [] else asks_of node past))
      same true = ap (reads_on counter) (sym (at_end (asks_of node past) (Arrive s)))
      same false = refl
  matched (Passed q ∷ past) w =
      subst (λ ps. Match (Passed q ∷ past) node counter ps (awaited node counter past)) (same (q == node))
      (kept past (Passed q ∷ past) node counter (λ m. refl) (on_way past) (awaited node counter past) (matched past w.1))
    where
      same : (b : Bool) → on_way past ≡ reads_on counter (flights_of (if b then asks_of node past ++ Pass ∷ [] else asks_of node past))
      same true = ap (reads_on counter) (sym (at_end (asks_of node past) Pass))
      same false = refl
  matched (Finished q e ∷ past) w = kept past (Finished q e ∷ past) node counter (λ m. refl) (on_way past) (awaited node counter past) (matched past w.1)

  -- the values that land fit the cells that were read
  pub landed_fits : (past : List Entry) → Wired (start layout) layout.nodes past → AllPlaced layout past → AllDone (start layout) past (is_counter counter) node
      → fits_all layout (on_way past) (landed (start layout) node counter past) ≡ true
  landed_fits past w all d = each (on_way past) (awaited node counter past) (matched past w)
    where
      E : List Effect
      E = effects (start layout) past

      one : (p : Place) (n : ℕ) → access_at node n past ≡ Some (Read p (Counter counter)) → fits layout p (or_zero (part_value node n 0 false (effects (start layout) past))) ≡ true
      one p n h = by (part_value node n 0 false (effects (start layout) past)) refl (d n (Read p (Counter counter)) h (eq-eqb counter counter refl) 0 false refl)
        where
          by : (o : Option Value) → part_value node n 0 false (effects (start layout) past) ≡ o → IsSome (part_value node n 0 false (effects (start layout) past)) → fits layout p (or_zero o) ≡ true
          by None e i = absurd (let z : is_some {T = Value} None ≡ true = sym (ap is_some e) ∙ i in cc)
          by (Some v) e i =
              let r = (effects_good layout past w all).read_fits node n 0 v e in
              let same : Some r.0 ≡ Some (Read p (Counter counter)) = sym r.1 ∙ h in
              let is : r.0 ≡ Read p (Counter counter) = cc in
              (exact layout p v).1 (same_object layout (further 0 p) p v refl (r.2 (further 0 p) (ap (λ (a : Access). part_place (transfer_of a) 0 false) is)))

      each : (ps : List Place) (ns : List ℕ) → Match past node counter ps ns
          → fits_all layout ps (map (λ n. or_zero (part_value node n 0 false (effects (start layout) past))) ns) ≡ true
      each [] [] m = refl
      each (p ∷ ps) (n ∷ ns) m =
          and_from (fits layout p (or_zero (part_value node n 0 false (effects (start layout) past))))
          (fits_all layout ps (map (λ n. or_zero (part_value node n 0 false (effects (start layout) past))) ns)) (one p n m.0) (each ps ns m.1)
      each [] (n ∷ ns) m = absurd m
      each (p ∷ ps) [] m = absurd m
