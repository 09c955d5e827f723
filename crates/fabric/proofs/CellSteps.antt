-- What issuing a cell leaves, for each access and each placement of its ends.
use Rattle.std.proofs.Common.{◌≡◌, ℕ, ◌<◌, List, [], ◌∷◌, ◌++◌, Option, Some, None, true, false, refl, sym, ap, ◌∙◌, subst, add-zero}
use Rattle.std.specs.Prelude.{slice_get, IsSomeAnd}
use Rattle.std.specs.Option.{option_map}
use Rattle.effect_order.specs.Lists.{Each}
use Rattle.effect_order.proofs.Members.{each-append}
use Rattle.sc_base.specs.declared.shape.Ty.{Ty}
use Rattle.sc_layout.specs.Layout.{Arrangement, LaidObject}
use Rattle.std.proofs.lemmas.Bool.{lt-ltb}
use Rattle.sc_base.specs.declared.value.Value.{Value}
use Rattle.sc_base.specs.declared.value.Place.{Place}
use Rattle.effect_order.specs.Effect.{Effect, held}
use Rattle.effect_order.specs.Transfer.{Transfer, taking, filling, moving, part_place, further}
use Rattle.sc_isa.specs.declared.access.Access.{Access}
use Rattle.sc_isa.specs.declared.access.Access.TheVariants.{Read, Write, Copy}
use Rattle.sc_isa.specs.declared.access.Track.{Track}
use Rattle.sc_layout.specs.Place.{IsPlace, Fits, FitsType}
use Rattle.sc_layout.specs.Start.{start}
use Rattle.msg_pool.specs.declared.message.Message.{Message}
use Rattle.msg_pool.specs.declared.message.Part.TheVariants as part
use Rattle.msg_pool.specs.Pool.{Pool}
use Rattle.node_memory.specs.Memory.{Memory, cell as cell_of}
use Rattle.fabric.specs.Access.{transfer_of, track_of}
use Rattle.fabric.specs.Effects.{due, cell_at_issue}
use Rattle.fabric.specs.Flight.{message, carried}
use Rattle.fabric.specs.State.{messages_of, type_at, IsCopy, IsTrack}
use Rattle.fabric.specs.Kept.{IsReady}
use Rattle.fabric.specs.Issuing.{Untouched, HoldsAfter, CellIssued}
use Rattle.fabric.proofs.Parts.{is_due}
use Rattle.fabric.proofs.Cells.{read_effect, write_effect, due_read, due_write, due_after_read, due_after_write, holds_read, holds_write, cell_away, cell_over, cell_half, cell_whole}

pub none_more : (ms : List Message) → ms ≡ ms ++ []
none_more [] = refl
none_more (m ∷ ms) = ap (λ l. m ∷ l) (none_more ms)

zero_further : (place : Place) → further 0 place ≡ place
zero_further place = ap (λ (o : ℕ). record place { offset = o }) (add-zero place.offset)

pub taken_at : (place : Place) → part_place (taking place) 0 false ≡ Some place
taken_at place = ap Some (zero_further place)

filled_at : (place : Place) (value : Value) → part_place (filling place value) 0 true ≡ Some place
filled_at place value = ap Some (zero_further place)

moved_from : (from to : Place) (cells cell : ℕ) → cell < cells → part_place (moving from to cells) cell false ≡ Some (further cell from)
moved_from from to cells cell h = rw (lt-ltb cell cells h) refl

moved_to : (from to : Place) (cells cell : ℕ) → cell < cells → part_place (moving from to cells) cell true ≡ Some (further cell to)
moved_to from to cells cell h = rw (lt-ltb cell cells h) refl

-- with the effects after the issue, and what is then due
left_with : (node number cell : ℕ) (access : Access) (earlier later : List Effect) (was is : Memory) (pool pool' : Pool) (next : Option Effect)
    → cell_at_issue (start was.layout) (transfer_of access) node number cell earlier ≡ later
    → due (start was.layout) (transfer_of access) node number cell later ≡ next
    → HoldsAfter is later → messages_of pool' ≡ messages_of pool ++ carried (transfer_of access) node number cell (track_of access) next
    → CellIssued node number cell access earlier was is pool pool'
left_with node number cell access earlier later was is pool pool' next now d h ms = record {
  holds = subst (λ l. HoldsAfter is l) (sym now) h;
  messages = ms ∙ ap (λ o. messages_of pool ++ carried (transfer_of access) node number cell (track_of access) o)
      (sym d ∙ ap (λ l. due (start was.layout) (transfer_of access) node number cell l) (sym now));
}

pub read_here : (memory : Memory) (pool : Pool) (node number : ℕ) (place : Place) (track : Track) (earlier : List Effect) → place.node ≡ node
    → Untouched node number 0 earlier → HoldsAfter memory earlier → CellIssued node number 0 (Read place track) earlier memory memory pool pool
read_here memory pool node number place track earlier here u h =
    let s : Place → Value = start memory.layout in
    let d = due_read s (taking place) node number 0 earlier place u (taken_at place) in
    let none = due_after_read s (taking place) node number 0 earlier place None u (taken_at place) refl refl in
    left_with node number 0 (Read place track) earlier (read_effect s node number 0 place earlier ∷ earlier) memory memory pool pool None
    (cell_over s (taking place) node number 0 earlier (read_effect s node number 0 place earlier) d here none) none
    (holds_read memory (read_effect s node number 0 place earlier) earlier refl h) (none_more (messages_of pool))

pub read_away : (memory : Memory) (pool pool' : Pool) (node number : ℕ) (place : Place) (track : Track) (earlier : List Effect) → (place.node ≡ node → ⊥)
    → messages_of pool' ≡ messages_of pool ++ message node number 0 track (part.Read place None) ∷ []
    → Untouched node number 0 earlier → HoldsAfter memory earlier → CellIssued node number 0 (Read place track) earlier memory memory pool pool'
read_away memory pool pool' node number place track earlier away ms u h =
    let s : Place → Value = start memory.layout in
    let d = due_read s (taking place) node number 0 earlier place u (taken_at place) in
    left_with node number 0 (Read place track) earlier earlier memory memory pool pool' (Some (read_effect s node number 0 place earlier))
    (cell_away s (taking place) node number 0 earlier (read_effect s node number 0 place earlier) d away) d h ms

pub write_here : (was is : Memory) (pool : Pool) (node number : ℕ) (place : Place) (value : Value) (track : Track) (earlier : List Effect) → place.node ≡ node
    → is.layout ≡ was.layout → cell_of is place ≡ Some value
    → ((other : Place) → IsPlace was.layout other → (other ≡ place → ⊥) → cell_of is other ≡ cell_of was other)
    → Untouched node number 0 earlier → HoldsAfter was earlier → CellIssued node number 0 (Write place value track) earlier was is pool pool
write_here was is pool node number place value track earlier here same there elsewhere u h =
    let s : Place → Value = start was.layout in
    let e : Effect = write_effect node number 0 place value in
    let d : due s (filling place value) node number 0 earlier ≡ Some e = due_write s (filling place value) node number 0 earlier place value u refl (filled_at place value) refl in
    let none = due_after_write s (filling place value) node number 0 earlier e (is_due s (filling place value) node number 0 earlier e d) refl in
    left_with node number 0 (Write place value track) earlier (e ∷ earlier) was is pool pool None
    (cell_over s (filling place value) node number 0 earlier e d here none) none (holds_write was is e earlier refl same there elsewhere h) (none_more (messages_of pool))

pub write_away : (memory : Memory) (pool pool' : Pool) (node number : ℕ) (place : Place) (value : Value) (track : Track) (earlier : List Effect) → (place.node ≡ node → ⊥)
    → messages_of pool' ≡ messages_of pool ++ message node number 0 track (part.Write place value) ∷ []
    → Untouched node number 0 earlier → HoldsAfter memory earlier → CellIssued node number 0 (Write place value track) earlier memory memory pool pool'
write_away memory pool pool' node number place value track earlier away ms u h =
    let s : Place → Value = start memory.layout in
    let e : Effect = write_effect node number 0 place value in
    let d : due s (filling place value) node number 0 earlier ≡ Some e = due_write s (filling place value) node number 0 earlier place value u refl (filled_at place value) refl in
    left_with node number 0 (Write place value track) earlier earlier memory memory pool pool' (Some e)
    (cell_away s (filling place value) node number 0 earlier e d away) d h ms

-- what the cell holds is what the effects left there
pub shown_is : (memory : Memory) (place : Place) (v : Value) (earlier : List Effect) → IsPlace memory.layout place → cell_of memory place ≡ Some v → HoldsAfter memory earlier
    → held (start memory.layout) place earlier ≡ v
shown_is memory place v earlier p is h = let both : Some v ≡ Some (held (start memory.layout) place earlier) = sym is ∙ h place p in cc

pub copy_away : (memory : Memory) (pool pool' : Pool) (node number cell : ℕ) (from to : Place) (cells : ℕ) (track : Track) (earlier : List Effect) → cell < cells
    → ((further cell from).node ≡ node → ⊥)
    → messages_of pool' ≡ messages_of pool ++ message node number cell track (part.Read (further cell from) (Some (further cell to))) ∷ []
    → Untouched node number cell earlier → HoldsAfter memory earlier → CellIssued node number cell (Copy from to cells track) earlier memory memory pool pool'
copy_away memory pool pool' node number cell from to cells track earlier within away ms u h =
    let s : Place → Value = start memory.layout in
    let t : Transfer = moving from to cells in
    let e : Effect = read_effect s node number cell (further cell from) earlier in
    let d : due s t node number cell earlier ≡ Some e = due_read s t node number cell earlier (further cell from) u (moved_from from to cells cell within) in
    left_with node number cell (Copy from to cells track) earlier earlier memory memory pool pool' (Some e)
    (cell_away s t node number cell earlier e d away) d h
    (ms ∙ ap (λ (o : Option Place). messages_of pool ++ message node number cell track (part.Read (further cell from) o) ∷ []) (sym (moved_to from to cells cell within)))

pub copy_back : (memory : Memory) (pool pool' : Pool) (node number cell : ℕ) (from to : Place) (cells : ℕ) (track : Track) (v : Value) (earlier : List Effect) → cell < cells
    → (further cell from).node ≡ node → ((further cell to).node ≡ node → ⊥) → IsPlace memory.layout (further cell from) → cell_of memory (further cell from) ≡ Some v
    → messages_of pool' ≡ messages_of pool ++ message node number cell track (part.Write (further cell to) v) ∷ []
    → Untouched node number cell earlier → HoldsAfter memory earlier → CellIssued node number cell (Copy from to cells track) earlier memory memory pool pool'
copy_back memory pool pool' node number cell from to cells track v earlier within here away p is ms u h =
    let s : Place → Value = start memory.layout in
    let t : Transfer = moving from to cells in
    let e : Effect = read_effect s node number cell (further cell from) earlier in
    let f : Effect = write_effect node number cell (further cell to) (held s (further cell from) earlier) in
    let d : due s t node number cell earlier ≡ Some e = due_read s t node number cell earlier (further cell from) u (moved_from from to cells cell within) in
    let next : due s t node number cell (e ∷ earlier) ≡ Some f =
    due_after_read s t node number cell earlier (further cell from) (Some (further cell to)) u (moved_from from to cells cell within) (moved_to from to cells cell within) refl in
    left_with node number cell (Copy from to cells track) earlier (e ∷ earlier) memory memory pool pool' (Some f)
    (cell_half s t node number cell earlier e f d here next away) next (holds_read memory e earlier refl h)
    (ms ∙ ap (λ (x : Value). messages_of pool ++ message node number cell track (part.Write (further cell to) x) ∷ []) (sym (shown_is memory (further cell from) v earlier p is h)))

pub copy_here : (was is : Memory) (pool : Pool) (node number cell : ℕ) (from to : Place) (cells : ℕ) (track : Track) (v : Value) (earlier : List Effect) → cell < cells
    → (further cell from).node ≡ node → (further cell to).node ≡ node → IsPlace was.layout (further cell from) → cell_of was (further cell from) ≡ Some v
    → is.layout ≡ was.layout → cell_of is (further cell to) ≡ Some v
    → ((other : Place) → IsPlace was.layout other → (other ≡ further cell to → ⊥) → cell_of is other ≡ cell_of was other)
    → Untouched node number cell earlier → HoldsAfter was earlier → CellIssued node number cell (Copy from to cells track) earlier was is pool pool
copy_here was is pool node number cell from to cells track v earlier within here too p at same there elsewhere u h =
    let s : Place → Value = start was.layout in
    let t : Transfer = moving from to cells in
    let e : Effect = read_effect s node number cell (further cell from) earlier in
    let shown : held s (further cell from) earlier ≡ v = shown_is was (further cell from) v earlier p at h in
    let f : Effect = write_effect node number cell (further cell to) (held s (further cell from) earlier) in
    let d : due s t node number cell earlier ≡ Some e = due_read s t node number cell earlier (further cell from) u (moved_from from to cells cell within) in
    let next : due s t node number cell (e ∷ earlier) ≡ Some f =
    due_after_read s t node number cell earlier (further cell from) (Some (further cell to)) u (moved_from from to cells cell within) (moved_to from to cells cell within) refl in
    let none = due_after_write s t node number cell (e ∷ earlier) f (is_due s t node number cell (e ∷ earlier) f next) refl in
    left_with node number cell (Copy from to cells track) earlier (f ∷ e ∷ earlier) was is pool pool None
    (cell_whole s t node number cell earlier e f d here next too) none
    (holds_write was is f (e ∷ earlier) refl same (there ∙ ap Some (sym shown)) elsewhere (holds_read was e earlier refl h))
    (none_more (messages_of pool))

-- ---- messages that are ready

pub each_one : (P : Message → Type 0) (ms ms' : List Message) (m : Message) → ms' ≡ ms ++ m ∷ [] → Each P ms → P m → Each P ms'
each_one P ms ms' m is all own = subst (Each P) (sym is) (each-append P ms (m ∷ []) all (own, tt))

pub moved_fits : (layout : Arrangement) (v : Value) (o q : Option LaidObject) → option_map (λ (x : LaidObject). x.shape.ty) o ≡ option_map (λ (x : LaidObject). x.shape.ty) q
    → IsSomeAnd o (λ x. FitsType layout x.shape.ty v) → IsSomeAnd q (λ x. FitsType layout x.shape.ty v)
moved_fits layout v None q e h = absurd h
moved_fits layout v (Some x) None e h = cc
moved_fits layout v (Some x) (Some y) e h = let same : x.shape.ty ≡ y.shape.ty = cc in subst (λ (t : Ty). FitsType layout t v) same h

-- what was read of a copy fits where it is written
pub fits_there : (layout : Arrangement) (from to : Place) (cells cell : ℕ) (v : Value) → IsCopy layout from to cells → Fits layout (further cell from) v → Fits layout (further cell to) v
fits_there layout from to cells cell v c h = moved_fits layout v (slice_get layout.objects from.object) (slice_get layout.objects to.object) c.one_type h

pub ready_return : (layout : Arrangement) (sites node number cell : ℕ) (from to : Place) (cells : ℕ) (track : Track) (p q : Place) → IsCopy layout from to cells → cell < cells
    → node < layout.nodes → IsTrack sites track → p ≡ further cell from → q ≡ further cell to
    → IsReady layout sites (message node number cell track (part.Read p (Some q)))
ready_return layout sites node number cell from to cells track p q c within below known is_p is_q = record {
  issuer_within = below;
  track = known;
  part = (
    subst (IsPlace layout) (sym is_p) (c.from_inside cell within),
    subst (IsPlace layout) (sym is_q) (c.to_inside cell within),
    subst (λ (x : Place). type_at layout x ≡ type_at layout q) (sym is_p) (subst (λ (x : Place). type_at layout (further cell from) ≡ type_at layout x) (sym is_q) c.one_type),
  );
}

pub ready_write : (layout : Arrangement) (sites node number cell : ℕ) (from to : Place) (cells : ℕ) (track : Track) (p q : Place) (v : Value) → IsCopy layout from to cells → cell < cells
    → node < layout.nodes → IsTrack sites track → p ≡ further cell from → q ≡ further cell to → Fits layout p v
    → IsReady layout sites (message node number cell track (part.Write q v))
ready_write layout sites node number cell from to cells track p q v c within below known is_p is_q fits = record {
  issuer_within = below;
  track = known;
  part = (
    subst (IsPlace layout) (sym is_q) (c.to_inside cell within),
    subst (λ (x : Place). Fits layout x v) (sym is_q) (fits_there layout from to cells cell v c (subst (λ (x : Place). Fits layout x v) is_p fits)),
  );
}

-- ---- the same, where the places have names of their own

pub copied_back : (memory : Memory) (pool pool' : Pool) (node number cell : ℕ) (from to : Place) (cells : ℕ) (track : Track) (p q : Place) (v : Value) (earlier : List Effect) → cell < cells
    → p ≡ further cell from → q ≡ further cell to
    → p.node ≡ node → (q.node ≡ node → ⊥) → IsPlace memory.layout (further cell from) → cell_of memory p ≡ Some v
    → messages_of pool' ≡ messages_of pool ++ message node number cell track (part.Write q v) ∷ []
    → Untouched node number cell earlier → HoldsAfter memory earlier → CellIssued node number cell (Copy from to cells track) earlier memory memory pool pool'
copied_back memory pool pool' node number cell from to cells track p q v earlier within is_p is_q here away place is ms u h =
    copy_back memory pool pool' node number cell from to cells track v earlier within
    (subst (λ (x : Place). x.node ≡ node) is_p here) (subst (λ (x : Place). x.node ≡ node → ⊥) is_q away) place (subst (λ (x : Place). cell_of memory x ≡ Some v) is_p is)
    (ms ∙ ap (λ (x : Place). messages_of pool ++ message node number cell track (part.Write x v) ∷ []) is_q) u h

pub copied_here : (was is : Memory) (pool : Pool) (node number cell : ℕ) (from to : Place) (cells : ℕ) (track : Track) (p q : Place) (v : Value) (earlier : List Effect) → cell < cells
    → p ≡ further cell from → q ≡ further cell to
    → p.node ≡ node → q.node ≡ node → IsPlace was.layout (further cell from) → cell_of was p ≡ Some v
    → is.layout ≡ was.layout → cell_of is q ≡ Some v
    → ((other : Place) → IsPlace was.layout other → (other ≡ q → ⊥) → cell_of is other ≡ cell_of was other)
    → Untouched node number cell earlier → HoldsAfter was earlier → CellIssued node number cell (Copy from to cells track) earlier was is pool pool
copied_here was is pool node number cell from to cells track p q v earlier within is_p is_q here too place at same there elsewhere u h =
    copy_here was is pool node number cell from to cells track v earlier within
    (subst (λ (x : Place). x.node ≡ node) is_p here) (subst (λ (x : Place). x.node ≡ node) is_q too) place (subst (λ (x : Place). cell_of was x ≡ Some v) is_p at)
    same (subst (λ (x : Place). cell_of is x ≡ Some v) is_q there) (λ other o ne. elsewhere other o (λ e. ne (e ∙ is_q))) u h
