-- What sound code asks the fabric may do.
use Rattle.std.proofs.Common.{◌≡◌, ℕ, ◌+◌, ◌-◌, ◌<◌, ◌≤◌, List, ◌∷◌, Option, Some, None, Bool, true, false, ◌==◌, ◌&&◌, refl, sym, ap, ◌∙◌, subst, arith}
use Rattle.std.specs.Prelude.{if◌then◌else◌, slice_get}
use Rattle.std.specs.List.{All}
use Rattle.std.specs.Option.{option_map, option_map_or}
use Rattle.std.proofs.lemmas.Option.{slice_get_within, get_or_from_slice_get}
use Rattle.sc_layout.specs.Layout.{LaidObject, Arrangement, IsLayout, cells_of}
use Rattle.sc_layout.specs.Place.{extent_of}
use Rattle.sc_layout.proofs.Kept.{few_cells, cells-le-first}
use Rattle.sc_base.specs.declared.value.Place.{Place}
use Rattle.sc_isa.specs.declared.access.Access.{Access}
use Rattle.sc_isa.specs.declared.access.Access.TheVariants.{Read, Write, Copy}
use Rattle.sc_isa.specs.declared.access.Track.TheVariants.{Counter, Store, Covered}
use Rattle.sc_isa.specs.declared.code.Code.{Code}
use Rattle.sc_isa.specs.declared.journal.Entry.{Entry}
use Rattle.sc_isa.specs.declared.journal.Entry.TheVariants.{Issued}
use Rattle.sc_isa.specs.Run.{Issue, Wait, Answer, code_run}
use Rattle.sc_isa.specs.Sound.{IsSound, IsPlacedCopy, IsPlaced as IsPlacedIn}
use Rattle.sc_isa.specs.Laws.{IsPlacedAsk, IsOfCode}
use Rattle.sc_isa.proofs.Settling.{soundly}
use Rattle.sc_isa.proofs.Counters.{of_code}
use Rattle.fabric.specs.Access.{track_of}
use Rattle.fabric.specs.Effects.{access_at}
use Rattle.fabric.specs.State.{IsPlaced, IsCopy, IsTrack, IsAccess, HasFewCells}
use Rattle.code_sim.specs.UnderWay.{AllPlaced}

all_got : {X : Type 0} (P : X → Type 0) (xs : List X) (k : ℕ) (x : X) → All P xs → slice_get xs k ≡ Some x → P x
all_got P xs k x all e = subst P (get_or_from_slice_get xs k x x e) (all k x (slice_get_within xs k x e))

few_cells_there : (layout : Arrangement) (place : Place) (o : Option LaidObject) → IsLayout layout → slice_get layout.objects place.object ≡ o
    → option_map_or (λ x. cells_of layout.nodes x place.node) o 0 ≤ 65536
few_cells_there layout place None l e = omega arith
few_cells_there layout place (Some x) l e =
    (let few : cells_of layout.nodes x 0 ≤ 65536 = few_cells layout l place.object x e in
    let le : cells_of layout.nodes x place.node ≤ cells_of layout.nodes x 0 = cells-le-first layout.nodes x place.node l.some_node in
    omega (arith, few, le))

copy_of : (layout : Arrangement) (from to : Place) (cells : ℕ) → IsLayout layout → IsPlacedCopy layout from to cells → IsCopy layout from to cells
copy_of layout from to cells l c = record {
  some_cell = c.some_cell;
  few_cells = (let some = c.some_cell in
      let last = c.reads (cells - 1) (omega arith) in
      let at : from.offset + (cells - 1) < extent_of layout from.node from.object = last.offset in
      let few : extent_of layout from.node from.object ≤ 65536 = few_cells_there layout from (slice_get layout.objects from.object) l refl in
      omega (arith, at, few, some));
  from_inside = c.reads;
  to_inside = c.writes;
  one_type = ap (option_map (λ (o : LaidObject). o.shape.ty)) c.source_is ∙ ap (λ t. Some t) c.one_type ∙ sym (ap (option_map (λ (o : LaidObject). o.shape.ty)) c.target_is);
}

placed_of : (layout : Arrangement) (access : Access) → IsLayout layout → IsPlacedIn layout access → IsPlaced layout access
placed_of layout (Read place track) l p = p
placed_of layout (Write place value track) l p = p
placed_of layout (Copy from to cells track) l p = copy_of layout from to cells l p

track_is : (code : Code) (access : Access) → IsOfCode code (Issue access) → IsTrack code.sites (track_of access)
track_is code (Read place (Counter c)) h = h
track_is code (Read place Store) h = tt
track_is code (Read place Covered) h = tt
track_is code (Write place value (Counter c)) h = h
track_is code (Write place value Store) h = tt
track_is code (Write place value Covered) h = tt
track_is code (Copy from to cells (Counter c)) h = h
track_is code (Copy from to cells Store) h = tt
track_is code (Copy from to cells Covered) h = tt

module _ (code : Code) (layout : Arrangement) (sound : IsSound code layout) (node budget many : ℕ) (within : node < layout.nodes) (answers : List Answer) (k : ℕ) where
  pub placed_ask : (access : Access) → IsLayout layout → slice_get (code_run code layout node budget many answers).events k ≡ Some (Issue access) → IsPlaced layout access
  placed_ask access l e =
      placed_of layout access l
      (all_got (IsPlacedAsk layout) (code_run code layout node budget many answers).events k (Issue access) (soundly code layout sound node budget within many answers).placed e)

  pub is_access : (access : Access) → IsLayout layout → slice_get (code_run code layout node budget many answers).events k ≡ Some (Issue access) → IsAccess layout code.sites access
  is_access access l e = record {
    placed = placed_ask access l e;
    track = track_is code access (all_got (IsOfCode code) (code_run code layout node budget many answers).events k (Issue access) (of_code code layout node budget many answers) e);
  }

  pub known_counter : (counter : ℕ) → slice_get (code_run code layout node budget many answers).events k ≡ Some (Wait counter) → counter ≤ code.sites
  known_counter counter e = all_got (IsOfCode code) (code_run code layout node budget many answers).events k (Wait counter) (of_code code layout node budget many answers) e

pub few_cells_of : (layout : Arrangement) (access : Access) → IsPlaced layout access → HasFewCells access
few_cells_of layout (Read place track) p = tt
few_cells_of layout (Write place value track) p = tt
few_cells_of layout (Copy from to cells track) p = p.few_cells

-- one access more lies in the layout too
pub placed_too : (layout : Arrangement) (past : List Entry) (q n : ℕ) (a : Access) → AllPlaced layout past → IsPlaced layout a → AllPlaced layout (Issued q n a ∷ past)
placed_too layout past q n a all p = λ node number x h. by ((q == node) && (n == number)) node number x h
  where
    by : (b : Bool) (node number : ℕ) (x : Access) → (if b then Some a else access_at node number past) ≡ Some x → IsPlaced layout x
    by true node number x h = let e : a ≡ x = cc in subst (IsPlaced layout) e p
    by false node number x h = all node number x h
