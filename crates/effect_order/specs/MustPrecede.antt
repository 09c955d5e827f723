-- Which effect of a run must precede which: the access of the first is complete in the source before that of the
-- second begins. After the program order of Shasha and Snir (1988), with the blocking and split accesses, the stores,
-- the syncs and the barriers of "Introduction to Split-C" (Culler and others, 1995).
use Rattle.std.specs.Prelude.{◌≡◌, ◌⊎◌, ◌<◌, true}
use Rattle.effect_order.specs.Run.{Run, Sync, IsBlocking, IsSplit, IsStore, Copies, Conflict}
use Rattle.effect_order.specs.Plan.{Code, ArrivesFor, AwaitsStores}
use Rattle.effect_order.specs.Walk.{HasNoCycle}

-- the first is of an earlier own step of the same node
abbrev pub Earlier : {E S : Type 0} → Run E S → E → E → Type 0
Earlier r e f = (r.node e ≡ r.node f) × (r.step e < r.step f)

-- the sync completes the effect: it is one of a split access, and the sync comes later on its node
abbrev pub Completes : {E S : Type 0} → Run E S → E → E → Type 0
Completes r sync e = r.Member sync × Sync r sync × IsSplit r e × Earlier r e sync

-- the access of e is complete on its node before the own step of f: it is blocking and earlier, or a sync completes it
-- before that step
abbrev pub OverBefore : {E S : Type 0} → Run E S → E → E → Type 0
OverBefore {E} r e f = (IsBlocking r e × Earlier r e f) ⊎ ((sync : E) × Completes r sync e × Earlier r sync f)

-- e precedes the release m
pub record PrecedesRelease {E S : Type 0} (r : Run E S) (c : Code r) (e m : E) : Type 0 where
  -- an arrival at the barrier of the release
  pub arrival : E
  pub arrives : ArrivesFor r c arrival m
  -- the node of e arrived there after e
  pub after : Earlier r e arrival
  -- by then e is over, or it is a store that the release awaits
  pub over : OverBefore r e arrival ⊎ (IsStore r e × AwaitsStores r c m)

-- the release lies before the own step of f on its node: the node arrived at the barrier before that step
abbrev pub LiesBefore : {E S : Type 0} → (r : Run E S) → Code r → E → E → Type 0
LiesBefore {E} r c m f = (arrival : E) × ArrivesFor r c arrival m × Earlier r arrival f

-- a release that e precedes lies before f
abbrev pub ReleasedBefore : {E S : Type 0} → (r : Run E S) → Code r → E → E → Type 0
ReleasedBefore {E} r c e f =
    (m : E) × r.Member m × (r.is_release m ≡ true) × PrecedesRelease r c e m × LiesBefore r c m f

-- e must precede f
abbrev pub MustPrecede : {E S : Type 0} → (r : Run E S) → Code r → E → E → Type 0
MustPrecede r c e f = OverBefore r e f ⊎ ReleasedBefore r c e f

-- why the effect e comes before the effect f
pub data EffectEdge {E S : Type 0} (r : Run E S) (c : Code r) (e f : E) : Type 0 where
  -- it must precede it
  Precedes : MustPrecede r c e f → EffectEdge r c e f
  -- a copy reads a cell, and then writes it
  Copied : Copies r e f → EffectEdge r c e f
  -- they conflict, in this order of the run
  Conflicts : Conflict r e f → r.time e < r.time f → EffectEdge r c e f

-- both are effects of this run, and the first comes before the second
abbrev pub EffectBefore : {E S : Type 0} → (r : Run E S) → Code r → E → E → Type 0
EffectBefore r c e f =
    r.Member e × r.Member f × (r.is_effect e ≡ true) × (r.is_effect f ≡ true) × EffectEdge r c e f

-- the three orders have together no cycle
abbrev pub EffectsHaveNoCycle : {E S : Type 0} → (r : Run E S) → Code r → Type 0
EffectsHaveNoCycle r c = HasNoCycle (EffectBefore r c)
