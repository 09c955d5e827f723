-- What a node remembers: the locals of every function that was entered and not left, and the gets that have not landed.
use Rattle.std.specs.Prelude.{ℕ, suc, ◌==◌, List, [], ◌∷◌, ◌++◌, length, map, replicate, pos, slice_set, slice_index_or, if◌then◌else◌}
use Rattle.sc_base.specs.declared.value.Place.{Place}
use Rattle.sc_base.specs.declared.value.Value.{Value}
use Rattle.sc_base.specs.declared.value.Value.TheVariants.{Int}

-- a local: its value, or that a get into it is outstanding
pub data Slot : Type 0 where
  has : Value → Slot
  awaits : Slot

-- a local that gets a value, by how many frames stand below its own, and the place of what it gets
pub record Spot : Type 0 where
  pub level : ℕ
  pub local : ℕ
  pub place : Place

-- the locals of all frames, the newest first, and the gets since the last sync, in order of issue
pub record Memory : Type 0 where
  pub frames : List (List Slot)
  pub getting : List Spot

-- a local before it has begun
abbrev pub blank : Slot
blank = has (Int (pos 0))

-- the locals of a function that is entered with these arguments and has so many others
abbrev pub entered : List Value → (others : ℕ) → List Slot
entered arguments others = map has arguments ++ replicate others blank

abbrev pub top : List (List Slot) → List Slot
top [] = []
top (frame ∷ frames) = frame

abbrev pub below : List (List Slot) → List (List Slot)
below [] = []
below (frame ∷ frames) = frames

abbrev pub slot : Memory → ℕ → Slot
slot m x = slice_index_or (top m.frames) x blank

abbrev pub with_top : (List Slot → List Slot) → List (List Slot) → List (List Slot)
with_top f [] = []
with_top f (frame ∷ frames) = f frame ∷ frames

abbrev pub with_slot : Memory → ℕ → Slot → Memory
with_slot m x s = record m { frames = with_top (λ frame. slice_set frame x s) m.frames }

abbrev pub pushed : List Slot → Memory → Memory
pushed frame m = record m { frames = frame ∷ m.frames }

abbrev pub popped : Memory → Memory
popped m = record m { frames = below m.frames }

-- ---- gets

abbrev pub with_get : Memory → ℕ → Place → Memory
with_get m x place = record {
  frames = with_top (λ frame. slice_set frame x awaits) m.frames;
  getting = m.getting ++ record { level = length (below m.frames); local = x; place = place } ∷ [];
}

abbrev pub places : Memory → List Place
places m = map (λ s. s.place) m.getting

-- the frames with the value in the spot's local
abbrev pub landed_at : Spot → Value → List (List Slot) → List (List Slot)
landed_at s v [] = []
landed_at s v (frame ∷ frames) =
    if s.level == length frames then slice_set frame s.local (has v) ∷ frames else frame ∷ landed_at s v frames

abbrev pub landed_all : List Spot → List Value → List (List Slot) → List (List Slot)
landed_all (s ∷ ss) (v ∷ vs) frames = landed_all ss vs (landed_at s v frames)
landed_all _ _ frames = frames

-- each value lands in its local, and no get is outstanding
abbrev pub synced : List Value → Memory → Memory
synced vs m = record { frames = landed_all m.getting vs m.frames; getting = [] }
