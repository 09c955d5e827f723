-- An object as it is made from its shape, and what is read from it.
use Rattle.std.proofs.Common.{◌≡◌, ℕ, suc, ◌+◌, ◌-◌, ◌*◌, ◌/◌, ◌%◌, ◌^◌, ◌<◌, ◌≤◌, true, false, min, Ok, Err, Some, None, List, [], ◌∷◌, ◌++◌, length, take, drop, refl, ap, arith}
use Rattle.std.specs.Prelude.{Result, nat_lt}
use Rattle.std.proofs.Math.Seq.{take-append_seam, drop-append_seam}
use Rattle.std.proofs.lemmas.Nat.{mod_below}
use Rattle.sc_base.specs.declared.shape.Shape.{Shape}
use Rattle.sc_layout.specs.Layout.{LaidObject, IsCause, each_of, first_then, bound_of, object_of, product, blocks_of, block_of, cells_of, share_of}
use Rattle.sc_layout.specs.Place.{place_in, spread_place}
use Rattle.sc_layout.specs.Small.{IsSmall}
use Rattle.sc_layout.specs.declared.error.LayoutError.{LayoutError}
use Rattle.sc_layout.proofs.Lists.{each_of-both, each_of-first, each_of-second}
use Rattle.sc_layout.proofs.Causes.{cause_kept}
use Rattle.sc_layout.proofs.Kept.{cells-spread, cells-ordinary, all-blocks, spread-offset}
use Rattle.sc_layout.proofs.Numbers.{first_cells, all_cells}

first_then-length : {A B E : Type 0} (p : Result B E) (r : Result (List B) E) (xs : List A) (ys : List B) → ((zs : List B) → r ≡ Ok zs → length zs ≡ length xs) → first_then p r ≡ Ok ys → length ys ≡ suc (length xs)
first_then-length (Ok x) (Ok zs) xs ys f h = let same : x ∷ zs ≡ ys = cc in rw (← same) (ap suc (f zs refl))
first_then-length (Ok x) (Err e) xs ys f h = cc
first_then-length (Err e) r xs ys f h = cc

pub each_of-length : {A B E : Type 0} (f : A → Result B E) (xs : List A) (ys : List B) → each_of f xs ≡ Ok ys → length ys ≡ length xs
each_of-length f [] ys h = let same : [] ≡ ys = cc in rw (← same) refl
each_of-length f (x ∷ xs) ys h = first_then-length (f x) (each_of f xs) xs ys (λ zs. each_of-length f xs zs) h

pub left_cause : (nodes : ℕ) (shape : Shape) (e : LayoutError) → IsCause e (each_of (bound_of nodes) shape.left) → IsCause e (object_of nodes shape)
unfolding object_of
left_cause nodes shape e c =
    cause_kept e (each_of (bound_of nodes) shape.left) (object_of nodes shape) (λ q. rw (each_of-first (bound_of nodes) shape.left shape.right e q) refl) c

pub right_cause : (nodes : ℕ) (shape : Shape) (lefts : List ℕ) (e : LayoutError) → each_of (bound_of nodes) shape.left ≡ Ok lefts → IsCause e (each_of (bound_of nodes) shape.right) → IsCause e (object_of nodes shape)
unfolding object_of
right_cause nodes shape lefts e p c =
    cause_kept e (each_of (bound_of nodes) shape.right) (object_of nodes shape) (λ q. rw (each_of-second (bound_of nodes) shape.left shape.right lefts e p q) refl) c

pub made : (nodes : ℕ) (shape copy : Shape) (lefts rights all : List ℕ) → copy ≡ shape → each_of (bound_of nodes) shape.left ≡ Ok lefts → each_of (bound_of nodes) shape.right ≡ Ok rights → all ≡ lefts ++ rights → object_of nodes shape ≡ Ok (record { shape = copy; bounds = all })
unfolding object_of
made nodes shape copy lefts rights all same p q is =
    rw (each_of-both (bound_of nodes) shape.left shape.right lefts rights p q, is, same) refl

pub left_part : (nodes : ℕ) (shape copy : Shape) (lefts rights all : List ℕ) → copy ≡ shape → each_of (bound_of nodes) shape.left ≡ Ok lefts → all ≡ lefts ++ rights → take (length copy.left) all ≡ lefts
left_part nodes shape copy lefts rights all same p is =
    rw (same, is, ← each_of-length (bound_of nodes) shape.left lefts p) (take-append_seam lefts rights)

pub right_part : (nodes : ℕ) (shape copy : Shape) (lefts rights all : List ℕ) → copy ≡ shape → each_of (bound_of nodes) shape.left ≡ Ok lefts → all ≡ lefts ++ rights → drop (length copy.left) all ≡ rights
right_part nodes shape copy lefts rights all same p is =
    rw (same, is, ← each_of-length (bound_of nodes) shape.left lefts p) (drop-append_seam lefts rights)

-- what the code keeps of an object, and what contracts see of it
pub record Keeps (object : LaidObject) (blocks block : ℕ) : Type 0 where
  pub blocks_are : blocks ≡ min (blocks_of object) (2 ^ 128 - 1)
  pub block_is : block ≡ min (block_of object) (2 ^ 128 - 1)

pub exact_blocks : (nodes blocks block : ℕ) (o : LaidObject) → Keeps o blocks block → IsSmall nodes o → blocks ≡ blocks_of o
exact_blocks nodes blocks block o k s = exact blocks (blocks_of o) k.blocks_are s.blocks
  where
    exact : (x y : ℕ) → x ≡ min y (2 ^ 128 - 1) → y < 2 ^ 64 → x ≡ y
    exact x y e h = omega arith

pub exact_block : (nodes blocks block : ℕ) (o : LaidObject) → Keeps o blocks block → IsSmall nodes o → block ≡ block_of o
exact_block nodes blocks block o k s = exact block (block_of o) k.block_is s.block
  where
    exact : (x y : ℕ) → x ≡ min y (2 ^ 128 - 1) → y < 2 ^ 64 → x ≡ y
    exact x y e h = omega arith

pub spread_cells : (nodes node blocks block rounds : ℕ) (o : LaidObject) → Keeps o blocks block → IsSmall nodes o → o.shape.spread ≡ true → rounds ≡ (blocks + (nodes - 1 - node)) / nodes → rounds * block ≡ cells_of nodes o node
spread_cells nodes node blocks block rounds o k s h e =
    let turned : nodes - 1 - node ≡ nodes - suc node = omega arith in
    rw (e, exact_blocks nodes blocks block o k s, exact_block nodes blocks block o k s, turned, cells-spread nodes o node h) refl

pub ordinary_cells : (nodes node blocks block rounds : ℕ) (o : LaidObject) → Keeps o blocks block → IsSmall nodes o → o.shape.spread ≡ false → rounds ≡ blocks → rounds * block ≡ cells_of nodes o node
ordinary_cells nodes node blocks block rounds o k s h e =
    rw (e, exact_blocks nodes blocks block o k s, exact_block nodes blocks block o k s, cells-ordinary nodes o node h, all-blocks o) refl

pub first_spread : (nodes blocks block rounds : ℕ) (o : LaidObject) → 0 < nodes → nodes < 2 ^ 32 → Keeps o blocks block → o.shape.spread ≡ true → rounds ≡ min (blocks + (nodes - 1)) (2 ^ 128 - 1) / nodes → min (min (rounds * block) (2 ^ 128 - 1)) (2 ^ 64 - 1) ≡ min (cells_of nodes o 0) (2 ^ 64 - 1)
first_spread nodes blocks block rounds o some fits k h e =
    let room : (2 ^ 64 - 1) * nodes < 2 ^ 128 - 1 = omega arith in
    rw (e, k.blocks_are, k.block_is, cells-spread nodes o 0 h) (first_cells (2 ^ 64 - 1) (2 ^ 128 - 1) nodes (blocks_of o) (block_of o) some room (omega arith))

pub first_ordinary : (nodes blocks block rounds : ℕ) (o : LaidObject) → Keeps o blocks block → o.shape.spread ≡ false → rounds ≡ blocks → min (min (rounds * block) (2 ^ 128 - 1)) (2 ^ 64 - 1) ≡ min (cells_of nodes o 0) (2 ^ 64 - 1)
first_ordinary nodes blocks block rounds o k h e =
    rw (e, k.blocks_are, k.block_is, cells-ordinary nodes o 0 h, all-blocks o) (all_cells (2 ^ 64 - 1) (2 ^ 128 - 1) (blocks_of o) (block_of o) (omega arith))

all_of : (nodes blocks block : ℕ) (o : LaidObject) → Keeps o blocks block → IsSmall nodes o → blocks * block ≡ product o.bounds
all_of nodes blocks block o k s = rw (exact_blocks nodes blocks block o k s, exact_block nodes blocks block o k s, all-blocks o) refl

nat_lt-no : (m n : ℕ) → n ≤ m → nat_lt m n ≡ false
nat_lt-no m n h = grind arith

nat_lt-yes : (m n : ℕ) → m < n → nat_lt m n ≡ true
nat_lt-yes m n h = grind arith

pub past : (nodes node object index blocks block : ℕ) (o : LaidObject) → Keeps o blocks block → IsSmall nodes o → blocks * block ≤ index → None ≡ place_in nodes o node object index
unfolding place_in
past nodes node object index blocks block o k s h =
    rw (nat_lt-no index (product o.bounds) (rw (all_of nodes blocks block o k s) at h)) refl

pub in_spread : (nodes node object index blocks block : ℕ) (o : LaidObject) → Keeps o blocks block → IsSmall nodes o → o.shape.spread ≡ true → index < blocks * block → Some (spread_place nodes block object index) ≡ place_in nodes o node object index
unfolding place_in
in_spread nodes node object index blocks block o k s spread h =
    rw (nat_lt-yes index (product o.bounds) (rw (all_of nodes blocks block o k s) at h), spread, exact_block nodes blocks block o k s) refl

pub in_ordinary : (nodes node object index blocks block : ℕ) (o : LaidObject) → Keeps o blocks block → IsSmall nodes o → o.shape.spread ≡ false → index < blocks * block → Some (record { object = object; node = node; offset = index }) ≡ place_in nodes o node object index
unfolding place_in
in_ordinary nodes node object index blocks block o k s spread h =
    rw (nat_lt-yes index (product o.bounds) (rw (all_of nodes blocks block o k s) at h), spread) refl

kept_share : (nodes node blocks block : ℕ) (o : LaidObject) → Keeps o blocks block → IsSmall nodes o → o.shape.spread ≡ true → share_of nodes blocks node * block ≡ cells_of nodes o node
kept_share nodes node blocks block o k s spread =
    rw (exact_blocks nodes blocks block o k s, exact_block nodes blocks block o k s, cells-spread nodes o node spread) refl

pub near : (nodes index blocks block : ℕ) (o : LaidObject) → Keeps o blocks block → IsSmall nodes o → o.shape.spread ≡ true → index < blocks * block → index / block / nodes * block + index % block < 2 ^ 32
near nodes index blocks block o k s spread h =
    let cell : 0 < block = rw (exact_block nodes blocks block o k s) s.some_cell in
    let node : ℕ = index / block % nodes in
    let below : index / block / nodes * block + index % block < share_of nodes blocks node * block = spread-offset nodes blocks block index s.some_node cell h in
    let is : share_of nodes blocks node * block ≡ cells_of nodes o node = kept_share nodes node blocks block o k s spread in
    let few : cells_of nodes o node ≤ 65536 = s.on_node node (mod_below (index / block) nodes s.some_node) in
    omega arith

pub index_near : (nodes node index blocks block : ℕ) (o : LaidObject) → node < nodes → Keeps o blocks block → IsSmall nodes o → o.shape.spread ≡ false → index < blocks * block → index < 2 ^ 32
index_near nodes node index blocks block o within k s spread h =
    let is : blocks * block ≡ cells_of nodes o node = rw (cells-ordinary nodes o node spread) (all_of nodes blocks block o k s) in
    let few : cells_of nodes o node ≤ 65536 = s.on_node node within in
    omega arith
