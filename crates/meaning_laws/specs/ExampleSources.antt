-- Small sources for two nodes, by hand, on which the conditions of histories are tried. Their lines are all 1.
use Rattle.std.specs.Prelude.{ℕ, pos, true, false, codes, List, [], ◌∷◌}
use Rattle.sc_base.specs.declared.shape.Bound.{Bound}
use Rattle.sc_base.specs.declared.shape.Ty.{Ty}
use Rattle.sc_base.specs.declared.value.CopyMode.{CopyMode}
use Rattle.sc_base.specs.declared.value.CopyMode.TheVariants.{Blocking, Split, OneWay}
use Rattle.sc_layout.specs.Layout.{Arrangement}
use Rattle.sc_core.specs.declared.operation.Constant.TheVariants.{Number, Null, Mine}
use Rattle.sc_core.specs.declared.operation.Operation.TheVariants.{Use, Element, Read, Write}
use Rattle.sc_core.specs.declared.operation.Action.{Action}
use Rattle.sc_core.specs.declared.operation.Action.TheVariants.{Drop, Get, Put, Send, Copy, Print, Sync, Barrier, AllStoreSync}
use Rattle.sc_core.specs.Core.{Core, constant, step, Arguments, none, argument, Does, nothing, then_, act, choose, Program}
use Rattle.sc_meaning.specs.Past.{Processes}
use Rattle.sc_meaning.specs.Source.{processes_of}

abbrev pub int : Ty
int = record { void = false; stars = [] }

abbrev pub four : Bound
four = record { steps = []; line = 1 }

-- `int s[4]::`, of which each of two nodes has two cells: s[0] and s[2] are on node 0, s[1] and s[3] on node 1
abbrev pub layout : Arrangement
layout = record {
  nodes = 2;
  objects = record {
    shape = record { name = 0; ty = int; spread = true; left = four ∷ []; right = []; at = 1; line = 1 };
    bounds = 4 ∷ [];
  } ∷ [];
}

-- ---- the parts of a source

abbrev pub number : ℕ → Core
number n = constant (Number (pos n))

abbrev pub one : Core → Arguments
one e = argument e none

abbrev pub two : Core → Core → Arguments
two a b = argument a (one b)

-- the cell s[i]
abbrev pub cell : ℕ → Core
cell i = step (Element 0 1 true) (one (number i)) 1

abbrev pub acts : Action → Arguments → Does
acts action arguments = act action arguments 1

abbrev pub read : ℕ → Does
read i = acts Drop (one (step Read (one (cell i)) 1))

abbrev pub write : ℕ → Core → Does
write i e = acts Drop (one (step Write (two (cell i) e) 1))

abbrev pub put : (i n : ℕ) → Does
put i n = acts Put (two (cell i) (number n))

abbrev pub store : (i n : ℕ) → Does
store i n = acts Send (two (cell i) (number n))

-- the local gets s[i]
abbrev pub get : (local i : ℕ) → Does
get x i = acts (Get x) (one (cell i))

-- so many bytes to s[i] from s[j]
abbrev pub copy : CopyMode → (bytes i j : ℕ) → Does
copy mode bytes i j = acts (Copy mode) (argument (cell i) (two (cell j) (number bytes)))

abbrev pub sync : Does
sync = acts Sync none

abbrev pub barrier : Does
barrier = acts Barrier none

abbrev pub all_store_sync : Does
all_store_sync = acts AllStoreSync none

-- prints the first two locals
abbrev pub print_two : Does
print_two = acts (Print 0 2) (two (step (Use 0) none 1) (step (Use 1) none 1))

abbrev pub in_order : List Does → Does
in_order [] = nothing
in_order (one ∷ more) = then_ one (in_order more)

-- ---- sources

-- what node 0 and what every other node does, with two locals
abbrev pub program : List Does → List Does → Program
program zero others = record {
  functions = record {
    params = [];
    others = int ∷ int ∷ [];
    result = record { void = true; stars = [] };
    body = choose false (constant Mine) (in_order others) (in_order zero);
    line = 1;
  } ∷ [];
  main = 0;
  texts = codes "%d%d" ∷ codes "splitc_main" ∷ [];
}

abbrev pub processes : List Does → List Does → Processes
processes zero others = processes_of layout (program zero others) 10

-- node 0 puts, gets and syncs, and then reads behind a barrier what node 1 stored before it
abbrev pub exchange : Processes
exchange = processes
    (put 1 5 ∷ get 0 3 ∷ get 1 1 ∷ sync ∷ print_two ∷ barrier ∷ read 2 ∷ [])
    (store 2 7 ∷ all_store_sync ∷ write 0 (number 4) ∷ [])

-- node 0 copies two cells to node 1 in each way, while node 1 does nothing but end
abbrev pub copying : Processes
copying = processes
    (write 0 (number 3) ∷ copy Blocking 16 1 0 ∷ copy Split 8 2 1 ∷ sync ∷ copy OneWay 8 3 0 ∷
    all_store_sync ∷ [])
    (all_store_sync ∷ [])

-- a store that no barrier waits for
abbrev pub late_store : Processes
late_store = processes (store 1 9 ∷ barrier ∷ []) (barrier ∷ [])

-- node 0 meets a barrier that node 1 never reaches, which puts and does not sync
abbrev pub forsaking : Processes
forsaking = processes (barrier ∷ []) (put 0 6 ∷ [])

-- both nodes meet two barriers
abbrev pub meeting : Processes
meeting = processes (barrier ∷ barrier ∷ []) (barrier ∷ barrier ∷ [])

-- node 0 writes null, which no typed source does, to a cell of whole numbers, and reads it
abbrev pub misfitting : Processes
misfitting = processes (write 0 (constant Null) ∷ read 0 ∷ []) []
