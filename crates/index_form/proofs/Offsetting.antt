-- Locals plus or minus a number, by the parts of an expression.
use Rattle.std.proofs.Common.{◌≡◌, refl, ap, ◌∙◌, ℕ, ℤ, pos, Bool, List, Option, Some, None, if◌then◌else◌}
use Rattle.sc_base.specs.declared.operator.Binary.TheVariants.{Add, Sub, Rem}
use Rattle.sc_core.specs.declared.operation.Constant.{Constant}
use Rattle.sc_core.specs.declared.operation.Constant.TheVariants.{Number, Null, Mine, Procs}
use Rattle.sc_core.specs.declared.operation.Operation.TheVariants as does
use Rattle.sc_core.specs.Core.{Core, constant, step, choice, update, Arguments, none, argument}
use Rattle.flow_form.specs.Forms.{mine, mine_by}
use Rattle.site_graph.specs.declared.site.IndexForm.{IndexForm}
use Rattle.index_form.specs.declared.chain.Two.{Two}
use Rattle.index_form.specs.declared.offset.Kind.TheVariants.{Local, Sum, Difference, Remainder, Own, Element, Other}
use Rattle.index_form.specs.declared.offset.Offset.{Offset}
use Rattle.index_form.specs.Outermost.{Stepped, Sides, constant_in, step_in, two_in, has_none}
use Rattle.index_form.specs.Chains.{chain_core, seen_two}
use Rattle.index_form.specs.Offsets.{kind, number_in, local_in, local_by, bare_local_in, moved, moved_back, sum_offset, difference_offset, two_offset, offset_by, step_offset, offset_at, offset_in}

-- ---- numbers and locals

pub number_none : (e : Core) → constant_in e ≡ None → number_in e ≡ None
unfolding constant_in number_in
number_none (constant k) h = cc
number_none (step operation all line) h = refl
number_none (choice of_pointer test on off) h = refl
number_none (update pointer operation right undo line) h = refl

number_of : Option Constant → Option ℤ
number_of (Some (Number n)) = Some n
number_of _ = None

number_by : (e : Core) → number_in e ≡ number_of (constant_in e)
unfolding constant_in number_in number_of
number_by (constant (Number n)) = refl
number_by (constant Null) = refl
number_by (constant Mine) = refl
number_by (constant Procs) = refl
number_by (step operation all line) = refl
number_by (choice of_pointer test on off) = refl
number_by (update pointer operation right undo line) = refl

pub number_is : (e : Core) (n : ℤ) → constant_in e ≡ Some (Number n) → number_in e ≡ Some n
unfolding number_of
number_is e n h = number_by e ∙ ap number_of h

pub number_null : (e : Core) → constant_in e ≡ Some Null → number_in e ≡ None
unfolding number_of
number_null e h = number_by e ∙ ap number_of h

pub number_mine : (e : Core) → constant_in e ≡ Some Mine → number_in e ≡ None
unfolding number_of
number_mine e h = number_by e ∙ ap number_of h

pub number_procs : (e : Core) → constant_in e ≡ Some Procs → number_in e ≡ None
unfolding number_of
number_procs e h = number_by e ∙ ap number_of h

local_at : Option Stepped → Option ℕ
local_at None = None
local_at (Some s) = bare_local_in s

local_of : (e : Core) → local_in e ≡ local_at (step_in e)
unfolding local_in local_at step_in bare_local_in local_by kind has_none
local_of (constant k) = refl
local_of (choice of_pointer test on off) = refl
local_of (update pointer operation right undo line) = refl
local_of (step (does.Use x) none line) = refl
local_of (step (does.Use x) (argument e more) line) = refl
local_of (step (does.Binary Add) all line) = refl
local_of (step (does.Binary Sub) all line) = refl
local_of (step (does.Binary Rem) all line) = refl
local_of (step (does.Binary _) all line) = refl
local_of (step _ all line) = refl

pub local_none : (e : Core) → step_in e ≡ None → local_in e ≡ None
unfolding local_at
local_none e h = local_of e ∙ ap local_at h

pub local_some : (e : Core) (s : Stepped) → step_in e ≡ Some s → local_in e ≡ bare_local_in s
unfolding local_at
local_some e s h = local_of e ∙ ap local_at h

pub local_local : (x : ℕ) (all : Arguments) → local_by (Local x) all ≡ (if has_none all then Some x else None)
unfolding local_by
local_local x all = refl

pub local_sum : (all : Arguments) → local_by Sum all ≡ None
unfolding local_by
local_sum all = refl

pub local_difference : (all : Arguments) → local_by Difference all ≡ None
unfolding local_by
local_difference all = refl

pub local_remainder : (all : Arguments) → local_by Remainder all ≡ None
unfolding local_by
local_remainder all = refl

pub local_own : (all : Arguments) → local_by Own all ≡ None
unfolding local_by
local_own all = refl

pub local_element : (o : ℕ) (plain : Bool) (all : Arguments) → local_by (Element o plain) all ≡ None
unfolding local_by
local_element o plain all = refl

pub local_other : (all : Arguments) → local_by Other all ≡ None
unfolding local_by
local_other all = refl

-- ---- sums and differences

pub offset_none : (e : Core) → step_in e ≡ None → offset_in e ≡ None
unfolding offset_in offset_at
offset_none e h = rw h refl

pub offset_some : (e : Core) (s : Stepped) → step_in e ≡ Some s → offset_in e ≡ step_offset s
unfolding offset_in offset_at
offset_some e s h = rw h refl

pub offset_local : (x : ℕ) (all : Arguments) →
    offset_by (Local x) all ≡ (if has_none all then Some (record { local = x; plus = pos 0 }) else None)
unfolding offset_by
offset_local x all = refl

pub offset_sum_some : (all : Arguments) (s : Sides) → two_in all ≡ Some s → offset_by Sum all ≡ sum_offset s
unfolding offset_by two_offset
offset_sum_some all s h = rw h refl

pub offset_sum_none : (all : Arguments) → two_in all ≡ None → offset_by Sum all ≡ None
unfolding offset_by two_offset
offset_sum_none all h = rw h refl

pub offset_difference_some : (all : Arguments) (s : Sides) → two_in all ≡ Some s → offset_by Difference all ≡ difference_offset s
unfolding offset_by two_offset
offset_difference_some all s h = rw h refl

pub offset_difference_none : (all : Arguments) → two_in all ≡ None → offset_by Difference all ≡ None
unfolding offset_by two_offset
offset_difference_none all h = rw h refl

pub offset_remainder : (all : Arguments) → offset_by Remainder all ≡ None
unfolding offset_by
offset_remainder all = refl

pub offset_own : (all : Arguments) → offset_by Own all ≡ None
unfolding offset_by
offset_own all = refl

pub offset_element : (o : ℕ) (plain : Bool) (all : Arguments) → offset_by (Element o plain) all ≡ None
unfolding offset_by
offset_element o plain all = refl

pub offset_other : (all : Arguments) → offset_by Other all ≡ None
unfolding offset_by
offset_other all = refl

pub sum_first : (two : Two) (o : Offset) → moved (local_in (chain_core two.left)) (number_in (chain_core two.right)) ≡ Some o →
    sum_offset (seen_two two) ≡ Some o
unfolding sum_offset seen_two
sum_first two o h = rw h refl

pub sum_second : (two : Two) → moved (local_in (chain_core two.left)) (number_in (chain_core two.right)) ≡ None →
    sum_offset (seen_two two) ≡ moved (local_in (chain_core two.right)) (number_in (chain_core two.left))
unfolding sum_offset seen_two
sum_second two h = rw h refl

pub difference_is : (two : Two) → difference_offset (seen_two two) ≡ moved_back (local_in (chain_core two.left)) (number_in (chain_core two.right))
unfolding difference_offset seen_two
difference_is two = refl

-- ---- the definition by the parts

moved_none : (x : Option ℕ) → moved x None ≡ None
unfolding moved
moved_none None = refl
moved_none (Some x) = refl

mine_at : (mines : List ℕ) → Option Offset → Option IndexForm
mine_at mines None = None
mine_at mines (Some o) = mine_by mines o.local o.plus

-- `+` where the left side is a number
sum_number : (mines : List ℕ) (n : ℤ) (b : Core) (line : ℕ) →
    mine mines (step (does.Binary Add) (argument (constant (Number n)) (argument b none)) line)
    ≡ mine_at mines (sum_offset (record { left = constant (Number n); right = b }))
unfolding mine_at sum_offset moved local_in number_in
sum_number mines n (constant k) line = refl
sum_number mines n (choice of_pointer test on off) line = refl
sum_number mines n (update pointer operation right undo at) line = refl
sum_number mines n (step (does.Use x) none at) line = refl
sum_number mines n (step (does.Use x) (argument e more) at) line = refl
sum_number mines n (step _ all at) line = refl

-- and where it is a local
sum_local : (mines : List ℕ) (x : ℕ) (b : Core) (at line : ℕ) →
    mine mines (step (does.Binary Add) (argument (step (does.Use x) none at) (argument b none)) line)
    ≡ mine_at mines (sum_offset (record { left = step (does.Use x) none at; right = b }))
unfolding mine_at sum_offset moved local_in number_in
sum_local mines x (constant (Number n)) at line = refl
sum_local mines x (constant Null) at line = refl
sum_local mines x (constant Mine) at line = refl
sum_local mines x (constant Procs) at line = refl
sum_local mines x (choice of_pointer test on off) at line = refl
sum_local mines x (update pointer operation right undo on) at line = refl
sum_local mines x (step (does.Use y) none on) at line = refl
sum_local mines x (step (does.Use y) (argument e more) on) at line = refl
sum_local mines x (step _ all on) at line = refl

neither : (a b : Core) → local_in a ≡ None → number_in a ≡ None → sum_offset (record { left = a; right = b }) ≡ None
unfolding sum_offset moved
neither a b p q = rw (p, q) (moved_none (local_in b))

mine_sum : (mines : List ℕ) (a b : Core) (line : ℕ) →
    mine mines (step (does.Binary Add) (argument a (argument b none)) line) ≡ mine_at mines (sum_offset (record { left = a; right = b }))
unfolding mine_at local_in number_in
mine_sum mines (constant (Number n)) b line = sum_number mines n b line
mine_sum mines (step (does.Use x) none at) b line = sum_local mines x b at line
mine_sum mines (step (does.Use x) (argument e more) at) b line = rw (neither (step (does.Use x) (argument e more) at) b refl refl) refl
mine_sum mines (constant Null) b line = rw (neither (constant Null) b refl refl) refl
mine_sum mines (constant Mine) b line = rw (neither (constant Mine) b refl refl) refl
mine_sum mines (constant Procs) b line = rw (neither (constant Procs) b refl refl) refl
mine_sum mines (choice of_pointer test on off) b line = rw (neither (choice of_pointer test on off) b refl refl) refl
mine_sum mines (update pointer operation right undo at) b line = rw (neither (update pointer operation right undo at) b refl refl) refl
mine_sum mines (step operation all at) b line = rw (neither (step operation all at) b refl refl) refl

mine_difference : (mines : List ℕ) (a b : Core) (line : ℕ) →
    mine mines (step (does.Binary Sub) (argument a (argument b none)) line) ≡ mine_at mines (difference_offset (record { left = a; right = b }))
unfolding mine_at local_in number_in difference_offset moved_back
mine_difference mines (step (does.Use x) none at) (constant (Number n)) line = refl
mine_difference mines (step (does.Use x) none at) (constant Null) line = refl
mine_difference mines (step (does.Use x) none at) (constant Mine) line = refl
mine_difference mines (step (does.Use x) none at) (constant Procs) line = refl
mine_difference mines (step (does.Use x) none at) (choice of_pointer test on off) line = refl
mine_difference mines (step (does.Use x) none at) (update pointer operation right undo on) line = refl
mine_difference mines (step (does.Use x) none at) (step operation all on) line = refl
mine_difference mines (step (does.Use x) (argument e more) at) b line = refl
mine_difference mines (constant k) b line = refl
mine_difference mines (choice of_pointer test on off) b line = refl
mine_difference mines (update pointer operation right undo at) b line = refl
mine_difference mines (step _ all at) b line = refl

-- an operator of one or of more than two has no form
sum_one : (mines : List ℕ) (a : Core) (line : ℕ) → mine mines (step (does.Binary Add) (argument a none) line) ≡ None
sum_one mines (constant (Number n)) line = refl
sum_one mines (constant Null) line = refl
sum_one mines (constant Mine) line = refl
sum_one mines (constant Procs) line = refl
sum_one mines (choice of_pointer test on off) line = refl
sum_one mines (update pointer operation right undo at) line = refl
sum_one mines (step (does.Use x) none at) line = refl
sum_one mines (step (does.Use x) (argument e more) at) line = refl
sum_one mines (step _ all at) line = refl

difference_one : (mines : List ℕ) (a : Core) (line : ℕ) → mine mines (step (does.Binary Sub) (argument a none) line) ≡ None
difference_one mines (constant (Number n)) line = refl
difference_one mines (constant Null) line = refl
difference_one mines (constant Mine) line = refl
difference_one mines (constant Procs) line = refl
difference_one mines (choice of_pointer test on off) line = refl
difference_one mines (update pointer operation right undo at) line = refl
difference_one mines (step (does.Use x) none at) line = refl
difference_one mines (step (does.Use x) (argument e more) at) line = refl
difference_one mines (step _ all at) line = refl

sum_many : (mines : List ℕ) (a b c : Core) (more : Arguments) (line : ℕ) →
    mine mines (step (does.Binary Add) (argument a (argument b (argument c more))) line) ≡ None
sum_many mines (constant (Number n)) (constant k) c more line = refl
sum_many mines (constant (Number n)) (choice of_pointer test on off) c more line = refl
sum_many mines (constant (Number n)) (update pointer operation right undo at) c more line = refl
sum_many mines (constant (Number n)) (step (does.Use x) none at) c more line = refl
sum_many mines (constant (Number n)) (step (does.Use x) (argument e rest) at) c more line = refl
sum_many mines (constant (Number n)) (step _ all at) c more line = refl
sum_many mines (step (does.Use x) none at) (constant (Number n)) c more line = refl
sum_many mines (step (does.Use x) none at) (constant Null) c more line = refl
sum_many mines (step (does.Use x) none at) (constant Mine) c more line = refl
sum_many mines (step (does.Use x) none at) (constant Procs) c more line = refl
sum_many mines (step (does.Use x) none at) (choice of_pointer test on off) c more line = refl
sum_many mines (step (does.Use x) none at) (update pointer operation right undo on) c more line = refl
sum_many mines (step (does.Use x) none at) (step operation all on) c more line = refl
sum_many mines (step (does.Use x) (argument e rest) at) b c more line = refl
sum_many mines (constant Null) b c more line = refl
sum_many mines (constant Mine) b c more line = refl
sum_many mines (constant Procs) b c more line = refl
sum_many mines (choice of_pointer test on off) b c more line = refl
sum_many mines (update pointer operation right undo at) b c more line = refl
sum_many mines (step _ all at) b c more line = refl

difference_many : (mines : List ℕ) (a b c : Core) (more : Arguments) (line : ℕ) →
    mine mines (step (does.Binary Sub) (argument a (argument b (argument c more))) line) ≡ None
difference_many mines (step (does.Use x) none at) (constant (Number n)) c more line = refl
difference_many mines (step (does.Use x) none at) (constant Null) c more line = refl
difference_many mines (step (does.Use x) none at) (constant Mine) c more line = refl
difference_many mines (step (does.Use x) none at) (constant Procs) c more line = refl
difference_many mines (step (does.Use x) none at) (choice of_pointer test on off) c more line = refl
difference_many mines (step (does.Use x) none at) (update pointer operation right undo on) c more line = refl
difference_many mines (step (does.Use x) none at) (step operation all on) c more line = refl
difference_many mines (step (does.Use x) (argument e rest) at) b c more line = refl
difference_many mines (constant k) b c more line = refl
difference_many mines (choice of_pointer test on off) b c more line = refl
difference_many mines (update pointer operation right undo at) b c more line = refl
difference_many mines (step _ all at) b c more line = refl

mine_is : (mines : List ℕ) (e : Core) → mine mines e ≡ mine_at mines (offset_in e)
unfolding mine_at offset_in offset_at step_in step_offset offset_by two_offset kind has_none two_in
mine_is mines (constant k) = refl
mine_is mines (choice of_pointer test on off) = refl
mine_is mines (update pointer operation right undo line) = refl
mine_is mines (step (does.Use x) none line) = refl
mine_is mines (step (does.Use x) (argument e more) line) = refl
mine_is mines (step (does.Binary Add) none line) = refl
mine_is mines (step (does.Binary Add) (argument a none) line) = sum_one mines a line
mine_is mines (step (does.Binary Add) (argument a (argument b none)) line) = mine_sum mines a b line
mine_is mines (step (does.Binary Add) (argument a (argument b (argument c more))) line) = sum_many mines a b c more line
mine_is mines (step (does.Binary Sub) none line) = refl
mine_is mines (step (does.Binary Sub) (argument a none) line) = difference_one mines a line
mine_is mines (step (does.Binary Sub) (argument a (argument b none)) line) = mine_difference mines a b line
mine_is mines (step (does.Binary Sub) (argument a (argument b (argument c more))) line) = difference_many mines a b c more line
mine_is mines (step (does.Binary _) all line) = refl
mine_is mines (step _ all line) = refl

pub mine_none : (mines : List ℕ) (e : Core) → offset_in e ≡ None → mine mines e ≡ None
unfolding mine_at
mine_none mines e h = mine_is mines e ∙ ap (mine_at mines) h

pub mine_some : (mines : List ℕ) (e : Core) (o : Offset) → offset_in e ≡ Some o → mine mines e ≡ mine_by mines o.local o.plus
unfolding mine_at
mine_some mines e o h = mine_is mines e ∙ ap (mine_at mines) h

pub ruleset mine_reads = (mine_none, mine_some)

pub ruleset local_reads = (local_local, local_sum, local_difference, local_remainder, local_own, local_element, local_other)

pub ruleset step_reads = (offset_local, offset_sum_some, offset_sum_none, offset_difference_some, offset_difference_none, offset_remainder, offset_own, offset_element, offset_other)

pub ruleset side_reads = (sum_first, sum_second, difference_is)

pub ruleset part_reads = (number_none, number_is, number_null, number_mine, number_procs, local_none, local_some, offset_none, offset_some)
