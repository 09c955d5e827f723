-- What the code finds that a step does, as the table of steps says it.
use Rattle.std.specs.Prelude.{Bool, true, false}
use Rattle.sc_isa.specs.Deeds as deed
use Rattle.sc_core.specs.declared.operation.Action.{Action}
use Rattle.sc_core.specs.declared.operation.Action.TheVariants.{Print}
use Rattle.sc_core.specs.declared.operation.Operation.{Operation}
use Rattle.sc_core.specs.declared.operation.Operation.TheVariants.{Element, Address, Call}
use Rattle.core_state.specs.declared.deeds.Made.{Made}
use Rattle.core_state.specs.declared.deeds.Made.TheVariants as made
use Rattle.core_state.specs.declared.deeds.Done.{Done}
use Rattle.core_state.specs.declared.deeds.Done.TheVariants as done

abbrev pub plain_made : Made → deed.Made
plain_made (made.Makes value) = deed.makes value
plain_made (made.Faults kind) = deed.faults kind
plain_made made.Stuck = deed.stuck
plain_made (made.Uses local) = deed.uses local
plain_made (made.Sets local value) = deed.sets local value
plain_made (made.Reads place) = deed.reads place
plain_made (made.Writes place value) = deed.writes place value

abbrev pub plain_done : Done → deed.Done
plain_done done.LetsGo = deed.lets_go
plain_done (done.Faults kind) = deed.ends kind
plain_done done.Stuck = deed.sticks
plain_done (done.Clears local value) = deed.clears local value
plain_done (done.Fills local place) = deed.fills local place
plain_done (done.Gets local place) = deed.gets local place
plain_done (done.Misses local kind) = deed.misses local kind
plain_done (done.Puts place value) = deed.puts place value
plain_done (done.Sends place value) = deed.sends place value
plain_done (done.Copies from to cells) = deed.copies from to cells
plain_done done.Waits = deed.waits 0
plain_done (done.Meets stores) = deed.meets stores

-- steps whose number of values is not their own: cells of objects, and calls, which are done apart, as prints are
abbrev pub takes_any : Operation → Bool
takes_any (Element object n plain) = true
takes_any (Address object n) = true
takes_any (Call function n) = true
takes_any _ = false

abbrev pub is_call : Operation → Bool
is_call (Call function n) = true
is_call _ = false

abbrev pub is_print : Action → Bool
is_print (Print text n) = true
is_print _ = false
