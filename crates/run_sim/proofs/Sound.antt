-- The code of a compiled source is sound.
use Rattle.sc_isa.specs.Sound.{IsSound}
use Rattle.splitc_compile.specs.Compiled.{Parts, AreParts}
use Rattle.splitc_compile.proofs.Emitted.{compiled_is_emitted}

pub is_sound : (parts : Parts) → AreParts parts → IsSound parts.code parts.layout
is_sound parts are = let emitted = compiled_is_emitted parts are in emitted.sound
