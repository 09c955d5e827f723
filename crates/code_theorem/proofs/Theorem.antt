-- The code theorem, from its parts.
use Rattle.code_laws.proofs.Compiled.{pieces_of, between_of}
use Rattle.code_laws.proofs.Compilation.{code_is_compiled}
use Rattle.code_soundness.proofs.OfSources.{code_is_sound}
use Rattle.code_soundness.proofs.SoundCode.{shows}
use Rattle.code_walks.proofs.Carried.{carried}
use Rattle.node_emit.specs.Law.{CodeTheorem}

pub code_theorem : CodeTheorem
code_theorem layout program plan code source is_plan in_time is begins =
    let it = code_is_compiled layout program plan code source is_plan in_time is begins in
    record {
      sound = code_is_sound layout program plan code source is_plan in_time is begins;
      carries = carried layout program plan code source is_plan in_time is begins it;
      does = λ node budget within. it.does node budget within;
      reaches = λ node budget within.
          shows layout program plan code (pieces_of plan program) (between_of layout program) source is_plan in_time is begins it.sites
          it.tells_empty it.functions it.goes node budget;
    }
