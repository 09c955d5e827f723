-- The code of a laid source under a plan that waits in time is sound, and shows what its source shows.
use Rattle.code_laws.proofs.Compiled.{pieces_of, runs_of, between_of}
use Rattle.code_laws.proofs.Compilation.{code_is_compiled}
use Rattle.code_soundness.specs.Laws.{CodeIsSound, CodeShowsItsSource}
use Rattle.code_soundness.proofs.SoundCode.{is_sound, shows}

pub code_is_sound : CodeIsSound
code_is_sound layout program plan code source is_plan in_time is begins =
    let it = code_is_compiled layout program plan code source is_plan in_time is begins in
    is_sound layout program plan code (pieces_of plan program) (between_of layout program) source is_plan in_time is
    begins it.sites it.tells_empty
    it.functions it.goes

pub code_shows_its_source : CodeShowsItsSource
code_shows_its_source layout program plan code source is_plan in_time is begins =
    let it = code_is_compiled layout program plan code source is_plan in_time is begins in
    record {
      pieces = pieces_of plan program;
      runs = runs_of plan program;
      spelled = it.spelled;
      between = between_of layout program;
      reaches = λ node budget within.
          shows layout program plan code (pieces_of plan program) (between_of layout program) source is_plan in_time
          is begins it.sites
          it.tells_empty it.functions it.goes node budget;
    }
