use Rattle.splitc_compile.specs.Compiled.{parts_of}
use Rattle.splitc_compile.proofs.Begins.{listed}
use Rattle.splitc_top.proofs.texts.told_of.Goals as goal

pub listing-requires : goal.listing-requires
listing-requires c = listed (parts_of c.args.compiled.now) c.requires
