use Rattle.sc_isa.proofs.Exact.{exact}
use Rattle.sc_isa.proofs.laws.fits_is_exact.Goals as goal

pub returns : goal.returns
returns c layout place value = exact layout place value
