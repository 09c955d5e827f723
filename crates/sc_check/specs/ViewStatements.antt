-- What the code's statements see, as plain data.
use Rattle.sc_typing.specs.Statements.{Within}
use Rattle.sc_typing.specs.ViewSource.{source_of}
use Rattle.sc_check.specs.declared.statements.Body.{Body}

abbrev pub within_of : Body → Within
within_of b = record { source = source_of b.file; result = b.result.now }
