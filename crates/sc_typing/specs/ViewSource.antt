-- The file scope of the code as plain data.
use Rattle.sc_typing.specs.Source.{Source}
use Rattle.sc_typing.specs.declared.file.File.{File}

abbrev pub source_of : File → Source
source_of f =
    record { objects = f.objects.now; definitions = f.definitions.now; names = f.names.now; texts = f.texts.now }
