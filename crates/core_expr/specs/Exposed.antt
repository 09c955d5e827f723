-- How an operation changes where the cell of an object becomes the pointer to it.
use Rattle.sc_core.specs.declared.operation.Operation.{Operation}
use Rattle.sc_core.specs.declared.operation.Operation.TheVariants.{Element, Address}

abbrev pub exposed_operation : Operation → Operation
exposed_operation (Element o count plain) = Address o count
exposed_operation operation = operation
