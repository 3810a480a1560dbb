-- The numberings of the program, and the order of elements as it is tested one by one.
use Rattle.std.specs.Prelude.{Bool, true, List, Option, Some, None}
use Rattle.cc_capture.specs.declared.var.Elem.{Elem}
use Rattle.cc_certificate_text.specs.Reading.{Locals, Printed, Counted, stands_before, stand_behind, stand_in_order}
use Rattle.cc_certificate_reading.specs.declared.sets.Locals.{Locals as DeclaredLocals}
use Rattle.cc_certificate_reading.specs.declared.sets.Locals.TheVariants as numberings

abbrev pub locals_of : DeclaredLocals → Locals
locals_of numberings.Printed = Printed
locals_of numberings.Counted = Counted

-- whether the element may stand behind the last one, if there is one
abbrev pub follows : Locals → Option Elem → Elem → Bool
follows locals None e = true
follows locals (Some last) e = stands_before locals last e

-- whether the elements stand in order behind the last one, if there is one
abbrev pub stand_behind_last : Locals → Option Elem → List Elem → Bool
stand_behind_last locals None es = stand_in_order locals es
stand_behind_last locals (Some last) es = stand_behind locals last es
