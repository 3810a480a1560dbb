-- What the program's steps find, as the definitions of inference have it.
use Rattle.std.specs.Prelude.{Option, Some}
use Rattle.cc_core.specs.declared.types.Ty.{Ty}
use Rattle.cc_core.specs.Contexts.{Bind, entry_of}
use Rattle.cc_core.specs.TermViews.{type_of, note_of, term_of}
use Rattle.cc_checking.specs.Inference.{Result, result, Named, named_by}
use Rattle.cc_known.specs.declared.found.Found.{Found}
use Rattle.cc_known.specs.declared.found.Named.{Named as DeclaredNamed}

-- the entry of a variable of the type
abbrev pub some_entry : Ty → Option Bind
some_entry type = Some (entry_of (type_of type))

-- what is found for a term
abbrev pub found_of : Found → Result
found_of found = result (type_of found.ty) (term_of found.node.value)

-- what is named
abbrev pub named_of : DeclaredNamed → Named
named_of named = named_by (type_of named.ty) (note_of named.note)
