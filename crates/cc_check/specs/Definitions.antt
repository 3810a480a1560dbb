-- What the program's definitions, and what it finds for them, stand for.
use Rattle.std.specs.Prelude.{option_map}
use Rattle.cc_core.specs.declared.terms.CoreDef.{CoreDef}
use Rattle.cc_core.specs.declared.terms.Checked.{Checked}
use Rattle.cc_core.specs.TermViews.{type_of, note_of, term_of}
use Rattle.cc_core.specs.Places.{places_of}
use Rattle.cc_checking.specs.Verdicts.{Definition, Checking, checking, Accepted}
use Rattle.cc_check.specs.declared.found.Checking.{Checking as DeclaredChecking}

-- the definition
abbrev pub definition_of : CoreDef → Definition
definition_of definition =
    record {
      name_at = definition.name_at;
      note = note_of definition.note;
      recursive = definition.recursive;
      right = term_of definition.right.value;
      places = places_of definition.right.value;
    }

-- what is found for it, before any hole is filled
abbrev pub checking_of : DeclaredChecking → Checking
checking_of found =
    checking (note_of found.note) (term_of found.completed.value) (type_of found.ty) (option_map type_of found.settled)

-- an accepted definition
abbrev pub accepted_of : Checked → Accepted
accepted_of checked =
    record {
      note = note_of checked.note;
      filled = term_of checked.filled.value;
      type = type_of checked.ty;
      signature = type_of checked.sig;
    }
