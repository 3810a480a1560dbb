-- The first refusal of elaboration, as the program finds it: the names that are taken, and beside them where they stand.
-- It serves proofs alone.
use Rattle.std.specs.Prelude.{ℕ, List, [], ◌∷◌, ◌++◌, map, length, replicate, slice_get, Option, Some, None, if◌then◌else◌}
use Rattle.std.specs.List.{position}
use Rattle.std.specs.Str.{bytes_eq}
use Rattle.cc_base.specs.declared.place.Place.{Place}
use Rattle.cc_grammar.specs.Syntax.{ImportSyntax, DefSyntax, ModuleSyntax}
use Rattle.cc_mnf.specs.ElaboratedModules.{import_names}
use Rattle.cc_mnf.specs.Scopes.{Name, outermost}
use Rattle.cc_elaboration_reasons.specs.ElaborationCauses.{Repeated, ExplainedRefusal, refused, ◌or_else◌}
use Rattle.cc_elaboration_reasons.specs.ExplainedElaboration.{expression_refusal, note_refusal}
use Rattle.cc_elaboration_reasoning.specs.RightSides.{right_side_refusal}

-- the place of a name, if it has one
abbrev pub place_or_nowhere : Option (Option Place) → Option Place
place_or_nowhere (Some place) = place
place_or_nowhere None = None

-- of a name at the place, which is the one at this position of taken ones, if it is one of them
abbrev pub taken_refusal : Option ℕ → List (Option Place) → Name → Place → Option ExplainedRefusal
taken_refusal None places name at = None
taken_refusal (Some index) places name at = refused (Repeated name (place_or_nowhere (slice_get places index))) at

-- of a name at the place that is one more, where these are taken and stand at these places
abbrev pub repetition_found : List Name → List (Option Place) → Name → Place → Option ExplainedRefusal
repetition_found names places name at = taken_refusal (position (bytes_eq name) names) places name at

-- of imports
abbrev pub imports_found : List Name → List (Option Place) → List ImportSyntax → Option ExplainedRefusal
imports_found names places [] = None
imports_found names places (first ∷ rest) =
    repetition_found names places first.name first.name_at
    or_else imports_found (names ++ first.name ∷ []) (places ++ Some first.name_at ∷ []) rest

-- of a definition after these names
abbrev pub definition_found : List Name → DefSyntax → Option ExplainedRefusal
definition_found names definition =
    note_refusal names definition
    or_else expression_refusal (outermost (if definition.own then names ++ definition.name ∷ [] else names)) definition.right
    or_else right_side_refusal definition

-- of definitions
abbrev pub definitions_found : List Name → List (Option Place) → List DefSyntax → Option ExplainedRefusal
definitions_found names places [] = None
definitions_found names places (first ∷ rest) =
    repetition_found names places first.name first.name_at
    or_else definition_found names first
    or_else definitions_found (names ++ first.name ∷ []) (places ++ Some first.name_at ∷ []) rest

-- where names of devices stand: nowhere
abbrev pub device_places : List Name → List (Option Place)
device_places devices = replicate (length devices) None

-- where the names of imports stand
abbrev pub import_places : List ImportSyntax → List (Option Place)
import_places imports = map (λ one. Some one.name_at) imports

-- of a module, where devices have these names
abbrev pub module_found : List Name → ModuleSyntax → Option ExplainedRefusal
module_found devices text =
    imports_found devices (device_places devices) text.imports
    or_else definitions_found (devices ++ import_names text.imports)
    (device_places devices ++ import_places text.imports) text.defs
