-- How the reason of an import that finds no definition is told, line by line.
use Rattle.std.specs.Prelude.{ℕ, List, [], ◌∷◌, ◌++◌, codes, encode_utf8_all}
use Rattle.std.specs.List.{flat_map}
use Rattle.cc_base.specs.declared.code.Code.{Code}
use Rattle.cc_base.specs.declared.place.Place.{Place}
use Rattle.cc_base.specs.Texts.{code_text, place_text}
use Rattle.cc_grammar.specs.Syntax.{ImportSyntax}
use Rattle.cc_mnf.specs.Scopes.{Name}
use Rattle.cc_module_reasons.specs.ImportReasons.{ImportReason, NoModule, NoDefinition, RefusedModule, InCircle}

-- the words of an import, as it is written: the module's name and the definition's, with a dot between them
abbrev pub import_text : ImportSyntax → List ℕ
import_text one = codes "import " ++ encode_utf8_all one.source ++ codes "." ++ encode_utf8_all one.name

-- the words of the refusal of the module that is imported from
abbrev pub refusal_text : Code → Place → List ℕ
refusal_text code at = codes "refused " ++ code_text code ++ codes " " ++ place_text at

-- the words of a circle: the names in order, from the importing module back to it
abbrev pub circle_text : List Name → List ℕ
circle_text circle = codes "circle" ++ flat_map (λ name. 32 ∷ encode_utf8_all name) circle

-- the lines of a reason
abbrev pub import_reason_lines : ImportReason → List (List ℕ)
import_reason_lines (NoModule missing) = import_text missing ∷ []
import_reason_lines (NoDefinition missing) = import_text missing ∷ []
import_reason_lines (RefusedModule missing code at) = import_text missing ∷ refusal_text code at ∷ []
import_reason_lines (InCircle missing circle) = import_text missing ∷ circle_text circle ∷ []
