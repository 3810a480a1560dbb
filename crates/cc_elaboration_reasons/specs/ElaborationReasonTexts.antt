-- How the cause of a refusal of elaboration is told, line by line.
use Rattle.std.specs.Prelude.{ℕ, List, [], ◌∷◌, ◌++◌, codes, encode_utf8_all, Option, Some, None}
use Rattle.cc_base.specs.declared.place.Place.{Place}
use Rattle.cc_base.specs.Texts.{place_text}
use Rattle.cc_elaboration_reasons.specs.ElaborationCauses.{ExpressionForm, AName, ALiteral, AVal, AFunction, ATypeFunction}
use Rattle.cc_elaboration_reasons.specs.ElaborationCauses.{AChoice, ABoundary, AnOperator, ABox, AnUnboxing}
use Rattle.cc_elaboration_reasons.specs.ElaborationCauses.{AnApplication, ATypeApplication, AnOperation, AnExit}
use Rattle.cc_elaboration_reasons.specs.ElaborationCauses.{ARepetition, StrictPlace, InBox, InParameter, InResult}
use Rattle.cc_elaboration_reasons.specs.ElaborationCauses.{InTypeResult, InExit, InRecursion, ElaborationCause}
use Rattle.cc_elaboration_reasons.specs.ElaborationCauses.{Repeated, UnknownName, UnknownType, NotAValue, OmittedSet}

-- the words of a form: the reserved word that it begins with, or what the pages call it
abbrev pub form_text : ExpressionForm → List ℕ
form_text AName = codes "name"
form_text ALiteral = codes "literal"
form_text AVal = codes "val"
form_text AFunction = codes "function"
form_text ATypeFunction = codes "type function"
form_text AChoice = codes "if"
form_text ABoundary = codes "boundary"
form_text AnOperator = codes "operator"
form_text ABox = codes "box"
form_text AnUnboxing = codes "unbox"
form_text AnApplication = codes "application"
form_text ATypeApplication = codes "type application"
form_text AnOperation = codes "operation"
form_text AnExit = codes "exit"
form_text ARepetition = codes "repeat"

-- the words of what stands around a set that may not be omitted
abbrev pub strict_place_text : StrictPlace → List ℕ
strict_place_text InBox = codes "box"
strict_place_text InParameter = codes "function parameter"
strict_place_text InResult = codes "function result"
strict_place_text InTypeResult = codes "type function"
strict_place_text InExit = codes "exit"
strict_place_text InRecursion = codes "def rec"

-- where a name stands first
abbrev pub first_text : Option Place → List ℕ
first_text (Some at) = place_text at
first_text None = codes "device"

-- the lines of a cause
abbrev pub elaboration_cause_lines : ElaborationCause → List (List ℕ)
elaboration_cause_lines (Repeated name first) =
    (codes "name " ++ encode_utf8_all name) ∷ (codes "first " ++ first_text first) ∷ []
elaboration_cause_lines (UnknownName name) = (codes "name " ++ encode_utf8_all name) ∷ []
elaboration_cause_lines (UnknownType name) = (codes "name " ++ encode_utf8_all name) ∷ []
elaboration_cause_lines (NotAValue form) = (codes "form " ++ form_text form) ∷ []
elaboration_cause_lines (OmittedSet around) = (codes "place " ++ strict_place_text around) ∷ []
