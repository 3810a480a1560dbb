-- What the program finds is the first refusal.
use Rattle.std.proofs.Common.{◌≡◌, List, [], ◌∷◌, ◌++◌, map, Option, Some, None, refl, sym, ap, ◌∙◌}
use Rattle.std.proofs.lemmas.List.{map-append}
use Rattle.cc_grammar.specs.Syntax.{ImportSyntax, DefSyntax}
use Rattle.cc_mnf.specs.ElaboratedModules.{import_names}
use Rattle.cc_mnf.specs.Scopes.{Name}
use Rattle.cc_elaboration_reasons.specs.ElaborationCauses.{ExplainedRefusal, ◌or_else◌}
use Rattle.cc_elaboration_reasons.specs.ExplainedElaboration.{definition_refusal, TakenName, device_name, import_name, definition_name, names_in, imports_refusal, definitions_refusal}
use Rattle.cc_elaboration_reasoning.specs.FindingLaws.{FirstRefusalIsFound}
use Rattle.cc_elaboration_reasoning.specs.FoundRefusals.{imports_found, definitions_found, device_places, import_places}
use Rattle.cc_elaboration_reasoning.proofs.SettledRightSides.{definition_is}
use Rattle.cc_elaboration_reasoning.proofs.TakenPlaces.{places_in, repetition_is}

names_more : (taken : List TakenName) (one : TakenName) → names_in (taken ++ one ∷ []) ≡ names_in taken ++ one.name ∷ []
names_more taken one = map-append (λ it. it.name) taken (one ∷ [])

places_more : (taken : List TakenName) (one : TakenName) → places_in (taken ++ one ∷ []) ≡ places_in taken ++ one.at ∷ []
places_more taken one = map-append (λ it. it.at) taken (one ∷ [])

-- the two parts of a step
both : {one other rest last : Option ExplainedRefusal} → one ≡ other → rest ≡ last → (one or_else rest) ≡ (other or_else last)
both {one} {other} {rest} {last} e f = ap (λ it. it or_else rest) e ∙ ap (λ it. other or_else it) f

imports_are : (imports : List ImportSyntax) (taken : List TakenName) → imports_found (names_in taken) (places_in taken) imports ≡ imports_refusal taken imports
imports_are [] taken = refl
imports_are (first ∷ rest) taken =
    both (repetition_is taken first.name first.name_at)
    (ap (λ names. imports_found names (places_in taken ++ Some first.name_at ∷ []) rest) (sym (names_more taken (import_name first)))
    ∙ ap (λ places. imports_found (names_in (taken ++ import_name first ∷ [])) places rest) (sym (places_more taken (import_name first)))
    ∙ imports_are rest (taken ++ import_name first ∷ []))

definitions_are : (definitions : List DefSyntax) (taken : List TakenName) → definitions_found (names_in taken) (places_in taken) definitions ≡ definitions_refusal taken definitions
definitions_are [] taken = refl
definitions_are (first ∷ rest) taken =
    both (repetition_is taken first.name first.name_at)
    (both
    (definition_is (names_in taken) first ∙ ap (λ names. definition_refusal (names_in taken) names first) (sym (names_more taken (definition_name first))))
    (ap (λ names. definitions_found names (places_in taken ++ Some first.name_at ∷ []) rest) (sym (names_more taken (definition_name first)))
    ∙ ap (λ places. definitions_found (names_in (taken ++ definition_name first ∷ [])) places rest) (sym (places_more taken (definition_name first)))
    ∙ definitions_are rest (taken ++ definition_name first ∷ [])))

device_names_are : (devices : List Name) → names_in (map device_name devices) ≡ devices
device_names_are [] = refl
device_names_are (first ∷ rest) = ap (λ it. first ∷ it) (device_names_are rest)

device_places_are : (devices : List Name) → places_in (map device_name devices) ≡ device_places devices
device_places_are [] = refl
device_places_are (first ∷ rest) = ap (λ it. None ∷ it) (device_places_are rest)

import_names_are : (imports : List ImportSyntax) → names_in (map import_name imports) ≡ import_names imports
import_names_are [] = refl
import_names_are (first ∷ rest) = ap (λ it. first.name ∷ it) (import_names_are rest)

import_places_are : (imports : List ImportSyntax) → places_in (map import_name imports) ≡ import_places imports
import_places_are [] = refl
import_places_are (first ∷ rest) = ap (λ it. Some first.name_at ∷ it) (import_places_are rest)

pub first_refusal_is_found : FirstRefusalIsFound
first_refusal_is_found devices text =
    both
    (ap (λ names. imports_found names (device_places devices) text.imports) (sym (device_names_are devices))
    ∙ ap (λ places. imports_found (names_in (map device_name devices)) places text.imports) (sym (device_places_are devices))
    ∙ imports_are text.imports (map device_name devices))
    (ap (λ names. definitions_found names (device_places devices ++ import_places text.imports) text.defs)
    (sym (map-append (λ it. it.name) (map device_name devices) (map import_name text.imports) ∙ ap (λ it. it ++ names_in (map import_name text.imports)) (device_names_are devices) ∙ ap (λ it. devices ++ it) (import_names_are text.imports)))
    ∙ ap (λ places. definitions_found (names_in (map device_name devices ++ map import_name text.imports)) places text.defs)
    (sym (map-append (λ it. it.at) (map device_name devices) (map import_name text.imports) ∙ ap (λ it. it ++ places_in (map import_name text.imports)) (device_places_are devices) ∙ ap (λ it. device_places devices ++ it) (import_places_are text.imports)))
    ∙ definitions_are text.defs (map device_name devices ++ map import_name text.imports))
