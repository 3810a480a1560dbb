-- The codes that a module is refused with.
use Rattle.std.proofs.Common.{◌≡◌, ℕ, zero, Bool, true, false, List, [], ◌∷◌, ◌++◌, if◌then◌else◌, sym, subst}
use Rattle.std.specs.List.{list_any}
use Rattle.std.specs.Str.{bytes_eq}
use Rattle.cc_base.specs.declared.code.Code.{Code}
use Rattle.cc_base.specs.declared.code.Code.TheVariants.{E09, E10, E11, E12, E19}
use Rattle.cc_base.specs.declared.place.Place.{Place}
use Rattle.cc_grammar.specs.Syntax.{ImportSyntax, DefSyntax, ModuleSyntax}
use Rattle.cc_mnf.specs.Steps.{ElaborationOutcome, Refused, Found, Step, goes_on, followed, gives, refuses, with_own_holes}
use Rattle.cc_mnf.specs.Scopes.{Name}
use Rattle.cc_mnf.specs.ElaboratedModules.{CoreModule, IsRefused, with_name, with_imports, elaborated_definitions, elaborated_module, elaboration_of, elaboration}
use Rattle.cc_mnf.specs.ElaborationLaws as law
use Rattle.cc_mnf.specs.ElaborationLaws.{IsCodeOfElaboration, IsWellFormedAfter}
use Rattle.cc_mnf.proofs.StepFacts.{IsOfPart, Finds, Always}
use Rattle.cc_mnf.proofs.BroughtFacts.{Comes}
use Rattle.cc_mnf.proofs.ElaboratedDefinitions.{definition_kinded, with_name_brings}

-- a refusal has one of the codes
abbrev Answers : {A : Type 0} → ElaborationOutcome A → Type 0
Answers (Refused code at) = IsCodeOfElaboration code
Answers (Found value holes) = Unit {0}

record HasCodes {A : Type 0} (step : Step A) : Type 0 where
  answers : (holes : ℕ) → Answers (step holes)

go_on_answers : {A B : Type 0} (P : A → ℕ → Type 0) (next : A → Step B) (o : ElaborationOutcome A) → Answers o → Comes P o
    → ((v : A) (holes : ℕ) → P v holes → HasCodes (next v)) → Answers (goes_on next o)
go_on_answers P next (Refused code at) h c n = h
go_on_answers P next (Found v holes) h c n = (n v holes c).answers holes

then_codes : {A B : Type 0} {step : Step A} {next : A → Step B} → HasCodes step → ((v : A) → HasCodes (next v))
    → HasCodes (followed step next)
unfolding followed
then_codes {step = step} {next = next} h n =
    record {
      answers =
          λ holes. go_on_answers (λ v after. Unit {0}) next (step holes) (h.answers holes) (anything (step holes))
          (λ v after u. n v);
    }
  where
    anything : {A : Type 0} (o : ElaborationOutcome A) → Comes (λ v after. Unit {0}) o
    anything (Refused code at) = tt
    anything (Found v holes) = tt

gives_codes : {A : Type 0} (v : A) → HasCodes (gives v)
unfolding gives
gives_codes v = record { answers = λ holes. tt }

part_code : (code : Code) → IsOfPart code → IsCodeOfElaboration code
part_code E10 h = tt
part_code E11 h = tt
part_code E12 h = tt
part_code E19 h = tt
part_code _ h = absurd h

part_answers : {A : Type 0} (P : A → Type 0) (o : ElaborationOutcome A) → Finds P o → Answers o
part_answers P (Refused code at) h = part_code code h
part_answers P (Found v holes) h = tt

own_answers : {A : Type 0} (holes : ℕ) (o : ElaborationOutcome A) → Answers o → Answers (goes_on (λ v inner. Found v holes) o)
own_answers holes (Refused code at) h = h
own_answers holes (Found v after) h = tt

-- a definition with holes of its own
own_codes : {A : Type 0} {P : A → Type 0} {step : Step A} → Always P step → HasCodes (with_own_holes step)
unfolding with_own_holes
own_codes {P = P} {step = step} h =
    record { answers = λ holes. own_answers holes (step zero) (part_answers P (step zero) (h.finds zero)) }

name_codes : (names : List Name) (name : Name) (at : Place) (b : Bool)
    → HasCodes (if b then refuses E09 at else gives (names ++ name ∷ []))
unfolding refuses
name_codes names name at true = record { answers = λ holes. tt }
name_codes names name at false = gives_codes (names ++ name ∷ [])

imports_codes : (names : List Name) (imports : List ImportSyntax) → HasCodes (with_imports names imports)
imports_codes names [] = gives_codes names
imports_codes names (first ∷ rest) =
    then_codes (name_codes names first.name first.name_at (list_any (bytes_eq first.name) names))
    (λ more. imports_codes more rest)

-- a name, with what it makes the names, and what follows
named_codes : {A : Type 0} (names : List Name) (name : Name) (at : Place) (next : List Name → Step A)
    → HasCodes (next (names ++ name ∷ [])) → HasCodes (followed (with_name names name at) next)
unfolding followed
named_codes names name at next h =
    record {
      answers =
          λ holes. go_on_answers (λ more after. more ≡ names ++ name ∷ []) next (with_name names name at holes)
          ((name_codes names name at (list_any (bytes_eq name) names)).answers holes)
          (with_name_brings names name at holes).comes
          (λ more after e. subst (λ list. HasCodes (next list)) (sym e) h);
    }

definitions_codes : (names : List Name) (definitions : List DefSyntax)
    → HasCodes (elaborated_definitions names definitions)
definitions_codes names [] = gives_codes []
definitions_codes names (first ∷ rest) =
    named_codes names first.name first.name_at _
    (then_codes (own_codes (definition_kinded names first))
    (λ one. then_codes (definitions_codes (names ++ first.name ∷ []) rest) (λ others. gives_codes (one ∷ others))))

module_codes : (devices : List Name) (text : ModuleSyntax) → HasCodes (elaborated_module devices text)
module_codes devices text =
    then_codes (imports_codes devices text.imports)
    (λ names. then_codes (definitions_codes names text.defs) (λ list. gives_codes _))

code_of_refusal : (o : ElaborationOutcome CoreModule) (code : Code) (at : Place) → elaboration_of o ≡ IsRefused code at → Answers o
    → IsCodeOfElaboration code
code_of_refusal (Refused code at) other there e h = subst IsCodeOfElaboration (same code other at there e) h
  where
    same : (code other : Code) (at there : Place) → IsRefused code at ≡ IsRefused other there → code ≡ other
    same code other at there e = cc
code_of_refusal (Found m holes) other there e h = cc

pub refusals_have_codes : law.RefusalsHaveTheseCodes
unfolding elaboration
refusals_have_codes devices text code at e =
    code_of_refusal (elaborated_module devices text zero) code at e ((module_codes devices text).answers zero)
