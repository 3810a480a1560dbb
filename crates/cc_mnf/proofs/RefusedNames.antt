-- A module is refused for a second name exactly where one stands, and what is refused stays refused.
use Rattle.std.proofs.Common.{◌≡◌, ◌⊎◌, ℕ, zero, Bool, true, false, List, [], ◌∷◌, ◌++◌, if◌then◌else◌, refl, sym, ap, ◌∙◌, subst, inl, inr, ⊎_elim, append_assoc, append-nil}
use Rattle.std.specs.List.{list_any}
use Rattle.std.specs.Str.{bytes_eq}
use Rattle.cc_base.specs.declared.code.Code.{Code}
use Rattle.cc_base.specs.declared.code.Code.TheVariants.{E09}
use Rattle.cc_base.specs.declared.place.Place.{Place}
use Rattle.cc_grammar.specs.Syntax.{ImportSyntax, DefSyntax, ModuleSyntax}
use Rattle.cc_mnf.specs.Steps.{ElaborationOutcome, Refused, Found, Step, goes_on, followed, gives, refuses, with_own_holes}
use Rattle.cc_mnf.specs.Scopes.{Name}
use Rattle.cc_mnf.specs.ElaboratedModules.{CoreDefinition, CoreModule, IsElaborated, IsRefused, with_imports}
use Rattle.cc_mnf.specs.ElaboratedModules.{elaborated_definition, elaborated_definitions, elaboration_of, elaboration}
use Rattle.cc_mnf.specs.ElaboratedModules.{import_names}
use Rattle.cc_mnf.specs.ElaborationLaws.{IsWellFormedAfter}
use Rattle.cc_mnf.specs.NameLaws as law
use Rattle.cc_mnf.specs.NameLaws.{SecondImport, SecondDefinition, CanBeElaborated, text_of, defined_names}
use Rattle.cc_mnf.proofs.BroughtFacts.{Comes}
use Rattle.cc_mnf.proofs.StepFacts.{Finds, IsOfPart}
use Rattle.cc_mnf.proofs.ElaboratedDefinitions.{definition_kinded, with_imports_bring}
use Rattle.cc_mnf.proofs.SecondNames.{among, among_test}

-- the import, or the definition, that comes next: its name is taken, or it is not
taken_import : (names : List Name) (first : ImportSyntax) (rest : List ImportSyntax) (holes : ℕ)
    → list_any (bytes_eq first.name) names ≡ true → with_imports names (first ∷ rest) holes ≡ Refused E09 first.name_at
unfolding followed refuses gives
taken_import names first rest holes e =
    ap (λ b. goes_on (λ more. with_imports more rest)
    ((if b then refuses E09 first.name_at else gives (names ++ first.name ∷ [])) holes)) e

next_import : (names : List Name) (first : ImportSyntax) (rest : List ImportSyntax) (holes : ℕ)
    → list_any (bytes_eq first.name) names ≡ false
    → with_imports names (first ∷ rest) holes ≡ with_imports (names ++ first.name ∷ []) rest holes
unfolding followed refuses gives
next_import names first rest holes e =
    ap (λ b. goes_on (λ more. with_imports more rest)
    ((if b then refuses E09 first.name_at else gives (names ++ first.name ∷ [])) holes)) e

-- what follows one elaborated definition
abbrev then_others : List Name → List DefSyntax → CoreDefinition → Step (List CoreDefinition)
then_others names rest one = followed (elaborated_definitions names rest) (λ others. gives (one ∷ others))

-- a definition with its own holes
abbrev own_definition : List Name → DefSyntax → Step CoreDefinition
own_definition names first = with_own_holes (elaborated_definition names (names ++ first.name ∷ []) first)

taken_definition : (names : List Name) (first : DefSyntax) (rest : List DefSyntax) (holes : ℕ)
    → list_any (bytes_eq first.name) names ≡ true
    → elaborated_definitions names (first ∷ rest) holes ≡ Refused E09 first.name_at
unfolding followed refuses gives
taken_definition names first rest holes e =
    ap (λ b. goes_on
    (λ more. followed (with_own_holes (elaborated_definition names more first)) (then_others more rest))
    ((if b then refuses E09 first.name_at else gives (names ++ first.name ∷ [])) holes)) e

next_definition : (names : List Name) (first : DefSyntax) (rest : List DefSyntax) (holes : ℕ)
    → list_any (bytes_eq first.name) names ≡ false
    → elaborated_definitions names (first ∷ rest) holes
    ≡ goes_on (then_others (names ++ first.name ∷ []) rest) (own_definition names first holes)
unfolding followed refuses gives
next_definition names first rest holes e =
    ap (λ b. goes_on
    (λ more. followed (with_own_holes (elaborated_definition names more first)) (then_others more rest))
    ((if b then refuses E09 first.name_at else gives (names ++ first.name ∷ [])) holes)) e

-- imports in two parts
imports_chosen : (names : List Name) (first : ImportSyntax) (rest after : List ImportSyntax) (holes : ℕ) (b : Bool)
    → list_any (bytes_eq first.name) names ≡ b
    → with_imports (names ++ first.name ∷ []) (rest ++ after) holes
    ≡ goes_on (λ more. with_imports more after) (with_imports (names ++ first.name ∷ []) rest holes)
    → with_imports names (first ∷ (rest ++ after)) holes
    ≡ goes_on (λ more. with_imports more after) (with_imports names (first ∷ rest) holes)
imports_chosen names first rest after holes true e h =
    taken_import names first (rest ++ after) holes e
    ∙ sym (ap (goes_on (λ more. with_imports more after)) (taken_import names first rest holes e))
imports_chosen names first rest after holes false e h =
    next_import names first (rest ++ after) holes e ∙ h
    ∙ sym (ap (goes_on (λ more. with_imports more after)) (next_import names first rest holes e))

joined_imports : (names : List Name) (before after : List ImportSyntax) (holes : ℕ)
    → with_imports names (before ++ after) holes
    ≡ goes_on (λ more. with_imports more after) (with_imports names before holes)
unfolding gives
joined_imports names [] after holes = refl
joined_imports names (first ∷ rest) after holes =
    imports_chosen names first rest after holes (list_any (bytes_eq first.name) names) refl
    (joined_imports (names ++ first.name ∷ []) rest after holes)

-- definitions in two parts
abbrev then_more : List Name → List DefSyntax → List CoreDefinition → Step (List CoreDefinition)
then_more names after list = followed (elaborated_definitions names after) (λ others. gives (list ++ others))

more_behind : (one : CoreDefinition) (list : List CoreDefinition) (o : ElaborationOutcome (List CoreDefinition))
    → goes_on (λ others. gives (one ∷ others)) (goes_on (λ others. gives (list ++ others)) o)
    ≡ goes_on (λ others. gives ((one ∷ list) ++ others)) o
unfolding gives
more_behind one list (Refused code at) = refl
more_behind one list (Found others holes) = refl

others_behind : (names : List Name) (after : List DefSyntax) (one : CoreDefinition) (o : ElaborationOutcome (List CoreDefinition))
    → goes_on (λ others. gives (one ∷ others)) (goes_on (then_more names after) o)
    ≡ goes_on (then_more names after) (goes_on (λ others. gives (one ∷ others)) o)
unfolding gives followed
others_behind names after one (Refused code at) = refl
others_behind names after one (Found list holes) = more_behind one list (elaborated_definitions names after holes)

one_behind : (names inner : List Name) (rest after : List DefSyntax)
    → ((holes : ℕ) → elaborated_definitions inner (rest ++ after) holes
    ≡ goes_on (then_more names after) (elaborated_definitions inner rest holes))
    → (o : ElaborationOutcome CoreDefinition)
    → goes_on (then_others inner (rest ++ after)) o ≡ goes_on (then_more names after)
    (goes_on (then_others inner rest) o)
unfolding followed
one_behind names inner rest after h (Refused code at) = refl
one_behind names inner rest after h (Found one holes) =
    ap (goes_on (λ others. gives (one ∷ others))) (h holes)
    ∙ others_behind names after one (elaborated_definitions inner rest holes)

definitions_chosen : (names all : List Name) (first : DefSyntax) (rest after : List DefSyntax) (holes : ℕ) (b : Bool)
    → list_any (bytes_eq first.name) names ≡ b
    → ((n : ℕ) → elaborated_definitions (names ++ first.name ∷ []) (rest ++ after) n
    ≡ goes_on (then_more all after) (elaborated_definitions (names ++ first.name ∷ []) rest n))
    → elaborated_definitions names (first ∷ (rest ++ after)) holes
    ≡ goes_on (then_more all after) (elaborated_definitions names (first ∷ rest) holes)
definitions_chosen names all first rest after holes true e h =
    taken_definition names first (rest ++ after) holes e
    ∙ sym (ap (goes_on (then_more all after)) (taken_definition names first rest holes e))
definitions_chosen names all first rest after holes false e h =
    next_definition names first (rest ++ after) holes e
    ∙ one_behind all (names ++ first.name ∷ []) rest after h (own_definition names first holes)
    ∙ sym (ap (goes_on (then_more all after)) (next_definition names first rest holes e))

nothing_before : (o : ElaborationOutcome (List CoreDefinition)) → o ≡ goes_on (λ others. gives others) o
unfolding gives
nothing_before (Refused code at) = refl
nothing_before (Found list holes) = refl

joined_definitions : (names all : List Name) (before after : List DefSyntax) → names ++ defined_names before ≡ all
    → (holes : ℕ) → elaborated_definitions names (before ++ after) holes
    ≡ goes_on (then_more all after) (elaborated_definitions names before holes)
unfolding gives followed
joined_definitions names all [] after e holes =
    nothing_before (elaborated_definitions names after holes)
    ∙ ap (λ list. goes_on (λ others. gives others) (elaborated_definitions list after holes))
    (sym (append-nil names) ∙ e)
joined_definitions names all (first ∷ rest) after e holes =
    definitions_chosen names all first rest after holes (list_any (bytes_eq first.name) names) refl
    (joined_definitions (names ++ first.name ∷ []) all rest after
    (append_assoc names (first.name ∷ []) (defined_names rest) ∙ e))

-- a whole module, from its imports and from its definitions
abbrev finished : List ImportSyntax → List CoreDefinition → Step CoreModule
finished imports list = gives (record { imports = imports; definitions = list })

abbrev from_names : List ImportSyntax → List DefSyntax → List Name → Step CoreModule
from_names imports definitions names = followed (elaborated_definitions names definitions) (finished imports)

module_parts : (devices : List Name) (imports : List ImportSyntax) (definitions : List DefSyntax)
    → elaboration devices (text_of imports definitions)
    ≡ elaboration_of (goes_on (from_names imports definitions) (with_imports devices imports zero))
unfolding followed elaboration
module_parts devices imports definitions = refl

-- refusals
refused_parts : (code other : Code) (at there : Place) → IsRefused code at ≡ IsRefused other there
    → ◌≡◌ {A = ElaborationOutcome CoreModule} (Refused code at) (Refused other there)
refused_parts code other at there e = cc

refused_outcome : (o : ElaborationOutcome CoreModule) (code : Code) (at : Place) → elaboration_of o ≡ IsRefused code at
    → o ≡ Refused code at
refused_outcome (Refused code at) other there e = refused_parts code other at there e
refused_outcome (Found m holes) other there e = cc

-- imports that are refused alone
imports_alone_refused : (imports : List ImportSyntax) (o : ElaborationOutcome (List Name)) (code : Code) (at : Place)
    → goes_on (from_names imports []) o ≡ Refused code at → o ≡ Refused code at
unfolding followed gives
imports_alone_refused imports (Refused code at) other there e = cc
imports_alone_refused imports (Found names holes) other there e = cc

imports_stay : (devices : List Name) (imports more : List ImportSyntax) (others : List DefSyntax) (code : Code)
    (at : Place)
    → elaboration devices (text_of imports []) ≡ IsRefused code at
    → elaboration devices (text_of (imports ++ more) others) ≡ IsRefused code at
imports_stay devices imports more others code at e =
    let alone : with_imports devices imports zero ≡ Refused code at =
    imports_alone_refused imports (with_imports devices imports zero) code at
    (refused_outcome (goes_on (from_names imports []) (with_imports devices imports zero)) code at
    (sym (module_parts devices imports []) ∙ e)) in
    module_parts devices (imports ++ more) others
    ∙ ap (λ o. elaboration_of (goes_on (from_names (imports ++ more) others) o))
    (joined_imports devices imports more zero ∙ ap (goes_on (λ names. with_imports names more)) alone)

finished_refused : (imports : List ImportSyntax) (o : ElaborationOutcome (List CoreDefinition)) (code : Code) (at : Place)
    → goes_on (finished imports) o ≡ Refused code at → o ≡ Refused code at
unfolding gives
finished_refused imports (Refused code at) other there e = cc
finished_refused imports (Found list holes) other there e = cc

definitions_after : (imports : List ImportSyntax) (definitions others : List DefSyntax) (o : ElaborationOutcome (List Name))
    (code : Code)
    (at : Place) → goes_on (from_names imports definitions) o ≡ Refused code at
    → goes_on (from_names imports (definitions ++ others)) o ≡ Refused code at
unfolding followed
definitions_after imports definitions others (Refused code at) other there e = e
definitions_after imports definitions others (Found names holes) code at e =
    ap (goes_on (finished imports))
    (joined_definitions names (names ++ defined_names definitions) definitions others refl holes
    ∙ ap (goes_on (then_more (names ++ defined_names definitions) others))
    (finished_refused imports (elaborated_definitions names definitions holes) code at e))

definitions_stay : (devices : List Name) (imports : List ImportSyntax) (definitions others : List DefSyntax)
    (code : Code)
    (at : Place) → elaboration devices (text_of imports definitions) ≡ IsRefused code at
    → elaboration devices (text_of imports (definitions ++ others)) ≡ IsRefused code at
definitions_stay devices imports definitions others code at e =
    module_parts devices imports (definitions ++ others)
    ∙ ap elaboration_of
    (definitions_after imports definitions others (with_imports devices imports zero) code at
    (refused_outcome (goes_on (from_names imports definitions) (with_imports devices imports zero)) code at
    (sym (module_parts devices imports definitions) ∙ e)))

pub refusals_stay : law.RefusalsStay
refusals_stay devices imports more definitions others code at =
    (imports_stay devices imports more others code at, definitions_stay devices imports definitions others code at)

-- imports that are refused: the first whose name is taken
record TakenImport (names : List Name) (imports : List ImportSyntax) (at : Place) : Type 0 where
  before : List ImportSyntax
  one : ImportSyntax
  after : List ImportSyntax
  stands : imports ≡ before ++ one ∷ after
  found : (holes : ℕ) → with_imports names before holes ≡ Found (names ++ import_names before) holes
  taken : list_any (bytes_eq one.name) (names ++ import_names before) ≡ true
  there : at ≡ one.name_at

refused_at : {A : Type 0} (code other : Code) (at there : Place)
    → ◌≡◌ {A = ElaborationOutcome A} (Refused code at) (Refused other there) → (code ≡ other) × (at ≡ there)
refused_at code other at there e = (cc, cc)

import_chosen : (names : List Name) (first : ImportSyntax) (rest : List ImportSyntax) (holes : ℕ) (code : Code)
    (at : Place) (b : Bool) → list_any (bytes_eq first.name) names ≡ b
    → (with_imports (names ++ first.name ∷ []) rest holes ≡ Refused code at
    → TakenImport (names ++ first.name ∷ []) rest at)
    → with_imports names (first ∷ rest) holes ≡ Refused code at → TakenImport names (first ∷ rest) at
unfolding gives
import_chosen names first rest holes code at true e h r =
    record {
      before = [];
      one = first;
      after = rest;
      stands = refl;
      found = λ n. ap (λ list. Found list n) (sym (append-nil names));
      taken = subst (λ list. list_any (bytes_eq first.name) list ≡ true) (sym (append-nil names)) e;
      there = sym (refused_at E09 code first.name_at at (sym (taken_import names first rest holes e) ∙ r)).1;
    }
import_chosen names first rest holes code at false e h r =
    let t : TakenImport (names ++ first.name ∷ []) rest at = h (sym (next_import names first rest holes e) ∙ r) in
    let moved = append_assoc names (first.name ∷ []) (import_names t.before) in
    record {
      before = first ∷ t.before;
      one = t.one;
      after = t.after;
      stands = ap (λ list. first ∷ list) t.stands;
      found = λ n. next_import names first t.before n e ∙ t.found n ∙ ap (λ list. Found list n) moved;
      taken = subst (λ list. list_any (bytes_eq t.one.name) list ≡ true) moved t.taken;
      there = t.there;
    }

imports_refused : (names : List Name) (imports : List ImportSyntax) (holes : ℕ) (code : Code) (at : Place)
    → with_imports names imports holes ≡ Refused code at → TakenImport names imports at
unfolding gives
imports_refused names [] holes code at e = cc
imports_refused names (first ∷ rest) holes code at e =
    import_chosen names first rest holes code at (list_any (bytes_eq first.name) names) refl
    (imports_refused (names ++ first.name ∷ []) rest holes code at) e

-- definitions that are refused for a name: the first whose name is taken
record TakenDefinition (names : List Name) (definitions : List DefSyntax) (holes : ℕ) (at : Place) : Type 0 where
  before : List DefSyntax
  one : DefSyntax
  after : List DefSyntax
  stands : definitions ≡ before ++ one ∷ after
  list : List CoreDefinition
  last : ℕ
  found : elaborated_definitions names before holes ≡ Found list last
  taken : list_any (bytes_eq one.name) (names ++ defined_names before) ≡ true
  there : at ≡ one.name_at

cons_refused : (one : CoreDefinition) (o : ElaborationOutcome (List CoreDefinition)) (code : Code) (at : Place)
    → goes_on (λ others. gives (one ∷ others)) o ≡ Refused code at → o ≡ Refused code at
unfolding gives
cons_refused one (Refused code at) other there e = cc
cons_refused one (Found list holes) other there e = cc

own_finds : (P : CoreDefinition → Type 0) (holes : ℕ) (o : ElaborationOutcome CoreDefinition) → Finds P o
    → Finds P (goes_on (λ value inner. Found value holes) o)
own_finds P holes (Refused code at) h = h
own_finds P holes (Found d after) h = h

definition_finds : (names : List Name) (first : DefSyntax) (holes : ℕ)
    → Finds (IsWellFormedAfter names) (own_definition names first holes)
unfolding with_own_holes
definition_finds names first holes =
    own_finds (IsWellFormedAfter names) holes (elaborated_definition names (names ++ first.name ∷ []) first zero)
    ((definition_kinded names first).finds zero)

own_chosen : (names : List Name) (first : DefSyntax) (rest : List DefSyntax) (holes : ℕ) (at : Place)
    → list_any (bytes_eq first.name) names ≡ false
    → ((n : ℕ) → elaborated_definitions (names ++ first.name ∷ []) rest n ≡ Refused E09 at
    → TakenDefinition (names ++ first.name ∷ []) rest n at)
    → (o : ElaborationOutcome CoreDefinition) → own_definition names first holes ≡ o → Finds (IsWellFormedAfter names) o
    → goes_on (then_others (names ++ first.name ∷ []) rest) o ≡ Refused E09 at
    → TakenDefinition names (first ∷ rest) holes at
unfolding followed gives
own_chosen names first rest holes at e h (Refused code there) same part r =
    absurd (subst IsOfPart (refused_at code E09 there at r).0 part)
own_chosen names first rest holes at e h (Found one n) same part r =
    let inner : List Name = names ++ first.name ∷ [] in
    let t : TakenDefinition (names ++ first.name ∷ []) rest n at =
    h n (cons_refused one (elaborated_definitions inner rest n) E09 at r) in
    record {
      before = first ∷ t.before;
      one = t.one;
      after = t.after;
      stands = ap (λ list. first ∷ list) t.stands;
      list = one ∷ t.list;
      last = t.last;
      found =
          next_definition names first t.before holes e ∙ ap (goes_on (then_others inner t.before)) same
          ∙ ap (goes_on (λ others. gives (one ∷ others))) t.found;
      taken =
          subst (λ list. list_any (bytes_eq t.one.name) list ≡ true)
          (append_assoc names (first.name ∷ []) (defined_names t.before)) t.taken;
      there = t.there;
    }

definition_chosen : (names : List Name) (first : DefSyntax) (rest : List DefSyntax) (holes : ℕ) (at : Place) (b : Bool)
    → list_any (bytes_eq first.name) names ≡ b
    → ((n : ℕ) → elaborated_definitions (names ++ first.name ∷ []) rest n ≡ Refused E09 at
    → TakenDefinition (names ++ first.name ∷ []) rest n at)
    → elaborated_definitions names (first ∷ rest) holes ≡ Refused E09 at → TakenDefinition names (first ∷ rest) holes at
unfolding gives
definition_chosen names first rest holes at true e h r =
    record {
      before = [];
      one = first;
      after = rest;
      stands = refl;
      list = [];
      last = holes;
      found = refl;
      taken = subst (λ list. list_any (bytes_eq first.name) list ≡ true) (sym (append-nil names)) e;
      there = sym (refused_at E09 E09 first.name_at at (sym (taken_definition names first rest holes e) ∙ r)).1;
    }
definition_chosen names first rest holes at false e h r =
    own_chosen names first rest holes at e h (own_definition names first holes) refl
    (definition_finds names first holes)
    (sym (next_definition names first rest holes e) ∙ r)

definitions_refused : (names : List Name) (definitions : List DefSyntax) (holes : ℕ) (at : Place)
    → elaborated_definitions names definitions holes ≡ Refused E09 at → TakenDefinition names definitions holes at
unfolding gives
definitions_refused names [] holes at e = cc
definitions_refused names (first ∷ rest) holes at e =
    definition_chosen names first rest holes at (list_any (bytes_eq first.name) names) refl
    (λ n. definitions_refused (names ++ first.name ∷ []) rest n at) e

-- the text before is elaborated
imports_can : (devices : List Name) (before : List ImportSyntax) (names : List Name)
    → with_imports devices before zero ≡ Found names zero → CanBeElaborated devices (text_of before [])
unfolding followed gives
imports_can devices before names e = (
  record { imports = before; definitions = [] },
  module_parts devices before [] ∙ ap (λ o. elaboration_of (goes_on (from_names before []) o)) e,
)

definitions_can : (devices : List Name) (imports : List ImportSyntax) (before : List DefSyntax) (names : List Name)
    (holes : ℕ) (list : List CoreDefinition) (last : ℕ) → with_imports devices imports zero ≡ Found names holes
    → elaborated_definitions names before holes ≡ Found list last → CanBeElaborated devices (text_of imports before)
unfolding followed gives
definitions_can devices imports before names holes list last e h = (
  record { imports = imports; definitions = list },
  module_parts devices imports before ∙ ap (λ o. elaboration_of (goes_on (from_names imports before) o)) e
      ∙ ap (λ o. elaboration_of (goes_on (finished imports) o)) h,
)

imports_named : (devices : List Name) (imports : List ImportSyntax) (o : ElaborationOutcome (List Name))
    → with_imports devices imports zero ≡ o → Comes (λ more after. more ≡ devices ++ import_names imports) o
imports_named devices imports o e =
    subst (Comes (λ more after. more ≡ devices ++ import_names imports)) e
    (with_imports_bring devices imports zero).comes

second_chosen : (devices : List Name) (text : ModuleSyntax) (at : Place) (o : ElaborationOutcome (List Name))
    → with_imports devices text.imports zero ≡ o → Comes (λ more after. more ≡ devices ++ import_names text.imports) o
    → goes_on (from_names text.imports text.defs) o ≡ Refused E09 at
    → SecondImport devices text at ⊎ SecondDefinition devices text at
unfolding followed
second_chosen devices text at (Refused code there) e named r =
    let t : TakenImport devices text.imports there = imports_refused devices text.imports zero code there e in
    inl
    (record {
      before = t.before;
      one = t.one;
      after = t.after;
      stands = t.stands;
      before_elaborated = imports_can devices t.before (devices ++ import_names t.before) (t.found zero);
      taken = among t.one.name (devices ++ import_names t.before) t.taken;
      there = sym (refused_at code E09 there at r).1 ∙ t.there;
    })
second_chosen devices text at (Found names holes) e named r =
    let t : TakenDefinition names text.defs holes at =
    definitions_refused names text.defs holes at
    (finished_refused text.imports (elaborated_definitions names text.defs holes) E09 at r) in
    inr
    (record {
      before = t.before;
      one = t.one;
      after = t.after;
      stands = t.stands;
      before_elaborated = definitions_can devices text.imports t.before names holes t.list t.last e t.found;
      taken =
          among t.one.name (devices ++ import_names text.imports ++ defined_names t.before)
          (subst (λ list. list_any (bytes_eq t.one.name) (list ++ defined_names t.before) ≡ true) named t.taken);
      there = t.there;
    })

second_found : (devices : List Name) (text : ModuleSyntax) (at : Place) → elaboration devices text ≡ IsRefused E09 at
    → SecondImport devices text at ⊎ SecondDefinition devices text at
second_found devices text at e =
    second_chosen devices text at (with_imports devices text.imports zero) refl
    (imports_named devices text.imports (with_imports devices text.imports zero) refl)
    (refused_outcome (goes_on (from_names text.imports text.defs) (with_imports devices text.imports zero)) E09 at
    (sym (module_parts devices text.imports text.defs) ∙ e))

-- and the other way round
imports_were_found : (before : List ImportSyntax) (o : ElaborationOutcome (List Name)) (part : CoreModule)
    → elaboration_of (goes_on (from_names before []) o) ≡ IsElaborated part
    → (names : List Name) × (holes : ℕ) × (o ≡ Found names holes)
imports_were_found before (Refused code at) part e = cc
imports_were_found before (Found names holes) part e = (names, holes, refl)

second_import_refused : (devices : List Name) (text : ModuleSyntax) (at : Place) → SecondImport devices text at
    → elaboration devices text ≡ IsRefused E09 at
second_import_refused devices text at s =
    let found =
    imports_were_found s.before (with_imports devices s.before zero) s.before_elaborated.0
    (sym (module_parts devices s.before []) ∙ s.before_elaborated.1) in
    let named : found.0 ≡ devices ++ import_names s.before =
    imports_named devices s.before (Found found.0 found.1) found.2 in
    let taken : list_any (bytes_eq s.one.name) found.0 ≡ true =
    subst (λ list. list_any (bytes_eq s.one.name) list ≡ true) (sym named)
    (among_test s.one.name (devices ++ import_names s.before) s.taken) in
    module_parts devices text.imports text.defs
    ∙ ap (λ o. elaboration_of (goes_on (from_names text.imports text.defs) o))
    (ap (λ list. with_imports devices list zero) s.stands ∙ joined_imports devices s.before (s.one ∷ s.after) zero
    ∙ ap (goes_on (λ names. with_imports names (s.one ∷ s.after))) found.2
    ∙ taken_import found.0 s.one s.after found.1 taken)
    ∙ ap (λ place. IsRefused E09 place) (sym s.there)

record Parts (imports : List ImportSyntax) (before : List DefSyntax) (o : ElaborationOutcome (List Name)) : Type 0 where
  names : List Name
  holes : ℕ
  list : List CoreDefinition
  last : ℕ
  named : o ≡ Found names holes
  found : elaborated_definitions names before holes ≡ Found list last

list_was_found : (imports : List ImportSyntax) (o : ElaborationOutcome (List CoreDefinition)) (part : CoreModule)
    → elaboration_of (goes_on (finished imports) o) ≡ IsElaborated part
    → (list : List CoreDefinition) × (last : ℕ) × (o ≡ Found list last)
list_was_found imports (Refused code at) part e = cc
list_was_found imports (Found list last) part e = (list, last, refl)

parts_were_found : (imports : List ImportSyntax) (before : List DefSyntax) (o : ElaborationOutcome (List Name)) (part : CoreModule)
    → elaboration_of (goes_on (from_names imports before) o) ≡ IsElaborated part → Parts imports before o
unfolding followed
parts_were_found imports before (Refused code at) part e = cc
parts_were_found imports before (Found names holes) part e =
    let found = list_was_found imports (elaborated_definitions names before holes) part e in
    record { names = names; holes = holes; list = found.0; last = found.1; named = refl; found = found.2 }

second_definition_refused : (devices : List Name) (text : ModuleSyntax) (at : Place) → SecondDefinition devices text at
    → elaboration devices text ≡ IsRefused E09 at
unfolding followed
second_definition_refused devices text at s =
    let p : Parts text.imports s.before (with_imports devices text.imports zero) =
    parts_were_found text.imports s.before (with_imports devices text.imports zero) s.before_elaborated.0
    (sym (module_parts devices text.imports s.before) ∙ s.before_elaborated.1) in
    let named : p.names ≡ devices ++ import_names text.imports =
    imports_named devices text.imports (Found p.names p.holes) p.named in
    let all : List Name = p.names ++ defined_names s.before in
    let taken : list_any (bytes_eq s.one.name) (p.names ++ defined_names s.before) ≡ true =
    subst (λ list. list_any (bytes_eq s.one.name) (list ++ defined_names s.before) ≡ true) (sym named)
    (among_test s.one.name (devices ++ import_names text.imports ++ defined_names s.before) s.taken) in
    module_parts devices text.imports text.defs
    ∙ ap (λ o. elaboration_of (goes_on (from_names text.imports text.defs) o)) p.named
    ∙ ap (λ o. elaboration_of (goes_on (finished text.imports) o))
    (ap (λ list. elaborated_definitions p.names list p.holes) s.stands
    ∙ joined_definitions p.names all s.before (s.one ∷ s.after) refl p.holes
    ∙ ap (goes_on (then_more all (s.one ∷ s.after))) p.found
    ∙ ap (goes_on (λ others. gives (p.list ++ others))) (taken_definition all s.one s.after p.last taken))
    ∙ ap (λ place. IsRefused E09 place) (sym s.there)

pub second_names_are_refused : law.SecondNamesAreRefused
second_names_are_refused devices text at = (
  second_found devices text at,
  λ s. ⊎_elim (second_import_refused devices text at) (second_definition_refused devices text at) s,
)

-- the beginning of what is elaborated
found_list : {A : Type 0} (v w : A) (m n : ℕ) → ◌≡◌ {A = ElaborationOutcome A} (Found v m) (Found w n) → v ≡ w
found_list v w m n e = cc

elaborated_whole : (v w : CoreModule) → IsElaborated v ≡ IsElaborated w → v ≡ w
elaborated_whole v w e = cc

whole_list : (first : List CoreDefinition) (o : ElaborationOutcome (List CoreDefinition)) (list : List CoreDefinition) (last : ℕ)
    → goes_on (λ others. gives (first ++ others)) o ≡ Found list last
    → (rest : List CoreDefinition) × (list ≡ first ++ rest)
unfolding gives
whole_list first (Refused code at) list last e = cc
whole_list first (Found rest n) list last e = (rest, sym (found_list (first ++ rest) list n last e))

record Beginning (names : List Name) (before : List DefSyntax) (holes : ℕ) (list : List CoreDefinition) : Type 0 where
  first : List CoreDefinition
  middle : ℕ
  found : elaborated_definitions names before holes ≡ Found first middle
  rest : List CoreDefinition
  joined : list ≡ first ++ rest

beginning_found : (names all : List Name) (before after : List DefSyntax) (holes : ℕ) (list : List CoreDefinition)
    (last : ℕ) (o : ElaborationOutcome (List CoreDefinition)) → elaborated_definitions names before holes ≡ o
    → goes_on (then_more all after) o ≡ Found list last → Beginning names before holes list
unfolding followed
beginning_found names all before after holes list last (Refused code at) e h = cc
beginning_found names all before after holes list last (Found first middle) e h =
    let parts = whole_list first (elaborated_definitions all after middle) list last h in
    record { first = first; middle = middle; found = e; rest = parts.0; joined = parts.1 }

abbrev record_of : List ImportSyntax → List CoreDefinition → CoreModule
record_of imports list = record { imports = imports; definitions = list }

beginning_stands : (devices : List Name) (imports : List ImportSyntax) (definitions others : List DefSyntax)
    (whole : CoreModule) → elaboration devices (text_of imports (definitions ++ others)) ≡ IsElaborated whole
    → (p : Parts imports (definitions ++ others) (with_imports devices imports zero))
    → (b : Beginning p.names definitions p.holes p.list)
    → (part : CoreModule) × (rest : List CoreDefinition)
    × (elaboration devices (text_of imports definitions) ≡ IsElaborated part)
    × (whole.definitions ≡ part.definitions ++ rest)
unfolding followed gives
beginning_stands devices imports definitions others whole e p b = (
  record_of imports b.first,
  b.rest,
  module_parts devices imports definitions
      ∙ ap (λ o. elaboration_of (goes_on (from_names imports definitions) o)) p.named
      ∙ ap (λ o. elaboration_of (goes_on (finished imports) o)) b.found,
  ap (λ m. m.definitions)
      (sym
      (elaborated_whole (record_of imports p.list) whole
      (ap (λ o. elaboration_of (goes_on (finished imports) o)) (sym p.found)
      ∙ ap (λ o. elaboration_of (goes_on (from_names imports (definitions ++ others)) o)) (sym p.named)
      ∙ sym (module_parts devices imports (definitions ++ others)) ∙ e)))
      ∙ b.joined,
)

beginning_of : (devices : List Name) (imports : List ImportSyntax) (definitions others : List DefSyntax)
    → (p : Parts imports (definitions ++ others) (with_imports devices imports zero))
    → Beginning p.names definitions p.holes p.list
beginning_of devices imports definitions others p =
    beginning_found p.names (p.names ++ defined_names definitions) definitions others p.holes p.list p.last
    (elaborated_definitions p.names definitions p.holes) refl
    (sym (joined_definitions p.names (p.names ++ defined_names definitions) definitions others refl p.holes) ∙ p.found)

whole_parts : (devices : List Name) (imports : List ImportSyntax) (definitions : List DefSyntax) (whole : CoreModule)
    → elaboration devices (text_of imports definitions) ≡ IsElaborated whole
    → Parts imports definitions (with_imports devices imports zero)
whole_parts devices imports definitions whole e =
    parts_were_found imports definitions (with_imports devices imports zero) whole
    (sym (module_parts devices imports definitions) ∙ e)

pub beginnings_are_elaborated : law.BeginningsAreElaborated
beginnings_are_elaborated devices imports definitions others whole e =
    beginning_stands devices imports definitions others whole e
    (whole_parts devices imports (definitions ++ others) whole e)
    (beginning_of devices imports definitions others (whole_parts devices imports (definitions ++ others) whole e))
