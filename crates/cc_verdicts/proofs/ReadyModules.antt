-- The definitions of an elaborated module are ready to be checked, after the devices and the imports.
use Rattle.std.proofs.Common.{◌≡◌, ℕ, zero, suc, ◌+◌, Bool, true, false, List, [], ◌∷◌, ◌++◌, length, refl, sym, ap, ◌∙◌, subst, append_assoc, arith}
use Rattle.std.specs.Prelude.{IsTrue}
use Rattle.std.proofs.lemmas.List.{length-append}
use Rattle.cc_core.specs.Captured.{is_value}
use Rattle.cc_core.specs.Contexts.{TermEntry, TypeEntry, Context}
use Rattle.cc_core.specs.Stores.{is_function}
use Rattle.cc_core.specs.Terms.{Term}
use Rattle.cc_core.specs.WellFormed.{Kind, TermKind, kinds_of}
use Rattle.cc_core.proofs.Lookups.{length_map}
use Rattle.cc_grammar.specs.Syntax.{ImportSyntax, ModuleSyntax}
use Rattle.cc_checking_laws.specs.FillingLaws.{AreGlobals}
use Rattle.cc_mnf.specs.ElaboratedModules.{CoreDefinition, CoreModule, IsElaborated, elaboration, is_right_side}
use Rattle.cc_mnf.specs.ElaboratedModules.{import_names, definition_names, names_of}
use Rattle.cc_mnf.specs.ElaborationLaws.{name_kinds, StandsAfter}
use Rattle.cc_mnf.specs.Scopes.{Name}
use Rattle.cc_mnf.proofs.ElaboratedDefinitions.{definitions_are_well_formed, right_sides_are_values, definitions_are_in_order}
use Rattle.cc_mnf.proofs.ElaboratedHoles.{holes_are_of_parameters}
use Rattle.cc_verdicts.specs.ReadyDefinitions.{IsReady, EachIsReady}

-- the kinds of so many values
abbrev pub values : ℕ → List Kind
values zero = []
values (suc count) = TermKind ∷ values count

kinds_of_names : (names : List Name) → name_kinds names ≡ values (length names)
kinds_of_names [] = refl
kinds_of_names (name ∷ names) = ap (λ kinds. TermKind ∷ kinds) (kinds_of_names names)

pub kinds_of_globals : (g : Context) → AreGlobals g → kinds_of g ≡ values (length g)
kinds_of_globals [] alone = refl
kinds_of_globals (TermEntry s c ∷ g) alone = ap (λ kinds. TermKind ∷ kinds) (kinds_of_globals g alone.2)
kinds_of_globals (TypeEntry b ∷ g) alone = absurd alone

may_be : (recursive : Bool) (t : Term) → IsTrue (is_value t) → (recursive ≡ true → IsTrue (is_function t))
    → IsTrue (is_right_side recursive t)
may_be true t value function = function refl
may_be false t value function = value

ready_after : (devices : List Name) (text : ModuleSyntax) (core : CoreModule) → elaboration devices text ≡ IsElaborated core
    → (before : List CoreDefinition) (one : CoreDefinition) → StandsAfter core before one
    → IsReady (name_kinds (names_of devices core.imports before)) one
ready_after devices text core e before one stands =
    let formed = definitions_are_well_formed devices text core before one e stands in
    let value = right_sides_are_values devices text core before one e stands in
    let holes = holes_are_of_parameters devices text core before one e stands in
    record {
      note_formed = formed.note_formed;
      note_closed = holes.none_written;
      right_formed = formed.right_formed;
      may_be_defined = may_be one.recursive one.right value.is_a_value value.is_a_function;
      holes = holes.of_parameters;
    }

count_names : (devices : List Name) (imports : List ImportSyntax) (definitions : List CoreDefinition)
    → length (names_of devices imports definitions) ≡ length devices + length imports + length definitions
count_names devices imports definitions =
    let whole = length-append (devices ++ import_names imports) (definition_names definitions) in
    let front = length-append devices (import_names imports) in
    let imported = length_map (λ (one : ImportSyntax). one.name) imports in
    let defined = length_map (λ (one : CoreDefinition). one.name) definitions in
    omega arith

one_more : (devices : List Name) (imports : List ImportSyntax) (before : List CoreDefinition) (one : CoreDefinition)
    → length (names_of devices imports (before ++ one ∷ [])) ≡ suc (length (names_of devices imports before))
one_more devices imports before one =
    let longer = count_names devices imports (before ++ one ∷ []) in
    let shorter = count_names devices imports before in
    let last = length-append before (one ∷ []) in
    omega arith

rest_ready : (devices : List Name) (text : ModuleSyntax) (core : CoreModule) → elaboration devices text ≡ IsElaborated core
    → (before rest : List CoreDefinition) → core.definitions ≡ before ++ rest
    → EachIsReady (values (length (names_of devices core.imports before))) rest
rest_ready devices text core e before [] is = tt
rest_ready devices text core e before (one ∷ rest) is = (
  subst (λ kinds. IsReady kinds one) (kinds_of_names (names_of devices core.imports before))
      (ready_after devices text core e before one (rest, is)),
  subst (λ count. EachIsReady (values count) rest) (one_more devices core.imports before one)
      (rest_ready devices text core e (before ++ one ∷ []) rest (is ∙ sym (append_assoc before (one ∷ []) rest))),
)

-- each definition is ready after the devices and the imports of the text
pub elaborated_ready : (devices : List Name) (text : ModuleSyntax) (core : CoreModule)
    → elaboration devices text ≡ IsElaborated core
    → EachIsReady (values (length devices + length text.imports)) core.definitions
elaborated_ready devices text core e =
    let imports = ap (λ (list : List ImportSyntax). length list) (definitions_are_in_order devices text core e).0 in
    let names = count_names devices core.imports [] in
    let count : length (names_of devices core.imports []) ≡ length devices + length text.imports = omega arith in
    subst (λ n. EachIsReady (values n) core.definitions) count (rest_ready devices text core e [] core.definitions refl)
