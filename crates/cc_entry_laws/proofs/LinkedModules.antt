-- Modules of a program stand in order where their names do.
use Rattle.std.proofs.Common.{◌≡◌, ℕ, Bool, true, false, ◌&&◌, ◌||◌, List, [], ◌∷◌, map, reverse, if◌then◌else◌}
use Rattle.std.proofs.Common.{ap, ◌∙◌, sym, refl, inl, inr}
use Rattle.std.proofs.lemmas.Bool.{cases_Bool, false_from_ne_true}
use Rattle.std.specs.List.{list_all}
use Rattle.std.specs.Str.{bytes_eq}
use Rattle.cc_base.specs.Names.{is_name_before}
use Rattle.cc_core.specs.Programs.{Import, Module, are_in_order}
use Rattle.cc_core.specs.Programs as programs
use Rattle.cc_graph.specs.Graph.{ImportMap, imported, is_listed}
use Rattle.cc_graph.proofs.NameLemmas.{same_name, is_same_name}
use Rattle.cc_graph.proofs.OrderLemmas.{clash}
use Rattle.cc_entry_laws.specs.LinkOrders.{has_imports_listed, are_linked_in_order}
use Rattle.cc_entry_laws.specs.LinkedModules.{AreModulesOf, LinkedModulesAreInOrder}

either_way : (a b : List ℕ) → bytes_eq a b ≡ bytes_eq b a
either_way a b =
    elim (cases_Bool (bytes_eq a b)) [
      | inl same ↦ same ∙ sym (is_same_name b a (sym (same_name a b same)))
      | inr apart ↦
          apart
          ∙ sym (false_from_ne_true (bytes_eq b a)
          (λ back. clash (bytes_eq a b) (is_same_name a b (sym (same_name b a back))) apart))
    ]

and_right : (a b c : Bool) → ((a && b) && c) ≡ (a && (b && c))
and_right true b c = refl
and_right false b c = refl

-- the names of modules
abbrev names_of : List Module → List (List ℕ)
names_of modules = map (λ current. current.name) modules

listed_name : (listed : List Module) (name : List ℕ) → programs.is_listed listed name ≡ is_listed (names_of listed) name
listed_name [] name = refl
listed_name (first ∷ rest) name =
    ap (λ b. b || programs.is_listed rest name) (either_way first.name name)
    ∙ ap (λ b. bytes_eq name first.name || b) (listed_name rest name)

all_listed : (listed : List Module) (imports : List Import)
    → list_all (λ names. programs.is_listed listed names.module_name) imports
    ≡ list_all (is_listed (names_of listed)) (map (λ names. names.module_name) imports)
all_listed listed [] = refl
all_listed listed (first ∷ rest) =
    ap (λ b. b && list_all (λ names. programs.is_listed listed names.module_name) rest)
    (listed_name listed first.module_name)
    ∙ ap (λ b. is_listed (names_of listed) first.module_name && b) (all_listed listed rest)

ready_name : (imports : ImportMap) (listed : List Module) (current : Module)
    → map (λ names. names.module_name) current.imports ≡ imported imports current.name
    → programs.is_ready listed current ≡ has_imports_listed imports (names_of listed) current.name
ready_name imports listed current same =
    all_listed listed current.imports ∙ ap (λ xs. list_all (is_listed (names_of listed)) xs) same

first_name : (imports : ImportMap) (older : List Module) (newest : Module) (waiting : List Module)
    → AreModulesOf imports waiting
    → list_all (λ other. if programs.is_ready older other then is_name_before newest.name other.name else true) waiting
    ≡ list_all (λ other. if has_imports_listed imports (names_of older) other
    then is_name_before newest.name other else true) (names_of waiting)
first_name imports older newest [] are = refl
first_name imports older newest (first ∷ rest) are =
    ap (λ b. (if b then is_name_before newest.name first.name else true)
    && list_all (λ other. if programs.is_ready older other then is_name_before newest.name other.name else true) rest)
    (ready_name imports older first are.0)
    ∙ ap (λ b. (if has_imports_listed imports (names_of older) first.name
    then is_name_before newest.name first.name else true) && b) (first_name imports older newest rest are.1)

ordered_names : (imports : ImportMap) (waiting turned : List Module) → AreModulesOf imports waiting
    → AreModulesOf imports turned
    → are_in_order waiting turned ≡ are_linked_in_order imports (names_of waiting) (names_of turned)
ordered_names imports waiting [] wait are = refl
ordered_names imports waiting (newest ∷ older) wait are =
    let ready = programs.is_ready older newest in
    let first = list_all (λ other. if programs.is_ready older other
    then is_name_before newest.name other.name else true) waiting in
    and_right ready first (are_in_order (newest ∷ waiting) older)
    ∙ ap (λ b. b && (first && are_in_order (newest ∷ waiting) older)) (ready_name imports older newest are.0)
    ∙ ap (λ b. has_imports_listed imports (names_of older) newest.name && (b && are_in_order (newest ∷ waiting) older))
    (first_name imports older newest waiting wait)
    ∙ ap (λ b. has_imports_listed imports (names_of older) newest.name
    && (list_all (λ other. if has_imports_listed imports (names_of older) other
    then is_name_before newest.name other else true) (names_of waiting) && b))
    (ordered_names imports (newest ∷ waiting) older (are.0, wait) are.1)

pub linked_modules : LinkedModulesAreInOrder
linked_modules imports modules are linked = ordered_names imports [] (reverse modules) tt are ∙ linked
