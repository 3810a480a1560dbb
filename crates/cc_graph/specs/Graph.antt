-- The import graph of modules: which modules are present, what each imports, where imports lead, and an order in which
-- what a module imports comes before it. Names are lists of code points.
use Rattle.std.specs.Prelude.{◌≡◌, ℕ, Bool, true, not, ◌&&◌, ◌||◌, List, [], ◌∷◌, reverse}
use Rattle.std.specs.Prelude.{is_some, IsTrue}
use Rattle.std.specs.List.{list_all, list_any}
use Rattle.std.specs.List.Sorted.{IsStrictlySortedBy}
use Rattle.std.specs.Map.{keys_of, lookup}
use Rattle.std.specs.Option.{unwrap_or}
use Rattle.std.specs.Str.{bytes_eq}
use Rattle.cc_base.specs.Names.{compare_names, is_name_before}

-- The present modules by name, each with the names of the modules that it imports.
abbrev pub ImportMap : Type 0
ImportMap = List (List ℕ × List (List ℕ))

-- the names of the present modules differ, and stand in order
abbrev pub IsImportMap : ImportMap → Type 0
IsImportMap imports = IsStrictlySortedBy compare_names (keys_of imports)

-- whether the module is present
abbrev pub is_present : ImportMap → List ℕ → Bool
is_present imports name = is_some (lookup (bytes_eq name) imports)

-- the names that the module imports; a module that is not present imports nothing
abbrev pub imported : ImportMap → List ℕ → List (List ℕ)
imported imports name = unwrap_or (lookup (bytes_eq name) imports) []

-- whether a present module imports that module, which need not be present
unfoldable pub does_import : ImportMap → List ℕ → List ℕ → Bool
does_import imports from to = list_any (bytes_eq to) (imported imports from)

-- a path of at least one step
pub data Path {A : Type 0} (step : A → A → Bool) : A → A → Type 0 where
  one_step : {from to : A} → step from to ≡ true → Path step from to
  more_steps : {from between to : A} → step from between ≡ true → Path step between to → Path step from to

-- the module imports that module, or imports one that reaches it
abbrev pub Reaches : ImportMap → List ℕ → List ℕ → Type 0
Reaches imports = Path (does_import imports)

-- The steps lead from the first through those between, in turn, to the last.
abbrev pub LeadsAlong : {A : Type 0} → (A → A → Bool) → A → List A → A → Type 0
LeadsAlong step from [] to = IsTrue (step from to)
LeadsAlong step from (next ∷ others) to = IsTrue (step from next) × LeadsAlong step next others to

-- the module is in a cycle: imports lead from it through some modules, or through none, back to it
abbrev pub IsInCycle : ImportMap → List ℕ → Type 0
IsInCycle imports name = (between : List (List ℕ)) × LeadsAlong (does_import imports) name between name

-- Whether a path leads from the first to the last with nothing between them but what is listed: it does so without the
-- first of the list, or it leads to that one and on from there.
abbrev pub leads_through : {A : Type 0} → (A → A → Bool) → List A → A → A → Bool
leads_through step [] from to = step from to
leads_through step (inner ∷ others) from to =
    leads_through step others from to
    || (leads_through step others from inner && leads_through step others inner to)

-- whether a module reaches another: all that stand between are present
unfoldable pub reaches : ImportMap → List ℕ → List ℕ → Bool
reaches imports = leads_through (does_import imports) (keys_of imports)

-- whether the name is listed
abbrev pub is_listed : List (List ℕ) → List ℕ → Bool
is_listed listed name = list_any (bytes_eq name) listed

-- whether an import of the module holds it up: the imported one is present, is not listed and does not reach back
abbrev pub holds_up : ImportMap → List (List ℕ) → List ℕ → List ℕ → Bool
holds_up imports listed name other =
    is_present imports other && (not (is_listed listed other) && not (reaches imports other name))

-- whether no import holds the module up
unfoldable pub is_ready : ImportMap → List (List ℕ) → List ℕ → Bool
is_ready imports listed name = list_all (λ other. not (holds_up imports listed name other)) (imported imports name)

-- whether the module may come next after those that are listed: it is none of them and is ready
abbrev pub may_come : ImportMap → List (List ℕ) → List ℕ → Bool
may_come imports listed name = not (is_listed listed name) && is_ready imports listed name

-- whether the module is the next one: the first by name of the present ones that may come
abbrev pub is_next : ImportMap → List (List ℕ) → List ℕ → Bool
is_next imports listed name =
    is_present imports name
    && (may_come imports listed name
    && list_all (λ other. not (may_come imports listed other && is_name_before other name)) (keys_of imports))

-- the names, turned round, are each the next one after those before it
abbrev pub are_in_order : ImportMap → List (List ℕ) → Bool
are_in_order imports [] = true
are_in_order imports (newest ∷ older) = is_next imports older newest && are_in_order imports older

-- The order of the present modules: each name is the next one after those before it, and each present one is listed.
pub record IsOrder (imports : ImportMap) (names : List (List ℕ)) : Type 0 where
  pub steps : IsTrue (are_in_order imports (reverse names))
  pub whole : IsTrue (list_all (is_listed names) (keys_of imports))
