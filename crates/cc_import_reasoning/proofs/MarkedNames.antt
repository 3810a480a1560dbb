-- Marks on the places of names, and the places of modules that import.
use Rattle.std.proofs.Common.{◌≡◌, ℕ, zero, suc, ◌+◌, ◌<◌, Bool, false, ◌||◌, nat_eq, List, [], ◌∷◌, length, take, get_or, Option, Some, None, inl, inr, sym, ap, subst, ◌∙◌, arith}
use Rattle.std.specs.Prelude.{MatchOption}
use Rattle.std.specs.List.{Contains, list_any}
use Rattle.std.specs.Option.{unwrap_or}
use Rattle.std.specs.Str.{bytes_eq}
use Rattle.std.specs.Cmp.Lexicographic.{bytes_decides, nat_list_eq_equiv}
use Rattle.std.proofs.Math.Bool.{or_comm, or-false}
use Rattle.std.proofs.lemmas.Bool.{cases_Bool, eqb-true}
use Rattle.std.proofs.lemmas.List.Folds.{list_any_more}
use Rattle.std.proofs.lemmas.Map.Views.{list_any-from_Contains}
use Rattle.cc_graph.specs.Graph.{ImportMap, IsImportMap, imported, does_import}
use Rattle.cc_graph.specs.Places.{name_at, imports_at}
use Rattle.cc_graph.proofs.NameLemmas.{names_apart, lookup_at, place_among}
use Rattle.cc_graph.proofs.Paths.{importer_is_present}
use Rattle.cc_judge.specs.declared.importing.Importing.{Importing}
use Rattle.cc_judge.specs.KnownGraphs.{entries_of}
use Rattle.cc_import_reasoning.specs.Circles.{IsPlaceOf, IsAtDistance}
use Rattle.cc_import_reasoning.specs.Distances.{is_marked, is_marked_at, AreLinks, distance_at}

differs : (one other : List ℕ) → (one ≡ other → ⊥) → bytes_eq one other ≡ false
differs one other apart =
    elim (cases_Bool (bytes_eq one other)) [
      | inl same ↦ absurd (apart ((bytes_decides one other).0 same))
      | inr is ↦ is
    ]

module _ (graph : ImportMap) (sorted : IsImportMap graph) where
  -- one name more is marked
  pub marked_more : (names : List (List ℕ)) (index : ℕ) (name : List ℕ) → index < length names → name ≡ get_or names index name
      → (found : Option ℕ) → IsPlaceOf graph name found → (old new : List Bool)
      → MatchOption found (new ≡ old) (λ at. (other : ℕ) → is_marked new other ≡ (nat_eq other at || is_marked old other))
      → (place : ℕ) → place < length graph → is_marked old place ≡ list_any (bytes_eq (name_at graph place)) (take index names)
      → is_marked new place ≡ list_any (bytes_eq (name_at graph place)) (take (index + 1) names)
  marked_more names index name low is found finds old new puts place inside before =
      by found finds puts ∙ sym (list_any_more (bytes_eq (name_at graph place)) names index name low ∙ ap (λ n. any || bytes_eq (name_at graph place) n) (sym is))
    where
      any : Bool
      any = list_any (bytes_eq (name_at graph place)) (take index names)

      by : (found : Option ℕ) → IsPlaceOf graph name found
          → MatchOption found (new ≡ old) (λ at. (other : ℕ) → is_marked new other ≡ (nat_eq other at || is_marked old other))
          → is_marked new place ≡ (list_any (bytes_eq (name_at graph place)) (take index names) || bytes_eq (name_at graph place) name)
      by None none same =
          let other : bytes_eq (name_at graph place) name ≡ false = differs (name_at graph place) name (none place inside) in
          ap (λ row. is_marked row place) same ∙ before ∙ sym (or-false _) ∙ ap (λ b. list_any (bytes_eq (name_at graph place)) (take index names) || b) (sym other)
      by (Some at) (within, named) marks =
          let same : bytes_eq (name_at graph place) name ≡ nat_eq place at = ap (bytes_eq (name_at graph place)) (sym named) ∙ names_apart graph sorted place at inside within in
          marks place ∙ ap (λ b. nat_eq place at || b) before ∙ ap (λ b. b || list_any (bytes_eq (name_at graph place)) (take index names)) (sym same)
          ∙ or_comm (bytes_eq (name_at graph place) name) (list_any (bytes_eq (name_at graph place)) (take index names))

  -- a module that imports stands at a place
  pub importer_at : (name next : List ℕ) → Contains (imported graph name) next → (place : ℕ) × (place < length graph) × (name_at graph place ≡ name)
  unfolding does_import
  importer_at name next among =
      place_among graph name (importer_is_present graph name next (list_any-from_Contains nat_list_eq_equiv next (imported graph name) among))

  pub imported_at : (place : ℕ) → place < length graph → imported graph (name_at graph place) ≡ imports_at graph place
  imported_at place low = ap (λ o. unwrap_or o []) (lookup_at graph sorted place low)

  pub are_links : (rows : List (List Bool)) → length rows ≡ length graph
      → ((from to : ℕ) → from < length rows → to < length graph → is_marked_at rows from to ≡ does_import graph (name_at graph from) (name_at graph to))
      → AreLinks (imported graph) (name_at graph) rows
  unfolding does_import
  are_links rows count marks =
      record {
        marks = λ from to low within. marks from to low (omega arith);
        only = λ name next among. let (place, low, is) = importer_at name next among in (place, omega arith, is);
        apart = λ place other low within same.
            eqb-true place other
            (sym (names_apart graph sorted place other (omega arith) (omega arith)) ∙ (bytes_decides (name_at graph place) (name_at graph other)).1 same);
      }

pub sources_at : (modules : List Importing) (at : ℕ) (one : Importing) → at < length modules → one ≡ get_or modules at one
    → one.sources.items ≡ imports_at (entries_of modules) at
sources_at [] at one low is = absurd (omega arith)
sources_at (first ∷ modules) zero one low is = ap (λ m. m.sources.items) is
sources_at (first ∷ modules) (suc at) one low is = sources_at modules at one (omega arith) is

-- only the place of a name is at its distance
pub not_distant : (graph : ImportMap) → IsImportMap graph → (distances : List (Option ℕ)) (links at : ℕ) (name : List ℕ) → IsPlaceOf graph name (Some at)
    → (distance_at distances at ≡ Some links → ⊥) → IsAtDistance graph distances links name → ⊥
not_distant graph sorted distances links at name (low, is) not (place, within, named, known) =
    not (subst (λ k. distance_at distances k ≡ Some links)
    (eqb-true place at (sym (names_apart graph sorted place at within low) ∙ (bytes_decides (name_at graph place) (name_at graph at)).1 (named ∙ sym is))) known)

pub none_distant : (graph : ImportMap) (distances : List (Option ℕ)) (links : ℕ) (name : List ℕ) → IsPlaceOf graph name None
    → IsAtDistance graph distances links name → ⊥
none_distant graph distances links name none (place, within, named, known) = none place within named
