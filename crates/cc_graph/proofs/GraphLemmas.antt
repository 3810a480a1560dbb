-- Paths by places, and paths by names.
use Rattle.std.proofs.Common.{◌≡◌, ℕ, ◌<◌, nat_eq, Bool, true, false, List, [], length, get_or, ap, ◌∙◌, sym, subst}
use Rattle.std.proofs.Common.{refl, inl, inr, arith, eq-eqb, eqb-true}
use Rattle.std.proofs.lemmas.Bool.{cases_lt, cases_Bool, false_from_ne_true}
use Rattle.std.specs.Cmp.{both_ways}
use Rattle.std.specs.Str.{bytes_eq}
use Rattle.cc_graph.specs.Graph.{ImportMap, IsImportMap, does_import, Path, one_step, more_steps, Reaches, reaches}
use Rattle.cc_graph.specs.Graph.{leads_through}
use Rattle.cc_graph.specs.Places.{has_bit, has_at, places_below, name_at, AreImports, IsClosed, IsImportedFrom}
use Rattle.cc_graph.proofs.NameLemmas.{same_name, is_same_name, names_apart, imports_by_name, place_among}
use Rattle.cc_graph.proofs.Paths.{first_step, last_step, path_to_last, path_from_test, test_from_path}
use Rattle.cc_graph.proofs.Paths.{importer_is_present, reaches-path, path-reaches}
use Rattle.cc_graph.proofs.Ranks.{among_below}
use Rattle.cc_graph.proofs.RowLemmas.{no_row}

-- steps between places are those between their names
pub record Mirrors (imports : ImportMap) (step : ℕ → ℕ → Bool) : Type 0 where
  pub bits : (i j : ℕ) → i < length imports → j < length imports → step i j ≡ does_import imports (name_at imports i)
      (name_at imports j)
  pub from_inside : (i j : ℕ) → step i j ≡ true → i < length imports
  pub to_inside : (i j : ℕ) → step i j ≡ true → j < length imports

module _ (imports : ImportMap) (step : ℕ → ℕ → Bool) (mirrors : Mirrors imports step) where
  name_path : {i j : ℕ} → Path step i j → Reaches imports (name_at imports i) (name_at imports j)
  name_path (one_step {from = i} {to = j} s) =
      one_step (sym (mirrors.bits i j (mirrors.from_inside i j s) (mirrors.to_inside i j s)) ∙ s)
  name_path (more_steps {from = i} {between = j} s p) =
      more_steps (sym (mirrors.bits i j (mirrors.from_inside i j s) (mirrors.to_inside i j s)) ∙ s) (name_path p)

  step_between : (i j : ℕ) (a b : List ℕ) → i < length imports → j < length imports → name_at imports i ≡ a
      → name_at imports j ≡ b
      → does_import imports a b ≡ true → step i j ≡ true
  step_between i j a b from to is_from is_to s =
      let P : List ℕ → Type 0 = λ x. does_import imports x b ≡ true in
      let Q : List ℕ → Type 0 = λ y. does_import imports (name_at imports i) y ≡ true in
      mirrors.bits i j from to ∙ subst Q (sym is_to) (subst P (sym is_from) s)

  place_path : {a b : List ℕ} → Reaches imports a b → (i j : ℕ) → i < length imports → j < length imports
      → name_at imports i ≡ a → name_at imports j ≡ b → Path step i j
  place_path (one_step {from = a} {to = b} s) i j from to is_from is_to = one_step
      (step_between i j a b from to is_from is_to s)
  place_path (more_steps {from = a} {between = c} s p) i j from to is_from is_to =
      let next = first_step (does_import imports) p in
      let middle = place_among imports c (importer_is_present imports c next.0 next.1) in
      more_steps (step_between i middle.0 a c from middle.1 is_from middle.2 s)
      (place_path p middle.0 j middle.1 to middle.2 is_to)

  pub leads-reaches : (i j : ℕ) → i < length imports → j < length imports
      → leads_through step (places_below (length imports)) i j ≡ reaches imports (name_at imports i) (name_at imports j)
  leads-reaches i j from to =
      both_ways _ _
      (λ led. path-reaches imports _ _ (name_path (path_from_test step (places_below (length imports)) i j led)))
      (λ reached.
      test_from_path step (places_below (length imports)) (λ c d s. among_below (length imports) c
      (mirrors.from_inside c d s)) i j
      (place_path (reaches-path imports _ _ reached) i j from to refl refl))

pub rows_mirror : (imports : ImportMap) (rows : List (List ℕ)) → AreImports imports rows → Mirrors imports (has_at rows)
rows_mirror imports rows are =
    record {
      bits = are.bits;
      from_inside = λ i j s.
          elim (cases_lt i (length imports)) [
            | inl within ↦ within
            | inr past ↦ absurd (let none : has_at rows i j ≡ false = no_row rows i j (omega (arith, are.count)) in cc)
          ];
      to_inside = λ i j s.
          elim (cases_lt j (length imports)) [
            | inl within ↦ within
            | inr past ↦ absurd (let none : has_at rows i j ≡ false = are.inside i j past in cc)
          ];
    }

-- closing the rows of imports
pub closed_from : (imports : ImportMap) (rows closed : List (List ℕ)) → AreImports imports rows
    → length closed ≡ length rows
    → ((from to : ℕ) → has_at closed from to ≡ leads_through (has_at rows) (places_below (length rows)) from to)
    → IsClosed imports closed
closed_from imports rows closed are sized each =
    record {
      count = sized ∙ are.count;
      bits = λ from to inside within.
          each from to
          ∙ ap (λ n. leads_through (has_at rows) (places_below n) from to) are.count
          ∙ leads-reaches imports (has_at rows) (rows_mirror imports rows are) from to inside within;
    }

-- the name at the place that was found
pub found_name : (imports : ImportMap) (name : List ℕ) (found : ℕ) → found < length imports
    → ((place : ℕ) → place < length imports → bytes_eq (name_at imports place) name ≡ nat_eq place found)
    → name_at imports found ≡ name
found_name imports name found within is = same_name _ _ (is found within ∙ eq-eqb found found refl)

-- nothing leads from a module that is not there
pub no_way_from : (imports : ImportMap) (from to : List ℕ) → ((place : ℕ) → place < length imports
    → bytes_eq (name_at imports place) from ≡ false)
    → false ≡ reaches imports from to
no_way_from imports from to absent =
    sym (false_from_ne_true (reaches imports from to)
    (λ reached.
    let next = first_step (does_import imports) (reaches-path imports from to reached) in
    let at = place_among imports from (importer_is_present imports from next.0 next.1) in
    let none : bytes_eq (name_at imports at.0) from ≡ false = absent at.0 at.1 in
    let some : bytes_eq (name_at imports at.0) from ≡ true = is_same_name _ _ at.2 in
    cc))

pub way_between : (imports : ImportMap) (closed : List (List ℕ)) → IsClosed imports closed
    → (from to : List ℕ) (first last : ℕ)
    → first < length imports → last < length imports → name_at imports first ≡ from → name_at imports last ≡ to
    → has_at closed first last ≡ reaches imports from to
way_between imports closed is from to first last start end is_from is_to =
    is.bits first last start end ∙ ap (λ x. reaches imports x (name_at imports last)) is_from
    ∙ ap (reaches imports from) is_to

-- what is reached is imported by the module or by one that it reaches
pub way_by_import : (imports : ImportMap) → IsImportMap imports → (closed : List (List ℕ)) → IsClosed imports closed
    → (from to : List ℕ) (first : ℕ) (row : List ℕ) (answer : Bool) → first < length imports
    → name_at imports first ≡ from
    → row ≡ get_or closed first []
    → (answer ≡ true → (last : ℕ) × IsImportedFrom imports row first to last)
    → (answer ≡ false → (last : ℕ) → IsImportedFrom imports row first to last → ⊥)
    → answer ≡ reaches imports from to
way_by_import imports sorted closed is from to first row answer start is_from is_row accepts denied =
    let bit : (k : ℕ) → k < length imports → has_bit row k ≡ reaches imports from (name_at imports k) =
    λ k within. ap (λ r. has_bit r k) is_row ∙ is.bits first k start within
    ∙ ap (λ x. reaches imports x (name_at imports k)) is_from in
    both_ways answer (reaches imports from to)
    (λ says.
    let (last, (within, (way, imported))) = accepts says in
    let final : does_import imports (name_at imports last) to ≡ true = imports_by_name imports sorted last to within
    ∙ imported in
    path-reaches imports from to
    (path_to_last (does_import imports)
    (elim way [
      | inl same ↦ inl (ap (name_at imports) same ∙ is_from)
      | inr has ↦ inr (reaches-path imports from (name_at imports last) (sym (bit last within) ∙ has))
    ]) final))
    (λ reached.
    elim (cases_Bool answer) [
      | inl says ↦ says
      | inr denies ↦
          let final = last_step (does_import imports) (reaches-path imports from to reached) in
          let at = place_among imports final.0 (importer_is_present imports final.0 to final.2) in
          let by_name : does_import imports (name_at imports at.0) to ≡ true =
          (let P : List ℕ → Type 0 = λ x. does_import imports x to ≡ true in subst P (sym at.2) final.2) in
          absurd (denied denies at.0 (
            at.1,
            (
              elim final.1 [
                | inl same ↦
                    inl (eqb-true at.0 first
                    (sym (names_apart imports sorted at.0 first at.1 start) ∙ is_same_name _ _ (at.2 ∙ same
                    ∙ sym is_from)))
                | inr led ↦
                    inr (bit at.0 at.1
                    ∙ (let P : List ℕ → Type 0 = λ x. reaches imports from x ≡ true in subst P (sym at.2)
                    (path-reaches imports from final.0 led)))
              ],
              sym (imports_by_name imports sorted at.0 to at.1) ∙ by_name,
            ),
          ))
    ])
