-- The first place of a name that is taken is that of its position.
use Rattle.std.proofs.Common.{◌≡◌, ℕ, zero, suc, ◌+◌, Bool, true, false, if◌then◌else◌, List, [], ◌∷◌, ◌++◌, map, length, slice_get, Option, Some, refl, sym, ap, ◌∙◌, append_assoc, arith, length-append}
use Rattle.std.specs.List.{position_from}
use Rattle.std.specs.Str.{bytes_eq}
use Rattle.std.proofs.lemmas.Iterator.Adapters.{position_from-zero}
use Rattle.cc_base.specs.declared.place.Place.{Place}
use Rattle.cc_mnf.specs.Scopes.{Name}
use Rattle.cc_elaboration_reasons.specs.ElaborationCauses.{Repeated, refused}
use Rattle.cc_elaboration_reasons.specs.ExplainedElaboration.{TakenName, names_in, repetition_refusal}
use Rattle.cc_elaboration_reasoning.specs.FoundRefusals.{place_or_nowhere, taken_refusal, repetition_found}

-- where the names stand
abbrev pub places_in : List TakenName → List (Option Place)
places_in taken = map (λ one. one.at) taken

-- what stands behind others
there : (ahead : List (Option Place)) (one : Option Place) (rest : List (Option Place)) (index : ℕ) → length ahead ≡ index → place_or_nowhere (slice_get (ahead ++ one ∷ rest) index) ≡ one
there [] one rest zero e = refl
there [] one rest (suc index) e = cc
there (first ∷ ahead) one rest zero e = cc
there (first ∷ ahead) one rest (suc index) e = there ahead one rest index cc

more_length : (ahead : List (Option Place)) (one : Option Place) (index : ℕ) → length ahead ≡ index → length (ahead ++ one ∷ []) ≡ index + 1
more_length ahead one index e = grind (arith, length-append)

from : (taken : List TakenName) (name : Name) (at : Place) (ahead : List (Option Place)) (index : ℕ) → length ahead ≡ index
    → taken_refusal (position_from (bytes_eq name) index (names_in taken)) (ahead ++ places_in taken) name at ≡ repetition_refusal taken name at
from [] name at ahead index e = refl
from (first ∷ rest) name at ahead index e =
    by (bytes_eq name first.name) (from rest name at (ahead ++ first.at ∷ []) (index + 1) (more_length ahead first.at index e))
  where
    by : (b : Bool) → taken_refusal (position_from (bytes_eq name) (index + 1) (names_in rest)) ((ahead ++ first.at ∷ []) ++ places_in rest) name at ≡ repetition_refusal rest name at
        → taken_refusal (if b then Some index else position_from (bytes_eq name) (index + 1) (names_in rest)) (ahead ++ first.at ∷ places_in rest) name at
        ≡ (if b then refused (Repeated name first.at) at else repetition_refusal rest name at)
    by true later = ap (λ place. refused (Repeated name place) at) (there ahead first.at (places_in rest) index e)
    by false later =
        ap (λ places. taken_refusal (position_from (bytes_eq name) (index + 1) (names_in rest)) places name at) (sym (append_assoc ahead (first.at ∷ []) (places_in rest))) ∙ later

pub repetition_is : (taken : List TakenName) (name : Name) (at : Place) → repetition_found (names_in taken) (places_in taken) name at ≡ repetition_refusal taken name at
repetition_is taken name at =
    ap (λ index. taken_refusal index (places_in taken) name at) (position_from-zero (bytes_eq name) (names_in taken)) ∙ from taken name at [] 0 refl
