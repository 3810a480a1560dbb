-- What the loops of explaining keep.
use Rattle.std.proofs.Common.{◌≡◌, ℕ, zero, suc, ◌+◌, ◌<◌, ◌≤◌, true, false, ◌&&◌, List, [], ◌∷◌, ◌++◌, length, map, take, slice_get, flat_map, Option, Some, None, inl, inr, refl, sym, ap, subst, ◌∙◌, append_assoc, arith}
use Rattle.std.specs.Option.{option_to_list}
use Rattle.std.specs.Str.{bytes_eq}
use Rattle.std.proofs.lemmas.Bool.{cases_lt, and_parts}
use Rattle.std.proofs.lemmas.List.{append-nil}
use Rattle.std.proofs.lemmas.Simd.{map-map}
use Rattle.std.proofs.lemmas.Slice.Eq.{bytes_eq-Decides}
use Rattle.cc_capture.specs.declared.var.Elem.{Elem}
use Rattle.cc_session.specs.declared.modules.EntryModule.{EntryModule}
use Rattle.cc_session.specs.Modules.{module_of}
use Rattle.cc_explain.specs.Entries.{Entries}
use Rattle.cc_entry_laws.specs.PresentEntries.{CheckedModule}
use Rattle.cc_verdicts.specs.ModuleVerdicts.{CheckedDefinition}
use Rattle.cc_module.specs.declared.judgement.CheckedDef.{CheckedDef}
use Rattle.cc_module.specs.Judgements.{checked_definition_of}
use Rattle.cc_replies.specs.declared.chains.FoundChain.{FoundChain}
use Rattle.cc_answers.specs.Explaining.{names_in, definition_names, FindsChain, FindsAll}

flat_more : {A B : Type 0} (f : A → List B) (xs : List A) (x : A) → flat_map f (xs ++ x ∷ []) ≡ flat_map f xs ++ f x
flat_more f [] x = append-nil (f x)
flat_more f (y ∷ xs) x = ap (λ t. f y ++ t) (flat_more f xs x) ∙ sym (append_assoc (f y) (flat_map f xs) (f x))

-- one module more
pub names_more : (modules : List EntryModule) (one : EntryModule) (old new : List (List ℕ × List ℕ))
    → old ≡ definition_names (map module_of modules) → new ≡ old ++ map (λ (def : CheckedDef). (one.name, def.name)) one.defs.items
    → new ≡ definition_names (map module_of (modules ++ one ∷ []))
names_more modules one old new before more =
    more ∙ ap (λ t. t ++ map (λ (def : CheckedDef). (one.name, def.name)) one.defs.items) before
    ∙ ap (λ t. definition_names (map module_of modules) ++ t)
    (sym (map-map (λ (d : CheckedDefinition). (one.name, d.name)) checked_definition_of one.defs.items))
    ∙ sym (flat_more names_in (map module_of modules) (module_of one)) ∙ ap definition_names (sym (mapped modules))
  where
    mapped : (ms : List EntryModule) → map module_of (ms ++ one ∷ []) ≡ map module_of ms ++ module_of one ∷ []
    mapped [] = refl
    mapped (m ∷ ms) = ap (λ t. module_of m ∷ t) (mapped ms)

-- one element more
pub finds_more : (links : Entries) (from : ℕ) (elements : List Elem) (element : Elem) (old new : List FoundChain) (one : Option FoundChain)
    → FindsAll links from elements old → FindsChain links from element one → new ≡ old ++ option_to_list one
    → FindsAll links from (elements ++ element ∷ []) new
finds_more links from [] element old new one before finds more =
    (one, [], finds, refl, more ∙ ap (λ t. t ++ option_to_list one) before ∙ sym (append-nil (option_to_list one)))
finds_more links from (e ∷ elements) element old new one (first, later, found, rest, is) finds more = (
  first,
  later ++ option_to_list one,
  found,
  finds_more links from elements element later (later ++ option_to_list one) one rest finds refl,
  more ∙ ap (λ t. t ++ option_to_list one) is ∙ append_assoc (option_to_list first) later (option_to_list one),
)

-- NAMES
pub named_so : (a b m d : List ℕ) → (bytes_eq a m && bytes_eq b d) ≡ true → ◌≡◌ {A = List ℕ × List ℕ} (a, b) (m, d)
named_so a b m d h =
    let parts = and_parts (bytes_eq a m) (bytes_eq b d) h in
    λ i. ((bytes_eq-Decides a m).0 parts.0 i, (bytes_eq-Decides b d).0 parts.1 i)

both_tests : (a b m d : List ℕ) → a ≡ m → b ≡ d → (bytes_eq a m && bytes_eq b d) ≡ true
both_tests a b m d p q = rw ((bytes_eq-Decides a m).1 p, (bytes_eq-Decides b d).1 q) refl

-- the parts of a pair, if there is one
first_of : Option (List ℕ × List ℕ) → List ℕ
first_of (Some names) = names.0
first_of None = []

second_of : Option (List ℕ × List ℕ) → List ℕ
second_of (Some names) = names.1
second_of None = []

pub first_part : (a b m d : List ℕ) → ◌≡◌ {A = Option (List ℕ × List ℕ)} (Some (a, b)) (Some (m, d)) → a ≡ m
unfolding first_of
first_part a b m d h = ap first_of h

pub second_part : (a b m d : List ℕ) → ◌≡◌ {A = Option (List ℕ × List ℕ)} (Some (a, b)) (Some (m, d)) → b ≡ d
unfolding second_of
second_part a b m d h = ap second_of h

pub not_named_so : (a b m d : List ℕ) → (bytes_eq a m && bytes_eq b d) ≡ false
    → ◌≡◌ {A = Option (List ℕ × List ℕ)} (Some (a, b)) (Some (m, d)) → ⊥
not_named_so a b m d differ same =
    let e = both_tests a b m d (first_part a b m d same) (second_part a b m d same) in cc

-- what stands in a list that is carried over
pub stands_carried : {A B : Type 0} (f : A → B) (xs : List A) (place : ℕ) (x : A) → slice_get xs place ≡ Some x → slice_get (map f xs) place ≡ Some (f x)
stands_carried f [] place x h = cc
stands_carried f (y ∷ ys) zero x h = ap (λ t. Some (f t)) (same_one y x h)
  where
    same_one : {A : Type 0} (a b : A) → Some a ≡ Some b → a ≡ b
    same_one a b h = cc
stands_carried f (y ∷ ys) (suc place) x h = stands_carried f ys place x h

pub nothing_past : {A B : Type 0} (f : A → B) (xs : List A) (place : ℕ) (y : B) → length xs ≤ place → slice_get (map f xs) place ≡ Some y → ⊥
nothing_past f [] place y past h = cc
nothing_past f (x ∷ xs) zero y past h = omega arith
nothing_past f (x ∷ xs) (suc place) y past h = nothing_past f xs place y (omega arith) h

-- no place is missed
pub one_more_missed : (names : List (List ℕ × List ℕ)) (place : ℕ) (wanted : List ℕ × List ℕ)
    → ((k : ℕ) → k < place → slice_get names k ≡ Some wanted → ⊥) → (slice_get names place ≡ Some wanted → ⊥)
    → (k : ℕ) → k < place + 1 → slice_get names k ≡ Some wanted → ⊥
one_more_missed names place wanted before here k below is =
    elim (cases_lt k place) [
      | inl low ↦ before k low is
      | inr high ↦ (let same : k ≡ place = omega arith in here (sym (ap (slice_get names) same) ∙ is))
    ]

pub same_element : {T : Type 0} (a b : T) → Some a ≡ Some b → a ≡ b
same_element a b h = cc
