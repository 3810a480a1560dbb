-- The numbers of the definitions of modules: definitions of earlier modules first, those of one module in their order.
use Rattle.std.proofs.Common.{◌≡◌, ◌⊎◌, ℕ, zero, suc, ◌+◌, Bool, true, false, cond, List, [], ◌∷◌, ◌++◌, length, map, slice_get, flat_map, Option, Some, None, inl, inr, refl, sym, ap, subst, ◌∙◌, append_assoc, length-append, arith, if◌then◌else◌}
use Rattle.std.specs.Prelude.{reverse}
use Rattle.std.specs.List.{AllByRecursion, IsDistinct}
use Rattle.std.specs.Str.{bytes_eq}
use Rattle.std.proofs.lemmas.Bool.{cases_Bool}
use Rattle.std.proofs.lemmas.List.{append-nil, length-map, length-reverse, reverse-append}
use Rattle.std.proofs.lemmas.Slice.Eq.{bytes_eq-Decides}
use Rattle.cc_core.specs.Programs.{Definition, Module}
use Rattle.cc_entry_laws.specs.PresentEntries.{CheckedModule, program_module}
use Rattle.cc_verdicts.specs.ModuleVerdicts.{CheckedDefinition, in_program}
use Rattle.cc_runs.specs.Links.{count_definitions, position_among, position_in}
use Rattle.cc_link.specs.ModuleLinkLaws.{AreNumbered, modules_turned}
use Rattle.cc_answers.specs.Explaining.{names_in, definition_names}
use Rattle.cc_answers.proofs.ExplainingFacts.{first_part, second_part}

same_bytes : (a b : List ℕ) → bytes_eq a b ≡ true → a ≡ b
same_bytes a b h = (bytes_eq-Decides a b).0 h

is_itself : (a : List ℕ) → bytes_eq a a ≡ true
is_itself a = (bytes_eq-Decides a a).1 refl

some_same : {A : Type 0} (a b : A) → Some a ≡ Some b → a ≡ b
some_same a b h = cc

-- definitions, turned round, before others that are
definitions_turned : List Definition → List CheckedDefinition → List Definition
definitions_turned front [] = front
definitions_turned front (one ∷ rest) = definitions_turned (in_program one ∷ front) rest

turned_reverse : (front : List Definition) (ds : List CheckedDefinition) → reverse (map in_program ds) ++ front ≡ definitions_turned front ds
unfolding definitions_turned
turned_reverse front [] = refl
turned_reverse front (one ∷ rest) =
    ap (λ xs. xs ++ front) (reverse-append (in_program one ∷ []) (map in_program rest))
    ∙ append_assoc (reverse (map in_program rest)) (in_program one ∷ []) front
    ∙ turned_reverse (in_program one ∷ front) rest

turned_is : (ds : List CheckedDefinition) → reverse (map in_program ds) ≡ definitions_turned [] ds
turned_is ds = sym (append-nil (reverse (map in_program ds))) ∙ turned_reverse [] ds

-- a definition of the name, with those before and behind it
pub record PlacedAmong (ds : List CheckedDefinition) (name : List ℕ) (place : ℕ) : Type 0 where
  pub before : List CheckedDefinition
  pub one : CheckedDefinition
  pub after : List CheckedDefinition
  pub parts : ds ≡ before ++ one ∷ after
  pub named : name ≡ one.name
  pub at : place ≡ length before

place_behind : (d : CheckedDefinition) (ds : List CheckedDefinition) (name : List ℕ) (place : ℕ) → PlacedAmong ds name place → PlacedAmong (d ∷ ds) name (suc place)
place_behind d ds name place it = record {
  before = d ∷ it.before;
  one = it.one;
  after = it.after;
  parts = ap (λ xs. d ∷ xs) it.parts;
  named = it.named;
  at = ap suc it.at;
}

-- where a definition is found by its name
found_among : (base : ℕ) (name : List ℕ) (front : List Definition) (ds : List CheckedDefinition) (k : ℕ)
    → position_among base name (definitions_turned front ds) ≡ Some k
    → (position_among base name front ≡ Some k) ⊎ ((place : ℕ) × PlacedAmong ds name place × (k ≡ base + (length front + place)))
unfolding definitions_turned
found_among base name front [] k is = inl is
found_among base name front (one ∷ rest) k is =
    elim (found_among base name (in_program one ∷ front) rest k is) [
      | inl here ↦
          elim (cases_Bool (bytes_eq one.name name)) [
            | inl same ↦ inr (
              0,
              record { before = []; one = one; after = rest; parts = refl; named = sym (same_bytes one.name name same); at = refl },
              (let it : base + length front ≡ k = some_same (base + length front) k (rw same at here) in omega arith),
            )
            | inr other ↦ inl (rw other at here)
          ]
      | inr (place, it, at) ↦ inr (suc place, place_behind one rest name place it, omega arith)
    ]

-- so it is found where no later one has its name
skips : (base : ℕ) (name : List ℕ) (front : List Definition) (ds : List CheckedDefinition)
    → AllByRecursion (λ y. bytes_eq name y ≡ false) (map (λ one. one.name) ds)
    → position_among base name (definitions_turned front ds) ≡ position_among base name front
unfolding definitions_turned
skips base name front [] all = refl
skips base name front (one ∷ rest) all =
    skips base name (in_program one ∷ front) rest all.1 ∙ rw (other_way name one.name all.0) refl
  where
    other_way : (a b : List ℕ) → bytes_eq a b ≡ false → bytes_eq b a ≡ false
    other_way a b h =
        elim (cases_Bool (bytes_eq b a)) [
          | inl same ↦ (let e : bytes_eq a b ≡ true = (bytes_eq-Decides a b).1 (sym (same_bytes b a same)) in cc)
          | inr differ ↦ differ
        ]

among_at : (base : ℕ) (front : List Definition) (before : List CheckedDefinition) (one : CheckedDefinition) (after : List CheckedDefinition)
    → AllByRecursion (λ y. bytes_eq one.name y ≡ false) (map (λ d. d.name) after)
    → position_among base one.name (definitions_turned front (before ++ one ∷ after)) ≡ Some (base + (length front + length before))
unfolding definitions_turned
among_at base front [] one after all =
    skips base one.name (in_program one ∷ front) after all ∙ rw (is_itself one.name) (ap (λ n. Some n) (moved base (length front)))
  where
    moved : (a b : ℕ) → a + b ≡ a + (b + 0)
    moved a b = omega arith
among_at base front (d ∷ before) one after all =
    among_at base (in_program d ∷ front) before one after all ∙ ap (λ n. Some n) (moved base (length front) (length before))
  where
    moved : (a b c : ℕ) → a + (suc b + c) ≡ a + (b + suc c)
    moved a b c = omega arith

-- names that differ do so behind each
apart_behind : (xs : List (List ℕ)) (x : List ℕ) (ys : List (List ℕ)) → IsDistinct bytes_eq (xs ++ x ∷ ys)
    → AllByRecursion (λ y. bytes_eq x y ≡ false) ys
unfolding IsDistinct
apart_behind [] x ys distinct = distinct.0
apart_behind (z ∷ xs) x ys distinct = apart_behind xs x ys distinct.1

map_parts : {A B : Type 0} (f : A → B) (xs : List A) (x : A) (ys : List A) → map f (xs ++ x ∷ ys) ≡ map f xs ++ f x ∷ map f ys
map_parts f [] x ys = refl
map_parts f (z ∷ xs) x ys = ap (λ t. f z ∷ t) (map_parts f xs x ys)

-- MODULES
-- a definition of modules, by the names of its module and its own, with its number
pub record PlacedIn (front : List Module) (ms : List CheckedModule) (module_name name : List ℕ) (number : ℕ) : Type 0 where
  pub earlier : List CheckedModule
  pub current : CheckedModule
  pub later : List CheckedModule
  pub modules : ms ≡ earlier ++ current ∷ later
  pub of_module : module_name ≡ current.name
  pub place : ℕ
  pub among : PlacedAmong current.definitions name place
  pub at : number ≡ count_definitions (modules_turned front earlier) + place

placed_behind : (front : List Module) (m : CheckedModule) (ms : List CheckedModule) (module_name name : List ℕ) (number : ℕ)
    → PlacedIn (program_module m ∷ front) ms module_name name number → PlacedIn front (m ∷ ms) module_name name number
placed_behind front m ms module_name name number it = record {
  earlier = m ∷ it.earlier;
  current = it.current;
  later = it.later;
  modules = ap (λ xs. m ∷ xs) it.modules;
  of_module = it.of_module;
  place = it.place;
  among = it.among;
  at = it.at;
}

pub found_in_modules : (front : List Module) (ms : List CheckedModule) (module_name name : List ℕ) (k : ℕ)
    → position_in 0 module_name name (modules_turned front ms) ≡ Some k
    → (position_in 0 module_name name front ≡ Some k) ⊎ PlacedIn front ms module_name name k
found_in_modules front [] module_name name k is = inl is
found_in_modules front (m ∷ ms) module_name name k is =
    elim (found_in_modules (program_module m ∷ front) ms module_name name k is) [
      | inl here ↦
          elim (cases_Bool (bytes_eq m.name module_name)) [
            | inl same ↦ inr (in_it same (rw same at here))
            | inr other ↦ inl (rw other at here)
          ]
      | inr it ↦ inr (placed_behind front m ms module_name name k it)
    ]
  where
    no_front : {B : Type 0} → position_among (0 + count_definitions front) name [] ≡ Some k → B
    no_front h = cc

    in_it : bytes_eq m.name module_name ≡ true
        → position_among (0 + count_definitions front) name (reverse (map in_program m.definitions)) ≡ Some k
        → PlacedIn front (m ∷ ms) module_name name k
    in_it same at =
        elim (found_among (0 + count_definitions front) name [] m.definitions k
        (ap (position_among (0 + count_definitions front) name) (sym (turned_is m.definitions)) ∙ at)) [
          | inl nowhere ↦ no_front nowhere
          | inr (place, among, number) ↦ record {
            earlier = [];
            current = m;
            later = ms;
            modules = refl;
            of_module = sym (same_bytes m.name module_name same);
            place = place;
            among = among;
            at = omega arith;
          }
        ]

-- where no later module has its name
skips_modules : (front : List Module) (ms : List CheckedModule) (module_name name : List ℕ)
    → AllByRecursion (λ y. bytes_eq module_name y ≡ false) (map (λ m. m.name) ms)
    → position_in 0 module_name name (modules_turned front ms) ≡ position_in 0 module_name name front
skips_modules front [] module_name name all = refl
skips_modules front (m ∷ ms) module_name name all =
    skips_modules (program_module m ∷ front) ms module_name name all.1 ∙ rw (other_way module_name m.name all.0) refl
  where
    other_way : (a b : List ℕ) → bytes_eq a b ≡ false → bytes_eq b a ≡ false
    other_way a b h =
        elim (cases_Bool (bytes_eq b a)) [
          | inl same ↦ (let e : bytes_eq a b ≡ true = (bytes_eq-Decides a b).1 (sym (same_bytes b a same)) in cc)
          | inr differ ↦ differ
        ]

-- modules with different names, each with definitions of different names
pub record HaveDifferentNames (ms : List CheckedModule) : Type 0 where
  pub modules : IsDistinct bytes_eq (map (λ m. m.name) ms)
  pub definitions : AllByRecursion (λ m. IsDistinct bytes_eq (map (λ one. one.name) m.definitions)) ms

one_of : {A : Type 0} (P : A → Type 0) (xs : List A) (x : A) (ys : List A) → AllByRecursion P (xs ++ x ∷ ys) → P x
one_of P [] x ys all = all.0
one_of P (z ∷ xs) x ys all = one_of P xs x ys all.1

-- each definition is found at its number
pub is_found : (front : List Module) (earlier : List CheckedModule) (current : CheckedModule) (later : List CheckedModule)
    (before : List CheckedDefinition) (one : CheckedDefinition) (after : List CheckedDefinition)
    → current.definitions ≡ before ++ one ∷ after
    → AllByRecursion (λ y. bytes_eq current.name y ≡ false) (map (λ m. m.name) later)
    → AllByRecursion (λ y. bytes_eq one.name y ≡ false) (map (λ d. d.name) after)
    → position_in 0 current.name one.name (modules_turned front (earlier ++ current ∷ later))
    ≡ Some (count_definitions (modules_turned front earlier) + length before)
is_found front [] current later before one after parts apart others =
    skips_modules (program_module current ∷ front) later current.name one.name apart
    ∙ rw (is_itself current.name)
    (ap (position_among (0 + count_definitions front) one.name) (turned_is current.definitions ∙ ap (definitions_turned []) parts)
    ∙ among_at (0 + count_definitions front) [] before one after others
    ∙ ap (λ n. Some n) (moved (count_definitions front) (length before)))
  where
    moved : (a b : ℕ) → 0 + a + (0 + b) ≡ a + b
    moved a b = omega arith
is_found front (m ∷ earlier) current later before one after parts apart others =
    is_found (program_module m ∷ front) earlier current later before one after parts apart others

pub placed_is_found : (ms : List CheckedModule) → HaveDifferentNames ms → (module_name name : List ℕ) (number : ℕ)
    → PlacedIn [] ms module_name name number → position_in 0 module_name name (modules_turned [] ms) ≡ Some number
placed_is_found ms differ module_name name number it =
    let names = map_parts (λ (m : CheckedModule). m.name) it.earlier it.current it.later in
    let apart = apart_behind (map (λ (m : CheckedModule). m.name) it.earlier) it.current.name (map (λ (m : CheckedModule). m.name) it.later)
    (subst (IsDistinct bytes_eq) (ap (map (λ (m : CheckedModule). m.name)) it.modules ∙ names) differ.modules) in
    let its = one_of (λ (m : CheckedModule). IsDistinct bytes_eq (map (λ one. one.name) m.definitions)) it.earlier it.current it.later
    (subst (AllByRecursion (λ (m : CheckedModule). IsDistinct bytes_eq (map (λ one. one.name) m.definitions))) it.modules differ.definitions) in
    let among = it.among in
    let others = apart_behind (map (λ (d : CheckedDefinition). d.name) among.before) among.one.name (map (λ (d : CheckedDefinition). d.name) among.after)
    (subst (IsDistinct bytes_eq) (ap (map (λ (d : CheckedDefinition). d.name)) among.parts ∙ map_parts (λ (d : CheckedDefinition). d.name) among.before among.one among.after) its) in
    (λ i. position_in 0 (it.of_module i) (among.named i) (modules_turned [] (it.modules i)))
    ∙ is_found [] it.earlier it.current it.later among.before among.one among.after among.parts apart others
    ∙ ap (λ n. Some n) (ap (λ k. count_definitions (modules_turned [] it.earlier) + k) (sym among.at) ∙ sym it.at)

-- NAMES BY THEIR NUMBERS
get_behind : {A : Type 0} (xs ys : List A) (k : ℕ) → slice_get (xs ++ ys) (length xs + k) ≡ slice_get ys k
get_behind [] ys k = ap (slice_get ys) (none_more k)
  where
    none_more : (k : ℕ) → 0 + k ≡ k
    none_more k = omega arith
get_behind (x ∷ xs) ys k = ap (slice_get (x ∷ (xs ++ ys))) (one_more (length xs) k) ∙ get_behind xs ys k
  where
    one_more : (a b : ℕ) → suc a + b ≡ suc (a + b)
    one_more a b = omega arith

get_at : {A : Type 0} (xs : List A) (x : A) (ys : List A) → slice_get (xs ++ x ∷ ys) (length xs) ≡ Some x
get_at [] x ys = refl
get_at (z ∷ xs) x ys = get_at xs x ys

-- the names of the definitions of the first modules come first
names_behind : (earlier : List CheckedModule) (ms : List CheckedModule) → definition_names (earlier ++ ms) ≡ definition_names earlier ++ definition_names ms
names_behind [] ms = refl
names_behind (m ∷ earlier) ms =
    ap (λ t. names_in m ++ t) (names_behind earlier ms) ∙ sym (append_assoc (names_in m) (definition_names earlier) (definition_names ms))

counted : (front : List Module) (ms : List CheckedModule) → count_definitions (modules_turned front ms) ≡ count_definitions front + length (definition_names ms)
counted front [] = omega arith
counted front (m ∷ ms) =
    let rest = counted (program_module m ∷ front) ms in
    let here : length (reverse (map in_program m.definitions)) ≡ length m.definitions = length-reverse (map in_program m.definitions) ∙ length-map m.definitions in_program in
    let names : length (names_in m) ≡ length m.definitions = length-map m.definitions (λ (one : CheckedDefinition). (m.name, one.name)) in
    let both = length-append (names_in m) (definition_names ms) in
    omega arith

pub named_at : (ms : List CheckedModule) (module_name name : List ℕ) (number : ℕ) → PlacedIn [] ms module_name name number
    → slice_get (definition_names ms) number ≡ Some (module_name, name)
named_at ms module_name name number it =
    let among = it.among in
    let pair : CheckedDefinition → List ℕ × List ℕ = λ one. (it.current.name, one.name) in
    let mine : names_in it.current ≡ map pair among.before ++ pair among.one ∷ map pair among.after =
    ap (map pair) among.parts ∙ map_parts pair among.before among.one among.after in
    let count = counted [] it.earlier in
    let place : length (map pair among.before) ≡ it.place = length-map among.before pair ∙ sym among.at in
    let number_is : number ≡ length (definition_names it.earlier) + length (map pair among.before) = omega arith in
    let all : definition_names ms ≡ definition_names it.earlier ++ (map pair among.before ++ (pair among.one ∷ (map pair among.after ++ definition_names it.later))) =
    ap definition_names it.modules ∙ names_behind it.earlier (it.current ∷ it.later)
    ∙ ap (λ t. definition_names it.earlier ++ t)
    (ap (λ t. t ++ definition_names it.later) mine ∙ append_assoc (map pair among.before) (pair among.one ∷ map pair among.after) (definition_names it.later)) in
    (λ i. slice_get (all i) (number_is i))
    ∙ get_behind (definition_names it.earlier) (map pair among.before ++ (pair among.one ∷ (map pair among.after ++ definition_names it.later))) (length (map pair among.before))
    ∙ get_at (map pair among.before) (pair among.one) (map pair among.after ++ definition_names it.later)
    ∙ (λ i. Some (sym it.of_module i, sym among.named i))

-- what stands in one of two lists that are joined
get_cases : {A : Type 0} (xs ys : List A) (k : ℕ) (x : A) → slice_get (xs ++ ys) k ≡ Some x
    → (slice_get xs k ≡ Some x) ⊎ ((j : ℕ) × (k ≡ length xs + j) × (slice_get ys j ≡ Some x))
get_cases [] ys k x is = inr (k, (omega arith), is)
get_cases (z ∷ xs) ys zero x is = inl is
get_cases (z ∷ xs) ys (suc k) x is =
    elim (get_cases xs ys k x is) [
      | inl here ↦ inl here
      | inr (j, at, there) ↦ inr (j, omega arith, there)
    ]

-- the names of a definition of a module
abbrev named_in : List ℕ → CheckedDefinition → List ℕ × List ℕ
named_in owner one = (owner, one.name)

-- a definition that stands among those of a module
record StandsAmong (owner : List ℕ) (ds : List CheckedDefinition) (module_name name : List ℕ) (k : ℕ) : Type 0 where
  of_owner : module_name ≡ owner
  among : PlacedAmong ds name k

stands_among : (owner : List ℕ) (ds : List CheckedDefinition) (module_name name : List ℕ) (k : ℕ)
    → ◌≡◌ {A = Option (List ℕ × List ℕ)} (slice_get (map (named_in owner) ds) k) (Some (module_name, name)) → StandsAmong owner ds module_name name k
stands_among owner [] module_name name k is = cc
stands_among owner (d ∷ ds) module_name name zero is = record {
  of_owner = first_part module_name name owner d.name (sym is);
  among = record { before = []; one = d; after = ds; parts = refl; named = second_part module_name name owner d.name (sym is); at = refl };
}
stands_among owner (d ∷ ds) module_name name (suc k) is =
    let it = stands_among owner ds module_name name k is in
    record { of_owner = it.of_owner; among = place_behind d ds name k it.among }

from_names : (front : List Module) (ms : List CheckedModule) (module_name name : List ℕ) (k : ℕ)
    → slice_get (definition_names ms) k ≡ Some (module_name, name) → PlacedIn front ms module_name name (count_definitions front + k)
from_names front [] module_name name k is = cc
from_names front (m ∷ ms) module_name name k is =
    elim (get_cases (names_in m) (definition_names ms) k (module_name, name) is) [
      | inl here ↦
          let it = stands_among m.name m.definitions module_name name k here in
          record {
            earlier = [];
            current = m;
            later = ms;
            modules = refl;
            of_module = it.of_owner;
            place = k;
            among = it.among;
            at = refl;
          }
      | inr (j, at, there) ↦
          let rest = from_names (program_module m ∷ front) ms module_name name j there in
          let here : length (reverse (map in_program m.definitions)) ≡ length m.definitions =
          length-reverse (map in_program m.definitions) ∙ length-map m.definitions in_program in
          let names : length (names_in m) ≡ length m.definitions = length-map m.definitions (λ (one : CheckedDefinition). (m.name, one.name)) in
          let same : count_definitions (program_module m ∷ front) + j ≡ count_definitions front + k = omega arith in
          placed_behind front m ms module_name name (count_definitions front + k)
          (subst (PlacedIn (program_module m ∷ front) ms module_name name) same rest)
    ]

-- where the names of a definition stand, it has this number
pub named_is_placed : (ms : List CheckedModule) (module_name name : List ℕ) (k : ℕ)
    → slice_get (definition_names ms) k ≡ Some (module_name, name) → PlacedIn [] ms module_name name k
named_is_placed ms module_name name k is = subst (PlacedIn [] ms module_name name) (from_zero k) (from_names [] ms module_name name k is)
  where
    from_zero : (n : ℕ) → 0 + n ≡ n
    from_zero n = omega arith

-- the definitions before another have their numbers, one after the other
pub before_numbered : (number : List ℕ → List ℕ → ℕ) (module_name : List ℕ) (first : ℕ) (before : List CheckedDefinition)
    → ((front : List CheckedDefinition) (one : CheckedDefinition) (rest : List CheckedDefinition) → before ≡ front ++ one ∷ rest
    → number module_name one.name ≡ first + length front)
    → AreNumbered number module_name first before
before_numbered number module_name first [] each = tt
before_numbered number module_name first (one ∷ rest) each = (
  each [] one rest refl ∙ none_more first,
  before_numbered number module_name (first + 1) rest
      (λ front d behind parts. each (one ∷ front) d behind (ap (λ xs. one ∷ xs) parts) ∙ one_more first (length front)),
)
  where
    none_more : (a : ℕ) → a + 0 ≡ a
    none_more a = omega arith

    one_more : (a b : ℕ) → a + suc b ≡ a + 1 + b
    one_more a b = omega arith
