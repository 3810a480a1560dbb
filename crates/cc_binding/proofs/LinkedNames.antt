-- Which devices are captured in the linked store of a program: those that its modules name.
use Rattle.std.proofs.Common.{◌≡◌, ◌<◌, ◌≤◌, ◌+◌, ◌-◌, ◌⊎◌, arith, ℕ, Bool, true, false, cond, ◌||◌, List, [], ◌∷◌, ◌++◌, map, length, Option, Some, None, inl, inr, refl, sym, ap, ◌∙◌, subst}
use Rattle.std.specs.Prelude.{reverse, nat_eq, nat_lt}
use Rattle.std.specs.Option.{unwrap_or}
use Rattle.std.specs.List.{list_any}
use Rattle.std.specs.Str.{bytes_eq}
use mathlib.Core.List.{reverse_aux}
use Rattle.std.proofs.lemmas.Bool.{cond-true, cond-false, cases_lt, ne_eqb, lt-ltb, or_left, or_right, or_cases}
use Rattle.cc_base.specs.declared.literal.Base.{Base}
use Rattle.cc_base.specs.Literals.{UnitLiteral}
use Rattle.cc_capture.specs.declared.var.Var.TheVariants.{Bound, Free}
use Rattle.cc_capture.specs.declared.var.Elem.{Elem}
use Rattle.cc_capture.specs.declared.var.Elem.TheVariants.{Var as Variable, Cap, Hole}
use Rattle.cc_capture.specs.Sets.{Member, empty, union}
use Rattle.cc_capture.proofs.Membership.{Member-flat_image, Member-empty}
use Rattle.cc_core.specs.Captured.{variable_set, captured_variables}
use Rattle.cc_core.specs.Contexts.{lookup}
use Rattle.cc_core.specs.Programs.{Import, Definition, Module, Entry, IsEntry}
use Rattle.cc_core.specs.Stores.{ValueCell, DeviceCell, Store}
use Rattle.cc_core.specs.Substitution.{moved_element, renamed_variable, renaming, renamed_term}
use Rattle.cc_core.specs.Terms.{Term, LiteralTerm}
use Rattle.cc_core.proofs.CapturedActions.{PassesBinders-renaming, captured_variables-act}
use Rattle.cc_core.proofs.Lookups.{lookup-newest, lookup-older, lookup-cases, slice_get-within}
use Rattle.cc_core.proofs.Moving.{Member-single}
use Rattle.cc_runs.specs.Links.{count_definitions, position_among, position_in, import_position, linked_position, linked_cell, device_cells, linked_store, entry_store, entry_position, program_store, program_start}
use Rattle.cc_runs.specs.Reach.{Reaches, here, through, SetReaches, captured_set}
use Rattle.cc_runs.proofs.LinkedPrograms.{linked_device, definitions_are_linked}
use Rattle.cc_runs.proofs.ReachLemmas.{set_reaches-either, set_reaches-none, variable_reaches}
use Rattle.cc_binding.specs.NamedDevices.{names_position}
use Rattle.cc_binding.proofs.NamedPositions.{captured_is_named}

-- Nothing but a device stands where a device does when a module is linked.
some_is : {A : Type 0} (a b : A) → Some a ≡ Some b → a ≡ b
some_is a b e = cc

among_above : (before : ℕ) (name : List ℕ) (ds : List Definition) (q : ℕ) → position_among before name ds ≡ Some q → before ≤ q
among_above before name [] q e = cc
among_above before name (d ∷ ds) q e =
    elim (bytes_eq d.name name) as (λ b. cond b (Some (before + length ds)) (position_among before name ds) ≡ Some q → before ≤ q) [
      | true ↦ λ is. let same = some_is (before + length ds) q is in omega arith
      | false ↦ λ is. among_above before name ds q is
    ] e

position_above : (devices : ℕ) (module_name name : List ℕ) (ms : List Module) (q : ℕ) → position_in devices module_name name ms ≡ Some q → devices ≤ q
position_above devices module_name name [] q e = cc
position_above devices module_name name (m ∷ ms) q e =
    elim (bytes_eq m.name module_name) as (λ b. cond b (position_among (devices + count_definitions ms) name (reverse m.definitions)) (position_in devices module_name name ms) ≡ Some q → devices ≤ q) [
      | true ↦ λ is. let above = among_above (devices + count_definitions ms) name (reverse m.definitions) q is in omega arith
      | false ↦ λ is. position_above devices module_name name ms q is
    ] e

found_above : (devices position : ℕ) (found : Option ℕ) → devices ≤ position → ((q : ℕ) → found ≡ Some q → devices ≤ q) → devices ≤ unwrap_or found position
found_above devices position None above all = above
found_above devices position (Some q) above all = all q refl

module _ (devices : ℕ) (earlier : List Module) where
  import_below : (is : List Import) (p : ℕ) → p < devices → import_position devices earlier is p ≡ p
  import_below [] p below = refl
  import_below (i ∷ is) p below = cond-false (nat_eq p (devices + length is)) _ _ (ne_eqb p (devices + length is) (λ same. omega arith)) ∙ import_below is p below

  import_above : (is : List Import) (p : ℕ) → devices ≤ p → devices ≤ import_position devices earlier is p
  import_above [] p above = above
  import_above (i ∷ is) p above =
      elim (nat_eq p (devices + length is)) as (λ b. devices ≤ cond b (unwrap_or (position_in devices i.module_name i.definition_name earlier) p) (import_position devices earlier is p)) [
        | true ↦ found_above devices p (position_in devices i.module_name i.definition_name earlier) above (position_above devices i.module_name i.definition_name earlier)
        | false ↦ import_above is p above
      ]

  linked_above : (is : List Import) (p : ℕ) → devices ≤ p → devices ≤ linked_position devices earlier is p
  linked_above is p above =
      elim (nat_lt p (devices + length is)) as (λ b. devices ≤ cond b (import_position devices earlier is p) (devices + count_definitions earlier + (p - (devices + length is)))) [
        | true ↦ import_above is p above
        | false ↦ (let more : devices ≤ devices + count_definitions earlier + (p - (devices + length is)) = omega arith in more)
      ]

  linked_below : (is : List Import) (p : ℕ) → p < devices → linked_position devices earlier is p ≡ p
  linked_below is p below = cond-true (nat_lt p (devices + length is)) _ _ (lt-ltb p (devices + length is) (omega arith)) ∙ import_below is p below

  device_alone : (is : List Import) (n : ℕ) → n < devices → (p : ℕ) → linked_position devices earlier is p ≡ n → p ≡ n
  device_alone is n below p e =
      elim (cases_lt p devices) as (λ _. p ≡ n) [
        | inl less ↦ sym (linked_below is p less) ∙ e
        | inr more ↦ absurd (let above = linked_above is p more in omega arith)
      ]

-- So where a value captures a device once it is linked, it named it before.
only_from : (to : ℕ → ℕ) (n : ℕ) → ((p : ℕ) → to p ≡ n → p ≡ n) → (x : Elem) → Variable (Free n) ≡ moved_element (renamed_variable to) x → x ≡ Variable (Free n)
only_from to n alone (Variable (Free p)) e = let same : n ≡ to p = cc in ap (λ q. Variable (Free q)) (alone p (sym same))
only_from to n alone (Variable (Bound i)) e = cc
only_from to n alone Cap e = cc
only_from to n alone (Hole h) e = cc

named_before : (to : ℕ → ℕ) (n : ℕ) → ((p : ℕ) → to p ≡ n → p ≡ n) → (t : Term) → Member (Variable (Free n)) (captured_variables (renamed_term to t)) → names_position n t ≡ true
named_before to n alone t m =
    let acted = subst (λ c. Member (Variable (Free n)) c) (captured_variables-act (renaming to) (PassesBinders-renaming to) 0 t) m in
    let from = (Member-flat_image ((renaming to).element 0) (Variable (Free n)) (captured_variables t)).0 acted in
    let is = only_from to n alone from.0 (Member-single (Variable (Free n)) (moved_element (renamed_variable to) from.0) from.2) in
    captured_is_named n t (subst (λ x. Member x (captured_variables t)) is from.1)

-- whether a definition of the module names the position
abbrev pub names_in : ℕ → Module → Bool
names_in n m = list_any (λ d. names_position n d.value) m.definitions

-- a test that one of a list passes
any_aux : {A : Type 0} (test : A → Bool) (xs acc : List A) → list_any test (reverse_aux xs acc) ≡ true → (list_any test xs || list_any test acc) ≡ true
any_aux test [] acc h = h
any_aux test (x ∷ xs) acc h =
    elim (or_cases (list_any test xs) (test x || list_any test acc) (any_aux test xs (x ∷ acc) h)) as (λ _. ((test x || list_any test xs) || list_any test acc) ≡ true) [
      | inl others ↦ or_left (test x || list_any test xs) (list_any test acc) (or_right (test x) (list_any test xs) others)
      | inr rest ↦
          elim (or_cases (test x) (list_any test acc) rest) as (λ _. ((test x || list_any test xs) || list_any test acc) ≡ true) [
            | inl first ↦ or_left (test x || list_any test xs) (list_any test acc) (or_left (test x) (list_any test xs) first)
            | inr behind ↦ or_right (test x || list_any test xs) (list_any test acc) behind
          ]
    ]

no_other : (b : Bool) → (b || false) ≡ true → b ≡ true
no_other true h = refl
no_other false h = h

pub any_turned : {A : Type 0} (test : A → Bool) (xs : List A) → list_any test (reverse xs) ≡ true → list_any test xs ≡ true
any_turned test xs h = no_other (list_any test xs) (any_aux test xs [] h)

pub list_any-map : {A B : Type 0} (test : B → Bool) (f : A → B) (xs : List A) → list_any test (map f xs) ≡ list_any (λ x. test (f x)) xs
list_any-map test f [] = refl
list_any-map test f (x ∷ xs) = ap (λ b. test (f x) || b) (list_any-map test f xs)

-- values of the store
no_value : (bs : List Base) (q : ℕ) (v : Term) → lookup (device_cells bs) q ≡ Some (ValueCell v) → ⊥
no_value [] q v e = cc
no_value (b ∷ bs) q v e =
    elim (lookup-cases (DeviceCell (length bs) b) (device_cells bs) q (ValueCell v) e) as (λ _. ⊥) [
      | inl new ↦ (let clash = new.1 in let none : ⊥ = cc in none)
      | inr old ↦ no_value bs q v old
    ]

value_is : (a b : Term) → ValueCell a ≡ ValueCell b → a ≡ b
value_is a b e = cc

module _ (n : ℕ) where
  of_definitions : (to : ℕ → ℕ) → ((p : ℕ) → to p ≡ n → p ≡ n) → (ds : List Definition) (st : Store) (q : ℕ) (v : Term)
      → lookup (map (linked_cell to) ds ++ st) q ≡ Some (ValueCell v) → Member (Variable (Free n)) (captured_variables v)
      → (list_any (λ d. names_position n d.value) ds ≡ true) ⊎ (lookup st q ≡ Some (ValueCell v))
  of_definitions to alone [] st q v e m = inr e
  of_definitions to alone (d ∷ ds) st q v e m =
      elim (lookup-cases (linked_cell to d) (map (linked_cell to) ds ++ st) q (ValueCell v) e) as (λ _. (list_any (λ d. names_position n d.value) (d ∷ ds) ≡ true) ⊎ (lookup st q ≡ Some (ValueCell v))) [
        | inl new ↦
            (let is : renamed_term to d.value ≡ v = value_is (renamed_term to d.value) v new.1 in
            let named = named_before to n alone d.value (subst (λ t. Member (Variable (Free n)) (captured_variables t)) (sym is) m) in
            inl (or_left (names_position n d.value) (list_any (λ d. names_position n d.value) ds) named))
        | inr old ↦
            elim (of_definitions to alone ds st q v old m) as (λ _. (list_any (λ d. names_position n d.value) (d ∷ ds) ≡ true) ⊎ (lookup st q ≡ Some (ValueCell v))) [
              | inl others ↦ inl (or_right (names_position n d.value) (list_any (λ d. names_position n d.value) ds) others)
              | inr below ↦ inr below
            ]
      ]

  stored_names : (devices : List Base) (ms : List Module) → n < length devices → (q : ℕ) (v : Term)
      → lookup (linked_store devices ms) q ≡ Some (ValueCell v) → Member (Variable (Free n)) (captured_variables v) → list_any (names_in n) ms ≡ true
  stored_names devices [] below q v e m = absurd (no_value (reverse devices) q v e)
  stored_names devices (current ∷ ms) below q v e m =
      elim (of_definitions (linked_position (length devices) ms (reverse current.imports)) (device_alone (length devices) ms (reverse current.imports) n below) (reverse current.definitions) (linked_store devices ms) q v e m) as (λ _. list_any (names_in n) (current ∷ ms) ≡ true) [
        | inl here_named ↦ or_left (names_in n current) (list_any (names_in n) ms) (any_turned (λ d. names_position n d.value) current.definitions here_named)
        | inr older ↦ or_right (names_in n current) (list_any (names_in n) ms) (stored_names devices ms below q v older m)
      ]

-- the last link of a chain to a device, if there is one
record LastLink (st : Store) (n : ℕ) (b : Base) : Type 0 where
  from : ℕ
  value : Term
  device : ℕ
  stands : lookup st from ≡ Some (ValueCell value)
  captured : Member (Variable (Free device)) (captured_variables value)
  ends : lookup st device ≡ Some (DeviceCell n b)

last_link : {st : Store} {p n : ℕ} {b : Base} → Reaches st p (DeviceCell n b) → (lookup st p ≡ Some (DeviceCell n b)) ⊎ LastLink st n b
last_link (here there end) = inl there
last_link {st = st} {n = n} {b = b} (through {position = p} {next = next} {value = v} there m rest) =
    elim (last_link rest) as (λ _. (lookup st p ≡ Some (DeviceCell n b)) ⊎ LastLink st n b) [
      | inl at ↦ inr (record { from = p; value = v; device = next; stands = there; captured = m; ends = at })
      | inr later ↦ inr later
    ]

-- Entries.
module _ (entry : Entry) (is : IsEntry entry) where
  abbrev below : Store
  below = entry_store entry

  device_cell : (p n : ℕ) (b : Base) → lookup (program_store entry) p ≡ Some (DeviceCell n b) → (p ≡ n) × (n < length entry.devices)
  device_cell p n b e =
      elim (lookup-cases (ValueCell (LiteralTerm UnitLiteral)) below p (DeviceCell n b) e) as (λ _. (p ≡ n) × (n < length entry.devices)) [
        | inl new ↦ absurd (let clash = new.1 in let none : ⊥ = cc in none)
        | inr old ↦
            (let at = linked_device entry.devices (reverse entry.modules) p n b old in
            (at.0, slice_get-within entry.devices n b at.1))
      ]

  literal_is : (v : Term) → ValueCell (LiteralTerm UnitLiteral) ≡ ValueCell v → LiteralTerm UnitLiteral ≡ v
  literal_is v e = cc

  captured_named : (q : ℕ) (v : Term) (n : ℕ) → n < length entry.devices → lookup (program_store entry) q ≡ Some (ValueCell v) → Member (Variable (Free n)) (captured_variables v) → list_any (names_in n) entry.modules ≡ true
  captured_named q v n within e m =
      elim (lookup-cases (ValueCell (LiteralTerm UnitLiteral)) below q (ValueCell v) e) as (λ _. list_any (names_in n) entry.modules ≡ true) [
        | inl new ↦ absurd (Member-empty (Variable (Free n)) (subst (λ t. Member (Variable (Free n)) (captured_variables t)) (sym (literal_is v new.1)) m))
        | inr old ↦ any_turned (names_in n) entry.modules (stored_names n entry.devices (reverse entry.modules) within q v old m)
      ]

  no_device : (p n : ℕ) (b : Base) (v : Term) → lookup (program_store entry) p ≡ Some (ValueCell v) → lookup (program_store entry) p ≡ Some (DeviceCell n b) → ⊥
  no_device p n b v one other = let clash : Some (ValueCell v) ≡ Some (DeviceCell n b) = sym one ∙ other in cc

  started_cell : (v : Term) × (lookup (program_store entry) (entry_position entry) ≡ Some (ValueCell v))
  started_cell =
      let at = definitions_are_linked entry is entry.module_name entry.definition_name is.started is.found in
      let there : lookup below (entry_position entry) ≡ Some (ValueCell at.1) = ap (λ o. lookup below (unwrap_or o 0)) at.2 ∙ at.4 in
      (at.1, lookup-older (ValueCell (LiteralTerm UnitLiteral)) below (entry_position entry) (ValueCell at.1) there)

  by_chain : (p n : ℕ) (b : Base) (v : Term) → lookup (program_store entry) p ≡ Some (ValueCell v) → Reaches (program_store entry) p (DeviceCell n b)
      → (n < length entry.devices) × (list_any (names_in n) entry.modules ≡ true)
  by_chain p n b v there chain =
      elim (last_link chain) as (λ _. (n < length entry.devices) × (list_any (names_in n) entry.modules ≡ true)) [
        | inl itself ↦ absurd (no_device p n b v there itself)
        | inr link ↦
            (let at = device_cell link.device n b link.ends in
            (at.1, captured_named link.from link.value n at.1 link.stands (subst (λ d. Member (Variable (Free d)) (captured_variables link.value)) at.0 link.captured)))
      ]

  -- What the start reaches is declared, and some module names it.
  pub reached_is_named : (n : ℕ) (b : Base) → SetReaches (program_store entry) (captured_set (program_start entry)) (DeviceCell n b)
      → (n < length entry.devices) × (list_any (names_in n) entry.modules ≡ true)
  reached_is_named n b reached =
      let function = Free (entry_position entry) in
      let unit = Free (length below) in
      let start = started_cell in
      elim (set_reaches-either (union (variable_set function) (variable_set unit)) empty reached) as (λ _. (n < length entry.devices) × (list_any (names_in n) entry.modules ≡ true)) [
        | inl both ↦
            elim (set_reaches-either (variable_set function) (variable_set unit) both) as (λ _. (n < length entry.devices) × (list_any (names_in n) entry.modules ≡ true)) [
              | inl one ↦ by_chain (entry_position entry) n b start.0 start.1 (variable_reaches one)
              | inr other ↦ by_chain (length below) n b (LiteralTerm UnitLiteral) (lookup-newest (ValueCell (LiteralTerm UnitLiteral)) below) (variable_reaches other)
            ]
        | inr none ↦ absurd (set_reaches-none none)
      ]
