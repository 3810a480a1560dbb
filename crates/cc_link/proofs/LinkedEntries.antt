-- Entries that are linked module by module, and their programs.
use Rattle.std.proofs.Common.{◌≡◌, ◌<◌, ◌≤◌, ◌+◌, arith, ℕ, List, [], ◌∷◌, ◌++◌, map, take, length, get_or, None, refl, sym, ap, ◌∙◌, subst, append_assoc}
use Rattle.std.proofs.Math.Logic.{∥∥₁_elim}
use Rattle.std.proofs.lemmas.List.{take-map, take_all, length-map}
use Rattle.std.proofs.lemmas.Simd.{map-map}
use Rattle.std.specs.Prelude.{reverse, if◌then◌else◌}
use Rattle.std.specs.Option.{unwrap_or}
use Rattle.std.specs.Str.{bytes_eq}
use Rattle.cc_base.specs.declared.literal.Base.{Base}
use Rattle.cc_base.specs.Literals.{UnitLiteral}
use Rattle.cc_capture.specs.declared.var.Var.TheVariants.{Free}
use Rattle.cc_core.specs.declared.terms.Node.{Node}
use Rattle.cc_core.specs.Actions.{renamed_by}
use Rattle.cc_core.specs.Contexts.{Context, TermEntry, entry_of as bind_of}
use Rattle.cc_core.specs.Programs.{Definition, Module, Entry, device_context, OfEachModule, IsTypedModule, IsEntry}
use Rattle.cc_core.specs.Shapes.{BaseShape}
use Rattle.cc_core.specs.Stores.{Store, ValueCell}
use Rattle.cc_core.specs.Terms.{Term, LiteralTerm, Application}
use Rattle.cc_core.specs.TermViews.{term_of}
use Rattle.cc_base.specs.declared.literal.Base.TheVariants as bases
use Rattle.cc_capture.specs.Sets.{empty}
use Rattle.cc_session.specs.declared.entry.Entry.{Entry as DeclaredEntry}
use Rattle.cc_session.specs.declared.modules.EntryModule.{EntryModule}
use Rattle.cc_session.specs.Modules.{module_of}
use Rattle.cc_entry_laws.specs.PresentEntries.{program_module}
use Rattle.cc_link.specs.declared.table.DefinitionTable.{DefinitionTable}
use Rattle.cc_link.specs.declared.table.ModuleTable.{ModuleTable}
use Rattle.cc_link.specs.Linking.{definition_of, module_in_program, entry_in_program, ArePositions, IsLinked, modules_before}
use Rattle.cc_link.specs.Tables.{definition_position, module_position}
use Rattle.cc_link.proofs.Placements.{items_more, turned_more}
use Rattle.cc_link.proofs.LinkedValues.{module_cells, IsFormed, IsFormed-prop, module_formed}
use Rattle.cc_runs.specs.Links.{count_definitions, position_among, linked_position, linked_cell, device_cells, linked_store, entry_store, entry_context, entry_position, program_start as linked_start}
use Rattle.cc_runs.specs.Machine.{configured}
use Rattle.cc_runs.proofs.LinkedPrograms.{linked_store_length, program_stored, program_typed}
use Rattle.cc_verdicts.specs.ModuleVerdicts.{in_program}
use Rattle.cc_module.specs.declared.judgement.CheckedDef.{CheckedDef}
use Rattle.cc_module.specs.Judgements.{checked_definition_of}
use Rattle.cc_machine.specs.declared.values.TypedValue.{TypedValue}
use Rattle.cc_machine.specs.Starts.{value_cell, value_entry, value_store, value_context, program_store, program_start, IsTypedStart, IsTyped}
use Rattle.cc_machine.proofs.Starting.{program_counted}

-- nothing is linked
pub nothing_linked : (devices : List Base) (values : List TypedValue) (table : ModuleTable) → values ≡ []
    → ((module_name name : List ℕ) → module_position table module_name name ≡ None) → IsLinked devices [] values table
nothing_linked devices values table empty none =
    subst (λ vs. IsLinked devices [] vs table) (sym empty) (record { store = refl; context = refl; finds = none })

-- the number of cells
pub cells_counted : (devices : List Base) (modules : List Module) (values : List TypedValue)
    → value_store devices values ≡ linked_store devices modules → length devices + length values ≡ length (linked_store devices modules)
cells_counted devices modules values store =
    let all = program_counted devices values in
    let same = ap length store in
    omega arith

-- with unit there are fewer than 2^32, where there is a position for it
pub few_cells : (devices : List Base) (values : List TypedValue) (unit : ℕ) → unit ≡ length devices + length values
    → unit < 4294967295 → length (program_store devices values) < 4294967296
few_cells devices values unit is few = let all = program_counted devices values in omega (arith, all, is, few)

-- the next position is that of the first definition of the next module
pub next_position : (devices : List Base) (modules : List Module) (values : List TypedValue) (first : ℕ)
    → value_store devices values ≡ linked_store devices modules → first ≡ length devices + length values
    → first ≡ length devices + count_definitions modules
next_position devices modules values first store is =
    let all = cells_counted devices modules values store in
    let long = linked_store_length devices modules in
    omega arith

-- one module more
pub module_linked : (devices : List Base) (earlier : List Module) (current : Module) (values new : List TypedValue) (table new_table : ModuleTable)
    (definitions : DefinitionTable) (to : List ℕ) (first : ℕ)
    → IsFormed devices earlier current
    → IsLinked devices earlier values table
    → first ≡ length devices + length values
    → length to ≡ length devices + length current.imports + length current.definitions
    → ArePositions (length devices) earlier current.imports to
    → map value_cell (reverse new) ≡ map (linked_cell (renamed_by to)) (reverse current.definitions) ++ map value_cell (reverse values)
    → map value_entry (reverse new) ≡ map (λ (d : Definition). bind_of d.signature) (reverse current.definitions) ++ map value_entry (reverse values)
    → ((name : List ℕ) → definition_position definitions name ≡ position_among first name (reverse current.definitions))
    → ((module_name name : List ℕ) → module_position new_table module_name name
    ≡ (if bytes_eq current.name module_name then definition_position definitions name else module_position table module_name name))
    → IsLinked devices (current ∷ earlier) new new_table
module_linked devices earlier current values new table new_table definitions to first formed linked is count are cells entries stands finds =
    let own : map (linked_cell (renamed_by to)) (reverse current.definitions)
    ≡ map (linked_cell (linked_position (length devices) earlier (reverse current.imports))) (reverse current.definitions)
    = module_cells devices earlier current to count are formed in
    let here : first ≡ length devices + count_definitions earlier = next_position devices earlier values first linked.store is in
    record {
      store =
          ap (λ cs. cs ++ device_cells (reverse devices)) cells
          ∙ append_assoc (map (linked_cell (renamed_by to)) (reverse current.definitions)) (map value_cell (reverse values)) (device_cells (reverse devices))
          ∙ (λ j. own j ++ linked.store j);
      context =
          ap (λ es. es ++ device_context devices) entries
          ∙ append_assoc (map (λ (d : Definition). bind_of d.signature) (reverse current.definitions)) (map value_entry (reverse values)) (device_context devices)
          ∙ ap (λ es. map (λ (d : Definition). bind_of d.signature) (reverse current.definitions) ++ es) linked.context;
      finds = λ module_name name.
          finds module_name name
          ∙ (λ j. if bytes_eq current.name module_name
          then (stands name ∙ ap (λ n. position_among n name (reverse current.definitions)) here) j
          else linked.finds module_name name j);
    }

-- the definitions of a module, as those of a program
pub definitions_listed : (current : EntryModule) (defs : List CheckedDef) → defs ≡ current.defs.items
    → map definition_of defs ≡ (module_in_program current).definitions
definitions_listed current defs are = ap (map definition_of) are ∙ sym (map-map in_program checked_definition_of current.defs.items)

-- The modules of an entry before an index.
module _ (entry : DeclaredEntry) where
  modules_listed : (k : ℕ) → take k (entry_in_program entry).modules ≡ map module_in_program (take k entry.modules.items)
  modules_listed k =
      ap (take k) (map-map program_module module_of entry.modules.items) ∙ take-map module_in_program k entry.modules.items

  pub modules_more : (k : ℕ) (current : EntryModule) → k < length entry.modules.items → current ≡ get_or entry.modules.items k current
      → modules_before entry (k + 1) ≡ module_in_program current ∷ modules_before entry k
  modules_more k current below is =
      ap reverse (modules_listed (k + 1) ∙ items_more module_in_program entry.modules.items k current below is
      ∙ ap (λ ms. ms ++ module_in_program current ∷ []) (sym (modules_listed k)))
      ∙ turned_more (take k (entry_in_program entry).modules) (module_in_program current)

  pub modules_all : (k : ℕ) → length entry.modules.items ≤ k → modules_before entry k ≡ reverse (entry_in_program entry).modules
  modules_all k past =
      let checked = length-map entry.modules.items module_of in
      let same = length-map (map module_of entry.modules.items) program_module in
      ap reverse (take_all k (map program_module (map module_of entry.modules.items)) (omega arith))

  -- each module is well formed behind those before it
  pub entry_formed : (k : ℕ) (current : EntryModule) → k < length entry.modules.items → current ≡ get_or entry.modules.items k current
      → IsFormed entry.devices.items (modules_before entry k) (module_in_program current)
  entry_formed k current below is =
      ∥∥₁_elim entry.is_entry (IsFormed-prop entry.devices.items (modules_before entry k) (module_in_program current))
      (λ valid. subst (λ ms. IsFormed entry.devices.items (reverse ms) (module_in_program current)) (sym (modules_listed k))
      (module_formed module_in_program entry.devices.items entry.modules.items k current below is
      (subst (λ ms. OfEachModule (IsTypedModule entry.devices.items) (reverse ms)) (map-map program_module module_of entry.modules.items)
      valid.typed)))

-- The program of what is linked.
module _ (entry : Entry) (values : List TypedValue) (term : Node) (store : value_store entry.devices values ≡ entry_store entry)
    (context : value_context entry.devices values ≡ entry_context entry) (is_term : term_of term ≡ (linked_start entry).term) where
  pub start_linked : program_start entry.devices values term ≡ linked_start entry
  start_linked = λ j. configured (ValueCell (LiteralTerm UnitLiteral) ∷ store j) [] 0 (is_term j)

  pub start_typed : IsEntry entry → IsTyped entry.devices values term
  start_typed is =
      subst (λ (st : Store). IsTypedStart (ValueCell (LiteralTerm UnitLiteral) ∷ st) (TermEntry (BaseShape bases.Unit) empty ∷ value_context entry.devices values) (term_of term)) (sym store)
      (subst (λ (g : Context). IsTypedStart (ValueCell (LiteralTerm UnitLiteral) ∷ entry_store entry) (TermEntry (BaseShape bases.Unit) empty ∷ g) (term_of term)) (sym context)
      (subst (λ (t : Term). IsTypedStart (ValueCell (LiteralTerm UnitLiteral) ∷ entry_store entry) (TermEntry (BaseShape bases.Unit) empty ∷ entry_context entry) t) (sym is_term)
      (record { stored = program_stored entry is; type = _; typed = program_typed entry is })))

-- the definition that is run, applied to unit
pub application_linked : (entry : Entry) (values : List TypedValue) (table : ModuleTable) (started unit : ℕ) (term : Term)
    → IsLinked entry.devices (reverse entry.modules) values table
    → started ≡ unwrap_or (module_position table entry.module_name entry.definition_name) 0
    → unit ≡ length entry.devices + length values
    → term ≡ Application (Free started) (Free unit) → term ≡ (linked_start entry).term
application_linked entry values table started unit term linked starts last is =
    let at : started ≡ entry_position entry = starts ∙ ap (λ o. unwrap_or o 0) (linked.finds entry.module_name entry.definition_name) in
    let behind : unit ≡ length (entry_store entry) = last ∙ cells_counted entry.devices (reverse entry.modules) values linked.store in
    is ∙ (λ j. Application (Free (at j)) (Free (behind j)))
