-- What the code keeps while it makes the links of modules. It serves the code alone.
use Rattle.std.specs.Prelude.{◌≡◌, ℕ, List, ◌∷◌, ◌++◌, map, Vec}
use Rattle.std.specs.declared.alloc.Global.{Global}
use Rattle.cc_core.specs.Programs.{Module}
use Rattle.cc_explain.specs.declared.target.Target.{Target}
use Rattle.cc_explain.specs.Entries.{Entries}
use Rattle.cc_link.specs.declared.table.ModuleTable.{ModuleTable}
use Rattle.cc_link.specs.Tables.{Finds}
use Rattle.cc_entry_laws.specs.PresentEntries.{CheckedModule, program_module}
use Rattle.cc_runs.specs.Links.{count_definitions}
use Rattle.cc_link.specs.ModuleLinks.{module_entries}

-- entries as lists
abbrev pub entry_lists : List (Vec Target Global) → Entries
entry_lists entries = map (λ entry. entry.items) entries

-- the entries of a module were put behind others, its definitions into the table, and the next number is this
pub record Added (devices : ℕ) (earlier : List Module) (current : CheckedModule) (old new : Entries)
    (table : ModuleTable) (next : ℕ) : Type 0 where
  pub entries : new ≡ old ++ module_entries devices earlier current
  pub finds : Finds 0 (program_module current ∷ earlier) table
  pub number : next ≡ count_definitions (program_module current ∷ earlier)

-- the same, where the table finds the definitions of the earlier modules, and the number is that behind them
abbrev pub AddsModule : ℕ → List Module → ℕ → CheckedModule → ModuleTable → Entries → ModuleTable → Entries → ℕ → Type 0
AddsModule devices earlier first current old_table old new_table new next =
    Finds 0 earlier old_table → first ≡ count_definitions earlier
    → Added devices earlier current old new new_table next
