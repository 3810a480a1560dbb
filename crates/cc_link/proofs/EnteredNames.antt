-- Names that are entered into tables.
use Rattle.std.proofs.Common.{◌≡◌, ◌<◌, ◌+◌, ℕ, true, false, Bool, List, ◌∷◌, map, length, take, get_or, Option, Some, refl, sym, ap, ◌∙◌}
use Rattle.std.specs.Prelude.{reverse, if◌then◌else◌}
use Rattle.std.specs.Str.{bytes_eq}
use Rattle.cc_link.specs.declared.table.DefinitionTable.{DefinitionTable}
use Rattle.cc_link.specs.Linking.{definition_of}
use Rattle.cc_link.specs.Tables.{definition_position, position_found}
use Rattle.cc_link.proofs.Placements.{turned_more, items_more, items_counted}
use Rattle.cc_runs.specs.Links.{position_among}
use Rattle.cc_module.specs.declared.judgement.CheckedDef.{CheckedDef}

-- one name more
pub entered_more : (old new : DefinitionTable) (first : ℕ) (defs : List CheckedDef) (k position : ℕ) (def : CheckedDef)
    → k < length defs → def ≡ get_or defs k def → position ≡ first + k
    → ((name : List ℕ) → definition_position old name ≡ position_among first name (reverse (map definition_of (take k defs))))
    → ((name : List ℕ) → definition_position new name ≡ (if bytes_eq def.name name then Some position else definition_position old name))
    → (name : List ℕ) → definition_position new name ≡ position_among first name (reverse (map definition_of (take (k + 1) defs)))
entered_more old new first defs k position def below is at so_far entered name =
    let list : reverse (map definition_of (take (k + 1) defs)) ≡ definition_of def ∷ reverse (map definition_of (take k defs)) =
    ap reverse (items_more definition_of defs k def below is) ∙ turned_more (map definition_of (take k defs)) (definition_of def) in
    let here : position ≡ first + length (reverse (map definition_of (take k defs))) = at ∙ ap (λ n. first + n) (sym (items_counted definition_of defs k below)) in
    entered name
    ∙ (λ j. if bytes_eq def.name name then Some (here j) else so_far name j)
    ∙ sym (ap (position_among first name) list)

-- what is found in a module that is entered
pub found_either : (b : Bool) (definitions : DefinitionTable) (older : Option DefinitionTable) (name : List ℕ)
    → position_found (if b then Some definitions else older) name ≡ (if b then definition_position definitions name else position_found older name)
found_either true definitions older name = refl
found_either false definitions older name = refl
