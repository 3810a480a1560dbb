-- The cells of a program are those of its start, and a machine begins with them.
use denote.Bor.{Bor}
use Rattle.std.proofs.Common.{◌≡◌, ℕ, zero, suc, ◌+◌, ◌<◌, ◌≤◌, ◌^◌, List, [], ◌∷◌, ◌++◌, map, reverse, length, Some, None, refl, sym, ap, ◌∙◌, subst, arith}
use Rattle.std.specs.List.{slice_get}
use Rattle.std.proofs.lemmas.Grind.{reverse_onto}
use Rattle.std.proofs.lemmas.List.{map-append, reverse-append, length-reverse, reverse-reverse}
use Rattle.cc_base.specs.declared.literal.Base.{Base}
use Rattle.cc_base.specs.Literals.{UnitLiteral}
use Rattle.cc_core.specs.declared.terms.Node.{Node}
use Rattle.cc_core.specs.Contexts.{lookup}
use Rattle.cc_core.specs.Terms.{LiteralTerm}
use Rattle.cc_core.specs.Stores.{Cell, DeviceCell, ValueCell}
use Rattle.cc_core.specs.TermViews.{term_of}
use Rattle.cc_core.proofs.Lookups.{length_map}
use Rattle.cc_machine.specs.Loading.{numbered_from, values_and_unit, listed_cells}
use Rattle.cc_runs.specs.Alike.{erased, erased_cell, erased_configuration}
use Rattle.cc_runs.specs.Links.{device_cells}
use Rattle.cc_runs.specs.Machine.{configured}
use Rattle.cc_machine.specs.declared.parts.Cell.{Cell as Held}
use Rattle.cc_machine.specs.declared.parts.Cell.TheVariants as cell_forms
use Rattle.cc_machine.specs.declared.parts.Frame.{Frame}
use Rattle.cc_machine.specs.declared.values.TypedValue.{TypedValue}
use Rattle.cc_machine.specs.declared.program.Program.{Program}
use Rattle.cc_machine.specs.Starts.{value_cell, program_store}
use Rattle.cc_machine.specs.declared.links.Link.{Link}
use Rattle.cc_machine.specs.declared.parts.Focus.TheVariants as focuses
use Rattle.cc_machine.specs.declared.parts.Parts.{Parts}
use Rattle.cc_machine.specs.Environments.{link_before}
use Rattle.cc_machine.specs.Parts.{cell_in, cell_environment, frame_environment, focus_environment, frame_begun, frame_wanted, configuration_in, IsLinked, HasRoom}
use Rattle.cc_machine.specs.Programs.{shapes_of, values_of, program_cells, start_of}
use Rattle.cc_machine.specs.Putting.{put_all}
use Rattle.cc_machine.proofs.Linking.{lookup-reverse}
use Rattle.cc_machine.proofs.PutBodies.{put_nothing}
use Rattle.cc_machine.proofs.Starting.{program_counted}

map_reverse : {A B : Type 0} (f : A → B) (xs : List A) → map f (reverse xs) ≡ reverse (map f xs)
map_reverse f [] = refl
map_reverse f (x ∷ xs) =
    ap (map f) (reverse_onto xs x []) ∙ map-append f (reverse xs) (x ∷ [])
    ∙ ap (λ ys. ys ++ f x ∷ []) (map_reverse f xs) ∙ sym (reverse_onto (map f xs) (f x) [])

map_map : {A B C : Type 0} (f : B → C) (g : A → B) (xs : List A) → map f (map g xs) ≡ map (λ x. f (g x)) xs
map_map f g [] = refl
map_map f g (x ∷ xs) = ap (λ ys. f (g x) ∷ ys) (map_map f g xs)

-- the cells of devices, one more at the end
numbered-push : (n : ℕ) (bs : List Base) (b : Base) → numbered_from n (bs ++ b ∷ []) ≡ numbered_from n bs ++ DeviceCell (n + length bs) b ∷ []
numbered-push n [] b = let e : n ≡ n + 0 = omega arith in ap (λ m. DeviceCell m b ∷ []) e
numbered-push n (x ∷ bs) b =
    let e : suc n + length bs ≡ n + suc (length bs) = omega arith in
    ap (λ ys. DeviceCell n x ∷ ys) (numbered-push (suc n) bs b ∙ ap (λ m. numbered_from (suc n) bs ++ DeviceCell m b ∷ []) e)

numbered_turned : (ds : List Base) → reverse (numbered_from 0 (reverse ds)) ≡ map erased_cell (device_cells ds)
numbered_turned [] = refl
numbered_turned (d ∷ ds) =
    let e : 0 + length (reverse ds) ≡ length ds = omega (arith, length-reverse ds) in
    ap (λ xs. reverse (numbered_from 0 xs)) (reverse_onto ds d [])
    ∙ ap reverse (numbered-push 0 (reverse ds) d ∙ ap (λ m. numbered_from 0 (reverse ds) ++ DeviceCell m d ∷ []) e)
    ∙ reverse-append (numbered_from 0 (reverse ds)) (DeviceCell (length ds) d ∷ [])
    ∙ ap (λ ys. DeviceCell (length ds) d ∷ ys) (numbered_turned ds)

numbered_reversed : (ds : List Base) → reverse (numbered_from 0 ds) ≡ map erased_cell (device_cells (reverse ds))
numbered_reversed ds = ap (λ xs. reverse (numbered_from 0 xs)) (sym (reverse-reverse ds)) ∙ numbered_turned (reverse ds)

abbrev seen_value : TypedValue → Cell
seen_value typed = erased_cell (value_cell typed)

values_reversed : (vs : List TypedValue) → reverse (map seen_value vs) ≡ map erased_cell (map value_cell (reverse vs))
values_reversed vs = sym (map_reverse seen_value vs) ∙ sym (map_map erased_cell value_cell (reverse vs))

-- devices, then values, then unit
cells_turned : (devices : List Base) (values : List TypedValue)
    → reverse (listed_cells devices values) ≡ map erased_cell (program_store devices values)
cells_turned devices values =
    reverse-append (numbered_from 0 devices) (values_and_unit values)
    ∙ ap (λ xs. xs ++ reverse (numbered_from 0 devices)) (reverse-append (map seen_value values) (ValueCell (LiteralTerm UnitLiteral) ∷ []))
    ∙ ap (λ xs. ValueCell (LiteralTerm UnitLiteral) ∷ xs)
    ((λ j. values_reversed values j ++ numbered_reversed devices j)
    ∙ sym (map-append erased_cell (map value_cell (reverse values)) (device_cells (reverse devices))))

pub cell-listed : (program : Program) (p : ℕ)
    → lookup (program_cells program) p ≡ slice_get (listed_cells (shapes_of program) (values_of program)) p
cell-listed program p =
    ap (λ st. lookup st p) (sym (cells_turned (shapes_of program) (values_of program)))
    ∙ lookup-reverse (listed_cells (shapes_of program) (values_of program)) p

pub cells_counted : (program : Program) → length (program_cells program) ≡ length (shapes_of program) + length (values_of program) + 1
cells_counted program =
    length_map erased_cell (program_store (shapes_of program) (values_of program)) ∙ program_counted (shapes_of program) (values_of program)

-- a device stands at its number
pub device_at : (n : ℕ) (devices : List Base) (others : List Cell) (i : ℕ) (b : Base) → slice_get devices i ≡ Some b
    → slice_get (numbered_from n devices ++ others) i ≡ Some (DeviceCell (n + i) b)
device_at n [] others i b is = absurd (none is)
  where
    none : {b : Base} → None ≡ Some b → ⊥
    none e = cc
device_at n (x ∷ devices) others zero b is =
    let same : x ≡ b = cc in
    let at : n ≡ n + 0 = omega arith in
    λ j. Some (DeviceCell (at j) (same j))
device_at n (x ∷ devices) others (suc i) b is =
    let at : suc n + i ≡ n + suc i = omega arith in
    device_at (suc n) devices others i b is ∙ ap (λ m. Some (DeviceCell m b)) at

-- the values stand behind the devices
pub behind_devices : (n : ℕ) (devices : List Base) (others : List Cell) (p k : ℕ) → p ≡ length devices + k
    → slice_get (numbered_from n devices ++ others) p ≡ slice_get others k
behind_devices n [] others p k e = let at : p ≡ k = omega arith in ap (slice_get others) at
behind_devices n (x ∷ devices) others zero k e = absurd (omega arith)
behind_devices n (x ∷ devices) others (suc p) k e = behind_devices (suc n) devices others p k (omega arith)

-- a value stands at its index, and unit behind them all
pub value_at : (values : List TypedValue) (i : ℕ) (typed : TypedValue) → Some typed ≡ slice_get values i
    → slice_get (values_and_unit values) i ≡ Some (seen_value typed)
value_at [] i typed is = absurd (none is)
  where
    none : {typed : TypedValue} → Some typed ≡ None → ⊥
    none e = cc
value_at (v ∷ values) zero typed is = let same : v ≡ typed = cc in λ j. Some (seen_value (same j))
value_at (v ∷ values) (suc i) typed is = value_at values i typed is

pub unit_at : (values : List TypedValue) (i : ℕ) → None ≡ slice_get values i → i ≤ length values
    → slice_get (values_and_unit values) i ≡ Some (ValueCell (LiteralTerm UnitLiteral))
unit_at [] zero is h = refl
unit_at [] (suc i) is h = absurd (omega arith)
unit_at (v ∷ values) zero is h = absurd (none is)
  where
    none : {typed : TypedValue} → None ≡ Some typed → ⊥
    none e = cc
unit_at (v ∷ values) (suc i) is h = unit_at values i is (omega arith)

-- a term of a program, as it is loaded
pub loaded_term : (term : Node) (node : Bor Node) → node.now ≡ term → put_all (λ index. None) (term_of node.now) ≡ erased (term_of term)
loaded_term term node here = ap (λ x. put_all (λ index. None) (term_of x)) here ∙ put_nothing (term_of term)

pub loaded_value : (links : List Link) (typed : TypedValue) (node : Bor Node) → node.now ≡ typed.value.value
    → Some (cell_in links (cell_forms.Code node 0)) ≡ Some (seen_value typed)
loaded_value links typed node here = ap (λ t. Some (ValueCell t)) (loaded_term typed.value.value node here)

pub loaded_configuration : (program : Program) {ls : List Link} {cs : List Held} {fs : List Frame} (node : Bor Node) → node.now ≡ program.term.value
    → ls ≡ [] → cs ≡ [] → fs ≡ []
    → configuration_in (program_cells program) ls cs fs 0 (focuses.Code node 0) ≡ erased_configuration (start_of program)
loaded_configuration program node is_term no_links no_cells no_frames =
    (λ j. configuration_in (program_cells program) (no_links j) (no_cells j) (no_frames j) 0 (focuses.Code node 0))
    ∙ (λ j. configured (program_cells program) [] 0 (loaded_term program.term.value node is_term j))

-- the parts of a loaded machine are in order, and there is room for no step
pub loaded_linked : {parts : Parts} → parts.links.items ≡ [] → parts.cells.items ≡ [] → parts.frames.items ≡ [] → focus_environment parts.focus ≡ 0 → parts.labels ≡ 0 → IsLinked parts
loaded_linked {parts} no_links no_cells no_frames focus labels = record {
  linked = record {
    older = λ at. subst (λ ls. link_before (slice_get ls at) ≤ at) (sym no_links) (omega arith);
    cells = λ at. subst (λ cs. cell_environment (slice_get cs at) ≤ length parts.links.items) (sym no_cells) (omega arith);
    frames = λ at. subst (λ fs. frame_environment (slice_get fs at) ≤ length parts.links.items) (sym no_frames) (omega arith);
    begun = λ at. subst (λ fs. frame_begun (slice_get fs at) ≤ frame_wanted (slice_get fs at)) (sym no_frames) (omega arith);
    wanted = λ at. subst (λ fs. frame_wanted (slice_get fs at) < 2 ^ 63) (sym no_frames) (omega arith);
    labels = omega (arith, labels);
  };
  focus = omega (arith, focus);
}

pub loaded_room : {parts : Parts} → parts.cells.items ≡ [] → HasRoom parts 0
loaded_room {parts} no_cells = record {
  links = omega (arith, parts.links.ok.1);
  cells = omega (arith, parts.cells.ok.1);
  frames = omega (arith, parts.frames.ok.1);
  positions =
      omega (
        arith,
        parts.program.now.positions,
        ap length no_cells,
        length_map erased_cell (program_store (shapes_of parts.program.now) (values_of parts.program.now)),
      );
}
