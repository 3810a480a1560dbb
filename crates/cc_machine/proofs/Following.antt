-- How the parts go on: what small changes of them stand for, and the room that they use.
use denote.Bor.{Bor}
use Rattle.std.proofs.Common.{◌≡◌, ℕ, suc, ◌+◌, ◌<◌, ◌≤◌, ◌^◌, List, [], ◌∷◌, ◌++◌, length, Option, Some, refl, sym, ap, ◌∙◌, subst, arith, vec_len, vec_capacity}
use Rattle.std.proofs.lemmas.List.{length-append}
use Rattle.cc_core.specs.declared.terms.Node.{Node}
use Rattle.cc_core.specs.TermViews.{term_of}
use Rattle.cc_device.specs.Events.{Event}
use Rattle.cc_runs.specs.Machine.{configured, StepOutcome}
use Rattle.cc_machine.specs.declared.links.Link.{Link}
use Rattle.cc_machine.specs.declared.parts.Cell.{Cell}
use Rattle.cc_machine.specs.declared.parts.Frame.{Frame}
use Rattle.cc_machine.specs.declared.parts.Focus.TheVariants as focuses
use Rattle.cc_machine.specs.declared.parts.Parts.{Parts}
use Rattle.cc_machine.specs.Environments.{extended, follow}
use Rattle.cc_machine.specs.Growing.{Enters, Adds, Waits}
use Rattle.cc_machine.specs.Lines.{GoesAs, Goes}
use Rattle.cc_machine.specs.Parts.{focus_in, store_of, stack_of, configuration_in, loaded_cells, configuration_of, cell_environment, frame_environment, focus_environment, frame_begun, frame_wanted, AreLinked, IsLinked, HasRoom, UsesOne}
use Rattle.cc_machine.specs.Programs.{program_cells}
use Rattle.cc_machine.specs.Putting.{put_all}
use Rattle.cc_machine.proofs.Linking.{linked_node, linked_cell, linked_frame, entered}

-- outcomes that are one
pub goes_same : (x y : StepOutcome) (before after : Parts) (event : Option Event) → x ≡ y → Goes y before event after → Goes x before event after
goes_same x y before after event same goes = subst (λ z. Goes z before event after) (sym same) goes

-- nothing is done where nothing is said
pub uses_none : (parts : Parts) → UsesOne parts parts
uses_none parts = record {
  program = refl;
  cells = omega arith;
  room = λ n room. record {
    links = let h = room.links in omega arith;
    cells = let h = room.cells in omega arith;
    frames = let h = room.frames in omega arith;
    positions = let h = room.positions in omega arith;
  };
}

pub stays : (x : StepOutcome) (parts : Parts) (event : Option Event) → IsLinked parts → GoesAs x event (configuration_of parts) → Goes x parts event parts
stays x parts event linked follows = record { linked = linked; uses = uses_none parts; follows = follows }

-- Cells and frames were added, one of each at most. The focus is what it was, or is yet to be set.
pub record Grows (before middle : Parts) : Type 0 where
  pub linked : AreLinked middle.links.items middle.cells.items middle.frames.items middle.labels
  pub links : middle.links ≡ before.links
  pub program : middle.program ≡ before.program
  pub cells_len : vec_len middle.cells ≤ vec_len before.cells + 1
  pub cells_room : vec_capacity middle.cells ≡ vec_capacity before.cells
  pub frames_len : vec_len middle.frames ≤ vec_len before.frames + 1
  pub frames_room : vec_capacity middle.frames ≡ vec_capacity before.frames

pub grows_none : {parts : Parts} → IsLinked parts → Grows parts parts
grows_none {parts} linked = record {
  linked = linked.linked;
  links = refl;
  program = refl;
  cells_len = omega arith;
  cells_room = refl;
  frames_len = omega arith;
  frames_room = refl;
}

pub same_parts : (ls ls' : List Link) (cs cs' : List Cell) (fs fs' : List Frame) (n n' : ℕ) → ls ≡ ls' → cs ≡ cs' → fs ≡ fs' → n ≡ n'
    → AreLinked ls' cs' fs' n' → AreLinked ls cs fs n
same_parts ls ls' cs cs' fs fs' n n' l c f m linked =
    subst (λ x. AreLinked x cs fs n) (sym l) (subst (λ x. AreLinked ls' x fs n) (sym c)
    (subst (λ x. AreLinked ls' cs' x n) (sym f) (subst (λ x. AreLinked ls' cs' fs' x) (sym m) linked)))

pub grows_cell : {c : Cell} {p : ℕ} {before after : Parts} → IsLinked before → cell_environment (Some c) ≤ length before.links.items
    → Adds c p before after → Grows before after
grows_cell {c} {p} {before} {after} linked within adds = record {
  linked = same_parts after.links.items before.links.items after.cells.items (before.cells.items ++ c ∷ []) after.frames.items before.frames.items after.labels before.labels
      (ap (λ v. v.items) adds.links) adds.cells (ap (λ v. v.items) adds.frames) adds.labels
      (linked_cell before.links.items before.cells.items before.frames.items before.labels linked.linked c within);
  links = adds.links;
  program = adds.program;
  cells_len = omega (arith, adds.len);
  cells_room = adds.capacity;
  frames_len = omega (arith, ap vec_len adds.frames);
  frames_room = ap vec_capacity adds.frames;
}

pub grows_frame : {f : Frame} {before middle after : Parts} → Grows before middle → middle.frames ≡ before.frames
    → frame_environment (Some f) ≤ length before.links.items → frame_begun (Some f) ≤ frame_wanted (Some f) → frame_wanted (Some f) < 2 ^ 63
    → Waits f middle after → Grows before after
grows_frame {f} {before} {middle} {after} grows frames within begun wanted waits = record {
  linked = same_parts after.links.items middle.links.items after.cells.items middle.cells.items after.frames.items (middle.frames.items ++ f ∷ []) after.labels middle.labels
      (ap (λ v. v.items) waits.links) (ap (λ v. v.items) waits.cells) waits.frames waits.labels
      (linked_frame middle.links.items middle.cells.items middle.frames.items middle.labels grows.linked f
      (omega (arith, within, ap (λ v. length v.items) grows.links)) begun wanted);
  links = waits.links ∙ grows.links;
  program = waits.program ∙ grows.program;
  cells_len = let h = grows.cells_len in omega (arith, ap vec_len waits.cells);
  cells_room = ap vec_capacity waits.cells ∙ grows.cells_room;
  frames_len = omega (arith, waits.len, ap vec_len frames);
  frames_room = waits.capacity ∙ grows.frames_room;
}

-- the room that is left after growth
room_left : {before middle : Parts} (n : ℕ) → Grows before middle → HasRoom before (suc n) → (links : ℕ) → links ≡ vec_len middle.links + 1
    → (capacity : ℕ) → capacity ≡ vec_capacity middle.links
    → (links + n ≤ capacity) × (vec_len middle.cells + n ≤ vec_capacity middle.cells)
    × (vec_len middle.frames + n ≤ vec_capacity middle.frames)
    × (length (loaded_cells middle) + length middle.cells.items + n < 2 ^ 32)
room_left {before} {middle} n grows room links l capacity k =
    let a = room.links in
    let b = room.cells in
    let d = room.frames in
    let e = room.positions in
    let g = grows.cells_len in
    let h = grows.frames_len in (
      omega (arith, ap vec_len grows.links, ap vec_capacity grows.links),
      omega (arith, grows.cells_room),
      omega (arith, grows.frames_room),
      omega (arith, before.cells.ok.0, middle.cells.ok.0, ap (λ p. length (program_cells p.now)) grows.program),
    )

-- the body of a binder is run next, after growth
pub entered_goes : {x : StepOutcome} {before middle after : Parts} {event : Option Event} {body : Bor Node} {environment : ℕ} {position : Option ℕ}
    → Grows before middle → environment ≤ length before.links.items → Enters body environment position middle after
    → GoesAs x event (configured (store_of (loaded_cells middle) middle.links.items middle.cells.items) (stack_of middle.links.items middle.frames.items) middle.labels
    (put_all (extended position (follow middle.links.items environment)) (term_of body.now)))
    → Goes x before event after
entered_goes {x} {before} {middle} {after} {event} {body} {environment} {position} grows below enters goes =
    let within : environment ≤ length middle.links.items = omega (arith, ap (λ v. length v.items) grows.links) in
    let link : Link = record { position = position; before = environment } in
    let more = length-append middle.links.items (link ∷ []) in
    let at : vec_len middle.links + 1 ≡ suc (length middle.links.items) = omega (arith, middle.links.ok.0) in
    record {
      linked = record {
        linked = same_parts after.links.items (middle.links.items ++ link ∷ []) after.cells.items middle.cells.items after.frames.items middle.frames.items after.labels middle.labels
            enters.links (ap (λ v. v.items) enters.cells) (ap (λ v. v.items) enters.frames) enters.labels
            (linked_node middle.links.items middle.cells.items middle.frames.items middle.labels grows.linked link within);
        focus = subst (λ f. focus_environment f ≤ length after.links.items) (sym enters.focus) (omega (arith, at, more, ap length enters.links));
      };
      uses = record {
        program = enters.program ∙ grows.program;
        cells = omega (arith, grows.cells_len, before.cells.ok.0, middle.cells.ok.0, ap (λ v. length v.items) enters.cells);
        room = λ n room.
            let left = room_left n grows room (vec_len after.links) enters.len (vec_capacity after.links) enters.capacity in
            record {
              links = left.0;
              cells = omega (arith, left.1, ap vec_len enters.cells, ap vec_capacity enters.cells);
              frames = omega (arith, left.2, ap vec_len enters.frames, ap vec_capacity enters.frames);
              positions = omega (arith, left.3, ap (λ v. length v.items) enters.cells, ap (λ p. length (program_cells p.now)) enters.program);
            };
      };
      follows = subst (GoesAs x event)
          (sym (
          (λ j. configuration_in (program_cells (enters.program j).now) (enters.links j) (enters.cells j).items (enters.frames j).items (enters.labels j)
          ((enters.focus ∙ ap (focuses.Code body) at) j))
          ∙ entered (loaded_cells middle) middle.links.items middle.cells.items middle.frames.items middle.labels grows.linked link within body))
          goes;
    }

-- the focus is set after growth
pub shown_goes : {x : StepOutcome} {before middle : Parts} {event : Option Event} (after : Parts) → Grows before middle
    → after.program ≡ middle.program → after.links ≡ middle.links → after.cells ≡ middle.cells → after.frames ≡ middle.frames → after.labels ≡ middle.labels
    → focus_environment after.focus ≤ length before.links.items
    → GoesAs x event (configured (store_of (loaded_cells middle) middle.links.items middle.cells.items) (stack_of middle.links.items middle.frames.items) middle.labels
    (focus_in middle.links.items after.focus))
    → Goes x before event after
shown_goes {x} {before} {middle} {event} after grows program links cells frames labels below goes = record {
  linked = record {
    linked = same_parts after.links.items middle.links.items after.cells.items middle.cells.items after.frames.items middle.frames.items after.labels middle.labels
        (ap (λ v. v.items) links) (ap (λ v. v.items) cells) (ap (λ v. v.items) frames) labels grows.linked;
    focus = omega (arith, below, ap (λ v. length v.items) links, ap (λ v. length v.items) grows.links);
  };
  uses = record {
    program = program ∙ grows.program;
    cells = omega (arith, grows.cells_len, before.cells.ok.0, middle.cells.ok.0, ap (λ v. length v.items) cells);
    room = λ n room.
        let left = room_left n grows room (vec_len middle.links + 1) refl (vec_capacity middle.links) refl in
        record {
          links = omega (arith, left.0, ap vec_len links, ap vec_capacity links);
          cells = omega (arith, left.1, ap vec_len cells, ap vec_capacity cells);
          frames = omega (arith, left.2, ap vec_len frames, ap vec_capacity frames);
          positions = omega (arith, left.3, ap (λ v. length v.items) cells, ap (λ p. length (program_cells p.now)) program);
        };
  };
  follows = subst (GoesAs x event)
      (sym (λ j. configured (store_of (program_cells (program j).now) (links j).items (cells j).items) (stack_of (links j).items (frames j).items) (labels j) (focus_in (links j).items after.focus)))
      goes;
}
