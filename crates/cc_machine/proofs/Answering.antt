-- Answers that get a name, and frames that are taken from the stack.
use denote.Bor.{Bor}
use Rattle.std.proofs.Common.{◌≡◌, ℕ, suc, ◌≤◌, true, [], ◌∷◌, ◌++◌, length, Option, Some, None, refl, sym, ap, ◌∙◌, subst, arith, vec_len, vec_capacity}
use Rattle.cc_capture.specs.declared.var.Var.TheVariants.{Free}
use Rattle.cc_core.specs.declared.terms.Node.{Node}
use Rattle.cc_core.specs.Captured.{is_value}
use Rattle.cc_core.specs.Stores.{ValueCell}
use Rattle.cc_core.specs.Terms.{Term}
use Rattle.cc_core.specs.TermViews.{term_of}
use Rattle.cc_device.specs.Events.{Event}
use Rattle.cc_runs.specs.Machine.{LetFrame, configured, StepOutcome, going, put_in, term_step, step}
use Rattle.cc_machine.specs.declared.parts.Cell.{Cell}
use Rattle.cc_machine.specs.declared.parts.Frame.{Frame}
use Rattle.cc_machine.specs.declared.parts.Parts.{Parts}
use Rattle.cc_machine.specs.Environments.{extended, follow}
use Rattle.cc_machine.specs.Growing.{Enters, Adds, Pops}
use Rattle.cc_machine.specs.Lines.{GoesAs, Goes}
use Rattle.cc_machine.specs.Naming.{Names}
use Rattle.cc_machine.specs.Parts.{cell_in, frame_in, focus_in, store_of, stack_of, loaded_cells, configuration_of, cell_environment, focus_environment, AreLinked, IsLinked, HasRoom}
use Rattle.cc_machine.specs.Placing.{body_in}
use Rattle.cc_machine.specs.Programs.{program_cells}
use Rattle.cc_machine.specs.Putting.{put_all}
use Rattle.cc_machine.proofs.Following.{goes_same, Grows, grows_cell, same_parts, entered_goes}
use Rattle.cc_machine.proofs.Linking.{store-push, stack-push, length-store, linked_front, linked_top, IsLinkedFrame}
use Rattle.cc_machine.proofs.PutBodies.{put_in-body}
use Rattle.cc_machine.proofs.StepLines.{value_named}

-- a value is, where its new cell stands
pub names_value : {c : Cell} {position : ℕ} {before after : Parts} (value : Term) → IsLinked before → cell_environment (Some c) ≤ length before.links.items
    → is_value value ≡ true → cell_in before.links.items c ≡ ValueCell value → Adds c position before after → Names value before after position
names_value {c} {position} {before} {after} value linked within isv seen adds =
    let grows = grows_cell {c = c} {p = position} {before = before} {after = after} linked within adds in
    let st = (configuration_of before).store in
    let stored : (configuration_of after).store ≡ ValueCell value ∷ st =
    (λ j. store_of (program_cells (adds.program j).now) (adds.links j).items (adds.cells j))
    ∙ store-push (loaded_cells before) before.links.items before.cells.items c ∙ ap (λ x. x ∷ st) seen in
    let at : length st ≡ position =
    omega (arith, length-store (loaded_cells before) before.links.items before.cells.items, before.cells.ok.0, adds.newest) in
    record {
      links = adds.links;
      frames = adds.frames;
      program = adds.program;
      labels = adds.labels;
      linked = grows.linked;
      len = grows.cells_len;
      capacity = adds.capacity;
      named = λ stack made body.
          value_named st stack made value body isv ∙ (λ j. going (sym stored j) stack made (put_in (Free (at j)) body));
    }

pub grows_names : {answer : Term} {before after : Parts} {position : ℕ} → Names answer before after position → Grows before after
grows_names {answer} {before} {after} {position} names = record {
  linked = names.linked;
  links = names.links;
  program = names.program;
  cells_len = names.len;
  cells_room = names.capacity;
  frames_len = omega (arith, ap vec_len names.frames);
  frames_room = ap vec_capacity names.frames;
}

-- the body of a let goes on with an answer that has its name
pub named_goes : {x : StepOutcome} {answer : Term} {before middle after : Parts} {position environment : ℕ} {body : Bor Node}
    → environment ≤ length before.links.items → Names answer before middle position → Enters body environment (Some position) middle after
    → x ≡ term_step (configuration_of before).store (LetFrame (body_in before environment body.now) ∷ (configuration_of before).stack) before.labels answer
    → Goes x before None after
named_goes {x} {answer} {before} {middle} {after} {position} {environment} {body} below names enters is =
    let st = (configuration_of middle).store in
    let k = (configuration_of before).stack in
    let y : StepOutcome = going st k before.labels (put_in (Free position) (body_in before environment body.now)) in
    goes_same x y before after None (is ∙ names.named k before.labels (body_in before environment body.now))
    (entered_goes (grows_names names) below enters (
      refl,
      λ j. configured st (stack_of (sym names.links j).items (sym names.frames j).items) (sym names.labels j)
          ((put_in-body position (follow before.links.items environment) (term_of body.now)
          ∙ (λ i. put_all (extended (Some position) (follow (sym names.links i).items environment)) (term_of body.now))) j),
    ))

-- the top frame, and what is left without it
module _ {frame : Frame} {before middle : Parts} (linked : IsLinked before) (pops : Pops frame before middle) where
  whole : AreLinked middle.links.items middle.cells.items (middle.frames.items ++ frame ∷ []) middle.labels
  whole =
      same_parts middle.links.items before.links.items middle.cells.items before.cells.items (middle.frames.items ++ frame ∷ []) before.frames.items middle.labels before.labels
      (ap (λ v. v.items) pops.links) (ap (λ v. v.items) pops.cells) (sym pops.frames) pops.labels linked.linked

  pub popped_linked : IsLinked middle
  popped_linked = record {
    linked = linked_front middle.links.items middle.cells.items middle.frames.items middle.labels frame whole;
    focus = omega (arith, linked.focus, ap focus_environment pops.focus, ap (λ v. length v.items) pops.links);
  }

  pub popped_frame : IsLinkedFrame middle.links.items frame
  popped_frame = linked_top middle.links.items middle.cells.items middle.frames.items middle.labels frame whole

  pub popped_room : (steps : ℕ) → HasRoom before steps → HasRoom middle steps
  popped_room steps room = record {
    links = let h = room.links in omega (arith, ap vec_len pops.links, ap vec_capacity pops.links);
    cells = let h = room.cells in omega (arith, ap vec_len pops.cells, ap vec_capacity pops.cells);
    frames = let h = room.frames in omega (arith, pops.len, pops.capacity);
    positions = let h = room.positions in
        omega (arith, ap (λ v. length v.items) pops.cells, ap (λ p. length (program_cells p.now)) pops.program);
  }

  pub popped_goes : {after : Parts} {event : Option Event}
      → Goes (term_step (configuration_of middle).store (frame_in middle.links.items frame ∷ (configuration_of middle).stack) middle.labels (configuration_of middle).term) middle event after
      → Goes (step (configuration_of before)) before event after
  popped_goes {after} {event} goes =
      let x = step (configuration_of before) in
      let y = term_step (configuration_of middle).store (frame_in middle.links.items frame ∷ (configuration_of middle).stack) middle.labels (configuration_of middle).term in
      let same : x ≡ y =
      (λ j. term_step (store_of (program_cells (sym pops.program j).now) (sym pops.links j).items (sym pops.cells j).items) (stack_of (sym pops.links j).items (pops.frames j)) (sym pops.labels j)
      (focus_in (sym pops.links j).items (sym pops.focus j)))
      ∙ ap (λ k. term_step (configuration_of middle).store k middle.labels (configuration_of middle).term) (stack-push middle.links.items middle.frames.items frame) in
      record {
        linked = goes.linked;
        uses = record {
          program = goes.uses.program ∙ pops.program;
          cells = let h = goes.uses.cells in omega (arith, ap (λ v. length v.items) pops.cells);
          room = λ steps room. goes.uses.room steps (popped_room (suc steps) room);
        };
        follows = subst (λ z. GoesAs z event (configuration_of after)) (sym same) goes.follows;
      }
