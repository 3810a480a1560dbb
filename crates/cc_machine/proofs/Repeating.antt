-- Repetitions, lets that wait, boundaries and exits: what the code does is their line of the table.
use denote.Bor.{Bor}
use Rattle.std.proofs.Common.{◌≡◌, ℕ, suc, ◌+◌, ◌<◌, ◌≤◌, ◌^◌, ℤ, pos, true, false, [], ◌∷◌, ◌++◌, length, Some, None, refl, sym, ap, ◌∙◌, arith, vec_len, vec_capacity}
use Rattle.std.specs.Prelude.{nat_eq}
use Rattle.std.proofs.lemmas.Bool.{cond-true, cond-false, eq-eqb, ne_eqb}
use Rattle.cc_base.specs.Literals.{UnitLiteral, NumberLiteral}
use Rattle.cc_capture.specs.declared.var.Var.TheVariants.{Free}
use Rattle.cc_core.specs.declared.terms.Node.{Node}
use Rattle.cc_core.specs.Stores.{ValueCell, LabelCell}
use Rattle.cc_core.specs.Terms.{LiteralTerm, Application}
use Rattle.cc_core.specs.TermViews.{term_of}
use Rattle.cc_device.specs.Events.{Entered}
use Rattle.cc_runs.specs.Answers.{is_answer}
use Rattle.cc_runs.specs.Machine.{LetFrame, ScopeFrame, RepetitionFrame, Stack, configured, going, put_in, let_step, call_with_number, repeat_step, below_scope, boundary_step}
use Rattle.cc_machine.specs.declared.parts.Small.TheVariants as smalls
use Rattle.cc_machine.specs.declared.parts.Cell.TheVariants as cell_forms
use Rattle.cc_machine.specs.declared.parts.Frame.{Frame}
use Rattle.cc_machine.specs.declared.parts.Frame.TheVariants as frame_forms
use Rattle.cc_machine.specs.declared.parts.Focus.TheVariants as focuses
use Rattle.cc_machine.specs.declared.parts.Parts.{Parts}
use Rattle.cc_machine.specs.Environments.{extended, follow}
use Rattle.cc_machine.specs.Growing.{Enters, Adds, Waits, Pops}
use Rattle.cc_machine.specs.Lines.{Goes}
use Rattle.cc_machine.specs.Parts.{frame_in, store_of, stack_of, loaded_cells, configuration_of, AreLinked, IsLinked}
use Rattle.cc_machine.specs.Placing.{term_in, body_in}
use Rattle.cc_machine.specs.Programs.{program_cells}
use Rattle.cc_machine.specs.Putting.{put_all}
use Rattle.cc_machine.specs.Unwinding.{Unwinds}
use Rattle.cc_machine.proofs.Following.{goes_same, Grows, grows_none, grows_cell, grows_frame, same_parts, entered_goes, shown_goes}
use Rattle.cc_machine.proofs.Linking.{store-push, stack-push, length-store, linked_label, linked_frame, linked_front}
use Rattle.cc_machine.proofs.PutBodies.{put_in-body}
use Rattle.cc_machine.proofs.StepLines.{let-other}

-- a cell and a frame are added, and the function of a repetition is called
pub called : {before middle after : Parts} {position : ℕ} (number : ℤ) (function begun wanted n : ℕ) → IsLinked before
    → begun ≤ wanted → wanted < 2 ^ 63 → number ≡ pos n
    → Adds (cell_forms.Small (smalls.Number number)) position before middle → Waits (frame_forms.Repeat function begun wanted) middle after
    → Goes (call_with_number (configuration_of before).store (configuration_of before).stack before.labels (Free function) begun wanted n) before None
    (record after { focus = focuses.Apply function position })
called {before} {middle} {after} {position} number function begun wanted n linked few some is adds waits =
    let grows = grows_cell {c = cell_forms.Small (smalls.Number number)} {p = position} {before = before} {after = middle} linked (omega arith) adds in
    let st = (configuration_of before).store in
    let k = (configuration_of before).stack in
    let stored : (configuration_of after).store ≡ ValueCell (LiteralTerm (NumberLiteral (pos n))) ∷ st =
    (λ j. store_of (program_cells (waits.program j).now) (waits.links j).items (waits.cells j).items)
    ∙ (λ j. store_of (program_cells (adds.program j).now) (adds.links j).items (adds.cells j))
    ∙ store-push (loaded_cells before) before.links.items before.cells.items (cell_forms.Small (smalls.Number number))
    ∙ ap (λ z. ValueCell (LiteralTerm (NumberLiteral z)) ∷ st) is in
    let stacked : (configuration_of after).stack ≡ RepetitionFrame (Free function) begun wanted ∷ k =
    (λ j. stack_of (waits.links j).items (waits.frames j)) ∙ (λ j. stack_of (adds.links j).items ((adds.frames j).items ++ frame_forms.Repeat function begun wanted ∷ []))
    ∙ stack-push before.links.items before.frames.items (frame_forms.Repeat function begun wanted) in
    let at : length st ≡ position =
    omega (arith, length-store (loaded_cells before) before.links.items before.cells.items, before.cells.ok.0, adds.newest) in
    shown_goes (record after { focus = focuses.Apply function position })
    (grows_frame {f = frame_forms.Repeat function begun wanted} grows adds.frames (omega arith) few some waits)
    refl refl refl refl refl (omega arith)
    (refl, λ j. configured (sym stored j) (sym stacked j) ((sym adds.labels ∙ sym waits.labels) j) (Application (Free function) (Free (at j))))

-- after a call of a repetition
pub repeated_goes : {before after : Parts} (function begun wanted : ℕ) → (begun ≡ wanted → ⊥)
    → Goes (call_with_number (configuration_of before).store (configuration_of before).stack before.labels (Free function) (begun + 1) wanted begun) before None after
    → Goes (repeat_step (configuration_of before).store (configuration_of before).stack before.labels (Free function) begun wanted) before None after
repeated_goes {before} {after} function begun wanted other goes =
    let c = configuration_of before in
    let more : begun + 1 ≡ suc begun = omega arith in
    goes_same (repeat_step c.store c.stack before.labels (Free function) begun wanted)
    (call_with_number c.store c.stack before.labels (Free function) (begun + 1) wanted begun) before after None
    (cond-false (nat_eq begun wanted) (going c.store c.stack before.labels (LiteralTerm UnitLiteral))
    (call_with_number c.store c.stack before.labels (Free function) (suc begun) wanted begun) (ne_eqb begun wanted other)
    ∙ ap (λ b. call_with_number c.store c.stack before.labels (Free function) b wanted begun) (sym more))
    goes

-- a let whose right side is no answer waits
pub waits_goes : {before after : Parts} (right body : Bor Node) (environment : ℕ) → IsLinked before → environment ≤ length before.links.items
    → is_answer (term_in before environment right.now) ≡ false → Waits (frame_forms.Body body environment) before after
    → Goes (let_step (configuration_of before).store (configuration_of before).stack before.labels (term_in before environment right.now) (body_in before environment body.now))
    before None (record after { focus = focuses.Code right environment })
waits_goes {before} {after} right body environment linked below other waits =
    let c = configuration_of before in
    let t = term_in before environment right.now in
    let b = body_in before environment body.now in
    let y = going c.store (LetFrame b ∷ c.stack) before.labels t in
    let stacked : (configuration_of after).stack ≡ LetFrame b ∷ c.stack =
    (λ j. stack_of (waits.links j).items (waits.frames j)) ∙ stack-push before.links.items before.frames.items (frame_forms.Body body environment) in
    goes_same (let_step c.store c.stack before.labels t b) y before (record after { focus = focuses.Code right environment }) None
    (let-other c.store c.stack before.labels t b other)
    (shown_goes {x = y} (record after { focus = focuses.Code right environment })
    (grows_frame {f = frame_forms.Body body environment} (grows_none linked) refl below (omega arith) (omega arith) waits)
    refl refl refl refl refl below (
      refl,
      λ j. configured (store_of (program_cells (sym waits.program j).now) (sym waits.links j).items (sym waits.cells j).items) (sym stacked j) (sym waits.labels j)
          (put_all (follow (sym waits.links j).items environment) (term_of right.now)),
    ))

-- a boundary has a new label
pub bounded_goes : {before first second third after : Parts} {position environment : ℕ} {body : Bor Node} → IsLinked before → environment ≤ length before.links.items
    → Adds (cell_forms.Label before.labels) position before first → Waits (frame_forms.Scope before.labels) first second
    → third.program ≡ second.program → third.links ≡ second.links → third.cells ≡ second.cells → third.frames ≡ second.frames → third.labels ≡ before.labels + 1
    → Enters body environment (Some position) third after
    → Goes (boundary_step (configuration_of before).store (configuration_of before).stack before.labels (body_in before environment body.now)) before (Some (Entered before.labels)) after
bounded_goes {before} {first} {second} {third} {after} {position} {environment} {body} linked below adds waits program links cells' frames' labels enters =
    let st = (configuration_of before).store in
    let k = (configuration_of before).stack in
    let more : before.labels + 1 ≡ suc before.labels = omega arith in
    let all_program : third.program ≡ before.program = program ∙ waits.program ∙ adds.program in
    let all_links : third.links ≡ before.links = links ∙ waits.links ∙ adds.links in
    let all_cells : third.cells.items ≡ before.cells.items ++ cell_forms.Label before.labels ∷ [] =
    ap (λ v. v.items) cells' ∙ ap (λ v. v.items) waits.cells ∙ adds.cells in
    let all_frames : third.frames.items ≡ before.frames.items ++ frame_forms.Scope before.labels ∷ [] =
    ap (λ v. v.items) frames' ∙ waits.frames ∙ ap (λ v. v.items ++ frame_forms.Scope before.labels ∷ []) adds.frames in
    let label_linked = linked_label before.links.items before.cells.items before.frames.items before.labels linked.linked (cell_forms.Label before.labels) (omega arith) in
    let frame_linked = linked_frame before.links.items (before.cells.items ++ cell_forms.Label before.labels ∷ []) before.frames.items (suc before.labels) label_linked
    (frame_forms.Scope before.labels) (omega arith) (omega arith) (omega arith) in
    let grows : Grows before third = record {
      linked = same_parts third.links.items before.links.items third.cells.items (before.cells.items ++ cell_forms.Label before.labels ∷ []) third.frames.items
          (before.frames.items ++ frame_forms.Scope before.labels ∷ []) third.labels (suc before.labels) (ap (λ v. v.items) all_links) all_cells all_frames (labels ∙ more) frame_linked;
      links = all_links;
      program = all_program;
      cells_len = omega (arith, adds.len, ap vec_len cells', ap vec_len waits.cells);
      cells_room = ap vec_capacity cells' ∙ ap vec_capacity waits.cells ∙ adds.capacity;
      frames_len = omega (arith, waits.len, ap vec_len frames', ap vec_len adds.frames);
      frames_room = ap vec_capacity frames' ∙ waits.capacity ∙ ap vec_capacity adds.frames;
    } in
    let stored : (configuration_of third).store ≡ LabelCell before.labels ∷ st =
    (λ j. store_of (program_cells (all_program j).now) (all_links j).items (all_cells j))
    ∙ store-push (loaded_cells before) before.links.items before.cells.items (cell_forms.Label before.labels) in
    let stacked : (configuration_of third).stack ≡ ScopeFrame before.labels ∷ k =
    (λ j. stack_of (all_links j).items (all_frames j)) ∙ stack-push before.links.items before.frames.items (frame_forms.Scope before.labels) in
    let at : length st ≡ position =
    omega (arith, length-store (loaded_cells before) before.links.items before.cells.items, before.cells.ok.0, adds.newest) in
    entered_goes grows below enters (
      refl,
      λ j. configured (sym stored j) (sym stacked j) ((sym more ∙ sym labels) j)
          ((ap (λ n. put_in (Free n) (body_in before environment body.now)) at
          ∙ put_in-body position (follow before.links.items environment) (term_of body.now)
          ∙ (λ i. put_all (extended (Some position) (follow (sym all_links i).items environment)) (term_of body.now))) j),
    )

-- frames are taken from the stack, none of which is the scope of the label
pub record Unwinding (label : ℕ) (before now : Parts) : Type 0 where
  pub links : now.links ≡ before.links
  pub cells : now.cells ≡ before.cells
  pub program : now.program ≡ before.program
  pub labels : now.labels ≡ before.labels
  pub focus : now.focus ≡ before.focus
  pub linked : AreLinked now.links.items now.cells.items now.frames.items now.labels
  pub len : vec_len now.frames ≤ vec_len before.frames
  pub capacity : vec_capacity now.frames ≡ vec_capacity before.frames
  pub below : below_scope label (configuration_of before).stack ≡ below_scope label (configuration_of now).stack

module _ {label : ℕ} {before now next : Parts} {frame : Frame} (unwinding : Unwinding label before now) (pops : Pops frame now next) where
  stack_popped : (configuration_of now).stack ≡ frame_in next.links.items frame ∷ (configuration_of next).stack
  stack_popped =
      (λ j. stack_of (sym pops.links j).items (pops.frames j)) ∙ stack-push next.links.items next.frames.items frame

  left_linked : AreLinked next.links.items next.cells.items next.frames.items next.labels
  left_linked =
      linked_front next.links.items next.cells.items next.frames.items next.labels frame
      (same_parts next.links.items now.links.items next.cells.items now.cells.items (next.frames.items ++ frame ∷ []) now.frames.items next.labels now.labels
      (ap (λ v. v.items) pops.links) (ap (λ v. v.items) pops.cells) (sym pops.frames) pops.labels unwinding.linked)

  pub unwinding_more : below_scope label (frame_in next.links.items frame ∷ (configuration_of next).stack) ≡ below_scope label (configuration_of next).stack
      → Unwinding label before next
  unwinding_more passes = record {
    links = pops.links ∙ unwinding.links;
    cells = pops.cells ∙ unwinding.cells;
    program = pops.program ∙ unwinding.program;
    labels = pops.labels ∙ unwinding.labels;
    focus = pops.focus ∙ unwinding.focus;
    linked = left_linked;
    len = omega (arith, unwinding.len, pops.len);
    capacity = pops.capacity ∙ unwinding.capacity;
    below = unwinding.below ∙ ap (below_scope label) stack_popped ∙ passes;
  }

  pub unwinds_found : below_scope label (frame_in next.links.items frame ∷ (configuration_of next).stack) ≡ Some (configuration_of next).stack
      → Unwinds label before next true
  unwinds_found found = record {
    links = pops.links ∙ unwinding.links;
    cells = pops.cells ∙ unwinding.cells;
    program = pops.program ∙ unwinding.program;
    labels = pops.labels ∙ unwinding.labels;
    focus = pops.focus ∙ unwinding.focus;
    linked = left_linked;
    len = omega (arith, unwinding.len, pops.len);
    capacity = pops.capacity ∙ unwinding.capacity;
    below = unwinding.below ∙ ap (below_scope label) stack_popped ∙ found;
  }

-- a scope of the label is found, and one of another is not
pub scope_here : (label other : ℕ) (k : Stack) → other ≡ label → below_scope label (ScopeFrame other ∷ k) ≡ Some k
scope_here label other k same = cond-true (nat_eq other label) (Some k) (below_scope label k) (eq-eqb other label same)

pub scope_elsewhere : (label other : ℕ) (k : Stack) → (other ≡ label → ⊥) → below_scope label (ScopeFrame other ∷ k) ≡ below_scope label k
scope_elsewhere label other k ne = cond-false (nat_eq other label) (Some k) (below_scope label k) (ne_eqb other label ne)
